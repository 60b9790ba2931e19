-- Reading a whole file, line by line.
use Rattle.std.proofs.Common.{◌≡◌, ℕ, ◌+◌, ◌≤◌, Bool, true, false, List, [], ◌∷◌, ◌++◌, length, Option, Some, None, Result, Ok, Err, IfErr, IfSome, IsErrAnd, refl, ap, sym, subst, ◌∙◌, append_assoc, append-nil, arith}
use Rattle.std.proofs.lemmas.List.{length-append}
use Rattle.std.specs.Io.KnownBytes.{IsAtEnd, prepend_known}
use Rattle.plain_store.specs.{Setup}
use Rattle.files.specs.{EndHolds, Fault, FaultKind, Given, GoesToNext, IsTooLong, LineFault, LineState, TakesLine, TakesNext, Reported, UnlessMemory, at_line, coming, lines, unless_ended, ◌>>=◌}
use Rattle.files.specs.declared.faults.Fault.TheVariants as fault
use Rattle.files.specs.declared.faults.FaultKind.TheVariants.{NotFirst, TooLong}
use Rattle.model.specs.{Entry}
use Rattle.record_file.specs.{Progress, cleared, entry_in, line_read, lines_read, record_of, rest_read, said_by}
use Rattle.judge.specs.{IsInputFault, IsOfRecord, number_in, numbers_from, numbers_of}
use Rattle.judge.specs.Trials.{GoesOn, ObservesAt, IsObserved, Corresponds, count_in}
use Rattle.judge.proofs.Lines.{few_in, long_read}
use Rattle.judge.proofs.Trials.{unless_then}

-- One line.

-- the line is read, and then the rest
pub line_then : (n : ℕ) (text line rest : List ℕ) (before now : Option Progress) (entries : List Entry) → TakesLine text line rest → line_read line before ≡ Ok now → rest_read n text before entries ≡ rest_read (n + 1) rest (cleared now) (entries ++ entry_in now)
line_then n text line rest before now entries takes read =
    ap (λ ls. lines_read n ls before entries >>= said_by (n + length ls)) takes
    ∙ ap (λ r. (at_line n r >>= λ now. lines_read (n + 1) (lines rest) (cleared now) (entries ++ entry_in now)) >>= said_by (n + length (line ∷ lines rest))) read
    ∙ ap (λ m. lines_read (n + 1) (lines rest) (cleared now) (entries ++ entry_in now) >>= said_by m) {y = n + 1 + length (lines rest)} (omega arith)

-- the numbers of the line and of the rest
number_then : (n : ℕ) (text line rest numbers : List ℕ) → TakesLine text line rest → numbers ++ numbers_from n (lines text) ≡ (numbers ++ number_in n line) ++ numbers_from (n + 1) (lines rest)
number_then n text line rest numbers takes = ap (λ ls. numbers ++ numbers_from n ls) takes ∙ sym (append_assoc numbers (number_in n line) (numbers_from (n + 1) (lines rest)))

-- the line has a fault
pub line_fault : (n : ℕ) (text line : List ℕ) (others : List (List ℕ)) (before : Option Progress) (entries : List Entry) (kind : FaultKind) → lines text ≡ line ∷ others → line_read line before ≡ Err kind → rest_read n text before entries ≡ Err (record { line = n; kind = kind })
line_fault n text line others before entries kind is fault =
    ap (λ ls. lines_read n ls before entries >>= said_by (n + length ls)) is
    ∙ ap (λ r. (at_line n r >>= λ now. lines_read (n + 1) others (cleared now) (entries ++ entry_in now)) >>= said_by (n + length (line ∷ others))) fault

-- All lines so far.

-- after this number of lines, reading the rest gives what reading the whole text gives, and its lines have the remaining numbers
pub record GoesOnTo (before : Option Progress) (entries : List Entry) (numbers : List ℕ) (taken : ℕ) (text remaining : List ℕ) : Type 0 where
  pub reads : rest_read (taken + 1) remaining before entries ≡ record_of text
  pub counts : numbers ++ numbers_from (taken + 1) (lines remaining) ≡ numbers_of text

-- facts about three moments, from those about two pairs of them
pub reported_on : (a b c : Option (List ℕ)) (P Q R : List ℕ → List ℕ → Type 0) → ((x y z : List ℕ) → P x y → Q y z → R x z) → Reported a b P → Reported b c Q → Reported a c R
reported_on None b c P Q R then first next = tt
reported_on (Some x) None c P Q R then first next = absurd first
reported_on (Some x) (Some y) None P Q R then first next = absurd next
reported_on (Some x) (Some y) (Some z) P Q R then first next = then x y z first next

-- a fact about the whole input, from one about its rest
pub of_input : (to_come rest : Option (List ℕ)) (P : List ℕ → List ℕ → Type 0) (Q R : List ℕ → Type 0) → ((x y : List ℕ) → P x y → Q y → R x) → Reported to_come rest P → IfSome rest Q → IfSome to_come R
of_input None rest P Q R then reported is = tt
of_input (Some x) None P Q R then reported is = absurd reported
of_input (Some x) (Some y) P Q R then reported is = then x y reported is

-- no bytes remain
pub at_end : (mid : Option (List ℕ)) → IsAtEnd mid → IfSome mid (λ y. y ≡ [])
at_end None is = tt
at_end (Some y) is = is

-- the end was not reported
pub none_reported : (ahead : Given) (to_come : Option (List ℕ)) → ahead.ended ≡ false → EndHolds ahead to_come
none_reported ahead to_come open_yet reported = let both : false ≡ true = sym open_yet ∙ reported in absurd (cc)

-- one more line
pub goes_on : (before now : Option Progress) (entries : List Entry) (numbers : List ℕ) (taken taken' : ℕ) (line x y z : List ℕ) → taken' ≡ taken + 1 → line_read line before ≡ Ok now → GoesOnTo before entries numbers taken x y → TakesLine y line z →
    GoesOnTo (cleared now) (entries ++ entry_in now) (numbers ++ number_in taken' line) taken' x z
goes_on before now entries numbers taken taken' line x y z one says so_far takes =
    subst (λ n. GoesOnTo (cleared now) (entries ++ entry_in now) (numbers ++ number_in n line) n x z) (sym one) (record {
      reads = sym (line_then (taken + 1) y line z before now entries takes says) ∙ so_far.reads;
      counts = sym (number_then (taken + 1) y line z numbers takes) ∙ so_far.counts;
    })

-- no line yet
pub goes_on_at_first : (to_come : Option (List ℕ)) (taken : ℕ) → taken ≡ 0 → Reported to_come (prepend_known [] to_come) (GoesOnTo None [] [] taken)
goes_on_at_first None taken none = tt
goes_on_at_first (Some text) taken none = subst (λ n. GoesOnTo None [] [] n text text) (sym none) (record { reads = refl; counts = refl })

-- no line remains
ended : (before : Option Progress) (entries : List Entry) (numbers : List ℕ) (taken : ℕ) (x y : List ℕ) → GoesOnTo before entries numbers taken x y → y ≡ [] → (rest_read (taken + 1) [] before entries ≡ record_of x) × (numbers ≡ numbers_of x)
ended before entries numbers taken x y so_far none =
    let to : GoesOnTo before entries numbers taken x [] = subst (λ y. GoesOnTo before entries numbers taken x y) none so_far in
    (to.reads, sym (append-nil numbers) ∙ to.counts)

module _ {H : Type 0} (HasObserved : H → Setup → List Entry → List ℕ → Type 0) where
  -- the state after some lines; reading the rest gives what reading the whole text gives
  pub record Onwards (to_come rest : Option (List ℕ)) (taken : ℕ) (reader : Option Progress) (observer : Option H) : Type 0 where
    pub before : Option Progress
    pub entries : List Entry
    pub numbers : List ℕ
    pub corresponds : Corresponds HasObserved reader observer before entries numbers
    pub few : length entries ≤ taken
    pub goes_on : Reported to_come rest (GoesOnTo before entries numbers taken)

  -- the number of entries observed is that of the entries read
  observed_count : (count : H → ℕ) → ((h : H) (s : Setup) (entries : List Entry) (numbers : List ℕ) → HasObserved h s entries numbers → count h ≡ length entries) → (j : Option H) (before : Option Progress) (entries : List Entry) (numbers : List ℕ) → ObservesAt HasObserved j before entries numbers → count_in count j ≡ length entries
  observed_count count counts None before entries numbers observed = sym (ap length observed.0)
  observed_count count counts (Some j) None entries numbers observed = absurd observed
  observed_count count counts (Some j) (Some p) entries numbers observed = counts j p.head.setup entries numbers observed.1

  pub onwards_few : (count : H → ℕ) → ((h : H) (s : Setup) (entries : List Entry) (numbers : List ℕ) → HasObserved h s entries numbers → count h ≡ length entries) → (to_come rest : Option (List ℕ)) (taken : ℕ) (reader : Option Progress) (j : Option H) → Onwards to_come rest taken reader j → count_in count j ≤ taken
  onwards_few count counts to_come rest taken reader j u =
      let few : length u.entries ≤ taken = u.few in let same = observed_count count counts j u.before u.entries u.numbers u.corresponds.observed in omega (arith, few, same)

  -- before the first line no bytes have come
  pub onwards_start : (to_come : Option (List ℕ)) (ahead : Given) (taken : ℕ) (reader : Option Progress) (j : Option H) → ahead.bytes ≡ [] → ahead.ended ≡ false → taken ≡ 0 → Corresponds HasObserved reader j None [] [] → Onwards to_come (coming ahead to_come) taken reader j
  onwards_start to_come ahead taken reader j fresh open_yet none corresponds =
      subst (λ (l : List ℕ). Onwards to_come (prepend_known l (unless_ended ahead.ended to_come)) taken reader j) (sym fresh)
      (subst (λ (b : Bool). Onwards to_come (prepend_known [] (unless_ended b to_come)) taken reader j) (sym open_yet)
      (record { before = None; entries = []; numbers = []; corresponds = corresponds; few = omega arith; goes_on = goes_on_at_first to_come taken none }))

  -- one more line
  abbrev pub onwards_on : (to_come mid rest : Option (List ℕ)) (l l' : LineState) (reader reader' : Option Progress) (j j' : Option H) (u : Onwards to_come mid l.taken reader j) → TakesNext l l' mid rest → GoesOn HasObserved l'.taken l'.line u.before reader' j' u.entries u.numbers → Onwards to_come rest l'.taken reader' j'
  onwards_on to_come mid rest l l' reader reader' j j' u takes on = record {
    before = cleared on.now;
    entries = u.entries ++ entry_in on.now;
    numbers = u.numbers ++ number_in l'.taken l'.line;
    corresponds = on.corresponds;
    few = let had : length u.entries ≤ l.taken = u.few in let one = few_in on.now in let taken : l'.taken ≡ l.taken + 1 = takes.taken in omega (arith, had, one, taken, length-append u.entries (entry_in on.now));
    goes_on = reported_on to_come mid rest (GoesOnTo u.before u.entries u.numbers l.taken) (λ text remaining. TakesLine text l'.line remaining) (GoesOnTo (cleared on.now) (u.entries ++ entry_in on.now) (u.numbers ++ number_in l'.taken l'.line) l'.taken)
        (λ x y z so_far line. goes_on u.before on.now u.entries u.numbers l.taken l'.taken l'.line x y z takes.taken on.says so_far line) u.goes_on takes.line;
  }

  -- The end.

  -- a line with a fault
  pub onwards_fault : (to_come mid rest : Option (List ℕ)) (l l' : LineState) (reader : Option Progress) (j : Option H) (kind : FaultKind) (u : Onwards to_come mid l.taken reader j) → TakesNext l l' mid rest → UnlessMemory kind (line_read l'.line u.before ≡ Err kind) →
      IfSome to_come (λ text. UnlessMemory kind (record_of text ≡ Err (record { line = l'.taken; kind = kind })))
  onwards_fault to_come mid rest l l' reader j kind u takes fault =
      of_input to_come mid (GoesOnTo u.before u.entries u.numbers l.taken) (λ y. (z : List ℕ) × TakesLine y l'.line z) (λ text. UnlessMemory kind (record_of text ≡ Err (record { line = l'.taken; kind = kind }))) (λ x y so_far line. unless_then kind
      (λ (is : line_read l'.line u.before ≡ Err kind). sym so_far.reads ∙ line_fault (l.taken + 1) y l'.line (lines line.0) u.before u.entries kind line.1 is ∙ ap (λ n. Err (record { line = n; kind = kind })) (sym takes.taken)) fault)
      u.goes_on (some_rest mid rest takes.line)
    where
      some_rest : (mid rest : Option (List ℕ)) → Reported mid rest (λ text remaining. TakesLine text l'.line remaining) → IfSome mid (λ y. (z : List ℕ) × TakesLine y l'.line z)
      some_rest None rest reported = tt
      some_rest (Some y) None reported = absurd reported
      some_rest (Some y) (Some z) reported = (z, reported)

  -- a line that is too long
  onwards_long : (to_come mid : Option (List ℕ)) (taken : ℕ) (reader : Option Progress) (j : Option H) (u : Onwards to_come mid taken reader j) → IfSome mid IsTooLong → IfSome to_come (λ text. record_of text ≡ Err (record { line = taken + 1; kind = TooLong }))
  onwards_long to_come mid taken reader j u long =
      of_input to_come mid (GoesOnTo u.before u.entries u.numbers taken) IsTooLong (λ text. record_of text ≡ Err (record { line = taken + 1; kind = TooLong })) (λ x y so_far is. sym so_far.reads ∙ line_fault (taken + 1) y is.line is.others u.before u.entries TooLong is.is (long_read is.line u.before is.long)) u.goes_on long

  -- no further line is read, because of a fault
  pub next_fault : (to_come mid rest : Option (List ℕ)) (l l' : LineState) (reader : Option Progress) (j : Option H) (f : Fault) (u : Onwards to_come mid l.taken reader j) → GoesToNext (Err f) l l' mid rest → IsInputFault f to_come
  next_fault to_come mid rest l l' reader j (fault.Line f) u goes = subst (λ (f : LineFault). IsInputFault (fault.Line f) to_come) (sym goes.0) (onwards_long to_come mid l.taken reader j u goes.1)
  next_fault to_come mid rest l l' reader j fault.Read u goes = tt
  next_fault to_come mid rest l l' reader j fault.Memory u goes = tt
  next_fault to_come mid rest l l' reader j fault.Write u goes = absurd goes

  -- all lines were skipped
  pub onwards_none : (to_come mid : Option (List ℕ)) (taken : ℕ) (reader : Option Progress) (j : Option H) (u : Onwards to_come mid taken reader j) → IsObserved HasObserved None u.before u.entries u.numbers → IsAtEnd mid → IfSome to_come (λ text. record_of text ≡ Err (record { line = taken + 1; kind = NotFirst }))
  onwards_none to_come mid taken reader j u none end =
      of_input to_come mid (GoesOnTo u.before u.entries u.numbers taken) (λ y. y ≡ []) (λ text. record_of text ≡ Err (record { line = taken + 1; kind = NotFirst }))
      (λ x y so_far is. sym (ended u.before u.entries u.numbers taken x y so_far is).0 ∙ ap (λ b. rest_read (taken + 1) [] b u.entries) none ∙ ap (λ n. Err (record { line = n; kind = NotFirst })) {y = taken + 1} (omega arith)) u.goes_on (at_end mid end)

  -- a fact about all entries of the text
  pub onwards_all : (P : Setup → List Entry → List ℕ → Type 0) (to_come mid : Option (List ℕ)) (taken : ℕ) (reader : Option Progress) (j : Option H) (u : Onwards to_come mid taken reader j) (p : Progress) → u.before ≡ Some p → P p.head.setup u.entries u.numbers → IsAtEnd mid → IfSome to_come (IsOfRecord P)
  onwards_all P to_come mid taken reader j u p read holds end =
      of_input to_come mid (GoesOnTo u.before u.entries u.numbers taken) (λ y. y ≡ []) (IsOfRecord P) (λ x y so_far is.
      let to = ended u.before u.entries u.numbers taken x y so_far is in record {
        said = record { setup = p.head.setup; entries = u.entries };
        says = sym to.0 ∙ ap (λ b. rest_read (taken + 1) [] b u.entries) read;
        holds = subst (λ (l : List ℕ). P p.head.setup u.entries l) to.1 holds;
      }) u.goes_on (at_end mid end)

-- a fact about the fault that is returned
pub if_err : {A : Type 0} (r : Result A Fault) (f : Fault) (P : Fault → Type 0) → IsErrAnd r (λ e. e ≡ f) → P f → IfErr r P
if_err (Ok x) f P is holds = tt
if_err (Err e) f P is holds = subst P (sym is) holds
