-- The reading of a whole file, line by line.
use Rattle.std.proofs.Common.{◌≡◌, ℕ, ◌+◌, ◌≤◌, Bool, true, false, List, [], ◌∷◌, ◌++◌, length, Option, Some, None, Result, Ok, Err, IfErr, IfSome, IsErrAnd, refl, ap, sym, subst, ◌∙◌, arith}
use Rattle.std.proofs.lemmas.List.{length-append}
use Rattle.std.specs.Io.KnownBytes.{IsAtEnd, prepend_known}
use Rattle.files.specs.{EndHolds, Fault, FaultKind, Given, GoesToNext, IsTooLong, LineFault, LineState, TakesLine, TakesNext, Reported, UnlessMemory, at_line, coming, lines, unless_ended, ◌>>=◌}
use Rattle.files.specs.declared.faults.Fault.TheVariants as fault
use Rattle.files.specs.declared.faults.FaultKind.TheVariants.{NotFirst, TooLong}
use Rattle.trace.specs.{TraceEntry, TraceSetup}
use Rattle.trace_file.specs.TraceFiles.{TraceProgress, TraceRead, cleared, entry_in, line_read, lines_read, number_in, rest_read, said_by, trace_said}
use Rattle.trace_engine.specs.Reports.{IsOfTrace, IsTraceFault}
use Rattle.trace_engine.specs.Trials.{GoesOn, ObservesAt, IsObserved, IsReadUpTo, count_by}
use Rattle.trace_engine.proofs.LineReads.{few_in, long_read}
use Rattle.trace_engine.proofs.Trials.{unless_then}

-- the result of reading so far
abbrev pub read_so_far : Option TraceProgress → List TraceEntry → List ℕ → TraceRead
read_so_far before entries numbers = record { last = before; entries = entries; numbers = numbers }

-- reading these lines reads the first line, and then the rest
line_then : (n : ℕ) (text line rest : List ℕ) (before now : Option TraceProgress) (entries : List TraceEntry) (numbers : List ℕ) → TakesLine text line rest → line_read line before ≡ Ok now →
    rest_read n text (read_so_far before entries numbers) ≡ rest_read (n + 1) rest (read_so_far (cleared now) (entries ++ entry_in now) (numbers ++ number_in n now))
line_then n text line rest before now entries numbers takes read =
    ap (λ ls. lines_read n ls (read_so_far before entries numbers) >>= said_by (n + length ls)) takes
    ∙ ap (λ r. (at_line n r >>= λ now. lines_read (n + 1) (lines rest) (read_so_far (cleared now) (entries ++ entry_in now) (numbers ++ number_in n now))) >>= said_by (n + length (line ∷ lines rest))) read
    ∙ ap (λ m. lines_read (n + 1) (lines rest) (read_so_far (cleared now) (entries ++ entry_in now) (numbers ++ number_in n now)) >>= said_by m) {y = n + 1 + length (lines rest)} (omega arith)

-- reading stops at the first line if that has a fault
line_fault : (n : ℕ) (text line : List ℕ) (others : List (List ℕ)) (before : Option TraceProgress) (entries : List TraceEntry) (numbers : List ℕ) (kind : FaultKind) → lines text ≡ line ∷ others → line_read line before ≡ Err kind →
    rest_read n text (read_so_far before entries numbers) ≡ Err (record { line = n; kind = kind })
line_fault n text line others before entries numbers kind is fault =
    ap (λ ls. lines_read n ls (read_so_far before entries numbers) >>= said_by (n + length ls)) is
    ∙ ap (λ r. (at_line n r >>= λ now. lines_read (n + 1) others (read_so_far (cleared now) (entries ++ entry_in now) (numbers ++ number_in n now))) >>= said_by (n + length (line ∷ others))) fault

-- reading the rest, after `taken` lines, gives the same result as reading the whole text
abbrev pub GoesOnTo : Option TraceProgress → List TraceEntry → List ℕ → ℕ → List ℕ → List ℕ → Type 0
GoesOnTo before entries numbers taken text remaining = rest_read (taken + 1) remaining (read_so_far before entries numbers) ≡ trace_said text

-- two relations between texts, each known or not, compose to a third
pub reported_on : (a b c : Option (List ℕ)) (P Q R : List ℕ → List ℕ → Type 0) → ((x y z : List ℕ) → P x y → Q y z → R x z) → Reported a b P → Reported b c Q → Reported a c R
reported_on None b c P Q R then first next = tt
reported_on (Some x) None c P Q R then first next = absurd first
reported_on (Some x) (Some y) None P Q R then first next = absurd next
reported_on (Some x) (Some y) (Some z) P Q R then first next = then x y z first next

-- a fact of the whole input, from a fact of the rest of it
of_input : (to_come rest : Option (List ℕ)) (P : List ℕ → List ℕ → Type 0) (Q R : List ℕ → Type 0) → ((x y : List ℕ) → P x y → Q y → R x) → Reported to_come rest P → IfSome rest Q → IfSome to_come R
of_input None rest P Q R then reported is = tt
of_input (Some x) None P Q R then reported is = absurd reported
of_input (Some x) (Some y) P Q R then reported is = then x y reported is

-- no byte remains
at_end : (mid : Option (List ℕ)) → IsAtEnd mid → IfSome mid (λ y. y ≡ [])
at_end None is = tt
at_end (Some y) is = is

-- no end was reported yet
pub none_reported : (ahead : Given) (to_come : Option (List ℕ)) → ahead.ended ≡ false → EndHolds ahead to_come
none_reported ahead to_come open_yet reported = let both : false ≡ true = sym open_yet ∙ reported in absurd (cc)

-- one more line
pub goes_on : (before now : Option TraceProgress) (entries : List TraceEntry) (numbers : List ℕ) (taken taken' : ℕ) (line x y z : List ℕ) → taken' ≡ taken + 1 → line_read line before ≡ Ok now → GoesOnTo before entries numbers taken x y → TakesLine y line z →
    GoesOnTo (cleared now) (entries ++ entry_in now) (numbers ++ number_in taken' now) taken' x z
goes_on before now entries numbers taken taken' line x y z one says so_far takes =
    subst (λ n. GoesOnTo (cleared now) (entries ++ entry_in now) (numbers ++ number_in n now) n x z) (sym one)
    (sym (line_then (taken + 1) y line z before now entries numbers takes says) ∙ so_far)

-- before the first line
goes_on_at_first : (to_come : Option (List ℕ)) (taken : ℕ) → taken ≡ 0 → Reported to_come (prepend_known [] to_come) (GoesOnTo None [] [] taken)
goes_on_at_first None taken none = tt
goes_on_at_first (Some text) taken none = subst (λ n. GoesOnTo None [] [] n text text) (sym none) refl

-- no line remains
ended : (before : Option TraceProgress) (entries : List TraceEntry) (numbers : List ℕ) (taken : ℕ) (x y : List ℕ) → GoesOnTo before entries numbers taken x y → y ≡ [] → rest_read (taken + 1) [] (read_so_far before entries numbers) ≡ trace_said x
ended before entries numbers taken x y so_far none = subst (λ y. GoesOnTo before entries numbers taken x y) none so_far

module _ {H : Type 0} (HasObserved : H → TraceSetup → List TraceEntry → List ℕ → Type 0) where
  -- the part that was read and observed; reading the rest gives the same result as reading the whole text
  pub record Onwards (to_come rest : Option (List ℕ)) (taken : ℕ) (reader : Option TraceProgress) (reporter : Option H) : Type 0 where
    pub before : Option TraceProgress
    pub entries : List TraceEntry
    pub numbers : List ℕ
    pub read_up_to : IsReadUpTo HasObserved reader reporter before entries numbers
    pub few : length entries ≤ taken
    pub goes_on : Reported to_come rest (GoesOnTo before entries numbers taken)

  -- the number of observed entries is the number of entries read
  observed_count : (count : H → ℕ) → ((h : H) (s : TraceSetup) (entries : List TraceEntry) (numbers : List ℕ) → HasObserved h s entries numbers → count h ≡ length entries) → (h : Option H) (before : Option TraceProgress) (entries : List TraceEntry) (numbers : List ℕ) → ObservesAt HasObserved h before entries numbers → count_by count h ≡ length entries
  observed_count count counts None before entries numbers observed = sym (ap (λ (l : List TraceEntry). length l) observed.0)
  observed_count count counts (Some h) None entries numbers observed = absurd observed
  observed_count count counts (Some h) (Some p) entries numbers observed = counts h p.setup entries numbers observed.1

  pub onwards_few : (count : H → ℕ) → ((h : H) (s : TraceSetup) (entries : List TraceEntry) (numbers : List ℕ) → HasObserved h s entries numbers → count h ≡ length entries) → (to_come rest : Option (List ℕ)) (taken : ℕ) (reader : Option TraceProgress) (h : Option H) → Onwards to_come rest taken reader h → count_by count h ≤ taken
  onwards_few count counts to_come rest taken reader h u =
      let few : length u.entries ≤ taken = u.few in let same = observed_count count counts h u.before u.entries u.numbers u.read_up_to.observed in omega (arith, few, same)

  -- before the first line, when no byte has arrived
  pub onwards_start : (to_come : Option (List ℕ)) (ahead : Given) (taken : ℕ) (reader : Option TraceProgress) (h : Option H) → ahead.bytes ≡ [] → ahead.ended ≡ false → taken ≡ 0 → IsReadUpTo HasObserved reader h None [] [] → Onwards to_come (coming ahead to_come) taken reader h
  onwards_start to_come ahead taken reader h fresh open_yet none read_up_to =
      subst (λ (l : List ℕ). Onwards to_come (prepend_known l (unless_ended ahead.ended to_come)) taken reader h) (sym fresh)
      (subst (λ (b : Bool). Onwards to_come (prepend_known [] (unless_ended b to_come)) taken reader h) (sym open_yet)
      (record { before = None; entries = []; numbers = []; read_up_to = read_up_to; few = omega arith; goes_on = goes_on_at_first to_come taken none }))

  -- one more line
  abbrev pub onwards_on : (to_come mid rest : Option (List ℕ)) (l l' : LineState) (reader reader' : Option TraceProgress) (h h' : Option H) (u : Onwards to_come mid l.taken reader h) → TakesNext l l' mid rest →
      GoesOn HasObserved l'.taken l'.line u.before reader' h' u.entries u.numbers → Onwards to_come rest l'.taken reader' h'
  onwards_on to_come mid rest l l' reader reader' h h' u takes on = record {
    before = cleared on.now;
    entries = u.entries ++ entry_in on.now;
    numbers = u.numbers ++ number_in l'.taken on.now;
    read_up_to = on.read_up_to;
    few = let had : length u.entries ≤ l.taken = u.few in let one = few_in on.now in let taken : l'.taken ≡ l.taken + 1 = takes.taken in omega (arith, had, one, taken, length-append u.entries (entry_in on.now));
    goes_on = reported_on to_come mid rest (GoesOnTo u.before u.entries u.numbers l.taken) (λ text remaining. TakesLine text l'.line remaining) (GoesOnTo (cleared on.now) (u.entries ++ entry_in on.now) (u.numbers ++ number_in l'.taken on.now) l'.taken)
        (λ x y z so_far line. goes_on u.before on.now u.entries u.numbers l.taken l'.taken l'.line x y z takes.taken on.says so_far line) u.goes_on takes.line;
  }

  -- a line with a fault
  pub onwards_fault : (to_come mid rest : Option (List ℕ)) (l l' : LineState) (reader : Option TraceProgress) (h : Option H) (kind : FaultKind) (u : Onwards to_come mid l.taken reader h) → TakesNext l l' mid rest →
      UnlessMemory kind (line_read l'.line u.before ≡ Err kind) → IfSome to_come (λ text. UnlessMemory kind (trace_said text ≡ Err (record { line = l'.taken; kind = kind })))
  onwards_fault to_come mid rest l l' reader h kind u takes fault =
      of_input to_come mid (GoesOnTo u.before u.entries u.numbers l.taken) (λ y. (z : List ℕ) × TakesLine y l'.line z) (λ text. UnlessMemory kind (trace_said text ≡ Err (record { line = l'.taken; kind = kind }))) (λ x y so_far line. unless_then kind
      (λ (is : line_read l'.line u.before ≡ Err kind). sym so_far ∙ line_fault (l.taken + 1) y l'.line (lines line.0) u.before u.entries u.numbers kind line.1 is ∙ ap (λ n. Err (record { line = n; kind = kind })) (sym takes.taken)) fault)
      u.goes_on (some_rest mid rest takes.line)
    where
      some_rest : (mid rest : Option (List ℕ)) → Reported mid rest (λ text remaining. TakesLine text l'.line remaining) → IfSome mid (λ y. (z : List ℕ) × TakesLine y l'.line z)
      some_rest None rest reported = tt
      some_rest (Some y) None reported = absurd reported
      some_rest (Some y) (Some z) reported = (z, reported)

  -- a line that is too long
  onwards_long : (to_come mid : Option (List ℕ)) (taken : ℕ) (reader : Option TraceProgress) (h : Option H) (u : Onwards to_come mid taken reader h) → IfSome mid IsTooLong → IfSome to_come (λ text. trace_said text ≡ Err (record { line = taken + 1; kind = TooLong }))
  onwards_long to_come mid taken reader h u long =
      of_input to_come mid (GoesOnTo u.before u.entries u.numbers taken) IsTooLong (λ text. trace_said text ≡ Err (record { line = taken + 1; kind = TooLong }))
      (λ x y so_far is. sym so_far ∙ line_fault (taken + 1) y is.line is.others u.before u.entries u.numbers TooLong is.is (long_read is.line u.before is.long)) u.goes_on long

  -- no further line, because of a fault
  pub next_fault : (to_come mid rest : Option (List ℕ)) (l l' : LineState) (reader : Option TraceProgress) (h : Option H) (f : Fault) (u : Onwards to_come mid l.taken reader h) → GoesToNext (Err f) l l' mid rest → IsTraceFault f to_come
  next_fault to_come mid rest l l' reader h (fault.Line f) u goes = subst (λ (f : LineFault). IsTraceFault (fault.Line f) to_come) (sym goes.0) (onwards_long to_come mid l.taken reader h u goes.1)
  next_fault to_come mid rest l l' reader h fault.Read u goes = tt
  next_fault to_come mid rest l l' reader h fault.Memory u goes = tt
  next_fault to_come mid rest l l' reader h fault.Write u goes = absurd goes

  -- all lines were skipped
  pub onwards_none : (to_come mid : Option (List ℕ)) (taken : ℕ) (reader : Option TraceProgress) (h : Option H) (u : Onwards to_come mid taken reader h) → IsObserved HasObserved None u.before u.entries u.numbers → IsAtEnd mid →
      IfSome to_come (λ text. trace_said text ≡ Err (record { line = taken + 1; kind = NotFirst }))
  onwards_none to_come mid taken reader h u none end =
      of_input to_come mid (GoesOnTo u.before u.entries u.numbers taken) (λ y. y ≡ []) (λ text. trace_said text ≡ Err (record { line = taken + 1; kind = NotFirst }))
      (λ x y so_far is. sym (ended u.before u.entries u.numbers taken x y so_far is) ∙ ap (λ b. rest_read (taken + 1) [] (read_so_far b u.entries u.numbers)) none ∙ ap (λ n. Err (record { line = n; kind = NotFirst })) {y = taken + 1} (omega arith)) u.goes_on (at_end mid end)

  -- a fact of the whole trace that the text means
  pub onwards_all : (P : TraceSetup → List TraceEntry → List ℕ → Type 0) (to_come mid : Option (List ℕ)) (taken : ℕ) (reader : Option TraceProgress) (h : Option H) (u : Onwards to_come mid taken reader h) (p : TraceProgress) → u.before ≡ Some p →
      P p.setup u.entries u.numbers → IsAtEnd mid → IfSome to_come (IsOfTrace P)
  onwards_all P to_come mid taken reader h u p read holds end =
      of_input to_come mid (GoesOnTo u.before u.entries u.numbers taken) (λ y. y ≡ []) (IsOfTrace P) (λ x y so_far is. record {
        said = record { setup = p.setup; entries = u.entries; numbers = u.numbers };
        says = sym (ended u.before u.entries u.numbers taken x y so_far is) ∙ ap (λ b. rest_read (taken + 1) [] (read_so_far b u.entries u.numbers)) read;
        holds = holds;
      }) u.goes_on (at_end mid end)

-- a fact of the fault that is returned
pub if_err : {A : Type 0} (r : Result A Fault) (f : Fault) (P : Fault → Type 0) → IsErrAnd r (λ e. e ≡ f) → P f → IfErr r P
if_err (Ok x) f P is holds = tt
if_err (Err e) f P is holds = subst P (sym is) holds
