-- The first entries of a record are observed, and the others are passed over.
use Rattle.std.proofs.Common.{◌≡◌, ℕ, ◌+◌, ◌<◌, ◌≤◌, true, false, List, [], ◌∷◌, ◌++◌, length, take, IsSome, Option, Some, None, Result, Ok, Err, refl, ap, sym, subst, ◌∙◌, arith, inl, inr}
use Rattle.std.specs.Prelude.{IfSome, is_some}
use Rattle.std.specs.Option.{option_to_list}
use Rattle.std.proofs.Math.Seq.{take-nil}
use Rattle.std.proofs.lemmas.Bool.{cases_lt}
use Rattle.std.proofs.lemmas.List.{length-append, length-take-le, take-append-le, take_all}
use Rattle.plain_store.specs.{Setup}
use Rattle.files.specs.{FaultKind, words_of, words_read}
use Rattle.files.specs.declared.faults.FaultKind.TheVariants.{TooLong}
use Rattle.model.specs.{Access, Entry}
use Rattle.record_file.specs.{Progress, cleared, entry_in, entry_words, is_entry, line_read, record_grammar, step_entry}
use Rattle.record_file.specs.scenario.{spaced}
use Rattle.judge.specs.{number_in}
use Rattle.judge.specs.Firsts.{HasObservedFirsts, ReportsFirsts}
use Rattle.judge.specs.Trials.{GoesOn, Observes, ObservesAt, IsObserved, LineEnds, Corresponds, count_in}
use Rattle.judge.proofs.Ends.{Onwards}
use Rattle.judge.proofs.Trials.{ends_stepped}
use Rattle.judge.proofs.Lines.{few_in, long_read, number_of_none, number_of_some, short_read}

-- Fewer than n items are taken, so all are.
pub under : {A : Type 0} (n : ℕ) (xs : List A) → length (take n xs) < n → length xs < n
under n xs few = elim (cases_lt (length xs) n) [
  | inl less ↦ less
  | inr more ↦ let all = length-take-le n xs more in absurd (omega (arith, all, few))
]

-- n items are taken, so no more are.
pub enough : {A : Type 0} (n : ℕ) (xs : List A) → n ≤ length (take n xs) → n ≤ length xs
enough n xs full = elim (cases_lt (length xs) n) [
  | inl less ↦ let all = ap length (take_all n xs (omega arith)) in omega (arith, all, full)
  | inr more ↦ more
]

-- there are as many numbers as entries, and one more of each
pub more_counted : (entries : List Entry) (numbers : List ℕ) (e : Entry) (m : ℕ) → length numbers ≡ length entries → length (numbers ++ m ∷ []) ≡ length (entries ++ e ∷ [])
more_counted entries numbers e m same = length-append numbers (m ∷ []) ∙ ap (λ k. k + 1) same ∙ sym (length-append entries (e ∷ []))

-- a line has a number exactly if it is an entry
as_many : (n : ℕ) (line : List ℕ) (before now : Option Progress) → line_read line before ≡ Ok now → cleared before ≡ before → length (number_in n line) ≡ length (entry_in now)
as_many n line before now says clear = elim (cases_lt 128 (length line)) [
  | inl long ↦ let no : Err TooLong ≡ Ok now = sym (long_read line before long) ∙ says in absurd (cc)
  | inr short ↦ by now (sym (short_read line before short) ∙ says)
]
  where
    of_entry : (p : Progress) (o : Option Entry) → p.entry ≡ o → words_read record_grammar (words_of line) before ≡ Ok (Some p) → length (number_in n line) ≡ length (option_to_list o)
    of_entry p None says read = ap length (number_of_none n line before (Some p) read clear (ap option_to_list says))
    of_entry p (Some e) says read = ap length (number_of_some n line before p e read clear says)

    by : (now : Option Progress) → words_read record_grammar (words_of line) before ≡ Ok now → length (number_in n line) ≡ length (entry_in now)
    by None read = ap length (number_of_none n line before None read clear refl)
    by (Some p) read = of_entry p p.entry refl read

module _ {H : Type 0} (HasObserved : H → Setup → List Entry → List ℕ → Type 0) where
  -- the observer of no entries has observed the first ones of none
  firsts_of_none : (limit : Option ℕ) (h : H) (s : Setup) → HasObserved h s [] [] → HasObservedFirsts limit HasObserved h s [] []
  firsts_of_none None h s observed = observed
  firsts_of_none (Some n) h s observed = (refl, none (take n []) (take n []) (take-nil n) (take-nil n))
    where
      none : (entries : List Entry) (numbers : List ℕ) → entries ≡ [] → numbers ≡ [] → HasObserved h s entries numbers
      none entries numbers empty unnumbered = subst (λ (l : List Entry). HasObserved h s l numbers) (sym empty) (subst (λ (l : List ℕ). HasObserved h s [] l) (sym unnumbered) observed)

  -- an observer that was created at the end has observed the first ones of no entries
  pub begun_at_end : (limit : Option ℕ) (h : H) (p : Progress) (before : Option Progress) (entries : List Entry) (numbers : List ℕ) → before ≡ Some p → (entries ≡ []) × (numbers ≡ []) → HasObserved h p.head.setup [] [] → IsObserved (HasObservedFirsts limit HasObserved) (Some h) before entries numbers
  begun_at_end limit h p before entries numbers read none observed = (
    p,
    read,
    subst (λ (l : List Entry). HasObservedFirsts limit HasObserved h p.head.setup l numbers) (sym none.0) (subst (λ (l : List ℕ). HasObservedFirsts limit HasObserved h p.head.setup [] l) (sym none.1) (firsts_of_none limit h p.head.setup observed)),
  )

  module _ (count : H → ℕ) (counts : (h : H) (s : Setup) (entries : List Entry) (numbers : List ℕ) → HasObserved h s entries numbers → count h ≡ length entries) (n : ℕ) where
    -- n entries were observed, so one more changes nothing.
    pub firsts_stay : (h : H) (s : Setup) (entries : List Entry) (numbers : List ℕ) (e : Entry) (m : ℕ) → n ≤ count h → HasObservedFirsts (Some n) HasObserved h s entries numbers → HasObservedFirsts (Some n) HasObserved h s (entries ++ e ∷ []) (numbers ++ m ∷ [])
    firsts_stay h s entries numbers e m full observed =
        let counted = counts h s (take n entries) (take n numbers) observed.1 in
        let long : n ≤ length entries = enough n entries (omega (arith, full, counted)) in
        let first : take n (entries ++ e ∷ []) ≡ take n entries = take-append-le n entries (e ∷ []) long in
        let second : take n (numbers ++ m ∷ []) ≡ take n numbers = take-append-le n numbers (m ∷ []) (omega (arith, long, observed.0)) in (
          more_counted entries numbers e m observed.0,
          subst (λ (l : List Entry). HasObserved h s l (take n (numbers ++ m ∷ []))) (sym first) (subst (λ (l : List ℕ). HasObserved h s (take n entries) l) (sym second) observed.1),
        )

    -- passing over an entry, if an observer exists or is created for it
    pub passes_by : (j : Option H) (s : Setup) (entries : List Entry) (numbers : List ℕ) (e : Entry) (m : ℕ) → n ≤ count_in count j → is_some j ≡ true → Observes (HasObservedFirsts (Some n) HasObserved) j s entries numbers → Observes (HasObservedFirsts (Some n) HasObserved) j s (entries ++ e ∷ []) (numbers ++ m ∷ [])
    passes_by None s entries numbers e m full some observed = absurd (cc)
    passes_by (Some h) s entries numbers e m full some observed = firsts_stay h s entries numbers e m full observed

    pub begins_by : (j : Option H) (j' : Option H) (s : Setup) (entries : List Entry) (numbers : List ℕ) (e : Entry) (m : ℕ) → n ≤ count_in count j → is_some j ≡ false → IsSome j' → Observes HasObserved j' s [] [] → Observes (HasObservedFirsts (Some n) HasObserved) j s entries numbers →
        Observes (HasObservedFirsts (Some n) HasObserved) j' s (entries ++ e ∷ []) (numbers ++ m ∷ [])
    begins_by (Some h) j' s entries numbers e m full none some begun observed = absurd (cc)
    begins_by None None s entries numbers e m full none some begun observed = absurd (cc)
    begins_by None (Some h) s entries numbers e m full none some begun observed =
        let zero : n ≡ 0 = omega (arith, full) in
        let at_zero : HasObservedFirsts (Some 0) HasObserved h s (entries ++ e ∷ []) (numbers ++ m ∷ []) = (more_counted entries numbers e m (ap length observed.1 ∙ sym (ap length observed.0)), begun) in
        subst (λ k. HasObservedFirsts (Some k) HasObserved h s (entries ++ e ∷ []) (numbers ++ m ∷ [])) (sym zero) at_zero

    -- a line as it is printed for a Step, which is passed over
    pub steps_by : (m : ℕ) (line : List ℕ) (reader : Option Progress) (j : Option H) (step : Option (ℕ × Access)) (before : Option Progress) (entries : List Entry) (numbers : List ℕ) → length line ≤ 128 → n ≤ count_in count j → is_some j ≡ true → is_some step ≡ true →
        IfSome step (λ (r : ℕ × Access). line ≡ spaced (entry_words (step_entry r.0 r.1))) → IfSome step (λ (r : ℕ × Access). is_entry (step_entry r.0 r.1) ≡ true) → Corresponds (HasObservedFirsts (Some n) HasObserved) reader j before entries numbers → GoesOn (HasObservedFirsts (Some n) HasObserved) m line before reader j entries numbers
    steps_by m line reader None step before entries numbers short full some is printed sound corresponds = absurd (cc)
    steps_by m line reader (Some h) None before entries numbers short full some is printed sound corresponds = absurd (cc)
    steps_by m line reader (Some h) (Some r) before entries numbers short full some is printed sound corresponds =
        ends_stepped (HasObservedFirsts (Some n) HasObserved) m line reader h h r.0 r.1 before entries numbers short printed sound (λ s es ns observed. firsts_stay h s es ns (step_entry r.0 r.1) m full observed) corresponds

    -- Fewer than n entries were observed, so all were.
    all_observed : (j : Option H) (before : Option Progress) (entries : List Entry) (numbers : List ℕ) → count_in count j < n → ObservesAt (HasObservedFirsts (Some n) HasObserved) j before entries numbers → (length entries < n) × (length numbers ≡ length entries) × ObservesAt HasObserved j before entries numbers
    all_observed None before entries numbers few observed = let none = ap length observed.0 in (omega (arith, few, none), ap length observed.1 ∙ sym none, observed)
    all_observed (Some h) None entries numbers few observed = absurd observed
    all_observed (Some h) (Some p) entries numbers few observed =
        let counted = counts h p.head.setup (take n entries) (take n numbers) observed.1.1 in
        let short : length entries < n = under n entries (omega (arith, few, counted)) in
        let first : take n entries ≡ entries = take_all n entries (omega (arith, short)) in
        let second : take n numbers ≡ numbers = take_all n numbers (omega (arith, short, observed.1.0)) in (
          short,
          observed.1.0,
          (observed.0, subst (λ (l : List Entry). HasObserved h p.head.setup l numbers) first (subst (λ (l : List ℕ). HasObserved h p.head.setup (take n entries) l) second observed.1.1)),
        )

    -- at most n observed entries are the first n
    then_firsts : (j : Option H) (before : Option Progress) (entries : List Entry) (numbers : List ℕ) → length entries ≤ n → length numbers ≡ length entries → ObservesAt HasObserved j before entries numbers → ObservesAt (HasObservedFirsts (Some n) HasObserved) j before entries numbers
    then_firsts None before entries numbers few counted observed = observed
    then_firsts (Some h) None entries numbers few counted observed = absurd observed
    then_firsts (Some h) (Some p) entries numbers few counted observed =
        let first : take n entries ≡ entries = take_all n entries few in
        let second : take n numbers ≡ numbers = take_all n numbers (omega (arith, few, counted)) in (
          observed.0,
          (counted, subst (λ (l : List Entry). HasObserved h p.head.setup l (take n numbers)) (sym first) (subst (λ (l : List ℕ). HasObserved h p.head.setup entries l) (sym second) observed.1)),
        )

    -- the state of reading, if fewer than n entries were observed
    pub all_correspond : (reader : Option Progress) (j : Option H) (before : Option Progress) (entries : List Entry) (numbers : List ℕ) → count_in count j < n → Corresponds (HasObservedFirsts (Some n) HasObserved) reader j before entries numbers → Corresponds HasObserved reader j before entries numbers
    all_correspond reader j before entries numbers few corresponds = record { read = corresponds.read; clear = corresponds.clear; observed = (all_observed j before entries numbers few corresponds.observed).2 }

    -- a line that was read and observed in this state
    pub ends_all : (result : Result (Unit {0}) FaultKind) (m : ℕ) (line : List ℕ) (before reader reader' : Option Progress) (j j' : Option H) (entries : List Entry) (numbers : List ℕ) → count_in count j < n → Corresponds (HasObservedFirsts (Some n) HasObserved) reader j before entries numbers →
        LineEnds HasObserved result m line before reader' j' entries numbers → LineEnds (HasObservedFirsts (Some n) HasObserved) result m line before reader' j' entries numbers
    ends_all (Err kind) m line before reader reader' j j' entries numbers few corresponds ends = ends
    ends_all (Ok done) m line before reader reader' j j' entries numbers few corresponds on =
        let had = all_observed j before entries numbers few corresponds.observed in
        let same : length (number_in m line) ≡ length (entry_in on.now) = as_many m line before on.now on.says corresponds.clear in
        let one = few_in on.now in
        record {
          now = on.now;
          says = on.says;
          corresponds = record {
            read = on.corresponds.read;
            clear = on.corresponds.clear;
            observed = then_firsts j' (cleared on.now) (entries ++ entry_in on.now) (numbers ++ number_in m line) (omega (arith, had.0, one, length-append entries (entry_in on.now)))
                (length-append numbers (number_in m line) ∙ (λ i. had.1 i + same i) ∙ sym (length-append entries (entry_in on.now))) on.corresponds.observed;
          };
        }

-- before the first line there is no observer
pub at_first : {H : Type 0} (HasObserved : H → Setup → List Entry → List ℕ → Type 0) (limit : Option ℕ) (reader : Option Progress) (j : Option H) → Corresponds HasObserved reader j None [] [] → Corresponds (HasObservedFirsts limit HasObserved) reader j None [] []
at_first HasObserved limit reader None corresponds = record { read = corresponds.read; clear = corresponds.clear; observed = corresponds.observed }
at_first HasObserved limit reader (Some h) corresponds = absurd corresponds.observed

-- the number of entries observed is at most that of lines read
pub few_observed : {H : Type 0} (HasObserved : H → Setup → List Entry → List ℕ → Type 0) (count : H → ℕ) (counts : (h : H) (s : Setup) (entries : List Entry) (numbers : List ℕ) → HasObserved h s entries numbers → count h ≡ length entries) (limit : Option ℕ)
    (to_come rest : Option (List ℕ)) (taken : ℕ) (reader : Option Progress) (j : Option H) → Onwards (HasObservedFirsts limit HasObserved) to_come rest taken reader j → count_in count j ≤ taken
few_observed {H} HasObserved count counts limit to_come rest taken reader j u = by limit j u.before u.entries u.numbers u.few u.corresponds.observed
  where
    by : (limit : Option ℕ) (j : Option H) (before : Option Progress) (entries : List Entry) (numbers : List ℕ) → length entries ≤ taken → ObservesAt (HasObservedFirsts limit HasObserved) j before entries numbers → count_in count j ≤ taken
    by limit None before entries numbers few observed = omega (arith, few)
    by limit (Some h) None entries numbers few observed = absurd observed
    by None (Some h) (Some p) entries numbers few observed = let all = counts h p.head.setup entries numbers observed.1 in omega (arith, all, few)
    by (Some n) (Some h) (Some p) entries numbers few observed =
        let all = counts h p.head.setup (take n entries) (take n numbers) observed.1.1 in
        let fewer : length (take n entries) ≤ length entries = elim (cases_lt (length entries) n) [
          | inl less ↦ let same = ap length (take_all n entries (omega arith)) in omega (arith, same)
          | inr more ↦ let same = length-take-le n entries more in omega (arith, same, more)
        ] in
        omega (arith, all, fewer, few)

-- a report on the observed entries is a report on the first entries
pub reports_firsts : {H : Type 0} (HasObserved : H → Setup → List Entry → List ℕ → Type 0) (Reports : Setup → List Entry → List ℕ → List ℕ → ℕ → Type 0) (limit : Option ℕ) (h : H) (reported : List ℕ) (status : ℕ) → ((s : Setup) (entries : List Entry) (numbers : List ℕ) → HasObserved h s entries numbers → Reports s entries numbers reported status) →
    (s : Setup) (entries : List Entry) (numbers : List ℕ) → HasObservedFirsts limit HasObserved h s entries numbers → ReportsFirsts limit Reports s entries numbers reported status
reports_firsts HasObserved Reports None h reported status reports s entries numbers observed = reports s entries numbers observed
reports_firsts HasObserved Reports (Some n) h reported status reports s entries numbers observed = reports s (take n entries) (take n numbers) observed.1
