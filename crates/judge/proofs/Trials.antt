-- The state of observing a record file after one more line.
use Rattle.std.proofs.Common.{◌≡◌, ℕ, ◌≤◌, Bool, true, false, List, [], ◌∷◌, ◌++◌, length, IsSome, Option, Some, None, Ok, refl, ap, sym, subst, ◌∙◌, append-nil, arith}
use Rattle.std.specs.Option.{option_to_list}
use Rattle.plain_store.specs.{Setup}
use Rattle.files.specs.{FaultKind, UnlessMemory, words_of, words_read}
use Rattle.files.specs.declared.faults.FaultKind.TheVariants.{Memory}
use Rattle.model.specs.{Access, Entry}
use Rattle.record_file.specs.{Progress, cleared, entry_in, entry_words, is_entry, record_grammar, step_entry}
use Rattle.record_file.specs.scenario.{Progress as Head, spaced}
use Rattle.record_file.proofs.EntryLines.{entry_of_line}
use Rattle.judge.specs.{number_in, say_entry}
use Rattle.judge.specs.Trials.{GoesOn, Observes, ObservesAt, Corresponds}
use Rattle.judge.proofs.Lines.{Left, clear_twice, empty, first_left, later_remaining, number_of_none, number_of_some, short_read}

-- a consequence of a fact that is known unless memory ran out
pub unless_then : (kind : FaultKind) {P Q : Type 0} → (P → Q) → UnlessMemory kind P → UnlessMemory kind Q
unless_then Memory leads p = p
unless_then _ leads p = leads p

module _ {H : Type 0} (HasObserved : H → Setup → List Entry → List ℕ → Type 0) where
  -- a fact about an observer, for an equal setup
  observed_at : (s t : Setup) (h : H) (entries : List Entry) (numbers : List ℕ) → s ≡ t → HasObserved h s entries numbers → HasObserved h t entries numbers
  observed_at s t h entries numbers same observed = subst (λ s. HasObserved h s entries numbers) same observed

  -- no entry and no number is added
  with_none : (h : Option H) (before : Option Progress) (entries : List Entry) (more : List Entry) (numbers : List ℕ) (at : List ℕ) → more ≡ [] → at ≡ [] → ObservesAt HasObserved h before entries numbers → ObservesAt HasObserved h before (entries ++ more) (numbers ++ at)
  with_none h before entries more numbers at none zero observed =
      subst (λ (l : List Entry). ObservesAt HasObserved h before l (numbers ++ at)) (sym (ap (λ l. entries ++ l) none ∙ append-nil entries))
      (subst (λ (l : List ℕ). ObservesAt HasObserved h before entries l) (sym (ap (λ l. numbers ++ l) zero ∙ append-nil numbers)) observed)

  -- after a line that is not an entry
  still_at : (words : List (List ℕ)) (before now : Option Progress) (j : Option H) (entries : List Entry) (numbers : List ℕ) → words_read record_grammar words before ≡ Ok now → ObservesAt HasObserved j before entries numbers → ObservesAt HasObserved j (cleared now) entries numbers
  still_at words before now None entries numbers read observed = observed
  still_at words None now (Some j) entries numbers read observed = absurd observed
  still_at words (Some p) now (Some j) entries numbers read observed = by (say_entry words) (later_remaining words p now read)
    where
      whole : (next : Progress) → (next.ended ≡ true) × (next.head ≡ p.head) → ObservesAt HasObserved (Some j) (cleared (Some next)) entries numbers
      whole next stays = (stays.0, observed_at p.head.setup next.head.setup j entries numbers (ap (λ (h : Head). h.setup) (sym stays.1)) observed.1)

      stays : (b : Bool) (next : Progress) → Left b p next → (next.ended ≡ true) × (next.head ≡ p.head)
      stays false next remaining = remaining.1 observed.0
      stays true next remaining = (remaining.1, remaining.2)

      by : (b : Bool) → (next : Progress) × (now ≡ Some next) × Left b p next → ObservesAt HasObserved (Some j) (cleared now) entries numbers
      by b next = subst (λ (o : Option Progress). ObservesAt HasObserved (Some j) (cleared o) entries numbers) (sym next.1) (whole next.0 (stays b next.0 next.2))

  observed_still : (n : ℕ) (line : List ℕ) (before now : Option Progress) (j : Option H) (entries : List Entry) (numbers : List ℕ) → words_read record_grammar (words_of line) before ≡ Ok now → cleared before ≡ before → entry_in now ≡ [] → ObservesAt HasObserved j before entries numbers →
      ObservesAt HasObserved j (cleared now) (entries ++ entry_in now) (numbers ++ number_in n line)
  observed_still n line before now j entries numbers read clear none observed =
      with_none j (cleared now) entries (entry_in now) numbers (number_in n line) none (number_of_none n line before now read clear none) (still_at (words_of line) before now j entries numbers read observed)

  -- after a line whose entry was observed
  more_at : (words : List (List ℕ)) (before : Option Progress) (now : Progress) (e : Entry) (n : ℕ) (j j' : Option H) (entries : List Entry) (numbers : List ℕ) → words_read record_grammar words before ≡ Ok (Some now) → cleared before ≡ before → now.entry ≡ Some e →
      IsSome j' → (Observes HasObserved j now.head.setup entries numbers → Observes HasObserved j' now.head.setup (entries ++ e ∷ []) (numbers ++ n ∷ [])) → ObservesAt HasObserved j before entries numbers → ObservesAt HasObserved j' (cleared (Some now)) (entries ++ e ∷ []) (numbers ++ n ∷ [])
  more_at words None now e n j j' entries numbers read clear says some observes observed =
      let none : option_to_list now.entry ≡ [] = (first_left words (Some now) read).0 in
      let no : e ∷ [] ≡ [] = sym (ap option_to_list says) ∙ none in absurd (cc)
  more_at words (Some p) now e n j None entries numbers read clear says some observes observed = absurd (cc)
  more_at words (Some p) now e n j (Some k) entries numbers read clear says some observes observed = by (say_entry words) (later_remaining words p (Some now) read)
    where
      before_it : (j : Option H) → ObservesAt HasObserved j (Some p) entries numbers → now.head ≡ p.head → Observes HasObserved j now.head.setup entries numbers
      before_it None observed same = observed
      before_it (Some i) observed same = observed_at p.head.setup now.head.setup i entries numbers (ap (λ (h : Head). h.setup) (sym same)) observed.1

      ends : (b : Bool) (next : Progress) → now ≡ next → Left b p next → (now.ended ≡ true) × (now.head ≡ p.head)
      ends false next is remaining = let no : Some e ≡ None = sym says ∙ ap (λ (p : Progress). p.entry) is ∙ remaining.0 ∙ empty p clear in absurd (cc)
      ends true next is remaining = (ap (λ (p : Progress). p.ended) is ∙ remaining.1, ap (λ (p : Progress). p.head) is ∙ remaining.2)

      by : (b : Bool) → (next : Progress) × (Some now ≡ Some next) × Left b p next → ObservesAt HasObserved (Some k) (cleared (Some now)) (entries ++ e ∷ []) (numbers ++ n ∷ [])
      by b next =
          let is = next.1 in
          let same : now ≡ next.0 = cc in
          let both = ends b next.0 same next.2 in
          (both.0, observes (before_it j observed both.1))

  -- the words of a line are read in the state before it
  read_at : (line : List ℕ) (reader : Option Progress) (j : Option H) (before : Option Progress) (entries : List Entry) (numbers : List ℕ) → Corresponds HasObserved reader j before entries numbers → words_read record_grammar (words_of line) reader ≡ words_read record_grammar (words_of line) before
  read_at line reader j before entries numbers corresponds = ap (λ (o : Option Progress). words_read record_grammar (words_of line) o) corresponds.read

  -- How a line ends.

  -- the line was read, and its entry, if any, was observed
  ends_well : (n : ℕ) (line : List ℕ) (reader reader' now : Option Progress) (j j' : Option H) (before : Option Progress) (entries : List Entry) (numbers : List ℕ) → length line ≤ 128 → Corresponds HasObserved reader j before entries numbers → words_read record_grammar (words_of line) reader ≡ Ok now → reader' ≡ cleared now →
      ObservesAt HasObserved j' (cleared now) (entries ++ entry_in now) (numbers ++ number_in n line) → GoesOn HasObserved n line before reader' j' entries numbers
  ends_well n line reader reader' now j j' before entries numbers short corresponds read same observed = record {
    now = now;
    says = short_read line before short ∙ sym (read_at line reader j before entries numbers corresponds) ∙ read;
    corresponds = record { read = same; clear = clear_twice now; observed = observed };
  }

  -- the line is not an entry
  pub ends_quiet : (n : ℕ) (line : List ℕ) (reader reader' now : Option Progress) (j : Option H) (before : Option Progress) (entries : List Entry) (numbers : List ℕ) → length line ≤ 128 → Corresponds HasObserved reader j before entries numbers → words_read record_grammar (words_of line) reader ≡ Ok now → reader' ≡ cleared now →
      entry_in now ≡ [] → GoesOn HasObserved n line before reader' j entries numbers
  ends_quiet n line reader reader' now j before entries numbers short corresponds read same none =
      ends_well n line reader reader' now j j before entries numbers short corresponds read same
      (observed_still n line before now j entries numbers (sym (read_at line reader j before entries numbers corresponds) ∙ read) corresponds.clear none corresponds.observed)

  -- the line is an entry, which was observed
  pub ends_observed : (n : ℕ) (line : List ℕ) (reader reader' : Option Progress) (now : Progress) (e : Entry) (j j' : Option H) (before : Option Progress) (entries : List Entry) (numbers : List ℕ) → length line ≤ 128 → Corresponds HasObserved reader j before entries numbers → words_read record_grammar (words_of line) reader ≡ Ok (Some now) → now.entry ≡ Some e →
      reader' ≡ cleared (Some now) → IsSome j' → ((entries : List Entry) (numbers : List ℕ) → Observes HasObserved j now.head.setup entries numbers → Observes HasObserved j' now.head.setup (entries ++ e ∷ []) (numbers ++ n ∷ [])) → GoesOn HasObserved n line before reader' j' entries numbers
  ends_observed n line reader reader' now e j j' before entries numbers short corresponds read says same some observes =
      let read' : words_read record_grammar (words_of line) before ≡ Ok (Some now) = sym (read_at line reader j before entries numbers corresponds) ∙ read in
      ends_well n line reader reader' (Some now) j j' before entries numbers short corresponds read same
      (subst (λ (l : List Entry). ObservesAt HasObserved j' (cleared (Some now)) (entries ++ l) (numbers ++ number_in n line)) (sym (ap option_to_list says))
      (subst (λ (l : List ℕ). ObservesAt HasObserved j' (cleared (Some now)) (entries ++ e ∷ []) (numbers ++ l)) (sym (number_of_some n line before now e read' corresponds.clear says))
      (more_at (words_of line) before now e n j j' entries numbers read' corresponds.clear says some (observes entries numbers) corresponds.observed)))

  -- the line is printed as a Step, and was observed after an entry
  pub ends_stepped : (n : ℕ) (line : List ℕ) (reader : Option Progress) (h h' : H) (process : ℕ) (access : Access) (before : Option Progress) (entries : List Entry) (numbers : List ℕ) → length line ≤ 128 → line ≡ spaced (entry_words (step_entry process access)) → is_entry (step_entry process access) ≡ true →
      ((s : Setup) (entries : List Entry) (numbers : List ℕ) → HasObserved h s entries numbers → HasObserved h' s (entries ++ step_entry process access ∷ []) (numbers ++ n ∷ [])) → Corresponds HasObserved reader (Some h) before entries numbers → GoesOn HasObserved n line before reader (Some h') entries numbers
  ends_stepped n line reader h h' process access before entries numbers short printed sound observes corresponds =
      by before corresponds.clear corresponds.observed corresponds.read
    where
      e : Entry
      e = step_entry process access

      by : (b : Option Progress) → cleared b ≡ b → ObservesAt HasObserved (Some h) b entries numbers → reader ≡ b → GoesOn HasObserved n line b reader (Some h') entries numbers
      by None clear observed same = absurd observed
      by (Some p) clear observed same =
          let now : Progress = record p { ended = true; entry = Some e } in
          let read : words_read record_grammar (words_of line) (Some p) ≡ Ok (Some now) = ap (λ (l : List ℕ). words_read record_grammar (words_of l) (Some p)) printed ∙ entry_of_line e p (record { sound = sound; few = omega arith }) in
          record {
            now = Some now;
            says = short_read line (Some p) short ∙ read;
            corresponds = record {
              read = same ∙ sym clear ∙ ap (λ (b : Bool). Some (record p { ended = b; entry = None })) observed.0;
              clear = refl;
              observed = subst (λ (l : List ℕ). ObservesAt HasObserved (Some h') (Some (record p { ended = true; entry = None })) (entries ++ e ∷ []) (numbers ++ l)) (sym (number_of_some n line (Some p) now e read clear refl)) (refl, observes p.head.setup entries numbers observed.1);
            };
          }
