-- The effect of a line of a trace file on the observed entries.
use Rattle.std.proofs.Common.{◌≡◌, ℕ, ◌≤◌, Bool, List, [], ◌∷◌, ◌++◌, length, IsSome, Option, Some, None, Ok, inl, inr, ap, sym, subst, ◌∙◌, append-nil}
use Rattle.std.specs.Option.{option_to_list}
use Rattle.files.specs.{FaultKind, UnlessMemory, words_of, words_read}
use Rattle.files.specs.declared.faults.FaultKind.TheVariants.{Memory}
use Rattle.trace.specs.{TraceEntry, TraceSetup}
use Rattle.trace_file.specs.TraceFiles.{TraceProgress, cleared, entry_in, line_read, number_in, trace_grammar}
use Rattle.trace_engine.specs.Trials.{GoesOn, Observes, ObservesAt, IsReadUpTo}
use Rattle.trace_engine.proofs.LineReads.{clear_twice, empty, first_left, later_remaining, number_of_none, number_of_some, short_read}

-- an implication between facts that are known unless memory ran out
pub unless_then : (kind : FaultKind) {P Q : Type 0} → (P → Q) → UnlessMemory kind P → UnlessMemory kind Q
unless_then Memory leads p = p
unless_then _ leads p = leads p

module _ {H : Type 0} (HasObserved : H → TraceSetup → List TraceEntry → List ℕ → Type 0) where
  -- entries observed with a setup were observed with an equal one
  observed_at : (s t : TraceSetup) (h : H) (entries : List TraceEntry) (numbers : List ℕ) → s ≡ t → HasObserved h s entries numbers → HasObserved h t entries numbers
  observed_at s t h entries numbers same observed = subst (λ s. HasObserved h s entries numbers) same observed

  -- with no further entries
  with_none : (h : Option H) (before : Option TraceProgress) (entries more : List TraceEntry) (numbers at : List ℕ) → more ≡ [] → at ≡ [] → ObservesAt HasObserved h before entries numbers → ObservesAt HasObserved h before (entries ++ more) (numbers ++ at)
  with_none h before entries more numbers at none zero observed =
      subst (λ (l : List TraceEntry). ObservesAt HasObserved h before l (numbers ++ at)) (sym (ap (λ l. entries ++ l) none ∙ append-nil entries))
      (subst (λ (l : List ℕ). ObservesAt HasObserved h before entries l) (sym (ap (λ l. numbers ++ l) zero ∙ append-nil numbers)) observed)

  -- after a line that is not an entry
  still_at : (line : List ℕ) (before now : Option TraceProgress) (h : Option H) (entries : List TraceEntry) (numbers : List ℕ) → words_read trace_grammar (words_of line) before ≡ Ok now → cleared before ≡ before → entry_in now ≡ [] →
      ObservesAt HasObserved h before entries numbers → ObservesAt HasObserved h (cleared now) entries numbers
  still_at line before now None entries numbers read clear none observed = observed
  still_at line None now (Some h) entries numbers read clear none observed = absurd observed
  still_at line (Some p) now (Some h) entries numbers read clear none observed =
      let later = later_remaining (words_of line) p now read in
      subst (λ (o : Option TraceProgress). ObservesAt HasObserved (Some h) (cleared o) entries numbers) (sym later.is)
      (elim later.remaining [
        | inl quiet ↦ let stays = quiet.stays observed.0 in (stays.0, observed_at p.setup later.next.setup h entries numbers (sym stays.1) observed.1)
        | inr says ↦ absurd (let no : says.entry ∷ [] ≡ [] = sym (ap option_to_list says.is) ∙ sym (ap entry_in later.is) ∙ none in cc)
      ])

  -- after a line that is an entry, which was observed
  more_at : (line : List ℕ) (before : Option TraceProgress) (now : TraceProgress) (e : TraceEntry) (n : ℕ) (h h' : Option H) (entries : List TraceEntry) (numbers : List ℕ) → words_read trace_grammar (words_of line) before ≡ Ok (Some now) → cleared before ≡ before → now.entry ≡ Some e →
      IsSome h' → (Observes HasObserved h now.setup entries numbers → Observes HasObserved h' now.setup (entries ++ e ∷ []) (numbers ++ n ∷ [])) → ObservesAt HasObserved h before entries numbers → ObservesAt HasObserved h' (cleared (Some now)) (entries ++ e ∷ []) (numbers ++ n ∷ [])
  more_at line None now e n h h' entries numbers read clear says some observes observed =
      absurd (let no : e ∷ [] ≡ [] = sym (ap option_to_list says) ∙ first_left (words_of line) (Some now) read in cc)
  more_at line (Some p) now e n h None entries numbers read clear says some observes observed = absurd (cc)
  more_at line (Some p) now e n h (Some k) entries numbers read clear says some observes observed =
      let later = later_remaining (words_of line) p (Some now) read in
      let same : now ≡ later.next = let both : Some now ≡ Some later.next = later.is in cc in
      elim later.remaining [
        | inl quiet ↦ absurd (let no : Some e ≡ None = sym says ∙ ap (λ (q : TraceProgress). q.entry) same ∙ quiet.entry ∙ empty p clear in cc)
        | inr is ↦
            let setup = ap (λ (q : TraceProgress). q.setup) same ∙ is.setup in
            (ap (λ (q : TraceProgress). q.ended) same ∙ is.ended, observes (before_it h observed setup))
      ]
    where
      before_it : (h : Option H) → ObservesAt HasObserved h (Some p) entries numbers → now.setup ≡ p.setup → Observes HasObserved h now.setup entries numbers
      before_it None observed same = observed
      before_it (Some i) observed same = observed_at p.setup now.setup i entries numbers (sym same) observed.1

  -- the words of a line are read after the reader's progress as after `before`
  read_at : (line : List ℕ) (reader : Option TraceProgress) (h : Option H) (before : Option TraceProgress) (entries : List TraceEntry) (numbers : List ℕ) → IsReadUpTo HasObserved reader h before entries numbers →
      words_read trace_grammar (words_of line) reader ≡ words_read trace_grammar (words_of line) before
  read_at line reader h before entries numbers read_up_to = ap (λ (o : Option TraceProgress). words_read trace_grammar (words_of line) o) read_up_to.read

  -- The end of a line that is not an entry.
  pub ends_quiet : (n : ℕ) (line : List ℕ) (reader reader' now : Option TraceProgress) (h : Option H) (before : Option TraceProgress) (entries : List TraceEntry) (numbers : List ℕ) → length line ≤ 128 → IsReadUpTo HasObserved reader h before entries numbers →
      words_read trace_grammar (words_of line) reader ≡ Ok now → reader' ≡ cleared now → entry_in now ≡ [] → GoesOn HasObserved n line before reader' h entries numbers
  ends_quiet n line reader reader' now h before entries numbers short read_up_to read same none =
      let read' = sym (read_at line reader h before entries numbers read_up_to) ∙ read in
      record {
        now = now;
        says = short_read line before short ∙ read';
        read_up_to = record {
          read = same;
          clear = clear_twice now;
          observed = with_none h (cleared now) entries (entry_in now) numbers (number_in n now) none (number_of_none n now none) (still_at line before now h entries numbers read' read_up_to.clear none read_up_to.observed);
        };
      }

  -- the end of a line that is an entry, which was observed
  pub ends_observed : (n : ℕ) (line : List ℕ) (reader reader' : Option TraceProgress) (now : TraceProgress) (e : TraceEntry) (h h' : Option H) (before : Option TraceProgress) (entries : List TraceEntry) (numbers : List ℕ) → length line ≤ 128 → IsReadUpTo HasObserved reader h before entries numbers →
      words_read trace_grammar (words_of line) reader ≡ Ok (Some now) → now.entry ≡ Some e → reader' ≡ cleared (Some now) → IsSome h' →
      ((entries : List TraceEntry) (numbers : List ℕ) → Observes HasObserved h now.setup entries numbers → Observes HasObserved h' now.setup (entries ++ e ∷ []) (numbers ++ n ∷ [])) → GoesOn HasObserved n line before reader' h' entries numbers
  ends_observed n line reader reader' now e h h' before entries numbers short read_up_to read says same some observes =
      let read' = sym (read_at line reader h before entries numbers read_up_to) ∙ read in
      record {
        now = Some now;
        says = short_read line before short ∙ read';
        read_up_to = record {
          read = same;
          clear = clear_twice (Some now);
          observed =
              subst (λ (l : List TraceEntry). ObservesAt HasObserved h' (cleared (Some now)) (entries ++ l) (numbers ++ number_in n (Some now))) (sym (ap option_to_list says))
              (subst (λ (l : List ℕ). ObservesAt HasObserved h' (cleared (Some now)) (entries ++ e ∷ []) (numbers ++ l)) (sym (number_of_some n now e says))
              (more_at line before now e n h h' entries numbers read' read_up_to.clear says some (observes entries numbers) read_up_to.observed));
        };
      }
