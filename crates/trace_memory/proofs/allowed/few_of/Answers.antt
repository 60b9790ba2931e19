use Rattle.std.proofs.Common.{◌≡◌, ◌<◌, [], ◌∷◌, None, Some, sym, ◌∙◌, subst}
use Rattle.trace_memory.specs.{has_value, present}
use Rattle.trace_memory.proofs.Few.{none-more, one-more, three-found}
use Rattle.trace_memory.proofs.allowed.few_of.Goals as goal
use Rattle.trace_memory.proofs.allowed.few_of.Goals.{then-has+in-None-default, then-has+in-Some-None, else-has}

pub returns-in-Some-Some : goal.returns-in-Some-Some
returns-in-Some-Some c =
    let m = c.in-Some-Some in
    three-found (has_value c.args.set.now) c.loop-number.number _ m.field-0-0 m.field-0-1
    (subst (λ n. c.loop-number.number < n) c.values_of_width-number-end.ensures.count c.loop-number-test.true) (sym c.has.ensures ∙ c.if-has.true)
    (c.loop-number.invariant.found ∙ (λ i. present (m.is-0 i ∷ m.is-1 i ∷ [])))

pub loop-number-preserved : goal.loop-number-preserved
loop-number-preserved c =
    let test = has_value c.args.set.now in
    let n = c.loop-number.number in
    let so_far = c.loop-number.invariant in
    elim c.if-has.branch [
      | then-has+in-None-default w ↦ record {
        found = one-more test n [] (sym c.has.ensures ∙ w.if-has.true)
            (so_far.found ∙ (λ i. present (w.in-None-default.is-0 i ∷ so_far.in_order w.in-None-default.is-0 i ∷ [])))
            ∙ sym (λ i. present (w.first-is i ∷ (w.second-is ∙ so_far.in_order w.in-None-default.is-0) i ∷ []));
        in_order = λ h. absurd (let no : Some n ≡ None = sym w.first-is ∙ h in cc);
      }
      | then-has+in-Some-None w ↦ record {
        found = one-more test n (w.in-Some-None.field-0-0 ∷ []) (sym c.has.ensures ∙ w.if-has.true)
            (so_far.found ∙ (λ i. present (w.in-Some-None.is-0 i ∷ w.in-Some-None.is-1 i ∷ [])))
            ∙ sym (λ i. present ((w.first-is ∙ w.in-Some-None.is-0) i ∷ w.second-is i ∷ []));
        in_order = λ h. absurd (let no : Some w.in-Some-None.field-0-0 ≡ None = sym (w.first-is ∙ w.in-Some-None.is-0) ∙ h in cc);
      }
      | else-has w ↦ record {
        found = none-more test n (present (c.loop-number.first ∷ c.loop-number.second ∷ [])) (sym c.has.ensures ∙ w.if-has.false) so_far.found
            ∙ sym (λ i. present (w.first-is i ∷ w.second-is i ∷ []));
        in_order = λ h. w.second-is ∙ so_far.in_order (sym w.first-is ∙ h);
      }
    ]
