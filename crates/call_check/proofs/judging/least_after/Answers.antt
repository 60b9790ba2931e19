use Rattle.std.proofs.Common.{◌+◌, ◌||◌, ◌&&◌, max, Bool, Option, ℕ, ap, sym, ◌∙◌}
use Rattle.std.proofs.Math.Bool.{or-false}
use Rattle.std.specs.Prelude.{nat_le, nat_lt}
use Rattle.call_check.specs.{is_past}
use Rattle.call_check.proofs.Judged.{least_is_above, least_with}
use Rattle.call_check.proofs.judging.least_after.Goals as goal

pub returns-in-None : goal.returns-in-None
returns-in-None c = λ s calls earlier call place note least.
    least_with s calls earlier c.args.least c.args.least call.placed least
    (λ k. ap (λ (p : Option ℕ). nat_lt k c.args.least || is_past s calls k call.placed p) (place ∙ c.in-None.is) ∙ or-false (nat_lt k c.args.least))

pub returns-in-Some : goal.returns-in-Some
returns-in-Some c = λ s calls earlier call place note least.
    let at = place ∙ c.in-Some.is in
    least_with s calls earlier c.args.least c.max.result call.placed least
    (λ k. ap (λ (p : Option ℕ). nat_lt k c.args.least || is_past s calls k call.placed p) at
    ∙ ap (λ (changes : Bool). nat_lt k c.args.least || (nat_lt k c.in-Some.place || (nat_le k c.in-Some.place && changes))) (sym (note.changes c.in-Some.place at))
    ∙ least_is_above k c.args.least c.in-Some.place c.args.note.changes
    ∙ ap (nat_lt k) (sym (c.max.ensures ∙ (λ i. max c.args.least (c.from.ensures i + c.from-in-Some.ensures i)))))
