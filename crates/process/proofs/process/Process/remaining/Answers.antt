use Rattle.std.proofs.Common.{◌≡◌, ◌-◌, ◌&&◌, Bool, true, false, cond, refl, subst, sym, ap, ◌∙◌}
use Rattle.registers.specs.{is_fresh, run_at}
use Rattle.process.specs.{Activity, is_reported, remaining_at, remaining_of}
use Rattle.process.specs.Working.{IsWorking, RunsAt, state_at}
use Rattle.process.proofs.Rests.{remaining-before}
use Rattle.process.proofs.process.Process.remaining.Goals.{then-is_fresh, else-is_fresh}
use Rattle.process.proofs.process.Process.remaining.Goals as goal

not_reported : (fresh reported : Bool) → reported ≡ false → (fresh && reported) ≡ false
not_reported true reported none = none
not_reported false reported none = refl

pub returns-in-Runs : goal.returns-in-Runs
returns-in-Runs c =
    let k = c.self.inside.called in
    let cur = c.self.inside.cursor in
    let runs : RunsAt k cur = subst (λ (w : Activity). IsWorking k w cur) c.in-Runs.is c.self.invariant.working in
    let none : (is_fresh cur && is_reported k.part) ≡ false = elim c.if-is_fresh.branch [
      | then-is_fresh w ↦ not_reported (is_fresh cur) (is_reported k.part) (sym w.is_reported.ensures ∙ sym w.value-is ∙ c.if-not-is_reported.true)
      | else-is_fresh w ↦ ap (λ b. b && is_reported k.part) (sym (w.if-is_fresh.ensures))
    ] in
    c.saturating_sub.ensures ∙ ap (λ n. n - 1) c.remaining.ensures ∙ sym (remaining-before k.call k.part cur runs.at none)
    ∙ ap (λ b. cond b 0 (remaining_of k.call k.part (run_at cur))) (sym runs.going)
    ∙ ap (λ (w : Activity). remaining_at (state_at k w cur)) (sym c.in-Runs.is) ∙ ap remaining_at c.self.view_is
