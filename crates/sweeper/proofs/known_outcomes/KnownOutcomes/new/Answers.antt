use Rattle.std.proofs.Common.{false, List, None, length, refl, sym, ap, subst, arith}
use Rattle.std.proofs.lemmas.List.{length_push}
use Rattle.std.proofs.lemmas.List.Elements.{All-nil, All-push}
use Rattle.sweeper.specs.{AreUnknown, IsUnknown, KnownOutcome}
use Rattle.sweeper.proofs.known_outcomes.KnownOutcomes.new.Goals as goal

pub outcomes-init : goal.outcomes-init
outcomes-init c = subst (λ (known : List KnownOutcome). AreUnknown c.args.setup.now known) (sym c.new-known.ensures.items) (All-nil (IsUnknown c.args.setup.now))

pub outcomes-preserved : goal.outcomes-preserved
outcomes-preserved c =
    let s = c.args.setup.now in
    let one : KnownOutcome = record { core = c.in_ok-new.field-0; value = false; stuck = None } in
    let is : IsUnknown s one = record { setup = c.in_ok-new.ensures.setup; none = refl } in
    subst (λ (known : List KnownOutcome). AreUnknown s known) (sym {A = List KnownOutcome} c.in_ok-push.ensures.items) (All-push (IsUnknown s) c.outcomes.known.items one c.outcomes.invariant is)

pub outcomes-smaller : goal.outcomes-smaller
outcomes-smaller c =
    let one : KnownOutcome = record { core = c.in_ok-new.field-0; value = false; stuck = None } in
    let more = ap length c.in_ok-push.ensures.items in
    let longer = length_push c.outcomes.known.items one in
    let below = c.outcomes-test.true in
    let is = c.len.ensures in
    omega (arith, more, longer, below, is)

pub invariant_of-result : goal.invariant_of-result
invariant_of-result c = let all = c.outcomes-test.false in let is = c.len.ensures in omega (arith, all, is)

pub returns : goal.returns
returns c = c.outcomes.invariant
