use Rattle.std.proofs.Common.{◌≡◌, sym, subst, ◌∙◌, true, rules, tests}
use Rattle.model.specs.{Access}
use Rattle.model.specs.contracts.access.AccessPartialEq.TheImpl as impl
use Rattle.auditor.proofs.matching.is_that.Goals as goal

-- accesses that compare as equal are equal
same : (a b : Access) → impl.ghosts.eq a b ≡ true → a ≡ b
same a b h = search (rules, tests)

-- an access is equal to itself
as_itself : (a : Access) → impl.ghosts.eq a a ≡ true
as_itself a = search (rules, tests)

pub returns : goal.returns
returns c = (λ h. same c.args.access c.args.that (sym c.eq.ensures ∙ h), λ e. c.eq.ensures ∙ subst (λ (b : Access). impl.ghosts.eq c.args.access b ≡ true) e (as_itself c.args.access))
