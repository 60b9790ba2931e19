use Rattle.std.proofs.Common.{Option, sym, ◌∙◌, subst}
use Rattle.std.specs.Prelude.{IfSome}
use Rattle.model.specs.{IsTornOf, TornBit}
use Rattle.process.proofs.CutsAt.{torn-shown}
use Rattle.process.proofs.process.Process.torn.Goals as goal

pub returns-in-Runs-clause-torn : goal.returns-in-Runs-clause-torn
returns-in-Runs-clause-torn c = c.torn.ensures ∙ (torn-shown c.self.inside.called c.self.inside.work c.self.inside.cursor c.args.self.now c.self.invariant c.self.view_is c.in-Runs.is).0

pub returns-in-Runs-clause-known : goal.returns-in-Runs-clause-known
returns-in-Runs-clause-known c =
    subst (λ (o : Option TornBit). IfSome o (IsTornOf c.args.self.now.setup)) (sym c.torn.ensures)
    (torn-shown c.self.inside.called c.self.inside.work c.self.inside.cursor c.args.self.now c.self.invariant c.self.view_is c.in-Runs.is).1
