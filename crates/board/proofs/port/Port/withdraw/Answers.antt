use Rattle.std.proofs.Common.{refl}
use Rattle.model.specs.declared.Event.TheVariants.{Withdraw}
use Rattle.board.proofs.Pendings.{refused}
use Rattle.board.proofs.port.Port.withdraw.Goals as goal

pub returns-in-Err : goal.returns-in-Err
returns-in-Err c = let no = refused c.args.self.now Withdraw c.process.result c.answer.result c.in-Err.refusal c.in-Err.is c.answer.ensures c.process.ensures in record { same = (refl, refl, refl, refl); answer = no.0; port = no.1 }
