use Rattle.std.proofs.Common.{◌≡◌, ◌==◌, true, false, rules}
use Rattle.call_check.proofs.Callers.{of_version_one, of_version_two}
use Rattle.call_check.proofs.notes.caller.Goals as goal

pub returns-then-setup-eq1 : goal.returns-then-setup-eq1
returns-then-setup-eq1 c = λ few. let one : (c.args.setup.now.version == 1) ≡ true = search (rules, c.if-setup-eq1.true) in of_version_one c.args.setup.now c.args.call.now one

pub returns : goal.returns
returns c = λ few.
    let two : (c.args.setup.now.version == 1) ≡ false = search (rules, c.if-setup-eq1.false) in
    of_version_two c.args.setup.now c.args.call.now c.process_at.result c.number_at.result two (c.process_at.ensures (few two).0) (c.number_at.ensures (few two).1)
