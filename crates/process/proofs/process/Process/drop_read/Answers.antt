use Rattle.std.proofs.Common.{◌≡◌, true, is_some, sym, ap, ◌∙◌}
use Rattle.laws.specs.{reads_of}
use Rattle.process.proofs.Shown.{reads-goes, shown-drop, shown-fits}
use Rattle.process.proofs.process.Process.drop_read.Goals as goal

pub drop_read-requires : goal.drop_read-requires
drop_read-requires c =
    let now = c.args.self.now in
    let some : is_some (reads_of now.setup now.process now.doing) ≡ true = ap is_some (sym c.reads.ensures.register) ∙ sym c.if-is_some.ensures in
    shown-fits c.self.inside.called c.self.inside.work c.self.inside.cursor now c.args.memory.now c.self.invariant c.self.view_is (reads-goes now.setup now.process now.doing some) c.requires

pub returns-then-is_some : goal.returns-then-is_some
returns-then-is_some c =
    let now = c.args.self.now in
    let some : is_some (reads_of now.setup now.process now.doing) ≡ true = ap is_some (sym c.reads.ensures.register) ∙ sym c.if-is_some.ensures in
    c.drop_read.ensures ∙ shown-drop c.self.inside.called c.self.inside.work c.self.inside.cursor now c.args.memory.now c.self.invariant c.self.view_is some
