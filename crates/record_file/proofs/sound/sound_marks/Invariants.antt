use Rattle.std.proofs.Common.{◌≡◌, take, true}
use Rattle.std.specs.List.{list_all}
use Rattle.record_file.specs.{is_mark}
use Rattle.record_file.proofs.sound.sound_marks.Given as goal

-- the marks so far are sound
abbrev pub invariant-loop-mark : goal.invariant-loop-mark
invariant-loop-mark l = list_all is_mark (take l.mark-index l.marks) ≡ true
