use Rattle.std.proofs.Common.{◌≡◌, ◌++◌}
use Rattle.markup.specs.{drawings, reading}
use Rattle.picture.specs.{ties_to}
use Rattle.picture.proofs.ties.draw_ties_to.Given as goal

-- no line more, and the ties to the processes before the present one
abbrev pub invariant-loop-process : goal.invariant-loop-process
invariant-loop-process l = record {
  read : reading l.markup ≡ reading l.fn.markup;
  draws : l.markup ≡ l.fn.markup ++ drawings (ties_to l.layout l.x l.access l.process);
}
