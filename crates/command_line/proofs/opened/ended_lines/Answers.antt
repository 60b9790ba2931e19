use Rattle.command_line.proofs.Opening.{lines_behind}
use Rattle.command_line.proofs.opened.ended_lines.Goals as goal

pub returns-in-Some : goal.returns-in-Some
returns-in-Some c more = lines_behind c.args.front.now more c.in-Some.at c.in-Some.ensures.0.high c.in-Some.ensures.1
