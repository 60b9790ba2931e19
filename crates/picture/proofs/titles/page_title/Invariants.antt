use Rattle.std.proofs.Common.{◌≡◌, map}
use Rattle.bstr.specs.Text.{lines_of, without_terminator}
use Rattle.picture.specs.Titles.{comment_or, title_of}
use Rattle.picture.proofs.titles.page_title.Given as goal

-- none of the lines so far is a comment
abbrev pub invariant-loop-line : goal.invariant-loop-line
invariant-loop-line l = comment_or l.fn.heading l.line-iterator ≡ title_of l.fn.heading l.fn.printed
