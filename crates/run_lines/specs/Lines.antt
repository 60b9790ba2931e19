-- How the lines of a run are spelled.
use Rattle.std.specs.Prelude.{ℕ, List, ◌++◌, codes}
use Rattle.std.specs.Fmt.{decimal}
use Rattle.model.specs.{Mark, Refusal, mark_text, refusal_text}
use Rattle.run_lines.specs.declared.lines.ReplayLine.{ReplayLine}
use Rattle.run_lines.specs.declared.lines.ReplayLine.TheVariants.{Marked, Refused, Tired, Shown, Ended}

-- the event with this number has a mark
abbrev pub marked_text : ℕ → ℕ → Mark → List ℕ
marked_text event p mark = decimal event ++ codes " " ++ decimal p ++ codes " " ++ mark_text mark

-- an event of a process is refused
abbrev pub refused_text : ℕ → Refusal → List ℕ
refused_text p refusal = codes "- " ++ decimal p ++ codes " refused " ++ refusal_text refusal

-- a process has made all the Steps of a `go`
abbrev pub tired_text : ℕ → List ℕ
tired_text p = codes "- " ++ decimal p ++ codes " turns"

-- the newest store in these words
abbrev pub shown_text : List ℕ → List ℕ
shown_text words = codes "show " ++ words

-- the run has ended
abbrev pub ended_text : (events taken refused : ℕ) → List ℕ
ended_text events taken refused = codes "end events " ++ decimal events ++ codes " taken " ++ decimal taken ++ codes " refused " ++ decimal refused

-- a line, without its end
abbrev pub line_text : ReplayLine → List ℕ
line_text (Marked event p mark) = marked_text event p mark.now
line_text (Refused p refusal) = refused_text p refusal.now
line_text (Tired p) = tired_text p
line_text (Shown words) = shown_text words.now
line_text (Ended events taken refused) = ended_text events taken refused

-- the same with its end
abbrev pub with_end : List ℕ → List ℕ
with_end line = line ++ codes "\n"
