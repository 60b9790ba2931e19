-- All lines of a process.
use Rattle.std.specs.Prelude.{ℕ, ◌+◌, ◌==◌, Bool, true, false, List, [], ◌∷◌, ◌++◌, codes, cond, drop, length, Option, None, Some}
use Rattle.std.specs.Fmt.{decimal}
use Rattle.std.specs.Str.{bytes_eq}
use Rattle.plain_store.specs.{Setup}
use Rattle.model.specs.declared.events.Event.TheVariants.{Step}
use Rattle.model.specs.{Entry, Past, Stage, calls_in, entry_of, history, is_at_rest, own, stage, stage_word}
use Rattle.judge.specs.record_file.{entry_line}
use Rattle.calls.specs.{open_call}
use Rattle.run_state.specs.Doing.{doing_lines}
use Rattle.run_state.specs.Lines.{open_lines, process_line}

-- The next entry.

-- the part of a record's line after the process, with the end of the line
abbrev pub behind_process : Entry → List ℕ
behind_process e = drop (length (decimal e.process) + 1) (entry_line e)

-- that part for the entry that is added, if one is
abbrev pub words_added : Option Entry → List ℕ
words_added None = []
words_added (Some e) = behind_process e

-- that part for the entry that a Step of p adds with this flick
abbrev pub next_words : Setup → Past → ℕ → Bool → List ℕ
next_words s past p flick = words_added (entry_of s past (Step p flick))

-- a line of the next entry
abbrev pub next_line : ℕ → List ℕ → List ℕ
next_line p words = (codes "process " ++ (decimal p ++ codes " next ")) ++ words

-- two of them, or one if both are the same
abbrev pub lines_of_two : ℕ → List ℕ → List ℕ → List ℕ
lines_of_two p words others = next_line p words ++ cond (bytes_eq words others) [] (next_line p others)

-- the lines of the entries that a Step of p adds with either flick
abbrev pub next_lines : Setup → Past → ℕ → List ℕ
next_lines s past p = lines_of_two p (next_words s past p false) (next_words s past p true)

-- All lines.

-- the line of a process that is idle or down and has made `calls` calls
abbrev pub rest_line : ℕ → Stage → ℕ → List ℕ
rest_line p stage calls = process_line p (cond (calls == 0) (stage_word stage) (stage_word stage ++ (codes " calls " ++ decimal calls)))

-- the lines of one that runs, or whose unit settles, at a stage
abbrev pub running_lines : Setup → Past → ℕ → Stage → List ℕ
running_lines s past p stage =
    process_line p (stage_word stage) ++ (open_lines p (history s past) (open_call s p past) ++ (doing_lines s past p stage ++ next_lines s past p))

-- the lines of p at a stage
abbrev pub lines_at : Setup → Past → ℕ → Stage → List ℕ
lines_at s past p stage = cond (is_at_rest stage) (rest_line p stage (calls_in (own p past))) (running_lines s past p stage)

-- the lines of p
abbrev pub process_lines : Setup → Past → ℕ → List ℕ
process_lines s past p = lines_at s past p (stage p past)

-- the line of how many entries there were
abbrev pub count_line : ℕ → List ℕ
count_line entries = codes "events " ++ (decimal entries ++ codes "\n")

-- the line of the newest entry, if there is one
abbrev pub newest_line : Past → List ℕ
newest_line [] = []
newest_line (e ∷ past) = codes "last " ++ entry_line e
