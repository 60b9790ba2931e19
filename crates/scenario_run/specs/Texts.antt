-- The text of a run.
use Rattle.std.specs.Prelude.{ℕ, cond, List, [], ◌∷◌, ◌++◌, codes, flat_map, length, Option, None, Some, Result}
use Rattle.plain_store.specs.{Contents, Setup, store_words}
use Rattle.model.specs.{Entry, Event, Mark, Past, Refusal, added, history, is_somebody_inside, process_of, refused, store_after}
use Rattle.model.specs.declared.refusals.Refusal.TheVariants.{NoProcess}
use Rattle.run_lines.specs.{ended_text, marked_text, refused_text, shown_text, tired_text, with_end}
use Rattle.scenario.specs.files.{LineFault, text_by}
use Rattle.scenario.specs.{Script, scenario_of}
use Rattle.scenario_run.specs.Happenings.{Happening, Tries, Lacks, Tires, Looks, past_after}
use Rattle.scenario_run.specs.Runs.{happenings}
use Rattle.scenario_run.specs.Summaries.{summary_of}
use Rattle.scenario_run.specs.declared.summaries.Summary.{Summary}

-- the line of a mark of the event with this number, of process p
abbrev pub mark_line : ℕ → ℕ → Mark → List ℕ
mark_line number p mark = with_end (marked_text number p mark)

-- the line of a refused event of process p
abbrev pub refused_line : ℕ → Refusal → List ℕ
refused_line p refusal = with_end (refused_text p refusal)

-- the lines of the marks of the entry with this number, in their order
abbrev pub entry_text : ℕ → Entry → List ℕ
entry_text number e = flat_map (mark_line number e.process) e.marks

-- the text of an event after this past: the marks that it adds, or why it is refused
abbrev pub event_text : Setup → Past → Event → List ℕ
event_text s past event = elim (refused s past event) [
  | Some refusal ↦ refused_line (process_of event) refusal
  | None ↦ elim (added s past event) [ None ↦ [] | Some e ↦ entry_text (length past) e ]
]

-- the store after the history, or none if a process is inside
abbrev pub newest_store : Setup → Past → Option Contents
newest_store s past = cond (is_somebody_inside s past) None (Some (store_after s (history s past)))

-- a store in words, or `busy` if a process is inside
abbrev pub newest_words : Option Contents → List ℕ
newest_words None = codes "busy"
newest_words (Some store) = store_words store.pairs

-- the line that shows these words
abbrev pub store_text : Option Contents → List ℕ
store_text store = with_end (shown_text (newest_words store))

-- the text of what happens after this past
abbrev pub text_at : Setup → Past → Happening → List ℕ
text_at s past (Tries event) = event_text s past event
text_at s past (Lacks p) = refused_line p NoProcess
text_at s past (Tires p) = with_end (tired_text p)
text_at s past Looks = store_text (newest_store s past)

-- the text of all that has happened
abbrev pub text_of : Setup → List Happening → List ℕ
text_of s [] = []
text_of s (this ∷ before) = text_of s before ++ text_at s (past_after s before) this

-- the last line
abbrev pub end_line : Summary → List ℕ
end_line summary = with_end (ended_text summary.events summary.taken summary.refused)

-- the text of a scenario's run
abbrev pub replayed : Script → List ℕ
replayed script = text_of script.setup (happenings script) ++ end_line (summary_of script.setup (happenings script))

-- the text of a file, or its fault
abbrev pub replay_text : List ℕ → Result (List ℕ) LineFault
replay_text = text_by scenario_of replayed
