-- The items of a run's picture: its lines, and the accesses of its entries or the reads that writes overlapped, as far as they are shown.
use Rattle.std.specs.Prelude.{ℕ, suc, ◌+◌, ◌-◌, List, [], ◌∷◌, ◌++◌, length, map, Option, None, Some}
use Rattle.model.specs.plain_store.{Setup}
use Rattle.model.specs.{Entry, Past, Refusal, entry_of, process_of, refused}
use Rattle.model.specs.declared.refusals.Refusal.TheVariants.{NoProcess}
use Rattle.scenario.specs.{Script, open_words, setup_words}
use Rattle.scenario.specs.declared.lines.Line.{Line as ScenarioLine}
use Rattle.scenario_run.specs.{Happening, Lacks, Looks, Run, Summary, Tires, Tries, happenings, newest_store, newest_words, past_after, run_after, run_at_start, summary_of}
use Rattle.draw.specs.Items.{Gives, Part, PartEntry, PartLine, Says, SaysEnd, SaysRefusal, SaysStore, SaysTired, given_last, lines_given, reads_since}
use Rattle.draw.specs.declared.views.AccessView.{AccessView}

-- the part that an event becomes: the entry that it adds, or the reason why it adds none
abbrev pub part_of_event : ℕ → Option Refusal → Option Entry → List Part
part_of_event p refusal (Some e) = PartEntry e ∷ []
part_of_event p (Some refusal) None = PartLine (SaysRefusal p refusal) ∷ []
part_of_event p None None = []

-- the part that a happening becomes after these entries
abbrev pub parts_at : Setup → Past → Happening → List Part
parts_at s past (Tries event) = part_of_event (process_of event) (refused s past event) (entry_of s past event)
parts_at s past (Lacks p) = PartLine (SaysRefusal p NoProcess) ∷ []
parts_at s past (Tires p) = PartLine (SaysTired p) ∷ []
parts_at s past Looks = PartLine (SaysStore (newest_words (newest_store s past))) ∷ []

-- the parts of a run
abbrev pub parts_of : Setup → List Happening → List Part
parts_of s [] = []
parts_of s (this ∷ before) = parts_at s (past_after s before) this ++ parts_of s before

-- the items that parts give which a line of the printed scenario has added to others
abbrev pub given_from : AccessView → Setup → ℕ → List Part → List Part → List Gives
given_from view s n before parts = given_last view s n (length parts - length before) parts

-- the items of lines of a scenario, the first of which has this number among those of the printed one
abbrev pub given_by : AccessView → Setup → ℕ → List ScenarioLine → Run → List Gives
given_by view s n [] run = []
given_by view s n (line ∷ lines) run = given_from view s n (parts_of s run.happened) (parts_of s (run_after s line run).happened) ++ given_by view s (suc n) lines (run_after s line run)

-- the last line
abbrev pub says_end : Summary → Says
says_end summary = SaysEnd summary.events summary.taken summary.refused

-- the items of the end, which the line after the last one of the printed scenario makes
abbrev pub given_at_end : AccessView → Setup → ℕ → List Happening → List Gives
given_at_end view s n happened = lines_given view.reads n (length (past_after s happened)) (reads_since s (parts_of s happened)) (says_end (summary_of s happened) ∷ [])

-- the number of the first line of a printed scenario after its headings and opening pairs, from 1
abbrev pub first_line : Setup → ℕ
first_line s = length (setup_words s ++ map open_words s.opening) + 1

-- the items of a whole run
abbrev pub run_given : AccessView → Script → List Gives
run_given view script =
    given_by view script.setup (first_line script.setup) script.lines run_at_start ++ given_at_end view script.setup (first_line script.setup + length script.lines) (happenings script)
