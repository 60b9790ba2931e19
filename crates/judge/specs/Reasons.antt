-- The reasons of a bad verdict on a record of this project's lock, by looking back over the entries before it.
use Rattle.std.specs.Prelude.{◌≡◌, ◌<◌, ◌^◌, ℕ, Bool, false, true, ◌&&◌, List, [], ◌++◌, codes, cond, length, Option, Some, None, is_none}
use Rattle.std.specs.Option.{is_some}
use Rattle.std.specs.Str.{bytes_eq}
use Rattle.plain_store.specs.{Setup}
use Rattle.model.specs.{Entry, Event, Past, Refusal, Stage, entry_of, has, refusal_text, refused}
use Rattle.model.specs.declared.events.Event.TheVariants.{Step}
use Rattle.auditor.specs.world.{stage_in}
use Rattle.auditor.specs.{AuditorState, Law, OfObserved, event_in, reports_event}
use Rattle.judge.specs.ReasonLines.{bad_lines, named_entry, stage_line, word_line}

-- the entry that an event adds, unless it is refused
abbrev pub may_line : Option Entry → List ℕ
may_line None = []
may_line (Some e) = named_entry (codes "may") e

-- a line and another one, unless they are the same
abbrev pub without_twin : List ℕ → List ℕ → List ℕ
without_twin line other = line ++ cond (bytes_eq line other) [] other

-- the entry that a Step of a process adds: with flick 0, and with flick 1 if that is another entry
abbrev pub may_lines : Setup → Past → ℕ → List ℕ
may_lines s past p = without_twin (may_line (entry_of s past (Step p false))) (may_line (entry_of s past (Step p true)))

-- why an event is refused, if it is
abbrev pub refusal_line : Option Refusal → List ℕ
refusal_line None = []
refusal_line (Some r) = word_line (codes "refused") (refusal_text r)

-- the event of an entry: that of its mark, or otherwise a Step
abbrev pub event_or_step : Entry → Event
event_or_step e = elim (event_in e) as (λ _. Event) [ None ↦ Step e.process false | Some event ↦ event ]

-- its process exists, and the mark of an event other than a Step is not alone
abbrev pub is_crowded : Option Stage → Entry → Bool
is_crowded stage e = is_some stage && is_none (event_in e) && has reports_event e

-- why an entry is refused, if it is
abbrev pub refused_line : Setup → Past → Entry → List ℕ
refused_line s past e = cond (is_crowded (stage_in s past e.process) e) (word_line (codes "refused") (codes "not-alone")) (refusal_line (refused s past (event_or_step e)))

-- The lines of the reasons of an entry in line n: that line and the entry, and then the entries that a Step would add there. They end with the reason why the entry is refused and the stage of its process.
abbrev pub reason_lines : Setup → Past → ℕ → Entry → List ℕ
reason_lines s past n e = bad_lines n e ++ (may_lines s past e.process ++ (refused_line s past e ++ stage_line (stage_in s past e.process)))

-- these are the lines of the reasons, for every law
abbrev pub AreReasons : Law → Setup → Past → ℕ → Entry → List ℕ → Type 0
AreReasons l s past n e lines = lines ≡ reason_lines s past n e

-- these lines, which depend on the past that an auditor has observed, were appended to a text
abbrev pub Writes : AuditorState → (Setup → Past → List ℕ) → (old new : List ℕ) → Type 0
Writes a lines old new = OfObserved a (λ s past. length past < 2 ^ 64 → new ≡ old ++ lines s past)
