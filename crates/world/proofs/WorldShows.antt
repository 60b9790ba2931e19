-- A world whose state is that after one more entry shows the event that adds the entry.
use Rattle.std.proofs.Common.{◌≡◌, ℕ, ◌&&◌, true, List, [], ◌∷◌, ◌++◌, Option, Some, None, map, refl, sym, ap, subst}
use Rattle.std.specs.Prelude.{Ok}
use Rattle.plain_store.specs.{Reply, Setup, checked}
use Rattle.model.specs.{AreGiven, Entry, Event, Mark, Past, Taken, call_number, entry_of, history, is_event, last_call, last_command, own, past_of, placed, reply_taken}
use Rattle.model.specs.declared.marks.Mark.TheVariants as mark
use Rattle.world.specs.{with_taken}
use Rattle.world.specs.Shows.{Shows, WorldState, world_of}

-- the past after an event has added its entry
pub past-after : (s : Setup) (events : List Event) (what : Event) (e : Entry) → entry_of s (past_of s events) what ≡ Some e → past_of s (what ∷ events) ≡ e ∷ past_of s events
past-after s events what e h = ap (λ o. elim o as (λ _. Past) [ None ↦ past_of s events | Some x ↦ x ∷ past_of s events ]) h

-- the events stay such as their types allow
given-more : (s : Setup) (events : List Event) (what : Event) → AreGiven s events → is_event what ≡ true → AreGiven s (what ∷ events)
given-more s events what g h = record { opening = g.opening; commands = λ i. h i && g.commands i }

-- a world whose state is that after the past with the entry shows the event
pub shows-on : (s : Setup) → checked s ≡ Ok tt → (events : List Event) (what : Event) (e : Entry) → entry_of s (past_of s events) what ≡ Some e → AreGiven s events → is_event what ≡ true →
    (w : WorldState) → w ≡ world_of s (e ∷ past_of s events) → Shows w (what ∷ events)
shows-on s good events what e h g is w shown = subst (λ w. Shows w (what ∷ events)) (sym shown)
    (record { good = good; given = given-more s events what g is; shown = ap (world_of s) (sym (past-after s events what e h)) })

-- the reply of a command that is taken does not depend on its position
pub reply-placed : (k : ℕ) (ms : List Mark) → reply_taken (map (placed k) ms) ≡ reply_taken ms
reply-placed k [] = refl
reply-placed k (mark.Taken i r ∷ ms) = refl
reply-placed k (m ∷ ms) = reply-placed k ms

-- the history with the command that an entry takes
pub history-then : (s : Setup) (past : Past) (e : Entry) → history s (e ∷ past) ≡ with_taken (history s past) e.process (last_command (own e.process past)) (call_number s (own e.process past)) (reply_taken e.marks)
history-then s past e = go (reply_taken e.marks)
  where
    go : (o : Option Reply) → elim o as (λ _. List Taken) [
      | None ↦ history s past
      | Some r ↦ history s past ++ record { process = e.process; command = (last_call s e.process (own e.process past)).command; reply = r; number = (last_call s e.process (own e.process past)).number } ∷ []
    ] ≡ with_taken (history s past) e.process (last_command (own e.process past)) (call_number s (own e.process past)) o
    go None = refl
    go (Some r) = refl
