-- The calls of a process, as its port lists them, and the changes of the store.
use Rattle.std.specs.Prelude.{◌≡◌, ℕ, ◌==◌, cond, List, [], ◌∷◌, ◌++◌, fold, Option, None, Some, option_map}
use Rattle.plain_store.specs.{Answer, Command, Contents, Setup, after, changes, opening_store}
use Rattle.model.specs.{Mark, Past, Placed, Taken, history}
use Rattle.model.specs.declared.marks.Mark.TheVariants.{Called, Answered, Down}
use Rattle.model.specs.declared.marks.Mark.TheVariants as mark
use Rattle.history_laws.specs.{changes_taken}

-- the commands that change the store, when all are taken in this order
abbrev pub changing : Contents → List Taken → List Taken
changing store [] = []
changing store (t ∷ taken) =
    let next = after store t.command (record { process = t.process; number = t.number }) in
    cond (changes store t.command) (t ∷ changing next taken) (changing next taken)

-- the list of changes of a past
abbrev pub changes_of : Setup → Past → List Taken
changes_of s past = changing (opening_store s) (history s past)

-- the list begins with these changes
abbrev pub IsPrefix : List Taken → List Taken → Type 0
IsPrefix first all = (rest : List Taken) × (all ≡ first ++ rest)

-- the finished calls of a process, in order, and the unfinished one, if there is one
pub record Calls : Type 0 where
  pub done : List Placed
  pub now : Option Placed

-- a process that has not called
abbrev pub no_calls : Calls
no_calls = record { done = []; now = None }

-- a call of this command that has begun
abbrev pub called : Command → Placed
called command = record { command = command; answer = None; place = None }

-- these finished calls, followed by this one, if there is one
abbrev pub and_then : List Placed → Option Placed → List Placed
and_then done None = done
and_then done (Some call) = done ++ call ∷ []

-- the unfinished call was taken at this position
abbrev pub with_place : Option ℕ → Calls → Calls
with_place place calls = record calls { now = option_map (λ (call : Placed). record call { place = place }) calls.now }

-- the unfinished call has this answer
abbrev pub with_answer : Answer → Calls → Calls
with_answer answer calls = record calls { now = option_map (λ (call : Placed). record call { answer = Some answer }) calls.now }

-- the unfinished call is finished
abbrev pub finished : Calls → Calls
finished calls = record { done = and_then calls.done calls.now; now = None }

-- the calls after a mark, if `place` changes were taken before: a call is finished when it is answered, or when the process is down
abbrev pub calls_after : ℕ → Calls → Mark → Calls
calls_after place calls (Called command) = record calls { now = Some (called command) }
calls_after place calls (mark.Taken _ reply) = with_place (Some place) calls
calls_after place calls (Answered answer) = finished (with_answer answer calls)
calls_after place calls Down = finished calls
calls_after place calls _ = calls

-- the calls of a process in a past
abbrev pub calls_of : Setup → ℕ → Past → Calls
calls_of s p [] = no_calls
calls_of s p (e ∷ past) = cond (e.process == p) (fold (calls_after (changes_taken s past)) (calls_of s p past) e.marks) (calls_of s p past)
