-- The state of all processes after lines: the queue, the word of each bar, and the change by a line.
use Rattle.std.specs.Prelude.{◌≡◌, ℕ, zero, suc, ◌+◌, ◌-◌, ◌^◌, min, Bool, true, false, ◌==◌, cond, nat_le, nat_lt, List, [], ◌∷◌, ◌++◌, get_or, length, map, replicate, set, take, Option, None, Some}
use Rattle.model.specs.{Mark, Stage, is_in_doorway, is_waiting_stage}
use Rattle.model.specs.declared.marks.Mark.TheVariants as mark
use Rattle.model.specs.declared.stages.Stage.TheVariants as stage
use Rattle.picture_layout.specs.Stages.{nothing_reported, stage_among, stages_marked, stages_reported}
use Rattle.trace.specs.{LockMark}
use Rattle.trace.specs.declared.marks.LockMark.TheVariants as lock
use Rattle.picture_layout.specs.LockLines.{like}
use Rattle.picture_layout.specs.declared.groups.ProcessGroup.{ProcessGroup}
use Rattle.picture_layout.specs.declared.seats.ProcessDetails.{ProcessDetails}
use Rattle.picture_layout.specs.declared.state.State.{State}
use Rattle.picture_layout.specs.declared.groups.BarWord.{BarWord}
use Rattle.picture_layout.specs.declared.groups.BarWord.TheVariants as word
use Rattle.picture_layout.specs.declared.line_contents.LineContent.{LineContent}
use Rattle.picture_layout.specs.declared.line_contents.LineContent.TheVariants.{LockMarked, Marked}

-- the seat of a process before it has a ticket
abbrev pub no_seat : ProcessDetails
no_seat = record { ticket = 0; awaits = replicate 16 false }

-- before the first line
abbrev pub at_first : ℕ → State
at_first processes = record { processes = processes; stages = nothing_reported; seats = replicate 16 no_seat; inside = None; places = 0 }

-- the ticket of a process, or 0 if it has none
abbrev pub ticket_in : State → ℕ → ℕ
ticket_in state p = (get_or state.seats p no_seat).ticket

-- the queue with one more process, which comes after those whose tickets are not above its own
abbrev pub lined_up : State → ℕ → List ℕ → List ℕ
lined_up state p [] = p ∷ []
lined_up state p (q ∷ line) = cond (nat_le (ticket_in state q) (ticket_in state p)) (q ∷ lined_up state p line) (p ∷ q ∷ line)

-- the queue of the first p processes: those with a ticket, ascending by ticket, and by number if tickets are equal
abbrev pub line_of_first : State → ℕ → List ℕ
line_of_first state zero = []
line_of_first state (suc p) = cond (ticket_in state p == 0) (line_of_first state p) (lined_up state p (line_of_first state p))

-- the processes with a ticket, in the order in which the lock serves them
abbrev pub queue_of : State → List ℕ
queue_of state = line_of_first state state.processes

-- the processes before a process in a queue
abbrev pub before_in : ℕ → List ℕ → List ℕ
before_in p [] = []
before_in p (q ∷ line) = cond (q == p) [] (q ∷ before_in p line)

-- the processes after a process in a queue
abbrev pub behind_in : ℕ → List ℕ → List ℕ
behind_in p [] = []
behind_in p (q ∷ line) = cond (q == p) line (behind_in p line)

-- the first of these processes that waits
abbrev pub first_waiting : List Stage → List ℕ → Option ℕ
first_waiting stages [] = None
first_waiting stages (q ∷ line) = cond (is_waiting_stage (stage_among stages q)) (Some q) (first_waiting stages line)

-- the process that is freed when a process gives up its ticket: the first after it in the queue that waits
abbrev pub freed_in : State → ℕ → Option ℕ
freed_in state p = first_waiting state.stages (behind_in p (queue_of state))

-- the indexes at which a list is true, if its first index is k
abbrev pub places_from : ℕ → List Bool → List ℕ
places_from k [] = []
places_from k (said ∷ more) = cond said (k ∷ places_from (k + 1) more) (places_from (k + 1) more)

-- the processes whose doorways a process still awaits
abbrev pub awaited_in : State → ℕ → List ℕ
awaited_in state p = places_from 0 (get_or state.seats p no_seat).awaits

-- a group of processes: their number, or 255 if it is greater, and the first three
abbrev pub group_of : List ℕ → ProcessGroup
group_of some = record { count = min (length some) 255; first = take 3 (some ++ 0 ∷ 0 ∷ 0 ∷ []) }

-- the processes of a group, followed by these
abbrev pub GroupGrows : ProcessGroup → List ℕ → ProcessGroup → Type 0
GroupGrows group more then = (some : List ℕ) → group ≡ group_of some → then ≡ group_of (some ++ more)

-- the word of the bar of a waiting process, given the processes before it and those that it awaits
abbrev pub word_of_waiting : List ℕ → List ℕ → BarWord
word_of_waiting [] [] = word.Is stage.Waiting
word_of_waiting [] (q ∷ others) = word.Awaits (group_of (q ∷ others))
word_of_waiting (q ∷ others) awaited = word.Behind (group_of (q ∷ others))

-- that word, given both lists of processes as groups
abbrev pub IsWordOfWaiting : ProcessGroup → ProcessGroup → BarWord → Type 0
IsWordOfWaiting behind awaits said = (before awaited : List ℕ) → behind ≡ group_of before → awaits ≡ group_of awaited → said ≡ word_of_waiting before awaited

-- the word of the bar of a process, by its stage
abbrev pub word_by : Stage → BarWord → BarWord
word_by stage.Idle waiting = word.Nothing
word_by stage.Leaving waiting = word.Nothing
word_by stage.Waiting waiting = waiting
word_by other waiting = word.Is other

-- the word of the bar of a process
abbrev pub word_of : State → ℕ → BarWord
word_of state p = word_by (stage_among state.stages p) (word_of_waiting (before_in p (queue_of state)) (awaited_in state p))

-- a seat that no longer awaits process p
abbrev pub not_awaiting : ℕ → ProcessDetails → ProcessDetails
not_awaiting p seat = record { ticket = seat.ticket; awaits = set seat.awaits p false }

-- the seats after process p has another ticket
abbrev pub ticket_set : List ProcessDetails → ℕ → ℕ → List ProcessDetails
ticket_set seats p ticket = set seats p (record { ticket = ticket; awaits = (get_or seats p no_seat).awaits })

-- the tickets and the awaited processes after a mark of a process, with these stages after it
abbrev pub seats_by : List Stage → List ProcessDetails → ℕ → Mark → List ProcessDetails
seats_by stages seats p (mark.Waiting ticket) = set seats p (record { ticket = ticket; awaits = map is_in_doorway stages })
seats_by stages seats p mark.Left = ticket_set seats p 0
seats_by stages seats p (mark.Answered answer) = ticket_set seats p 0
seats_by stages seats p mark.Down = ticket_set seats p 0
seats_by stages seats p _ = seats

-- whether a mark changes the stage of its process
abbrev pub goes_on : Mark → Bool
goes_on (mark.Taken place reply) = false
goes_on (mark.Settled value) = false
goes_on _ = true

-- the tickets and the awaited processes after a mark; if its process changes its stage, no process awaits it any more
abbrev pub seats_marked : List Stage → List ProcessDetails → ℕ → Mark → List ProcessDetails
seats_marked stages seats p mark = cond (goes_on mark) (seats_by stages (map (not_awaiting p) seats) p mark) seats

-- a state with those tickets and awaited processes
abbrev pub with_seats_by : State → ℕ → Mark → State
with_seats_by state p mark = record state { seats = seats_by state.stages state.seats p mark }

abbrev pub with_seats_marked : State → ℕ → Mark → State
with_seats_marked state p mark = record state { seats = seats_marked state.stages state.seats p mark }

-- the process inside after a mark
abbrev pub inside_marked : Option ℕ → ℕ → Mark → Option ℕ
inside_marked inside p mark.Entered = Some p
inside_marked inside p mark.Left = None
inside_marked inside p _ = inside

-- the number of positions after a mark, or the greatest number of 64 bits if it is greater
abbrev pub places_marked : ℕ → Mark → ℕ
places_marked places (mark.Taken place reply) = min (places + 1) (2 ^ 64 - 1)
places_marked places _ = places

-- the state after a mark of a process
abbrev pub state_marked : State → ℕ → Mark → State
state_marked state p mark = record {
  processes = state.processes;
  stages = stages_marked state.stages p mark;
  seats = seats_marked (stages_marked state.stages p mark) state.seats p mark;
  inside = inside_marked state.inside p mark;
  places = places_marked state.places mark;
}

-- a state without a ticket of a process, which awaits no process
abbrev pub with_no_seat : State → ℕ → State
with_no_seat state p = record state { seats = set state.seats p no_seat }

-- the state after a mark of a process in a trace, which has no tickets: as after the mark that it is drawn like
abbrev pub state_lock_marked : State → ℕ → LockMark → State
state_lock_marked state p lock.Wait = with_no_seat (state_marked state p (like lock.Wait)) p
state_lock_marked state p mark = state_marked state p (like mark)

-- the stages after a line
abbrev pub stages_next : State → LineContent → List Stage
stages_next state = stages_reported state.processes state.stages

-- the state after a line
abbrev pub state_reported : State → LineContent → State
state_reported state (Marked p mark change) = cond (nat_lt p state.processes) (state_marked state p mark) state
state_reported state (LockMarked p mark) = cond (nat_lt p state.processes) (state_lock_marked state p mark) state
state_reported state _ = state

-- whether a mark gives up the ticket of its process
abbrev pub lets_go : Mark → Bool
lets_go mark.Left = true
lets_go (mark.Answered answer) = true
lets_go mark.Down = true
lets_go _ = false

-- the process that is freed by the process of a line
abbrev pub freed_by : State → LineContent → Option ℕ
freed_by state (Marked p mark change) = elim (nat_lt p state.processes) [ true ↦ cond (lets_go mark) (freed_in state p) None | false ↦ None ]
freed_by state _ = None
