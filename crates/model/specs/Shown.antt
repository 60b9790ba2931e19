-- How marks, refusals, stages and registers are printed.
use Rattle.std.specs.Prelude.{ℕ, true, false, List, ◌++◌, codes}
use Rattle.std.specs.Fmt.{decimal}
use Rattle.plain_store.specs.{command_text, reply_text, answer_text}
use Rattle.model.specs.declared.access.Field.{Field}
use Rattle.model.specs.declared.access.Field.TheVariants.{Choosing, Ticket, Commit, Stamp0, Stamp1, Image0, Image1}
use Rattle.model.specs.declared.marks.Mark.{Mark}
use Rattle.model.specs.declared.marks.Mark.TheVariants.{Called, Waiting, Entered, Taken, Left, Answered, Failed, Settled, Down, Withdrew, Restarted}
use Rattle.model.specs.declared.refusals.Refusal.{Refusal}
use Rattle.model.specs.declared.refusals.Refusal.TheVariants.{NoProcess, Busy, IsDown, NotRunning, NotWaiting, AlreadyFailed, NotDown, CallsFull, Memory}
use Rattle.model.specs.declared.stages.Stage.{Stage}
use Rattle.model.specs.declared.stages.Stage.TheVariants as stage

-- a mark
abbrev pub mark_text : Mark → List ℕ
mark_text (Called command) = codes "call " ++ command_text command
mark_text (Waiting ticket) = codes "wait " ++ decimal ticket
mark_text Entered = codes "enter"
mark_text (Taken place reply) = codes "taken " ++ decimal place ++ codes " " ++ reply_text reply
mark_text Left = codes "leave"
mark_text (Answered answer) = codes "answer " ++ answer_text answer
mark_text Failed = codes "fail"
mark_text (Settled false) = codes "settled 0"
mark_text (Settled true) = codes "settled 1"
mark_text Down = codes "down"
mark_text Withdrew = codes "withdraw"
mark_text Restarted = codes "restart"

-- why an event is refused
abbrev pub refusal_text : Refusal → List ℕ
refusal_text NoProcess = codes "no-process"
refusal_text Busy = codes "busy"
refusal_text IsDown = codes "is-down"
refusal_text NotRunning = codes "not-running"
refusal_text NotWaiting = codes "not-waiting"
refusal_text AlreadyFailed = codes "already-failed"
refusal_text NotDown = codes "not-down"
refusal_text CallsFull = codes "calls-full"
refusal_text Memory = codes "memory"

-- a stage
abbrev pub stage_word : Stage → List ℕ
stage_word stage.Idle = codes "idle"
stage_word stage.Doorway = codes "doorway"
stage_word stage.Waiting = codes "waiting"
stage_word stage.Inside = codes "inside"
stage_word stage.Leaving = codes "leaving"
stage_word stage.Settling = codes "settling"
stage_word stage.Down = codes "down"

-- a register
abbrev pub field_word : Field → List ℕ
field_word Choosing = codes "choosing"
field_word Ticket = codes "ticket"
field_word Commit = codes "commit"
field_word Stamp0 = codes "stamp0"
field_word Stamp1 = codes "stamp1"
field_word Image0 = codes "image0"
field_word Image1 = codes "image1"

-- the line of a call, or another event, of a process that is refused
abbrev pub refusal_line : ℕ → Refusal → List ℕ
refusal_line p refusal = codes "- " ++ decimal p ++ codes " refused " ++ refusal_text refusal ++ codes "\n"
