-- How values, commands and answers are printed.
use Rattle.std.specs.Prelude.{ℕ, List, ◌++◌, codes}
use Rattle.std.specs.Fmt.{decimal, signed_decimal}
use Rattle.plain_store.specs.declared.commands.Answer.{Answer}
use Rattle.plain_store.specs.declared.commands.Answer.TheVariants as answer
use Rattle.plain_store.specs.declared.commands.Command.{Command}
use Rattle.plain_store.specs.declared.commands.Command.TheVariants as command
use Rattle.plain_store.specs.declared.commands.Reply.{Reply}
use Rattle.plain_store.specs.declared.commands.Reply.TheVariants as reply
use Rattle.plain_store.specs.declared.commands.Value.{Value}
use Rattle.plain_store.specs.declared.commands.Value.TheVariants.{Count, Text}

-- `c:5`, `t:hi`
abbrev pub value_text : Value → List ℕ
value_text (Count n) = codes "c:" ++ signed_decimal n
value_text (Text bytes) = codes "t:" ++ bytes

-- a command as a file has it after `call` and the process
abbrev pub command_text : Command → List ℕ
command_text (command.Read n) = codes "read " ++ n
command_text (command.Write n x) = codes "write " ++ n ++ codes " " ++ value_text x
command_text (command.Add n d) = codes "add " ++ n ++ codes " " ++ signed_decimal d
command_text (command.Cas n x y) = codes "cas " ++ n ++ codes " " ++ value_text x ++ codes " " ++ value_text y
command_text command.Ask = codes "ask"

-- a reply
abbrev pub reply_text : Reply → List ℕ
reply_text (reply.Value v) = codes "value " ++ value_text v
reply_text reply.Done = codes "done"
reply_text (reply.Sum n) = codes "sum " ++ signed_decimal n
reply_text reply.Swapped = codes "swapped"
reply_text (reply.Kept v) = codes "kept " ++ value_text v
reply_text reply.NoName = codes "no-name"
reply_text reply.NotCounter = codes "not-counter"
reply_text reply.Overflow = codes "overflow"
reply_text reply.StoreFull = codes "store-full"
reply_text (reply.Last n) = codes "last " ++ decimal n

-- the answer to a call
abbrev pub answer_text : Answer → List ℕ
answer_text (answer.Reply r) = reply_text r
answer_text (answer.TicketsFull p) = codes "tickets-full " ++ decimal p
answer_text answer.StampsFull = codes "stamps-full"
answer_text answer.Withdrawn = codes "withdrawn"
