-- The words of an entry, and the text of a record.
use Rattle.std.specs.Prelude.{ℕ, List, [], ◌∷◌, ◌++◌, codes, flat_map, map, Option, Some, None}
use Rattle.std.specs.Fmt.{decimal, signed_decimal}
use Rattle.safe_bit.specs.{Move}
use Rattle.safe_bit.specs.declared.Move.TheVariants.{BeginWrite, EndWrite, BeginRead, EndRead, Settle}
use Rattle.model.specs.{Access, Entry, Field, Mark, field_word}
use Rattle.plain_store.specs.{Answer, Reply, Setup, value_text}
use Rattle.plain_store.specs.declared.commands.Answer.TheVariants as answer
use Rattle.plain_store.specs.declared.commands.Reply.TheVariants as reply
use Rattle.model.specs.declared.marks.Mark.TheVariants as mark
use Rattle.scenario.specs.{BitLine, bit_line_words, bit_word, command_words, kind_words, open_words, printed_line, spaced}
use Rattle.scenario.specs.declared.bit_files.BitLine.TheVariants as line

-- a register between the dots of a copy
abbrev pub dotted_field : Field → List ℕ
dotted_field f = codes "." ++ (field_word f ++ codes ".")

-- the word of a copy of a bit: `0.ticket.3.1` is the copy for reader 1 of bit 3 of process 0's ticket
abbrev pub copy_word : Access → List ℕ
copy_word a = decimal a.owner ++ (codes "." ++ (field_word a.field ++ (codes "." ++ (decimal a.bit ++ (codes "." ++ decimal a.reader)))))

-- the line of a bits file for a move
abbrev pub line_of_move : Move → BitLine
line_of_move (BeginWrite v) = line.Write v
line_of_move EndWrite = line.End
line_of_move BeginRead = line.Read
line_of_move (EndRead v) = line.Value v
line_of_move (Settle v) = line.Settle v

-- the words of a move are those of bits files
abbrev pub move_words : Move → List (List ℕ)
move_words move = bit_line_words (line_of_move move)

-- the words of an access, if there is one
abbrev pub access_words : Option Access → List (List ℕ)
access_words None = []
access_words (Some a) = copy_word a ∷ move_words a.how

-- the words of a reply
abbrev pub reply_words : Reply → List (List ℕ)
reply_words (reply.Value v) = codes "value" ∷ value_text v ∷ []
reply_words reply.Done = codes "done" ∷ []
reply_words (reply.Sum n) = codes "sum" ∷ signed_decimal n ∷ []
reply_words reply.Swapped = codes "swapped" ∷ []
reply_words (reply.Kept v) = codes "kept" ∷ value_text v ∷ []
reply_words reply.NoName = codes "no-name" ∷ []
reply_words reply.NotCounter = codes "not-counter" ∷ []
reply_words reply.Overflow = codes "overflow" ∷ []
reply_words reply.StoreFull = codes "store-full" ∷ []
reply_words (reply.Last n) = codes "last" ∷ decimal n ∷ []

-- the words of the answer to a call
abbrev pub answer_words : Answer → List (List ℕ)
answer_words (answer.Reply r) = reply_words r
answer_words (answer.TicketsFull p) = codes "tickets-full" ∷ decimal p ∷ []
answer_words answer.StampsFull = codes "stamps-full" ∷ []
answer_words answer.Withdrawn = codes "withdrawn" ∷ []

-- the words of a mark: those that replays print for it
abbrev pub mark_words : Mark → List (List ℕ)
mark_words (mark.Called command) = codes "call" ∷ command_words command
mark_words (mark.Waiting ticket) = codes "wait" ∷ decimal ticket ∷ []
mark_words mark.Entered = codes "enter" ∷ []
mark_words (mark.Taken place reply) = codes "taken" ∷ decimal place ∷ reply_words reply
mark_words mark.Left = codes "leave" ∷ []
mark_words (mark.Answered answer) = codes "answer" ∷ answer_words answer
mark_words mark.Failed = codes "fail" ∷ []
mark_words (mark.Settled v) = codes "settled" ∷ bit_word v ∷ []
mark_words mark.Down = codes "down" ∷ []
mark_words mark.Withdrew = codes "withdraw" ∷ []
mark_words mark.Restarted = codes "restart" ∷ []

-- a mark after its sign, the word `:`
abbrev pub signed_words : Mark → List (List ℕ)
signed_words m = codes ":" ∷ mark_words m

-- The words of an entry: its process, its access if there is one, and its marks, each after its sign.
abbrev pub entry_words : Entry → List (List ℕ)
entry_words e = decimal e.process ∷ (access_words e.access ++ flat_map signed_words e.marks)

-- words, each after a space
abbrev pub behind_spaces : List (List ℕ) → List ℕ
behind_spaces = flat_map (λ w. codes " " ++ w)

-- the text of an access
abbrev pub access_text : Access → List ℕ
access_text a = copy_word a ++ (codes " " ++ spaced (move_words a.how))

-- the text of a process and its access
abbrev pub front_text : ℕ → Option Access → List ℕ
front_text p access = decimal p ++ behind_spaces (access_words access)

-- the text of marks, as it follows the process and the access
abbrev pub marks_text : List Mark → List ℕ
marks_text marks = behind_spaces (flat_map signed_words marks)

-- the text of a move, as it follows that of its bit
abbrev pub move_text : Move → List ℕ
move_text how = behind_spaces (move_words how)

-- the line of an entry, with its end
abbrev pub entry_line : Entry → List ℕ
entry_line e = printed_line (entry_words e)

-- the entry of a Step of a process with this access and no mark
abbrev pub step_entry : ℕ → Access → Entry
step_entry p access = record { process = p; access = Some access; marks = [] }

-- the words of the lines before the entries: the version, the four headings, the opening pairs
abbrev pub head_words : Setup → List (List (List ℕ))
head_words s = kind_words (codes "record") s ++ map open_words s.opening

-- the text of a record: the head, and a line for each entry, the oldest first
abbrev pub record_text : Setup → List Entry → List ℕ
record_text s entries = flat_map printed_line (head_words s) ++ flat_map entry_line entries
