-- The entry that the words of a line specify, or its first fault in the order of faults.
use Rattle.std.specs.Prelude.{ℕ, ◌+◌, ◌-◌, ◌^◌, ◌==◌, nat_lt, Bool, not, List, [], ◌∷◌, ◌++◌, length, codes, Option, Some, None, Result, Ok, Err, ◌≡◌, MatchOption, true}
use Rattle.std.specs.Borrow.{Bor}
use Rattle.std.specs.List.{slice_split}
use Rattle.std.specs.Str.{bytes_eq}
use Rattle.safe_bit.specs.{Move}
use Rattle.safe_bit.specs.declared.Move.TheVariants as move
use Rattle.model.specs.{Access, Entry, Field, Mark}
use Rattle.plain_store.specs.{Answer, Reply}
use Rattle.plain_store.specs.declared.commands.Answer.TheVariants as answer
use Rattle.plain_store.specs.declared.commands.Reply.TheVariants as reply
use Rattle.files.specs.{FaultKind, counted, fault_if, known, texts, word, ◌>>=◌}
use Rattle.files.specs.declared.faults.FaultKind.TheVariants.{Unknown, Words}
use Rattle.model.specs.declared.marks.Mark.TheVariants as mark
use Rattle.scenario.specs.{BitWord, Verb, bit_word_of, command_of, integer_at, number_at, one_bit_of, operand_count, value_at, verb_of}
use Rattle.scenario.specs.declared.bit_files.BitWord.TheVariants as bits
use Rattle.scenario.specs.declared.keywords.Verb.TheVariants as verb
use Rattle.record_file.specs.Faults.{both}
use Rattle.record_file.specs.Keywords.{field_of, mark_word_of, reply_word_of, answer_word_of}
use Rattle.record_file.specs.declared.keywords.AnswerWord.{AnswerWord}
use Rattle.record_file.specs.declared.keywords.AnswerWord.TheVariants as answer_word
use Rattle.record_file.specs.declared.keywords.MarkWord.{MarkWord}
use Rattle.record_file.specs.declared.keywords.MarkWord.TheVariants as mark_word
use Rattle.record_file.specs.declared.keywords.ReplyWord.{ReplyWord}
use Rattle.record_file.specs.declared.keywords.ReplyWord.TheVariants as reply_word

-- the parts of a word between its dots
abbrev pub dotted : List ℕ → List (List ℕ)
dotted = slice_split (λ b. b == 46)

-- a word has these four parts, or another number of them
abbrev pub AreFourParts : Option (Bor (List ℕ) × Bor (List ℕ) × Bor (List ℕ) × Bor (List ℕ)) → List ℕ → Type 0
AreFourParts reported word = MatchOption reported (not (length (dotted word) == 4) ≡ true) (λ parts. dotted word ≡ parts.0.now ∷ parts.1.now ∷ parts.2.now ∷ parts.3.now ∷ [])

-- the register that the word of a copy names: it has four parts, of which the second is a register's word
abbrev pub field_at : List (List ℕ) → Result Field FaultKind
field_at parts = fault_if (not (length parts == 4)) Unknown >>= λ four. known (field_of (word 1 parts))

-- a move that consists of its first word alone
abbrev pub lone_move_of : Move → List (List ℕ) → Result Move FaultKind
lone_move_of how words = counted 0 words >>= λ counts. Ok how

-- the move that words specify: the words are those of bits files, except `bits` and `drop`
abbrev pub move_of : BitWord → List (List ℕ) → Result Move FaultKind
move_of bits.Write words = one_bit_of words >>= λ v. Ok (move.BeginWrite v)
move_of bits.End words = lone_move_of move.EndWrite words
move_of bits.Read words = lone_move_of move.BeginRead words
move_of bits.Value words = one_bit_of words >>= λ v. Ok (move.EndRead v)
move_of bits.Settle words = one_bit_of words >>= λ v. Ok (move.Settle v)
move_of bits.Bits words = Err Unknown
move_of bits.Drop words = Err Unknown

-- a copy of a bit, by the four parts of its word, and the move on it
unfoldable pub copy_of : List (List ℕ) → Field → Move → Result Access FaultKind
copy_of parts field how = do
  owner ← number_at 255 (word 0 parts)
  bit ← number_at 65535 (word 2 parts)
  reader ← number_at 255 (word 3 parts)
  Ok (record { owner = owner; field = field; bit = bit; reader = reader; how = how })

-- the access that words specify: a copy of a bit, and a move; without words, no access
unfoldable pub access_of : List (List ℕ) → Result (Option Access) FaultKind
access_of [] = Ok None
access_of (copy ∷ []) = do
  field ← field_at (dotted copy)
  Err Words
access_of (copy ∷ name ∷ operands) = do
  field ← field_at (dotted copy)
  known_move ← known (bit_word_of name)
  how ← move_of known_move operands
  access ← copy_of (dotted copy) field how
  Ok (Some access)

-- numbers come before names in the order of faults: the number of an `add` is looked at before its name
abbrev pub sum_first : Verb → List (List ℕ) → Result (Unit {0}) FaultKind
sum_first verb.Add operands = integer_at (word 1 operands) >>= λ by. Ok tt
sum_first v operands = Ok tt

-- `call COMMAND`: any command, in either version
unfoldable pub called_of : List (List ℕ) → Result Mark FaultKind
called_of [] = Err Words
called_of (v ∷ operands) = do
  verb ← known (verb_of v)
  counts ← counted (operand_count verb) operands
  sum ← sum_first verb operands
  command ← command_of verb operands
  Ok (mark.Called command)

-- the number of words after the first word of a reply
abbrev pub reply_count : ReplyWord → ℕ
reply_count reply_word.Value = 1
reply_count reply_word.Sum = 1
reply_count reply_word.Kept = 1
reply_count reply_word.Last = 1
reply_count name = 0

-- a reply, by the words after its first, exactly as many as it takes
abbrev pub reply_of : ReplyWord → List (List ℕ) → Result Reply FaultKind
reply_of reply_word.Value words = value_at (word 0 words) >>= λ v. Ok (reply.Value v)
reply_of reply_word.Done words = Ok reply.Done
reply_of reply_word.Sum words = integer_at (word 0 words) >>= λ n. Ok (reply.Sum n)
reply_of reply_word.Swapped words = Ok reply.Swapped
reply_of reply_word.Kept words = value_at (word 0 words) >>= λ v. Ok (reply.Kept v)
reply_of reply_word.NoName words = Ok reply.NoName
reply_of reply_word.NotCounter words = Ok reply.NotCounter
reply_of reply_word.Overflow words = Ok reply.Overflow
reply_of reply_word.StoreFull words = Ok reply.StoreFull
reply_of reply_word.Last words = number_at 65535 (word 0 words) >>= λ n. Ok (reply.Last n)

-- `taken PLACE REPLY`
unfoldable pub taken_of : List (List ℕ) → Result Mark FaultKind
taken_of [] = Err Words
taken_of (p ∷ []) = Err Words
taken_of (p ∷ r ∷ operands) = do
  name ← known (reply_word_of r)
  counts ← counted (reply_count name) operands
  place ← number_at (2 ^ 64 - 1) p
  reply ← reply_of name operands
  Ok (mark.Taken place reply)

-- the number of words after the first word of an answer
abbrev pub answer_count : AnswerWord → ℕ
answer_count (answer_word.Reply name) = reply_count name
answer_count answer_word.TicketsFull = 1
answer_count answer_word.StampsFull = 0
answer_count answer_word.Withdrawn = 0

-- an answer, by the words after its first, exactly as many as it takes
abbrev pub answer_of : AnswerWord → List (List ℕ) → Result Answer FaultKind
answer_of (answer_word.Reply name) words = reply_of name words >>= λ r. Ok (answer.Reply r)
answer_of answer_word.TicketsFull words = number_at 255 (word 0 words) >>= λ p. Ok (answer.TicketsFull p)
answer_of answer_word.StampsFull words = Ok answer.StampsFull
answer_of answer_word.Withdrawn words = Ok answer.Withdrawn

-- `answer ANSWER`
unfoldable pub answered_of : List (List ℕ) → Result Mark FaultKind
answered_of [] = Err Words
answered_of (a ∷ operands) = do
  name ← known (answer_word_of a)
  counts ← counted (answer_count name) operands
  answer ← answer_of name operands
  Ok (mark.Answered answer)

-- `wait TICKET`
abbrev pub waiting_of : List (List ℕ) → Result Mark FaultKind
waiting_of words = counted 1 words >>= λ counts. number_at (2 ^ 32 - 1) (word 0 words) >>= λ ticket. Ok (mark.Waiting ticket)

-- a mark that consists of its first word alone
abbrev pub lone_mark_of : Mark → List (List ℕ) → Result Mark FaultKind
lone_mark_of m words = counted 0 words >>= λ counts. Ok m

-- a mark, by its first word and the words after it
abbrev pub named_mark_of : MarkWord → List (List ℕ) → Result Mark FaultKind
named_mark_of mark_word.Call words = called_of words
named_mark_of mark_word.Wait words = waiting_of words
named_mark_of mark_word.Enter words = lone_mark_of mark.Entered words
named_mark_of mark_word.Taken words = taken_of words
named_mark_of mark_word.Leave words = lone_mark_of mark.Left words
named_mark_of mark_word.Answer words = answered_of words
named_mark_of mark_word.Fail words = lone_mark_of mark.Failed words
named_mark_of mark_word.Settled words = one_bit_of words >>= λ v. Ok (mark.Settled v)
named_mark_of mark_word.Down words = lone_mark_of mark.Down words
named_mark_of mark_word.Withdraw words = lone_mark_of mark.Withdrew words
named_mark_of mark_word.Restart words = lone_mark_of mark.Restarted words

-- the mark that the words after a sign specify
abbrev pub mark_of : List (List ℕ) → Result Mark FaultKind
mark_of [] = Err Words
mark_of (name ∷ operands) = known (mark_word_of name) >>= λ m. named_mark_of m operands

-- the sign before each mark, the word `:`
abbrev pub is_sign : List ℕ → Bool
is_sign w = bytes_eq w (codes ":")

-- the parts of a line between the signs
abbrev pub parts_of : List (List ℕ) → List (List (List ℕ))
parts_of = slice_split is_sign

-- the parts of the words after a sign, if there is a sign
abbrev pub parts_behind : Option (Bor (List (Bor (List ℕ)))) → List (List (List ℕ))
parts_behind None = []
parts_behind (Some words) = parts_of (texts words.now)

-- one more mark after n others: a line has at most three marks
abbrev pub with_mark : ℕ → Result (List Mark) FaultKind → Result Mark FaultKind → Result (List Mark) FaultKind
with_mark n before m = both (both before m) (fault_if (not (nat_lt n 3)) Words) >>= λ read. Ok (read.0.0 ++ read.0.1 ∷ [])

-- the marks of some parts, after n others
abbrev pub marks_read : ℕ → List (List (List ℕ)) → Result (List Mark) FaultKind → Result (List Mark) FaultKind
marks_read n [] before = before
marks_read n (part ∷ parts) before = marks_read (n + 1) parts (with_mark n before (mark_of part))

-- the marks of the parts after an access
abbrev pub marks_behind : Option (Bor (List (Bor (List ℕ)))) → Result (List Mark) FaultKind
marks_behind words = marks_read 0 (parts_behind words) (Ok [])

-- an entry of a process, an access and marks
abbrev pub entry_with : Result ℕ FaultKind → Result (Option Access) FaultKind → Result (List Mark) FaultKind → Result Entry FaultKind
entry_with process access marks = both (both process access) marks >>= λ read. Ok (record { process = read.0.0; access = read.0.1; marks = read.1 })

-- an entry, by its first word and the parts after it: the first part is the access, each other part is a mark
abbrev pub entry_by : List ℕ → List (List (List ℕ)) → Result Entry FaultKind
entry_by process [] = Err Words
entry_by process (access ∷ marks) = entry_with (number_at 255 process) (access_of access) (marks_read 0 marks (Ok []))

-- The entry that a line specifies, by its first word and the words after it.
abbrev pub entry_of : List ℕ → List (List ℕ) → Result Entry FaultKind
entry_of process words = entry_by process (parts_of words)
