-- The words of an entry are read as the entry for which they are printed.
use Rattle.std.proofs.Common.{◌≡◌, ℕ, zero, suc, ◌+◌, ◌-◌, ◌<◌, ◌≤◌, ◌^◌, ◌==◌, ◌&&◌, not, nat_lt, Bool, true, false, List, [], ◌∷◌, ◌++◌, length, map, flat_map, codes, Option, Some, None, Result, Ok, refl, ap, sym, ◌∙◌, arith, append-nil, append_assoc}
use Rattle.std.proofs.lemmas.Bool.{and_parts}
use Rattle.std.proofs.lemmas.Bool.Decides.{nat_tests}
use Rattle.std.proofs.lemmas.Fmt.{digits_decimal}
use Rattle.std.proofs.lemmas.List.Splits.{slice_split_none, slice_split_at}
use Rattle.std.specs.Char.{is_ascii_digit}
use Rattle.std.specs.Fmt.{decimal, signed_decimal}
use Rattle.std.specs.List.{All, list_all}
use Rattle.std.specs.Option.{ok_or}
use Rattle.safe_bit.specs.{Move}
use Rattle.safe_bit.specs.declared.Move.TheVariants as move
use Rattle.model.specs.{Access, Entry, Field, Mark, field_word}
use Rattle.model.specs.declared.access.Field.TheVariants.{Choosing, Ticket, Commit, Stamp0, Stamp1, Image0, Image1}
use Rattle.plain_store.specs.{Answer, Command, Reply, fits_i64, is_command, is_name, value_text}
use Rattle.plain_store.specs.declared.commands.Answer.TheVariants as answer
use Rattle.plain_store.specs.declared.commands.Command.TheVariants as command
use Rattle.plain_store.specs.declared.commands.Reply.TheVariants as reply
use Rattle.files.specs.{FaultKind, counted, fault_if, known, ◌>>=◌}
use Rattle.files.specs.declared.faults.FaultKind.TheVariants.{Words, Number}
use Rattle.model.specs.declared.marks.Mark.TheVariants as mark
use Rattle.scenario.specs.{BitWord, Verb, are_digits, bit_word, bit_word_of, command_of, number_at, operand_count, verb_in, verb_of}
use Rattle.scenario.specs.declared.bit_files.BitWord.TheVariants as bits
use Rattle.scenario.specs.declared.keywords.Verb.TheVariants as verb
use Rattle.scenario.proofs.Numerals.{own}
use Rattle.scenario.proofs.ReadBack.{process_again, operands_of, command_again}
use Rattle.scenario.proofs.Spelled.{number_again, integer_again, value_again}
use Rattle.record_file.specs.{AnswerWord, IsEntry, ReplyWord, access_of, access_words, answer_count, answer_of, answer_word_of, answer_words, answered_of, both, called_of, copy_of, copy_word, dotted, entry_by, entry_of, entry_with, entry_words, field_at, field_of, is_access, is_answer, is_mark, is_reply, mark_of, mark_words, marks_read, move_of, move_words, reply_count, reply_of, reply_word_of, reply_words, signed_words, sum_first, taken_of, with_mark}
use Rattle.record_file.specs.declared.keywords.AnswerWord.TheVariants as answer_word
use Rattle.record_file.specs.declared.keywords.ReplyWord.TheVariants as reply_word
use Rattle.record_file.proofs.NoSigns.{access_has_none, marks_have_none}
use Rattle.record_file.proofs.Parts.{parts_of_signed}

-- a call, by its parts
called_by : (key : List ℕ) (operands : List (List ℕ)) (v : Verb) (c : Command) → verb_of key ≡ Some v → counted (operand_count v) operands ≡ Ok tt → sum_first v operands ≡ Ok tt → command_of v operands ≡ Ok c → called_of (key ∷ operands) ≡ Ok (mark.Called c)
unfolding called_of
called_by key operands v c verb_is counts sum command_is =
    ap (λ o. known o >>= λ verb. counted (operand_count verb) operands >>= λ counts. sum_first verb operands >>= λ sum. command_of verb operands >>= λ command. Ok (mark.Called command)) verb_is
    ∙ ap (λ r. r >>= λ counts. sum_first v operands >>= λ sum. command_of v operands >>= λ command. Ok (mark.Called command)) counts
    ∙ ap (λ r. r >>= λ sum. command_of v operands >>= λ command. Ok (mark.Called command)) sum
    ∙ ap (λ r. r >>= λ command. Ok (mark.Called command)) command_is

called_again : (c : Command) → is_command c ≡ true → mark_of (mark_words (mark.Called c)) ≡ Ok (mark.Called c)
called_again c good = by c good (command_again c good)
  where
    by : (c : Command) → is_command c ≡ true → command_of (verb_in c) (operands_of c) ≡ Ok c → mark_of (mark_words (mark.Called c)) ≡ Ok (mark.Called c)
    by (command.Read name) good is = called_by (codes "read") (operands_of (command.Read name)) verb.Read (command.Read name) refl refl refl is
    by (command.Write name value) good is = called_by (codes "write") (operands_of (command.Write name value)) verb.Write (command.Write name value) refl refl refl is
    by (command.Add name z) good is =
        let number = integer_again z (and_parts (is_name name) (fits_i64 z) good).1 in
        called_by (codes "add") (operands_of (command.Add name z)) verb.Add (command.Add name z) refl refl (ap (λ o. ok_or o Number >>= λ by. Ok tt) number) is
    by (command.Cas name expected value) good is = called_by (codes "cas") (operands_of (command.Cas name expected value)) verb.Cas (command.Cas name expected value) refl refl refl is
    by command.Ask good is = called_by (codes "ask") [] verb.Ask command.Ask refl refl refl is

-- the first word of a reply, and the words after it
abbrev reply_name : Reply → ReplyWord
reply_name (reply.Value v) = reply_word.Value
reply_name reply.Done = reply_word.Done
reply_name (reply.Sum z) = reply_word.Sum
reply_name reply.Swapped = reply_word.Swapped
reply_name (reply.Kept v) = reply_word.Kept
reply_name reply.NoName = reply_word.NoName
reply_name reply.NotCounter = reply_word.NotCounter
reply_name reply.Overflow = reply_word.Overflow
reply_name reply.StoreFull = reply_word.StoreFull
reply_name (reply.Last n) = reply_word.Last

abbrev reply_operands : Reply → List (List ℕ)
reply_operands (reply.Value v) = value_text v ∷ []
reply_operands (reply.Sum z) = signed_decimal z ∷ []
reply_operands (reply.Kept v) = value_text v ∷ []
reply_operands (reply.Last n) = decimal n ∷ []
reply_operands r = []

reply_again : (r : Reply) → is_reply r ≡ true → reply_of (reply_name r) (reply_operands r) ≡ Ok r
reply_again (reply.Value v) good = ap (λ r. r >>= λ v. Ok (reply.Value v)) (value_again v good)
reply_again reply.Done good = refl
reply_again (reply.Sum z) good = ap (λ o. ok_or o Number >>= λ z. Ok (reply.Sum z)) (integer_again z good)
reply_again reply.Swapped good = refl
reply_again (reply.Kept v) good = ap (λ r. r >>= λ v. Ok (reply.Kept v)) (value_again v good)
reply_again reply.NoName good = refl
reply_again reply.NotCounter good = refl
reply_again reply.Overflow good = refl
reply_again reply.StoreFull good = refl
reply_again (reply.Last n) good = ap (λ r. r >>= λ n. Ok (reply.Last n)) (number_again 65535 n (grind (arith, nat_tests)) (grind (arith, nat_tests)))

-- the facts about a reply: its first word, the number of words after it, and their meaning
record IsReply (r : Reply) (key : List ℕ) : Type 0 where
  found : reply_word_of key ≡ Some (reply_name r)
  words : reply_words r ≡ key ∷ reply_operands r
  count : counted (reply_count (reply_name r)) (reply_operands r) ≡ Ok tt

-- in each case of a reply
by_reply : (P : Reply → Type 0) → ((r : Reply) (key : List ℕ) → IsReply r key → P r) → (r : Reply) → P r
by_reply P all (reply.Value v) = all (reply.Value v) (codes "value") (record { found = refl; words = refl; count = refl })
by_reply P all reply.Done = all reply.Done (codes "done") (record { found = refl; words = refl; count = refl })
by_reply P all (reply.Sum z) = all (reply.Sum z) (codes "sum") (record { found = refl; words = refl; count = refl })
by_reply P all reply.Swapped = all reply.Swapped (codes "swapped") (record { found = refl; words = refl; count = refl })
by_reply P all (reply.Kept v) = all (reply.Kept v) (codes "kept") (record { found = refl; words = refl; count = refl })
by_reply P all reply.NoName = all reply.NoName (codes "no-name") (record { found = refl; words = refl; count = refl })
by_reply P all reply.NotCounter = all reply.NotCounter (codes "not-counter") (record { found = refl; words = refl; count = refl })
by_reply P all reply.Overflow = all reply.Overflow (codes "overflow") (record { found = refl; words = refl; count = refl })
by_reply P all reply.StoreFull = all reply.StoreFull (codes "store-full") (record { found = refl; words = refl; count = refl })
by_reply P all (reply.Last n) = all (reply.Last n) (codes "last") (record { found = refl; words = refl; count = refl })

taken_again : (k : ℕ) (r : Reply) → nat_lt k (2 ^ 64) ≡ true → is_reply r ≡ true → taken_of (decimal k ∷ reply_words r) ≡ Ok (mark.Taken k r)
unfolding taken_of
taken_again k r small good = by_reply (λ r. is_reply r ≡ true → taken_of (decimal k ∷ reply_words r) ≡ Ok (mark.Taken k r)) each r good
  where
    place : number_at (2 ^ 64 - 1) (decimal k) ≡ Ok k
    place = number_again (2 ^ 64 - 1) k (grind (arith, nat_tests)) (grind (arith, nat_tests))

    each : (r : Reply) (key : List ℕ) → IsReply r key → is_reply r ≡ true → taken_of (decimal k ∷ reply_words r) ≡ Ok (mark.Taken k r)
    each r key is good =
        ap (λ ws. taken_of (decimal k ∷ ws)) is.words
        ∙ ap (λ o. known o >>= λ name. counted (reply_count name) (reply_operands r) >>= λ counts. number_at (2 ^ 64 - 1) (decimal k) >>= λ place. reply_of name (reply_operands r) >>= λ reply. Ok (mark.Taken place reply)) is.found
        ∙ ap (λ c. c >>= λ counts. number_at (2 ^ 64 - 1) (decimal k) >>= λ place. reply_of (reply_name r) (reply_operands r) >>= λ reply. Ok (mark.Taken place reply)) is.count
        ∙ ap (λ p. p >>= λ place. reply_of (reply_name r) (reply_operands r) >>= λ reply. Ok (mark.Taken place reply)) place
        ∙ ap (λ s. s >>= λ reply. Ok (mark.Taken k reply)) (reply_again r good)

-- an answer, by its parts
answered_by : (key : List ℕ) (operands : List (List ℕ)) (name : AnswerWord) (a : Answer) → answer_word_of key ≡ Some name → counted (answer_count name) operands ≡ Ok tt → answer_of name operands ≡ Ok a → answered_of (key ∷ operands) ≡ Ok (mark.Answered a)
unfolding answered_of
answered_by key operands name a found counts is =
    ap (λ o. known o >>= λ name. counted (answer_count name) operands >>= λ counts. answer_of name operands >>= λ answer. Ok (mark.Answered answer)) found
    ∙ ap (λ c. c >>= λ counts. answer_of name operands >>= λ answer. Ok (mark.Answered answer)) counts
    ∙ ap (λ s. s >>= λ answer. Ok (mark.Answered answer)) is

replied : (r : Reply) (key : List ℕ) → reply_words r ≡ key ∷ reply_operands r → answer_word_of key ≡ Some (answer_word.Reply (reply_name r)) → counted (reply_count (reply_name r)) (reply_operands r) ≡ Ok tt → is_reply r ≡ true → answered_of (reply_words r) ≡ Ok (mark.Answered (answer.Reply r))
replied r key words found counts good =
    ap answered_of words
    ∙ answered_by key (reply_operands r) (answer_word.Reply (reply_name r)) (answer.Reply r) found counts (ap (λ s. s >>= λ r. Ok (answer.Reply r)) (reply_again r good))

answered_again : (a : Answer) → is_answer a ≡ true → answered_of (answer_words a) ≡ Ok (mark.Answered a)
answered_again (answer.Reply (reply.Value v)) good = replied (reply.Value v) (codes "value") refl refl refl good
answered_again (answer.Reply reply.Done) good = replied reply.Done (codes "done") refl refl refl good
answered_again (answer.Reply (reply.Sum z)) good = replied (reply.Sum z) (codes "sum") refl refl refl good
answered_again (answer.Reply reply.Swapped) good = replied reply.Swapped (codes "swapped") refl refl refl good
answered_again (answer.Reply (reply.Kept v)) good = replied (reply.Kept v) (codes "kept") refl refl refl good
answered_again (answer.Reply reply.NoName) good = replied reply.NoName (codes "no-name") refl refl refl good
answered_again (answer.Reply reply.NotCounter) good = replied reply.NotCounter (codes "not-counter") refl refl refl good
answered_again (answer.Reply reply.Overflow) good = replied reply.Overflow (codes "overflow") refl refl refl good
answered_again (answer.Reply reply.StoreFull) good = replied reply.StoreFull (codes "store-full") refl refl refl good
answered_again (answer.Reply (reply.Last n)) good = replied (reply.Last n) (codes "last") refl refl refl good
answered_again (answer.TicketsFull p) good = answered_by (codes "tickets-full") (decimal p ∷ []) answer_word.TicketsFull (answer.TicketsFull p) refl refl (ap (λ s. s >>= λ p. Ok (answer.TicketsFull p)) (process_again p good))
answered_again answer.StampsFull good = answered_by (codes "stamps-full") [] answer_word.StampsFull answer.StampsFull refl refl refl
answered_again answer.Withdrawn good = answered_by (codes "withdrawn") [] answer_word.Withdrawn answer.Withdrawn refl refl refl

-- A mark is read again.
mark_again : (m : Mark) → is_mark m ≡ true → mark_of (mark_words m) ≡ Ok m
mark_again (mark.Called c) good = called_again c good
mark_again (mark.Waiting t) good = ap (λ s. s >>= λ ticket. Ok (mark.Waiting ticket)) (number_again (2 ^ 32 - 1) t (grind (arith, nat_tests)) (grind (arith, nat_tests)))
mark_again mark.Entered good = refl
mark_again (mark.Taken k r) good = let parts = and_parts (nat_lt k (2 ^ 64)) (is_reply r) good in taken_again k r parts.0 parts.1
mark_again mark.Left good = refl
mark_again (mark.Answered a) good = answered_again a good
mark_again mark.Failed good = refl
mark_again (mark.Settled true) good = refl
mark_again (mark.Settled false) good = refl
mark_again mark.Down good = refl
mark_again mark.Withdrew good = refl
mark_again mark.Restarted good = refl

-- marks after other marks are read again
marks_again : (n : ℕ) (others marks : List Mark) → n + length marks ≤ 3 → list_all is_mark marks ≡ true → marks_read n (map mark_words marks) (Ok others) ≡ Ok (others ++ marks)
marks_again n others [] few good = ap (λ ms. Ok ms) (sym (append-nil others))
marks_again n others (m ∷ marks) few good =
    let parts = and_parts (is_mark m) (list_all is_mark marks) good in
    let room : nat_lt n 3 ≡ true = grind (arith, nat_tests) in
    let two : Result (List Mark × Mark) FaultKind = Ok (others, m) in
    ap (λ r. marks_read (n + 1) (map mark_words marks) (with_mark n (Ok others) r)) (mark_again m parts.0)
    ∙ ap (λ t. marks_read (n + 1) (map mark_words marks) (both two (fault_if (not t) Words) >>= λ read. Ok (read.0.0 ++ read.0.1 ∷ []))) room
    ∙ marks_again (n + 1) (others ++ m ∷ []) marks (omega (arith, few)) parts.1
    ∙ ap (λ ms. Ok ms) (append_assoc others (m ∷ []) marks)

-- the registers
field_again : (f : Field) → field_of (field_word f) ≡ Some f
field_again Choosing = refl
field_again Ticket = refl
field_again Commit = refl
field_again Stamp0 = refl
field_again Stamp1 = refl
field_again Image0 = refl
field_again Image1 = refl

-- among digits there is no dot
no_dot : (ds : List ℕ) → are_digits ds ≡ true → All (λ b. (b == 46) ≡ false) ds
no_dot [] digits k d within = absurd (omega arith)
no_dot (b ∷ bs) digits zero d within = let first : is_ascii_digit b ≡ true = (and_parts (is_ascii_digit b) (are_digits bs) digits).0 in grind (arith, nat_tests)
no_dot (b ∷ bs) digits (suc k) d within = no_dot bs (and_parts (is_ascii_digit b) (are_digits bs) digits).1 k d (omega arith)

-- the word of a register has no dot either
field_part : (f : Field) (more : List ℕ) → dotted (field_word f ++ (codes "." ++ more)) ≡ field_word f ∷ dotted more
field_part Choosing more = refl
field_part Ticket more = refl
field_part Commit more = refl
field_part Stamp0 more = refl
field_part Stamp1 more = refl
field_part Image0 more = refl
field_part Image1 more = refl

number_part : (n : ℕ) (more : List ℕ) → n < 2 ^ 64 → dotted (decimal n ++ (codes "." ++ more)) ≡ decimal n ∷ dotted more
number_part n more small = slice_split_at (λ b. b == 46) (decimal n) 46 more (no_dot (decimal n) (digits_decimal own n small)) refl

last_part : (n : ℕ) → n < 2 ^ 64 → dotted (decimal n) ≡ decimal n ∷ []
last_part n small = slice_split_none (λ b. b == 46) (decimal n) (no_dot (decimal n) (digits_decimal own n small))

-- the sizes of the numbers of an access
record Sizes (a : Access) : Type 0 where
  owner : nat_lt a.owner 256 ≡ true
  bit : nat_lt a.bit 65536 ≡ true
  reader : nat_lt a.reader 256 ≡ true

sizes : (a : Access) → is_access (Some a) ≡ true → Sizes a
sizes a good =
    let parts = and_parts (nat_lt a.owner 256) (nat_lt a.bit 65536 && nat_lt a.reader 256) good in
    let others = and_parts (nat_lt a.bit 65536) (nat_lt a.reader 256) parts.1 in
    record { owner = parts.0; bit = others.0; reader = others.1 }

dotted_again : (a : Access) → Sizes a → dotted (copy_word a) ≡ decimal a.owner ∷ field_word a.field ∷ decimal a.bit ∷ decimal a.reader ∷ []
dotted_again a is =
    let owner : nat_lt a.owner 256 ≡ true = is.owner in
    let bit : nat_lt a.bit 65536 ≡ true = is.bit in
    let reader : nat_lt a.reader 256 ≡ true = is.reader in
    number_part a.owner (field_word a.field ++ (codes "." ++ (decimal a.bit ++ (codes "." ++ decimal a.reader)))) (grind (arith, nat_tests))
    ∙ ap (λ ps. decimal a.owner ∷ ps) (field_part a.field (decimal a.bit ++ (codes "." ++ decimal a.reader)))
    ∙ ap (λ ps. decimal a.owner ∷ field_word a.field ∷ ps) (number_part a.bit (decimal a.reader) (grind (arith, nat_tests)))
    ∙ ap (λ ps. decimal a.owner ∷ field_word a.field ∷ decimal a.bit ∷ ps) (last_part a.reader (grind (arith, nat_tests)))

-- a copy of a bit is read again
copy_again : (a : Access) → Sizes a → copy_of (decimal a.owner ∷ field_word a.field ∷ decimal a.bit ∷ decimal a.reader ∷ []) a.field a.how ≡ Ok a
unfolding copy_of
copy_again a is =
    let bit : nat_lt a.bit 65536 ≡ true = is.bit in
    ap (λ r. r >>= λ owner. number_at 65535 (decimal a.bit) >>= λ bit. number_at 255 (decimal a.reader) >>= λ reader. Ok (record { owner = owner; field = a.field; bit = bit; reader = reader; how = a.how })) (process_again a.owner is.owner)
    ∙ ap (λ r. r >>= λ bit. number_at 255 (decimal a.reader) >>= λ reader. Ok (record { owner = a.owner; field = a.field; bit = bit; reader = reader; how = a.how })) (number_again 65535 a.bit (grind (arith, nat_tests)) (grind (arith, nat_tests)))
    ∙ ap (λ r. r >>= λ reader. Ok (record { owner = a.owner; field = a.field; bit = a.bit; reader = reader; how = a.how })) (process_again a.reader is.reader)

-- an access, by its parts
access_by : (a : Access) (name : List ℕ) (operands : List (List ℕ)) (k : BitWord) → Sizes a → bit_word_of name ≡ Some k → move_of k operands ≡ Ok a.how → access_of (copy_word a ∷ name ∷ operands) ≡ Ok (Some a)
unfolding access_of
access_by a name operands k is found how_is =
    ap (λ ps. field_at ps >>= λ field. known (bit_word_of name) >>= λ known_move. move_of known_move operands >>= λ how. copy_of ps field how >>= λ access. Ok (Some access)) (dotted_again a is)
    ∙ ap (λ o. known o >>= λ field. known (bit_word_of name) >>= λ known_move. move_of known_move operands >>= λ how. copy_of (decimal a.owner ∷ field_word a.field ∷ decimal a.bit ∷ decimal a.reader ∷ []) field how >>= λ access. Ok (Some access)) (field_again a.field)
    ∙ ap (λ o. known o >>= λ known_move. move_of known_move operands >>= λ how. copy_of (decimal a.owner ∷ field_word a.field ∷ decimal a.bit ∷ decimal a.reader ∷ []) a.field how >>= λ access. Ok (Some access)) found
    ∙ ap (λ m. m >>= λ how. copy_of (decimal a.owner ∷ field_word a.field ∷ decimal a.bit ∷ decimal a.reader ∷ []) a.field how >>= λ access. Ok (Some access)) how_is
    ∙ ap (λ c. c >>= λ access. Ok (Some access)) (copy_again a is)

bit_again : (v : Bool) (how : Bool → Move) (k : BitWord) → move_of k (bit_word false ∷ []) ≡ Ok (how false) → move_of k (bit_word true ∷ []) ≡ Ok (how true) → move_of k (bit_word v ∷ []) ≡ Ok (how v)
bit_again true how k zero_is one_is = one_is
bit_again false how k zero_is one_is = zero_is

-- An access is read again.
access_again : (a : Option Access) → is_access a ≡ true → access_of (access_words a) ≡ Ok a
unfolding access_of
access_again None good = refl
access_again (Some a) good = by a.how refl
  where
    by : (how : Move) → a.how ≡ how → access_of (copy_word a ∷ move_words how) ≡ Ok (Some a)
    by (move.BeginWrite v) is = access_by a (codes "write") (bit_word v ∷ []) bits.Write (sizes a good) refl (bit_again v (λ v. move.BeginWrite v) bits.Write refl refl ∙ ap (λ h. Ok h) (sym is))
    by move.EndWrite is = access_by a (codes "end") [] bits.End (sizes a good) refl (ap (λ h. Ok h) (sym is))
    by move.BeginRead is = access_by a (codes "read") [] bits.Read (sizes a good) refl (ap (λ h. Ok h) (sym is))
    by (move.EndRead v) is = access_by a (codes "value") (bit_word v ∷ []) bits.Value (sizes a good) refl (bit_again v (λ v. move.EndRead v) bits.Value refl refl ∙ ap (λ h. Ok h) (sym is))
    by (move.Settle v) is = access_by a (codes "settle") (bit_word v ∷ []) bits.Settle (sizes a good) refl (bit_again v (λ v. move.Settle v) bits.Settle refl refl ∙ ap (λ h. Ok h) (sym is))

-- An entry is read again.
entry_again : (e : Entry) → IsEntry e → entry_of (decimal e.process) (access_words e.access ++ flat_map signed_words e.marks) ≡ Ok e
entry_again e is =
    let parts = and_parts (nat_lt e.process 256) (is_access e.access && list_all is_mark e.marks) is.sound in
    let others = and_parts (is_access e.access) (list_all is_mark e.marks) parts.1 in
    let few : length e.marks ≤ 3 = is.few in
    ap (entry_by (decimal e.process)) (parts_of_signed (access_words e.access) e.marks (access_has_none e.access others.0) (marks_have_none e.marks others.1))
    ∙ ap (λ p. entry_with p (access_of (access_words e.access)) (marks_read 0 (map mark_words e.marks) (Ok []))) (process_again e.process parts.0)
    ∙ ap (λ a. entry_with (Ok e.process) a (marks_read 0 (map mark_words e.marks) (Ok []))) (access_again e.access others.0)
    ∙ ap (entry_with (Ok e.process) (Ok e.access)) (marks_again 0 [] e.marks (omega (arith, few)) others.1)

-- Words that are printed for an entry are read as that entry.
pub entry_words_again : (first : List ℕ) (ws : List (List ℕ)) (e : Entry) → first ∷ ws ≡ entry_words e → IsEntry e → entry_of first ws ≡ Ok e
entry_words_again first ws e is good =
    let process : first ≡ decimal e.process = cc in
    let others : ws ≡ access_words e.access ++ flat_map signed_words e.marks = cc in
    ap (λ w. entry_of w ws) process ∙ ap (entry_of (decimal e.process)) others ∙ entry_again e good
