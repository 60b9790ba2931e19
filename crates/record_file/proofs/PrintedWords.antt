-- The words of a printed entry are words: each has a byte or more, all of them printable and none a blank.
use Rattle.std.proofs.Common.{◌≡◌, ℕ, ◌+◌, ◌≤◌, ◌^◌, ◌&&◌, nat_lt, true, false, List, [], ◌∷◌, ◌++◌, length, flat_map, codes, Option, Some, None, refl, ◌∙◌, arith}
use Rattle.std.proofs.lemmas.Bool.{and_from, and_parts}
use Rattle.std.proofs.lemmas.Bool.Decides.{nat_tests}
use Rattle.std.proofs.lemmas.List.{length-append}
use Rattle.std.proofs.lemmas.List.Folds.{list_all-append}
use Rattle.std.specs.Char.{is_ascii_graphic}
use Rattle.std.specs.Fmt.{decimal, signed_decimal}
use Rattle.std.specs.List.{list_all}
use Rattle.safe_bit.specs.{Move}
use Rattle.safe_bit.specs.declared.Move.TheVariants as move
use Rattle.model.specs.{Access, Entry, Field, Mark, field_word}
use Rattle.model.specs.declared.access.Field.TheVariants.{Choosing, Ticket, Commit, Stamp0, Stamp1, Image0, Image1}
use Rattle.plain_store.specs.{Answer, Command, Reply, fits_i64, is_command, is_name, is_value, value_text}
use Rattle.plain_store.specs.declared.commands.Answer.TheVariants as answer
use Rattle.plain_store.specs.declared.commands.Command.TheVariants as command
use Rattle.plain_store.specs.declared.commands.Reply.TheVariants as reply
use Rattle.model.specs.declared.marks.Mark.TheVariants as mark
use Rattle.scenario.specs.{command_words}
use Rattle.scenario.proofs.Spaced.{is_word}
use Rattle.scenario.proofs.Spelled.{integer_word, name_word, number_word, value_word}
use Rattle.record_file.specs.{access_words, answer_words, entry_words, is_access, is_answer, is_entry, is_mark, is_reply, mark_words, move_words, reply_words, signed_words}

-- a list of one word
one : (w : List ℕ) → is_word w ≡ true → list_all is_word (w ∷ []) ≡ true
one w is = and_from (is_word w) true is refl

small_word : (n most : ℕ) → most ≤ 2 ^ 64 → nat_lt n most ≡ true → is_word (decimal n) ≡ true
small_word n most few small = number_word n (grind (arith, nat_tests))

command_is_words : (c : Command) → is_command c ≡ true → list_all is_word (command_words c) ≡ true
command_is_words (command.Read name) good = one name (name_word name good)
command_is_words (command.Write name value) good = let parts = and_parts (is_name name) (is_value value) good in and_from _ _ (name_word name parts.0) (one (value_text value) (value_word value parts.1))
command_is_words (command.Add name by) good = let parts = and_parts (is_name name) (fits_i64 by) good in and_from _ _ (name_word name parts.0) (one (signed_decimal by) (integer_word by parts.1))
command_is_words (command.Cas name expected value) good =
    let parts = and_parts (is_name name) (is_value expected && is_value value) good in
    let values = and_parts (is_value expected) (is_value value) parts.1 in
    and_from _ _ (name_word name parts.0) (and_from _ _ (value_word expected values.0) (one (value_text value) (value_word value values.1)))
command_is_words command.Ask good = refl

reply_is_words : (r : Reply) → is_reply r ≡ true → list_all is_word (reply_words r) ≡ true
reply_is_words (reply.Value v) good = one (value_text v) (value_word v good)
reply_is_words reply.Done good = refl
reply_is_words (reply.Sum z) good = one (signed_decimal z) (integer_word z good)
reply_is_words reply.Swapped good = refl
reply_is_words (reply.Kept v) good = one (value_text v) (value_word v good)
reply_is_words reply.NoName good = refl
reply_is_words reply.NotCounter good = refl
reply_is_words reply.Overflow good = refl
reply_is_words reply.StoreFull good = refl
reply_is_words (reply.Last n) good = one (decimal n) (small_word n 65536 (omega arith) good)

answer_is_words : (a : Answer) → is_answer a ≡ true → list_all is_word (answer_words a) ≡ true
answer_is_words (answer.Reply r) good = reply_is_words r good
answer_is_words (answer.TicketsFull p) good = one (decimal p) (small_word p 256 (omega arith) good)
answer_is_words answer.StampsFull good = refl
answer_is_words answer.Withdrawn good = refl

mark_is_words : (m : Mark) → is_mark m ≡ true → list_all is_word (mark_words m) ≡ true
mark_is_words (mark.Called c) good = command_is_words c good
mark_is_words (mark.Waiting t) good = one (decimal t) (small_word t (2 ^ 32) (omega arith) good)
mark_is_words mark.Entered good = refl
mark_is_words (mark.Taken k r) good = let parts = and_parts (nat_lt k (2 ^ 64)) (is_reply r) good in and_from _ _ (small_word k (2 ^ 64) (omega arith) parts.0) (reply_is_words r parts.1)
mark_is_words mark.Left good = refl
mark_is_words (mark.Answered a) good = answer_is_words a good
mark_is_words mark.Failed good = refl
mark_is_words (mark.Settled true) good = refl
mark_is_words (mark.Settled false) good = refl
mark_is_words mark.Down good = refl
mark_is_words mark.Withdrew good = refl
mark_is_words mark.Restarted good = refl

marks_are_words : (marks : List Mark) → list_all is_mark marks ≡ true → list_all is_word (flat_map signed_words marks) ≡ true
marks_are_words [] good = refl
marks_are_words (m ∷ marks) good =
    let parts = and_parts (is_mark m) (list_all is_mark marks) good in
    list_all-append is_word (signed_words m) (flat_map signed_words marks) ∙ and_from _ _ (mark_is_words m parts.0) (marks_are_words marks parts.1)

-- printable bytes, and more of them
graphic_both : (a b : List ℕ) → list_all is_ascii_graphic a ≡ true → list_all is_ascii_graphic b ≡ true → list_all is_ascii_graphic (a ++ b) ≡ true
graphic_both a b first second = list_all-append is_ascii_graphic a b ∙ and_from _ _ first second

graphic_of : (w : List ℕ) → is_word w ≡ true → list_all is_ascii_graphic w ≡ true
graphic_of w is = (and_parts (nat_lt 0 (length w)) (list_all is_ascii_graphic w) is).1

-- a word, and more bytes
word_more : (w more : List ℕ) → is_word w ≡ true → list_all is_ascii_graphic more ≡ true → is_word (w ++ more) ≡ true
word_more w more is rest =
    let some : nat_lt 0 (length w) ≡ true = (and_parts (nat_lt 0 (length w)) (list_all is_ascii_graphic w) is).0 in
    let size : length (w ++ more) ≡ length w + length more = length-append w more in
    let still : nat_lt 0 (length (w ++ more)) ≡ true = grind (arith, nat_tests, some, size) in
    and_from _ _ still (graphic_both w more (graphic_of w is) rest)

graphic_field : (f : Field) → list_all is_ascii_graphic (field_word f) ≡ true
graphic_field Choosing = refl
graphic_field Ticket = refl
graphic_field Commit = refl
graphic_field Stamp0 = refl
graphic_field Stamp1 = refl
graphic_field Image0 = refl
graphic_field Image1 = refl

move_is_words : (how : Move) → list_all is_word (move_words how) ≡ true
move_is_words (move.BeginWrite true) = refl
move_is_words (move.BeginWrite false) = refl
move_is_words move.EndWrite = refl
move_is_words move.BeginRead = refl
move_is_words (move.EndRead true) = refl
move_is_words (move.EndRead false) = refl
move_is_words (move.Settle true) = refl
move_is_words (move.Settle false) = refl

access_is_words : (a : Option Access) → is_access a ≡ true → list_all is_word (access_words a) ≡ true
access_is_words None good = refl
access_is_words (Some a) good =
    let parts = and_parts (nat_lt a.owner 256) (nat_lt a.bit 65536 && nat_lt a.reader 256) good in
    let others = and_parts (nat_lt a.bit 65536) (nat_lt a.reader 256) parts.1 in
    let bit = graphic_of (decimal a.bit) (small_word a.bit 65536 (omega arith) others.0) in
    let reader = graphic_of (decimal a.reader) (small_word a.reader 256 (omega arith) others.1) in
    let behind : list_all is_ascii_graphic (codes "." ++ (field_word a.field ++ (codes "." ++ (decimal a.bit ++ (codes "." ++ decimal a.reader))))) ≡ true =
    graphic_both (field_word a.field) (codes "." ++ (decimal a.bit ++ (codes "." ++ decimal a.reader))) (graphic_field a.field) (graphic_both (decimal a.bit) (codes "." ++ decimal a.reader) bit reader) in
    and_from _ _ (word_more (decimal a.owner) (codes "." ++ (field_word a.field ++ (codes "." ++ (decimal a.bit ++ (codes "." ++ decimal a.reader))))) (small_word a.owner 256 (omega arith) parts.0) behind) (move_is_words a.how)

-- Each word of an entry is one.
pub entry_is_words : (e : Entry) → is_entry e ≡ true → list_all is_word (entry_words e) ≡ true
entry_is_words e good =
    let parts = and_parts (nat_lt e.process 256) (is_access e.access && list_all is_mark e.marks) good in
    let others = and_parts (is_access e.access) (list_all is_mark e.marks) parts.1 in
    and_from _ _ (small_word e.process 256 (omega arith) parts.0)
    (list_all-append is_word (access_words e.access) (flat_map signed_words e.marks) ∙ and_from _ _ (access_is_words e.access others.0) (marks_are_words e.marks others.1))
