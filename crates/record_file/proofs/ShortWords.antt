-- The words of an entry whose parts are in range are short.
use Rattle.std.proofs.Common.{◌≡◌, ℕ, ◌+◌, ◌<◌, ◌≤◌, ◌^◌, ◌&&◌, nat_lt, true, false, List, [], ◌∷◌, ◌++◌, length, flat_map, codes, Option, Some, None, refl, arith}
use Rattle.std.proofs.lemmas.Bool.{and_parts}
use Rattle.std.proofs.lemmas.Bool.Decides.{nat_tests}
use Rattle.std.proofs.lemmas.Fmt.{length-decimal-le}
use Rattle.std.proofs.lemmas.List.{length-append}
use Rattle.std.specs.Fmt.{decimal, signed_decimal}
use Rattle.std.specs.List.{list_all}
use Rattle.safe_bit.specs.{Move}
use Rattle.safe_bit.specs.declared.Move.TheVariants as move
use Rattle.model.specs.{Access, Entry, Field, Mark, field_word}
use Rattle.model.specs.declared.access.Field.TheVariants.{Choosing, Ticket, Commit, Stamp0, Stamp1, Image0, Image1}
use Rattle.plain_store.specs.{Answer, Command, Reply, fits_i64, is_command, is_name, is_value, value_text}
use Rattle.plain_store.specs.declared.commands.Answer.TheVariants as answer
use Rattle.plain_store.specs.declared.commands.Command.TheVariants as command
use Rattle.plain_store.specs.declared.commands.Reply.TheVariants as reply
use Rattle.model.specs.declared.marks.Mark.TheVariants as mark
use Rattle.scenario.specs.{command_words, spaced}
use Rattle.scenario.proofs.Spaced.{length-spaced, size}
use Rattle.scenario.proofs.Spelled.{integer_short, name_short, number_short, value_short}
use Rattle.record_file.specs.{FitsLine, access_words, answer_words, entry_words, is_access, is_answer, is_entry, is_mark, is_reply, move_words, reply_words, signed_words}
use Rattle.record_file.proofs.FewMarks.{AreFew, room, room_of}

-- Numbers.

byte_digits : (n : ℕ) → nat_lt n 256 ≡ true → length (decimal n) ≤ 3
byte_digits n small = let few : n < 256 = grind (arith, nat_tests) in length-decimal-le 3 n (omega arith) (omega (arith, few)) (omega (arith, few))

bit_digits : (n : ℕ) → nat_lt n 65536 ≡ true → length (decimal n) ≤ 5
bit_digits n small = let few : n < 65536 = grind (arith, nat_tests) in length-decimal-le 5 n (omega arith) (omega (arith, few)) (omega (arith, few))

ticket_digits : (n : ℕ) → nat_lt n (2 ^ 32) ≡ true → length (decimal n) ≤ 10
ticket_digits n small = let few : n < 2 ^ 32 = grind (arith, nat_tests) in length-decimal-le 10 n (omega arith) (omega (arith, few)) (omega (arith, few))

place_digits : (n : ℕ) → nat_lt n (2 ^ 64) ≡ true → length (decimal n) ≤ 20
place_digits n small = let few : n < 2 ^ 64 = grind (arith, nat_tests) in number_short n few

-- Words, each with a space.

size-append : (xs ys : List (List ℕ)) → size (xs ++ ys) ≡ size xs + size ys
size-append [] ys = omega arith
size-append (x ∷ xs) ys = let more : size (xs ++ ys) ≡ size xs + size ys = size-append xs ys in omega (arith, more)

field_size : (f : Field) → length (field_word f) ≤ 8
field_size Choosing = omega arith
field_size Ticket = omega arith
field_size Commit = omega arith
field_size Stamp0 = omega arith
field_size Stamp1 = omega arith
field_size Image0 = omega arith
field_size Image1 = omega arith

move_size : (how : Move) → size (move_words how) ≤ 9
move_size (move.BeginWrite true) = omega arith
move_size (move.BeginWrite false) = omega arith
move_size move.EndWrite = omega arith
move_size move.BeginRead = omega arith
move_size (move.EndRead true) = omega arith
move_size (move.EndRead false) = omega arith
move_size (move.Settle true) = omega arith
move_size (move.Settle false) = omega arith

access_size : (a : Option Access) → is_access a ≡ true → size (access_words a) ≤ 32
access_size None good = omega arith
access_size (Some a) good =
    let parts = and_parts (nat_lt a.owner 256) (nat_lt a.bit 65536 && nat_lt a.reader 256) good in
    let others = and_parts (nat_lt a.bit 65536) (nat_lt a.reader 256) parts.1 in
    let owner : length (decimal a.owner) ≤ 3 = byte_digits a.owner parts.0 in
    let bit : length (decimal a.bit) ≤ 5 = bit_digits a.bit others.0 in
    let reader : length (decimal a.reader) ≤ 3 = byte_digits a.reader others.1 in
    let field : length (field_word a.field) ≤ 8 = field_size a.field in
    let how : size (move_words a.how) ≤ 9 = move_size a.how in
    let third : List ℕ = codes "." ++ decimal a.reader in
    let second : List ℕ = codes "." ++ (decimal a.bit ++ third) in
    let first : List ℕ = codes "." ++ (field_word a.field ++ second) in
    let one : length (decimal a.owner ++ first) ≡ length (decimal a.owner) + length first = length-append (decimal a.owner) first in
    let two : length (field_word a.field ++ second) ≡ length (field_word a.field) + length second = length-append (field_word a.field) second in
    let three : length (decimal a.bit ++ third) ≡ length (decimal a.bit) + length third = length-append (decimal a.bit) third in
    let four : length third ≡ 1 + length (decimal a.reader) = omega arith in
    let five : length second ≡ 1 + length (decimal a.bit ++ third) = omega arith in
    let six : length first ≡ 1 + length (field_word a.field ++ second) = omega arith in
    let whole : size (access_words (Some a)) ≡ length (decimal a.owner ++ first) + (1 + size (move_words a.how)) = refl in
    omega (arith, owner, bit, reader, field, how, one, two, three, four, five, six, whole)

command_size : (c : Command) → is_command c ≡ true → size (command_words c) ≤ 61
command_size (command.Read name) good = let n : length name ≤ 8 = name_short name good in omega (arith, n)
command_size (command.Write name value) good =
    let parts = and_parts (is_name name) (is_value value) good in
    let n : length name ≤ 8 = name_short name parts.0 in
    let v : length (value_text value) ≤ 23 = value_short value parts.1 in
    omega (arith, n, v)
command_size (command.Add name by) good =
    let parts = and_parts (is_name name) (fits_i64 by) good in
    let n : length name ≤ 8 = name_short name parts.0 in
    let z : length (signed_decimal by) ≤ 21 = integer_short by parts.1 in
    omega (arith, n, z)
command_size (command.Cas name expected value) good =
    let parts = and_parts (is_name name) (is_value expected && is_value value) good in
    let values = and_parts (is_value expected) (is_value value) parts.1 in
    let n : length name ≤ 8 = name_short name parts.0 in
    let x : length (value_text expected) ≤ 23 = value_short expected values.0 in
    let v : length (value_text value) ≤ 23 = value_short value values.1 in
    omega (arith, n, x, v)
command_size command.Ask good = omega arith

reply_size : (r : Reply) → is_reply r ≡ true → size (reply_words r) ≤ 30
reply_size (reply.Value v) good = let n : length (value_text v) ≤ 23 = value_short v good in omega (arith, n)
reply_size reply.Done good = omega arith
reply_size (reply.Sum z) good = let n : length (signed_decimal z) ≤ 21 = integer_short z good in omega (arith, n)
reply_size reply.Swapped good = omega arith
reply_size (reply.Kept v) good = let n : length (value_text v) ≤ 23 = value_short v good in omega (arith, n)
reply_size reply.NoName good = omega arith
reply_size reply.NotCounter good = omega arith
reply_size reply.Overflow good = omega arith
reply_size reply.StoreFull good = omega arith
reply_size (reply.Last n) good = let d : length (decimal n) ≤ 5 = bit_digits n good in omega (arith, d)

answer_size : (a : Answer) → is_answer a ≡ true → size (answer_words a) ≤ 30
answer_size (answer.Reply r) good = reply_size r good
answer_size (answer.TicketsFull p) good = let d : length (decimal p) ≤ 3 = byte_digits p good in omega (arith, d)
answer_size answer.StampsFull good = omega arith
answer_size answer.Withdrawn good = omega arith

-- a mark with its sign takes no more than its room
mark_size : (m : Mark) → is_mark m ≡ true → size (signed_words m) ≤ room_of m
mark_size (mark.Called c) good = let s : size (command_words c) ≤ 61 = command_size c good in omega (arith, s)
mark_size (mark.Waiting t) good = let d : length (decimal t) ≤ 10 = ticket_digits t good in omega (arith, d)
mark_size mark.Entered good = omega arith
mark_size (mark.Taken k r) good =
    let parts = and_parts (nat_lt k (2 ^ 64)) (is_reply r) good in
    let d : length (decimal k) ≤ 20 = place_digits k parts.0 in
    let s : size (reply_words r) ≤ 30 = reply_size r parts.1 in
    omega (arith, d, s)
mark_size mark.Left good = omega arith
mark_size (mark.Answered a) good = let s : size (answer_words a) ≤ 30 = answer_size a good in omega (arith, s)
mark_size mark.Failed good = omega arith
mark_size (mark.Settled true) good = omega arith
mark_size (mark.Settled false) good = omega arith
mark_size mark.Down good = omega arith
mark_size mark.Withdrew good = omega arith
mark_size mark.Restarted good = omega arith

marks_size : (ms : List Mark) → list_all is_mark ms ≡ true → size (flat_map signed_words ms) ≤ room ms
marks_size [] good = omega arith
marks_size (m ∷ ms) good =
    let parts = and_parts (is_mark m) (list_all is_mark ms) good in
    let one : size (signed_words m) ≤ room_of m = mark_size m parts.0 in
    let rest : size (flat_map signed_words ms) ≤ room ms = marks_size ms parts.1 in
    let all : size (signed_words m ++ flat_map signed_words ms) ≡ size (signed_words m) + size (flat_map signed_words ms) = size-append (signed_words m) (flat_map signed_words ms) in
    omega (arith, one, rest, all)

-- An entry in range with such marks fits its line.
pub short_fits : (e : Entry) → is_entry e ≡ true → AreFew e.marks → FitsLine e
short_fits e sound are =
    let parts = and_parts (nat_lt e.process 256) (is_access e.access && list_all is_mark e.marks) sound in
    let others = and_parts (is_access e.access) (list_all is_mark e.marks) parts.1 in
    let process : length (decimal e.process) ≤ 3 = byte_digits e.process parts.0 in
    let access : size (access_words e.access) ≤ 32 = access_size e.access others.0 in
    let reported : size (flat_map signed_words e.marks) ≤ room e.marks = marks_size e.marks others.1 in
    let small : room e.marks ≤ 71 = are.small in
    let both : size (access_words e.access ++ flat_map signed_words e.marks) ≡ size (access_words e.access) + size (flat_map signed_words e.marks) = size-append (access_words e.access) (flat_map signed_words e.marks) in
    let whole : size (entry_words e) ≡ length (decimal e.process) + (1 + size (access_words e.access ++ flat_map signed_words e.marks)) = refl in
    let within : length (spaced (entry_words e)) ≤ size (entry_words e) = length-spaced (entry_words e) in
    record { entry = record { sound = sound; few = are.few }; short = omega (arith, process, access, reported, small, both, whole, within) }
