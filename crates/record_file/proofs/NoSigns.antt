-- No word of a printed access or mark is the sign before a mark.
use Rattle.std.proofs.Common.{◌≡◌, ℕ, ℤ, pos, negsuc, ◌+◌, ◌<◌, ◌^◌, ◌&&◌, not, nat_lt, Bool, true, false, List, [], ◌∷◌, ◌++◌, length, codes, Option, Some, None, refl, ap, sym, ◌∙◌, arith}
use Rattle.std.proofs.lemmas.Bool.{and_from, and_parts}
use Rattle.std.proofs.lemmas.Bool.Decides.{nat_tests}
use Rattle.std.proofs.lemmas.Fmt.{digits_decimal, decimal_nonempty}
use Rattle.std.proofs.lemmas.List.{length-append}
use Rattle.std.proofs.lemmas.Slice.Eq.{bytes_eq-Decides}
use Rattle.std.specs.Fmt.{decimal, signed_decimal}
use Rattle.std.specs.List.{list_all}
use Rattle.safe_bit.specs.{Move}
use Rattle.safe_bit.specs.declared.Move.TheVariants as move
use Rattle.model.specs.{Access, Mark}
use Rattle.plain_store.specs.{Answer, Command, Reply, Value, fits_i64, is_command, is_name, is_value, value_text}
use Rattle.plain_store.specs.declared.commands.Answer.TheVariants as answer
use Rattle.plain_store.specs.declared.commands.Command.TheVariants as command
use Rattle.plain_store.specs.declared.commands.Reply.TheVariants as reply
use Rattle.plain_store.specs.declared.commands.Value.TheVariants.{Count, Text}
use Rattle.model.specs.declared.marks.Mark.TheVariants as mark
use Rattle.scenario.specs.{are_digits, command_words}
use Rattle.scenario.proofs.Numerals.{own}
use Rattle.record_file.specs.{access_words, answer_words, is_access, is_answer, is_mark, is_reply, is_sign, mark_words, move_words, reply_words}
use Rattle.record_file.proofs.Parts.{has_no_sign}

-- a word that passes a test that the sign fails
by_test : (p : List ℕ → Bool) (w : List ℕ) → p (codes ":") ≡ false → p w ≡ true → not (is_sign w) ≡ true
by_test p w fails passes = by (is_sign w) refl
  where
    by : (b : Bool) → is_sign w ≡ b → not b ≡ true
    by true is = let same : w ≡ codes ":" = (bytes_eq-Decides w (codes ":")).0 is in let never : true ≡ false = sym passes ∙ ap p same ∙ fails in absurd (cc)
    by false is = refl

number_is_none : (n : ℕ) → n < 2 ^ 64 → not (is_sign (decimal n)) ≡ true
number_is_none n small = by_test are_digits (decimal n) refl (digits_decimal own n small)

integer_is_none : (z : ℤ) → fits_i64 z ≡ true → not (is_sign (signed_decimal z)) ≡ true
integer_is_none (pos n) fits = number_is_none n (grind (arith, nat_tests))
integer_is_none (negsuc n) fits = refl

name_is_none : (name : List ℕ) → is_name name ≡ true → not (is_sign name) ≡ true
name_is_none name is = by_test is_name name refl is

value_is_none : (v : Value) → not (is_sign (value_text v)) ≡ true
value_is_none (Count z) = refl
value_is_none (Text bytes) = refl

-- a list of one word
one : (w : List ℕ) → not (is_sign w) ≡ true → has_no_sign (w ∷ []) ≡ true
one w none = and_from (not (is_sign w)) true none refl

command_has_none : (c : Command) → is_command c ≡ true → has_no_sign (command_words c) ≡ true
command_has_none (command.Read name) good = one name (name_is_none name good)
command_has_none (command.Write name value) good = and_from _ _ (name_is_none name (and_parts (is_name name) (is_value value) good).0) (one (value_text value) (value_is_none value))
command_has_none (command.Add name by) good = let parts = and_parts (is_name name) (fits_i64 by) good in and_from _ _ (name_is_none name parts.0) (one (signed_decimal by) (integer_is_none by parts.1))
command_has_none (command.Cas name expected value) good = and_from _ _ (name_is_none name (and_parts (is_name name) (is_value expected && is_value value) good).0) (and_from _ _ (value_is_none expected) (one (value_text value) (value_is_none value)))
command_has_none command.Ask good = refl

reply_has_none : (r : Reply) → is_reply r ≡ true → has_no_sign (reply_words r) ≡ true
reply_has_none (reply.Value v) good = one (value_text v) (value_is_none v)
reply_has_none reply.Done good = refl
reply_has_none (reply.Sum z) good = one (signed_decimal z) (integer_is_none z good)
reply_has_none reply.Swapped good = refl
reply_has_none (reply.Kept v) good = one (value_text v) (value_is_none v)
reply_has_none reply.NoName good = refl
reply_has_none reply.NotCounter good = refl
reply_has_none reply.Overflow good = refl
reply_has_none reply.StoreFull good = refl
reply_has_none (reply.Last n) good = one (decimal n) (number_is_none n (grind (arith, nat_tests)))

answer_has_none : (a : Answer) → is_answer a ≡ true → has_no_sign (answer_words a) ≡ true
answer_has_none (answer.Reply r) good = reply_has_none r good
answer_has_none (answer.TicketsFull p) good = one (decimal p) (number_is_none p (grind (arith, nat_tests)))
answer_has_none answer.StampsFull good = refl
answer_has_none answer.Withdrawn good = refl

pub mark_has_none : (m : Mark) → is_mark m ≡ true → has_no_sign (mark_words m) ≡ true
mark_has_none (mark.Called c) good = command_has_none c good
mark_has_none (mark.Waiting t) good = one (decimal t) (number_is_none t (grind (arith, nat_tests)))
mark_has_none mark.Entered good = refl
mark_has_none (mark.Taken k r) good =
    let parts = and_parts (nat_lt k (2 ^ 64)) (is_reply r) good in
    let small : nat_lt k (2 ^ 64) ≡ true = parts.0 in
    and_from _ _ (number_is_none k (grind (arith, nat_tests))) (reply_has_none r parts.1)
mark_has_none mark.Left good = refl
mark_has_none (mark.Answered a) good = answer_has_none a good
mark_has_none mark.Failed good = refl
mark_has_none (mark.Settled true) good = refl
mark_has_none (mark.Settled false) good = refl
mark_has_none mark.Down good = refl
mark_has_none mark.Withdrew good = refl
mark_has_none mark.Restarted good = refl

pub marks_have_none : (marks : List Mark) → list_all is_mark marks ≡ true → list_all (λ m. has_no_sign (mark_words m)) marks ≡ true
marks_have_none [] good = refl
marks_have_none (m ∷ marks) good = let parts = and_parts (is_mark m) (list_all is_mark marks) good in and_from _ _ (mark_has_none m parts.0) (marks_have_none marks parts.1)

-- the word of a copy is longer than the sign
long_word : (digits more : List ℕ) → 0 < length digits → not (is_sign (digits ++ 46 ∷ more)) ≡ true
long_word [] more some = absurd (omega (arith, some))
long_word (d ∷ digits) more some = by (is_sign (d ∷ (digits ++ 46 ∷ more))) refl
  where
    by : (b : Bool) → is_sign (d ∷ (digits ++ 46 ∷ more)) ≡ b → not b ≡ true
    by true is =
        let same : d ∷ (digits ++ 46 ∷ more) ≡ codes ":" = (bytes_eq-Decides (d ∷ (digits ++ 46 ∷ more)) (codes ":")).0 is in
        let size : length (digits ++ 46 ∷ more) ≡ length digits + length (46 ∷ more) = length-append digits (46 ∷ more) in
        let short : length (d ∷ (digits ++ 46 ∷ more)) ≡ 1 = ap length same in
        absurd (omega (arith, size, short))
    by false is = refl

move_has_none : (how : Move) → has_no_sign (move_words how) ≡ true
move_has_none (move.BeginWrite true) = refl
move_has_none (move.BeginWrite false) = refl
move_has_none move.EndWrite = refl
move_has_none move.BeginRead = refl
move_has_none (move.EndRead true) = refl
move_has_none (move.EndRead false) = refl
move_has_none (move.Settle true) = refl
move_has_none (move.Settle false) = refl

pub access_has_none : (a : Option Access) → is_access a ≡ true → has_no_sign (access_words a) ≡ true
access_has_none None good = refl
access_has_none (Some a) good =
    let owner : nat_lt a.owner 256 ≡ true = (and_parts (nat_lt a.owner 256) (nat_lt a.bit 65536 && nat_lt a.reader 256) good).0 in
    let small : a.owner < 2 ^ 64 = grind (arith, nat_tests) in
    and_from _ _ (long_word (decimal a.owner) _ (decimal_nonempty a.owner small)) (move_has_none a.how)
