-- A value that was read has the words that are printed for it, and parts as their types allow.
use Rattle.std.proofs.Common.{◌≡◌, ℕ, ◌+◌, ◌-◌, ◌<◌, ◌≤◌, ◌^◌, ◌==◌, not, nat_le, nat_lt, true, false, List, [], ◌∷◌, ◌++◌, length, map, flat_map, codes, Option, Some, None, Result, Ok, Err, refl, ap, sym, subst, ◌∙◌, arith, append-nil, append_assoc}
use Rattle.std.proofs.lemmas.Bool.{and_from}
use Rattle.std.proofs.lemmas.Bool.Decides.{nat_tests}
use Rattle.std.specs.Fmt.{decimal}
use Rattle.std.specs.List.{list_all}
use Rattle.safe_bit.specs.{Move}
use Rattle.safe_bit.specs.declared.Move.TheVariants as move
use Rattle.model.specs.{Access, Entry, Field, Mark, field_word}
use Rattle.plain_store.specs.{Answer, Reply}
use Rattle.plain_store.specs.declared.commands.Answer.TheVariants as answer
use Rattle.plain_store.specs.declared.commands.Reply.TheVariants as reply
use Rattle.files.specs.{FaultKind, counted, fault_if, known, word, ◌>>=◌}
use Rattle.files.specs.declared.faults.FaultKind.TheVariants.{Unknown, Words}
use Rattle.files.proofs.Passing.{passed, no_fault, length_of}
use Rattle.model.specs.declared.marks.Mark.TheVariants as mark
use Rattle.scenario.specs.{BitWord, bit_word_of, command_of, integer_at, number_at, one_bit_of, operand_count, value_at, verb_of, verbs}
use Rattle.scenario.specs.declared.bit_files.BitWord.TheVariants as bits
use Rattle.scenario.proofs.BitsSaid.{bit_key, key_spelled, one_bit_spelled}
use Rattle.scenario.proofs.LineSpelled.{none_of, one_of, command_said, process_spelled}
use Rattle.scenario.proofs.OneSpelling.{number_spelled, integer_at_spelled, value_spelled, verb_word, found_spelled}
use Rattle.record_file.specs.{AnswerWord, IsEntry, MarkWord, ReplyWord, access_of, access_words, answer_count, answer_of, answer_word_of, answer_words, answered_of, both, called_of, copy_of, copy_word, dotted, entry_by, entry_of, entry_words, field_at, field_of, fields, is_access, is_answer, is_mark, is_reply, lone_mark_of, mark_names, mark_of, mark_word_of, mark_words, marks_read, move_of, move_words, named_mark_of, or_reply, own_answer_of, own_answers, parts_of, reply_count, reply_names, reply_of, reply_word_of, reply_words, signed_words, sum_first, taken_of, waiting_of, with_mark}
use Rattle.record_file.specs.declared.keywords.AnswerWord.TheVariants as answer_word
use Rattle.record_file.specs.declared.keywords.MarkWord.TheVariants as mark_word
use Rattle.record_file.specs.declared.keywords.ReplyWord.TheVariants as reply_word
use Rattle.record_file.proofs.Dots.{four_parts}
use Rattle.record_file.proofs.Parts.{signed, joined, joined_parts}

-- a value was read
abbrev IsRead : {A : Type 0} → Result A FaultKind → A → Type 0
IsRead r x = r ≡ Ok x

-- a value that was made is the value that was read
one_made : {A : Type 0} (x y : A) → IsRead (Ok x) y → x ≡ y
one_made x y is = cc

-- a word of a table that was found
known_is : {A : Type 0} (o : Option A) (x : A) → known o ≡ Ok x → o ≡ Some x
known_is None x is = absurd (cc)
known_is (Some y) x is = let same : y ≡ x = cc in ap (λ z. Some z) same

-- two parts that were read
both_read : {A B : Type 0} (a : Result A FaultKind) (b : Result B FaultKind) (x : A × B) → both a b ≡ Ok x → (a ≡ Ok x.0) × (b ≡ Ok x.1)
both_read (Ok a) (Ok b) x is = let same : (a, b) ≡ x = cc in (ap (λ y. Ok y.0) same, ap (λ y. Ok y.1) same)
both_read (Ok a) (Err f) x is = absurd (cc)
both_read (Err e) (Ok b) x is = absurd (cc)
both_read (Err e) (Err f) x is = absurd (cc)

-- the first word of a reply
abbrev pub reply_key : ReplyWord → List ℕ
reply_key reply_word.Value = codes "value"
reply_key reply_word.Done = codes "done"
reply_key reply_word.Sum = codes "sum"
reply_key reply_word.Swapped = codes "swapped"
reply_key reply_word.Kept = codes "kept"
reply_key reply_word.NoName = codes "no-name"
reply_key reply_word.NotCounter = codes "not-counter"
reply_key reply_word.Overflow = codes "overflow"
reply_key reply_word.StoreFull = codes "store-full"
reply_key reply_word.Last = codes "last"

-- a reply that was read
record ReplySaid (name : ReplyWord) (ws : List (List ℕ)) (r : Reply) : Type 0 where
  words : reply_key name ∷ ws ≡ reply_words r
  good : is_reply r ≡ true

reply_made : (name : ReplyWord) (ws : List (List ℕ)) (made r : Reply) → IsRead (Ok made) r → reply_key name ∷ ws ≡ reply_words made → is_reply made ≡ true → ReplySaid name ws r
reply_made name ws made r is words good = subst (ReplySaid name ws) (one_made made r is) (record { words = words; good = good })

-- a reply that consists of its first word alone
lone_reply : (name : ReplyWord) (ws : List (List ℕ)) (made r : Reply) → length ws ≡ 0 → IsRead (Ok made) r → reply_key name ∷ [] ≡ reply_words made → is_reply made ≡ true → ReplySaid name ws r
lone_reply name ws made r none is words good = reply_made name ws made r is (ap (λ ws. reply_key name ∷ ws) (none_of ws none) ∙ words) good

reply_said : (name : ReplyWord) (ws : List (List ℕ)) (r : Reply) → length ws ≡ reply_count name → reply_of name ws ≡ Ok r → ReplySaid name ws r
reply_said reply_word.Value ws r n read =
    let a = passed (value_at (word 0 ws)) (λ v. Ok (reply.Value v)) r read in
    let v = value_spelled (word 0 ws) a.value a.first in
    reply_made reply_word.Value ws (reply.Value a.value) r a.next (ap (λ ws. codes "value" ∷ ws) (one_of ws n) ∙ ap (λ w. codes "value" ∷ w ∷ []) v.0) v.1
reply_said reply_word.Kept ws r n read =
    let a = passed (value_at (word 0 ws)) (λ v. Ok (reply.Kept v)) r read in
    let v = value_spelled (word 0 ws) a.value a.first in
    reply_made reply_word.Kept ws (reply.Kept a.value) r a.next (ap (λ ws. codes "kept" ∷ ws) (one_of ws n) ∙ ap (λ w. codes "kept" ∷ w ∷ []) v.0) v.1
reply_said reply_word.Sum ws r n read =
    let a = passed (integer_at (word 0 ws)) (λ z. Ok (reply.Sum z)) r read in
    let z = integer_at_spelled (word 0 ws) a.value a.first in
    reply_made reply_word.Sum ws (reply.Sum a.value) r a.next (ap (λ ws. codes "sum" ∷ ws) (one_of ws n) ∙ ap (λ w. codes "sum" ∷ w ∷ []) z.0) z.1
reply_said reply_word.Last ws r n read =
    let a = passed (number_at 65535 (word 0 ws)) (λ k. Ok (reply.Last k)) r read in
    let k = number_spelled 65535 (word 0 ws) a.value (omega arith) a.first in
    let within : nat_le a.value 65535 ≡ true = k.1 in
    reply_made reply_word.Last ws (reply.Last a.value) r a.next (ap (λ ws. codes "last" ∷ ws) (one_of ws n) ∙ ap (λ w. codes "last" ∷ w ∷ []) k.0) (grind (arith, nat_tests))
reply_said reply_word.Done ws r n read = lone_reply reply_word.Done ws reply.Done r n read refl refl
reply_said reply_word.Swapped ws r n read = lone_reply reply_word.Swapped ws reply.Swapped r n read refl refl
reply_said reply_word.NoName ws r n read = lone_reply reply_word.NoName ws reply.NoName r n read refl refl
reply_said reply_word.NotCounter ws r n read = lone_reply reply_word.NotCounter ws reply.NotCounter r n read refl refl
reply_said reply_word.Overflow ws r n read = lone_reply reply_word.Overflow ws reply.Overflow r n read refl refl
reply_said reply_word.StoreFull ws r n read = lone_reply reply_word.StoreFull ws reply.StoreFull r n read refl refl

-- the first word of an answer that contains no reply
abbrev pub answer_key : AnswerWord → List ℕ
answer_key (answer_word.Reply name) = reply_key name
answer_key answer_word.TicketsFull = codes "tickets-full"
answer_key answer_word.StampsFull = codes "stamps-full"
answer_key answer_word.Withdrawn = codes "withdrawn"

answer_key_spelled : (w : List ℕ) (name : AnswerWord) → known (answer_word_of w) ≡ Ok name → w ≡ answer_key name
answer_key_spelled w name read = by (own_answer_of w) refl (reply_word_of w) refl (known_is (answer_word_of w) name read)
  where
    by : (o : Option AnswerWord) → own_answer_of w ≡ o → (r : Option ReplyWord) → reply_word_of w ≡ r → or_reply o r ≡ Some name → w ≡ answer_key name
    by (Some own) is r other found = let same : own ≡ name = cc in found_spelled answer_key w own_answers name (is ∙ ap (λ a. Some a) same) refl
    by None is (Some r) found has = let same : answer_word.Reply r ≡ name = cc in found_spelled reply_key w reply_names r found refl ∙ ap answer_key same
    by None is None none has = absurd (cc)

-- an answer that was read
record AnswerSaid (name : AnswerWord) (ws : List (List ℕ)) (a : Answer) : Type 0 where
  words : answer_key name ∷ ws ≡ answer_words a
  good : is_answer a ≡ true

answer_made : (name : AnswerWord) (ws : List (List ℕ)) (made a : Answer) → IsRead (Ok made) a → answer_key name ∷ ws ≡ answer_words made → is_answer made ≡ true → AnswerSaid name ws a
answer_made name ws made a is words good = subst (AnswerSaid name ws) (one_made made a is) (record { words = words; good = good })

answer_said : (name : AnswerWord) (ws : List (List ℕ)) (a : Answer) → length ws ≡ answer_count name → answer_of name ws ≡ Ok a → AnswerSaid name ws a
answer_said (answer_word.Reply name) ws a n read =
    let r = passed (reply_of name ws) (λ r. Ok (answer.Reply r)) a read in
    let said = reply_said name ws r.value n r.first in
    answer_made (answer_word.Reply name) ws (answer.Reply r.value) a r.next said.words said.good
answer_said answer_word.TicketsFull ws a n read =
    let p = passed (number_at 255 (word 0 ws)) (λ p. Ok (answer.TicketsFull p)) a read in
    let process = process_spelled (word 0 ws) p.value p.first in
    answer_made answer_word.TicketsFull ws (answer.TicketsFull p.value) a p.next (ap (λ ws. codes "tickets-full" ∷ ws) (one_of ws n) ∙ ap (λ w. codes "tickets-full" ∷ w ∷ []) process.0) process.1
answer_said answer_word.StampsFull ws a n read = answer_made answer_word.StampsFull ws answer.StampsFull a read (ap (λ ws. codes "stamps-full" ∷ ws) (none_of ws n)) refl
answer_said answer_word.Withdrawn ws a n read = answer_made answer_word.Withdrawn ws answer.Withdrawn a read (ap (λ ws. codes "withdrawn" ∷ ws) (none_of ws n)) refl

-- a mark that was read
record MarkSaid (ws : List (List ℕ)) (m : Mark) : Type 0 where
  words : ws ≡ mark_words m
  good : is_mark m ≡ true

mark_made : (ws : List (List ℕ)) (made m : Mark) → IsRead (Ok made) m → ws ≡ mark_words made → is_mark made ≡ true → MarkSaid ws m
mark_made ws made m is words good = subst (MarkSaid ws) (one_made made m is) (record { words = words; good = good })

called_said : (ws : List (List ℕ)) (m : Mark) → called_of ws ≡ Ok m → MarkSaid (codes "call" ∷ ws) m
unfolding called_of
called_said [] m read = absurd (cc)
called_said (v ∷ ws) m read =
    let a = passed (known (verb_of v)) (λ verb. counted (operand_count verb) ws >>= λ counts. sum_first verb ws >>= λ sum. command_of verb ws >>= λ command. Ok (mark.Called command)) m read in
    let b = passed (counted (operand_count a.value) ws) (λ counts. sum_first a.value ws >>= λ sum. command_of a.value ws >>= λ command. Ok (mark.Called command)) m a.next in
    let d = passed (sum_first a.value ws) (λ sum. command_of a.value ws >>= λ command. Ok (mark.Called command)) m b.next in
    let e = passed (command_of a.value ws) (λ command. Ok (mark.Called command)) m d.next in
    let key : v ≡ verb_word a.value = found_spelled verb_word v verbs a.value (known_is (verb_of v) a.value a.first) refl in
    let command = command_said a.value ws b.value e.value b.first e.first in
    mark_made (codes "call" ∷ v ∷ ws) (mark.Called e.value) m e.next (ap (λ w. codes "call" ∷ w ∷ ws) key ∙ ap (λ ws. codes "call" ∷ ws) command.words) command.good

taken_said : (ws : List (List ℕ)) (m : Mark) → taken_of ws ≡ Ok m → MarkSaid (codes "taken" ∷ ws) m
unfolding taken_of
taken_said [] m read = absurd (cc)
taken_said (p ∷ []) m read = absurd (cc)
taken_said (p ∷ r ∷ ws) m read =
    let a = passed (known (reply_word_of r)) (λ name. counted (reply_count name) ws >>= λ counts. number_at (2 ^ 64 - 1) p >>= λ place. reply_of name ws >>= λ reply. Ok (mark.Taken place reply)) m read in
    let b = passed (counted (reply_count a.value) ws) (λ counts. number_at (2 ^ 64 - 1) p >>= λ place. reply_of a.value ws >>= λ reply. Ok (mark.Taken place reply)) m a.next in
    let d = passed (number_at (2 ^ 64 - 1) p) (λ place. reply_of a.value ws >>= λ reply. Ok (mark.Taken place reply)) m b.next in
    let e = passed (reply_of a.value ws) (λ reply. Ok (mark.Taken d.value reply)) m d.next in
    let key : r ≡ reply_key a.value = found_spelled reply_key r reply_names a.value (known_is (reply_word_of r) a.value a.first) refl in
    let place = number_spelled (2 ^ 64 - 1) p d.value (omega arith) d.first in
    let within : nat_le d.value (2 ^ 64 - 1) ≡ true = place.1 in
    let small : nat_lt d.value (2 ^ 64) ≡ true = grind (arith, nat_tests) in
    let said = reply_said a.value ws e.value (length_of (reply_count a.value) ws b.value b.first) e.first in
    mark_made (codes "taken" ∷ p ∷ r ∷ ws) (mark.Taken d.value e.value) m e.next
    (ap (λ w. codes "taken" ∷ w ∷ r ∷ ws) place.0 ∙ ap (λ w. codes "taken" ∷ decimal d.value ∷ w ∷ ws) key ∙ ap (λ ws. codes "taken" ∷ decimal d.value ∷ ws) said.words)
    (and_from _ _ small said.good)

answered_said : (ws : List (List ℕ)) (m : Mark) → answered_of ws ≡ Ok m → MarkSaid (codes "answer" ∷ ws) m
unfolding answered_of
answered_said [] m read = absurd (cc)
answered_said (w ∷ ws) m read =
    let a = passed (known (answer_word_of w)) (λ name. counted (answer_count name) ws >>= λ counts. answer_of name ws >>= λ answer. Ok (mark.Answered answer)) m read in
    let b = passed (counted (answer_count a.value) ws) (λ counts. answer_of a.value ws >>= λ answer. Ok (mark.Answered answer)) m a.next in
    let d = passed (answer_of a.value ws) (λ answer. Ok (mark.Answered answer)) m b.next in
    let said = answer_said a.value ws d.value (length_of (answer_count a.value) ws b.value b.first) d.first in
    mark_made (codes "answer" ∷ w ∷ ws) (mark.Answered d.value) m d.next (ap (λ w. codes "answer" ∷ w ∷ ws) (answer_key_spelled w a.value a.first) ∙ ap (λ ws. codes "answer" ∷ ws) said.words) said.good

waiting_said : (ws : List (List ℕ)) (m : Mark) → waiting_of ws ≡ Ok m → MarkSaid (codes "wait" ∷ ws) m
waiting_said ws m read =
    let a = passed (counted 1 ws) (λ counts. number_at (2 ^ 32 - 1) (word 0 ws) >>= λ ticket. Ok (mark.Waiting ticket)) m read in
    let b = passed (number_at (2 ^ 32 - 1) (word 0 ws)) (λ ticket. Ok (mark.Waiting ticket)) m a.next in
    let ticket = number_spelled (2 ^ 32 - 1) (word 0 ws) b.value (omega arith) b.first in
    let within : nat_le b.value (2 ^ 32 - 1) ≡ true = ticket.1 in
    mark_made (codes "wait" ∷ ws) (mark.Waiting b.value) m b.next (ap (λ ws. codes "wait" ∷ ws) (one_of ws (length_of 1 ws a.value a.first)) ∙ ap (λ w. codes "wait" ∷ w ∷ []) ticket.0) (grind (arith, nat_tests))

lone_said : (key : List ℕ) (made : Mark) (ws : List (List ℕ)) (m : Mark) → mark_words made ≡ key ∷ [] → is_mark made ≡ true → lone_mark_of made ws ≡ Ok m → MarkSaid (key ∷ ws) m
lone_said key made ws m is good read =
    let a = passed (counted 0 ws) (λ counts. Ok made) m read in
    mark_made (key ∷ ws) made m a.next (ap (λ ws. key ∷ ws) (none_of ws (length_of 0 ws a.value a.first)) ∙ sym is) good

settled_said : (ws : List (List ℕ)) (m : Mark) → (one_bit_of ws >>= λ v. Ok (mark.Settled v)) ≡ Ok m → MarkSaid (codes "settled" ∷ ws) m
settled_said ws m read =
    let a = passed (one_bit_of ws) (λ v. Ok (mark.Settled v)) m read in
    mark_made (codes "settled" ∷ ws) (mark.Settled a.value) m a.next (ap (λ ws. codes "settled" ∷ ws) (one_bit_spelled ws a.value a.first)) refl

-- the first word of a mark
abbrev pub mark_key : MarkWord → List ℕ
mark_key mark_word.Call = codes "call"
mark_key mark_word.Wait = codes "wait"
mark_key mark_word.Enter = codes "enter"
mark_key mark_word.Taken = codes "taken"
mark_key mark_word.Leave = codes "leave"
mark_key mark_word.Answer = codes "answer"
mark_key mark_word.Fail = codes "fail"
mark_key mark_word.Settled = codes "settled"
mark_key mark_word.Down = codes "down"
mark_key mark_word.Withdraw = codes "withdraw"
mark_key mark_word.Restart = codes "restart"

named_said : (name : MarkWord) (ws : List (List ℕ)) (m : Mark) → named_mark_of name ws ≡ Ok m → MarkSaid (mark_key name ∷ ws) m
named_said mark_word.Call ws m read = called_said ws m read
named_said mark_word.Wait ws m read = waiting_said ws m read
named_said mark_word.Enter ws m read = lone_said (codes "enter") mark.Entered ws m refl refl read
named_said mark_word.Taken ws m read = taken_said ws m read
named_said mark_word.Leave ws m read = lone_said (codes "leave") mark.Left ws m refl refl read
named_said mark_word.Answer ws m read = answered_said ws m read
named_said mark_word.Fail ws m read = lone_said (codes "fail") mark.Failed ws m refl refl read
named_said mark_word.Settled ws m read = settled_said ws m read
named_said mark_word.Down ws m read = lone_said (codes "down") mark.Down ws m refl refl read
named_said mark_word.Withdraw ws m read = lone_said (codes "withdraw") mark.Withdrew ws m refl refl read
named_said mark_word.Restart ws m read = lone_said (codes "restart") mark.Restarted ws m refl refl read

mark_said : (ws : List (List ℕ)) (m : Mark) → mark_of ws ≡ Ok m → MarkSaid ws m
mark_said [] m read = absurd (cc)
mark_said (w ∷ ws) m read =
    let a = passed (known (mark_word_of w)) (λ name. named_mark_of name ws) m read in
    let key : w ≡ mark_key a.value = found_spelled mark_key w mark_names a.value (known_is (mark_word_of w) a.value a.first) refl in
    subst (λ w. MarkSaid (w ∷ ws) m) (sym key) (named_said a.value ws m a.next)

-- marks that were read, after others
record MarksSaid (n : ℕ) (parts : List (List (List ℕ))) (before : Result (List Mark) FaultKind) (after : List Mark) : Type 0 where
  others : List Mark
  marks : List Mark
  first : before ≡ Ok others
  words : map mark_words marks ≡ parts
  good : list_all is_mark marks ≡ true
  are : others ++ marks ≡ after
  few : length marks ≤ 3 - n

marks_said : (n : ℕ) (parts : List (List (List ℕ))) (before : Result (List Mark) FaultKind) (after : List Mark) → marks_read n parts before ≡ Ok after → MarksSaid n parts before after
marks_said n [] before after read = record { others = after; marks = []; first = read; words = refl; good = refl; are = append-nil after; few = omega arith }
marks_said n (part ∷ parts) before after read =
    let rest = marks_said (n + 1) parts (with_mark n before (mark_of part)) after read in
    let made = passed (both (both before (mark_of part)) (fault_if (not (nat_lt n 3)) Words)) (λ read. Ok (read.0.0 ++ read.0.1 ∷ [])) rest.others rest.first in
    let counts = both_read (both before (mark_of part)) (fault_if (not (nat_lt n 3)) Words) made.value made.first in
    let two = both_read before (mark_of part) made.value.0 counts.0 in
    let one = mark_said part made.value.0.1 two.1 in
    let room : not (nat_lt n 3) ≡ false = no_fault (not (nat_lt n 3)) Words made.value.1 counts.1 in
    let below : n < 3 = grind (arith, nat_tests) in
    let few : length rest.marks ≤ 3 - (n + 1) = rest.few in
    let kept : made.value.0.0 ++ made.value.0.1 ∷ [] ≡ rest.others = one_made (made.value.0.0 ++ made.value.0.1 ∷ []) rest.others made.next in
    record {
      others = made.value.0.0;
      marks = made.value.0.1 ∷ rest.marks;
      first = two.0;
      words = ap (λ ws. ws ∷ map mark_words rest.marks) (sym one.words) ∙ ap (λ ps. part ∷ ps) rest.words;
      good = and_from _ _ one.good rest.good;
      are = sym (append_assoc made.value.0.0 (made.value.0.1 ∷ []) rest.marks) ∙ ap (λ ms. ms ++ rest.marks) kept ∙ rest.are;
      few = omega (arith, below, few);
    }

-- a move that was read
move_said : (name : BitWord) (ws : List (List ℕ)) (how : Move) → move_of name ws ≡ Ok how → bit_key name ∷ ws ≡ move_words how
move_said bits.Bits ws how read = absurd (cc)
move_said bits.Drop ws how read = absurd (cc)
move_said bits.Write ws how read =
    let a = passed (one_bit_of ws) (λ v. Ok (move.BeginWrite v)) how read in
    ap (λ ws. codes "write" ∷ ws) (one_bit_spelled ws a.value a.first) ∙ ap move_words (one_made (move.BeginWrite a.value) how a.next)
move_said bits.Value ws how read =
    let a = passed (one_bit_of ws) (λ v. Ok (move.EndRead v)) how read in
    ap (λ ws. codes "value" ∷ ws) (one_bit_spelled ws a.value a.first) ∙ ap move_words (one_made (move.EndRead a.value) how a.next)
move_said bits.Settle ws how read =
    let a = passed (one_bit_of ws) (λ v. Ok (move.Settle v)) how read in
    ap (λ ws. codes "settle" ∷ ws) (one_bit_spelled ws a.value a.first) ∙ ap move_words (one_made (move.Settle a.value) how a.next)
move_said bits.End ws how read =
    let a = passed (counted 0 ws) (λ counts. Ok move.EndWrite) how read in
    ap (λ ws. codes "end" ∷ ws) (none_of ws (length_of 0 ws a.value a.first)) ∙ ap move_words (one_made move.EndWrite how a.next)
move_said bits.Read ws how read =
    let a = passed (counted 0 ws) (λ counts. Ok move.BeginRead) how read in
    ap (λ ws. codes "read" ∷ ws) (none_of ws (length_of 0 ws a.value a.first)) ∙ ap move_words (one_made move.BeginRead how a.next)

-- an access that was read
record AccessSaid (ws : List (List ℕ)) (a : Option Access) : Type 0 where
  words : ws ≡ access_words a
  good : is_access a ≡ true

copy_said : (copy : List ℕ) (field : Field) (how : Move) (a : Access) (ws : List (List ℕ)) → field_at (dotted copy) ≡ Ok field → copy_of (dotted copy) field how ≡ Ok a → ws ≡ move_words how → AccessSaid (copy ∷ ws) (Some a)
unfolding copy_of
copy_said copy field how a ws known_field read words =
    let f = passed (fault_if (not (length (dotted copy) == 4)) Unknown) (λ four. known (field_of (word 1 (dotted copy)))) field known_field in
    let four : not (length (dotted copy) == 4) ≡ false = no_fault (not (length (dotted copy) == 4)) Unknown f.value f.first in
    let count : length (dotted copy) ≡ 4 = grind (arith, nat_tests) in
    let key : word 1 (dotted copy) ≡ field_word field = found_spelled field_word (word 1 (dotted copy)) fields field (known_is (field_of (word 1 (dotted copy))) field f.next) refl in
    let o = passed (number_at 255 (word 0 (dotted copy))) (λ owner. number_at 65535 (word 2 (dotted copy)) >>= λ bit. number_at 255 (word 3 (dotted copy)) >>= λ reader. Ok (record { owner = owner; field = field; bit = bit; reader = reader; how = how })) a read in
    let b = passed (number_at 65535 (word 2 (dotted copy))) (λ bit. number_at 255 (word 3 (dotted copy)) >>= λ reader. Ok (record { owner = o.value; field = field; bit = bit; reader = reader; how = how })) a o.next in
    let r = passed (number_at 255 (word 3 (dotted copy))) (λ reader. Ok (record { owner = o.value; field = field; bit = b.value; reader = reader; how = how })) a b.next in
    let owner = process_spelled (word 0 (dotted copy)) o.value o.first in
    let bit = number_spelled 65535 (word 2 (dotted copy)) b.value (omega arith) b.first in
    let reader = process_spelled (word 3 (dotted copy)) r.value r.first in
    let within : nat_le b.value 65535 ≡ true = bit.1 in
    let small : nat_lt b.value 65536 ≡ true = grind (arith, nat_tests) in
    let made : Access = record { owner = o.value; field = field; bit = b.value; reader = r.value; how = how } in
    let spelled : copy ≡ copy_word made =
    four_parts copy count
    ∙ ap (λ w. w ++ (codes "." ++ (word 1 (dotted copy) ++ (codes "." ++ (word 2 (dotted copy) ++ (codes "." ++ word 3 (dotted copy))))))) owner.0
    ∙ ap (λ w. decimal o.value ++ (codes "." ++ (w ++ (codes "." ++ (word 2 (dotted copy) ++ (codes "." ++ word 3 (dotted copy))))))) key
    ∙ ap (λ w. decimal o.value ++ (codes "." ++ (field_word field ++ (codes "." ++ (w ++ (codes "." ++ word 3 (dotted copy))))))) bit.0
    ∙ ap (λ w. decimal o.value ++ (codes "." ++ (field_word field ++ (codes "." ++ (decimal b.value ++ (codes "." ++ w)))))) reader.0 in
    subst (λ a. AccessSaid (copy ∷ ws) (Some a)) (one_made made a r.next)
    (record { words = ap (λ w. w ∷ ws) spelled ∙ ap (λ ws. copy_word made ∷ ws) words; good = and_from _ _ owner.1 (and_from _ _ small reader.1) })

access_said : (ws : List (List ℕ)) (a : Option Access) → access_of ws ≡ Ok a → AccessSaid ws a
unfolding access_of
access_said [] a read = subst (AccessSaid []) (one_made None a read) (record { words = refl; good = refl })
access_said (copy ∷ []) a read =
    let f = passed (field_at (dotted copy)) (λ field. Err Words) a read in absurd (let never = f.next in cc)
access_said (copy ∷ name ∷ ws) a read =
    let f = passed (field_at (dotted copy)) (λ field. known (bit_word_of name) >>= λ known_move. move_of known_move ws >>= λ how. copy_of (dotted copy) field how >>= λ access. Ok (Some access)) a read in
    let n = passed (known (bit_word_of name)) (λ known_move. move_of known_move ws >>= λ how. copy_of (dotted copy) f.value how >>= λ access. Ok (Some access)) a f.next in
    let h = passed (move_of n.value ws) (λ how. copy_of (dotted copy) f.value how >>= λ access. Ok (Some access)) a n.next in
    let c = passed (copy_of (dotted copy) f.value h.value) (λ access. Ok (Some access)) a h.next in
    let words : name ∷ ws ≡ move_words h.value = ap (λ w. w ∷ ws) (key_spelled name n.value (known_is (bit_word_of name) n.value n.first)) ∙ move_said n.value ws h.value h.first in
    subst (AccessSaid (copy ∷ name ∷ ws)) (one_made (Some c.value) a c.next) (copy_said copy f.value h.value c.value (name ∷ ws) f.first c.first words)

-- the marks of some parts, with the signs before them
signed_marks : (marks : List Mark) → flat_map signed (map mark_words marks) ≡ flat_map signed_words marks
signed_marks [] = refl
signed_marks (m ∷ marks) = ap (λ ws. signed_words m ++ ws) (signed_marks marks)

-- an entry that was read
record EntrySaid (first : List ℕ) (ws : List (List ℕ)) (e : Entry) : Type 0 where
  pub words : first ∷ ws ≡ entry_words e
  pub good : IsEntry e

parts_said : (first : List ℕ) (ws : List (List ℕ)) (parts : List (List (List ℕ))) (e : Entry) → joined parts ≡ ws → entry_by first parts ≡ Ok e → EntrySaid first ws e
parts_said first ws [] e is read = absurd (cc)
parts_said first ws (place ∷ parts) e is read =
    let made = passed (both (both (number_at 255 first) (access_of place)) (marks_read 0 parts (Ok []))) (λ read. Ok (record { process = read.0.0; access = read.0.1; marks = read.1 })) e read in
    let three = both_read (both (number_at 255 first) (access_of place)) (marks_read 0 parts (Ok [])) made.value made.first in
    let two = both_read (number_at 255 first) (access_of place) made.value.0 three.0 in
    let process = process_spelled first made.value.0.0 two.0 in
    let access = access_said place made.value.0.1 two.1 in
    let marks = marks_said 0 parts (Ok []) made.value.1 three.1 in
    let none : [] ≡ marks.others = one_made [] marks.others marks.first in
    let are : marks.marks ≡ made.value.1 = ap (λ others. others ++ marks.marks) none ∙ marks.are in
    let few : length marks.marks ≤ 3 = marks.few in
    let here : Entry = record { process = made.value.0.0; access = made.value.0.1; marks = made.value.1 } in
    let sound : list_all is_mark made.value.1 ≡ true = ap (list_all is_mark) (sym are) ∙ marks.good in
    subst (EntrySaid first ws) (one_made here e made.next)
    (record {
      words =
          ap (λ w. w ∷ ws) process.0
          ∙ ap (λ ws. decimal made.value.0.0 ∷ ws) (sym is ∙ ap (λ w. w ++ flat_map signed parts) access.words ∙ ap (λ ps. access_words made.value.0.1 ++ flat_map signed ps) (sym marks.words) ∙ ap (λ w. access_words made.value.0.1 ++ w) (signed_marks marks.marks) ∙ ap (λ ms. access_words made.value.0.1 ++ flat_map signed_words ms) are);
      good = record { sound = and_from _ _ process.1 (and_from _ _ access.good sound); few = subst (λ (ms : List Mark). length ms ≤ 3) are few };
    })

-- An entry that was read has the words of its line.
pub entry_said : (first : List ℕ) (ws : List (List ℕ)) (e : Entry) → entry_of first ws ≡ Ok e → (first ∷ ws ≡ entry_words e) × IsEntry e
entry_said first ws e read = let said = parts_said first ws (parts_of ws) e (joined_parts ws) read in (said.words, said.good)
