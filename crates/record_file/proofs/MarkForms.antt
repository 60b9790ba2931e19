-- Marks are read exactly if they have a form.
use Rattle.std.proofs.Common.{◌≡◌, ℕ, ℤ, ◌-◌, ◌^◌, ◌&&◌, Bool, true, false, cond, if◌then◌else◌, List, [], ◌∷◌, ◌++◌, length, codes, Option, Some, None, Result, Ok, Err, refl, ap, sym, ◌∙◌}
use Rattle.std.proofs.lemmas.Bool.{and_right}
use Rattle.std.specs.Map.{lookup}
use Rattle.std.specs.Option.{is_none}
use Rattle.std.specs.Result.{is_ok}
use Rattle.std.specs.Str.{bytes_eq}
use Rattle.plain_store.specs.{Command}
use Rattle.plain_store.specs.declared.commands.Command.TheVariants as command
use Rattle.plain_store.specs.declared.commands.Answer.TheVariants as answer
use Rattle.plain_store.specs.declared.commands.Reply.TheVariants as reply
use Rattle.model.specs.{Mark}
use Rattle.model.specs.declared.marks.Mark.TheVariants as mark
use Rattle.files.specs.{FaultKind, counted, known, word, ◌>>=◌}
use Rattle.scenario.specs.{Operand, Verb, a_process, are_operands, bit_at, command_of, commands, fault_of, fits_form, has_form, integer_at, is_operand, name_at, number_at, one_bit_of, operand_count, value_at, verb_of, verbs}
use Rattle.scenario.specs.declared.forms.Operand.TheVariants as operand
use Rattle.scenario.specs.declared.keywords.Verb.TheVariants as verb
use Rattle.scenario.proofs.Fitting.{by_rows, fits_alone, if_word, is_read, ok_counted, ok_last, ok_operands, ok_then, other_count, row_and}
use Rattle.scenario.proofs.LineForms.{add_ok, ask_ok, cas_ok, read_ok, write_ok}
use Rattle.scenario.proofs.LineSpelled.{none_of, one_of}
use Rattle.record_file.specs.{AnswerWord, MarkWord, ReplyWord, answer_count, answer_of, answer_word_of, answered_of, called_of, lone_mark_of, mark_names, named_mark_of, or_reply, own_answer_of, own_answers, reply_count, reply_names, reply_of, reply_word_of, sum_first, taken_of, waiting_of}
use Rattle.record_file.specs.Forms.{a_place, a_ticket, marks, of_16_bits, other_answers, replies}
use Rattle.record_file.specs.declared.keywords.AnswerWord.TheVariants as answer_word
use Rattle.record_file.specs.declared.keywords.ReplyWord.TheVariants as reply_word

-- a command's operands, if the number of an `add` is looked at first
sum_ok : {A : Type 0} (r : Result ℤ FaultKind) (s : Result A FaultKind) (f : A → ℤ → Command) → is_ok ((r >>= λ by. Ok (tt {0})) >>= λ sum. (s >>= λ n. r >>= λ x. Ok (f n x)) >>= λ c. Ok (mark.Called c)) ≡ is_ok (s >>= λ n. r >>= λ x. Ok (f n x))
sum_ok (Ok x) (Ok n) f = refl
sum_ok (Ok x) (Err fault) f = refl
sum_ok (Err one) (Ok n) f = refl
sum_ok (Err one) (Err fault) f = refl

abbrev mark_called : List (List ℕ) → Verb → Result Mark FaultKind
mark_called ws v = counted (operand_count v) ws >>= λ counts. sum_first v ws >>= λ sum. command_of v ws >>= λ command. Ok (mark.Called command)

add_called : (ws : List (List ℕ)) → is_ok (mark_called ws verb.Add) ≡ are_operands 2 (operand.Name ∷ operand.Integer ∷ []) ws
unfolding command_of
add_called ws = ok_operands 2 (operand.Name ∷ operand.Integer ∷ []) ws (λ counts. sum_first verb.Add ws >>= λ sum. command_of verb.Add ws >>= λ command. Ok (mark.Called command))
    (λ count. sum_ok (integer_at (word 1 ws)) (name_at (word 0 ws)) command.Add ∙ add_ok 2 ws count)

call_mark : (ws : List (List ℕ)) → is_ok (called_of ws) ≡ fits_form 2 [] commands ws
unfolding called_of
call_mark [] = refl
call_mark (v ∷ ws) =
    by_rows 2 (λ os ws. are_operands 2 os ws) (λ o. is_ok (known o >>= mark_called ws)) v ws refl verbs commands (
      refl,
      made verb.Read (operand.Name ∷ []) refl refl (read_ok 2 ws),
      (
        refl,
        made verb.Write (operand.Name ∷ operand.Value ∷ []) refl refl (write_ok 2 ws),
        (
          refl,
          add_called ws,
          (
            refl,
            made verb.Cas (operand.Name ∷ operand.Value ∷ operand.Value ∷ []) refl refl (cas_ok 2 ws),
            (refl, made verb.Ask [] refl refl (ask_ok 2 ws), tt),
          ),
        ),
      ),
    )
  where
    made : (v : Verb) (os : List Operand) → operand_count v ≡ length os → sum_first v ws ≡ Ok tt → (length ws ≡ length os → is_ok (command_of v ws) ≡ are_operands 2 os ws) → is_ok (mark_called ws v) ≡ are_operands 2 os ws
    made v os count sum same =
        ap (λ s. is_ok (counted (operand_count v) ws >>= λ counts. s >>= λ sum. command_of v ws >>= λ command. Ok (mark.Called command))) sum
        ∙ ap (λ n. is_ok (counted n ws >>= λ counts. command_of v ws >>= λ command. Ok (mark.Called command))) count
        ∙ ok_operands 2 os ws (λ counts. command_of v ws >>= λ command. Ok (mark.Called command)) (λ are. ok_last (command_of v ws) (λ command. Ok (mark.Called command)) (λ command. refl) ∙ same are)

-- the operands of a reply
abbrev reply_operands : ReplyWord → List Operand
reply_operands reply_word.Value = operand.Value ∷ []
reply_operands reply_word.Sum = operand.Integer ∷ []
reply_operands reply_word.Kept = operand.Value ∷ []
reply_operands reply_word.Last = of_16_bits ∷ []
reply_operands name = []

reply_ok : (n : ReplyWord) (ws : List (List ℕ)) → length ws ≡ length (reply_operands n) → is_ok (reply_of n ws) ≡ are_operands 2 (reply_operands n) ws
reply_ok reply_word.Value ws count = ok_then (value_at (word 0 ws)) (λ v. Ok (reply.Value v)) true (λ v. refl) ∙ ap (are_operands 2 (operand.Value ∷ [])) (sym (one_of ws count))
reply_ok reply_word.Sum ws count = ok_then (integer_at (word 0 ws)) (λ n. Ok (reply.Sum n)) true (λ n. refl) ∙ ap (are_operands 2 (operand.Integer ∷ [])) (sym (one_of ws count))
reply_ok reply_word.Kept ws count = ok_then (value_at (word 0 ws)) (λ v. Ok (reply.Kept v)) true (λ v. refl) ∙ ap (are_operands 2 (operand.Value ∷ [])) (sym (one_of ws count))
reply_ok reply_word.Last ws count = ok_then (number_at 65535 (word 0 ws)) (λ n. Ok (reply.Last n)) true (λ n. refl) ∙ ap (are_operands 2 (of_16_bits ∷ [])) (sym (one_of ws count))
reply_ok reply_word.Done ws count = ap (are_operands 2 []) (sym (none_of ws count))
reply_ok reply_word.Swapped ws count = ap (are_operands 2 []) (sym (none_of ws count))
reply_ok reply_word.NoName ws count = ap (are_operands 2 []) (sym (none_of ws count))
reply_ok reply_word.NotCounter ws count = ap (are_operands 2 []) (sym (none_of ws count))
reply_ok reply_word.Overflow ws count = ap (are_operands 2 []) (sym (none_of ws count))
reply_ok reply_word.StoreFull ws count = ap (are_operands 2 []) (sym (none_of ws count))

-- `taken place REPLY`, after its reply's first word
abbrev taken_by : List ℕ → List (List ℕ) → ReplyWord → Result Mark FaultKind
taken_by p ws n = counted (reply_count n) ws >>= λ counts. number_at (2 ^ 64 - 1) p >>= λ place. reply_of n ws >>= λ reply. Ok (mark.Taken place reply)

taken_made : (n : ReplyWord) (p : List ℕ) (ws : List (List ℕ)) → reply_count n ≡ length (reply_operands n) → is_ok (taken_by p ws n) ≡ (is_operand 2 a_place p && are_operands 2 (reply_operands n) ws)
taken_made n p ws count =
    ap (λ k. is_ok (counted k ws >>= λ counts. number_at (2 ^ 64 - 1) p >>= λ place. reply_of n ws >>= λ reply. Ok (mark.Taken place reply))) count
    ∙ ok_counted (length (reply_operands n)) ws (λ counts. number_at (2 ^ 64 - 1) p >>= λ place. reply_of n ws >>= λ reply. Ok (mark.Taken place reply)) (is_operand 2 a_place p && are_operands 2 (reply_operands n) ws)
    (λ are. ok_then (number_at (2 ^ 64 - 1) p) (λ place. reply_of n ws >>= λ reply. Ok (mark.Taken place reply)) (are_operands 2 (reply_operands n) ws) (λ place. ok_last (reply_of n ws) (λ reply. Ok (mark.Taken place reply)) (λ reply. refl) ∙ reply_ok n ws are))
    (λ differ. and_right (is_operand 2 a_place p) (are_operands 2 (reply_operands n) ws) (other_count 2 (reply_operands n) ws differ))

taken_mark : (ws : List (List ℕ)) → is_ok (taken_of ws) ≡ fits_form 2 (a_place ∷ []) replies ws
unfolding taken_of
taken_mark [] = refl
taken_mark (p ∷ []) = sym (and_right (is_operand 2 a_place p) false refl)
taken_mark (p ∷ r ∷ ws) =
    by_rows 2 (λ os ws. is_operand 2 a_place p && are_operands 2 os ws) (λ o. is_ok (known o >>= taken_by p ws)) r ws refl reply_names replies (
      refl,
      taken_made reply_word.Value p ws refl,
      (
        refl,
        taken_made reply_word.Done p ws refl,
        (
          refl,
          taken_made reply_word.Sum p ws refl,
          (
            refl,
            taken_made reply_word.Swapped p ws refl,
            (
              refl,
              taken_made reply_word.Kept p ws refl,
              (refl, taken_made reply_word.NoName p ws refl, (refl, taken_made reply_word.NotCounter p ws refl, (refl, taken_made reply_word.Overflow p ws refl, (refl, taken_made reply_word.StoreFull p ws refl, (refl, taken_made reply_word.Last p ws refl, tt))))),
            ),
          ),
        ),
      ),
    )
    ∙ row_and 2 (λ os ws. are_operands 2 os ws) (is_operand 2 a_place p) replies r ws

-- the replies as answers
abbrev as_answers : List (List ℕ × ReplyWord) → List (List ℕ × AnswerWord)
as_answers [] = []
as_answers (entry ∷ table) = (entry.0, answer_word.Reply entry.1) ∷ as_answers table

-- answers are looked up among the replies, and then among the others
replies_first : (w : List ℕ) (table : List (List ℕ × ReplyWord)) → own_answer_of w ≡ None → or_reply None (lookup (bytes_eq w) table) ≡ lookup (bytes_eq w) (as_answers table ++ own_answers)
replies_first w [] none = sym none
replies_first w (entry ∷ table) none =
    elim (bytes_eq w entry.0) as (λ b. or_reply None (cond b (Some entry.1) (lookup (bytes_eq w) table)) ≡ cond b (Some (answer_word.Reply entry.1)) (lookup (bytes_eq w) (as_answers table ++ own_answers)))
    [ true ↦ refl | false ↦ replies_first w table none ]

abbrev IsThere : List ℕ → Type 0
IsThere w = answer_word_of w ≡ lookup (bytes_eq w) (as_answers reply_names ++ own_answers)

answers_are : (w : List ℕ) → answer_word_of w ≡ lookup (bytes_eq w) (as_answers reply_names ++ own_answers)
answers_are w =
    if_word w (codes "tickets-full") IsThere refl (λ one. if_word w (codes "stamps-full") IsThere refl (λ two. if_word w (codes "withdrawn") IsThere refl (λ three.
    let none : own_answer_of w ≡ None =
    ap (λ b. cond b (Some answer_word.TicketsFull) (lookup (bytes_eq w) ((codes "stamps-full", answer_word.StampsFull) ∷ (codes "withdrawn", answer_word.Withdrawn) ∷ []))) one
    ∙ ap (λ b. cond b (Some answer_word.StampsFull) (lookup (bytes_eq w) ((codes "withdrawn", answer_word.Withdrawn) ∷ []))) two
    ∙ ap (λ b. cond b (Some answer_word.Withdrawn) None) three in
    ap (λ own. or_reply own (reply_word_of w)) none ∙ replies_first w reply_names none)))

-- `answer ANSWER`, after its first word
abbrev answered_by : List (List ℕ) → AnswerWord → Result Mark FaultKind
answered_by ws n = counted (answer_count n) ws >>= λ counts. answer_of n ws >>= λ answer. Ok (mark.Answered answer)

answer_made : (n : AnswerWord) (os : List Operand) (ws : List (List ℕ)) → answer_count n ≡ length os → (length ws ≡ length os → is_ok (answer_of n ws) ≡ are_operands 2 os ws) → is_ok (answered_by ws n) ≡ are_operands 2 os ws
answer_made n os ws count same =
    ap (λ k. is_ok (counted k ws >>= λ counts. answer_of n ws >>= λ answer. Ok (mark.Answered answer))) count
    ∙ ok_operands 2 os ws (λ counts. answer_of n ws >>= λ answer. Ok (mark.Answered answer)) (λ are. ok_last (answer_of n ws) (λ answer. Ok (mark.Answered answer)) (λ answer. refl) ∙ same are)

replied : (n : ReplyWord) (ws : List (List ℕ)) → reply_count n ≡ length (reply_operands n) → is_ok (answered_by ws (answer_word.Reply n)) ≡ are_operands 2 (reply_operands n) ws
replied n ws count = answer_made (answer_word.Reply n) (reply_operands n) ws count (λ are. ok_last (reply_of n ws) (λ r. Ok (answer.Reply r)) (λ r. refl) ∙ reply_ok n ws are)

answer_mark : (ws : List (List ℕ)) → is_ok (answered_of ws) ≡ fits_form 2 [] (replies ++ other_answers) ws
unfolding answered_of
answer_mark [] = refl
answer_mark (a ∷ ws) =
    ap (λ o. is_ok (known o >>= answered_by ws)) (answers_are a)
    ∙ by_rows 2 (λ os ws. are_operands 2 os ws) (λ o. is_ok (known o >>= answered_by ws)) a ws refl (as_answers reply_names ++ own_answers) (replies ++ other_answers) (
      refl,
      replied reply_word.Value ws refl,
      (
        refl,
        replied reply_word.Done ws refl,
        (
          refl,
          replied reply_word.Sum ws refl,
          (
            refl,
            replied reply_word.Swapped ws refl,
            (
              refl,
              replied reply_word.Kept ws refl,
              (
                refl,
                replied reply_word.NoName ws refl,
                (
                  refl,
                  replied reply_word.NotCounter ws refl,
                  (
                    refl,
                    replied reply_word.Overflow ws refl,
                    (
                      refl,
                      replied reply_word.StoreFull ws refl,
                      (
                        refl,
                        replied reply_word.Last ws refl,
                        (
                          refl,
                          answer_made answer_word.TicketsFull (a_process ∷ []) ws refl (λ are. ok_then (number_at 255 (word 0 ws)) (λ p. Ok (answer.TicketsFull p)) true (λ p. refl) ∙ ap (are_operands 2 (a_process ∷ [])) (sym (one_of ws are))),
                          (
                            refl,
                            answer_made answer_word.StampsFull [] ws refl (λ are. ap (are_operands 2 []) (sym (none_of ws are))),
                            (refl, answer_made answer_word.Withdrawn [] ws refl (λ are. ap (are_operands 2 []) (sym (none_of ws are))), tt),
                          ),
                        ),
                      ),
                    ),
                  ),
                ),
              ),
            ),
          ),
        ),
      ),
    )

-- a mark that consists of its first word alone
lone_mark : (m : Mark) (ws : List (List ℕ)) → is_ok (lone_mark_of m ws) ≡ fits_form 2 [] [] ws
lone_mark m ws = ok_operands 2 [] ws (λ counts. Ok m) (λ count. ap (are_operands 2 []) (sym (none_of ws count))) ∙ fits_alone 2 [] ws

-- `wait ticket`
wait_mark : (ws : List (List ℕ)) → is_ok (waiting_of ws) ≡ fits_form 2 (a_ticket ∷ []) [] ws
wait_mark ws =
    ok_operands 2 (a_ticket ∷ []) ws (λ counts. number_at (2 ^ 32 - 1) (word 0 ws) >>= λ ticket. Ok (mark.Waiting ticket))
    (λ count. ok_then (number_at (2 ^ 32 - 1) (word 0 ws)) (λ ticket. Ok (mark.Waiting ticket)) true (λ ticket. refl) ∙ ap (are_operands 2 (a_ticket ∷ [])) (sym (one_of ws count)))
    ∙ fits_alone 2 (a_ticket ∷ []) ws

-- `settled 0`, `settled 1`
settled_mark : (ws : List (List ℕ)) → is_ok (one_bit_of ws >>= λ v. Ok (mark.Settled v)) ≡ fits_form 2 (operand.Bit ∷ []) [] ws
settled_mark ws =
    ok_last (one_bit_of ws) (λ v. Ok (mark.Settled v)) (λ v. refl)
    ∙ ok_operands 2 (operand.Bit ∷ []) ws (λ counts. bit_at (word 0 ws)) (λ count. is_read (bit_at (word 0 ws)) ∙ ap (are_operands 2 (operand.Bit ∷ [])) (sym (one_of ws count)))
    ∙ fits_alone 2 (operand.Bit ∷ []) ws

-- any mark
pub mark_has_form : (name : List ℕ) (ws : List (List ℕ)) → is_ok (known (lookup (bytes_eq name) mark_names) >>= λ m. named_mark_of m ws) ≡ has_form 2 marks name ws
mark_has_form name ws =
    by_rows 2 (λ form words. fits_form 2 form.0 form.1 words) (λ o. is_ok (known o >>= λ m. named_mark_of m ws)) name ws refl mark_names marks (
      refl,
      call_mark ws,
      (
        refl,
        wait_mark ws,
        (
          refl,
          lone_mark mark.Entered ws,
          (
            refl,
            taken_mark ws,
            (
              refl,
              lone_mark mark.Left ws,
              (
                refl,
                answer_mark ws,
                (
                  refl,
                  lone_mark mark.Failed ws,
                  (refl, settled_mark ws, (refl, lone_mark mark.Down ws, (refl, lone_mark mark.Withdrew ws, (refl, lone_mark mark.Restarted ws, tt)))),
                ),
              ),
            ),
          ),
        ),
      ),
    )
