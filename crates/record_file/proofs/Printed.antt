-- The text that `format!` puts together is the printed text.
use Rattle.std.proofs.Common.{◌≡◌, ℕ, ◌+◌, ◌<◌, true, false, List, [], ◌∷◌, ◌++◌, length, drop, get_or, flat_map, codes, Some, None, refl, ap, sym, ◌∙◌, append_assoc, append-nil}
use Rattle.std.specs.Fmt.{decimal}
use Rattle.model.specs.{Access, Entry, Mark, mark_text}
use Rattle.plain_store.specs.{Answer, Command, Reply, answer_text, command_text, reply_text}
use Rattle.plain_store.specs.declared.commands.Answer.TheVariants as answer
use Rattle.plain_store.specs.declared.commands.Command.TheVariants as command
use Rattle.plain_store.specs.declared.commands.Reply.TheVariants as reply
use Rattle.model.specs.declared.marks.Mark.TheVariants as mark
use Rattle.scenario.specs.{command_words, spaced}
use Rattle.scenario.proofs.Places.{drop_in}
use Rattle.record_file.specs.{access_words, answer_words, behind_spaces, dotted_field, entry_line, mark_words, move_words, reply_words, signed_words, step_entry}

-- words with a single space between them, the first and the others
spaced_first : (w : List ℕ) (ws : List (List ℕ)) → spaced (w ∷ ws) ≡ w ++ behind_spaces ws
spaced_first w [] = sym (append-nil w)
spaced_first w (v ∷ vs) = ap (λ t. w ++ (codes " " ++ t)) (spaced_first v vs)

-- words after spaces, in two parts
spaces_append : (vs ws : List (List ℕ)) → behind_spaces (vs ++ ws) ≡ behind_spaces vs ++ behind_spaces ws
spaces_append [] ws = refl
spaces_append (v ∷ vs) ws = ap (λ t. codes " " ++ (v ++ t)) (spaces_append vs ws) ∙ sym (append_assoc (codes " " ++ v) (behind_spaces vs) (behind_spaces ws))

command_is : (c : Command) → codes "call " ++ command_text c ≡ codes "call" ++ behind_spaces (command_words c)
command_is (command.Read name) = simp (append_assoc, append-nil)
command_is (command.Write name value) = simp (append_assoc, append-nil)
command_is (command.Add name by) = simp (append_assoc, append-nil)
command_is (command.Cas name expected value) = simp (append_assoc, append-nil)
command_is command.Ask = refl

reply_is : (r : Reply) → codes " " ++ reply_text r ≡ behind_spaces (reply_words r)
reply_is (reply.Value v) = simp (append_assoc, append-nil)
reply_is reply.Done = refl
reply_is (reply.Sum n) = simp (append_assoc, append-nil)
reply_is reply.Swapped = refl
reply_is (reply.Kept v) = simp (append_assoc, append-nil)
reply_is reply.NoName = refl
reply_is reply.NotCounter = refl
reply_is reply.Overflow = refl
reply_is reply.StoreFull = refl
reply_is (reply.Last n) = simp (append_assoc, append-nil)

answer_is : (a : Answer) → codes " " ++ answer_text a ≡ behind_spaces (answer_words a)
answer_is (answer.Reply r) = reply_is r
answer_is (answer.TicketsFull p) = simp (append_assoc, append-nil)
answer_is answer.StampsFull = refl
answer_is answer.Withdrawn = refl

-- a mark's text is its words
mark_is : (m : Mark) → codes " " ++ mark_text m ≡ behind_spaces (mark_words m)
mark_is (mark.Called c) = ap (λ t. codes " " ++ t) (command_is c)
mark_is (mark.Waiting ticket) = simp (append_assoc, append-nil)
mark_is mark.Entered = refl
mark_is (mark.Taken place r) = ap (λ t. codes " taken " ++ t) (append_assoc (decimal place) (codes " ") (reply_text r)) ∙ ap (λ t. codes " taken " ++ (decimal place ++ t)) (reply_is r)
mark_is mark.Left = refl
mark_is (mark.Answered a) = ap (λ t. codes " answer" ++ t) (answer_is a)
mark_is mark.Failed = refl
mark_is (mark.Settled false) = refl
mark_is (mark.Settled true) = refl
mark_is mark.Down = refl
mark_is mark.Withdrew = refl
mark_is mark.Restarted = refl

-- the text of a mark after its sign
pub signed_is : (m : Mark) → codes " : " ++ mark_text m ≡ behind_spaces (signed_words m)
signed_is m = ap (λ t. codes " :" ++ t) (mark_is m)

-- a line and the marks from a position on, one mark later
pub marks_more : (reported : List ℕ) (marks : List Mark) (k : ℕ) (here : Mark) → k < length marks → here ≡ get_or marks k here → (reported ++ behind_spaces (signed_words here)) ++ behind_spaces (flat_map signed_words (drop (k + 1) marks)) ≡ reported ++ behind_spaces (flat_map signed_words (drop k marks))
marks_more reported marks k here within is =
    append_assoc reported _ _
    ∙ ap (λ t. reported ++ t) (sym (spaces_append (signed_words here) (flat_map signed_words (drop (k + 1) marks))))
    ∙ ap (λ ms. reported ++ behind_spaces (flat_map signed_words ms)) (sym (drop_in marks k here within is))

-- a process without an access
pub no_access_is : (p : ℕ) → decimal p ≡ decimal p ++ behind_spaces (access_words None)
no_access_is p = sym (append-nil (decimal p))

-- three parts, put together after a text
behind_text : (reported a b c : List ℕ) → ((reported ++ a) ++ b) ++ c ≡ reported ++ ((a ++ b) ++ c)
behind_text reported a b c = simp append_assoc

line_is : (e : Entry) → ((decimal e.process ++ behind_spaces (access_words e.access)) ++ behind_spaces (flat_map signed_words e.marks)) ++ codes "\n" ≡ entry_line e
line_is e =
    ap (λ t. t ++ codes "\n") (append_assoc (decimal e.process) (behind_spaces (access_words e.access)) (behind_spaces (flat_map signed_words e.marks)) ∙ ap (λ t. decimal e.process ++ t) (sym (spaces_append (access_words e.access) (flat_map signed_words e.marks))))
    ∙ ap (λ t. t ++ codes "\n") (sym (spaced_first (decimal e.process) (access_words e.access ++ flat_map signed_words e.marks)))

-- the words of a process and its access, by their parts, before a text
pub words_are : (p : ℕ) (a : Access) (text : List ℕ) → decimal p ++ (32 ∷ (decimal a.owner ++ (dotted_field a.field ++ (decimal a.bit ++ (46 ∷ (decimal a.reader ++ (behind_spaces (move_words a.how) ++ text))))))) ≡ (decimal p ++ behind_spaces (access_words (Some a))) ++ text
words_are p a text = simp append_assoc

-- The line of a Step is that of its entry, which has no mark.
pub step_is : (p : ℕ) (a : Access) → (decimal p ++ behind_spaces (access_words (Some a))) ++ codes "\n" ≡ entry_line (step_entry p a)
step_is p a = ap (λ t. t ++ codes "\n") (sym (append-nil (decimal p ++ behind_spaces (access_words (Some a))))) ∙ line_is (step_entry p a)

-- the line of an entry after a text, by the words before its marks
pub entry_is : (reported : List ℕ) (e : Entry) → ((reported ++ (decimal e.process ++ behind_spaces (access_words e.access))) ++ behind_spaces (flat_map signed_words e.marks)) ++ codes "\n" ≡ reported ++ entry_line e
entry_is reported e = behind_text reported (decimal e.process ++ behind_spaces (access_words e.access)) (behind_spaces (flat_map signed_words e.marks)) (codes "\n") ∙ ap (λ t. reported ++ t) (line_is e)
