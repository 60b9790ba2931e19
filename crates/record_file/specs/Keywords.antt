-- The words of the grammar that scenario files and bits files do not have.
use Rattle.std.specs.Prelude.{ℕ, List, [], ◌∷◌, codes, Option, Some, None}
use Rattle.std.specs.Map.{lookup}
use Rattle.std.specs.Str.{bytes_eq}
use Rattle.model.specs.{Field}
use Rattle.model.specs.declared.access.Field.TheVariants.{Choosing, Ticket, Commit, Stamp0, Stamp1, Image0, Image1}
use Rattle.record_file.specs.declared.keywords.AnswerWord.{AnswerWord}
use Rattle.record_file.specs.declared.keywords.AnswerWord.TheVariants as answer
use Rattle.record_file.specs.declared.keywords.MarkWord.{MarkWord}
use Rattle.record_file.specs.declared.keywords.MarkWord.TheVariants as mark
use Rattle.record_file.specs.declared.keywords.ReplyWord.{ReplyWord}
use Rattle.record_file.specs.declared.keywords.ReplyWord.TheVariants as reply

-- the registers
abbrev pub fields : List (List ℕ × Field)
fields =
    (codes "choosing", Choosing)
    ∷ (codes "ticket", Ticket)
    ∷ (codes "commit", Commit)
    ∷ (codes "stamp0", Stamp0)
    ∷ (codes "stamp1", Stamp1)
    ∷ (codes "image0", Image0)
    ∷ (codes "image1", Image1)
    ∷ []

abbrev pub field_of : List ℕ → Option Field
field_of word = lookup (bytes_eq word) fields

-- the first words of marks
abbrev pub mark_names : List (List ℕ × MarkWord)
mark_names =
    (codes "call", mark.Call)
    ∷ (codes "wait", mark.Wait)
    ∷ (codes "enter", mark.Enter)
    ∷ (codes "taken", mark.Taken)
    ∷ (codes "leave", mark.Leave)
    ∷ (codes "answer", mark.Answer)
    ∷ (codes "fail", mark.Fail)
    ∷ (codes "settled", mark.Settled)
    ∷ (codes "down", mark.Down)
    ∷ (codes "withdraw", mark.Withdraw)
    ∷ (codes "restart", mark.Restart)
    ∷ []

abbrev pub mark_word_of : List ℕ → Option MarkWord
mark_word_of word = lookup (bytes_eq word) mark_names

-- the first words of replies
abbrev pub reply_names : List (List ℕ × ReplyWord)
reply_names =
    (codes "value", reply.Value)
    ∷ (codes "done", reply.Done)
    ∷ (codes "sum", reply.Sum)
    ∷ (codes "swapped", reply.Swapped)
    ∷ (codes "kept", reply.Kept)
    ∷ (codes "no-name", reply.NoName)
    ∷ (codes "not-counter", reply.NotCounter)
    ∷ (codes "overflow", reply.Overflow)
    ∷ (codes "store-full", reply.StoreFull)
    ∷ (codes "last", reply.Last)
    ∷ []

abbrev pub reply_word_of : List ℕ → Option ReplyWord
reply_word_of word = lookup (bytes_eq word) reply_names

-- the first words of the answers that contain no reply
abbrev pub own_answers : List (List ℕ × AnswerWord)
own_answers =
    (codes "tickets-full", answer.TicketsFull)
    ∷ (codes "stamps-full", answer.StampsFull)
    ∷ (codes "withdrawn", answer.Withdrawn)
    ∷ []

abbrev pub own_answer_of : List ℕ → Option AnswerWord
own_answer_of word = lookup (bytes_eq word) own_answers

-- an answer that contains no reply, or otherwise a reply
abbrev pub or_reply : Option AnswerWord → Option ReplyWord → Option AnswerWord
or_reply (Some own) name = Some own
or_reply None (Some name) = Some (answer.Reply name)
or_reply None None = None

-- the first words of answers
abbrev pub answer_word_of : List ℕ → Option AnswerWord
answer_word_of word = or_reply (own_answer_of word) (reply_word_of word)
