use Rattle.std.proofs.Common.{◌≡◌, Bool, true, false, ◌&&◌, nat_eq, sym, ap, subst, ◌∙◌, true≢false, refl, rules, tests}
use Rattle.model.specs.{Mark}
use Rattle.model.specs.declared.marks.Mark.TheVariants as mark
use Rattle.model.specs.contracts.marks.MarkPartialEq.TheImpl as impl
use Rattle.plain_store.specs.{Answer, Command, Reply, Value}
use Rattle.plain_store.specs.declared.names.Name.{Name}
use Rattle.plain_store.specs.declared.commands.Command.TheVariants as command
use Rattle.plain_store.specs.declared.commands.Value.TheVariants as value
use Rattle.plain_store.specs.declared.commands.Reply.TheVariants as reply
use Rattle.plain_store.specs.declared.commands.Answer.TheVariants as answer
use Rattle.plain_store.specs.contracts.names.NamePartialEq.TheImpl as names
use Rattle.plain_store.specs.contracts.commands.CommandPartialEq.TheImpl as commands
use Rattle.plain_store.specs.contracts.commands.ValuePartialEq.TheImpl as values
use Rattle.plain_store.specs.contracts.commands.ReplyPartialEq.TheImpl as replies
use Rattle.plain_store.specs.contracts.commands.AnswerPartialEq.TheImpl as answers
use Rattle.auditor.proofs.matching.is_same.Goals as goal

both : (a b : Bool) → (a && b) ≡ true → (a ≡ true) × (b ≡ true)
both true b h = (refl, h)
both false b h = absurd (true≢false (sym h))

-- Marks that compare as equal are equal.

same_name : (n m : Name) → names.ghosts.eq n m ≡ true → n ≡ m
same_name n m h = search (rules, tests)

same_value : (v w : Value) → values.ghosts.eq v w ≡ true → v ≡ w
same_value (value.Count i) (value.Count j) h = search (rules, tests)
same_value (value.Text t) (value.Text u) h = search (rules, tests)
same_value _ _ h = absurd (true≢false (sym h))

same_command : (c d : Command) → commands.ghosts.eq c d ≡ true → c ≡ d
same_command (command.Read n) (command.Read m) h = ap command.Read (same_name n m h)
same_command (command.Write n v) (command.Write m w) h =
    let parts = both (names.ghosts.eq n m) (values.ghosts.eq v w) h in
    λ i. command.Write (same_name n m parts.0 i) (same_value v w parts.1 i)
same_command (command.Add n a) (command.Add m b) h = search (rules, tests)
same_command (command.Cas n v x) (command.Cas m w y) h =
    let parts = both (names.ghosts.eq n m) (values.ghosts.eq v w && values.ghosts.eq x y) h in
    let more = both (values.ghosts.eq v w) (values.ghosts.eq x y) parts.1 in
    λ i. command.Cas (same_name n m parts.0 i) (same_value v w more.0 i) (same_value x y more.1 i)
same_command command.Ask command.Ask h = refl
same_command _ _ h = absurd (true≢false (sym h))

same_reply : (r q : Reply) → replies.ghosts.eq r q ≡ true → r ≡ q
same_reply (reply.Value v) (reply.Value w) h = ap reply.Value (same_value v w h)
same_reply reply.Done reply.Done h = refl
same_reply (reply.Sum a) (reply.Sum b) h = search (rules, tests)
same_reply reply.Swapped reply.Swapped h = refl
same_reply (reply.Kept v) (reply.Kept w) h = ap reply.Kept (same_value v w h)
same_reply reply.NoName reply.NoName h = refl
same_reply reply.NotCounter reply.NotCounter h = refl
same_reply reply.Overflow reply.Overflow h = refl
same_reply reply.StoreFull reply.StoreFull h = refl
same_reply (reply.Last n) (reply.Last m) h = search (rules, tests)
same_reply _ _ h = absurd (true≢false (sym h))

same_answer : (a b : Answer) → answers.ghosts.eq a b ≡ true → a ≡ b
same_answer (answer.Reply r) (answer.Reply q) h = ap answer.Reply (same_reply r q h)
same_answer (answer.TicketsFull p) (answer.TicketsFull q) h = search (rules, tests)
same_answer answer.StampsFull answer.StampsFull h = refl
same_answer answer.Withdrawn answer.Withdrawn h = refl
same_answer _ _ h = absurd (true≢false (sym h))

same : (m n : Mark) → impl.ghosts.eq m n ≡ true → m ≡ n
same (mark.Called c) (mark.Called d) h = ap mark.Called (same_command c d h)
same (mark.Waiting t) (mark.Waiting u) h = search (rules, tests)
same mark.Entered mark.Entered h = refl
same (mark.Taken k r) (mark.Taken j q) h =
    let parts = both (nat_eq k j) (replies.ghosts.eq r q) h in
    let place : k ≡ j = search (rules, tests, parts.0) in
    λ i. mark.Taken (place i) (same_reply r q parts.1 i)
same mark.Left mark.Left h = refl
same (mark.Answered a) (mark.Answered b) h = ap mark.Answered (same_answer a b h)
same mark.Failed mark.Failed h = refl
same (mark.Settled v) (mark.Settled w) h = search (rules, tests)
same mark.Down mark.Down h = refl
same mark.Withdrew mark.Withdrew h = refl
same mark.Restarted mark.Restarted h = refl
same _ _ h = absurd (true≢false (sym h))

-- a mark is equal to itself
as_itself : (m : Mark) → impl.ghosts.eq m m ≡ true
as_itself m = search (rules, tests)

pub returns : goal.returns
returns c = (λ h. same c.args.mark.now c.args.other.now (sym c.eq.ensures ∙ h), λ e. c.eq.ensures ∙ subst (λ (n : Mark). impl.ghosts.eq c.args.mark.now n ≡ true) e (as_itself c.args.mark.now))
