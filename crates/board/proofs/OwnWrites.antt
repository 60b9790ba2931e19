-- A process reads what it wrote at the next position.
use Rattle.std.proofs.Common.{◌≡◌, ℕ, zero, suc, ◌+◌, Bool, true, false, List, [], ◌∷◌, ◌++◌, length, take, slice_get, Option, None, Some, refl, sym, ap, subst, ◌∙◌, arith}
use Rattle.std.specs.Prelude.{nat_lt}
use Rattle.std.proofs.lemmas.List.Sums.{fold-append}
use Rattle.plain_store.specs.{Answer, Caller, Command, Contents, Reply, Setup, Value, changes, is_new, number_of, opening_store, outcome, reply_to, value_at, with_written}
use Rattle.plain_store.specs.declared.Answer.TheVariants as answer
use Rattle.plain_store.specs.declared.Command.TheVariants.{Read, Write}
use Rattle.plain_store.specs.declared.Reply.TheVariants as reply
use Rattle.plain_store.proofs.Changes.{value_at-put}
use Rattle.model.specs.{Placed, Taken, store_after}
use Rattle.history_laws.proofs.CountedChanges.{then}
use Rattle.board.specs.{PlacedAsAnswered, FitsChanges, caller_of, change_at, store_at}

-- the store at the next position is the store after the change
take-next : {X : Type 0} (xs : List X) (k : ℕ) (x : X) → slice_get xs k ≡ Some x → take (suc k) xs ≡ take k xs ++ x ∷ []
take-next [] k x h = cc
take-next (y ∷ xs) zero x h = let same : y ≡ x = cc in ap (λ z. z ∷ []) same
take-next (y ∷ xs) (suc k) x h = ap (λ l. y ∷ l) (take-next xs k x h)

store-next : (s : Setup) (list : List Taken) (place : ℕ) (t : Taken) → slice_get list place ≡ Some t → store_at s list (place + 1) ≡ then (store_at s list place) t
store-next s list place t h =
    let next : place + 1 ≡ suc place = omega arith in
    ap (λ (m : ℕ). store_at s list m) next ∙ ap (store_after s) (take-next list place t h) ∙ fold-append then (opening_store s) (take place list) (t ∷ [])

-- a write that changes the store writes its value
written_is : (name : List ℕ) (x : Value) (before : Option Value) (room : Bool) (last : ℕ) → is_new before (outcome before room last (Write name x)).written ≡ true → (outcome before room last (Write name x)).written ≡ Some x
written_is name x None true last h = refl
written_is name x None false last h = cc
written_is name x (Some v) room last h = refl

value_then : (store : Contents) (t : Taken) (name : List ℕ) (x : Value) → t.command ≡ Write name x → changes store t.command ≡ true → value_at (then store t).pairs name ≡ Some x
value_then store t name x is new =
    let before = value_at store.pairs name in
    let room = nat_lt (length store.pairs) store.slots in
    let last = number_of store.numbers 0 in
    ap (λ (c : Command). value_at (then store (record t { command = c })).pairs name) is
    ∙ ap (λ (w : Option Value). value_at (with_written store.pairs (Some name) w) name) (written_is name x before room last (sym (ap (changes store) is) ∙ new))
    ∙ value_at-put store.pairs name x

-- a later read of the name replies with that value
read_then : (store : Contents) (name : List ℕ) (x : Value) (caller : Caller) → value_at store.pairs name ≡ Some x → reply_to store (Read name) caller ≡ reply.Value x
read_then store name x caller h = ap (λ (v : Option Value). (outcome v (nat_lt (length store.pairs) store.slots) (number_of store.numbers caller.process) (Read name)).reply) h

pub own_writes_are_read : (s : Setup) (p : ℕ) (calls : List Placed) (list : List Taken) → FitsChanges s p calls list → (j k place : ℕ) (write read : Placed) (name : List ℕ) (x : Value) → slice_get calls j ≡ Some write → slice_get calls k ≡ Some read →
    write.command ≡ Write name x → read.command ≡ Read name → write.place ≡ Some place → read.place ≡ Some (place + 1) → changes (store_at s list place) write.command ≡ true → (a : Answer) → read.answer ≡ Some a → a ≡ answer.Reply (reply.Value x)
own_writes_are_read s p calls list h j k place write read name x at_write at_read writes reads is_write is_read new a answered =
    go a answered (subst (λ (o : Option Answer). PlacedAsAnswered o read.place) answered (h.answered k read at_read))
  where
    change : slice_get list place ≡ Some (change_at s list (caller_of s p j) write.command place)
    change = (h.taken j place write at_write is_write).change new

    value : value_at (store_at s list (place + 1)).pairs name ≡ Some x
    value = ap (λ (store : Contents). value_at store.pairs name) (store-next s list place _ change) ∙ value_then (store_at s list place) (change_at s list (caller_of s p j) write.command place) name x writes new

    reported : (r : Reply) → read.answer ≡ Some (answer.Reply r) → r ≡ reply.Value x
    reported r is =
        (h.taken k (place + 1) read at_read is_read).reply r is
        ∙ ap (λ (c : Command). reply_to (store_at s list (place + 1)) c (caller_of s p k)) reads
        ∙ read_then (store_at s list (place + 1)) name x (caller_of s p k) value

    go : (a : Answer) → read.answer ≡ Some a → PlacedAsAnswered (Some a) read.place → a ≡ answer.Reply (reply.Value x)
    go (answer.Reply r) is placed = ap answer.Reply (reported r is)
    go (answer.TicketsFull q) is placed = let f : Some (place + 1) ≡ None = sym is_read ∙ placed in cc
    go answer.StampsFull is placed = let f : Some (place + 1) ≡ None = sym is_read ∙ placed in cc
    go answer.Withdrawn is placed = let f : Some (place + 1) ≡ None = sym is_read ∙ placed in cc
