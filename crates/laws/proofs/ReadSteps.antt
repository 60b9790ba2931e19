-- Each step at a part that reads keeps the invariant.
use Rattle.std.specs.Prelude.{◌≡◌, ◌≢◌, ℕ, suc, ◌+◌, ◌<◌, ◌==◌, Bool, true, false, ◌||◌, cond, List, [], ◌∷◌, ◌++◌, length, Some}
use Rattle.std.proofs.Common.{refl, sym, ◌∙◌, subst, arith}
use Rattle.std.proofs.lemmas.Bool.{false≢true, true≢false}
use Rattle.model.specs.safe_bit.declared.Move.TheVariants.{EndRead}
use Rattle.model.specs.{Access, Asks, AsksCommit, AsksImage, AsksStamp, Entry, Part, Past, Reading, Run, Version, Wait, Waits, Writing, access_at, bits_with, enter, is_below, is_fresh, is_last, is_one, is_read, place_after, read_at, store_read, to_d, value_of, valued}
use Rattle.model.specs.declared.access.Field.TheVariants.{Choosing, Ticket}
use Rattle.model.specs.safe_number.{number_of_bits}
use Rattle.plain_store.specs.{Command, Setup}
use Rattle.model.proofs.Width.{IsGood}
use Rattle.laws.proofs.Asking.{asks_last}
use Rattle.laws.specs.{Runs, call, doing, runs}
use Rattle.laws.proofs.Frame.{notes-goes}
use Rattle.laws.proofs.FrameWires.{touches-begun, touches-readers, wires-read}
use Rattle.laws.proofs.Invariant.{InWaiting, Inv, Moves, Corresponds, Touches, next_time, touches, wires}
use Rattle.laws.proofs.Moving.{all_move}
use Rattle.laws.proofs.Next.{to_e_moves, to_g_moves}
use Rattle.laws.proofs.Notes.{Notes, noted, notes, notes_after, set, turned}
use Rattle.laws.proofs.ReadBegins.{asks_begins, wait_choosing_begins, wait_ticket_begins}
use Rattle.laws.proofs.ReadEnds.{EndsTo, asks_on, by_test, read_ends, wait_ticket_on}
use Rattle.laws.proofs.Reading.{AtRead, ReadAccess, own_there, ready_there, reads_on}
use Rattle.laws.proofs.Ready.{ready_turned, starts}
use Rattle.laws.proofs.Stepping.{At}
use Rattle.laws.proofs.Waiting.{beyond_is, choosing_again, choosing_passed, ticket_again, ticket_passed}

-- an access of a read with value v is a move of p to the place after it
abbrev pub Steps : Setup → Past → ℕ → Command → ℕ → Part → Run → Bool → (ℕ → ℕ → Touches) → Type 0
Steps s past p command number part run v touched =
    Moves s past p (runs command number (place_after (call s p command number) (record { part = part; run = run }) v))
    (noted (call s p command number) (next_time past) part (is_fresh run) (is_last (call s p command number) part run) (bits_with run v) (notes s p past)) (wires s past p) touched

-- The doorway.

-- a read of a ticket
asks_steps : (s : Setup) → IsGood s → (past : Past) (p : ℕ) (command : Command) (number j : ℕ) (js ts : List ℕ) (bits : List Bool) (begun v : Bool) (touched : ℕ → ℕ → Touches) →
    AtRead s past p command number (Asks j js ts) bits begun → ReadAccess s past p j Ticket (length bits) begun v touched → Steps s past p command number (Asks j js ts) (Reading bits begun) v touched
asks_steps s g past p command number j js ts bits false v touched h access = asks_begins s past p command number j js ts bits v touched h access
asks_steps s g past p command number j js ts bits true v touched h access =
    read_ends s past p command number (Asks j js ts) bits v touched h (asks_last s g past p command number j js ts bits v touched h access) (asks_on s past p command number j js ts bits v touched h access)

-- The waiting.

-- the knowledge of p there
in_waiting : (s : Setup) (past : Past) (p : ℕ) (command : Command) (number t : ℕ) (w : Wait) (ws : List Wait) (bits : List Bool) (begun : Bool) → AtRead s past p command number (Waits t w ws) bits begun → InWaiting s p (notes s p past) t w ws
in_waiting s past p command number t w ws bits begun h = (own_there s past p command number (Waits t w ws) bits begun h).corresponds.1

-- a read of choosing, which has one bit
choosing_steps : (s : Setup) → IsGood s → (past : Past) (p : ℕ) (command : Command) (number t j : ℕ) (ws : List Wait) (bits : List Bool) (begun v : Bool) (touched : ℕ → ℕ → Touches) →
    AtRead s past p command number (Waits t (j, Choosing) ws) bits begun → ReadAccess s past p j Choosing (length bits) begun v touched → Steps s past p command number (Waits t (j, Choosing) ws) (Reading bits begun) v touched
choosing_steps s g past p command number t j ws bits false v touched h access = wait_choosing_begins s past p command number t j ws bits v touched h access
choosing_steps s g past p command number t j ws [] true true touched h access = choosing_again s g past p command number t j ws touched h access
choosing_steps s g past p command number t j ws [] true false touched h access = choosing_passed s g past p command number t j ws touched h access
choosing_steps s g past p command number t j ws (b ∷ bits) true v touched h access =
    let below : suc (length bits) < 1 = (own_there s past p command number (Waits t (j, Choosing) ws) (b ∷ bits) true h).corresponds.0.1 in absurd (omega arith)

-- the last end of a read of a ticket: it lets by, or not
ticket_ends : (s : Setup) → IsGood s → (past : Past) (p : ℕ) (command : Command) (number t j : ℕ) (ws : List Wait) (bits : List Bool) (v : Bool) (touched : ℕ → ℕ → Touches) →
    AtRead s past p command number (Waits t (j, Ticket) ws) bits true → ReadAccess s past p j Ticket (length bits) true v touched → length bits + 1 ≡ s.ticket_bits →
    EndsTo s past p command number (Waits t (j, Ticket) ws) (bits ++ v ∷ []) touched true
ticket_ends s g past p command number t j ws bits v touched h access last =
    let n : Notes = notes s p past in
    let value : ℕ = number_of_bits (bits ++ v ∷ []) in
    by_test ((value == 0) || is_below t p value j)
    (λ by.
    Moves s past p (runs command number (enter (call s p command number) (to_d (call s p command number) t (cond by ws ((j, Ticket) ∷ ws)))))
    (record n { since = next_time past; let_from = cond by (set j n.since n.let_from) n.let_from; let_by = cond by (set j value n.let_by) n.let_by }) (wires s past p) touched)
    (λ e. ticket_passed s g past p command number t j ws bits v touched h access last (beyond_is t p value j e))
    (λ e. ticket_again s g past p command number t j ws bits v touched h access)

-- a read of a ticket
ticket_steps : (s : Setup) → IsGood s → (past : Past) (p : ℕ) (command : Command) (number t j : ℕ) (ws : List Wait) (bits : List Bool) (begun v : Bool) (touched : ℕ → ℕ → Touches) →
    AtRead s past p command number (Waits t (j, Ticket) ws) bits begun → ReadAccess s past p j Ticket (length bits) begun v touched → Steps s past p command number (Waits t (j, Ticket) ws) (Reading bits begun) v touched
ticket_steps s g past p command number t j ws bits false v touched h access = wait_ticket_begins s past p command number t j ws bits v touched h access
ticket_steps s g past p command number t j ws bits true v touched h access =
    read_ends s past p command number (Waits t (j, Ticket) ws) bits v touched h (ticket_ends s g past p command number t j ws bits v touched h access) (wait_ticket_on s past p command number t j ws bits v touched h access)

-- nothing else is waited for
waits_steps : (s : Setup) → IsGood s → (past : Past) (p : ℕ) (command : Command) (number t : ℕ) (w : Wait) (ws : List Wait) (bits : List Bool) (begun v : Bool) (touched : ℕ → ℕ → Touches) →
    AtRead s past p command number (Waits t w ws) bits begun → ReadAccess s past p w.0 w.1 (length bits) begun v touched → Steps s past p command number (Waits t w ws) (Reading bits begun) v touched
waits_steps s g past p command number t (j, Choosing) ws bits begun v touched h access = choosing_steps s g past p command number t j ws bits begun v touched h access
waits_steps s g past p command number t (j, Ticket) ws bits begun v touched h access = ticket_steps s g past p command number t j ws bits begun v touched h access
waits_steps s g past p command number t (j, _) ws bits begun v touched h access = absurd (in_waiting s past p command number t _ ws bits begun h).wait

-- The critical section: its reads are of registers that the lock doesn't speak of.

-- a read of a commit bit
commit_steps : (s : Setup) → IsGood s → (past : Past) (p : ℕ) (command : Command) (number k : ℕ) (ks : List ℕ) (vs : List Version) (bits : List Bool) (begun v : Bool) (touched : ℕ → ℕ → Touches) →
    AtRead s past p command number (AsksCommit k ks vs) bits begun → ((r : ℕ) → r ≢ p → touched p r ≡ touches s past p r) → Steps s past p command number (AsksCommit k ks vs) (Reading bits begun) v touched
commit_steps s g past p command number k ks vs bits false v touched h kept =
    reads_on s past p command number (AsksCommit k ks vs) bits bits false true touched h refl tt (own_there s past p command number (AsksCommit k ks vs) bits false h).corresponds.0.1 (λ o below other. tt) kept
commit_steps s g past p command number k ks vs bits true v touched h kept =
    read_ends s past p command number (AsksCommit k ks vs) bits v touched h
    (λ last.
    starts s g past p command number (AsksStamp k ks vs (is_one (bits ++ v ∷ []))) (turned (next_time past) (notes s p past)) (wires s past p) touched refl
    (ready_turned s past p true (notes s p past) (wires s past p) touched (ready_there s past p command number (AsksCommit k ks vs) bits true touched h kept)) tt)
    (λ more. reads_on s past p command number (AsksCommit k ks vs) bits (bits ++ v ∷ []) true false touched h refl tt more (λ o below other. tt) kept)

-- a read of a stamp
stamp_steps : (s : Setup) → IsGood s → (past : Past) (p : ℕ) (command : Command) (number k : ℕ) (ks : List ℕ) (vs : List Version) (commit : Bool) (bits : List Bool) (begun v : Bool) (touched : ℕ → ℕ → Touches) →
    AtRead s past p command number (AsksStamp k ks vs commit) bits begun → ((r : ℕ) → r ≢ p → touched p r ≡ touches s past p r) → Steps s past p command number (AsksStamp k ks vs commit) (Reading bits begun) v touched
stamp_steps s g past p command number k ks vs commit bits false v touched h kept =
    reads_on s past p command number (AsksStamp k ks vs commit) bits bits false true touched h refl tt (own_there s past p command number (AsksStamp k ks vs commit) bits false h).corresponds.0.1 (λ o below other. tt) kept
stamp_steps s g past p command number k ks vs commit bits true v touched h kept =
    read_ends s past p command number (AsksStamp k ks vs commit) bits v touched h
    (λ last.
    to_e_moves s g past p command number (turned (next_time past) (notes s p past)) (wires s past p) touched
    (ready_turned s past p true (notes s p past) (wires s past p) touched (ready_there s past p command number (AsksStamp k ks vs commit) bits true touched h kept)) ks
    (vs ++ (commit, number_of_bits (bits ++ v ∷ [])) ∷ []))
    (λ more. reads_on s past p command number (AsksStamp k ks vs commit) bits (bits ++ v ∷ []) true false touched h refl tt more (λ o below other. tt) kept)

-- a read of the newest image
image_steps : (s : Setup) → IsGood s → (past : Past) (p : ℕ) (command : Command) (number : ℕ) (vs : List Version) (bits : List Bool) (begun v : Bool) (touched : ℕ → ℕ → Touches) →
    AtRead s past p command number (AsksImage vs) bits begun → ((r : ℕ) → r ≢ p → touched p r ≡ touches s past p r) → Steps s past p command number (AsksImage vs) (Reading bits begun) v touched
image_steps s g past p command number vs bits false v touched h kept =
    reads_on s past p command number (AsksImage vs) bits bits false true touched h refl tt (own_there s past p command number (AsksImage vs) bits false h).corresponds.0.1 (λ o below other. tt) kept
image_steps s g past p command number vs bits true v touched h kept =
    read_ends s past p command number (AsksImage vs) bits v touched h
    (λ last.
    to_g_moves s g past p command number (turned (next_time past) (notes s p past)) (wires s past p) touched
    (ready_turned s past p true (notes s p past) (wires s past p) touched (ready_there s past p command number (AsksImage vs) bits true touched h kept)) vs
    (store_read (call s p command number) (bits ++ v ∷ [])))
    (λ more. reads_on s past p command number (AsksImage vs) bits (bits ++ v ∷ []) true false touched h refl tt more (λ o below other. tt) kept)

-- All parts.

-- a part that writes doesn't read
not_reading : {X : Type 0} (s : Setup) (past : Past) (p : ℕ) (command : Command) (number : ℕ) (part : Part) (bits : List Bool) (begun : Bool) → AtRead s past p command number part bits begun → is_read part ≡ false → X
not_reading s past p command number part bits begun h writes = absurd (false≢true (sym writes ∙ (own_there s past p command number part bits begun h).corresponds.0.0))

-- an access of a read is a move that keeps what it has to
pub read_moves : (s : Setup) → IsGood s → (past : Past) (p : ℕ) (command : Command) (number : ℕ) (part : Part) (bits : List Bool) (begun v : Bool) (touched : ℕ → ℕ → Touches) →
    AtRead s past p command number part bits begun → ReadAccess s past p (read_at (call s p command number) part).0 (read_at (call s p command number) part).1 (length bits) begun v touched →
    Steps s past p command number part (Reading bits begun) v touched
read_moves s g past p command number (Asks j js ts) bits begun v touched h access = asks_steps s g past p command number j js ts bits begun v touched h access
read_moves s g past p command number (Waits t w ws) bits begun v touched h access = waits_steps s g past p command number t w ws bits begun v touched h access
read_moves s g past p command number (AsksCommit k ks vs) bits begun v touched h access = commit_steps s g past p command number k ks vs bits begun v touched h access.others
read_moves s g past p command number (AsksStamp k ks vs b) bits begun v touched h access = stamp_steps s g past p command number k ks vs b bits begun v touched h access.others
read_moves s g past p command number (AsksImage vs) bits begun v touched h access = image_steps s g past p command number vs bits begun v touched h access.others
read_moves s g past p command number _ bits begun v touched h access = not_reading s past p command number _ bits begun h refl

-- The entry of a read.

-- the end of a read that no write touched gives the value of the copy
abbrev pub AnswersTruly : Setup → Past → Type 0
AnswersTruly s past = (x : Access) (u flick : Bool) → x.how ≡ EndRead u → touches s past x.owner x.reader x.field x.bit ≡ false → value_of (valued s past flick x).how ≡ (wires s past x.owner x.field x.bit x.reader).value

-- the effect of the access of an entry
pub entry_reads : (s : Setup) (past : Past) (p : ℕ) (e : Entry) (command : Command) (number : ℕ) (part : Part) (bits : List Bool) (begun flick : Bool) → AnswersTruly s past →
    e.access ≡ Some (valued s past flick (access_at (call s p command number) part (Reading bits begun))) →
    ReadAccess s past p (read_at (call s p command number) part).0 (read_at (call s p command number) part).1 (length bits) begun (value_of (valued s past flick (access_at (call s p command number) part (Reading bits begun))).how) (touches s (e ∷ past))
entry_reads s past p e command number part bits false flick truly access = record {
  mark = λ begins. touches-begun s past e (valued s past flick (access_at (call s p command number) part (Reading bits false))) access refl;
  value = λ begun. absurd (false≢true begun);
  others = λ r other. touches-readers s past e (valued s past flick (access_at (call s p command number) part (Reading bits false))) p r access other;
}
entry_reads s past p e command number part bits true flick truly access = record {
  mark = λ begins. absurd (true≢false begins);
  value = λ begun. truly (access_at (call s p command number) part (Reading bits true)) false flick refl;
  others = λ r other. touches-readers s past e (valued s past flick (access_at (call s p command number) part (Reading bits true))) p r access other;
}

-- the entry changes no register
entry_writes_not : (s : Setup) (past : Past) (p : ℕ) (e : Entry) (command : Command) (number : ℕ) (part : Part) (bits : List Bool) (begun flick : Bool) →
    e.access ≡ Some (valued s past flick (access_at (call s p command number) part (Reading bits begun))) → wires s (e ∷ past) p ≡ wires s past p
entry_writes_not s past p e command number part bits false flick access = wires-read s past e (valued s past flick (access_at (call s p command number) part (Reading bits false))) p access refl
entry_writes_not s past p e command number part bits true flick access = wires-read s past e (valued s past flick (access_at (call s p command number) part (Reading bits true))) p access refl

-- an entry of a step at a part that reads keeps the invariant
pub read_keeps : (s : Setup) (past : Past) (p : ℕ) (e : Entry) (command : Command) (number : ℕ) (part : Part) (run : Run) (flick : Bool)
    → let a : Access = valued s past flick (access_at (call s p command number) part run) in
    At s past p e (Runs command number (record { part = part; run = run })) → is_read part ≡ true → e.access ≡ Some a → AnswersTruly s past →
    doing s p (e ∷ past) ≡ runs command number (place_after (call s p command number) (record { part = part; run = run }) (value_of a.how)) → Inv s (e ∷ past)
read_keeps s past p e command number part (Reading bits begun) flick h reading access truly does =
    let a : Access = valued s past flick (access_at (call s p command number) part (Reading bits begun)) in
    all_move s past p e (runs command number (place_after (call s p command number) (record { part = part; run = Reading bits begun }) (value_of a.how)))
    (notes_after s p (next_time past) (Some a) (Runs command number (record { part = part; run = Reading bits begun })) (notes s p past)) (wires s past p) (touches s (e ∷ past)) h.inv h.apart
    (record {
      doing = does;
      notes = notes-goes s p e past h.process ∙ (λ i. notes_after s p (next_time past) (access i) (h.does i) (notes s p past));
      wires = entry_writes_not s past p e command number part bits begun flick access;
      touches = refl;
    })
    (read_moves s h.good past p command number part bits begun (value_of a.how) (touches s (e ∷ past)) (record { inv = h.inv; process = h.below; is = h.does })
    (entry_reads s past p e command number part bits begun flick truly access))
read_keeps s past p e command number part (Writing w) flick h reading access truly does =
    let corresponds : Corresponds s p (notes s p past) (wires s past p) (Runs command number (record { part = part; run = Writing w })) =
    subst (λ d. Corresponds s p (notes s p past) (wires s past p) d) h.does (h.inv.own p h.below).corresponds in
    absurd (false≢true (sym corresponds.0.0 ∙ reading))
