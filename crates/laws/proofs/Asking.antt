-- The last end of a read of a ticket in the doorway: what it gave is noted, and the next ticket is read, or all are.
use Rattle.std.specs.Prelude.{◌≡◌, ◌≢◌, ℕ, suc, ◌+◌, ◌^◌, ◌<◌, ◌≤◌, Bool, true, false, List, [], ◌∷◌, ◌++◌, length}
use Rattle.std.specs.List.{AllByRecursion}
use Rattle.std.proofs.Common.{refl, sym, ◌∙◌, subst, arith, append_assoc}
use Rattle.std.proofs.lemmas.List.{length_push}
use Rattle.model.specs.declared.access.Field.TheVariants.{Ticket}
use Rattle.model.specs.safe_number.{number_of_bits}
use Rattle.plain_store.specs.{Command, Setup}
use Rattle.model.specs.{Asks, Past, enter, to_b}
use Rattle.model.proofs.Width.{IsGood}
use Rattle.laws.proofs.Bits.{number_small}
use Rattle.laws.specs.{call, runs}
use Rattle.laws.proofs.Invariant.{Asked, InAsking, Moves, Touches, next_time, wires}
use Rattle.laws.proofs.Next.{to_b_moves}
use Rattle.laws.proofs.Notes.{Notes, noted, notes, set}
use Rattle.laws.proofs.Noting.{ready_seen, set-all, set-both, set-other, set-same}
use Rattle.laws.proofs.Others.{others_before}
use Rattle.laws.proofs.Owner.{not_so}
use Rattle.laws.proofs.Reading.{AtRead, ReadAccess, own_there, pair_there, ready_there, ticket_read}
use Rattle.laws.proofs.Ready.{Ready}

-- one more ticket was read, of a process that comes after those before
asked_more : (s : Setup) (announced_at j x v : ℕ) (asked_from asked : ℕ → ℕ) (done ts : List ℕ) → AllByRecursion (λ i. i < j) done → announced_at ≤ x → v < 2 ^ s.ticket_bits →
    Asked s announced_at asked_from asked done ts → Asked s announced_at (set j x asked_from) (set j v asked) (done ++ j ∷ []) (ts ++ v ∷ [])
asked_more s announced_at j x v asked_from asked [] [] lower after small h =
    (subst (λ y. announced_at ≤ y) (sym (set-same j x asked_from)) after, set-same j v asked, small, tt)
asked_more s announced_at j x v asked_from asked [] (t ∷ ts) lower after small h = absurd h
asked_more s announced_at j x v asked_from asked (i ∷ done) [] lower after small h = absurd h
asked_more s announced_at j x v asked_from asked (i ∷ done) (t ∷ ts) lower after small h =
    let below : i < j = lower.0 in
    let other : i ≢ j = omega arith in (
      subst (λ y. announced_at ≤ y) (sym (set-other j x asked_from i other)) h.0,
      set-other j v asked i other ∙ h.1,
      h.2,
      asked_more s announced_at j x v asked_from asked done ts lower.1 after small h.3,
    )

-- the ticket of j is noted
ready_asked : (s : Setup) (past : Past) (p j v : ℕ) (n : Notes) (touched : ℕ → ℕ → Touches) → Ready s past p false n (wires s past p) touched → n.holds ≡ false → n.since < next_time past →
    (j < s.processes → j ≢ p → (notes s j past).holds ≡ true → (notes s j past).held_at ≤ n.since → v ≡ (notes s j past).ticket) →
    Ready s past p false (record n { since = next_time past; asked_from = set j n.since n.asked_from; asked = set j v n.asked }) (wires s past p) touched
ready_asked s past p j v n touched r free before gives =
    ready_seen s past p n n.choosing_from n.choosing_to (set j n.since n.asked_from) (set j v n.asked) n.let_from n.let_by (wires s past p) touched r
    (record {
      choosing_past = r.times.choosing_past;
      asked_past = set-all (λ i t. t < suc (next_time past)) j n.since n.asked_from (omega arith) r.times.asked_past;
      let_past = r.times.let_past;
      from = λ holds. not_so free holds;
      above = λ holds. not_so free holds;
      knows = λ o below other. record {
        doorway = set-both (λ i x y. i < s.processes → i ≢ p → (notes s i past).holds ≡ true → (notes s i past).held_at ≤ x → y ≡ (notes s i past).ticket) j n.since v n.asked_from n.asked
            gives (λ i small apart. (r.knows i small apart).doorway) o below other;
        waiting = (r.knows o below other).waiting;
        early = (r.knows o below other).early;
        pass = (r.knows o below other).pass;
      };
    })

-- on to the next ticket, or to the choice
pub asks_last : (s : Setup) → IsGood s → (past : Past) (p : ℕ) (command : Command) (number j : ℕ) (js ts : List ℕ) (bits : List Bool) (v : Bool) (touched : ℕ → ℕ → Touches) →
    AtRead s past p command number (Asks j js ts) bits true → ReadAccess s past p j Ticket (length bits) true v touched → length bits + 1 ≡ s.ticket_bits →
    Moves s past p (runs command number (enter (call s p command number) (to_b (call s p command number) js (ts ++ number_of_bits (bits ++ v ∷ []) ∷ []))))
    (noted (call s p command number) (next_time past) (Asks j js ts) false true (bits ++ v ∷ []) (notes s p past)) (wires s past p) touched
asks_last s g past p command number j js ts bits v touched h access last =
    let n : Notes = notes s p past in
    let value : ℕ = number_of_bits (bits ++ v ∷ []) in
    let own = own_there s past p command number (Asks j js ts) bits true h in
    let corresponds : InAsking s p n j js ts = own.corresponds.1 in
    let before : n.since < next_time past = own.past.since_past in
    let announced : n.announced_at < next_time past = own.past.announced_at_past in
    let small : value < 2 ^ s.ticket_bits = number_small s.ticket_bits (bits ++ v ∷ []) (length_push bits v ∙ last) in
    to_b_moves s g past p command number (record n { since = next_time past; asked_from = set j n.since n.asked_from; asked = set j value n.asked }) (wires s past p) touched
    (ready_asked s past p j value n touched (ready_there s past p command number (Asks j js ts) bits true touched h access.others) corresponds.doorway.free before
    (λ below other. ticket_read s past p j bits n.since v touched h.inv h.process below last access ((pair_there s past p command number (Asks j js ts) bits true h j below other).clean refl)))
    corresponds.doorway (omega arith) (corresponds.done ++ j ∷ []) js (ts ++ value ∷ [])
    (corresponds.all ∙ sym (append_assoc corresponds.done (j ∷ []) js))
    (asked_more s n.announced_at j n.since value n.asked_from n.asked corresponds.done ts (others_before s p corresponds.done j js corresponds.all) corresponds.after small corresponds.asked_all)
