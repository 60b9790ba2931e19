-- The last end of a read of what is waited for. Choosing 0: the owner's doorway is early or late. A ticket that lets by: the owner is passed. Anything else: the read is made again.
use Rattle.std.specs.Prelude.{◌≡◌, ◌≢◌, ◌⊎◌, ℕ, suc, ◌+◌, ◌<◌, ◌≤◌, ◌==◌, nat_lt, Bool, true, false, ◌&&◌, ◌||◌, List, [], ◌∷◌, ◌++◌, length}
use Rattle.std.specs.List.{AllByRecursion}
use Rattle.std.proofs.Common.{refl, sym, ◌∙◌, subst, arith, append_assoc, inl, inr}
use Rattle.std.proofs.lemmas.Bool.{false≢true, and_parts, cases_lt, eqb-true, ltb-true, or_cases}
use Rattle.model.specs.declared.access.Field.TheVariants.{Choosing, Ticket}
use Rattle.model.specs.safe_number.{number_of_bits}
use Rattle.plain_store.specs.{Command, Setup}
use Rattle.model.specs.{Past, Wait, Waits, enter, is_below, others, to_d}
use Rattle.model.proofs.Width.{IsGood}
use Rattle.laws.specs.{call, runs}
use Rattle.laws.proofs.Invariant.{AllPassed, Beyond, InWaiting, Moves, Passed, Touches, next_time, waits, wires}
use Rattle.laws.proofs.Next.{to_d_moves}
use Rattle.laws.proofs.Notes.{Notes, notes, set, turned}
use Rattle.laws.proofs.Noting.{ready_seen, set-all, set-both, set-other, set-same}
use Rattle.laws.proofs.Others.{others_before}
use Rattle.laws.proofs.Reading.{AtRead, ReadAccess, choosing_bit, own_there, pair_there, ready_there, ticket_read}
use Rattle.laws.proofs.Ready.{Ready, ready_turned, starts}

-- A process that was passed stays passed if the notes change for a later process.

-- all of these, at other notes
passed_kept : (p j : ℕ) (n n' : Notes) (done : List ℕ) → AllByRecursion (λ i. i < j) done →
    ((i : ℕ) → i ≢ j → Passed p n.ticket n.held_at n.choosing_from n.choosing_to n.let_from n.let_by i → Passed p n'.ticket n'.held_at n'.choosing_from n'.choosing_to n'.let_from n'.let_by i) →
    AllPassed p n done → AllPassed p n' done
passed_kept p j n n' [] lower keeps h = tt
passed_kept p j n n' (i ∷ done) lower keeps h = let below : i < j = lower.0 in (keeps i (omega arith) h.0, passed_kept p j n n' done lower.1 keeps h.1)

-- one more process was passed
passed_more : (p : ℕ) (n : Notes) (done : List ℕ) (j : ℕ) → AllPassed p n done → Passed p n.ticket n.held_at n.choosing_from n.choosing_to n.let_from n.let_by j → AllPassed p n (done ++ j ∷ [])
passed_more p n [] j h now = (now, tt)
passed_more p n (i ∷ done) j h now = (h.0, passed_more p n done j h.1 now)

-- The read of choosing.

-- the read gave 1: choosing is read again
pub choosing_again : (s : Setup) → IsGood s → (past : Past) (p : ℕ) (command : Command) (number t j : ℕ) (ws : List Wait) (touched : ℕ → ℕ → Touches) →
    AtRead s past p command number (Waits t (j, Choosing) ws) [] true → ReadAccess s past p j Choosing 0 true true touched →
    Moves s past p (runs command number (enter (call s p command number) (Waits t (j, Choosing) ws))) (turned (next_time past) (notes s p past)) (wires s past p) touched
choosing_again s g past p command number t j ws touched h access =
    let n : Notes = notes s p past in
    let own = own_there s past p command number (Waits t (j, Choosing) ws) [] true h in
    let corresponds : InWaiting s p n t (j, Choosing) ws = own.corresponds.1 in
    let held : n.held_at < next_time past = own.past.held_at_past in
    starts s g past p command number (Waits t (j, Choosing) ws) (turned (next_time past) n) (wires s past p) touched refl
    (ready_turned s past p false n (wires s past p) touched (ready_there s past p command number (Waits t (j, Choosing) ws) [] true touched h access.others))
    (record {
      holding = corresponds.holding;
      ticket_is = corresponds.ticket_is;
      ended_after = corresponds.ended_after;
      done = corresponds.done;
      now = corresponds.now;
      next = corresponds.next;
      all = corresponds.all;
      passed = corresponds.passed;
      wait = (corresponds.wait.0, corresponds.wait.1, omega arith);
    })

-- the notes once it gave 0
abbrev let_in : ℕ → ℕ → Notes → Notes
let_in now j n = record n { since = now; choosing_from = set j n.since n.choosing_from; choosing_to = set j now n.choosing_to }

-- It gave 0. Early: it began before j's announcement was whole, if that is whole now; otherwise it would have read it clean, as 1. Late: it ends now, after j's ticket was whole.
ready_let_in : (s : Setup) (past : Past) (p j : ℕ) (n : Notes) (touched : ℕ → ℕ → Touches) → Ready s past p false n (wires s past p) touched → n.since < next_time past →
    (j < s.processes → (notes s j past).held_at < next_time past) → (j < s.processes → j ≢ p → (notes s j past).announced ≡ true → n.since < (notes s j past).announced_at) →
    Ready s past p false (let_in (next_time past) j n) (wires s past p) touched
ready_let_in s past p j n touched r before held early =
    ready_seen s past p n (set j n.since n.choosing_from) (set j (next_time past) n.choosing_to) n.asked_from n.asked n.let_from n.let_by (wires s past p) touched r
    (record {
      choosing_past = set-all (λ i t. t < suc (next_time past)) j n.since n.choosing_from (omega arith) r.times.choosing_past;
      asked_past = r.times.asked_past;
      let_past = r.times.let_past;
      from = r.senior.from;
      above = r.senior.above;
      knows = λ o below other. record {
        doorway = (r.knows o below other).doorway;
        waiting = (r.knows o below other).waiting;
        early = set-all (λ i x. i < s.processes → i ≢ p → (notes s i past).announced ≡ true → x < (notes s i past).announced_at) j n.since n.choosing_from
            early (λ i small apart. (r.knows i small apart).early) o below other;
        pass = set-both (λ i x y. i < s.processes → i ≢ p → (notes s i past).holds ≡ true → (x < (notes s i past).announced_at) ⊎ ((notes s i past).held_at ≤ y)) j n.since (next_time past) n.choosing_from n.choosing_to
            (λ small apart holds. let late : (notes s j past).held_at < next_time past = held small in inr (omega arith)) (λ i small apart. (r.knows i small apart).pass) o below other;
      };
    })

-- the notes change for j alone
passed_let_in : (p now j : ℕ) (n : Notes) (done : List ℕ) → AllByRecursion (λ i. i < j) done → AllPassed p n done → AllPassed p (let_in now j n) done
passed_let_in p now j n done lower h = passed_kept p j n (let_in now j n) done lower
    (λ i other was. record {
      from = subst (λ t. n.held_at ≤ t) (sym (set-other j n.since n.choosing_from i other)) was.from;
      then = subst (λ t. t ≤ n.let_from i) (sym (set-other j now n.choosing_to i other)) was.then;
      beyond = was.beyond;
    }) h

-- then its ticket is read
pub choosing_passed : (s : Setup) → IsGood s → (past : Past) (p : ℕ) (command : Command) (number t j : ℕ) (ws : List Wait) (touched : ℕ → ℕ → Touches) →
    AtRead s past p command number (Waits t (j, Choosing) ws) [] true → ReadAccess s past p j Choosing 0 true false touched →
    Moves s past p (runs command number (enter (call s p command number) (to_d (call s p command number) t ws))) (let_in (next_time past) j (notes s p past)) (wires s past p) touched
choosing_passed s g past p command number t j ws touched h access =
    let n : Notes = notes s p past in
    let own = own_there s past p command number (Waits t (j, Choosing) ws) [] true h in
    let corresponds : InWaiting s p n t (j, Choosing) ws = own.corresponds.1 in
    let all : others s p ≡ corresponds.done ++ j ∷ corresponds.next = subst (λ i. others s p ≡ corresponds.done ++ i ∷ corresponds.next) (sym corresponds.wait.0) corresponds.all in
    let then_ticket : ws ≡ (j, Ticket) ∷ waits corresponds.next = subst (λ i. ws ≡ (i, Ticket) ∷ waits corresponds.next) (sym corresponds.wait.0) corresponds.wait.1 in
    subst (λ vs. Moves s past p (runs command number (enter (call s p command number) (to_d (call s p command number) t vs))) (let_in (next_time past) j n) (wires s past p) touched) (sym then_ticket)
    (starts s g past p command number (Waits t (j, Ticket) (waits corresponds.next)) (let_in (next_time past) j n) (wires s past p) touched refl
    (ready_let_in s past p j n touched (ready_there s past p command number (Waits t (j, Choosing) ws) [] true touched h access.others) own.past.since_past
    (λ below. (h.inv.own j below).past.held_at_past)
    (λ below other announced. elim (cases_lt n.since (notes s j past).announced_at) [
      | inl early ↦ early
      | inr late ↦ absurd (false≢true (choosing_bit s past p j [] n.since false touched h.inv h.process below (omega arith) access
          ((pair_there s past p command number (Waits t (j, Choosing) ws) [] true h j below other).clean refl) announced late))
    ]))
    (record {
      holding = corresponds.holding;
      ticket_is = corresponds.ticket_is;
      ended_after = corresponds.ended_after;
      done = corresponds.done;
      now = j;
      next = corresponds.next;
      all = all;
      passed = passed_let_in p (next_time past) j n corresponds.done (others_before s p corresponds.done j corresponds.next all) corresponds.passed;
      wait = (
        refl,
        refl,
        subst (λ y. n.held_at ≤ y) (sym (set-same j n.since n.choosing_from)) corresponds.wait.2,
        subst (λ y. y ≤ next_time past) (sym (set-same j (next_time past) n.choosing_to)) (omega arith),
      );
    }))

-- The read of a ticket.

-- the ticket does not let p pass: it is read again
pub ticket_again : (s : Setup) → IsGood s → (past : Past) (p : ℕ) (command : Command) (number t j : ℕ) (ws : List Wait) (bits : List Bool) (v : Bool) (touched : ℕ → ℕ → Touches) →
    AtRead s past p command number (Waits t (j, Ticket) ws) bits true → ReadAccess s past p j Ticket (length bits) true v touched →
    Moves s past p (runs command number (enter (call s p command number) (Waits t (j, Ticket) ws))) (turned (next_time past) (notes s p past)) (wires s past p) touched
ticket_again s g past p command number t j ws bits v touched h access =
    let n : Notes = notes s p past in
    let own = own_there s past p command number (Waits t (j, Ticket) ws) bits true h in
    let corresponds : InWaiting s p n t (j, Ticket) ws = own.corresponds.1 in
    let before : n.since < next_time past = own.past.since_past in
    let read : n.choosing_to corresponds.now ≤ n.since = corresponds.wait.3 in
    starts s g past p command number (Waits t (j, Ticket) ws) (turned (next_time past) n) (wires s past p) touched refl
    (ready_turned s past p false n (wires s past p) touched (ready_there s past p command number (Waits t (j, Ticket) ws) bits true touched h access.others))
    (record {
      holding = corresponds.holding;
      ticket_is = corresponds.ticket_is;
      ended_after = corresponds.ended_after;
      done = corresponds.done;
      now = corresponds.now;
      next = corresponds.next;
      all = corresponds.all;
      passed = corresponds.passed;
      wait = (corresponds.wait.0, corresponds.wait.1, corresponds.wait.2, omega arith);
    })

-- a number that lets by is 0 or above one's own
pub beyond_is : (t p v j : ℕ) → ((v == 0) || is_below t p v j) ≡ true → Beyond t p v j
beyond_is t p v j e = elim (or_cases (v == 0) (is_below t p v j) e) [
  | inl none ↦ inl (eqb-true v 0 none)
  | inr some ↦ elim (or_cases (nat_lt t v) ((t == v) && nat_lt p j) some) [
    | inl above ↦ inr (inl (ltb-true t v above))
    | inr tie ↦ (let both = and_parts (t == v) (nat_lt p j) tie in inr (inr (eqb-true t v both.0, ltb-true p j both.1)))
  ]
]

-- the notes once it lets by
abbrev let_pass : ℕ → ℕ → ℕ → Notes → Notes
let_pass now j v n = record n { since = now; let_from = set j n.since n.let_from; let_by = set j v n.let_by }

-- its value is noted
ready_let_pass : (s : Setup) (past : Past) (p j v : ℕ) (n : Notes) (touched : ℕ → ℕ → Touches) → Ready s past p false n (wires s past p) touched → n.since < next_time past →
    (j < s.processes → j ≢ p → (notes s j past).holds ≡ true → (notes s j past).held_at ≤ n.since → v ≡ (notes s j past).ticket) →
    Ready s past p false (let_pass (next_time past) j v n) (wires s past p) touched
ready_let_pass s past p j v n touched r before gives =
    ready_seen s past p n n.choosing_from n.choosing_to n.asked_from n.asked (set j n.since n.let_from) (set j v n.let_by) (wires s past p) touched r
    (record {
      choosing_past = r.times.choosing_past;
      asked_past = r.times.asked_past;
      let_past = set-all (λ i t. t < suc (next_time past)) j n.since n.let_from (omega arith) r.times.let_past;
      from = r.senior.from;
      above = r.senior.above;
      knows = λ o below other. record {
        doorway = (r.knows o below other).doorway;
        waiting = set-both (λ i x y. i < s.processes → i ≢ p → (notes s i past).holds ≡ true → (notes s i past).held_at ≤ x → y ≡ (notes s i past).ticket) j n.since v n.let_from n.let_by
            gives (λ i small apart. (r.knows i small apart).waiting) o below other;
        early = (r.knows o below other).early;
        pass = (r.knows o below other).pass;
      };
    })

-- the notes change for j alone
passed_let_pass : (p now j v : ℕ) (n : Notes) (done : List ℕ) → AllByRecursion (λ i. i < j) done → AllPassed p n done → AllPassed p (let_pass now j v n) done
passed_let_pass p now j v n done lower h = passed_kept p j n (let_pass now j v n) done lower
    (λ i other was. record {
      from = was.from;
      then = subst (λ t. n.choosing_to i ≤ t) (sym (set-other j n.since n.let_from i other)) was.then;
      beyond = subst (λ y. Beyond n.ticket p y i) (sym (set-other j v n.let_by i other)) was.beyond;
    }) h

-- j is passed: on to the next one, or inside
pub ticket_passed : (s : Setup) → IsGood s → (past : Past) (p : ℕ) (command : Command) (number t j : ℕ) (ws : List Wait) (bits : List Bool) (v : Bool) (touched : ℕ → ℕ → Touches) →
    AtRead s past p command number (Waits t (j, Ticket) ws) bits true → ReadAccess s past p j Ticket (length bits) true v touched → length bits + 1 ≡ s.ticket_bits →
    Beyond t p (number_of_bits (bits ++ v ∷ [])) j →
    Moves s past p (runs command number (enter (call s p command number) (to_d (call s p command number) t ws))) (let_pass (next_time past) j (number_of_bits (bits ++ v ∷ [])) (notes s p past)) (wires s past p) touched
ticket_passed s g past p command number t j ws bits v touched h access last beyond =
    let n : Notes = notes s p past in
    let value : ℕ = number_of_bits (bits ++ v ∷ []) in
    let n' : Notes = let_pass (next_time past) j value n in
    let own = own_there s past p command number (Waits t (j, Ticket) ws) bits true h in
    let corresponds : InWaiting s p n t (j, Ticket) ws = own.corresponds.1 in
    let all : others s p ≡ corresponds.done ++ j ∷ corresponds.next = subst (λ i. others s p ≡ corresponds.done ++ i ∷ corresponds.next) (sym corresponds.wait.0) corresponds.all in
    let from : n.held_at ≤ n.choosing_from j = subst (λ i. n.held_at ≤ n.choosing_from i) (sym corresponds.wait.0) corresponds.wait.2 in
    let to : n.choosing_to j ≤ n.since = subst (λ i. n.choosing_to i ≤ n.since) (sym corresponds.wait.0) corresponds.wait.3 in
    let held : n.held_at < next_time past = own.past.held_at_past in
    subst (λ vs. Moves s past p (runs command number (enter (call s p command number) (to_d (call s p command number) t vs))) n' (wires s past p) touched) (sym corresponds.wait.1)
    (to_d_moves s g past p command number n' (wires s past p) touched
    (ready_let_pass s past p j value n touched (ready_there s past p command number (Waits t (j, Ticket) ws) bits true touched h access.others) own.past.since_past
    (λ below other. ticket_read s past p j bits n.since v touched h.inv h.process below last access ((pair_there s past p command number (Waits t (j, Ticket) ws) bits true h j below other).clean refl)))
    t corresponds.holding corresponds.ticket_is corresponds.ended_after (omega arith) (corresponds.done ++ j ∷ []) corresponds.next
    (all ∙ sym (append_assoc corresponds.done (j ∷ []) corresponds.next))
    (passed_more p n' corresponds.done j (passed_let_pass p (next_time past) j value n corresponds.done (others_before s p corresponds.done j corresponds.next all) corresponds.passed)
    (record {
      from = from;
      then = subst (λ y. n.choosing_to j ≤ y) (sym (set-same j n.since n.let_from)) to;
      beyond = subst (λ y. Beyond n.ticket p y j) (sym (set-same j value n.let_by)) (subst (λ y. Beyond y p value j) (sym corresponds.ticket_is) beyond);
    })))
