-- Each process whose register a call reads exists.
use Rattle.std.proofs.Common.{◌≡◌, ◌≢◌, ℕ, zero, suc, ◌+◌, ◌<◌, ◌≤◌, ◌==◌, max, Bool, true, false, cond, List, [], ◌∷◌, ◌++◌, length, fold, map, refl, arith}
use Rattle.std.proofs.lemmas.Bool.{eqb-false}
use Rattle.std.proofs.lemmas.List.{length-map, length_push}
use Rattle.std.proofs.lemmas.List.FromFn.{length-range_with_len}
use Rattle.std.specs.List.{AllByRecursion, range_with_len}
use Rattle.model.specs.safe_number.{number_of_bits}
use Rattle.plain_store.specs.declared.Answer.TheVariants as answer
use Rattle.plain_store.specs.{Command, Contents, Setup, changes}
use Rattle.model.specs.{Call, Event, Place, Version, Wait, bits_with, enter, first_full, greatest, index_of, is_last, lets_by, max_of, newest_process, newest_stamp, others, past_of, place_after, processes, reply, run_after, store_read, value_of, waits_of}
use Rattle.model.specs.Parts.{Part, Raises, Asks, TakesTicket, Lowers, Refuses, Waits, AsksCommit, AsksStamp, AsksImage, WritesImage, Clears, is_read, read_at, part_after, to_b, to_c, to_d, to_e, to_g}
use Rattle.model.proofs.Width.{IsGood}
use Rattle.laws.proofs.AtPlaces.{AtPlace, place-induction}
use Rattle.laws.specs.{call, doing}
use Rattle.laws.proofs.Invariant.{waits}
use Rattle.laws.proofs.Others.{all_others}
use Rattle.laws.proofs.Tickets.{above, still-below}

-- The newest version.

-- the greatest of some numbers is one of them, if it is above the start value
place-found : (a : ℕ) (ts : List ℕ) → a < fold max a ts → index_of (fold max a ts) ts < length ts
place-found a [] l = absurd (omega (arith, l))
place-found a (t ∷ ts) l = go (t == fold max (max a t) ts) refl (λ m. place-found (max a t) ts m)
  where
    go : (b : Bool) → (t == fold max (max a t) ts) ≡ b → (max a t < fold max (max a t) ts → index_of (fold max (max a t) ts) ts < length ts) →
        cond b 0 (1 + index_of (fold max (max a t) ts) ts) < suc (length ts)
    go true e rest = omega arith
    go false e rest = let found = rest (still-below (fold max (max a t) ts) a t (fold max (max a t) ts) (above (max a t) ts) refl l (eqb-false t (fold max (max a t) ts) e)) in omega (arith, found)

from-none : (top t : ℕ) → max 0 t ≤ top → t ≢ top → max 0 t < top
from-none top t up ne = grind (arith, up, ne)

-- the first place of the greatest of at most n numbers
newest-place : (n : ℕ) (ts : List ℕ) → length ts ≤ n → 0 < n → index_of (fold max 0 ts) ts < n
newest-place n [] l pos = pos
newest-place n (t ∷ ts) l pos = go (t == fold max (max 0 t) ts) refl
  where
    go : (b : Bool) → (t == fold max (max 0 t) ts) ≡ b → cond b 0 (1 + index_of (fold max (max 0 t) ts) ts) < n
    go true e = pos
    go false e = let found = place-found (max 0 t) ts (from-none (fold max (max 0 t) ts) t (above (max 0 t) ts) (eqb-false t (fold max (max 0 t) ts) e)) in omega (arith, found, l)

newest-there : (n : ℕ) (vs : List Version) → length vs ≤ n → 0 < n → newest_process vs < n
newest-there n vs l pos = newest-place n (map (λ v. v.1) vs) (omega (arith, l, length-map vs (λ v. v.1))) pos

-- The owners at a part.

-- the processes whose registers are read at a part and after it exist; at most as many versions are read as there are processes
abbrev pub OwnersThere : ℕ → Part → Type 0
OwnersThere n (Asks j js ts) = AllByRecursion (λ i. i < n) (j ∷ js)
OwnersThere n (Waits t w ws) = AllByRecursion (λ (x : Wait). x.0 < n) (w ∷ ws)
OwnersThere n (AsksCommit k ks vs) = AllByRecursion (λ i. i < n) (k ∷ ks) × (length vs + length (k ∷ ks) ≤ n)
OwnersThere n (AsksStamp k ks vs b) = AllByRecursion (λ i. i < n) (k ∷ ks) × (length vs + length (k ∷ ks) ≤ n)
OwnersThere n (AsksImage vs) = newest_process vs < n
OwnersThere n _ = Unit {0}

-- the process whose register is read at the part exists
pub owner-there : (c : Call) (n : ℕ) (part : Part) → is_read part ≡ true → OwnersThere n part → (read_at c part).0 < n
owner-there c n (Asks j js ts) r h = h.0
owner-there c n (Waits t w ws) r h = h.0
owner-there c n (AsksCommit k ks vs) r h = h.0.0
owner-there c n (AsksStamp k ks vs b) r h = h.0.0
owner-there c n (AsksImage vs) r h = h
owner-there c n _ r h = cc

-- The parts that come next.

range-below : (n from m : ℕ) → from + m ≤ n → AllByRecursion (λ i. i < n) (range_with_len from m)
range-below n from zero l = tt
range-below n from (suc m) l = (omega (arith, l), range-below n (from + 1) m (omega (arith, l)))

waits-below : (n : ℕ) (js : List ℕ) → AllByRecursion (λ i. i < n) js → AllByRecursion (λ (x : Wait). x.0 < n) (waits js)
waits-below n [] h = tt
waits-below n (j ∷ js) h = (h.0, (h.0, waits-below n js h.1))

others-below : (s : Setup) (p : ℕ) → AllByRecursion (λ i. i < s.processes) (others s p)
others-below s p = all_others s p (λ i. i < s.processes) (λ j below ne. below)

to_e-there : (n : ℕ) (ks : List ℕ) (vs : List Version) → 0 < n → AllByRecursion (λ i. i < n) ks → length vs + length ks ≤ n → OwnersThere n (to_e ks vs)
to_e-there n [] vs pos all l = newest-there n vs (omega (arith, l)) pos
to_e-there n (k ∷ ks) vs pos all l = (all, l)

to_d-there : (c : Call) (t : ℕ) (ws : List Wait) → 0 < c.setup.processes → AllByRecursion (λ (x : Wait). x.0 < c.setup.processes) ws → OwnersThere c.setup.processes (to_d c t ws)
to_d-there c t [] pos all =
    let size = length-range_with_len 0 c.setup.processes in
    to_e-there c.setup.processes (processes c.setup) [] pos (range-below c.setup.processes 0 c.setup.processes (omega arith)) (omega (arith, size))
to_d-there c t (w ∷ ws) pos all = all

to_c-there : (c : Call) (ts : List ℕ) → OwnersThere c.setup.processes (to_c c ts)
to_c-there c ts = go (greatest ts == max_of c.setup.ticket_bits)
  where
    go : (b : Bool) → OwnersThere c.setup.processes (elim b as (λ _. Part) [ true ↦ Refuses (first_full c ts) | false ↦ TakesTicket (greatest ts + 1) ])
    go true = tt
    go false = tt

to_b-there : (c : Call) (js ts : List ℕ) → AllByRecursion (λ i. i < c.setup.processes) js → OwnersThere c.setup.processes (to_b c js ts)
to_b-there c [] ts all = to_c-there c ts
to_b-there c (j ∷ js) ts all = all

to_g-there : (c : Call) (n : ℕ) (vs : List Version) (st : Contents) → OwnersThere n (to_g c vs st)
to_g-there c n vs st = go (changes st c.command) (newest_stamp vs == max_of c.setup.stamp_bits)
  where
    go : (b d : Bool) → OwnersThere n (elim b as (λ _. Part) [ false ↦ Clears (answer.Reply (reply c st)) | true ↦ elim d as (λ _. Part) [ true ↦ Clears answer.StampsFull | false ↦ WritesImage vs st ] ])
    go true true = tt
    go true false = tt
    go false d = tt

-- for any value that was read
part-there : (c : Call) → IsGood c.setup → (part : Part) (value : List Bool) → OwnersThere c.setup.processes part → OwnersThere c.setup.processes (part_after c part value)
part-there c g Raises value h = to_b-there c (others c.setup c.process) [] (others-below c.setup c.process)
part-there c g (Asks j js ts) value h = to_b-there c js (ts ++ number_of_bits value ∷ []) h.1
part-there c g (TakesTicket t) value h = tt
part-there c g (Lowers t) value h = to_d-there c t (waits_of c) (omega (arith, g.processes_is)) (waits-below c.setup.processes (others c.setup c.process) (others-below c.setup c.process))
part-there c g (Refuses f) value h = tt
part-there c g (Waits t w ws) value h = go (lets_by c t w value)
  where
    go : (b : Bool) → OwnersThere c.setup.processes (to_d c t (cond b ws (w ∷ ws)))
    go true = to_d-there c t ws (omega (arith, g.processes_is)) h.1
    go false = h
part-there c g (AsksCommit k ks vs) value h = h
part-there c g (AsksStamp k ks vs b) value h =
    let size = length_push vs (b, number_of_bits value) in let room = h.1 in
    to_e-there c.setup.processes ks (vs ++ (b, number_of_bits value) ∷ []) (omega (arith, g.processes_is)) h.0.1 (omega (arith, size, room))
part-there c g (AsksImage vs) value h = to_g-there c c.setup.processes vs (store_read c value)
part-there c g _ value h = tt

pub after-there : (c : Call) → IsGood c.setup → (at : Place) (v : Bool) → OwnersThere c.setup.processes at.part → OwnersThere c.setup.processes (place_after c at v).part
after-there c g at v h = go (is_last c at.part at.run)
  where
    to : Bool → Place
    to b = cond b (enter c (part_after c at.part (bits_with at.run v))) (record { part = at.part; run = run_after c at.part at.run v })

    go : (b : Bool) → OwnersThere c.setup.processes (to b).part
    go true = part-there c g at.part (bits_with at.run v) h
    go false = h

-- at each place of each record
abbrev pub OwnersAt : Setup → Command → ℕ → Place → Type 0
OwnersAt s command number at = OwnersThere s.processes at.part

pub owners_there : (s : Setup) → IsGood s → (events : List Event) (p : ℕ) → AtPlace (OwnersAt s) (doing s p (past_of s events))
owners_there s g = place-induction s g (λ past p command number at. OwnersAt s command number at)
    (λ past e p command number at apart h. h)
    (λ past e command number none marks. tt)
    (λ past e command number at st h o. after-there (call s e.process command number) g at (value_of st.access.how) h)
