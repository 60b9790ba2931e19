-- The doorway of a call, part by part: whether it has begun, whether it has ended, the change by a step, and the marks of the step's entry.
use Rattle.std.proofs.Common.{◌≡◌, ℕ, ◌+◌, ◌/◌, ◌%◌, ◌==◌, ◌&&◌, ◌||◌, not, Bool, true, false, cond, List, [], ◌∷◌, Option, Some, None, refl, sym, ap, subst, ◌∙◌, true≢false, if◌then◌else◌, slice_index_or, is_none}
use Rattle.std.proofs.lemmas.Bool.{eqb-true}
use Rattle.std.specs.Prelude.{unwrap_or}
use Rattle.std.specs.List.{list_any}
use Rattle.model.specs.reader_copies.Runs as copies
use Rattle.model.specs.safe_bit.declared.Move.TheVariants.{BeginWrite, EndWrite}
use Rattle.model.specs.{Access, Call, Entry, Place, Reading, Run, Version, Wait, Writing, access_at, begins_doorway, bits_with, ended, ended_with, enter, entered_if_none, first_full, greatest, is_fresh, is_last, is_waiting, lets_by, max_of, newest_stamp, others, place_after, processes, raises, reply, run_after, store_read, waits_of}
use Rattle.model.specs.declared.access.Field.TheVariants.{Choosing}
use Rattle.model.specs.declared.marks.Mark.TheVariants.{Taken}
use Rattle.model.specs.Parts.{Part, Raises, Asks, TakesTicket, Lowers, Refuses, Waits, AsksCommit, AsksStamp, AsksImage, WritesImage, Clears, is_over, last_marks, to_b, to_d, to_e, to_g, part_after}
use Rattle.plain_store.specs.declared.Answer.TheVariants as answer
use Rattle.plain_store.specs.{Contents, changes}
use Rattle.laws.proofs.Notes.{began_by, ended_by}
use Rattle.laws.proofs.FrameInside.{run-unfresh}
use Rattle.laws.proofs.AtPlaces.{IsOfLock, IsRunOf}
use Rattle.laws.proofs.FrameMarks.{waiting-entered}

-- the doorway has begun; fresh: nothing of the part is made
abbrev pub has_begun : Part → (fresh : Bool) → Bool
has_begun Raises fresh = not fresh
has_begun _ fresh = true

-- the doorway is finished
abbrev pub has_finished : Part → Bool
has_finished Raises = false
has_finished (Asks j js ts) = false
has_finished (TakesTicket t) = false
has_finished (Lowers t) = false
has_finished (Refuses f) = false
has_finished _ = true

-- the last number access of a doorway that gives a ticket
abbrev pub is_lowering : Part → Bool
is_lowering (Lowers t) = true
is_lowering _ = false

-- The change of the place.

begun-to_e : (ks : List ℕ) (vs : List Version) (fresh : Bool) → (has_begun (to_e ks vs) fresh ≡ true) × (has_finished (to_e ks vs) ≡ true)
begun-to_e [] vs fresh = (refl, refl)
begun-to_e (k ∷ ks) vs fresh = (refl, refl)

begun-to_d : (c : Call) (t : ℕ) (ws : List Wait) (fresh : Bool) → (has_begun (to_d c t ws) fresh ≡ true) × (has_finished (to_d c t ws) ≡ true)
begun-to_d c t [] fresh = begun-to_e (processes c.setup) [] fresh
begun-to_d c t (w ∷ ws) fresh = (refl, refl)

begun-to_b : (c : Call) (js ts : List ℕ) (fresh : Bool) → (has_begun (to_b c js ts) fresh ≡ true) × (has_finished (to_b c js ts) ≡ false)
begun-to_b c (j ∷ js) ts fresh = (refl, refl)
begun-to_b c [] ts fresh = go (greatest ts == max_of c.setup.ticket_bits)
  where
    to : Bool → Part
    to b = elim b as (λ _. Part) [ true ↦ Refuses (first_full c ts) | false ↦ TakesTicket (greatest ts + 1) ]

    go : (b : Bool) → (has_begun (to b) fresh ≡ true) × (has_finished (to b) ≡ false)
    go true = (refl, refl)
    go false = (refl, refl)

begun-to_g : (c : Call) (vs : List Version) (st : Contents) (fresh : Bool) → (has_begun (to_g c vs st) fresh ≡ true) × (has_finished (to_g c vs st) ≡ true)
begun-to_g c vs st fresh = go (changes st c.command) (newest_stamp vs == max_of c.setup.stamp_bits)
  where
    to : Bool → Bool → Part
    to b d = elim b as (λ _. Part) [ false ↦ Clears (answer.Reply (reply c st)) | true ↦ elim d as (λ _. Part) [ true ↦ Clears answer.StampsFull | false ↦ WritesImage vs st ] ]

    go : (b d : Bool) → (has_begun (to b d) fresh ≡ true) × (has_finished (to b d) ≡ true)
    go false d = (refl, refl)
    go true true = (refl, refl)
    go true false = (refl, refl)

begun-after : (c : Call) (part : Part) (bits : List Bool) (fresh : Bool) → has_begun (part_after c part bits) fresh ≡ true
begun-after c Raises bits fresh = (begun-to_b c (others c.setup c.process) [] fresh).0
begun-after c (Asks j js ts) bits fresh = (begun-to_b c js _ fresh).0
begun-after c (TakesTicket t) bits fresh = refl
begun-after c (Lowers t) bits fresh = (begun-to_d c t (waits_of c) fresh).0
begun-after c (Refuses f) bits fresh = refl
begun-after c (Waits t w ws) bits fresh = (begun-to_d c t (cond (lets_by c t w bits) ws (w ∷ ws)) fresh).0
begun-after c (AsksCommit k ks vs) bits fresh = refl
begun-after c (AsksStamp k ks vs b) bits fresh = (begun-to_e ks _ fresh).0
begun-after c (AsksImage vs) bits fresh = (begun-to_g c vs (store_read c bits) fresh).0
begun-after c _ bits fresh = refl

finished-after : (c : Call) (part : Part) (bits : List Bool) → is_over (part_after c part bits) ≡ false → has_finished (part_after c part bits) ≡ (has_finished part || is_lowering part)
finished-after c Raises bits o = (begun-to_b c (others c.setup c.process) [] true).1
finished-after c (Asks j js ts) bits o = (begun-to_b c js _ true).1
finished-after c (TakesTicket t) bits o = refl
finished-after c (Lowers t) bits o = (begun-to_d c t (waits_of c) true).1
finished-after c (Refuses f) bits o = cc
finished-after c (Waits t w ws) bits o = (begun-to_d c t (cond (lets_by c t w bits) ws (w ∷ ws)) true).1
finished-after c (AsksCommit k ks vs) bits o = refl
finished-after c (AsksStamp k ks vs b) bits o = (begun-to_e ks _ true).1
finished-after c (AsksImage vs) bits o = (begun-to_g c vs (store_read c bits) true).1
finished-after c _ bits o = refl

pub begun-next : (c : Call) (at : Place) (v : Bool) → has_begun (place_after c at v).part (is_fresh (place_after c at v).run) ≡ true
begun-next c at v = go (is_last c at.part at.run)
  where
    to : Bool → Place
    to b = cond b (enter c (part_after c at.part (bits_with at.run v))) (record { part = at.part; run = run_after c at.part at.run v })

    on : (part : Part) (fresh : Bool) → fresh ≡ false → has_begun part fresh ≡ true
    on Raises fresh h = ap not h
    on _ fresh h = refl

    go : (b : Bool) → has_begun (to b).part (is_fresh (to b).run) ≡ true
    go true = begun-after c at.part (bits_with at.run v) (is_fresh (enter c (part_after c at.part (bits_with at.run v))).run)
    go false = on at.part (is_fresh (run_after c at.part at.run v)) (run-unfresh c at.part at.run v)

pub finished-next : (c : Call) (at : Place) (v : Bool) → is_over (place_after c at v).part ≡ false → has_finished (place_after c at v).part ≡ (has_finished at.part || (is_last c at.part at.run && is_lowering at.part))
finished-next c at v = go (is_last c at.part at.run)
  where
    to : Bool → Place
    to b = cond b (enter c (part_after c at.part (bits_with at.run v))) (record { part = at.part; run = run_after c at.part at.run v })

    none : (b : Bool) → b ≡ (b || false)
    none true = refl
    none false = refl

    go : (b : Bool) → is_over (to b).part ≡ false → has_finished (to b).part ≡ (has_finished at.part || (b && is_lowering at.part))
    go true o = finished-after c at.part (bits_with at.run v) o
    go false o = none (has_finished at.part)

-- The change of the notes.

pub began-kept : (part : Part) (fresh : Bool) (now was : ℕ) → has_begun part fresh ≡ true → began_by part fresh now was ≡ was
began-kept Raises true now was h = absurd (true≢false (sym h))
began-kept Raises false now was h = refl
began-kept _ fresh now was h = refl

-- if the doorway has not begun, the announcement is still to be made
pub to-begin : (part : Part) (fresh : Bool) → has_begun part fresh ≡ false → (part ≡ Raises) × (fresh ≡ true)
to-begin Raises true h = (refl, refl)
to-begin Raises false h = absurd (true≢false h)
to-begin _ fresh h = absurd (true≢false h)

pub ended-kept : (part : Part) (last : Bool) (now was : ℕ) → (last && is_lowering part) ≡ false → ended_by part last now was ≡ was
ended-kept (Lowers t) true now was h = absurd (true≢false h)
ended-kept (Lowers t) false now was h = refl
ended-kept _ last now was h = refl

pub both : (a b : Bool) → (a && b) ≡ true → (a ≡ true) × (b ≡ true)
both true true h = (refl, refl)
both true false h = absurd (true≢false (sym h))
both false b h = absurd (true≢false (sym h))

pub lowers-is : (part : Part) → is_lowering part ≡ true → (t : ℕ) × (part ≡ Lowers t)
lowers-is (Lowers t) h = (t, refl)
lowers-is _ h = absurd (true≢false (sym h))

pub to-end : (part : Part) (last fresh : Bool) (now was : ℕ) → (last && is_lowering part) ≡ true → (ended_by part last now was ≡ now) × (has_begun part fresh ≡ true) × (has_finished part ≡ false)
to-end part last fresh now was h =
    let f = both last (is_lowering part) h in
    let (t, is) = lowers-is part f.1 in
    subst (λ x. (ended_by x last now was ≡ now) × (has_begun x fresh ≡ true) × (has_finished x ≡ false)) (sym is) (ap (λ b. cond b now was) f.0, refl, refl)

pub finished-begun : (part : Part) (fresh : Bool) → has_finished part ≡ true → has_begun part fresh ≡ true
finished-begun Raises fresh h = absurd (true≢false (sym h))
finished-begun _ fresh h = refl

-- The marks of the entry.

abbrev pub of_waiting : IsOfLock is_waiting
of_waiting = record { taken = λ k r. refl; remaining = refl; settled = λ v. refl; down = refl; withdrawn = refl }

pub waiting-last : (c : Call) (part : Part) (bits : List Bool) → list_any is_waiting (last_marks c part bits) ≡ is_lowering part
waiting-last c (Lowers t) bits = refl
waiting-last c (Waits t w ws) bits = go (lets_by c t w bits)
  where
    go : (b : Bool) → list_any is_waiting (cond b (entered_if_none ws) []) ≡ false
    go true = waiting-entered ws
    go false = refl
waiting-last c (AsksImage vs) bits = go (changes (store_read c bits) c.command)
  where
    go : (b : Bool) → list_any is_waiting (cond b [] (Taken 0 (reply c (store_read c bits)) ∷ [])) ≡ false
    go true = refl
    go false = refl
waiting-last c _ bits = refl

-- the first access of the announcement begins the doorway
pub opens-doorway : (c : Call) (part : Part) (run : Run) (e : Entry) (a : Access) (v : Bool) → IsRunOf part run → part ≡ Raises → is_fresh run ≡ true → e.access ≡ Some a →
    a ≡ ended_with v (access_at c part run) → begins_doorway e ≡ true
opens-doorway c part run e a v kind is fresh acc made =
    (λ i. elim (acc i) as (λ _. Bool) [ None ↦ false | Some b ↦ (b.reader == 0) && raises b.field b.how ])
    ∙ (λ i. ((made i).reader == 0) && raises (made i).field (made i).how)
    ∙ ap (λ x. ((access_at c x run).reader == 0) && raises (access_at c x run).field (ended v (access_at c x run).how)) is
    ∙ go run fresh (subst (λ x. IsRunOf x run) is kind)
  where
    first : (o : Option copies.Writing) (bit : ℕ) → is_none o ≡ true → (bit == 0) ≡ true
        → let w : copies.Writing = unwrap_or o (record { value = slice_index_or (true ∷ []) bit false; made = 0; ended = false }) in
        ((w.made / 2 == 0) && raises Choosing (ended v (if w.made % 2 == 0 then BeginWrite w.value else EndWrite))) ≡ true
    first None bit h z = ap (λ k. slice_index_or (true ∷ []) k false) (eqb-true bit 0 z)
    first (Some w) bit h z = absurd (true≢false (sym h))

    go : (run : Run) → is_fresh run ≡ true → IsRunOf Raises run → (((access_at c Raises run).reader == 0) && raises (access_at c Raises run).field (ended v (access_at c Raises run).how)) ≡ true
    go (Writing w) h k = let f = both (w.bit == 0) (is_none w.run) h in first w.run w.bit f.1 f.0
    go (Reading bits begun) h k = absurd (true≢false (sym k))
