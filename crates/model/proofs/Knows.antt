-- The store that a call knows while it writes a change is the one of the image that it has read last.
use Rattle.std.proofs.Common.{◌≡◌, ℕ, ◌+◌, ◌==◌, ◌%◌, Bool, true, false, cond, List, [], ◌∷◌, ◌++◌, Some, length, refl, sym, ap, subst, ◌∙◌, true≢false}
use Rattle.safe_bit.specs.{is_of_write}
use Rattle.safe_bit.specs.declared.Move.TheVariants.{BeginWrite, EndWrite}
use Rattle.model.specs.{Access, Call, Numbers, Place, ReadSoFar, Reading, Run, Version, Wait, Writing, access_at, bit_written, ended_with, enter, greatest, is_last, last_read, lets_by, max_of, newest_stamp, others, place_after, run_after, store_read, value_of, waits_of, width, with_access, write_moved}
use Rattle.plain_store.specs.{Contents, changes}
use Rattle.model.specs.Parts.{Part, Raises, Asks, TakesTicket, Lowers, Refuses, Waits, AsksCommit, AsksStamp, AsksImage, WritesImage, WritesStamp, WritesCommit, Clears, is_read, is_over, read_at, written_at, part_after, to_b, to_c, to_d, to_e, to_g}
use Rattle.model.proofs.Follow.{write-adds_nothing}
use Rattle.model.proofs.Ties.{Tie, over, writes, reads}

-- the store of a change is that of the number that was read last
abbrev pub Knows : Call → Part → Numbers → Type 0
Knows c (WritesImage vs store) f = store ≡ store_read c (last_read f)
Knows c (WritesStamp vs store) f = store ≡ store_read c (last_read f)
Knows c (WritesCommit vs store) f = store ≡ store_read c (last_read f)
Knows c _ f = Unit {0}

last-read : (f : Numbers) (value : List Bool) → last_read (f ++ value ∷ []) ≡ value
last-read [] value = refl
last-read (x ∷ []) value = refl
last-read (x ∷ y ∷ f) value = last-read (y ∷ f) value

knows-e : (c : Call) (ks : List ℕ) (vs : List Version) (f : Numbers) → Knows c (to_e ks vs) f
knows-e c [] vs f = tt
knows-e c (k ∷ ks) vs f = tt

knows-d : (c : Call) (t : ℕ) (ws : List Wait) (f : Numbers) → Knows c (to_d c t ws) f
knows-d c t [] f = knows-e c (Rattle.model.specs.Registers.processes c.setup) [] f
knows-d c t (w ∷ ws) f = tt

knows-c : (c : Call) (ts : List ℕ) (f : Numbers) → Knows c (to_c c ts) f
knows-c c ts f = go (greatest ts == max_of c.setup.ticket_bits)
  where
    go : (b : Bool) → Knows c (elim b as (λ _. Part) [ true ↦ Refuses (Rattle.model.specs.Program.first_full c ts) | false ↦ TakesTicket (greatest ts + 1) ]) f
    go true = tt
    go false = tt

knows-b : (c : Call) (js ts : List ℕ) (f : Numbers) → Knows c (to_b c js ts) f
knows-b c [] ts f = knows-c c ts f
knows-b c (j ∷ js) ts f = tt

knows-g : (c : Call) (vs : List Version) (store : Contents) (f : Numbers) → store ≡ store_read c (last_read f) → Knows c (to_g c vs store) f
knows-g c vs store f h = go (changes store c.command) (newest_stamp vs == max_of c.setup.stamp_bits)
  where
    full : Bool → Part
    full b = elim b as (λ _. Part) [ true ↦ Clears Rattle.plain_store.specs.declared.Answer.TheVariants.StampsFull | false ↦ WritesImage vs store ]

    go : (b d : Bool) → Knows c (elim b as (λ _. Part) [ false ↦ Clears (Rattle.plain_store.specs.declared.Answer.TheVariants.Reply (Rattle.model.specs.Program.reply c store)) | true ↦ full d ]) f
    go false d = tt
    go true true = tt
    go true false = h

-- a read brings what it has read
knows-read : (c : Call) (part : Part) (value : List Bool) (f : Numbers) → is_read part ≡ true → Knows c (part_after c part value) (f ++ value ∷ [])
knows-read c Raises value f r = cc
knows-read c (Asks j js ts) value f r = knows-b c js (ts ++ Rattle.safe_number.specs.Bytes.number_of_bits value ∷ []) (f ++ value ∷ [])
knows-read c (TakesTicket t) value f r = cc
knows-read c (Lowers t) value f r = cc
knows-read c (Refuses q) value f r = cc
knows-read c (Waits t w ws) value f r = knows-d c t (cond (lets_by c t w value) ws (w ∷ ws)) (f ++ value ∷ [])
knows-read c (AsksCommit k ks vs) value f r = tt
knows-read c (AsksStamp k ks vs b) value f r = knows-e c ks (vs ++ (b, Rattle.safe_number.specs.Bytes.number_of_bits value) ∷ []) (f ++ value ∷ [])
knows-read c (AsksImage vs) value f r = knows-g c vs (store_read c value) (f ++ value ∷ []) (ap (store_read c) (sym (last-read f value)))
knows-read c _ value f r = cc

-- a write leaves it
knows-write : (c : Call) (part : Part) (f : Numbers) → is_read part ≡ false → Knows c part f → Knows c (part_after c part []) f
knows-write c Raises f r h = knows-b c (others c.setup c.process) [] f
knows-write c (Asks j js ts) f r h = cc
knows-write c (TakesTicket t) f r h = tt
knows-write c (Lowers t) f r h = knows-d c t (waits_of c) f
knows-write c (Refuses q) f r h = tt
knows-write c (Waits t w ws) f r h = cc
knows-write c (AsksCommit k ks vs) f r h = cc
knows-write c (AsksStamp k ks vs b) f r h = cc
knows-write c (AsksImage vs) f r h = cc
knows-write c (WritesImage vs store) f r h = h
knows-write c (WritesStamp vs store) f r h = h
knows-write c _ f r h = tt

writes-of : (even v : Bool) → is_of_write (cond even (BeginWrite v) EndWrite) ≡ true
writes-of true v = refl
writes-of false v = refl

-- so the store is known after each access
pub knows-place : (c : Call) (part : Part) (run : Run) (made : ℕ) (bits : List Bool) (v : Bool) (r : ReadSoFar) → is_over part ≡ false → Tie c part run made bits → r.bits ≡ bits → Knows c part r.finished
    → let y : Access = ended_with v (access_at c part run) in
    Knows c (place_after c (record { part = part; run = run }) (value_of y.how)).part (with_access c.setup (Some y) r).finished
knows-place c part run made bits v r o (over h) b k = absurd (true≢false (sym h ∙ o))
knows-place c part (Writing w) made bits v r o (writes e q tie) b k =
    subst (λ (q : ReadSoFar). Knows c (place_after c (record { part = part; run = Writing w }) u).part q.finished)
    (sym (write-adds_nothing (width c.setup (written_at c part).0) w.bit v (cond (m % 2 == 0) (BeginWrite (bit_written new w).value) EndWrite) r (writes-of (m % 2 == 0) (bit_written new w).value)))
    (go (is_last c part (Writing w)))
  where
    new : List Bool
    new = (written_at c part).1

    m : ℕ
    m = (bit_written new w).made

    u : Bool
    u = (let y : Access = ended_with v (access_at c part (Writing w)) in value_of y.how)

    go : (b : Bool) → Knows c (let at : Place = cond b (enter c (part_after c part [])) (record { part = part; run = Writing (write_moved c.setup.processes new w) }) in at).part r.finished
    go true = knows-write c part r.finished e k
    go false = k
knows-place c part (Reading bits false) made bits' v r o (reads e tie) b k = k
knows-place c part (Reading bits true) made bits' v r o (reads e tie) b k = go (length bits + 1 == width c.setup (read_at c part).1)
  where
    go : (last : Bool) → Knows c (let at : Place = cond last (enter c (part_after c part (bits ++ v ∷ []))) (record { part = part; run = run_after c part (Reading bits true) v }) in at).part
        (let q : ReadSoFar = cond last (record { finished = r.finished ++ (r.bits ++ v ∷ []) ∷ []; bits = [] }) (record { finished = r.finished; bits = r.bits ++ v ∷ [] }) in q).finished
    go true = subst (λ bs. Knows c (part_after c part (bits ++ v ∷ [])) (r.finished ++ (bs ++ v ∷ []) ∷ [])) (sym b) (knows-read c part (bits ++ v ∷ []) r.finished e)
    go false = k
