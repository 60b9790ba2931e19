-- The place machine and the index into the accesses of a part go together.
use Rattle.std.proofs.Common.{◌≡◌, ◌≢◌, ℕ, zero, suc, ◌+◌, ◌-◌, ◌*◌, ◌<◌, ◌==◌, Bool, true, false, cond, List, [], ◌∷◌, ◌++◌, Some, drop, length, map, replicate, refl, sym, ap, subst, ◌∙◌, arith}
use Rattle.std.proofs.lemmas.Bool.{eqb-true, eqb-false, ne_eqb, eq-eqb}
use Rattle.std.proofs.lemmas.List.{length-map, length_push}
use Rattle.std.specs.Prelude.{slice_get}
use Rattle.reader_copies.specs.{Made}
use Rattle.model.specs.{Access, Call, IsFollowed, Place, Reading, Run, Writing, access_at, access_of, bit_written, bits_with, ended, ended_with, enter, is_fresh, is_last, marks_of, next_read, next_written, place_after, place_of, read_of, reads_of, run_after, stage_at, value_of, width, write_moved, write_of}
use Rattle.safe_number.specs.{NumberWrite, bits_of_number, new_write, number_reads, number_writes}
use Rattle.safe_number.proofs.Numbers.{length_bits}
use Rattle.safe_number.proofs.Bits.{length-bits_of_number}
use Rattle.model.specs.Parts.{Part, Raises, Asks, TakesTicket, Lowers, Refuses, Waits, AsksCommit, AsksStamp, AsksImage, WritesImage, WritesStamp, WritesCommit, Clears, Over, is_read, is_over, read_at, written_at, doing, part_after, stage_of, first_marks, last_marks}
use Rattle.model.proofs.Cursors.{drop-map, drop-more, get-drop, length-drop, left_written, left_read, remaining-next, remaining-new, remaining-done, write-moves, Goes, Moved, read-begins, read-ends}
use Rattle.model.proofs.Follow.{Spot, moved_on, more_bits, spot_of, corresponds, not_over, next_access}
use Rattle.safe_bit.specs.{Move}
use Rattle.safe_bit.specs.declared.Move.TheVariants.{BeginWrite, EndWrite}
use Rattle.model.proofs.Marking.{spot_marks}
use Rattle.model.proofs.Width.{IsGood, width-pos}

-- a write of these bits has made this many accesses of its part
pub record WriteTie (n : ℕ) (bits : List Bool) (w : NumberWrite) (made : ℕ) : Type 0 where
  pub goes : Goes n bits w
  pub remaining : drop made (number_writes n bits) ≡ left_written n bits w
  pub fresh : (made == 0) ≡ is_fresh (Writing w)

-- a read that has read these bits has made this many accesses of its part
pub record ReadTie (reader width : ℕ) (bits : List Bool) (begun : Bool) (made : ℕ) : Type 0 where
  pub inside : length bits < width
  pub remaining : drop made (number_reads reader (replicate width false)) ≡ left_read reader width bits begun
  pub fresh : (made == 0) ≡ is_fresh (Reading bits begun)

-- a run and an index of a part
pub data Tie (c : Call) (part : Part) : Run → ℕ → List Bool → Type 0 where
  over : {run : Run} {made : ℕ} {bits : List Bool} → is_over part ≡ true → Tie c part run made bits
  writes : {w : NumberWrite} {made : ℕ} {bits : List Bool} → is_read part ≡ false → bits ≡ [] → WriteTie c.setup.processes (written_at c part).1 w made → Tie c part (Writing w) made bits
  reads : {bits : List Bool} {begun : Bool} {made : ℕ} → is_read part ≡ true → ReadTie c.process (width c.setup (read_at c part).1) bits begun made → Tie c part (Reading bits begun) made bits

-- a place and a spot
pub record Tied (c : Call) (at : Place) (spot : Spot) : Type 0 where
  pub part : spot.part ≡ at.part
  pub run : Tie c at.part at.run spot.made spot.bits

-- as many bits are written as the register has
pub written-width : (c : Call) (part : Part) → is_read part ≡ false → is_over part ≡ false → width c.setup (written_at c part).0 ≡ length (written_at c part).1
written-width c Raises r o = refl
written-width c (Asks j js ts) r o = cc
written-width c (TakesTicket t) r o = sym (length-bits_of_number c.setup.ticket_bits t)
written-width c (Lowers t) r o = refl
written-width c (Refuses f) r o = refl
written-width c (Waits t w ws) r o = cc
written-width c (AsksCommit k ks vs) r o = cc
written-width c (AsksStamp k ks vs b) r o = cc
written-width c (AsksImage vs) r o = cc
written-width c (WritesImage vs st) r o = image (Rattle.std.specs.Prelude.not (Rattle.model.specs.Program.version_of vs c.process))
  where
    image : (b : Bool) → width c.setup (Rattle.model.specs.Program.image_field b) ≡ length (Rattle.model.specs.Program.new_image c st)
    image true = sym (length_bits _ _)
    image false = sym (length_bits _ _)
written-width c (WritesStamp vs st) r o = stamp (Rattle.std.specs.Prelude.not (Rattle.model.specs.Program.version_of vs c.process))
  where
    stamp : (b : Bool) → width c.setup (Rattle.model.specs.Program.stamp_field b) ≡ length (bits_of_number c.setup.stamp_bits (Rattle.model.specs.Program.newest_stamp vs + 1))
    stamp true = sym (length-bits_of_number c.setup.stamp_bits (Rattle.model.specs.Program.newest_stamp vs + 1))
    stamp false = sym (length-bits_of_number c.setup.stamp_bits (Rattle.model.specs.Program.newest_stamp vs + 1))
written-width c (WritesCommit vs st) r o = refl
written-width c (Clears a) r o = sym (length-bits_of_number c.setup.ticket_bits 0)
written-width c Over r o = cc

-- a part of which nothing is made
pub enters : (c : Call) → IsGood c.setup → (part : Part) → Tied c (enter c part) (record { part = part; made = 0; bits = [] })
enters c g part = record { part = refl; run = go (is_over part) refl (is_read part) refl }
  where
    none : (k : ℕ) → k ≡ k - 0
    none k = omega arith

    go : (o : Bool) → is_over part ≡ o → (r : Bool) → is_read part ≡ r → Tie c part (cond r (Reading [] false) (Writing (new_write (width c.setup (written_at c part).0)))) 0 []
    go true o r h = over o
    go false o true h = reads h (record { inside = width-pos c.setup g (read_at c part).1; remaining = ap (λ k. number_reads c.process (replicate k false)) (none (width c.setup (read_at c part).1)); fresh = refl })
    go false o false h = writes h refl (record {
      goes = record { width = written-width c part h o; inside = width-pos c.setup g (written_at c part).0; going = omega (arith, g.processes_is) };
      remaining = sym (remaining-new c.setup.processes (written_at c part).1 (width c.setup (written_at c part).0) (written-width c part h o));
      fresh = refl;
    })

-- the facts of a tie: the next access, whether it is the last one, and the tie after it
pub record Facts (c : Call) (part : Part) (run : Run) (made : ℕ) (bits : List Bool) (v : Bool) : Type 0 where
  pub next : slice_get (doing c part) made ≡ Some (access_at c part run)
  pub last : (made + 1 == length (doing c part)) ≡ is_last c part run
  pub more : more_bits (ended v (access_at c part run).how) bits ≡ bits_with run v
  pub on : is_last c part run ≡ false → Tie c part (run_after c part run v) (made + 1) (bits_with run v)
  pub fresh : (made == 0) ≡ is_fresh run

-- the k-th of some accesses, by what is left of them
pub next-of : (f : ℕ × Made → Access) (xs ys : List (ℕ × Made)) (k : ℕ) (y : ℕ × Made) → drop k xs ≡ y ∷ ys → slice_get (map f xs) k ≡ Some (f y)
next-of f xs ys k y h = get-drop (map f xs) (map f ys) k (f y) (drop-map f xs k ∙ ap (map f) h)

-- whether the k-th of some accesses is the last one, by what is left of them
pub last-of : (f : ℕ × Made → Access) (xs ys : List (ℕ × Made)) (k : ℕ) (y : ℕ × Made) (b : Bool) → drop k xs ≡ y ∷ ys → (b ≡ true → ys ≡ []) → (b ≡ false → 0 < length ys) → (k + 1 == length (map f xs)) ≡ b
last-of f xs ys k y b h none some = go b none some
  where
    size : length (map f xs) ≡ k + suc (length ys)
    size = length-map xs f ∙ length-drop xs (y ∷ ys) k (omega arith) h

    go : (b : Bool) → (b ≡ true → ys ≡ []) → (b ≡ false → 0 < length ys) → (k + 1 == length (map f xs)) ≡ b
    go true none some = eq-eqb (k + 1) (length (map f xs)) (omega (arith, size, ap length (none refl)))
    go false none some = ne_eqb (k + 1) (length (map f xs)) (λ u. omega (arith, u, size, some refl))

-- the bits of a write are not read
pub write-more : (v : Bool) (w : Rattle.reader_copies.specs.Runs.Writing) (bits : List Bool) → more_bits (ended v (Rattle.reader_copies.specs.Runs.next_write w).how) bits ≡ bits
write-more v w bits = go (Prim.Native.Nat.◌%◌ w.made 2 == 0)
  where
    go : (b : Bool) → more_bits (ended v (cond b (Rattle.safe_bit.specs.declared.Move.TheVariants.BeginWrite w.value) Rattle.safe_bit.specs.declared.Move.TheVariants.EndWrite)) bits ≡ bits
    go true = refl
    go false = refl

pub facts-write : (c : Call) → IsGood c.setup → (part : Part) (w : NumberWrite) (made : ℕ) (bits : List Bool) (v : Bool) → is_read part ≡ false → bits ≡ [] →
    WriteTie c.setup.processes (written_at c part).1 w made → Facts c part (Writing w) made bits v
facts-write c g part w made bits v r empty t = record {
  next = ap (λ l. slice_get l made) is ∙ next-of f (number_writes n new) (left_written n new to) made (next_written new w) all;
  last = ap (λ l. made + 1 == length l) is ∙ last-of f (number_writes n new) (left_written n new to) made (next_written new w) (to.bit == w.width) all none some;
  more = write-more v (bit_written new w) bits ∙ empty;
  on = λ l. writes r refl (record { goes = goes l; remaining = drop-more (number_writes n new) (left_written n new to) made (next_written new w) all; fresh = ne_eqb (made + 1) 0 (λ u. omega (arith, u)) ∙ sym on.begun });
  fresh = t.fresh;
}
  where
    n : ℕ
    n = c.setup.processes

    new : List Bool
    new = (written_at c part).1

    f : ℕ × Made → Access
    f = access_of c.process (written_at c part).0

    to : NumberWrite
    to = write_moved n new w

    is : doing c part ≡ write_of c.setup c.process (written_at c part).0 new
    is = ap (λ b. cond b (read_of c.setup c.process (read_at c part).0 (read_at c part).1) (write_of c.setup c.process (written_at c part).0 new)) r

    all : drop made (number_writes n new) ≡ next_written new w ∷ left_written n new to
    all = t.remaining ∙ remaining-next n new w t.goes

    on : Moved n new to
    on = write-moves n new w (omega (arith, g.processes_is)) t.goes

    same : to.width ≡ w.width
    same = on.width ∙ sym t.goes.width

    goes : (to.bit == w.width) ≡ false → Goes n new to
    goes l = let apart : to.bit ≡ w.width → ⊥ = eqb-false to.bit w.width l in record { width = on.width; inside = omega (arith, on.inside, same, apart); going = on.going }

    none : (to.bit == w.width) ≡ true → left_written n new to ≡ []
    none l = remaining-done n new to (eqb-true to.bit w.width l ∙ sym same)

    some : (to.bit == w.width) ≡ false → 0 < length (left_written n new to)
    some l = omega (arith, ap length (remaining-next n new to (goes l)))

pub length-reads : (reader k m : ℕ) → length (Rattle.safe_number.specs.Accesses.reads_from reader k (replicate m false)) ≡ 2 * m
length-reads reader k zero = refl
length-reads reader k (suc m) = omega (arith, length-reads reader (k + 1) m)

pub facts-read : (c : Call) (part : Part) (bits : List Bool) (begun : Bool) (made : ℕ) (v : Bool) → is_read part ≡ true →
    ReadTie c.process (width c.setup (read_at c part).1) bits begun made → Facts c part (Reading bits begun) made bits v
facts-read c part bits begun made v r t = go begun t
  where
    size : ℕ
    size = width c.setup (read_at c part).1

    f : ℕ × Made → Access
    f = access_of (read_at c part).0 (read_at c part).1

    xs : List (ℕ × Made)
    xs = number_reads c.process (replicate size false)

    is : doing c part ≡ read_of c.setup c.process (read_at c part).0 (read_at c part).1
    is = ap (λ b. cond b (read_of c.setup c.process (read_at c part).0 (read_at c part).1) (write_of c.setup c.process (written_at c part).0 (written_at c part).1)) r

    go : (begun : Bool) → ReadTie c.process size bits begun made → Facts c part (Reading bits begun) made bits v
    go false t = record {
      next = ap (λ l. slice_get l made) is ∙ next-of f xs (left_read c.process size bits true) made (next_read c.process bits false) all;
      last = ap (λ l. made + 1 == length l) is ∙ last-of f xs (left_read c.process size bits true) made (next_read c.process bits false) false all (λ u. absurd (Rattle.std.proofs.Common.true≢false (sym u))) (λ u. omega arith);
      more = refl;
      on = λ l. reads r (record { inside = t.inside; remaining = drop-more xs (left_read c.process size bits true) made (next_read c.process bits false) all; fresh = ne_eqb (made + 1) 0 (λ u. omega (arith, u)) });
      fresh = t.fresh;
    }
      where
        all : drop made xs ≡ next_read c.process bits false ∷ left_read c.process size bits true
        all = t.remaining ∙ read-begins c.process size bits t.inside
    go true t = record {
      next = ap (λ l. slice_get l made) is ∙ next-of f xs (left_read c.process size (bits ++ v ∷ []) false) made (next_read c.process bits true) all;
      last = ap (λ l. made + 1 == length l) is ∙ last-of f xs (left_read c.process size (bits ++ v ∷ []) false) made (next_read c.process bits true) (length bits + 1 == size) all none some;
      more = refl;
      on = λ l. reads r (record {
        inside = inside l;
        remaining = drop-more xs (left_read c.process size (bits ++ v ∷ []) false) made (next_read c.process bits true) all;
        fresh = ne_eqb (made + 1) 0 (λ u. omega (arith, u)) ∙ sym (ne_eqb (length (bits ++ v ∷ [])) 0 (λ u. omega (arith, u, length_push bits v)));
      });
      fresh = t.fresh;
    }
      where
        all : drop made xs ≡ next_read c.process bits true ∷ left_read c.process size (bits ++ v ∷ []) false
        all = t.remaining ∙ read-ends c.process size bits v

        remaining : length (left_read c.process size (bits ++ v ∷ []) false) ≡ 2 * (size - length (bits ++ v ∷ []))
        remaining = length-reads c.process (length (bits ++ v ∷ [])) (size - length (bits ++ v ∷ []))

        inside : (length bits + 1 == size) ≡ false → length (bits ++ v ∷ []) < size
        inside l = let apart : length bits + 1 ≡ size → ⊥ = eqb-false (length bits + 1) size l in omega (arith, t.inside, length_push bits v, apart)

        none : (length bits + 1 == size) ≡ true → left_read c.process size (bits ++ v ∷ []) false ≡ []
        none l =
            let whole : length bits + 1 ≡ size = eqb-true (length bits + 1) size l in
            let nothing : size - length (bits ++ v ∷ []) ≡ 0 = omega (arith, length_push bits v) in
            ap (λ k. Rattle.safe_number.specs.Accesses.reads_from c.process (length (bits ++ v ∷ [])) (replicate k false)) nothing

        some : (length bits + 1 == size) ≡ false → 0 < length (left_read c.process size (bits ++ v ∷ []) false)
        some l = omega (arith, remaining, inside l)

pub facts : (c : Call) → IsGood c.setup → (part : Part) (run : Run) (made : ℕ) (bits : List Bool) (v : Bool) → is_over part ≡ false → Tie c part run made bits → Facts c part run made bits v
facts c g part run made bits v o (over h) = absurd (Rattle.std.proofs.Common.true≢false (sym h ∙ o))
facts c g part (Writing w) made bits v o (writes r e t) = facts-write c g part w made bits v r e t
facts c g part (Reading bits begun) made bits' v o (reads r t) = facts-read c part bits begun made v r t

-- a step of the machine is a step of the index
pub tied-step : (c : Call) → IsGood c.setup → (at : Place) (spot : Spot) (v : Bool) → is_over at.part ≡ false → Tied c at spot → Tied c (place_after c at v) (moved_on c spot (ended_with v (access_at c at.part at.run)))
tied-step c g at spot v o t = subst (λ s. Tied c (place_after c at v) s) (sym to) (go (is_last c at.part at.run) refl)
  where
    known : Facts c at.part at.run spot.made spot.bits v
    known = facts c g at.part at.run spot.made spot.bits v o t.run

    next : Bool → List Bool → Part → Spot
    next b bits part = cond b (record { part = part_after c part bits; made = 0; bits = [] }) (record { part = part; made = spot.made + 1; bits = bits })

    to : moved_on c spot (ended_with v (access_at c at.part at.run)) ≡ next (is_last c at.part at.run) (bits_with at.run v) at.part
    to = ap (λ part. next (spot.made + 1 == length (doing c part)) (more_bits (ended v (access_at c at.part at.run).how) spot.bits) part) t.part
        ∙ (λ i. next (known.last i) (known.more i) at.part)

    go : (b : Bool) → is_last c at.part at.run ≡ b → Tied c (cond b (enter c (part_after c at.part (bits_with at.run v))) (record { part = at.part; run = run_after c at.part at.run v })) (next b (bits_with at.run v) at.part)
    go true l = enters c g (part_after c at.part (bits_with at.run v))
    go false l = record { part = refl; run = known.on l }

-- the marks of a place are those of its index
pub tied-marks : (c : Call) → IsGood c.setup → (at : Place) (spot : Spot) (v : Bool) → is_over at.part ≡ false → Tied c at spot → spot_marks c spot (ended_with v (access_at c at.part at.run)) ≡ marks_of c at v
tied-marks c g at spot v o t =
    ap (λ part. marks (spot.made == 0) (spot.made + 1 == length (doing c part)) (more_bits (ended v (access_at c at.part at.run).how) spot.bits) part) t.part
    ∙ (λ i. marks (known.fresh i) (known.last i) (known.more i) at.part)
  where
    known : Facts c at.part at.run spot.made spot.bits v
    known = facts c g at.part at.run spot.made spot.bits v o t.run

    marks : Bool → Bool → List Bool → Part → List Rattle.model.specs.declared.marks.Mark.Mark
    marks fresh last bits part = cond fresh (first_marks part) [] ++ cond last (last_marks c part bits) []

-- the stage of a place is that of its index
pub tied-stage : (c : Call) → IsGood c.setup → (at : Place) (spot : Spot) → is_over at.part ≡ false → Tied c at spot → stage_of spot.part (spot.made == 0) ≡ stage_at at
tied-stage c g at spot o t = λ i. stage_of (t.part i) ((facts c g at.part at.run spot.made spot.bits false o t.run).fresh i)

-- the next access of a place is that of its index
pub tied-next : (c : Call) → IsGood c.setup → (at : Place) (spot : Spot) → is_over at.part ≡ false → Tied c at spot → slice_get (doing c spot.part) spot.made ≡ Some (access_at c at.part at.run)
tied-next c g at spot o t = ap (λ part. slice_get (doing c part) spot.made) t.part ∙ (facts c g at.part at.run spot.made spot.bits false o t.run).next

-- an end has the value that it was ended with
pub end-value : (v : Bool) (m : Move) → ended (value_of (ended v m)) m ≡ ended v m
end-value v (BeginWrite w) = refl
end-value v _ = refl

pub end-with : (v : Bool) (x : Access) → ended_with v x ≡ ended_with (value_of (ended v x.how)) x
end-with v x = λ i. record { owner = x.owner; field = x.field; bit = x.bit; reader = x.reader; how = sym (end-value v x.how) i }

-- the tie after a known access
pub tied-on : (c : Call) → IsGood c.setup → (at : Place) (spot : Spot) (v : Bool) (a : Access) → is_over at.part ≡ false → Tied c at spot → a ≡ ended_with v (access_at c at.part at.run) →
    Tied c (place_after c at (value_of a.how)) (moved_on c spot a)
tied-on c g at spot v a o t e = subst (λ b. Tied c (place_after c at (value_of b.how)) (moved_on c spot b)) (sym e)
    (subst (λ b. Tied c (place_after c at (value_of (ended v (access_at c at.part at.run).how))) (moved_on c spot b)) (sym (end-with v (access_at c at.part at.run)))
    (tied-step c g at spot (value_of (ended v (access_at c at.part at.run).how)) o t))

-- wherever a process has followed its script, its place and its index go together
pub follows-tied : (c : Call) → IsGood c.setup → (past : List Access) → IsFollowed c past → Tied c (place_of c past) (spot_of c past)
follows-tied c g [] f = enters c g Raises
follows-tied c g (a ∷ past) f =
    let n = f.1.0 in
    let st = corresponds c g past f.0 in
    let t = follows-tied c g past f.0 in
    let o : is_over (place_of c past).part ≡ false = ap is_over (sym t.part) ∙ not_over c (reads_of c past) (length past) (spot_of c past) n st f.1.2 in
    let e : Some n.access ≡ Some (access_at c (place_of c past).part (place_of c past).run) =
    sym (next_access c (reads_of c past) (length past) (spot_of c past) n st f.1.2) ∙ tied-next c g (place_of c past) (spot_of c past) o t in
    let is : n.access ≡ access_at c (place_of c past).part (place_of c past).run = cc in
    tied-on c g (place_of c past) (spot_of c past) f.1.1 a o t (f.1.3 ∙ ap (ended_with f.1.1) is)
