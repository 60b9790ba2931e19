-- The place of a process follows from its own accesses: its next access is that of its script.
use Rattle.std.specs.Prelude.{◌≡◌, ◌⊎◌, refl, ℕ, suc, ◌+◌, ◌*◌, ◌<◌, ◌==◌, Bool, true, false, cond, List, [], ◌∷◌, ◌++◌, length, slice_get, None, Some, ◌≢◌}
use Rattle.std.proofs.Common.{sym, ◌∙◌, ap, true≢false, arith, append_assoc, append-nil, length-append, eqb-true, ne_eqb, eq-eqb, inl, inr}
use Rattle.std.proofs.lemmas.Bool.Decides.{eqb_tells}
use Rattle.model.specs.{Access, Call, Field, IsFollowed, Next, Numbers, Over, Part, Portion, Raises, ReadSoFar, Script, doing, ended, ended_with, first_marks, is_over, is_read, last_marks, local_program, part_after, read_at, read_of, reads_of, scripted, single, singles, width, with_access, with_move, write_of, written_at}
use Rattle.safe_bit.specs.{Move, is_of_write}
use Rattle.safe_bit.specs.declared.Move.TheVariants.{BeginWrite, EndWrite, BeginRead, EndRead, Settle}
use Rattle.model.proofs.Singles
use Rattle.model.proofs.Singles.{get-append, get-remaining, get-none, length-single, single-access, length-reads_from, Half, begins, ends, read-at, AllWrites-write_of, AllWrites-get}
use Rattle.model.proofs.Place.{portion, rest, rest-unread, rest-read, rest-write}
use Rattle.model.proofs.Width.{IsGood, doing-pos}

-- a part, how many of its accesses are made, and the bits read
pub record Spot : Type 0 where
  pub part : Part
  pub made : ℕ
  pub bits : List Bool

abbrev pub more_bits : Move → List Bool → List Bool
more_bits (EndRead v) bits = bits ++ v ∷ []
more_bits _ bits = bits

-- one access on: the part's last one leads to the next part
abbrev pub moved_on : Call → Spot → Access → Spot
moved_on c at a = cond (at.made + 1 == length (doing c at.part))
    (record { part = part_after c at.part (more_bits a.how at.bits); made = 0; bits = [] })
    (record { part = at.part; made = at.made + 1; bits = more_bits a.how at.bits })

abbrev pub start : Spot
start = record { part = Raises; made = 0; bits = [] }

-- the place after these accesses, the newest first
abbrev pub spot_of : Call → List Access → Spot
spot_of c [] = start
spot_of c (a ∷ past) = moved_on c (spot_of c past) a

-- the place is the position of the script, after the reads and this many accesses
pub record Corresponds (c : Call) (r : ReadSoFar) (len : ℕ) (at : Spot) : Type 0 where
  pub done : List Next
  pub count : length done + at.made ≡ len
  pub bits : r.bits ≡ at.bits
  pub script : (more : Numbers) → singles (local_program c (r.finished ++ more)) ≡ done ++ singles (rest c at.part more)
  pub within : is_over at.part ≡ false → at.made < length (doing c at.part)
  pub fresh : is_read at.part ≡ false → at.bits ≡ []

pub rest-over : (c : Call) (part : Part) (more : Numbers) → is_over part ≡ true → rest c part more ≡ []
rest-over c Over more o = refl
rest-over c _ more o = cc

pub read-not_over : (part : Part) → is_read part ≡ true → is_over part ≡ false
read-not_over Over h = sym h
read-not_over _ h = refl

-- an entry within the first portion of a script is its access
pub in_first : (q : Portion) (tail : Script) (k : ℕ) (n : Next) → k < length q.accesses → slice_get (singles (q ∷ tail)) k ≡ Some n → slice_get q.accesses k ≡ Some n.access
in_first q tail k n l h =
    single-access q.first q.last q.accesses k n
    (sym (get-remaining (single q.first q.last q.accesses) (singles tail) k (rw length-single l)) ∙ h)

pub next-in_rest : (c : Call) (r : ReadSoFar) (len : ℕ) (at : Spot) (n : Next) → Corresponds c r len at → scripted c r.finished len ≡ Some n → slice_get (singles (rest c at.part [])) at.made ≡ Some n
next-in_rest c r len at n st h =
    sym (get-append st.done (singles (rest c at.part [])) at.made)
    ∙ ap (λ i. slice_get (st.done ++ singles (rest c at.part [])) i) st.count
    ∙ ap (λ l. slice_get l len) (sym (st.script []))
    ∙ ap (λ f. slice_get (singles (local_program c f)) len) (append-nil r.finished)
    ∙ h

pub not_over : (c : Call) (r : ReadSoFar) (len : ℕ) (at : Spot) (n : Next) → Corresponds c r len at → scripted c r.finished len ≡ Some n → is_over at.part ≡ false
not_over c r len at n st h = go (is_over at.part) refl
  where
    go : (b : Bool) → is_over at.part ≡ b → is_over at.part ≡ false
    go false o = o
    go true o =
        let e : slice_get (singles []) at.made ≡ Some n = ap (λ s. slice_get (singles s) at.made) (sym (rest-over c at.part [] o)) ∙ next-in_rest c r len at n st h in
        let f : None ≡ Some n = sym (get-none at.made) ∙ e in cc

-- the next access is that of the place
pub next_access : (c : Call) (r : ReadSoFar) (len : ℕ) (at : Spot) (n : Next) → Corresponds c r len at → scripted c r.finished len ≡ Some n → slice_get (doing c at.part) at.made ≡ Some n.access
next_access c r len at n st h = go (is_read at.part) refl
  where
    within : at.made < length (doing c at.part)
    within = st.within (not_over c r len at n st h)

    go : (b : Bool) → is_read at.part ≡ b → slice_get (doing c at.part) at.made ≡ Some n.access
    go true e = in_first (record { accesses = doing c at.part; first = []; last = [] }) [] at.made n within
        (ap (λ s. slice_get (singles s) at.made) (sym (rest-unread c at.part e)) ∙ next-in_rest c r len at n st h)
    go false e = in_first (portion c at.part []) (rest c (part_after c at.part []) []) at.made n within
        (ap (λ s. slice_get (singles s) at.made) (sym (rest-write c at.part [] e (not_over c r len at n st h))) ∙ next-in_rest c r len at n st h)

-- within a part
pub stays : (c : Call) (r q : ReadSoFar) (len : ℕ) (at : Spot) (bits : List Bool) → Corresponds c r len at → q.finished ≡ r.finished → q.bits ≡ bits →
    (is_read at.part ≡ false → bits ≡ []) → at.made + 1 < length (doing c at.part) → Corresponds c q (suc len) (record { part = at.part; made = at.made + 1; bits = bits })
stays c r q len at bits st f b fresh l = record {
  done = st.done;
  count = omega (arith, st.count);
  bits = b;
  script = λ more. ap (λ f. singles (local_program c (f ++ more))) f ∙ st.script more;
  within = λ o. l;
  fresh = fresh;
}

-- the end of a part that writes
pub ends_write : (c : Call) → IsGood c.setup → (r : ReadSoFar) (len : ℕ) (at : Spot) → Corresponds c r len at → is_read at.part ≡ false → is_over at.part ≡ false →
    at.made + 1 ≡ length (doing c at.part) → Corresponds c r (suc len) (record { part = part_after c at.part []; made = 0; bits = [] })
ends_write c g r len at st w o l = record {
  done = st.done ++ mine;
  count = omega (arith, st.count, length-append st.done mine, length-single (first_marks at.part) (last_marks c at.part []) (doing c at.part));
  bits = st.bits ∙ st.fresh w;
  script = λ more. st.script more ∙ ap (λ s. st.done ++ singles s) (rest-write c at.part more w o) ∙ sym (append_assoc st.done mine (singles (rest c (part_after c at.part []) more)));
  within = doing-pos c g (part_after c at.part []);
  fresh = λ _. refl;
}
  where
    mine : List Next
    mine = single (first_marks at.part) (last_marks c at.part []) (doing c at.part)

-- the end of a part that reads
pub is_end_of_read : (c : Call) → IsGood c.setup → (r q : ReadSoFar) (len : ℕ) (at : Spot) (v : List Bool) → Corresponds c r len at → is_read at.part ≡ true →
    q.finished ≡ r.finished ++ v ∷ [] → q.bits ≡ [] → at.made + 1 ≡ length (doing c at.part) → Corresponds c q (suc len) (record { part = part_after c at.part v; made = 0; bits = [] })
is_end_of_read c g r q len at v st w f b l = record {
  done = st.done ++ mine;
  count = omega (arith, st.count, length-append st.done mine, length-single (first_marks at.part) (last_marks c at.part v) (doing c at.part));
  bits = b;
  script = λ more.
      ap (λ f. singles (local_program c (f ++ more))) f
      ∙ ap (λ f. singles (local_program c f)) (append_assoc r.finished (v ∷ []) more)
      ∙ st.script (v ∷ more)
      ∙ ap (λ s. st.done ++ singles s) (rest-read c at.part v more w)
      ∙ sym (append_assoc st.done mine (singles (rest c (part_after c at.part v) more)));
  within = doing-pos c g (part_after c at.part v);
  fresh = λ _. refl;
}
  where
    mine : List Next
    mine = single (first_marks at.part) (last_marks c at.part v) (doing c at.part)

pub write-adds_nothing : (w k : ℕ) (v : Bool) (m : Move) (r : ReadSoFar) → is_of_write m ≡ true → with_move w k (ended v m) r ≡ r
write-adds_nothing w k v (BeginWrite b) r h = refl
write-adds_nothing w k v EndWrite r h = refl
write-adds_nothing w k v (Settle b) r h = refl
write-adds_nothing w k v BeginRead r h = cc
write-adds_nothing w k v (EndRead b) r h = cc

pub write-no_bits : (v : Bool) (m : Move) (bits : List Bool) → is_of_write m ≡ true → more_bits (ended v m) bits ≡ bits
write-no_bits v (BeginWrite b) bits h = refl
write-no_bits v EndWrite bits h = refl
write-no_bits v (Settle b) bits h = refl
write-no_bits v BeginRead bits h = cc
write-no_bits v (EndRead b) bits h = cc

pub step_write : (c : Call) → IsGood c.setup → (r : ReadSoFar) (len : ℕ) (at : Spot) (x : Access) (v : Bool) → Corresponds c r len at → is_read at.part ≡ false → is_over at.part ≡ false →
    slice_get (doing c at.part) at.made ≡ Some x → Corresponds c (with_access c.setup (Some (ended_with v x)) r) (suc len) (moved_on c at (ended_with v x))
step_write c g r len at x v st w o h =
    rw (write-adds_nothing (width c.setup x.field) x.bit v x.how r is, write-no_bits v x.how at.bits is, st.fresh w) (go (at.made + 1 == length (doing c at.part)) refl)
  where
    is : is_of_write x.how ≡ true
    is = AllWrites-get (write_of c.setup c.process (written_at c at.part).0 (written_at c at.part).1) at.made x
        (AllWrites-write_of c.setup c.process (written_at c at.part).0 (written_at c at.part).1)
        (ap (λ b. slice_get (cond b (read_of c.setup c.process (read_at c at.part).0 (read_at c at.part).1) (write_of c.setup c.process (written_at c at.part).0 (written_at c at.part).1)) at.made) (sym w) ∙ h)

    go : (b : Bool) → (at.made + 1 == length (doing c at.part)) ≡ b →
        Corresponds c r (suc len) (cond b (record { part = part_after c at.part []; made = 0; bits = [] }) (record { part = at.part; made = at.made + 1; bits = [] }))
    go true e = ends_write c g r len at st w o (eqb-true _ _ e)
    go false e = stays c r r len at [] st refl (st.bits ∙ st.fresh w) (λ _. refl) (less e)
      where
        less : (at.made + 1 == length (doing c at.part)) ≡ false → at.made + 1 < length (doing c at.part)
        less e = grind (arith, e, ne_eqb, eq-eqb, st.within o)

-- the tests of the two ends are the same: the number's last bit, and the part's last access
pub same_end : (b w m l : ℕ) → 2 * b + 1 ≡ 2 * 0 + m → l ≡ 2 * w → (m + 1 == l) ≡ (b + 1 == w)
same_end b w m l e f = go (eqb_tells (b + 1) w)
  where
    go : ((b + 1 == w) ≡ true) × (b + 1 ≡ w) ⊎ ((b + 1 == w) ≡ false) × (b + 1 ≢ w) → (m + 1 == l) ≡ (b + 1 == w)
    go (inl h) = eq-eqb (m + 1) l (omega (arith, h.1)) ∙ sym h.0
    go (inr h) = ne_eqb (m + 1) l (λ k. h.1 (omega (arith, k))) ∙ sym h.0

pub step_read : (c : Call) → IsGood c.setup → (r : ReadSoFar) (len : ℕ) (at : Spot) (x : Access) (v : Bool) → Corresponds c r len at → is_read at.part ≡ true →
    slice_get (doing c at.part) at.made ≡ Some x → Corresponds c (with_access c.setup (Some (ended_with v x)) r) (suc len) (moved_on c at (ended_with v x))
step_read c g r len at x v st w h = go which.half
  where
    owner : ℕ
    owner = (read_at c at.part).0

    field : Field
    field = (read_at c at.part).1

    is_reading : doing c at.part ≡ read_of c.setup c.process owner field
    is_reading = ap (λ b. cond b (read_of c.setup c.process owner field) (write_of c.setup c.process (written_at c at.part).0 (written_at c at.part).1)) w

    which : Singles.IsReadAt owner field 0 (width c.setup field) at.made x
    which = read-at c.process owner field 0 (width c.setup field) at.made x (ap (λ l. slice_get l at.made) (sym is_reading) ∙ h)

    size : length (doing c at.part) ≡ 2 * width c.setup field
    size = ap length is_reading ∙ length-reads_from c.process owner field 0 (width c.setup field)

    go : Half 0 (width c.setup field) at.made x → Corresponds c (with_move (width c.setup x.field) x.bit (ended v x.how) r) (suc len) (moved_on c at (ended_with v x))
    go (begins e l) =
        let f : (at.made + 1 == length (doing c at.part)) ≡ false = ne_eqb _ _ (λ k. omega (arith, k, l, size)) in
        rw (e, f) (stays c r r len at at.bits st refl st.bits (λ u. absurd (true≢false (sym w ∙ u))) (omega (arith, l, size)))
    go (ends e k) = rw (e, same_end x.bit (width c.setup field) at.made (length (doing c at.part)) k size, which.of_field)
        (last (x.bit + 1 == width c.setup field) refl)
      where
        last : (b : Bool) → (x.bit + 1 == width c.setup field) ≡ b →
            Corresponds c (cond b (record { finished = r.finished ++ (r.bits ++ v ∷ []) ∷ []; bits = [] }) (record { finished = r.finished; bits = r.bits ++ v ∷ [] })) (suc len)
            (cond b (record { part = part_after c at.part (at.bits ++ v ∷ []); made = 0; bits = [] }) (record { part = at.part; made = at.made + 1; bits = at.bits ++ v ∷ [] }))
        last true t = is_end_of_read c g r (record { finished = r.finished ++ (r.bits ++ v ∷ []) ∷ []; bits = [] }) len at (at.bits ++ v ∷ []) st w
            (ap (λ bs. r.finished ++ (bs ++ v ∷ []) ∷ []) st.bits) refl (omega (arith, size, k, eqb-true (x.bit + 1) (width c.setup field) t))
        last false t = stays c r (record { finished = r.finished; bits = r.bits ++ v ∷ [] }) len at (at.bits ++ v ∷ []) st refl
            (ap (λ bs. bs ++ v ∷ []) st.bits) (λ u. absurd (true≢false (sym w ∙ u))) within
          where
            within : at.made + 1 < length (doing c at.part)
            within = grind (arith, size, k, t, eq-eqb, st.within (read-not_over at.part w))

pub step : (c : Call) → IsGood c.setup → (r : ReadSoFar) (len : ℕ) (at : Spot) (n : Next) (v : Bool) → Corresponds c r len at → scripted c r.finished len ≡ Some n →
    Corresponds c (with_access c.setup (Some (ended_with v n.access)) r) (suc len) (moved_on c at (ended_with v n.access))
step c g r len at n v st h = go (is_read at.part) refl
  where
    go : (b : Bool) → is_read at.part ≡ b → Corresponds c (with_access c.setup (Some (ended_with v n.access)) r) (suc len) (moved_on c at (ended_with v n.access))
    go true w = step_read c g r len at n.access v st w (next_access c r len at n st h)
    go false w = step_write c g r len at n.access v st w (not_over c r len at n st h) (next_access c r len at n st h)

-- if a process has followed its script, its place is the position of the script
pub corresponds : (c : Call) → IsGood c.setup → (past : List Access) → IsFollowed c past → Corresponds c (reads_of c past) (length past) (spot_of c past)
corresponds c g [] f = record { done = []; count = refl; bits = refl; script = λ more. refl; within = doing-pos c g Raises; fresh = λ _. refl }
corresponds c g (a ∷ past) f = rw (f.1.3) (step c g (reads_of c past) (length past) (spot_of c past) f.1.0 f.1.1 (corresponds c g past f.0) f.1.2)

-- so the next access of the script is that of the place
pub next_is : (c : Call) → IsGood c.setup → (past : List Access) → IsFollowed c past → (n : Next) → scripted c (reads_of c past).finished (length past) ≡ Some n →
    slice_get (doing c (spot_of c past).part) (spot_of c past).made ≡ Some n.access
next_is c g past f n h = next_access c (reads_of c past) (length past) (spot_of c past) n (corresponds c g past f) h
