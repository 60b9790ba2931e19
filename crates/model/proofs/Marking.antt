-- The marks that a script has at a place are those of the place.
use Rattle.std.specs.Prelude.{◌≡◌, ◌⊎◌, refl, ℕ, zero, suc, ◌+◌, ◌*◌, ◌<◌, ◌==◌, Bool, true, false, cond, List, [], ◌∷◌, ◌++◌, length, slice_get, Some, ◌≢◌}
use Rattle.std.proofs.Common.{sym, ◌∙◌, ap, arith, append-nil, ne_eqb, eq-eqb, inl, inr}
use Rattle.model.specs.{Access, Call, Clears, Field, Mark, Next, Numbers, Part, Portion, ReadSoFar, Script, doing, ended, ended_with, first_marks, is_over, is_read, last_marks, part_after, read_at, read_of, scripted, single, singles, width, with_access, with_move, write_of, written_at}
use Rattle.model.proofs.Singles
use Rattle.model.proofs.Singles.{get-append, get-remaining, length-single, length-reads_from, Half, begins, ends, read-at, AllWrites-write_of, AllWrites-get}
use Rattle.model.proofs.Place.{portion, rest, rest-unread, rest-read, rest-write}
use Rattle.model.proofs.Follow.{Spot, more_bits, Corresponds, next_access, not_over, same_end, write-adds_nothing, write-no_bits}
use Rattle.safe_bit.specs.{is_of_write}

-- first on the first access, last on the last one
abbrev pub marks_on : List Mark → List Mark → ℕ → ℕ → List Mark
marks_on first last size k = cond (k == 0) first [] ++ cond (k + 1 == size) last []

pub single-marks : (f l : List Mark) (xs : List Access) (k : ℕ) (n : Next) → slice_get (single f l xs) k ≡ Some n → n.marks ≡ marks_on f l (length xs) k
single-marks f l [] zero n h = cc
single-marks f l [] (suc k) n h = cc
single-marks f l (a ∷ []) zero n h = let e : record { access = a; marks = f ++ l } ≡ n = cc in rw (← e) refl
single-marks f l (a ∷ []) (suc zero) n h = cc
single-marks f l (a ∷ []) (suc (suc k)) n h = cc
single-marks f l (a ∷ b ∷ tail) zero n h =
    let e : record { access = a; marks = f } ≡ n = cc in
    rw (← e, ne_eqb 1 (suc (suc (length tail))) (λ u. omega (arith, u))) (sym (append-nil f))
single-marks f l (a ∷ b ∷ tail) (suc k) n h =
    single-marks [] l (b ∷ tail) k n h ∙ rw (same (k + 1) (suc (length tail)) (suc k + 1) (suc (suc (length tail))) (omega arith) refl, none (k == 0), ne_eqb (suc k) 0 (λ u. omega (arith, u))) refl
  where
    same : (i j i' j' : ℕ) → i' ≡ suc i → j' ≡ suc j → (i == j) ≡ (i' == j')
    same i j i' j' e f = go (Rattle.std.proofs.lemmas.Bool.Decides.eqb_tells i j)
      where
        go : ((i == j) ≡ true) × (i ≡ j) ⊎ ((i == j) ≡ false) × (i ≢ j) → (i == j) ≡ (i' == j')
        go (inl h) = h.0 ∙ sym (eq-eqb i' j' (omega (arith, h.1, e, f)))
        go (inr h) = h.0 ∙ sym (ne_eqb i' j' (λ u. h.1 (omega (arith, u, e, f))))

    none : (b : Bool) → cond {A = List Mark} b [] [] ≡ []
    none true = refl
    none false = refl

pub marks_in_first : (q : Portion) (tail : Script) (k : ℕ) (n : Next) → k < length q.accesses → slice_get (singles (q ∷ tail)) k ≡ Some n → n.marks ≡ marks_on q.first q.last (length q.accesses) k
marks_in_first q tail k n l h =
    single-marks q.first q.last q.accesses k n
    (sym (get-remaining (single q.first q.last q.accesses) (singles tail) k (rw length-single l)) ∙ h)

pub in_rest : (c : Call) (r : ReadSoFar) (len : ℕ) (at : Spot) (n : Next) (more : Numbers) → Corresponds c r len at → scripted c (r.finished ++ more) len ≡ Some n → slice_get (singles (rest c at.part more)) at.made ≡ Some n
in_rest c r len at n more st h =
    sym (get-append st.done (singles (rest c at.part more)) at.made)
    ∙ ap (λ i. slice_get (st.done ++ singles (rest c at.part more)) i) st.count
    ∙ ap (λ l. slice_get l len) (sym (st.script more))
    ∙ h

-- the marks of the access a, made at this place
abbrev pub spot_marks : Call → Spot → Access → List Mark
spot_marks c at a = marks_on (first_marks at.part) (last_marks c at.part (more_bits a.how at.bits)) (length (doing c at.part)) at.made

pub no_first_marks : (part : Part) → is_read part ≡ true → first_marks part ≡ []
no_first_marks (Clears a) h = cc
no_first_marks _ h = refl

pub marks_write : (c : Call) (r : ReadSoFar) (len : ℕ) (at : Spot) (n m : Next) (v : Bool) → Corresponds c r len at → is_read at.part ≡ false → scripted c r.finished len ≡ Some n →
    scripted c (with_access c.setup (Some (ended_with v n.access)) r).finished len ≡ Some m → m.marks ≡ spot_marks c at (ended_with v n.access)
marks_write c r len at n m v st w h k =
    rw (write-no_bits v n.access.how at.bits is, st.fresh w)
    (marks_in_first (portion c at.part []) (rest c (part_after c at.part []) []) at.made m (st.within o)
    (ap (λ s. slice_get (singles s) at.made) (sym (rest-write c at.part [] w o)) ∙ in_rest c r len at m [] st e))
  where
    o : is_over at.part ≡ false
    o = not_over c r len at n st h

    is : is_of_write n.access.how ≡ true
    is = AllWrites-get (write_of c.setup c.process (written_at c at.part).0 (written_at c at.part).1) at.made n.access
        (AllWrites-write_of c.setup c.process (written_at c at.part).0 (written_at c at.part).1)
        (ap (λ b. slice_get (cond b (read_of c.setup c.process (read_at c at.part).0 (read_at c at.part).1) (write_of c.setup c.process (written_at c at.part).0 (written_at c at.part).1)) at.made) (sym w) ∙ next_access c r len at n st h)

    e : scripted c (r.finished ++ []) len ≡ Some m
    e = ap (λ f. scripted c f len) (append-nil r.finished ∙ ap (λ (q : ReadSoFar). q.finished) (sym (write-adds_nothing (width c.setup n.access.field) n.access.bit v n.access.how r is))) ∙ k

pub marks_read : (c : Call) (r : ReadSoFar) (len : ℕ) (at : Spot) (n m : Next) (v : Bool) → Corresponds c r len at → is_read at.part ≡ true → scripted c r.finished len ≡ Some n →
    scripted c (with_access c.setup (Some (ended_with v n.access)) r).finished len ≡ Some m → m.marks ≡ spot_marks c at (ended_with v n.access)
marks_read c r len at n m v st w h k = go which.half k
  where
    owner : ℕ
    owner = (read_at c at.part).0

    field : Field
    field = (read_at c at.part).1

    is_reading : doing c at.part ≡ read_of c.setup c.process owner field
    is_reading = ap (λ b. cond b (read_of c.setup c.process owner field) (write_of c.setup c.process (written_at c at.part).0 (written_at c at.part).1)) w

    which : Singles.IsReadAt owner field 0 (width c.setup field) at.made n.access
    which = read-at c.process owner field 0 (width c.setup field) at.made n.access (ap (λ l. slice_get l at.made) (sym is_reading) ∙ next_access c r len at n st h)

    size : length (doing c at.part) ≡ 2 * width c.setup field
    size = ap length is_reading ∙ length-reads_from c.process owner field 0 (width c.setup field)

    within : at.made < length (doing c at.part)
    within = st.within (not_over c r len at n st h)

    -- before the last access the script ends with this read
    unread : scripted c r.finished len ≡ Some m → (last : List Mark) → (at.made + 1 == length (doing c at.part)) ≡ false → m.marks ≡ marks_on (first_marks at.part) last (length (doing c at.part)) at.made
    unread k last f =
        marks_in_first (record { accesses = doing c at.part; first = []; last = [] }) [] at.made m within
        (ap (λ s. slice_get (singles s) at.made) (sym (rest-unread c at.part w)) ∙ in_rest c r len at m [] st (ap (λ q. scripted c q len) (append-nil r.finished) ∙ k))
        ∙ rw (f, no_first_marks at.part w) refl

    go : Half 0 (width c.setup field) at.made n.access → scripted c (with_move (width c.setup n.access.field) n.access.bit (ended v n.access.how) r).finished len ≡ Some m →
        m.marks ≡ spot_marks c at (ended_with v n.access)
    go (begins e l) k = unread (rw e at k) (last_marks c at.part (more_bits (ended v n.access.how) at.bits)) (ne_eqb _ _ (λ u. omega (arith, u, l, size)))
    go (ends e b) k = rw e (last (n.access.bit + 1 == width c.setup field) refl (rw (e, which.of_field) at k))
      where
        last : (t : Bool) → (n.access.bit + 1 == width c.setup field) ≡ t →
            scripted c (cond {A = ReadSoFar} (n.access.bit + 1 == width c.setup field) (record { finished = r.finished ++ (r.bits ++ v ∷ []) ∷ []; bits = [] }) (record { finished = r.finished; bits = r.bits ++ v ∷ [] })).finished len ≡ Some m →
            m.marks ≡ marks_on (first_marks at.part) (last_marks c at.part (at.bits ++ v ∷ [])) (length (doing c at.part)) at.made
        last true t k =
            marks_in_first (portion c at.part (at.bits ++ v ∷ [])) (rest c (part_after c at.part (at.bits ++ v ∷ [])) []) at.made m within
            (ap (λ s. slice_get (singles s) at.made) (sym (rest-read c at.part (at.bits ++ v ∷ []) [] w))
            ∙ in_rest c r len at m ((at.bits ++ v ∷ []) ∷ []) st (ap (λ bs. scripted c (r.finished ++ (bs ++ v ∷ []) ∷ []) len) (sym st.bits) ∙ (rw t at k)))
        last false t k = unread (rw t at k) (last_marks c at.part (at.bits ++ v ∷ [])) (same_end n.access.bit (width c.setup field) at.made (length (doing c at.part)) b size ∙ t)

pub marks_are : (c : Call) (r : ReadSoFar) (len : ℕ) (at : Spot) (n m : Next) (v : Bool) → Corresponds c r len at → scripted c r.finished len ≡ Some n →
    scripted c (with_access c.setup (Some (ended_with v n.access)) r).finished len ≡ Some m → m.marks ≡ spot_marks c at (ended_with v n.access)
marks_are c r len at n m v st h k = go (is_read at.part) refl
  where
    go : (b : Bool) → is_read at.part ≡ b → m.marks ≡ spot_marks c at (ended_with v n.access)
    go true w = marks_read c r len at n m v st w h k
    go false w = marks_write c r len at n m v st w h k
