-- Laws of the single accesses of a number, and of the entries of a script.
use Rattle.std.specs.Prelude.{◌≡◌, refl, ℕ, zero, suc, ◌+◌, ◌*◌, ◌<◌, Bool, true, false, List, [], ◌∷◌, ◌++◌, length, map, replicate, slice_get, Option, None, Some}
use Rattle.std.proofs.Common.{sym, subst, ap, arith, zero-add, suc-add}
use Rattle.model.specs.{Access, Field, Mark, Next, access_of, single, write_of}
use Rattle.safe_bit.specs.{Move, is_of_write}
use Rattle.safe_bit.specs.declared.Move.TheVariants.{BeginWrite, EndWrite, BeginRead, EndRead, Settle}
use Rattle.plain_store.specs.{Setup}
use Rattle.safe_number.specs.{at_bit}
use Rattle.safe_number.specs.Accesses as number
use Rattle.reader_copies.specs.Runs as copies
use Rattle.reader_copies.specs.{IsWrite}

pub get-append : {X : Type 0} → (xs ys : List X) (k : ℕ) → slice_get (xs ++ ys) (length xs + k) ≡ slice_get ys k
get-append [] ys k = rw zero-add refl
get-append (x ∷ xs) ys k = rw suc-add (get-append xs ys k)

pub get-remaining : {X : Type 0} → (xs ys : List X) (k : ℕ) → k < length xs → slice_get (xs ++ ys) k ≡ slice_get xs k
get-remaining [] ys k h = absurd (omega arith)
get-remaining (x ∷ xs) ys zero h = refl
get-remaining (x ∷ xs) ys (suc k) h = get-remaining xs ys k (omega arith)

pub get-none : {X : Type 0} → (k : ℕ) → slice_get {X = X} [] k ≡ None
get-none zero = refl
get-none (suc k) = refl

pub length-single : (f l : List Mark) (xs : List Access) → length (single f l xs) ≡ length xs
length-single f l [] = refl
length-single f l (a ∷ []) = refl
length-single f l (a ∷ b ∷ rest) = ap suc (length-single [] l (b ∷ rest))

pub single-access : (f l : List Mark) (xs : List Access) (k : ℕ) (n : Next) → slice_get (single f l xs) k ≡ Some n → slice_get xs k ≡ Some n.access
single-access f l [] zero n h = cc
single-access f l [] (suc k) n h = cc
single-access f l (a ∷ []) zero n h = ap {A = Option Next} (elim [ None ↦ Some a | Some n ↦ Some n.access ]) h
single-access f l (a ∷ []) (suc zero) n h = cc
single-access f l (a ∷ []) (suc (suc k)) n h = cc
single-access f l (a ∷ b ∷ rest) zero n h = ap {A = Option Next} (elim [ None ↦ Some a | Some n ↦ Some n.access ]) h
single-access f l (a ∷ b ∷ rest) (suc k) n h = single-access [] l (b ∷ rest) k n h

-- the reading of n bits from bit k on
abbrev pub reads_from : ℕ → ℕ → Field → ℕ → ℕ → List Access
reads_from p owner field k n = map (access_of owner field) (number.reads_from p k (replicate n false))

pub length-reads_from : (p owner : ℕ) (field : Field) (k n : ℕ) → length (reads_from p owner field k n) ≡ 2 * n
length-reads_from p owner field k zero = refl
length-reads_from p owner field k (suc n) = rw (length-reads_from p owner field (k + 1) n) (omega arith)

pub data Half (k n i : ℕ) (x : Access) : Type 0 where
  begins : x.how ≡ BeginRead → suc i < 2 * n → Half k n i x
  ends : x.how ≡ EndRead false → 2 * x.bit + 1 ≡ 2 * k + i → Half k n i x

pub record IsReadAt (owner : ℕ) (field : Field) (k n i : ℕ) (x : Access) : Type 0 where
  pub of_field : x.field ≡ field
  pub half : Half k n i x

pub half_more : (k n i : ℕ) (x : Access) → Half (k + 1) n i x → Half k (suc n) (suc (suc i)) x
half_more k n i x (begins h l) = begins h (omega (arith, l))
half_more k n i x (ends h e) = ends h (omega (arith, e))

pub read-at : (p owner : ℕ) (field : Field) (k n i : ℕ) (x : Access) → slice_get (reads_from p owner field k n) i ≡ Some x → IsReadAt owner field k n i x
read-at p owner field k zero zero x h = cc
read-at p owner field k zero (suc i) x h = cc
read-at p owner field k (suc n) zero x h =
    let e : record { owner = owner; field = field; bit = k; reader = p; how = BeginRead } ≡ x = cc in
    record { of_field = rw (← e) refl; half = begins (rw (← e) refl) (omega arith) }
read-at p owner field k (suc n) (suc zero) x h =
    let e : record { owner = owner; field = field; bit = k; reader = p; how = EndRead false } ≡ x = cc in
    record { of_field = rw (← e) refl; half = ends (rw (← e) refl) (rw (← e) refl) }
read-at p owner field k (suc n) (suc (suc i)) x h =
    let r = read-at p owner field (k + 1) n i x h in
    record { of_field = r.of_field; half = half_more k n i x r.half }

pub is_of_write-true : (m : Move) → IsWrite m → is_of_write m ≡ true
is_of_write-true (BeginWrite v) h = refl
is_of_write-true EndWrite h = refl
is_of_write-true (Settle v) h = refl
is_of_write-true BeginRead h = absurd h
is_of_write-true (EndRead v) h = absurd h

abbrev pub AllWrites : List Access → Type 0
AllWrites [] = Unit {0}
AllWrites (a ∷ xs) = (is_of_write a.how ≡ true) × AllWrites xs

pub AllWrites-append : (xs bs : List Access) → AllWrites xs → AllWrites bs → AllWrites (xs ++ bs)
AllWrites-append [] bs h k = k
AllWrites-append (a ∷ xs) bs h k = (h.0, AllWrites-append xs bs h.1 k)

-- a function goes over two lists joined as over each
pub map-joined : {X Y : Type 0} → (f : X → Y) (xs ys : List X) → map f (xs ++ ys) ≡ map f xs ++ map f ys
map-joined f [] ys = refl
map-joined f (x ∷ xs) ys = ap (λ l. f x ∷ l) (map-joined f xs ys)

pub AllWrites-copies : (p : ℕ) (field : Field) (k r n : ℕ) (v : Bool) → AllWrites (map (access_of p field) (map (at_bit k) (copies.writes_from r n v)))
AllWrites-copies p field k r zero v = tt
AllWrites-copies p field k r (suc n) v = (refl, (refl, AllWrites-copies p field k (r + 1) n v))

pub AllWrites-bits : (n p : ℕ) (field : Field) (k : ℕ) (bits : List Bool) → AllWrites (map (access_of p field) (number.writes_from n k bits))
AllWrites-bits n p field k [] = tt
AllWrites-bits n p field k (b ∷ bits) =
    subst AllWrites (sym (map-joined (access_of p field) (map (at_bit k) (copies.bit_writes n b)) (number.writes_from n (k + 1) bits)))
    (AllWrites-append (map (access_of p field) (map (at_bit k) (copies.bit_writes n b))) (map (access_of p field) (number.writes_from n (k + 1) bits)) (AllWrites-copies p field k 0 n b) (AllWrites-bits n p field (k + 1) bits))

pub AllWrites-write_of : (s : Setup) (p : ℕ) (field : Field) (bits : List Bool) → AllWrites (write_of s p field bits)
AllWrites-write_of s p field bits = AllWrites-bits s.processes p field 0 bits

pub AllWrites-get : (xs : List Access) (i : ℕ) (x : Access) → AllWrites xs → slice_get xs i ≡ Some x → is_of_write x.how ≡ true
AllWrites-get [] zero x w h = cc
AllWrites-get [] (suc i) x w h = cc
AllWrites-get (a ∷ xs) zero x w h = let e : a ≡ x = cc in rw (← e) w.0
AllWrites-get (a ∷ xs) (suc i) x w h = AllWrites-get xs i x w.1 h

-- a write of at least one bit, to at least one reader, is at least one access
pub write_of-pos : (s : Setup) (p : ℕ) (field : Field) (b : Bool) (bits : List Bool) (n : ℕ) → s.processes ≡ suc n → 0 < length (write_of s p field (b ∷ bits))
write_of-pos s p field b bits n h = rw h (omega arith)
