-- The open access of a process, as any lock's look-back finds it, is the begin of its next access, if that is an end; otherwise no access is open.
use Rattle.std.proofs.Common.{◌≡◌, ◌≢◌, ℕ, ◌+◌, ◌*◌, ◌/◌, ◌%◌, ◌<◌, ◌==◌, ◌&&◌, Bool, true, false, cond, List, Option, Some, None, refl, sym, ap, arith, true≢false, eqb-true, eq-eqb, ne_eqb}
use Rattle.std.proofs.lemmas.Bool.{eqb-false}
use Rattle.model.specs.reader_copies.Runs as copies
use Rattle.model.specs.safe_bit.{Move, is_end}
use Rattle.model.specs.safe_bit.declared.Move.TheVariants.{BeginWrite, EndWrite}
use Rattle.model.specs.safe_number.{NumberWrite, write_on}
use Rattle.model.specs.{Access, Field, access_of, bit_written, ended_with, field_number, next_written, same_bit, write_moved}
use Rattle.any_lock.specs.{BegunAccess, begun_by, is_end_of}

-- the open access fits the next one
abbrev pub Fits : Option BegunAccess → Access → Type 0
Fits o a = elim (is_end a.how) as (λ _. Type 0) [ true ↦ is_end_of o a ≡ true | false ↦ o ≡ None ]

-- the open access fits the next one, if there is one; otherwise no access is open
abbrev pub FitsNext : Option BegunAccess → Option Access → Type 0
FitsNext o None = o ≡ None
FitsNext o (Some a) = Fits o a

-- the access that is open after the access of entry n
abbrev pub open_by : ℕ → Access → Option BegunAccess
open_by n x = begun_by n (Some x) None

-- Accesses of one bit.

alike : (k : ℕ) → (k == k) ≡ true
alike k = eq-eqb k k refl

pub same_copy : (p : ℕ) (f : Field) (k r q : ℕ) (how then : Move) → r ≡ q →
    same_bit (record { owner = p; field = f; bit = k; reader = r; how = how }) (record { owner = p; field = f; bit = k; reader = q; how = then }) ≡ true
same_copy p f k r q how then h = λ i. alike k i && eq-eqb r q h i && alike p i && alike (field_number f) i

-- Open writes.

-- the state after an access of a write: within the write the open access fits the next one, and after it no access is open
pub record LeadsOn (p : ℕ) (f : Field) (bits : List Bool) (o : Option BegunAccess) (width : ℕ) (to : NumberWrite) : Type 0 where
  pub going : (to.bit == width) ≡ false → Fits o (access_of p f (next_written bits to))
  pub done : (to.bit == width) ≡ true → o ≡ None

half : (made : ℕ) → made % 2 ≡ 0 → made / 2 ≡ (made + 1) / 2
half made even = omega (arith, even)

pub write_leads : (n p : ℕ) (f : Field) (bits : List Bool) (w : NumberWrite) (entry : ℕ) (v : Bool) → w.bit < w.width →
    LeadsOn p f bits (open_by entry (ended_with v (access_of p f (next_written bits w)))) w.width (write_moved n bits w)
write_leads n p f bits w entry v within = go (made % 2 == 0) refl (made + 1 == 2 * n) refl
  where
    made : ℕ
    made = (bit_written bits w).made

    value : Bool
    value = (bit_written bits w).value

    -- the access, by whether it begins
    at : Bool → Access
    at q = ended_with v (access_of p f (w.bit, record { reader = made / 2; how = cond q (BeginWrite value) EndWrite }))

    -- the next one of the same bit
    then : Bool → Access
    then q = access_of p f (w.bit, record { reader = (made + 1) / 2; how = cond q (BeginWrite value) EndWrite })

    to : Bool → NumberWrite
    to b = write_on w (let r : copies.Writing = record { value = value; made = made + 1; ended = b } in r)

    begun : made % 2 ≡ 0 → (q : Bool) → q ≡ false → Fits (open_by entry (at true)) (then q)
    begun even true h = absurd (true≢false h)
    begun even false h = ap (λ b. b && true) (same_copy p f w.bit (made / 2) ((made + 1) / 2) (BeginWrite value) EndWrite (half made even))

    ended : (q : Bool) → q ≡ true → Fits (open_by entry (at false)) (then q)
    ended true h = refl
    ended false h = absurd (true≢false (sym h))

    odd : made % 2 ≡ 0 → ((made + 1) % 2 == 0) ≡ false
    odd even = ne_eqb ((made + 1) % 2) 0 (λ h. omega (arith, h, even))

    even_next : made % 2 ≢ 0 → ((made + 1) % 2 == 0) ≡ true
    even_next odd = eq-eqb ((made + 1) % 2) 0 (omega (arith, odd))

    go : (q : Bool) → (made % 2 == 0) ≡ q → (b : Bool) → (made + 1 == 2 * n) ≡ b → LeadsOn p f bits (open_by entry (at q)) w.width (to b)
    go true h true k = let even : made % 2 ≡ 0 = eqb-true (made % 2) 0 h in let all : made + 1 ≡ 2 * n = eqb-true (made + 1) (2 * n) k in absurd (omega (arith, even, all))
    go true h false k =
        let even : made % 2 ≡ 0 = eqb-true (made % 2) 0 h in
        record { going = λ _. begun even ((made + 1) % 2 == 0) (odd even); done = λ last. let all : w.bit ≡ w.width = eqb-true w.bit w.width last in absurd (omega (arith, within, all)) }
    go false h true k = record { going = λ _. refl; done = λ _. refl }
    go false h false k = record { going = λ _. ended ((made + 1) % 2 == 0) (even_next (eqb-false (made % 2) 0 h)); done = λ _. refl }
