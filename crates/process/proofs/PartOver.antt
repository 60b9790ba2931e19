-- A part whose register access is over, and the cursor with which the next part begins.
use Rattle.std.proofs.Common.{◌≡◌, ℕ, zero, suc, ◌*◌, ◌/◌, ◌%◌, ◌≤◌, ◌==◌, Bool, true, false, cond, not, List, [], ◌∷◌, ◌++◌, get_or, replicate, refl, sym, ap, ◌∙◌, arith}
use Rattle.model.specs.{Call, Field, image_bytes, image_field, version_of, width}
use Rattle.model.specs.Parts.{Part, Raises, Asks, TakesTicket, Lowers, Refuses, Waits, AsksCommit, AsksStamp, AsksImage, WritesImage, WritesStamp, WritesCommit, Clears, Over, is_read, last_marks, part_after, read_at, written_at}
use Rattle.plain_store.specs.{Setup}
use Rattle.std.specs.Int.{bit_at}
use Rattle.model.specs.safe_number.{bit_in, bits_in, number_of_bits}
use Rattle.model.proofs.safe_number.Numbers.{range_same}
use Rattle.registers.specs.{CursorState, IsDone, entered, reading, writing}
use Rattle.registers.specs.declared.cursor.RegisterAccessKind.TheVariants.{Reads, Writes}
use Rattle.registers.proofs.CursorRuns.{same-after, same-marks}
use Rattle.process.specs.{IsOutcome, writes_image}

-- the bits that a part has read; no bits if it writes
abbrev pub bits_read : Part → CursorState → List Bool
bits_read part cur = cond (is_read part) cur.bits []

pub outcome-of : (c : Call) (part : Part) (cur : CursorState) (number : ℕ) → IsDone c part cur → (cur.run ≡ Reads → number ≡ number_of_bits cur.bits) → (cur.run ≡ Writes → number ≡ 0) → IsOutcome c part (bits_read part cur) number
outcome-of c part cur number done reads writes = by (is_read part) refl
  where
    by : (b : Bool) → is_read part ≡ b → IsOutcome c part (cond b cur.bits []) number
    by true is = let d = done.reads is in record { makes = sym (reads d.0); whole = λ _. d.2 ∙ d.1 }
    by false is = record { makes = sym (writes (done.writes is)); whole = λ other. absurd (cc) }

pub after-same : (c : Call) (part : Part) (cur : CursorState) → part_after c part (bits_read part cur) ≡ part_after c part cur.bits
after-same c part cur = by (is_read part) refl
  where
    by : (b : Bool) → is_read part ≡ b → part_after c part (cond b cur.bits []) ≡ part_after c part cur.bits
    by true is = refl
    by false is = same-after c part [] cur.bits is

pub marks-same : (c : Call) (part : Part) (cur : CursorState) → last_marks c part (bits_read part cur) ≡ last_marks c part cur.bits
marks-same c part cur = by (is_read part) refl
  where
    by : (b : Bool) → is_read part ≡ b → last_marks c part (cond b cur.bits []) ≡ last_marks c part cur.bits
    by true is = refl
    by false is = same-marks c part [] cur.bits is

-- the cursor of a read has at most 32 bits, if the register of its part has
pub narrow-read : (c : Call) (part : Part) (cur : CursorState) → IsDone c part cur → (is_read part ≡ true → width c.setup (read_at c part).1 ≤ 32) → cur.run ≡ Reads → cur.width ≤ 32
narrow-read c part cur done narrow run = by (is_read part) refl
  where
    by : (b : Bool) → is_read part ≡ b → cur.width ≤ 32
    by true is = omega (arith, (done.reads is).1, narrow is)
    by false is = absurd (let other : cur.run ≡ Writes = done.writes is in cc)

-- the image
pub width-image : (s : Setup) (b : Bool) → width s (image_field b) ≡ 8 * image_bytes s
width-image s true = refl
width-image s false = refl

pub image-written : (c : Call) (part : Part) → writes_image part ≡ true → (is_read part ≡ false) × (width c.setup (written_at c part).0 ≡ 8 * image_bytes c.setup)
image-written c Raises writes = absurd (cc)
image-written c (Asks j js ts) writes = absurd (cc)
image-written c (TakesTicket t) writes = absurd (cc)
image-written c (Lowers t) writes = absurd (cc)
image-written c (Refuses full) writes = absurd (cc)
image-written c (Waits t w ws) writes = absurd (cc)
image-written c (AsksCommit k ks vs) writes = absurd (cc)
image-written c (AsksStamp k ks vs b) writes = absurd (cc)
image-written c (AsksImage vs) writes = absurd (cc)
image-written c (WritesImage vs st) writes = (refl, width-image c.setup (not (version_of vs c.process)))
image-written c (WritesStamp vs st) writes = absurd (cc)
image-written c (WritesCommit vs st) writes = absurd (cc)
image-written c (Clears a) writes = absurd (cc)
image-written c Over writes = absurd (cc)

-- the cursor of the next part
pub entered-read : (c : Call) (part : Part) (owner : ℕ) (field : Field) → is_read part ≡ true → read_at c part ≡ (owner, field) → reading c.setup (record { owner = owner; field = field }) c.process ≡ entered c part
entered-read c part owner field reads at =
    ap (λ (r : ℕ × Field). reading c.setup (record { owner = r.0; field = r.1 }) c.process) (sym at)
    ∙ sym (ap (λ b. elim b as (λ _. CursorState) [
      | true ↦ reading c.setup (record { owner = (read_at c part).0; field = (read_at c part).1 }) c.process
      | false ↦ writing c.setup (record { owner = c.process; field = (written_at c part).0 }) (written_at c part).1
    ]) reads)

pub entered-write : (c : Call) (part : Part) (field : Field) (bits : List Bool) → is_read part ≡ false → written_at c part ≡ (field, bits) → writing c.setup (record { owner = c.process; field = field }) bits ≡ entered c part
entered-write c part field bits writes at =
    ap (λ (w : Field × List Bool). writing c.setup (record { owner = c.process; field = w.0 }) w.1) (sym at)
    ∙ sym (ap (λ b. elim b as (λ _. CursorState) [
      | true ↦ reading c.setup (record { owner = (read_at c part).0; field = (read_at c part).1 }) c.process
      | false ↦ writing c.setup (record { owner = c.process; field = (written_at c part).0 }) (written_at c part).1
    ]) writes)

-- zeros after the bytes do not add a bit
zeros : (n i : ℕ) → get_or (replicate n (let none : ℕ = 0 in none)) i 0 ≡ 0
zeros zero i = refl
zeros (suc n) zero = refl
zeros (suc n) (suc i) = zeros n i

behind : (bytes : List ℕ) (n i : ℕ) → get_or (bytes ++ replicate n 0) i 0 ≡ get_or bytes i 0
behind [] n i = zeros n i
behind (b ∷ bytes) n zero = refl
behind (b ∷ bytes) n (suc i) = behind bytes n i

pub bits-padded : (bytes : List ℕ) (n w : ℕ) → bits_in (bytes ++ replicate n 0) w ≡ bits_in bytes w
bits-padded bytes n w = range_same (bit_in bytes) (bit_in (bytes ++ replicate n 0)) w false (λ k below. ap (λ b. bit_at b (k % 8) == 1) (behind bytes n (k / 8)))
