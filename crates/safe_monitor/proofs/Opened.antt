-- The registers of a monitor before the first entry.
use Rattle.std.proofs.Common.{◌≡◌, ℕ, ◌+◌, ◌*◌, ◌<◌, ◌%◌, false, List, [], ◌∷◌, ◌++◌, Ok, length, replicate, slice_index_or, slice_set, sym, ap, ◌∙◌, subst, arith, inl, inr, eq-eqb}
use Rattle.std.proofs.Math.Seq.{get_or-append_seam}
use Rattle.std.proofs.lemmas.Bool.{cases_eq, cases_lt}
use Rattle.std.proofs.lemmas.List.{get_or_append_left, get_or-replicate, get_or-set_other, get_or-set_same, length-append}
use Rattle.std.proofs.lemmas.Nat.{mod-mul-add}
use Rattle.model.specs.{Access, Field, field_number, opening_bit, opening_bits, width}
use Rattle.model.specs.declared.access.Field.TheVariants.{Image0}
use Rattle.model.specs.safe_number.{bit_in}
use Rattle.model.proofs.safe_number.Numbers.{get-bits}
use Rattle.plain_store.specs.{Setup, checked, opening_store}
use Rattle.store_image.specs.{image_of}
use Rattle.laws.specs.{IsThere}
use Rattle.laws.proofs.FrameCells.{field-same}
use Rattle.safe_monitor.specs.{HasObserved, IsOpened, IsMonitor, MonitoredBit, copy_of, monitored_at, monitored_after, register_of}
use Rattle.safe_monitor.proofs.Openings.{opens_low}
use Rattle.safe_monitor.proofs.OwnPlaces.{copy_below, field_below, register_below}

-- the bits of the first k registers have the looks of their initial values
pub record AreOpened (s : Setup) (registers : List (List MonitoredBit)) (k : ℕ) : Type 0 where
  pub count : length registers ≡ k
  pub bits : (n : ℕ) → n < k → (f : Field) → n % 7 ≡ field_number f → length (slice_index_or registers n []) ≡ s.processes * width s f
  pub monitored_bits : (a : Access) → IsThere s a → register_of a < k → monitored_at registers (register_of a) (copy_of s a) ≡ monitored_after (opening_bit s a) []

at_old : (registers : List (List MonitoredBit)) (monitored_bits : List MonitoredBit) (n : ℕ) → n < length registers → slice_index_or (registers ++ monitored_bits ∷ []) n [] ≡ slice_index_or registers n []
at_old registers monitored_bits n h = get_or_append_left registers (monitored_bits ∷ []) [] n h

at_new : (registers : List (List MonitoredBit)) (monitored_bits : List MonitoredBit) (n : ℕ) → n ≡ length registers → slice_index_or (registers ++ monitored_bits ∷ []) n [] ≡ monitored_bits
at_new registers monitored_bits n h = ap (λ m. slice_index_or (registers ++ monitored_bits ∷ []) m []) h ∙ get_or-append_seam registers monitored_bits [] []

pub opened_none : (s : Setup) (registers : List (List MonitoredBit)) → registers ≡ [] → AreOpened s registers 0
opened_none s registers is = record {
  count = ap (λ (l : List (List MonitoredBit)). length l) is;
  bits = λ n below f same. absurd (omega (arith, below));
  monitored_bits = λ a there below. absurd (omega (arith, below));
}

pub opened_more : (s : Setup) (registers : List (List MonitoredBit)) (k : ℕ) (monitored_bits : List MonitoredBit) → AreOpened s registers k → IsOpened s k monitored_bits → AreOpened s (registers ++ monitored_bits ∷ []) (k + 1)
opened_more s registers k monitored_bits so next = record {
  count = length-append registers (monitored_bits ∷ []) ∙ ap (λ n. n + 1) so.count;
  bits = lengths;
  monitored_bits = opens;
}
  where
    lengths : (n : ℕ) → n < k + 1 → (f : Field) → n % 7 ≡ field_number f → length (slice_index_or (registers ++ monitored_bits ∷ []) n []) ≡ s.processes * width s f
    lengths n below f is = elim (cases_lt n k) [
      | inl old ↦ ap (λ (l : List MonitoredBit). length l) (at_old registers monitored_bits n (subst (λ m. n < m) (sym so.count) old)) ∙ so.bits n old f is
      | inr new ↦ let same : n ≡ k = omega (arith, below, new) in
          ap (λ (l : List MonitoredBit). length l) (at_new registers monitored_bits n (same ∙ sym so.count)) ∙ next.bits f (ap (λ m. m % 7) (sym same) ∙ is)
    ]

    opens : (a : Access) → IsThere s a → register_of a < k + 1 → monitored_at (registers ++ monitored_bits ∷ []) (register_of a) (copy_of s a) ≡ monitored_after (opening_bit s a) []
    opens a there below = elim (cases_lt (register_of a) k) [
      | inl old ↦ ap (λ (l : List MonitoredBit). slice_index_or l (copy_of s a) (monitored_after false [])) (at_old registers monitored_bits (register_of a) (subst (λ m. register_of a < m) (sym so.count) old)) ∙ so.monitored_bits a there old
      | inr new ↦ let same : register_of a ≡ k = omega (arith, below, new) in
          ap (λ (l : List MonitoredBit). slice_index_or l (copy_of s a) (monitored_after false [])) (at_new registers monitored_bits (register_of a) (same ∙ sym so.count)) ∙ next.monitored_bits a same there
    ]

pub opened_monitor : (s : Setup) (registers : List (List MonitoredBit)) (k : ℕ) → checked s ≡ Ok tt → k ≡ s.processes * 7 → AreOpened s registers k → IsMonitor (record { setup = s; registers = registers })
opened_monitor s registers k good all so = record {
  good = good;
  registers = so.count ∙ all;
  bits = λ owner f below. let x = field_below f in so.bits (owner * 7 + field_number f) (omega (arith, below, x, all)) f (omega (arith, x));
}

pub opened_observed : (s : Setup) (registers : List (List MonitoredBit)) (k : ℕ) → k ≡ s.processes * 7 → AreOpened s registers k → HasObserved (record { setup = s; registers = registers }) []
opened_observed s registers k all so = λ a there. so.monitored_bits a there (subst (λ n. register_of a < n) (sym all) (register_below s a there))

-- One register.

-- the field of an access, by its register
pub field_of : (a : Access) (n : ℕ) (f : Field) → register_of a ≡ n → field_number f ≡ n % 7 → a.field ≡ f
field_of a n f register is = let x = field_below a.field in field-same a.field f (eq-eqb (field_number a.field) (field_number f) (omega (arith, register, is, x)))

-- a register is as long as the copies of its bits
pub opened_bits : (s : Setup) (n : ℕ) (f g : Field) (monitored_bits : List MonitoredBit) (bits : ℕ) → length monitored_bits ≡ s.processes * bits → bits ≡ width s f → field_number f ≡ n % 7 → n % 7 ≡ field_number g → length monitored_bits ≡ s.processes * width s g
opened_bits s n f g monitored_bits bits many wide is same =
    let one : f ≡ g = field-same f g (eq-eqb (field_number f) (field_number g) (is ∙ same)) in
    many ∙ ap (λ m. s.processes * m) wide ∙ ap (λ h. s.processes * width s h) one

-- a register that is initially 0
pub opened_low : (s : Setup) (n : ℕ) (f : Field) (monitored_bits : List MonitoredBit) (bits : ℕ) (a : Access) → monitored_bits ≡ replicate (s.processes * bits) (monitored_after false []) → bits ≡ width s f → field_number f ≡ n % 7 → (n ≡ 5 → ⊥) →
    register_of a ≡ n → IsThere s a → slice_index_or monitored_bits (copy_of s a) (monitored_after false []) ≡ monitored_after (opening_bit s a) []
opened_low s n f monitored_bits bits a are wide is other register there =
    let field = field_of a n f register is in
    let size : width s a.field ≡ bits = ap (width s) field ∙ sym wide in
    ap (λ (l : List MonitoredBit). slice_index_or l (copy_of s a) (monitored_after false [])) are
    ∙ get_or-replicate (s.processes * bits) (copy_of s a) (monitored_after false []) (monitored_after false []) (subst (λ m. copy_of s a < s.processes * m) size (copy_below s a there))
    ∙ ap (λ b. monitored_after b []) (sym (opens_low s a.owner a.field a.bit (λ zero first. other (sym register ∙ (λ i. zero i * 7 + field_number (first i))))))

-- the first image of process 0, whose copies initially have the bits of the image of the opening store
pub opened_image : (s : Setup) (n : ℕ) (f : Field) (image : List ℕ) (low monitored_bits : List MonitoredBit) (bits : ℕ) (a : Access) → image ≡ image_of (opening_store s) →
    ((k : ℕ) → k < length low → slice_index_or monitored_bits k (monitored_after false []) ≡ monitored_after (bit_in image (k % bits)) []) → length low ≡ s.processes * bits → bits ≡ width s f → field_number f ≡ n % 7 → n ≡ 5 →
    register_of a ≡ n → IsThere s a → slice_index_or monitored_bits (copy_of s a) (monitored_after false []) ≡ monitored_after (opening_bit s a) []
opened_image s n f image low monitored_bits bits a is_image opens many wide is five register there =
    let field = field_of a n f register is in
    let size : width s a.field ≡ bits = ap (width s) field ∙ sym wide in
    let low_field = field_below a.field in
    let first : a.field ≡ Image0 = field-same a.field Image0 (eq-eqb (field_number a.field) 5 (omega (arith, register, five, low_field))) in
    let owner : a.owner ≡ 0 = omega (arith, register, five, low_field) in
    let within : a.bit < width s Image0 = subst (λ g. a.bit < width s g) first there.bit in
    let at : copy_of s a % bits ≡ a.bit = ap (λ m. copy_of s a % m) (sym size) ∙ mod-mul-add a.reader (width s a.field) a.bit there.bit in
    opens (copy_of s a) (subst (λ m. copy_of s a < m) (ap (λ m. s.processes * m) size ∙ sym many) (copy_below s a there))
    ∙ ap (λ b. monitored_after b [])
    (ap (bit_in image) at ∙ ap (λ bytes. bit_in bytes a.bit) is_image ∙ sym (get-bits (image_of (opening_store s)) (width s Image0) a.bit within)
    ∙ (λ i. slice_index_or (opening_bits s (sym owner i) (sym first i)) a.bit false))

-- one more copy has its initial value
pub copies_more : (bytes : List ℕ) (width k : ℕ) (before after : List MonitoredBit) (monitored_bit : MonitoredBit) → after ≡ slice_set before k monitored_bit → monitored_bit ≡ monitored_after (bit_in bytes (k % width)) [] → k < length before →
    ((j : ℕ) → j < k → slice_index_or before j (monitored_after false []) ≡ monitored_after (bit_in bytes (j % width)) []) → (j : ℕ) → j < k + 1 → slice_index_or after j (monitored_after false []) ≡ monitored_after (bit_in bytes (j % width)) []
copies_more bytes width k before after monitored_bit is opens there so j below = ap (λ (l : List MonitoredBit). slice_index_or l j (monitored_after false [])) is ∙ elim (cases_eq j k) [
  | inl e ↦ ap (λ n. slice_index_or (slice_set before k monitored_bit) n (monitored_after false [])) e ∙ get_or-set_same before k monitored_bit (monitored_after false []) there ∙ opens ∙ ap (λ n. monitored_after (bit_in bytes (n % width)) []) (sym e)
  | inr e ↦ get_or-set_other before k j monitored_bit (monitored_after false []) e ∙ so j (omega (arith, below, e))
]
