use Rattle.std.proofs.Common.{◌≡◌, ℕ, ◌*◌, ◌/◌, ◌%◌, ◌<◌, ◌≤◌, ◌==◌, Bool, false, List, get_or, length, take, sym, ap, ◌∙◌, subst, arith, inl, inr}
use Rattle.std.specs.Int.{bit_at}
use Rattle.std.proofs.lemmas.Bool.{cases_lt}
use Rattle.std.proofs.lemmas.List.{get_or-take, get_or_past, length-take-le}
use Rattle.std.proofs.lemmas.Nat.Bits.{bit_at-zero}
use Rattle.plain_store.specs.{callers_of}
use Rattle.model.specs.{image_bytes}
use Rattle.model.specs.safe_number.{IsBytesOf, bit_in}
use Rattle.store_image.specs.{store_in}
use Rattle.process.proofs.image.image_read.Goals as goal

-- the first n bytes have these bits, and 0 after them
taken : (bits : List Bool) (bytes : List ℕ) (n : ℕ) → n ≤ length bytes → length bits ≡ 8 * n → ((k : ℕ) → k < length bits → bit_in bytes k ≡ get_or bits k false) → IsBytesOf bits (take n bytes)
taken bits bytes n room long has = λ k. elim (cases_lt k (8 * n)) [
  | inl inside ↦ ap (λ b. bit_at b (k % 8) == 1) (get_or-take n bytes (k / 8) 0 (omega arith)) ∙ has k (omega (arith, long))
  | inr past ↦
      ap (λ b. bit_at b (k % 8) == 1) (get_or_past (take n bytes) (k / 8) 0 (omega (arith, length-take-le n bytes room)))
      ∙ ap (λ b. b == 1) (bit_at-zero (k % 8))
      ∙ sym (get_or_past bits k false (omega (arith, long)))
]

bytes-taken : (bytes : List ℕ) (n : ℕ) → n ≤ length bytes → ((i : ℕ) → get_or bytes i 0 < 256) → (i : ℕ) → get_or (take n bytes) i 0 < 256
bytes-taken bytes n room are = λ i. elim (cases_lt i n) [
  | inl inside ↦ subst (λ b. b < 256) (sym (get_or-take n bytes i 0 inside)) (are i)
  | inr past ↦ subst (λ b. b < 256) (sym (get_or_past (take n bytes) i 0 (omega (arith, length-take-le n bytes room)))) (omega arith)
]

pub returns-clause-store : goal.returns-clause-store
returns-clause-store c = λ bits long has.
    let s = c.args.setup.now in
    let n : ℕ = image_bytes s in
    let same : c.from.result ≡ n = c.from.ensures ∙ c.image_bytes.ensures.bytes in
    let room : n ≤ length c.args.bytes.now = omega (arith, c.image_bytes.ensures.bytes, c.image_bytes.ensures.most) in
    c.read_or_empty.ensures.store
    ∙ ap (λ k. store_in s.slots (callers_of s) (take k c.args.bytes.now)) same
    ∙ ap (store_in s.slots (callers_of s))
    (c.bytes_go_by_their_bits.ensures.read n bits (take n c.args.bytes.now) long (length-take-le n c.args.bytes.now room) (bytes-taken c.args.bytes.now n room c.fits-bytes) (taken bits c.args.bytes.now n room long has))
