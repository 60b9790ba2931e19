use Rattle.std.proofs.Common.{◌≡◌, ◌<◌, ◌≤◌, ℕ, Bool, false, List, get_or, length, sym, ap, subst, ◌∙◌, arith}
use Rattle.registers.specs.{CursorState, RegisterAccessKind, bits_kept}
use Rattle.reader_copies.specs.{bit_of_words}
use Rattle.registers.specs.declared.cursor.RegisterAccessKind.TheVariants.{Reads, Writes, Settles}
use Rattle.reader_copies.proofs.Words.{bit-found, length-bits}
use Rattle.registers.proofs.cursor.Cursor.bytes.Goals as goal

-- a bit that is kept is one of the words
kept : (run : RegisterAccessKind) (words : List ℕ) (bit width k : ℕ) → bit ≤ width → width ≤ 1728 → k < length (bits_kept run words bit width) → (bit_of_words words k ≡ get_or (bits_kept run words bit width) k false) × (k < 1728)
kept Reads words bit width k few most below = (sym (bit-found words bit k (omega (arith, length-bits words bit))), omega (arith, length-bits words bit))
kept Writes words bit width k few most below = (sym (bit-found words width k (omega (arith, length-bits words width))), omega (arith, length-bits words width))
kept (Settles cut value) words bit width k few most below = (sym (bit-found words width k (omega (arith, length-bits words width))), omega (arith, length-bits words width))

pub returns : goal.returns
returns c = λ k below.
    let r = c.self.inside in
    let shown : bits_kept r.run r.words r.bit r.width ≡ c.args.self.now.bits = ap (λ (x : CursorState). x.bits) c.self.view_is in
    let at = kept r.run r.words r.bit r.width k c.self.invariant.bit_in c.self.invariant.few_bits (subst (λ (bits : List Bool). k < length bits) (sym shown) below) in
    c.bytes_of.ensures.bits k at.1 ∙ at.0 ∙ ap (λ bits. get_or bits k false) shown
