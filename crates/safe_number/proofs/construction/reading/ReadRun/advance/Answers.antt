use Rattle.std.proofs.Common.{◌≡◌, ◌<◌, ◌++◌, ◌∷◌, [], ◌∙◌, ap, sym, length, ℕ, List, Bool, true, false, refl, arith}
use Rattle.std.proofs.lemmas.List.{length-set}
use Rattle.reader_copies.specs.{Progress, Reading, progress_of}
use Rattle.reader_copies.specs.declared.runs.Progress.TheVariants.{Going}
use Rattle.safe_number.specs.{NumberRead, bits_in}
use Rattle.safe_number.proofs.Numbers.{bit_in-set_above, bits_in-more, length_bits, read-ends}
use Rattle.safe_number.proofs.construction.reading.ReadRun.advance.Goals.{Joined-self}
use Rattle.safe_number.proofs.construction.reading.ReadRun.advance.Goals as goal

-- a read that does not go on had begun
ended : (begun : Bool) (reported : Progress) → reported ≡ progress_of begun → (reported ≡ Going → ⊥) → begun ≡ true
ended true reported is over = refl
ended false reported is over = absurd (over is)

below : (c : Joined-self) → c.self.inside.bit < c.self.inside.width
below c = omega (arith, c.requires, length_bits c.self.inside.bytes.items c.self.inside.bit, ap (λ (r : NumberRead). length r.bits) c.self.view_is, ap (λ (r : NumberRead). r.width) c.self.view_is)

pub invariant_of-self-2 : goal.invariant_of-self-2
invariant_of-self-2 c = let inside = below c in record {
  bit_in_width = omega arith;
  width_in_room = c.self.invariant.width_in_room;
  bytes_in_room = omega (arith, length-set {A = ℕ}, c.self.invariant.bytes_in_room);
  going = ap (λ (r : Reading). r.value) c.new-self-inside.ensures;
  rest = λ k above near. bit_in-set_above c.self.inside.bytes.items c.self.inside.bit k c.with_next_bit.result (omega (arith, c.self.invariant.bytes_in_room, c.self.invariant.width_in_room)) c.with_next_bit.ensures.above (omega arith) near;
}

pub returns-clause-run : goal.returns-clause-run
returns-clause-run c =
    let inside = below c in
    let before : List Bool = bits_in c.self.inside.bytes.items c.self.inside.bit in
    let now : List Bool → Bool → NumberRead = λ bits begun. record { width = c.self.inside.width; bits = bits; begun = begun; room = c.self.inside.room } in
    let begun : c.args.self.now.begun ≡ true = sym (ap (λ (r : NumberRead). r.begun) c.self.view_is) ∙ ended c.self.inside.run.begun c.advance.result c.advance.ensures.progress c.in_default.not-Going in
    ap (λ bits. now bits c.new-self-inside.result.begun)
    (bits_in-more c.self.inside.bytes.items c.self.inside.bit c.index.result.now c.with_next_bit.result c.args.value (omega (arith, c.self.invariant.bytes_in_room, c.self.invariant.width_in_room)) c.index.ensures c.with_next_bit.ensures.below c.with_next_bit.ensures.same)
    ∙ ap (λ (r : Reading). now (before ++ c.args.value ∷ []) r.begun) c.new-self-inside.ensures
    ∙ ap (λ (r : NumberRead). record r { bits = r.bits ++ c.args.value ∷ []; begun = false }) c.self.view_is
    ∙ read-ends c.args.self.now c.args.value begun
