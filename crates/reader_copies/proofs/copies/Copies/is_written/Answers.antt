use Rattle.std.proofs.Common.{◌≡◌, ◌≢◌, ℕ, ◌+◌, ◌-◌, ◌%◌, ◌==◌, Bool, true, false, not, bit_and, refl, sym, ap, ◌∙◌, arith, eqb-true, eq-eqb}
use Rattle.safe_bit.specs.Cell.{Cell}
use Rattle.reader_copies.specs.{flag_in}
use Rattle.reader_copies.proofs.Cells.{cells-read}
use Rattle.reader_copies.proofs.Masks.{mask-inside, none_both, some_both}
use Rattle.reader_copies.proofs.copies.Copies.is_written.Goals as goal

pub returns-clause-written : goal.returns-clause-written
returns-clause-written c = λ some.
    let flags = c.index.result.now in
    let word : ℕ = bit_and flags.writing c.mask.result in
    let nonzero : word ≢ 0 = λ zero. let both : false ≡ true = ap not (sym (eq-eqb word 0 zero)) ∙ some in cc in
    let there = some_both flags.writing c.mask.result c.mask.type_inv nonzero in
    let place : ℕ = there.0 in
    let inside = mask-inside (c.args.k % 64) c.args.n c.mask.result place c.mask.ensures there.2 in
    let j : ℕ = place - c.args.k % 64 in
    let at : (c.args.k + j) % 64 ≡ place = omega (arith, inside, c.requires.word) in (
      j,
      omega (arith, inside),
      ap (λ (x : Cell). x.writing) (sym (cells-read _ _ c.args.k (c.args.k + j) c.self.view_is c.self.invariant c.index.ensures (omega (arith, inside, c.requires.in_range)) (omega (arith, inside, c.requires.word))))
          ∙ ap (flag_in flags.writing) at ∙ there.1,
    )

pub returns-clause-closed : goal.returns-clause-closed
returns-clause-closed c = λ closed j below.
    let i : ℕ = c.args.k + j in
    let flags = c.index.result.now in
    let none : bit_and flags.writing c.mask.result ≡ 0 = eqb-true (bit_and flags.writing c.mask.result) 0 (turned (bit_and flags.writing c.mask.result == 0) closed) in
    ap (λ (x : Cell). x.writing) (sym (cells-read _ _ c.args.k i c.self.view_is c.self.invariant c.index.ensures (omega (arith, c.requires.in_range)) (omega (arith, c.requires.word))))
    ∙ none_both flags.writing c.mask.result (i % 64) none (c.mask.ensures.inside (i % 64) (omega (arith, c.requires.word)) (omega (arith, c.requires.word)))
  where
    turned : (b : Bool) → not b ≡ false → b ≡ true
    turned true e = refl
    turned false e = cc
