use Rattle.std.proofs.Common.{ℕ, List, sym, ap, ◌∙◌, arith}
use Rattle.std.proofs.lemmas.Result.{IfOk-weaker}
use Rattle.model.specs.{width}
use Rattle.model.specs.safe_number.{bits_in}
use Rattle.model.proofs.safe_number.Numbers.{get-bits, length_bits}
use Rattle.run_state.specs.{bits_read, bits_text}
use Rattle.run_state.proofs.copies.copy_text.Goals as goal

pub returns-in-Some : goal.returns-in-Some
returns-in-Some c =
    let s = c.args.setup.now in
    let n : ℕ = width s c.args.field in
    let bytes : List ℕ = c.in-Some.bytes in
    IfOk-weaker c.shown.result _ _ (λ text is.
    is (bits_in bytes n) (length_bits bytes n) (λ k below. sym (get-bits bytes n k (omega (arith, below, length_bits bytes n))))
    ∙ ap (λ copy. bits_text s c.args.field (bits_read n copy)) (sym c.in-Some.is)) c.shown.ensures
