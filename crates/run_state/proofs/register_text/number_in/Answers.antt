use Rattle.std.proofs.Common.{◌≡◌, ◌≤◌, ◌*◌, ◌%◌, ◌^◌, ap, ◌∙◌, arith}
use Rattle.std.proofs.Math.Pow.{pow_mono}
use Rattle.run_state.proofs.RegisterBytes.{number-read}
use Rattle.run_state.proofs.register_text.number_in.Goals as goal

pub returns : goal.returns
returns c =
    let w = c.args.width in
    let most : 2 ^ w ≤ 4294967296 = pow_mono {j = 32} c.requires in
    let shifted : 1 * 2 ^ w % 18446744073709551616 ≡ 2 ^ w = omega (arith, most) in
    ap (λ n. c.number_of.result % n) shifted ∙ ap (λ n. n % 2 ^ w) c.number_of.ensures
    ∙ number-read c.args.bytes.now w (omega (arith, c.requires)) (omega (arith, c.told-bytes)) c.fits-bytes
