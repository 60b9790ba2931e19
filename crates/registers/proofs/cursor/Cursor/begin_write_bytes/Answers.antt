use Rattle.std.proofs.Common.{ℕ, List, Bool, false, arith, ◌∙◌, ap}
use Rattle.safe_number.specs.{bits_in}
use Rattle.registers.specs.{CursorState}
use Rattle.registers.specs.declared.cursor.RegisterAccessKind.TheVariants.{Writes}
use Rattle.registers.proofs.WordBytes.{bits-as-bytes}
use Rattle.registers.proofs.cursor.Cursor.begin_write_bytes.Goals as goal

pub returns : goal.returns
returns c =
    let Q = λ (w : ℕ) (bits : List Bool). let x : CursorState = record { register = c.args.register; reader = 0; copies = c.args.setup.now.processes; width = w; run = Writes; bit = 0; copy = 0; begun = false; bits = bits } in x in
    let w : ℕ = c.width_of-self-inside.result in
    ap (Q w) (bits-as-bytes c.words_of-self-inside.result c.args.bytes.now w (λ k below. c.words_of-self-inside.ensures.bits k (omega (arith, c.width_of-self-inside.ensures.most))))
    ∙ ap (λ n. Q n (bits_in c.args.bytes.now n)) c.width_of-self-inside.ensures.width
