use Rattle.std.proofs.Common.{◌≤◌, ℕ, List, Bool, false, set, arith, ◌∙◌, ap}
use Rattle.std.proofs.lemmas.List.{get_or-set_same}
use Rattle.safe_number.specs.{bits_of_number}
use Rattle.registers.specs.{CursorState}
use Rattle.registers.specs.declared.cursor.RegisterAccessKind.TheVariants.{Writes}
use Rattle.registers.proofs.Numbers.{word-number}
use Rattle.registers.proofs.cursor.Cursor.begin_write.Goals as goal

pub returns : goal.returns
returns c =
    let words = c.self.inside.words in
    let Q = λ (w : ℕ) (bits : List Bool). let x : CursorState = record { register = c.args.register; reader = 0; copies = c.args.setup.now.processes; width = w; run = Writes; bit = 0; copy = 0; begun = false; bits = bits } in x in
    let narrow : c.width_of-self-inside.result ≤ 64 = omega (arith, c.width_of-self-inside.ensures.width, c.requires.narrow) in
    ap (Q c.width_of-self-inside.result) (word-number (set words 0 c.from.result) c.width_of-self-inside.result c.args.number narrow (get_or-set_same words 0 c.from.result 0 (omega (arith, c.self.invariant.room)) ∙ c.from.ensures))
    ∙ ap (λ w. Q w (bits_of_number w c.args.number)) c.width_of-self-inside.ensures.width
