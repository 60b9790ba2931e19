use Rattle.std.proofs.Common.{◌≡◌, ◌<◌, ◌+◌, ◌/◌, ◌%◌, ◌++◌, ◌∷◌, [], ◌&&◌, ℕ, List, Bool, not, cond, set, length, arith, ◌∙◌, ap, sym}
use mir.Val.{bool_byte}
use Rattle.registers.specs.{CursorState, bits_kept, read_after}
use Rattle.reader_copies.specs.{SetsFlag, flag_in}
use Rattle.registers.specs.declared.cursor.RegisterAccessKind.TheVariants.{Reads}
use Rattle.reader_copies.proofs.Flags.{flag-both}
use Rattle.registers.proofs.Words.{bits-gone, next-bit}
use Rattle.registers.proofs.cursor.Cursor.read_on.Goals as goal

pub returns : goal.returns
returns c =
    let r = c.self.inside in
    let words = r.words in
    let v = c.args.value in
    let k = r.bit % 64 in
    let old = c.word_at-old.result in
    let one = c.one_flag.result in
    let ends = c.all_flags.result in
    let all = c.all_flags-2.result in
    let bit_is : r.bit ≡ c.args.self.now.bit = ap (λ (x : CursorState). x.bit) c.self.view_is in
    let width_is : r.width ≡ c.args.self.now.width = ap (λ (x : CursorState). x.width) c.self.view_is in
    let reads : r.run ≡ Reads = ap (λ (x : CursorState). x.run) c.self.view_is ∙ c.requires.reads in
    let there : r.bit / 64 < length words = omega (arith, c.self.invariant.room, c.self.invariant.few_bits, c.requires.going) in
    let low : k < 64 = omega arith in
    let at : flag_in one k && flag_in ends k ≡ r.begun = ap (λ b. b && flag_in ends k) c.one_flag.ensures.set ∙ c.all_flags.ensures k low in
    let sets : SetsFlag old k (cond r.begun v (flag_in old k)) c.choose.result = record {
      same = c.choose.ensures k ∙ ap (λ b. cond b (flag_in all k) (flag_in old k)) (flag-both one ends k ∙ at) ∙ ap (λ x. cond r.begun x (flag_in old k)) (c.all_flags-2.ensures k low);
      others = λ i below apart. c.choose.ensures i ∙ ap (λ b. cond b (flag_in all i) (flag_in old i)) (flag-both one ends i ∙ ap (λ b. b && flag_in ends i) (c.one_flag.ensures.nowhere_else i apart));
    } in
    let new = set words (r.bit / 64) c.choose.result in
    let made = λ (n : ℕ) (bits : List Bool). let x : CursorState = record { register = r.register; reader = r.reader; copies = r.copies; width = r.width; run = r.run; bit = n; copy = r.copy; begun = not r.begun; bits = bits } in x in
    let kept = λ (bits : List Bool). cond r.begun (bits ++ v ∷ []) bits in
    let bits_are : bits_kept r.run new (r.bit + bool_byte r.begun) r.width ≡ kept (bits_kept r.run words r.bit r.width) =
    ap (λ x. bits_kept x new (r.bit + bool_byte r.begun) r.width) reads
    ∙ bits-gone r.begun v words r.bit old c.choose.result there c.word_at-old.ensures sets
    ∙ ap (λ x. kept (bits_kept x words r.bit r.width)) (sym reads) in
    ap (λ n. made (r.bit + n) (bits_kept r.run new (r.bit + n) r.width)) c.from.ensures
    ∙ ap (made (r.bit + bool_byte r.begun)) bits_are
    ∙ ap (λ n. made n (kept (bits_kept r.run words r.bit r.width))) (next-bit r.begun r.bit)
    ∙ ap (λ s. read_after s v) c.self.view_is
