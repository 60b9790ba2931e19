use Rattle.std.proofs.Common.{◌≡◌, ◌<◌, ◌≤◌, ◌+◌, ◌/◌, ◌%◌, ℕ, List, Bool, set, arith, ◌∙◌, length, ap, sym}
use Rattle.registers.specs.{CursorState, bits_kept, more_bits}
use Rattle.reader_copies.specs.{bits_of_words, flag_in}
use Rattle.registers.specs.declared.cursor.RegisterAccessKind.TheVariants.{Reads}
use Rattle.registers.proofs.Words.{bits-chosen}
use Rattle.registers.proofs.cursor.Cursor.keep_word.Goals as goal

pub returns : goal.returns
returns c =
    let r = c.self.inside in
    let words = r.words in
    let n = c.args.n in
    let f : ℕ → Bool = λ j. flag_in c.args.word ((r.bit + j) % 64) in
    let bit_is : r.bit ≡ c.args.self.now.bit = ap (λ (x : CursorState). x.bit) c.self.view_is in
    let width_is : r.width ≡ c.args.self.now.width = ap (λ (x : CursorState). x.width) c.self.view_is in
    let reads : r.run ≡ Reads = ap (λ (x : CursorState). x.run) c.self.view_is ∙ c.requires.reads in
    let there : r.bit / 64 < length words = omega (arith, c.self.invariant.room, c.self.invariant.few_bits, c.requires.ahead.inside, c.requires.ahead.some) in
    let fits : r.bit % 64 + n ≤ 64 = omega (arith, c.requires.ahead.word) in
    let new = set words (r.bit / 64) c.choose.result in
    let kept : bits_of_words new (r.bit + n) ≡ more_bits n f (bits_of_words words r.bit) =
    bits-chosen words r.bit n c.word_at-old.result c.choose.result c.args.word c.mask.result there fits c.word_at-old.ensures c.mask.ensures c.choose.ensures in
    let all : bits_kept r.run new (r.bit + n) r.width ≡ more_bits n f (bits_kept r.run words r.bit r.width) =
    ap (λ k. bits_kept k new (r.bit + n) r.width) reads ∙ kept ∙ ap (λ k. more_bits n f (bits_kept k words r.bit r.width)) (sym reads) in
    let Q = λ (bits : List Bool). let x : CursorState = record { register = r.register; reader = r.reader; copies = r.copies; width = r.width; run = r.run; bit = r.bit + n; copy = r.copy; begun = r.begun; bits = bits } in x in
    let P : CursorState → CursorState = λ s. record s { bit = s.bit + n; bits = more_bits n (λ j. flag_in c.args.word ((s.bit + j) % 64)) s.bits } in
    ap Q all ∙ ap P c.self.view_is
