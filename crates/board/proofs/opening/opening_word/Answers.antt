use Rattle.std.proofs.Common.{◌≡◌, ◌<◌, ◌≤◌, false, sym, ap, ◌∙◌, subst}
use Rattle.std.specs.Prelude.{slice_index_or}
use Rattle.model.specs.safe_number.{bit_in}
use Rattle.model.specs.declared.access.Field.TheVariants.{Image0}
use Rattle.model.proofs.safe_number.Numbers.{get-bits}
use Rattle.plain_store.specs.{opening_store}
use Rattle.store_image.specs.{image_of}
use Rattle.model.specs.{opening_bit, opening_bits, width}
use Rattle.process.specs.registers.{BitCopy}
use Rattle.board.proofs.Seats.{some_processes}
use Rattle.board.specs.{access_to, closed_word, copy_of}
use Rattle.board.proofs.WordNumbers.{bit_there, byte_word, opens_late, opens_low}
use Rattle.board.proofs.opening.opening_word.Goals as goal

pub returns-in-Image0 : goal.returns-in-Image0
returns-in-Image0 c =
    let s = c.args.setup.now in
    let image = image_of (opening_store s) in
    let a = access_to (copy_of s c.args.word) in
    let is = c.copy_of-copy.ensures.copy in
    let field : a.field ≡ Image0 = ap (λ (x : BitCopy). x.register.field) (sym is) ∙ c.in-Image0.is in
    let owner : a.owner ≡ 0 = ap (λ (x : BitCopy). x.register.owner) (sym is) ∙ c.if-copy-ne0.false in
    let there = bit_there s c.args.word (some_processes s c.requires.good) c.requires.word in
    c.from.ensures ∙ byte_word c.bit_of.result
    ∙ ap closed_word (c.bit_of.ensures ∙ (λ i. bit_in (c.requires.image i) (is i).bit) ∙ sym (get-bits image (width s Image0) a.bit (subst (λ f. a.bit < width s f) field there.bit)) ∙ (λ i. slice_index_or (opening_bits s (sym owner i) (sym field i)) a.bit false))

pub returns-in_default : goal.returns-in_default
returns-in_default c =
    let s = c.args.setup.now in
    let a = c.copy_of-copy.result in
    sym (ap closed_word (ap (λ (x : BitCopy). opening_bit s (access_to x)) (sym c.copy_of-copy.ensures.copy) ∙ opens_low s a.register.owner a.register.field a.bit c.in_default.not-Image0))

pub returns-then-own-word : goal.returns-then-own-word
returns-then-own-word c = let s = c.args.setup.now in
    sym (opens_late s c.args.word (some_processes s c.requires.good) c.requires.word (subst (λ k. k ≤ c.args.word) c.requires.own c.if-own-word.true))
