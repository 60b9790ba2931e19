use Rattle.std.proofs.Common.{◌≡◌, ◌-◌, ◌≤◌, ℕ, List, length, ap, ◌∙◌, arith, rules}
use Rattle.std.proofs.lemmas.Result.{IfOk-weaker}
use Rattle.plain_store.specs.{Setup, opening_store}
use Rattle.model.specs.declared.access.Field.TheVariants.{Image0}
use Rattle.model.specs.{width}
use Rattle.model.specs.safe_number.{bits_in}
use Rattle.store_image.specs.{image_of}
use Rattle.registers.proofs.WordBytes.{bits-as-bytes}
use Rattle.registers.specs.{opening_memory}
use Rattle.registers.specs.reader_copies.{bits_of_words}
use Rattle.process.specs.{cells_opening, memory_with}
use Rattle.process.proofs.MemoriesOpening.{opening-with}
use Rattle.process.proofs.PartOver.{bits-padded}
use Rattle.process.proofs.opening.open_memory.Goals as goal

pub returns : goal.returns
returns c =
    let s : Setup = c.args.setup.now in
    let w : ℕ = width s Image0 in
    let room : w ≤ 1728 = search (rules, c.requires) in
    let words : List ℕ = c.words_of.result in
    let image : bits_of_words words w ≡ bits_in (image_of (opening_store s)) w =
    bits-as-bytes words c.pad-bytes.result w (λ k below. c.words_of.ensures.bits k (omega (arith, below, room)))
    ∙ ap (λ bytes. bits_in bytes w) c.pad-bytes.ensures
    ∙ bits-padded c.bytes.result.now (216 - length c.bytes.result.now) w
    ∙ ap (λ bytes. bits_in bytes w) (c.bytes.ensures.image ∙ ap image_of c.in_ok-image.ensures) in
    IfOk-weaker c.new.result (λ memory. memory ≡ opening_memory s (bits_of_words words w)) (λ memory. memory ≡ memory_with (cells_opening s) s) (λ memory is. is ∙ opening-with s (bits_of_words words w) image) c.new.ensures
