use Rattle.std.proofs.Common.{ap, ◌∙◌}
use Rattle.plain_store.specs.{Setup, opening_store}
use Rattle.model.specs.safe_number.{bit_in}
use Rattle.store_image.specs.{image_of}
use Rattle.record_accesses.proofs.OpeningBits.{opening-image}
use Rattle.record_accesses.proofs.openings.Openings.value.Goals as goal

pub returns-in-Image0 : goal.returns-in-Image0
returns-in-Image0 c =
    let a = c.args.access.now in
    c.bit_of.ensures
    ∙ ap (λ bytes. bit_in bytes a.bit) (c.bytes.ensures.image ∙ ap image_of c.self.invariant.1 ∙ ap (λ (s : Setup). image_of (opening_store s)) c.self.view_is)
    ∙ opening-image c.args.self.now a c.in-Image0.is c.if-access-eq0.true c.requires.bit
