use Rattle.std.proofs.Common.{◌≡◌, ◌<◌, ◌≤◌, ◌-◌, ℕ, List, length, sym, ap, ◌∙◌, subst}
use Rattle.plain_store.specs.{Setup, padded}
use Rattle.store_image.specs.{image_of}
use Rattle.model.specs.{Field, width, written_at}
use Rattle.model.specs.declared.access.Field.TheVariants.{Image0}
use Rattle.model.specs.safe_number.{bits_in, bits_of_number}
use Rattle.registers.specs.{CursorState, reading, writing}
use Rattle.process.proofs.PartOver.{bits-padded, entered-read, entered-write, image-written}
use Rattle.process.proofs.entering.begin_part.Goals as goal

pub returns-in-Reads : goal.returns-in-Reads
returns-in-Reads c =
    let k = c.args.called.now in
    let e = c.in-Reads.ensures in
    record {
      cursor =
          c.begin_read.ensures
          ∙ (λ i. reading (c.setup-setup.ensures i) (record { owner = c.in-Reads.owner; field = c.in-Reads.field }) (c.process-process.ensures i))
          ∙ entered-read k.call k.part c.in-Reads.owner c.in-Reads.field e.1 e.3;
      in_range = subst (λ (x : CursorState). x.register.owner < k.call.setup.processes) (sym c.begin_read.ensures) e.2;
    }

pub begin_write-requires-clause-narrow : goal.begin_write-requires-clause-narrow
begin_write-requires-clause-narrow c = subst (λ (s : Setup). width s c.in-Writes.field ≤ 32) (sym c.setup-setup.ensures) c.in-Writes.ensures.2

pub returns-in-Writes : goal.returns-in-Writes
returns-in-Writes c =
    let k = c.args.called.now in
    let e = c.in-Writes.ensures in
    let f : Field = c.in-Writes.field in
    let number : ℕ = c.in-Writes.number in
    record {
      cursor =
          c.begin_write.ensures
          ∙ (λ i. writing (c.setup-setup.ensures i) (record { owner = c.process-process.ensures i; field = f }) (bits_of_number (width (c.setup-setup.ensures i) f) number))
          ∙ entered-write k.call k.part f (bits_of_number (width k.call.setup f) number) e.1 e.3;
      in_range = subst (λ (x : CursorState). x.register.owner < k.call.setup.processes) (sym c.begin_write.ensures) (subst (λ p. p < k.call.setup.processes) (sym c.process-process.ensures) c.requires.call.process);
    }

pub returns-in-WritesImage : goal.returns-in-WritesImage
returns-in-WritesImage c =
    let k = c.args.called.now in
    let e = c.in-WritesImage.ensures in
    let f : Field = c.in-WritesImage.field in
    let s = k.call.setup in
    let w = image-written k.call k.part e.0 in
    let wide : width s f ≡ width s Image0 = ap (width s) (sym e.1) ∙ w.1 in
    let image : List ℕ = image_of c.image-image.result in
    let bits : bits_in c.pad-bytes.result (width s f) ≡ (written_at k.call k.part).1 =
    ap (λ bytes. bits_in bytes (width s f)) (c.pad-bytes.ensures ∙ ap (padded 216) c.bytes.ensures.image)
    ∙ bits-padded image (216 - length image) (width s f)
    ∙ ap (bits_in image) wide
    ∙ c.image-image.ensures in
    record {
      cursor =
          c.begin_write_bytes.ensures
          ∙ (λ i. writing (c.setup-setup.ensures i) (record { owner = c.process-process.ensures i; field = f }) (bits_in c.pad-bytes.result (width (c.setup-setup.ensures i) f)))
          ∙ ap (writing s (record { owner = k.call.process; field = f })) bits
          ∙ entered-write k.call k.part f (written_at k.call k.part).1 w.0 (λ i. (e.1 i, (written_at k.call k.part).1));
      in_range = subst (λ (x : CursorState). x.register.owner < s.processes) (sym c.begin_write_bytes.ensures) (subst (λ p. p < s.processes) (sym c.process-process.ensures) c.requires.call.process);
    }
