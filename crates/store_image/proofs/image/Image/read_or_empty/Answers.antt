use Rattle.std.proofs.Common.{◌≡◌, ℕ, length, sym, ap, ◌∙◌, arith}
use Rattle.std.proofs.lemmas.List.{length-replicate}
use Rattle.plain_store.specs.{Contents}
use Rattle.store_image.specs.{store_in}
use Rattle.store_image.proofs.ImageBytes.{length-image_of}
use Rattle.store_image.proofs.GoodRanges.{few-callers, few-slots, some-slots}
use Rattle.store_image.proofs.image.Image.read_or_empty.Goals as goal

pub read-requires : goal.read-requires
read-requires c = omega (arith, c.callers-callers.ensures, few-callers c.args.setup.now c.requires.good)

pub returns-in-Ok : goal.returns-in-Ok
returns-in-Ok c =
    let read = c.in-Ok.ensures.store in
    let callers = c.callers-callers.ensures in
    let slots : c.in-Ok.image.slots ≡ c.args.setup.now.slots = omega (arith, length-image_of c.in-Ok.image read.store, ap length read.image, read.numbers, c.requires.length, callers) in
    record {
      store = c.in-Ok.ensures.known ∙ (λ i. store_in (slots i) (callers i) c.args.bytes.now);
      slots = slots;
      numbers = omega (arith, read.numbers, callers);
    }

pub empty-requires : goal.empty-requires
empty-requires c =
    let s = c.args.setup.now in
    record {
      some_slots = some-slots s c.requires.good;
      few_slots = few-slots s c.requires.good;
      few_callers = omega (arith, c.callers-callers.ensures, few-callers s c.requires.good);
    }

pub returns-in-Err : goal.returns-in-Err
returns-in-Err c =
    let s = c.args.setup.now in
    let callers = c.callers-callers.ensures in
    record {
      store = c.empty.ensures ∙ sym (c.in-Err.ensures.unknown s.slots (some-slots s c.requires.good) (few-slots s c.requires.good)) ∙ ap (λ n. store_in s.slots n c.args.bytes.now) callers;
      slots = ap (λ (t : Contents). t.slots) c.empty.ensures;
      numbers = ap (λ (t : Contents). length t.numbers) c.empty.ensures ∙ length-replicate {A = ℕ} c.callers-callers.result 0 ∙ callers;
    }
