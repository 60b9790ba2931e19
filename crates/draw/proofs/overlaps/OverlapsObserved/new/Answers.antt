use Rattle.std.proofs.Common.{◌≡◌, [], None, Some, refl}
use Rattle.std.proofs.lemmas.List.{get_or-replicate}
use Rattle.model.specs.plain_store.{Setup}
use Rattle.picture.specs.declared.reads.Reads.{Reads}
use Rattle.picture.specs.declared.reads.Reads.TheVariants.{All, Hidden, Shown}
use Rattle.draw.specs.{Observes, ObservesAll, OverlapsObserved}
use Rattle.draw.proofs.overlaps.OverlapsObserved.new.Goals as goal

observes_first : (mode : Reads) (s : Setup) (o : OverlapsObserved) → mode ≡ Shown → Observes s [] [] o → ObservesAll mode s [] [] (Some o)
observes_first Hidden s o shown h = absurd (cc)
observes_first Shown s o shown h = h
observes_first All s o shown h = absurd (cc)

pub returns-in-Shown : goal.returns-in-Shown
returns-in-Shown c = observes_first c.args.reads c.args.setup.now _ c.in-Shown.is (record {
  good = c.requires;
  setup = refl;
  begun = λ p below. get_or-replicate 16 p None None below;
  room = refl;
  ended = c.new.ensures.items;
})
