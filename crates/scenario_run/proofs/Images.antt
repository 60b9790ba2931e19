-- A store is determined by its image, and the newest store by the image in the registers.
use Rattle.std.proofs.Common.{◌≡◌, ◌*◌, ◌+◌, Bool, true, false, cond, List, [], ◌++◌, length, Option, Some, None, option_map, IfSome, refl, ap, sym, ◌∙◌, arith}
use Rattle.model.specs.store_image.{IsStore, image_of, store_read, used_in}
use Rattle.plain_store.specs.{Contents}
use Rattle.model.proofs.store_image.ImageBytes.{length-image_of, store_read-image_of}
use Rattle.model.proofs.store_image.Readings.{used_in-image_of}
use Rattle.model.specs.{Event, Past, history, is_somebody_inside, newest, past_of, store_after}
use Rattle.world.proofs.history_laws_proofs.DataAlways.{data_of}
use Rattle.world.specs.Shows.{Shows, WorldState}
use Rattle.scenario_run.specs.{newest_store}

-- stores with the same image are equal
pub same_image : (a b : Contents) → IsStore a → IsStore b → image_of a ≡ image_of b → a ≡ b
same_image a b good other same =
    let slots : a.slots ≡ b.slots = omega (arith, long, good.some_slots, other.some_slots, good.few_slots, other.few_slots, good.few_callers, other.few_callers) in
    let numbers : length a.numbers ≡ length b.numbers = omega (arith, long, slots) in
    let bytes : image_of a ++ [] ≡ image_of b ++ [] = ap (λ l. l ++ []) same in
    let pairs : length a.pairs ≡ length b.pairs = sym (used_in-image_of a [] good) ∙ ap (λ l. used_in a.slots l) bytes ∙ ap (λ n. used_in n (image_of b ++ [])) slots ∙ used_in-image_of b [] other in
    sym (store_read-image_of a [] good)
    ∙ ap (λ l. store_read (length a.pairs) a.slots (length a.numbers) l) bytes
    ∙ (λ i. store_read (pairs i) (slots i) (numbers i) (image_of b ++ []))
    ∙ store_read-image_of b [] other
  where
    long : 23 * a.slots + 2 * length a.numbers ≡ 23 * b.slots + 2 * length b.numbers
    long = sym (length-image_of a good) ∙ ap length same ∙ length-image_of b other

-- therefore the store that a world shows as its newest is the one after its history
pub newest_is : (w : WorldState) (events : List Event) (store : Option Contents) → Shows w events → IfSome store IsStore → option_map image_of store ≡ newest w.setup (past_of w.setup events) → store ≡ newest_store w.setup (past_of w.setup events)
newest_is w events store shows good is = by store (is_somebody_inside w.setup past) good is
  where
    past : Past
    past = past_of w.setup events

    after : Contents
    after = store_after w.setup (history w.setup past)

    sound : IsStore after
    sound = (data_of w.setup shows.good events shows.given).kept.sound.store

    by : (store : Option Contents) (b : Bool) → IfSome store IsStore → option_map image_of store ≡ cond b None (Some (image_of after)) → store ≡ cond b None (Some after)
    by None true good is = refl
    by None false good is = absurd (cc)
    by (Some store) true good is = absurd (cc)
    by (Some store) false good is = let same : image_of store ≡ image_of after = cc in ap Some (same_image store after good sound same)
