use Rattle.std.proofs.Common.{◌≡◌, ◌∙◌, ◌⊎◌, inl, inr, ◌≤◌, ◌<◌, ◌+◌, ◌*◌, ℕ, Bool, true, false, if◌then◌else◌, List, length, Option, Some, None, refl, sym, ap, subst, arith}
use Rattle.std.proofs.lemmas.Bool.Decides.{nat_tests}
use Rattle.store_image.proofs.ImageBytes.{kept_image, store_read-image, IsImage}
use Rattle.store_image.proofs.Readings.{image_read, image_slots, image_is_length, image_follows, IsImage-read, used_in-le, store_in-image, store_in_cases}
use Rattle.store_image.specs.{IsFault, IsFirstBad, IsImageOf, follows_rules, is_length, slot_count, store_in, store_read, used_in}
use Rattle.plain_store.specs.{Contents, empty_store}
use Rattle.store_image.specs.declared.image.BadImage.TheVariants.{Length, Slot}
use Rattle.store_image.proofs.image.Image.read.Goals as goal

no_length : (b : Bool) (n : ℕ) → (if b then Some n else None) ≡ None → b ≡ false
no_length true n none = cc
no_length false n none = refl

some_length : (b : Bool) (n m : ℕ) → (if b then Some n else None) ≡ Some m → (b ≡ true) × (n ≡ m)
some_length true n m some = (refl, cc)
some_length false n m some = cc

bad_length : (c : goal.In_default) → is_length c.args.callers (length c.args.bytes.now) ≡ false
bad_length c = no_length (is_length c.args.callers (length c.args.bytes.now)) (slot_count c.args.callers (length c.args.bytes.now)) (sym c.slot_count.ensures ∙ c.in_default.is)

pub returns-in_default-clause-accepts : goal.returns-in_default-clause-accepts
returns-in_default-clause-accepts c = ((λ bad. cc), λ image. sym (bad_length c) ∙ image_is_length c.args.callers c.args.bytes.now image.0 image.1)

pub returns-in_default-clause-faultless : goal.returns-in_default-clause-faultless
returns-in_default-clause-faultless c = ((λ bad. cc), λ none. absurd (none Length (bad_length c)))

-- the length is right if the number of slots is known
right_length : (callers n slots : ℕ) (count : Option ℕ) → count ≡ (if is_length callers n then Some (slot_count callers n) else None) → count ≡ Some slots → (is_length callers n ≡ true) × (slot_count callers n ≡ slots)
right_length callers n slots count reported some = some_length (is_length callers n) (slot_count callers n) slots (sym reported ∙ some)

-- the consequences of a right length
long : (callers n slots : ℕ) → is_length callers n ≡ true → slot_count callers n ≡ slots → (1 ≤ slots) × (slots ≤ 8) × (n ≡ 23 * slots + 2 * callers)
long callers n slots right same =
    let all : ((1 ≤ slot_count callers n) × (slot_count callers n ≤ 8)) × (n ≡ 23 * slot_count callers n + 2 * callers) = grind (arith, nat_tests) in
    (omega (arith, all), omega (arith, all), omega (arith, all))

-- a first bad slot is a fault, and no image has one
bad_slot : (c : goal.In-Some-first_bad) → IsFault c.args.callers c.args.bytes.now (Slot c.in-Some-first_bad.place)
bad_slot c =
    let right : (is_length c.args.callers (length c.args.bytes.now) ≡ true) × (slot_count c.args.callers (length c.args.bytes.now) ≡ c.in-Some.slots) = right_length c.args.callers (length c.args.bytes.now) c.in-Some.slots c.slot_count.result c.slot_count.ensures c.in-Some.is in
    let count : c.from-count.result ≡ slot_count c.args.callers (length c.args.bytes.now) = c.from-count.ensures ∙ sym right.1 in
    (right.0, subst (λ (slots : ℕ). IsFirstBad slots c.args.bytes.now c.in-Some-first_bad.place) count c.in-Some-first_bad.ensures.bad)

no_image : (c : goal.In-Some-first_bad) → ((s : Contents) × IsImageOf c.args.callers c.args.bytes.now s) → false ≡ true
no_image c image =
    let first = (bad_slot c).1 in
    let near : c.in-Some-first_bad.place < image.0.slots = omega (arith, first.within, image_slots c.args.callers c.args.bytes.now image.0 image.1) in
    sym first.bad ∙ image_follows c.args.callers c.args.bytes.now image.0 image.1 c.in-Some-first_bad.place near

pub returns-in-Some-first_bad-clause-accepts : goal.returns-in-Some-first_bad-clause-accepts
returns-in-Some-first_bad-clause-accepts c = ((λ bad. cc), no_image c)

pub returns-in-Some-first_bad-clause-faultless : goal.returns-in-Some-first_bad-clause-faultless
returns-in-Some-first_bad-clause-faultless c = ((λ bad. cc), λ none. absurd (none (Slot c.in-Some-first_bad.place) (bad_slot c)))

right : (c : goal.After-pad) → (is_length c.args.callers (length c.args.bytes.now) ≡ true) × (slot_count c.args.callers (length c.args.bytes.now) ≡ c.in-Some.slots)
right c = right_length c.args.callers (length c.args.bytes.now) c.in-Some.slots c.slot_count.result c.slot_count.ensures c.in-Some.is

follow : (c : goal.After-pad) (j : ℕ) → j < c.in-Some.slots → follows_rules c.args.bytes.now j ≡ true
follow c j below = c.in_default-first_bad.ensures.none j (omega (arith, below, c.from-count.ensures))

-- the store that was read
read : (c : goal.After-pad) → (s : Contents) × IsImageOf c.args.callers c.args.bytes.now s
read c =
    let all : (1 ≤ c.in-Some.slots) × (c.in-Some.slots ≤ 8) × (length c.args.bytes.now ≡ 23 * c.in-Some.slots + 2 * c.args.callers) = long c.args.callers (length c.args.bytes.now) c.in-Some.slots (right c).0 (right c).1 in
    image_read c.args.callers c.in-Some.slots c.args.bytes.now c.requires all.0 all.1 all.2 (λ (i : ℕ). (c.type_inv.bytes i).fits) (follow c)

slots : (c : goal.After-pad) → (read c).0.slots ≡ c.in-Some.slots
slots c = sym (image_slots c.args.callers c.args.bytes.now (read c).0 (read c).1) ∙ (right c).1

image : (c : goal.After-pad) → IsImage (read c).0 c.used_slots-used.result c.in-Some.slots c.args.callers c.pad.result
image c =
    let counted : c.used_slots-used.result ≡ used_in c.in-Some.slots c.args.bytes.now = c.used_slots-used.ensures ∙ ap (λ n. used_in n c.args.bytes.now) c.from-count.ensures in
    subst (λ (bytes : List ℕ). IsImage (read c).0 c.used_slots-used.result c.in-Some.slots c.args.callers bytes) (sym c.pad.ensures)
    (IsImage-read c.args.callers c.in-Some.slots c.used_slots-used.result c.args.bytes.now (read c).0 (read c).1 (slots c) counted)

pub overflow_cast-used : goal.overflow_cast-used
overflow_cast-used c =
    let few : c.in-Some.slots ≤ 8 = (long c.args.callers (length c.args.bytes.now) c.in-Some.slots (right_length c.args.callers (length c.args.bytes.now) c.in-Some.slots c.slot_count.result c.slot_count.ensures c.in-Some.is).0 (right_length c.args.callers (length c.args.bytes.now) c.in-Some.slots c.slot_count.result c.slot_count.ensures c.in-Some.is).1).1 in
    omega (arith, few, c.from-count.ensures, c.used_slots-used.ensures, used_in-le c.from-count.result c.args.bytes.now)

pub invariant_of-result : goal.invariant_of-result
invariant_of-result c = kept_image (read c).0 _ _ _ _ (read c).1.store (image c)

same : (c : goal.After-pad) → store_read c.used_slots-used.result c.in-Some.slots c.args.callers c.pad.result ≡ (read c).0
same c = store_read-image (read c).0 _ _ _ _ (read c).1.store (image c)

pub returns-clause-accepts : goal.returns-clause-accepts
returns-clause-accepts c = ((λ good. read c), λ image. refl)

pub returns-clause-store : goal.returns-clause-store
returns-clause-store c = subst (IsImageOf c.args.callers c.args.bytes.now) (sym (same c)) (read c).1

pub returns-clause-known : goal.returns-clause-known
returns-clause-known c =
    let s = (read c).0 in
    subst (λ (t : Contents). t ≡ store_in t.slots c.args.callers c.args.bytes.now) (sym (same c))
    (sym (store_in-image s.slots c.args.callers c.args.bytes.now s (read c).1 refl))

-- bytes that are not an image represent the empty store
empty : (callers slots : ℕ) (bytes : List ℕ) → (((s : Contents) × IsImageOf callers bytes s) → ⊥) → callers ≤ 16 → 1 ≤ slots → slots ≤ 8 → store_in slots callers bytes ≡ empty_store slots callers
empty callers slots bytes none few_callers some few = by (store_in_cases slots callers bytes some few few_callers)
  where
    by : IsImageOf callers bytes (store_in slots callers bytes) ⊎ (store_in slots callers bytes ≡ empty_store slots callers) → store_in slots callers bytes ≡ empty_store slots callers
    by (inl image) = absurd (none (store_in slots callers bytes, image))
    by (inr same) = same

false_true : false ≡ true → ⊥
false_true bad = cc

pub returns-in_default-clause-unknown : goal.returns-in_default-clause-unknown
returns-in_default-clause-unknown c = λ slots some few. empty c.args.callers slots c.args.bytes.now (λ image. false_true (sym (bad_length c) ∙ image_is_length c.args.callers c.args.bytes.now image.0 image.1)) c.requires some few

pub returns-in-Some-first_bad-clause-unknown : goal.returns-in-Some-first_bad-clause-unknown
returns-in-Some-first_bad-clause-unknown c = λ slots some few. empty c.args.callers slots c.args.bytes.now (λ image. false_true (no_image c image)) c.requires some few
