-- A command keeps a store that has an image, and one that doesn't change the store leaves it as it is.
use Rattle.std.proofs.Common.{◌≡◌, ℕ, ℤ, ◌+ℤ◌, ◌^◌, ◌<◌, Bool, true, false, not, ◌&&◌, List, length, slice_set, if◌then◌else◌, Option, None, Some, IsSome, refl, sym, ap, ◌∙◌, subst, nat_lt}
use Rattle.std.proofs.lemmas.Bool.{and_from, and_parts}
use Rattle.std.proofs.lemmas.List.{length-set}
use Rattle.plain_store.specs.{Caller, Command, Contents, Pair, Setup, Value, added, after, at_absent, at_present, changes, fits_i64, is_command, is_name, is_new, is_value, name_of, number_of, outcome, outcome_in, pairs_after, replies, same_value, value_at, value_for, with_written, writes}
use Rattle.plain_store.specs.declared.Command.TheVariants.{Read, Write, Add, Cas, Ask}
use Rattle.plain_store.specs.declared.commands.Reply.TheVariants as reply
use Rattle.plain_store.specs.declared.commands.Value.TheVariants.{Count, Text}
use Rattle.model.specs.store_image.{IsStore, place_for}
use Rattle.plain_store.proofs.Changes.{put-same, same_value-Decides}
use Rattle.model.proofs.store_image.Puts.{IsStore-with_number, IsStore-with_pair, written_room}
use Rattle.history_laws.proofs.Sound.{IsStoreOf}

-- The values that a command writes.

none_is_some : {X : Type 0} (x : Value) → None ≡ Some x → X
none_is_some x h = cc

same_some : (x y : Value) → Some x ≡ Some y → x ≡ y
same_some x y h = cc

-- the name of a command is a name
name_good : (command : Command) (name : List ℕ) → is_command command ≡ true → name_of command ≡ Some name → is_name name ≡ true
name_good (Read n) name good named = let same : n ≡ name = cc in ap is_name (sym same) ∙ good
name_good (Write n x) name good named = let same : n ≡ name = cc in ap is_name (sym same) ∙ (and_parts (is_name n) (is_value x) good).0
name_good (Add n d) name good named = let same : n ≡ name = cc in ap is_name (sym same) ∙ (and_parts (is_name n) (fits_i64 d) good).0
name_good (Cas n x y) name good named = let same : n ≡ name = cc in ap is_name (sym same) ∙ (and_parts (is_name n) (is_value x && is_value y) good).0
name_good Ask name good named = cc

-- if the name is absent, only a `Write` writes
absent_good : (room : Bool) (last : ℕ) (command : Command) (x : Value) → is_command command ≡ true → (at_absent room last command).written ≡ Some x → is_value x ≡ true
absent_good room last (Read n) x good written = none_is_some x written
absent_good true last (Write n y) x good written = ap is_value (sym (same_some y x written)) ∙ (and_parts (is_name n) (is_value y) good).1
absent_good _ last _ x good written = none_is_some x written

-- a sum that is written fits
sum_good : (a d : ℤ) (x : Value) → (added (Count a) d).written ≡ Some x → is_value x ≡ true
sum_good a d x written = go (fits_i64 (a +ℤ d)) refl written
  where
    go : (b : Bool) → fits_i64 (a +ℤ d) ≡ b → (if b then writes (reply.Sum (a +ℤ d)) (Count (a +ℤ d)) else replies reply.Overflow).written ≡ Some x → is_value x ≡ true
    go true fits h = ap is_value (sym (same_some (Count (a +ℤ d)) x h)) ∙ fits
    go false fits h = none_is_some x h

present_good : (v : Value) (last : ℕ) (command : Command) (x : Value) → is_command command ≡ true → (at_present v last command).written ≡ Some x → is_value x ≡ true
present_good v last (Read n) x good written = none_is_some x written
present_good v last (Write n y) x good written = ap is_value (sym (same_some y x written)) ∙ (and_parts (is_name n) (is_value y) good).1
present_good (Count a) last (Add n d) x good written = sum_good a d x written
present_good (Text t) last (Add n d) x good written = none_is_some x written
present_good v last (Cas n y z) x good written =
    let values = (and_parts (is_name n) (is_value y && is_value z) good).1 in
    go (same_value v y) (and_parts (is_value y) (is_value z) values).1 written
  where
    go : (b : Bool) → is_value z ≡ true → (if b then writes reply.Swapped z else replies (reply.Kept v)).written ≡ Some x → is_value x ≡ true
    go true fits h = ap is_value (sym (same_some z x h)) ∙ fits
    go false fits h = none_is_some x h
present_good v last Ask x good written = none_is_some x written

-- a value that a command writes is valid
value_good : (before : Option Value) (room : Bool) (last : ℕ) (command : Command) (x : Value) → is_command command ≡ true → (outcome before room last command).written ≡ Some x → is_value x ≡ true
value_good None room last command x good written = absent_good room last command x good written
value_good (Some v) room last command x good written = present_good v last command x good written

-- The store after a command.

some_is : (written : Option Value) (x : Value) → written ≡ Some x → IsSome written
some_is written x h = subst IsSome (sym h) refl

-- the store with what was written
abbrev with_pairs : Contents → List Pair → Contents
with_pairs store pairs = record { pairs = pairs; slots = store.slots; numbers = store.numbers }

pairs_good : (store : Contents) (command : Command) → IsStore store → is_command command ≡ true → IsStore (with_pairs store (pairs_after store command))
pairs_good store command is good = go (name_of command) refl (outcome_in store command 0).written refl
  where
    room : IsSome (outcome_in store command 0).written → place_for store.pairs (name_of command) < store.slots
    room = written_room store command (number_of store.numbers 0) is.room

    go : (name : Option (List ℕ)) → name_of command ≡ name → (written : Option Value) → (outcome_in store command 0).written ≡ written → IsStore (with_pairs store (with_written store.pairs name written))
    go None named written wrote = is
    go (Some name) named None wrote = is
    go (Some name) named (Some x) wrote = IsStore-with_pair store name x is
        (and_from (is_name name) (is_value x) (name_good command name good named) (value_good (value_for store.pairs (name_of command)) (nat_lt (length store.pairs) store.slots) (number_of store.numbers 0) command x good wrote))
        (subst (λ n. place_for store.pairs n < store.slots) named (room (some_is (outcome_in store command 0).written x wrote)))

numbered : (b : Bool) (store : Contents) (p n : ℕ) → IsStore store → n < 2 ^ 16 → IsStore (record { pairs = store.pairs; slots = store.slots; numbers = if b then slice_set store.numbers p n else store.numbers })
numbered true store p n is small = IsStore-with_number store p n is small
numbered false store p n is small = is

as_many : (b : Bool) (numbers : List ℕ) (p n : ℕ) → length (if b then slice_set numbers p n else numbers) ≡ length numbers
as_many true numbers p n = length-set numbers p n
as_many false numbers p n = refl

-- the store after a command has an image too
pub after_is_store : (s : Setup) (store : Contents) (command : Command) (caller : Caller) → IsStoreOf s store → is_command command ≡ true → caller.number < 2 ^ 16 → IsStoreOf s (after store command caller)
after_is_store s store command caller is good small = record {
  store = numbered (changes store command) (with_pairs store (pairs_after store command)) caller.process caller.number (pairs_good store command is.store good) small;
  slots = is.slots;
  callers = as_many (changes store command) store.numbers caller.process caller.number ∙ is.callers;
}

-- A command that changes nothing.

not_false : (b : Bool) → not b ≡ false → b ≡ true
not_false true h = refl
not_false false h = cc

pairs_same : (pairs : List Pair) (name : Option (List ℕ)) (written : Option Value) → is_new (value_for pairs name) written ≡ false → with_written pairs name written ≡ pairs
pairs_same pairs None written old = refl
pairs_same pairs (Some name) None old = refl
pairs_same pairs (Some name) (Some x) old = go (value_at pairs name) refl old
  where
    go : (before : Option Value) → value_at pairs name ≡ before → is_new before (Some x) ≡ false → with_written pairs (Some name) (Some x) ≡ pairs
    go None there h = cc
    go (Some v) there h = put-same pairs name x (there ∙ ap Some ((same_value-Decides v x).0 (not_false (same_value v x) h)))

-- leaves the store as it is
pub after_is_same : (store : Contents) (command : Command) (caller : Caller) → changes store command ≡ false → after store command caller ≡ store
after_is_same store command caller old = λ i. record {
  pairs = pairs_same store.pairs (name_of command) (outcome_in store command 0).written old i;
  slots = store.slots;
  numbers = if old i then slice_set store.numbers caller.process caller.number else store.numbers;
}
