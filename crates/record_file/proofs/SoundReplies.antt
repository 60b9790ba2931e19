-- A store that was read from an image has values and numbers in range, and its replies are in range too.
use Rattle.std.proofs.Common.{◌≡◌, ℕ, ℤ, zero, suc, ◌+ℤ◌, ◌<◌, ◌&&◌, nat_lt, Bool, true, false, if◌then◌else◌, cond, List, [], ◌∷◌, length, replicate, slice_index, Option, Some, None, refl, ap, ◌∙◌, arith}
use Rattle.std.proofs.lemmas.Bool.{and_from, and_parts}
use Rattle.std.proofs.lemmas.Bool.Decides.{nat_tests}
use Rattle.std.specs.List.{list_all}
use Rattle.std.specs.Str.{bytes_eq}
use Rattle.plain_store.specs.{Caller, Command, Contents, Pair, Value, added, at_absent, at_present, callers_of, empty_store, fits_i64, is_name, is_pair, is_value, name_of, names_differ, number_of, outcome, replies, reply_to, same_value, value_at, value_for, writes}
use Rattle.plain_store.specs.declared.commands.Command.TheVariants.{Read, Write, Add, Cas, Ask}
use Rattle.plain_store.specs.declared.commands.Reply.TheVariants as reply
use Rattle.plain_store.specs.declared.commands.Value.TheVariants.{Count, Text}
use Rattle.model.specs.store_image.{has_image, image_of, is_number, store_in, store_read as fields_read, used_in}
use Rattle.model.specs.{Call, bytes_of_bits, image_bytes, store_read}
use Rattle.record_file.specs.{is_reply}

-- a store whose pairs are pairs and whose numbers have 16 bits
abbrev pub is_sound : Contents → Bool
is_sound st = list_all is_pair st.pairs && list_all is_number st.numbers

no_calls : (n : ℕ) → list_all is_number (replicate n 0) ≡ true
no_calls zero = refl
no_calls (suc n) = no_calls n

image_sound : (slots callers : ℕ) (bytes : List ℕ) → is_sound (store_in slots callers bytes) ≡ true
unfolding store_in
image_sound slots callers bytes = go (fields_read (used_in slots bytes) slots callers bytes)
  where
    go : (st : Contents) → is_sound (if has_image st bytes then st else empty_store slots callers) ≡ true
    go st = by (has_image st bytes) refl
      where
        by : (b : Bool) → has_image st bytes ≡ b → is_sound (if b then st else empty_store slots callers) ≡ true
        by true is =
            let good = (and_parts (list_all is_pair st.pairs && names_differ st.pairs && list_all is_number st.numbers) (bytes_eq (image_of st) bytes) is).0 in
            let parts = and_parts (list_all is_pair st.pairs && names_differ st.pairs) (list_all is_number st.numbers) good in
            and_from (list_all is_pair st.pairs) (list_all is_number st.numbers) (and_parts (list_all is_pair st.pairs) (names_differ st.pairs) parts.0).0 parts.1
        by false is = no_calls callers

-- a store that is read from any bits
pub read_sound : (c : Call) (value : List Bool) → is_sound (store_read c value) ≡ true
read_sound c value = image_sound c.setup.slots (callers_of c.setup) (bytes_of_bits (image_bytes c.setup) value)

-- an element of a list of small numbers is small, and so is the 0 that is returned past its end
pub index_small : (most : ℕ) → 0 < most → (xs : List ℕ) (i : ℕ) → list_all (λ x. nat_lt x most) xs ≡ true → nat_lt (slice_index xs i) most ≡ true
index_small most some [] i all = grind (arith, nat_tests)
index_small most some (x ∷ xs) zero all = (and_parts (nat_lt x most) (list_all (λ x. nat_lt x most) xs) all).0
index_small most some (x ∷ xs) (suc i) all = index_small most some xs i (and_parts (nat_lt x most) (list_all (λ x. nat_lt x most) xs) all).1

value_found : (pairs : List Pair) (name : List ℕ) (v : Value) → list_all is_pair pairs ≡ true → value_at pairs name ≡ Some v → is_value v ≡ true
value_found [] name v good there = cc
value_found (p ∷ ps) name v good there = by (bytes_eq name p.0) (value_found ps name v (and_parts (is_pair p) (list_all is_pair ps) good).1) there
  where
    by : (b : Bool) → (value_at ps name ≡ Some v → is_value v ≡ true) → cond b (Some p.1) (value_at ps name) ≡ Some v → is_value v ≡ true
    by true rest is = let same : v ≡ p.1 = cc in ap is_value same ∙ (and_parts (is_name p.0) (is_value p.1) (and_parts (is_pair p) (list_all is_pair ps) good).0).1
    by false rest is = rest is

-- Replies.

sum_sound : (v : Value) (d : ℤ) → is_reply (added v d).reply ≡ true
sum_sound (Count a) d = by (fits_i64 (a +ℤ d)) refl
  where
    by : (b : Bool) → fits_i64 (a +ℤ d) ≡ b → is_reply (if b then writes (reply.Sum (a +ℤ d)) (Count (a +ℤ d)) else replies reply.Overflow).reply ≡ true
    by true fits = fits
    by false fits = refl
sum_sound (Text t) d = refl

absent_sound : (room : Bool) (last : ℕ) (command : Command) → nat_lt last 65536 ≡ true → is_reply (at_absent room last command).reply ≡ true
absent_sound room last (Read n) small = refl
absent_sound true last (Write n x) small = refl
absent_sound false last (Write n x) small = refl
absent_sound room last (Add n d) small = refl
absent_sound room last (Cas n x y) small = refl
absent_sound room last Ask small = small

present_sound : (v : Value) (last : ℕ) (command : Command) → is_value v ≡ true → nat_lt last 65536 ≡ true → is_reply (at_present v last command).reply ≡ true
present_sound v last (Read n) good small = good
present_sound v last (Write n x) good small = refl
present_sound v last (Add n d) good small = sum_sound v d
present_sound v last (Cas n x y) good small = by (same_value v x)
  where
    by : (b : Bool) → is_reply (if b then writes reply.Swapped y else replies (reply.Kept v)).reply ≡ true
    by true = refl
    by false = good
present_sound v last Ask good small = small

outcome_sound : (found : Option Value) (room : Bool) (last : ℕ) (command : Command) → ((v : Value) → found ≡ Some v → is_value v ≡ true) → nat_lt last 65536 ≡ true → is_reply (outcome found room last command).reply ≡ true
outcome_sound None room last command good small = absent_sound room last command small
outcome_sound (Some v) room last command good small = present_sound v last command (good v refl) small

named_found : (pairs : List Pair) (name : Option (List ℕ)) (v : Value) → list_all is_pair pairs ≡ true → value_for pairs name ≡ Some v → is_value v ≡ true
named_found pairs None v good there = cc
named_found pairs (Some name) v good there = value_found pairs name v good there

-- a reply of such a store fits
pub reply_sound : (st : Contents) (command : Command) (caller : Caller) → is_sound st ≡ true → is_reply (reply_to st command caller) ≡ true
reply_sound st command caller sound =
    let parts = and_parts (list_all is_pair st.pairs) (list_all is_number st.numbers) sound in
    outcome_sound (value_for st.pairs (name_of command)) (nat_lt (length st.pairs) st.slots) (number_of st.numbers caller.process) command
    (λ v there. named_found st.pairs (name_of command) v parts.0 there) (index_small 65536 (omega arith) st.numbers caller.process parts.1)
