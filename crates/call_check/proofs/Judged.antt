-- Bad calls.
use Rattle.std.proofs.Common.{◌≡◌, ℕ, ◌+◌, ◌<◌, ◌≤◌, ◌||◌, ◌&&◌, max, Bool, true, false, List, [], ◌∷◌, ◌++◌, length, take, get_or, Some, IsTrue, refl, sym, ap, subst, ◌∙◌, arith, ⊎_elim, true≢false}
use Rattle.std.proofs.Math.Bool.{or-false}
use Rattle.std.proofs.lemmas.Bool.{cases_lt}
use Rattle.std.proofs.lemmas.Bool.Decides.{nat_tests}
use Rattle.std.proofs.lemmas.List.{take_more}
use Rattle.std.proofs.lemmas.List.Folds.{list_any-append}
use Rattle.std.proofs.lemmas.Option.{slice_get_read, slice_get_within}
use Rattle.std.specs.List.{slice_get}
use Rattle.std.specs.Prelude.{nat_le, nat_lt}
use Rattle.plain_store.specs.{Contents, Setup}
use Rattle.call_check.specs.{ArePart, Call, HasWrongReply, IsBad, IsBadIn, IsFollowed, IsJudged, IsLeast, IsNote, Note, above, falling, falls, is_above, is_one_of_several, is_other_with_place, is_past, is_reply_without_place, several, with_place, without_place, wrong_reply}
use Rattle.model.specs.{Placed}
use Rattle.call_check.proofs.CallNotes.{from_some}

-- if no other condition holds, a call is bad exactly if it has another answer and a place
pub bad_at_last : (s : Setup) (calls : List Call) (c : ℕ) (store : Contents) (earlier : List Placed) (call : Call) (result : Bool) → is_above c call.placed.place ≡ false → is_one_of_several calls c store call.placed ≡ false → falls s calls earlier call.placed.place ≡ false → (HasWrongReply s calls call → ⊥) → is_reply_without_place call.placed ≡ false → result ≡ is_other_with_place call.placed →
    IsBad s calls c store earlier call → IsTrue result
bad_at_last s calls c store earlier call result a b d w e f (above h) = absurd (true≢false (sym h ∙ a))
bad_at_last s calls c store earlier call result a b d w e f (several h) = absurd (true≢false (sym h ∙ b))
bad_at_last s calls c store earlier call result a b d w e f (falling h) = absurd (true≢false (sym h ∙ d))
bad_at_last s calls c store earlier call result a b d w e f (wrong_reply h) = absurd (w h)
bad_at_last s calls c store earlier call result a b d w e f (without_place h) = absurd (true≢false (sym h ∙ e))
bad_at_last s calls c store earlier call result a b d w e f (with_place h) = f ∙ h

-- the lowest bad call of a list

call_there : (list : List Placed) (i : ℕ) (placed : Placed) → i < length list → placed ≡ get_or list i placed → slice_get list i ≡ Some placed
call_there list i placed within at = slice_get_read list (length list) i placed refl within at

pub bad_in : (s : Setup) (calls : List Call) (c : ℕ) (store : Contents) (p : ℕ) (list : List Placed) (i : ℕ) (placed : Placed) → i < length list → placed ≡ get_or list i placed → IsBad s calls c store (take i list) (record { placed = placed; port = p; index = i }) → IsBadIn s calls c store p list i
bad_in s calls c store p list i placed within at bad = (placed, call_there list i placed within at, bad)

pub judged_more : (s : Setup) (calls : List Call) (c : ℕ) (store : Contents) (p : ℕ) (list : List Placed) (i least more : ℕ) (placed : Placed) → i < length list → placed ≡ get_or list i placed → IsJudged s calls c store p list i least → (IsBad s calls c store (take i list) (record { placed = placed; port = p; index = i }) → ⊥) → IsLeast s calls (take i list ++ placed ∷ []) more → IsJudged s calls c store p list (i + 1) more
judged_more s calls c store p list i least more placed within at judged good after = record {
  least_is = subst (λ (l : List Placed). IsLeast s calls l more) (ap (λ (x : Placed). take i list ++ x ∷ []) at ∙ sym (take_more list i placed within)) after;
  good = λ j l (bad : IsBadIn s calls c store p list j). ⊎_elim
      (λ (lower : j < i). judged.good j lower bad)
      (λ (past : i ≤ j).
      let here : j ≡ i = omega (arith, l, past) in
      let bad_here : IsBadIn s calls c store p list i = subst (λ m. IsBadIn s calls c store p list m) here bad in
      let same : bad_here.0 ≡ placed = from_some bad_here.0 placed (sym bad_here.1 ∙ call_there list i placed within at) in
      good (subst (λ (x : Placed). IsBad s calls c store (take i list) (record { placed = x; port = p; index = i })) same bad_here.2))
      (cases_lt j i);
}

pub none_bad : (s : Setup) (calls : List Call) (c : ℕ) (store : Contents) (p : ℕ) (list : List Placed) (i least : ℕ) → length list ≤ i → IsJudged s calls c store p list i least → (j : ℕ) → IsBadIn s calls c store p list j → ⊥
none_bad s calls c store p list i least over judged j bad =
    let within : j < length list = slice_get_within list j bad.0 bad.1 in
    judged.good j (omega (arith, within, over)) bad

-- the note of the present call
pub note_there : (s : Setup) (calls : List Call) (notes : List Note) (c : ℕ) (store : Contents) (several : Bool) (p before : ℕ) (list : List Placed) (i : ℕ) (placed : Placed) (note : Note) → ArePart calls p before list → IsFollowed s calls notes c store several → i < length list → placed ≡ get_or list i placed → note ≡ get_or notes (before + i) note → IsNote s calls (record { placed = placed; port = p; index = i }) note
note_there s calls notes c store more p before list i placed note part followed within at note_at =
    let call : Call = record { placed = placed; port = p; index = i } in
    let there : slice_get calls (before + i) ≡ Some call = part i placed (call_there list i placed within at) in
    let (own, own_there, own_is) = followed.each (before + i) call there in
    let note_is : slice_get notes (before + i) ≡ Some note = slice_get_read notes (length notes) (before + i) note refl (slice_get_within notes (before + i) own own_there) note_at in
    subst (λ (n : Note). IsNote s calls call n) (from_some own note (sym own_there ∙ note_is)) own_is

-- the least place that the earlier calls leave, with one call more
pub least_with : (s : Setup) (calls : List Call) (earlier : List Placed) (least then : ℕ) (placed : Placed) → IsLeast s calls earlier least → ((k : ℕ) → (nat_lt k least || is_past s calls k placed placed.place) ≡ nat_lt k then) → IsLeast s calls (earlier ++ placed ∷ []) then
least_with s calls earlier least then placed is more k =
    let past = λ (e : Placed). is_past s calls k e e.place in
    list_any-append past earlier (placed ∷ []) ∙ (λ i. is k i || or-false (past placed) i) ∙ more k

-- a place below the least, or below that of a call or not above it, where the call is a change
pub least_is_above : (k least place : ℕ) (changes : Bool) → (nat_lt k least || (nat_lt k place || (nat_le k place && changes))) ≡ nat_lt k (max least (place + mir.Val.bool_byte changes))
least_is_above k least place true = grind (arith, nat_tests)
least_is_above k least place false = grind (arith, nat_tests)
