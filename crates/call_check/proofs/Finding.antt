-- The verdict.
use Rattle.std.proofs.Common.{◌≡◌, ℕ, ◌+◌, ◌<◌, ◌≤◌, ◌==◌, Bool, false, List, length, get_or, Some, All, Ok, refl, sym, ap, subst, ◌∙◌, arith, ⊎_elim}
use Rattle.std.proofs.lemmas.Bool.{cases_lt}
use Rattle.std.proofs.lemmas.Bool.Decides.{nat_tests}
use Rattle.std.proofs.lemmas.List.{length-map}
use Rattle.std.proofs.lemmas.Option.{slice_get-map, slice_get_read, slice_get_within}
use Rattle.std.specs.Global.{Vec}
use Rattle.std.specs.List.{slice_get}
use Rattle.std.specs.Option.{option_map}
use Rattle.plain_store.specs.{Contents, Setup, checked}
use Rattle.plain_store.proofs.GoodSetups.{few-processes, good-checked}
use Rattle.model.specs.{Placed, lists_of}
use Rattle.call_check.specs.{AreFew, IsBadAt, IsBadIn, IsFollowed, IsLowestBad, IsVerdict, IsWeighed, NoneIsBad, Note, Weighed, all_calls}
use Rattle.call_check.proofs.CallNotes.{from_some}
use Rattle.call_check.proofs.AllCalls.{all_few}

-- few calls

is_two : (s : Setup) → checked s ≡ Ok tt → (s.version == 1) ≡ false → s.version ≡ 2
is_two s good other = let version = (good-checked s good).version in grind (arith, nat_tests)

lists_few : (s : Setup) (vecs : List (Vec Placed)) → checked s ≡ Ok tt → (s.version ≡ 2 → length vecs ≤ s.processes) → (s.version == 1) ≡ false → length (lists_of vecs) ≤ 16
lists_few s vecs good lists other =
    let few : length vecs ≤ s.processes = lists (is_two s good other) in
    let most : s.processes ≤ 16 = few-processes s good in
    let size : length (lists_of vecs) ≡ length vecs = length-map vecs (λ (v : Vec Placed). v.items) in
    omega (arith, few, most, size)

pub few_all : (s : Setup) (vecs : List (Vec Placed)) → checked s ≡ Ok tt → (s.version ≡ 2 → length vecs ≤ s.processes) → (s.version ≡ 2 → All (λ (list : List Placed). length list ≤ 65535) (lists_of vecs)) → AreFew s (all_calls (lists_of vecs))
few_all s vecs good lists calls = all_few s 0 (lists_of vecs) (λ other.
    let most : length (lists_of vecs) ≤ 16 = lists_few s vecs good lists other in
    (omega (arith, most), calls (is_two s good other)))

-- a list of the lists
pub list_there : (vecs : List (Vec Placed)) (p : ℕ) (v : Vec Placed) → p < length vecs → v ≡ get_or vecs p v → slice_get (lists_of vecs) p ≡ Some v.items
list_there vecs p v within at = slice_get-map (λ (w : Vec Placed). w.items) vecs p ∙ ap (option_map (λ (w : Vec Placed). w.items)) (slice_get_read vecs (length vecs) p v refl within at)

-- the lists so far

bad_in_it : (s : Setup) (vecs : List (Vec Placed)) (c : ℕ) (store : Contents) (p j : ℕ) (v : Vec Placed) → p < length vecs → v ≡ get_or vecs p v → IsBadAt s (lists_of vecs) c store p j → IsBadIn s (all_calls (lists_of vecs)) c store p v.items j
bad_in_it s vecs c store p j v within at (list, there, bad) =
    let same : list ≡ v.items = from_some list v.items (sym there ∙ list_there vecs p v within at) in
    subst (λ (l : List Placed). IsBadIn s (all_calls (lists_of vecs)) c store p l j) same bad

pub none_more : (s : Setup) (vecs : List (Vec Placed)) (c : ℕ) (store : Contents) (p : ℕ) (v : Vec Placed) → p < length vecs → v ≡ get_or vecs p v → ((q j : ℕ) → q < p → IsBadAt s (lists_of vecs) c store q j → ⊥) → ((j : ℕ) → IsBadIn s (all_calls (lists_of vecs)) c store p v.items j → ⊥) → (q j : ℕ) → q < p + 1 → IsBadAt s (lists_of vecs) c store q j → ⊥
none_more s vecs c store p v within at before good q j l bad = ⊎_elim
    (λ (lower : q < p). before q j lower bad)
    (λ (past : p ≤ q).
    let here : q ≡ p = omega (arith, l, past) in
    let bad_here : IsBadAt s (lists_of vecs) c store p j = subst (λ m. IsBadAt s (lists_of vecs) c store m j) here bad in
    good j (bad_in_it s vecs c store p j v within at bad_here))
    (cases_lt q p)

pub lowest_bad : (s : Setup) (vecs : List (Vec Placed)) (c : ℕ) (store : Contents) (p i : ℕ) (v : Vec Placed) → p < length vecs → v ≡ get_or vecs p v → ((q j : ℕ) → q < p → IsBadAt s (lists_of vecs) c store q j → ⊥) → IsBadIn s (all_calls (lists_of vecs)) c store p v.items i → ((j : ℕ) → j < i → IsBadIn s (all_calls (lists_of vecs)) c store p v.items j → ⊥) → IsLowestBad s (lists_of vecs) c store p i
lowest_bad s vecs c store p i v within at before bad good = record {
  bad = (v.items, list_there vecs p v within at, bad);
  lowest = λ q j lower there. ⊎_elim
      (λ (l : q < p). before q j l there)
      (λ (here : (q ≡ p) × (j < i)). good j here.1 (bad_in_it s vecs c store p j v within at (subst (λ m. IsBadAt s (lists_of vecs) c store m j) here.0 there)))
      lower;
}

pub none_at_all : (s : Setup) (vecs : List (Vec Placed)) (c : ℕ) (store : Contents) (p : ℕ) → length vecs ≤ p → ((q j : ℕ) → q < p → IsBadAt s (lists_of vecs) c store q j → ⊥) → NoneIsBad s (lists_of vecs) c store
none_at_all s vecs c store p over before q j (list, there, bad) =
    let within : q < length (lists_of vecs) = slice_get_within (lists_of vecs) q list there in
    let size : length (lists_of vecs) ≡ length vecs = length-map vecs (λ (v : Vec Placed). v.items) in
    before q j (omega (arith, within, size, over)) (list, there, bad)

pub weighed : (s : Setup) (lists : List (List Placed)) (image : Contents) (notes : List Note) (c : ℕ) (store : Contents) (several : Bool) (verdict : Weighed) → IsFollowed s (all_calls lists) notes c store several → IsVerdict s lists image c store verdict → IsWeighed s lists image verdict
weighed s lists image notes c store several verdict followed is = record { c = c; store = store; end = record { last = followed.last; ends = followed.ends }; verdict = is }
