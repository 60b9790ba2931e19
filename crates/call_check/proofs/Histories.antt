-- The history of a good verdict: place by place, first the calls that change nothing, then the change.
use Rattle.std.proofs.Common.{◌≡◌, ℕ, zero, suc, ◌<◌, ◌≤◌, ◌&&◌, not, nat_lt, Bool, true, false, List, [], ◌∷◌, ◌++◌, length, Some, refl, sym, ap, subst, ◌∙◌, arith}
use Rattle.std.specs.List.{All, filter, flat_map, slice_index_or}
use Rattle.std.proofs.lemmas.Bool.Decides.{nat_tests}
use Rattle.std.proofs.lemmas.List.Elements.{All-cons, All-filter, All-head, All-nil, All-tail, filter_passes}
use Rattle.plain_store.specs.{Contents, Setup, changes, opening_store, reply_to}
use Rattle.store_image.specs.{image_of}
use Rattle.call_check.specs.{AreAnsweredFrom, AreGood, Call, GoodIsOneHistory, IsAnsweredBy, IsHistoryOf, IsImageAfter, IsOfItsStore, all_calls, call_lists, caller_of, changes_at, fits_place, is_place, number_of_changes, store_below, store_through}
use Rattle.model.specs.{Placed}
use Rattle.call_check.proofs.Answering.{answered_append, answered_from, one_answered, place_from, quiet_answered, quiet_through, through_append}
use Rattle.call_check.proofs.Counting.{changing_is, changing_of}
use Rattle.call_check.proofs.SecondReading.{good_is_said}
use Rattle.call_check.proofs.InPlaces.{all_at, all_below, sorted_is_merge}
use Rattle.call_check.proofs.ListsInOrder.{changes_in, filter_lists, in_order_from, place_of}

-- the parts of a conjunction
and_first : (a b : Bool) → (a && b) ≡ true → a ≡ true
and_first true b is = refl
and_first false b is = absurd (cc)

and_not : (a b : Bool) → (a && not b) ≡ true → b ≡ false
and_not true true is = absurd (cc)
and_not true false is = refl
and_not false b is = absurd (cc)

-- a property of each element that follows from two others
All-both : {A : Type 0} (P Q R : A → Type 0) (xs : List A) → ((x : A) → P x → Q x → R x) → All P xs → All Q xs → All R xs
All-both P Q R [] by p q = All-nil R
All-both P Q R (x ∷ xs) by p q = All-cons R x xs (by x (All-head P x xs p) (All-head Q x xs q)) (All-both P Q R xs by (All-tail P x xs p) (All-tail Q x xs q))

module _ (s : Setup) (lists : List (List Placed)) (image : Contents) (good : AreGood s lists) (at_end : IsImageAfter s (all_calls lists) image) where
  -- the calls at place k that change nothing
  abbrev pub quiet_of : ℕ → List Call
  quiet_of k = filter (λ (call : Call). is_place k call.placed.place && not (changes (store_below s (all_calls lists) k) call.placed.command)) (all_calls lists)

  -- the calls at place k: those that change nothing, and the change
  at_place : (k : ℕ) → all_at place_of (changes_in s (all_calls lists)) k (call_lists lists) ≡ quiet_of k ++ changes_at (all_calls lists) k (store_below s (all_calls lists) k)
  at_place k =
      let quiet : flat_map (λ xs. filter (λ (call : Call). is_place k call.placed.place && not (changes (store_below s (all_calls lists) k) call.placed.command)) xs) (call_lists lists) ≡ quiet_of k
      = filter_lists (λ (call : Call). is_place k call.placed.place && not (changes (store_below s (all_calls lists) k) call.placed.command)) 0 lists in
      let changing : flat_map (λ xs. filter (λ (call : Call). is_place k call.placed.place && changes (store_below s (all_calls lists) k) call.placed.command) xs) (call_lists lists) ≡ changing_of s (all_calls lists) k (all_calls lists)
      = filter_lists (λ (call : Call). is_place k call.placed.place && changes (store_below s (all_calls lists) k) call.placed.command) 0 lists in
      let one : changes_at (all_calls lists) k (store_below s (all_calls lists) k) ≡ changing_of s (all_calls lists) k (all_calls lists) = changing_is s (all_calls lists) k in
      λ i. quiet i ++ (changing ∙ sym one) i

  -- a call at place k has its answer from the store there
  answered : (k : ℕ) (call : Call) → IsOfItsStore s (all_calls lists) call → fits_place call.placed.place call.placed.answer ≡ true → is_place k call.placed.place ≡ true → IsAnsweredBy s (store_below s (all_calls lists) k) call
  answered k call own fits here =
      let at : call.placed.place ≡ Some k = place_from k call.placed.place here in
      answered_from (reply_to (store_below s (all_calls lists) k) call.placed.command (caller_of s call)) call.placed.place k call.placed.answer at fits (own k at).1

  all_answered : (k : ℕ) (test : Call → Bool) → All (λ (call : Call). is_place k call.placed.place ≡ true) (filter test (all_calls lists)) → All (IsAnsweredBy s (store_below s (all_calls lists) k)) (filter test (all_calls lists))
  all_answered k test here =
      All-both (λ (call : Call). IsOfItsStore s (all_calls lists) call × (fits_place call.placed.place call.placed.answer ≡ true)) (λ (call : Call). is_place k call.placed.place ≡ true) (IsAnsweredBy s (store_below s (all_calls lists) k)) (filter test (all_calls lists))
      (λ call both at. answered k call both.0 both.1 at)
      (All-filter test (λ (call : Call). IsOfItsStore s (all_calls lists) call × (fits_place call.placed.place call.placed.answer ≡ true)) (all_calls lists) (λ i d lt. (good.of_store i d lt, good.places i d lt)))
      here

  quiet_there : (k : ℕ) → AreAnsweredFrom s (store_below s (all_calls lists) k) (quiet_of k) × (store_through s (store_below s (all_calls lists) k) (quiet_of k) ≡ store_below s (all_calls lists) k)
  quiet_there k = (
    quiet_answered s (store_below s (all_calls lists) k) (quiet_of k) nothing (all_answered k test (λ i d lt. let both = passes i d lt in and_first (is_place k (place_of (slice_index_or (quiet_of k) i d))) (not (changes (store_below s (all_calls lists) k) (slice_index_or (quiet_of k) i d).placed.command)) both)),
    quiet_through s (store_below s (all_calls lists) k) (quiet_of k) nothing,
  )
    where
      test : Call → Bool
      test = λ (call : Call). is_place k call.placed.place && not (changes (store_below s (all_calls lists) k) call.placed.command)

      passes : All (λ (call : Call). (is_place k call.placed.place && not (changes (store_below s (all_calls lists) k) call.placed.command)) ≡ true) (quiet_of k)
      passes = filter_passes (λ (call : Call). is_place k call.placed.place && not (changes (store_below s (all_calls lists) k) call.placed.command)) (all_calls lists)

      nothing : All (λ (call : Call). changes (store_below s (all_calls lists) k) call.placed.command ≡ false) (quiet_of k)
      nothing = λ i d lt. and_not (is_place k (place_of (slice_index_or (quiet_of k) i d))) (changes (store_below s (all_calls lists) k) (slice_index_or (quiet_of k) i d).placed.command) (passes i d lt)

  few : (k : ℕ) → k ≤ number_of_changes s (all_calls lists) → length (changing_of s (all_calls lists) k (all_calls lists)) ≤ 1
  few k le = by (nat_lt k (number_of_changes s (all_calls lists))) refl
    where
      by : (b : Bool) → nat_lt k (number_of_changes s (all_calls lists)) ≡ b → length (changing_of s (all_calls lists) k (all_calls lists)) ≤ 1
      by true is =
          let one : length (changes_at (all_calls lists) k (store_below s (all_calls lists) k)) ≡ 1 = good.one_at_each k (grind (arith, nat_tests)) in
          let same : length (changes_at (all_calls lists) k (store_below s (all_calls lists) k)) ≡ length (changing_of s (all_calls lists) k (all_calls lists)) = ap length (changing_is s (all_calls lists) k) in
          omega (arith, one, same)
      by false is =
          let none : length (changes_at (all_calls lists) k (store_below s (all_calls lists) k)) ≡ 0 = ap length (good.none_behind k (grind (arith, nat_tests))) in
          let same : length (changes_at (all_calls lists) k (store_below s (all_calls lists) k)) ≡ length (changing_of s (all_calls lists) k (all_calls lists)) = ap length (changing_is s (all_calls lists) k) in
          omega (arith, none, same)

  change_there : (k : ℕ) → k ≤ number_of_changes s (all_calls lists) → AreAnsweredFrom s (store_below s (all_calls lists) k) (changes_at (all_calls lists) k (store_below s (all_calls lists) k))
  change_there k le =
      subst (λ (xs : List Call). AreAnsweredFrom s (store_below s (all_calls lists) k) xs) (sym (changing_is s (all_calls lists) k))
      (one_answered s (store_below s (all_calls lists) k) (changing_of s (all_calls lists) k (all_calls lists)) (few k le)
      (all_answered k (λ (call : Call). is_place k call.placed.place && changes (store_below s (all_calls lists) k) call.placed.command)
      (λ i d lt. and_first (is_place k (place_of (slice_index_or (changing_of s (all_calls lists) k (all_calls lists)) i d))) (changes (store_below s (all_calls lists) k) (slice_index_or (changing_of s (all_calls lists) k (all_calls lists)) i d).placed.command)
      (filter_passes (λ (call : Call). is_place k call.placed.place && changes (store_below s (all_calls lists) k) call.placed.command) (all_calls lists) i d lt))))

  -- one place leads from its store to the next
  one_place : (k : ℕ) → k ≤ number_of_changes s (all_calls lists)
      → AreAnsweredFrom s (store_below s (all_calls lists) k) (all_at place_of (changes_in s (all_calls lists)) k (call_lists lists)) × (store_through s (store_below s (all_calls lists) k) (all_at place_of (changes_in s (all_calls lists)) k (call_lists lists)) ≡ store_below s (all_calls lists) (suc k))
  one_place k le =
      subst (λ (xs : List Call). AreAnsweredFrom s (store_below s (all_calls lists) k) xs × (store_through s (store_below s (all_calls lists) k) xs ≡ store_below s (all_calls lists) (suc k))) (sym (at_place k)) (
        answered_append s (store_below s (all_calls lists) k) (quiet_of k) (changes_at (all_calls lists) k (store_below s (all_calls lists) k)) quiet.0
            (subst (λ (st : Contents). AreAnsweredFrom s st (changes_at (all_calls lists) k (store_below s (all_calls lists) k))) (sym quiet.1) (change_there k le)),
        through_append s (store_below s (all_calls lists) k) (quiet_of k) (changes_at (all_calls lists) k (store_below s (all_calls lists) k)) ∙ ap (λ (st : Contents). store_through s st (changes_at (all_calls lists) k (store_below s (all_calls lists) k))) quiet.1,
      )
    where
      quiet : AreAnsweredFrom s (store_below s (all_calls lists) k) (quiet_of k) × (store_through s (store_below s (all_calls lists) k) (quiet_of k) ≡ store_below s (all_calls lists) k)
      quiet = quiet_there k

  -- the places in turn
  all_places : (n : ℕ) → n ≤ suc (number_of_changes s (all_calls lists))
      → AreAnsweredFrom s (opening_store s) (all_below place_of (changes_in s (all_calls lists)) n (call_lists lists)) × (store_through s (opening_store s) (all_below place_of (changes_in s (all_calls lists)) n (call_lists lists)) ≡ store_below s (all_calls lists) n)
  all_places zero le = (tt, refl)
  all_places (suc n) le = join (all_places n (omega arith)) (one_place n (omega arith))
    where
      before : List Call
      before = all_below place_of (changes_in s (all_calls lists)) n (call_lists lists)

      here : List Call
      here = all_at place_of (changes_in s (all_calls lists)) n (call_lists lists)

      join : AreAnsweredFrom s (opening_store s) before × (store_through s (opening_store s) before ≡ store_below s (all_calls lists) n)
          → AreAnsweredFrom s (store_below s (all_calls lists) n) here × (store_through s (store_below s (all_calls lists) n) here ≡ store_below s (all_calls lists) (suc n))
          → AreAnsweredFrom s (opening_store s) (before ++ here) × (store_through s (opening_store s) (before ++ here) ≡ store_below s (all_calls lists) (suc n))
      join first next = (
        answered_append s (opening_store s) before here first.0 (subst (λ (st : Contents). AreAnsweredFrom s st here) (sym first.1) next.0),
        through_append s (opening_store s) before here ∙ ap (λ (st : Contents). store_through s st here) first.1 ∙ next.1,
      )

  -- no change has the last place
  ends : store_below s (all_calls lists) (suc (number_of_changes s (all_calls lists))) ≡ store_below s (all_calls lists) (number_of_changes s (all_calls lists))
  ends = ap (λ (xs : List Call). store_through s (store_below s (all_calls lists) (number_of_changes s (all_calls lists))) xs) (good.none_behind (number_of_changes s (all_calls lists)) (omega arith))

  pub has_history : (history : List Call) × IsHistoryOf s lists image history
  has_history = (
    all_below place_of (changes_in s (all_calls lists)) (suc (number_of_changes s (all_calls lists))) (call_lists lists),
    record {
      merged = sorted_is_merge place_of (changes_in s (all_calls lists)) (suc (number_of_changes s (all_calls lists))) (call_lists lists) (in_order_from s (all_calls lists) (suc (number_of_changes s (all_calls lists))) 0 lists good.in_order within);
      answered = all.0;
      at_end = at_end ∙ ap image_of (sym ends) ∙ ap image_of (sym all.1);
    },
  )
    where
      within : All (λ (call : Call). (k : ℕ) → call.placed.place ≡ Some k → k < suc (number_of_changes s (all_calls lists))) (all_calls lists)
      within i d lt k at = let le : k ≤ number_of_changes s (all_calls lists) = (good.of_store i d lt k at).0 in omega arith

      all : AreAnsweredFrom s (opening_store s) (all_below place_of (changes_in s (all_calls lists)) (suc (number_of_changes s (all_calls lists))) (call_lists lists)) × (store_through s (opening_store s) (all_below place_of (changes_in s (all_calls lists)) (suc (number_of_changes s (all_calls lists))) (call_lists lists)) ≡ store_below s (all_calls lists) (suc (number_of_changes s (all_calls lists))))
      all = all_places (suc (number_of_changes s (all_calls lists))) (omega arith)

pub one_history : GoodIsOneHistory
one_history s lists image weighed =
    let good = (good_is_said s lists image).0 weighed in
    has_history s lists image good.0 good.1
