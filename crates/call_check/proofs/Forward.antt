-- If the verdict is `Good`, the lists and the image are good, as defined over the lists.
use Rattle.std.proofs.Common.{◌≡◌, ◌≢◌, ℕ, suc, ◌<◌, ◌≤◌, ◌==◌, ◌&&◌, ◌||◌, nat_lt, nat_le, eqb-true, Bool, [], true, false, List, length, take, Some, refl, sym, ap, subst, ◌∙◌, arith}
use Rattle.std.specs.List.{All, AllPairs, slice_get, slice_index_or}
use Rattle.std.proofs.lemmas.Bool.{eqb-false}
use Rattle.std.proofs.lemmas.Option.{slice_get-get_or}
use Rattle.plain_store.specs.{Contents, Setup, reply_to}
use Rattle.call_check.specs.{AreGood, Call, ComesBefore, IsBad, IsEnd, IsOfItsStore, NoneIsBad, above, all_calls, caller_of, changes_at, falling, fits_place, is_change, is_one_of_several, is_past, number_of_changes, several, store_at, store_below, with_place, without_place, wrong_reply}
use Rattle.model.specs.{Placed}
use Rattle.call_check.proofs.Counting.{none_above, number_is}
use Rattle.call_check.proofs.Orders.{any_before, change_is, falls_is, fits_from, is_above-from, not_below, order_from, past_is}
use Rattle.call_check.proofs.Positions.{call_of, each_call}
use Rattle.call_check.proofs.Replies.{not_other}
use Rattle.call_check.proofs.StoresInTurn.{none_at_end, one_before, store_is, stores_before}

module _ (s : Setup) (lists : List (List Placed)) (c : ℕ) (store : Contents) (end : IsEnd s (all_calls lists) c store) (none : NoneIsBad s lists c store) where
  -- a call that is bad
  found : (p i : ℕ) (list : List Placed) (placed : Placed) → slice_get lists p ≡ Some list → slice_get list i ≡ Some placed → IsBad s (all_calls lists) c store (take i list) (call_of p i placed) → ⊥
  found p i list placed there here bad = none p i (list, there, (placed, here, bad))

  within : (p i : ℕ) (list : List Placed) (placed : Placed) → slice_get lists p ≡ Some list → slice_get list i ≡ Some placed → (k : ℕ) → placed.place ≡ Some k → k ≤ c
  within p i list placed there here k is = not_below c k (λ lt. found p i list placed there here (above (is_above-from c k placed.place is lt)))

  pub all_within : All (λ (call : Call). (k : ℕ) → call.placed.place ≡ Some k → k < suc c) (all_calls lists)
  all_within = each_call (λ (call : Call). (k : ℕ) → call.placed.place ≡ Some k → k < suc c) lists (λ p i list placed there here k is. let le : k ≤ c = within p i list placed there here k is in omega arith)

  pub nothing_at_end : changes_at (all_calls lists) c (store_below s (all_calls lists) c) ≡ []
  nothing_at_end =
      subst (λ (x : Contents). changes_at (all_calls lists) c x ≡ []) (store_is s (all_calls lists) c store end.last)
      (none_at_end s (all_calls lists) c store end.last end.ends (each_call (λ (call : Call). is_one_of_several (all_calls lists) c store call.placed ≡ true → ⊥) lists (λ p i list placed there here is. found p i list placed there here (several is))))

  pub one_each : (k : ℕ) → k < c → length (changes_at (all_calls lists) k (store_below s (all_calls lists) k)) ≡ 1
  one_each k lt = one_before s (all_calls lists) k (store_below s (all_calls lists) (suc k)) (stores_before s (all_calls lists) c (suc k) store end.last (omega arith))

  pub number : number_of_changes s (all_calls lists) ≡ c
  number = number_is s (all_calls lists) c all_within one_each nothing_at_end

  there_at : (k : ℕ) → k ≤ c → store_at s (all_calls lists) k ≡ Some (store_below s (all_calls lists) k)
  there_at k le = stores_before s (all_calls lists) c k store end.last le

  -- two calls of a list
  pair : (p i j : ℕ) (list : List Placed) (d : Placed) → slice_get lists p ≡ Some list → i < j → j < length list → ComesBefore s (all_calls lists) (slice_index_or list i d) (slice_index_or list j d)
  pair p i j list d there lt inside m k first second =
      order_from m k (is_change s (all_calls lists) earlier) (λ past. found p j list later there (slice_get-get_or list j d inside) (falling (falls_is s (all_calls lists) (take j list) k later.place second ∙ any_before list i j d (λ (e : Placed). is_past s (all_calls lists) k e e.place) lt inside (same ∙ past))))
    where
      earlier : Placed
      earlier = slice_index_or list i d

      later : Placed
      later = slice_index_or list j d

      place_within : m ≤ c
      place_within = within p i list earlier there (slice_get-get_or list i d (omega arith)) m first

      same : is_past s (all_calls lists) k earlier earlier.place ≡ (nat_lt k m || (nat_le k m && is_change s (all_calls lists) earlier))
      same = past_is s (all_calls lists) m k earlier earlier.place first ∙ ap (λ (b : Bool). nat_lt k m || (nat_le k m && b)) (change_is s (all_calls lists) m earlier earlier.place first (there_at m place_within))

  order : All (λ (list : List Placed). AllPairs (ComesBefore s (all_calls lists)) list) lists
  order p d inside i j e lt within_list = pair p i j (slice_index_or lists p d) e (slice_get-get_or lists p d inside) lt within_list

  replied : (p i : ℕ) (list : List Placed) (placed : Placed) → slice_get lists p ≡ Some list → slice_get list i ≡ Some placed → IsOfItsStore s (all_calls lists) (call_of p i placed)
  replied p i list placed there here k is =
      let le : k ≤ c = within p i list placed there here k is in
      let same : number_of_changes s (all_calls lists) ≡ c = number in (
        omega arith,
        λ reply answered. not_other reply (reply_to (store_below s (all_calls lists) k) placed.command (caller_of s (call_of p i placed)))
            (λ differs. found p i list placed there here (wrong_reply (record { place = k; store = store_below s (all_calls lists) k; reply = reply; taken = is; there = there_at k le; answered = answered; wrong = differs }))),
      )

  behind : (k : ℕ) → number_of_changes s (all_calls lists) ≤ k → changes_at (all_calls lists) k (store_below s (all_calls lists) k) ≡ []
  behind k le = by (k == c) refl
    where
      same : number_of_changes s (all_calls lists) ≡ c
      same = number

      by : (b : Bool) → (k == c) ≡ b → changes_at (all_calls lists) k (store_below s (all_calls lists) k) ≡ []
      by true is = let here : c ≡ k = sym (eqb-true k c is) in subst (λ (m : ℕ). changes_at (all_calls lists) m (store_below s (all_calls lists) m) ≡ []) here nothing_at_end
      by false is = let other : k ≢ c = eqb-false k c is in let e : number_of_changes s (all_calls lists) ≡ c = number in none_above s (all_calls lists) (suc c) k all_within (omega arith)

  pub said : AreGood s lists
  said =
      let same : number_of_changes s (all_calls lists) ≡ c = number in
      record {
        in_order = order;
        one_at_each = λ k lt. one_each k (omega arith);
        none_behind = behind;
        of_store = each_call (IsOfItsStore s (all_calls lists)) lists replied;
        places = each_call (λ (call : Call). fits_place call.placed.place call.placed.answer ≡ true) lists (λ p i list placed there here. fits_from placed.place placed.answer (λ bad. found p i list placed there here (without_place bad)) (λ bad. found p i list placed there here (with_place bad)));
      }

  -- the last store is that after all changes
  pub last_is : store ≡ store_below s (all_calls lists) (number_of_changes s (all_calls lists))
  last_is = store_is s (all_calls lists) c store end.last ∙ ap (λ (k : ℕ). store_below s (all_calls lists) k) (sym number)
