-- Good finished calls, defined over the lists.
use Rattle.std.specs.Prelude.{◌≡◌, ◌↔◌, ℕ, zero, suc, ◌<◌, ◌≤◌, Bool, true, false, List, [], ◌∷◌, length, filter, Option, None, Some, is_none, is_some, IsTrue}
use Rattle.std.specs.List.{All, AllPairs}
use Rattle.plain_store.specs.{Answer, Contents, Reply, Setup, after, changes, opening_store, reply_to}
use Rattle.plain_store.specs.declared.Answer.TheVariants as answer
use Rattle.store_image.specs.{image_of}
use Rattle.call_check.specs.declared.calls.Call.{Call}
use Rattle.model.specs.{Placed}
use Rattle.call_check.specs.declared.verdicts.Weighed.TheVariants.{Good, BadEnd}
use Rattle.call_check.specs.Weighing.{all_calls, caller_of, changes_at, IsWeighed}

-- the store after calls, one after the other
abbrev pub store_through : Setup → Contents → List Call → Contents
store_through s store [] = store
store_through s store (call ∷ calls) = store_through s (after store call.placed.command (caller_of s call)) calls

-- the store after the changes at places 0 to k - 1; if each of these places has one change, it is the store after k changes
abbrev pub store_below : Setup → List Call → ℕ → Contents
store_below s calls zero = opening_store s
store_below s calls (suc k) = store_through s (store_below s calls k) (changes_at calls k (store_below s calls k))

-- a call with this place is a change: it would change the store after the changes at lower places
abbrev pub is_change_from : Setup → List Call → Placed → Option ℕ → Bool
is_change_from s calls placed None = false
is_change_from s calls placed (Some k) = changes (store_below s calls k) placed.command

abbrev pub is_change : Setup → List Call → Placed → Bool
is_change s calls placed = is_change_from s calls placed placed.place

-- c: the number of taken calls that change
abbrev pub number_of_changes : Setup → List Call → ℕ
number_of_changes s calls = length (filter (λ (call : Call). is_change s calls call.placed) calls)

-- the earlier of two calls of a list has no greater place, and a lower one if it is a change
abbrev pub ComesBefore : Setup → List Call → Placed → Placed → Type 0
ComesBefore s calls earlier later = (j k : ℕ) → earlier.place ≡ Some j → later.place ≡ Some k → (j ≤ k) × (is_change s calls earlier ≡ true → j < k)

-- the reply, if the call has one, is that of the store
abbrev pub HasReplyOf : Setup → Contents → Call → Type 0
HasReplyOf s store call = (reply : Reply) → call.placed.answer ≡ Some (answer.Reply reply) → reply ≡ reply_to store call.placed.command (caller_of s call)

-- if the call has place k, then there is a store after k changes, and the reply is that store's
abbrev pub IsOfItsStore : Setup → List Call → Call → Type 0
IsOfItsStore s calls call = (k : ℕ) → call.placed.place ≡ Some k → (k ≤ number_of_changes s calls) × HasReplyOf s (store_below s calls k) call

-- a call has a place if its answer is a reply, and none if it is another answer; a call that was cut may have either
abbrev pub fits_place : Option ℕ → Option Answer → Bool
fits_place place None = true
fits_place place (Some (answer.Reply reply)) = is_some place
fits_place place (Some (answer.TicketsFull process)) = is_none place
fits_place place (Some answer.StampsFull) = is_none place
fits_place place (Some answer.Withdrawn) = is_none place

-- The lists are good. In each list the places never fall, and after a change at place k later places are above k. Each place from 0 to c - 1 has one change, and no other place has a change. Each call with a place has a store there, and its reply is that store's. A call has a place if and only if it has a reply, unless it was cut.
pub record AreGood (s : Setup) (lists : List (List Placed)) : Type 0 where
  pub in_order : All (λ (list : List Placed). AllPairs (ComesBefore s (all_calls lists)) list) lists
  pub one_at_each : (k : ℕ) → k < number_of_changes s (all_calls lists) → length (changes_at (all_calls lists) k (store_below s (all_calls lists) k)) ≡ 1
  pub none_behind : (k : ℕ) → number_of_changes s (all_calls lists) ≤ k → changes_at (all_calls lists) k (store_below s (all_calls lists) k) ≡ []
  pub of_store : All (IsOfItsStore s (all_calls lists)) (all_calls lists)
  pub places : All (λ (call : Call). IsTrue (fits_place call.placed.place call.placed.answer)) (all_calls lists)

-- the image is that of the store after c changes
abbrev pub IsImageAfter : Setup → List Call → Contents → Type 0
IsImageAfter s calls image = image_of image ≡ image_of (store_below s calls (number_of_changes s calls))

-- The verdict is `Good` exactly if the lists are good and the image is that of the store after all changes.
abbrev pub GoodIsSaidOverLists : Type 0
GoodIsSaidOverLists = (s : Setup) (lists : List (List Placed)) (image : Contents) → IsWeighed s lists image Good ↔ (AreGood s lists × IsImageAfter s (all_calls lists) image)

-- It is `BadEnd` exactly if the image alone is another one.
abbrev pub BadEndIsSaidOverLists : Type 0
BadEndIsSaidOverLists = (s : Setup) (lists : List (List Placed)) (image : Contents) → IsWeighed s lists image BadEnd ↔ (AreGood s lists × (IsImageAfter s (all_calls lists) image → ⊥))
