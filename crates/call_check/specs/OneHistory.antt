-- The meaning of a good verdict: one history of the sequential store.
use Rattle.std.specs.Prelude.{◌≡◌, ◌⊎◌, ℕ, suc, List, [], ◌∷◌, map, filter, None, Some, is_some}
use Rattle.plain_store.specs.declared.Answer.TheVariants as answer
use Rattle.plain_store.specs.{Contents, Setup, after, opening_store, reply_to}
use Rattle.store_image.specs.{image_of}
use Rattle.call_check.specs.declared.calls.Call.{Call}
use Rattle.model.specs.{Placed}
use Rattle.call_check.specs.declared.verdicts.Weighed.TheVariants.{Good}
use Rattle.call_check.specs.Merges.{IsMerge}
use Rattle.call_check.specs.SaidOverLists.{store_through}
use Rattle.call_check.specs.Weighing.{caller_of, calls_from, IsWeighed}

-- the calls that were taken, which have a place
abbrev pub taken_of : List Call → List Call
taken_of calls = filter (λ (call : Call). is_some call.placed.place) calls

-- the lists, each call with its port and index, from list p on
abbrev pub call_lists_from : ℕ → List (List Placed) → List (List Call)
call_lists_from p [] = []
call_lists_from p (list ∷ lists) = calls_from p 0 list ∷ call_lists_from (suc p) lists

abbrev pub call_lists : List (List Placed) → List (List Call)
call_lists lists = call_lists_from 0 lists

-- a failure cut the call, or its answer is the store's reply to its process and number
abbrev pub IsAnsweredBy : Setup → Contents → Call → Type 0
IsAnsweredBy s store call = (call.placed.answer ≡ None) ⊎ (call.placed.answer ≡ Some (answer.Reply (reply_to store call.placed.command (caller_of s call))))

-- each call is answered by the store after the calls before it
abbrev pub AreAnsweredFrom : Setup → Contents → List Call → Type 0
AreAnsweredFrom s store [] = Unit {0}
AreAnsweredFrom s store (call ∷ calls) = IsAnsweredBy s store call × AreAnsweredFrom s (after store call.placed.command (caller_of s call)) calls

-- the history has all taken calls of all lists, each once and each list in its order; each is answered by the one-thread store at its place in the history, and the image is that of the store after all of it
pub record IsHistoryOf (s : Setup) (lists : List (List Placed)) (image : Contents) (history : List Call) : Type 0 where
  pub merged : IsMerge (map taken_of (call_lists lists)) history
  pub answered : AreAnsweredFrom s (opening_store s) history
  pub at_end : image_of image ≡ image_of (store_through s (opening_store s) history)

-- Where the verdict is `Good`, there is such a history.
abbrev pub GoodIsOneHistory : Type 0
GoodIsOneHistory = (s : Setup) (lists : List (List Placed)) (image : Contents) → IsWeighed s lists image Good → (history : List Call) × IsHistoryOf s lists image history
