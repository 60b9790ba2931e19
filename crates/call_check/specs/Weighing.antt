-- The verdict about the ports' lists of finished calls: list p is that of process p, its oldest call first. A place counts the changes taken before a call.
use Rattle.std.specs.Prelude.{◌≡◌, ◌≢◌, ◌⊎◌, ℕ, zero, suc, ◌+◌, ◌<◌, ◌≤◌, All, ◌==◌, nat_lt, nat_le, Bool, true, false, ◌&&◌, ◌||◌, if◌then◌else◌, List, [], ◌∷◌, ◌++◌, length, take, filter, slice_get, Option, None, Some, is_none, is_some, IsTrue}
use Rattle.std.specs.List.{list_any}
use Rattle.plain_store.specs.{Answer, Caller, Contents, Reply, Setup, after, changes, opening_store, reply_to}
use Rattle.plain_store.specs.declared.Answer.TheVariants as answer
use Rattle.store_image.specs.{image_of}
use Rattle.call_check.specs.declared.calls.Call.{Call}
use Rattle.model.specs.{Placed}
use Rattle.call_check.specs.declared.verdicts.Weighed.{Weighed}
use Rattle.call_check.specs.declared.verdicts.Weighed.TheVariants.{Good, Bad, BadEnd}

-- The calls.

-- the calls of list p, from call i on
abbrev pub calls_from : ℕ → ℕ → List Placed → List Call
calls_from p i [] = []
calls_from p i (placed ∷ list) = record { placed = placed; port = p; index = i } ∷ calls_from p (suc i) list

-- the calls of all lists, from list p on
abbrev pub all_calls_from : ℕ → List (List Placed) → List Call
all_calls_from p [] = []
all_calls_from p (list ∷ lists) = calls_from p 0 list ++ all_calls_from (suc p) lists

-- the calls of all lists
abbrev pub all_calls : List (List Placed) → List Call
all_calls lists = all_calls_from 0 lists

-- the caller of a call: list p is that of process p, and the call's number is its index plus 1 in version 2, and 0 in version 1
abbrev pub caller_of : Setup → Call → Caller
caller_of s call = record { process = call.port; number = if s.version == 1 then 0 else call.index + 1 }

-- The stores.

-- a call's place is k
abbrev pub is_place : ℕ → Option ℕ → Bool
is_place k None = false
is_place k (Some place) = place == k

-- the calls with place k
abbrev pub calls_at : List Call → ℕ → List Call
calls_at calls k = filter (λ (call : Call). is_place k call.placed.place) calls

-- the calls with place k that would change the store
abbrev pub changes_at : List Call → ℕ → Contents → List Call
changes_at calls k store = filter (λ (call : Call). changes store call.placed.command) (calls_at calls k)

-- the store after the change, if it is exactly one
abbrev pub after_one : Setup → Contents → List Call → Option Contents
after_one s store (call ∷ []) = Some (after store call.placed.command (caller_of s call))
after_one s store [] = None
after_one s store (call ∷ other ∷ calls) = None

-- the store after exactly one change at place k
abbrev pub store_after : Setup → List Call → ℕ → Option Contents → Option Contents
store_after s calls k None = None
store_after s calls k (Some store) = after_one s store (changes_at calls k store)

-- store k, unless the stores end before it
abbrev pub store_at : Setup → List Call → ℕ → Option Contents
store_at s calls zero = Some (opening_store s)
store_at s calls (suc k) = store_after s calls k (store_at s calls k)

-- the stores end with store c
pub record IsEnd (s : Setup) (calls : List Call) (c : ℕ) (store : Contents) : Type 0 where
  pub last : store_at s calls c ≡ Some store
  pub ends : store_at s calls (suc c) ≡ None

-- Bad calls.

-- the place is above c
abbrev pub is_above : ℕ → Option ℕ → Bool
is_above c None = false
is_above c (Some k) = nat_lt c k

-- it is one of several that would change store c
abbrev pub is_one_of_several : List Call → ℕ → Contents → Placed → Bool
is_one_of_several calls c store placed = is_place c placed.place && changes store placed.command && nat_le 2 (length (changes_at calls c store))

-- the command would change the store, if there is one
abbrev pub changes_there : Option Contents → Placed → Bool
changes_there None placed = false
changes_there (Some store) placed = changes store placed.command

-- place k is below this place, which an earlier call has, or is not above it, and that call would change the store there
abbrev pub is_past : Setup → List Call → ℕ → Placed → Option ℕ → Bool
is_past s calls k earlier None = false
is_past s calls k earlier (Some place) = nat_lt k place || (nat_le k place && changes_there (store_at s calls place) earlier)

-- the place is below an earlier place of its list, or not above the place of an earlier change of its list
abbrev pub falls : Setup → List Call → List Placed → Option ℕ → Bool
falls s calls earlier None = false
falls s calls earlier (Some k) = list_any (λ (e : Placed). is_past s calls k e e.place) earlier

-- the reply is not that of the store at its place, to its process and number
pub record HasWrongReply (s : Setup) (calls : List Call) (call : Call) : Type 0 where
  pub place : ℕ
  pub store : Contents
  pub reply : Reply
  pub taken : call.placed.place ≡ Some place
  pub there : store_at s calls place ≡ Some store
  pub answered : call.placed.answer ≡ Some (answer.Reply reply)
  pub wrong : reply ≢ reply_to store call.placed.command (caller_of s call)

-- the answer is a reply
abbrev pub is_reply : Option Answer → Bool
is_reply None = false
is_reply (Some (answer.Reply reply)) = true
is_reply (Some (answer.TicketsFull process)) = false
is_reply (Some answer.StampsFull) = false
is_reply (Some answer.Withdrawn) = false

-- the answer is another one
abbrev pub is_other_answer : Option Answer → Bool
is_other_answer None = false
is_other_answer (Some (answer.Reply reply)) = false
is_other_answer (Some (answer.TicketsFull process)) = true
is_other_answer (Some answer.StampsFull) = true
is_other_answer (Some answer.Withdrawn) = true

-- it has a reply and no place
abbrev pub is_reply_without_place : Placed → Bool
is_reply_without_place placed = is_reply placed.answer && is_none placed.place

-- it has another answer and a place
abbrev pub is_other_with_place : Placed → Bool
is_other_with_place placed = is_other_answer placed.answer && is_some placed.place

-- A call is bad, for stores that end with store c; earlier: the calls of its list before it.
pub data IsBad (s : Setup) (calls : List Call) (c : ℕ) (store : Contents) (earlier : List Placed) (call : Call) : Type 0 where
  above : IsTrue (is_above c call.placed.place) → IsBad s calls c store earlier call
  several : IsTrue (is_one_of_several calls c store call.placed) → IsBad s calls c store earlier call
  falling : IsTrue (falls s calls earlier call.placed.place) → IsBad s calls c store earlier call
  wrong_reply : HasWrongReply s calls call → IsBad s calls c store earlier call
  without_place : IsTrue (is_reply_without_place call.placed) → IsBad s calls c store earlier call
  with_place : IsTrue (is_other_with_place call.placed) → IsBad s calls c store earlier call

-- Lists that are short enough for numbers of version 2.

-- none has more than 65,535 members
abbrev pub AreShort : {A : Type 0} → List (List A) → Type 0
AreShort {A} lists = All (λ (list : List A). length list ≤ 65535) lists

-- The verdict.

-- call i of this list, which is list p, is bad
abbrev pub IsBadIn : Setup → List Call → ℕ → Contents → ℕ → List Placed → ℕ → Type 0
IsBadIn s calls c store p list i = (placed : Placed) × (slice_get list i ≡ Some placed) × IsBad s calls c store (take i list) (record { placed = placed; port = p; index = i })

-- call i of list p is bad
abbrev pub IsBadAt : Setup → List (List Placed) → ℕ → Contents → ℕ → ℕ → Type 0
IsBadAt s lists c store p i = (list : List Placed) × (slice_get lists p ≡ Some list) × IsBadIn s (all_calls lists) c store p list i

-- no call is bad
abbrev pub NoneIsBad : Setup → List (List Placed) → ℕ → Contents → Type 0
NoneIsBad s lists c store = (p i : ℕ) → IsBadAt s lists c store p i → ⊥

-- the port is lower, or it is equal and the call is lower
abbrev pub IsLower : ℕ → ℕ → ℕ → ℕ → Type 0
IsLower q j p i = (q < p) ⊎ ((q ≡ p) × (j < i))

-- the bad call at the lowest port, and there the lowest
pub record IsLowestBad (s : Setup) (lists : List (List Placed)) (c : ℕ) (store : Contents) (p i : ℕ) : Type 0 where
  pub bad : IsBadAt s lists c store p i
  pub lowest : (q j : ℕ) → IsLower q j p i → IsBadAt s lists c store q j → ⊥

-- the verdict, for stores that end with store c; image: the store of the image
abbrev pub IsVerdict : Setup → List (List Placed) → Contents → ℕ → Contents → Weighed → Type 0
IsVerdict s lists image c store (Bad p i) = IsLowestBad s lists c store p i
IsVerdict s lists image c store BadEnd = NoneIsBad s lists c store × (image_of image ≢ image_of store)
IsVerdict s lists image c store Good = NoneIsBad s lists c store × (image_of image ≡ image_of store)

-- the verdict of weighing
pub record IsWeighed (s : Setup) (lists : List (List Placed)) (image : Contents) (weighed : Weighed) : Type 0 where
  pub c : ℕ
  pub store : Contents
  pub end : IsEnd s (all_calls lists) c store
  pub verdict : IsVerdict s lists image c store weighed
