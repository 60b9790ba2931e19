-- The calls by their places, the stores after their changes, and the notes about the calls in these stores.
use Rattle.std.specs.Prelude.{◌≡◌, ◌≢◌, ◌↔◌, ℕ, suc, ◌+◌, ◌<◌, ◌≤◌, ◌==◌, nat_lt, nat_le, Bool, false, List, [], ◌∷◌, length, take, Option, slice_get, None, Some, All, IsTrue, ◌++◌, cond}
use Rattle.std.specs.List.{list_any}
use Rattle.std.specs.Global.{Vec}
use Rattle.plain_store.specs.declared.Answer.TheVariants as answer
use Rattle.plain_store.specs.{Caller, Command, Contents, Reply, Setup, after, callers_of, changes, reply_to}
use Rattle.call_check.specs.declared.calls.Call.{Call}
use Rattle.model.specs.{Placed, lists_of}
use Rattle.call_check.specs.declared.chains.PositionChains.{PositionChains}
use Rattle.call_check.specs.declared.chains.PositionLink.{PositionLink}
use Rattle.call_check.specs.declared.notes.ChangingCalls.{ChangingCalls}
use Rattle.call_check.specs.declared.notes.ChangingCalls.TheVariants.{Nothing, One, Several}
use Rattle.call_check.specs.declared.notes.CallNotes.{CallNotes}
use Rattle.call_check.specs.declared.notes.Note.{Note}
use Rattle.call_check.specs.Weighing.{HasWrongReply, IsBad, IsBadIn, all_calls, caller_of, calls_from, changes_at, changes_there, falls, is_one_of_several, is_past, store_at}

-- in version 2 a call is one of the first 16 lists, and among the first 65,535 of its list
abbrev pub IsFew : Setup → Call → Type 0
IsFew s call = (s.version == 1) ≡ false → (call.port < 16) × (call.index < 65535)

-- all calls are such
abbrev pub AreFew : Setup → List Call → Type 0
AreFew s calls = All (IsFew s) calls

-- all calls of these lists
abbrev pub calls_in : List (Vec Placed) → List Call
calls_in vecs = all_calls (lists_of vecs)

-- the store knows the setup's callers
abbrev pub KnowsCallers : Setup → Contents → Type 0
KnowsCallers s store = length store.numbers ≡ callers_of s

-- the caller acts as the caller of the call: each store that knows the setup's callers does the same for both
pub record IsCaller (s : Setup) (call : Call) (caller : Caller) : Type 0 where
  pub reply : (store : Contents) → KnowsCallers s store → (command : Command) → reply_to store command caller ≡ reply_to store command (caller_of s call)
  pub after : (store : Contents) → KnowsCallers s store → (command : Command) → after store command caller ≡ after store command (caller_of s call)

-- which changes there are
abbrev pub changes_of : List Call → ChangingCalls
changes_of [] = Nothing
changes_of (call ∷ []) = One call
changes_of (call ∷ other ∷ calls) = Several

-- one call more: it counts, if it is a change
abbrev pub Counts : ChangingCalls → Call → Bool → ChangingCalls → Type 0
Counts changers call is_change then = (calls : List Call) → changers ≡ changes_of calls → then ≡ changes_of (cond is_change (call ∷ calls) calls)

-- Chains of calls.

-- Among the calls before the bound, call m - 1 is the last with place k. If m is 0, none of them has it.
pub record IsLast (calls : List Call) (k bound m : ℕ) : Type 0 where
  pub before : m ≤ bound
  pub there : (j : ℕ) (call : Call) → m ≡ suc j → slice_get calls j ≡ Some call → call.placed.place ≡ Some k
  pub none_later : (j : ℕ) (call : Call) → m ≤ j → j < bound → slice_get calls j ≡ Some call → call.placed.place ≢ Some k

-- this link is that of call i; if the place of call i is one of the first n, the link leads to the last call before it with an equal place
pub record IsLink (calls : List Call) (n i : ℕ) (call : Call) (link : PositionLink) : Type 0 where
  pub port : link.port ≡ call.port
  pub index : link.index ≡ call.index
  pub before : link.earlier ≤ i
  pub earlier : (k : ℕ) → k < n → call.placed.place ≡ Some k → IsLast calls k i link.earlier

-- the links are those of the calls, and the heads lead to the last calls with the first n places
pub record AreChains (calls : List Call) (n : ℕ) (heads : List ℕ) (links : List PositionLink) : Type 0 where
  pub places : length heads ≡ n
  pub size : length links ≡ length calls
  pub head : (k m : ℕ) → slice_get heads k ≡ Some m → IsLast calls k (length calls) m
  pub link : (i : ℕ) (call : Call) → slice_get calls i ≡ Some call → (link : PositionLink) × (slice_get links i ≡ Some link) × IsLink calls n i call link

-- the chains of all calls of these lists, which may have as many places
abbrev pub AreChainsOf : List (Vec Placed) → PositionChains → Type 0
AreChainsOf vecs chains = AreChains (calls_in vecs) (length (calls_in vecs)) chains.heads.items chains.links.items

-- a call of this port, index and place is put to the chains
abbrev pub Puts : ℕ → ℕ → Option ℕ → (heads : Vec ℕ) → (links : Vec PositionLink) → Vec ℕ → Vec PositionLink → Type 0
Puts port index place heads links heads_then links_then =
    (calls : List Call) (n : ℕ) (call : Call) → call.port ≡ port → call.index ≡ index → call.placed.place ≡ place → AreChains calls n heads.items links.items → AreChains (calls ++ call ∷ []) n heads_then.items links_then.items

-- the calls of a list are put to the chains
abbrev pub PutsList : ℕ → List Placed → (heads : Vec ℕ) → (links : Vec PositionLink) → Vec ℕ → Vec PositionLink → Type 0
PutsList port list heads links heads_then links_then =
    (calls : List Call) (n : ℕ) → AreChains calls n heads.items links.items → AreChains (calls ++ calls_from port 0 list) n heads_then.items links_then.items

-- heads that lead to no call
abbrev pub AreNothing : List ℕ → Type 0
AreNothing heads = (k m : ℕ) → slice_get heads k ≡ Some m → m ≡ 0

-- the link is that of this call, which is in the lists
pub record IsOf (vecs : List (Vec Placed)) (call : Call) (link : PositionLink) : Type 0 where
  pub list : Vec Placed
  pub list_there : slice_get vecs call.port ≡ Some list
  pub there : slice_get list.items call.index ≡ Some call.placed
  pub port : link.port ≡ call.port
  pub index : link.index ≡ call.index

-- Notes of calls.

-- the reply is not that of this store
pub record IsWrongBy (s : Setup) (store : Contents) (call : Call) : Type 0 where
  pub reply : Reply
  pub answered : call.placed.answer ≡ Some (answer.Reply reply)
  pub wrong : reply ≢ reply_to store call.placed.command (caller_of s call)

-- the result is whether the reply of a call of few differs from the reply of this store, which has the setup's callers
abbrev pub ReportsWrong : Setup → Contents → Call → Bool → Type 0
ReportsWrong s store call reported = IsFew s call → KnowsCallers s store → IsTrue reported ↔ IsWrongBy s store call

-- the result is whether this is the store's reply
abbrev pub ReportsReply : Setup → Contents → Call → Reply → Bool → Type 0
ReportsReply s store call reply reported = IsFew s call → KnowsCallers s store → IsTrue reported ↔ (reply ≡ reply_to store call.placed.command (caller_of s call))

-- the note of a call by this store
pub record IsNoteBy (s : Setup) (store : Contents) (call : Call) (note : Note) : Type 0 where
  pub changes : note.changes ≡ changes store call.placed.command
  pub wrong : IsTrue note.is_wrong ↔ IsWrongBy s store call

-- the note of a call by the store at its place, if that store exists
pub record IsNote (s : Setup) (calls : List Call) (call : Call) (note : Note) : Type 0 where
  pub changes : (k : ℕ) → call.placed.place ≡ Some k → note.changes ≡ changes_there (store_at s calls k) call.placed
  pub wrong : IsTrue note.is_wrong ↔ HasWrongReply s calls call

-- neither is noted
pub record IsBlank (note : Note) : Type 0 where
  pub changes : note.changes ≡ false
  pub is_wrong : note.is_wrong ≡ false

-- n blank notes
pub record AreBlank (n : ℕ) (notes : List Note) : Type 0 where
  pub size : length notes ≡ n
  pub each : (i : ℕ) (note : Note) → slice_get notes i ≡ Some note → IsBlank note

-- the calls with place k are noted by this store, and the other notes are as before
pub record AreNotedAt (s : Setup) (calls : List Call) (k : ℕ) (store : Contents) (before notes : List Note) : Type 0 where
  pub own : (i : ℕ) (call : Call) → slice_get calls i ≡ Some call → call.placed.place ≡ Some k → (note : Note) × (slice_get notes i ≡ Some note) × IsNoteBy s store call note
  pub others : (i : ℕ) (call : Call) → slice_get calls i ≡ Some call → call.placed.place ≢ Some k → slice_get notes i ≡ slice_get before i

-- the calls with place k are noted, if the calls are few and the store knows the callers
abbrev pub AreNotedBy : Setup → List Call → ℕ → Contents → Vec Note → Vec Note → Type 0
AreNotedBy s calls k store before notes = AreFew s calls → KnowsCallers s store → AreNotedAt s calls k store before.items notes.items

-- the calls with place k from call m on are noted by this store, and the other notes are as before
pub record AreNotedFrom (s : Setup) (calls : List Call) (k m : ℕ) (store : Contents) (before notes : List Note) : Type 0 where
  pub own : (i : ℕ) (call : Call) → m ≤ i → slice_get calls i ≡ Some call → call.placed.place ≡ Some k → (note : Note) × (slice_get notes i ≡ Some note) × IsNoteBy s store call note
  pub others : (i : ℕ) (call : Call) → slice_get calls i ≡ Some call → call.placed.place ≢ Some k → slice_get notes i ≡ slice_get before i

-- the notes of the calls with places below k, and blank ones of the others
pub record AreNotedBelow (s : Setup) (calls : List Call) (k : ℕ) (notes : List Note) : Type 0 where
  pub size : length notes ≡ length calls
  pub own : (i j : ℕ) (call : Call) → slice_get calls i ≡ Some call → call.placed.place ≡ Some j → j < k → (note : Note) × (slice_get notes i ≡ Some note) × IsNote s calls call note
  pub others : (i : ℕ) (call : Call) → slice_get calls i ≡ Some call → ((j : ℕ) → j < k → call.placed.place ≢ Some j) → (note : Note) × (slice_get notes i ≡ Some note) × IsBlank note

-- these are the notes of all calls, and the stores end with store c
pub record IsFollowed (s : Setup) (calls : List Call) (notes : List Note) (c : ℕ) (store : Contents) (several : Bool) : Type 0 where
  pub last : store_at s calls c ≡ Some store
  pub ends : store_at s calls (suc c) ≡ None
  pub several_is : several ≡ nat_le 2 (length (changes_at calls c store))
  pub size : length notes ≡ length calls
  pub each : (i : ℕ) (call : Call) → slice_get calls i ≡ Some call → (note : Note) × (slice_get notes i ≡ Some note) × IsNote s calls call note

-- the notes of all calls, as `CallNotes` stores them
abbrev pub Follows : Setup → List Call → CallNotes → Type 0
Follows s calls found = IsFollowed s calls found.notes.items found.count found.store found.several

-- if the calls are few
abbrev pub FollowsIfFew : Setup → List Call → CallNotes → Type 0
FollowsIfFew s calls found = AreFew s calls → Follows s calls found

-- the result is whether the call of this place and this note is one of several changes of the last store
abbrev pub ReportsSeveral : CallNotes → Option ℕ → Note → Bool → Type 0
ReportsSeveral found place note reported =
    (s : Setup) (calls : List Call) (call : Call) → call.placed.place ≡ place → Follows s calls found → IsNote s calls call note → reported ≡ is_one_of_several calls found.count found.store call.placed

-- Lists that are judged.

-- this list, which is list p, has the calls from call `before` on
abbrev pub ArePart : List Call → ℕ → ℕ → List Placed → Type 0
ArePart calls p before list = (i : ℕ) (placed : Placed) → slice_get list i ≡ Some placed → slice_get calls (before + i) ≡ Some (record { placed = placed; port = p; index = i })

-- the earlier calls of a list leave no place below the least
abbrev pub IsLeast : Setup → List Call → List Placed → ℕ → Type 0
IsLeast s calls earlier least = (k : ℕ) → list_any (λ (e : Placed). is_past s calls k e e.place) earlier ≡ nat_lt k least

-- the lowest bad call of this list, which is list p, if one is bad
abbrev pub IsFirstBad : Setup → List Call → ℕ → Contents → ℕ → List Placed → Option ℕ → Type 0
IsFirstBad s calls c store p list None = (i : ℕ) → IsBadIn s calls c store p list i → ⊥
IsFirstBad s calls c store p list (Some i) = IsBadIn s calls c store p list i × ((j : ℕ) → j < i → IsBadIn s calls c store p list j → ⊥)

-- `least` is the least place after the calls before call i of this list, which is list p, and none of these calls is bad
pub record IsJudged (s : Setup) (calls : List Call) (c : ℕ) (store : Contents) (p : ℕ) (list : List Placed) (i least : ℕ) : Type 0 where
  pub least_is : IsLeast s calls (take i list) least
  pub good : (j : ℕ) → j < i → IsBadIn s calls c store p list j → ⊥

-- the answer is the lowest bad call of this list, which has the calls from call `before` on
abbrev pub FindsFirstBad : CallNotes → ℕ → List Placed → Option ℕ → Type 0
FindsFirstBad found before list reported =
    (s : Setup) (calls : List Call) (p : ℕ) → ArePart calls p before list → Follows s calls found → IsFirstBad s calls found.count found.store p list reported

-- the result is whether a call is bad, by its note and the least place
abbrev pub ReportsBad : CallNotes → Placed → Note → ℕ → Bool → Type 0
ReportsBad found placed note least reported =
    (s : Setup) (calls : List Call) (earlier : List Placed) (call : Call) → call.placed ≡ placed → Follows s calls found → IsNote s calls call note → IsLeast s calls earlier least →
    IsTrue reported ↔ IsBad s calls found.count found.store earlier call

-- the result is whether the place of a call falls
abbrev pub ReportsFall : ℕ → Option ℕ → Bool → Type 0
ReportsFall least place reported = (s : Setup) (calls : List Call) (earlier : List Placed) → IsLeast s calls earlier least → reported ≡ falls s calls earlier place

-- the least place after a call of this place and this note
abbrev pub LeavesLeast : Option ℕ → Note → ℕ → ℕ → Type 0
LeavesLeast place note least then =
    (s : Setup) (calls : List Call) (earlier : List Placed) (call : Call) → call.placed.place ≡ place → IsNote s calls call note → IsLeast s calls earlier least → IsLeast s calls (earlier ++ call.placed ∷ []) then
