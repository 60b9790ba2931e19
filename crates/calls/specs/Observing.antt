-- The state of a table of calls, and the entries that it has observed.
use Rattle.std.specs.Prelude.{◌≡◌, ℕ, ◌<◌, true, false, not, ◌&&◌, List, ◌∷◌, length, cond, slice_get, slice_set, ◌-◌, ◌^◌, Option, None, Some, Ok}
use Rattle.plain_store.specs.{Setup, checked}
use Rattle.model.specs.{Access, Entry, Mark, Past, width}
use Rattle.calls.specs.declared.called.Called.{Called}
use Rattle.calls.specs.declared.called.EntryFacts.{EntryFacts}
use Rattle.calls.specs.declared.call_state.CallState.{CallState}
use Rattle.world.specs.laws.{doing}
use Rattle.world.specs.process.{number_read}
use Rattle.world.specs.{ends_overlapped_read}
use Rattle.calls.specs.Columns.{called, ends_number, is_calling, is_unmarked}
use Rattle.calls.specs.Passing.{HaveRoom, passed}
use Rattle.calls.specs.Stepping.{AreFew, observed, call_state}

-- p's call, if it has not ended
abbrev pub open_call : Setup → ℕ → Past → Option Called
open_call s p past = cond (is_calling p past) (Some (called s p past)) None

-- the call that ends with an entry, if one does
abbrev pub ended_call : Setup → Past → Entry → Option Called
ended_call s past e = cond (is_calling e.process past && not (is_calling e.process (e ∷ past))) (Some (called s e.process (e ∷ past))) None

-- The number that was read before an entry is reported where the entry has no marks and its access ends the read of a register. It may be left out elsewhere.
abbrev pub ReportsRead : Setup → Past → Entry → Access → Option ℕ → Type 0
ReportsRead s past e a None = (is_unmarked e.marks && ends_number (width s a.field) a.bit a.how) ≡ false
ReportsRead s past e a (Some n) = (is_unmarked e.marks ≡ true) × (ends_number (width s a.field) a.bit a.how ≡ true → n ≡ number_read (doing s e.process past))

-- these facts about an entry are right: whether it ends an overlapped read, and the number that was read before it
pub record IsKnown (s : Setup) (past : Past) (e : Entry) (known : EntryFacts) : Type 0 where
  pub overlapped : known.overlapped ≡ ends_overlapped_read past e
  pub read : (a : Access) → e.access ≡ Some a → ReportsRead s past e a known.read

-- an entry with these facts may come next in a run: its process exists
pub record ComesInTurn (s : Setup) (past : Past) (e : Entry) (known : EntryFacts) : Type 0 where
  pub process : e.process < s.processes
  pub reports : IsKnown s past e known

-- the state of each process, and the number of entries
pub record TableState : Type 0 where
  pub setup : Setup
  pub call_states : List CallState
  pub entries : ℕ

-- the setup is good, and each of its processes has a state
pub record IsTable (t : TableState) : Type 0 where
  pub good : checked t.setup ≡ Ok tt
  pub processes : length t.call_states ≡ t.setup.processes

-- it has observed these entries
pub record HasObserved (t : TableState) (past : Past) : Type 0 where
  pub call_states : (p : ℕ) → p < t.setup.processes → slice_get t.call_states p ≡ Some (call_state t.setup p past)
  pub entries : t.entries ≡ length past

-- an entry changes p's state from `before`, and ends this call if it ends one
pub record GoesOn (t : TableState) (p : ℕ) (known : EntryFacts) (access : Option Access) (marks : List Mark) (before : CallState) (ended : Option Called) (call_states : List CallState) : Type 0 where
  pub then : CallState
  pub set : call_states ≡ slice_set t.call_states p then
  pub observed : before.last.call < 2 ^ 64 - 1 → AreFew before.last.accesses → then ≡ observed t.setup t.entries known access marks before
  pub is : ended ≡ cond (before.calling && not then.calling) (Some then.last) None

-- entries that begin `reads` reads and `writes` writes change p's state from `before`
pub record GoesBy (t : TableState) (p reads writes overlapped : ℕ) (before : CallState) (call_states : List CallState) : Type 0 where
  pub then : CallState
  pub set : call_states ≡ slice_set t.call_states p then
  pub passes : HaveRoom before.last.accesses reads writes overlapped → then ≡ passed t.entries reads writes overlapped before
