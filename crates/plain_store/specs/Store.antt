-- The sequential specification of the store: its state, the reply to each command and the state after it.
use Rattle.std.specs.Prelude.{◌≢◌, ◌↔◌, IsTrue, ℕ, Bool, true, ◌&&◌, nat_lt, if◌then◌else◌, List, [], ◌∷◌, length, Option, Some, None, is_none, slice_index, slice_set, replicate}
use Rattle.std.specs.List.{list_all}
use Rattle.std.specs.Str.{bytes_eq}
use Rattle.std.specs.Map.{lookup}
use Rattle.indexmap.specs.IndexMap.{insert_entry}
use Rattle.plain_store.specs.Commands.{name_of}
use Rattle.plain_store.specs.Outcomes.{outcome, is_new}
use Rattle.plain_store.specs.Pairs.{Pair, is_pair}
use Rattle.plain_store.specs.declared.commands.Caller.{Caller}
use Rattle.plain_store.specs.declared.commands.Command.{Command}
use Rattle.plain_store.specs.declared.commands.Reply.{Reply}
use Rattle.plain_store.specs.declared.commands.Value.{Value}
use Rattle.plain_store.specs.declared.outcomes.Outcome.{Outcome}

-- The state: the pairs in order of first write, the greatest number of pairs,
-- and the number of each caller's last call that changed the pairs.
pub record Contents : Type 0 where
  pub pairs : List Pair
  pub slots : ℕ
  pub numbers : List ℕ

-- no pairs, and no call yet
abbrev pub empty_store : ℕ → ℕ → Contents
empty_store slots callers = record { pairs = []; slots = slots; numbers = replicate callers 0 }

-- the value of a name
abbrev pub value_at : List Pair → List ℕ → Option Value
value_at pairs name = lookup (bytes_eq name) pairs

-- no name occurs twice
abbrev pub names_differ : List Pair → Bool
names_differ [] = true
names_differ (pair ∷ pairs) = is_none (value_at pairs pair.0) && names_differ pairs

-- names and values are well formed, and no name occurs twice
abbrev pub are_pairs : List Pair → Bool
are_pairs pairs = list_all is_pair pairs && names_differ pairs

-- the pairs with a new value: a name that has one keeps its position, a new name comes last
abbrev pub put : List Pair → List ℕ → Value → List Pair
put = insert_entry bytes_eq

-- the value of the name of a command
abbrev pub value_for : List Pair → Option (List ℕ) → Option Value
value_for pairs None = None
value_for pairs (Some name) = value_at pairs name

-- the number of a process; a missing one counts as 0
abbrev pub number_of : List ℕ → ℕ → ℕ
number_of = slice_index

-- the outcome of a command of a process
abbrev pub outcome_in : Contents → Command → ℕ → Outcome
outcome_in s command process = outcome (value_for s.pairs (name_of command)) (nat_lt (length s.pairs) s.slots) (number_of s.numbers process) command

-- the reply to a command
abbrev pub reply_to : Contents → Command → Caller → Reply
reply_to s command caller = (outcome_in s command caller.process).reply

-- the pairs with the written value, if one is written
abbrev pub with_written : List Pair → Option (List ℕ) → Option Value → List Pair
with_written pairs (Some name) (Some x) = put pairs name x
with_written pairs (Some name) None = pairs
with_written pairs None x = pairs

-- the pairs after a command of any process
abbrev pub pairs_after : Contents → Command → List Pair
pairs_after s command = with_written s.pairs (name_of command) (outcome_in s command 0).written

-- whether a command of any process changes the pairs
abbrev pub changes : Contents → Command → Bool
changes s command = is_new (value_for s.pairs (name_of command)) (outcome_in s command 0).written

-- the state after a command: one that changes the pairs sets its caller's number
abbrev pub after : Contents → Command → Caller → Contents
after s command caller =
    record { pairs = pairs_after s command; slots = s.slots; numbers = if changes s command then slice_set s.numbers caller.process caller.number else s.numbers }

-- A command changes the store exactly if the pairs after it differ from those before, for any process.
abbrev pub ChangesArePairs : Type 0
ChangesArePairs = (s : Contents) (command : Command) (caller : Caller) → IsTrue (changes s command) ↔ ((after s command caller).pairs ≢ s.pairs)

-- the pairs after a command differ from those before, for any process
abbrev pub ChangesPairs : Contents → Command → Type 0
ChangesPairs s command = pairs_after s command ≢ s.pairs

-- the state with this value written
abbrev pub store_written : Contents → Option (List ℕ) → Option Value → Contents
store_written s name x = record s { pairs = with_written s.pairs name x }

-- the state with this number of a process
abbrev pub with_number : ℕ → ℕ → Contents → Contents
with_number process number s = record s { numbers = slice_set s.numbers process number }
