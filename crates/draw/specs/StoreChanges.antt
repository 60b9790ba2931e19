-- What commands change in a store, and how that is shown.
use Rattle.std.specs.Prelude.{ℕ, if◌then◌else◌, List, [], ◌∷◌, Option, None, Some}
use Rattle.std.specs.String.{string_bytes}
use Rattle.model.specs.plain_store.{Caller, Command, Contents, Pair, after, changes, name_of, pair_text, store_words as in_words, value_at}
use Rattle.picture.specs.picture_layout.{TakenChange}

-- what a command changed: the pair of its name, and the store after it
pub record Changed : Type 0 where
  pub pair : List ℕ
  pub store : List ℕ

abbrev pub changed : TakenChange → Changed
changed change = record { pair = string_bytes change.pair; store = change.store.items }

-- the pair of a name, as `NAME=VALUE`
abbrev pub pair_words : List Pair → Option (List ℕ) → List ℕ
pair_words pairs None = []
pair_words pairs (Some name) = elim (value_at pairs name) [ None ↦ [] | Some value ↦ pair_text (name, value) ]

-- a store as a picture shows it at first, and beside its history: there nothing, if it is empty
abbrev pub store_words : Contents → List ℕ
store_words store = in_words store.pairs

abbrev pub words_by : List Pair → List ℕ
words_by [] = []
words_by (pair ∷ pairs) = in_words (pair ∷ pairs)

-- what a command of a caller changes in a store, if it changes something
abbrev pub change_by : Contents → Command → Caller → Option Changed
change_by store command caller =
    if changes store command then Some (record { pair = pair_words (after store command caller).pairs (name_of command); store = store_words (after store command caller) }) else None
