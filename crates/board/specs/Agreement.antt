-- The rule of a board: words and views agree, which means that some list of events has a past that both show.
use Rattle.std.specs.Prelude.{◌≡◌, ◌⊎◌, ℕ, ◌<◌, ◌≤◌, ◌==◌, ◌&&◌, not, Bool, true, false, List, [], ◌∷◌, length, slice_index, None, Some, Ok}
use mathlib.Core.Option.{some}
use lib.ListN.{get_elem?}
use Rattle.model.specs.safe_bit.{Move, is_of_read}
use Rattle.model.specs.safe_bit.declared.Move.TheVariants.{BeginRead, EndRead}
use Rattle.model.specs.{Access, AreGiven, Entry, Event, Past, own, past_of, same_bit}
use Rattle.plain_store.specs.{Setup, checked}
use Rattle.laws.specs.{Doing, IsThere, Lies, Rests, cell_held, doing, is_inside}
use Rattle.board.specs.Calls.{IsPrefix, changes_of}
use Rattle.board.specs.Views.{ViewState, own_view}
use Rattle.board.specs.Words.{shown, word_of, words_in}

-- p is in this list
abbrev pub IsIn : ℕ → List ℕ → Type 0
IsIn p [] = ⊥
IsIn p (x ∷ xs) = (x ≡ p) ⊎ IsIn p xs

-- neither the process nor its memory unit has anything to do
abbrev pub IsQuiet : Doing → Type 0
IsQuiet d = (d ≡ Rests) ⊎ (d ≡ Lies)

-- the view of its process is that of this past; while the process, or its memory unit, is inside, the view has seen all changes
pub record Knows (s : Setup) (past : Past) (v : ViewState) : Type 0 where
  pub below : v.own.process < s.processes
  pub own : v.own ≡ own_view s past v.own.process
  pub seen : IsPrefix v.seen (changes_of s past)
  pub inside : is_inside v.own.doing ≡ true → v.seen ≡ changes_of s past

-- this is the view of port 0, which knows the seats: each seat made is of a process below `made`, each process joined is quiet, and a process without a seat has done nothing
pub record KnowsSeats (s : Setup) (past : Past) (views : List ViewState) (v : ViewState) : Type 0 where
  pub at : get_elem? views 0 ≡ some v
  pub live : v.spent ≡ false
  pub process : v.own.process ≡ 0
  pub made : v.made ≤ s.processes
  pub others : (i : ℕ) (w : ViewState) → get_elem? views i ≡ some w → w.spent ≡ false → (w.own.process < v.made) × (IsIn w.own.process v.joined → ⊥)
  pub joined : (p : ℕ) → IsIn p v.joined → IsQuiet (doing s p past)
  pub unmade : (p : ℕ) → v.made ≤ p → own p past ≡ []

-- words and views show the past of these events
pub record Shows (s : Setup) (events : List Event) (words : List ℕ) (views : List ViewState) : Type 0 where
  pub good : checked s ≡ Ok tt
  pub given : AreGiven s events
  pub size : length words ≡ words_in s
  pub bits : (a : Access) → IsThere s a → slice_index words (word_of s a) ≡ shown (cell_held s (past_of s events) a)
  pub known : (i : ℕ) (v : ViewState) → get_elem? views i ≡ some v → v.spent ≡ false → Knows s (past_of s events) v
  pub apart : (i j : ℕ) (v w : ViewState) → get_elem? views i ≡ some v → get_elem? views j ≡ some w → v.spent ≡ false → w.spent ≡ false → v.own.process ≡ w.own.process → i ≡ j
  pub seats : (v : ViewState) × KnowsSeats s (past_of s events) views v

-- the entry begins or ends a read
abbrev pub reads : Entry → Bool
reads e = elim e.access [ None ↦ false | Some a ↦ is_of_read a.how ]

-- one move begins a read, and the other one ends it
abbrev pub is_pair : Move → Move → Bool
is_pair BeginRead (EndRead v) = true
is_pair _ _ = false

-- the second entry ends the read that the first begins
abbrev pub is_whole_read : Entry → Entry → Bool
is_whole_read begin end = elim begin.access [
  | None ↦ false
  | Some a ↦ elim end.access [ None ↦ false | Some b ↦ (end.process == begin.process) && same_bit b a && is_pair a.how b.how ]
]

-- the begin and the end of each read are neighbours
abbrev pub are_neighbours : Past → Bool
are_neighbours [] = true
are_neighbours (e ∷ []) = not (reads e)
are_neighbours (e ∷ before ∷ past) = elim (is_whole_read before e) [ true ↦ are_neighbours past | false ↦ not (reads e) && are_neighbours (before ∷ past) ]

-- words and views agree
abbrev pub Agree : Setup → List ℕ → List ViewState → Type 0
Agree s words views = (events : List Event) × Shows s events words views × (are_neighbours (past_of s events) ≡ true)
