-- The model of a board, as its callers see it, and the ports that belong to it.
use Rattle.std.specs.Prelude.{◌≡◌, ◌≤◌, ℕ, suc, List, [], Ok, Some, true, length, slice_get, vec_capacity}
use Rattle.std.specs.Global.{Vec}
use Rattle.atomic_table.specs.Seated.{TableId}
use Rattle.plain_store.specs.{Setup, are_pairs, checked}
use Rattle.board.specs.declared.layout.WordLayout.{WordLayout}
use Rattle.board.specs.Ports.{PortState}
use Rattle.board.specs.Views.{new_own}
use Rattle.board.specs.Words.{layout_of, words_in}
use Rattle.model.specs.{Placed}

-- the table of its words, and its setup
pub record BoardState : Type 0 where
  pub table_id : TableId
  pub setup : Setup

-- the invariant of a board: the setup is good, its opening pairs are valid, and the layout is that of the setup. The table was made with the setup, has its words, and has no slots. The list of the ports' lists is empty, with room for all of them
pub record KeepsBoard (s : Setup) (layout : WordLayout) (key : Setup) (id : TableId) (answers : Vec (Vec Placed)) : Type 0 where
  pub good : checked s ≡ Ok tt
  pub pairs : are_pairs s.opening ≡ true
  pub laid : layout ≡ layout_of s
  pub keyed : key ≡ s
  pub sized : id.words ≡ words_in s
  pub slotless : id.slots ≡ 0
  pub none : answers.items ≡ []
  pub room : s.processes ≤ vec_capacity answers

-- the port was made with the board
abbrev pub IsOf : BoardState → PortState → Type 0
IsOf board port = (port.table_id ≡ board.table_id) × (port.setup ≡ board.setup)

-- these ports are of processes that have done nothing, in order
abbrev pub AreIdle : List PortState → Type 0
AreIdle ports = (k : ℕ) (port : PortState) → slice_get ports k ≡ Some port → port.view.own ≡ new_own k

-- these ports are of processes 1, 2 and so on, in order, which have done nothing
abbrev pub AreOthersIdle : List PortState → Type 0
AreOthersIdle ports = (k : ℕ) (port : PortState) → slice_get ports k ≡ Some port → port.view.own ≡ new_own (suc k)

-- these are the ports of the board, one of each process, in order
pub record ArePortsOf (board : BoardState) (ports : List PortState) : Type 0 where
  pub all : length ports ≡ board.setup.processes
  pub each : (k : ℕ) (port : PortState) → slice_get ports k ≡ Some port → IsOf board port × (port.view.own.process ≡ k)
