-- The ports of a board, some of which have been driven since.
use Rattle.std.proofs.Common.{◌≡◌, ◌<◌, ◌≤◌, ℕ, zero, suc, List, [], ◌∷◌, Some, length, get_or, set, ap, sym, ◌∙◌, subst, arith}
use Rattle.std.specs.Prelude.{slice_get}
use Rattle.std.proofs.lemmas.List.{length-set}
use Rattle.std.proofs.lemmas.Option.{get_or_from_slice_get, slice_get-get_or, slice_get_within}
use Rattle.board.specs.{AreFirstPortsOf, BoardState, IsOf, PortState, SamePort}

-- port k of a board
abbrev pub IsPort : BoardState → ℕ → PortState → Type 0
IsPort board k port = IsOf board port × (port.view.own.process ≡ k)

-- it is the same later
stays : (board : BoardState) (k : ℕ) (port later : PortState) → SamePort port later → IsPort board k port → IsPort board k later
stays board k port later same is = ((same.0 ∙ is.0.0, same.2 ∙ is.0.1), same.3 ∙ is.1)

-- the port at a place is of the board
pub is_of : (board : BoardState) (ports : List PortState) → AreFirstPortsOf board ports → (k : ℕ) (port : PortState) → k < length ports → port ≡ get_or ports k port → IsOf board port
is_of board ports are k port inside is = (are.each k port (slice_get-get_or ports k port inside ∙ ap (λ p. Some p) (sym is))).0

-- all ports have been driven
pub are_then : (board : BoardState) (ports later : List PortState) → AreFirstPortsOf board ports → length later ≡ length ports → ((k : ℕ) (port : PortState) → k < length ports → SamePort (get_or ports k port) (get_or later k port)) → AreFirstPortsOf board later
are_then board ports later are long same = record {
  few = subst (λ n. n ≤ board.setup.processes) (sym long) are.few;
  each = λ k port e.
      let inside : k < length ports = subst (λ n. k < n) long (slice_get_within later k port e) in
      stays board k (get_or ports k port) port
      (subst (SamePort (get_or ports k port)) (get_or_from_slice_get later k port port e) (same k port inside))
      (are.each k (get_or ports k port) (slice_get-get_or ports k port inside));
}

-- what holds of each in its place still does where one is exchanged
all_set : {A : Type 0} (P : ℕ → A → Type 0) (xs : List A) (place : ℕ) (x : A) → ((k : ℕ) (y : A) → slice_get xs k ≡ Some y → P k y) → (place < length xs → P place x) → (k : ℕ) (y : A) → slice_get (set xs place x) k ≡ Some y → P k y
all_set P [] place x each is k y e = absurd (cc)
all_set P (z ∷ xs) zero x each is zero y e = let same : x ≡ y = cc in subst (P 0) same (is (omega arith))
all_set P (z ∷ xs) zero x each is (suc k) y e = each (suc k) y e
all_set P (z ∷ xs) (suc place) x each is zero y e = each zero y e
all_set P (z ∷ xs) (suc place) x each is (suc k) y e = all_set (λ k. P (suc k)) xs place x (λ i u f. each (suc i) u f) (λ inside. is (omega (arith, inside))) k y e

-- one port has been driven
pub are_set : (board : BoardState) (ports : List PortState) (place : ℕ) (port later : PortState) → AreFirstPortsOf board ports → port ≡ get_or ports place port → SamePort port later → AreFirstPortsOf board (set ports place later)
are_set board ports place port later are is same = record {
  few = subst (λ n. n ≤ board.setup.processes) (sym (length-set ports place later)) are.few;
  each = all_set (IsPort board) ports place later are.each (λ inside. stays board place port later same (are.each place port (slice_get-get_or ports place port inside ∙ ap (λ p. Some p) (sym is))));
}
