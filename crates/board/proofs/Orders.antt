-- Ports in the order of their processes.
use Rattle.std.proofs.Common.{◌≡◌, ◌+◌, ◌<◌, ℕ, zero, suc, List, [], ◌∷◌, length, get_or, Option, None, Some, true, false, refl, sym, ap, subst, ◌∙◌, arith}
use Rattle.std.specs.Prelude.{slice_get, IfSome, IsPermutation}
use Rattle.std.specs.Option.{IsSome, is_some}
use Rattle.std.specs.List.{SwappedAt}
use Rattle.std.proofs.lemmas.Option.{get_or_from_slice_get, slice_get-get_or, slice_get_within}
use Rattle.std.proofs.lemmas.List.{length-map}
use Rattle.std.proofs.lemmas.List.Sorted.{Contains-permutation, IsPermutation-sym, length_permutation}
use mathlib.Core.Logic.{dite}
use native.Mathlib.Decide.{ℕ_discrete}
use Rattle.model.specs.{Placed}
use Rattle.plain_store.specs.{Contents, Setup}
use Rattle.board.specs.{AreFirstPortsOf, AreInOrder, AreListsOf, AreMadeWith, AreOfAll, ArePortsOf, AreQuiet, BoardState, FirstLeaves, IsPlaceOf, Leaves, PortState, done_calls}
use Rattle.board.proofs.PortLists.{item_at}

-- an item of a list is in each permutation of it
moved_to : {A : Type 0} (xs ys : List A) → IsPermutation xs ys → (k : ℕ) (x : A) → slice_get xs k ≡ Some x → (j : ℕ) × (slice_get ys j ≡ Some x)
moved_to xs ys moved k x at =
    let there = Contains-permutation xs ys x moved (k, slice_get_within xs k x at, get_or_from_slice_get xs k x x at) in
    (there.0, slice_get-get_or ys there.0 x there.1 ∙ ap (λ y. Some y) there.2)

-- so each permutation has the port of each process
pub place_then : (ports later : List PortState) (p : ℕ) → IsPermutation ports later → (place : ℕ) × IsPlaceOf ports p place → (place : ℕ) × IsPlaceOf later p place
place_then ports later p moved here =
    let there = moved_to ports later moved here.0 here.1.0 here.1.1 in
    (there.0, (here.1.0, there.1, here.1.2))

-- each of the first n ports is at its index
abbrev pub ArePlaced : ℕ → List PortState → Type 0
ArePlaced n ports = (k : ℕ) (port : PortState) → k < n → slice_get ports k ≡ Some port → port.view.own.process ≡ k

-- one more port is at its index, after it was swapped with the port there
pub placed_more : (xs ys : List PortState) (n place : ℕ) → SwappedAt xs ys n place → length ys ≡ length xs → IsPlaceOf xs n place → ArePlaced n xs → ArePlaced (n + 1) ys
placed_more xs ys n place swapped long found placed k port low at =
    dite (ℕ_discrete k n)
    (λ here. ap (λ (p : PortState). p.view.own.process) (sym there ∙ ap (λ i. get_or ys i port) here ∙ swapped.0 port ∙ get_or_from_slice_get xs place found.0 port found.1) ∙ found.2 ∙ sym here)
    (λ apart. dite (ℕ_discrete k place)
    (λ here. absurd (apart (here ∙ sym (placed place found.0 (subst (λ i. i < n) here (before apart)) found.1) ∙ found.2)))
    (λ other. placed k port (before apart) (slice_get-get_or xs k port (subst (λ l. k < l) long (slice_get_within ys k port at)) ∙ ap (λ y. Some y) (sym (swapped.2 k port apart other) ∙ there))))
  where
    there : get_or ys k port ≡ port
    there = get_or_from_slice_get ys k port port at

    before : (k ≡ n → ⊥) → k < n
    before apart = omega (arith, low, apart)

pub all_placed : (n : ℕ) (ports : List PortState) → ArePlaced n ports → length ports ≡ n → AreInOrder ports
all_placed n ports placed all k port at = placed k port (subst (λ l. k < l) all (slice_get_within ports k port at)) at

-- The ports after sorting are the ports before.

was : (ports later : List PortState) → IsPermutation ports later → (k : ℕ) (port : PortState) → slice_get later k ≡ Some port → (j : ℕ) × (slice_get ports j ≡ Some port)
was ports later moved = moved_to later ports (IsPermutation-sym ports later moved)

pub first_ports : (board : BoardState) (ports later : List PortState) → AreMadeWith board ports → AreOfAll board.setup.processes ports → IsPermutation ports later → AreInOrder later → AreFirstPortsOf board later
first_ports board ports later made all moved order = record {
  few = let long = length_permutation ports later moved in let every = all.all in omega (arith, long, every);
  each = λ k port at. let there = was ports later moved k port at in (made there.0 port there.1, order k port at);
}

pub all_later : (processes : ℕ) (ports later : List PortState) → AreOfAll processes ports → IsPermutation ports later → length later ≡ processes
all_later processes ports later all moved = length_permutation ports later moved ∙ all.all

pub quiet_later : (ports later : List PortState) → AreQuiet ports → IsPermutation ports later → AreQuiet later
quiet_later ports later quiet moved k port at = let there = was ports later moved k port at in quiet there.0 port there.1

-- The store that a closed board leaves, for the ports in the order in which they were given.

pub first_leaves : (s : Setup) (ports later : List PortState) (image : Contents) → IsPermutation ports later → AreInOrder later → ((port : PortState) → slice_get later 0 ≡ Some port → Leaves s port.view.own.calls port.view.seen image) → FirstLeaves s ports image
first_leaves s ports later image moved order leaves k port at first =
    let there = moved_to ports later moved k port at in
    leaves port (subst (λ j. slice_get later j ≡ Some port) (sym (order there.0 port there.1) ∙ first) there.1)

done_at : (ports : List PortState) (k : ℕ) (port : PortState) → slice_get ports k ≡ Some port → slice_get (done_calls ports) k ≡ Some port.view.own.calls.done
done_at [] k port at = cc
done_at (x ∷ ports) zero port at = let same : x ≡ port = cc in ap (λ (p : PortState). Some p.view.own.calls.done) same
done_at (x ∷ ports) (suc k) port at = done_at ports k port at

pub are_lists : (ports later : List PortState) (lists : List (List Placed)) → IsPermutation ports later → AreInOrder later → lists ≡ done_calls later → AreListsOf ports lists
are_lists ports later lists moved order are = record {
  all = ap (λ (xs : List (List Placed)). length xs) are ∙ length-map later (λ (port : PortState). port.view.own.calls.done) ∙ length_permutation ports later moved;
  each = λ k port at.
      let there = moved_to ports later moved k port at in
      ap (λ (xs : List (List Placed)). slice_get xs port.view.own.process) are ∙ ap (slice_get (done_calls later)) (order there.0 port there.1) ∙ done_at later there.0 port there.1;
}

-- The result of a search for a port.

pub found_at : (ports : List PortState) (p : ℕ) (o : Option ℕ) → IfSome o (IsPlaceOf ports p) → is_some o ≡ true → (place : ℕ) × IsPlaceOf ports p place
found_at ports p None found some = cc
found_at ports p (Some place) found some = (place, found)

pub not_found : (ports : List PortState) (p : ℕ) (o : Option ℕ) → (o ≡ None → (place : ℕ) → IsPlaceOf ports p place → ⊥) → is_some o ≡ false → (place : ℕ) → IsPlaceOf ports p place → ⊥
not_found ports p None none is = none refl
not_found ports p (Some place) none is = cc

pub found_is : (ports : List PortState) (p : ℕ) (o : Option ℕ) (place : ℕ) → IfSome o (IsPlaceOf ports p) → o ≡ Some place → IsPlaceOf ports p place
found_is ports p o place found is = subst (λ (o : Option ℕ). IfSome o (IsPlaceOf ports p)) is found

pub some_place : (ports : List PortState) (p : ℕ) (o : Option ℕ) → (o ≡ None → (place : ℕ) → IsPlaceOf ports p place → ⊥) → (place : ℕ) × IsPlaceOf ports p place → IsSome o
some_place ports p None none here = absurd (none refl here.0 here.1)
some_place ports p (Some place) none here = refl

pub found_more : (ports : List PortState) (n : ℕ) → ((p : ℕ) → p < n → (place : ℕ) × IsPlaceOf ports p place) → (place : ℕ) × IsPlaceOf ports n place → (p : ℕ) → p < n + 1 → (place : ℕ) × IsPlaceOf ports p place
found_more ports n before here p low =
    dite (ℕ_discrete p n)
    (λ same. subst (λ (p : ℕ). (place : ℕ) × IsPlaceOf ports p place) (sym same) here)
    (λ apart. before p (omega (arith, low, apart)))

-- The ports were made with the board.

pub first_are_made : (board : BoardState) (ports : List PortState) → AreFirstPortsOf board ports → AreMadeWith board ports
first_are_made board ports are k port at = (are.each k port at).0

pub all_are_made : (board : BoardState) (ports : List PortState) → ArePortsOf board ports → AreMadeWith board ports
all_are_made board ports are k port at = (are.each k port at).0

pub made_moved : (board : BoardState) (ports later : List PortState) → AreMadeWith board ports → IsPermutation ports later → AreMadeWith board later
made_moved board ports later made moved k port at = let there = was ports later moved k port at in made there.0 port there.1

-- the port is not at this index either, where another port is
pub not_here : (ports : List PortState) (p place : ℕ) (port : PortState) (n : ℕ) → place < length ports → port ≡ get_or ports place port → n ≡ port.view.own.process → (n ≡ p → ⊥) →
    ((k : ℕ) → k < place → IsPlaceOf ports p k → ⊥) → (k : ℕ) → k < place + 1 → IsPlaceOf ports p k → ⊥
not_here ports p place port n inside is own apart before k low found =
    dite (ℕ_discrete k place)
    (λ here.
    let one : Some found.0 ≡ Some port = sym found.1 ∙ ap (slice_get ports) here ∙ item_at ports place port inside is in
    let its : found.0 ≡ port = cc in
    let same : n ≡ p = own ∙ ap (λ (q : PortState). q.view.own.process) (sym its) ∙ found.2 in
    apart same)
    (λ other. before k (omega (arith, low, other)) found)
