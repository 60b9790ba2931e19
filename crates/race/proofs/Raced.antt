-- The end of a race, from the plans that its ports have made and from the closing of the board.
use Rattle.std.proofs.Common.{◌≡◌, ◌<◌, ◌≤◌, ℕ, List, inl, length, Some, refl, sym, ap, subst, ◌∙◌, arith}
use Rattle.std.specs.Prelude.{Ok, slice_get}
use Rattle.std.proofs.lemmas.List.{length-map}
use Rattle.std.proofs.lemmas.Option.{slice_get_within}
use Rattle.std.specs.Global.{Vec}
use Rattle.plain_store.specs.{Command, Contents, Setup, checked}
use Rattle.plain_store.proofs.GoodSetups.{few-processes}
use Rattle.model.specs.{Placed, past_of}
use Rattle.board.specs.{AreInOrder, AreListsOf, AreMadeWith, AreOfAll, ArePortsOf, AreQuiet, BoardState, EachIsInRecord, FirstLeaves, PortState, FitsChanges, changes_of, new_own}
use Rattle.race.proofs.Lists.{there}
use Rattle.race.specs.{AllHaveMade, AreMade, AreNew, IsRaced, plans_of}

-- the port to which a list belongs
answer_at : (ports : List PortState) (answers : List (List Placed)) → AreListsOf ports answers → AreInOrder ports → (k : ℕ) (calls : List Placed) → slice_get answers k ≡ Some calls →
    (port : PortState) × (slice_get ports k ≡ Some port) × (port.view.own.calls.done ≡ calls)
answer_at ports answers lists order k calls h =
    let port = there ports k (subst (λ n. k < n) lists.all (slice_get_within answers k calls h)) in
    let same : Some port.0.view.own.calls.done ≡ Some calls = sym (lists.each k port.0 port.1) ∙ ap (slice_get answers) (order k port.0 port.1) ∙ h in
    (port.0, port.1, cc)

-- ports that have made their plans are in order
in_order : (board : BoardState) (plans : List (List Command)) (ports : List PortState) → AllHaveMade board plans ports → AreInOrder ports
in_order board plans ports h k port at = (h.1 k port at).2.process

pub raced : (board : BoardState) (plans : List (List Command)) (ports : List PortState) (answers : List (List Placed)) (image : Contents) → AllHaveMade board plans ports → length plans ≡ board.setup.processes → AreListsOf ports answers →
    EachIsInRecord board.setup answers → FirstLeaves board.setup ports image → IsRaced board.setup plans answers image
raced board plans ports answers image h all lists fit leaves = record {
  all = lists.all ∙ h.0 ∙ all;
  made = λ p calls at.
      let a = answer_at ports answers lists (in_order board plans ports h) p calls at in
      let m = h.1 p a.0 a.1 in
      (m.0, m.1, subst (AreMade m.0) a.2 m.2.calls);
  fits = fit;
  end = λ calls at.
      let a = answer_at ports answers lists (in_order board plans ports h) 0 calls at in
      let l = leaves 0 a.0 a.1 (in_order board plans ports h 0 a.0 a.1) in
      (changes_of board.setup (past_of board.setup l.events), record { events = l.events; given = l.given; main_theorem = l.main_theorem; are = refl }, subst (λ (xs : List Placed). FitsChanges board.setup 0 xs (changes_of board.setup (past_of board.setup l.events))) a.2 l.fits, l.store);
}

-- The board can be closed: all its ports are present, and at rest.

pub made_with : (board : BoardState) (plans : List (List Command)) (ports : List PortState) → AllHaveMade board plans ports → AreMadeWith board ports
made_with board plans ports h k port at = (h.1 k port at).2.of_board

pub of_all : (board : BoardState) (plans : List (List Command)) (ports : List PortState) → AllHaveMade board plans ports → length plans ≡ board.setup.processes → AreOfAll board.setup.processes ports
of_all board plans ports h all = record {
  all = h.0 ∙ all;
  each = λ p below.
      let port = there ports p (subst (λ n. p < n) (sym (h.0 ∙ all)) below) in
      (p, (port.0, port.1, in_order board plans ports h p port.0 port.1));
}

pub quiet : (board : BoardState) (plans : List (List Command)) (ports : List PortState) → AllHaveMade board plans ports → AreQuiet ports
quiet board plans ports h k port at = inl (h.1 k port at).2.rests

-- The ports of a new board.

pub are_new : (board : BoardState) (ports : List PortState) → ArePortsOf board ports → ((k : ℕ) (port : PortState) → slice_get ports k ≡ Some port → port.view.own ≡ new_own k) → AreNew board ports
are_new board ports are idle p port at = ((are.each p port at).0, idle p port at)

pub as_many : (s : Setup) (board : BoardState) (ports : List PortState) (plans : List (Vec Command)) → checked s ≡ Ok tt → board.setup ≡ s → ArePortsOf board ports → length plans ≡ s.processes → (length ports ≡ length plans) × (length ports ≤ 16)
as_many s board ports plans good is are all =
    let few : s.processes ≤ 16 = few-processes s good in
    let ports_all : length ports ≡ s.processes = are.all ∙ ap (λ (t : Setup). t.processes) is in
    (ports_all ∙ sym all, omega (arith, few, ports_all))

pub plans_all : (s : Setup) (board : BoardState) (plans : List (Vec Command)) → board.setup ≡ s → length plans ≡ s.processes → length (plans_of plans) ≡ board.setup.processes
plans_all s board plans is all = length-map plans (λ (v : Vec Command). v.items) ∙ all ∙ sym (ap (λ (t : Setup). t.processes) is)
