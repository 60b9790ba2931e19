use Rattle.std.proofs.Common.{◌≡◌, ◌+◌, ℕ, suc, List, [], length, vec_len, sym, ap, ◌∙◌, subst, arith}
use Rattle.process.specs.{ProcessState}
use Rattle.board.specs.{AreMadeWith, AreOthersIdle, BoardState, IsOf, PortState, ViewState, new_own, new_view, with_made}
use Rattle.board.proofs.PortLists.{all_push}
use Rattle.board.proofs.Seats.{some_processes}
use Rattle.board.proofs.board.Board.others.Goals as goal

pub new-requires-clause-seat : goal.new-requires-clause-seat
new-requires-clause-seat c = let i = c.loop-number.invariant in
    (0, c.newcomer-seat.ensures.seat.1 ∙ ap (λ p. let m : ViewState × List (ℕ × Unit {0}) = (new_view p 0, []) in m) (ap (λ m. m.0.made) i.first ∙ sym (ap (λ (q : ProcessState). q.process) c.new-process.ensures)))

pub loop-number-preserved : goal.loop-number-preserved
loop-number-preserved c = let i = c.loop-number.invariant in let h = c.push_reserved.ensures in let q = c.new in let n : vec_len c.loop-number.ports + 1 ≡ c.loop-number.number = i.len in
    record {
      board = c.newcomer-seat.ensures.first.0;
      first = c.newcomer-seat.ensures.first.1 ∙ ap (λ m. let made : ViewState × List (ℕ × Unit {0}) = (with_made m.0, []) in made) i.first;
      len = omega arith;
      room = h.capacity ∙ i.room;
      made_with = subst (AreMadeWith c.args.self.now) (sym h.items)
          (all_push (λ _ port. IsOf c.args.self.now port) c.loop-number.ports.items q.result i.made_with
          (ap (λ (p : PortState). p.table_id) q.ensures ∙ c.newcomer-seat.ensures.seat.0, ap (λ (p : PortState). p.setup) q.ensures ∙ ap (λ (r : ProcessState). r.setup) c.new-process.ensures ∙ ap (λ (b : BoardState). b.setup) c.self.view_is));
      idle = subst AreOthersIdle (sym h.items)
          (all_push (λ k (port : PortState). port.view.own ≡ new_own (suc k)) c.loop-number.ports.items q.result i.idle
          (ap (λ (p : PortState). p.view.own) q.ensures ∙ ap (λ m. m.0.own) c.newcomer-seat.ensures.seat.1
          ∙ ap new_own (ap (λ m. m.0.made) i.first ∙ (let all : c.loop-number.number ≡ suc (length c.loop-number.ports.items) = omega (arith, n) in all))));
    }

pub returns : goal.returns
returns c =
    let i = c.loop-number.invariant in
    let some_ = some_processes c.self.inside.setup c.self.invariant.good in
    let all : c.loop-number.number ≡ c.args.self.now.setup.processes = omega (arith, some_, c.loop-number-test.false, c.loop-number.auto.number-end, ap (λ (b : BoardState). b.setup.processes) c.self.view_is) in
    record {
      board = i.board;
      first = i.first ∙ ap (λ n. let m : ViewState × List (ℕ × Unit {0}) = (new_view 0 n, []) in m) all;
      all = i.len ∙ all;
      made_with = i.made_with;
      idle = i.idle;
    }
