use Rattle.std.proofs.Common.{◌≡◌, ◌+◌, ℕ, suc, List, [], length, vec_len, sym, ap, ◌∙◌, subst, arith}
use Rattle.std.specs.Prelude.{slice_get, Some}
use Rattle.process.specs.{ProcessState}
use Rattle.board.specs.{IsOf, OwnView, PortState, ViewState, new_own, new_view}
use Rattle.board.proofs.PortLists.{all_first}
use Rattle.board.proofs.board.Board.new.Goals as goal

pub new-requires-clause-seat : goal.new-requires-clause-seat
new-requires-clause-seat c = let n = c.in_ok-board.board.setup.processes in
    (n, c.in_ok-ports.ensures.first ∙ ap (λ p. let m : ViewState × List (ℕ × Unit {0}) = (new_view p n, []) in m) (sym (ap (λ (q : ProcessState). q.process) c.new-first.ensures)))

pub returns-clause-ports : goal.returns-clause-ports
returns-clause-ports c = let b = c.in_ok-board.board in let q = c.new in let h = c.in_ok-insert.ensures.items in let n : vec_len c.in_ok-ports.ports + 1 ≡ b.setup.processes = c.in_ok-ports.ensures.all in
    record {
      all = ap length h ∙ (let all : suc (length c.in_ok-ports.ports.items) ≡ b.setup.processes = omega (arith, n) in all);
      each = subst (λ (xs : List PortState). (k : ℕ) (port : PortState) → slice_get xs k ≡ Some port → IsOf b port × (port.view.own.process ≡ k)) (sym h)
          (all_first (λ k port. IsOf b port × (port.view.own.process ≡ k)) c.in_ok-ports.ports.items q.result
          (λ k port is. (c.in_ok-ports.ensures.made_with k port is, ap (λ (o : OwnView). o.process) (c.in_ok-ports.ensures.idle k port is))) (
            (ap (λ (p : PortState). p.table_id) q.ensures ∙ c.in_ok-ports.ensures.board, ap (λ (p : PortState). p.setup) q.ensures ∙ ap (λ (r : ProcessState). r.setup) c.new-first.ensures ∙ sym c.in_ok-board.ensures.setup),
            ap (λ (p : PortState). p.view.own.process) q.ensures ∙ ap (λ m. m.0.own.process) c.in_ok-ports.ensures.first,
          ));
    }

pub returns-clause-idle : goal.returns-clause-idle
returns-clause-idle c = let q = c.new in
    subst (λ (xs : List PortState). (k : ℕ) (port : PortState) → slice_get xs k ≡ Some port → port.view.own ≡ new_own k) (sym c.in_ok-insert.ensures.items)
    (all_first (λ k (port : PortState). port.view.own ≡ new_own k) c.in_ok-ports.ports.items q.result c.in_ok-ports.ensures.idle
    (ap (λ (p : PortState). p.view.own) q.ensures ∙ ap (λ m. m.0.own) c.in_ok-ports.ensures.first))
