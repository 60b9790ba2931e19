use Rattle.std.proofs.Common.{◌≡◌, ℕ, length, refl, rules, ap, subst, ◌∙◌, arith}
use Rattle.board.specs.{AreOfAll, AreQuiet, BoardState}
use Rattle.board.proofs.Orders.{all_later, are_lists, first_leaves, first_ports, quiet_later}
use Rattle.board.proofs.Seats.{some_processes}
use Rattle.board.proofs.board.Board.close.Goals as goal

pub put_in_order-requires : goal.put_in_order-requires
put_in_order-requires c = c.are_of_all.ensures.0 (search rules)

pub close_in_order-requires-clause-ports : goal.close_in_order-requires-clause-ports
close_in_order-requires-clause-ports c =
    let all : AreOfAll c.args.self.setup.processes c.args.ports.items = subst (λ (n : ℕ). AreOfAll n c.args.ports.items) (ap (λ (b : BoardState). b.setup.processes) c.self.view_is) (c.are_of_all.ensures.0 (search rules)) in
    first_ports c.args.self c.args.ports.items c.put_in_order.new.ports.items c.requires.ports all c.put_in_order.ensures.moved c.put_in_order.ensures.order

pub close_in_order-requires-clause-nonempty : goal.close_in_order-requires-clause-nonempty
close_in_order-requires-clause-nonempty c =
    let many = some_processes c.self.inside.setup c.self.invariant.good in
    let every : length c.put_in_order.new.ports.items ≡ c.self.inside.setup.processes = all_later c.self.inside.setup.processes c.args.ports.items c.put_in_order.new.ports.items (c.are_of_all.ensures.0 (search rules)) c.put_in_order.ensures.moved in
    omega (arith, many, every)

pub close_in_order-requires-clause-all : goal.close_in_order-requires-clause-all
close_in_order-requires-clause-all c =
    all_later c.self.inside.setup.processes c.args.ports.items c.put_in_order.new.ports.items (c.are_of_all.ensures.0 (search rules)) c.put_in_order.ensures.moved ∙ ap (λ (b : BoardState). b.setup.processes) c.self.view_is

pub close_in_order-requires-clause-quiet : goal.close_in_order-requires-clause-quiet
close_in_order-requires-clause-quiet c = quiet_later c.args.ports.items c.put_in_order.new.ports.items (c.are_quiet.ensures.0 (search rules)) c.put_in_order.ensures.moved

pub returns-clause-quiet : goal.returns-clause-quiet
returns-clause-quiet c =
    let all : AreOfAll c.args.self.setup.processes c.args.ports.items = subst (λ (n : ℕ). AreOfAll n c.args.ports.items) (ap (λ (b : BoardState). b.setup.processes) c.self.view_is) (c.are_of_all.ensures.0 (search rules)) in
    let quiet : AreQuiet c.args.ports.items = c.are_quiet.ensures.0 (search rules) in
    (λ _. (all, quiet), λ _. refl)

pub returns-clause-leaves : goal.returns-clause-leaves
returns-clause-leaves c = first_leaves c.args.self.setup c.args.ports.items c.put_in_order.new.ports.items c.close_in_order.result.image c.put_in_order.ensures.moved c.put_in_order.ensures.order c.close_in_order.ensures.leaves

pub returns-clause-answers : goal.returns-clause-answers
returns-clause-answers c = are_lists c.args.ports.items c.put_in_order.new.ports.items _ c.put_in_order.ensures.moved c.put_in_order.ensures.order c.close_in_order.ensures.answers
