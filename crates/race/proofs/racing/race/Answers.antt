use Rattle.std.proofs.Common.{◌≡◌, false, true, subst, sym, true≢false}
use Rattle.plain_store.specs.{Setup}
use Rattle.model.specs.{lists_of}
use Rattle.race.specs.{IsRaced, plans_of}
use Rattle.race.proofs.Raced.{are_new, as_many, made_with, of_all, plans_all, quiet, raced}
use Rattle.race.proofs.racing.race.Goals as goal

pub run_all-requires-clause-all : goal.run_all-requires-clause-all
run_all-requires-clause-all g c κs within = as_many c.args.setup.now c.in_ok-board.board c.in_ok-board.ports.items c.args.plans.now c.requires.good c.in_ok-board.ensures.setup c.in_ok-board.ensures.ports c.requires.all

pub run_all-requires-clause-new : goal.run_all-requires-clause-new
run_all-requires-clause-new g c κs within = are_new c.in_ok-board.board c.in_ok-board.ports.items c.in_ok-board.ensures.ports c.in_ok-board.ensures.idle

pub close-requires : goal.close-requires
close-requires g c = record {
  ports = made_with c.in_ok-board.board (plans_of c.args.plans.now) c.in_ok-ports.ports.items c.in_ok-ports.ensures.made;
}

pub unreachable-requires : goal.unreachable-requires
unreachable-requires g c =
    let board = c.in_ok-board.board in let plans = plans_of c.args.plans.now in let ports = c.in_ok-ports.ports.items in
    let all = plans_all c.args.setup.now board c.args.plans.now c.in_ok-board.ensures.setup c.requires.all in
    let is_ok : false ≡ true = c.in-Err.ensures.quiet.1 (of_all board plans ports c.in_ok-ports.ensures.made all, quiet board plans ports c.in_ok-ports.ensures.made) in
    true≢false (sym is_ok)

pub returns-clause-raced : goal.returns-clause-raced
returns-clause-raced g c =
    let board = c.in_ok-board.board in let plans = plans_of c.args.plans.now in let ports = c.in_ok-ports.ports.items in
    let all = plans_all c.args.setup.now board c.args.plans.now c.in_ok-board.ensures.setup c.requires.all in
    let closing = c.in-Ok.closing in
    subst (λ (s : Setup). IsRaced s plans (lists_of closing.answers.items) closing.image) c.in_ok-board.ensures.setup
    (raced board plans ports (lists_of closing.answers.items) closing.image c.in_ok-ports.ensures.made all c.in-Ok.ensures.answers c.in-Ok.ensures.fit c.in-Ok.ensures.leaves)
