use Rattle.std.proofs.Common.{◌≡◌, ◌≤◌, ◌+◌, ◌∙◌, ℕ, ◌∷◌, suc, sym, ap, subst, Some, drop, length, arith}
use Rattle.std.specs.Prelude.{slice_get}
use Rattle.std.proofs.lemmas.Option.{slice_get_within}
use Rattle.board.proofs.PortLists.{all_push, item_at}
use Rattle.board.specs.{new_own}
use Rattle.race.specs.{IsFor, plans_of}
use Rattle.race.proofs.Lists.{at_drop, at_mapped, drop_more}
use Rattle.race.proofs.racing.start_all.Goals as goal

pub start-requires-clause-of_board : goal.start-requires-clause-of_board
start-requires-clause-of_board g c κs within =
    let i = c.loop-number.invariant in
    let step = c.in-Some.ensures.steps in
    (c.requires.new c.loop-number.number-iterator.count c.in-Some.port (at_drop c.args.ports.items c.loop-number.number-iterator.count c.in-Some.port c.next.new.self.iter.rest.items (sym i.rest ∙ step.0.0))).0

pub start-requires-clause-new : goal.start-requires-clause-new
start-requires-clause-new g c κs within =
    let i = c.loop-number.invariant in
    let step = c.in-Some.ensures.steps in
    (c.requires.new c.loop-number.number-iterator.count c.in-Some.port (at_drop c.args.ports.items c.loop-number.number-iterator.count c.in-Some.port c.next.new.self.iter.rest.items (sym i.rest ∙ step.0.0))).1 ∙ ap new_own (sym step.1)

pub bounds-plans-number : goal.bounds-plans-number
bounds-plans-number g c =
    let count = c.loop-number.number-iterator.count in
    let step = c.in-Some.ensures.steps in
    let within = slice_get_within c.args.ports.items count c.in-Some.port (at_drop c.args.ports.items count c.in-Some.port c.next.new.self.iter.rest.items (sym c.loop-number.invariant.rest ∙ step.0.0)) in
    let number = step.1 in
    let all = c.requires.all.0 in
    omega (arith, within, number, all)

pub push_reserved-requires : goal.push_reserved-requires
push_reserved-requires g c =
    let i = c.loop-number.invariant in
    let count = c.loop-number.number-iterator.count in
    let within = slice_get_within c.args.ports.items count c.in-Some.port (at_drop c.args.ports.items count c.in-Some.port c.next.new.self.iter.rest.items (sym i.rest ∙ c.in-Some.ensures.steps.0.0)) in
    let counted = i.count in
    let room = i.room in
    let long = c.loop-number.threads.ok.0 in
    omega (arith, within, counted, room, long)

pub loop-number-preserved : goal.loop-number-preserved
loop-number-preserved g c =
    let i = c.loop-number.invariant in
    let step = c.in-Some.ensures.steps in
    let pushed = c.push_reserved.ensures in
    let count = c.loop-number.number-iterator.count in
    let thread = c.in-Some-start.thread in
    let remaining : drop count c.args.ports.items ≡ c.in-Some.port ∷ c.next.new.self.iter.rest.items = sym i.rest ∙ step.0.0 in
    let at : slice_get c.args.ports.items count ≡ Some c.in-Some.port = at_drop c.args.ports.items count c.in-Some.port c.next.new.self.iter.rest.items remaining in
    let within = slice_get_within c.args.ports.items count c.in-Some.port at in
    let len : length c.push_reserved.new.self.items ≡ length c.loop-number.threads.items + 1 = sym c.push_reserved.new.self.ok.0 ∙ pushed.len ∙ ap (λ (n : ℕ). n + 1) c.loop-number.threads.ok.0 in
    let next : c.next.new.self.count ≡ suc count = (let n = step.2 in omega (arith, n)) in
    let counted : count ≡ length c.loop-number.threads.items = i.count in
    let number : c.in-Some.number ≡ count = step.1 in
    let all : length c.args.ports.items ≡ length c.args.plans.now = c.requires.all.0 in
    let vec = c.index-plans-number.result in
    let plan : slice_get (plans_of c.args.plans.now) c.in-Some.number ≡ Some vec.items =
    at_mapped (λ v. v.items) c.args.plans.now c.in-Some.number vec (item_at c.args.plans.now c.in-Some.number vec (omega (arith, within, all, number)) c.index-plans-number.is) in
    record {
      count = step.2 ∙ ap (λ n. n + 1) i.count ∙ sym len;
      few = omega (arith, len, within, counted);
      rest = sym (ap (λ n. drop n c.args.ports.items) next ∙ drop_more c.args.ports.items count c.in-Some.port c.next.new.self.iter.rest.items remaining);
      room = subst (λ (n : ℕ). length c.args.ports.items ≤ n) (sym pushed.capacity) i.room;
      each = λ k t e.
          all_push (λ n (u : _). IsFor c.args.board.now (plans_of c.args.plans.now) n u.promise.board.value u.promise.number u.promise.plan.value.items) c.loop-number.threads.items thread i.each
          (record {
            on_board = c.in-Some-start.ensures.board;
            for_process = c.in-Some-start.ensures.number ∙ step.1 ∙ counted;
            makes_plan = ap (λ n. slice_get (plans_of c.args.plans.now) n) (sym (number ∙ counted)) ∙ plan ∙ ap (λ v. Some v.items) (sym c.in-Some-start.ensures.plan);
          })
          k t (subst (λ xs. slice_get xs k ≡ Some t) pushed.items e);
    }
