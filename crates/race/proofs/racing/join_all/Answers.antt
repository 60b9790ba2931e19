use Rattle.std.proofs.Common.{◌≡◌, ◌∙◌, suc, sym, ap, subst, Some, drop, length, arith}
use Rattle.std.specs.Prelude.{slice_get}
use Rattle.std.specs.Vec.Iter.{into_iter_items}
use Rattle.board.specs.{PortState}
use Rattle.race.specs.{HasMade}
use Rattle.race.proofs.Lists.{drop_more}
use Rattle.race.proofs.Threads.{left_more, made_one_more, reported_more}
use Rattle.race.proofs.racing.join_all.Goals as goal

pub loop-thread-preserved-in-Ok : goal.loop-thread-preserved-in-Ok
loop-thread-preserved-in-Ok g c =
    let i = c.loop-thread.invariant in
    let step = c.in-Some.ensures.steps in
    let less = step.1 in
    let pushed = c.push_reserved.ensures in
    let capacity = pushed.capacity in
    let before = c.loop-thread.ports in
    let threads = c.args.threads.items in
    let rest = into_iter_items c.next.new.self in
    let len : length c.push_reserved.new.self.items ≡ suc (length before.items) = (let more = pushed.len in let new = c.push_reserved.new.self.ok.0 in let old = before.ok.0 in omega (arith, more, new, old)) in
    record {
      room = (let room = i.room in omega (arith, len, less, capacity, room));
      all = λ none. let all = i.all none in omega (arith, len, less, all);
      rest = λ none. sym (ap (λ n. drop n threads) len ∙ drop_more threads (length before.items) c.in-Some.thread rest (sym (i.rest none) ∙ step.0));
      remaining = left_more threads (into_iter_items c.loop-thread.thread-iterator) c.in-Some.thread rest i.remaining step.0;
      reported = i.reported;
      each = λ none k t p t_at p_at.
          made_one_more (λ (u : _) (q : PortState). HasMade u.promise.board.value u.promise.number u.promise.plan.value.items q) threads before.items c.in-Some.thread rest c.in-Ok.port (sym (i.rest none) ∙ step.0) c.in-Ok.ensures.0 (i.each none) k t p t_at
          (subst (λ xs. slice_get xs k ≡ Some p) pushed.items p_at);
    }

pub loop-thread-preserved : goal.loop-thread-preserved
loop-thread-preserved g c =
    let i = c.loop-thread.invariant in
    let step = c.in-Some.ensures.steps in
    let less = step.1 in
    let threads = c.args.threads.items in
    let before = c.loop-thread.thread-iterator in
    let rest = into_iter_items c.next.new.self in
    record {
      room = (let room = i.room in omega (arith, less, room));
      all = λ none. let no : ⊥ = cc in absurd no;
      rest = λ none. let no : ⊥ = cc in absurd no;
      remaining = left_more threads (into_iter_items before) c.in-Some.thread rest i.remaining step.0;
      reported = reported_more threads (λ (u : _). u.promise.number) (into_iter_items before) c.in-Some.thread rest c.in-Err.found c.or_lower.result c.loop-thread.fault i.remaining step.0 c.in-Err.ensures.1 i.reported c.or_lower.ensures.one;
      each = λ none k t p t_at p_at. let no : ⊥ = cc in absurd no;
    }

pub returns-in-None-fault-clause-each : goal.returns-in-None-fault-clause-each
returns-in-None-fault-clause-each g c k thread port t_at p_at = c.loop-thread.invariant.each c.in-None-fault.is k thread port t_at p_at
