use Rattle.std.proofs.Common.{◌<◌, ◌≤◌, ◌+◌, ℕ, List, length, sym, subst, ◌∙◌, arith, true≢false}
use Rattle.call_check.specs.{ArePart, Call, IsBadIn, all_calls}
use Rattle.model.specs.{Placed, lists_of}
use Rattle.call_check.specs.declared.verdicts.Weighed.TheVariants.{Good, Bad, BadEnd}
use Rattle.call_check.proofs.AllCalls.{before_more, before_within, part_there}
use Rattle.call_check.proofs.Finding.{few_all, lowest_bad, none_at_all, none_more, weighed}
use Rattle.call_check.proofs.weighing.weigh.Goals as goal

pub first_bad-requires : goal.first_bad-requires
first_bad-requires c =
    let followed = c.in_ok-followed.ensures (few_all c.args.setup.now c.args.lists.now c.requires.good c.requires.few_lists c.requires.few_calls) in
    let size = followed.size in
    let most = before_within c.args.lists.now c.loop-port.port c.loop-port.before c.index-lists-port.result c.loop-port.invariant.before c.loop-port-test.true c.index-lists-port.is in
    subst (λ (l : List Placed). c.loop-port.before + length l ≤ length c.in_ok-followed.followed.notes.items) (sym c.deref.ensures.value) (omega (arith, size, most))

pub returns-in-Some : goal.returns-in-Some
returns-in-Some c =
    let calls : List Call = all_calls (lists_of c.args.lists.now) in
    let p : ℕ = c.loop-port.port in
    let count : ℕ = c.in_ok-followed.followed.count in
    let followed = c.in_ok-followed.ensures (few_all c.args.setup.now c.args.lists.now c.requires.good c.requires.few_lists c.requires.few_calls) in
    let part = part_there c.args.lists.now p c.loop-port.before c.index-lists-port.result c.loop-port.invariant.before c.loop-port-test.true c.index-lists-port.is in
    let first = subst (λ (l : List Placed). ArePart calls p c.loop-port.before l → IsBadIn c.args.setup.now calls count c.in_ok-followed.followed.store p l c.in-Some.index × ((j : ℕ) → j < c.in-Some.index → IsBadIn c.args.setup.now calls count c.in_ok-followed.followed.store p l j → ⊥)) c.deref.ensures.value (λ own. c.in-Some.ensures c.args.setup.now calls p own followed) part in
    weighed c.args.setup.now (lists_of c.args.lists.now) c.args.image.now c.in_ok-followed.followed.notes.items count c.in_ok-followed.followed.store c.in_ok-followed.followed.several (Bad p c.in-Some.index) followed
    (lowest_bad c.args.setup.now c.args.lists.now count c.in_ok-followed.followed.store p c.in-Some.index c.index-lists-port.result c.loop-port-test.true c.index-lists-port.is c.loop-port.invariant.good first.0 first.1)

pub overflow_add-before : goal.overflow_add-before
overflow_add-before c =
    let followed = c.in_ok-followed.ensures (few_all c.args.setup.now c.args.lists.now c.requires.good c.requires.few_lists c.requires.few_calls) in
    let size = followed.size in
    let most = before_within c.args.lists.now c.loop-port.port c.loop-port.before c.index-lists-port.result c.loop-port.invariant.before c.loop-port-test.true c.index-lists-port.is in
    let l = c.len-before.ensures in
    let small = c.in_ok-followed.followed.notes.small in
    let ok = c.in_ok-followed.followed.notes.ok in
    omega (arith, size, most, l, small, ok)

pub loop-port-preserved : goal.loop-port-preserved
loop-port-preserved c =
    let calls : List Call = all_calls (lists_of c.args.lists.now) in
    let p : ℕ = c.loop-port.port in
    let count : ℕ = c.in_ok-followed.followed.count in
    let followed = c.in_ok-followed.ensures (few_all c.args.setup.now c.args.lists.now c.requires.good c.requires.few_lists c.requires.few_calls) in
    let part = part_there c.args.lists.now p c.loop-port.before c.index-lists-port.result c.loop-port.invariant.before c.loop-port-test.true c.index-lists-port.is in
    let good = subst (λ (l : List Placed). ArePart calls p c.loop-port.before l → (j : ℕ) → IsBadIn c.args.setup.now calls count c.in_ok-followed.followed.store p l j → ⊥) c.deref.ensures.value (λ own. c.in_default.ensures c.args.setup.now calls p own followed) part in
    record {
      before = (let more = before_more c.args.lists.now p c.loop-port.before c.index-lists-port.result c.loop-port.invariant.before c.loop-port-test.true c.index-lists-port.is in let l = c.len-before.ensures in omega (arith, more, l));
      good = none_more c.args.setup.now c.args.lists.now count c.in_ok-followed.followed.store p c.index-lists-port.result c.loop-port-test.true c.index-lists-port.is c.loop-port.invariant.good good;
    }

pub returns-then-end_with : goal.returns-then-end_with
returns-then-end_with c =
    let followed = c.in_ok-followed.ensures (few_all c.args.setup.now c.args.lists.now c.requires.good c.requires.few_lists c.requires.few_calls) in
    let over : length c.args.lists.now ≤ c.loop-port.port = (let test = c.loop-port-test.false in let most = c.loop-port.auto.port-end in omega (arith, test, most)) in
    weighed c.args.setup.now (lists_of c.args.lists.now) c.args.image.now c.in_ok-followed.followed.notes.items c.in_ok-followed.followed.count c.in_ok-followed.followed.store c.in_ok-followed.followed.several Good followed
    (none_at_all c.args.setup.now c.args.lists.now c.in_ok-followed.followed.count c.in_ok-followed.followed.store c.loop-port.port over c.loop-port.invariant.good, c.end_with.ensures.0 c.if-end_with.true)

pub returns : goal.returns
returns c =
    let followed = c.in_ok-followed.ensures (few_all c.args.setup.now c.args.lists.now c.requires.good c.requires.few_lists c.requires.few_calls) in
    let over : length c.args.lists.now ≤ c.loop-port.port = (let test = c.loop-port-test.false in let most = c.loop-port.auto.port-end in omega (arith, test, most)) in
    weighed c.args.setup.now (lists_of c.args.lists.now) c.args.image.now c.in_ok-followed.followed.notes.items c.in_ok-followed.followed.count c.in_ok-followed.followed.store c.in_ok-followed.followed.several BadEnd followed (
      none_at_all c.args.setup.now c.args.lists.now c.in_ok-followed.followed.count c.in_ok-followed.followed.store c.loop-port.port over c.loop-port.invariant.good,
      λ same. absurd (true≢false (sym (c.end_with.ensures.1 same) ∙ c.if-end_with.false)),
    )
