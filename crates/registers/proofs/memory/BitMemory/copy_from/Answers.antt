use Rattle.std.proofs.Common.{◌≡◌, ◌<◌, [], get_or, set, length, ap, sym, ◌∙◌, arith}
use Rattle.std.proofs.lemmas.List.{get_or_default}
use Rattle.reader_copies.proofs.Copying.{get_or-written_over, written_over-more, written_over-all}
use Rattle.registers.proofs.Openings.{one-setup}
use Rattle.registers.proofs.memory.BitMemory.copy_from.Goals as goal

pub copy_from-requires : goal.copy_from-requires
copy_from-requires c =
    let at = c.loop-at.at in
    let memory = c.args.self.now in
    let other = c.args.other.now in
    let one = one-setup memory other c.requires in
    let seen : c.deref-lane-items.result.now ≡ other = c.deref-lane-items.ensures.value ∙ c.other.view_is in
    let inside : at < length other = omega (arith, c.loop-at-test.true, ap length seen) in
    let read : c.lane-item.result ≡ get_or other at [] =
    c.lane-item.is ∙ ap (λ xs. get_or xs at c.lane-item.result) seen ∙ get_or_default other at c.lane-item.result [] inside in
    let lent : c.index_mut.result.now ≡ get_or memory at [] =
    c.index_mut.ensures.value ∙ ap (λ xs. get_or xs at c.index_mut.result.now) c.loop-at.invariant
    ∙ get_or-written_over other memory at c.index_mut.result.now (sym one.0) inside
    ∙ get_or_default memory at c.index_mut.result.now [] (omega (arith, inside, one.0)) in
    ap length lent ∙ one.1 at (omega (arith, inside, one.0)) ∙ sym (ap length read)

pub loop-at-preserved : goal.loop-at-preserved
loop-at-preserved c =
    let at = c.loop-at.at in
    let other = c.args.other.now in
    let one = one-setup c.args.self.now other c.requires in
    let seen : c.deref-lane-items.result.now ≡ other = c.deref-lane-items.ensures.value ∙ c.other.view_is in
    ap (set c.loop-at.self-inside.lanes.items at) c.copy_from.ensures
    ∙ ap (λ lanes. set lanes at c.lane-item.result) c.loop-at.invariant
    ∙ written_over-more other c.args.self.now at c.lane-item.result (sym one.0)
    (omega (arith, c.loop-at-test.true, ap length seen))
    (c.lane-item.is ∙ ap (λ xs. get_or xs at c.lane-item.result) seen)

pub returns : goal.returns
returns c =
    let one = one-setup c.args.self.now c.args.other.now c.requires in
    c.loop-at.invariant
    ∙ written_over-all c.args.other.now c.args.self.now c.loop-at.at (sym one.0)
    (omega (arith, c.loop-at-test.false, ap length (c.deref-lane-items.ensures.value ∙ c.other.view_is)))
