use Rattle.std.proofs.Common.{◌+◌, ◌++◌, ◌∷◌, [], sym, ap, ◌∙◌, subst, arith}
use Rattle.model.specs.{to_e}
use Rattle.process.specs.{Fit, all_from, call_of, versions_seen}
use Rattle.process.specs.declared.values_read.ValuesRead.{ValuesRead}
use Rattle.process.proofs.SeenMore.{version-fits, version-room}
use Rattle.process.proofs.VersionsSeen.{versions-more, with_version}
use Rattle.process.proofs.after.after_stamp.Goals as goal

pub returns-clause-part : goal.returns-clause-part
returns-clause-part c =
    let call = call_of c.args.call.now in
    let k = c.requires.keeps in
    let place = c.from-place.result in
    let then : ValuesRead = with_version c.args.seen.now place c.args.commit c.args.number in
    c.version_from.ensures.part then
    ∙ ap (λ n. to_e (all_from call (c.args.of + 1)) (versions_seen (n + 1) then)) (sym c.from-place.ensures)
    ∙ ap (to_e (all_from call (c.args.of + 1))) (versions-more c.args.seen.now place c.args.commit c.args.number k.room (omega (arith, k.holds.0, k.call.processes, c.from-place.ensures)))
    ∙ ap (λ n. to_e (all_from call (c.args.of + 1)) (versions_seen n c.args.seen.now ++ (c.args.commit, c.args.number) ∷ [])) c.from-place.ensures

pub returns-clause-keeps : goal.returns-clause-keeps
returns-clause-keeps c =
    let k = c.requires.keeps in
    let bits = c.args.call.now.setup.stamp_bits in
    let place = c.from-place.result in
    let then : ValuesRead = with_version c.args.seen.now place c.args.commit c.args.number in
    let old : Fit place bits c.args.seen.now = subst (λ n. Fit n bits c.args.seen.now) (sym c.from-place.ensures) k.holds.1 in
    let fits : Fit (place + 1) bits then = version-fits c.args.seen.now place c.args.commit c.args.number bits k.room (omega (arith, k.holds.0, k.call.processes, c.from-place.ensures)) old c.requires.fits in
    record {
      call = k.call;
      room = version-room c.args.seen.now place c.args.commit c.args.number k.room;
      holds = c.version_from.ensures.holds then (subst (λ n. Fit (n + 1) bits then) c.from-place.ensures fits);
    }
