use Rattle.std.proofs.Common.{false, get_or, not, sym, ap, ◌∙◌}
use Rattle.process.proofs.VersionsSeen.{version-at}
use Rattle.process.proofs.access_request.other_commit.Goals as goal

pub returns : goal.returns
returns c =
    let call = c.args.call.now in
    ap not (ap (λ k. get_or c.args.seen.now.commits k false) c.from.ensures ∙ sym (version-at c.args.seen.now call.setup.processes call.process c.requires.room c.requires.call.processes c.requires.call.process))
