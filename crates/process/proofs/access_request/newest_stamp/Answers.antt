use Rattle.std.proofs.Common.{◌≡◌, sym, ap, ◌∙◌, take}
use Rattle.model.specs.{greatest}
use Rattle.process.proofs.VersionsSeen.{newest-stamp}
use Rattle.process.proofs.access_request.newest_stamp.Goals as goal

pub returns : goal.returns
returns c =
    let n = c.args.call.now.setup.processes in
    let seen = c.args.seen.now in
    let is : c.greatest.result ≡ greatest (take n seen.numbers) = c.greatest.ensures ∙ ap (λ k. greatest (take k seen.numbers)) c.from.ensures in
    record { newest = is ∙ sym (newest-stamp seen n c.requires.room c.requires.call.processes); greatest = is }
