use Rattle.std.proofs.Common.{◌≡◌, take, true, sym, ap, ◌∙◌}
use Rattle.plain_store.specs.{changes}
use Rattle.model.specs.{greatest}
use Rattle.process.specs.{call_of, versions_seen}
use Rattle.process.proofs.AfterParts.{g-full, g-writes}
use Rattle.process.proofs.VersionsSeen.{newest-stamp}
use Rattle.process.proofs.after.after_image.Goals as goal

pub returns-then-greatest-most_of-clause-part : goal.returns-then-greatest-most_of-clause-part
returns-then-greatest-most_of-clause-part c =
    let call = call_of c.args.call.now in
    let seen = c.args.seen.now in
    let most : c.greatest.result ≡ greatest (take call.setup.processes seen.numbers) = c.greatest.ensures ∙ ap (λ k. greatest (take k seen.numbers)) c.from.ensures in
    let some : changes seen.store call.command ≡ true = sym c.is_change.ensures ∙ c.if-not-is_change.false in
    g-full call (versions_seen call.setup.processes seen) seen.store some
    (newest-stamp seen call.setup.processes c.requires.room c.requires.call.processes ∙ sym most ∙ c.if-greatest-most_of.true ∙ c.most_of.ensures)

pub returns-else-greatest-most_of-clause-part : goal.returns-else-greatest-most_of-clause-part
returns-else-greatest-most_of-clause-part c =
    let call = call_of c.args.call.now in
    let seen = c.args.seen.now in
    let most : c.greatest.result ≡ greatest (take call.setup.processes seen.numbers) = c.greatest.ensures ∙ ap (λ k. greatest (take k seen.numbers)) c.from.ensures in
    let some : changes seen.store call.command ≡ true = sym c.is_change.ensures ∙ c.if-not-is_change.false in
    g-writes call (versions_seen call.setup.processes seen) seen.store some
    (λ full. c.if-greatest-most_of.false (most ∙ sym (newest-stamp seen call.setup.processes c.requires.room c.requires.call.processes) ∙ full ∙ sym c.most_of.ensures))
