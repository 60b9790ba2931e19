use Rattle.std.proofs.Common.{[], ◌∷◌}
use Rattle.picture_layout.specs.{seen, seen_accesses}
use Rattle.picture.specs.{seen_page}
use Rattle.picture.proofs.Framing.{on_ok}
use Rattle.picture.proofs.Pagings.{access_left, passes_access}
use Rattle.picture.proofs.page.Page.pass_access.Goals as goal

pub returns-clause-page : goal.returns-clause-page
returns-clause-page c =
    on_ok c.pass.result (λ passed. passes_access c.args.access (seen_page c.args.self.now) _
    (λ i. record (seen_page c.args.self.now) {
      accesses = access_left c.args.access c.args.self.now.state (seen c.of_access.result ∷ []) (seen_accesses c.args.self.now.accesses) (seen_accesses c.begin.new.self) (seen_accesses c.pass.new.self)
          (λ j. c.of_access.ensures.whole j ∷ []) c.in_ok-begin.ensures passed i;
    })) c.pass.ensures
