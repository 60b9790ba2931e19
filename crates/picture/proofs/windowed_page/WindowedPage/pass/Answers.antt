use Rattle.std.proofs.Common.{refl}
use Rattle.picture.specs.{Reports, seen_page, seen_windowed}
use Rattle.picture.proofs.Windowing.{passes_ok, stays_begun, window_with}
use Rattle.picture.proofs.windowed_page.WindowedPage.pass.Goals as goal

pub returns-then-self-clause-page : goal.returns-then-self-clause-page
returns-then-self-clause-page c = stays_begun (Reports c.args.line.now) (seen_windowed c.args.self.now) c.if-self.true c.requires

pub returns-clause-page : goal.returns-clause-page
returns-clause-page c =
    passes_ok c.pass.result (Reports c.args.line.now) (seen_windowed c.args.self.now) (window_with (seen_windowed c.args.self.now) c.args.self.now.begun (seen_page c.pass.new.self)) c.if-self.false c.requires refl refl c.pass.ensures.page
