use Rattle.picture.specs.{held, seen_page, seen_windowed, shows_end}
use Rattle.picture.proofs.Windowing.{lines_ended, rest_ok, window_with}
use Rattle.picture.proofs.windowed_page.WindowedPage.end.Goals as goal

pub returns-clause-page : goal.returns-clause-page
returns-clause-page c =
    rest_ok c.end.result c.args.at c.args.verdict c.shown_verdict-shown.result (seen_windowed c.args.self.now) (window_with (seen_windowed c.args.self.now) c.args.self.now.begun (seen_page c.end.new.self))
    c.shown_verdict-shown.ensures c.end.ensures.page

pub returns-clause-lines : goal.returns-clause-lines
returns-clause-lines c =
    lines_ended c.end.result (shows_end c.args.self.now.window c.args.at) c.args.verdict c.shown_verdict-shown.result (held c.args.self.now) c.shown_verdict-shown.ensures c.end.ensures.lines
