use Rattle.std.proofs.Common.{true, nat_lt, ◌∙◌, refl, sym}
use Rattle.picture.specs.{Reads, seen_page, seen_windowed}
use Rattle.picture.proofs.Windowing.{leaves_out, no_band, not_before, passes_read, shows_ok, window_with}
use Rattle.picture.proofs.windowed_page.WindowedPage.take_read.Goals as goal

pub returns-then-is_after_entry-clause-page : goal.returns-then-is_after_entry-clause-page
returns-then-is_after_entry-clause-page c =
    no_band (Reads c.args.read) (seen_windowed c.args.self.now) (seen_windowed c.args.self.now)
    (passes_read c.args.read (seen_windowed c.args.self.now) (sym c.is_after_entry.ensures ∙ c.if-is_after_entry.true))

pub returns-then-not-shows_entry-clause-page : goal.returns-then-not-shows_entry-clause-page
returns-then-not-shows_entry-clause-page c =
    no_band (Reads c.args.read) (seen_windowed c.args.self.now) (window_with (seen_windowed c.args.self.now) true (seen_page c.args.self.now.page))
    (leaves_out (Reads c.args.read) (seen_windowed c.args.self.now) (window_with (seen_windowed c.args.self.now) true (seen_page c.args.self.now.page))
    (not_before c.args.self.now.begun (nat_lt c.args.read.end c.args.self.now.window.from) (sym c.is_after_entry.ensures ∙ c.if-is_after_entry.false))
    (sym c.shows_entry.ensures ∙ c.if-not-shows_entry.true) refl)

pub returns-clause-page : goal.returns-clause-page
returns-clause-page c =
    shows_ok c.take_read.result (Reads c.args.read) (seen_windowed c.args.self.now) (window_with (seen_windowed c.args.self.now) true (seen_page c.take_read.new.self))
    (not_before c.args.self.now.begun (nat_lt c.args.read.end c.args.self.now.window.from) (sym c.is_after_entry.ensures ∙ c.if-is_after_entry.false))
    (sym c.shows_entry.ensures ∙ c.if-not-shows_entry.false) refl refl c.take_read.ensures.page
