use Rattle.std.proofs.Common.{true, [], ◌∷◌, ◌∙◌, refl, sym}
use Rattle.picture_layout.specs.{text_of}
use Rattle.picture.specs.{Reports, held, held_back, said_before, seen_page, seen_windowed, shows_line}
use Rattle.picture.proofs.Windowing.{leaves_out, lines_shown, no_band, not_before, said_hides, shows_ok, window_with, with_none}
use Rattle.picture.proofs.windowed_page.WindowedPage.take.Goals as goal

pub returns-then-is_after-clause-page : goal.returns-then-is_after-clause-page
returns-then-is_after-clause-page c =
    no_band (Reports c.args.line) (seen_windowed c.args.self.now) (seen_windowed c.pass.new.self) c.in_ok-pass.ensures.page

pub returns-then-is_after-clause-lines : goal.returns-then-is_after-clause-lines
returns-then-is_after-clause-lines c =
    c.in_ok-pass.ensures.lines
    ∙ with_none (shows_line c.args.self.now.window c.args.line) (held c.args.self.now) (text_of c.args.line ∷ [])
    (said_hides c.args.self.now.window c.args.line.at c.args.line.line_content (sym c.is_after.ensures ∙ c.if-is_after.true))

pub returns-then-not-shows_line-clause-page : goal.returns-then-not-shows_line-clause-page
returns-then-not-shows_line-clause-page c =
    no_band (Reports c.args.line) (seen_windowed c.args.self.now) (window_with (seen_windowed c.args.self.now) true (seen_page c.args.self.now.page))
    (leaves_out (Reports c.args.line) (seen_windowed c.args.self.now) (window_with (seen_windowed c.args.self.now) true (seen_page c.args.self.now.page))
    (not_before c.args.self.now.begun (said_before c.args.self.now.window c.args.line.at c.args.line.line_content) (sym c.is_after.ensures ∙ c.if-is_after.false))
    (sym c.shows_line.ensures ∙ c.if-not-shows_line.true) refl)

pub returns-then-not-shows_line-clause-lines : goal.returns-then-not-shows_line-clause-lines
returns-then-not-shows_line-clause-lines c =
    with_none (shows_line c.args.self.now.window c.args.line) (held c.args.self.now) (text_of c.args.line ∷ [])
    (sym c.shows_line.ensures ∙ c.if-not-shows_line.true)

pub returns-clause-page : goal.returns-clause-page
returns-clause-page c =
    shows_ok c.take.result (Reports c.args.line) (seen_windowed c.args.self.now) (window_with (seen_windowed c.args.self.now) true (seen_page c.take.new.self))
    (not_before c.args.self.now.begun (said_before c.args.self.now.window c.args.line.at c.args.line.line_content) (sym c.is_after.ensures ∙ c.if-is_after.false))
    (sym c.shows_line.ensures ∙ c.if-not-shows_line.false) refl refl c.take.ensures.page

pub returns-clause-lines : goal.returns-clause-lines
returns-clause-lines c =
    lines_shown c.take.result (shows_line c.args.self.now.window c.args.line) c.shows_line.result (held_back c.take.new.self) (held c.args.self.now) (text_of c.args.line ∷ [])
    (sym c.shows_line.ensures) c.if-not-shows_line.false c.take.ensures.lines
