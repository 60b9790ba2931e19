use Rattle.std.proofs.Common.{◌≡◌, ℕ, ◌+◌, List, [], ◌++◌, ap, drop, flat_map, length, map, sym, take, ◌∙◌}
use Rattle.std.specs.declared.alloc.Global.{Global}
use Rattle.std.specs.declared.vec.Vec.{Vec}
use Rattle.markup.specs.{drawings}
use Rattle.picture.specs.{behind_columns, framed, height_with, held_in_64, judged_shapes, seen_page, titles_if}
use Rattle.picture_layout.specs.{Column, accesses_after, accesses_at, layout_of, seen, seen_accesses, stretched_all, reported_in}
use Rattle.picture.proofs.Pagings.{draws_parts, stretched_within}
use Rattle.picture.proofs.page.Page.draw_band.Goals as goal

pub returns-clause-page : goal.returns-clause-page
returns-clause-page c =
    draws_parts c.args.is_last c.args.verdict (seen_page c.args.self.now) c.replace.new.dest.items c.replace.result.items c.behind-behind_at.result c.new-self.result (map seen c.replace-columns.new.dest.items) (map seen c.stretch.new.columns)
    (seen_accesses c.begin.new.self) (seen_accesses c.pass.new.self) c.new-layout.result c.saturating_add-self.result c.saturating_add-self-2.result c.in_ok-markup.markup
    closed opened (c.behind-behind_at.ensures ∙ ap (λ (l : List Column). behind_columns (map seen l) (c.args.self.now.before, c.args.self.now.before_at)) (c.as_slice.ensures.value ∙ took)) c.new-self.ensures (ap (map seen) left)
    (apart ∙ ap (λ (l : List Column). stretched_all (map seen l)) took)
    (c.in_ok-begin.ensures ∙ ap (λ (l : List Column). accesses_at (seen_accesses c.args.self.now.accesses) (map seen l)) (c.as_slice-2.ensures.value ∙ within))
    (c.in_ok-pass.ensures ∙ ap (λ (l : List Column). accesses_after (seen_accesses c.begin.new.self) (map seen l)) (c.as_slice-4.ensures.value ∙ within))
    (c.new-layout.ensures ∙ ap (λ (l : List Column). layout_of c.args.self.now.state.processes (seen_accesses c.begin.new.self) (map seen l) c.args.is_last) (c.as_slice-3.ensures.value ∙ within))
    c.saturating_add-self.ensures
    (c.saturating_add-self-2.ensures ∙ ap (λ (n : ℕ). held_in_64 (c.args.self.now.height + (n + 16))) (c.from.ensures ∙ c.height.ensures))
    (c.in_ok-markup.ensures.draws
    ∙ ap (λ (l : List Column). framed c.args.self.now.form c.saturating_add-self.result c.args.self.now.height (height_with c.args.verdict c.new-layout.result.height)
    (drawings (judged_shapes c.args.verdict (record { columns = map seen l; before = c.args.self.now.before; before_at = c.args.self.now.before_at; layout = c.new-layout.result; is_last = c.args.is_last; opens = c.replace.result.items; subject = c.args.self.now.subject }) (seen_accesses c.begin.new.self)))) within)
  where
    took : c.replace-columns.result.items ≡ c.args.self.now.columns.items
    took = ap (λ (v : Vec Column Global). v.items) c.replace-columns.ensures.value

    left : c.replace-columns.new.dest.items ≡ []
    left = ap (λ (v : Vec Column Global). v.items) c.replace-columns.ensures.after ∙ c.new.ensures.items

    opened : c.replace.result.items ≡ c.args.self.now.opens.items
    opened = ap (λ (v : Vec ℕ Global). v.items) c.replace.ensures.value

    closed : c.replace.new.dest.items ≡ []
    closed = ap (λ (v : Vec ℕ Global). v.items) c.replace.ensures.after ∙ c.new-2.ensures.items

    apart : map seen c.stretch.new.columns ≡ stretched_all (map seen c.replace-columns.result.items)
    apart = c.in_ok-stretch.ensures.apart ∙ ap (λ (l : List Column). stretched_all (map seen l)) c.as_mut_slice.ensures.value

    within : take c.replace-columns.result.len (c.stretch.new.columns ++ drop (length c.stretch.new.columns) c.replace-columns.result.items) ≡ c.stretch.new.columns
    within = stretched_within c.replace-columns.result.len c.replace-columns.result.items c.stretch.new.columns (ap length (sym c.as_mut_slice.ensures.value) ∙ c.as_mut_slice.ensures.len) apart

pub returns-clause-lines : goal.returns-clause-lines
returns-clause-lines c = c.in_ok-markup.ensures.lines ∙ ap (λ l. l ++ titles_if c.args.verdict) (ap (flat_map reported_in) (stretched_within c.replace-columns.result.len c.replace-columns.result.items c.stretch.new.columns (ap length (sym c.as_mut_slice.ensures.value) ∙ c.as_mut_slice.ensures.len) (c.in_ok-stretch.ensures.apart ∙ ap (λ (l : List Column). stretched_all (map seen l)) c.as_mut_slice.ensures.value))
    ∙ c.in_ok-stretch.ensures.reported ∙ ap (flat_map reported_in) (c.as_mut_slice.ensures.value ∙ ap (λ (v : Vec Column Global). v.items) c.replace-columns.ensures.value))
