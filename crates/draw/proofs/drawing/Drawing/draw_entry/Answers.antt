use Rattle.std.proofs.Common.{◌+◌, ◌≤◌, inl, ◌∷◌, ℕ, ap, refl, subst, sym}
use Rattle.draw.specs.{IsStoreBefore, StoreBefore, entries_among, reads_since}
use Rattle.draw.proofs.Drawings.{entry_drawn}
use Rattle.draw.proofs.StoresBefore.{before_on}
use Rattle.draw.proofs.drawing.Drawing.draw_entry.Goals as goal

pub returns-clause-drawn : goal.returns-clause-drawn
returns-clause-drawn g c = λ view s parts e process access marks reports recalls.
    let d = c.args.self.now in
    let mid = c.draw_access.new.self in
    let shown = c.in_ok-draw_access.ensures in
    let past = entries_among parts in
    let kept = c.in_ok-keep.ensures in
    let b : StoreBefore = c.keep.new.self in
    entry_drawn view s parts e d mid (record mid { canvas = c.draw_marks.new.self; store = c.draw_marks.new.store; entries = mid.entries + 1 }) c.observe.new.self
    (g.W.Sink.taken c.args.output.now) (g.W.Sink.taken c.draw_access.new.output) (g.W.Sink.taken c.draw_marks.new.output)
    c.args.process c.args.access c.args.marks.now process access marks c.observe.ensures.kept recalls
    (c.in_ok-observe.ensures.observes view.reads s past (reads_since s parts) e access recalls.waits recalls.entries reports)
    (shown.drawn view s past c.args.marks.now recalls.entries (sym c.drops_open_read.ensures) recalls.accesses)
    shown.overlaps shown.store shown.source
    c.in_ok-draw_marks.ensures.drawn refl (ap (λ (n : ℕ). n + 1) shown.entries)
    (subst (λ (x : StoreBefore). IsStoreBefore view.window s (e ∷ past) x) (sym shown.before)
    (before_on view.window s past e b (inl (λ many. kept.kept (subst (λ n. b.from ≤ n) (sym recalls.entries) many)))
    (kept.before view.window s past recalls.store recalls.entries recalls.before)))
