use Rattle.std.proofs.Common.{◌+◌, inr, ℕ, [], ◌∷◌, Option, Some, ap, refl, subst, sym}
use Rattle.judge.specs.safe_monitor.{entry_by}
use Rattle.model.specs.{Access}
use Rattle.draw.specs.{IsStoreBefore, StoreBefore, entries_among, reads_since}
use Rattle.draw.proofs.Drawings.{entry_drawn}
use Rattle.draw.proofs.Drawn.{draws_no_marks}
use Rattle.draw.proofs.StoresBefore.{before_on}
use Rattle.draw.proofs.drawing.Drawing.step.Goals as goal

pub returns-clause-drawn : goal.returns-clause-drawn
returns-clause-drawn g c = λ view s parts reports recalls.
    let d = c.args.self.now in
    let p = c.args.process in
    let access : Option Access = Some c.args.access in
    let mid = c.draw_access.new.self in
    let shown = c.in_ok-draw_access.ensures in
    let past = entries_among parts in
    let b = g.W.Sink.taken c.draw_access.new.output in
    entry_drawn view s parts (entry_by p access []) d mid (record mid { entries = mid.entries + 1 }) c.observe.new.self (g.W.Sink.taken c.args.output.now) b b
    p access [] refl refl refl c.observe.ensures.kept recalls
    (c.in_ok-observe.ensures.observes view.reads s past (reads_since s parts) (entry_by p access []) refl recalls.waits recalls.entries reports)
    (shown.drawn view s past [] recalls.entries refl recalls.accesses)
    shown.overlaps shown.store shown.source
    (draws_no_marks mid.canvas mid.store b mid.source d.entries p) refl (ap (λ (n : ℕ). n + 1) shown.entries)
    (subst (λ (x : StoreBefore). IsStoreBefore view.window s (entry_by p access [] ∷ past) x) (sym shown.before) (before_on view.window s past (entry_by p access []) d.before (inr refl) recalls.before))
