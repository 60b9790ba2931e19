use Rattle.std.proofs.Common.{◌++◌, ◌∷◌, reverse, ap, subst, sym, ◌∙◌}
use Rattle.trace.specs.{TraceEntry, trace_entry}
use Rattle.trace_engine.proofs.Explained.{ok_then}
use Rattle.trace_calls.specs.{HasListed, HasTabled, ListerState, ended_call, line_of}
use Rattle.trace_calls.proofs.OneMore.{tabled_on}
use Rattle.trace_calls.proofs.listing.TraceLister.take.Goals as goal

pub returns : goal.returns
returns c =
    let i = c.self.inside in
    let old : ListerState = record { table = i.table; lines = i.lines.items } in
    let new : ListerState = record { table = c.list-ended.new.self; lines = c.print_if.new.lines.items } in
    let e = c.args.entry.now in
    let newest = c.entries-newest.result in
    let ended = c.list-ended.result in
    let same = ap (λ m. trace_entry c.entry.inside.process c.entry.inside.access m) c.deref.ensures ∙ c.entry.view_is in
    ok_then c.print_if.result
    (λ lines s number entries numbers tabled.
    let before = subst (λ (l : ListerState). HasTabled l s entries numbers) (sym c.self.view_is) tabled in
    let listed = subst (λ (x : TraceEntry). HasListed c.list-ended.new.self (x ∷ reverse entries)) same (c.list-ended.ensures.listed (reverse entries) before.listed) in
    let is = c.list-ended.ensures.ended (reverse entries) before.listed ∙ ap (λ (x : TraceEntry). ended_call i.table.opened.processes (reverse entries) x) same in
    tabled_on old new s entries numbers e number newest ended before c.list-ended.ensures.processes c.list-ended.ensures.entries listed is c.entries-newest.ensures
    (lines ∙ ap (λ (x : TraceEntry). i.lines.items ++ line_of newest x.process ended) same))
    c.print_if.ensures
