use Rattle.std.proofs.Common.{List, subst, sym, ap, ◌∙◌}
use Rattle.board.specs.Calls.{Calls}
use Rattle.board.specs.{AreFirstChanges, PortState, FitsChanges, ViewState, with_pending}
use Rattle.model.specs.{Placed}
use Rattle.board.proofs.FittingCalls.{finished_fits}
use Rattle.board.proofs.port.Port.answers.Goals as goal

pub returns-clause-fits : goal.returns-clause-fits
returns-clause-fits c =
    let f = c.self.inside in
    let s = f.process.setup in
    let b : ViewState = with_pending s f.pending f.seat.me.0 in
    subst (λ (p : PortState). FitsChanges p.setup p.view.own.process c.done.result.now p.view.seen) c.self.view_is
    (subst (λ (list : List Placed). FitsChanges s b.own.process list b.seen) (sym (c.done.ensures ∙ ap (λ (k : Calls). k.done) c.self.invariant.calls))
    (finished_fits s b.own.process b.own.calls.done b.own.calls.now b.seen c.self.invariant.fits.fits))

pub returns-clause-seen : goal.returns-clause-seen
returns-clause-seen c = subst (λ (p : PortState). AreFirstChanges p.setup p.view.seen) c.self.view_is c.self.invariant.fits.seen
