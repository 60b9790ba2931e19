use Rattle.std.proofs.Common.{sym, ap, ◌∙◌, subst}
use Rattle.board.specs.Calls.{Calls}
use Rattle.board.specs.{IsStill, PortState, AreInRecord, ViewState, events_of, with_pending}
use Rattle.board.proofs.SeenCallsFit.{in_record}
use Rattle.board.proofs.Happenings.{same_process_all}
use Rattle.board.proofs.StillSeats.{still_seat}
use Rattle.board.proofs.port.Port.into_parts.Goals as goal

pub returns-clause-seat : goal.returns-clause-seat
returns-clause-seat c = let f = c.self.inside in let s = f.process.setup in let v = f.seat.me.0 in let t = c.self.invariant.tied in let is = c.self.view_is in
    let still = still_seat s f.pending.restarted f.pending.failed f.pending.withdrew f.pending.called f.process f.value v t (subst (λ (p : PortState). IsStill p.setup p.view.own) (sym is) c.requires.still) in
    record {
      live = t.live;
      process = sym (same_process_all s v.own (events_of v.own.process f.pending)) ∙ ap (λ (p : PortState). p.view.own.process) is;
      still = subst (λ s. IsStill s v.own) (ap (λ (p : PortState). p.setup) is) still.0;
      calls = still.1 ∙ ap (λ (p : PortState). p.view.own.calls) is;
      seen = ap (λ (p : PortState). p.view.seen) is;
    }

pub returns-clause-calls : goal.returns-clause-calls
returns-clause-calls c = c.into_done.ensures ∙ ap (λ (k : Calls). k.done) c.self.invariant.calls ∙ ap (λ (p : PortState). p.view.own.calls.done) c.self.view_is

pub returns-clause-fits : goal.returns-clause-fits
returns-clause-fits c =
    let f = c.self.inside in
    let s = f.process.setup in
    let b : ViewState = with_pending s f.pending f.seat.me.0 in
    subst (λ (p : PortState). AreInRecord p.setup p.view.own.process c.into_done.result.items) c.self.view_is
    (subst (AreInRecord s b.own.process) (sym (c.into_done.ensures ∙ ap (λ (k : Calls). k.done) c.self.invariant.calls)) (in_record s b c.self.invariant.fits))
