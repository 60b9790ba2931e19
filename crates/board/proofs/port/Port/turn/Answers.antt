use Rattle.std.proofs.Common.{◌≡◌, true, ap, sym, subst, ◌∙◌}
use Rattle.std.specs.Prelude.{fold}
use Rattle.process.specs.{ProcessState, marks_reported, may_step}
use Rattle.plain_store.specs.{Setup}
use Rattle.board.specs.{BoardState, IsTied, KnowsPlace, LeadsTo, PortState, AreInSeen, ViewState, WordStep, goes, with_pending}
use Rattle.board.specs.Calls.{Calls, calls_after}
use Rattle.board.specs.declared.pending.Pending.{Pending}
use Rattle.board.proofs.Doings.{goes_steps}
use Rattle.board.proofs.port.Port.turn.Goals as goal

pub word_step-reported-requires-clause-enabled : goal.word_step-reported-requires-clause-enabled
word_step-reported-requires-clause-enabled c =
    ap (λ (q : ProcessState). may_step q.doing) c.self.invariant.tied.same
    ∙ goes_steps _ (subst (λ (p : PortState). goes p.setup p.view.own ≡ true) (sym c.self.view_is) c.requires.enabled)

pub invariant_of-self : goal.invariant_of-self
invariant_of-self c =
    let f = c.self.inside in
    let reported = c.word_step-reported.result in
    let process = c.word_step-reported.new.process in
    let v = c.word_step-reported.new.seat.me.0 in
    let step = c.word_step-reported.ensures in
    let key = c.board.inside.table.shared.key in
    let keyed : key ≡ f.process.setup = c.board.invariant.keyed ∙ ap (λ (b : BoardState). b.setup) c.board.view_is ∙ sym c.requires.board.1 ∙ ap (λ (p : PortState). p.setup) (sym c.self.view_is) in
    let setup : process.setup ≡ key = ap (λ (q : ProcessState). q.setup) step.tied.same in
    let then : with_pending process.setup c.clear.new.self v ≡ v = λ i. with_pending (setup i) (c.clear.ensures i) v in
    let lists = step.lists f.stamp (subst (λ (s : Setup). KnowsPlace f.stamp (with_pending s f.pending f.seat.me.0)) (sym keyed) c.self.invariant.place) in
    let calls = c.self.invariant.calls ∙ ap (λ (s : Setup). (with_pending s f.pending f.seat.me.0).own.calls) (sym keyed) in
    record {
      tied = subst (λ (s : Setup). IsTied s c.clear.new.self process c.word_step-reported.new.value v) (sym setup) (subst (λ (p : Pending). IsTied key p process c.word_step-reported.new.value v) (sym c.clear.ensures) step.tied);
      calls = c.report.ensures lists.place lists.is ∙ ap (λ (k : Calls). fold (calls_after lists.place) k (marks_reported reported)) calls ∙ sym lists.calls ∙ ap (λ (w : ViewState). w.own.calls) (sym then);
      place = subst (KnowsPlace f.stamp) (sym then) lists.known;
      fits = subst (λ (s : Setup). AreInSeen s (with_pending process.setup c.clear.new.self v)) (sym setup) (subst (AreInSeen key) (sym then) step.fits);
      none = step.same.2 ∙ c.self.invariant.none;
    }

pub returns-clause-leads : goal.returns-clause-leads
returns-clause-leads c =
    let f = c.self.inside in
    let port = c.args.self.now in
    let reported = c.word_step-reported.result in
    let process = c.word_step-reported.new.process in
    let v = c.word_step-reported.new.seat.me.0 in
    let step = c.word_step-reported.ensures in
    let keyed : c.board.inside.table.shared.key ≡ f.process.setup = c.board.invariant.keyed ∙ ap (λ (b : BoardState). b.setup) c.board.view_is ∙ sym c.requires.board.1 ∙ ap (λ (p : PortState). p.setup) (sym c.self.view_is) in
    let then : with_pending process.setup c.clear.new.self v ≡ v = ap (λ (p : Pending). with_pending process.setup p v) c.clear.ensures in
    let leads = subst (λ (s : Setup). LeadsTo s reported (with_pending s f.pending f.seat.me.0).own v.own) keyed step.leads in
    subst (λ (w : ViewState). LeadsTo port.setup reported port.view.own w.own) (sym then) (subst (λ (p : PortState). LeadsTo p.setup reported p.view.own v.own) c.self.view_is leads)

pub returns-clause-step : goal.returns-clause-step
returns-clause-step c =
    let f = c.self.inside in
    let port = c.args.self.now in
    let process = c.word_step-reported.new.process in
    let v = c.word_step-reported.new.seat.me.0 in
    let keyed : c.board.inside.table.shared.key ≡ f.process.setup = c.board.invariant.keyed ∙ ap (λ (b : BoardState). b.setup) c.board.view_is ∙ sym c.requires.board.1 ∙ ap (λ (p : PortState). p.setup) (sym c.self.view_is) in
    let then : with_pending process.setup c.clear.new.self v ≡ v = ap (λ (p : Pending). with_pending process.setup p v) c.clear.ensures in
    let step = subst (λ (s : Setup). WordStep s c.args.flick (with_pending s f.pending f.seat.me.0) v) keyed c.word_step-reported.ensures.step in
    subst (λ (w : ViewState). WordStep port.setup c.args.flick port.view w) (sym then) (subst (λ (p : PortState). WordStep p.setup c.args.flick p.view v) c.self.view_is step)
