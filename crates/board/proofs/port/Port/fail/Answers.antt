use Rattle.std.proofs.Common.{◌≡◌, true, [], ◌∷◌, refl, ap, subst, sym, ◌∙◌}
use Rattle.plain_store.specs.{Setup}
use Rattle.model.specs.declared.Event.TheVariants.{Fail}
use Rattle.process.specs.{ProcessState, changes_pending}
use Rattle.board.specs.{KnowsPlace, AreInSeen, ViewState, at_events, with_pending}
use Rattle.board.proofs.Listings.{place_failed}
use Rattle.board.proofs.Pendings.{accepted, happens, joins_failure, refused}
use Rattle.board.specs.declared.pending.Pending.{Pending}
use Rattle.board.proofs.port.Port.fail.Goals as goal

pub returns-in-Err : goal.returns-in-Err
returns-in-Err c = let no = refused c.args.self.now Fail c.process.result c.answer.result c.in-Err.refusal c.in-Err.is c.answer.ensures c.process.ensures in record { same = (refl, refl, refl, refl); answer = no.0; port = no.1 }

pub invariant_of-self : goal.invariant_of-self
invariant_of-self c =
    let f = c.self.inside in let s = f.process.setup in let v = f.seat.me.0 in let b = with_pending s f.pending v in
    let cut = c.cut.ensures.process in
    let may = accepted c.args.self.now _ Fail c.process.result c.answer.result c.self.view_is c.in_default.is c.answer.ensures c.process.ensures in
    let joins = joins_failure s f.pending.restarted f.pending.failed f.pending.withdrew f.pending.called f.process c.cut.new.self f.value v c.self.invariant.tied may cut in
    let pending : Pending = record f.pending { failed = true } in
    let then : with_pending c.cut.new.self.setup pending v ≡ at_events s b (Fail b.own.process ∷ []) = ap (λ (q : ProcessState). with_pending q.setup pending v) cut ∙ joins.1 in
    let stamp : c.changes_pending-self-inside.result ≡ changes_pending s b.own.process b.own.doing = c.changes_pending-self-inside.ensures ∙ ap (λ (q : ProcessState). changes_pending q.setup q.process q.doing) c.self.invariant.tied.same in
    record {
      tied = joins.0;
      calls = c.self.invariant.calls ∙ ap (λ (w : ViewState). w.own.calls) (sym then);
      place = subst (KnowsPlace c.changes_pending-self-inside.result) (sym then) (place_failed s b b.own.process f.stamp c.changes_pending-self-inside.result c.self.invariant.place stamp);
      fits = subst (λ (q : Setup). AreInSeen q (with_pending c.cut.new.self.setup pending v)) (sym (ap (λ (q : ProcessState). q.setup) cut)) (subst (AreInSeen s) (sym then) c.self.invariant.fits);
      none = c.self.invariant.none;
    }

pub returns : goal.returns
returns c =
    let f = c.self.inside in let s = f.process.setup in let v = f.seat.me.0 in
    let cut = c.cut.ensures.process in
    let may = accepted c.args.self.now _ Fail c.process.result c.answer.result c.self.view_is c.in_default.is c.answer.ensures c.process.ensures in
    let joins = joins_failure s f.pending.restarted f.pending.failed f.pending.withdrew f.pending.called f.process c.cut.new.self f.value v c.self.invariant.tied may cut in
    let pending : Pending = record f.pending { failed = true } in
    let done = happens c.args.self.now _ _ Fail c.process.result c.answer.result c.in_default.is c.answer.ensures c.process.ensures c.self.view_is
    (λ i. record { table_id = f.seat.table_id; id = f.seat.id; setup = ap (λ (q : ProcessState). q.setup) cut i; view = (ap (λ (q : ProcessState). with_pending q.setup pending v) cut ∙ joins.1) i }) in
    record { same = done.0; answer = done.1; port = done.2 }
