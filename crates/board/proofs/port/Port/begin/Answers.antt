use Rattle.std.proofs.Common.{◌≡◌, true, false, [], ◌∷◌, Some, Result, Ok, Err, OnErr, OnOk, inl, inr, refl, ap, subst, sym, ◌∙◌}
use Rattle.std.specs.Result.{is_err}
use Rattle.plain_store.specs.{Setup}
use Rattle.model.specs.declared.Event.TheVariants.{Call}
use Rattle.model.specs.declared.Mark.TheVariants.{Called}
use Rattle.process.specs.{ProcessState}
use Rattle.board.specs.Calls.{Calls, calls_after}
use Rattle.board.specs.{KnowsPlace, PortState, AreInSeen, ViewState, answer_to, at_events, with_pending}
use Rattle.board.specs.declared.pending.Pending.{Pending}
use Rattle.board.proofs.Listings.{place_called}
use Rattle.board.proofs.Pendings.{accepted, happens, joins_call, refused}
use Rattle.board.proofs.SeenCallsFit.{fits_called}
use Rattle.board.proofs.port.Port.begin.Goals as goal

where_ok : {A E : Type 0} (P : Type 0) (r : Result A E) → OnOk r P → false ≡ is_err r → P
where_ok P (Ok x) h is = h
where_ok P (Err x) h is = cc

where_err : {A E : Type 0} (P : Type 0) (r : Result A E) → OnErr r P → true ≡ is_err r → P
where_err P (Ok x) h is = cc
where_err P (Err x) h is = h

pub returns-in-Err : goal.returns-in-Err
returns-in-Err c =
    let no = refused c.args.self.now (λ p. Call p c.args.command) c.process.result c.answer.result c.in-Err.refusal c.in-Err.is c.answer.ensures c.process.ensures in
    record { same = (refl, refl, refl, refl); answer = inl no.0; port = tt; unchanged = refl }

-- if the allocation fails
pub invariant_of-self : goal.invariant_of-self
invariant_of-self c =
    let same = where_err (c.begin.new.self ≡ c.self.inside.calls) c.begin.result c.begin.ensures.unchanged c.if-is_err.ensures.value in
    let inv = c.self.invariant in
    record { tied = inv.tied; calls = same ∙ inv.calls; place = inv.place; fits = inv.fits; none = inv.none }

pub returns-then-is_err : goal.returns-then-is_err
returns-then-is_err c =
    let now = c.self.view_is in
    let yes = ap (λ p. answer_to c.args.self.now (Call p c.args.command)) (sym c.process.ensures) ∙ sym c.answer.ensures ∙ c.in_default.is in
    record {
      same = (ap (λ (p : PortState). p.table_id) now, ap (λ (p : PortState). p.id) now, ap (λ (p : PortState). p.setup) now, ap (λ (p : PortState). p.view.own.process) now);
      answer = inr (refl, yes);
      port = tt;
      unchanged = now;
    }

pub invariant_of-self-2 : goal.invariant_of-self-2
invariant_of-self-2 c =
    let f = c.self.inside in let s = f.process.setup in let v = f.seat.me.0 in let b = with_pending s f.pending v in let command = c.args.command in
    let may = accepted c.args.self.now _ (λ p. Call p command) c.process.result c.answer.result c.self.view_is c.in_default.is c.answer.ensures c.process.ensures in
    let joins = joins_call s f.pending.restarted f.pending.failed f.pending.withdrew f.pending.called f.process c.call.new.self f.value v command c.next_number-number.result c.self.invariant.tied
    may c.operands_are_sound.ensures c.next_number-number.ensures c.call.ensures in
    let pending : Pending = record f.pending { called = Some command } in
    let then : with_pending c.call.new.self.setup pending v ≡ at_events s b (Call b.own.process command ∷ []) = ap (λ (q : ProcessState). with_pending q.setup pending v) c.call.ensures ∙ joins.1 in
    let begun : c.begin.new.self ≡ calls_after 0 f.calls (Called command) = where_ok (c.begin.new.self ≡ calls_after 0 f.calls (Called command)) c.begin.result c.begin.ensures.begun c.if-is_err.ensures.value in
    record {
      tied = joins.0;
      calls = begun ∙ ap (λ (k : Calls). calls_after 0 k (Called command)) c.self.invariant.calls ∙ ap (λ (w : ViewState). w.own.calls) (sym then);
      place = subst (KnowsPlace f.stamp) (sym then) (place_called s b b.own.process command f.stamp);
      fits = subst (λ (q : Setup). AreInSeen q (with_pending c.call.new.self.setup pending v)) (sym (ap (λ (q : ProcessState). q.setup) c.call.ensures)) (subst (AreInSeen s) (sym then) (fits_called s b b.own.process command c.self.invariant.fits));
      none = c.self.invariant.none;
    }

pub returns : goal.returns
returns c =
    let f = c.self.inside in let s = f.process.setup in let v = f.seat.me.0 in let command = c.args.command in
    let may = accepted c.args.self.now _ (λ p. Call p command) c.process.result c.answer.result c.self.view_is c.in_default.is c.answer.ensures c.process.ensures in
    let joins = joins_call s f.pending.restarted f.pending.failed f.pending.withdrew f.pending.called f.process c.call.new.self f.value v command c.next_number-number.result c.self.invariant.tied
    may c.operands_are_sound.ensures c.next_number-number.ensures c.call.ensures in
    let pending : Pending = record f.pending { called = Some command } in
    let done = happens c.args.self.now _ _ (λ p. Call p command) c.process.result c.answer.result c.in_default.is c.answer.ensures c.process.ensures c.self.view_is
    (λ i. record { table_id = f.seat.table_id; id = f.seat.id; setup = ap (λ (q : ProcessState). q.setup) c.call.ensures i; view = (ap (λ (q : ProcessState). with_pending q.setup pending v) c.call.ensures ∙ joins.1) i }) in
    record { same = done.0; answer = inl done.1; port = done.2; unchanged = tt }
