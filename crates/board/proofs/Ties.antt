-- The tie between a port's process and its seat's view, over a word step.
use Rattle.std.proofs.Common.{◌≡◌, ℕ, Bool, true, false, refl, sym, ap, ◌∙◌, subst, Some, arith}
use Rattle.std.specs.Prelude.{fold}
use Rattle.atomic_table.specs.Table.{State, Me, Allows}
use Rattle.model.specs.safe_bit.{Move}
use Rattle.model.specs.safe_bit.declared.Move.TheVariants.{BeginWrite, EndWrite, BeginRead, EndRead, Settle}
use Rattle.model.specs.reader_copies.{IsWrite}
use Rattle.model.specs.{Access, stage_after}
use Rattle.plain_store.specs.{Setup}
use Rattle.laws.specs.{IsThere, being_written, next_of}
use Rattle.process.specs.{ProcessState, StepOutcome, marks_on, marks_reported, may_step, next_at, stepped}
use Rattle.board.specs.{Agree, IsBetween, IsNext, IsTied, IsUnended, LeadsTo, Loads, OwnView, Stores, ViewState, calls_after, closed_word, events_of, loaded, nothing, process_at, stage_in, stored, with_pending, with_step, word_of}
use Rattle.board.specs.declared.pending.Pending.{Pending}
use Rattle.board.proofs.Begins.{step_follows}
use Rattle.board.proofs.Doings.{does_unended, may_go, next_goes, next_there}
use Rattle.board.proofs.Happenings.{same_process_all}
use Rattle.board.proofs.Leads.{begin_calls, leads}
use Rattle.board.proofs.Moves.{loads, stores}
use Rattle.board.proofs.ReadBegins.{ending, reads_on}

-- Before a word step.

-- the next access of a process that may step
pub is_next : (s : Setup) (pending : Pending) (process : ProcessState) (value : Bool) (v : ViewState) (flick : Bool) (word : ℕ) (n : Access) → IsTied s pending process value v → may_step process.doing ≡ true → n ≡ next_at process flick → word ≡ word_of s n → IsNext s process flick word n
is_next s pending process value v flick word n t goes is at = record {
  next = subst (λ (q : ProcessState). next_of q.setup q.process q.doing flick ≡ Some (next_at q flick)) (sym t.same)
      (next_there s (with_pending s pending v).own flick t.unended (ap (λ (q : ProcessState). may_step q.doing) (sym t.same) ∙ goes)) ∙ ap Some (sym is);
  at = at;
}

-- the next access, as the seat's view knows it
pub next_own : (s : Setup) (pending : Pending) (process : ProcessState) (value : Bool) (v : ViewState) → IsTied s pending process value v → (flick : Bool) (word : ℕ) (n : Access) → IsNext s process flick word n →
    next_of s (with_pending s pending v).own.process (with_pending s pending v).own.doing flick ≡ Some n
next_own s pending process value v t flick word n h = ap (λ (q : ProcessState). next_of q.setup q.process q.doing flick) (sym t.same) ∙ h.next

next_before : (s : Setup) (pending : Pending) (v : ViewState) (flick : Bool) (n : Access) → next_of s (with_pending s pending v).own.process (with_pending s pending v).own.doing flick ≡ Some n →
    next_of s v.own.process (with_pending s pending v).own.doing flick ≡ Some n
next_before s pending v flick n h = ap (λ p. next_of s p (with_pending s pending v).own.doing flick) (sym (same_process_all s v.own (events_of v.own.process pending))) ∙ h

abbrev Load : Setup → ℕ → ℕ → Bool → Me (Unit {0}) ViewState → Pending → ℕ → Type 0
Load s slots id flick me pending word = Allows (λ (t : State (Unit {0}) ViewState). Agree s t.words t.views) slots id me word (λ k. k) (λ found after. Loads s flick (with_pending s pending me.0) found after.0 × (after.1 ≡ me.1))

abbrev WordStore : Setup → ℕ → ℕ → Bool → Me (Unit {0}) ViewState → Pending → ℕ → ℕ → Type 0
WordStore s slots id flick me pending word new = Allows (λ (t : State (Unit {0}) ViewState). Agree s t.words t.views) slots id me word (λ _. new) (λ _ after. Stores s flick (with_pending s pending me.0) after.0 × (after.1 ≡ me.1))

pub may_load : (s : Setup) (slots id word : ℕ) (flick value : Bool) (me : Me (Unit {0}) ViewState) (pending : Pending) (process : ProcessState) (n : Access) → IsTied s pending process value me.0 → IsNext s process flick word n → n.how ≡ BeginRead → Load s slots id flick me pending word
may_load s slots id word flick value me pending process n t h how =
    subst (Load s slots id flick me pending) (sym h.at) (loads s slots id flick me.0 me.1 (events_of me.0.own.process pending) n t.live t.may (next_before s pending me.0 flick n (next_own s pending process value me.0 t flick word n h)) how)

pub may_store : (s : Setup) (slots id word new : ℕ) (flick value : Bool) (me : Me (Unit {0}) ViewState) (pending : Pending) (process : ProcessState) (n : Access) → IsTied s pending process value me.0 → IsNext s process flick word n → IsWrite n.how → new ≡ stored value n.how → WordStore s slots id flick me pending word new
may_store s slots id word new flick value me pending process n t h writes new_is =
    let b = (with_pending s pending me.0).own in
    let next = next_own s pending process value me.0 t flick word n h in
    let p_is = same_process_all s me.0.own (events_of me.0.own.process pending) in
    let same : new ≡ stored (being_written s me.0.own.process b.doing) n.how = new_is ∙ truly n.how (λ e. (t.between flick n next).0 e ∙ ap (λ p. being_written s p b.doing) p_is) in
    subst (λ w. WordStore s slots id flick me pending w new) (sym h.at)
    (subst (WordStore s slots id flick me pending (word_of s n)) (sym same)
    (stores s slots id flick me.0 me.1 (events_of me.0.own.process pending) n t.live t.may (next_before s pending me.0 flick n next) writes))
  where
    truly : (m : Move) {x : Bool} → (m ≡ EndWrite → value ≡ x) → stored value m ≡ stored x m
    truly (BeginWrite v) h = refl
    truly EndWrite h = ap closed_word (h refl)
    truly (Settle v) h = refl
    truly BeginRead h = refl
    truly (EndRead v) h = refl

-- the next access does not end a read
pub no_end : (s : Setup) (pending : Pending) (process : ProcessState) (value flick u : Bool) (word : ℕ) (n : Access) (v : ViewState) → IsTied s pending process value v → IsNext s process flick word n → n.how ≡ EndRead u → ⊥
no_end s pending process value flick u word n v t h e = (t.between flick n (next_own s pending process value v t flick word n h)).1 u e

-- After a word step.

process_step : (s : Setup) (o then : OwnView) (process new : ProcessState) (flick value : Bool) (place : ℕ) → process ≡ process_at s o → new ≡ stepped process flick value → then ≡ with_step s o flick value place → new ≡ process_at s then
process_step s o then process new flick value place t goes is = goes ∙ ap (λ q. stepped q flick value) t ∙ ap (process_at s) (sym is)

unended_then : (s : Setup) (o then : OwnView) (flick value : Bool) (place : ℕ) → then ≡ with_step s o flick value place → IsUnended then.doing
unended_then s o then flick value place is = subst (λ (o : OwnView). IsUnended o.doing) (sym is) (does_unended s o.process o.doing flick value)

-- the tie after a store
pub tied_stored : (s : Setup) (pending : Pending) (process new : ProcessState) (value value' flick : Bool) (word : ℕ) (n : Access) (v w : ViewState) → IsTied s pending process value v → IsNext s process flick word n →
    IsWrite n.how → ((u : Bool) → n.how ≡ BeginWrite u → value' ≡ u) → Stores s flick (with_pending s pending v) w → new ≡ stepped process flick false → IsTied s nothing new value' w
tied_stored s pending process new value value' flick word n v w t h writes begins reported goes =
    let b = (with_pending s pending v).own in
    let next = next_own s pending process value v t flick word n h in
    let o' = with_step s b flick false reported.makes.place in
    record {
      live = ap (λ (u : ViewState). u.spent) reported.goes.same ∙ t.live;
      may = tt;
      same = process_step s b w.own process new flick false reported.makes.place t.same goes reported.makes.is;
      unended = unended_then s b w.own flick false reported.makes.place reported.makes.is;
      between = subst (IsBetween s value') (sym reported.makes.is) (λ fl y i. let f = step_follows s b.process b.doing flick false n t.unended next fl y i in
          ((λ e. begins (being_written s o'.process o'.doing) (f.0 e)), λ u e. no_read n.how writes (f.1 u e)));
    }
  where
    no_read : (m : Move) → IsWrite m → m ≡ BeginRead → ⊥
    no_read (BeginWrite v) h e = cc
    no_read EndWrite h e = cc
    no_read (Settle v) h e = cc
    no_read BeginRead h e = h
    no_read (EndRead v) h e = h

-- the process between the begin and the end of a read
pub record Begun (s : Setup) (middle : ProcessState) (flick : Bool) (n : Access) (begun : OwnView) : Type 0 where
  pub same : middle ≡ process_at s begun
  pub unended : IsUnended begun.doing
  pub next : next_of s begun.process begun.doing flick ≡ Some (ending n)
  pub goes : may_step middle.doing ≡ true

pub begins : (s : Setup) (pending : Pending) (process middle : ProcessState) (value flick : Bool) (word found : ℕ) (n : Access) (v w : ViewState) → IsTied s pending process value v → IsNext s process flick word n → n.how ≡ BeginRead →
    (reported : Loads s flick (with_pending s pending v) found w) → middle ≡ stepped process flick false → Begun s middle flick n reported.begun
begins s pending process middle value flick word found n v w t h how reported goes =
    let b = (with_pending s pending v).own in
    let begun = reported.begun in
    let is : middle ≡ process_at s begun = process_step s b begun process middle flick false reported.begins.place t.same goes reported.begins.is in
    let next : next_of s begun.process begun.doing flick ≡ Some (ending n) = ap (λ (o : OwnView). next_of s o.process o.doing flick) reported.begins.is
    ∙ reads_on s b.process b.doing flick false n t.unended (next_own s pending process value v t flick word n h) how in
    record {
      same = is;
      unended = unended_then s b begun flick false reported.begins.place reported.begins.is;
      next = next;
      goes = ap (λ (q : ProcessState). may_step q.doing) is ∙ may_go s begun.process begun.doing flick (ending n) next;
    }

-- the tie after a load
pub tied_loaded : (s : Setup) (pending : Pending) (process middle new : ProcessState) (value flick : Bool) (word found : ℕ) (n : Access) (v w : ViewState) → IsTied s pending process value v → IsNext s process flick word n → n.how ≡ BeginRead →
    Loads s flick (with_pending s pending v) found w → middle ≡ stepped process flick false → new ≡ stepped middle flick (loaded flick found) → IsTied s nothing new value w
tied_loaded s pending process middle new value flick word found n v w t h how reported goes on =
    let begun = reported.begun in
    let k = begins s pending process middle value flick word found n v w t h how reported goes in
    let x = loaded flick found in
    record {
      live = ap (λ (u : ViewState). u.spent) reported.goes.same ∙ t.live;
      may = tt;
      same = process_step s begun w.own middle new flick x reported.ends.place k.same on reported.ends.is;
      unended = unended_then s begun w.own flick x reported.ends.place reported.ends.is;
      between = subst (IsBetween s value) (sym reported.ends.is) (λ fl z i. let f = step_follows s begun.process begun.doing flick x (ending n) k.unended k.next fl z i in
          ((λ e. let f0 : EndRead false ≡ BeginWrite _ = f.0 e in cc), λ u e. let f1 : EndRead false ≡ BeginRead = f.1 u e in cc));
    }

-- The outcome of a word step.

pub leads_stored : (s : Setup) (pending : Pending) (process : ProcessState) (value flick : Bool) (word : ℕ) (n : Access) (v w : ViewState) (reported : StepOutcome) → IsTied s pending process value v → IsNext s process flick word n → Stores s flick (with_pending s pending v) w →
    marks_reported reported ≡ marks_on process flick false → LeadsTo s reported (with_pending s pending v).own w.own
leads_stored s pending process value flick word n v w reported t h stored_ marks =
    let b = (with_pending s pending v).own in
    let is : marks_reported reported ≡ marks_on (process_at s b) flick false = marks ∙ ap (λ q. marks_on q flick false) t.same in
    leads s reported b b w.own stored_.makes.place (next_goes s b.process b.doing flick n t.unended (next_own s pending process value v t flick word n h))
    (stored_.makes.stage ∙ ap (fold stage_after (stage_in s b)) (sym is)) refl
    (ap (λ (o : OwnView). o.calls) stored_.makes.is ∙ ap (fold (calls_after stored_.makes.place) b.calls) (sym is))

pub leads_loaded : (s : Setup) (pending : Pending) (process middle : ProcessState) (value flick : Bool) (word found : ℕ) (n : Access) (v w : ViewState) (reported : StepOutcome) → IsTied s pending process value v → IsNext s process flick word n → n.how ≡ BeginRead →
    Loads s flick (with_pending s pending v) found w → middle ≡ stepped process flick false → marks_reported reported ≡ marks_on middle flick (loaded flick found) → LeadsTo s reported (with_pending s pending v).own w.own
leads_loaded s pending process middle value flick word found n v w reported t h how loaded_ goes marks =
    let b = (with_pending s pending v).own in
    let x = loaded flick found in
    let begun = loaded_.begun in
    let k = begins s pending process middle value flick word found n v w t h how loaded_ goes in
    let is : marks_reported reported ≡ marks_on (process_at s begun) flick x = marks ∙ ap (λ q. marks_on q flick x) k.same in
    leads s reported b begun w.own loaded_.ends.place (next_goes s begun.process begun.doing flick (ending n) k.unended k.next)
    (loaded_.ends.stage ∙ ap (fold stage_after (stage_in s begun)) (sym is))
    (ap (λ (o : OwnView). o.calls) loaded_.begins.is ∙ begin_calls s b.process b.doing flick false n loaded_.begins.place b.calls (next_own s pending process value v t flick word n h) how)
    (ap (λ (o : OwnView). o.calls) loaded_.ends.is ∙ ap (fold (calls_after loaded_.ends.place) begun.calls) (sym is))

-- The word of the next access.

-- the bit of the next access exists
pub there_at : (s : Setup) (pending : Pending) (process : ProcessState) (value : Bool) (v : ViewState) (n : Access) → IsTied s pending process value v → IsThere process.setup n → IsThere s n
there_at s pending process value v n t h = subst (λ s. IsThere s n) (ap (λ (q : ProcessState). q.setup) t.same) h

-- an access that does not read belongs to a write
pub is_written : (m : Move) → (m ≡ BeginRead → ⊥) → ((v : Bool) → m ≡ EndRead v → ⊥) → IsWrite m
is_written m h k = grind arith
