-- A port's list and the view of its seat, over a word step and over an event other than an access.
use Rattle.std.proofs.Common.{◌≡◌, ℕ, Bool, true, false, List, [], ◌∷◌, length, sym, ap, subst, ◌∙◌, Option, Some}
use Rattle.std.specs.Prelude.{IfSome, fold}
use Rattle.model.specs.safe_bit.declared.Move.TheVariants.{BeginRead}
use Rattle.model.specs.{Access, Taken}
use Rattle.plain_store.specs.{Command, Setup}
use Rattle.model.specs.declared.events.Event.TheVariants as event
use Rattle.laws.specs.{does_then, is_inside}
use Rattle.process.specs.{ProcessState, StepOutcome, changes_pending, changes_read, changes_reported, marks_on, marks_reported, stepped}
use Rattle.board.specs.declared.pending.Pending.{Pending}
use Rattle.board.specs.{IsNext, IsTied, Loads, OwnView, Stores, ViewState, at_events, calls_after, loaded, new_view, process_at, with_pending}
use Rattle.board.specs.Listing.{KnowsPlace, Lists, may_take}
use Rattle.board.proofs.Leads.{begin_calls}
use Rattle.board.proofs.Places.{cut_takes, is_place, may_take_on, may_take_writes}
use Rattle.board.proofs.Ties.{begins, next_own}

-- A word step.

-- the number of changes in the outcome is the one that was read
abbrev pub ReportsStamp : StepOutcome → ProcessState → Type 0
ReportsStamp reported now = IfSome (changes_reported reported) (λ changes. changes ≡ changes_read now.doing)

pub lists_stored : (s : Setup) (pending : Pending) (process : ProcessState) (value flick : Bool) (v w : ViewState) (reported : StepOutcome) (stamp : Option ℕ) → IsTied s pending process value v → Stores s flick (with_pending s pending v) w →
    marks_reported reported ≡ marks_on process flick false → ReportsStamp reported process → KnowsPlace stamp (with_pending s pending v) → Lists stamp reported (with_pending s pending v) w
lists_stored s pending process value flick v w reported stamp t stored marks read known =
    let b = with_pending s pending v in
    let m = stored.makes in
    let is : marks_reported reported ≡ marks_on (process_at s b.own) flick false = marks ∙ ap (λ q. marks_on q flick false) t.same in
    let does : w.own.doing ≡ does_then s b.own.process b.own.doing flick false = ap (λ (o : OwnView). o.doing) m.is in
    let on = λ (h : may_take w.own.doing ≡ true). may_take_on s b.own.process b.own.doing flick false (sym (ap may_take does) ∙ h) in
    record {
      place = m.place;
      is = is_place s b.seen flick false b.own w.own m stamp reported is (subst (ReportsStamp reported) t.same read) known.inside known.kept;
      calls = ap (λ (o : OwnView). o.calls) m.is ∙ ap (fold (calls_after m.place) b.own.calls) (sym is);
      known = record {
        read = stored.goes.stamped;
        inside = λ h. ap is_inside does ∙ (on h).2 ∙ known.inside (on h).0;
        kept = λ h. known.kept (on h).0 ∙ ap (λ (seen : List Taken). Some (length seen)) (sym (stored.stays (known.inside (on h).0) (on h).1));
      };
    }

pub lists_loaded : (s : Setup) (pending : Pending) (process middle : ProcessState) (value flick : Bool) (word found : ℕ) (n : Access) (v w : ViewState) (reported : StepOutcome) (stamp : Option ℕ) → IsTied s pending process value v → IsNext s process flick word n → n.how ≡ BeginRead →
    Loads s flick (with_pending s pending v) found w → middle ≡ stepped process flick false → marks_reported reported ≡ marks_on middle flick (loaded flick found) → ReportsStamp reported middle → KnowsPlace stamp (with_pending s pending v) → Lists stamp reported (with_pending s pending v) w
lists_loaded s pending process middle value flick word found n v w reported stamp t h how l goes marks read known =
    let b = with_pending s pending v in
    let x = loaded flick found in
    let begun = l.begun in
    let m = l.ends in
    let k = begins s pending process middle value flick word found n v w t h how l goes in
    let is : marks_reported reported ≡ marks_on (process_at s begun) flick x = marks ∙ ap (λ q. marks_on q flick x) k.same in
    let next = next_own s pending process value v t flick word n h in
    let not_begun = λ (h : may_take begun.doing ≡ true). may_take_writes s b.own.process b.own.doing flick n next how (may_take_on s b.own.process b.own.doing flick false (sym (ap (λ (o : OwnView). may_take o.doing) l.begins.is) ∙ h)).0 in
    let not_then = λ (h : may_take w.own.doing ≡ true). not_begun (may_take_on s begun.process begun.doing flick x (sym (ap (λ (o : OwnView). may_take o.doing) m.is) ∙ h)).0 in
    record {
      place = m.place;
      is = is_place s b.seen flick x begun w.own m stamp reported is (subst (ReportsStamp reported) k.same read) (λ h. absurd (not_begun h)) (λ h. absurd (not_begun h));
      calls = ap (λ (o : OwnView). o.calls) m.is ∙ ap (fold (calls_after m.place) begun.calls) (sym is)
          ∙ ap (λ calls. fold (calls_after m.place) calls (marks_reported reported)) (ap (λ (o : OwnView). o.calls) l.begins.is ∙ begin_calls s b.own.process b.own.doing flick false n l.begins.place b.own.calls next how);
      known = record { read = l.goes.stamped; inside = λ h. absurd (not_then h); kept = λ h. absurd (not_then h) };
    }

-- An event other than an access.

-- after a call, a withdrawal or a restart nothing has been read, and no memory unit takes a command
pub place_called : (s : Setup) (b : ViewState) (p : ℕ) (command : Command) (stamp : Option ℕ) → KnowsPlace stamp (at_events s b (event.Call p command ∷ []))
place_called s b p command stamp = record { read = λ newest h. cc; inside = λ h. cc; kept = λ h. cc }

-- after a failure the kept stamp is that of the change that was being written
pub place_failed : (s : Setup) (b : ViewState) (p : ℕ) (before stamp : Option ℕ) → KnowsPlace before b → stamp ≡ changes_pending s b.own.process b.own.doing → KnowsPlace stamp (at_events s b (event.Fail p ∷ []))
place_failed s b p before stamp known is =
    let takes = cut_takes s b.own.process b.own.command b.own.number b.own.doing in
    record {
      read = λ newest h. cc;
      inside = λ h. (takes h).3;
      kept = λ h. is ∙ (takes h).1 ∙ ap Some (sym (known.read (takes h).0 (takes h).2));
    }

-- the list of a process that has done nothing
pub place_new : (p made : ℕ) (stamp : Option ℕ) → KnowsPlace stamp (new_view p made)
place_new p made stamp = record { read = λ newest h. cc; inside = λ h. cc; kept = λ h. cc }
