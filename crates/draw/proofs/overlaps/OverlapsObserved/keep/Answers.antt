use Rattle.std.proofs.Common.{◌≡◌, ◌++◌, [], ◌∷◌, List, Option, None, Some, IfSome, false, get_or, inl, inr, length, refl, sym, subst, ap, ◌∙◌}
use Rattle.std.specs.Option.{option_to_list}
use Rattle.picture.specs.picture_layout.{OverlappedRead}
use Rattle.judge.specs.safe_monitor.{ends_overlapped}
use Rattle.draw.specs.{BegunRead, OverlapsObserved, first_three, overlapped_with}
use Rattle.std.proofs.lemmas.Result.{on_ok_weaker}
use Rattle.draw.proofs.ObservedReads.{IsQuiet, ends_no_read, still_begun, still_ended, reported_ended}
use Rattle.draw.proofs.overlaps.OverlapsObserved.keep.Goals as goal
use Rattle.model.specs.safe_bit.{is_begin_of_read}

pub returns-in-BeginWrite : goal.returns-in-BeginWrite
returns-in-BeginWrite c =
    let quiet : IsQuiet c.args.access.how = elim c.in-BeginWrite.is [
      | inl w ↦ subst IsQuiet (sym w.1) (refl, λ moves. refl)
      | inr rest ↦ elim rest [
        | inl e ↦ subst IsQuiet (sym e) (refl, λ moves. refl)
        | inr w ↦ subst IsQuiet (sym w.1) (refl, λ moves. refl)
      ]
    ] in
    record {
      setup = refl;
      room = λ room. room;
      begun = λ s past reads e p is number h. still_begun s past reads e c.args.access c.args.self.now is h quiet.0 p;
      ended = λ s past reads e is number h reports. still_ended s past reads e c.args.access c.args.self.now is h (ends_no_read s past c.args.access quiet.1);
    }

pub returns-in-None : goal.returns-in-None
returns-in-None c =
    let none : is_begin_of_read c.args.access.how ≡ false = ap is_begin_of_read c.in-EndRead.is in
    record {
      setup = refl;
      room = λ room. room;
      begun = λ s past reads e p is number h. still_begun s past reads e c.args.access c.args.self.now is h none p;
      ended = λ s past reads e is number h reports. still_ended s past reads e c.args.access c.args.self.now is h (sym (reported_ended s past reads c.args.self.now c.args.access c.args.number c.args.overlapped _ h number reports (λ good. c.ended_by.ensures.reads good c.in-EndRead.is)) ∙ ap option_to_list c.in-None.is);
    }

pub returns-in-Some : goal.returns-in-Some
returns-in-Some c =
    let read : OverlappedRead = c.in-Some.read in
    let alone : read.more ≡ 0 = subst (λ (o : Option OverlappedRead). IfSome o (λ r. r.more ≡ 0)) c.in-Some.is c.ended_by.ensures.alone in
    let kept = c.add.ensures in
    record {
      setup = kept.setup;
      room = on_ok_weaker c.add.result (λ added room. ap (λ (l : List (Option BegunRead)). length l) kept.begun ∙ room) kept.ended;
      begun = on_ok_weaker c.add.result (λ added s past reads e p is number h below.
          ap (λ (l : List (Option BegunRead)). get_or l p None) kept.begun ∙ still_begun s past reads e c.args.access c.args.self.now is h (ap is_begin_of_read c.in-EndRead.is) p below) kept.ended;
      ended = on_ok_weaker c.add.result
          (λ added s past reads e is number h reports.
          let over : read ∷ [] ≡ overlapped_with s past (Some c.args.access) = ap option_to_list (sym c.in-Some.is)
          ∙ reported_ended s past reads c.args.self.now c.args.access c.args.number c.args.overlapped _ h number reports (λ good. c.ended_by.ensures.reads good c.in-EndRead.is) in
          added reads h.ended alone ∙ ap (λ (l : List OverlappedRead). first_three (reads ++ l)) (over ∙ ap (overlapped_with s past) (sym is)))
          kept.ended;
    }

pub returns-in-BeginRead-clause-ended : goal.returns-in-BeginRead-clause-ended
returns-in-BeginRead-clause-ended c = λ s past reads e is number h reports.
    ap (λ (o : OverlapsObserved). o.ended.items) c.begin.ensures
    ∙ still_ended s past reads e c.args.access c.args.self.now is h (ends_no_read s past c.args.access (λ moves. ap (ends_overlapped moves) c.in-BeginRead.is))
