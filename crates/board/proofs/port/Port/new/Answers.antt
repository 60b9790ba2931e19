use Rattle.std.proofs.Common.{◌≡◌, ap, sym, subst, ◌∙◌}
use Rattle.board.proofs.Listings.{place_new}
use Rattle.board.proofs.Pendings.{new_tied}
use Rattle.board.proofs.SeenCallsFit.{fits_new}
use Rattle.board.specs.{IsTied, KnowsPlace, AreInSeen, ViewState, new_view, with_pending}
use Rattle.board.specs.declared.pending.Pending.{Pending}
use Rattle.std.specs.Prelude.{None}
use Rattle.board.proofs.port.Port.new.Goals as goal

pub invariant_of-result : goal.invariant_of-result
invariant_of-result c =
    let s = c.args.process.setup in
    let p = c.args.process.process in
    let made = c.requires.seat.0 in
    let is : c.args.seat.me.0 ≡ new_view p made = ap (λ m. m.0) c.requires.seat.1 in
    let then : with_pending s c.new.result c.args.seat.me.0 ≡ new_view p made = ap (λ q. with_pending s q c.args.seat.me.0) c.new.ensures ∙ is in
    record {
      tied = subst (λ (q : Pending). IsTied s q c.args.process Rattle.std.proofs.Common.false c.args.seat.me.0) (sym c.new.ensures) (new_tied c.args.process c.args.seat.me.0 made c.requires.process is);
      calls = c.new-2.ensures ∙ ap (λ (v : ViewState). v.own.calls) (sym then);
      place = subst (KnowsPlace None) (sym then) (place_new p made None);
      fits = subst (AreInSeen s) (sym then) (fits_new s c.requires.pairs p made);
      none = ap (λ m. m.1) c.requires.seat.1;
    }
