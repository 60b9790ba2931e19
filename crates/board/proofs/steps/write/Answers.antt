use Rattle.std.proofs.Common.{inr, ap, subst, sym}
use Rattle.board.specs.Listing.{Lists}
use Rattle.board.specs.{LeadsTo, value_after, with_pending}
use Rattle.board.proofs.Listings.{lists_stored}
use Rattle.board.proofs.Ties.{leads_stored, may_store, tied_stored}
use Rattle.board.proofs.steps.write.Goals as goal

pub store-requires-clause-keeps : goal.store-requires-clause-keeps
store-requires-clause-keeps c = let n = c.requires.next in
    may_store c.args.words.now.key _ _ _ _ c.args.flick n.0 c.args.seat.now.me c.args.pending c.args.process.now n.1.0 n.1.1 n.1.2 n.1.3 n.1.4

pub returns-clause-tied : goal.returns-clause-tied
returns-clause-tied c = λ value word access t next writes.
    tied_stored c.args.words.now.key c.args.pending c.args.process.now c.advance.new.self value (value_after access.how value) c.args.flick word access c.args.seat.now.me.0 c.store.new.seat.me.0 t next writes (λ u e. ap (λ m. value_after m value) e) c.store.ensures.reported c.advance.ensures.process

pub returns-clause-step : goal.returns-clause-step
returns-clause-step c = inr c.store.ensures.reported

pub returns-clause-leads : goal.returns-clause-leads
returns-clause-leads c = let n = c.requires.next in
    subst (λ reported. LeadsTo c.args.words.now.key reported (with_pending c.args.words.now.key c.args.pending c.args.seat.now.me.0).own c.store.new.seat.me.0.own) (sym c.briefly.ensures)
    (leads_stored c.args.words.now.key c.args.pending c.args.process.now n.0 c.args.flick c.args.word n.1.0 c.args.seat.now.me.0 c.store.new.seat.me.0 c.advance.result n.1.1 n.1.2 c.store.ensures.reported c.advance.ensures.marks)

pub returns-clause-lists : goal.returns-clause-lists
returns-clause-lists c = λ stamp known. let n = c.requires.next in
    subst (λ reported. Lists stamp reported (with_pending c.args.words.now.key c.args.pending c.args.seat.now.me.0) c.store.new.seat.me.0) (sym c.briefly.ensures)
    (lists_stored c.args.words.now.key c.args.pending c.args.process.now n.0 c.args.flick c.args.seat.now.me.0 c.store.new.seat.me.0 c.advance.result stamp n.1.1 c.store.ensures.reported c.advance.ensures.marks c.advance.ensures.changes known)
