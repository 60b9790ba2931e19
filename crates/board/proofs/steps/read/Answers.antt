use Rattle.std.proofs.Common.{◌≡◌, inl, subst, sym}
use Rattle.process.specs.{marks_on, marks_reported, stepped}
use Rattle.board.specs.Listing.{Lists}
use Rattle.board.specs.{LeadsTo, with_pending}
use Rattle.board.proofs.Listings.{lists_loaded}
use Rattle.board.proofs.Ties.{begins, leads_loaded, may_load, tied_loaded}
use Rattle.board.proofs.steps.read.Goals as goal

pub load-found-requires-clause-keeps : goal.load-found-requires-clause-keeps
load-found-requires-clause-keeps c = let t = c.requires.tied in let n = c.requires.next in
    may_load c.args.words.now.key _ _ _ c.args.flick t.0 c.args.seat.now.me c.args.pending c.args.process.now n.0 t.1 n.1 n.2

pub advance-requires : goal.advance-requires
advance-requires c = let t = c.requires.tied in let n = c.requires.next in
    record { enabled = (begins c.args.words.now.key c.args.pending c.args.process.now c.advance-begun.new.self t.0 c.args.flick c.args.word c.load-found.result n.0 c.args.seat.now.me.0 c.load-found.new.seat.me.0 t.1 n.1 n.2 c.load-found.ensures.reported c.advance-begun.ensures.process).goes }

pub returns-clause-tied : goal.returns-clause-tied
returns-clause-tied c = λ value t. let n = c.requires.next in
    tied_loaded c.args.words.now.key c.args.pending c.args.process.now c.advance-begun.new.self c.advance.new.self value c.args.flick c.args.word c.load-found.result n.0 c.args.seat.now.me.0 c.load-found.new.seat.me.0 t n.1 n.2 c.load-found.ensures.reported c.advance-begun.ensures.process
    (subst (λ x. c.advance.new.self ≡ stepped c.advance-begun.new.self c.args.flick x) c.loaded.ensures c.advance.ensures.process)

pub returns-clause-step : goal.returns-clause-step
returns-clause-step c = inl (c.load-found.result, c.load-found.ensures.reported)

pub returns-clause-leads : goal.returns-clause-leads
returns-clause-leads c = let t = c.requires.tied in let n = c.requires.next in
    subst (λ reported. LeadsTo c.args.words.now.key reported (with_pending c.args.words.now.key c.args.pending c.args.seat.now.me.0).own c.load-found.new.seat.me.0.own) (sym c.briefly.ensures)
    (leads_loaded c.args.words.now.key c.args.pending c.args.process.now c.advance-begun.new.self t.0 c.args.flick c.args.word c.load-found.result n.0 c.args.seat.now.me.0 c.load-found.new.seat.me.0 c.advance.result t.1 n.1 n.2 c.load-found.ensures.reported c.advance-begun.ensures.process
    (subst (λ x. marks_reported c.advance.result ≡ marks_on c.advance-begun.new.self c.args.flick x) c.loaded.ensures c.advance.ensures.marks))

pub returns-clause-lists : goal.returns-clause-lists
returns-clause-lists c = λ stamp known. let t = c.requires.tied in let n = c.requires.next in
    subst (λ reported. Lists stamp reported (with_pending c.args.words.now.key c.args.pending c.args.seat.now.me.0) c.load-found.new.seat.me.0) (sym c.briefly.ensures)
    (lists_loaded c.args.words.now.key c.args.pending c.args.process.now c.advance-begun.new.self t.0 c.args.flick c.args.word c.load-found.result n.0 c.args.seat.now.me.0 c.load-found.new.seat.me.0 c.advance.result stamp t.1 n.1 n.2 c.load-found.ensures.reported c.advance-begun.ensures.process
    (subst (λ x. marks_reported c.advance.result ≡ marks_on c.advance-begun.new.self c.args.flick x) c.loaded.ensures c.advance.ensures.marks) c.advance.ensures.changes known)
