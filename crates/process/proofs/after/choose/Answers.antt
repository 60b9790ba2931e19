use Rattle.std.proofs.Common.{◌≡◌, ◌+◌, sym, ap, ◌∙◌, arith}
use Rattle.model.specs.{Refuses, TakesTicket, greatest, index_of, max_of}
use Rattle.process.specs.{call_of, other_numbered}
use Rattle.process.proofs.AfterParts.{chosen-full, refuses, takes}
use Rattle.process.proofs.after.choose.Goals as goal

pub other_numbered-requires : goal.other_numbered-requires
other_numbered-requires c =
    let ts = c.args.tickets.now in
    let full : greatest ts ≡ max_of c.args.call.now.setup.ticket_bits = sym c.greatest-most.ensures ∙ c.if-most-most_of.true ∙ c.most_of.ensures in
    let here : index_of c.greatest-most.result ts ≡ index_of (greatest ts) ts = ap (λ n. index_of n ts) c.greatest-most.ensures in
    omega (arith, chosen-full (call_of c.args.call.now) ts c.requires.call c.requires.all full, c.place_of.ensures, here, c.requires.call.processes)

pub returns-then-most-most_of-clause-part : goal.returns-then-most-most_of-clause-part
returns-then-most-most_of-clause-part c = λ seen.
    let ts = c.args.tickets.now in
    let call = call_of c.args.call.now in
    let full : greatest ts ≡ max_of call.setup.ticket_bits = sym c.greatest-most.ensures ∙ c.if-most-most_of.true ∙ c.most_of.ensures in
    let here : c.place_of.result ≡ index_of (greatest ts) ts = c.place_of.ensures ∙ ap (λ n. index_of n ts) c.greatest-most.ensures in
    ap Refuses (c.other_numbered.ensures ∙ ap (other_numbered call.process) here) ∙ refuses call ts c.requires.call c.requires.all full

pub returns-else-most-most_of : goal.returns-else-most-most_of
returns-else-most-most_of c =
    let ts = c.args.tickets.now in
    let most = c.greatest-most.ensures in
    record {
      part = λ seen. ap (λ n. TakesTicket (n + 1)) most ∙ takes (call_of c.args.call.now) ts (λ full. c.if-most-most_of.false (most ∙ full ∙ sym c.most_of.ensures));
      holds = λ seen. tt;
    }
