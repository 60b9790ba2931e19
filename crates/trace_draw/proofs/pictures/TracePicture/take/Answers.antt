use Rattle.std.proofs.Common.{refl, sym, ◌∙◌}
use Rattle.draw.proofs.Written.{ok_then}
use Rattle.trace_draw.specs.{TracePicture}
use Rattle.trace_draw.proofs.Shown.{shown_on, shown_passed}
use Rattle.trace_draw.proofs.pictures.TracePicture.take.Goals as goal

pub returns-then-not-shows-clause-shown : goal.returns-then-not-shows-clause-shown
returns-then-not-shows-clause-shown g c = λ first entries numbers has.
    let old = c.args.self.now in
    let then : TracePicture = record old { reporter = c.take.new.self } in
    shown_passed c.args.view first c.args.setup.now old then (g.W.Sink.taken c.args.output.now) entries numbers c.args.entry.now c.args.number has
    (c.in_ok-take.ensures c.args.view.judged entries numbers has.reported) (sym c.shows_next-shows.ensures ∙ c.if-not-shows.true) refl

pub returns-clause-shown : goal.returns-clause-shown
returns-clause-shown g c =
    let old = c.args.self.now in
    let then : TracePicture = record { reporter = c.take.new.self; entries = c.take-2.new.self } in
    ok_then c.take-2.result
    (λ on first entries numbers has.
    shown_on c.args.view first c.args.setup.now old then (g.W.Sink.taken c.args.output.now) (g.W.Sink.taken c.take-2.new.output) entries numbers c.args.entry.now c.args.number has
    (c.in_ok-take.ensures c.args.view.judged entries numbers has.reported) (sym c.shows_next-shows.ensures ∙ c.if-not-shows.false) (λ past shows. on past first shows))
    c.take-2.ensures.shown
