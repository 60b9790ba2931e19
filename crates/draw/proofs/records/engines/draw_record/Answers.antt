use Rattle.std.proofs.Common.{[], arith}
use Rattle.picture.specs.declared.page.Form.TheVariants as form
use Rattle.draw.proofs.Whole.{drew_last, if_some, of_record_then}
use Rattle.draw.proofs.Written.{ok_then}
use Rattle.draw.proofs.records.engines.draw_record.Goals as goal

pub returns : goal.returns
returns g c =
    drew_last c.args.options form.Page c.end_page.result _ _
    (ok_then c.end_page.result
    (λ ends. if_some (g.R.Source.to_come c.args.input.now) _ _
    (λ text. of_record_then _ _ text (λ s entries numbers bands. ends c.args.options (record { setup = s; entries = entries }) [] (g.W.Sink.taken c.args.output.now) bands)) c.in_ok-drawn.ensures.drawn)
    c.end_page.ensures.drawn)
    c.in_ok-drawn.ensures.end c.end_page.ensures.fails.fault (omega (arith, c.end_page.ensures.fails.counted, c.in_ok-drawn.ensures.write_failures))
