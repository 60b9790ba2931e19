use Rattle.std.proofs.Common.{List, ℕ, [], Some, IfSome, subst, sym}
use Rattle.judge.specs.{IsOfRecord}
use Rattle.picture.specs.declared.page.Form.TheVariants as form
use Rattle.draw.specs.{DrawsAsked, DrawsBandsOf, IsJudged}
use Rattle.draw.proofs.Whole.{judged_all}
use Rattle.draw.proofs.records.engines.judged_picture.Goals as goal

pub returns-in-Ok : goal.returns-in-Ok
returns-in-Ok g c =
    let all = g.R.Source.to_come c.args.input.now in
    let options = c.args.options in
    let bytes : List ℕ = c.judge_bands.new.output.bytes.items in
    let bands = λ (was now : List ℕ). DrawsBandsOf options (form.Picture 34) c.in-Ok.drawn (Some was) (Some now) in
    let drawn = subst (λ (was : List ℕ). IfSome all (IsOfRecord (IsJudged g.H.Judging.Keeps g.H.EntryObserver.Reports c.in-Ok.status (bands was bytes)))) c.new-bands.ensures.bytes c.in-Ok.ensures.drawn in (
      judged_all g.H.Judging.Keeps g.H.EntryObserver.Reports c.in-Ok.status (bands [] bytes) (λ said reported. DrawsAsked options (form.Picture 34) said reported (g.W.Sink.taken c.args.output.now) (g.W.Sink.taken c.write_picture.new.output))
          (λ said reported held. c.in_ok-write_picture-in-Ok.ensures.drawn options said reported (subst (λ (now : List ℕ). bands [] now said reported) (sym c.bytes.ensures) held)) all drawn,
      c.in-Ok.ensures.end,
    )
