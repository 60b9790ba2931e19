use Rattle.std.proofs.Common.{List, ℕ, [], Some, IfSome, subst, sym, arith}
use Rattle.picture.specs.declared.page.Form.TheVariants as form
use Rattle.draw.specs.{DrawsAllBands, DrawsBandsOf}
use Rattle.draw.proofs.Whole.{drew_last, if_some, of_record_then}
use Rattle.draw.proofs.Written.{ok_then}
use Rattle.draw.proofs.records.engines.draw_record_svg.Goals as goal

pub returns-in-Ok : goal.returns-in-Ok
returns-in-Ok g c =
    let all = g.R.Source.to_come c.args.input.now in
    let bytes : List ℕ = c.draw_bands.new.output.bytes.items in
    let bands = subst (λ (l : List ℕ). IfSome all (DrawsAllBands c.args.options (form.Picture 34) c.in-Ok.drawn (Some l) (Some bytes))) c.new-bands.ensures.bytes c.in-Ok.ensures.drawn in
    drew_last c.args.options (form.Picture 34) c.write_picture.result _ _
    (ok_then c.write_picture.result
    (λ ends. if_some all _ _ (λ text. of_record_then _ _ text (λ s entries numbers bands. ends c.args.options (record { setup = s; entries = entries }) []
    (subst (λ (l : List ℕ). DrawsBandsOf c.args.options (form.Picture 34) c.in-Ok.drawn (Some []) (Some l) (record { setup = s; entries = entries }) []) (sym c.bytes.ensures) bands))) bands)
    c.write_picture.ensures.drawn)
    c.in-Ok.ensures.end c.write_picture.ensures.fails.fault (omega (arith, c.write_picture.ensures.fails.counted))
