use Rattle.std.proofs.Common.{◌≡◌, set, ap, ◌∙◌}
use Rattle.model.specs.{stage_after}
use Rattle.picture_layout.specs.{State, inside_marked, places_marked, stages_marked, with_seats_marked}
use Rattle.picture_layout.proofs.state.State.mark.Goals as goal

pub returns-clause-whole : goal.returns-clause-whole
returns-clause-whole c =
    let old : State = c.args.self.now in
    let staged : c.set_stage.new.self ≡ record old { stages = stages_marked old.stages c.args.process c.args.mark.now } =
    c.set_stage.ensures ∙ ap (λ s. record old { stages = set old.stages c.args.process s }) (c.stage_after.ensures ∙ ap (λ s. stage_after s c.args.mark.now) c.stage.ensures) in
    let seated = c.set_seats.ensures ∙ ap (λ (s : State). with_seats_marked s c.args.process c.args.mark.now) staged in
    λ i. record (seated i) {
      inside = (c.inside_after-self.ensures ∙ ap (λ (s : State). inside_marked s.inside c.args.process c.args.mark.now) seated) i;
      places = (c.places_after-self.ensures ∙ ap (λ (s : State). places_marked s.places c.args.mark.now) seated) i;
    }

pub returns-clause-stages : goal.returns-clause-stages
returns-clause-stages c = ap (λ (s : State). s.stages) (returns-clause-whole c)

pub returns-clause-processes : goal.returns-clause-processes
returns-clause-processes c = ap (λ (s : State). s.processes) (returns-clause-whole c)
