use Rattle.std.proofs.Common.{rules, ◌≡◌, ◌∙◌, IfOk, ap, length, subst, sym}
use Rattle.process.specs.{act_of}
use Rattle.model.specs.{process_of}
use Rattle.std.specs.Prelude.{IfErr, OnErr, OnOk}
use Rattle.world.specs.{Adds, GoesOn, IsTurnedAway, KeepsTheMainTheorem, WorldState}
use Rattle.world.proofs.world.World.event.Goals.{in-Ok, in-Err}
use Rattle.world.proofs.world.World.event.Goals as goal

pub returns-clause-accepted : goal.returns-clause-accepted
returns-clause-accepted c =
    let old = c.args.self.now in
    let p = process_of c.args.event in
    let place : c.len-place.result ≡ length c.self.inside.history.items = search rules in
    elim c.match-make.branch [
      | in-Ok w ↦
          let is = w.act_made.ensures ∙ ap (λ k. act_of k (record { access = w.in-Ok.access; effect = c.make.new.effect })) (place ∙ ap (λ (v : WorldState). length v.history) c.self.view_is) in
          subst (λ r. IfOk r (λ act. Adds old c.args.event p act)) (sym w.result-is) (subst (Adds old c.args.event p) (sym is) w.in-Ok.ensures.accepted)
      | in-Err w ↦ subst (λ r. IfOk r (λ act. Adds old c.args.event p act)) (sym w.result-is) tt
    ]

pub returns-clause-main_theorem : goal.returns-clause-main_theorem
returns-clause-main_theorem c =
    let old = c.args.self.now in
    let p = process_of c.args.event in
    let place : c.len-place.result ≡ length c.self.inside.history.items = search rules in
    elim c.match-make.branch [
      | in-Ok w ↦
          let is = w.act_made.ensures ∙ ap (λ k. act_of k (record { access = w.in-Ok.access; effect = c.make.new.effect })) (place ∙ ap (λ (v : WorldState). length v.history) c.self.view_is) in
          subst (λ r. IfOk r (λ act. KeepsTheMainTheorem old p act)) (sym w.result-is) (subst (KeepsTheMainTheorem old p) (sym is) w.in-Ok.ensures.main_theorem)
      | in-Err w ↦ subst (λ r. IfOk r (λ act. KeepsTheMainTheorem old p act)) (sym w.result-is) tt
    ]

pub returns-clause-shows : goal.returns-clause-shows
returns-clause-shows c = elim c.match-make.branch [
  | in-Ok w ↦ subst (λ r. OnOk r (GoesOn c.args.self.now c.args.event c.make.new.self)) (sym w.result-is) w.in-Ok.ensures.shows
  | in-Err w ↦ subst (λ r. OnOk r (GoesOn c.args.self.now c.args.event c.make.new.self)) (sym w.result-is) tt
]

pub returns-clause-refused : goal.returns-clause-refused
returns-clause-refused c = elim c.match-make.branch [
  | in-Ok w ↦ subst (λ r. IfErr r (λ refusal. IsTurnedAway c.args.self.now c.args.event refusal)) (sym w.result-is) tt
  | in-Err w ↦ subst (λ r. IfErr r (λ refusal. IsTurnedAway c.args.self.now c.args.event refusal)) (sym w.result-is) w.in-Err.ensures.refused
]

pub returns-clause-unchanged : goal.returns-clause-unchanged
returns-clause-unchanged c = elim c.match-make.branch [
  | in-Ok w ↦ subst (λ r. OnErr r (c.make.new.self ≡ c.args.self.now)) (sym w.result-is) tt
  | in-Err w ↦ subst (λ r. OnErr r (c.make.new.self ≡ c.args.self.now)) (sym w.result-is) w.in-Err.ensures.unchanged
]

pub returns-clause-setup : goal.returns-clause-setup
returns-clause-setup c = elim c.match-make.branch [
  | in-Ok w ↦ subst (λ r. OnOk r (c.make.new.self.setup ≡ c.args.self.now.setup)) (sym w.result-is) w.in-Ok.ensures.setup
  | in-Err w ↦ subst (λ r. OnOk r (c.make.new.self.setup ≡ c.args.self.now.setup)) (sym w.result-is) tt
]
