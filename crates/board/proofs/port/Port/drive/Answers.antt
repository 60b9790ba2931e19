use Rattle.std.proofs.Common.{◌≡◌, ◌+◌, ◌∙◌, suc, refl, sym, subst, true, arith}
use Rattle.board.specs.{LeadsTo, goes, stage_in}
use Rattle.board.proofs.Drives.{IsDriven, drives_down, drives_to_answer, driven_on, goes_unless, same_on}
use Rattle.board.proofs.port.Port.drive.Goals as goal

pub returns-in-Idle : goal.returns-in-Idle
returns-in-Idle c = record {
  same = (refl, refl, refl, refl);
  drives = record { made = 0; ends = (refl, refl, sym c.stage.ensures ∙ c.in-Idle.is); taken = refl };
}

pub returns-in-Down : goal.returns-in-Down
returns-in-Down c = record {
  same = (refl, refl, refl, refl);
  drives = record { made = 0; ends = (omega arith, refl, sym c.stage.ensures ∙ c.in-Down.is); taken = refl };
}

pub loop-made-init : goal.loop-made-init
loop-made-init c = let port = c.args.self.now in record {
  board = c.requires;
  driven = record {
    same = (refl, refl, refl, refl);
    walks = refl;
    taken = refl;
    goes = goes_unless (stage_in port.setup port.view.own) (λ h. c.in_default.not-Idle (c.stage.ensures ∙ h)) (λ h. c.in_default.not-Down (c.stage.ensures ∙ h));
  };
}

pub turn-requires : goal.turn-requires
turn-requires c = let i = c.loop-made.invariant in record { board = i.board; enabled = subst (λ s. goes s c.loop-made.self.view.own ≡ true) (sym i.driven.same.2) i.driven.goes }

pub returns-in-Answers : goal.returns-in-Answers
returns-in-Answers c = let now = c.loop-made.self in let new = c.turn.new.self in let i = c.loop-made.invariant.driven in record {
  same = same_on c.args.self.now now new i.same c.turn.ensures.same;
  drives = drives_to_answer c.args.self.now now new c.args.flicks.now c.loop-made.flicks c.flick-flick.new.self c.loop-made.made c.args.turns c.flick-flick.result c.in-Answers.answer i c.loop-made-test.true c.flick-flick.ensures.flick c.flick-flick.ensures.after
      c.turn.ensures.step (subst (λ reported. LeadsTo now.setup reported now.view.own new.view.own) c.in-Answers.is c.turn.ensures.leads);
}

pub returns-in-Lies : goal.returns-in-Lies
returns-in-Lies c = let now = c.loop-made.self in let new = c.turn.new.self in let i = c.loop-made.invariant.driven in record {
  same = same_on c.args.self.now now new i.same c.turn.ensures.same;
  drives = drives_down c.args.self.now now new c.args.flicks.now c.loop-made.flicks c.flick-flick.new.self c.loop-made.made c.args.turns c.flick-flick.result i c.loop-made-test.true c.flick-flick.ensures.flick c.flick-flick.ensures.after
      c.turn.ensures.step (subst (λ reported. LeadsTo now.setup reported now.view.own new.view.own) c.in-Lies.is c.turn.ensures.leads);
}

pub loop-made-preserved : goal.loop-made-preserved
loop-made-preserved c = let now = c.loop-made.self in let new = c.turn.new.self in let i = c.loop-made.invariant in record {
  board = (c.turn.ensures.same.0 ∙ i.board.0, c.turn.ensures.same.2 ∙ i.board.1);
  driven = subst (λ n. IsDriven c.args.self.now c.args.flicks.now n new c.flick-flick.new.self) (let more : suc c.loop-made.made ≡ c.loop-made.made + 1 = omega arith in more)
      (driven_on c.args.self.now now new c.args.flicks.now c.loop-made.flicks c.flick-flick.new.self c.loop-made.made c.flick-flick.result c.turn.result i.driven c.flick-flick.ensures.flick c.flick-flick.ensures.after c.turn.ensures.same c.turn.ensures.step c.turn.ensures.leads c.in_default-turn.not-Answers c.in_default-turn.not-Lies);
}
