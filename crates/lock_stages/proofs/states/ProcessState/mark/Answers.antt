use Rattle.lock_stages.proofs.states.ProcessState.mark.Goals as goal

pub returns : goal.returns
returns c = λ i. record { stage = c.stage_after-self.ensures c.args.self.now.stage i; passage = c.mark_passage.ensures i }
