-- The processes ahead of another.
use Rattle.model.specs.{past_of}
use Rattle.model.proofs.Width.{is_good}
use Rattle.laws.proofs.AheadLists.{ahead_are, ascends, queued-only, not_itself, all_waiters, nobody_ahead}
use Rattle.laws.proofs.Always.{inv_of}
use Rattle.laws.proofs.lock.ahead.Goals as goal

pub returns : goal.returns
returns x = record {
  members = λ s h events p queued j. ahead_are s (past_of s events) p queued j;
  ascending = λ s h events p. ascends s (past_of s events) p;
  queued = λ s h events p apart. queued-only s p (past_of s events) apart;
  not_itself = λ s h events p at. not_itself s (is_good s h) events p at;
  new_call = λ s h events p st none j. all_waiters s (is_good s h) events p st none j;
  entering = λ s h events event e is enters. nobody_ahead s (is_good s h) (inv_of s (is_good s h)) events event e is enters;
}
