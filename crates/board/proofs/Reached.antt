-- The process of a record is at a state that its accesses reach, in the call that is kept of it.
use Rattle.std.proofs.Common.{◌≡◌, ℕ, List, refl, sym, ap, subst, ◌∙◌}
use Rattle.plain_store.specs.{Setup}
use Rattle.model.specs.{Event, Past, accesses_of, call_number, is_over, last_command, own, past_of, since, stage, starts}
use Rattle.model.proofs.OpenSteps.{failing_at, leaving_at, place_at}
use Rattle.model.proofs.NextAccesses.{at_place}
use Rattle.model.proofs.Width.{IsGood}
use Rattle.laws.specs.{Closes, Doing, IsCallOf, IsLive, IsReached, Lies, Rests, Runs, doing}
use Rattle.laws.proofs.Frame.{Does, at_rest, lying, running, leaving, settling}
use Rattle.laws.proofs.FrameEvents.{does_all}
use Rattle.board.specs.{IsWhere, own_view}

pub known_where : (s : Setup) → IsGood s → (events : List Event) (p : ℕ) → IsWhere s (own_view s (past_of s events) p)
known_where s g events p = facts (does_all s g events p)
  where
    past : Past
    past = past_of s events

    mine : Past
    mine = own p past

    is_known : (d : Doing) → doing s p past ≡ d → IsCallOf (last_command mine) (call_number s mine) d → IsReached s p d → IsLive d → IsWhere s (own_view s past p)
    is_known d k its reached live = record {
      reached = subst (IsReached s p) (sym k) reached;
      call = subst (IsCallOf (last_command mine) (call_number s mine)) (sym k) its;
      live = subst IsLive (sym k) live;
    }

    facts : Does s p mine (stage p past) (doing s p past) → IsWhere s (own_view s past p)
    facts (at_rest i k) = is_known Rests k tt tt tt
    facts (lying i k) = is_known Lies k tt tt tt
    facts (running command b r k) =
        let runs = at_place s g events p command b r in
        is_known (Runs (last_command mine) (call_number s mine) (place_at s p mine)) k (refl, refl) (accesses_of (since starts mine), refl) (ap is_over (sym runs.tied.part) ∙ runs.not_over)
    facts (leaving b i k) = is_known (Closes (last_command mine) (call_number s mine) (leaving_at s p mine)) k tt tt tt
    facts (settling b i k) = is_known (Closes (last_command mine) (call_number s mine) (failing_at s p mine)) k tt tt tt
