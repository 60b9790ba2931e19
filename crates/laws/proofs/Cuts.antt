-- The memory unit of a process that fails is that of what it was doing.
use Rattle.std.proofs.Common.{◌≡◌, ℕ, List, None, sym, ap, ◌∙◌}
use Rattle.plain_store.specs.{Setup}
use Rattle.model.specs.{Call, Event, Past, call_number, cut_at, cut_closing, failing, freeing, inside, last_call, last_command, own, past_of, refused_at, stage}
use Rattle.model.specs.declared.events.Event.TheVariants as event
use Rattle.model.specs.declared.stages.Stage.TheVariants as stages
use Rattle.model.proofs.CutRecords.{running-cut, withdrawn-cut, rest-cut}
use Rattle.model.proofs.OpenSteps.{place_at, leaving_at}
use Rattle.model.proofs.Width.{IsGood}
use Rattle.laws.specs.{Closes, Doing, Rests, Runs, cut_of, doing, is_inside}
use Rattle.laws.proofs.Frame.{Does, at_rest, lying, running, leaving, settling}
use Rattle.laws.proofs.FrameEvents.{does_all}
use Rattle.laws.proofs.FrameInside.{inside-is}

pub cut_is : (s : Setup) → IsGood s → (events : List Event) (p : ℕ)
    → let past : Past = past_of s events in
    refused_at (event.Fail p) (stage p past) ≡ None → failing (last_call s p (own p past)) (own p past) ≡ cut_of s p (doing s p past)
cut_is s g events p h = go (does_all s g events p)
  where
    past : Past
    past = past_of s events

    mine : Past
    mine = own p past

    c : Call
    c = last_call s p mine

    -- at what it was doing
    at : (d : Doing) → doing s p past ≡ d → inside p past ≡ is_inside d
    at d k = inside-is s g events p ∙ ap is_inside k

    done : (d : Doing) → doing s p past ≡ d → failing c mine ≡ cut_of s p d → failing c mine ≡ cut_of s p (doing s p past)
    done d k same = same ∙ ap (cut_of s p) (sym k)

    go : Does s p mine (stage p past) (doing s p past) → failing c mine ≡ cut_of s p (doing s p past)
    go (at_rest i k) = done Rests k (rest-cut s g events p i ∙ ap (freeing c) (at Rests k))
    go (lying i k) = let f : refused_at (event.Fail p) stages.Down ≡ None = ap (refused_at (event.Fail p)) (sym i) ∙ h in cc
    go (running command b r k) =
        let d : Doing = Runs (last_command mine) (call_number s mine) (place_at s p mine) in
        done d k (running-cut s g events p command b r ∙ ap (cut_at c (place_at s p mine)) (at d k))
    go (leaving b i k) =
        let d : Doing = Closes (last_command mine) (call_number s mine) (leaving_at s p mine) in
        done d k (withdrawn-cut s g events p b i ∙ ap (cut_closing c (leaving_at s p mine)) (at d k))
    go (settling b i k) = let f : refused_at (event.Fail p) stages.Settling ≡ None = ap (refused_at (event.Fail p)) (sym i) ∙ h in cc
