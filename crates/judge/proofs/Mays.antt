-- The entries that may follow a good record.
use Rattle.std.proofs.Common.{◌≡◌, Bool, Some, ap, subst}
use Rattle.model.specs.{Entry, Event, added, entry_made, entry_of}
use Rattle.model.specs.declared.events.Event.TheVariants as event
use Rattle.model.proofs.Local.{option_map-some}
use Rattle.model.proofs.World.{entry-accepted}
use Rattle.auditor.specs.{IsOfEvent}
use Rattle.auditor.proofs.Obeys.{obeys}
use Rattle.auditor.proofs.Recovers.{recovers}
use Rattle.judge.specs.{OnlyStepsKeepAllLaws, StepsKeepAllLaws}

pub steps_keep : StepsKeepAllLaws
steps_keep s good events given p flick e is = obeys s good events (event.Step p flick) e (record { opening = given.opening; commands = given.commands }) is

pub only_steps_keep : OnlyStepsKeepAllLaws
only_steps_keep s past e a acc keeps =
    let of : IsOfEvent s past e = recovers s past e keeps in
    by of.0 (entry-accepted s past of.0 e of.1).2 of.1
  where
    by : (what : Event) → added s past what ≡ Some e → entry_of s past what ≡ Some e → (flick : Bool) × (entry_of s past (event.Step e.process flick) ≡ Some e)
    by (event.Step p flick) makes is =
        let made = option_map-some (entry_made s past p flick) _ e makes in
        (flick, subst (λ q. entry_of s past (event.Step q flick) ≡ Some e) (ap (λ (x : Entry). x.process) made.2) is)
    by (event.Call p c) makes is = cc
    by _ makes is = cc
