-- The calls of a view are consistent with the changes that it has seen, after a word step and after an event other than an access; no change seen is forgotten.
use Rattle.std.proofs.Common.{◌≡◌, ℕ, zero, suc, Bool, true, [], ◌∷◌, inl, inr, refl, sym, ap, ◌∙◌}
use Rattle.std.proofs.lemmas.List.{append-nil}
use Rattle.process.specs.choices.{FlickState, flick_of}
use Rattle.plain_store.specs.{Answer, Command, Setup, are_pairs}
use Rattle.model.specs.declared.events.Event.TheVariants as event
use Rattle.model.specs.{past_of}
use Rattle.board.specs.{Driven, Drives, EndsWith, IsPrefix, AreInRecord, AreInSeen, ViewState, Walks, WalksTo, WordStep, at_events, called, changes_of, flicks_after, new_view}
use Rattle.board.specs.declared.driving.Driven.TheVariants as driven
use Rattle.board.proofs.Along.{prefix-trans}
use Rattle.board.proofs.FittingCalls.{finished_fits, fits_in_longer, fits_push}

-- after a call, which has taken nothing yet
pub fits_called : (s : Setup) (b : ViewState) (p : ℕ) (command : Command) → AreInSeen s b → AreInSeen s (at_events s b (event.Call p command ∷ []))
fits_called s b p command h = record {
  fits = fits_push s b.own.process b.own.calls.done b.seen (called command) (finished_fits s b.own.process b.own.calls.done b.own.calls.now b.seen h.fits) tt (λ place is. cc);
  seen = h.seen;
}

-- for a process that has done nothing
pub fits_new : (s : Setup) → are_pairs s.opening ≡ true → (p made : ℕ) → AreInSeen s (new_view p made)
fits_new s pairs p made = record {
  fits = record { taken = λ k place call at is. cc; answered = λ k call at. cc; order = λ j k place next call later less at_j at_k is is_next. cc };
  seen = record { events = []; given = record { opening = pairs; commands = refl }; first = ([], refl) };
}

-- so its finished calls are consistent with the changes of a record
pub in_record : (s : Setup) (v : ViewState) → AreInSeen s v → AreInRecord s v.own.process v.own.calls.done
in_record s v h = record {
  events = h.seen.events;
  given = h.seen.given;
  fits = fits_in_longer s v.own.process v.own.calls.done v.seen (changes_of s (past_of s h.seen.events)) h.seen.first (finished_fits s v.own.process v.own.calls.done v.own.calls.now v.seen h.fits);
}

-- No change that was seen is forgotten.

step_seen : (s : Setup) (flick : Bool) (v w : ViewState) → WordStep s flick v w → IsPrefix v.seen w.seen
step_seen s flick v w (inl load) = load.1.goes.seen
step_seen s flick v w (inr store) = store.goes.seen

same_seen : (v w : ViewState) → w ≡ v → IsPrefix v.seen w.seen
same_seen v w h = ([], ap (λ (x : ViewState). x.seen) h ∙ sym (append-nil v.seen))

walk_seen : (s : Setup) (flicks : FlickState) (v : ViewState) (n : ℕ) (w : ViewState) → Walks s flicks v n w → IsPrefix v.seen w.seen
walk_seen s flicks v zero w h = same_seen v w h
walk_seen s flicks v (suc n) w h = let u = h.0 in prefix-trans v.seen u.seen w.seen (walk_seen s flicks v n u h.1) (step_seen s (flick_of (flicks_after n flicks)) u w h.3)

walk_to_seen : (s : Setup) (flicks : FlickState) (v : ViewState) (n : ℕ) (answer : Answer) (w : ViewState) → WalksTo s flicks v n answer w → IsPrefix v.seen w.seen
walk_to_seen s flicks v zero answer w h = absurd h
walk_to_seen s flicks v (suc n) answer w h = let u = h.0 in prefix-trans v.seen u.seen w.seen (walk_seen s flicks v n u h.1) (step_seen s (flick_of (flicks_after n flicks)) u w h.3)

ends_seen : (s : Setup) (flicks : FlickState) (v : ViewState) (turns : ℕ) (end : Driven) (n : ℕ) (w : ViewState) → EndsWith s flicks v turns end n w → IsPrefix v.seen w.seen
ends_seen s flicks v turns driven.Turns n w h = walk_seen s flicks v n w h.1
ends_seen s flicks v turns (driven.Answered answer) n w h = walk_to_seen s flicks v n answer w h.1
ends_seen s flicks v turns driven.Down n w h = walk_seen s flicks v n w h.1
ends_seen s flicks v turns driven.Idle n w h = same_seen v w h.1

pub drive_seen : (s : Setup) (v : ViewState) (turns : ℕ) (flicks : FlickState) (end : Driven) (w : ViewState) (then : FlickState) → Drives s v turns flicks end w then → IsPrefix v.seen w.seen
drive_seen s v turns flicks end w then d = ends_seen s flicks v turns end d.made w d.ends
