-- Steps within a register access, as an observer observes them.
use Rattle.std.proofs.Common.{◌≡◌, ◌∙◌, ℕ, zero, suc, ◌+◌, ◌<◌, ◌≤◌, Bool, cond, List, [], ◌∷◌, Option, None, Some, ap, refl, subst, sym, arith}
use Rattle.plain_store.specs.{Setup}
use Rattle.model.specs.{Access, AreGiven, Entry, Past, entry_of}
use Rattle.model.specs.declared.events.Event.TheVariants.{Step}
use Rattle.world.specs.choices.{FlickState, flick_of}
use Rattle.world.specs.laws.{doing}
use Rattle.world.specs.process.{remaining_at, number_read, process_after}
use Rattle.world.specs.{remaining_in}
use Rattle.world.specs.Shows.{Shows, WorldState}
use Rattle.world.specs.Walks.{MakesQuietly, StepsQuietly, ReportsOverlapped}
use Rattle.world.proofs.WorldWithin.{remaining-shown}
use Rattle.scenario_run.specs.{Happening, ObservesPassing, ObservesStep, ObservesUnmarked, IsNewest, PassQuietly, PassWithin, StepsOn, StepsWithin, Tries, overlapped_in, past_after, tried}

-- a Step is made within the access
pub steps_within : (w w' : WorldState) (p : ℕ) (flick : Bool) (access : Access) (last : Bool) (before : List Happening) → MakesQuietly w p flick access last w' → Shows w (tried before) → StepsWithin w.setup before p flick
steps_within w w' p flick access last before made shows = record {
  good = shows.good;
  quiet = (Some made.steps.access, made.steps.adds (tried before) shows);
  within = let here = remaining-shown w (tried before) p shows made.within in let some = made.within in omega (arith, here, some);
}

-- one more Step
pub passes_then : (s : Setup) (p n : ℕ) (x y : List Happening) → PassWithin s p n x y → (flick : Bool) → StepsWithin s y p flick → PassWithin s p (suc n) x (Tries (Step p flick) ∷ y)
passes_then s p zero x y same flick step = (flick, subst (λ l. StepsWithin s l p flick) same step, ap (λ l. Tries (Step p flick) ∷ l) same)
passes_then s p (suc n) x y (f, w, more) flick step = (f, w, passes_then s p n (Tries (Step p f) ∷ x) y more flick step)

-- the last of them
pub last_step : (s : Setup) (p n : ℕ) (x y : List Happening) → PassWithin s p (suc n) x y → (mid : List Happening) × (flick : Bool) × PassWithin s p n x mid × StepsWithin s mid p flick × (y ≡ Tries (Step p flick) ∷ mid)
last_step s p zero x y (flick, w, same) = (x, flick, refl, w, same)
last_step s p (suc n) x y (flick, w, more) =
    let (mid, last, part, step, is) = last_step s p n (Tries (Step p flick) ∷ x) y more in
    (mid, last, (flick, w, part), step, is)

-- none of them has a mark
pub within_quietly : (s : Setup) (p n : ℕ) (x y : List Happening) → PassWithin s p n x y → PassQuietly s n x y
within_quietly s p zero x y same = same
within_quietly s p (suc n) x y (flick, w, more) = (Tries (Step p flick), w.quiet, within_quietly s p n (Tries (Step p flick) ∷ x) y more)

-- a Step without a mark is made
pub steps_on : (w w' : WorldState) (p : ℕ) (flick : Bool) (number : Option ℕ) (before : List Happening) → (q : StepsQuietly w p flick w') → Shows w (tried before) →
    ((n : ℕ) → number ≡ Some n → n ≡ number_read (doing w.setup p (past_after w.setup before))) → (number ≡ None → 0 < remaining_at (process_after w.setup (past_after w.setup before) p)) → (overlapped : Bool) → ReportsOverlapped w q.access overlapped →
    StepsOn w.setup before (record { process = p; flick = flick; access = q.access; overlapped = overlapped; number = number })
steps_on w w' p flick number before q shows number_is within overlapped reports = record {
  good = shows.good;
  given = subst (λ (s : Setup). AreGiven s (Step p flick ∷ tried before)) q.setup (q.shows (tried before) shows).given;
  adds = q.adds (tried before) shows;
  number = number_is;
  within = within;
  overlapped = reports (tried before) shows;
}

-- the entry of the Step is the newest
pub is_newest : (s : Setup) (p : ℕ) (flick : Bool) (access : Access) (before : List Happening) → entry_of s (past_after s before) (Step p flick) ≡ Some (record { process = p; access = Some access; marks = [] }) → IsNewest s p access (Tries (Step p flick) ∷ before)
is_newest s p flick access before adds = (past_after s before, ap (λ (o : Option Entry). elim o as (λ _. Past) [ None ↦ past_after s before | Some e ↦ e ∷ past_after s before ]) adds)

pub newest_made : (w w' : WorldState) (p : ℕ) (flick : Bool) (access : Access) (last : Bool) (before : List Happening) → MakesQuietly w p flick access last w' → Shows w (tried before) → IsNewest w.setup p access (Tries (Step p flick) ∷ before)
newest_made w w' p flick access last before made shows = subst (λ a. IsNewest w.setup p a (Tries (Step p flick) ∷ before)) made.access_is (is_newest w.setup p flick made.steps.access before (made.steps.adds (tried before) shows))

-- the count of Steps that end a read that a write overlapped, after one Step more
pub overlapped_more : (w w' : WorldState) (p : ℕ) (flick : Bool) (access : Access) (last : Bool) (n count : ℕ) (before : List Happening) → MakesQuietly w p flick access last w' → Shows w (tried before) → count ≡ overlapped_in n (past_after w.setup before) →
    count + cond last 1 0 ≡ overlapped_in (suc n) (past_after w.setup (Tries (Step p flick) ∷ before))
overlapped_more w w' p flick access last n count before m shows same =
    let past : Past = past_after w.setup before in
    let made = λ (a : Access). let e : Entry = record { process = p; access = Some a; marks = [] } in e in
    let adds : entry_of w.setup past (Step p flick) ≡ Some (made access) = m.steps.adds (tried before) shows ∙ ap (λ a. Some (made a)) m.access_is in
    let then : past_after w.setup (Tries (Step p flick) ∷ before) ≡ made access ∷ past = ap (λ (o : Option Entry). elim o as (λ _. Past) [ None ↦ past | Some e ↦ e ∷ past ]) adds in
    (λ i. same i + cond (m.reports (tried before) shows i) 1 0) ∙ sym (ap (overlapped_in (suc n)) then)

module _ {L : Type 0} (R : L → Setup → List Happening → List Happening → L → Type 0) (w w' : WorldState) (p : ℕ) (flick : Bool) (access : Access) (last : Bool) (was is : L) (made : MakesQuietly w p flick access last w') where
  -- a Step within a register access is observed
  pub within_observed : ObservesUnmarked R (record { process = p; flick = flick; access = access; overlapped = last; number = None }) was is → ObservesStep R w p flick w' was is
  within_observed observed = record {
    step = made.steps;
    observes = λ before shows. observed w.setup before (subst (λ (a : Access). StepsOn w.setup before (record { process = p; flick = flick; access = a; overlapped = last; number = None })) made.access_is
        (steps_on w w' p flick None before made.steps shows (λ n is. absurd (cc)) (λ none. (steps_within w w' p flick access last before made shows).within) last
        (subst (λ (a : Access). ReportsOverlapped w a last) (sym made.access_is) made.reports)));
  }

  -- a Step within a register access is passed as a group of one
  pub within_passed : (f : FlickState) → flick ≡ flick_of f → (overlapped : ℕ) → overlapped ≡ cond last 1 0 → ObservesPassing R p f 1 access overlapped was is → ObservesStep R w p flick w' was is
  within_passed f by overlapped one passed = record {
    step = made.steps;
    observes = λ before shows. passed w.setup before (Tries (Step p flick) ∷ before) (record {
      given = subst (λ (s : Setup). AreGiven s (Step p flick ∷ tried before)) made.steps.setup (made.steps.shows (tried before) shows).given;
      remaining = subst (λ (w : WorldState). 1 ≤ remaining_in w.seats p) shows.shown (let some = made.within in omega (arith, some));
      tried_are = λ i. Step p (by i) ∷ tried before;
      within = (flick, steps_within w w' p flick access last before made shows, refl);
      newest_is = newest_made w w' p flick access last before made shows;
      overlapped_are = one ∙ (let alone : cond last 1 0 ≡ 0 + cond last 1 0 = omega arith in alone) ∙ overlapped_more w w' p flick access last 0 0 before made shows refl;
    });
  }
