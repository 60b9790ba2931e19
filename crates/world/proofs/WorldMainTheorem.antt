-- The entry that an event adds keeps the main theorem, in each record that the world showed.
use Rattle.std.proofs.Common.{◌≡◌, ℕ, ◌∷◌, subst}
use Rattle.plain_store.specs.{Setup}
use Rattle.model.specs.{Act, AreGiven, Event}
use Rattle.history_laws.proofs.MainTheorems.{the_main_theorem}
use Rattle.world.specs.{Adds, GoesOn, KeepsTheMainTheorem, WorldState, entry_with}

pub keeps_main_theorem : (old new : WorldState) (event : Event) (p : ℕ) (act : Act) → Adds old event p act → GoesOn old event new → new.setup ≡ old.setup → KeepsTheMainTheorem old p act
keeps_main_theorem old new event p act adds goes same events shows =
    the_main_theorem old.setup shows.good events event (entry_with p act) (subst (λ (s : Setup). AreGiven s (event ∷ events)) same (goes events shows).given) (adds events shows)
