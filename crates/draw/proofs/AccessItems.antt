-- Accesses that are observed, and the items of what is shown of them.
use Rattle.std.proofs.Common.{◌≡◌, Bool, true, false, ◌||◌, [], ◌∷◌, is_some, Option, Some, None, option_map, refl, ap, sym, ◌∙◌, true≢false}
use Rattle.model.specs.plain_store.{Setup}
use Rattle.picture.specs.picture_layout.{GivenAccess, given_access}
use Rattle.picture.specs.picture_layout.declared.accesses.ShownAccess.{ShownAccess}
use Rattle.picture.specs.declared.reads.Reads.{Reads as Mode}
use Rattle.picture.specs.declared.reads.Reads.TheVariants as modes
use Rattle.model.specs.{Entry, Past}
use Rattle.record_accesses.specs.{HasMonitored, MonitorState, WaveLimit, shown_access}
use Rattle.draw.specs.{GivesAccess, MonitorsAccesses, given_access_of, gives_access, marks_given, texts_given}

-- of two tests neither holds
pub neither : (b c : Bool) → (b || c) ≡ false → (b ≡ false) × (c ≡ false)
neither true c none = absurd (true≢false none)
neither false c none = (refl, none)

module _ (mode : Mode) (limit : WaveLimit) (s : Setup) (past : Past) where
  -- where none is observed, none is shown
  pub none_shown : (e : Entry) → MonitorsAccesses mode limit s past None → given_access_of mode limit s past e ≡ []
  none_shown e monitors = by mode monitors
    where
      by : (mode : Mode) → MonitorsAccesses mode limit s past None → given_access_of mode limit s past e ≡ []
      by modes.All monitors = absurd monitors
      by modes.Hidden monitors = refl
      by modes.Shown monitors = refl

  -- and none is later
  pub none_later : (then : Past) → MonitorsAccesses mode limit s past None → MonitorsAccesses mode limit s then None
  none_later then monitors = by mode monitors
    where
      by : (mode : Mode) → MonitorsAccesses mode limit s past None → MonitorsAccesses mode limit s then None
      by modes.All monitors = absurd monitors
      by modes.Hidden monitors = tt
      by modes.Shown monitors = tt

  -- where they are observed, all are shown
  pub all_shown : (w : MonitorState) → MonitorsAccesses mode limit s past (Some w) → (mode ≡ modes.All) × HasMonitored w s limit past
  all_shown w monitors = by mode monitors
    where
      by : (mode : Mode) → MonitorsAccesses mode limit s past (Some w) → (mode ≡ modes.All) × HasMonitored w s limit past
      by modes.All monitors = (refl, monitors)
      by modes.Hidden monitors = absurd monitors
      by modes.Shown monitors = absurd monitors

  -- the same of an observer that does not exist
  pub still_monitors : (then : Past) (o : Option MonitorState) → is_some o ≡ false → MonitorsAccesses mode limit s past o → MonitorsAccesses mode limit s then o
  still_monitors then None none monitors = none_later then monitors
  still_monitors then (Some w) none monitors = absurd (true≢false none)

  pub none_given : (e : Entry) (o : Option MonitorState) → is_some o ≡ false → MonitorsAccesses mode limit s past o → given_access_of mode limit s past e ≡ []
  none_given e None none monitors = none_shown e monitors
  none_given e (Some w) none monitors = absurd (true≢false none)

-- the item of what is shown of an access
pub gives_none : (o : Option ShownAccess) (shown : Option GivenAccess) → o ≡ None → option_map given_access o ≡ shown → [] ≡ gives_access shown
gives_none o shown none is = ap gives_access (sym (ap (option_map given_access) none) ∙ is)

pub gives_some : (o : Option ShownAccess) (access : ShownAccess) (shown : Option GivenAccess) → o ≡ Some access → option_map given_access o ≡ shown → GivesAccess (given_access access) ∷ [] ≡ gives_access shown
gives_some o access shown some is = ap gives_access (sym (ap (option_map given_access) some) ∙ is)

-- it has no text and no mark
no_text : (access : Option GivenAccess) → texts_given (gives_access access) ≡ []
no_text None = refl
no_text (Some access) = refl

pub no_texts : (mode : Mode) (limit : WaveLimit) (s : Setup) (past : Past) (e : Entry) → texts_given (given_access_of mode limit s past e) ≡ []
no_texts modes.All limit s past e = no_text (shown_access s limit past e)
no_texts modes.Hidden limit s past e = refl
no_texts modes.Shown limit s past e = refl

no_mark : (access : Option GivenAccess) → marks_given (gives_access access) ≡ []
no_mark None = refl
no_mark (Some access) = refl

pub no_marks : (mode : Mode) (limit : WaveLimit) (s : Setup) (past : Past) (e : Entry) → marks_given (given_access_of mode limit s past e) ≡ []
no_marks modes.All limit s past e = no_mark (shown_access s limit past e)
no_marks modes.Hidden limit s past e = refl
no_marks modes.Shown limit s past e = refl
