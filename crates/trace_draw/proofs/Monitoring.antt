-- The monitor of accesses, and the decision whether accesses are shown.
use Rattle.std.proofs.Common.{◌≡◌, ◌≤◌, ◌<◌, ◌+◌, ◌||◌, ℕ, suc, true, false, cond, nat_le, [], ◌∷◌, length, Option, Some, None, option_map, refl, ap, sym, subst, ◌∙◌, arith}
use Rattle.std.proofs.lemmas.Bool.{le-leb, lt-leb}
use Rattle.std.proofs.lemmas.List.{length-map}
use Rattle.draw.specs.{GivesAccess}
use Rattle.picture.specs.picture_layout.{GivenAccess, given_access}
use Rattle.picture.specs.picture_layout.declared.accesses.ShownAccess.{ShownAccess}
use Rattle.picture.specs.declared.reads.PictureOptions.{PictureOptions}
use Rattle.picture.specs.declared.reads.Reads.{Reads}
use Rattle.picture.specs.declared.reads.Reads.TheVariants as reads
use Rattle.trace.specs.{TraceEntry, TracePast, TraceSetup}
use Rattle.trace_accesses.specs.{HasMonitored, MonitorState, WaveLimit, possible}
use Rattle.trace_draw.specs.{ComesAfter, IsDecided, TraceDrawing, Monitors, drawn_count, given_access_of, gives_access, shows_all, view_of, monitored}

module _ (mode : Reads) (limit : WaveLimit) (s : TraceSetup) (past : TracePast) where
  -- without a monitor, no access is shown
  pub none_shown : (e : TraceEntry) → Monitors mode limit s past None → given_access_of mode limit s past e ≡ []
  none_shown e monitors = by mode monitors
    where
      by : (mode : Reads) → Monitors mode limit s past None → given_access_of mode limit s past e ≡ []
      by reads.All monitors = absurd monitors
      by reads.Hidden monitors = refl
      by reads.Shown monitors = refl

  pub none_later : (e : TraceEntry) → Monitors mode limit s past None → Monitors mode limit s (e ∷ past) None
  none_later e monitors = by mode monitors
    where
      by : (mode : Reads) → Monitors mode limit s past None → Monitors mode limit s (e ∷ past) None
      by reads.All monitors = absurd monitors
      by reads.Hidden monitors = tt
      by reads.Shown monitors = tt

  -- with a monitor, all accesses are shown
  pub all_shown : (w : MonitorState) → Monitors mode limit s past (Some w) → (mode ≡ reads.All) × HasMonitored w s limit past
  all_shown w monitors = by mode monitors
    where
      by : (mode : Reads) → Monitors mode limit s past (Some w) → (mode ≡ reads.All) × HasMonitored w s limit past
      by reads.All monitors = (refl, monitors)
      by reads.Hidden monitors = absurd monitors
      by reads.Shown monitors = absurd monitors

  -- the monitor has observed at most as many entries as there are
  pub monitored_few : (o : Option MonitorState) → Monitors mode limit s past o → monitored o ≤ length past
  monitored_few None monitors = omega arith
  monitored_few (Some w) monitors =
      let has = (all_shown w monitors).1 in
      let taken = has.taken.entries in
      let same = length-map past (possible s) in
      omega (arith, taken, same)

  pub drawn_as_many : (d : TraceDrawing) → ComesAfter mode limit s past d → drawn_count d ≡ length past
  drawn_as_many d after =
      let drawn : d.entries ≡ length past = after.count in
      let few = monitored_few d.monitor after.monitors in
      omega (arith, drawn, few)

-- the item for the shown part of an access
pub gives_none : (o : Option ShownAccess) (shown : Option GivenAccess) → o ≡ None → option_map given_access o ≡ shown → [] ≡ gives_access shown
gives_none o shown none is = ap gives_access (sym (ap (option_map given_access) none) ∙ is)

pub gives_some : (o : Option ShownAccess) (access : ShownAccess) (shown : Option GivenAccess) → o ≡ Some access → option_map given_access o ≡ shown → GivesAccess (given_access access) ∷ [] ≡ gives_access shown
gives_some o access shown some is = ap gives_access (sym (ap (option_map given_access) some) ∙ is)

-- the view of a number of entries, if all accesses are shown for any number
all_anyway : (options : PictureOptions) (n : ℕ) → shows_all options ≡ true → view_of options n ≡ reads.All
all_anyway options n is = ap (λ b. cond (b || nat_le n 400) reads.All reads.Hidden) is

-- and if the number decides
module _ (options : PictureOptions) (n : ℕ) (undecided : shows_all options ≡ false) where
  by_number : view_of options n ≡ cond (nat_le n 400) reads.All reads.Hidden
  by_number = ap (λ b. cond (b || nat_le n 400) reads.All reads.Hidden) undecided

  -- a picture of few entries shows all accesses
  pub short_view : n ≤ 400 → reads.All ≡ view_of options n
  short_view few = sym (by_number ∙ ap (λ b. cond b reads.All reads.Hidden) (le-leb n 400 few))

  -- a picture of many entries shows none
  long_view : 400 < n → view_of options n ≡ reads.Hidden
  long_view many = by_number ∙ ap (λ b. cond b reads.All reads.Hidden) (lt-leb n 400 many)

-- so the view is decided
pub decided_all : (options : PictureOptions) (n : ℕ) → shows_all options ≡ true → IsDecided options reads.All n
decided_all options n is = λ more. all_anyway options (n + more) is

pub decided_long : (options : PictureOptions) (n : ℕ) → shows_all options ≡ false → 400 < n → IsDecided options reads.Hidden n
decided_long options n undecided many = λ more. long_view options (n + more) undecided (omega (arith, many))

-- what is decided is the view of all entries
pub decided_view : (options : PictureOptions) (mode : Reads) (n : ℕ) → IsDecided options mode n → mode ≡ view_of options n
decided_view options mode n decided =
    let none : n + 0 ≡ n = omega arith in
    sym (subst (λ k. view_of options k ≡ mode) none (decided 0))

-- and it remains decided
pub decided_later : (options : PictureOptions) (mode : Reads) (n : ℕ) → IsDecided options mode n → IsDecided options mode (suc n)
decided_later options mode n decided = λ more.
    let same : n + suc more ≡ suc n + more = omega arith in
    subst (λ k. view_of options k ≡ mode) same (decided (suc more))
