-- The entries of the record of a list of events fit their lines, so the record is read again.
use Rattle.std.proofs.Common.{◌≡◌, ◌<◌, ◌≤◌, ◌^◌, true, List, [], ◌∷◌, ◌++◌, length, reverse, Option, Some, None, Ok, refl, sym, ap, subst, ◌∙◌, arith}
use Rattle.std.proofs.lemmas.Bool.{and_from, and_parts}
use Rattle.std.proofs.lemmas.List.{length-reverse, reverse-append, reverse-reverse}
use Rattle.std.proofs.lemmas.List.Folds.{list_all-append}
use Rattle.std.specs.List.{AllByRecursion, list_all}
use Rattle.plain_store.specs.{Setup, checked, is_pair, names_differ}
use Rattle.scenario_run.specs.model.{AreGiven, Entry, Event, Past, entry_of, history, is_event, past_of, record_of}
use Rattle.judge.specs.record_file.{FitLines, FitsLine, IsSetupOfFile, RecordsAreReadAgain, RecordsFitLines, record_text}
use Rattle.judge.specs.record_file.RecordFiles as reader
use Rattle.judge.proofs.record_file.RecordsAgain.{record_again}
use Rattle.judge.proofs.record_file.ShortWords.{short_fits}
use Rattle.engines.proofs.SoundEntries.{entry_fits, few_taken}

-- Reversed lists.

all_with : (P : Entry → Type 0) (xs : List Entry) (x : Entry) → AllByRecursion P xs → P x → AllByRecursion P (xs ++ x ∷ [])
all_with P [] x all is = (is, tt)
all_with P (y ∷ ys) x all is = (all.0, all_with P ys x all.1 is)

all_reversed : (P : Entry → Type 0) (xs : List Entry) → AllByRecursion P xs → AllByRecursion P (reverse xs)
all_reversed P [] all = tt
all_reversed P (x ∷ xs) all = subst (AllByRecursion P) (sym (reverse-append (x ∷ []) xs)) (all_with P (reverse xs) x (all_reversed P xs all.1) all.0)

pub events_reversed : (events : List Event) → list_all is_event events ≡ true → list_all is_event (reverse events) ≡ true
events_reversed [] all = refl
events_reversed (x ∷ xs) all =
    let parts = and_parts (is_event x) (list_all is_event xs) all in
    ap (list_all is_event) (reverse-append (x ∷ []) xs) ∙ list_all-append is_event (reverse xs) (x ∷ [])
    ∙ and_from (list_all is_event (reverse xs)) (list_all is_event (x ∷ [])) (events_reversed xs parts.1) (and_from (is_event x) true parts.0 refl)

-- Each entry of a past was added by an event.
past_fits : (s : Setup) → checked s ≡ Ok tt → (events : List Event) → list_all is_event events ≡ true → length events < 2 ^ 64 → FitLines (past_of s events)
past_fits s h [] given few = tt
past_fits s h (what ∷ events) given few = by (past_fits s h events (and_parts (is_event what) (list_all is_event events) given).1 (omega (arith, few))) (entry_of s (past_of s events) what) refl
  where
    past : Past
    past = past_of s events

    by : FitLines past → (o : Option Entry) → entry_of s past what ≡ o → FitLines (elim o as (λ _. Past) [ None ↦ past | Some e ↦ e ∷ past ])
    by before None is = before
    by before (Some e) is =
        let taken : length (history s past) ≤ length events = few_taken s events in
        let fits = entry_fits s h events what e (omega (arith, taken, few)) (and_parts (is_event what) (list_all is_event events) given).0 is in
        (short_fits e fits.sound fits.few, before)

pub records_fit : RecordsFitLines
records_fit s h events given few =
    let same : length (reverse events) ≡ length events = length-reverse events in
    all_reversed FitsLine (past_of s (reverse events)) (past_fits s h (reverse events) (events_reversed events given) (omega (arith, same, few)))

pub records_again : RecordsAreReadAgain
records_again s is events given few = record_again s (record_of s events) is (records_fit s is.good events given few)

-- for events in range, the entries of the record fit their lines, and the record is read again
pub given_again : (s : Setup) → checked s ≡ Ok tt → (events : List Event) → AreGiven s (reverse events) → length events < 2 ^ 64 → (made : List Entry) → made ≡ record_of s events →
    FitLines made × (reader.record_of (record_text s made) ≡ Ok (record { setup = s; entries = made }))
given_again s h events given few made is = subst (λ (l : List Entry). FitLines l × (reader.record_of (record_text s l) ≡ Ok (record { setup = s; entries = l }))) (sym is) (records_fit s h events commands few, records_again s setup events commands few)
  where
    commands : list_all is_event events ≡ true
    commands = ap (list_all is_event) (sym (reverse-reverse events)) ∙ events_reversed (reverse events) given.commands

    both : (list_all is_pair s.opening ≡ true) × (names_differ s.opening ≡ true)
    both = and_parts (list_all is_pair s.opening) (names_differ s.opening) given.opening

    setup : IsSetupOfFile s
    setup = record { good = h; pairs = both.0; differ = both.1; few = omega arith; lines = refl; allowed = refl }
