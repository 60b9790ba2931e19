-- The events of each run are given, if those of the sweep and its calls are.
use Rattle.std.proofs.Common.{◌≡◌, ℕ, zero, suc, ◌+◌, ◌<◌, ◌&&◌, ◌||◌, Bool, true, false, cond, List, [], ◌∷◌, fold, length, take, get_or, refl, ap, sym, ◌∙◌}
use Rattle.std.proofs.lemmas.Bool.{and_from, and_parts, cond_both}
use Rattle.std.proofs.lemmas.List.{take_more}
use Rattle.std.proofs.lemmas.List.Elements.{All-append, All-cons, All-nil}
use Rattle.std.proofs.lemmas.List.Folds.{list_all-append}
use Rattle.std.specs.List.{All, list_all}
use Rattle.plain_store.specs.{Command, Setup, is_command}
use Rattle.model.specs.{AreGiven, Event, is_event, process_of, processes}
use Rattle.model.specs.declared.events.Event.TheVariants.{Call, Step, Fail, Restart}
use Rattle.sweeper.specs.{Cut, Run, are_commands, as_long_as, cut, cut_off, cuts, goes, is_accepted, is_cut, most, on_from, round, rounds, steps_of, with_call, with_calls}

-- one more command in range
pub commands_more : (calls : List (ℕ × Command)) (k : ℕ) (c : ℕ × Command) → k < length calls → c ≡ get_or calls k c → are_commands (take k calls) ≡ true → is_command c.1 ≡ true → are_commands (take (k + 1) calls) ≡ true
commands_more calls k c within is before sound =
    let here : is_command (get_or calls k c).1 ≡ true = ap (λ (x : ℕ × Command). is_command x.1) (sym is) ∙ sound in
    ap are_commands (take_more calls k c within) ∙ list_all-append (λ (x : ℕ × Command). is_command x.1) (take k calls) (get_or calls k c ∷ []) ∙ (λ i. before i && (here i && true))

-- one more event
given_with : (s : Setup) (events : List Event) (event : Event) → is_event event ≡ true → AreGiven s events → AreGiven s (event ∷ events)
given_with s events event is given = record { opening = given.opening; commands = and_from (is_event event) (list_all is_event events) is given.commands }

-- the events without the last one
given_before : (s : Setup) (events : List Event) (event : Event) → AreGiven s (event ∷ events) → AreGiven s events
given_before s events event given = record { opening = given.opening; commands = (and_parts (is_event event) (list_all is_event events) given.commands).1 }

-- the loop that runs while a test holds
given_repeated : (s : Setup) (test : List Event → Bool) (on : List Event → List Event) → ((events : List Event) → AreGiven s events → AreGiven s (on events)) → (n : ℕ) (events : List Event) → AreGiven s events → AreGiven s (as_long_as test on n events)
given_repeated s test on kept zero events given = given
given_repeated s test on kept (suc n) events given =
    cond_both (test events) (as_long_as test on n (on events)) events (AreGiven s) (λ h. given_repeated s test on kept n (on events) (kept events given)) (λ h. given)

given_steps : (s : Setup) (p : ℕ) (v : Bool) (n : ℕ) (events : List Event) → AreGiven s events → AreGiven s (steps_of s p v n events)
given_steps s p v n events given = given_repeated s (λ events. is_accepted s events (Step p v)) (λ events. Step p v ∷ events) (λ events. given_with s events (Step p v) refl) n events given

given_cut : (s : Setup) (p : ℕ) (v : Bool) (events : List Event) → AreGiven s events → AreGiven s (cut_off s p v events)
given_cut s p v events given =
    given_with s (steps_of s p v most (Fail p ∷ events)) (Restart p) refl (given_steps s p v most (Fail p ∷ events) (given_with s events (Fail p) refl given))

given_round : (s : Setup) (v : Bool) (ps : List ℕ) (events : List Event) → AreGiven s events → AreGiven s (fold (λ events p. Step p v ∷ events) events ps)
given_round s v [] events given = given
given_round s v (p ∷ ps) events given = given_round s v ps (Step p v ∷ events) (given_with s events (Step p v) refl given)

pub given_rounds : (s : Setup) (v : Bool) (n : ℕ) (events : List Event) → AreGiven s events → AreGiven s (rounds s v n events)
given_rounds s v n events given = given_repeated s (goes s v) (round s v) (given_round s v (processes s)) n events given

given_call : (s : Setup) (v : Bool) (run : Run) (p : ℕ) (command : Command) → is_command command ≡ true → AreGiven s run.events → AreGiven s (with_call s v run (p, command)).events
given_call s v run p command is given =
    let after : List Event = steps_of s p v most (Call p command ∷ run.events) in
    cond_both (is_accepted s run.events (Call p command)) (record { events = after; stuck = run.stuck || is_accepted s after (Step p v) }) run (λ (run : Run). AreGiven s run.events)
    (λ h. given_steps s p v most (Call p command ∷ run.events) (given_with s run.events (Call p command) is given)) (λ h. given)

pub given_calls : (s : Setup) (v : Bool) (calls : List (ℕ × Command)) (run : Run) → are_commands calls ≡ true → AreGiven s run.events → AreGiven s (with_calls s calls v run).events
given_calls s v [] run are given = given
given_calls s v ((p, command) ∷ calls) run are given =
    let both = and_parts (is_command command) (are_commands calls) are in
    given_calls s v calls (with_call s v run (p, command)) both.1 (given_call s v run p command both.0 given)

given_on : (s : Setup) (calls : List (ℕ × Command)) (v : Bool) (events : List Event) → are_commands calls ≡ true → AreGiven s events → AreGiven s (on_from s calls v events).events
given_on s calls v events are given =
    given_calls s v calls (let r : Run = record { events = rounds s v most events; stuck = goes s v (rounds s v most events) } in r) are (given_rounds s v most events given)

-- the runs of a list of events
pub given_cuts : (s : Setup) (calls : List (ℕ × Command)) → are_commands calls ≡ true → (events : List Event) → AreGiven s events → All (λ (c : Cut). AreGiven s c.run.events) (cuts s calls events)
given_cuts s calls are [] given = All-nil (λ (c : Cut). AreGiven s c.run.events)
given_cuts s calls are (event ∷ before) given =
    All-append (λ (c : Cut). AreGiven s c.run.events) (cuts s calls before) (cond (is_cut s event before) (cut s calls event before false ∷ cut s calls event before true ∷ []) [])
    (given_cuts s calls are before (given_before s before event given))
    (cond_both (is_cut s event before) (cut s calls event before false ∷ cut s calls event before true ∷ []) [] (All Given)
    (λ h. All-cons Given (cut s calls event before false) (cut s calls event before true ∷ []) (one false) (All-cons Given (cut s calls event before true) [] (one true) (All-nil Given))) (λ h. All-nil Given))
  where
    Given : Cut → Type 0
    Given c = AreGiven s c.run.events

    one : (v : Bool) → Given (cut s calls event before v)
    one v = given_on s calls v (cut_off s (process_of event) v (event ∷ before)) are (given_cut s (process_of event) v (event ∷ before) given)
