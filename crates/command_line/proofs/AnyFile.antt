-- The meaning of the name of a command and a file, whatever the file.
use Rattle.std.proofs.Common.{refl, sym, ap, ◌∙◌, ◌&&◌, true, false, not, Bool, Some, None, List, [], ◌∷◌, ◌≡◌, ◌==◌, Option, codes, find, option_map, is_some}
use Rattle.std.specs.Str.{bytes_eq}
use Rattle.std.specs.List.{list_all}
use Rattle.std.specs.Option.{option_map_or}
use Rattle.clap.specs.Lexer.{long_of, short_of}
use Rattle.clap.specs.Simple.{Shape, built, built_leaf, entered, inherited, label_of, marked_built, names_of, on_top, rows_at, with_leaf_noted}
use Rattle.clap.specs.Takes.{built_takes, default_passes, entered_passes, is_valid, level_passes, settle_passes, step_passes, turn_passes, walk_passes}
use Rattle.clap.specs.Walk.{Held, Names, Row, Rule, Walk, answers_to, arg_by_index, finished, idle, nothing_held, rows_after, subcommand_met, to_positional, value, walk, walk_from, walked}
use Rattle.clap.specs.Words.{App, Text, takes}
use Rattle.clap.proofs.OnLiterals.{clap_on_literals}
use Rattle.command_line.proofs.Simple.{bakery_is_simple}
use Rattle.command_line.specs.{EachRunsFile, Listed, Meant, RunsEachFile, RunsFile, asked_of, asked_of_command, bakery, command_app, command_named, commands, explains_file, has_flag, is_plain_word, meaning, runs_file}

no_hyphen : (b : Bool) → not b ≡ true → b ≡ false
no_hyphen false e = refl
no_hyphen true e = sym e

-- the tests of clap's lexer: the word is not an option, and does not end the options
abbrev IsNoOption : Text → Type 0
IsNoOption file = (bytes_eq file (codes "--") ≡ false) × (long_of file ≡ None) × (short_of file ≡ None)

no_option : (file : Text) → is_plain_word file ≡ true → IsNoOption file
no_option [] e = (refl, refl, refl)
no_option (x ∷ rest) e = let is = no_hyphen (x == 45) e in (rw is refl, rw is refl, rw is refl)

-- ---- one word of a walk

-- a word that is not an option goes to the first positional
abbrev after_file : List Rule → Held → Text → Walk
after_file rules h file = to_positional rules (arg_by_index rules 1) file (walk_from h) h

file_taken : (rules : List Rule) (h : Held) (file : Text) → IsNoOption file → walked rules [] (walk_from h) file ≡ after_file rules h file
unfolding walked
file_taken rules h file is = rw is.0 (rw is.1 (rw is.2 refl))

file_passes : (s : Shape) (h : Held) (file : Text) → IsNoOption file → turn_passes s [] (walk_from h) file ≡ step_passes s 1 h value
file_passes s h file is = rw is.0 (rw is.1 (rw is.2 refl))

-- ---- the words after a command's name

abbrev rows_of_file : List Rule → Held → Text → List Row
rows_of_file rules h file = finished rules (after_file rules h file).held

file_alone : (rules : List Rule) (file : Text) → IsNoOption file → rows_after rules [] (file ∷ []) ≡ rows_of_file rules nothing_held file
file_alone rules file is = ap (λ w. finished rules w.held) (file_taken rules nothing_held file is)

file_behind : (rules : List Rule) (flag : Text) (h : Held) (file : Text) → IsNoOption file → walked rules [] (walk_from nothing_held) flag ≡ walk_from h
    → rows_after rules [] (flag ∷ file ∷ []) ≡ rows_of_file rules h file
file_behind rules flag h file is flagged = ap (λ w. finished rules (walked rules [] w file).held) flagged ∙ ap (λ w. finished rules w.held) (file_taken rules h file is)

file_before : (rules : List Rule) (flag : Text) (file : Text) → IsNoOption file
    → rows_after rules [] (file ∷ flag ∷ []) ≡ finished rules (walked rules [] (after_file rules nothing_held file) flag).held
file_before rules flag file is = ap (λ w. finished rules (walked rules [] w flag).held) (file_taken rules nothing_held file is)

-- the walk passes where the file does, and what is left passes
abbrev rest_passes : Shape → Walk → Bool
rest_passes s w = settle_passes s.rules s.args_override_self w.held && (list_all default_passes s.rules && is_valid s (finished s.rules w.held) false)

level_of_file : (s : Shape) (file : Text) → IsNoOption file
    → (step_passes s 1 nothing_held value && true) && rest_passes s (after_file s.rules nothing_held file) ≡ true
    → level_passes s [] nothing_held (file ∷ []) false ≡ true
unfolding walk_passes
level_of_file s file is these = ap (λ p. (p && true) && rest_passes s (walked s.rules [] (walk_from nothing_held) file)) (file_passes s nothing_held file is)
    ∙ (ap (λ w. (step_passes s 1 nothing_held value && true) && rest_passes s w) (file_taken s.rules nothing_held file is) ∙ these)

-- ---- the name of a command

-- the program's command line, built once for all lines, and the command of a row of the table in it
the_built : App
the_built = built bakery

abbrev leaf_of : Listed → Shape
leaf_of c = built_leaf (inherited (on_top with_leaf_noted (on_top marked_built bakery)).top (command_app c).top)

abbrev stopped_at : Held → Text → List Text → Walk
stopped_at h name words = record (walk_from h) { stopped = Some (name, words) }

stops : (rules : List Rule) (names : Names) (h : Held) (name : Text) → subcommand_met names idle name ≡ Some name → walked rules names (walk_from h) name ≡ stopped_at h name []
unfolding walked
stops rules names h name is = rw is refl

stops_then : (rules : List Rule) (names : Names) (h : Held) (name a : Text) → subcommand_met names idle name ≡ Some name
    → walk rules names h (name ∷ a ∷ []) ≡ stopped_at h name (a ∷ [])
unfolding walked
stops_then rules names h name a is = ap (λ w. walked rules names w a) (stops rules names h name is)

stops_then_two : (rules : List Rule) (names : Names) (h : Held) (name a b : Text) → subcommand_met names idle name ≡ Some name
    → walk rules names h (name ∷ a ∷ b ∷ []) ≡ stopped_at h name (a ∷ b ∷ [])
unfolding walked
stops_then_two rules names h name a b is = ap (λ w. walked rules names (walked rules names w a) b) (stops rules names h name is)

-- the meaning of a walk that stopped there
abbrev met_by : App → Walk → Option Meant
met_by b w = asked_of (finished b.top.rules w.held) (entered b w.stopped)

abbrev asked_in : App → Shape → Held → List Row → Option Meant
asked_in b s h rows = asked_of_command (has_flag (codes "quiet") (finished b.top.rules h)) s.name rows

enters : (b : App) (s : Shape) (h : Held) (name : Text) (words : List Text) (w : Walk) → find (λ s. answers_to name (label_of s)) b.subs ≡ Some s
    → w ≡ stopped_at h name words → met_by b w ≡ asked_in b s h (rows_after s.rules [] words)
enters b s h name words w found stopped = ap (met_by b) stopped ∙ ap (λ o. asked_of (finished b.top.rules h) (option_map (λ s. rows_at s words) o)) found

takes_file : (b : App) (s : Shape) (name file : Text) → subcommand_met (names_of b) idle name ≡ Some name → find (λ s. answers_to name (label_of s)) b.subs ≡ Some s
    → level_passes s [] nothing_held (file ∷ []) false ≡ true → level_passes b.top (names_of b) nothing_held (name ∷ file ∷ []) true ≡ true
    → built_takes b nothing_held (name ∷ file ∷ []) ≡ true
takes_file b s name file named found inner outer =
    ap (λ w. entered_passes b w.stopped && level_passes b.top (names_of b) nothing_held (name ∷ file ∷ []) (is_some (entered b w.stopped)))
    (stops_then b.top.rules (names_of b) nothing_held name file named)
    ∙ (ap (λ o. option_map_or (λ s. level_passes s [] nothing_held (file ∷ []) false) o true
    && level_passes b.top (names_of b) nothing_held (name ∷ file ∷ []) (is_some (option_map (λ s. rows_at s (file ∷ [])) o))) found
    ∙ (ap (λ p. p && level_passes b.top (names_of b) nothing_held (name ∷ file ∷ []) true) inner ∙ outer))

-- ---- each command

takes_where_built : (own : Text) (words : List Text) → built_takes the_built nothing_held words ≡ true → takes bakery (own ∷ words) ≡ true
unfolding the_built
takes_where_built own words these = ap (λ b. b && built_takes the_built nothing_held words) bakery_is_simple ∙ these

abbrev walk_of : List Text → Walk
walk_of words = walk the_built.top.rules (names_of the_built) nothing_held words

means_where_built : (own : Text) (words : List Text) (m : Option Meant) → met_by the_built (walk_of words) ≡ m → meaning (own ∷ words) ≡ m
unfolding the_built
means_where_built own words m these = these

-- the state after a flag that is the first word
abbrev held_behind : List Rule → Names → Text → Held
held_behind rules names flag = (walked rules names (walk_from nothing_held) flag).held

abbrev IsFlag : List Rule → Names → Text → Type 0
IsFlag rules names flag = walked rules names (walk_from nothing_held) flag ≡ walk_from (held_behind rules names flag)

quiet_is_flag : IsFlag the_built.top.rules (names_of the_built) (codes "--quiet")
unfolding the_built clap_on_literals
quiet_is_flag = refl

abbrev quiet_held : Held
quiet_held = held_behind the_built.top.rules (names_of the_built) (codes "--quiet")

-- the facts to be computed of a command: it is met by its name, it is `s`, and its two flags are flags. The first line of `RunsFile` is computed outside and inside, the others inside
abbrev RunsBuilt : Text → Listed → Shape → Type 0
RunsBuilt file c s = (subcommand_met (names_of the_built) idle c.name ≡ Some c.name)
    × (find (λ s. answers_to c.name (label_of s)) the_built.subs ≡ Some s)
    × IsFlag s.rules [] (codes "--explain")
    × IsFlag s.rules [] (codes "--quiet")
    × (level_passes the_built.top (names_of the_built) nothing_held (c.name ∷ file ∷ []) true ≡ true)
    × ((step_passes s 1 nothing_held value && true) && rest_passes s (after_file s.rules nothing_held file) ≡ true)
    × (asked_in the_built s nothing_held (rows_of_file s.rules nothing_held file) ≡ runs_file c file false)
    × (asked_in the_built s nothing_held (rows_of_file s.rules (held_behind s.rules [] (codes "--explain")) file) ≡ explains_file c file)
    × (asked_in the_built s quiet_held (rows_of_file s.rules nothing_held file) ≡ runs_file c file true)
    × (asked_in the_built s nothing_held (rows_of_file s.rules (held_behind s.rules [] (codes "--quiet")) file) ≡ runs_file c file true)
    × (asked_in the_built s nothing_held (finished s.rules (walked s.rules [] (after_file s.rules nothing_held file) (codes "--quiet")).held) ≡ runs_file c file true)

runs_built : (own file : Text) (c : Listed) (s : Shape) → IsNoOption file → RunsBuilt file c s → RunsFile own file c
runs_built own file c s is k =
    let rules = the_built.top.rules in
    let names = names_of the_built in
    let stops_before = stops_then rules names nothing_held c.name file k.0 in
    let asked = λ (h : Held) (rows : List Row). asked_in the_built s h rows in (
      takes_where_built own (c.name ∷ file ∷ []) (takes_file the_built s c.name file k.0 k.1 (level_of_file s file is k.5) k.4),
      means_where_built own (c.name ∷ file ∷ []) (runs_file c file false)
          (enters the_built s nothing_held c.name (file ∷ []) (walk_of (c.name ∷ file ∷ [])) k.1 stops_before ∙ (ap (asked nothing_held) (file_alone s.rules file is) ∙ k.6)),
      means_where_built own (c.name ∷ codes "--explain" ∷ file ∷ []) (explains_file c file)
          (enters the_built s nothing_held c.name (codes "--explain" ∷ file ∷ []) (walk_of (c.name ∷ codes "--explain" ∷ file ∷ [])) k.1
          (stops_then_two rules names nothing_held c.name (codes "--explain") file k.0)
          ∙ (ap (asked nothing_held) (file_behind s.rules (codes "--explain") (held_behind s.rules [] (codes "--explain")) file is k.2) ∙ k.7)),
      means_where_built own (codes "--quiet" ∷ c.name ∷ file ∷ []) (runs_file c file true)
          (enters the_built s quiet_held c.name (file ∷ []) (walk_of (codes "--quiet" ∷ c.name ∷ file ∷ [])) k.1
          (ap (λ w. walked rules names (walked rules names w c.name) file) quiet_is_flag ∙ stops_then rules names quiet_held c.name file k.0)
          ∙ (ap (asked quiet_held) (file_alone s.rules file is) ∙ k.8)),
      means_where_built own (c.name ∷ codes "--quiet" ∷ file ∷ []) (runs_file c file true)
          (enters the_built s nothing_held c.name (codes "--quiet" ∷ file ∷ []) (walk_of (c.name ∷ codes "--quiet" ∷ file ∷ [])) k.1
          (stops_then_two rules names nothing_held c.name (codes "--quiet") file k.0)
          ∙ (ap (asked nothing_held) (file_behind s.rules (codes "--quiet") (held_behind s.rules [] (codes "--quiet")) file is k.3) ∙ k.9)),
      means_where_built own (c.name ∷ file ∷ codes "--quiet" ∷ []) (runs_file c file true)
          (enters the_built s nothing_held c.name (file ∷ codes "--quiet" ∷ []) (walk_of (c.name ∷ file ∷ codes "--quiet" ∷ [])) k.1
          (stops_then_two rules names nothing_held c.name file (codes "--quiet") k.0)
          ∙ (ap (asked nothing_held) (file_before s.rules (codes "--quiet") file is) ∙ k.10)),
    )

abbrev EachRunsBuilt : Text → List Listed → Type 0
EachRunsBuilt file [] = Unit
EachRunsBuilt file (c ∷ rest) = RunsBuilt file c (leaf_of c) × EachRunsBuilt file rest

each_runs : (own file : Text) (these : List Listed) → IsNoOption file → EachRunsBuilt file these → EachRunsFile own file these
each_runs own file [] is all = tt
each_runs own file (c ∷ rest) is all = (runs_built own file c (leaf_of c) is all.0, each_runs own file rest is all.1)

-- each command in the order of the table, and of each what `RunsBuilt` asks
each_built : (file : Text) → EachRunsBuilt file commands
unfolding the_built clap_on_literals command_named
each_built file = ((refl, refl, refl, refl, refl, refl, refl, refl, refl, refl, refl), ((refl, refl, refl, refl, refl, refl, refl, refl, refl, refl, refl), ((refl, refl, refl, refl, refl, refl, refl, refl, refl, refl, refl), ((refl, refl, refl, refl, refl, refl, refl, refl, refl, refl, refl), ((refl, refl, refl, refl, refl, refl, refl, refl, refl, refl, refl), ((refl, refl, refl, refl, refl, refl, refl, refl, refl, refl, refl), ((refl, refl, refl, refl, refl, refl, refl, refl, refl, refl, refl), ((refl, refl, refl, refl, refl, refl, refl, refl, refl, refl, refl), ((refl, refl, refl, refl, refl, refl, refl, refl, refl, refl, refl), ((refl, refl, refl, refl, refl, refl, refl, refl, refl, refl, refl), ((refl, refl, refl, refl, refl, refl, refl, refl, refl, refl, refl), ((refl, refl, refl, refl, refl, refl, refl, refl, refl, refl, refl), tt))))))))))))

pub runs_each_file : RunsEachFile
runs_each_file own file e = each_runs own file commands (no_option file e) (each_built file)
