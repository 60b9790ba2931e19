-- The program's command line, and what words mean on it.
use Rattle.std.specs.Prelude.{◌≡◌, ◌==◌, ◌∷◌, not, Bool, true, false, ◌||◌, List, [], Option}
use Rattle.std.specs.Prelude.{Some, None}
use Rattle.std.specs.Prelude.{codes, find, fold, if◌then◌else◌, map, option_and_then, option_map}
use Rattle.std.specs.Option.{option_map_or}
use Rattle.std.specs.Borrow.{Bor}
use Rattle.std.specs.Str.{bytes_eq}
use Rattle.clap.specs.Words.{App, Row as Found, Rule, Text, first_of, matches_of, new_app, new_rule}
use Rattle.clap.specs.Words.{subcommand_of, takes, with_rule, with_subcommand}
use Rattle.clap.specs.declared.builder.action.ArgAction.TheVariants.{SetTrue}
use Rattle.command_line.specs.declared.commands.Engine.{Engine}
use Rattle.command_line.specs.declared.commands.CommandEntry.{CommandEntry}
use Rattle.command_line.specs.declared.commands.InputMode.{InputMode}
use Rattle.command_line.specs.declared.commands.TheConstants.{COMMANDS as table}
use Rattle.command_line.specs.declared.words.Invocation.{Invocation}
use Rattle.command_line.specs.declared.words.Invocation.TheVariants.{Run, Report}
use Rattle.command_line.specs.declared.pages.HelpPage.{HelpPage}
use Rattle.command_line.specs.declared.pages.HelpPage.TheVariants.{Words, Run as OfRun, Faults, Command as OfCommand}

-- ---- the command line

abbrev pub flag_rule : Text → Rule
flag_rule name = record (new_rule name) { long = Some name; action = Some SetTrue }

-- whether an option of a command has a value
abbrev pub has_value : Text → Bool
has_value name =
    bytes_eq name (codes "at") || bytes_eq name (codes "from") || bytes_eq name (codes "to")

-- an option of a command, with its value if it has one
abbrev pub option_rule : Text → Rule
option_rule name =
    if has_value name then record (new_rule name) { long = Some name } else flag_rule name

abbrev pub file_rule : Rule
file_rule = record (new_rule (codes "FILE")) { required = true }

abbrev pub page_rule : Rule
page_rule = new_rule (codes "PAGE")

abbrev pub with_flag : App → Text → App
with_flag a name = with_rule a (flag_rule name)

abbrev pub with_option : App → Text → App
with_option a name = with_rule a (option_rule name)

-- the program without its commands
abbrev pub bare_app : App
bare_app = let a = new_app (codes "bakerystore") in with_flag (record a {
  top = record a.top { has_version = true; disable_help_subcommand = true };
}) (codes "quiet")

-- a command: its name, the engine that runs its file, and its options
pub record Listed : Type 0 where
  pub name : Text
  pub engine : Engine
  pub options : List Text

abbrev pub says : CommandEntry → Listed
says e = record {
  name = e.name.now;
  engine = e.engine;
  options = map (λ o. o.now) e.options.now;
}

-- a row of the table
abbrev pub CommandRow : Type 0
CommandRow = Bor Text × Engine × InputMode × Bor (List (Bor Text)) × Bor Text × Bor Text

abbrev pub listed : CommandRow → Listed
listed r = record { name = r.0.now; engine = r.1; options = map (λ o. o.now) r.3.now }

-- the rows of the table
abbrev pub commands : List Listed
commands = map (λ r. record {
  name = r.0.now;
  engine = r.1;
  options = map (λ o. o.now) r.3.now;
}) table

-- a command that runs a file, without options of its own
abbrev pub plain_app : Text → App
plain_app name = with_flag (with_flag (with_rule (new_app name) file_rule) (codes "quiet"))
    (codes "explain")

-- the command line of a command that runs a file
abbrev pub command_app : Listed → App
command_app c = fold with_option (plain_app c.name) c.options

abbrev pub with_command : App → Listed → App
with_command a c = with_subcommand a (command_app c).top

abbrev pub with_row : App → CommandRow → App
with_row a r = with_command a (listed r)

abbrev pub help_app : App
help_app = with_flag (with_rule (new_app (codes "help")) page_rule) (codes "quiet")

abbrev pub bakery : App
bakery = with_subcommand (fold with_command bare_app commands) help_app.top

-- ---- what words mean

-- a run of a file by an engine, with these options
pub record Running : Type 0 where
  pub engine : Engine
  pub file : Text
  pub reads : Bool
  pub judge : Bool
  pub any_lock : Bool
  pub accesses : Bool
  pub why : Bool
  pub at : Option Text
  pub from : Option Text
  pub to : Option Text
  pub explain : Bool
  pub quiet : Bool

-- a request: to run a file, or to print the page with all words, with the words of a run, with the faults, or with a command
pub data Meant : Type 0 where
  runs : Running → Meant
  reports_words : Meant
  reports_run : Meant
  reports_faults : Meant
  reports_command : Engine → Meant

abbrev pub reported_by : HelpPage → Meant
reported_by Words = reports_words
reported_by OfRun = reports_run
reported_by Faults = reports_faults
reported_by (OfCommand e) = reports_command e.engine

abbrev pub asked_by : Invocation → Meant
asked_by (Run r) = runs (record {
  engine = r.command.engine;
  file = r.file.now;
  reads = r.reads;
  judge = r.judge;
  any_lock = r.any_lock;
  accesses = r.accesses;
  why = r.why;
  at = option_map (λ t. t.now) r.at;
  from = option_map (λ t. t.now) r.from;
  to = option_map (λ t. t.now) r.to;
  explain = r.explain;
  quiet = r.quiet;
})
asked_by (Report page) = reported_by page

-- the command of this name
unfoldable pub command_named : Text → Option Listed
command_named name = find (λ c. bytes_eq c.name name) commands

-- the page of this name
abbrev pub page_named : Text → Option Meant
page_named name = if bytes_eq name (codes "help") then Some reports_words
    else if bytes_eq name (codes "run") then Some reports_run
    else if bytes_eq name (codes "faults") then Some reports_faults
    else option_map (λ e. reports_command e.engine) (command_named name)

abbrev pub is_true : Option Text → Bool
is_true text = option_map_or (λ t. bytes_eq t (codes "true")) text false

-- the words have the flag
abbrev pub has_flag : Text → List Found → Bool
has_flag id rows = is_true (first_of id rows)

-- the request of a command with a file, and with the matches of its own
abbrev pub asked_of_file : Bool → Listed → List Found → Text → Meant
asked_of_file quiet command own file = runs (record {
  engine = command.engine;
  file = file;
  reads = has_flag (codes "reads") own;
  judge = has_flag (codes "judge") own;
  any_lock = has_flag (codes "any-lock") own;
  accesses = has_flag (codes "accesses") own;
  why = has_flag (codes "why") own;
  at = first_of (codes "at") own;
  from = first_of (codes "from") own;
  to = first_of (codes "to") own;
  explain = has_flag (codes "explain") own;
  quiet = quiet || has_flag (codes "quiet") own;
})

-- the request without a command: `plain -`
abbrev pub asked_of_none : Bool → Option Meant
asked_of_none quiet = option_map (λ plain. asked_of_file quiet plain [] (codes "-"))
    (command_named (codes "plain"))

-- the request of `help`, with the word after it
abbrev pub asked_of_help : Option Text → Option Meant
asked_of_help None = Some reports_words
asked_of_help (Some name) = page_named name

abbrev pub asked_of_command : Bool → Text → List Found → Option Meant
asked_of_command quiet name own =
    if bytes_eq name (codes "help") then asked_of_help (first_of (codes "PAGE") own)
    else option_and_then (λ command. option_map (asked_of_file quiet command own)
    (first_of (codes "FILE") own)) (command_named name)

-- the request of the matches of the program and of its command
abbrev pub asked_of : List Found → Option (Text × List Found) → Option Meant
asked_of top None = asked_of_none (has_flag (codes "quiet") top)
asked_of top (Some p) = asked_of_command (has_flag (codes "quiet") top) p.0 p.1

-- the request of the words, of which the first is the program's own name
abbrev pub meaning : List Text → Option Meant
meaning words = asked_of (matches_of bakery words) (subcommand_of bakery words)

-- ---- what the plainest words mean

-- the word begins with no hyphen
abbrev pub is_plain_word : Text → Bool
is_plain_word [] = true
is_plain_word (x ∷ rest) = not (x == 45)

-- a run of a file by a command, without options
abbrev pub running : Listed → Text → Running
running c file = record {
  engine = c.engine;
  file = file;
  reads = false;
  judge = false;
  any_lock = false;
  accesses = false;
  why = false;
  at = None;
  from = None;
  to = None;
  explain = false;
  quiet = false;
}

-- a run of the file, quietly if `quiet`
abbrev pub runs_file : Listed → Text → Bool → Option Meant
runs_file c file quiet = Some (runs (record (running c file) { quiet = quiet }))

-- a run of the file, with its faults explained
abbrev pub explains_file : Listed → Text → Option Meant
explains_file c file = Some (runs (record (running c file) { explain = true }))

-- the command's name and a file run the file. With `--explain` before the file its faults are explained. With `--quiet` before the name, after it or after the file
-- the run is quiet
abbrev pub RunsFile : Text → Text → Listed → Type 0
RunsFile own file c = (takes bakery (own ∷ c.name ∷ file ∷ []) ≡ true)
    × (meaning (own ∷ c.name ∷ file ∷ []) ≡ runs_file c file false)
    × (meaning (own ∷ c.name ∷ codes "--explain" ∷ file ∷ []) ≡ explains_file c file)
    × (meaning (own ∷ codes "--quiet" ∷ c.name ∷ file ∷ []) ≡ runs_file c file true)
    × (meaning (own ∷ c.name ∷ codes "--quiet" ∷ file ∷ []) ≡ runs_file c file true)
    × (meaning (own ∷ c.name ∷ file ∷ codes "--quiet" ∷ []) ≡ runs_file c file true)

abbrev pub EachRunsFile : Text → Text → List Listed → Type 0
EachRunsFile own file [] = Unit
EachRunsFile own file (c ∷ rest) = RunsFile own file c × EachRunsFile own file rest

-- each command of the table runs each file whose path begins with no hyphen
abbrev pub RunsEachFile : Type 0
RunsEachFile =
    (own file : Text) → is_plain_word file ≡ true → EachRunsFile own file commands
