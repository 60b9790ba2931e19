-- The scenario that a scenario file contains, or its first fault.
-- The checks of a line are in the order of its faults: an unknown key word, a line out of place, the number of words,
-- the operands from left to right, the setup, and one line too many.
use Rattle.std.specs.Prelude.{ℕ, ◌==◌, ◌||◌, not, if◌then◌else◌, List, [], ◌∷◌, length, codes, Result, Ok, Err}
use Rattle.std.specs.Int.{is_in_range}
use Rattle.std.specs.Map.{lookup}
use Rattle.std.specs.Option.{ok_or}
use Rattle.std.specs.Str.{bytes_eq}
use Rattle.plain_store.specs.{Setup, Value}
use Rattle.files.specs.{FaultKind, Grammar, LineFault, counted, fault_if, file_of, known, one_more, word, ◌>>=◌}
use Rattle.scenario.specs.Keywords.{opener_of}
use Rattle.scenario.specs.Operands.{number_at, name_at, value_at}
use Rattle.scenario.specs.Setting.{none_given, is_given, and_given, most_of, default_setup, with_heading, may_open, with_pair}
use Rattle.scenario.specs.Statements.{line_of}
use Rattle.files.specs.declared.faults.FaultKind.TheVariants.{NotFirst, Unknown, BadSetup}
use Rattle.scenario.specs.declared.headings.Given.{Given}
use Rattle.scenario.specs.declared.keywords.Heading.{Heading}
use Rattle.scenario.specs.declared.keywords.LineWord.{LineWord}
use Rattle.scenario.specs.declared.keywords.Opener.{Opener}
use Rattle.scenario.specs.declared.keywords.Opener.TheVariants as opener
use Rattle.scenario.specs.declared.lines.Line.{Line}

-- the progress of a reader: the headings that were given, the setup that they make, and the lines after them
pub record Progress : Type 0 where
  pub given : Given
  pub setup : Setup
  pub lines : List Line

-- the version that a word names
abbrev pub version_of : List ℕ → Result ℕ FaultKind
version_of text = ok_or (lookup (bytes_eq text) ((codes "1", 1) ∷ (codes "2", 2) ∷ [])) NotFirst

-- the progress after a first line with this version: no heading, no pair, no line
abbrev pub at_version : List ℕ → Result Progress FaultKind
at_version text = version_of text >>= λ version. Ok (record { given = none_given; setup = default_setup version; lines = [] })

-- `bakery 1` or `bakery 2`
unfoldable pub first_read : List ℕ → List (List ℕ) → Result Progress FaultKind
first_read first words = do
  named ← fault_if (not (bytes_eq first (codes "bakery")) || not (length words == 1)) NotFirst
  at_version (word 0 words)

-- a heading has this number
abbrev pub heading_set : Heading → ℕ → Progress → Progress
heading_set heading n p = record p { given = and_given heading p.given; setup = with_heading heading n p.setup }

-- a heading and its number: at most once, and before all lines of other kinds
unfoldable pub heading_read : Heading → List (List ℕ) → Progress → Result Progress FaultKind
heading_read heading words p = do
  in_place ← fault_if (is_given heading p.given || not (length p.setup.opening == 0) || not (length p.lines == 0)) NotFirst
  counts ← counted 1 words
  n ← number_at 255 (word 0 words)
  fits ← fault_if (not (is_in_range 1 (most_of heading p.setup.version) n)) BadSetup
  Ok (heading_set heading n p)

-- one more opening pair
abbrev pub pair_read : List ℕ → Value → Progress → Result Progress FaultKind
pair_read name value p = if may_open p.setup name then Ok (record p { setup = with_pair name value p.setup }) else Err BadSetup

-- `open NAME VALUE`: in version 2, and before all lines of other kinds, except headings
unfoldable pub open_read : List (List ℕ) → Progress → Result Progress FaultKind
open_read words p = do
  in_table ← fault_if (not (p.setup.version == 2)) Unknown
  in_place ← fault_if (not (length p.lines == 0)) NotFirst
  counts ← counted 2 words
  name ← name_at (word 0 words)
  value ← value_at (word 1 words)
  pair_read name value p

-- one more line
abbrev pub kept_read : Line → Progress → Result Progress FaultKind
kept_read line p = one_more p.lines line >>= λ lines. Ok (record p { lines = lines })

-- any other line, by its first word
unfoldable pub other_read : LineWord → List (List ℕ) → Progress → Result Progress FaultKind
other_read name words p = do
  line ← line_of p.setup.version name words
  kept_read line p

-- a line after the first, by the meaning of its first word
abbrev pub opened_read : Opener → List (List ℕ) → Progress → Result Progress FaultKind
opened_read opener.Bakery words p = Err NotFirst
opened_read (opener.Heading heading) words p = heading_read heading words p
opened_read opener.Open words p = open_read words p
opened_read (opener.Line name) words p = other_read name words p

-- a line after the first
abbrev pub later_read : List ℕ → List (List ℕ) → Progress → Result Progress FaultKind
later_read first words p = known (opener_of first) >>= λ opener. opened_read opener words p

-- the grammar of scenario files
abbrev pub scenario_grammar : Grammar Progress
scenario_grammar = record { first = first_read; later = later_read }

-- a scenario, with its lines as a list
pub record Script : Type 0 where
  pub setup : Setup
  pub lines : List Line

-- the scenario that was read
abbrev pub script_of : Progress → Script
script_of p = record { setup = p.setup; lines = p.lines }

-- the scenario that a whole text contains, or its first fault
abbrev pub scenario_of : List ℕ → Result Script LineFault
scenario_of text = file_of scenario_grammar text >>= λ p. Ok (script_of p)
