-- The text of a scenario: each line by its words.
use Rattle.std.specs.Prelude.{ℕ, List, [], ◌∷◌, ◌++◌, codes, flat_map, map}
use Rattle.std.specs.Fmt.{decimal, signed_decimal}
use Rattle.plain_store.specs.{Command, Pair, Setup, value_text}
use Rattle.plain_store.specs.declared.commands.Command.TheVariants as command
use Rattle.scenario.specs.Reading.{Script}
use Rattle.scenario.specs.declared.keywords.Heading.{Heading}
use Rattle.scenario.specs.declared.keywords.Heading.TheVariants.{Processes, Tickets, Stamps, Slots}
use Rattle.choices.specs.{Flick}
use Rattle.choices.specs.declared.Flick.TheVariants as flick
use Rattle.scenario.specs.declared.lines.Line.{Line}
use Rattle.scenario.specs.declared.lines.Line.TheVariants as line
use Rattle.scenario.specs.declared.lines.Target.{Target}
use Rattle.scenario.specs.declared.lines.Target.TheVariants as target

-- the words of a command
abbrev pub command_words : Command → List (List ℕ)
command_words (command.Read name) = codes "read" ∷ name ∷ []
command_words (command.Write name value) = codes "write" ∷ name ∷ value_text value ∷ []
command_words (command.Add name by) = codes "add" ∷ name ∷ signed_decimal by ∷ []
command_words (command.Cas name expected value) = codes "cas" ∷ name ∷ value_text expected ∷ value_text value ∷ []
command_words command.Ask = codes "ask" ∷ []

-- the word of a stage up to which a process goes
abbrev pub target_word : Target → List ℕ
target_word target.Wait = codes "wait"
target_word target.Inside = codes "inside"
target_word target.Idle = codes "idle"
target_word target.Down = codes "down"

-- the words of a source of flicks
abbrev pub flick_words : Flick → List (List ℕ)
flick_words flick.Zero = codes "0" ∷ []
flick_words flick.One = codes "1" ∷ []
flick_words (flick.Pcg seed) = codes "pcg" ∷ decimal seed ∷ []

-- the words of a line after the headings and opening pairs
abbrev pub line_words : Line → List (List ℕ)
line_words (line.Call p command) = codes "call" ∷ decimal p ∷ command_words command
line_words (line.Step p n) = codes "step" ∷ decimal p ∷ decimal n ∷ []
line_words (line.Go p target) = codes "go" ∷ decimal p ∷ target_word target ∷ []
line_words (line.Fail p) = codes "fail" ∷ decimal p ∷ []
line_words (line.Withdraw p) = codes "withdraw" ∷ decimal p ∷ []
line_words (line.Restart p) = codes "restart" ∷ decimal p ∷ []
line_words (line.Flick flick) = codes "flick" ∷ flick_words flick
line_words (line.Wander n) = codes "wander" ∷ decimal n ∷ []
line_words line.Show = codes "show" ∷ []

-- the words of an opening pair
abbrev pub open_words : Pair → List (List ℕ)
open_words pair = codes "open" ∷ pair.0 ∷ value_text pair.1 ∷ []

-- the words of the first line
abbrev pub version_words : ℕ → List (List ℕ)
version_words version = codes "bakery" ∷ decimal version ∷ []

-- the first word of a heading
abbrev pub heading_word : Heading → List ℕ
heading_word Processes = codes "processes"
heading_word Tickets = codes "tickets"
heading_word Stamps = codes "stamps"
heading_word Slots = codes "slots"

-- the words of a heading and its number
abbrev pub heading_words : Heading × ℕ → List (List ℕ)
heading_words heading = heading_word heading.0 ∷ decimal heading.1 ∷ []

-- the four headings in the order in which they are printed
abbrev pub headings_of : Setup → List (Heading × ℕ)
headings_of s = (Processes, s.processes) ∷ (Tickets, s.ticket_bits) ∷ (Stamps, s.stamp_bits) ∷ (Slots, s.slots) ∷ []

-- the words of the first line of a file of some kind, and of the four headings
abbrev pub kind_words : List ℕ → Setup → List (List (List ℕ))
kind_words kind s = (kind ∷ decimal s.version ∷ []) ∷ map heading_words (headings_of s)

-- the words of the first line and of the four headings of a scenario file
abbrev pub setup_words : Setup → List (List (List ℕ))
setup_words = kind_words (codes "bakery")

-- the words of all lines, in their order
abbrev pub script_words : Script → List (List (List ℕ))
script_words s = setup_words s.setup ++ map open_words s.setup.opening ++ map line_words s.lines

-- words with a single space between them
abbrev pub spaced : List (List ℕ) → List ℕ
spaced [] = []
spaced (word ∷ []) = word
spaced (word ∷ next ∷ more) = word ++ (codes " " ++ spaced (next ∷ more))

-- a line of these words, with its end
abbrev pub printed_line : List (List ℕ) → List ℕ
printed_line words = spaced words ++ codes "\n"

-- the lines of opening pairs
abbrev pub opening_text : List Pair → List ℕ
opening_text pairs = flat_map printed_line (map open_words pairs)

-- the text of the other lines
abbrev pub lines_text : List Line → List ℕ
lines_text lines = flat_map printed_line (map line_words lines)

-- the text of a scenario
abbrev pub scenario_text : Script → List ℕ
scenario_text s = flat_map printed_line (script_words s)
