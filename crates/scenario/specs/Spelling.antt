-- The spelling of a file: its lines have the words that are printed for its value.
use Rattle.std.specs.Prelude.{◌≡◌, ◌↔◌, ◌≤◌, Ok, ℕ, Bool, true, false, not, ◌&&◌, List, [], ◌∷◌, ◌++◌, length, codes, map}
use Rattle.std.specs.List.{list_all}
use Rattle.std.specs.Str.{bytes_eq}
use Rattle.plain_store.specs.{Setup}
use Rattle.scenario.specs.BitFiles.{bits_of}
use Rattle.scenario.specs.Printing.{version_words, heading_word, heading_words, line_words, open_words}
use Rattle.scenario.specs.Reading.{Script}
use Rattle.scenario.specs.Scripts.{IsScenario, is_line}
use Rattle.scenario.specs.Setting.{default_setup, with_heading}
use Rattle.scenario.specs.Statements.{is_line_of, line_of}
use Rattle.scenario.specs.declared.lines.Line.{Line}
use Rattle.files.specs.{said_words, IsWithinLimits}
use Rattle.scenario.specs.declared.bit_files.BitLine.{BitLine}
use Rattle.scenario.specs.declared.bit_files.BitLine.TheVariants as bit
use Rattle.scenario.specs.declared.keywords.Heading.{Heading}
use Rattle.scenario.specs.declared.keywords.LineWord.{LineWord}
use Rattle.scenario.specs.declared.keywords.LineWord.TheVariants.{Call, Step, Go, Fail, Withdraw, Restart, Flick, Wander, Show}

-- the first word of a line
abbrev pub line_word : LineWord → List ℕ
line_word Call = codes "call"
line_word Step = codes "step"
line_word Go = codes "go"
line_word Fail = codes "fail"
line_word Withdraw = codes "withdraw"
line_word Restart = codes "restart"
line_word Flick = codes "flick"
line_word Wander = codes "wander"
line_word Show = codes "show"

-- whether two headings have the same first word
abbrev pub same_heading : Heading → Heading → Bool
same_heading h k = bytes_eq (heading_word h) (heading_word k)

-- no heading appears twice
abbrev pub headings_differ : List (Heading × ℕ) → Bool
headings_differ [] = true
headings_differ (heading ∷ headings) = list_all (λ other. not (same_heading heading.0 other.0)) headings && headings_differ headings

-- a setup with the numbers of headings
abbrev pub with_headings : List (Heading × ℕ) → Setup → Setup
with_headings [] setup = setup
with_headings (heading ∷ headings) setup = with_headings headings (with_heading heading.0 heading.1 setup)

-- A text specifies a scenario: within the limits, the lines that are not skipped have the words that are printed for it. Its
-- headings are in any order, each at most once, and a heading that is left out has its default.
pub record Says (text : List ℕ) (s : Script) : Type 0 where
  pub limits : IsWithinLimits text
  pub headings : List (Heading × ℕ)
  pub once : headings_differ headings ≡ true
  pub words : said_words text ≡ version_words s.setup.version ∷ (map heading_words headings ++ (map open_words s.setup.opening ++ map line_words s.lines))
  pub setup : s.setup ≡ record (with_headings headings (default_setup s.setup.version)) { opening = s.setup.opening }
  pub scenario : IsScenario s

-- the word of a bit
abbrev pub bit_word : Bool → List ℕ
bit_word false = codes "0"
bit_word true = codes "1"

-- the words of a line of a bits file
abbrev pub bit_line_words : BitLine → List (List ℕ)
bit_line_words (bit.Write v) = codes "write" ∷ bit_word v ∷ []
bit_line_words bit.End = codes "end" ∷ []
bit_line_words (bit.Settle v) = codes "settle" ∷ bit_word v ∷ []
bit_line_words bit.Read = codes "read" ∷ []
bit_line_words (bit.Value v) = codes "value" ∷ bit_word v ∷ []
bit_line_words bit.Drop = codes "drop" ∷ []

-- A text specifies the lines of a bits file: within the limits, the lines that are not skipped have their words.
pub record SaysBits (text : List ℕ) (said : List BitLine) : Type 0 where
  pub limits : IsWithinLimits text
  pub words : said_words text ≡ (codes "bits" ∷ codes "1" ∷ []) ∷ map bit_line_words said
  pub few : length said ≤ 4000

-- the words of a line, of which the first is this name, specify this line of a file of that version
abbrev pub SaysLine : ℕ → LineWord → List (List ℕ) → Line → Type 0
SaysLine version name words line = (line_word name ∷ words ≡ line_words line) × (is_line line ≡ true) × (is_line_of version line ≡ true)

-- Words are read as a line exactly if they specify it.
abbrev pub LinesAreSpelledInOneWay : Type 0
LinesAreSpelledInOneWay = (version : ℕ) (name : LineWord) (words : List (List ℕ)) (line : Line) → (line_of version name words ≡ Ok line) ↔ SaysLine version name words line

-- A text is read as lines of a bits file exactly if it specifies them.
abbrev pub BitFilesAreSpelledInOneWay : Type 0
BitFilesAreSpelledInOneWay = (text : List ℕ) (lines : List BitLine) → (bits_of text ≡ Ok lines) ↔ SaysBits text lines
