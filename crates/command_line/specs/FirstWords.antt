-- The first word of a file, which determines the kind of the file.
use Rattle.std.specs.Prelude.{◌≡◌, ◌<◌, ◌≤◌, ℕ, true, List, [], ◌∷◌, ◌++◌, codes, cond, length, take, Option, None, Some, Ok}
use Rattle.std.specs.Option.{is_some, unwrap_or}
use Rattle.std.specs.Str.{bytes_eq}
use Rattle.files.specs.{Grammar, input_limit, said_words}
use Rattle.record_file.specs.{Said, record_of}
use Rattle.record_file.specs.scenario.{Script, scenario_of}
use Rattle.trace_file.specs.{TraceSaid, trace_said}
use Rattle.command_line.specs.declared.first_word.FirstWord.{FirstWord}
use Rattle.command_line.specs.declared.first_word.FirstWord.TheVariants.{Record, Trace, Other}

-- which of the first words a word is
abbrev pub word_meant : List ℕ → FirstWord
word_meant word = cond (bytes_eq word (codes "record")) Record (cond (bytes_eq word (codes "trace")) Trace Other)

-- the grammar of the first line that is not skipped
abbrev pub first_line : Grammar FirstWord
first_line = record { first = λ word words. Ok (word_meant word); later = λ word words line. Ok line }

-- the first word of a line
abbrev pub word_opening : List (List ℕ) → FirstWord
word_opening [] = Other
word_opening (first ∷ words) = word_meant first

-- the first word of the first of some lines, if there is one
abbrev pub word_opened : List (List (List ℕ)) → Option FirstWord
word_opened [] = None
word_opened (words ∷ lines) = Some (word_opening words)

-- The first word of a text: that of the first line that is not skipped, among its first 532,481 bytes.
abbrev pub first_word : List ℕ → FirstWord
first_word text = unwrap_or (word_opened (said_words (take input_limit text))) Other

-- The line with the first word is looked at: all bytes are, or among those that are, a line ends that is not skipped.
pub data IsLookedAt (text : List ℕ) : Type 0 where
  Whole : length text ≤ input_limit → IsLookedAt text
  Front : (front rest : List ℕ) → text ≡ front ++ 10 ∷ rest → length front < input_limit → is_some (word_opened (said_words (front ++ 10 ∷ []))) ≡ true → IsLookedAt text

-- A text that is read as a record, without a fault, has the first word `record`.
abbrev pub RecordsAreRecognized : Type 0
RecordsAreRecognized = (text : List ℕ) (said : Said) → record_of text ≡ Ok said → IsLookedAt text → first_word text ≡ Record

-- A text that is read as a trace, without a fault, has the first word `trace`.
abbrev pub TracesAreRecognized : Type 0
TracesAreRecognized = (text : List ℕ) (said : TraceSaid) → trace_said text ≡ Ok said → IsLookedAt text → first_word text ≡ Trace

-- A text that is read as a scenario, without a fault, has another first word.
abbrev pub ScenariosHaveAnotherWord : Type 0
ScenariosHaveAnotherWord = (text : List ℕ) (script : Script) → scenario_of text ≡ Ok script → first_word text ≡ Other
