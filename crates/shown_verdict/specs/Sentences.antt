-- The sentence of a verdict.
use Rattle.std.specs.Prelude.{ℕ, Bool, true, false, List, [], ◌++◌, codes, is_some, Option, None, Some, option_map, if◌then◌else◌}
use Rattle.std.specs.Fmt.{decimal}
use Rattle.std.specs.Option.{option_or}
use Rattle.std.specs.Str.{bytes_eq}
use Rattle.shown_verdict.specs.Lines.{behind_space, process_of, text_behind}

-- the process that is inside, or the first one that waits, by the lines
abbrev pub other_process : List (List ℕ) → Option ℕ
other_process lines = option_map process_of (option_or (text_behind (codes "inside ") lines) (text_behind (codes "waits ") lines))

-- that process p enters while process q is inside
abbrev pub entered_beside : ℕ → ℕ → List ℕ
entered_beside p q = codes "process " ++ (decimal p ++ (codes " enters while process " ++ (decimal q ++ codes " is inside")))

-- that process p enters before process q, which is ahead of it
abbrev pub entered_before : ℕ → ℕ → List ℕ
entered_before p q =
    codes "process " ++ (decimal p ++ (codes " enters although process " ++ (decimal q ++ codes " had finished its doorway first")))

-- the deed of a process that breaks another law
abbrev pub deed_of : List ℕ → List ℕ
deed_of law =
    if bytes_eq law (codes "safe") then codes " reads a value that a safe bit may not give" else
    if bytes_eq law (codes "memory") then codes " reads a value that its memory may not give" else
    if bytes_eq law (codes "access") then codes " makes an access that the rules refuse" else
    if bytes_eq law (codes "marks") then codes " has a mark that the rules refuse" else
    if bytes_eq law (codes "history") then codes " takes its command at a wrong position or with a wrong reply" else
    codes " breaks the law " ++ law

-- that process p breaks a law
abbrev pub process_words : ℕ → List ℕ
process_words p = codes "process " ++ decimal p

abbrev pub broken_by : List ℕ → ℕ → List ℕ
broken_by law p = process_words p ++ deed_of law

-- that process p breaks a law, where the lines may name process q
abbrev pub law_broken : List ℕ → ℕ → Option ℕ → List ℕ
law_broken law p (Some q) =
    if bytes_eq law (codes "together") then entered_beside p q else
    if bytes_eq law (codes "overtaken") then entered_before p q else
    broken_by law p
law_broken law p None = broken_by law p

-- the sentence after `bad K LAW`, if a line names the process of the bad entry
abbrev pub bad_sentence : List ℕ → Option (List ℕ) → Option ℕ → List ℕ
bad_sentence bad (Some is) q = law_broken (behind_space bad) (process_of is) q
bad_sentence bad None q = []

-- the sentence of a good verdict; without a verdict there is no byte
abbrev pub good_sentence : Bool → List ℕ
good_sentence true = codes "each entry keeps all laws"
good_sentence false = []

-- the sentence of a report
abbrev pub sentence_by : Option (List ℕ) → List (List ℕ) → List ℕ
sentence_by (Some bad) lines = bad_sentence bad (text_behind (codes "is ") lines) (other_process lines)
sentence_by None lines = good_sentence (is_some (text_behind (codes "good ") lines))

abbrev pub sentence_of : List (List ℕ) → List ℕ
sentence_of lines = sentence_by (text_behind (codes "bad ") lines) lines
