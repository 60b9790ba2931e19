-- A verdict as a picture shows it: the bad entry, a sentence, and lines, of which some name a stage or an access.
use Rattle.std.specs.Prelude.{ℕ, List, [], ◌∷◌, ◌++◌, codes, map, Option, None, Some, option_and_then, option_map}
use Rattle.std.specs.Option.{option_or}
use Rattle.shown_verdict.specs.Lines.{behind, behind_space, judged_text, number_of, process_of, text_behind}
use Rattle.shown_verdict.specs.Sentences.{sentence_of}
use Rattle.shown_verdict.specs.declared.verdicts.FirstBadEntry.{FirstBadEntry}
use Rattle.shown_verdict.specs.declared.verdicts.Pointer.{Pointer}
use Rattle.shown_verdict.specs.declared.verdicts.PointerKind.{PointerKind}
use Rattle.shown_verdict.specs.declared.verdicts.PointerKind.TheVariants.{Waits, Inside, Doorway, Open, Torn}
use Rattle.shown_verdict.specs.declared.verdicts.ShownVerdict.{ShownVerdict}
use Rattle.shown_verdict.specs.declared.verdicts.VerdictLine.{VerdictLine}

-- a line, with lists for what its fields hold
pub record SeenLine : Type 0 where
  pub title : List ℕ
  pub words : List ℕ
  pub points : Option Pointer

abbrev pub seen_line : VerdictLine → SeenLine
seen_line line = record { title = line.title.items; words = line.words.items; points = line.points }

-- a verdict, with lists for what its fields hold
pub record SeenVerdict : Type 0 where
  pub source : ℕ
  pub bad : Option FirstBadEntry
  pub sentence : List ℕ
  pub lines : List SeenLine

abbrev pub seen_verdict : ShownVerdict → SeenVerdict
seen_verdict v = record {
  source = v.source;
  bad = v.bad;
  sentence = v.sentence.items;
  lines = map seen_line v.lines.items;
}

-- the titles of its lines
abbrev pub title_of : SeenLine → List ℕ
title_of line = line.title

abbrev pub verdict_titles : SeenVerdict → List (List ℕ)
verdict_titles v = map title_of v.lines

-- the words beside what is named, before the number of the entry
abbrev pub naming : PointerKind → List ℕ
naming Waits = codes "waits since "
naming Inside = codes "inside since "
naming Doorway = codes "doorway counts from "
naming Open = codes "open since "
naming Torn = codes "torn since "

-- the entry that breaks a law: the lines `bad K LAW` and `is P ..` name it and its process
abbrev pub bad_by : Option (List ℕ) → Option (List ℕ) → Option FirstBadEntry
bad_by (Some bad) (Some is) = Some (record { entry = number_of bad; process = process_of is })
bad_by _ _ = None

abbrev pub bad_entry : List (List ℕ) → Option FirstBadEntry
bad_entry lines = bad_by (text_behind (codes "bad ") lines) (text_behind (codes "is ") lines)

-- the pointer of a line `WORD Q K`: to process Q since entry K
abbrev pub other_pointer : PointerKind → List ℕ → List ℕ → Option Pointer
other_pointer kind word line = option_map
    (λ (rest : List ℕ). record { kind = kind; process = process_of rest; since = number_of (behind_space rest) })
    (behind word line)

-- the pointer of a line `WORD K`: to the process of the bad entry since entry K
abbrev pub own_pointer : PointerKind → List ℕ → Option FirstBadEntry → List ℕ → Option Pointer
own_pointer kind word bad line = option_and_then
    (λ (b : FirstBadEntry). option_map
    (λ (rest : List ℕ). record { kind = kind; process = b.process; since = number_of rest })
    (behind word line))
    bad

-- the pointer of a line, if it has one
abbrev pub pointer_of : Option FirstBadEntry → List ℕ → Option Pointer
pointer_of bad line =
    option_or (other_pointer Waits (codes "waits ") line)
    (option_or (other_pointer Inside (codes "inside ") line)
    (option_or (own_pointer Doorway (codes "doorway ") bad line)
    (option_or (own_pointer Open (codes "open ") bad line)
    (own_pointer Torn (codes "torn ") bad line))))

-- a line of the judge, and the last line of the picture
abbrev pub judged_line : Option FirstBadEntry → List ℕ → SeenLine
judged_line bad line = record { title = judged_text line; words = line; points = pointer_of bad line }

abbrev pub last_line : List ℕ → SeenLine
last_line last = record { title = last; words = last; points = None }

-- the lines of a verdict
abbrev pub verdict_lines : Option FirstBadEntry → List (List ℕ) → List ℕ → List SeenLine
verdict_lines bad lines last = map (judged_line bad) lines ++ last_line last ∷ []

-- the verdict of these lines of a report, and of the last line of the picture
abbrev pub verdict_of : ℕ → List (List ℕ) → List ℕ → SeenVerdict
verdict_of source lines last = record {
  source = source;
  bad = bad_entry lines;
  sentence = sentence_of lines;
  lines = verdict_lines (bad_entry lines) lines last;
}
