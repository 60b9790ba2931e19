-- The words of the grammar.
use Rattle.std.specs.Prelude.{ℕ, List, [], ◌∷◌, codes, Option}
use Rattle.std.specs.Map.{lookup}
use Rattle.std.specs.Str.{bytes_eq}
use Rattle.scenario.specs.declared.keywords.Heading.TheVariants.{Processes, Tickets, Stamps, Slots}
use Rattle.scenario.specs.declared.keywords.LineWord.TheVariants as word
use Rattle.scenario.specs.declared.keywords.Opener.{Opener}
use Rattle.scenario.specs.declared.keywords.Opener.TheVariants.{Bakery, Heading, Open, Line}
use Rattle.scenario.specs.declared.keywords.Verb.{Verb}
use Rattle.scenario.specs.declared.keywords.Verb.TheVariants as verb
use Rattle.scenario.specs.declared.lines.Target.{Target}
use Rattle.scenario.specs.declared.lines.Target.TheVariants as target

-- the first words of lines, and their meanings
abbrev pub openers : List (List ℕ × Opener)
openers =
    (codes "bakery", Bakery)
    ∷ (codes "processes", Heading Processes)
    ∷ (codes "tickets", Heading Tickets)
    ∷ (codes "stamps", Heading Stamps)
    ∷ (codes "slots", Heading Slots)
    ∷ (codes "open", Open)
    ∷ (codes "call", Line word.Call)
    ∷ (codes "step", Line word.Step)
    ∷ (codes "go", Line word.Go)
    ∷ (codes "fail", Line word.Fail)
    ∷ (codes "withdraw", Line word.Withdraw)
    ∷ (codes "restart", Line word.Restart)
    ∷ (codes "flick", Line word.Flick)
    ∷ (codes "wander", Line word.Wander)
    ∷ (codes "show", Line word.Show)
    ∷ []

abbrev pub opener_of : List ℕ → Option Opener
opener_of name = lookup (bytes_eq name) openers

-- the third words of `call`, and their meanings
abbrev pub verbs : List (List ℕ × Verb)
verbs =
    (codes "read", verb.Read)
    ∷ (codes "write", verb.Write)
    ∷ (codes "add", verb.Add)
    ∷ (codes "cas", verb.Cas)
    ∷ (codes "ask", verb.Ask)
    ∷ []

abbrev pub verb_of : List ℕ → Option Verb
verb_of word = lookup (bytes_eq word) verbs

-- the third words of `go`, and their meanings
abbrev pub targets : List (List ℕ × Target)
targets =
    (codes "wait", target.Wait)
    ∷ (codes "inside", target.Inside)
    ∷ (codes "idle", target.Idle)
    ∷ (codes "down", target.Down)
    ∷ []

abbrev pub target_of : List ℕ → Option Target
target_of word = lookup (bytes_eq word) targets
