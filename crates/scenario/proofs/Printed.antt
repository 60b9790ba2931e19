-- The text that `write!` puts together is the printed text.
use Rattle.std.proofs.Common.{◌≡◌, ℕ, ◌+◌, ◌<◌, List, [], ◌∷◌, ◌++◌, Some, length, drop, get_or, slice_get, flat_map, map, codes, refl, ap, sym, ◌∙◌, append_assoc}
use Rattle.std.specs.Fmt.{decimal}
use Rattle.plain_store.proofs.OpeningPairs.{drop-next}
use Rattle.plain_store.specs.{Command, Pair, Setup, Value, command_text, value_text}
use Rattle.plain_store.specs.declared.commands.Command.TheVariants as command
use Rattle.scenario.specs.{Line, command_words, kind_words, line_words, open_words, printed_line, spaced}
use Rattle.scenario.specs.declared.lines.Line.TheVariants as line
use Rattle.scenario.proofs.Places.{drop_in}

-- a command's text is its words
command_is : (c : Command) → command_text c ≡ spaced (command_words c)
command_is (command.Read name) = refl
command_is (command.Write name value) = simp append_assoc
command_is (command.Add name by) = simp append_assoc
command_is (command.Cas name expected value) = simp append_assoc
command_is command.Ask = refl

pub call_is : (p : ℕ) (c : Command) → codes "call " ++ (decimal p ++ (codes " " ++ command_text c)) ≡ spaced (line_words (line.Call p c))
call_is p c = by c (command_is c)
  where
    by : (c : Command) → command_text c ≡ spaced (command_words c) → codes "call " ++ (decimal p ++ (codes " " ++ command_text c)) ≡ spaced (line_words (line.Call p c))
    by (command.Read name) is = ap (λ t. codes "call " ++ (decimal p ++ (codes " " ++ t))) is
    by (command.Write name value) is = ap (λ t. codes "call " ++ (decimal p ++ (codes " " ++ t))) is
    by (command.Add name d) is = ap (λ t. codes "call " ++ (decimal p ++ (codes " " ++ t))) is
    by (command.Cas name expected value) is = ap (λ t. codes "call " ++ (decimal p ++ (codes " " ++ t))) is
    by command.Ask is = ap (λ t. codes "call " ++ (decimal p ++ (codes " " ++ t))) is

-- an opening pair's line
pub open_line_is : (name : List ℕ) (value : Value) → codes "open " ++ (name ++ (codes " " ++ (value_text value ++ codes "\n"))) ≡ printed_line (open_words (name, value))
open_line_is name value = simp append_assoc

-- a line of two words, and the text after it
two_words : (key digits rest : List ℕ) → printed_line (key ∷ digits ∷ []) ++ rest ≡ key ++ (codes " " ++ (digits ++ (codes "\n" ++ rest)))
two_words key digits rest = simp append_assoc

-- the first five lines
pub setup_lines_are : (kind : List ℕ) (s : Setup) → kind ++ (codes " " ++ (decimal s.version ++ (codes "\nprocesses " ++ (decimal s.processes ++ (codes "\ntickets " ++ (decimal s.ticket_bits ++ (codes "\nstamps " ++ (decimal s.stamp_bits ++ (codes "\nslots " ++ (decimal s.slots ++ codes "\n")))))))))) ≡ flat_map printed_line (kind_words kind s)
setup_lines_are kind s = sym (
    two_words kind (decimal s.version) _
    ∙ ap (λ t. kind ++ (codes " " ++ (decimal s.version ++ (codes "\n" ++ t)))) (two_words (codes "processes") (decimal s.processes) _
    ∙ ap (λ t. codes "processes " ++ (decimal s.processes ++ (codes "\n" ++ t))) (two_words (codes "tickets") (decimal s.ticket_bits) _
    ∙ ap (λ t. codes "tickets " ++ (decimal s.ticket_bits ++ (codes "\n" ++ t))) (two_words (codes "stamps") (decimal s.stamp_bits) _
    ∙ ap (λ t. codes "stamps " ++ (decimal s.stamp_bits ++ (codes "\n" ++ t))) (two_words (codes "slots") (decimal s.slots) [])))))

-- a text and the pairs from a position on, one pair later
pub opening_more : (reported : List ℕ) (pairs : List Pair) (k : ℕ) (p : Pair) → slice_get pairs k ≡ Some p → (reported ++ printed_line (open_words p)) ++ flat_map printed_line (map open_words (drop (k + 1) pairs)) ≡ reported ++ flat_map printed_line (map open_words (drop k pairs))
opening_more reported pairs k p at = append_assoc reported _ _ ∙ ap (λ ps. reported ++ flat_map printed_line (map open_words ps)) (sym (drop-next pairs k p at))

-- a text and the lines from a position on, one line later
pub lines_more : (reported : List ℕ) (lines : List Line) (k : ℕ) (here : Line) → k < length lines → here ≡ get_or lines k here → (reported ++ printed_line (line_words here)) ++ flat_map printed_line (map line_words (drop (k + 1) lines)) ≡ reported ++ flat_map printed_line (map line_words (drop k lines))
lines_more reported lines k here within is =
    append_assoc reported _ _ ∙ ap (λ ls. reported ++ flat_map printed_line (map line_words ls)) (sym (drop_in lines k here within is))
