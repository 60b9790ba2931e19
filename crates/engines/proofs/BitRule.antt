-- The text that is printed from the bit is the text by the safe rule.
use Rattle.std.proofs.Common.{◌≡◌, Bool, true, false, not, if◌then◌else◌, List, [], ◌∷◌, ◌++◌, codes, refl, ap, sym, ◌∙◌, arith}
use Rattle.std.proofs.lemmas.Bool.Decides.{nat_tests}
use Rattle.safe_bit.specs.Cell.{Cell, new_cell}
use Rattle.safe_bit.specs.{Shows}
use Rattle.safe_bit.specs.declared.moves.Move.TheVariants as move
use Rattle.safe_bit.proofs.Showing.{shows_none, shows_more, shows_dropped, answer-shows}
use Rattle.scenario.specs.{BitLine}
use Rattle.scenario.specs.declared.bit_files.BitLine.TheVariants.{Write, End, Settle, Read, Value, Drop}
use Rattle.engines.specs.{can_take, made, made_text, cell_text_from}
use Rattle.engines.specs.Bits.{BitRun, run_at_start, is_in_turn, answer_of, called, call_text, run_after, line_text, bits_text_from, bits_printed}

-- the bit is in the state after its moves
record Agree (run : BitRun) (bit : Cell) : Type 0 where
  shows : Shows false run.moves bit
  reading : bit.reading ≡ run.reading

turn_agrees : (run : BitRun) (bit : Cell) (line : BitLine) → Agree run bit → can_take bit line ≡ is_in_turn run line
turn_agrees run bit (Write v) is = ap not is.shows.writing
turn_agrees run bit End is = is.shows.writing
turn_agrees run bit (Settle v) is = is.shows.writing
turn_agrees run bit Read is = ap not is.reading
turn_agrees run bit (Value flick) is = is.reading
turn_agrees run bit Drop is = is.reading

made_agrees : (run : BitRun) (bit : Cell) (line : BitLine) → Agree run bit → can_take bit line ≡ true → Agree (called run line) (made bit line)
made_agrees run bit (Write v) is turn = record { shows = shows_more false run.moves bit (move.BeginWrite v) is.shows (grind (arith, nat_tests)); reading = is.reading }
made_agrees run bit End is turn = record { shows = shows_more false run.moves bit move.EndWrite is.shows turn; reading = is.reading }
made_agrees run bit (Settle v) is turn = record { shows = shows_more false run.moves bit (move.Settle v) is.shows turn; reading = is.reading }
made_agrees run bit Read is turn = record { shows = shows_more false run.moves bit move.BeginRead is.shows tt; reading = refl }
made_agrees run bit (Value flick) is turn = record { shows = shows_more false run.moves bit (move.EndRead (answer_of run flick)) is.shows tt; reading = refl }
made_agrees run bit Drop is turn = record { shows = shows_dropped false run.moves bit is.shows; reading = refl }

text_agrees : (run : BitRun) (bit : Cell) (line : BitLine) → Agree run bit → made_text bit line ≡ call_text run line
text_agrees run bit (Value flick) is = ap (λ b. if b then codes "1\n" else codes "0\n") (answer-shows false run.moves bit flick is.shows)
text_agrees run bit line is = refl

texts_agree : (run : BitRun) (bit : Cell) (lines : List BitLine) → Agree run bit → cell_text_from bit lines ≡ bits_text_from run lines
texts_agree run bit [] is = refl
texts_agree run bit (line ∷ lines) is = by (can_take bit line) refl (λ turn. texts_agree (called run line) (made bit line) lines (made_agrees run bit line is turn)) (texts_agree run bit lines is)
  where
    by : (b : Bool) → can_take bit line ≡ b → (can_take bit line ≡ true → cell_text_from (made bit line) lines ≡ bits_text_from (called run line) lines) → cell_text_from bit lines ≡ bits_text_from run lines
        → (if b then made_text bit line else codes "refused\n") ++ cell_text_from (if b then made bit line else bit) lines ≡ line_text run line ++ bits_text_from (run_after run line) lines
    by true turn more others =
        ap (λ t. t ++ cell_text_from (made bit line) lines) (text_agrees run bit line is)
        ∙ ap (λ t. call_text run line ++ t) (more turn)
        ∙ ap (λ b. (if b then call_text run line else codes "refused\n") ++ bits_text_from (if b then called run line else run) lines) (sym turn ∙ turn_agrees run bit line is)
    by false turn more others =
        ap (λ t. codes "refused\n" ++ t) others
        ∙ ap (λ b. (if b then call_text run line else codes "refused\n") ++ bits_text_from (if b then called run line else run) lines) (sym turn ∙ turn_agrees run bit line is)

-- The text of the lines of a file is the text by the safe rule.
pub printed_by_rule : (lines : List BitLine) → cell_text_from (new_cell false) lines ≡ bits_printed lines
printed_by_rule lines = texts_agree run_at_start (new_cell false) lines (record { shows = shows_none false; reading = refl })
