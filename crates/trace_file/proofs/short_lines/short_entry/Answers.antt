use Rattle.std.proofs.Common.{◌≡◌, ℕ, ◌-◌, true, List, length, slice_index_or, take, drop, sym, arith}
use Rattle.std.specs.Char.{is_ascii_digit}
use Rattle.files.specs.{words_of}
use Rattle.trace_file.proofs.ShortWays.{first_word, short_is}
use Rattle.trace_file.proofs.short_lines.short_entry.Goals as goal

pub returns : goal.returns
returns c =
    let line : List ℕ = c.args.line.now in
    let digit : is_ascii_digit (slice_index_or c.args.line.now 0 0) ≡ true = sym c.if-not-is_ascii_digit.ensures.value in
    short_is c.args.registers.now (words_of line) (slice_index_or line 0 0) (take (length line - 2) (drop 2 line)) c.in_ok-place.place.now c.in_ok-place.text.now c.in-Ok.cell c.in_ok-how.how
    (first_word line c.in-32.len_at_least digit (omega arith)) digit c.in_ok-place.ensures.value (sym c.if-is_sign.ensures) (sym c.in-Ok.ensures) c.in_ok-how.ensures
