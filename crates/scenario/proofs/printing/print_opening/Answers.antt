use Rattle.std.proofs.Common.{◌≡◌, ◌++◌, ◌+◌, ap, ◌∙◌, sym, drop, flat_map, map, rules}
use Rattle.std.specs.String.{string_bytes}
use Rattle.scenario.specs.{open_words, printed_line}
use Rattle.scenario.proofs.Printed.{opening_more}
use Rattle.scenario.proofs.printing.print_opening.Goals as goal

-- one more pair
pub loop-place-preserved : goal.loop-place-preserved
loop-place-preserved c =
    let reported : string_bytes c.push_str.new.self ≡ string_bytes c.loop-place.text ++ printed_line (open_words c.unwrap-name.result) = search rules in
    ap (λ bytes. bytes ++ flat_map printed_line (map open_words (drop (c.loop-place.place + 1) c.args.opening.now))) reported
    ∙ opening_more _ c.args.opening.now c.loop-place.place c.unwrap-name.result (sym c.entry.ensures ∙ c.unwrap-name.ensures) ∙ c.loop-place.invariant
