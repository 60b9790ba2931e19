use Rattle.std.proofs.Common.{◌≡◌, ◌<◌, ◌++◌, ◌+◌, ℕ, List, append-nil, ap, ◌∙◌, drop, rules, arith, length, sym}
use Rattle.std.proofs.lemmas.List.{drop_all, length-replicate}
use Rattle.std.specs.String.{string_bytes}
use Rattle.scenario.specs.{Line}
use Rattle.engines.specs.Plain.{text_from, line_text, run_after, Run}
use Rattle.engines.proofs.Lists.{text_more, counts_kept, place_next}
use Rattle.engines.proofs.plain.push_lines.Goals as goal

-- no line yet
pub loop-line-init : goal.loop-line-init
loop-line-init c =
    let setup = c.args.scenario.now.setup in
    let lines = c.args.scenario.now.lines.items in
    record {
      reported = ap (λ (r : Run). string_bytes c.args.text.now ++ text_from setup r lines) c.requires;
      known = ap (λ (r : Run). length r.counts) c.requires ∙ length-replicate {A = ℕ} setup.processes 0;
      few = omega (arith, ap (λ (r : Run). r.place) c.requires);
    }

pub line-requires-clause-bounded : goal.line-requires-clause-bounded
line-requires-clause-bounded c =
    let within : c.loop-line.line-index < length c.args.scenario.now.lines.items = omega arith in
    omega (arith, within, c.args.scenario.now.few, c.loop-line.invariant.few)

-- one more line
pub loop-line-preserved : goal.loop-line-preserved
loop-line-preserved c =
    let setup = c.args.scenario.now.setup in
    let lines = c.args.scenario.now.lines.items in
    let reported : string_bytes c.push_str.new.self ≡ string_bytes c.loop-line.text ++ line_text c.args.scenario.now.setup c.loop-line.run c.line-item.result = search rules in
    let run : c.line.new.self ≡ run_after c.args.scenario.now.setup c.loop-line.run c.line-item.result = search rules in
    record {
      reported = ap (λ bytes. bytes ++ text_from setup c.line.new.self (drop (c.loop-line.line-index + 1) lines)) reported
          ∙ ap (λ (r : Run). (string_bytes c.loop-line.text ++ line_text setup c.loop-line.run c.line-item.result) ++ text_from setup r (drop (c.loop-line.line-index + 1) lines)) run
          ∙ text_more _ setup c.loop-line.run lines c.loop-line.line-index c.line-item.result (omega arith) (rw c.deref-line-items.ensures.value at c.line-item.is) ∙ c.loop-line.invariant.reported;
      known = ap (λ (r : Run). length r.counts) run ∙ counts_kept setup c.loop-line.run c.line-item.result ∙ c.loop-line.invariant.known;
      few = omega (arith, ap (λ (r : Run). r.place) run, place_next setup c.loop-line.run c.line-item.result, c.loop-line.invariant.few);
    }

-- no line remains
pub returns : goal.returns
returns c =
    let setup = c.args.scenario.now.setup in
    let lines = c.args.scenario.now.lines.items in
    let text = string_bytes c.loop-line.text in
    sym (append-nil text) ∙ ap (λ (rest : List Line). text ++ text_from setup c.loop-line.run rest) (sym (drop_all c.loop-line.line-index lines (omega arith))) ∙ c.loop-line.invariant.reported
