use Rattle.std.proofs.Common.{◌≡◌, ◌++◌, ◌∙◌, ℕ, List, true, false, length, ap, sym, cond, flat_map, append_assoc, arith}
use Rattle.std.proofs.lemmas.List.{length-map}
use Rattle.std.specs.Global.{Vec}
use Rattle.std.specs.Prelude.{codes}
use Rattle.std.specs.List.{range_with_len}
use Rattle.run_state.specs.{are_all, line_of_first, text_at, texts_in}
use Rattle.run_state.proofs.CopyTexts.{text_here}
use Rattle.run_state.proofs.Ranges.{text_more}
use Rattle.run_state.proofs.ObservedWorlds.{ok_then}
use Rattle.run_state.proofs.register_lines.push_copies.Goals as goal

pub loop-reader-preserved : goal.loop-reader-preserved
loop-reader-preserved c =
    text_more (line_of_first c.args.name.now (texts_in c.args.texts.now)) c.loop-reader.reader c.args.text.now.items c.loop-reader.text.items c.push_if_first.new.text.items c.loop-reader.invariant c.in_ok-push_if_first.ensures

pub returns-then-are_all : goal.returns-then-are_all
returns-then-are_all c = ok_then c.push_copy.result
    (λ wrote.
    let texts = texts_in c.args.texts.now in
    let start = c.args.text.now.items in
    let name = c.args.name.now in
    let here : c.as_slice-first.result.now ≡ text_at texts 0 = c.as_slice-first.ensures.value ∙ text_here c.args.texts.now 0 c.index-texts-0.result c.requires c.index-texts-0.is in
    let all : are_all (text_at texts 0) texts ≡ true = ap (λ (t : List ℕ). are_all t texts) (sym here) ∙ sym c.are_all.ensures ∙ c.if-are_all.true in
    let one = c.in_ok-extend_from_slice.ensures.items ∙ ap (λ l. start ++ l) c.as_bytes.ensures.value in
    wrote ∙ (λ i. one i ++ (codes " " ++ (here i ++ codes "\n"))) ∙ append_assoc start name (codes " " ++ (text_at texts 0 ++ codes "\n"))
    ∙ ap (λ b. start ++ cond b (name ++ (codes " " ++ (text_at texts 0 ++ codes "\n"))) (flat_map (line_of_first name texts) (range_with_len 0 (length texts)))) (sym all))
    c.push_copy.ensures

pub returns : goal.returns
returns c =
    let texts = texts_in c.args.texts.now in
    let start = c.args.text.now.items in
    let name = c.args.name.now in
    let here : c.as_slice-first.result.now ≡ text_at texts 0 = c.as_slice-first.ensures.value ∙ text_here c.args.texts.now 0 c.index-texts-0.result c.requires c.index-texts-0.is in
    let all : are_all (text_at texts 0) texts ≡ false = ap (λ (t : List ℕ). are_all t texts) (sym here) ∙ sym c.are_all.ensures ∙ c.if-are_all.false in
    let last : c.loop-reader.reader ≡ length texts = omega (arith, c.loop-reader-test.false, c.loop-reader.auto.reader-end, length-map {B = List ℕ} c.args.texts.now (λ (t : Vec ℕ). t.items)) in
    c.loop-reader.invariant ∙ ap (λ n. start ++ flat_map (line_of_first name texts) (range_with_len 0 n)) last
    ∙ ap (λ b. start ++ cond b (name ++ (codes " " ++ (text_at texts 0 ++ codes "\n"))) (flat_map (line_of_first name texts) (range_with_len 0 (length texts)))) (sym all)
