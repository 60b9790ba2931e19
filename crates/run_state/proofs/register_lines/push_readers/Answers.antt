use Rattle.std.proofs.Common.{◌≡◌, ◌++◌, ◌∙◌, List, ℕ, [], ap, cond}
use Rattle.std.specs.Str.{bytes_eq}
use Rattle.run_state.specs.{number_word, reader_if, text_at, texts_in}
use Rattle.run_state.proofs.CopyTexts.{text_here}
use Rattle.run_state.proofs.Ranges.{text_more}
use Rattle.run_state.proofs.register_lines.push_readers.Goals as goal

pub loop-reader-preserved : goal.loop-reader-preserved
loop-reader-preserved c =
    let texts = c.args.texts.now in
    let k = c.loop-reader.reader in
    let here : c.index-texts-reader.result.items ≡ text_at (texts_in texts) k = text_here texts k c.index-texts-reader.result c.loop-reader-test.true c.index-texts-reader.is in
    text_more (reader_if (texts_in texts) c.args.copy.now) k c.args.text.now.items c.loop-reader.text.items c.push_reader_if.new.text.items c.loop-reader.invariant
    (c.in_ok-push_reader_if.ensures ∙ ap (λ b. c.loop-reader.text.items ++ cond b (number_word k) []) (c.is_same-has.ensures ∙ ap (λ (t : List ℕ). bytes_eq t c.args.copy.now) here))
