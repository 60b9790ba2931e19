use Rattle.std.proofs.Common.{◌≡◌, ◌++◌, ◌∙◌, ℕ, List, true, false, [], length, take, ap, sym, cond, flat_map, append-nil, append_assoc}
use Rattle.std.specs.Prelude.{codes}
use Rattle.std.specs.List.{range_with_len}
use Rattle.run_state.specs.{copies_line, is_among, reader_if, text_at, texts_in}
use Rattle.run_state.proofs.CopyTexts.{first_texts, text_here}
use Rattle.run_state.proofs.ObservedWorlds.{ok_then}
use Rattle.run_state.proofs.register_lines.push_if_first.Goals as goal

pub returns-then-is_among : goal.returns-then-is_among
returns-then-is_among c =
    let texts = c.args.texts.now in
    let reader = c.args.reader in
    let start = c.args.text.now.items in
    let here : c.as_slice-copy.result.now ≡ text_at (texts_in texts) reader = c.as_slice-copy.ensures.value ∙ text_here texts reader c.index-texts-reader.result c.requires c.index-texts-reader.is in
    let among : is_among (text_at (texts_in texts) reader) (take reader (texts_in texts)) ≡ true =
    (λ i. is_among (sym here i) (sym (first_texts texts reader) i)) ∙ sym c.is_among.ensures ∙ c.if-is_among.true in
    sym (append-nil start) ∙ ap (λ b. start ++ cond b [] (copies_line c.args.name.now (texts_in texts) (text_at (texts_in texts) reader))) (sym among)

pub returns : goal.returns
returns c = ok_then c.push_copy.result
    (λ wrote.
    let all = texts_in c.args.texts.now in
    let reader = c.args.reader in
    let start = c.args.text.now.items in
    let name = c.args.name.now in
    let text : List ℕ = text_at all reader in
    let readers : List ℕ = flat_map (reader_if all text) (range_with_len 0 (length all)) in
    let here : c.as_slice-copy.result.now ≡ text = c.as_slice-copy.ensures.value ∙ text_here c.args.texts.now reader c.index-texts-reader.result c.requires c.index-texts-reader.is in
    let among : is_among text (take reader all) ≡ false = (λ i. is_among (sym here i) (sym (first_texts c.args.texts.now reader) i)) ∙ sym c.is_among.ensures ∙ c.if-is_among.false in
    let one = c.in_ok-extend_from_slice.ensures.items ∙ ap (λ l. start ++ l) c.as_bytes.ensures.value in
    let two = c.in_ok-extend_from_slice-2.ensures.items ∙ ap (λ l. l ++ codes " readers") one in
    let three = c.in_ok-push_readers.ensures ∙ (λ i. two i ++ flat_map (reader_if all (here i)) (range_with_len 0 (length all))) in
    wrote ∙ (λ i. three i ++ (codes " " ++ (here i ++ codes "\n")))
    ∙ append_assoc ((start ++ name) ++ codes " readers") readers (codes " " ++ (text ++ codes "\n"))
    ∙ append_assoc (start ++ name) (codes " readers") (readers ++ (codes " " ++ (text ++ codes "\n")))
    ∙ append_assoc start name (codes " readers" ++ (readers ++ (codes " " ++ (text ++ codes "\n"))))
    ∙ ap (λ b. start ++ cond b [] (copies_line name all text)) (sym among))
    c.push_copy.ensures
