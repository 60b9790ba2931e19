use Rattle.std.proofs.Common.{◌≡◌, ◌++◌, ◌∙◌, true, false, [], ap, sym, cond, append-nil, map}
use Rattle.std.specs.List.{list_any}
use Rattle.model.specs.{processes, width}
use Rattle.run_state.specs.{are_other, bits_read, bits_text, copies_lines, copy_text, is_copy_changed, register_words, texts_in}
use Rattle.run_state.proofs.CopyBits.{changed-held, texts-held}
use Rattle.run_state.proofs.ObservedWorlds.{ok_then}
use Rattle.run_state.proofs.register_lines.push_register.Goals as goal

pub returns-then-not-are_changed : goal.returns-then-not-are_changed
returns-then-not-are_changed c = λ past u.
    let s = c.args.setup.now in
    let register = c.args.register in
    let start = c.args.text.now.items in
    let copies = c.as_slice.ensures.value ∙ c.in_ok-copies.ensures.copies past u in
    let changed : list_any (is_copy_changed s past register.owner register.field) (processes s) ≡ false =
    sym (c.are_changed.ensures ∙ (λ i. list_any (are_other (c.in_ok-opening.ensures i)) (copies i)) ∙ changed-held s past register c.requires.good) ∙ c.if-not-are_changed.true in
    sym (append-nil start) ∙ ap (λ b. start ++ cond b (copies_lines (register_words register.owner register.field) (map (copy_text s past register.owner register.field) (processes s))) []) (sym changed)

pub returns : goal.returns
returns c = ok_then c.push_copies.result
    (λ wrote past u.
    let s = c.args.setup.now in
    let register = c.args.register in
    let start = c.args.text.now.items in
    let copies = c.as_slice.ensures.value ∙ c.in_ok-copies.ensures.copies past u in
    let changed : list_any (is_copy_changed s past register.owner register.field) (processes s) ≡ true =
    sym (c.are_changed.ensures ∙ (λ i. list_any (are_other (c.in_ok-opening.ensures i)) (copies i)) ∙ changed-held s past register c.requires.good) ∙ c.if-not-are_changed.false in
    let texts : texts_in c.as_slice-3.result.now ≡ map (copy_text s past register.owner register.field) (processes s) =
    ap texts_in c.as_slice-3.ensures.value ∙ c.in_ok-texts.ensures
    ∙ ap (map (λ copy. bits_text s register.field (bits_read (width s register.field) copy))) (c.as_slice-2.ensures.value ∙ c.in_ok-copies.ensures.copies past u) ∙ texts-held s past register c.requires.good in
    wrote ∙ (λ i. start ++ copies_lines ((c.deref.ensures ∙ c.in_ok-name.ensures) i) (texts i))
    ∙ ap (λ b. start ++ cond b (copies_lines (register_words register.owner register.field) (map (copy_text s past register.owner register.field) (processes s))) []) (sym changed))
    c.push_copies.ensures
