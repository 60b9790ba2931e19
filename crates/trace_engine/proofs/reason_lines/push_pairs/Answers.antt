use Rattle.std.proofs.Common.{◌≡◌, ◌+◌, ℕ, List, Option, None, ◌∷◌, ◌++◌, drop, drop-cons, get_or, ap, sym, ◌∙◌, append_assoc, append-nil, add-one, arith}
use Rattle.std.proofs.lemmas.List.{drop_all}
use Rattle.trace_engine.specs.{pair_if, pair_lines}
use Rattle.trace_engine.proofs.reason_lines.push_pairs.Goals as goal

pub entries-preserved : goal.entries-preserved
entries-preserved c =
    let word = c.args.word.now in
    let pairs = c.args.entries.now in
    let index = c.entries.entry-index in
    let entry = get_or pairs index None in
    let rest : List (Option ℕ) = drop (index + 1) pairs in
    let more : drop index pairs ≡ entry ∷ rest = drop-cons pairs index None c.entries-test.true ∙ ap (λ k. entry ∷ drop k pairs) (sym (add-one index)) in
    let at : c.entries.process ≡ index = c.entries.invariant.at in
    record {
      text = ap (λ (t : List ℕ). t ++ pair_lines word (c.entries.process + 1) rest) c.in_ok-push_pair_if.ensures
          ∙ append_assoc c.entries.text.items (pair_if word c.entries.process entry) (pair_lines word (c.entries.process + 1) rest)
          ∙ sym (ap (λ (l : List (Option ℕ)). c.entries.text.items ++ pair_lines word c.entries.process l) more) ∙ c.entries.invariant.text;
      at = omega (arith, at);
    }

pub returns : goal.returns
returns c =
    let none = drop_all c.entries.entry-index c.args.entries.now c.entries-test.false in
    sym (append-nil c.entries.text.items) ∙ sym (ap (λ (l : List (Option ℕ)). c.entries.text.items ++ pair_lines c.args.word.now c.entries.process l) none) ∙ c.entries.invariant.text
