use Rattle.std.proofs.Common.{ℕ, List, ◌++◌, ap, ◌∙◌}
use Rattle.std.specs.String.{string_bytes}
use Rattle.plain_store.specs.{show_text}
use Rattle.model.specs.{lists_of}
use Rattle.race.specs.{answers_from, refused_lines, verdict_line}
use Rattle.race.proofs.Parts.{pushed}
use Rattle.race.proofs.texts.race_text.Goals as goal

pub returns : goal.returns
returns c =
    let setup = c.args.scenario.now.setup in
    let answers : List ℕ = answers_from 0 (lists_of c.args.lists.now) in
    let store : List ℕ = show_text c.args.image.now.pairs in
    let verdict : List ℕ = verdict_line c.args.verdict.now in
    let first = c.in_ok-text.ensures ∙ ap (refused_lines setup) c.as_slice.ensures.value in
    let second = pushed c.answer_lines.result (string_bytes c.in_ok-text.text) (string_bytes c.push_text.new.text) answers c.in_ok-push_text.ensures c.answer_lines.ensures in
    let third = pushed c.show_line.result (string_bytes c.push_text.new.text) (string_bytes c.push_text-2.new.text) store c.in_ok-push_text-2.ensures c.show_line.ensures in
    let fourth = pushed c.verdict_line.result (string_bytes c.push_text-2.new.text) (string_bytes c.push_text-3.new.text) verdict c.in_ok-push_text-3.ensures c.verdict_line.ensures in
    fourth ∙ ap (λ t. t ++ verdict) (third ∙ ap (λ t. t ++ store) (second ∙ ap (λ t. t ++ answers) first))
