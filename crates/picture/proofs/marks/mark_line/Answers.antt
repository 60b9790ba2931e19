use Rattle.std.proofs.Common.{List, None, Some, true, false, [], ◌∷◌, ◌++◌, ◌∙◌, ap, refl, sym}
use Rattle.std.specs.Fmt.{decimal}
use Rattle.std.specs.Option.{option_copied}
use Rattle.markup.specs.{Attribute, said_text}
use Rattle.markup.specs.declared.names.Key.TheVariants as key
use Rattle.picture_layout.specs.{change_reported}
use Rattle.picture.specs.{mark_said}
use Rattle.picture.proofs.Beginnings.{attributes_said, mark_drawn}
use Rattle.picture.proofs.marks.mark_line.Goals as goal

pub returns-then-is_last-clause-draws : goal.returns-then-is_last-clause-draws
returns-then-is_last-clause-draws c =
    let more : List Attribute = c.words-store.result ∷ c.words-queue.result ∷ [] in
    mark_drawn c.mark.result c.args.markup.now c.mark.new.self c.args.title.now c.args.title.now (c.number-place.result ∷ c.number-source.result ∷ more) (mark_said c.args.x c.args.line.now c.args.is_last c.args.queue.now) c.mark.ensures.draws
    (attributes_said c.number-place.result c.number-source.result more (key.Place, decimal c.args.x) (key.Source, decimal c.args.line.now.source) c.args.queue.now (Some c.in-Some.change.now) (change_reported c.args.line.now.line_content) true c.args.is_last
    (c.number-place.ensures ∙ ap (λ n. said_text (key.Place, decimal n)) c.from.ensures) c.number-source.ensures (λ i. (c.words-store.ensures ∙ ap (λ l. said_text (key.Store, l)) c.as_slice.ensures.value) i ++ (c.words-queue.ensures i ++ []))
    (sym (ap option_copied c.in-Some.is) ∙ c.change.ensures) (sym c.if-is_last.true)) refl

pub returns-else-is_last-clause-draws : goal.returns-else-is_last-clause-draws
returns-else-is_last-clause-draws c =
    let more : List Attribute = c.words-store.result ∷ [] in
    mark_drawn c.mark-else-is_last.result c.args.markup.now c.mark-else-is_last.new.self c.args.title.now c.args.title.now (c.number-place.result ∷ c.number-source.result ∷ more) (mark_said c.args.x c.args.line.now c.args.is_last c.args.queue.now) c.mark-else-is_last.ensures.draws
    (attributes_said c.number-place.result c.number-source.result more (key.Place, decimal c.args.x) (key.Source, decimal c.args.line.now.source) c.args.queue.now (Some c.in-Some.change.now) (change_reported c.args.line.now.line_content) false c.args.is_last
    (c.number-place.ensures ∙ ap (λ n. said_text (key.Place, decimal n)) c.from.ensures) c.number-source.ensures (λ i. (c.words-store.ensures ∙ ap (λ l. said_text (key.Store, l)) c.as_slice.ensures.value) i ++ [])
    (sym (ap option_copied c.in-Some.is) ∙ c.change.ensures) (sym c.if-is_last.false)) refl

pub returns-in-None-clause-draws : goal.returns-in-None-clause-draws
returns-in-None-clause-draws c =
    let more : List Attribute = c.words-queue.result ∷ [] in
    mark_drawn c.mark-in-None.result c.args.markup.now c.mark-in-None.new.self c.args.title.now c.args.title.now (c.number-place.result ∷ c.number-source.result ∷ more) (mark_said c.args.x c.args.line.now c.args.is_last c.args.queue.now) c.mark-in-None.ensures.draws
    (attributes_said c.number-place.result c.number-source.result more (key.Place, decimal c.args.x) (key.Source, decimal c.args.line.now.source) c.args.queue.now None (change_reported c.args.line.now.line_content) true c.args.is_last
    (c.number-place.ensures ∙ ap (λ n. said_text (key.Place, decimal n)) c.from.ensures) c.number-source.ensures (λ i. c.words-queue.ensures i ++ [])
    (sym (ap option_copied c.in-None.is) ∙ c.change.ensures) (sym c.if-is_last-2.true)) refl

pub returns-in-None-2-clause-draws : goal.returns-in-None-2-clause-draws
returns-in-None-2-clause-draws c =
    let more : List Attribute = [] in
    mark_drawn c.mark-in-None-2.result c.args.markup.now c.mark-in-None-2.new.self c.args.title.now c.args.title.now (c.number-place.result ∷ c.number-source.result ∷ more) (mark_said c.args.x c.args.line.now c.args.is_last c.args.queue.now) c.mark-in-None-2.ensures.draws
    (attributes_said c.number-place.result c.number-source.result more (key.Place, decimal c.args.x) (key.Source, decimal c.args.line.now.source) c.args.queue.now None (change_reported c.args.line.now.line_content) false c.args.is_last
    (c.number-place.ensures ∙ ap (λ n. said_text (key.Place, decimal n)) c.from.ensures) c.number-source.ensures refl
    (sym (ap option_copied c.in-None.is) ∙ c.change.ensures) (sym c.if-is_last-2.false)) refl
