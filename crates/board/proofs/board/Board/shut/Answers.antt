use Rattle.std.proofs.Common.{◌≡◌, ◌+◌, ◌++◌, List, [], ◌∷◌, length, vec_len, sym, ap, ◌∙◌, subst, arith}
use Rattle.std.specs.Global.{Vec}
use Rattle.plain_store.specs.{Setup}
use Rattle.board.specs.{Agree, BoardState, EachIsInRecord, IsStill, Leaves, OwnView}
use Rattle.model.specs.{Placed, lists_of}
use Rattle.board.proofs.Closings.{closes}
use Rattle.board.proofs.board.Board.shut.Goals as goal

pub join_all-requires-clause-order : goal.join_all-requires-clause-order
join_all-requires-clause-order c =
    let is = c.self.view_is in
    let lists = c.push_reserved.ensures.items ∙ ap (λ (xs : List (Vec Placed)). xs ++ c.args.calls ∷ []) c.self.invariant.none in
    let one : vec_len c.push_reserved.new.self ≡ 1 = c.push_reserved.new.self.ok.0 ∙ ap length lists in
    λ k port at.
    let of = c.requires.others k port at in
    (of.0 ∙ ap (λ (b : BoardState). b.table_id) (sym is), of.1 ∙ sym (c.self.invariant.keyed ∙ ap (λ (b : BoardState). b.setup) is), of.2 ∙ ap (λ n. n + k) (sym one))

pub returns-clause-leaves : goal.returns-clause-leaves
returns-clause-leaves c =
    let b = c.self.inside in
    let s = b.setup in
    let same : s ≡ c.args.self.setup = ap (λ (b : BoardState). b.setup) c.self.view_is in
    let z = c.close_with-closed.ensures.values.2 in
    let j = c.join_all.ensures.joined in
    let v = c.join_all.new.first.me.0 in
    let first = c.args.first.me.0 in
    let still : IsStill s v.own = subst (IsStill s) (sym j.own) (subst (λ s. IsStill s first.own) (sym same) c.requires.still) in
    let many : vec_len c.args.others + 1 ≡ s.processes = c.requires.all ∙ ap (λ (s : Setup). s.processes) (sym same) in
    let left : Leaves s v.own.calls v.seen c.image_shown-image.result =
    closes s c.join_all.new.first.id v c.close_with-closed.result.words.items z.0 c.image_shown-image.result (subst (λ s. Agree s z.0.words z.0.views) c.self.invariant.keyed z.1.0) z.1.1 z.2 (j.live ∙ c.requires.live)
    (ap (λ (o : OwnView). o.process) j.own ∙ c.requires.first) still (λ p low below. j.joined p low (omega (arith, many))) c.image_shown-image.ensures in
    subst (λ s. Leaves s first.own.calls first.seen c.image_shown-image.result) same
    (subst (λ (o : OwnView). Leaves s o.calls first.seen c.image_shown-image.result) j.own (subst (λ seen. Leaves s v.own.calls seen c.image_shown-image.result) j.seen left))

pub returns-clause-fit : goal.returns-clause-fit
returns-clause-fit c = subst (λ (s : Setup). EachIsInRecord s (lists_of c.join_all.new.answers.items)) (c.self.invariant.keyed ∙ ap (λ (b : BoardState). b.setup) c.self.view_is) c.join_all.ensures.fit
