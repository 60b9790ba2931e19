use Rattle.std.proofs.Common.{◌≡◌, ◌<◌, ◌∷◌, [], ap, sym, ◌∙◌, ◌++◌, length, length-append, arith}
use Rattle.std.proofs.Common.{Some}
use Rattle.std.proofs.Math.ListN.{set}
use Rattle.plain_store.specs.{names_differ, pairs_in}
use Rattle.plain_store.proofs.OpeningPairs.{differ-more}
use Rattle.plain_store.proofs.Places.{one_more, IsOneMore}
use Rattle.plain_store.proofs.openings.Opening.add.Goals as goal

-- the pair is in the next place
packed : (c : goal.After-self-1) → IsOneMore (pairs_in c.self.inside.places) (c.args.name, c.args.value) (set c.self.inside.places c.from.result (Some (c.args.name, c.args.value)))
packed c =
    let next : c.from.result ≡ length (pairs_in c.self.inside.places) = c.from.ensures ∙ c.self.invariant.counted in
    let room : c.from.result < 8 = omega (arith, c.self.invariant.few) in
    one_more (pairs_in c.self.inside.places) (c.args.name, c.args.value) c.from.result c.self.inside.places next room c.self.invariant.packed

pub invariant_of-self : goal.invariant_of-self
invariant_of-self c =
    let more = packed c in
    record {
      few = omega (arith, c.self.invariant.few);
      counted = omega (arith, c.self.invariant.counted, ap length more.found, length-append (pairs_in c.self.inside.places) ((c.args.name, c.args.value) ∷ []));
      packed = more.packed;
      differ = ap names_differ more.found ∙ differ-more (pairs_in c.self.inside.places) (c.args.name, c.args.value) c.self.invariant.differ (sym c.is_among.ensures ∙ c.if-is_among.false);
    }

pub returns-clause-pairs : goal.returns-clause-pairs
returns-clause-pairs c = (packed c).found ∙ ap (λ pairs. pairs ++ (c.args.name, c.args.value) ∷ []) c.self.view_is
