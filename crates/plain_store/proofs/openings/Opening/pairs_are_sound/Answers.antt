use Rattle.std.proofs.Common.{◌≡◌, ◌≤◌, true, length, ap, sym, ◌∙◌, arith}
use Rattle.std.proofs.lemmas.Bool.{and_from}
use Rattle.std.proofs.lemmas.List.{take_all}
use Rattle.std.specs.List.{list_all}
use Rattle.plain_store.proofs.OpeningPairs.{next_at}
use Rattle.plain_store.specs.{is_pair, names_differ}
use Rattle.plain_store.proofs.openings.Opening.pairs_are_sound.Goals as goal

-- one more pair
pub loop-place-preserved : goal.loop-place-preserved
loop-place-preserved c = next_at is_pair c.args.self.now c.loop-place.place c.unwrap-name.result (sym c.entry.ensures ∙ c.unwrap-name.ensures) c.loop-place.invariant c.sound_pair.ensures

pub returns : goal.returns
returns c =
    let end : length c.args.self.now ≤ c.loop-place.place = omega (arith, c.loop-place-test.false, c.len-place-end.ensures.pairs) in
    let all : list_all is_pair c.args.self.now ≡ true = ap (list_all is_pair) (sym (take_all c.loop-place.place c.args.self.now end)) ∙ c.loop-place.invariant in
    and_from (list_all is_pair c.args.self.now) (names_differ c.args.self.now) all c.len-place-end.ensures.differ
