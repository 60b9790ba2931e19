use Rattle.std.proofs.Common.{rules, ◌≡◌, ◌+◌, ◌-◌, ◌≤◌, [], Some, length, take, drop, refl, subst}
use Rattle.std.specs.List.{position}
use Rattle.files.specs.{FindsLine, Held, ends_line, without_return}
use Rattle.files.specs.contracts.source_lines.ahead.ReadAhead.{the_view}
use Rattle.files.proofs.Blocks.{found_line, moves_ended}
use Rattle.files.proofs.source_lines.ahead.ReadAhead.find_line.Goals as goal

-- a line stays where it was found
pub returns-in-Some-clause-found : goal.returns-in-Some-clause-found
returns-in-Some-clause-found c = λ some.
    let i = c.self.inside in
    let count = c.in-Some.count in
    let inner = c.count_inner-inner.result in
    let waiting = take (length i.block.items - i.at) (drop i.at i.block.items) in
    let place : position ends_line waiting ≡ Some count = search (rules, c.in-Some.ensures.place) in
    let within : inner ≤ length (take count waiting) = search (rules, c.count_inner-inner.ensures.within) in
    let same : take inner (take count waiting) ≡ without_return (take count waiting) = search (rules, c.count_inner-inner.ensures.inner) in
    subst (λ (a : Held). FindsLine a (the_view (record i { at = i.at + (count + 1); begin = i.at; end = i.at + inner }))) c.self.view_is (record {
      whole = take count waiting;
      ends = moves_ended i.block.items i.at count [] (take count waiting) place refl;
      line = found_line i.block.items i.at count inner waiting refl within same;
    })
