use Rattle.std.proofs.Common.{◌≡◌, ◌<◌, ℕ, List, take, sym, ap, ◌∙◌, arith}
use Rattle.model.specs.{greatest, index_of}
use Rattle.process.specs.{call_of}
use Rattle.process.proofs.VersionsSeen.{image-register, newest-inside}
use Rattle.process.proofs.access_request.newest_image.Goals as goal

-- the index that was found
found : {n m most place : ℕ} (numbers : List ℕ) → n ≡ m → most ≡ greatest (take n numbers) → place ≡ index_of most (take n numbers) → place ≡ index_of (greatest (take m numbers)) (take m numbers)
found numbers from first at = at ∙ (λ i. index_of ((first ∙ ap (λ k. greatest (take k numbers)) from) i) (take (from i) numbers))

pub overflow_cast-result : goal.overflow_cast-result
overflow_cast-result c =
    let n = c.args.call.now.setup.processes in
    let seen = c.args.seen.now in
    omega (arith, found seen.numbers c.from.ensures c.greatest.ensures c.place_of-newest.ensures, newest-inside seen n c.requires.room (omega (arith, c.requires.call.process)) c.requires.call.processes, c.requires.call.processes)

pub bounds-seen-newest : goal.bounds-seen-newest
bounds-seen-newest c =
    let n = c.args.call.now.setup.processes in
    let seen = c.args.seen.now in
    omega (arith, found seen.numbers c.from.ensures c.greatest.ensures c.place_of-newest.ensures, newest-inside seen n c.requires.room (omega (arith, c.requires.call.process)) c.requires.call.processes, c.requires.call.processes)

pub returns : goal.returns
returns c =
    let n = c.args.call.now.setup.processes in
    let seen = c.args.seen.now in
    let newest = c.place_of-newest.result in
    let is = found seen.numbers c.from.ensures c.greatest.ensures c.place_of-newest.ensures in
    let some : 0 < n = omega (arith, c.requires.call.process) in
    record {
      register = image-register (call_of c.args.call.now) seen newest c.requires.room some c.requires.call.processes is ∙ (λ i. (newest, sym c.image_field.ensures i));
      in_range = omega (arith, is, newest-inside seen n c.requires.room some c.requires.call.processes);
    }
