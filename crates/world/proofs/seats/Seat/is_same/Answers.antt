use Rattle.std.proofs.Common.{◌≡◌, refl, sym, ◌∙◌}
use Rattle.std.proofs.lemmas.Bool.{not-false}
use Rattle.std.proofs.lemmas.Slice.Eq.{slice_eq-Decides}
use Rattle.std.specs.Cmp.{booleans_Decides}
use Rattle.world.specs.{Seat}
use Rattle.world.proofs.seats.Seat.is_same.Goals as goal

pub returns : goal.returns
returns c = λ same.
    let seat = c.args.self.now in
    let other = c.args.other.now in
    let process = c.is_same.ensures same in
    let begun : seat.begun ≡ other.begun = (booleans_Decides seat.begun other.begun).0 (not-false _ c.if-self-other.false) in
    let before : seat.before ≡ other.before = (slice_eq-Decides booleans_Decides seat.before other.before _ refl).0 (not-false _ (sym c.ne.ensures ∙ c.if-ne.false)) in
    λ i. let now : Seat = record { process = process i; begun = begun i; before = before i } in now
