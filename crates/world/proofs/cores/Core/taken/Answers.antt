use Rattle.std.proofs.Common.{◌≡◌, ◌<◌, ℕ, List, Option, None, Some, length, sym, ap, ◌∙◌, arith}
use Rattle.std.specs.Prelude.{slice_get}
use Rattle.plain_store.specs.{Command}
use Rattle.plain_store.specs.declared.Command.TheVariants.{Ask}
use Rattle.world.specs.{CoreState, Seat, call_in, taken_by}
use Rattle.world.proofs.WorldOpen.{seat-indexed}
use Rattle.world.proofs.cores.Core.taken.Goals as goal

called : (seats : List Seat) (p : ℕ) (seat : Seat) (command : Command) (number : ℕ) → slice_get seats p ≡ Some seat → command ≡ seat.process.command → number ≡ seat.process.number → (let call : Command × ℕ = (command, number) in call ≡ call_in seats p)
called seats p seat command number there same counted =
    (λ i. (same i, counted i)) ∙ sym (ap (λ (o : Option Seat). elim o as (λ _. Command × ℕ) [ None ↦ (Ask, 0) | Some seat ↦ (seat.process.command, seat.process.number) ]) there)

pub index-requires : goal.index-requires
index-requires c =
    let many : length c.self.inside.seats.items ≡ length c.args.self.now.seats = ap (λ (core : CoreState). length core.seats) c.self.view_is in
    omega (arith, c.from.ensures, c.requires, many, c.self.inside.seats.ok.0)

pub returns : goal.returns
returns c =
    let i = c.self.inside in
    let p = c.args.process in
    let seat = c.index.result.now in
    let many : length i.seats.items ≡ length c.args.self.now.seats = ap (λ (core : CoreState). length core.seats) c.self.view_is in
    let inside : c.from.result < length i.seats.items = omega (arith, c.from.ensures, c.requires, many) in
    let there = seat-indexed i.seats.items c.from.result p seat c.from.ensures inside c.index.ensures in
    let is = called i.seats.items p seat c.command.result c.number.result there c.command.ensures c.number.ensures in
    (λ k. record { process = p; command = (is k).0; reply = c.args.reply; number = (is k).1 })
    ∙ ap (λ (core : CoreState). taken_by core.seats p c.args.reply) c.self.view_is
