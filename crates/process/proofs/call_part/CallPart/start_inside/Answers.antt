use Rattle.std.proofs.Common.{◌≡◌, [], refl, ap, ◌∙◌}
use Rattle.model.specs.{Call, Part, processes, to_e}
use Rattle.process.specs.{PartState, versions_seen}
use Rattle.process.proofs.AfterParts.{all-all}
use Rattle.process.proofs.call_part.CallPart.start_inside.Goals as goal

pub returns : goal.returns
returns c =
    let q = c.self.inside in
    let k : Call = record { setup = q.call.setup; process = q.call.process; command = c.args.command; number = c.args.number } in
    let none : versions_seen 0 q.seen ≡ [] = refl in
    ap (λ (part : Part). let x : PartState = record { call = k; part = part } in x) (c.version_from-self-inside.ensures.part q.seen ∙ (λ i. to_e (all-all k i) (none i)))
    ∙ ap (λ (x : PartState). let y : PartState = record { call = record x.call { command = c.args.command; number = c.args.number }; part = to_e (processes x.call.setup) [] } in y) c.self.view_is
