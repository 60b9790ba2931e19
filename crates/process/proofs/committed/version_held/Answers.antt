use Rattle.std.proofs.Common.{◌≡◌, ◌==◌, ℕ, Bool, false, get_or, ap, ◌∙◌}
use Rattle.model.specs.declared.access.Field.TheVariants.{Commit}
use Rattle.model.specs.{Version, stamp_field}
use Rattle.model.specs.safe_number.{number_of_bits}
use Rattle.process.specs.{register_held}
use Rattle.process.proofs.HeldBits.{held-wide, one-bit}
use Rattle.process.proofs.committed.version_held.Goals as goal

pub returns : goal.returns
returns c =
    let s = c.args.setup.now in
    let memory = c.args.memory.now in
    let p : ℕ = c.args.process in
    let bit : Bool = c.number_held-commit.result == 1 in
    let commit : bit ≡ get_or (register_held s memory p Commit) 0 false =
    ap (λ n. n == 1) c.number_held-commit.ensures ∙ one-bit (register_held s memory p Commit) (held-wide s memory p Commit c.requires.memory c.requires.process) in
    ap (λ (n : ℕ). let v : Version = (bit, n) in v) (c.number_held.ensures ∙ ap (λ f. number_of_bits (register_held s memory p f)) c.stamp_field.ensures)
    ∙ ap (λ (b : Bool). let v : Version = (b, number_of_bits (register_held s memory p (stamp_field b))) in v) commit
