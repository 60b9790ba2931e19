use Rattle.std.proofs.Common.{◌≡◌, ◌++◌, ◌≤◌, ap, ◌∙◌, arith}
use Rattle.std.specs.Prelude.{List, ℕ, slice_index_or, false, ◌<◌, length}
use Rattle.model.specs.safe_number.{bit_in}
use Rattle.calls.proofs.world_proofs.process_proofs.registers_proofs.MadeBytes.{register-bits}
use Rattle.run_state.specs.{process_line, shown}
use Rattle.run_state.proofs.ObservedWorlds.{ok_then}
use Rattle.run_state.proofs.Written.{width-most}
use Rattle.run_state.proofs.process_lines.ProcessLines.push_writing.Goals as goal

pub returns : goal.returns
returns c = ok_then c.push_value_line.result
    (λ wrote bits wide are.
    let l = c.args.self.now in
    let s = l.setup.now in
    let a = c.args.next.now in
    let most = width-most s c.requires.good a.field in
    let few : length bits ≤ 1728 = omega (arith, wide, most) in
    let held : (k : ℕ) → k < length bits → bit_in c.args.bytes.now k ≡ slice_index_or bits k false = λ k below. ap (λ (b : List ℕ). bit_in b k) are ∙ register-bits bits few k in
    let value : c.as_slice.result.now ≡ shown s a.field bits = c.as_slice.ensures.value ∙ c.in_ok-value.ensures bits wide held in
    let words = c.deref.ensures ∙ c.in_ok-words.ensures in
    wrote ∙ (λ i. c.args.text.now.items ++ process_line l.process (words i ++ value i)))
    c.push_value_line.ensures
