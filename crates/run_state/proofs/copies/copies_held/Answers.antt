use Rattle.std.proofs.Common.{◌≡◌, ◌++◌, ◌∷◌, ℕ, [], List, Option, length, map, sym, ap, ◌∙◌, arith}
use Rattle.std.proofs.lemmas.List.{length-append}
use Rattle.std.specs.List.{range_with_len}
use Rattle.calls.specs.world.{cells_held}
use Rattle.calls.specs.world.process.registers.{copy_bytes}
use Rattle.run_state.proofs.CopyBits.{in_past}
use Rattle.run_state.proofs.Ranges.{map_next}
use Rattle.run_state.proofs.copies.copies_held.Goals as goal

pub loop-reader-preserved : goal.loop-reader-preserved
loop-reader-preserved c =
    let s = c.args.setup.now in
    let register = c.args.register in
    let before = c.loop-reader.copies.items in
    let copy : Option (List ℕ) = c.copy_bytes-copy.result in
    record {
      length = omega (arith, ap length c.in_ok-push.ensures.items, length-append before (copy ∷ []), c.loop-reader.invariant.length);
      copies = λ past u.
          let is : copy ≡ copy_bytes (cells_held s past register c.loop-reader.reader) = in_past c.args.core.now s copy (λ t q. copy_bytes (cells_held t q register c.loop-reader.reader)) c.requires.setup c.copy_bytes-copy.ensures past u in
          c.in_ok-push.ensures.items ∙ (λ i. c.loop-reader.invariant.copies past u i ++ is i ∷ []) ∙ sym (map_next (λ reader. copy_bytes (cells_held s past register reader)) c.loop-reader.reader);
    }

pub returns : goal.returns
returns c =
    let s = c.args.setup.now in
    let all : c.loop-reader.reader ≡ s.processes = omega (arith, c.loop-reader-test.false, c.loop-reader.auto.reader-end) in
    record {
      copies = λ past u. c.loop-reader.invariant.copies past u ∙ ap (λ n. map (λ reader. copy_bytes (cells_held s past c.args.register reader)) (range_with_len 0 n)) all;
      length = c.loop-reader.invariant.length ∙ all;
    }
