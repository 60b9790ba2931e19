use Rattle.std.proofs.Common.{◌≡◌, ℕ, ◌+◌, ◌<◌, ◌≤◌, List, [], ◌∷◌, ◌++◌, length, ap, arith, refl, subst, sym, ◌∙◌}
use Rattle.std.proofs.lemmas.List.{length-append}
use Rattle.std.specs.Io.KnownBytes.{Consumes}
use Rattle.files.specs.{input_limit}
use Rattle.files.proofs.Appending.{front_held, front_more, front_read, front_still, pushed}
use Rattle.files.proofs.FirstLines.{none_taken}
use Rattle.files.proofs.streams.read_input.Goals as goal

pub loop-input-init : goal.loop-input-init
loop-input-init g c =
    let all = g.R.Source.to_come c.args.input.now in
    let none : c.new-bytes.result.items ≡ [] = c.new-bytes.ensures.items in
    record {
      front = subst (λ (l : List ℕ). Consumes all all l) (sym none) (none_taken all);
      within = subst (λ (l : List ℕ). length l ≤ input_limit) (sym none) (omega arith);
      whole = refl;
    }

-- one byte more
pub loop-input-smaller : goal.loop-input-smaller
loop-input-smaller g c =
    let l = c.loop-input in
    let early : length l.bytes.items < input_limit = omega (arith, c.loop-input-test.true, c.len.ensures, l.bytes.ok.0) in
    let longer : c.push.new.self.items ≡ l.bytes.items ++ c.in-Ok-Some.byte ∷ [] = pushed c.push.result l.bytes.items c.push.new.self.items c.in-Ok-Some.byte (sym c.is_err.ensures.value ∙ c.if-is_err.false) c.push.ensures.items in
    let more : length c.push.new.self.items ≡ length l.bytes.items + 1 = ap length longer ∙ length-append l.bytes.items (c.in-Ok-Some.byte ∷ []) in
    omega (arith, more, early)

pub loop-input-preserved : goal.loop-input-preserved
loop-input-preserved g c =
    let to_come = g.R.Source.to_come in
    let l = c.loop-input in
    let early : length l.bytes.items < input_limit = omega (arith, c.loop-input-test.true, c.len.ensures, l.bytes.ok.0) in
    let longer : c.push.new.self.items ≡ l.bytes.items ++ c.in-Ok-Some.byte ∷ [] = pushed c.push.result l.bytes.items c.push.new.self.items c.in-Ok-Some.byte (sym c.is_err.ensures.value ∙ c.if-is_err.false) c.push.ensures.items in
    let more : length c.push.new.self.items ≡ length l.bytes.items + 1 = ap length longer ∙ length-append l.bytes.items (c.in-Ok-Some.byte ∷ []) in
    record {
      front = subst (λ (bytes : List ℕ). Consumes (to_come c.args.input.now) (to_come c.next_byte.new.self) bytes) (sym longer) (front_more (to_come c.args.input.now) (to_come l.input) (to_come c.next_byte.new.self) l.bytes.items c.in-Ok-Some.byte l.invariant.front (rw c.in-Ok-Some.field-0-is at c.in-Ok-Some.ensures.byte).0);
      within = omega (arith, more, early);
      whole = omega (arith, c.in-Ok-Some.ensures.failures, l.invariant.whole);
    }

-- one byte for which there is no memory
pub returns-then-is_err : goal.returns-then-is_err
returns-then-is_err g c =
    let to_come = g.R.Source.to_come in
    let l = c.loop-input in
    let early : length l.bytes.items < input_limit = omega (arith, c.loop-input-test.true, c.len.ensures, l.bytes.ok.0) in
    record {
      input = tt;
      front = front_read (to_come c.args.input.now) (to_come l.input) (to_come c.next_byte.new.self) l.bytes.items c.in-Ok-Some.byte early l.invariant.front (rw c.in-Ok-Some.field-0-is at c.in-Ok-Some.ensures.byte).0;
      fault = tt;
      failures = omega (arith, c.in-Ok-Some.ensures.failures, l.invariant.whole);
    }

-- no byte, at the end
pub returns-in-Ok-None : goal.returns-in-Ok-None
returns-in-Ok-None g c =
    let to_come = g.R.Source.to_come in
    let l = c.loop-input in
    let came = rw c.in-Ok-None.field-0-is at c.in-Ok-None.ensures.byte in
    let front = front_still (to_come c.args.input.now) (to_come l.input) (to_come c.next_byte.new.self) l.bytes.items l.invariant.front came.0 in
    record {
      input = record { front = front; within = l.invariant.within; whole = λ _. came.1 refl };
      front = record { bytes = l.bytes.items; front = front; within = l.invariant.within };
      fault = tt;
      failures = omega (arith, c.in-Ok-None.ensures.failures, l.invariant.whole);
    }

-- no byte, because the call failed
pub returns-in-Err : goal.returns-in-Err
returns-in-Err g c =
    let to_come = g.R.Source.to_come in
    let l = c.loop-input in
    record {
      input = tt;
      front = record {
        bytes = l.bytes.items;
        front = front_held (to_come c.args.input.now) (to_come l.input) (to_come c.next_byte.new.self) l.bytes.items l.invariant.front c.in-Err.ensures.byte;
        within = l.invariant.within;
      };
      fault = tt;
      failures = omega (arith, c.in-Err.ensures.failures, l.invariant.whole);
    }

-- as many came as the limit
pub returns : goal.returns
returns g c =
    let l = c.loop-input in
    record {
      input = record {
        front = l.invariant.front;
        within = l.invariant.within;
        whole = λ less. absurd (omega (arith, c.loop-input-test.false, c.len.ensures, l.bytes.ok.0));
      };
      front = record { bytes = l.bytes.items; front = l.invariant.front; within = l.invariant.within };
      fault = tt;
      failures = omega (arith, l.invariant.whole);
    }
