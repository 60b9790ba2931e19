use Rattle.std.proofs.Common.{◌+◌, arith, refl}
use Rattle.std.proofs.lemmas.List.{length-drop, take_rest}
use Rattle.std.proofs.lemmas.Bool.Decides.{nat_tests}
use Rattle.files.proofs.Appending.{appends_more, front_kept, front_of, whole_of}
use Rattle.files.proofs.streams.write_all.Goals as goal

-- one more piece
pub loop-at-preserved : goal.loop-at-preserved
loop-at-preserved g c = record {
  taken = appends_more _ _ _ _ _ _ c.loop-at.invariant.taken (rw (take_rest c.args.bytes.now c.loop-at.at) at c.in-Ok.ensures.bytes);
  within = omega (arith, c.in-Ok.ensures.count, length-drop c.loop-at.at c.args.bytes.now);
  whole = grind (arith, nat_tests, c.in-Ok.ensures.failures, c.loop-at.invariant.whole);
}

-- none of some bytes was taken
pub returns-in-Ok-eq0 : goal.returns-in-Ok-eq0
returns-in-Ok-eq0 g c =
    let taken = g.W.Sink.taken in
    let l = c.loop-at in
    let bytes = c.args.bytes.now in
    let none = c.in-Ok-eq0.field-0 in
    record {
      written = tt;
      front = front_of (taken c.args.output.now) (taken c.put.new.self) bytes (l.at + none) (appends_more (taken c.args.output.now) (taken l.output) (taken c.put.new.self) bytes l.at none l.invariant.taken (rw (take_rest bytes l.at) at c.in-Ok-eq0.ensures.bytes));
      fault = refl;
      failures = grind (arith, nat_tests, c.in-Ok-eq0.ensures.failures, c.in-Ok-eq0.field-0-test, l.invariant.whole, length-drop l.at bytes);
    }

-- the call failed
pub returns-in-Err : goal.returns-in-Err
returns-in-Err g c =
    let taken = g.W.Sink.taken in
    let l = c.loop-at in
    record {
      written = tt;
      front = front_kept (taken c.args.output.now) (taken l.output) (taken c.put.new.self) c.args.bytes.now l.at l.invariant.taken c.in-Err.ensures.bytes;
      fault = refl;
      failures = omega (arith, c.in-Err.ensures.failures, l.invariant.whole);
    }

-- all of them were taken
pub returns : goal.returns
returns g c =
    let taken = g.W.Sink.taken in
    let l = c.loop-at in
    record {
      written = whole_of (taken c.args.output.now) (taken l.output) c.args.bytes.now l.at (omega arith) l.invariant.taken;
      front = front_of (taken c.args.output.now) (taken l.output) c.args.bytes.now l.at l.invariant.taken;
      fault = tt;
      failures = omega (arith, l.invariant.whole);
    }
