use Rattle.std.proofs.Common.{◌≡◌, ◌+◌, ◌-◌, ◌<◌, ℕ, List, ◌++◌, flat_map, length, refl, sym, ap, subst, ◌∙◌, arith}
use Rattle.std.specs.Io.KnownBytes.{Appends}
use Rattle.std.specs.List.{range_with_len}
use Rattle.plain_store.specs.{Setup}
use Rattle.scenario.specs.files.{WritesFront}
use Rattle.calls.specs.{line_of, open_call, open_lines}
use Rattle.scenario.proofs.files.Failing.{fails_after}
use Rattle.scenario_run.proofs.Written.{appends_both, appends_none, front_after, front_all, front_longer}
use Rattle.calls.proofs.Ranges.{lines_front, lines_more}
use Rattle.calls.proofs.calling.write_open.Goals as goal

pub loop-process-init : goal.loop-process-init
loop-process-init g c = record { written = λ past h. appends_none (g.W.Sink.taken c.args.output.now); whole = refl }

pub write_open_call-requires-clause-writes : goal.write_open_call-requires-clause-writes
write_open_call-requires-clause-writes g c = rw c.loop-process.invariant.whole c.requires.writes

pub write_open_call-requires-clause-process : goal.write_open_call-requires-clause-process
write_open_call-requires-clause-process g c =
    let below : c.loop-process.process < c.args.setup.now.processes = omega (arith, c.loop-process-test.true) in
    subst (λ (s : Setup). c.loop-process.process < s.processes) (sym c.requires.setup) below

pub returns-in_err-write_open_call-clause-fails : goal.returns-in_err-write_open_call-clause-fails
returns-in_err-write_open_call-clause-fails g c = fails_after g.W.Sink.failures c.from_residual.result c.in_err-write_open_call.field-0.0 _ _ _ c.from_residual.ensures.1 c.loop-process.invariant.whole c.in_err-write_open_call.ensures.fails

pub loop-process-preserved : goal.loop-process-preserved
loop-process-preserved g c =
    let k : ℕ = c.loop-process.process in
    record {
      written = λ past h.
          let f : ℕ → List ℕ = λ p. line_of (length past - 1) (open_call c.args.setup.now p past) in
          let here : Appends (g.W.Sink.taken c.loop-process.output) (g.W.Sink.taken c.write_open_call.new.output) (f k) =
          subst (λ (s : Setup). Appends (g.W.Sink.taken c.loop-process.output) (g.W.Sink.taken c.write_open_call.new.output) (line_of (length past - 1) (open_call s k past))) c.requires.setup
          (c.in_ok-write_open_call.ensures.written past h) in
          subst (λ l. Appends (g.W.Sink.taken c.args.output.now) (g.W.Sink.taken c.write_open_call.new.output) l) (sym (lines_more f k))
          (appends_both _ _ _ (flat_map f (range_with_len 0 k)) (f k) (c.loop-process.invariant.written past h) here);
      whole = omega (arith, c.in_ok-write_open_call.ensures.fails.counted, c.loop-process.invariant.whole);
    }

pub returns-in_err-write_open_call-clause-front : goal.returns-in_err-write_open_call-clause-front
returns-in_err-write_open_call-clause-front g c = λ past h.
    let k : ℕ = c.loop-process.process in
    let n : ℕ = c.args.setup.now.processes in
    let f : ℕ → List ℕ = λ p. line_of (length past - 1) (open_call c.args.setup.now p past) in
    let here : WritesFront (g.W.Sink.taken c.loop-process.output) (g.W.Sink.taken c.write_open_call.new.output) (f k) =
    subst (λ (s : Setup). WritesFront (g.W.Sink.taken c.loop-process.output) (g.W.Sink.taken c.write_open_call.new.output) (line_of (length past - 1) (open_call s k past))) c.requires.setup
    (c.in_err-write_open_call.ensures.front past h) in
    let rest : (more : List ℕ) × (flat_map f (range_with_len 0 (k + 1 + (n - (k + 1)))) ≡ flat_map f (range_with_len 0 (k + 1)) ++ more) = lines_front f (k + 1) (n - (k + 1)) in
    let whole : k + 1 + (n - (k + 1)) ≡ n = omega (arith, c.loop-process-test.true) in
    let all : (flat_map f (range_with_len 0 k) ++ f k) ++ rest.0 ≡ flat_map f (range_with_len 0 n) =
    ap (λ l. l ++ rest.0) (sym (lines_more f k)) ∙ sym rest.1 ∙ ap (λ m. flat_map f (range_with_len 0 m)) whole in
    subst (λ l. WritesFront (g.W.Sink.taken c.args.output.now) (g.W.Sink.taken c.write_open_call.new.output) l) all
    (front_longer _ _ (flat_map f (range_with_len 0 k) ++ f k) rest.0
    (front_after _ _ _ (flat_map f (range_with_len 0 k)) (f k) (c.loop-process.invariant.written past h) here))

pub returns-clause-written : goal.returns-clause-written
returns-clause-written g c = λ past h.
    let all : c.loop-process.process ≡ c.args.setup.now.processes = omega (arith, c.loop-process-test.false, c.loop-process.auto.process-end) in
    let f : ℕ → List ℕ = λ p. line_of (length past - 1) (open_call c.args.setup.now p past) in
    subst (λ n. Appends (g.W.Sink.taken c.args.output.now) (g.W.Sink.taken c.loop-process.output) (flat_map f (range_with_len 0 n))) all (c.loop-process.invariant.written past h)

pub returns-clause-front : goal.returns-clause-front
returns-clause-front g c = λ past h. front_all _ _ (open_lines c.args.setup.now past) (returns-clause-written g c past h)
