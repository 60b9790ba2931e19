use Rattle.std.proofs.Common.{rules, arith, ◌≡◌, ◌≤◌, ◌<◌, true, false, Ok, ◌++◌, length, take, drop, refl, ap, sym, subst, ◌∙◌}
use Rattle.std.proofs.lemmas.Bool.{false≢true}
use Rattle.files.specs.{ComesToEnd, Held, Stays, coming}
use Rattle.files.proofs.Blocks.{at_its_end, more_come, none_come, none_remaining, some_came, some_remaining, stays}
use Rattle.files.proofs.source_lines.ahead.ReadAhead.fill.Goals.{in-Ok-extend_from_slice, in-Err-extend_from_slice}
use Rattle.files.proofs.source_lines.ahead.ReadAhead.fill.Goals as goal

-- bytes wait
pub returns-then-self-len : goal.returns-then-self-len
returns-then-self-len g c =
    let i = c.self.inside in
    let all = coming c.args.self.now.given (g.R.Source.to_come c.args.input.now) in
    record {
      nonempty = λ _. subst (λ (a : Held). 0 < length a.given.bytes) c.self.view_is (some_remaining i.block.items i.at (omega (arith, c.if-self-len.true, c.len.ensures, i.block.ok.0)));
      stays = λ _. stays all;
      end = λ e. absurd {A = ComesToEnd all all} (false≢true (sym e));
      ended = λ e. absurd (false≢true (sym e));
      holds = λ h. h;
      stays_ended = λ e. e;
      left_alone = λ _. refl;
      fault = tt;
      failures = omega arith;
    }

-- the source has reported its end before
pub returns-then-self : goal.returns-then-self
returns-then-self g c =
    let i = c.self.inside in
    let to_come = g.R.Source.to_come c.args.input.now in
    let all = coming c.args.self.now.given to_come in
    record {
      nonempty = λ e. absurd (false≢true e);
      stays = λ e. absurd {A = Stays all all} (false≢true e);
      end = λ _. subst (λ (a : Held). ComesToEnd (coming a.given to_come) (coming a.given to_come)) c.self.view_is (none_remaining i.block.items i.at i.ended to_come c.if-self.true (omega (arith, c.if-self-len.false, c.len.ensures, i.block.ok.0)));
      ended = λ _. subst (λ (a : Held). a.given.ended ≡ true) c.self.view_is c.if-self.true;
      holds = λ h. h;
      stays_ended = λ e. e;
      left_alone = λ _. refl;
      fault = tt;
      failures = omega arith;
    }

-- the source reports its end now
pub returns-in-Ok-eq0 : goal.returns-in-Ok-eq0
returns-in-Ok-eq0 g c =
    let i = c.self.inside in
    let to_come = g.R.Source.to_come c.args.input.now in
    let rest = g.R.Source.to_come c.next_bytes.new.self in
    let remaining = coming (record { bytes = drop i.at i.block.items; ended = true }) rest in
    let none : length i.block.items ≤ i.at = omega (arith, c.if-self-len.false, c.len.ensures, i.block.ok.0) in
    let open_yet : c.args.self.now.given.ended ≡ false = subst (λ (a : Held). a.given.ended ≡ false) c.self.view_is c.if-self.false in
    let is = c.in-Ok-eq0.is ∙ ap Ok c.in-Ok-eq0.field-0-test in
    let room : 0 < length c.next_bytes.new.buffer = omega arith in
    record {
      nonempty = λ e. absurd (false≢true e);
      stays = λ e. absurd {A = Stays (coming c.args.self.now.given to_come) remaining} (false≢true e);
      end = λ _. subst (λ (a : Held). ComesToEnd (coming a.given to_come) remaining) c.self.view_is (none_come i.block.items i.at i.ended to_come rest c.next_bytes.result c.next_bytes.new.buffer c.if-self.false none is room c.next_bytes.ensures.bytes);
      ended = λ _. refl;
      holds = λ _ _. (at_its_end to_come rest c.next_bytes.result c.next_bytes.new.buffer is room c.next_bytes.ensures.bytes).1;
      stays_ended = λ _. refl;
      left_alone = λ e. absurd (false≢true (sym open_yet ∙ e));
      fault = tt;
      failures = c.in-Ok-eq0.ensures.failures;
    }

-- a block came, and memory may run out
pub returns-after-extend_from_slice : goal.returns-after-extend_from_slice
returns-after-extend_from_slice g c =
    let i = c.self.inside in
    let to_come = g.R.Source.to_come c.args.input.now in
    let rest = g.R.Source.to_come c.next_bytes.new.self in
    let all = coming c.args.self.now.given to_come in
    let block = c.extend_from_slice.new.self.items in
    let remaining = coming (record { bytes = block; ended = i.ended }) rest in
    let none : length i.block.items ≤ i.at = omega (arith, c.if-self-len.false, c.len.ensures, i.block.ok.0) in
    let open_still : i.ended ≡ false = c.if-self.false in
    let open_yet : c.args.self.now.given.ended ≡ false = subst (λ (a : Held). a.given.ended ≡ false) c.self.view_is c.if-self.false in
    elim c.match-extend_from_slice.branch [
      | in-Ok-extend_from_slice w ↦
          let longer : block ≡ c.clear.new.self.items ++ take c.in-Ok.count c.next_bytes.new.buffer = search (rules, w.in-Ok-extend_from_slice.ensures.items) in
          let moved : block ≡ take c.in-Ok.count c.next_bytes.new.buffer = longer ∙ ap (λ l. l ++ take c.in-Ok.count c.next_bytes.new.buffer) c.clear.ensures.items in
          rw w.result-is (record {
            nonempty = λ _. some_came c.next_bytes.new.buffer block c.next_bytes.result c.in-Ok.count c.in-Ok.is c.next_bytes.ensures.count c.in-Ok.count-test.1 moved;
            stays = λ _. subst (λ (a : Held). Stays (coming a.given to_come) remaining) c.self.view_is (more_come i.block.items i.at i.ended to_come rest c.next_bytes.result c.next_bytes.new.buffer block c.in-Ok.count open_still none c.in-Ok.is c.next_bytes.ensures.bytes moved);
            end = λ e. absurd {A = ComesToEnd all remaining} (false≢true (sym e));
            ended = λ e. absurd (false≢true (sym e));
            holds = λ _ e. absurd (false≢true (sym open_still ∙ e));
            stays_ended = λ e. absurd (false≢true (sym open_yet ∙ e));
            left_alone = λ e. absurd (false≢true (sym open_yet ∙ e));
            fault = tt;
            failures = c.in-Ok.ensures.failures;
          })
      | in-Err-extend_from_slice w ↦ rw w.result-is (record {
        nonempty = tt;
        stays = tt;
        end = tt;
        ended = tt;
        holds = λ _ e. absurd (false≢true (sym open_still ∙ e));
        stays_ended = λ e. absurd (false≢true (sym open_yet ∙ e));
        left_alone = λ e. absurd (false≢true (sym open_yet ∙ e));
        fault = tt;
        failures = c.in-Ok.ensures.failures;
      })
    ]

-- the call fails
pub returns-in-Err : goal.returns-in-Err
returns-in-Err g c =
    let open_yet : c.args.self.now.given.ended ≡ false = subst (λ (a : Held). a.given.ended ≡ false) c.self.view_is c.if-self.false in
    record {
      nonempty = tt;
      stays = tt;
      end = tt;
      ended = tt;
      holds = λ _ e. absurd (false≢true (sym open_yet ∙ e));
      stays_ended = λ e. e;
      left_alone = λ e. absurd (false≢true (sym open_yet ∙ e));
      fault = tt;
      failures = c.in-Err.ensures.failures;
    }
