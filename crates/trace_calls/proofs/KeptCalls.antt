-- The call of a process, and what one entry more makes of it.
use Rattle.std.proofs.Common.{◌≡◌, ℕ, ◌-◌, ◌^◌, ◌<◌, ◌==◌, Bool, true, false, not, ◌&&◌, cond, ◌∷◌, Option, None, Some, is_some, length, refl, sym, ap, ◌∙◌, arith}
use Rattle.trace.specs.{TraceEntry, TracePast, reads, writes}
use Rattle.trace_engine.specs.trace_judge.lock_stages.{is_call, is_enter, is_wait}
use Rattle.trace_calls.specs.declared.kept.TraceCallState.{TraceCallState}
use Rattle.trace_calls.specs.declared.kept.TraceCall.{TraceCall}
use Rattle.trace_calls.specs.Calls.{call_of, ended_of_process, has, is_answer, is_calling, is_leave, moves, open_call}
use Rattle.trace_calls.specs.Keeping.{AreFew, begun, call_kept, ended_between, gone_on, kept_after}
use Rattle.trace_calls.specs.Overlaps.{overlaps_in}
use Rattle.trace_calls.proofs.LookBacks.{at-called, at-mine, at-other, calling-called, calling-mine, calling-other, calls-called, calls-few, calls-mine, calls-other, count-called, count-few, count-mine, count-other, first-called, first-mine, first-other}

-- an entry of another process
pub kept-other : (n p : ℕ) (e : TraceEntry) (past : TracePast) → (e.process == p) ≡ false → call_kept n p (e ∷ past) ≡ call_kept n p past
kept-other n p e past h = λ i. record {
  calling = calling-other p e past h i;
  last = record {
    call = calls-other p e past h i;
    called = at-other p e past h i;
    doorway = first-other p (λ e. is_some e.access) e past h i;
    door_end = first-other p (has is_wait) e past h i;
    entered = first-other p (has is_enter) e past h i;
    remaining = first-other p (has is_leave) e past h i;
    answered = first-other p (has is_answer) e past h i;
    reads = count-other p (λ before e. moves reads e) e past h i;
    writes = count-other p (λ before e. moves writes e) e past h i;
    overlapped = count-other p (overlaps_in n) e past h i;
  };
}

-- an entry that begins a call
kept-called : (n : ℕ) (e : TraceEntry) (past : TracePast) → has is_call e ≡ true → call_kept n e.process (e ∷ past) ≡ begun (length past) (call_kept n e.process past)
kept-called n e past some = λ i. record {
  calling = calling-called e.process e past refl some i;
  last = record {
    call = calls-called e.process e past refl some i;
    called = at-called e.process e past refl some i;
    doorway = first-called e.process (λ e. is_some e.access) e past refl some i;
    door_end = first-called e.process (has is_wait) e past refl some i;
    entered = first-called e.process (has is_enter) e past refl some i;
    remaining = first-called e.process (has is_leave) e past refl some i;
    answered = first-called e.process (has is_answer) e past refl some i;
    reads = count-called e.process (λ before e. moves reads e) e past refl some i;
    writes = count-called e.process (λ before e. moves writes e) e past refl some i;
    overlapped = count-called e.process (overlaps_in n) e past refl some i;
  };
}

-- another entry of the process
kept-mine : (n : ℕ) (e : TraceEntry) (past : TracePast) → has is_call e ≡ false →
    call_kept n e.process (e ∷ past) ≡ gone_on (length past) (overlaps_in n past e) e.access e.marks (call_kept n e.process past)
kept-mine n e past none = λ i. record {
  calling = calling-mine e.process e past refl none i;
  last = record {
    call = calls-mine e.process e past refl none i;
    called = at-mine e.process e past refl none i;
    doorway = first-mine e.process (λ e. is_some e.access) e past refl none i;
    door_end = first-mine e.process (has is_wait) e past refl none i;
    entered = first-mine e.process (has is_enter) e past refl none i;
    remaining = first-mine e.process (has is_leave) e past refl none i;
    answered = first-mine e.process (has is_answer) e past refl none i;
    reads = count-mine e.process (λ before e. moves reads e) e past refl none i;
    writes = count-mine e.process (λ before e. moves writes e) e past refl none i;
    overlapped = count-mine e.process (overlaps_in n) e past refl none i;
  };
}

-- an entry of the process itself
pub kept-own : (n : ℕ) (e : TraceEntry) (past : TracePast) →
    call_kept n e.process (e ∷ past) ≡ kept_after (length past) (overlaps_in n past e) e.access e.marks (call_kept n e.process past)
kept-own n e past = by (has is_call e) refl
  where
    after : Bool → TraceCallState
    after b = elim b as (λ _. TraceCallState) [
      | true ↦ begun (length past) (call_kept n e.process past)
      | false ↦ gone_on (length past) (overlaps_in n past e) e.access e.marks (call_kept n e.process past)
    ]

    by : (b : Bool) → has is_call e ≡ b → call_kept n e.process (e ∷ past) ≡ after (has is_call e)
    by true is = kept-called n e past is ∙ sym (ap after is)
    by false is = kept-mine n e past is ∙ sym (ap after is)

-- The call that ends with it.

still : (b a : Bool) → (b && not (b && not a)) ≡ (b && a)
still true true = refl
still true false = refl
still false a = refl

pub ended-own : (n : ℕ) (e : TraceEntry) (past : TracePast) →
    ended_between (has is_call e) (call_kept n e.process past) (call_kept n e.process (e ∷ past)) ≡ ended_of_process n past e
ended-own n e past = by (has is_call e) refl
  where
    between : Bool → Bool → Option TraceCall
    between b goes = elim b as (λ _. Option TraceCall) [
      | true ↦ open_call n e.process past
      | false ↦ cond (is_calling e.process past && not goes) (Some (call_of n e.process (e ∷ past))) None
    ]

    ended : Bool → Option TraceCall
    ended b = elim b as (λ _. Option TraceCall) [
      | true ↦ open_call n e.process past
      | false ↦ cond (is_calling e.process past && has is_answer e) (Some (call_of n e.process (e ∷ past))) None
    ]

    by : (b : Bool) → has is_call e ≡ b → between (has is_call e) (is_calling e.process (e ∷ past)) ≡ ended (has is_call e)
    by true is = ap (λ b. between b (is_calling e.process (e ∷ past))) is ∙ sym (ap ended is)
    by false is =
        ap (λ b. between b (is_calling e.process (e ∷ past))) is
        ∙ ap (between false) (calling-mine e.process e past refl is)
        ∙ ap (λ b. cond b (Some (call_of n e.process (e ∷ past))) None) (still (is_calling e.process past) (has is_answer e))
        ∙ sym (ap ended is)

-- each count has room for one more
pub are_few : (n p : ℕ) (past : TracePast) → length past < 2 ^ 64 - 1 → AreFew (call_of n p past)
are_few n p past few = record {
  calls = let most = calls-few p past in omega (arith, most, few);
  reads = let most = count-few p (λ before e. moves reads e) past in omega (arith, most, few);
  writes = let most = count-few p (λ before e. moves writes e) past in omega (arith, most, few);
  overlapped = let most = count-few p (overlaps_in n) past in omega (arith, most, few);
}
