-- The effect of a memory on a process, by the values that contracts see.
use Rattle.std.proofs.Common.{◌≡◌, ◌<◌, ◌≤◌, ℕ, Bool, true, false, cond, List, None, Some, is_some, refl, sym, ap, ◌∙◌, subst, arith}
use Rattle.registers.specs.safe_bit.Cell.{Cell}
use Rattle.choices.specs.{FlickState}
use Rattle.plain_store.specs.{Setup}
use Rattle.model.specs.{Call, Part, is_over, is_read, read_at, written_at}
use Rattle.laws.specs.{Closes, Doing, Lies, Rests, Runs, reads_of}
use Rattle.registers.specs.{AreOf, CursorState, Fits, ReadsAt, WritesAt, first_lane, is_settling, lane_number, next_answered, overlapped_of, rest_of, run_at, run_of, without_reads}
use Rattle.registers.specs.Accesses as registers
use Rattle.process.specs.{KeepsPlace, PartState, ProcessState, Activity, answered_at, dropped, remaining_at, remaining_of, may_step, newest_of, overlapped_steps, state_at, steps_of}
use Rattle.process.specs.declared.activity.Activity.TheVariants as work
use Rattle.process.proofs.Left.{remaining-some, live-by}
use Rattle.process.proofs.Rests.{rest-is}
use Rattle.process.proofs.Serves.{answered-is, remaining-works, runs-correspond, served, corresponds, corresponding-fit}

-- a process with accesses left has an access to make
goes-by : (now : ProcessState) (d : Doing) → 0 < remaining_at (record now { doing = d }) → may_step d ≡ true
goes-by now Rests more = absurd (omega (arith, more))
goes-by now Lies more = absurd (omega (arith, more))
goes-by now (Runs command number at) more = refl
goes-by now (Closes command number at) more = refl

pub remaining-goes : (now : ProcessState) → 0 < remaining_at now → may_step now.doing ≡ true
remaining-goes now more = goes-by now now.doing more

-- its cursor fits a memory of its setup
pub shown-fits : (k : PartState) (w : Activity) (cur : CursorState) (now : ProcessState) (memory : List (List Cell)) → KeepsPlace k w cur → state_at k w cur ≡ now → may_step now.doing ≡ true → AreOf now.setup memory → Fits memory cur
shown-fits k w cur now memory keeps shown goes of =
    corresponding-fit k.call.setup memory cur (subst (λ s. AreOf s memory) (sym (ap (λ (x : ProcessState). x.setup) shown)) of)
    (corresponds k w cur keeps (ap (λ (x : ProcessState). may_step x.doing) shown ∙ goes))

-- each process has a copy of the bits of its register
pub shown-copies : (k : PartState) (w : Activity) (cur : CursorState) (now : ProcessState) → KeepsPlace k w cur → state_at k w cur ≡ now → may_step now.doing ≡ true → cur.copies ≡ now.setup.processes
shown-copies k w cur now keeps shown goes =
    (corresponds k w cur keeps (ap (λ (x : ProcessState). may_step x.doing) shown ∙ goes)).copies ∙ ap (λ (x : ProcessState). x.setup.processes) shown

-- the process and its cursor get the same value
pub shown-answered : (k : PartState) (w : Activity) (cur : CursorState) (now : ProcessState) (memory : List (List Cell)) (flick : Bool) → KeepsPlace k w cur → state_at k w cur ≡ now → may_step now.doing ≡ true →
    next_answered cur memory flick ≡ answered_at now memory flick
shown-answered k w cur now memory flick keeps shown goes =
    answered-is k w cur memory flick keeps (ap (λ (x : ProcessState). may_step x.doing) shown ∙ goes)
    ∙ ap (λ x. answered_at x memory flick) shown

-- n steps within a register access, by its cursor
pub record RunsShown (steps : ℕ) (k : PartState) (w : Activity) (cur : CursorState) (now : ProcessState) (memory : List (List Cell)) (flicks : FlickState) : Type 0 where
  pub keeps : KeepsPlace k w (run_of steps (cur, memory, flicks)).0
  pub now_is : (let x : CursorState × List (List Cell) × FlickState = run_of steps (cur, memory, flicks) in let then : ProcessState × List (List Cell) × FlickState = (state_at k w x.0, x.1, x.2) in then ≡ steps_of steps (now, memory, flicks))
  pub kind : is_settling cur.run ≡ false
  pub within : steps ≤ rest_of cur
  pub newest : registers.newest_of steps (cur, memory, flicks) ≡ newest_of steps (now, memory, flicks)
  pub overlapped : overlapped_of steps (cur, memory, flicks) ≡ overlapped_steps steps (now, memory, flicks)

pub shown-run : (steps : ℕ) (k : PartState) (w : Activity) (cur : CursorState) (now : ProcessState) (memory : List (List Cell)) (flicks : FlickState) → KeepsPlace k w cur → state_at k w cur ≡ now → 0 < steps → steps ≤ remaining_at now → RunsShown steps k w cur now memory flicks
shown-run steps k w cur now memory flicks keeps shown some within =
    let here : steps ≤ remaining_at (state_at k w cur) = omega (arith, within, ap remaining_at shown) in
    let P : Activity → Type 0 = λ w. KeepsPlace k w cur → steps ≤ remaining_at (state_at k w cur) → RunsShown steps k w cur (state_at k w cur) memory flicks in
    let runs : P work.Runs = λ keeps within.
    let all = served steps k cur memory flicks keeps within in
    let live = live-by (is_over k.part) (remaining_of k.call k.part (run_at cur)) (omega (arith, some, within)) in
    let remaining = remaining-some k.call k.part (run_at cur) live.1 in
    let same : remaining_at (state_at k work.Runs cur) ≡ remaining_of k.call k.part (run_at cur) = ap (λ b. cond b 0 (remaining_of k.call k.part (run_at cur))) live.0 in
    record { keeps = all.keeps; now_is = all.now; kind = (runs-correspond k cur keeps).1; within = omega (arith, within, same, remaining.2, rest-is k.call k.part cur keeps.working.at); newest = all.newest; overlapped = all.overlapped } in
    subst (λ now. RunsShown steps k w cur now memory flicks) shown (subst P (sym (remaining-works k w cur (omega (arith, some, here)))) runs keeps here)

-- A DROPPED READ

-- a process that reads has an access to make
pub reads-goes : (s : Setup) (p : ℕ) (d : Doing) → is_some (reads_of s p d) ≡ true → may_step d ≡ true
reads-goes s p Rests some = absurd (cc)
reads-goes s p Lies some = absurd (cc)
reads-goes s p (Runs command number at) some = refl
reads-goes s p (Closes command number at) some = refl

drop-part : (c : Call) (part : Part) (cur : CursorState) (memory : List (List Cell)) (b : Bool) → is_read part ≡ b →
    elim b as (λ _. Type 0) [ true ↦ ReadsAt c.setup c.process (read_at c part) cur | false ↦ WritesAt c.setup c.process (written_at c part) cur ] →
    is_some (cond (is_read part) (Some (read_at c part)) None) ≡ true →
    without_reads memory (first_lane cur) ≡ elim (cond (is_read part) (Some (read_at c part)) None) as (λ _. List (List Cell)) [
      | None ↦ memory
      | Some register ↦ without_reads memory (lane_number c.setup.processes (record { owner = register.0; field = register.1 }) c.process)
    ]
drop-part c part cur memory true reads at some =
    (λ i. without_reads memory (lane_number (at.copies i) (at.at i) (at.reader i)))
    ∙ sym (ap (λ b. elim (cond b (Some (read_at c part)) None) as (λ _. List (List Cell)) [
      | None ↦ memory
      | Some register ↦ without_reads memory (lane_number c.setup.processes (record { owner = register.0; field = register.1 }) c.process)
    ]) reads)
drop-part c part cur memory false writes at some = absurd (let no : is_some (cond false (Some (read_at c part)) None) ≡ true = sym (ap (λ b. is_some (cond b (Some (read_at c part)) None)) writes) ∙ some in cc)

drop-works : (k : PartState) (w : Activity) (cur : CursorState) (memory : List (List Cell)) → KeepsPlace k w cur → is_some (reads_of k.call.setup k.call.process (state_at k w cur).doing) ≡ true →
    without_reads memory (first_lane cur) ≡ dropped (state_at k w cur) memory
drop-works k work.Rests cur memory keeps some = absurd (cc)
drop-works k work.Lies cur memory keeps some = absurd (cc)
drop-works k work.Runs cur memory keeps some = drop-part k.call k.part cur memory (is_read k.part) refl keeps.working.at some
drop-works k work.Withdraws cur memory keeps some = absurd (cc)
drop-works k (work.Settles inside taken) cur memory keeps some = absurd (cc)
drop-works k (work.Frees inside) cur memory keeps some = absurd (cc)
drop-works k work.Lowers cur memory keeps some = absurd (cc)

pub shown-drop : (k : PartState) (w : Activity) (cur : CursorState) (now : ProcessState) (memory : List (List Cell)) → KeepsPlace k w cur → state_at k w cur ≡ now → is_some (reads_of now.setup now.process now.doing) ≡ true →
    without_reads memory (first_lane cur) ≡ dropped now memory
shown-drop k w cur now memory keeps shown some =
    drop-works k w cur memory keeps (ap (λ (x : ProcessState). is_some (reads_of x.setup x.process x.doing)) shown ∙ some) ∙ ap (λ x. dropped x memory) shown
