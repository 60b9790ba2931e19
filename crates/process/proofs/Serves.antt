-- A process and its cursor make the same accesses on a memory.
use Rattle.std.proofs.Common.{◌≡◌, ◌<◌, ◌≤◌, ℕ, zero, suc, ◌+◌, Bool, true, false, cond, List, get_or, Option, refl, sym, ap, ◌∙◌, subst, arith, unwrap_or}
use Rattle.registers.specs.safe_bit.Cell.{Cell, read_answer}
use Rattle.registers.specs.safe_bit.{Move}
use Rattle.registers.specs.safe_bit.declared.moves.Move.TheVariants.{BeginWrite, EndWrite, Settle}
use Rattle.choices.specs.{FlickState, after_flick, flick_of}
use Rattle.registers.specs.reader_copies.{is_open_at}
use Rattle.plain_store.specs.{Reply, Setup}
use Rattle.model.specs.{Access, Call, Field, Part, Place, ended, is_over, is_read, read_at, run_after, value_of, width, written_at}
use Rattle.laws.specs.{Runs}
use Rattle.registers.specs.{AreOf, CursorState, Fits, IsAtCopy, IsAtPart, RegisterAccessKind, ReadsAt, WritesAt, answered, applied, cell_at, cursor_after, ends_overlapped, is_fresh, is_settling, lane_of_access, move_by, moved, next_access, next_answered, overlapped_of, read_move, run_at, run_of}
use Rattle.registers.specs.Accesses as registers
use Rattle.registers.specs.declared.cursor.RegisterAccessKind.TheVariants as run
use Rattle.registers.proofs.CursorRuns.{Moves, moves}
use Rattle.registers.proofs.Openings.{setup-fits}
use Rattle.registers.proofs.Runs.{same-by}
use Rattle.process.specs.{HasMoved, KeepsPlace, PartState, ProcessState, Activity, SettlesAt, answered_at, answered_next, doing_at, value_for_next, remaining_at, remaining_of, may_step, newest_of, overlapped_steps, overlaps_step, state_at, step_by, step_of, stepped, steps_of}
use Rattle.process.specs.declared.activity.Activity.TheVariants as work
use Rattle.process.proofs.Left.{remaining-fewer, remaining-runs, remaining-some, live-by, within}
use Rattle.process.proofs.NextAt.{next-is}

-- THE POSITION OF THE CURSOR

-- the cursor is on a register of the setup, and not at its end
pub record Corresponds (s : Setup) (cur : CursorState) : Type 0 where
  pub owner : cur.register.owner < s.processes
  pub copies : cur.copies ≡ s.processes
  pub wide : cur.width ≡ width s cur.register.field
  pub inside : cur.reader + cur.copy < cur.copies
  pub at : IsAtCopy cur.run cur.reader cur.copy
  pub going : cur.bit < cur.width

reads-correspond : (s : Setup) (p : ℕ) (register : ℕ × Field) (cur : CursorState) → ReadsAt s p register cur → p < s.processes → cur.register.owner < s.processes → Corresponds s cur
reads-correspond s p register cur at inside owner = record {
  owner = owner;
  copies = at.copies;
  wide = at.wide ∙ ap (λ r. width s r.field) (sym at.at);
  inside = omega (arith, at.reader, at.copy, at.copies, inside);
  at = let P : RegisterAccessKind → Type 0 = λ r. IsAtCopy r cur.reader cur.copy in subst P (sym at.run) at.copy;
  going = at.going;
}

writes-correspond : (s : Setup) (p : ℕ) (written : Field × List Bool) (cur : CursorState) → WritesAt s p written cur → p < s.processes → Corresponds s cur
writes-correspond s p written cur at inside = record {
  owner = omega (arith, ap (λ r. r.owner) at.at, inside);
  copies = at.copies;
  wide = at.wide ∙ ap (λ r. width s r.field) (sym at.at);
  inside = omega (arith, at.reader, at.copy);
  at = let P : RegisterAccessKind → Type 0 = λ r. IsAtCopy r cur.reader cur.copy in subst P (sym at.run) at.reader;
  going = at.going;
}

part-corresponds : (c : Call) (part : Part) (cur : CursorState) (b : Bool) → c.process < c.setup.processes → cur.register.owner < c.setup.processes →
    elim b as (λ _. Type 0) [ true ↦ ReadsAt c.setup c.process (read_at c part) cur | false ↦ WritesAt c.setup c.process (written_at c part) cur ] → Corresponds c.setup cur × (is_settling cur.run ≡ false)
part-corresponds c part cur true inside owner at = (reads-correspond c.setup c.process (read_at c part) cur at inside owner, ap is_settling at.run)
part-corresponds c part cur false inside owner at = (writes-correspond c.setup c.process (written_at c part) cur at inside, ap is_settling at.run)

pub runs-correspond : (k : PartState) (cur : CursorState) → KeepsPlace k work.Runs cur → Corresponds k.call.setup cur × (is_settling cur.run ≡ false)
runs-correspond k cur keeps = part-corresponds k.call k.part cur (is_read k.part) keeps.call.process keeps.working.there keeps.working.at

settles-correspond : (s : Setup) (p : ℕ) (taken : Option (Bool × Reply)) (cur : CursorState) → SettlesAt s p taken cur → p < s.processes → Corresponds s cur
settles-correspond s p taken cur at inside = record {
  owner = omega (arith, at.owner, inside);
  copies = at.copies;
  wide = at.wide;
  inside = omega (arith, at.reader, at.copy);
  at = let P : RegisterAccessKind → Type 0 = λ r. IsAtCopy r cur.reader cur.copy in subst P (sym at.run) at.reader;
  going = at.going;
}

pub corresponds : (k : PartState) (w : Activity) (cur : CursorState) → KeepsPlace k w cur → may_step (doing_at k w cur) ≡ true → Corresponds k.call.setup cur
corresponds k work.Rests cur keeps goes = absurd (cc)
corresponds k work.Lies cur keeps goes = absurd (cc)
corresponds k work.Runs cur keeps goes = (runs-correspond k cur keeps).0
corresponds k work.Withdraws cur keeps goes = writes-correspond k.call.setup k.call.process _ cur keeps.working keeps.call.process
corresponds k (work.Settles inside taken) cur keeps goes = settles-correspond k.call.setup k.call.process taken cur keeps.working keeps.call.process
corresponds k (work.Frees inside) cur keeps goes = writes-correspond k.call.setup k.call.process _ cur keeps.working keeps.call.process
corresponds k work.Lowers cur keeps goes = writes-correspond k.call.setup k.call.process _ cur keeps.working keeps.call.process

-- so it fits every memory of the setup
pub corresponding-fit : (s : Setup) (memory : List (List Cell)) (cur : CursorState) → AreOf s memory → Corresponds s cur → Fits memory cur
corresponding-fit s memory cur of at = setup-fits s memory cur of at.owner at.copies at.wide at.inside at.at

-- THE VALUE OF ITS ACCESS

-- the end of a read has no value yet, and the access of a write has no flick
plain-move : (r : RegisterAccessKind) (cur : CursorState) (begun : Bool) (v x y : Bool) → cur.begun ≡ begun → is_settling r ≡ false → ended v (move_by r cur x) ≡ ended v (move_by r cur y)
plain-move run.Reads cur true v x y is plain = let P : Bool → Type 0 = λ b. ended v (read_move b x) ≡ ended v (read_move b y) in subst P (sym is) refl
plain-move run.Reads cur false v x y is plain = let P : Bool → Type 0 = λ b. ended v (read_move b x) ≡ ended v (read_move b y) in subst P (sym is) refl
plain-move run.Writes cur begun v x y is plain = refl
plain-move (run.Settles cut value) cur begun v x y is plain = absurd (cc)

pub answered-plain : (cur : CursorState) (n : ℕ) (memory : List (List Cell)) (flick x y : Bool) → is_settling cur.run ≡ false → answered n memory flick (next_access cur x) ≡ answered n memory flick (next_access cur y)
answered-plain cur n memory flick x y plain =
    let v : Bool = read_answer (cell_at memory (lane_of_access n (next_access cur x)) cur.bit) flick in
    λ i. record { owner = cur.register.owner; field = cur.register.field; bit = cur.bit; reader = cur.reader + cur.copy; how = plain-move cur.run cur cur.begun v x y refl plain i }

-- the access of its work
plain-works : (k : PartState) (w : Activity) (cur : CursorState) (memory : List (List Cell)) (flick : Bool) → KeepsPlace k w cur → may_step (doing_at k w cur) ≡ true →
    answered cur.copies memory flick (next_access cur (value_for_next w flick false)) ≡ next_answered cur memory flick
plain-works k work.Rests cur memory flick keeps goes = absurd (cc)
plain-works k work.Lies cur memory flick keeps goes = absurd (cc)
plain-works k work.Runs cur memory flick keeps goes = answered-plain cur cur.copies memory flick false flick (runs-correspond k cur keeps).1
plain-works k work.Withdraws cur memory flick keeps goes = answered-plain cur cur.copies memory flick false flick (ap is_settling keeps.working.run)
plain-works k (work.Settles inside taken) cur memory flick keeps goes = refl
plain-works k (work.Frees inside) cur memory flick keeps goes = answered-plain cur cur.copies memory flick false flick (ap is_settling keeps.working.run)
plain-works k work.Lowers cur memory flick keeps goes = answered-plain cur cur.copies memory flick false flick (ap is_settling keeps.working.run)

pub answered-is : (k : PartState) (w : Activity) (cur : CursorState) (memory : List (List Cell)) (flick : Bool) → KeepsPlace k w cur → may_step (doing_at k w cur) ≡ true →
    next_answered cur memory flick ≡ answered_at (state_at k w cur) memory flick
answered-is k w cur memory flick keeps goes =
    sym (plain-works k w cur memory flick keeps goes)
    ∙ ap (λ n. answered n memory flick (next_access cur (value_for_next w flick false))) (corresponds k w cur keeps goes).copies
    ∙ ap (answered k.call.setup.processes memory flick) (next-is k w cur flick keeps goes)

-- WITHIN A REGISTER ACCESS

-- accesses are left of a call that runs
pub remaining-works : (k : PartState) (w : Activity) (cur : CursorState) → 0 < remaining_at (state_at k w cur) → w ≡ work.Runs
remaining-works k work.Rests cur more = absurd (omega (arith, more))
remaining-works k work.Lies cur more = absurd (omega (arith, more))
remaining-works k work.Runs cur more = refl
remaining-works k work.Withdraws cur more = absurd (omega (arith, more))
remaining-works k (work.Settles inside taken) cur more = absurd (omega (arith, more))
remaining-works k (work.Frees inside) cur more = absurd (omega (arith, more))
remaining-works k work.Lowers cur more = absurd (omega (arith, more))

-- the move of the memory is the next one with its value
moved-by : (r : RegisterAccessKind) (cur : CursorState) (begun : Bool) (v x : Bool) → cur.begun ≡ begun → is_settling r ≡ false → move_by r cur (value_of (ended v (move_by r cur x))) ≡ ended v (move_by r cur x)
moved-by run.Reads cur true v x is plain = let P : Bool → Type 0 = λ b. read_move b (value_of (ended v (read_move b x))) ≡ ended v (read_move b x) in subst P (sym is) refl
moved-by run.Reads cur false v x is plain = let P : Bool → Type 0 = λ b. read_move b (value_of (ended v (read_move b x))) ≡ ended v (read_move b x) in subst P (sym is) refl
moved-by run.Writes cur true v x is plain = let P : Bool → Type 0 = λ b. cond b EndWrite (BeginWrite (get_or cur.bits cur.bit false)) ≡ ended v (cond b EndWrite (BeginWrite (get_or cur.bits cur.bit false))) in subst P (sym is) refl
moved-by run.Writes cur false v x is plain = let P : Bool → Type 0 = λ b. cond b EndWrite (BeginWrite (get_or cur.bits cur.bit false)) ≡ ended v (cond b EndWrite (BeginWrite (get_or cur.bits cur.bit false))) in subst P (sym is) refl
moved-by (run.Settles cut value) cur begun v x is plain = absurd (cc)

cursor-moves : (cur : CursorState) (memory : List (List Cell)) (flick : Bool) → is_settling cur.run ≡ false → let how : Move = (next_answered cur memory flick).how in moved cur (value_of how) ≡ cursor_after cur how
cursor-moves cur memory flick plain =
    let v : Bool = read_answer (cell_at memory (lane_of_access cur.copies (next_access cur flick)) cur.bit) flick in
    ap (cursor_after cur) (moved-by cur.run cur cur.begun v flick refl plain)

-- the case of a unit that settles, by the flick
settle-moved : (begun torn : Bool) (v x : Bool) → cond begun EndWrite (cond torn (Settle x) (BeginWrite x)) ≡ ended v (cond begun EndWrite (cond torn (Settle x) (BeginWrite x)))
settle-moved true torn v x = refl
settle-moved false true v x = refl
settle-moved false false v x = refl

settling-moved : (r : RegisterAccessKind) (cut : ℕ) (value : Option Bool) (cur : CursorState) (v x : Bool) → r ≡ run.Settles cut value → move_by r cur x ≡ ended v (move_by r cur x)
settling-moved r cut value cur v x is = let P : RegisterAccessKind → Type 0 = λ r. move_by r cur x ≡ ended v (move_by r cur x) in subst P (sym is) (settle-moved cur.begun (is_open_at cut cur.copy) v (unwrap_or value x))

-- the cursor of any work advances by the value that the memory returns
pub works-moved : (k : PartState) (w : Activity) (cur : CursorState) (memory : List (List Cell)) (flick : Bool) → KeepsPlace k w cur → may_step (doing_at k w cur) ≡ true →
    let how : Move = (next_answered cur memory flick).how in cursor_after cur how ≡ moved cur (value_for_next w flick (value_of how))
works-moved k work.Rests cur memory flick keeps goes = absurd (cc)
works-moved k work.Lies cur memory flick keeps goes = absurd (cc)
works-moved k work.Runs cur memory flick keeps goes = sym (cursor-moves cur memory flick (runs-correspond k cur keeps).1)
works-moved k work.Withdraws cur memory flick keeps goes = sym (cursor-moves cur memory flick (ap is_settling keeps.working.run))
works-moved k (work.Settles inside taken) cur memory flick keeps goes =
    let at = keeps.working in
    let v : Bool = read_answer (cell_at memory (lane_of_access cur.copies (next_access cur flick)) cur.bit) flick in
    ap (cursor_after cur) (sym (settling-moved cur.run at.cut at.value cur v flick at.run))
works-moved k (work.Frees inside) cur memory flick keeps goes = sym (cursor-moves cur memory flick (ap is_settling keeps.working.run))
works-moved k work.Lowers cur memory flick keeps goes = sym (cursor-moves cur memory flick (ap is_settling keeps.working.run))

pub step-moved : {k : PartState} {w : Activity} {fresh : Bool} {a : Access} {before cur : CursorState} (memory : List (List Cell)) (flick : Bool) → KeepsPlace k w before → may_step (doing_at k w before) ≡ true → a ≡ next_answered before memory flick → cur ≡ cursor_after before a.how → fresh ≡ is_fresh before →
    HasMoved k w flick (value_of a.how) before cur fresh
step-moved {k} {w} {fresh} {a} {before} {cur} memory flick keeps may is goes first =
    let P : Access → Type 0 = λ a. cursor_after before a.how ≡ moved before (value_for_next w flick (value_of a.how)) in
    record { keeps = keeps; goes = may; moves = goes ∙ subst P (sym is) (works-moved k w before memory flick keeps may); first = first }

-- the process advances with its cursor, at its part
pub serves-one : (k : PartState) (cur : CursorState) (memory : List (List Cell)) (flick : Bool) → KeepsPlace k work.Runs cur → 0 < remaining_at (state_at k work.Runs cur) →
    let how : Move = (next_answered cur memory flick).how in
    KeepsPlace k work.Runs (cursor_after cur how) × (state_at k work.Runs (cursor_after cur how) ≡ stepped (state_at k work.Runs cur) flick (value_of how))
serves-one k cur memory flick keeps more =
    let c : Call = k.call in
    let how : Move = (next_answered cur memory flick).how in
    let v : Bool = value_of how in
    let next : CursorState = cursor_after cur how in
    let goes : moved cur v ≡ next = cursor-moves cur memory flick (runs-correspond k cur keeps).1 in
    let live = live-by (is_over k.part) (remaining_of c k.part (run_at cur)) more in
    let m : Moves c k.part cur v = moves c k.part cur v keeps.working.at in
    let w = within c k.part (run_at cur) v (remaining-some c k.part (run_at cur) live.1).0 in
    let at : Place = record { part = k.part; run = run_at cur } in
    let run_is : run_after c k.part (run_at cur) v ≡ run_at next = m.run ∙ ap run_at goes in
    let then = remaining-runs c.setup c.process c.command c.number at flick v live.0 live.1 in (
      record {
        call = keeps.call;
        working = record {
          going = keeps.working.going;
          at = subst (IsAtPart c k.part) goes (m.stays (sym m.last ∙ w.last));
          there = subst (λ r. r.owner < c.setup.processes) (sym (same-by cur.run cur how).0) keeps.working.there;
        };
      },
      λ i. record { setup = c.setup; process = c.process; doing = sym (then ∙ ap (λ r. let to : Place = record { part = k.part; run = r } in Runs c.command c.number to) run_is) i; command = c.command; number = c.number },
    )

-- one step of it is one access of its cursor
pub serves-step : (k : PartState) (cur : CursorState) (memory : List (List Cell)) (flick : Bool) → KeepsPlace k work.Runs cur → 0 < remaining_at (state_at k work.Runs cur) →
    let a : Access = next_answered cur memory flick in
    (let then : ProcessState × List (List Cell) = (state_at k work.Runs (cursor_after cur a.how), applied cur.copies memory a) in then ≡ step_by flick (state_at k work.Runs cur, memory))
serves-step k cur memory flick keeps more =
    let s : Setup = k.call.setup in
    let a : Access = next_answered cur memory flick in
    let now : ProcessState = state_at k work.Runs cur in
    let one = serves-one k cur memory flick keeps more in
    let same : a ≡ answered_at now memory flick = answered-is k work.Runs cur memory flick keeps refl in
    (λ i. (one.1 i, applied ((runs-correspond k cur keeps).0.copies i) memory a))
    ∙ ap (λ (b : Access). let x : ProcessState × List (List Cell) = (stepped now flick (value_of b.how), applied s.processes memory b) in x) same

-- SEVERAL STEPS

-- the invariant after n accesses of the cursor and n steps
pub record Served (made : ℕ) (k : PartState) (cur : CursorState) (memory : List (List Cell)) (flicks : FlickState) : Type 0 where
  pub keeps : KeepsPlace k work.Runs (run_of made (cur, memory, flicks)).0
  pub remaining : remaining_at (state_at k work.Runs (run_of made (cur, memory, flicks)).0) + made ≡ remaining_at (state_at k work.Runs cur)
  pub now : (let then : ProcessState × List (List Cell) × FlickState = (state_at k work.Runs (run_of made (cur, memory, flicks)).0, (run_of made (cur, memory, flicks)).1, (run_of made (cur, memory, flicks)).2) in then ≡ steps_of made (state_at k work.Runs cur, memory, flicks))
  pub newest : registers.newest_of made (cur, memory, flicks) ≡ newest_of made (state_at k work.Runs cur, memory, flicks)
  pub overlapped : overlapped_of made (cur, memory, flicks) ≡ overlapped_steps made (state_at k work.Runs cur, memory, flicks)

pub served : (made : ℕ) (k : PartState) (cur : CursorState) (memory : List (List Cell)) (flicks : FlickState) → KeepsPlace k work.Runs cur → made ≤ remaining_at (state_at k work.Runs cur) → Served made k cur memory flicks
served zero k cur memory flicks keeps within = record { keeps = keeps; remaining = omega arith; now = refl; newest = answered-is k work.Runs cur memory (flick_of flicks) keeps refl; overlapped = refl }
served (suc made) k cur memory flicks keeps within =
    let before : Served made k cur memory flicks = served made k cur memory flicks keeps (omega (arith, within)) in
    let x : CursorState × List (List Cell) × FlickState = run_of made (cur, memory, flicks) in
    let flick : Bool = flick_of x.2 in
    let more : 0 < remaining_at (state_at k work.Runs x.0) = omega (arith, before.remaining, within) in
    let a : Access = next_answered x.0 x.1 flick in
    let one = serves-one k x.0 x.1 flick before.keeps more in
    let step = serves-step k x.0 x.1 flick before.keeps more in
    let fewer : remaining_at (stepped (state_at k work.Runs x.0) flick (value_of a.how)) + 1 ≡ remaining_at (state_at k work.Runs x.0) = remaining-fewer (state_at k work.Runs x.0) flick (value_of a.how) more in
    let start : ProcessState × List (List Cell) × FlickState = (state_at k work.Runs cur, memory, flicks) in
    let copies : x.0.copies ≡ k.call.setup.processes = (runs-correspond k x.0 before.keeps).0.copies in
    let same : a ≡ answered_at (state_at k work.Runs x.0) x.1 flick = answered-is k work.Runs x.0 x.1 flick before.keeps refl in
    record {
      keeps = one.0;
      remaining = omega (arith, ap remaining_at one.1, fewer, before.remaining);
      now =
          (λ i. ((step i).0, (step i).1, after_flick x.2))
          ∙ ap step_of before.now;
      newest = same ∙ ap answered_next before.now;
      overlapped =
          (λ i. before.overlapped i + cond (ends_overlapped (copies i) x.1 (same i)) 1 0)
          ∙ ap (λ y. overlapped_steps made start + cond (overlaps_step y) 1 0) before.now;
    }
