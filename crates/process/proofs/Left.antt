-- The accesses that are left within a register access: each has no mark, leaves one fewer, and keeps the stage.
use Rattle.std.proofs.Common.{◌≡◌, ℕ, zero, suc, ◌+◌, ◌-◌, ◌*◌, ◌<◌, ◌==◌, ◌&&◌, Bool, true, false, cond, List, [], ◌∷◌, ◌++◌, length, Option, None, Some, refl, sym, ap, ◌∙◌, arith}
use Rattle.std.proofs.Math.Nat.{mul-suc}
use Rattle.std.proofs.lemmas.Bool.{ne_eqb, eqb-true}
use Rattle.std.proofs.lemmas.List.{length_push}
use Rattle.plain_store.specs.{Command, Setup}
use Rattle.model.specs.{Call, Mark, Place, Reading, Run, Stage, Writing, bit_written, bits_with, enter, is_fresh, is_last, is_at_door, is_waiting_stage, place_after, run_after, width}
use Rattle.model.specs.reader_copies.Runs as copies
use Rattle.model.specs.safe_number.{NumberWrite, write_on}
use Rattle.model.specs.declared.stages.Stage.TheVariants as stage
use Rattle.model.specs.Parts.{Part, Raises, Asks, TakesTicket, Lowers, Refuses, Waits, AsksCommit, AsksStamp, AsksImage, WritesImage, WritesStamp, WritesCommit, Clears, Over, first_marks, is_over, last_marks, part_after, read_at, stage_of, written_at}
use Rattle.laws.specs.{Closes, Doing, Lies, Rests, Runs, call, does_then, marks_with, runs}
use Rattle.process.specs.{ProcessState, is_reported, remaining_at, remaining_of, marks_on, rest_of, stage_doing, stepped}

-- WITHIN A REGISTER ACCESS

-- the next access is not the last one, and leaves one fewer
pub record Within (c : Call) (part : Part) (run : Run) (v : Bool) : Type 0 where
  pub last : is_last c part run ≡ false
  pub fewer : rest_of c part (run_after c part run v) + 1 ≡ rest_of c part run
  pub goes : is_fresh (run_after c part run v) ≡ false

read-within : (c : Call) (part : Part) (bits : List Bool) (begun v : Bool) → 1 < rest_of c part (Reading bits begun) → Within c part (Reading bits begun) v
read-within c part bits false v more = record { last = refl; fewer = omega arith; goes = refl }
read-within c part bits true v more =
    let w : ℕ = width c.setup (read_at c part).1 in
    let inside : length bits + 1 < w = omega (arith, more) in
    let long : length (bits ++ v ∷ []) ≡ length bits + 1 = length_push bits v in
    record {
      last = ne_eqb (length bits + 1) w (omega (arith, inside));
      fewer = omega (arith, long, inside);
      goes = ne_eqb (length (bits ++ v ∷ [])) 0 (omega (arith, long));
    }

-- the number of accesses that a write has made of its present bit
abbrev made_of : NumberWrite → ℕ
made_of w = elim w.run as (λ _. ℕ) [ None ↦ 0 | Some bit ↦ bit.made ]

-- bits that are left
two-remaining : (n d : ℕ) → n < n * d → 1 < d
two-remaining n zero more = absurd (omega (arith, more))
two-remaining n (suc zero) more = absurd (omega (arith, more))
two-remaining n (suc (suc d)) more = omega arith

one-remaining : (n d : ℕ) → 0 < n * d → 0 < d
one-remaining n zero more = absurd (omega (arith, more))
one-remaining n (suc d) more = omega arith

one-fewer : (n width bit : ℕ) → bit < width → n * (width - bit) ≡ n * (width - (bit + 1)) + n
one-fewer n width bit inside = let e : width - bit ≡ suc (width - (bit + 1)) = omega (arith, inside) in ap (λ d. n * d) e ∙ mul-suc n (width - (bit + 1))

-- the write after its next access, by whether that is the last one of the bit
abbrev goes_to : NumberWrite → copies.Writing → Bool → NumberWrite
goes_to w bit ends = write_on w (record { value = bit.value; made = bit.made + 1; ended = ends })

module _ (c : Call) (part : Part) (w : NumberWrite) (v : Bool) where
  -- the numbers of copies and of bits that are left
  abbrev n : ℕ
  n = c.setup.processes

  abbrev d : ℕ
  d = w.width - w.bit

  abbrev now : copies.Writing
  now = bit_written (written_at c part).1 w

  -- the register access after its next access
  abbrev then_rest : NumberWrite → ℕ
  then_rest next = 2 * (n * (next.width - next.bit)) - made_of next

  write-by : (ends : Bool) → (now.made + 1 == 2 * n) ≡ ends → 1 < 2 * (n * d) - now.made →
      ((goes_to w now ends).bit == w.width) ≡ false × (then_rest (goes_to w now ends) + 1 ≡ 2 * (n * d) - now.made) × (is_fresh (Writing (goes_to w now ends)) ≡ false)
  write-by true ends more =
      let all : now.made + 1 ≡ 2 * n = eqb-true (now.made + 1) (2 * n) ends in
      let many : 1 < d = two-remaining n d (omega (arith, more, all)) in
      let fewer : n * d ≡ n * (w.width - (w.bit + 1)) + n = one-fewer n w.width w.bit (omega (arith, many)) in
      (ne_eqb (w.bit + 1) w.width (omega (arith, many)), omega (arith, fewer, all), ap (λ b. b && true) (ne_eqb (w.bit + 1) 0 (omega arith)))
  write-by false ends more =
      let some : 0 < d = one-remaining n d (omega (arith, more)) in
      (ne_eqb w.bit w.width (omega (arith, some)), omega (arith, more), none (w.bit == 0))
    where
      none : (b : Bool) → (b && false) ≡ false
      none true = refl
      none false = refl

-- the progress, by the form of the write
made-same : (bits : List Bool) (width bit : ℕ) (run : Option copies.Writing) → (bit_written bits (record { width = width; bit = bit; run = run })).made ≡ made_of (record { width = width; bit = bit; run = run })
made-same bits width bit None = refl
made-same bits width bit (Some x) = refl

write-within : (c : Call) (part : Part) (w : NumberWrite) (v : Bool) → 1 < rest_of c part (Writing w) → Within c part (Writing w) v
write-within c part w v more =
    let m : ℕ = (bit_written (written_at c part).1 w).made in
    let same : m ≡ made_of w = made-same (written_at c part).1 w.width w.bit w.run in
    let by = write-by c part w v (m + 1 == 2 * c.setup.processes) refl (omega (arith, more, same)) in
    record { last = by.0; fewer = by.1 ∙ (let e : 2 * (c.setup.processes * (w.width - w.bit)) - m ≡ rest_of c part (Writing w) = omega (arith, same) in e); goes = by.2 }

pub within : (c : Call) (part : Part) (run : Run) (v : Bool) → 1 < rest_of c part run → Within c part run v
within c part (Reading bits begun) v more = read-within c part bits begun v more
within c part (Writing w) v more = write-within c part w v more

-- THE ACCESSES LEFT

-- the first access of a part that `is_reported` rejects has no mark
unreported : (part : Part) → is_reported part ≡ false → first_marks part ≡ []
unreported Raises none = refl
unreported (Asks j js ts) none = refl
unreported (TakesTicket t) none = refl
unreported (Lowers t) none = refl
unreported (Refuses full) none = refl
unreported (Waits t w ws) none = refl
unreported (AsksCommit k ks vs) none = refl
unreported (AsksStamp k ks vs commit) none = refl
unreported (AsksImage vs) none = refl
unreported (WritesImage vs st) none = refl
unreported (WritesStamp vs st) none = refl
unreported (WritesCommit vs st) none = refl
unreported (Clears answer) none = absurd (cc)
unreported Over none = refl

-- if some accesses are left, they are those before the last one, and the next one has no mark
remaining-by : (fresh reported : Bool) (marks : List Mark) (rest : ℕ) → (reported ≡ false → marks ≡ []) → 0 < cond (fresh && reported) 0 (rest - 1) →
    (1 < rest) × (cond fresh marks [] ≡ []) × (cond (fresh && reported) 0 (rest - 1) ≡ rest - 1)
remaining-by true true marks rest none more = absurd (omega (arith, more))
remaining-by true false marks rest none more = (omega (arith, more), none refl, refl)
remaining-by false reported marks rest none more = (omega (arith, more), refl, refl)

pub remaining-some : (c : Call) (part : Part) (run : Run) → 0 < remaining_of c part run → (1 < rest_of c part run) × (cond (is_fresh run) (first_marks part) [] ≡ []) × (remaining_of c part run ≡ rest_of c part run - 1)
remaining-some c part run more = remaining-by (is_fresh run) (is_reported part) (first_marks part) (rest_of c part run) (unreported part) more

-- a call with accesses left is not over
pub live-by : (over : Bool) (remaining : ℕ) → 0 < cond over 0 remaining → (over ≡ false) × (0 < remaining)
live-by true remaining more = absurd (omega (arith, more))
live-by false remaining more = (refl, more)

-- the position after the next access is at the same part
pub remaining-place : (c : Call) (at : Place) (v : Bool) → 0 < remaining_of c at.part at.run → (let same : Place = record { part = at.part; run = run_after c at.part at.run v } in place_after c at v ≡ same)
remaining-place c at v more =
    let same : Place = record { part = at.part; run = run_after c at.part at.run v } in
    ap (λ b. cond b (enter c (part_after c at.part (bits_with at.run v))) same) (within c at.part at.run v (remaining-some c at.part at.run more).0).last

-- the work after the next access
pub remaining-runs : (s : Setup) (p : ℕ) (command : Command) (number : ℕ) (at : Place) (flick v : Bool) → is_over at.part ≡ false → 0 < remaining_of (call s p command number) at.part at.run →
    (let same : Place = record { part = at.part; run = run_after (call s p command number) at.part at.run v } in does_then s p (Runs command number at) flick v ≡ Runs command number same)
remaining-runs s p command number at flick v going more =
    let same : Place = record { part = at.part; run = run_after (call s p command number) at.part at.run v } in
    ap (runs command number) (remaining-place (call s p command number) at v more) ∙ ap (λ b. cond b Rests (Runs command number same)) going

-- a process with this work
abbrev does : ProcessState → Doing → ProcessState
does now d = record now { doing = d }

-- NO MARK

quiet-by : (now : ProcessState) (d : Doing) (flick v : Bool) → 0 < remaining_at (does now d) → marks_with now.setup now.process d flick v ≡ []
quiet-by now Rests flick v more = refl
quiet-by now Lies flick v more = refl
quiet-by now (Closes command number at) flick v more = absurd (omega (arith, more))
quiet-by now (Runs command number at) flick v more =
    let c : Call = call now.setup now.process command number in
    let live = live-by (is_over at.part) (remaining_of c at.part at.run) more in
    let remaining = remaining-some c at.part at.run live.1 in
    let last : is_last c at.part at.run ≡ false = (within c at.part at.run v remaining.0).last in
    (λ i. remaining.1 i ++ cond (last i) (last_marks c at.part (bits_with at.run v)) [])

-- none of the accesses that are left has a mark
pub remaining-quiet : (now : ProcessState) (flick v : Bool) → 0 < remaining_at now → marks_on now flick v ≡ []
remaining-quiet now flick v more = quiet-by now now.doing flick v more

-- ONE FEWER

fewer-by : (now : ProcessState) (d : Doing) (flick v : Bool) → 0 < remaining_at (does now d) → remaining_at (does now (does_then now.setup now.process d flick v)) + 1 ≡ remaining_at (does now d)
fewer-by now Rests flick v more = absurd (omega (arith, more))
fewer-by now Lies flick v more = absurd (omega (arith, more))
fewer-by now (Closes command number at) flick v more = absurd (omega (arith, more))
fewer-by now (Runs command number at) flick v more =
    let c : Call = call now.setup now.process command number in
    let live = live-by (is_over at.part) (remaining_of c at.part at.run) more in
    let remaining = remaining-some c at.part at.run live.1 in
    let w = within c at.part at.run v remaining.0 in
    let next : Run = run_after c at.part at.run v in
    let then : remaining_of c at.part next ≡ rest_of c at.part next - 1 = ap (λ b. cond (b && is_reported at.part) 0 (rest_of c at.part next - 1)) w.goes in
    ap (λ d. remaining_at (does now d) + 1) (remaining-runs now.setup now.process command number at flick v live.0 live.1)
    ∙ ap (λ b. cond b 0 (remaining_of c at.part next) + 1) live.0
    ∙ (let e : remaining_of c at.part next + 1 ≡ remaining_of c at.part at.run = omega (arith, then, remaining.0, remaining.2, w.fewer) in e)
    ∙ ap (λ b. cond b 0 (remaining_of c at.part at.run)) (sym live.0)

-- after each access one fewer is left
pub remaining-fewer : (now : ProcessState) (flick v : Bool) → 0 < remaining_at now → remaining_at (stepped now flick v) + 1 ≡ remaining_at now
remaining-fewer now flick v more = fewer-by now now.doing flick v more

-- THE STAGE

-- a test that does not separate a process inside from one that leaves does not depend on the progress of a part
stage-same : (f : Stage → Bool) → f stage.Inside ≡ f stage.Leaving → (part : Part) (a b : Bool) → f (stage_of part a) ≡ f (stage_of part b)
stage-same f same Raises a b = refl
stage-same f same (Asks j js ts) a b = refl
stage-same f same (TakesTicket t) a b = refl
stage-same f same (Lowers t) a b = refl
stage-same f same (Refuses full) a b = refl
stage-same f same (Waits t w ws) a b = refl
stage-same f same (AsksCommit k ks vs) a b = refl
stage-same f same (AsksStamp k ks vs commit) a b = refl
stage-same f same (AsksImage vs) a b = refl
stage-same f same (WritesImage vs st) a b = refl
stage-same f same (WritesStamp vs st) a b = refl
stage-same f same (WritesCommit vs st) a b = refl
stage-same f same (Clears answer) true true = refl
stage-same f same (Clears answer) true false = same
stage-same f same (Clears answer) false true = sym same
stage-same f same (Clears answer) false false = refl
stage-same f same Over a b = refl

stays-by : (now : ProcessState) (d : Doing) (flick v : Bool) → 0 < remaining_at (does now d) →
    (is_waiting_stage (stage_doing (does_then now.setup now.process d flick v)) ≡ is_waiting_stage (stage_doing d)) × (is_at_door (stage_doing (does_then now.setup now.process d flick v)) ≡ is_at_door (stage_doing d))
stays-by now Rests flick v more = (refl, refl)
stays-by now Lies flick v more = (refl, refl)
stays-by now (Closes command number at) flick v more = absurd (omega (arith, more))
stays-by now (Runs command number at) flick v more =
    let c : Call = call now.setup now.process command number in
    let live = live-by (is_over at.part) (remaining_of c at.part at.run) more in
    let then = remaining-runs now.setup now.process command number at flick v live.0 live.1 in (
      ap (λ d. is_waiting_stage (stage_doing d)) then ∙ stage-same is_waiting_stage refl at.part (is_fresh (run_after c at.part at.run v)) (is_fresh at.run),
      ap (λ d. is_at_door (stage_doing d)) then ∙ stage-same is_at_door refl at.part (is_fresh (run_after c at.part at.run v)) (is_fresh at.run),
    )

-- whether it waits, and whether it is in its doorway or waits, is the same after the access as before
pub remaining-stays : (now : ProcessState) (flick v : Bool) → 0 < remaining_at now →
    (is_waiting_stage (stage_doing (stepped now flick v).doing) ≡ is_waiting_stage (stage_doing now.doing)) × (is_at_door (stage_doing (stepped now flick v).doing) ≡ is_at_door (stage_doing now.doing))
remaining-stays now flick v more = stays-by now now.doing flick v more
