-- The parts of a call at the door, and the results of its accesses there.
use Rattle.std.proofs.Common.{◌≡◌, ℕ, ◌+◌, ◌==◌, Bool, true, false, cond, List, [], ◌∷◌, ◌++◌, refl, sym, ap, subst}
use Rattle.model.specs.{Call, Mark, Place, Stage, Wait, bits_with, enter, entered_if_none, first_full, greatest, is_fresh, is_last, is_at_door, is_waiting_stage, lets_by, marks_of, max_of, new_run, others, place_after, processes, run_after, stage_at, waits_of}
use Rattle.model.specs.declared.marks.Mark.TheVariants as mark
use Rattle.model.specs.declared.stages.Stage.TheVariants as stage
use Rattle.plain_store.specs.{Command}
use Rattle.model.specs.Parts.{Part, Raises, Asks, TakesTicket, Lowers, Refuses, Waits, AsksCommit, AsksStamp, AsksImage, WritesImage, WritesStamp, WritesCommit, Clears, Over, first_marks, last_marks, part_after, stage_of, to_b, to_d, to_e}
use Rattle.process.specs.laws.{runs}
use Rattle.process.specs.{full_at, stage_doing, ticket_at}
use Rattle.bakery.specs.Doors.{goes_on, marks_reported, reports_wait, reported_at}

-- a part of the doorway or of the waiting
pub data AtDoor : Part → Type 0 where
  raises : AtDoor Raises
  asks : (j : ℕ) (js ts : List ℕ) → AtDoor (Asks j js ts)
  takes : (t : ℕ) → AtDoor (TakesTicket t)
  lowers : (t : ℕ) → AtDoor (Lowers t)
  refuses : (full : ℕ) → AtDoor (Refuses full)
  waits : (t : ℕ) (w : Wait) (ws : List Wait) → AtDoor (Waits t w ws)

pub at-door : (part : Part) (fresh : Bool) → is_at_door (stage_of part fresh) ≡ true → AtDoor part
at-door Raises fresh queued = raises
at-door (Asks j js ts) fresh queued = asks j js ts
at-door (TakesTicket t) fresh queued = takes t
at-door (Lowers t) fresh queued = lowers t
at-door (Refuses full) fresh queued = refuses full
at-door (Waits t w ws) fresh queued = waits t w ws
at-door (AsksCommit k ks vs) fresh queued = absurd (cc)
at-door (AsksStamp k ks vs b) fresh queued = absurd (cc)
at-door (AsksImage vs) fresh queued = absurd (cc)
at-door (WritesImage vs st) fresh queued = absurd (cc)
at-door (WritesStamp vs st) fresh queued = absurd (cc)
at-door (WritesCommit vs st) fresh queued = absurd (cc)
at-door (Clears a) true queued = absurd (cc)
at-door (Clears a) false queued = absurd (cc)
at-door Over fresh queued = absurd (cc)

-- the stage of a call, wherever it is
pub stage-runs : (command : Command) (number : ℕ) (at : Place) → stage_doing (runs command number at) ≡ stage_at at
stage-runs command number at = by at.part
  where
    by : (part : Part) → (let x : Place = record { part = part; run = at.run } in stage_doing (runs command number x) ≡ stage_at x)
    by Raises = refl
    by (Asks j js ts) = refl
    by (TakesTicket t) = refl
    by (Lowers t) = refl
    by (Refuses full) = refl
    by (Waits t w ws) = refl
    by (AsksCommit k ks vs) = refl
    by (AsksStamp k ks vs b) = refl
    by (AsksImage vs) = refl
    by (WritesImage vs st) = refl
    by (WritesStamp vs st) = refl
    by (WritesCommit vs st) = refl
    by (Clears a) = refl
    by Over = refl

-- the result of an access from a part to a stage, with these marks
pub record IsSaid (before : Stage) (part : Part) (next : Stage) (made : List Mark) : Type 0 where
  pub going : is_at_door next ≡ goes_on (reported_at next (ticket_at part) (full_at part))
  pub waiting : is_waiting_stage next ≡ reports_wait (reported_at next (ticket_at part) (full_at part))
  pub marks : made ≡ marks_reported before (reported_at next (ticket_at part) (full_at part))

-- within a number access
said-within : (part : Part) → AtDoor part → (before fresh : Bool) → IsSaid (stage_of part before) part (stage_of part fresh) []
said-within part raises before fresh = record { going = refl; waiting = refl; marks = refl }
said-within part (asks j js ts) before fresh = record { going = refl; waiting = refl; marks = refl }
said-within part (takes t) before fresh = record { going = refl; waiting = refl; marks = refl }
said-within part (lowers t) before fresh = record { going = refl; waiting = refl; marks = refl }
said-within part (refuses full) before fresh = record { going = refl; waiting = refl; marks = refl }
said-within part (waits t w ws) before fresh = record { going = refl; waiting = refl; marks = refl }

-- the doorway continues
doorway-on : (c : Call) (js ts : List ℕ) (fresh : Bool) → stage_of (to_b c js ts) fresh ≡ stage.Doorway
doorway-on c (j ∷ js) ts fresh = refl
doorway-on c [] ts fresh = by (greatest ts == max_of c.setup.ticket_bits)
  where
    by : (b : Bool) → stage_of (elim b as (λ _. Part) [ true ↦ Refuses (first_full c ts) | false ↦ TakesTicket (greatest ts + 1) ]) fresh ≡ stage.Doorway
    by true = refl
    by false = refl

-- the doorway ends
said-lowered : (c : Call) (t : ℕ) (ws : List Wait) (ks : List ℕ) (fresh : Bool) → IsSaid stage.Doorway (Lowers t) (stage_of (elim ws as (λ _. Part) [ [] ↦ to_e ks [] | w ∷ more ↦ Waits t w more ]) fresh) (mark.Waiting t ∷ entered_if_none ws)
said-lowered c t (w ∷ ws) ks fresh = record { going = refl; waiting = refl; marks = refl }
said-lowered c t [] [] fresh = record { going = refl; waiting = refl; marks = refl }
said-lowered c t [] (k ∷ ks) fresh = record { going = refl; waiting = refl; marks = refl }

-- a wait has read
said-waited : (t : ℕ) (w : Wait) (ws : List Wait) (ks : List ℕ) (by fresh : Bool) → IsSaid stage.Waiting (Waits t w ws) (stage_of (elim (cond by ws (w ∷ ws)) as (λ _. Part) [ [] ↦ to_e ks [] | x ∷ more ↦ Waits t x more ]) fresh) (cond by (entered_if_none ws) [])
said-waited t w ws ks false fresh = record { going = refl; waiting = refl; marks = refl }
said-waited t w (x ∷ ws) ks true fresh = record { going = refl; waiting = refl; marks = refl }
said-waited t w [] [] true fresh = record { going = refl; waiting = refl; marks = refl }
said-waited t w [] (k ∷ ks) true fresh = record { going = refl; waiting = refl; marks = refl }

d-is : (c : Call) (t : ℕ) (ws : List Wait) → to_d c t ws ≡ elim ws as (λ _. Part) [ [] ↦ to_e (processes c.setup) [] | w ∷ more ↦ Waits t w more ]
d-is c t [] = refl
d-is c t (w ∷ ws) = refl

-- at the end of a number access
said-over : (c : Call) (part : Part) → AtDoor part → (bits : List Bool) (before fresh : Bool) → IsSaid (stage_of part before) part (stage_of (part_after c part bits) fresh) (last_marks c part bits)
said-over c part raises bits before fresh =
    subst (λ s. IsSaid stage.Doorway Raises s []) (sym (doorway-on c (others c.setup c.process) [] fresh)) (record { going = refl; waiting = refl; marks = refl })
said-over c part (asks j js ts) bits before fresh =
    subst (λ s. IsSaid stage.Doorway (Asks j js ts) s []) (sym (doorway-on c js _ fresh)) (record { going = refl; waiting = refl; marks = refl })
said-over c part (takes t) bits before fresh = record { going = refl; waiting = refl; marks = refl }
said-over c part (lowers t) bits before fresh =
    subst (λ p. IsSaid stage.Doorway (Lowers t) (stage_of p fresh) (mark.Waiting t ∷ entered_if_none (waits_of c))) (sym (d-is c t (waits_of c))) (said-lowered c t (waits_of c) (processes c.setup) fresh)
said-over c part (refuses full) bits before fresh = record { going = refl; waiting = refl; marks = refl }
said-over c part (waits t w ws) bits before fresh =
    subst (λ p. IsSaid stage.Waiting (Waits t w ws) (stage_of p fresh) (cond (lets_by c t w bits) (entered_if_none ws) [])) (sym (d-is c t (cond (lets_by c t w bits) ws (w ∷ ws)))) (said-waited t w ws (processes c.setup) (lets_by c t w bits) fresh)

-- no part of the door has a mark at its begin
unmarked : (part : Part) → AtDoor part → (fresh : Bool) → cond fresh (first_marks part) [] ≡ []
unmarked part raises true = refl
unmarked part (asks j js ts) true = refl
unmarked part (takes t) true = refl
unmarked part (lowers t) true = refl
unmarked part (refuses full) true = refl
unmarked part (waits t w ws) true = refl
unmarked part at false = refl

-- each access from a queued stage has its result
pub said : (c : Call) (at : Place) (v : Bool) → is_at_door (stage_at at) ≡ true → IsSaid (stage_at at) at.part (stage_at (place_after c at v)) (marks_of c at v)
said c at v queued =
    let door = at-door at.part (is_fresh at.run) queued in
    subst (IsSaid (stage_at at) at.part (stage_at (place_after c at v))) (sym (ap (λ (first : List Mark). first ++ cond (is_last c at.part at.run) (last_marks c at.part (bits_with at.run v)) []) (unmarked at.part door (is_fresh at.run)))) (by door (is_last c at.part at.run))
  where
    by : AtDoor at.part → (b : Bool) →
        let next : Place = cond b (enter c (part_after c at.part (bits_with at.run v))) (record { part = at.part; run = run_after c at.part at.run v }) in
        IsSaid (stage_at at) at.part (stage_at next) (cond b (last_marks c at.part (bits_with at.run v)) [])
    by door true = said-over c at.part door (bits_with at.run v) (is_fresh at.run) (is_fresh (new_run c (part_after c at.part (bits_with at.run v))))
    by door false = said-within at.part door (is_fresh at.run) (is_fresh (run_after c at.part at.run v))
