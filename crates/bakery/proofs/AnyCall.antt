-- At the door it makes no difference which command a call has, and which number.
use Rattle.std.proofs.Common.{◌≡◌, ℕ, ◌+◌, ◌==◌, ◌&&◌, Bool, cond, List, [], ◌∷◌, ◌++◌, length, refl, ap, ◌∙◌}
use Rattle.plain_store.specs.declared.Command.TheVariants.{Ask}
use Rattle.model.specs.{Call, Field, Place, Reading, Run, Wait, Writing, bits_with, enter, is_fresh, is_last, lets_by, marks_of, new_run, others, place_after, run_after, waits_of, width, write_moved}
use Rattle.model.specs.Parts.{Part, Raises, first_marks, last_marks, part_after, read_at, to_b, to_d, written_at}
use Rattle.process.specs.laws.{call}
use Rattle.bakery.proofs.AtDoor.{AtDoor, raises, asks, takes, lowers, refuses, waits}

-- the call of a door, with the process of call c
abbrev pub some_call : Call → Call
some_call c = call c.setup c.process Ask 0

-- the parts of both calls read and write equally
same-does : (c : Call) (part : Part) → AtDoor part → (read_at (some_call c) part ≡ read_at c part) × (written_at (some_call c) part ≡ written_at c part)
same-does c part raises = (refl, refl)
same-does c part _ = (refl, refl)

same-last : (c : Call) (part : Part) → AtDoor part → (run : Run) → is_last (some_call c) part run ≡ is_last c part run
same-last c part door (Writing w) = ap (λ (own : Field × List Bool). (write_moved c.setup.processes own.1 w).bit == w.width) (same-does c part door).1
same-last c part door (Reading bits begun) = ap (λ (register : ℕ × Field). begun && (length bits + 1 == width c.setup register.1)) (same-does c part door).0

same-run : (c : Call) (part : Part) → AtDoor part → (run : Run) (v : Bool) → run_after (some_call c) part run v ≡ run_after c part run v
same-run c part door (Writing w) v = ap (λ (own : Field × List Bool). Writing (write_moved c.setup.processes own.1 w)) (same-does c part door).1
same-run c part door (Reading bits begun) v = refl

-- a number access of which nothing is made, of any part
same-new : (c : Call) (part : Part) → new_run (some_call c) part ≡ new_run c part
same-new c Raises = refl
same-new c _ = refl

same-b : (c : Call) (js ts : List ℕ) → to_b (some_call c) js ts ≡ to_b c js ts
same-b c [] ts = refl
same-b c (j ∷ js) ts = refl

same-d : (c : Call) (t : ℕ) (ws : List Wait) → to_d (some_call c) t ws ≡ to_d c t ws
same-d c t [] = refl
same-d c t (w ∷ ws) = refl

same-part : (c : Call) (part : Part) → AtDoor part → (bits : List Bool) → part_after (some_call c) part bits ≡ part_after c part bits
same-part c part raises bits = same-b c (others c.setup c.process) []
same-part c part (asks j js ts) bits = same-b c js _
same-part c part (takes t) bits = refl
same-part c part (lowers t) bits = same-d c t (waits_of c)
same-part c part (refuses full) bits = refl
same-part c part (waits t w ws) bits = same-d c t (cond (lets_by c t w bits) ws (w ∷ ws))

same-marks : (c : Call) (part : Part) → AtDoor part → (bits : List Bool) → last_marks (some_call c) part bits ≡ last_marks c part bits
same-marks c part raises bits = refl
same-marks c part _ bits = refl

-- both calls move to equal places
pub same-after : (c : Call) (at : Place) (v : Bool) → AtDoor at.part → place_after (some_call c) at v ≡ place_after c at v
same-after c at v door =
    let last = same-last c at.part door at.run in
    let run = same-run c at.part door at.run v in
    let part = same-part c at.part door (bits_with at.run v) in
    (λ i. cond (last i) (enter (some_call c) (part i)) (record { part = at.part; run = run i }))
    ∙ (let new = same-new c (part_after c at.part (bits_with at.run v)) in λ i. cond (is_last c at.part at.run) (record { part = part_after c at.part (bits_with at.run v); run = new i }) (record { part = at.part; run = run_after c at.part at.run v }))

-- both calls have equal marks
pub same-marked : (c : Call) (at : Place) (v : Bool) → AtDoor at.part → marks_of (some_call c) at v ≡ marks_of c at v
same-marked c at v door =
    let last = same-last c at.part door at.run in
    let marks = same-marks c at.part door (bits_with at.run v) in
    λ i. cond (is_fresh at.run) (first_marks at.part) [] ++ cond (last i) (marks i) []
