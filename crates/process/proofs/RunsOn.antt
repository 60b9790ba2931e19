-- A process that runs its call advances by its cursor.
use Rattle.std.proofs.Common.{◌≡◌, ◌<◌, ◌&&◌, Bool, true, false, cond, List, [], ◌∷◌, ◌++◌, refl, sym, ap, ◌∙◌, subst}
use Rattle.std.proofs.lemmas.List.{append-nil}
use Rattle.model.specs.{Mark, Part, enter, first_marks, is_over, last_marks, part_after}
use Rattle.model.specs.declared.marks.Mark.TheVariants as mark
use Rattle.laws.specs.{Rests, Runs, runs}
use Rattle.registers.specs.{CursorState, IsAtPart, RegisterAccessKind, RegisterName, after_by, entered, marks_moved, move_by, moved, place_at, place_moved}
use Rattle.registers.specs.Cursors as cursors
use Rattle.registers.specs.declared.cursor.RegisterAccessKind.TheVariants.{Reads, Writes, Settles}
use Rattle.registers.proofs.CursorRuns.{moves}
use Rattle.registers.proofs.PlaceMoves.{entered-place, marks-move, place-moves}
use Rattle.process.specs.declared.activity.Activity.TheVariants as work
use Rattle.process.specs.{HasMoved, KeepsPlace, PartState, marks_on, state_at, stepped, with_doing}

-- the position after its next access
after-is : (k : PartState) (flick value : Bool) (before cur : CursorState) (fresh : Bool) → HasMoved k work.Runs flick value before cur fresh →
    stepped (state_at k work.Runs before) flick value ≡ with_doing k (runs k.call.command k.call.number (place_moved k.call k.part cur))
after-is k flick value before cur fresh h =
    ap (λ at. with_doing k (runs k.call.command k.call.number at)) (place-moves k.call k.part before value h.keeps.working.at ∙ ap (place_moved k.call k.part) (sym h.moves))

-- within a register access
pub runs-within : (k : PartState) (flick value : Bool) (before cur : CursorState) (fresh : Bool) → HasMoved k work.Runs flick value before cur fresh → cursors.is_over cur ≡ false →
    state_at k work.Runs cur ≡ stepped (state_at k work.Runs before) flick value
runs-within k flick value before cur fresh h more =
    sym (after-is k flick value before cur fresh h
    ∙ ap (λ b. with_doing k (runs k.call.command k.call.number (cond b (enter k.call (part_after k.call k.part cur.bits)) (place_at k.part cur)))) more
    ∙ ap (λ b. with_doing k (cond b Rests (Runs k.call.command k.call.number (place_at k.part cur)))) h.keeps.working.going)

-- after the register access
past : (k : PartState) (flick value : Bool) (before cur : CursorState) (fresh : Bool) → HasMoved k work.Runs flick value before cur fresh → cursors.is_over cur ≡ true →
    stepped (state_at k work.Runs before) flick value ≡ with_doing k (runs k.call.command k.call.number (enter k.call (part_after k.call k.part cur.bits)))
past k flick value before cur fresh h over =
    after-is k flick value before cur fresh h
    ∙ ap (λ b. with_doing k (runs k.call.command k.call.number (cond b (enter k.call (part_after k.call k.part cur.bits)) (place_at k.part cur)))) over

pub runs-over : (k next : PartState) (flick value : Bool) (before cur then : CursorState) (fresh : Bool) → HasMoved k work.Runs flick value before cur fresh → cursors.is_over cur ≡ true →
    next ≡ record k { part = part_after k.call k.part cur.bits } → is_over next.part ≡ true → state_at next work.Rests then ≡ stepped (state_at k work.Runs before) flick value
runs-over k next flick value before cur then fresh h over is ended =
    let part : Part = part_after k.call k.part cur.bits in
    let done : is_over part ≡ true = ap (λ (n : PartState). is_over n.part) (sym is) ∙ ended in
    ap (λ n. state_at n work.Rests then) is
    ∙ sym (past k flick value before cur fresh h over ∙ ap (λ b. with_doing k (cond b Rests (Runs k.call.command k.call.number (enter k.call part)))) done)

pub runs-next : (k next : PartState) (flick value : Bool) (before cur then : CursorState) (fresh : Bool) → HasMoved k work.Runs flick value before cur fresh → cursors.is_over cur ≡ true →
    next ≡ record k { part = part_after k.call k.part cur.bits } → is_over next.part ≡ false → then ≡ entered next.call next.part → state_at next work.Runs then ≡ stepped (state_at k work.Runs before) flick value
runs-next k next flick value before cur then fresh h over is going enters =
    let part : Part = part_after k.call k.part cur.bits in
    let more : is_over part ≡ false = ap (λ (n : PartState). is_over n.part) (sym is) ∙ going in
    ap (state_at next work.Runs) enters
    ∙ ap (λ (n : PartState). state_at n work.Runs (entered n.call n.part)) is
    ∙ ap (λ at. with_doing k (Runs k.call.command k.call.number at)) (entered-place k.call part)
    ∙ sym (past k flick value before cur fresh h over ∙ ap (λ b. with_doing k (cond b Rests (Runs k.call.command k.call.number (enter k.call part)))) more)

-- the marks
marks-are : (k : PartState) (flick value : Bool) (before cur : CursorState) (fresh : Bool) → HasMoved k work.Runs flick value before cur fresh →
    marks_on (state_at k work.Runs before) flick value ≡ cond fresh (first_marks k.part) [] ++ cond (cursors.is_over cur) (last_marks k.call k.part cur.bits) []
marks-are k flick value before cur fresh h =
    marks-move k.call k.part before value h.keeps.working.at
    ∙ ap (marks_moved k.call k.part before) (sym h.moves)
    ∙ ap (λ b. cond b (first_marks k.part) [] ++ cond (cursors.is_over cur) (last_marks k.call k.part cur.bits) []) (sym h.first)

pub marks-within : (k : PartState) (flick value : Bool) (before cur : CursorState) (fresh : Bool) → HasMoved k work.Runs flick value before cur fresh → cursors.is_over cur ≡ false →
    marks_on (state_at k work.Runs before) flick value ≡ cond fresh (first_marks k.part) []
marks-within k flick value before cur fresh h more =
    marks-are k flick value before cur fresh h
    ∙ ap (λ b. cond fresh (first_marks k.part) [] ++ cond b (last_marks k.call k.part cur.bits) []) more
    ∙ append-nil (cond fresh (first_marks k.part) [])

pub marks-past : (k : PartState) (flick value : Bool) (before cur : CursorState) (fresh : Bool) → HasMoved k work.Runs flick value before cur fresh → cursors.is_over cur ≡ true →
    marks_on (state_at k work.Runs before) flick value ≡ last_marks k.call k.part cur.bits
marks-past k flick value before cur fresh h over =
    let m = moves k.call k.part before value h.keeps.working.at in
    let done : cursors.is_over (moved before value) ≡ true = ap cursors.is_over (sym h.moves) ∙ over in
    marks-are k flick value before cur fresh h
    ∙ ap (λ b. cond fresh (first_marks k.part) [] ++ cond b (last_marks k.call k.part cur.bits) []) over
    ∙ ap (λ b. cond b (first_marks k.part) [] ++ last_marks k.call k.part cur.bits) (h.first ∙ m.begins done)

-- the outcome that the code returns within a register access
pub first-reported : (k : PartState) (fresh leaves : Bool) → first_marks k.part ≡ cond leaves (mark.Left ∷ []) [] → cond (leaves && fresh) (let remaining : List Mark = mark.Left ∷ [] in remaining) [] ≡ cond fresh (first_marks k.part) []
first-reported k fresh leaves is = by fresh leaves ∙ ap (λ marks. cond fresh marks []) (sym is)
  where
    by : (fresh leaves : Bool) → cond (leaves && fresh) (let remaining : List Mark = mark.Left ∷ [] in remaining) [] ≡ cond fresh (cond leaves (mark.Left ∷ []) []) []
    by true true = refl
    by true false = refl
    by false true = refl
    by false false = refl

-- an access leaves the register
pub moved-register : (cur : CursorState) (v : Bool) → (moved cur v).register ≡ cur.register
moved-register cur v = by cur.run
  where
    by : (run : RegisterAccessKind) → (after_by run cur (move_by run cur v)).register ≡ cur.register
    by Reads = refl
    by Writes = refl
    by (Settles cut value) = refl

-- the cursor is that of the work
pub still-runs : (k : PartState) (flick value : Bool) (before cur : CursorState) (fresh : Bool) → HasMoved k work.Runs flick value before cur fresh → cursors.is_over cur ≡ false → KeepsPlace k work.Runs cur
still-runs k flick value before cur fresh h more =
    let runs = h.keeps.working in
    let m = moves k.call k.part before value runs.at in
    let same : cur.register ≡ before.register = ap (λ (x : CursorState). x.register) h.moves ∙ moved-register before value in
    record {
      call = h.keeps.call;
      working = record {
        going = runs.going;
        at = subst (IsAtPart k.call k.part) (sym h.moves) (m.stays (ap cursors.is_over (sym h.moves) ∙ more));
        there = subst (λ (r : RegisterName). r.owner < k.call.setup.processes) (sym same) runs.there;
      };
    }
