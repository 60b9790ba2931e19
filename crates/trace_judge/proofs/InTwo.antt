-- An access in one entry, and its begin and end in two.
use Rattle.std.proofs.Common.{◌≡◌, ℕ, ◌==◌, Bool, true, false, ◌&&◌, cond, List, [], ◌∷◌, Option, None, Some, fold, length, option_map, refl, sym, ap, ◌∙◌, inl, inr, eq-eqb}
use Rattle.std.proofs.lemmas.Bool.{cases_eq}
use Rattle.trace.specs.{Cell, CellAccess, CellMove, LockMark, TraceEntry, TraceMemory, TracePast, TraceSetup, trace_entry, value_written}
use Rattle.trace.specs.declared.accesses.CellMove.TheVariants.{Write, End, Read, Value, Set, Get}
use Rattle.lock_stages.specs.{LockStage, lock_stage, stage_after}
use Rattle.lock_stages.proofs.Ahead.{alike-two}
use Rattle.trace_memory.specs.{CellState, MadeAccess, OpenAccess, allowed_after, cell_after, ends_move, if_begun, is_end_of, kept_open, latest_access, one_later, opened, opened_by, register_of, same_cell, seen, state_after}
use Rattle.trace_memory.proofs.CellPlaces.{same_cell-refl}
use Rattle.trace_memory.proofs.Made.{cell-with}
use Rattle.trace_memory.proofs.Overlaps.{open-mine, open-other}
use Rattle.trace_judge.specs.{lock_past, stage}
use Rattle.trace_judge.proofs.Alike.{Alike, bare}

-- a write or a read of a value in one entry, its begin and its end
abbrev pub whole_move : Bool → ℕ → CellMove
whole_move true v = Set v
whole_move false v = Get v

abbrev pub begin_move : Bool → ℕ → CellMove
begin_move true v = Write v
begin_move false v = Read

abbrev pub end_move : Bool → ℕ → CellMove
end_move true v = End
end_move false v = Value v

-- an access of a cell
abbrev pub access_to : Cell → CellMove → CellAccess
access_to c how = record { cell = c; how = how }

-- What both leave is alike.
cells-two : (w : Bool) (v width : ℕ) (k : CellState) (b : Bool) →
    cond b (state_after width k (whole_move w v)) k ≡ cond b (state_after width (cond b (state_after width k (begin_move w v)) k) (end_move w v)) (cond b (state_after width k (begin_move w v)) k)
cells-two true v width k true = refl
cells-two true v width k false = refl
cells-two false v width k true = refl
cells-two false v width k false = refl

no-begin : (w : Bool) (v n : ℕ) (m : TraceMemory) (k : CellState) (c : Cell) → opened_by m n k (access_to c (whole_move w v)) ≡ None
no-begin true v n m k c = refl
no-begin false v n m k c = refl

no-end : (w : Bool) (v n : ℕ) (m : TraceMemory) (k : CellState) (c : Cell) → opened_by m n k (access_to c (end_move w v)) ≡ None
no-end true v n m k c = refl
no-end false v n m k c = refl

-- an open access that sees both
seen-one : (w : Bool) (v : ℕ) (m : TraceMemory) (c : Cell) (b : Bool) (k : OpenAccess) → same_cell c k.cell ≡ b → seen m (access_to c (whole_move w v)) k ≡ seen m (access_to c (end_move w v)) (seen m (access_to c (begin_move w v)) k)
seen-one w v m c b k is = λ i. record { entry = k.entry; cell = k.cell; allowed = same w b is i }
  where
    at : (w b : Bool) → cond b (allowed_after m (value_written (whole_move w v)) k.allowed) k.allowed
        ≡ cond b (allowed_after m (value_written (end_move w v)) (cond b (allowed_after m (value_written (begin_move w v)) k.allowed) k.allowed)) (cond b (allowed_after m (value_written (begin_move w v)) k.allowed) k.allowed)
    at true true = refl
    at true false = refl
    at false true = refl
    at false false = refl

    same : (w b : Bool) → same_cell c k.cell ≡ b → (seen m (access_to c (whole_move w v)) k).allowed ≡ (seen m (access_to c (end_move w v)) (seen m (access_to c (begin_move w v)) k)).allowed
    same w b is = at w (same_cell c k.cell)

seen-two : (w : Bool) (v : ℕ) (m : TraceMemory) (c : Cell) (o : Option OpenAccess) →
    option_map (seen m (access_to c (whole_move w v))) o ≡ option_map (seen m (access_to c (end_move w v))) (option_map (seen m (access_to c (begin_move w v))) o)
seen-two w v m c None = refl
seen-two w v m c (Some k) = ap Some (seen-one w v m c (same_cell c k.cell) k refl)

stage-two : (b : Bool) (at : LockStage) (marks : List LockMark) → cond b (fold stage_after at marks) at ≡ cond b (fold stage_after (cond b (fold stage_after at []) at) marks) (cond b (fold stage_after at []) at)
stage-two true at marks = refl
stage-two false at marks = refl

stage-kept : (b : Bool) (at : LockStage) → cond b (fold stage_after at []) at ≡ at
stage-kept true at = refl
stage-kept false at = refl

module _ (s : TraceSetup) (p : ℕ) (c : Cell) (w : Bool) (v : ℕ) (marks : List LockMark) (past : TracePast) where
  abbrev whole : TraceEntry
  whole = trace_entry p (Some (access_to c (whole_move w v))) marks

  abbrev first : TraceEntry
  first = trace_entry p (Some (access_to c (begin_move w v))) []

  abbrev second : TraceEntry
  second = trace_entry p (Some (access_to c (end_move w v))) marks

  cells-of : (d : Cell) → cell_after s d (whole ∷ past) ≡ cell_after s d (second ∷ first ∷ past)
  cells-of d =
      let b = same_cell c d in
      let reg = register_of s d in
      cell-with s d past (whole_move w v) b
      ∙ cells-two w v reg.width (cell_after s d past) b
      ∙ ap (λ k. cond b (state_after reg.width k (end_move w v)) k) (sym (cell-with s d past (begin_move w v) b))
      ∙ sym (cell-with s d (first ∷ past) (end_move w v) b)

  opened-of : (q : ℕ) → bare (kept_open s q (whole ∷ past)) ≡ bare (kept_open s q (second ∷ first ∷ past))
  opened-of q = elim (cases_eq q p) [
    | inl mine ↦
        ap (λ r. bare (kept_open s r (whole ∷ past))) mine
        ∙ ap bare (open-mine s p (access_to c (whole_move w v)) marks past ∙ no-begin w v (length past) s.memory (cell_after s c past) c)
        ∙ sym (ap bare (open-mine s p (access_to c (end_move w v)) marks (first ∷ past) ∙ no-end w v (length (first ∷ past)) s.memory (cell_after s c (first ∷ past)) c))
        ∙ ap (λ r. bare (kept_open s r (second ∷ first ∷ past))) (sym mine)
    | inr apart ↦
        ap bare (open-other s p (access_to c (whole_move w v)) marks q past apart
        ∙ seen-two w v s.memory c (kept_open s q past)
        ∙ ap (option_map (seen s.memory (access_to c (end_move w v)))) (sym (open-other s p (access_to c (begin_move w v)) [] q past apart))
        ∙ sym (open-other s p (access_to c (end_move w v)) marks q (first ∷ past) apart))
  ]

  pub alike-of : Alike s (whole ∷ past) (second ∷ first ∷ past)
  alike-of = record {
    cells = cells-of;
    opened = opened-of;
    stage = λ q. stage-two (p == q) (lock_stage q (lock_past past)) marks;
    order = alike-two p marks (lock_past past);
  }

  -- The begin is open, and the end ends it.
  pub opened-first : opened p (first ∷ past) ≡ Some (record { access = access_to c (begin_move w v); before = past; since = [] })
  opened-first =
      ap (λ b. if_begun (elim (cond b (Some (access_to c (begin_move w v))) None) as (λ _. Option MadeAccess) [
        | Some a ↦ Some (record { access = a; before = past; since = [] })
        | None ↦ option_map (one_later first) (latest_access p past)
      ])) (eq-eqb p p refl)
      ∙ by w
    where
      by : (w : Bool) → if_begun (Some (record { access = access_to c (begin_move w v); before = past; since = [] })) ≡ Some (record { access = access_to c (begin_move w v); before = past; since = [] })
      by true = refl
      by false = refl

  pub ends-first : is_end_of (opened p (first ∷ past)) (access_to c (end_move w v)) ≡ true
  ends-first = ap (λ o. is_end_of o (access_to c (end_move w v))) opened-first ∙ ap (λ b. b && ends_move (begin_move w v) (end_move w v)) (same_cell-refl c) ∙ by w
    where
      by : (w : Bool) → ends_move (begin_move w v) (end_move w v) ≡ true
      by true = refl
      by false = refl

  pub stage-first : (q : ℕ) → stage q (first ∷ past) ≡ stage q past
  stage-first q = stage-kept (p == q) (lock_stage q (lock_past past))
