-- What an access that is not refused may read.
use Rattle.std.proofs.Common.{◌≡◌, ℕ, ◌^◌, ◌<◌, ◌≤◌, ◌==◌, ◌||◌, Bool, true, false, not, ◌&&◌, List, [], ◌∷◌, Option, None, Some, nat_lt, option_map, refl, sym, ap, ◌∙◌, arith, true≢false, length}
use Rattle.std.specs.Option.{option_to_list}
use Rattle.std.proofs.lemmas.Bool.{and_parts, ltb-true, ne_eqb, not-false}
use Rattle.trace.proofs.Tables.{neither_table, none_applies}
use Rattle.trace.specs.{CellAccess, CellMove, TraceMemory, TracePast, TraceRegister, TraceSetup, ends, fits, is_trace_setup, value_read, values}
use Rattle.trace.specs.declared.accesses.CellMove.TheVariants.{Read, Value, Get, Swap, Add, Cas}
use Rattle.trace.specs.declared.setups.TraceMemory.TheVariants.{Safe, Regular, Atomic}
use Rattle.trace_memory.specs.declared.allowed.Allowed.{Allowed}
use Rattle.trace_memory.specs.{CellRead, CellState, MadeAccess, allowed_by, allowed_in, allowed_of, allowed_open, allowed_values, allows, cell_after, cell_refusal, ends_move, has_cell, is_end_of, kept_access, kept_open, may_give, open_refusals, opened, overlapping, read_ended, read_since, reads_wrongly, register_of, same_cell, setup_refusals, stored, values_in, whole_read}
use Rattle.trace_memory.proofs.CellPlaces.{same_cell-eq}
use Rattle.trace_memory.proofs.Few.{filter-agree}
use Rattle.trace_memory.proofs.Sets.{allows-may}
use Rattle.trace_memory.proofs.SetupFacts.{few_values}

-- An access that is not refused.
pub record NotRefused (s : TraceSetup) (past : TracePast) (p : ℕ) (a : CellAccess) : Type 0 where
  pub fits : fits (register_of s a.cell).width a.how ≡ true
  pub ends : ends a.how ≡ true → is_end_of (opened p past) a ≡ true

if_ends : (b c : Bool) → (b && not c) ≡ false → b ≡ true → c ≡ true
if_ends true c h e = not-false c h
if_ends false c h e = absurd (true≢false (sym e))

pub not_refused : (s : TraceSetup) (past : TracePast) (p : ℕ) (idle : Bool) (a : CellAccess) → cell_refusal s past p idle a ≡ None → NotRefused s past p a
not_refused s past p idle a h =
    let both = neither_table (setup_refusals s p a) (open_refusals idle (opened p past) a) h in
    let setup = none_applies (setup_refusals s p a) both.first in
    let now = none_applies (open_refusals idle (opened p past) a) both.second in
    record {
      fits = not-false (fits (register_of s a.cell).width a.how) setup.1.1.1.1.0;
      ends = if_ends (ends a.how) (is_end_of (opened p past) a) now.1.0;
    }

-- What is kept of the read that an access ends, or of the cell, is what it may read.
abbrev pub kept_or_first : TraceSetup → CellState → Option Allowed → Allowed
kept_or_first s cell None = allowed_of s.memory cell.stored (option_to_list cell.writing)
kept_or_first s cell (Some k) = k

ended : (s : TraceSetup) (past : TracePast) (p v : ℕ) (a : CellAccess) (m : MadeAccess) → opened p past ≡ Some m → is_end_of (Some m) (record a { how = Value v }) ≡ true →
    kept_or_first s (cell_after s a.cell past) (allowed_open (Value v) (kept_open s p past)) ≡ allowed_by s.memory (register_of s a.cell) (read_ended past p (record a { how = Value v }))
ended s past p v a m is end = by m.access.how refl both.1
  where
    both : (same_cell m.access.cell a.cell ≡ true) × (ends_move m.access.how (Value v) ≡ true)
    both = and_parts (same_cell m.access.cell a.cell) (ends_move m.access.how (Value v)) end

    by : (how : CellMove) → m.access.how ≡ how → ends_move how (Value v) ≡ true →
        kept_or_first s (cell_after s a.cell past) (allowed_open (Value v) (kept_open s p past)) ≡ allowed_by s.memory (register_of s a.cell) (read_ended past p (record a { how = Value v }))
    by Read reads h =
        ap (λ o. kept_or_first s (cell_after s a.cell past) (allowed_open (Value v) (option_map (kept_access s) o))) is
        ∙ ap (λ how. kept_or_first s (cell_after s a.cell past) (allowed_in s (record m { access = record { cell = m.access.cell; how = how } }))) reads
        ∙ ap (λ c. allowed_by s.memory (register_of s c) (read_since c m)) (same_cell-eq m.access.cell a.cell both.0)
        ∙ ap (λ o. allowed_by s.memory (register_of s a.cell) (elim o as (λ _. CellRead) [ Some m ↦ read_since a.cell m | None ↦ whole_read a.cell past ])) (sym is)
    by _ reads h = absurd (true≢false (sym h))

pub read-kept : (s : TraceSetup) (past : TracePast) (p : ℕ) (idle : Bool) (a : CellAccess) → cell_refusal s past p idle a ≡ None →
    kept_or_first s (cell_after s a.cell past) (allowed_open a.how (kept_open s p past)) ≡ allowed_by s.memory (register_of s a.cell) (read_ended past p a)
read-kept s past p idle a h = by a.how (not_refused s past p idle a h).ends
  where
    at : (v : ℕ) (o : Option MadeAccess) → opened p past ≡ o → is_end_of o (record a { how = Value v }) ≡ true →
        kept_or_first s (cell_after s a.cell past) (allowed_open (Value v) (kept_open s p past)) ≡ allowed_by s.memory (register_of s a.cell) (read_ended past p (record a { how = Value v }))
    at v None is end = absurd (true≢false (sym end))
    at v (Some m) is end = ended s past p v a m is end

    by : (how : CellMove) → (ends how ≡ true → is_end_of (opened p past) (record a { how = how }) ≡ true) →
        kept_or_first s (cell_after s a.cell past) (allowed_open how (kept_open s p past)) ≡ allowed_by s.memory (register_of s a.cell) (read_ended past p (record a { how = how }))
    by (Value v) end = at v (opened p past) refl (end refl)
    by _ end = refl

-- The value that it reads fits.
value-fits : (width v : ℕ) (how : CellMove) → value_read how ≡ Some v → fits width how ≡ true → nat_lt v (2 ^ width) ≡ true
value-fits width v (Value x) is h = let same : x ≡ v = cc in ap (λ n. nat_lt n (2 ^ width)) (sym same) ∙ (and_parts _ _ h).0
value-fits width v (Get x) is h = let same : x ≡ v = cc in ap (λ n. nat_lt n (2 ^ width)) (sym same) ∙ (and_parts _ _ h).0
value-fits width v (Swap new x) is h = let same : x ≡ v = cc in ap (λ n. nat_lt n (2 ^ width)) (sym same) ∙ (and_parts _ _ (and_parts _ _ h).1).0
value-fits width v (Add addend x) is h = let same : x ≡ v = cc in ap (λ n. nat_lt n (2 ^ width)) (sym same) ∙ (and_parts _ _ (and_parts _ _ h).1).0
value-fits width v (Cas expected new x) is h = let same : x ≡ v = cc in ap (λ n. nat_lt n (2 ^ width)) (sym same) ∙ (and_parts _ _ (and_parts _ _ (and_parts _ _ h).1).1).0
value-fits width v _ is h = absurd (cc)

pub value-below : (s : TraceSetup) (past : TracePast) (p v : ℕ) (a : CellAccess) → NotRefused s past p a → value_read a.how ≡ Some v → v < 2 ^ (register_of s a.cell).width
value-below s past p v a kept is = ltb-true v (2 ^ (register_of s a.cell).width) (value-fits (register_of s a.cell).width v a.how is kept.fits)

-- Whether it may read that value.
pub wrong-kept : (s : TraceSetup) (past : TracePast) (p v : ℕ) (idle : Bool) (a : CellAccess) (allowed : Allowed) → is_trace_setup s ≡ true → has_cell s a.cell ≡ true →
    cell_refusal s past p idle a ≡ None → value_read a.how ≡ Some v → allowed ≡ allowed_by s.memory (register_of s a.cell) (read_ended past p a) → not (allows allowed v) ≡ reads_wrongly s past p a
wrong-kept s past p v idle a allowed good there h is kept =
    ap (λ k. not (allows k v)) kept
    ∙ ap not (allows-may s.memory (register_of s a.cell) (read_ended past p a) v (few_values s a.cell v good there (value-below s past p v a (not_refused s past p idle a h) is)))
    ∙ ap (λ o. elim o as (λ _. Bool) [ None ↦ false | Some v ↦ not (may_give s.memory (register_of s a.cell) (read_ended past p a) v) ]) (sym is)

pub right-kept : (s : TraceSetup) (past : TracePast) (p : ℕ) (a : CellAccess) → value_read a.how ≡ None → false ≡ reads_wrongly s past p a
right-kept s past p a is = ap (λ o. elim o as (λ _. Bool) [ None ↦ false | Some v ↦ not (may_give s.memory (register_of s a.cell) (read_ended past p a) v) ]) (sym is)

-- If it may not read some value, those that it may read are kept as a list.
values-safe : (width x v : ℕ) (values : List ℕ) → (not (length values == 0) || (x == v)) ≡ false → values_in width (allowed_of Safe x values) ≡ x ∷ []
values-safe width x v [] h = refl
values-safe width x v (w ∷ values) h = absurd (true≢false (sym (ap (λ b. not b || (x == v)) (ne_eqb (length (w ∷ values)) 0 (λ e. omega arith))) ∙ h))

pub values-kept : (m : TraceMemory) (r : TraceRegister) (read : CellRead) (v : ℕ) → may_give m r read v ≡ false → (m ≡ Regular → 2 ^ r.width ≤ 256) → values_in r.width (allowed_by m r read) ≡ allowed_values m r read
values-kept Safe r read v h few = values-safe r.width (stored r read.before) v (overlapping read) h
values-kept Regular r read v h few =
    filter-agree (allows (allowed_by Regular r read)) (may_give Regular r read) (2 ^ r.width)
    (λ k below. let most : 2 ^ r.width ≤ 256 = few refl in allows-may Regular r read k (λ _. omega arith))
values-kept Atomic r read v h few = refl
