-- If all accesses are whole, all memories judge alike.
use Rattle.std.proofs.Common.{◌≡◌, ℕ, ◌==◌, Bool, true, false, not, ◌&&◌, ◌||◌, cond, List, [], ◌∷◌, ◌++◌, Option, None, Some, is_some, length, nat_lt, refl, sym, ap, ◌∙◌, true≢false}
use Rattle.std.specs.List.{list_all, list_any}
use Rattle.std.specs.Option.{option_to_list}
use Rattle.std.proofs.lemmas.Bool.{and_parts}
use Rattle.trace.specs.{Cell, CellAccess, CellMove, TraceEntry, TraceMemory, TracePast, TraceRegister, TraceSetup, changes, first_that, fits, is_atomic, is_part, only_writes, value_read}
use Rattle.trace.specs.declared.accesses.CellMove.TheVariants.{Set, Get}
use Rattle.trace.specs.declared.setups.TraceMemory.TheVariants.{Safe, Regular, Atomic}
use Rattle.lock_stages.specs.{is_idle}
use Rattle.trace_memory.specs.{CellRefusal, cell_refusal, has_cell, is_own, may_give, move_on, moves_on, open_refusals, open_write, opened, read_ended, reads_wrongly, register_of, same_cell, stored, whole_read, with_move}
use Rattle.trace_memory.specs.declared.refusals.CellRefusal.TheVariants as refusal
use Rattle.trace_judge.specs.{TraceVerdict, breaks_marks, breaks_overtaken, breaks_together, first_broken, has_whole, is_whole, stage, verdict_after, verdict_with, with_memory}
use Rattle.trace_judge.specs.declared.verdicts.TraceLaw.TheVariants as law
use Rattle.trace_judge.specs.declared.verdicts.TraceVerdict.TheVariants.{Good, Bad}

-- No write is open.
pub none-open : (c : Cell) (past : TracePast) → list_all has_whole past ≡ true → open_write (moves_on c past) ≡ None
none-open c [] whole = refl
none-open c (e ∷ past) whole =
    let both = and_parts (has_whole e) (list_all has_whole past) whole in
    by e.access both.0 (none-open c past both.1)
  where
    at : (b : Bool) (how : CellMove) → is_whole how ≡ true → open_write (moves_on c past) ≡ None → open_write (with_move (cond b (Some how) None) (moves_on c past)) ≡ None
    at false how whole none = none
    at true (Set v) whole none = refl
    at true (Get v) whole none = none
    at true _ whole none = absurd (true≢false (sym whole))

    by : (o : Option CellAccess) → elim o as (λ _. Bool) [ None ↦ true | Some a ↦ is_whole a.how ] ≡ true → open_write (moves_on c past) ≡ None → open_write (with_move (move_on c o) (moves_on c past)) ≡ None
    by None whole none = none
    by (Some a) whole none = at (same_cell a.cell c) a.how whole none

-- A read that begins and ends in one entry may give the stored value alone.
pub may-stored : (m : TraceMemory) (reg : TraceRegister) (c : Cell) (past : TracePast) (v : ℕ) → open_write (moves_on c past) ≡ None → may_give m reg (whole_read c past) v ≡ (stored reg (moves_on c past) == v)
may-stored Safe reg c past v none = ap (λ o. not (length (option_to_list o) == 0) || (stored reg (moves_on c past) == v)) none
may-stored Regular reg c past v none = ap (λ o. list_any (λ x. x == v) (option_to_list o) || (stored reg (moves_on c past) == v)) none
may-stored Atomic reg c past v none = refl

pub read-whole : (past : TracePast) (p : ℕ) (c : Cell) (how : CellMove) → is_whole how ≡ true → read_ended past p (record { cell = c; how = how }) ≡ whole_read c past
read-whole past p c (Set v) whole = refl
read-whole past p c (Get v) whole = refl
read-whole past p c _ whole = absurd (true≢false (sym whole))

may-same : (s : TraceSetup) (m other : TraceMemory) (past : TracePast) (p v : ℕ) (a : CellAccess) → list_all has_whole past ≡ true → is_whole a.how ≡ true →
    may_give m (register_of s a.cell) (read_ended past p a) v ≡ may_give other (register_of s a.cell) (read_ended past p a) v
may-same s m other past p v a before whole =
    let none = none-open a.cell past before in
    ap (λ r. may_give m (register_of s a.cell) r v) (read-whole past p a.cell a.how whole)
    ∙ may-stored m (register_of s a.cell) a.cell past v none
    ∙ sym (may-stored other (register_of s a.cell) a.cell past v none)
    ∙ ap (λ r. may_give other (register_of s a.cell) r v) (sym (read-whole past p a.cell a.how whole))

reads-same : (s : TraceSetup) (m other : TraceMemory) (past : TracePast) (p : ℕ) (a : CellAccess) → list_all has_whole past ≡ true → is_whole a.how ≡ true →
    reads_wrongly (with_memory m s) past p a ≡ reads_wrongly (with_memory other s) past p a
reads-same s m other past p a before whole = by (value_read a.how)
  where
    by : (o : Option ℕ) → elim o as (λ _. Bool) [ None ↦ false | Some v ↦ not (may_give m (register_of s a.cell) (read_ended past p a) v) ]
        ≡ elim o as (λ _. Bool) [ None ↦ false | Some v ↦ not (may_give other (register_of s a.cell) (read_ended past p a) v) ]
    by None = refl
    by (Some v) = ap not (may-same s m other past p v a before whole)

-- No access is refused for being a part.
no-part : (how : CellMove) → is_whole how ≡ true → is_part how ≡ false
no-part (Set v) whole = refl
no-part (Get v) whole = refl
no-part _ whole = absurd (true≢false (sym whole))

and-false : (b : Bool) → (b && false) ≡ false
and-false true = refl
and-false false = refl

row-same : (m other : TraceMemory) (how : CellMove) → is_whole how ≡ true → (is_atomic m && is_part how) ≡ (is_atomic other && is_part how)
row-same m other how whole =
    ap (λ b. is_atomic m && b) (no-part how whole) ∙ and-false (is_atomic m) ∙ sym (and-false (is_atomic other)) ∙ ap (λ b. is_atomic other && b) (sym (no-part how whole))

-- a table with another last test
abbrev table_with : TraceSetup → ℕ → CellAccess → Bool → List (Bool × CellRefusal)
table_with s p a b =
    (not (nat_lt p s.processes), refusal.NoProcess)
    ∷ (not (has_cell s a.cell), refusal.NoCell)
    ∷ (only_writes a.how && not (is_own p a.cell.index), refusal.NotOwner)
    ∷ (changes a.how && is_some a.cell.index, refusal.NotShared)
    ∷ (not (fits (register_of s a.cell).width a.how), refusal.TooWide)
    ∷ (b, refusal.NotWhole)
    ∷ []

refused-same : (s : TraceSetup) (m other : TraceMemory) (past : TracePast) (p : ℕ) (idle : Bool) (a : CellAccess) → is_whole a.how ≡ true →
    cell_refusal (with_memory m s) past p idle a ≡ cell_refusal (with_memory other s) past p idle a
refused-same s m other past p idle a whole = ap (λ b. first_that (table_with s p a b ++ open_refusals idle (opened p past) a)) (row-same m other a.how whole)

-- All laws.
abbrev pub access_of : TraceSetup → TracePast → ℕ → Option CellAccess → Option CellRefusal
access_of s past p o = elim o as (λ _. Option CellRefusal) [
  | None ↦ first_that ((not (nat_lt p s.processes), refusal.NoProcess) ∷ [])
  | Some a ↦ cell_refusal s past p (is_idle (stage p past)) a
]

pub access-same : (s : TraceSetup) (m other : TraceMemory) (past : TracePast) (p : ℕ) (o : Option CellAccess) → elim o as (λ _. Bool) [ None ↦ true | Some a ↦ is_whole a.how ] ≡ true →
    access_of (with_memory m s) past p o ≡ access_of (with_memory other s) past p o
access-same s m other past p None whole = refl
access-same s m other past p (Some a) whole = refused-same s m other past p (is_idle (stage p past)) a whole

abbrev memory_of : TraceSetup → TracePast → ℕ → Option CellAccess → Bool
memory_of s past p o = elim o as (λ _. Bool) [ None ↦ false | Some a ↦ reads_wrongly s past p a ]

memory-same : (s : TraceSetup) (m other : TraceMemory) (past : TracePast) (p : ℕ) (o : Option CellAccess) → list_all has_whole past ≡ true → elim o as (λ _. Bool) [ None ↦ true | Some a ↦ is_whole a.how ] ≡ true →
    memory_of (with_memory m s) past p o ≡ memory_of (with_memory other s) past p o
memory-same s m other past p None before whole = refl
memory-same s m other past p (Some a) before whole = reads-same s m other past p a before whole

pub broken-same : (s : TraceSetup) (m other : TraceMemory) (past : TracePast) (e : TraceEntry) → list_all has_whole past ≡ true → has_whole e ≡ true →
    first_broken (with_memory m s) past e ≡ first_broken (with_memory other s) past e
broken-same s m other past e before whole =
    let access = access-same s m other past e.process e.access whole in
    let memory = memory-same s m other past e.process e.access before whole in
    (λ i. first_that (
    (is_some (access i), law.Access)
    ∷ (memory i, law.Memory)
    ∷ (breaks_marks past e, law.Marks)
    ∷ (breaks_together s past e, law.Together)
    ∷ (breaks_overtaken s past e, law.Overtaken)
    ∷ []))

pub verdict-same : (s : TraceSetup) (m other : TraceMemory) (past : TracePast) → list_all has_whole past ≡ true → verdict_after (with_memory m s) past ≡ verdict_after (with_memory other s) past
verdict-same s m other [] whole = refl
verdict-same s m other (e ∷ past) whole =
    let both = and_parts (has_whole e) (list_all has_whole past) whole in
    let before = verdict-same s m other past both.1 in
    let now = broken-same s m other past e both.1 both.0 in
    λ i. elim (before i) as (λ _. TraceVerdict) [ Good ↦ verdict_with (length past) (now i) | Bad k l ↦ Bad k l ]
