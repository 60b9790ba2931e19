-- In a weaker memory an entry breaks no law that it keeps in a stronger one.
use Rattle.std.proofs.Common.{◌≡◌, ℕ, ◌<◌, Bool, true, false, not, ◌&&◌, ◌||◌, ◌==◌, List, [], ◌∷◌, Option, None, Some, is_some, length, nat_lt, refl, ap, ◌∙◌, arith}
use Rattle.std.proofs.lemmas.Bool.{ne_eqb, not-false, or_left, or_right}
use Rattle.trace.proofs.Tables.{first_of_two, neither_table, none_applies, none_first}
use Rattle.trace.specs.{CellAccess, TraceEntry, TraceMemory, TracePast, TraceRegister, TraceSetup, first_that, is_atomic, is_part, value_read}
use Rattle.trace.specs.declared.setups.TraceMemory.TheVariants.{Safe, Regular, Atomic}
use Rattle.lock_stages.specs.{is_idle}
use Rattle.trace_memory.specs.{CellRead, CellRefusal, cell_refusal, is_among, is_undisturbed, may_give, open_refusals, opened, overlapping, read_ended, reads_wrongly, register_of, setup_refusals, stored}
use Rattle.trace_memory.specs.declared.refusals.CellRefusal.TheVariants as refusal
use Rattle.trace_judge.specs.{IsNotEarlier, IsWeaker, TraceLaw, TraceVerdict, breaks_access, breaks_memory, first_broken, stage, verdict_after, verdict_with, with_memory}
use Rattle.trace_judge.specs.declared.verdicts.TraceVerdict.TheVariants.{Good, Bad}
use Rattle.trace_judge.proofs.Unbroken.{broken_none, is_none_of, keeps}

-- What a read may give.
among-some : (values : List ℕ) (v : ℕ) → is_among values v ≡ true → not (length values == 0) ≡ true
among-some [] v h = absurd (cc)
among-some (x ∷ values) v h = ap not (ne_eqb (length (x ∷ values)) 0 (λ e. omega arith))

may-weaker : (weak strong : TraceMemory) (reg : TraceRegister) (r : CellRead) (v : ℕ) → IsWeaker weak strong → may_give strong reg r v ≡ true → may_give weak reg r v ≡ true
may-weaker Regular Atomic reg r v is h = or_right (is_among (overlapping r) v) (stored reg r.before == v) h
may-weaker Safe Atomic reg r v is h = or_right (not (is_undisturbed r)) (stored reg r.before == v) h
may-weaker Safe Regular reg r v is h = by (is_among (overlapping r) v) refl h
  where
    by : (b : Bool) → is_among (overlapping r) v ≡ b → (b || (stored reg r.before == v)) ≡ true → (not (is_undisturbed r) || (stored reg r.before == v)) ≡ true
    by true among h = or_left (not (is_undisturbed r)) (stored reg r.before == v) (among-some (overlapping r) v among)
    by false among h = or_right (not (is_undisturbed r)) (stored reg r.before == v) h
may-weaker _ _ reg r v is h = absurd is

memory-weaker : (weak strong : TraceMemory) (s : TraceSetup) (past : TracePast) (p : ℕ) (a : CellAccess) → IsWeaker weak strong →
    reads_wrongly (with_memory strong s) past p a ≡ false → reads_wrongly (with_memory weak s) past p a ≡ false
memory-weaker weak strong s past p a is h = by (value_read a.how) h
  where
    by : (o : Option ℕ) → elim o as (λ _. Bool) [ None ↦ false | Some v ↦ not (may_give strong (register_of s a.cell) (read_ended past p a) v) ] ≡ false →
        elim o as (λ _. Bool) [ None ↦ false | Some v ↦ not (may_give weak (register_of s a.cell) (read_ended past p a) v) ] ≡ false
    by None h = refl
    by (Some v) h = ap not (may-weaker weak strong (register_of s a.cell) (read_ended past p a) v is (not-false (may_give strong (register_of s a.cell) (read_ended past p a) v) h))

-- What an access is refused for: in atomic memory also for being a part.
not_atomic : (weak strong : TraceMemory) → IsWeaker weak strong → is_atomic weak ≡ false
not_atomic Regular Atomic is = refl
not_atomic Safe Atomic is = refl
not_atomic Safe Regular is = refl
not_atomic _ _ is = absurd is

cell-weaker : (weak strong : TraceMemory) (s : TraceSetup) (past : TracePast) (p : ℕ) (idle : Bool) (a : CellAccess) → IsWeaker weak strong →
    cell_refusal (with_memory strong s) past p idle a ≡ None → cell_refusal (with_memory weak s) past p idle a ≡ None
cell-weaker weak strong s past p idle a is h =
    let both = neither_table (setup_refusals (with_memory strong s) p a) (open_refusals idle (opened p past) a) h in
    let none = none_applies (setup_refusals (with_memory strong s) p a) both.first in
    first_of_two (setup_refusals (with_memory weak s) p a) (open_refusals idle (opened p past) a)
    ∙ ap (λ o. elim o as (λ _. Option CellRefusal) [ Some r ↦ Some r | None ↦ first_that (open_refusals idle (opened p past) a) ])
    (none_first (setup_refusals (with_memory weak s) p a) (none.0, (none.1.0, (none.1.1.0, (none.1.1.1.0, (none.1.1.1.1.0, (ap (λ b. b && is_part a.how) (not_atomic weak strong is), tt)))))))
    ∙ both.second

none_is : {A : Type 0} (o : Option A) → o ≡ None → is_some o ≡ false
none_is o h = ap is_some h

access-weaker : (weak strong : TraceMemory) (s : TraceSetup) (past : TracePast) (e : TraceEntry) → IsWeaker weak strong →
    breaks_access (with_memory strong s) past e ≡ false → breaks_access (with_memory weak s) past e ≡ false
access-weaker weak strong s past e is h = by e.access h
  where
    by : (o : Option CellAccess) →
        is_some (elim o as (λ _. Option CellRefusal) [
          | None ↦ first_that ((not (nat_lt e.process s.processes), refusal.NoProcess) ∷ [])
          | Some a ↦ cell_refusal (with_memory strong s) past e.process (is_idle (stage e.process past)) a
        ]) ≡ false →
        is_some (elim o as (λ _. Option CellRefusal) [
          | None ↦ first_that ((not (nat_lt e.process s.processes), refusal.NoProcess) ∷ [])
          | Some a ↦ cell_refusal (with_memory weak s) past e.process (is_idle (stage e.process past)) a
        ]) ≡ false
    by None h = h
    by (Some a) h = none_is _ (cell-weaker weak strong s past e.process (is_idle (stage e.process past)) a is (is_none_of _ h))

reads-weaker : (weak strong : TraceMemory) (s : TraceSetup) (past : TracePast) (e : TraceEntry) → IsWeaker weak strong →
    breaks_memory (with_memory strong s) past e ≡ false → breaks_memory (with_memory weak s) past e ≡ false
reads-weaker weak strong s past e is h = by e.access h
  where
    by : (o : Option CellAccess) → elim o as (λ _. Bool) [ None ↦ false | Some a ↦ reads_wrongly (with_memory strong s) past e.process a ] ≡ false →
        elim o as (λ _. Bool) [ None ↦ false | Some a ↦ reads_wrongly (with_memory weak s) past e.process a ] ≡ false
    by None h = h
    by (Some a) h = memory-weaker weak strong s past e.process a is h

-- All laws.
pub unbroken-weaker : (weak strong : TraceMemory) (s : TraceSetup) (past : TracePast) (e : TraceEntry) → IsWeaker weak strong →
    first_broken (with_memory strong s) past e ≡ None → first_broken (with_memory weak s) past e ≡ None
unbroken-weaker weak strong s past e is h =
    let k = keeps (with_memory strong s) past e h in
    broken_none (with_memory weak s) past e (record {
      access = access-weaker weak strong s past e is k.access;
      memory = reads-weaker weak strong s past e is k.memory;
      marks = k.marks;
      together = k.together;
      overtaken = k.overtaken;
    })

-- Verdicts.

-- a bad entry is one of those that there are
bad-below : (s : TraceSetup) (past : TracePast) (k : ℕ) (l : TraceLaw) → verdict_after s past ≡ Bad k l → k < length past
bad-below s [] k l h = absurd (let good : Good ≡ Bad k l = h in cc)
bad-below s (e ∷ past) k l h = by (verdict_after s past) (bad-below s past k l) h
  where
    at : (o : Option TraceLaw) → verdict_with (length past) o ≡ Bad k l → k < length (e ∷ past)
    at None h = absurd (let good : Good ≡ Bad k l = h in cc)
    at (Some m) h = let both : Bad (length past) m ≡ Bad k l = h in let same : length past ≡ k = cc in omega (arith, same)

    by : (v : TraceVerdict) → (v ≡ Bad k l → k < length past) → elim v as (λ _. TraceVerdict) [ Good ↦ verdict_with (length past) (first_broken s past e) | Bad k l ↦ Bad k l ] ≡ Bad k l → k < length (e ∷ past)
    by Good before h = at (first_broken s past e) h
    by (Bad j m) before h = let below : k < length past = before h in omega (arith, below)

pub not_earlier : (weak strong : TraceMemory) (s : TraceSetup) (past : TracePast) → IsWeaker weak strong →
    IsNotEarlier (verdict_after (with_memory weak s) past) (verdict_after (with_memory strong s) past)
not_earlier weak strong s [] is = refl
not_earlier weak strong s (e ∷ past) is =
    by (verdict_after (with_memory weak s) past) (verdict_after (with_memory strong s) past) refl (not_earlier weak strong s past is)
  where
    both : (o q : Option TraceLaw) → (q ≡ None → o ≡ None) → IsNotEarlier (verdict_with (length past) o) (verdict_with (length past) q)
    both o None h = ap (verdict_with (length past)) (h refl)
    both None (Some l) h = tt
    both (Some m) (Some l) h = omega arith

    late : (o : Option TraceLaw) (k : ℕ) (l : TraceLaw) → k < length past → IsNotEarlier (verdict_with (length past) o) (Bad k l)
    late None k l below = tt
    late (Some m) k l below = omega (arith, below)

    by : (v u : TraceVerdict) → verdict_after (with_memory strong s) past ≡ u → IsNotEarlier v u →
        IsNotEarlier (elim v as (λ _. TraceVerdict) [ Good ↦ verdict_with (length past) (first_broken (with_memory weak s) past e) | Bad k l ↦ Bad k l ])
        (elim u as (λ _. TraceVerdict) [ Good ↦ verdict_with (length past) (first_broken (with_memory strong s) past e) | Bad k l ↦ Bad k l ])
    by Good Good at h = both _ _ (unbroken-weaker weak strong s past e is)
    by (Bad j m) Good at h = absurd (cc)
    by Good (Bad k l) at h = late _ k l (bad-below (with_memory strong s) past k l at)
    by (Bad j m) (Bad k l) at h = h
