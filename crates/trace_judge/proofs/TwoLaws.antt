-- An access in one entry breaks a law exactly if its begin or its end does.
use Rattle.std.proofs.Common.{◌≡◌, ℕ, ◌==◌, Bool, true, false, not, ◌&&◌, List, [], ◌∷◌, ◌++◌, Option, None, Some, is_some, refl, sym, ap, ◌∙◌, if◌then◌else◌}
use Rattle.trace.proofs.Tables.{first_of_two, neither_table, none_applies, none_first}
use Rattle.trace.specs.{Cell, LockMark, TraceEntry, TracePast, TraceSetup, begins, first_that, is_atomic, trace_entry}
use Rattle.trace.specs.declared.accesses.CellMove.TheVariants.{Write, End, Read, Value, Set, Get}
use Rattle.lock_stages.specs.{first_refusal, has_mark, is_ahead, is_crowded, is_enter, is_idle, is_other_inside, lock_entry, lock_passage}
use Rattle.lock_stages.specs.declared.refusals.LockMarkRefusal.TheVariants as mark
use Rattle.lock_stages.proofs.Ahead.{first-keeps}
use Rattle.lock_stages.proofs.Lowest.{lowest_agree}
use Rattle.lock_stages.proofs.Steps.{inside-same, waiting-same}
use Rattle.trace_memory.specs.{CellRead, CellRefusal, cell_refusal, is_end_of, may_give, open_refusals, opened, read_since, reads_wrongly, register_of, setup_refusals, whole_read}
use Rattle.trace_memory.proofs.Overlaps.{opens}
use Rattle.trace_judge.specs.{breaks_marks, breaks_memory, breaks_overtaken, breaks_together, first_broken, leaves_open, lock_past, stage}
use Rattle.trace_judge.proofs.InTwo.{access_to, begin_move, end_move, ends-first, opened-first, stage-first, whole_move}
use Rattle.trace_judge.proofs.Unbroken.{broken_none, is_none_of, keeps}

-- no row of two tables applies
both_none : (rows more : List (Bool × CellRefusal)) → first_that rows ≡ None → first_that more ≡ None → first_that (rows ++ more) ≡ None
both_none rows more h g = first_of_two rows more ∙ ap (λ o. elim o as (λ _. Option CellRefusal) [ Some r ↦ Some r | None ↦ first_that more ]) h ∙ g

-- Accesses.
module _ (v : ℕ) (s : TraceSetup) (p : ℕ) (c : Cell) (idle : Bool) (past : TracePast) (atomic : is_atomic s.memory ≡ false) where
  part-row : (is_atomic s.memory && true) ≡ false
  part-row = ap (λ b. b && true) atomic

  whole-row : (is_atomic s.memory && false) ≡ false
  whole-row = ap (λ b. b && false) atomic

  refuse-first : (w : Bool) → cell_refusal s past p idle (access_to c (whole_move w v)) ≡ None → cell_refusal s past p idle (access_to c (begin_move w v)) ≡ None
  refuse-first true h =
      let a = access_to c (Set v) in
      let b = access_to c (Write v) in
      let both = neither_table (setup_refusals s p a) (open_refusals idle (opened p past) a) h in
      let n = none_applies (setup_refusals s p a) both.first in
      let o = none_applies (open_refusals idle (opened p past) a) both.second in
      both_none (setup_refusals s p b) (open_refusals idle (opened p past) b)
      (none_first (setup_refusals s p b) (n.0, (n.1.0, (n.1.1.0, (refl, (n.1.1.1.1.0, (part-row, tt)))))))
      (none_first (open_refusals idle (opened p past) b) (o.0, (refl, (o.1.1.0, tt))))
  refuse-first false h =
      let a = access_to c (Get v) in
      let b = access_to c Read in
      let both = neither_table (setup_refusals s p a) (open_refusals idle (opened p past) a) h in
      let n = none_applies (setup_refusals s p a) both.first in
      let o = none_applies (open_refusals idle (opened p past) a) both.second in
      both_none (setup_refusals s p b) (open_refusals idle (opened p past) b)
      (none_first (setup_refusals s p b) (n.0, (n.1.0, (refl, (refl, (refl, (part-row, tt)))))))
      (none_first (open_refusals idle (opened p past) b) (o.0, (refl, (o.1.1.0, tt))))

  refuse-second : (w : Bool) (later : TracePast) → is_end_of (opened p later) (access_to c (end_move w v)) ≡ true → cell_refusal s past p idle (access_to c (whole_move w v)) ≡ None → cell_refusal s later p idle (access_to c (end_move w v)) ≡ None
  refuse-second true later ends h =
      let a = access_to c (Set v) in
      let b = access_to c End in
      let both = neither_table (setup_refusals s p a) (open_refusals idle (opened p past) a) h in
      let n = none_applies (setup_refusals s p a) both.first in
      let o = none_applies (open_refusals idle (opened p past) a) both.second in
      both_none (setup_refusals s p b) (open_refusals idle (opened p later) b)
      (none_first (setup_refusals s p b) (n.0, (n.1.0, (n.1.1.0, (refl, (refl, (part-row, tt)))))))
      (none_first (open_refusals idle (opened p later) b) (o.0, (ap not ends, (refl, tt))))
  refuse-second false later ends h =
      let a = access_to c (Get v) in
      let b = access_to c (Value v) in
      let both = neither_table (setup_refusals s p a) (open_refusals idle (opened p past) a) h in
      let n = none_applies (setup_refusals s p a) both.first in
      let o = none_applies (open_refusals idle (opened p past) a) both.second in
      both_none (setup_refusals s p b) (open_refusals idle (opened p later) b)
      (none_first (setup_refusals s p b) (n.0, (n.1.0, (refl, (refl, (n.1.1.1.1.0, (part-row, tt)))))))
      (none_first (open_refusals idle (opened p later) b) (o.0, (ap not ends, (refl, tt))))

  refuse-whole : (w : Bool) (later : TracePast) → cell_refusal s past p idle (access_to c (begin_move w v)) ≡ None → cell_refusal s later p idle (access_to c (end_move w v)) ≡ None → cell_refusal s past p idle (access_to c (whole_move w v)) ≡ None
  refuse-whole true later h g =
      let a = access_to c (Write v) in
      let b = access_to c (Set v) in
      let both = neither_table (setup_refusals s p a) (open_refusals idle (opened p past) a) h in
      let n = none_applies (setup_refusals s p a) both.first in
      let o = none_applies (open_refusals idle (opened p past) a) both.second in
      both_none (setup_refusals s p b) (open_refusals idle (opened p past) b)
      (none_first (setup_refusals s p b) (n.0, (n.1.0, (n.1.1.0, (refl, (n.1.1.1.1.0, (whole-row, tt)))))))
      (none_first (open_refusals idle (opened p past) b) (o.0, (refl, (o.1.1.0, tt))))
  refuse-whole false later h g =
      let a = access_to c Read in
      let z = access_to c (Value v) in
      let b = access_to c (Get v) in
      let both = neither_table (setup_refusals s p a) (open_refusals idle (opened p past) a) h in
      let n = none_applies (setup_refusals s p a) both.first in
      let o = none_applies (open_refusals idle (opened p past) a) both.second in
      let m = none_applies (setup_refusals s p z) (neither_table (setup_refusals s p z) (open_refusals idle (opened p later) z) g).first in
      both_none (setup_refusals s p b) (open_refusals idle (opened p past) b)
      (none_first (setup_refusals s p b) (n.0, (n.1.0, (refl, (refl, (m.1.1.1.1.0, (whole-row, tt)))))))
      (none_first (open_refusals idle (opened p past) b) (o.0, (refl, (o.1.1.0, tt))))

-- Values.
reads-first : (w : Bool) (v : ℕ) (s : TraceSetup) (past : TracePast) (p : ℕ) (c : Cell) → reads_wrongly s past p (access_to c (begin_move w v)) ≡ false
reads-first true v s past p c = refl
reads-first false v s past p c = refl

reads-second : (w : Bool) (v : ℕ) (s : TraceSetup) (past later : TracePast) (p : ℕ) (c : Cell) → opened p later ≡ Some (record { access = access_to c (begin_move w v); before = past; since = [] }) →
    reads_wrongly s later p (access_to c (end_move w v)) ≡ reads_wrongly s past p (access_to c (whole_move w v))
reads-second true v s past later p c is = refl
reads-second false v s past later p c is = ap (λ o. not (may_give s.memory (register_of s c) (elim o as (λ _. CellRead) [ Some m ↦ read_since c m | None ↦ whole_read c later ]) v)) is

no-open : (w : Bool) (v : ℕ) → begins (end_move w v) ≡ begins (whole_move w v)
no-open true v = refl
no-open false v = refl

module _ (s : TraceSetup) (p : ℕ) (c : Cell) (w : Bool) (v : ℕ) (marks : List LockMark) (past : TracePast) (atomic : is_atomic s.memory ≡ false) where
  abbrev whole : TraceEntry
  whole = trace_entry p (Some (access_to c (whole_move w v))) marks

  abbrev first : TraceEntry
  first = trace_entry p (Some (access_to c (begin_move w v))) []

  abbrev second : TraceEntry
  second = trace_entry p (Some (access_to c (end_move w v))) marks

  stage-is : (q : ℕ) → stage q (first ∷ past) ≡ stage q past
  stage-is q = stage-first s p c w v marks past q

  open-is : leaves_open (first ∷ past) second ≡ leaves_open past whole
  open-is = opens s p (access_to c (end_move w v)) marks (first ∷ past) ∙ no-open w v ∙ sym (opens s p (access_to c (whole_move w v)) marks past)

  marks-is : breaks_marks (first ∷ past) second ≡ breaks_marks past whole
  marks-is = λ i. is_some (if is_crowded (lock_entry p true marks) then Some mark.NotAlone else first_refusal (stage-is p i) (open-is i) marks)

  together-is : breaks_together s (first ∷ past) second ≡ breaks_together s past whole
  together-is = ap (λ o. has_mark is_enter (lock_entry p true marks) && is_some o)
      (lowest_agree s.processes (is_other_inside (lock_passage (lock_past (first ∷ past))) p) (is_other_inside (lock_passage (lock_past past)) p)
      (λ q. ap (λ b. not (q == p) && b) (inside-same (lock_past (first ∷ past)) (lock_past past) q (stage-is q))))

  overtaken-is : breaks_overtaken s (first ∷ past) second ≡ breaks_overtaken s past whole
  overtaken-is = ap (λ o. has_mark is_enter (lock_entry p true marks) && is_some o)
      (lowest_agree s.processes (is_ahead (lock_passage (lock_past (first ∷ past))) p) (is_ahead (lock_passage (lock_past past)) p)
      (λ q i. not (q == p) && (waiting-same (lock_past (first ∷ past)) (lock_past past) q (stage-is q) i && first-keeps p p q (lock_past past) i)))

  memory-is : breaks_memory s (first ∷ past) second ≡ breaks_memory s past whole
  memory-is = reads-second w v s past (first ∷ past) p c (opened-first s p c w v marks past)

  pub split-first : first_broken s past whole ≡ None → first_broken s past first ≡ None
  split-first h =
      let k = keeps s past whole h in
      broken_none s past first (record {
        access = ap (λ o. is_some o) (refuse-first v s p c (is_idle (stage p past)) past atomic w (is_none_of _ k.access));
        memory = reads-first w v s past p c;
        marks = refl;
        together = refl;
        overtaken = refl;
      })

  pub split-second : first_broken s past whole ≡ None → first_broken s (first ∷ past) second ≡ None
  split-second h =
      let k = keeps s past whole h in
      broken_none s (first ∷ past) second (record {
        access = ap (λ o. is_some o) (ap (λ x. cell_refusal s (first ∷ past) p (is_idle x) (access_to c (end_move w v))) (stage-is p)
            ∙ refuse-second v s p c (is_idle (stage p past)) past atomic w (first ∷ past) (ends-first s p c w v marks past) (is_none_of _ k.access));
        memory = memory-is ∙ k.memory;
        marks = marks-is ∙ k.marks;
        together = together-is ∙ k.together;
        overtaken = overtaken-is ∙ k.overtaken;
      })

  pub joined : first_broken s past first ≡ None → first_broken s (first ∷ past) second ≡ None → first_broken s past whole ≡ None
  joined h g =
      let k = keeps s past first h in
      let m = keeps s (first ∷ past) second g in
      let ends = sym (ap (λ x. cell_refusal s (first ∷ past) p (is_idle x) (access_to c (end_move w v))) (stage-is p)) ∙ is_none_of _ m.access in
      broken_none s past whole (record {
        access = ap (λ o. is_some o) (refuse-whole v s p c (is_idle (stage p past)) past atomic w (first ∷ past) (is_none_of _ k.access) ends);
        memory = sym memory-is ∙ m.memory;
        marks = sym marks-is ∙ m.marks;
        together = sym together-is ∙ m.together;
        overtaken = sym overtaken-is ∙ m.overtaken;
      })
