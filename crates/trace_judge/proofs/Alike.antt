-- Pasts that are alike: they leave the same cells, open accesses, stages and order.
use Rattle.std.proofs.Common.{◌≡◌, if◌then◌else◌, ℕ, ◌==◌, Bool, true, false, not, ◌&&◌, cond, List, [], ◌∷◌, ◌++◌, Option, None, Some, fold, is_some, length, nat_lt, option_map, refl, sym, ap, ◌∙◌, inl, inr}
use Rattle.std.proofs.lemmas.Bool.{cases_eq, not-false}
use Rattle.trace.proofs.Tables.{neither_table, none_applies}
use Rattle.trace.specs.{Cell, CellAccess, CellMove, LockMark, TraceEntry, TraceMemory, TracePast, TraceSetup, begins, ends, first_that, is_trace_setup, trace_entry, value_read}
use Rattle.trace.specs.declared.accesses.CellMove.TheVariants.{Value}
use Rattle.lock_stages.specs.{first_refusal, has_mark, is_ahead, is_crowded, is_enter, is_idle, is_other_inside, lock_passage, lock_stage, stage_after}
use Rattle.lock_stages.specs.declared.refusals.LockMarkRefusal.TheVariants as mark
use Rattle.lock_stages.proofs.Ahead.{AlikeOrder, alike-more}
use Rattle.lock_stages.proofs.Lowest.{lowest_agree}
use Rattle.lock_stages.proofs.Steps.{inside-same, waiting-same}
use Rattle.trace_memory.specs.{CellRefusal, CellState, OpenAccess, allowed_first, allowed_open, cell_after, cell_refusal, cell_state, ends_kept, has_cell, is_end_of, kept_access, kept_open, move_on, moves_on, open_refusals, opened, opened_by, reads_wrongly, register_of, same_cell, seen, setup_refusals, state_after, with_move}
use Rattle.trace_memory.specs.declared.refusals.CellRefusal.TheVariants as refusal
use Rattle.trace_memory.proofs.Made.{cell-with}
use Rattle.trace_memory.proofs.Overlaps.{ends-open, open-mine, open-other, open-still, some-map}
use Rattle.trace_memory.proofs.ReadValues.{kept_or_first, read-kept, right-kept, wrong-kept}
use Rattle.trace_judge.specs.{breaks_access, breaks_marks, breaks_memory, breaks_overtaken, breaks_together, first_broken, leaves_open, lock_part, lock_past, refusal_of_access, stage}
use Rattle.trace_judge.proofs.Unbroken.{broken_none, is_none_of, keeps}
use Rattle.trace_judge.proofs.Whole.{access_of}

-- an open access without the number of its entry
abbrev pub bare : Option OpenAccess → Option OpenAccess
bare o = option_map (λ (k : OpenAccess). record k { entry = 0 }) o

pub record Alike (s : TraceSetup) (past other : TracePast) : Type 0 where
  pub cells : (c : Cell) → cell_after s c past ≡ cell_after s c other
  pub opened : (p : ℕ) → bare (kept_open s p past) ≡ bare (kept_open s p other)
  pub stage : (p : ℕ) → lock_stage p (lock_past past) ≡ lock_stage p (lock_past other)
  pub order : AlikeOrder (lock_past past) (lock_past other)

pub alike-refl : (s : TraceSetup) (past : TracePast) → Alike s past past
alike-refl s past = record { cells = λ c. refl; opened = λ p. refl; stage = λ p. refl; order = record { waits = λ q. refl; begun = λ p. refl; order = λ p q. refl } }

pub alike-trans : (s : TraceSetup) (x y z : TracePast) → Alike s x y → Alike s y z → Alike s x z
alike-trans s x y z a b = record {
  cells = λ c. a.cells c ∙ b.cells c;
  opened = λ p. a.opened p ∙ b.opened p;
  stage = λ p. a.stage p ∙ b.stage p;
  order = record {
    waits = λ q. a.order.waits q ∙ b.order.waits q;
    begun = λ p. a.order.begun p ∙ b.order.begun p;
    order = λ p q. a.order.order p q ∙ b.order.order p q;
  };
}

pub alike-sym : (s : TraceSetup) (x y : TracePast) → Alike s x y → Alike s y x
alike-sym s x y a = record {
  cells = λ c. sym (a.cells c);
  opened = λ p. sym (a.opened p);
  stage = λ p. sym (a.stage p);
  order = record { waits = λ q. sym (a.order.waits q); begun = λ p. sym (a.order.begun p); order = λ p q. sym (a.order.order p q) };
}

-- One entry more.

bare-opened : (m : TraceMemory) (n k : ℕ) (cell : CellState) (a : CellAccess) → bare (opened_by m n cell a) ≡ bare (opened_by m k cell a)
bare-opened m n k cell a = by (begins a.how)
  where
    by : (b : Bool) → bare (cond b (Some (record { entry = n; cell = a.cell; allowed = allowed_first m cell a.how })) None) ≡ bare (cond b (Some (record { entry = k; cell = a.cell; allowed = allowed_first m cell a.how })) None)
    by true = refl
    by false = refl

bare-seen : (m : TraceMemory) (a : CellAccess) (o : Option OpenAccess) → bare (option_map (seen m a) o) ≡ option_map (seen m a) (bare o)
bare-seen m a None = refl
bare-seen m a (Some k) = refl

opened-more : (s : TraceSetup) (p q : ℕ) (o : Option CellAccess) (marks : List LockMark) (past other : TracePast) → Alike s past other →
    bare (kept_open s q (trace_entry p o marks ∷ past)) ≡ bare (kept_open s q (trace_entry p o marks ∷ other))
opened-more s p q None marks past other alike = ap bare (open-still s p q marks past) ∙ alike.opened q ∙ sym (ap bare (open-still s p q marks other))
opened-more s p q (Some a) marks past other alike = elim (cases_eq q p) [
  | inl mine ↦
      ap (λ r. bare (kept_open s r (trace_entry p (Some a) marks ∷ past))) mine
      ∙ ap bare (open-mine s p a marks past)
      ∙ ap (λ cell. bare (opened_by s.memory (length past) cell a)) (alike.cells a.cell)
      ∙ bare-opened s.memory (length past) (length other) (cell_after s a.cell other) a
      ∙ sym (ap bare (open-mine s p a marks other))
      ∙ ap (λ r. bare (kept_open s r (trace_entry p (Some a) marks ∷ other))) (sym mine)
  | inr apart ↦
      ap bare (open-other s p a marks q past apart)
      ∙ bare-seen s.memory a (kept_open s q past)
      ∙ ap (option_map (seen s.memory a)) (alike.opened q)
      ∙ sym (bare-seen s.memory a (kept_open s q other))
      ∙ sym (ap bare (open-other s p a marks q other apart))
]

cells-more : (s : TraceSetup) (c : Cell) (o : Option CellAccess) (past other : TracePast) → cell_after s c past ≡ cell_after s c other →
    cell_state (register_of s c) (with_move (move_on c o) (moves_on c past)) ≡ cell_state (register_of s c) (with_move (move_on c o) (moves_on c other))
cells-more s c None past other same = same
cells-more s c (Some a) past other same =
    cell-with s c past a.how (same_cell a.cell c)
    ∙ ap (λ k. cond (same_cell a.cell c) (state_after (register_of s c).width k a.how) k) same
    ∙ sym (cell-with s c other a.how (same_cell a.cell c))

pub alike-on : (s : TraceSetup) (p : ℕ) (o : Option CellAccess) (marks : List LockMark) (past other : TracePast) → Alike s past other → Alike s (trace_entry p o marks ∷ past) (trace_entry p o marks ∷ other)
alike-on s p o marks past other alike = record {
  cells = λ c. cells-more s c o past other (alike.cells c);
  opened = λ q. opened-more s p q o marks past other alike;
  stage = λ q. ap (λ x. cond (p == q) (fold stage_after x marks) x) (alike.stage q);
  order = alike-more (lock_part (trace_entry p o marks)) (lock_past past) (lock_past other) alike.order;
}

-- An entry breaks no law after both, or after neither.

-- the cell of an access that is not refused exists
pub cell-there : (s : TraceSetup) (past : TracePast) (p : ℕ) (idle : Bool) (a : CellAccess) → cell_refusal s past p idle a ≡ None → has_cell s a.cell ≡ true
cell-there s past p idle a h = not-false (has_cell s a.cell) (none_applies (setup_refusals s p a) (neither_table (setup_refusals s p a) (open_refusals idle (opened p past) a) h).first).1.0

bare-ends : (o : Option OpenAccess) (a : CellAccess) → ends_kept (bare o) a ≡ ends_kept o a
bare-ends None a = refl
bare-ends (Some k) a = refl

bare-some : (o : Option OpenAccess) → is_some (bare o) ≡ is_some o
bare-some None = refl
bare-some (Some k) = refl

bare-allowed : (how : CellMove) (o : Option OpenAccess) → allowed_open how (bare o) ≡ allowed_open how o
bare-allowed (Value v) None = refl
bare-allowed (Value v) (Some k) = refl
bare-allowed _ o = refl

module _ (s : TraceSetup) (past other : TracePast) (alike : Alike s past other) where
  some-same : (p : ℕ) → is_some (opened p past) ≡ is_some (opened p other)
  some-same p =
      sym (some-map (kept_access s) (opened p past)) ∙ sym (bare-some (kept_open s p past)) ∙ ap (λ o. is_some o) (alike.opened p)
      ∙ bare-some (kept_open s p other) ∙ some-map (kept_access s) (opened p other)

  ends-same : (p : ℕ) (a : CellAccess) → is_end_of (opened p past) a ≡ is_end_of (opened p other) a
  ends-same p a =
      sym (ends-open s p past a) ∙ sym (bare-ends (kept_open s p past) a) ∙ ap (λ o. ends_kept o a) (alike.opened p)
      ∙ bare-ends (kept_open s p other) a ∙ ends-open s p other a

  refused-same : (p : ℕ) (a : CellAccess) → cell_refusal s past p (is_idle (stage p past)) a ≡ cell_refusal s other p (is_idle (stage p other)) a
  refused-same p a = λ i. first_that (setup_refusals s p a ++ (
      (is_idle (alike.stage p i), refusal.NotRunning)
      ∷ (ends a.how && not (ends-same p a i), refusal.NotOpen)
      ∷ (not (ends a.how) && some-same p i, refusal.AccessOpen)
      ∷ []))

  access-same : (e : TraceEntry) → breaks_access s past e ≡ breaks_access s other e
  access-same e = by e.access
    where
      by : (o : Option CellAccess) → is_some (elim o as (λ _. Option CellRefusal) [ None ↦ first_that ((not (nat_lt e.process s.processes), refusal.NoProcess) ∷ []) | Some a ↦ cell_refusal s past e.process (is_idle (stage e.process past)) a ])
          ≡ is_some (elim o as (λ _. Option CellRefusal) [ None ↦ first_that ((not (nat_lt e.process s.processes), refusal.NoProcess) ∷ []) | Some a ↦ cell_refusal s other e.process (is_idle (stage e.process other)) a ])
      by None = refl
      by (Some a) = ap (λ o. is_some o) (refused-same e.process a)

  wrong-same : (p : ℕ) (a : CellAccess) → is_trace_setup s ≡ true → has_cell s a.cell ≡ true → cell_refusal s past p (is_idle (stage p past)) a ≡ None → reads_wrongly s past p a ≡ reads_wrongly s other p a
  wrong-same p a good there h = by (value_read a.how) refl
    where
      now : cell_refusal s other p (is_idle (stage p other)) a ≡ None
      now = sym (refused-same p a) ∙ h

      kept : kept_or_first s (cell_after s a.cell past) (allowed_open a.how (kept_open s p past)) ≡ kept_or_first s (cell_after s a.cell other) (allowed_open a.how (kept_open s p other))
      kept = (λ i. kept_or_first s (alike.cells a.cell i) (allowed_open a.how (kept_open s p past)))
          ∙ ap (kept_or_first s (cell_after s a.cell other)) (sym (bare-allowed a.how (kept_open s p past)) ∙ ap (allowed_open a.how) (alike.opened p) ∙ bare-allowed a.how (kept_open s p other))

      by : (o : Option ℕ) → value_read a.how ≡ o → reads_wrongly s past p a ≡ reads_wrongly s other p a
      by None is = sym (right-kept s past p a is) ∙ right-kept s other p a is
      by (Some v) is =
          sym (wrong-kept s past p v (is_idle (stage p past)) a (kept_or_first s (cell_after s a.cell past) (allowed_open a.how (kept_open s p past))) good there h is (read-kept s past p (is_idle (stage p past)) a h))
          ∙ wrong-kept s other p v (is_idle (stage p other)) a (kept_or_first s (cell_after s a.cell past) (allowed_open a.how (kept_open s p past))) good there now is
          (kept ∙ read-kept s other p (is_idle (stage p other)) a now)

  memory-same : (e : TraceEntry) → is_trace_setup s ≡ true → refusal_of_access s past e ≡ None → breaks_memory s past e ≡ breaks_memory s other e
  memory-same e good h = by e.access refl
    where
      by : (o : Option CellAccess) → e.access ≡ o → elim o as (λ _. Bool) [ None ↦ false | Some a ↦ reads_wrongly s past e.process a ] ≡ elim o as (λ _. Bool) [ None ↦ false | Some a ↦ reads_wrongly s other e.process a ]
      by None is = refl
      by (Some a) is =
          let refused = ap (λ o. access_of s past e.process o) (sym is) ∙ h in
          wrong-same e.process a good (cell-there s past e.process (is_idle (stage e.process past)) a refused) refused

  open-same : (e : TraceEntry) → leaves_open past e ≡ leaves_open other e
  open-same e =
      let both = opened-more s e.process e.process e.access e.marks past other alike in
      sym (some-map (kept_access s) (opened e.process (e ∷ past))) ∙ sym (bare-some (kept_open s e.process (e ∷ past))) ∙ ap (λ o. is_some o) both
      ∙ bare-some (kept_open s e.process (e ∷ other)) ∙ some-map (kept_access s) (opened e.process (e ∷ other))

  marks-same : (e : TraceEntry) → breaks_marks past e ≡ breaks_marks other e
  marks-same e = λ i. is_some (if is_crowded (lock_part e) then Some mark.NotAlone else first_refusal (alike.stage e.process i) (open-same e i) e.marks)

  together-same : (e : TraceEntry) → breaks_together s past e ≡ breaks_together s other e
  together-same e = ap (λ o. has_mark is_enter (lock_part e) && is_some o)
      (lowest_agree s.processes (is_other_inside (lock_passage (lock_past past)) e.process) (is_other_inside (lock_passage (lock_past other)) e.process)
      (λ q. ap (λ b. not (q == e.process) && b) (inside-same (lock_past past) (lock_past other) q (alike.stage q))))

  overtaken-same : (e : TraceEntry) → breaks_overtaken s past e ≡ breaks_overtaken s other e
  overtaken-same e = ap (λ o. has_mark is_enter (lock_part e) && is_some o)
      (lowest_agree s.processes (is_ahead (lock_passage (lock_past past)) e.process) (is_ahead (lock_passage (lock_past other)) e.process)
      (λ q i. not (q == e.process) && (waiting-same (lock_past past) (lock_past other) q (alike.stage q) i && alike.order.order e.process q i)))

  pub unbroken-alike : (e : TraceEntry) → is_trace_setup s ≡ true → first_broken s past e ≡ None → first_broken s other e ≡ None
  unbroken-alike e good h =
      let k = keeps s past e h in
      broken_none s other e (record {
        access = sym (access-same e) ∙ k.access;
        memory = sym (memory-same e good (is_none_of (refusal_of_access s past e) k.access)) ∙ k.memory;
        marks = sym (marks-same e) ∙ k.marks;
        together = sym (together-same e) ∙ k.together;
        overtaken = sym (overtaken-same e) ∙ k.overtaken;
      })
