-- If no entry breaks a law, no two processes are inside together, and none enters while another is ahead.
use Rattle.std.proofs.Common.{◌≡◌, ◌≢◌, ℕ, ◌<◌, ◌≤◌, ◌==◌, Bool, true, false, not, ◌&&◌, ◌||◌, cond, List, [], ◌∷◌, fold, refl, sym, ap, ◌∙◌, arith, true≢false, inl, inr, eq-eqb, ne_eqb}
use Rattle.std.specs.List.{list_any}
use Rattle.std.proofs.lemmas.Bool.{cases_Bool, cases_eq, cases_lt}
use Rattle.model.specs.{is_before}
use Rattle.trace.specs.{LockMark}
use Rattle.trace.specs.declared.marks.LockMark.TheVariants.{Call, Wait, Enter, Leave, Answer}
use Rattle.lock_stages.specs.declared.states.LockStage.TheVariants.{Idle}
use Rattle.lock_stages.specs.{EntersAlone, EntersInTurn, IsAloneInside, LockEntry, LockPast, LockStage, breaks_overtaken, breaks_together, has_mark, is_enter, is_inside, is_waiting, lock_passage, lock_stage, stage_after}
use Rattle.lock_stages.proofs.Entering.{none_ahead, none_inside}
use Rattle.lock_stages.proofs.Steps.{tied}

-- only these processes have entries
abbrev pub AreBelow : ℕ → LockPast → Type 0
AreBelow n past = (q : ℕ) → n ≤ q → lock_stage q past ≡ Idle

pub none-below : (n : ℕ) → AreBelow n []
none-below n q above = refl

stage-other : (q : ℕ) (e : LockEntry) (past : LockPast) → q ≢ e.process → lock_stage q (e ∷ past) ≡ lock_stage q past
stage-other q e past apart = ap (λ b. cond b (fold stage_after (lock_stage q past) e.marks) (lock_stage q past)) (ne_eqb e.process q (λ h. apart (sym h)))

stage-mine : (e : LockEntry) (past : LockPast) → lock_stage e.process (e ∷ past) ≡ fold stage_after (lock_stage e.process past) e.marks
stage-mine e past = ap (λ b. cond b (fold stage_after (lock_stage e.process past) e.marks) (lock_stage e.process past)) (eq-eqb e.process e.process refl)

pub more-below : (n : ℕ) (e : LockEntry) (past : LockPast) → e.process < n → AreBelow n past → AreBelow n (e ∷ past)
more-below n e past below are q above = stage-other q e past (λ h. absurd (omega (arith, h))) ∙ are q above

-- a process that is inside is one of these
inside-below : (n : ℕ) (past : LockPast) (q : ℕ) → AreBelow n past → is_inside (lock_stage q past) ≡ true → q < n
inside-below n past q are inside = elim (cases_lt q n) [
  | inl below ↦ below
  | inr above ↦ absurd (true≢false (sym inside ∙ ap is_inside (are q above)))
]

and-false : (b : Bool) → (b && false) ≡ false
and-false true = refl
and-false false = refl

-- without an enter a process is inside only if it was
or_right : (b : Bool) (c : Bool) → (b || c) ≡ false → c ≡ false
or_right false c h = h
or_right true c h = absurd (true≢false h)

was-inside : (ms : List LockMark) (at : LockStage) → list_any is_enter ms ≡ false → is_inside (fold stage_after at ms) ≡ true → is_inside at ≡ true
was-inside [] at none inside = inside
was-inside (m ∷ ms) at none inside = by m none (was-inside ms (stage_after at m) (or_right (is_enter m) (list_any is_enter ms) none) inside)
  where
    by : (m : LockMark) → (is_enter m || list_any is_enter ms) ≡ false → is_inside (stage_after at m) ≡ true → is_inside at ≡ true
    by Call none h = absurd (true≢false (sym h))
    by Wait none h = absurd (true≢false (sym h))
    by Enter none h = absurd (true≢false none)
    by Leave none h = absurd (true≢false (sym h))
    by Answer none h = absurd (true≢false (sym h))

-- An entry that enters does so alone.
pub enters-alone : (n : ℕ) (past : LockPast) (e : LockEntry) → AreBelow n past → breaks_together n past e ≡ false → EntersAlone past e
enters-alone n past e are keeps enters q inside = elim (cases_eq q e.process) [
  | inl same ↦ same
  | inr apart ↦ absurd (true≢false (
      sym inside ∙ sym (tied past q).inside ∙ none_inside (lock_passage past) n e.process (has_mark is_enter e) keeps enters q (inside-below n past q are inside) apart))
]

-- No two are inside after it.
pub alone-on : (n : ℕ) (past : LockPast) (e : LockEntry) → AreBelow n past → breaks_together n past e ≡ false → IsAloneInside past → IsAloneInside (e ∷ past)
alone-on n past e are keeps alone p q p_inside q_inside = elim (cases_eq p e.process) [
  | inl p_mine ↦ elim (cases_eq q e.process) [
    | inl q_mine ↦ p_mine ∙ sym q_mine
    | inr q_other ↦ p_mine ∙ mine q (inside p p_mine p_inside) q_other (was q q_other q_inside)
  ]
  | inr p_other ↦ elim (cases_eq q e.process) [
    | inl q_mine ↦ sym (q_mine ∙ mine p (inside q q_mine q_inside) p_other (was p p_other p_inside))
    | inr q_other ↦ alone p q (was p p_other p_inside) (was q q_other q_inside)
  ]
]
  where
    was : (r : ℕ) → r ≢ e.process → is_inside (lock_stage r (e ∷ past)) ≡ true → is_inside (lock_stage r past) ≡ true
    was r other h = sym (ap is_inside (stage-other r e past other)) ∙ h

    inside : (r : ℕ) → r ≡ e.process → is_inside (lock_stage r (e ∷ past)) ≡ true → is_inside (fold stage_after (lock_stage e.process past) e.marks) ≡ true
    inside r mine h = ap is_inside (sym (stage-mine e past)) ∙ ap (λ n. is_inside (lock_stage n (e ∷ past))) (sym mine) ∙ h

    mine : (r : ℕ) → is_inside (fold stage_after (lock_stage e.process past) e.marks) ≡ true → r ≢ e.process → is_inside (lock_stage r past) ≡ true → e.process ≡ r
    mine r h other there = elim (cases_Bool (has_mark is_enter e)) [
      | inl enters ↦ absurd (other (enters-alone n past e are keeps enters r there))
      | inr none ↦ alone e.process r (was-inside e.marks (lock_stage e.process past) none h) there
    ]

-- An entry that enters overtakes no process.
pub enters-in-turn : (n : ℕ) (past : LockPast) (e : LockEntry) → AreBelow n past → breaks_overtaken n past e ≡ false → EntersInTurn past e
enters-in-turn n past e are keeps enters q = elim (cases_lt q n) [
  | inl below ↦ none_ahead (lock_passage past) n e.process (has_mark is_enter e) keeps enters q below
  | inr above ↦
      ap (λ b. not (q == e.process) && (b && is_before (lock_passage past q).waits (lock_passage past e.process).doorway)) ((tied past q).waiting ∙ ap is_waiting (are q above))
      ∙ and-false (not (q == e.process))
]
