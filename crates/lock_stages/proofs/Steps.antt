-- The state of a process after one more entry.
use Rattle.std.proofs.Common.{◌≡◌, ℕ, ◌==◌, Bool, true, false, cond, List, [], ◌∷◌, fold, length, refl, sym, ap, ◌∙◌, eq-eqb}
use Rattle.trace.specs.{LockMark}
use Rattle.trace.specs.declared.marks.LockMark.TheVariants.{Call, Wait, Enter, Leave, Answer}
use Rattle.lock_stages.specs.{LockEntry, LockPast, LockStage, Passage, ProcessState, accessed, is_inside, is_waiting, lock_passage, lock_stage, marked, passage_after, passage_marked, process_state, process_state_after, stage_after, with_access}

-- marks change the stage and the passage apart
marks-apart : (n : ℕ) (ms : List LockMark) (k : ProcessState) → fold (marked n) k ms ≡ record { stage = fold stage_after k.stage ms; passage = fold (passage_marked n) k.passage ms }
marks-apart n [] k = refl
marks-apart n (m ∷ ms) k = marks-apart n ms (marked n k m)

-- an entry of the process itself
pub state-mine : (p : ℕ) (e : LockEntry) (past : LockPast) → e.process ≡ p →
    process_state p (e ∷ past) ≡ process_state_after (length past) e.accesses e.marks (process_state p past)
state-mine p e past h =
    let n = length past in
    (λ i. record {
      stage = cond (eq-eqb e.process p h i) (fold stage_after (lock_stage p past) e.marks) (lock_stage p past);
      passage = cond (eq-eqb e.process p h i) (passage_after n e (lock_passage past p)) (lock_passage past p);
    })
    ∙ sym (marks-apart n e.marks (accessed n e.accesses (process_state p past)))

-- an entry of another process
pub state-other : (q : ℕ) (e : LockEntry) (past : LockPast) → (e.process == q) ≡ false → process_state q (e ∷ past) ≡ process_state q past
state-other q e past h = λ i. record {
  stage = cond (h i) (fold stage_after (lock_stage q past) e.marks) (lock_stage q past);
  passage = cond (h i) (passage_after (length past) e (lock_passage past q)) (lock_passage past q);
}

-- By its passage a process is inside, or waits, if it does so by its stage.
pub record IsTied (t : Passage) (stage : LockStage) : Type 0 where
  pub inside : t.inside ≡ is_inside stage
  pub waiting : t.waiting ≡ is_waiting stage

tied-mark : (n : ℕ) (t : Passage) (stage : LockStage) (m : LockMark) → IsTied (passage_marked n t m) (stage_after stage m)
tied-mark n t stage Call = record { inside = refl; waiting = refl }
tied-mark n t stage Wait = record { inside = refl; waiting = refl }
tied-mark n t stage Enter = record { inside = refl; waiting = refl }
tied-mark n t stage Leave = record { inside = refl; waiting = refl }
tied-mark n t stage Answer = record { inside = refl; waiting = refl }

tied-marks : (n : ℕ) (ms : List LockMark) (t : Passage) (stage : LockStage) → IsTied t stage → IsTied (fold (passage_marked n) t ms) (fold stage_after stage ms)
tied-marks n [] t stage tied = tied
tied-marks n (m ∷ ms) t stage tied = tied-marks n ms (passage_marked n t m) (stage_after stage m) (tied-mark n t stage m)

tied-access : (n : ℕ) (accesses : Bool) (t : Passage) (stage : LockStage) → IsTied t stage → IsTied (cond accesses (with_access n t) t) stage
tied-access n true t stage tied = record { inside = tied.inside; waiting = tied.waiting }
tied-access n false t stage tied = tied

tied-entry : (n : ℕ) (mine : Bool) (e : LockEntry) (t : Passage) (stage : LockStage) → IsTied t stage → IsTied (cond mine (passage_after n e t) t) (cond mine (fold stage_after stage e.marks) stage)
tied-entry n true e t stage tied = tied-marks n e.marks (cond e.accesses (with_access n t) t) stage (tied-access n e.accesses t stage tied)
tied-entry n false e t stage tied = tied

pub tied : (past : LockPast) (p : ℕ) → IsTied (lock_passage past p) (lock_stage p past)
tied [] p = record { inside = refl; waiting = refl }
tied (e ∷ past) p = tied-entry (length past) (e.process == p) e (lock_passage past p) (lock_stage p past) (tied past p)

-- so processes at the same stage agree in both
pub inside-same : (past other : LockPast) (q : ℕ) → lock_stage q past ≡ lock_stage q other → (lock_passage past q).inside ≡ (lock_passage other q).inside
inside-same past other q same = (tied past q).inside ∙ ap is_inside same ∙ sym (tied other q).inside

pub waiting-same : (past other : LockPast) (q : ℕ) → lock_stage q past ≡ lock_stage q other → (lock_passage past q).waiting ≡ (lock_passage other q).waiting
waiting-same past other q same = (tied past q).waiting ∙ ap is_waiting same ∙ sym (tied other q).waiting
