-- Entries that keep all laws: no two processes are inside, no process overtakes, and a command is taken at its position with its reply.
use Rattle.std.proofs.Common.{◌≡◌, ◌≢◌, ℕ, zero, suc, ◌<◌, ◌≤◌, ◌==◌, Bool, true, false, not, ◌&&◌, cond, List, [], ◌∷◌, None, fold, length, get_or, refl, sym, ap, ◌∙◌, subst, arith, true≢false, ◌⊎◌, inl, inr, ne_eqb, eq-eqb, eqb-true}
use Rattle.std.specs.List.{list_all, list_any}
use Rattle.std.proofs.lemmas.Bool.{and_parts, cases_eq, cases_lt}
use Rattle.std.proofs.lemmas.Bool.Decides.{Decides-int_eq}
use Rattle.plain_store.specs.{Reply, Setup}
use Rattle.plain_store.specs.declared.Reply.TheVariants as reply
use Rattle.plain_store.proofs.Changes.{same_value-Decides}
use Rattle.model.specs.{Entry, IsAlone, Mark, Past, TakesItsPlace, has, history, inside, inside_after, is_before, is_entered, is_waiting_stage, stage as stage_at, stage_after, takings}
use Rattle.model.specs.declared.marks.Mark.TheVariants as mark
use Rattle.model.specs.declared.stages.Stage.TheVariants as stage
use Rattle.any_lock.specs.declared.any_lock_law.AnyLockLaw.TheVariants as law
use Rattle.any_lock.specs.{AnyLockLaw, Verdict, OvertakesNobody, breaks_access, breaks_history, breaks_marks, breaks_overtaken, breaks_together, first_broken, is_that, passage_in, refusal_of_access, refusal_of_marks, right_reply, same_reply, verdict_after, verdict_with}
use Rattle.safe_monitor.specs.declared.verdicts.Verdict.TheVariants.{Good, Bad}
use Rattle.any_lock.proofs.Breaks.{none_else, none_if, process_there, unbroken, unrefused}
use Rattle.lock_stages.proofs.Entering.{none_ahead, none_inside}
use Rattle.lock_stages.proofs.Lowest.{unsome}
use Rattle.any_lock.proofs.Reported.{found_good}

-- The properties of an entry that breaks no law.
pub record Keeps (s : Setup) (past : Past) (e : Entry) : Type 0 where
  pub access : refusal_of_access s past e ≡ None
  pub marks : refusal_of_marks s past e ≡ None
  pub together : breaks_together s past e ≡ false
  pub overtaken : breaks_overtaken s past e ≡ false
  pub history : breaks_history s past e ≡ false

pub keeps : (s : Setup) (past : Past) (e : Entry) → first_broken s past e ≡ None → Keeps s past e
keeps s past e h =
    let later = (unbroken s past e h).1 in
    let marks = none_else (breaks_access s past e) law.Access _ later in
    let inner = none_else (breaks_marks s past e) law.Marks _ marks in
    let last = none_else (breaks_together s past e) law.Together _ inner in
    record {
      access = unrefused s past e later;
      marks = unsome (refusal_of_marks s past e) (none_if (breaks_marks s past e) law.Marks _ marks);
      together = none_if (breaks_together s past e) law.Together _ inner;
      overtaken = none_if (breaks_overtaken s past e) law.Overtaken _ last;
      history = none_if (breaks_history s past e) law.History _ (none_else (breaks_overtaken s past e) law.Overtaken _ last);
    }

-- each entry keeps all laws
abbrev pub AllKeep : Setup → Past → Type 0
AllKeep s [] = Unit {0}
AllKeep s (e ∷ past) = Keeps s past e × AllKeep s past

pub all_keep : (s : Setup) (past : Past) → verdict_after s past ≡ Good → AllKeep s past
all_keep s [] good = tt
all_keep s (e ∷ past) good = go (verdict_after s past) refl (all_keep s past)
  where
    go : (v : Verdict AnyLockLaw) → verdict_after s past ≡ v → (verdict_after s past ≡ Good → AllKeep s past) → AllKeep s (e ∷ past)
    go Good is before = (
      keeps s past e (found_good (length past) (first_broken s past e)
          (ap (λ v. elim v as (λ _. Verdict AnyLockLaw) [ Good ↦ verdict_with (length past) (first_broken s past e) | Bad k l ↦ Bad k l ]) (sym is) ∙ good)),
      before is,
    )
    go (Bad k l) is before = let both : Bad k l ≡ Good = ap (λ v. elim v as (λ _. Verdict AnyLockLaw) [ Good ↦ verdict_with (length past) (first_broken s past e) | Bad k l ↦ Bad k l ]) (sym is) ∙ good in absurd (cc)

-- A process that does not exist has no entries.

pub stray : (s : Setup) (past : Past) → AllKeep s past → (j : ℕ) → s.processes ≤ j → (stage_at j past ≡ stage.Idle) × (inside j past ≡ false)
stray s [] all j out = (refl, refl)
stray s (e ∷ past) all j out =
    let below : e.process < s.processes = process_there s past e all.0.access in
    let apart : e.process ≢ j = λ same. absurd (omega (arith, below, out, same)) in
    let before = stray s past all.1 j out in (
      ap (λ b. cond b (fold stage_after (stage_at j past) e.marks) (stage_at j past)) (ne_eqb e.process j apart) ∙ before.0,
      ap (λ b. cond b (fold inside_after (inside j past) e.marks) (inside j past)) (ne_eqb e.process j apart) ∙ before.1,
    )

-- When a process enters, no other is inside, and none is ahead.

and-none : (b : Bool) → (b && false) ≡ false
and-none true = refl
and-none false = refl

pub enters_alone : (s : Setup) (past : Past) (e : Entry) → AllKeep s past → Keeps s past e → has is_entered e ≡ true → (j : ℕ) → j ≢ e.process → inside j past ≡ false
enters_alone s past e all kept enters j apart = elim (cases_lt j s.processes) [
  | inl below ↦ none_inside (passage_in past) s.processes e.process (has is_entered e) kept.together enters j below apart
  | inr out ↦ (stray s past all j out).1
]

pub overtakes_nobody : (s : Setup) (past : Past) (e : Entry) → AllKeep s past → Keeps s past e → OvertakesNobody past e
overtakes_nobody s past e all kept enters j = elim (cases_lt j s.processes) [
  | inl below ↦ none_ahead (passage_in past) s.processes e.process (has is_entered e) kept.overtaken enters j below
  | inr out ↦
      ap (λ x. not (j == e.process) && (is_waiting_stage x && is_before (passage_in past j).waits (passage_in past e.process).doorway)) (stray s past all j out).0
      ∙ and-none (not (j == e.process))
]

-- No two processes are inside.

still_inside : (ms : List Mark) (b : Bool) → list_any is_entered ms ≡ false → fold inside_after b ms ≡ true → b ≡ true
still_inside [] b none h = h
still_inside (mark.Entered ∷ ms) b none h = absurd (true≢false none)
still_inside (mark.Left ∷ ms) b none h = absurd (true≢false (sym (still_inside ms false none h)))
still_inside (_ ∷ ms) b none h = still_inside ms b none h

-- a process that enters or stays inside excludes each other process
beside : (s : Setup) (past : Past) (e : Entry) → AllKeep s past → Keeps s past e → IsAlone past → (j : ℕ) → j ≢ e.process → inside e.process (e ∷ past) ≡ true → inside j past ≡ true → e.process ≡ j
beside s past e all kept alone j apart mine other = go (has is_entered e) refl
  where
    go : (b : Bool) → has is_entered e ≡ b → e.process ≡ j
    go true enters = absurd (true≢false (sym other ∙ enters_alone s past e all kept enters j apart))
    go false none = alone e.process j (still_inside e.marks (inside e.process past) none
        (sym (ap (λ b. cond b (fold inside_after (inside e.process past) e.marks) (inside e.process past)) (eq-eqb e.process e.process refl)) ∙ mine)) other

inside-other : (j : ℕ) (e : Entry) (past : Past) → j ≢ e.process → inside j (e ∷ past) ≡ true → inside j past ≡ true
inside-other j e past apart h = sym (ap (λ b. cond b (fold inside_after (inside j past) e.marks) (inside j past)) (ne_eqb e.process j (λ same. apart (sym same)))) ∙ h

pub alone_on : (s : Setup) (past : Past) (e : Entry) → AllKeep s past → Keeps s past e → IsAlone past → IsAlone (e ∷ past)
alone_on s past e all kept alone i j hi hj = go (cases_eq i e.process) (cases_eq j e.process)
  where
    go : (i ≡ e.process) ⊎ (i ≢ e.process) → (j ≡ e.process) ⊎ (j ≢ e.process) → i ≡ j
    go (inl a) (inl b) = a ∙ sym b
    go (inl a) (inr b) = a ∙ beside s past e all kept alone j b (subst (λ q. inside q (e ∷ past) ≡ true) a hi) (inside-other j e past b hj)
    go (inr a) (inl b) = sym (b ∙ beside s past e all kept alone i a (subst (λ q. inside q (e ∷ past) ≡ true) b hj) (inside-other i e past a hi))
    go (inr a) (inr b) = alone i j (inside-other i e past a hi) (inside-other j e past b hj)

pub all_alone : (s : Setup) (past : Past) → AllKeep s past → IsAlone past
all_alone s [] all i j hi hj = absurd (true≢false (sym hi))
all_alone s (e ∷ past) all i j hi hj = alone_on s past e all.1 all.0 (all_alone s past all.1) i j hi hj

-- The commands taken.

at_index : {A : Type 0} (p : A → Bool) (xs : List A) (i : ℕ) (x : A) → list_all p xs ≡ true → i < length xs → get_or xs i x ≡ x → p x ≡ true
at_index p [] i x all within is = absurd (omega arith)
at_index p (y ∷ xs) zero x all within is = subst (λ z. p z ≡ true) is (and_parts (p y) (list_all p xs) all).0
at_index p (y ∷ xs) (suc i) x all within is = at_index p xs i x (and_parts (p y) (list_all p xs) all).1 (omega arith) is

pub same_is : (q r : Reply) → same_reply q r ≡ true → q ≡ r
same_is (reply.Value x) (reply.Value y) h = ap reply.Value ((same_value-Decides x y).0 h)
same_is reply.Done reply.Done h = refl
same_is (reply.Sum m) (reply.Sum n) h = ap reply.Sum ((Decides-int_eq m n).0 h)
same_is reply.Swapped reply.Swapped h = refl
same_is (reply.Kept x) (reply.Kept y) h = ap reply.Kept ((same_value-Decides x y).0 h)
same_is reply.NoName reply.NoName h = refl
same_is reply.NotCounter reply.NotCounter h = refl
same_is reply.Overflow reply.Overflow h = refl
same_is reply.StoreFull reply.StoreFull h = refl
same_is (reply.Last m) (reply.Last n) h = ap reply.Last (eqb-true m n h)
same_is _ _ h = absurd (true≢false (sym h))

pub not_not : (b : Bool) → not b ≡ false → b ≡ true
not_not true h = refl
not_not false h = sym h

pub takes_its_place : (s : Setup) (past : Past) (e : Entry) → Keeps s past e → TakesItsPlace s past e
takes_its_place s past e kept k r among =
    let right : is_that (length (history s past)) (right_reply s past e.process) (k, r) ≡ true =
    at_index (is_that (length (history s past)) (right_reply s past e.process)) (takings e.marks) among.0 (k, r) (not_not _ kept.history) among.1 among.2 in
    let parts = and_parts (k == length (history s past)) (same_reply r (right_reply s past e.process)) right in
    (eqb-true k (length (history s past)) parts.0, same_is r (right_reply s past e.process) parts.1)
