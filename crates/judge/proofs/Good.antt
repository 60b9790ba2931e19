-- A record that is good for this project's lock is good for any lock.
use Rattle.std.proofs.Common.{◌≡◌, ◌≢◌, ℕ, zero, suc, ◌==◌, not, ◌&&◌, Bool, true, false, List, [], ◌∷◌, Contains, length, refl, ap, ◌∙◌, subst, arith, ◌⊎◌, inl, inr}
use Rattle.std.proofs.lemmas.Bool.Decides.{nat_tests}
use Rattle.std.specs.List.{list_all}
use Rattle.std.specs.Option.{is_some}
use Rattle.std.proofs.lemmas.Bool.{cases_eq}
use Rattle.plain_store.specs.{Reply, Setup}
use Rattle.model.specs.{Entry, Past, TakesItsPlace, has, history, inside, is_entered, takings}
use Rattle.judge.specs.auditor.{KeepsTogether}
use Rattle.judge.specs.safe_monitor.declared.verdicts.Law.TheVariants as law
use Rattle.any_lock.specs.{breaks_history, breaks_together, is_other_inside, is_that, other_inside, passage_in, right_reply, same_reply}
use Rattle.any_lock.proofs.Breaks.{broken_by}
use Rattle.judge.specs.{GoodKeepsOfAny}
use Rattle.judge.proofs.NoneBelow.{none_below}
use Rattle.judge.proofs.SameReply.{same_as_itself}

pub keeps_together : (s : Setup) (past : Past) (e : Entry) → KeepsTogether past e → breaks_together s past e ≡ false
keeps_together s past e kept = by (has is_entered e) refl
  where
    other : has is_entered e ≡ true → (q : ℕ) → is_other_inside (passage_in past) e.process q ≡ false
    other entered q = go (inside q past) refl (cases_eq q e.process)
      where
        and_false : (b : Bool) → (b && false) ≡ false
        and_false true = refl
        and_false false = refl

        go : (b : Bool) → inside q past ≡ b → (q ≡ e.process) ⊎ (q ≢ e.process) → (not (q == e.process) && inside q past) ≡ false
        go false out either = ap (λ b. not (q == e.process) && b) out ∙ and_false (not (q == e.process))
        go true is (inl same) = let test : (q == e.process) ≡ true = grind (arith, nat_tests) in ap (λ b. not b && inside q past) test
        go true is (inr apart) = absurd (apart (kept entered q is))

    by : (b : Bool) → has is_entered e ≡ b → breaks_together s past e ≡ false
    by false outside = ap (λ b. b && is_some (other_inside (passage_in past) s.processes e.process)) outside
    by true enters =
        ap (λ b. b && is_some (other_inside (passage_in past) s.processes e.process)) enters
        ∙ ap is_some (none_below s.processes (is_other_inside (passage_in past) e.process) (other enters))

all_true : {A : Type 0} (test : A → Bool) (xs : List A) → ((x : A) → Contains xs x → test x ≡ true) → list_all test xs ≡ true
all_true test [] each = refl
all_true test (x ∷ xs) each =
    let later = all_true test xs (λ y among. each y (suc among.0, omega (arith, among.1), among.2)) in
    ap (λ b. b && list_all test xs) (each x (zero, omega arith, refl)) ∙ later

pub keeps_history : (s : Setup) (past : Past) (e : Entry) → TakesItsPlace s past e → breaks_history s past e ≡ false
keeps_history s past e kept = ap not (all_true (is_that (length (history s past)) (right_reply s past e.process)) (takings e.marks) each)
  where
    each : (t : ℕ × Reply) → Contains (takings e.marks) t → is_that (length (history s past)) (right_reply s past e.process) t ≡ true
    each t among =
        let right = kept t.0 t.1 among in
        let place : (t.0 == length (history s past)) ≡ true = let is = right.0 in grind (arith, nat_tests) in
        ap (λ b. b && same_reply t.1 (right_reply s past e.process)) place
        ∙ subst (λ (r : Reply). same_reply t.1 r ≡ true) right.1 (same_as_itself t.1)

pub good_keeps : GoodKeepsOfAny
good_keeps s past e all = record {
  safe = broken_by s past e (all.0 law.Safe);
  together = keeps_together s past e (all.0 law.Together);
  history = keeps_history s past e (all.0 law.History);
}
