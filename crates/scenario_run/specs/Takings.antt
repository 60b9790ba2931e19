-- The part of a growing text that a sink took, while an observer observes a run.
use Rattle.std.specs.Prelude.{◌≡◌, ◌+◌, ℕ, List, ◌++◌, Option, Err, refl}
use Rattle.std.proofs.Common.{ap, sym, ◌∙◌, add-zero}
use Rattle.scenario.specs.files.{Fault, IsWriteFault, failed_write}
use Rattle.scenario.specs.files.declared.faults.Fault.TheVariants.{Memory}
use Rattle.scenario_run.specs.Growing.{part_after, part_longer, part_none, writes_both, writes_none}
use Rattle.scenario_run.specs.Writing.{Writes, WritesPart}

-- if P held before, the text that was added was written; no call failed
pub record Took (P : Type 0) (before after : List ℕ) (old new : Option (List ℕ)) (failed fails : ℕ) : Type 0 where
  pub writes : P → Writes before after old new
  pub whole : fails ≡ failed

-- if P held before, a prefix of the text was written; then this fault occurred
pub record TookPart (P : Type 0) (before after : List ℕ) (old new : Option (List ℕ)) (failed fails : ℕ) (fault : Fault) : Type 0 where
  pub part : P → WritesPart before after old new
  pub is : IsWriteFault fault
  pub fails_are : fails ≡ failed + failed_write {A = Unit {0}} (Err fault)

pub took_none : (P : Type 0) (t : List ℕ) (a : Option (List ℕ)) (n : ℕ) → Took P t t a a n n
took_none P t a n = record { writes = λ p. writes_none t a; whole = refl }

pub took_on : {P Q : Type 0} {t u v : List ℕ} {a b c : Option (List ℕ)} {m n o : ℕ} → (P → Q) → Took P t u a b m n → Took Q u v b c n o → Took P t v a c m o
took_on {P} {Q} {t} {u} {v} {a} {b} {c} on first next = record { writes = λ p. writes_both t u v a b c (first.writes p) (next.writes (on p)); whole = next.whole ∙ first.whole }

pub part_unobserved : (P : Type 0) (t : List ℕ) (a : Option (List ℕ)) (n : ℕ) → TookPart P t t a a n n Memory
part_unobserved P t a n = record { part = λ p. part_none t t a ((writes_none t a).text, (writes_none t a).is); is = tt; fails_are = sym (add-zero n) }

pub part_before : {P : Type 0} {t u v : List ℕ} {a b : Option (List ℕ)} {m n : ℕ} {fault : Fault} → ((more : List ℕ) × (v ≡ u ++ more)) → TookPart P t u a b m n fault → TookPart P t v a b m n fault
part_before {P} {t} {u} {v} {a} {b} more part = record { part = λ p. part_longer t u v a b (part.part p) more; is = part.is; fails_are = part.fails_are }

pub part_on : {P Q : Type 0} {t u v : List ℕ} {a b c : Option (List ℕ)} {m n o : ℕ} {fault : Fault} → (P → Q) → Took P t u a b m n → TookPart Q u v b c n o fault → TookPart P t v a c m o fault
part_on {P} {Q} {t} {u} {v} {a} {b} {c} {m} {n} {o} {fault} on first part = record {
  part = λ p. part_after t u v a b c (first.writes p) (part.part (on p));
  is = part.is;
  fails_are = part.fails_are ∙ ap (λ k. k + failed_write {A = Unit {0}} (Err fault)) first.whole;
}
