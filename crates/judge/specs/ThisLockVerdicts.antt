-- The verdict on a record of this project's lock, with one more entry.
use Rattle.std.specs.Prelude.{◌≡◌, ℕ, List, [], ◌∷◌, ◌++◌, length, reverse}
use Rattle.std.proofs.Common.{ap, subst, sym, ◌∙◌}
use Rattle.std.proofs.lemmas.List.{length-reverse, reverse-append}
use Rattle.plain_store.specs.{Setup}
use Rattle.model.specs.{Entry, Past}
use Rattle.auditor.specs.{AllKeep, IsVerdict, KeepsAll, Law}
use Rattle.auditor.specs.safe_monitor.declared.verdicts.Verdict.TheVariants.{Good, Bad}

-- some entries and one more, the newest first
pub newest_first : (entries : List Entry) (e : Entry) → reverse (entries ++ e ∷ []) ≡ e ∷ reverse entries
newest_first entries e = reverse-append entries (e ∷ [])

-- the verdict on an empty record is good
pub none_is_bad : (s : Setup) → IsVerdict s [] Good
none_is_bad s = tt

-- a bad verdict stays with one more entry
pub stays_bad : (s : Setup) (entries : List Entry) (e : Entry) (k : ℕ) (l : Law) → IsVerdict s entries (Bad k l) → IsVerdict s (entries ++ e ∷ []) (Bad k l)
stays_bad s entries e k l is = record {
  entry = is.entry;
  past = is.past;
  at = record { later = e ∷ is.at.later; splits = newest_first entries e ∙ ap (λ (x : Past). e ∷ x) is.at.splits; number = is.at.number };
  before = is.before;
  breaks = is.breaks;
}

-- if each entry keeps all laws, one of them does
one_keeps : (s : Setup) (later past : Past) (e : Entry) → AllKeep s (later ++ e ∷ past) → KeepsAll s past e
one_keeps s [] past e all = all.0
one_keeps s (x ∷ later) past e all = one_keeps s later past e all.1

-- after a good record the bad entry is the newest one
newest_bad : (s : Setup) (past : Past) (e y : Entry) (later ys : Past) → AllKeep s past → e ∷ past ≡ later ++ y ∷ ys → (KeepsAll s ys y → ⊥) → past ≡ ys
newest_bad s past e y [] ys all splits bad = cc
newest_bad s past e y (z ∷ later) ys all splits bad = let rest : past ≡ later ++ y ∷ ys = cc in absurd (bad (one_keeps s later ys y (subst (AllKeep s) rest all)))

pub newest_is_bad : (s : Setup) (entries : List Entry) (e : Entry) (k : ℕ) (l : Law) → IsVerdict s entries Good → IsVerdict s (entries ++ e ∷ []) (Bad k l) → k ≡ length entries
newest_is_bad s entries e k l kept is =
    let past : reverse entries ≡ is.past = newest_bad s (reverse entries) e is.entry is.at.later is.past kept (sym (newest_first entries e) ∙ is.at.splits) (λ keeps. is.breaks.broken (keeps l)) in
    sym is.at.number ∙ sym (ap (λ (x : Past). length x) past) ∙ length-reverse entries
