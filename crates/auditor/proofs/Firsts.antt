-- The first law that an entry breaks.
use Rattle.std.proofs.Common.{◌≡◌, ℕ, suc, ◌<◌, Bool, true, false, List, [], ◌∷◌, ◌++◌, length, reverse, take, drop, slice_index_or, ap, ◌∙◌, arith, append_assoc}
use Rattle.std.proofs.lemmas.List.{reverse-append, length-reverse, length-take-le}
use Rattle.plain_store.specs.{Setup}
use Rattle.model.specs.{Entry, Past}
use Rattle.safe_monitor.specs.Safe.{ReportsSafe}
use Rattle.auditor.specs.{AllKeep, BreaksFirst, BreaksNext, IsBadAt, Keeps, Law, number_of}
use Rattle.safe_monitor.specs.declared.verdicts.Law.TheVariants as law
use Rattle.auditor.proofs.Entries.{entries_split}

pub breaks_safe : (s : Setup) (past : Past) (e : Entry) (reported : Bool) → reported ≡ false → ReportsSafe reported s past e → BreaksFirst law.Safe s past e
breaks_safe s past e true is wrong = absurd (cc)
breaks_safe s past e false is wrong = record { broken = wrong; before = λ k l. absurd (omega (arith, l)) }

pub breaks_then : (s : Setup) (past : Past) (e : Entry) (l : Law) (reported : Bool) → reported ≡ true → ReportsSafe reported s past e → BreaksNext l s past e → BreaksFirst l s past e
breaks_then s past e l false is safe next = absurd (cc)
breaks_then s past e l true is safe next = record { broken = next.broken; before = before }
  where
    before : (k : Law) → number_of k < number_of l → Keeps k s past e
    before law.Safe less = safe
    before law.Program less = next.before law.Program (omega arith) less
    before law.Unit less = next.before law.Unit (omega arith) less
    before law.Together less = next.before law.Together (omega arith) less
    before law.Overtaken less = next.before law.Overtaken (omega arith) less
    before law.History less = next.before law.History (omega arith) less

-- an entry of a record that breaks a law first
pub is_bad_at : (s : Setup) (entries : List Entry) (k : ℕ) (e : Entry) (l : Law) → k < length entries → e ≡ slice_index_or entries k e → AllKeep s (reverse (take k entries)) → BreaksFirst l s (reverse (take k entries)) e → IsBadAt s entries k l
is_bad_at s entries k e l within is kept breaks = record {
  entry = e;
  past = reverse (take k entries);
  at = record {
    later = reverse (drop (suc k) entries);
    splits = ap reverse (entries_split entries k e within is) ∙ reverse-append (take k entries) (e ∷ drop (suc k) entries) ∙ two (reverse (take k entries)) e (drop (suc k) entries);
    number = length-reverse (take k entries) ∙ length-take-le k entries (omega (arith, within));
  };
  before = kept;
  breaks = breaks;
}
  where
    two : (past : Past) (e : Entry) (xs : List Entry) → reverse (e ∷ xs) ++ past ≡ reverse xs ++ e ∷ past
    two past e xs = ap (λ l. l ++ past) (reverse-append (e ∷ []) xs) ∙ append_assoc (reverse xs) (e ∷ []) past
