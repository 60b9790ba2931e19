-- The entries that are shown, once there is one more.
use Rattle.std.proofs.Common.{◌≡◌, ◌<◌, ◌≤◌, ℕ, ◌+◌, Bool, true, false, true≢false, not, ◌||◌, List, [], ◌∷◌, ◌++◌, length, reverse, Option, Some, None, refl, ap, sym, ◌∙◌, arith}
use Rattle.std.proofs.lemmas.List.{length-append, length-reverse, length-take, take-append-le, take_all}
use Rattle.trace.specs.{TraceEntry, TracePast, TraceSetup}
use Rattle.trace_engine.specs.{is_good}
use Rattle.trace_engine.specs.trace_judge.{TraceLaw, TraceVerdict, first_broken, verdict_after, verdict_of, verdict_with}
use Rattle.trace_engine.specs.trace_judge.declared.verdicts.TraceVerdict.TheVariants.{Good, Bad}
use Rattle.trace_engine.proofs.trace_judge.OneMore.{verdict_bad, verdict_good}
use Rattle.trace_draw.specs.{shown, shown_by}

-- a bad entry is one of those that there are
bad_below : (s : TraceSetup) (past : TracePast) (k : ℕ) (l : TraceLaw) → verdict_after s past ≡ Bad k l → k < length past
bad_below s [] k l h = absurd (let good : Good ≡ Bad k l = h in cc)
bad_below s (e ∷ past) k l h = by (verdict_after s past) (bad_below s past k l) h
  where
    at : (o : Option TraceLaw) → verdict_with (length past) o ≡ Bad k l → k < length (e ∷ past)
    at None h = absurd (let good : Good ≡ Bad k l = h in cc)
    at (Some m) h = let both : Bad (length past) m ≡ Bad k l = h in let same : length past ≡ k = cc in omega (arith, same)

    by : (v : TraceVerdict) → (v ≡ Bad k l → k < length past) → elim v as (λ _. TraceVerdict) [ Good ↦ verdict_with (length past) (first_broken s past e) | Bad k l ↦ Bad k l ] ≡ Bad k l → k < length (e ∷ past)
    by Good before h = at (first_broken s past e) h
    by (Bad j m) before h = let below : k < length past = before h in omega (arith, below)

-- none is shown of none
pub shown_none : (judged : Bool) (s : TraceSetup) → shown judged s [] ≡ []
shown_none false s = refl
shown_none true s = refl

-- no more are shown than there are
fewer : (v : TraceVerdict) (entries : List TraceEntry) → length (shown_by v entries) ≤ length entries
fewer Good entries = omega arith
fewer (Bad k l) entries = let few = length-take (k + 1) entries in omega (arith, few)

pub shown_few : (judged : Bool) (s : TraceSetup) (entries : List TraceEntry) → length (shown judged s entries) ≤ length entries
shown_few false s entries = omega arith
shown_few true s entries = fewer (verdict_of s entries) entries

module _ (s : TraceSetup) (entries : List TraceEntry) (e : TraceEntry) where
  -- behind good ones it is shown
  all_shown : (o : Option TraceLaw) → shown_by (verdict_with (length entries) o) (entries ++ e ∷ []) ≡ entries ++ e ∷ []
  all_shown None = refl
  all_shown (Some l) = take_all (length entries + 1) (entries ++ e ∷ []) (let long = length-append entries (e ∷ []) in omega (arith, long))

  good_shown : verdict_of s entries ≡ Good → shown true s (entries ++ e ∷ []) ≡ shown true s entries ++ e ∷ []
  good_shown good =
      ap (λ v. shown_by v (entries ++ e ∷ [])) (verdict_good s entries e good) ∙ all_shown (first_broken s (reverse entries) e)
      ∙ ap (λ v. shown_by v entries ++ e ∷ []) (sym good)

  -- behind a bad one it is not
  bad_shown : (k : ℕ) (l : TraceLaw) → verdict_of s entries ≡ Bad k l → shown true s (entries ++ e ∷ []) ≡ shown true s entries
  bad_shown k l bad =
      let below : k < length (reverse entries) = bad_below s (reverse entries) k l bad in
      ap (λ v. shown_by v (entries ++ e ∷ [])) (verdict_bad s entries e k l bad)
      ∙ take-append-le (k + 1) entries (e ∷ []) (let long = length-reverse entries in omega (arith, below, long))
      ∙ ap (λ v. shown_by v entries) (sym bad)

  pub shown_next : (judged : Bool) → (not judged || is_good (verdict_of s entries)) ≡ true → shown judged s (entries ++ e ∷ []) ≡ shown judged s entries ++ e ∷ []
  shown_next false shows = refl
  shown_next true shows = by (verdict_of s entries) refl shows
    where
      by : (v : TraceVerdict) → verdict_of s entries ≡ v → is_good v ≡ true → shown true s (entries ++ e ∷ []) ≡ shown true s entries ++ e ∷ []
      by Good is shows = good_shown is
      by (Bad k l) is shows = absurd (true≢false (sym shows))

  pub shown_still : (judged : Bool) → (not judged || is_good (verdict_of s entries)) ≡ false → shown judged s (entries ++ e ∷ []) ≡ shown judged s entries
  shown_still false stops = absurd (true≢false stops)
  shown_still true stops = by (verdict_of s entries) refl stops
    where
      by : (v : TraceVerdict) → verdict_of s entries ≡ v → is_good v ≡ false → shown true s (entries ++ e ∷ []) ≡ shown true s entries
      by Good is stops = absurd (true≢false stops)
      by (Bad k l) is stops = bad_shown k l is
