-- The lines after a verdict, as entries are observed.
use Rattle.std.proofs.Common.{◌≡◌, ℕ, zero, suc, Bool, true, false, ◌&&◌, List, [], ◌∷◌, ◌++◌, length, reverse, Option, None, Some, Result, Ok, Err, OnOk, slice_get, refl, ap, sym, subst, ◌∙◌, true≢false, append-nil, arith}
use Rattle.std.proofs.lemmas.List.{length-append, length-reverse, reverse-append}
use Rattle.trace.specs.{TraceEntry, TracePast, TraceSetup}
use Rattle.trace_judge.specs.{AreReasons, AreReasonsOf, HasJudged, TraceLaw, TraceReasons, TraceVerdict, first_broken, verdict_of, verdict_with}
use Rattle.trace_judge.specs.declared.verdicts.TraceVerdict.TheVariants.{Good, Bad}
use Rattle.trace_judge.proofs.OneMore.{newest_first, verdict_bad, verdict_good}
use Rattle.trace_judge.proofs.Sound.{means-sound}
use Rattle.trace_engine.specs.Lines.{lines_if, trace_reason_lines, trace_status_of, trace_verdict_line}
use Rattle.trace_engine.specs.Reports.{AreLinesAt, AreLinesOf, HasReported, ReporterState, ReportsTrace, is_good}

-- the last number of a list
last_number : (ns : List ℕ) (n k : ℕ) → length ns ≡ k → slice_get (ns ++ n ∷ []) k ≡ Some n
last_number ns n k long = subst (λ k. slice_get (ns ++ n ∷ []) k ≡ Some n) long (at ns)
  where
    at : (ns : List ℕ) → slice_get (ns ++ n ∷ []) (length ns) ≡ Some n
    at [] = refl
    at (m ∷ ns) = at ns

-- a number before the last
number_before : (ns : List ℕ) (n k m : ℕ) → slice_get ns k ≡ Some m → slice_get (ns ++ n ∷ []) k ≡ Some m
number_before [] n k m is = absurd (cc)
number_before (x ∷ ns) n zero m is = is
number_before (x ∷ ns) n (suc k) m is = number_before ns n k m is

-- each entry has a number
counted_on : (entries : List TraceEntry) (numbers : List ℕ) (n : ℕ) (e : TraceEntry) → length numbers ≡ length entries → length (numbers ++ n ∷ []) ≡ length (entries ++ e ∷ [])
counted_on entries numbers n e counted = omega (arith, counted, length-append numbers (n ∷ []), length-append entries (e ∷ []))

-- the newest of some entries
newest_is : (e y : TraceEntry) (xs ys later : TracePast) → e ∷ xs ≡ later ++ y ∷ ys → length ys ≡ length xs → (e ≡ y) × (xs ≡ ys)
newest_is e y xs ys [] splits long = (cc, cc)
newest_is e y xs ys (z ∷ later) splits long =
    let both = ap (λ (l : TracePast). length l) splits in let more = length-append later (y ∷ ys) in absurd (omega (arith, both, more, long))

good_is : (v : TraceVerdict) → is_good v ≡ true → v ≡ Good
good_is Good is = refl
good_is (Bad k l) is = absurd (true≢false (sym is))

-- if no lines are asked for, there are none
unasked : (s : TraceSetup) (entries : List TraceEntry) (numbers : List ℕ) (v : TraceVerdict) (lines : List ℕ) → AreLinesOf false s entries numbers v lines → lines ≡ []
unasked s entries numbers Good lines are = are
unasked s entries numbers (Bad k l) lines are = are

none_asked : (s : TraceSetup) (entries : List TraceEntry) (numbers : List ℕ) (v : TraceVerdict) (lines : List ℕ) → lines ≡ [] → AreLinesOf false s entries numbers v lines
none_asked s entries numbers Good lines none = none
none_asked s entries numbers (Bad k l) lines none = none

module _ (s : TraceSetup) (entries : List TraceEntry) (numbers : List ℕ) (n : ℕ) (e : TraceEntry) where
  -- the lines are unchanged by one more entry after the bad one
  lines_stay : (k : ℕ) (l : TraceLaw) (lines : List ℕ) → AreLinesAt s entries numbers k l lines → AreLinesAt s (entries ++ e ∷ []) (numbers ++ n ∷ []) k l lines
  lines_stay k l lines at = record {
    entry = at.entry;
    past = at.past;
    later = e ∷ at.later;
    splits = reverse-append entries (e ∷ []) ∙ ap (λ (x : TracePast). e ∷ x) at.splits;
    place = at.place;
    number = at.number;
    line = number_before numbers n k at.number at.line;
    given = at.given;
    are = at.are;
    is = at.is;
  }

  -- a later entry adds no line
  pub reported_later : (why : Bool) (t t' : ReporterState) → HasReported why t s entries numbers → HasJudged t'.judge s (entries ++ e ∷ []) → t'.why ≡ t.why → t'.lines ≡ t.lines → (why ≡ true → is_good t.judge.verdict ≡ false) → HasReported why t' s (entries ++ e ∷ []) (numbers ++ n ∷ [])
  reported_later why t t' reported judged same lines late = record {
    asked = same ∙ reported.asked;
    judged = judged;
    counted = counted_on entries numbers n e reported.counted;
    are = subst (λ (l : List ℕ). AreLinesOf why s (entries ++ e ∷ []) (numbers ++ n ∷ []) t'.judge.verdict l) (sym lines) (by why t.judge.verdict refl late reported.are);
  }
    where
      by : (why : Bool) (v : TraceVerdict) → t.judge.verdict ≡ v → (why ≡ true → is_good t.judge.verdict ≡ false) → AreLinesOf why s entries numbers t.judge.verdict t.lines → AreLinesOf why s (entries ++ e ∷ []) (numbers ++ n ∷ []) t'.judge.verdict t.lines
      by false v is late are = none_asked s (entries ++ e ∷ []) (numbers ++ n ∷ []) t'.judge.verdict t.lines (unasked s entries numbers t.judge.verdict t.lines are)
      by true Good is late are = absurd (true≢false (ap is_good (sym is) ∙ late refl))
      by true (Bad k l) is late are =
          subst (λ (v : TraceVerdict). AreLinesOf true s (entries ++ e ∷ []) (numbers ++ n ∷ []) v t.lines) (sym (judged.verdict ∙ verdict_bad s entries e k l (sym reported.judged.verdict ∙ is)))
          (lines_stay k l t.lines (subst (λ (v : TraceVerdict). AreLinesOf true s entries numbers v t.lines) is are))

  -- after a good verdict there are no reasons
  pub reported_good : (why : Bool) (t t' : ReporterState) → HasReported why t s entries numbers → HasJudged t'.judge s (entries ++ e ∷ []) → t'.why ≡ t.why → t'.lines ≡ t.lines → is_good t.judge.verdict ≡ true → AreReasonsOf s (entries ++ e ∷ []) (verdict_of s (entries ++ e ∷ [])) None →
      HasReported why t' s (entries ++ e ∷ []) (numbers ++ n ∷ [])
  reported_good why t t' reported judged same lines good reasons = record {
    asked = same ∙ reported.asked;
    judged = judged;
    counted = counted_on entries numbers n e reported.counted;
    are = subst (λ (v : TraceVerdict). AreLinesOf why s (entries ++ e ∷ []) (numbers ++ n ∷ []) v t'.lines) (sym judged.verdict)
        (by (verdict_of s (entries ++ e ∷ [])) reasons (lines ∙ subst (λ (v : TraceVerdict). AreLinesOf why s entries numbers v t.lines) (good_is t.judge.verdict good) reported.are));
  }
    where
      by : (v : TraceVerdict) → AreReasonsOf s (entries ++ e ∷ []) v None → t'.lines ≡ [] → AreLinesOf why s (entries ++ e ∷ []) (numbers ++ n ∷ []) v t'.lines
      by Good reasons none = none
      by (Bad k l) reasons none = absurd (let no : None ≡ Some reasons.given = reasons.is in cc)

  -- the reasons of the bad entry
  pub reported_bad : (t t' : ReporterState) (r : TraceReasons) → HasReported true t s entries numbers → HasJudged t'.judge s (entries ++ e ∷ []) → t'.why ≡ t.why → t'.lines ≡ t.lines ++ trace_reason_lines n s.registers e r → is_good t.judge.verdict ≡ true →
      AreReasonsOf s (entries ++ e ∷ []) (verdict_of s (entries ++ e ∷ [])) (Some r) → HasReported true t' s (entries ++ e ∷ []) (numbers ++ n ∷ [])
  reported_bad t t' r reported judged same lines good reasons = record {
    asked = same ∙ reported.asked;
    judged = judged;
    counted = counted_on entries numbers n e reported.counted;
    are = subst (λ (v : TraceVerdict). AreLinesOf true s (entries ++ e ∷ []) (numbers ++ n ∷ []) v t'.lines) (sym judged.verdict) (by (verdict_of s (entries ++ e ∷ [])) refl reasons);
  }
    where
      was : t.judge.verdict ≡ Good
      was = good_is t.judge.verdict good

      empty : t.lines ≡ []
      empty = subst (λ (v : TraceVerdict). AreLinesOf true s entries numbers v t.lines) was reported.are

      number : (o : Option TraceLaw) (k : ℕ) (l : TraceLaw) → verdict_with (length entries) o ≡ Bad k l → k ≡ length entries
      number None k l is = absurd (let no : Good ≡ Bad k l = is in cc)
      number (Some m) k l is = let both : Bad (length entries) m ≡ Bad k l = is in cc

      by : (v : TraceVerdict) → verdict_of s (entries ++ e ∷ []) ≡ v → AreReasonsOf s (entries ++ e ∷ []) v (Some r) → AreLinesOf true s (entries ++ e ∷ []) (numbers ++ n ∷ []) v t'.lines
      by Good is reasons = absurd (let no : Some r ≡ None = reasons in cc)
      by (Bad k l) is at =
          let first : k ≡ length entries = number (first_broken s (reverse entries) e) k l (sym (verdict_good s entries e (sym reported.judged.verdict ∙ was)) ∙ is) in
          let newest = newest_is e at.entry (reverse entries) at.past at.later (sym (newest_first entries e) ∙ at.splits) (at.number ∙ first ∙ sym (length-reverse entries)) in
          let given : Some r ≡ Some at.given = at.is in
          let one : at.given ≡ r = cc in
          record {
            entry = e;
            past = reverse entries;
            later = [];
            splits = newest_first entries e;
            place = length-reverse entries ∙ sym first;
            number = n;
            line = last_number numbers n k (reported.counted ∙ sym first);
            given = r;
            are = subst (λ (x : TraceReasons). AreReasons s (reverse entries) e l x) one
                (subst (λ (past : TracePast). AreReasons s past e l at.given) (sym newest.1)
                (subst (λ (x : TraceEntry). AreReasons s at.past x l at.given) (sym newest.0) at.are));
            is = lines ∙ ap (λ x. x ++ trace_reason_lines n s.registers e r) empty;
          }

  -- One more entry, and the lines of its reasons, if there are any and they are asked for.
  pub reported_on : (why : Bool) (t t' : ReporterState) (o : Option TraceReasons) → HasReported why t s entries numbers → HasJudged t'.judge s (entries ++ e ∷ []) → t'.why ≡ t.why → t'.lines ≡ t.lines ++ lines_if (t.why && is_good t.judge.verdict) n s.registers e o →
      AreReasonsOf s (entries ++ e ∷ []) (verdict_of s (entries ++ e ∷ [])) o → HasReported why t' s (entries ++ e ∷ []) (numbers ++ n ∷ [])
  reported_on false t t' o reported judged same lines reasons =
      reported_later false t t' reported judged same (lines ∙ ap (λ b. t.lines ++ lines_if (b && is_good t.judge.verdict) n s.registers e o) reported.asked ∙ append-nil t.lines) (λ no. absurd (true≢false (sym no)))
  reported_on true t t' o reported judged same lines reasons = by (is_good t.judge.verdict) o refl (lines ∙ ap (λ b. t.lines ++ lines_if (b && is_good t.judge.verdict) n s.registers e o) reported.asked) reasons
    where
      by : (good : Bool) (o : Option TraceReasons) → is_good t.judge.verdict ≡ good → t'.lines ≡ t.lines ++ lines_if good n s.registers e o → AreReasonsOf s (entries ++ e ∷ []) (verdict_of s (entries ++ e ∷ [])) o → HasReported true t' s (entries ++ e ∷ []) (numbers ++ n ∷ [])
      by false o is lines reasons = reported_later true t t' reported judged same (lines ∙ append-nil t.lines) (λ _. is)
      by true None is lines reasons = reported_good true t t' reported judged same (lines ∙ append-nil t.lines) is reasons
      by true (Some r) is lines reasons = reported_bad t t' r reported judged same lines is reasons

-- before the first entry
pub reported_first : (why : Bool) (t : ReporterState) (s : TraceSetup) → t.why ≡ why → t.lines ≡ [] → HasJudged t.judge s [] → HasReported why t s [] []
reported_first why t s asked none judged = record {
  asked = asked;
  judged = judged;
  counted = refl;
  are = subst (λ (v : TraceVerdict). AreLinesOf why s [] [] v t.lines) (sym judged.verdict) none;
}

-- the report on the entries observed
pub reports : (why : Bool) (t : ReporterState) (reported : List ℕ) (status n : ℕ) (v : TraceVerdict) (s : TraceSetup) (entries : List TraceEntry) (numbers : List ℕ) → HasReported why t s entries numbers → v ≡ verdict_of s entries → n ≡ length entries → status ≡ trace_status_of v →
    reported ≡ trace_verdict_line n v ++ t.lines → ReportsTrace why s entries numbers reported status
reports why t reported status n v s entries numbers has is count answer text = record {
  lines = t.lines;
  are = subst (λ (v : TraceVerdict). AreLinesOf why s entries numbers v t.lines) has.judged.verdict has.are;
  answer = answer ∙ ap trace_status_of is;
  sound = means-sound s entries (verdict_of s entries) refl;
  text = text ∙ (λ i. trace_verdict_line (count i) (is i) ++ t.lines);
}

-- an implication about a successful result
pub ok_then : {A E : Type 0} (r : Result A E) {P Q : Type 0} → (P → Q) → OnOk r P → OnOk r Q
ok_then (Ok a) then p = then p
ok_then (Err e) then p = tt
