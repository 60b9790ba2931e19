-- A trace is good exactly if its long form is.
use Rattle.std.proofs.Common.{◌≡◌, ℕ, Bool, true, false, List, [], ◌∷◌, ◌++◌, Option, None, Some, length, reverse, refl, sym, ap, ◌∙◌, append_assoc, append-nil}
use Rattle.std.proofs.lemmas.List.{reverse-append}
use Rattle.trace.specs.{CellAccess, CellMove, LockMark, TraceEntry, TracePast, TraceSetup, is_atomic, is_trace_setup, trace_entry}
use Rattle.trace.specs.declared.accesses.CellMove.TheVariants.{Set, Get}
use Rattle.trace_judge.specs.{LongFormIsSame, TraceVerdict, first_broken, in_two, long_form, verdict_after, verdict_with, with_move_of}
use Rattle.trace_judge.specs.declared.verdicts.TraceVerdict.TheVariants.{Good, Bad}
use Rattle.trace_judge.proofs.Alike.{Alike, alike-on, alike-refl, alike-sym, alike-trans, unbroken-alike}
use Rattle.trace_judge.proofs.InTwo.{access_to, alike-of, begin_move, end_move, whole_move}
use Rattle.trace_judge.proofs.Sound.{good-on}
use Rattle.trace_judge.proofs.TwoLaws.{joined, split-first, split-second}

-- a good verdict with one more entry
good-with : (s : TraceSetup) (e : TraceEntry) (past : TracePast) → verdict_after s past ≡ Good → first_broken s past e ≡ None → verdict_after s (e ∷ past) ≡ Good
good-with s e past good unbroken =
    ap (λ v. elim v as (λ _. TraceVerdict) [ Good ↦ verdict_with (length past) (first_broken s past e) | Bad k l ↦ Bad k l ]) good
    ∙ ap (verdict_with (length past)) unbroken

-- a past whose accesses are in two, the newest entry first
abbrev pub long_past : TracePast → TracePast
long_past [] = []
long_past (e ∷ past) = reverse (in_two e) ++ long_past past

long-append : (xs ys : TracePast) → long_past (xs ++ ys) ≡ long_past xs ++ long_past ys
long-append [] ys = refl
long-append (e ∷ xs) ys = ap (λ l. reverse (in_two e) ++ l) (long-append xs ys) ∙ sym (append_assoc (reverse (in_two e)) (long_past xs) (long_past ys))

long-reverse : (entries : List TraceEntry) → reverse (long_form entries) ≡ long_past (reverse entries)
long-reverse [] = refl
long-reverse (e ∷ entries) =
    reverse-append (in_two e) (long_form entries)
    ∙ ap (λ l. l ++ reverse (in_two e)) (long-reverse entries)
    ∙ ap (λ l. long_past (reverse entries) ++ l) (sym (append-nil (reverse (in_two e))))
    ∙ sym (long-append (reverse entries) (e ∷ []))
    ∙ ap long_past (sym (reverse-append (e ∷ []) entries))

-- Both forms leave what is alike, and are good together.
record SameForms (s : TraceSetup) (past long : TracePast) : Type 0 where
  pub alike : Alike s past long
  pub good : verdict_after s past ≡ Good → verdict_after s long ≡ Good
  pub back : verdict_after s long ≡ Good → verdict_after s past ≡ Good

module _ (s : TraceSetup) (setup : is_trace_setup s ≡ true) (atomic : is_atomic s.memory ≡ false) where
  -- an entry that stays
  one-stays : (e : TraceEntry) (past long : TracePast) → SameForms s past long → SameForms s (e ∷ past) (e ∷ long)
  one-stays e past long same = record {
    alike = alike-on s e.process e.access e.marks past long same.alike;
    good = λ h. let on = good-on s e past h in good-with s e long (same.good on.before) (unbroken-alike s past long same.alike e setup on.unbroken);
    back = λ h. let on = good-on s e long h in good-with s e past (same.back on.before) (unbroken-alike s long past (alike-sym s past long same.alike) e setup on.unbroken);
  }

  -- an entry in two
  one-in-two : (p : ℕ) (c : CellAccess) (w : Bool) (v : ℕ) (marks : List LockMark) (past long : TracePast) → SameForms s past long →
      SameForms s (trace_entry p (Some (access_to c.cell (whole_move w v))) marks ∷ past)
      (trace_entry p (Some (access_to c.cell (end_move w v))) marks ∷ trace_entry p (Some (access_to c.cell (begin_move w v))) [] ∷ long)
  one-in-two p c w v marks past long same = record {
    alike = alike-trans s (whole ∷ past) (second ∷ first ∷ past) (second ∷ first ∷ long) (alike-of s p c.cell w v marks past)
        (alike-on s p (Some (access_to c.cell (end_move w v))) marks (first ∷ past) (first ∷ long) later);
    good = λ h.
        let on = good-on s whole past h in
        let begin = unbroken-alike s past long same.alike first setup (split-first s p c.cell w v marks past atomic on.unbroken) in
        let end = unbroken-alike s (first ∷ past) (first ∷ long) later second setup (split-second s p c.cell w v marks past atomic on.unbroken) in
        good-with s second (first ∷ long) (good-with s first long (same.good on.before) begin) end;
    back = λ h.
        let end = good-on s second (first ∷ long) h in
        let begin = good-on s first long end.before in
        good-with s whole past (same.back begin.before) (joined s p c.cell w v marks past atomic
        (unbroken-alike s long past (alike-sym s past long same.alike) first setup begin.unbroken)
        (unbroken-alike s (first ∷ long) (first ∷ past) (alike-sym s (first ∷ past) (first ∷ long) later) second setup end.unbroken));
  }
    where
      whole : TraceEntry
      whole = trace_entry p (Some (access_to c.cell (whole_move w v))) marks

      first : TraceEntry
      first = trace_entry p (Some (access_to c.cell (begin_move w v))) []

      second : TraceEntry
      second = trace_entry p (Some (access_to c.cell (end_move w v))) marks

      later : Alike s (first ∷ past) (first ∷ long)
      later = alike-on s p (Some (access_to c.cell (begin_move w v))) [] past long same.alike

  -- an entry in its long form
  one-more : (e : TraceEntry) (past : TracePast) → SameForms s past (long_past past) → SameForms s (e ∷ past) (long_past (e ∷ past))
  one-more e past same = by e.access
    where
      move : (a : CellAccess) (how : CellMove) → SameForms s (trace_entry e.process (Some (with_move_of a how)) e.marks ∷ past)
          (reverse (in_two (trace_entry e.process (Some (with_move_of a how)) e.marks)) ++ long_past past)
      move a (Set v) = one-in-two e.process a true v e.marks past (long_past past) same
      move a (Get v) = one-in-two e.process a false v e.marks past (long_past past) same
      move a how = one-stays (trace_entry e.process (Some (with_move_of a how)) e.marks) past (long_past past) same

      by : (o : Option CellAccess) → SameForms s (trace_entry e.process o e.marks ∷ past) (reverse (in_two (trace_entry e.process o e.marks)) ++ long_past past)
      by None = one-stays (trace_entry e.process None e.marks) past (long_past past) same
      by (Some a) = move a a.how

  same-forms : (past : TracePast) → SameForms s past (long_past past)
  same-forms [] = record { alike = alike-refl s []; good = λ h. h; back = λ h. h }
  same-forms (e ∷ past) = one-more e past (same-forms past)

pub long-form-same : LongFormIsSame
long-form-same s entries setup atomic =
    let same = same-forms s setup atomic (reverse entries) in (
      λ h. ap (verdict_after s) (long-reverse entries) ∙ same.good h,
      λ h. same.back (sym (ap (verdict_after s) (long-reverse entries)) ∙ h),
    )
