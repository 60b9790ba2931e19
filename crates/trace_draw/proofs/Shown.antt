-- A judge observes the entries of a trace, and the entries that are shown are stored or drawn.
use Rattle.std.proofs.Common.{◌≡◌, ℕ, true, false, not, ◌||◌, List, [], ◌∷◌, ◌++◌, length, reverse, Option, ap, sym, subst, ◌∙◌, arith}
use Rattle.std.proofs.lemmas.List.{length-reverse, reverse-append}
use Rattle.trace.specs.{TraceEntry, TracePast, TraceSetup}
use Rattle.trace_engine.specs.{HasReported, is_good}
use Rattle.trace_draw.specs.{AreShown, DrawnTrace, EndsBands, EndsTrace, HasShown, IsReported, ShownEntries, ReportsIfJudged, TracePicture, TraceView, count_of, shown, title_of}
use Rattle.trace_draw.proofs.Holding.{drawn_few}
use Rattle.trace_draw.proofs.ShownEntries.{shown_few, shown_next, shown_none, shown_still}

module _ (view : TraceView) (first : Option (List ℕ)) (s : TraceSetup) where
  -- a judge and a picture of no entries
  pub shown_first : (picture : TracePicture) (now : Option (List ℕ)) → HasReported view.judged picture.reporter s [] [] → AreShown view.form view.options s [] picture.entries first now → HasShown view first (picture, now) s [] []
  shown_first picture now reported shows = record {
    reported = reported;
    shows = subst (λ (l : List TraceEntry). AreShown view.form view.options s (reverse l) picture.entries first now) (sym (shown_none view.judged s)) shows;
  }

  -- one more entry, which is shown
  pub shown_on : (picture then : TracePicture) (mid new : Option (List ℕ)) (entries : List TraceEntry) (numbers : List ℕ) (e : TraceEntry) (n : ℕ) → HasShown view first (picture, mid) s entries numbers → HasReported view.judged then.reporter s (entries ++ e ∷ []) (numbers ++ n ∷ []) →
      (not view.judged || is_good picture.reporter.judge.verdict) ≡ true → ((past : TracePast) → AreShown view.form view.options s past picture.entries first mid → AreShown view.form view.options s (e ∷ past) then.entries first new) → HasShown view first (then, new) s (entries ++ e ∷ []) (numbers ++ n ∷ [])
  shown_on picture then mid new entries numbers e n has reported shows on =
      let next : shown view.judged s (entries ++ e ∷ []) ≡ shown view.judged s entries ++ e ∷ [] = shown_next s entries e view.judged (ap (λ v. not view.judged || is_good v) (sym has.reported.judged.verdict) ∙ shows) in
      record {
        reported = reported;
        shows = subst (λ (l : TracePast). AreShown view.form view.options s l then.entries first new) (sym (ap reverse next ∙ reverse-append (shown view.judged s entries) (e ∷ []))) (on (reverse (shown view.judged s entries)) has.shows);
      }

  -- or which is not shown
  pub shown_passed : (picture then : TracePicture) (mid : Option (List ℕ)) (entries : List TraceEntry) (numbers : List ℕ) (e : TraceEntry) (n : ℕ) → HasShown view first (picture, mid) s entries numbers → HasReported view.judged then.reporter s (entries ++ e ∷ []) (numbers ++ n ∷ []) →
      (not view.judged || is_good picture.reporter.judge.verdict) ≡ false → then.entries ≡ picture.entries → HasShown view first (then, mid) s (entries ++ e ∷ []) (numbers ++ n ∷ [])
  shown_passed picture then mid entries numbers e n has reported stops same =
      let still : shown view.judged s (entries ++ e ∷ []) ≡ shown view.judged s entries = shown_still s entries e view.judged (ap (λ v. not view.judged || is_good v) (sym has.reported.judged.verdict) ∙ stops) in
      record {
        reported = reported;
        shows = subst (λ (l : List TraceEntry). AreShown view.form view.options s (reverse l) then.entries first mid) (sym still)
            (subst (λ (x : ShownEntries). AreShown view.form view.options s (reverse (shown view.judged s entries)) x first mid) (sym same) has.shows);
      }

  -- all entries are shown, and the report is known
  pub shown_reported : (picture : TracePicture) (mid new : Option (List ℕ)) (entries : List TraceEntry) (numbers reported : List ℕ) (drawn : DrawnTrace) → HasShown view first (picture, mid) s entries numbers → ReportsIfJudged view.judged s entries numbers reported drawn.status → drawn.title.items ≡ title_of s →
      ((past : TracePast) → AreShown view.form view.options s past picture.entries first mid → EndsBands view.form view.options drawn.bands s past reported first new) →
      IsReported view.judged (λ s shown reported. EndsTrace view.form view.options drawn s shown reported first new) drawn.status s entries numbers
  shown_reported picture mid new entries numbers reported drawn has reports title ends = record {
    reported = reported;
    reports = reports;
    is = record { title = title; ends = ends (reverse (shown view.judged s entries)) has.shows };
  }

-- as many entries were observed as were said, and no more are drawn
pub shown_count : (view : TraceView) (first : Option (List ℕ)) (h : TracePicture × Option (List ℕ)) (s : TraceSetup) (entries : List TraceEntry) (numbers : List ℕ) → HasShown view first h s entries numbers → count_of h.0 ≡ length entries
shown_count view first h s entries numbers has =
    let observed : h.0.reporter.judge.entries ≡ length entries = has.reported.judged.count in
    let drawn = drawn_few view.form view.options s (reverse (shown view.judged s entries)) h.0.entries.drawing h.0.entries.held.items first h.1 has.shows in
    let long = length-reverse (shown view.judged s entries) in
    let few = shown_few view.judged s entries in
    omega (arith, observed, drawn, long, few)
