-- An observer counts the events of a run, and the text of its reports is the text of the run.
use Rattle.std.proofs.Common.{◌≡◌, ℕ, zero, suc, ◌+◌, List, ◌∷◌, ◌++◌, length, Some, refl, ap, sym, subst, ◌∙◌, arith, add-zero, append-nil}
use Rattle.plain_store.specs.{Setup}
use Rattle.model.specs.declared.events.Event.TheVariants.{Step}
use Rattle.scenario_run.specs.{Happening, Happens, PassQuietly, UnmarkedStep, StepsOn, Summary, TurnReport, Tries, counted, past_after, refusals, text_of, reported_text}
use Rattle.scenario_run.specs.Writing.{Counts}
use Rattle.scenario_run.proofs.Reportings.{Quietly, counts_more, quiet_counts, reported_is}

-- a summary with n events more
abbrev pub with_events : ℕ → Summary → Summary
with_events n summary = record summary { events = summary.events + n }

-- a report is counted
pub counts_observed : (s : Setup) (before : List Happening) (this : Happening) (reported : TurnReport) (had has : Summary) → Happens s before this reported → has ≡ counted reported had → Counts s before had → Counts s (this ∷ before) has
counts_observed s before this reported had has h is counts =
    let more = counts_more s before this reported had h.reports counts.events counts.refused in
    subst (λ (n : Summary). Counts s (this ∷ before) n) (sym is) (record { events = more.0; refused = more.1 })

-- the text of a report is that of what happens
pub text_observed : (s : Setup) (before : List Happening) (this : Happening) (reported : TurnReport) (had : Summary) → Happens s before this reported → Counts s before had → text_of s (this ∷ before) ≡ text_of s before ++ reported_text had.events reported
text_observed s before this reported had h counts = ap (λ l. text_of s before ++ l) (sym (ap (λ n. reported_text n reported) counts.events ∙ reported_is s (past_after s before) this reported h.reports))

-- events without a mark are counted, and have no text
pub counts_passed : (s : Setup) (n : ℕ) (before after : List Happening) (summary : Summary) → PassQuietly s n before after → Counts s before summary → Counts s after (with_events n summary)
counts_passed s zero before after summary same counts = record {
  events = add-zero summary.events ∙ counts.events ∙ ap (λ l. length (past_after s l)) (sym same);
  refused = counts.refused ∙ ap (refusals s) (sym same);
}
counts_passed s (suc n) before after summary (this, quiet, more) counts =
    let q : Quietly s before this = quiet_counts s before this quiet in
    let one : Counts s (this ∷ before) (with_events 1 summary) = record { events = ap (λ n. n + 1) counts.events ∙ sym q.events; refused = counts.refused ∙ sym q.refused } in
    let all = counts_passed s n (this ∷ before) after (with_events 1 summary) more one in
    let sum : summary.events + suc n ≡ (summary.events + 1) + n = omega arith in
    record { events = sum ∙ all.events; refused = all.refused }

pub text_passed : (s : Setup) (n : ℕ) (before after : List Happening) → PassQuietly s n before after → text_of s after ≡ text_of s before
text_passed s zero before after same = ap (text_of s) same
text_passed s (suc n) before after (this, quiet, more) =
    let q : Quietly s before this = quiet_counts s before this quiet in
    text_passed s n (this ∷ before) after more ∙ ap (λ l. text_of s before ++ l) q.text ∙ append-nil (text_of s before)

-- a Step without a mark is one of them
pub step_passes : (s : Setup) (before : List Happening) (made : UnmarkedStep) → StepsOn s before made → PassQuietly s 1 before (Tries (Step made.process made.flick) ∷ before)
step_passes s before made on = (Tries (Step made.process made.flick), (Some made.access, on.adds), refl)

pub counts_stepped : (s : Setup) (before : List Happening) (made : UnmarkedStep) (summary : Summary) → StepsOn s before made → Counts s before summary → Counts s (Tries (Step made.process made.flick) ∷ before) (with_events 1 summary)
counts_stepped s before made summary on counts = counts_passed s 1 before (Tries (Step made.process made.flick) ∷ before) summary (step_passes s before made on) counts
