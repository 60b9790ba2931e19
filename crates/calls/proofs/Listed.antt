-- What a table stores while the entries of a record are observed.
use Rattle.std.proofs.Common.{◌≡◌, ℕ, ◌<◌, Bool, List, [], ◌∷◌, ◌++◌, length, reverse, Option, ap, sym, subst, ◌∙◌, append_assoc}
use Rattle.std.proofs.lemmas.List.{reverse-append}
use Rattle.plain_store.specs.{Setup}
use Rattle.model.specs.{Entry, Past}
use Rattle.calls.specs.Lines.{header, line_of}
use Rattle.calls.specs.{Called, HasListed, Lists, TableState, ended_recorded, overlaps_in, recorded_lines}
use Rattle.calls.specs.{HasListedAll, RecordCalls}

module _ (old : RecordCalls) (s : Setup) (entries : List Entry) (h : HasListedAll old s entries) (e : Entry) where
  abbrev past : Past
  past = reverse entries

  -- the newest entry is the first of the past
  pub newest_first : reverse (entries ++ e ∷ []) ≡ e ∷ past
  newest_first = reverse-append entries (e ∷ [])

  pub table_on : (table : TableState) (overlapped : Bool) (ended : Option Called) → Lists old.table table overlapped e ended → (e.process < s.processes → overlapped ≡ overlaps_in s past e) →
      HasListed table (e ∷ past) × (ended ≡ ended_recorded s past e)
  table_on table overlapped ended lists reported =
      let all = lists past h.table (subst (λ (s : Setup). e.process < s.processes → overlapped ≡ overlaps_in s past e) (sym h.setup) reported) in
      (all.0, all.1 ∙ ap (λ (s : Setup). ended_recorded s past e) h.setup)

  pub lines_on : (newest : ℕ) (ended : Option Called) (lines : List ℕ) → newest ≡ old.table.entries → ended ≡ ended_recorded s past e → lines ≡ old.lines.items ++ line_of newest ended → lines ≡ header ++ recorded_lines s (e ∷ past)
  lines_on newest ended lines count is printed =
      printed ∙ (λ i. h.lines i ++ line_of ((count ∙ h.table.entries) i) (is i)) ∙ append_assoc header (recorded_lines s past) (line_of (length past) (ended_recorded s past e))
