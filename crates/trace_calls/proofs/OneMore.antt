-- One entry more in the table, and in the lines that are printed.
use Rattle.std.proofs.Common.{◌≡◌, ◌≢◌, ℕ, ◌+◌, ◌-◌, ◌^◌, ◌<◌, ◌≤◌, Bool, false, cond, List, [], ◌∷◌, ◌++◌, Option, None, Some, is_some, length, reverse, slice_get, slice_set, sym, ap, ◌∙◌, subst, inl, inr, append_assoc, add-one, ne_eqb, arith}
use Rattle.std.proofs.lemmas.Bool.{cases_eq, le-ltb, lt-ltb}
use Rattle.std.proofs.lemmas.List.{length-append}
use Rattle.std.specs.Option.{option_map_or}
use Rattle.trace.proofs.Lists.{slice_get-set_other, slice_get-set_same}
use Rattle.trace.specs.{CellAccess, LockMark, TraceEntry, TracePast, TraceSetup, trace_entry}
use Rattle.trace_engine.proofs.trace_judge.OneMore.{newest_first}
use Rattle.trace_engine.specs.{Observes}
use Rattle.trace_engine.specs.trace_judge.lock_stages.{is_call}
use Rattle.trace_calls.specs.declared.kept.TraceCallState.{TraceCallState}
use Rattle.trace_calls.specs.declared.kept.TraceCall.{TraceCall}
use Rattle.trace_calls.specs.Calls.{ended_call, ended_of_process, has}
use Rattle.trace_calls.specs.Keeping.{AreFew, CallsState, HasListed, HasOpened, OpenState, call_kept, ended_between, kept_after}
use Rattle.trace_calls.specs.Lines.{ended_lines, line_of, open_lines}
use Rattle.trace_calls.specs.Overlaps.{ends_overlapped}
use Rattle.calls.specs.{header}
use Rattle.trace_calls.specs.Tables.{HasTabled, IsTableOf, ListerState}
use Rattle.trace_calls.proofs.KeptCalls.{are_few, ended-own, kept-other, kept-own}
use Rattle.trace_calls.proofs.OpenAccesses.{open-stray}

-- The table.

module _ (t : CallsState) (p : ℕ) (access : Option CellAccess) (marks : List LockMark) (past : TracePast) (h : HasListed t past) where
  abbrev this : TraceEntry
  this = trace_entry p access marks

  abbrev n : ℕ
  n = t.opened.processes

  -- an entry of a process that does not exist
  pub lists_stray : n ≤ p → HasListed (record { opened = t.opened; kept = t.kept; entries = t.entries + 1 }) (this ∷ past)
  lists_stray beyond = record {
    opened = λ q exists. h.opened q exists ∙ ap Some (sym (open-stray n q this past (le-ltb p n beyond) (apart q exists)));
    kept = λ q exists. h.kept q exists ∙ ap Some (sym (kept-other n q this past (ne_eqb p q (apart q exists))));
    entries = ap (λ k. k + 1) h.entries ∙ add-one (length past);
  }
    where
      apart : (q : ℕ) → q < n → p ≢ q
      apart q exists same = absurd (let at : p ≡ q = same in omega (arith, at, exists, beyond))

  pub ended_stray : n ≤ p → ended_call n past this ≡ None
  ended_stray beyond = ap (λ b. cond b (ended_of_process n past this) None) (le-ltb p n beyond)

  module _ (below : p < n) (inside : p < 16) (room : length t.kept ≡ 16) (few : t.entries < 2 ^ 64 - 1) (before : TraceCallState) (was : slice_get t.kept p ≡ Some before) (overlapped : Bool)
      (reported : overlapped ≡ option_map_or (ends_overlapped n past p) access false) (after : TraceCallState) (on : AreFew before.last → after ≡ kept_after t.entries overlapped access marks before) where
    same : before ≡ call_kept n p past
    same = let both : Some before ≡ Some (call_kept n p past) = sym was ∙ h.kept p below in cc

    -- the call of its process
    now : after ≡ call_kept n p (this ∷ past)
    now =
        on (subst (λ (k : TraceCallState). AreFew k.last) (sym same) (are_few n p past (subst (λ k. k < 2 ^ 64 - 1) h.entries few)))
        ∙ (λ i. kept_after (h.entries i) (reported i) access marks (same i))
        ∙ sym (kept-own n this past)

    -- an entry of a process that exists
    pub lists_own : (opened : OpenState) → opened.processes ≡ n → HasOpened opened (this ∷ past) → HasListed (record { opened = opened; kept = slice_set t.kept p after; entries = t.entries + 1 }) (this ∷ past)
    lists_own opened as_many opens = record {
      opened = opens;
      kept = λ q exists. at q (subst (λ m. q < m) as_many exists) ∙ ap (λ m. Some (call_kept m q (this ∷ past))) (sym as_many);
      entries = ap (λ k. k + 1) h.entries ∙ add-one (length past);
    }
      where
        at : (q : ℕ) → q < n → slice_get (slice_set t.kept p after) q ≡ Some (call_kept n q (this ∷ past))
        at q exists = elim (cases_eq q p) [
          | inl mine ↦
              ap (slice_get (slice_set t.kept p after)) mine
              ∙ slice_get-set_same t.kept p after (subst (λ m. p < m) (sym room) inside)
              ∙ ap Some now
              ∙ ap (λ r. Some (call_kept n r (this ∷ past))) (sym mine)
          | inr apart ↦
              slice_get-set_other t.kept p q after apart
              ∙ h.kept q exists
              ∙ ap Some (sym (kept-other n q this past (ne_eqb p q (λ is. apart (sym is)))))
        ]

    -- the call that ends with it
    pub ended_is : ended_between (has is_call this) before after ≡ ended_call n past this
    ended_is =
        (λ i. ended_between (has is_call this) (same i) (now i))
        ∙ ended-own n this past
        ∙ ap (λ b. cond b (ended_of_process n past this) None) (sym (lt-ltb p n below))

-- The lines.

-- an entry more is listed, and the call that ends with it is printed
pub tabled_on : (l l' : ListerState) (s : TraceSetup) (entries : List TraceEntry) (numbers : List ℕ) (e : TraceEntry) (number newest : ℕ) (ended : Option TraceCall) → HasTabled l s entries numbers →
    l'.table.opened.processes ≡ l.table.opened.processes → l'.table.entries ≡ l.table.entries + 1 → HasListed l'.table (e ∷ reverse entries) → ended ≡ ended_call l.table.opened.processes (reverse entries) e → newest ≡ l.table.entries →
    l'.lines ≡ l.lines ++ line_of newest e.process ended → HasTabled l' s (entries ++ e ∷ []) (numbers ++ number ∷ [])
tabled_on l l' s entries numbers e number newest ended has same counted listed is at lines = record {
  processes = same ∙ has.processes;
  listed = subst (λ (past : TracePast). HasListed l'.table past) (sym (newest_first entries e)) listed;
  count = let before = has.count in omega (arith, counted, before, length-append entries (e ∷ []));
  lines =
      lines
      ∙ (λ i. has.lines i ++ line_of ((at ∙ has.listed.entries) i) e.process ((is ∙ ap (λ n. ended_call n (reverse entries) e) has.processes) i))
      ∙ append_assoc header (ended_lines s.processes (reverse entries)) (line_of (length (reverse entries)) e.process (ended_call s.processes (reverse entries) e))
      ∙ ap (λ (past : TracePast). header ++ ended_lines s.processes past) (sym (newest_first entries e));
}

-- the calls that have not ended are printed too
pub is_table : (l : ListerState) (s : TraceSetup) (entries : List TraceEntry) (numbers : List ℕ) (text : List ℕ) → HasTabled l s entries numbers → text ≡ l.lines ++ open_lines l.table.opened.processes (reverse entries) → IsTableOf text s entries numbers
is_table l s entries numbers text has is =
    is
    ∙ (λ i. has.lines i ++ open_lines (has.processes i) (reverse entries))
    ∙ append_assoc header (ended_lines s.processes (reverse entries)) (open_lines s.processes (reverse entries))

-- before there is a table, there was no entry
pub none_yet : (o : Option ListerState) (s : TraceSetup) (entries : List TraceEntry) (numbers : List ℕ) → is_some o ≡ false → Observes HasTabled o s entries numbers → (entries ≡ []) × (numbers ≡ [])
none_yet None s entries numbers none observes = observes
none_yet (Some l) s entries numbers none observes = absurd (cc)
