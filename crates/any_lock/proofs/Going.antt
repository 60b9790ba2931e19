-- The kept state, after one more entry.
use Rattle.std.proofs.Common.{◌≡◌, ◌≢◌, ℕ, ◌+◌, ◌<◌, ◌≤◌, Bool, true, false, ◌&&◌, List, [], ◌∷◌, ◌++◌, Option, None, Some, is_some, cond, length, replicate, slice_get, slice_set, refl, sym, ap, ◌∙◌, subst, add-one, true≢false, inl, inr, ne_eqb, length-append, length-set}
use Rattle.std.specs.List.{list_all, list_any}
use Rattle.std.proofs.lemmas.Bool.{cases_eq, cases_lt}
use Rattle.std.proofs.lemmas.Option.{slice_get-get_or, slice_get_past, slice_get_within}
use Rattle.std.proofs.lemmas.List.{get_or-replicate, get_or-set_same, get_or-set_other, length-replicate}
use Rattle.std.proofs.lemmas.List.Sums.{fold-append}
use Rattle.plain_store.specs.{Reply, Setup, after, opening_store}
use Rattle.model.specs.{Entry, Mark, Past, Taken, history, last_call, own, reply_taken, store_after, takings}
use Rattle.model.specs.declared.marks.Mark.TheVariants as mark
use Rattle.any_lock.specs.{LockRunState, Knows, ProcessView, is_taken, is_taken_as, is_that, process_view}
use Rattle.any_lock.proofs.Steps.{process_view-other}

-- an item of a list that was set
slice_get-set_same : (xs : List ProcessView) (i : ℕ) (x : ProcessView) → i < length xs → slice_get (slice_set xs i x) i ≡ Some x
slice_get-set_same xs i x within =
    slice_get-get_or (slice_set xs i x) i x (subst (λ n. i < n) (sym (length-set xs i x)) within) ∙ ap Some (get_or-set_same xs i x x within)

slice_get-set_other : (xs : List ProcessView) (i j : ℕ) (x : ProcessView) → j ≢ i → slice_get (slice_set xs i x) j ≡ slice_get xs j
slice_get-set_other xs i j x apart = elim (cases_lt j (length xs)) [
  | inl within ↦ slice_get-get_or (slice_set xs i x) j x (subst (λ n. j < n) (sym (length-set xs i x)) within)
      ∙ ap Some (get_or-set_other xs i j x x apart) ∙ sym (slice_get-get_or xs j x within)
  | inr past ↦ slice_get_past (slice_set xs i x) j (subst (λ n. n ≤ j) (sym (length-set xs i x)) past) ∙ sym (slice_get_past xs j past)
]

pub slice_get-replicate : (n i : ℕ) (x : ProcessView) → i < n → slice_get (replicate n x) i ≡ Some x
slice_get-replicate n i x within = slice_get-get_or (replicate n x) i x (subst (λ m. i < m) (sym (length-replicate n x)) within) ∙ ap Some (get_or-replicate n i x x within)

-- Marks that take a command.

pub taken_reply : (ms : List Mark) → list_any is_taken ms ≡ is_some (reply_taken ms)
taken_reply [] = refl
taken_reply (mark.Taken n r ∷ ms) = refl
taken_reply (_ ∷ ms) = taken_reply ms

pub taken_rightly : (n : ℕ) (r : Reply) (ms : List Mark) → list_all (is_taken_as n r) ms ≡ list_all (is_that n r) (takings ms)
taken_rightly n r [] = refl
taken_rightly n r (mark.Taken k q ∷ ms) = ap (λ b. is_taken_as n r (mark.Taken k q) && b) (taken_rightly n r ms)
taken_rightly n r (_ ∷ ms) = taken_rightly n r ms

pub none_taken : (n : ℕ) (r : Reply) (ms : List Mark) → list_any is_taken ms ≡ false → list_all (is_that n r) (takings ms) ≡ true
none_taken n r [] h = refl
none_taken n r (mark.Taken k q ∷ ms) h = absurd (true≢false h)
none_taken n r (_ ∷ ms) h = none_taken n r ms h

-- The history after an entry.

-- the command that p takes, with a reply
abbrev pub taken_now : Setup → ℕ → Past → Reply → Taken
taken_now s p past r = let c = last_call s p (own p past) in record { process = p; command = c.command; reply = r; number = c.number }

pub history_with : (s : Setup) (past : Past) (e : Entry) → (o : Option Reply) → reply_taken e.marks ≡ o →
    history s (e ∷ past) ≡ elim o as (λ _. List Taken) [ None ↦ history s past | Some r ↦ history s past ++ taken_now s e.process past r ∷ [] ]
history_with s past e o h = ap (λ x. elim x as (λ _. List Taken) [ None ↦ history s past | Some r ↦ history s past ++ taken_now s e.process past r ∷ [] ]) h

-- the kept state after an entry that takes nothing, or takes the command of its process
abbrev pub kept_with : LockRunState → ℕ → ProcessView → ProcessView → Bool → LockRunState
kept_with k p before then takes = record {
  setup = k.setup;
  process_views = slice_set k.process_views p then;
  store = cond takes (after k.store before.command (record { process = p; number = before.number })) k.store;
  taken = cond takes (k.taken + 1) k.taken;
  entries = k.entries + 1;
}

pub knows_on : (k : LockRunState) (past : Past) (e : Entry) (before then : ProcessView) (takes : Bool) → e.process < k.setup.processes →
    slice_get k.process_views e.process ≡ Some before → list_any is_taken e.marks ≡ takes → then ≡ process_view k.setup e.process (e ∷ past) → Knows k past →
    Knows (kept_with k e.process before then takes) (e ∷ past)
knows_on k past e before then takes below there is same_view knows = by takes is (reply_taken e.marks) refl
  where
    s : Setup
    s = k.setup

    was : before ≡ process_view s e.process past
    was = let both : Some before ≡ Some (process_view s e.process past) = sym there ∙ knows.process_views e.process below in cc

    each : (q : ℕ) → q < s.processes → slice_get (slice_set k.process_views e.process then) q ≡ Some (process_view s q (e ∷ past))
    each q inside = elim (cases_eq q e.process) [
      | inl same ↦ ap (slice_get (slice_set k.process_views e.process then)) same ∙ slice_get-set_same k.process_views e.process then (slice_get_within k.process_views e.process before there)
          ∙ ap Some (same_view ∙ ap (λ n. process_view s n (e ∷ past)) (sym same))
      | inr apart ↦ slice_get-set_other k.process_views e.process q then apart ∙ knows.process_views q inside
          ∙ ap Some (sym (process_view-other s q e past (ne_eqb e.process q (λ h. apart (sym h)))))
    ]

    by : (b : Bool) → list_any is_taken e.marks ≡ b → (o : Option Reply) → reply_taken e.marks ≡ o → Knows (kept_with k e.process before then b) (e ∷ past)
    by true any None h = absurd (true≢false (sym any ∙ taken_reply e.marks ∙ ap is_some h))
    by true any (Some r) h = record {
      process_views = each;
      store =
          ap (λ x. after x before.command (record { process = e.process; number = before.number })) knows.store
          ∙ ap (λ m. after (store_after s (history s past)) m.command (record { process = e.process; number = m.number })) was
          ∙ sym (fold-append (λ store t. after store t.command (record { process = t.process; number = t.number })) (opening_store s) (history s past) (taken_now s e.process past r ∷ []))
          ∙ ap (store_after s) (sym (history_with s past e (Some r) h));
      taken = ap (λ n. n + 1) knows.taken ∙ sym (length-append (history s past) (taken_now s e.process past r ∷ [])) ∙ ap (λ (l : List Taken). length l) (sym (history_with s past e (Some r) h));
      entries = ap (λ n. n + 1) knows.entries ∙ add-one (length past);
    }
    by false any None h = record {
      process_views = each;
      store = knows.store ∙ ap (store_after s) (sym (history_with s past e None h));
      taken = knows.taken ∙ ap (λ (l : List Taken). length l) (sym (history_with s past e None h));
      entries = ap (λ n. n + 1) knows.entries ∙ add-one (length past);
    }
    by false any (Some r) h = absurd (true≢false (sym (ap is_some h) ∙ sym (taken_reply e.marks) ∙ any))

pub kept_by_fields : (a b : LockRunState) → a.setup ≡ b.setup → a.process_views ≡ b.process_views → a.store ≡ b.store → a.taken ≡ b.taken → a.entries ≡ b.entries → a ≡ b
kept_by_fields a b setup process_views store taken entries = λ i. record { setup = setup i; process_views = process_views i; store = store i; taken = taken i; entries = entries i }
