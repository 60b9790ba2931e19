-- The values computed from a past, after one more entry: after its access, and then mark by mark.
use Rattle.std.proofs.Common.{◌≡◌, ℕ, ◌==◌, Bool, true, false, cond, [], ◌∷◌, Option, None, Some, fold, length, refl, ap, ◌∙◌, eq-eqb}
use Rattle.std.specs.List.{list_any}
use Rattle.plain_store.specs.{Setup}
use Rattle.model.specs.{Access, Entry, Past, call_number, first_of, has, inside, inside_after, is_called, is_entered, is_failed, is_waiting, is_waiting_stage, last_command, number_in_call, own, since, stage as stage_at, stage_after}
use Rattle.lock_stages.specs.{with_access}
use Rattle.any_lock.specs.{BegunAccess, Passage, ProcessView, accessed_by, at_rest, begun_by, has_access, is_withdrawal, left_open, opened, passage_in, reply_in, process_view, torn, torn_after, write_of}

-- States by their fields.

-- two states with the same fields are equal
pub view_by : (k : ProcessView) (m : ProcessView) → k.stage ≡ m.stage → k.withdrawn ≡ m.withdrawn → k.number ≡ m.number → k.command ≡ m.command →
    k.reply ≡ m.reply → k.opened ≡ m.opened → k.torn ≡ m.torn → k.passage ≡ m.passage → k ≡ m
view_by k m a c d e f g h i = λ x. record {
  stage = a x;
  withdrawn = c x;
  number = d x;
  command = e x;
  reply = f x;
  opened = g x;
  torn = h x;
  passage = i x;
}

-- two passages with the same fields are equal
pub passage_by : (t u : Passage) → t.inside ≡ u.inside → t.waiting ≡ u.waiting → t.doorway ≡ u.doorway → t.waits ≡ u.waits → t.enters ≡ u.enters → t ≡ u
passage_by t u a b c d e = λ x. record { inside = a x; waiting = b x; doorway = c x; waits = d x; enters = e x }

-- At rest.

no_calls : (b : Bool) → ◌≡◌ {A = ℕ} (cond b 0 0) 0
no_calls true = refl
no_calls false = refl

pub at_first : (s : Setup) (p : ℕ) → process_view s p [] ≡ at_rest
at_first s p = view_by (process_view s p []) at_rest refl refl (no_calls (s.version == 2)) refl refl refl refl refl

-- Another process's entry.

pub process_view-other : (s : Setup) (q : ℕ) (e : Entry) (past : Past) → (e.process == q) ≡ false → process_view s q (e ∷ past) ≡ process_view s q past
process_view-other s q e past h =
    let mine : own q (e ∷ past) ≡ own q past = ap (λ b. cond b (e ∷ own q past) (own q past)) h in
    let same : stage_at q (e ∷ past) ≡ stage_at q past = ap (λ b. cond b (fold stage_after (stage_at q past) e.marks) (stage_at q past)) h in
    view_by (process_view s q (e ∷ past)) (process_view s q past)
    same
    (ap (λ l. list_any (has is_withdrawal) (since is_called l)) mine)
    (ap (call_number s) mine)
    (ap last_command mine)
    (ap (λ l. reply_in (since is_called l)) mine)
    (rw (h, opened) refl)
    (rw (h, torn) refl)
    (passage_by (passage_in (e ∷ past) q) (passage_in past q)
    (ap (λ b. cond b (fold inside_after (inside q past) e.marks) (inside q past)) h)
    (ap is_waiting_stage same)
    (rw (h, number_in_call) refl)
    (rw (h, number_in_call) refl)
    (rw (h, number_in_call) refl))

-- An entry of the process itself.

pub own-mine : (p : ℕ) (e : Entry) (past : Past) → e.process ≡ p → own p (e ∷ past) ≡ e ∷ own p past
own-mine p e past h = ap (λ b. cond b (e ∷ own p past) (own p past)) (eq-eqb e.process p h)

pub stage-mine : (p : ℕ) (e : Entry) (past : Past) → e.process ≡ p → stage_at p (e ∷ past) ≡ fold stage_after (stage_at p past) e.marks
stage-mine p e past h = ap (λ b. cond b (fold stage_after (stage_at p past) e.marks) (stage_at p past)) (eq-eqb e.process p h)

pub inside-mine : (p : ℕ) (e : Entry) (past : Past) → e.process ≡ p → inside p (e ∷ past) ≡ fold inside_after (inside p past) e.marks
inside-mine p e past h = ap (λ b. cond b (fold inside_after (inside p past) e.marks) (inside p past)) (eq-eqb e.process p h)

pub opened-mine : (p : ℕ) (e : Entry) (past : Past) → e.process ≡ p → opened p (e ∷ past) ≡ fold left_open (begun_by (length past) e.access (opened p past)) e.marks
opened-mine p e past h = ap (λ b. cond b (fold left_open (begun_by (length past) e.access (opened p past)) e.marks) (opened p past)) (eq-eqb e.process p h)

pub torn-mine : (p : ℕ) (e : Entry) (past : Past) → e.process ≡ p → (b : Bool) → has is_failed e ≡ b → torn p (e ∷ past) ≡ cond b (write_of (opened p past)) (torn_after e.access (torn p past))
torn-mine p e past h true failed =
    ap (λ b. cond b (elim (has is_failed e) as (λ _. Option BegunAccess) [ true ↦ write_of (opened p past) | false ↦ torn_after e.access (torn p past) ]) (torn p past)) (eq-eqb e.process p h)
    ∙ ap (λ b. elim b as (λ _. Option BegunAccess) [ true ↦ write_of (opened p past) | false ↦ torn_after e.access (torn p past) ]) failed
torn-mine p e past h false failed =
    ap (λ b. cond b (elim (has is_failed e) as (λ _. Option BegunAccess) [ true ↦ write_of (opened p past) | false ↦ torn_after e.access (torn p past) ]) (torn p past)) (eq-eqb e.process p h)
    ∙ ap (λ b. elim b as (λ _. Option BegunAccess) [ true ↦ write_of (opened p past) | false ↦ torn_after e.access (torn p past) ]) failed

-- the number of an entry, if a test holds
abbrev pub if_there : Bool → ℕ → Option ℕ
if_there b n = elim b as (λ _. Option ℕ) [ true ↦ Some n | false ↦ None ]

own-number : (p : ℕ) (test : Entry → Bool) (e : Entry) (past : Past) → e.process ≡ p → (called : Bool) → has is_called e ≡ called →
    number_in_call p test (e ∷ past) ≡ elim called as (λ _. Option ℕ) [ true ↦ None | false ↦ first_of (number_in_call p test past) (if_there (test e) (length past)) ]
own-number p test e past h called is =
    ap (λ t. elim t as (λ _. Option ℕ) [
      | false ↦ number_in_call p test past
      | true ↦ elim (has is_called e) as (λ _. Option ℕ) [
        | true ↦ None
        | false ↦ first_of (number_in_call p test past) (if_there (test e) (length past))
      ]
    ]) (eq-eqb e.process p h)
    ∙ ap (λ t. elim t as (λ _. Option ℕ) [
      | true ↦ None
      | false ↦ first_of (number_in_call p test past) (if_there (test e) (length past))
    ]) is

pub number-mine : (p : ℕ) (test : Entry → Bool) (e : Entry) (past : Past) → e.process ≡ p → has is_called e ≡ false → (b : Bool) → test e ≡ b →
    number_in_call p test (e ∷ past) ≡ first_of (number_in_call p test past) (if_there b (length past))
number-mine p test e past h called b is = own-number p test e past h false called ∙ ap (λ t. first_of (number_in_call p test past) (if_there t (length past))) is

pub number-called : (p : ℕ) (test : Entry → Bool) (e : Entry) (past : Past) → e.process ≡ p → has is_called e ≡ true → number_in_call p test (e ∷ past) ≡ None
number-called p test e past h called = own-number p test e past h true called

pub first_none : (o : Option ℕ) → first_of o None ≡ o
first_none None = refl
first_none (Some k) = refl

-- With an access, before its marks.

-- an entry without marks
abbrev pub bare : ℕ → Option Access → Entry
bare p o = record { process = p; access = o; marks = [] }

pub process_view-access : (s : Setup) (p : ℕ) (o : Option Access) (past : Past) → process_view s p (bare p o ∷ past) ≡ accessed_by (length past) (process_view s p past) o
process_view-access s p None past =
    let mine = own-mine p (bare p None) past refl in
    view_by (process_view s p (bare p None ∷ past)) (process_view s p past)
    (stage-mine p (bare p None) past refl)
    (ap (λ l. list_any (has is_withdrawal) (since is_called l)) mine)
    (ap (call_number s) mine)
    (ap last_command mine)
    (ap (λ l. reply_in (since is_called l)) mine)
    (opened-mine p (bare p None) past refl)
    (torn-mine p (bare p None) past refl false refl)
    (passage_by (passage_in (bare p None ∷ past) p) (passage_in past p)
    (inside-mine p (bare p None) past refl)
    (ap is_waiting_stage (stage-mine p (bare p None) past refl))
    (number-mine p has_access (bare p None) past refl refl false refl ∙ first_none (number_in_call p has_access past))
    (number-mine p (has is_waiting) (bare p None) past refl refl false refl ∙ first_none (number_in_call p (has is_waiting) past))
    (number-mine p (has is_entered) (bare p None) past refl refl false refl ∙ first_none (number_in_call p (has is_entered) past)))
process_view-access s p (Some a) past =
    let mine = own-mine p (bare p (Some a)) past refl in
    view_by (process_view s p (bare p (Some a) ∷ past)) (accessed_by (length past) (process_view s p past) (Some a))
    (stage-mine p (bare p (Some a)) past refl)
    (ap (λ l. list_any (has is_withdrawal) (since is_called l)) mine)
    (ap (call_number s) mine)
    (ap last_command mine)
    (ap (λ l. reply_in (since is_called l)) mine)
    (opened-mine p (bare p (Some a)) past refl)
    (torn-mine p (bare p (Some a)) past refl false refl)
    (passage_by (passage_in (bare p (Some a) ∷ past) p) (with_access (length past) (passage_in past p))
    (inside-mine p (bare p (Some a)) past refl)
    (ap is_waiting_stage (stage-mine p (bare p (Some a)) past refl))
    (number-mine p has_access (bare p (Some a)) past refl refl true refl)
    (number-mine p (has is_waiting) (bare p (Some a)) past refl refl false refl ∙ first_none (number_in_call p (has is_waiting) past))
    (number-mine p (has is_entered) (bare p (Some a)) past refl refl false refl ∙ first_none (number_in_call p (has is_entered) past)))
