-- The state of a process after one more mark.
use Rattle.std.proofs.Common.{◌≡◌, ℕ, suc, ◌+◌, ◌==◌, Bool, true, false, not, ◌||◌, cond, List, [], ◌∷◌, ◌++◌, Option, None, Some, is_some, length, refl, sym, ap, ◌∙◌, add-one, true≢false}
use Rattle.std.specs.List.{list_any}
use Rattle.std.proofs.lemmas.List.Folds.{list_any-append}
use Rattle.std.proofs.lemmas.List.Sums.{fold-append}
use Rattle.plain_store.specs.{Command, Reply, Setup}
use Rattle.model.specs.{Access, Entry, Mark, Past, Stage, call_number, called_in, calls_in, first_of, has, inside, inside_after, is_called, is_entered, is_failed, is_waiting, is_waiting_stage, last_command, number_in_call, own, reply_taken, since, stage as stage_at, stage_after}
use Rattle.model.specs.declared.marks.Mark.TheVariants as mark
use Rattle.model.specs.declared.stages.Stage.TheVariants as stages
use Rattle.lock_stages.specs.{with_call, with_enter, with_wait, without_wait}
use Rattle.any_lock.specs.{Passage, ProcessView, begun_by, first_that, has_access, is_withdrawal, left_open, mark_refusal, marked, opened, passage_in, reply_in, process_view, must_be_alone}
use Rattle.any_lock.specs.declared.refusals.MarkRefusal.TheVariants as refusal
use Rattle.any_lock.proofs.Steps.{first_none, if_there, inside-mine, number-called, number-mine, opened-mine, own-mine, passage_by, stage-mine, view_by, torn-mine}

-- Marks that need not be alone.

abbrev pub ArePlain : List Mark → Type 0
ArePlain ms = list_any must_be_alone ms ≡ false

pub or_left : (a b : Bool) → (a || b) ≡ false → a ≡ false
or_left false b h = refl
or_left true b h = h

pub or_right : (a b : Bool) → (a || b) ≡ false → b ≡ false
or_right false b h = h
or_right true b h = absurd (true≢false h)

pub none_of : (t : Mark → Bool) → ((m : Mark) → must_be_alone m ≡ false → t m ≡ false) → (ms : List Mark) → ArePlain ms → list_any t ms ≡ false
none_of t apart [] plain = refl
none_of t apart (m ∷ ms) plain =
    ap (λ b. b || list_any t ms) (apart m (or_left (must_be_alone m) (list_any must_be_alone ms) plain))
    ∙ none_of t apart ms (or_right (must_be_alone m) (list_any must_be_alone ms) plain)

no_call : (m : Mark) → must_be_alone m ≡ false → is_called m ≡ false
no_call (mark.Called c) h = absurd (true≢false h)
no_call _ h = refl

pub no_failure : (m : Mark) → must_be_alone m ≡ false → is_failed m ≡ false
no_failure mark.Failed h = absurd (true≢false h)
no_failure _ h = refl

no_withdrawal : (m : Mark) → must_be_alone m ≡ false → is_withdrawal m ≡ false
no_withdrawal mark.Withdrew h = absurd (true≢false h)
no_withdrawal _ h = refl

not_called : (ms : List Mark) → list_any is_called ms ≡ false → called_in ms ≡ None
not_called [] h = refl
not_called (mark.Called c ∷ ms) h = absurd (true≢false h)
not_called (_ ∷ ms) h = not_called ms h

-- the first of two replies, if there is one
abbrev pub reply_or : Option Reply → Option Reply → Option Reply
reply_or o more = elim o as (λ _. Option Reply) [ Some r ↦ Some r | None ↦ more ]

reply-append : (ms ns : List Mark) → reply_taken (ms ++ ns) ≡ reply_or (reply_taken ms) (reply_taken ns)
reply-append [] ns = refl
reply-append (mark.Taken n r ∷ ms) ns = refl
reply-append (_ ∷ ms) ns = reply-append ms ns

-- An entry with plain marks.

-- an entry of p with these marks
abbrev pub with_marks : ℕ → Option Access → List Mark → Entry
with_marks p o ms = record { process = p; access = o; marks = ms }

pub since-mine : (p : ℕ) (o : Option Access) (ms : List Mark) (past : Past) → ArePlain ms → since is_called (own p (with_marks p o ms ∷ past)) ≡ with_marks p o ms ∷ since is_called (own p past)
since-mine p o ms past plain =
    ap (since is_called) (own-mine p (with_marks p o ms) past refl)
    ∙ ap (λ b. elim b as (λ _. Past) [ true ↦ [] | false ↦ with_marks p o ms ∷ since is_called (own p past) ]) (none_of is_called no_call ms plain)

-- parts of the state that plain marks leave unchanged
pub withdrawn-plain : (p : ℕ) (o : Option Access) (ms : List Mark) (past : Past) → ArePlain ms →
    list_any (has is_withdrawal) (since is_called (own p (with_marks p o ms ∷ past))) ≡ list_any (has is_withdrawal) (since is_called (own p past))
withdrawn-plain p o ms past plain =
    ap (list_any (has is_withdrawal)) (since-mine p o ms past plain)
    ∙ ap (λ b. b || list_any (has is_withdrawal) (since is_called (own p past))) (none_of is_withdrawal no_withdrawal ms plain)

pub number-plain : (s : Setup) (p : ℕ) (o : Option Access) (ms : List Mark) (past : Past) → ArePlain ms → call_number s (own p (with_marks p o ms ∷ past)) ≡ call_number s (own p past)
number-plain s p o ms past plain =
    ap (call_number s) (own-mine p (with_marks p o ms) past refl)
    ∙ ap (λ b. cond (s.version == 2) (elim b as (λ _. ℕ) [ true ↦ suc (calls_in (own p past)) | false ↦ calls_in (own p past) ]) 0) (none_of is_called no_call ms plain)

pub command-plain : (p : ℕ) (o : Option Access) (ms : List Mark) (past : Past) → ArePlain ms → last_command (own p (with_marks p o ms ∷ past)) ≡ last_command (own p past)
command-plain p o ms past plain =
    ap last_command (own-mine p (with_marks p o ms) past refl)
    ∙ ap (λ c. elim c as (λ _. Command) [ None ↦ last_command (own p past) | Some x ↦ x ]) (not_called ms (none_of is_called no_call ms plain))

pub reply-plain : (p : ℕ) (o : Option Access) (ms : List Mark) (past : Past) → ArePlain ms →
    reply_in (since is_called (own p (with_marks p o ms ∷ past))) ≡ reply_or (reply_taken ms) (reply_in (since is_called (own p past)))
reply-plain p o ms past plain = ap reply_in (since-mine p o ms past plain)

pub numbered-plain : (p : ℕ) (test : Entry → Bool) (o : Option Access) (ms : List Mark) (past : Past) → ArePlain ms →
    number_in_call p test (with_marks p o ms ∷ past) ≡ first_of (number_in_call p test past) (if_there (test (with_marks p o ms)) (length past))
numbered-plain p test o ms past plain = number-mine p test (with_marks p o ms) past refl (none_of is_called no_call ms plain) (test (with_marks p o ms)) refl

-- One plain mark more.

pub or_false : (b : Bool) → (b || false) ≡ b
or_false true = refl
or_false false = refl

any-one : (t : Mark → Bool) (ms : List Mark) (m : Mark) → list_any t (ms ++ m ∷ []) ≡ (list_any t ms || t m)
any-one t ms m = list_any-append t ms (m ∷ []) ∙ ap (λ b. list_any t ms || b) (or_false (t m))

pub plain-more : (ms : List Mark) (m : Mark) → ArePlain ms → must_be_alone m ≡ false → ArePlain (ms ++ m ∷ [])
plain-more ms m plain is = any-one must_be_alone ms m ∙ ap (λ b. b || must_be_alone m) plain ∙ is

there_twice : (o : Option ℕ) (a b : Bool) (n : ℕ) → first_of o (if_there (a || b) n) ≡ first_of (first_of o (if_there a n)) (if_there b n)
there_twice (Some k) a b n = refl
there_twice None true b n = refl
there_twice None false b n = refl

numbered-more : (p : ℕ) (t : Mark → Bool) (o : Option Access) (ms : List Mark) (m : Mark) (past : Past) → ArePlain ms → must_be_alone m ≡ false →
    number_in_call p (has t) (with_marks p o (ms ++ m ∷ []) ∷ past) ≡ first_of (number_in_call p (has t) (with_marks p o ms ∷ past)) (if_there (t m) (length past))
numbered-more p t o ms m past plain is =
    numbered-plain p (has t) o (ms ++ m ∷ []) past (plain-more ms m plain is)
    ∙ ap (λ b. first_of (number_in_call p (has t) past) (if_there b (length past))) (any-one t ms m)
    ∙ there_twice (number_in_call p (has t) past) (list_any t ms) (t m) (length past)
    ∙ ap (λ x. first_of x (if_there (t m) (length past))) (sym (numbered-plain p (has t) o ms past plain))

-- the reply taken, after a mark that is not refused: no reply precedes that of a taken command
abbrev pub reply_by : Option Reply → Mark → Option Reply
reply_by before (mark.Taken n r) = Some r
reply_by before _ = before

pub reply_nil : (o : Option Reply) → reply_or o None ≡ o
reply_nil None = refl
reply_nil (Some r) = refl

reply-more : (p : ℕ) (o : Option Access) (ms : List Mark) (m : Mark) (past : Past) → ArePlain ms → must_be_alone m ≡ false →
    reply_in (since is_called (own p (with_marks p o (ms ++ m ∷ []) ∷ past))) ≡ reply_or (reply_or (reply_taken ms) (reply_taken (m ∷ []))) (reply_in (since is_called (own p past)))
reply-more p o ms m past plain is =
    reply-plain p o (ms ++ m ∷ []) past (plain-more ms m plain is)
    ∙ ap (λ x. reply_or x (reply_in (since is_called (own p past)))) (reply-append ms (m ∷ []))

-- a mark that takes nothing
reply-same : (p : ℕ) (o : Option Access) (ms : List Mark) (m : Mark) (past : Past) → ArePlain ms → must_be_alone m ≡ false → reply_taken (m ∷ []) ≡ None →
    reply_in (since is_called (own p (with_marks p o (ms ++ m ∷ []) ∷ past))) ≡ reply_in (since is_called (own p (with_marks p o ms ∷ past)))
reply-same p o ms m past plain is none =
    reply-more p o ms m past plain is
    ∙ ap (λ x. reply_or (reply_or (reply_taken ms) x) (reply_in (since is_called (own p past)))) none
    ∙ ap (λ x. reply_or x (reply_in (since is_called (own p past)))) (reply_nil (reply_taken ms))
    ∙ sym (reply-plain p o ms past plain)

-- the first reply, if nothing was taken before
first_reply : (before more : Option Reply) (r : Reply) → reply_or before more ≡ None → reply_or (reply_or before (Some r)) more ≡ Some r
first_reply None more r none = refl
first_reply (Some q) more r none = let h : Some q ≡ None = none in cc

reply-taken : (p : ℕ) (o : Option Access) (ms : List Mark) (n : ℕ) (r : Reply) (past : Past) → ArePlain ms → reply_in (since is_called (own p (with_marks p o ms ∷ past))) ≡ None →
    reply_in (since is_called (own p (with_marks p o (ms ++ mark.Taken n r ∷ []) ∷ past))) ≡ Some r
reply-taken p o ms n r past plain none =
    reply-more p o ms (mark.Taken n r) past plain refl
    ∙ first_reply (reply_taken ms) (reply_in (since is_called (own p past))) r (sym (reply-plain p o ms past plain) ∙ none)

-- the state of p after one more mark, field by field
abbrev pub moved_on : ℕ → Stage → Passage → Mark → Passage
moved_on n at t m = record t {
  inside = inside_after t.inside m;
  waiting = is_waiting_stage (stage_after at m);
  waits = first_of t.waits (if_there (is_waiting m) n);
  enters = first_of t.enters (if_there (is_entered m) n);
}

abbrev pub moved : ℕ → ProcessView → Mark → ProcessView
moved n k m = record k {
  stage = stage_after k.stage m;
  reply = reply_by k.reply m;
  opened = left_open k.opened m;
  passage = moved_on n k.stage k.passage m;
}

module _ (s : Setup) (p : ℕ) (o : Option Access) (ms : List Mark) (m : Mark) (past : Past) (plain : ArePlain ms) (is : must_be_alone m ≡ false) where
  stage_to : stage_at p (with_marks p o (ms ++ m ∷ []) ∷ past) ≡ stage_after (stage_at p (with_marks p o ms ∷ past)) m
  stage_to =
      stage-mine p (with_marks p o (ms ++ m ∷ [])) past refl ∙ fold-append stage_after (stage_at p past) ms (m ∷ [])
      ∙ ap (λ x. stage_after x m) (sym (stage-mine p (with_marks p o ms) past refl))

  passage_to : passage_in (with_marks p o (ms ++ m ∷ []) ∷ past) p ≡ moved_on (length past) (stage_at p (with_marks p o ms ∷ past)) (passage_in (with_marks p o ms ∷ past) p) m
  passage_to =
      passage_by (passage_in (with_marks p o (ms ++ m ∷ []) ∷ past) p) (moved_on (length past) (stage_at p (with_marks p o ms ∷ past)) (passage_in (with_marks p o ms ∷ past) p) m)
      (inside-mine p (with_marks p o (ms ++ m ∷ [])) past refl ∙ fold-append inside_after (inside p past) ms (m ∷ []) ∙ ap (λ x. inside_after x m) (sym (inside-mine p (with_marks p o ms) past refl)))
      (ap is_waiting_stage stage_to)
      (numbered-plain p has_access o (ms ++ m ∷ []) past (plain-more ms m plain is) ∙ sym (numbered-plain p has_access o ms past plain))
      (numbered-more p is_waiting o ms m past plain is)
      (numbered-more p is_entered o ms m past plain is)

  moved_to : reply_in (since is_called (own p (with_marks p o (ms ++ m ∷ []) ∷ past))) ≡ reply_by (reply_in (since is_called (own p (with_marks p o ms ∷ past)))) m →
      process_view s p (with_marks p o (ms ++ m ∷ []) ∷ past) ≡ moved (length past) (process_view s p (with_marks p o ms ∷ past)) m
  moved_to reply =
      view_by (process_view s p (with_marks p o (ms ++ m ∷ []) ∷ past)) (moved (length past) (process_view s p (with_marks p o ms ∷ past)) m)
      stage_to
      (withdrawn-plain p o (ms ++ m ∷ []) past (plain-more ms m plain is) ∙ sym (withdrawn-plain p o ms past plain))
      (number-plain s p o (ms ++ m ∷ []) past (plain-more ms m plain is) ∙ sym (number-plain s p o ms past plain))
      (command-plain p o (ms ++ m ∷ []) past (plain-more ms m plain is) ∙ sym (command-plain p o ms past plain))
      reply
      (opened-mine p (with_marks p o (ms ++ m ∷ [])) past refl
      ∙ fold-append left_open (begun_by (length past) o (opened p past)) ms (m ∷ [])
      ∙ ap (λ x. left_open x m) (sym (opened-mine p (with_marks p o ms) past refl)))
      (torn-mine p (with_marks p o (ms ++ m ∷ [])) past refl false (none_of is_failed no_failure (ms ++ m ∷ []) (plain-more ms m plain is))
      ∙ sym (torn-mine p (with_marks p o ms) past refl false (none_of is_failed no_failure ms plain)))
      passage_to

-- A mark that is not refused.
pub untaken : (k : ProcessView) (n : ℕ) (r : Reply) → mark_refusal k (mark.Taken n r) ≡ None → k.reply ≡ None
untaken k n r h = by k.passage.inside k.reply h
  where
    by : (i : Bool) (o : Option Reply) → first_that ((not i, refusal.NotInside) ∷ (is_some o, refusal.TakenBefore) ∷ []) ≡ None → o ≡ None
    by true None h = refl
    by true (Some q) h = cc
    by false o h = cc

-- a process that leaves does not wait
waits-remaining : (at : Stage) → is_waiting_stage (stage_after at mark.Left) ≡ false
waits-remaining stages.Settling = refl
waits-remaining _ = refl

-- the state of p after that mark
pub process_view-marked : (s : Setup) (p : ℕ) (o : Option Access) (ms : List Mark) (m : Mark) (past : Past) → ArePlain ms → must_be_alone m ≡ false →
    mark_refusal (process_view s p (with_marks p o ms ∷ past)) m ≡ None →
    process_view s p (with_marks p o (ms ++ m ∷ []) ∷ past) ≡ marked s (length past) (process_view s p (with_marks p o ms ∷ past)) m
process_view-marked s p o ms m past plain is allowed = by m is allowed
  where
    k : ProcessView
    k = process_view s p (with_marks p o ms ∷ past)

    t : Passage
    t = passage_in (with_marks p o ms ∷ past) p

    -- a mark that begins neither leaves both entries unchanged
    same : (then : Passage) → then.waits ≡ t.waits → then.enters ≡ t.enters → record then { waits = first_of t.waits None; enters = first_of t.enters None } ≡ then
    same then waits enters = passage_by (record then { waits = first_of t.waits None; enters = first_of t.enters None }) then refl refl refl (first_none t.waits ∙ sym waits) (first_none t.enters ∙ sym enters)

    by : (m : Mark) → must_be_alone m ≡ false → mark_refusal k m ≡ None → process_view s p (with_marks p o (ms ++ m ∷ []) ∷ past) ≡ marked s (length past) k m
    by (mark.Waiting n) is h = moved_to s p o ms (mark.Waiting n) past plain is (reply-same p o ms (mark.Waiting n) past plain is refl)
        ∙ ap (λ x. record k { stage = stages.Waiting; passage = record (with_wait (length past) t) { enters = x } }) (first_none t.enters)
    by mark.Entered is h = moved_to s p o ms mark.Entered past plain is (reply-same p o ms mark.Entered past plain is refl)
        ∙ ap (λ x. record k { stage = stages.Inside; passage = record (with_enter (length past) t) { waits = x } }) (first_none t.waits)
    by (mark.Taken n r) is h = moved_to s p o ms (mark.Taken n r) past plain is (reply-taken p o ms n r past plain (untaken k n r h))
        ∙ ap (λ x. record k { reply = Some r; passage = x }) (same t refl refl)
    by mark.Left is h = moved_to s p o ms mark.Left past plain is (reply-same p o ms mark.Left past plain is refl)
        ∙ (λ i. record k { stage = stage_after k.stage mark.Left; passage = record t { inside = false; waiting = waits-remaining k.stage i; waits = first_none t.waits i; enters = first_none t.enters i } })
    by (mark.Answered a) is h = moved_to s p o ms (mark.Answered a) past plain is (reply-same p o ms (mark.Answered a) past plain is refl)
        ∙ ap (λ x. record k { stage = stages.Idle; passage = x }) (same (without_wait t) refl refl)
    by (mark.Settled v) is h = moved_to s p o ms (mark.Settled v) past plain is (reply-same p o ms (mark.Settled v) past plain is refl)
        ∙ ap (λ x. record k { passage = x }) (same t refl refl)
    by mark.Down is h = moved_to s p o ms mark.Down past plain is (reply-same p o ms mark.Down past plain is refl)
        ∙ ap (λ x. record k { stage = stages.Down; passage = x }) (same (without_wait t) refl refl)
    by _ is h = absurd (true≢false is)

-- One mark that must be alone.

next-call : (b : Bool) (c : ℕ) → cond b (suc c) 0 ≡ cond b (cond b c 0 + 1) 0
next-call true c = sym (add-one c)
next-call false c = refl

pub process_view-alone : (s : Setup) (p : ℕ) (m : Mark) (past : Past) → must_be_alone m ≡ true → process_view s p (with_marks p None (m ∷ []) ∷ past) ≡ marked s (length past) (process_view s p past) m
process_view-alone s p m past is = by m is
  where
    k : ProcessView
    k = process_view s p past

    by : (m : Mark) → must_be_alone m ≡ true → process_view s p (with_marks p None (m ∷ []) ∷ past) ≡ marked s (length past) k m
    by (mark.Called c) h = let mine = own-mine p (with_marks p None (mark.Called c ∷ [])) past refl in
        view_by (process_view s p (with_marks p None (mark.Called c ∷ []) ∷ past)) (marked s (length past) k (mark.Called c))
        (stage-mine p (with_marks p None (mark.Called c ∷ [])) past refl)
        (ap (λ l. list_any (has is_withdrawal) (since is_called l)) mine)
        (ap (call_number s) mine ∙ next-call (s.version == 2) (calls_in (own p past)))
        (ap last_command mine)
        (ap (λ l. reply_in (since is_called l)) mine)
        (opened-mine p (with_marks p None (mark.Called c ∷ [])) past refl)
        (torn-mine p (with_marks p None (mark.Called c ∷ [])) past refl false refl)
        (passage_by (passage_in (with_marks p None (mark.Called c ∷ []) ∷ past) p) (with_call (passage_in past p))
        (inside-mine p (with_marks p None (mark.Called c ∷ [])) past refl)
        (ap is_waiting_stage (stage-mine p (with_marks p None (mark.Called c ∷ [])) past refl))
        (number-called p has_access (with_marks p None (mark.Called c ∷ [])) past refl refl)
        (number-called p (has is_waiting) (with_marks p None (mark.Called c ∷ [])) past refl refl)
        (number-called p (has is_entered) (with_marks p None (mark.Called c ∷ [])) past refl refl))
    by (mark.Waiting t) h = absurd (true≢false (sym h))
    by mark.Entered h = absurd (true≢false (sym h))
    by (mark.Taken n r) h = absurd (true≢false (sym h))
    by mark.Left h = absurd (true≢false (sym h))
    by (mark.Answered a) h = absurd (true≢false (sym h))
    by (mark.Settled v) h = absurd (true≢false (sym h))
    by mark.Down h = absurd (true≢false (sym h))
    by m h = let mine = own-mine p (with_marks p None (m ∷ [])) past refl in
        view_by (process_view s p (with_marks p None (m ∷ []) ∷ past)) (marked s (length past) k m)
        (stage-mine p (with_marks p None (m ∷ [])) past refl)
        (ap (λ l. list_any (has is_withdrawal) (since is_called l)) mine)
        (ap (call_number s) mine)
        (ap last_command mine)
        (ap (λ l. reply_in (since is_called l)) mine)
        (opened-mine p (with_marks p None (m ∷ [])) past refl)
        (torn-mine p (with_marks p None (m ∷ [])) past refl (is_failed m) refl)
        (passage_by (passage_in (with_marks p None (m ∷ []) ∷ past) p) (without_wait (passage_in past p))
        (inside-mine p (with_marks p None (m ∷ [])) past refl)
        (ap is_waiting_stage (stage-mine p (with_marks p None (m ∷ [])) past refl))
        (number-mine p has_access (with_marks p None (m ∷ [])) past refl refl false refl ∙ first_none k.passage.doorway)
        (number-mine p (has is_waiting) (with_marks p None (m ∷ [])) past refl refl false refl ∙ first_none k.passage.waits)
        (number-mine p (has is_entered) (with_marks p None (m ∷ [])) past refl refl false refl ∙ first_none k.passage.enters))
