-- In a record that is good for any lock, each read that ends is the process's own, and no process calls within a call.
use Rattle.std.proofs.Common.{◌≡◌, ◌≢◌, ℕ, ◌==◌, nat_lt, arith, Bool, true, false, not, ◌&&◌, ◌||◌, cond, List, [], ◌∷◌, Option, None, Some, fold, length, refl, sym, ap, subst, ◌∙◌, true≢false, ◌⊎◌, inl, inr, eqb-true, eq-eqb, ne_eqb}
use Rattle.std.specs.List.{list_any}
use Rattle.std.proofs.lemmas.Bool.{and_parts, cases_eq}
use Rattle.std.proofs.lemmas.Bool.Decides.{nat_tests}
use Rattle.plain_store.specs.{Command, Setup}
use Rattle.model.specs.{Access, Entry, Mark, Past, Stage, field_number, has, is_at_work, is_called, is_down, is_running, is_settling, moves_of, same_bit, stage_after}
use Rattle.model.specs.declared.marks.Mark.TheVariants as mark
use Rattle.model.specs.declared.stages.Stage.TheVariants as stage
use Rattle.model.specs.safe_bit.{Move, is_begin, is_begin_of_read, is_end, is_of_read, settles}
use Rattle.model.specs.safe_bit.declared.Move.TheVariants.{BeginWrite, EndWrite, BeginRead, EndRead, Settle}
use Rattle.world.specs.{ends_overlapped, ends_overlapped_read}
use Rattle.calls.specs.{begins_read_of, ends_own_overlapped, goes_on_after, is_calling, is_there, last_access, later_access, overlaps_in}
use Rattle.judge.specs.any_lock.{BegunAccess, ProcessView, access_refusal, accessed_by, begun_by, is_end_of, left_open, mark_refusal, marked, marked_all, may_move, opened, refusal_of_access, refusal_on, same_truth, process_view, must_be_alone}
use Rattle.judge.specs.any_lock.declared.refusals.AccessRefusal.TheVariants as access
use Rattle.judge.specs.any_lock.declared.refusals.MarkRefusal.TheVariants as refusal
use Rattle.judge.proofs.any_lock.Alone.{AllKeep, Keeps, not_not}
use Rattle.judge.proofs.any_lock.Breaks.{none_else, none_if, process_there}
use Rattle.judge.proofs.any_lock.Cuts.{Orderly, first_unrefused, orderly, rest_unrefused, unrefused_on}
use Rattle.judge.proofs.any_lock.Markings.{or_false, with_marks}
use Rattle.judge.proofs.any_lock.Steps.{process_view-other}
use Rattle.judge.proofs.any_lock.Whole.{one_alone, whole_applied}

-- The access that a process has open is its last access.

-- an access that is open after a mark was open before it
was_open : (o : Option BegunAccess) (m : Mark) (b : BegunAccess) → left_open o m ≡ Some b → o ≡ Some b
was_open o mark.Failed b is = absurd (cc)
was_open None mark.Withdrew b is = is
was_open (Some x) mark.Withdrew b is = by x.access.how is
  where
    by : (m : Move) → elim m as (λ _. Option BegunAccess) [ BeginWrite v ↦ Some x | EndWrite ↦ None | BeginRead ↦ None | EndRead v ↦ None | Settle v ↦ None ] ≡ Some b → Some x ≡ Some b
    by (BeginWrite v) is = is
    by EndWrite is = absurd (cc)
    by BeginRead is = absurd (cc)
    by (EndRead v) is = absurd (cc)
    by (Settle v) is = absurd (cc)
was_open o _ b is = is

were_open : (o : Option BegunAccess) (ms : List Mark) (b : BegunAccess) → fold left_open o ms ≡ Some b → o ≡ Some b
were_open o [] b is = is
were_open o (m ∷ ms) b is = was_open o m b (were_open (left_open o m) ms b is)

-- it is the last access, which begins
abbrev IsLast : Option Access → BegunAccess → Type 0
IsLast o b = (o ≡ Some b.access) × (is_begin b.access.how ≡ true)

opened_last : (p : ℕ) (past : Past) (b : BegunAccess) → opened p past ≡ Some b → IsLast (last_access p past) b
opened_last p [] b is = absurd (cc)
opened_last p (e ∷ past) b is = by (e.process == p) e.access is (opened_last p past b)
  where
    n : ℕ
    n = length past

    one : (a : Access) (t : Bool) → is_begin a.how ≡ t → cond t (Some (let x : BegunAccess = record { entry = n; access = a } in x)) None ≡ Some b → IsLast (Some a) b
    one a true h is = let same : (let x : BegunAccess = record { entry = n; access = a } in x) ≡ b = cc in (ap (λ (x : BegunAccess). Some x.access) same, ap (λ (x : BegunAccess). is_begin x.access.how) (sym same) ∙ h)
    one a false h is = absurd (cc)

    with : (o : Option Access) → begun_by n o (opened p past) ≡ Some b → (opened p past ≡ Some b → IsLast (last_access p past) b) → IsLast (later_access (last_access p past) o) b
    with None is before = before is
    with (Some a) is before = one a (is_begin a.how) refl is

    by : (mine : Bool) (o : Option Access) → cond mine (fold left_open (begun_by n o (opened p past)) e.marks) (opened p past) ≡ Some b → (opened p past ≡ Some b → IsLast (last_access p past) b) →
        IsLast (cond mine (later_access (last_access p past) o) (last_access p past)) b
    by true o is before = with o (were_open (begun_by n o (opened p past)) e.marks b is) before
    by false o is before = before is

same_back : (a b : Access) → same_bit b a ≡ true → same_bit a b ≡ true
same_back a b same =
    let outer = and_parts ((b.bit == a.bit) && (b.reader == a.reader) && (b.owner == a.owner)) (field_number b.field == field_number a.field) same in
    let inner = and_parts ((b.bit == a.bit) && (b.reader == a.reader)) (b.owner == a.owner) outer.0 in
    let first = and_parts (b.bit == a.bit) (b.reader == a.reader) inner.0 in
    λ i. back a.bit b.bit first.0 i && back a.reader b.reader first.1 i && back a.owner b.owner inner.1 i && back (field_number a.field) (field_number b.field) outer.1 i
  where
    back : (m n : ℕ) → (n == m) ≡ true → (m == n) ≡ true
    back m n h = eq-eqb m n (sym (eqb-true n m h))

-- so the end of an open access ends the process's own read
ends_own : (p : ℕ) (past : Past) (a : Access) → is_of_read a.how ≡ true → is_end_of (opened p past) a ≡ true → begins_read_of (last_access p past) a ≡ true
ends_own p past a ends h = go (opened p past) refl h
  where
    read_begun : (m : Move) → is_begin m ≡ true → is_of_read m ≡ true → is_begin_of_read m ≡ true
    read_begun BeginRead b r = refl
    read_begun (EndRead v) b r = absurd (true≢false (sym b))
    read_begun (BeginWrite v) b r = absurd (true≢false (sym r))
    read_begun EndWrite b r = absurd (true≢false (sym r))
    read_begun (Settle v) b r = absurd (true≢false (sym r))

    go : (o : Option BegunAccess) → opened p past ≡ o → is_end_of o a ≡ true → begins_read_of (last_access p past) a ≡ true
    go None is h = absurd (true≢false (sym h))
    go (Some b) is h =
        let both = and_parts (same_bit b.access a) (same_truth (is_of_read a.how) (is_of_read b.access.how)) h in
        let last = opened_last p past b is in
        let read : is_of_read b.access.how ≡ true = ap (λ t. same_truth t (is_of_read b.access.how)) (sym ends) ∙ both.1 in
        ap (λ o. begins_read_of o a) last.0 ∙ (λ i. read_begun b.access.how last.1 read i && same_back a b.access both.0 i)

-- Overlapped reads are those of a run.

-- the facts about an access that is not refused
record IsAllowed (s : Setup) (p : ℕ) (past : Past) (a : Access) : Type 0 where
  pub there : is_there s a ≡ true
  pub fits : (is_end a.how && not (is_end_of (opened p past) a)) ≡ false

allowed : (s : Setup) (p : ℕ) (past : Past) (a : Access) → access_refusal s p (process_view s p past) a ≡ None → IsAllowed s p past a
allowed s p past a none =
    let k : ProcessView = process_view s p past in
    let one = none_else (not (nat_lt p s.processes)) access.NoProcess _ none in
    let two = none_else (not (is_there s a)) access.NoBit _ one in
    let three = none_else (not (is_of_read a.how) && not (a.owner == p)) access.NotOwner _ two in
    let four = none_else (is_of_read a.how && not (a.reader == p)) access.NotReader _ three in
    let five = none_else (settles a.how && not (is_settling k.stage)) access.NotSettling _ four in
    let six = none_else (not (may_move k.stage a.how)) access.NotRunning _ five in
    record { there = not_not (is_there s a) (none_if (not (is_there s a)) access.NoBit _ one); fits = none_if (is_end a.how && not (is_end_of k.opened a)) access.NotOpen _ six }

own_read : (s : Setup) (p : ℕ) (past : Past) (a : Access) → IsAllowed s p past a → ends_own_overlapped s p past a ≡ ends_overlapped (moves_of a past) a.how
own_read s p past a h = by a.how refl
  where
    never : (x : Bool) → (x && false) ≡ false
    never true = refl
    never false = refl

    by : (m : Move) → a.how ≡ m → (is_there s a && begins_read_of (last_access p past) a && ends_overlapped (moves_of a past) m) ≡ ends_overlapped (moves_of a past) m
    by (EndRead v) is =
        let fits : not (is_end_of (opened p past) a) ≡ false = ap (λ m. is_end m && not (is_end_of (opened p past) a)) (sym is) ∙ h.fits in
        λ i. h.there i && ends_own p past a (ap is_of_read is) (not_not (is_end_of (opened p past) a) fits) i && ends_overlapped (moves_of a past) (EndRead v)
    by (BeginWrite v) is = never (is_there s a && begins_read_of (last_access p past) a)
    by EndWrite is = never (is_there s a && begins_read_of (last_access p past) a)
    by BeginRead is = never (is_there s a && begins_read_of (last_access p past) a)
    by (Settle v) is = never (is_there s a && begins_read_of (last_access p past) a)

pub overlaps_same : (s : Setup) (past : Past) (e : Entry) → Keeps s past e → overlaps_in s past e ≡ ends_overlapped_read past e
overlaps_same s past e kept = by e.access kept.access
  where
    by : (o : Option Access) → refusal_of_access s past (with_marks e.process o e.marks) ≡ None → overlaps_in s past (with_marks e.process o e.marks) ≡ ends_overlapped_read past (with_marks e.process o e.marks)
    by None none = refl
    by (Some a) none = own_read s e.process past a (allowed s e.process past a none)

-- Calls.

-- a process with an unfinished call is at work
abbrev IsAtCall : Bool → Stage → Type 0
IsAtCall calling at = calling ≡ true → is_at_work at ≡ true

-- whether a call continues after a mark, which may be its first mark
abbrev calling_after : Bool → Mark → Bool
calling_after calling (mark.Called c) = true
calling_after calling m = goes_on_after calling m

left_goes : (x : Stage) → is_at_work (stage_after x mark.Left) ≡ true
left_goes stage.Settling = refl
left_goes _ = refl

is_downs : (x : Stage) → is_down x ≡ true → is_at_work x ≡ false
is_downs stage.Down h = refl
is_downs _ h = absurd (true≢false (sym h))

call_marked : (s : Setup) (n : ℕ) (k : ProcessView) (m : Mark) (calling : Bool) → mark_refusal k m ≡ None → IsAtCall calling k.stage → IsAtCall (calling_after calling m) (marked s n k m).stage
call_marked s n k (mark.Called c) calling none at = λ h. refl
call_marked s n k (mark.Waiting t) calling none at = λ h. refl
call_marked s n k mark.Entered calling none at = λ h. refl
call_marked s n k (mark.Taken j r) calling none at = at
call_marked s n k mark.Left calling none at = λ h. left_goes k.stage
call_marked s n k (mark.Answered a) calling none at = λ h. absurd (true≢false (sym h))
call_marked s n k mark.Failed calling none at = λ h. refl
call_marked s n k (mark.Settled v) calling none at = at
call_marked s n k mark.Down calling none at = λ h. absurd (true≢false (sym h))
call_marked s n k mark.Withdrew calling none at = λ h. refl
call_marked s n k mark.Restarted calling none at = λ h. absurd (true≢false (sym (at h) ∙ is_downs k.stage (not_not (is_down k.stage) (none_if (not (is_down k.stage)) refusal.NotDown _ none))))

call_all : (s : Setup) (n : ℕ) (ms : List Mark) (k : ProcessView) (calling : Bool) → refusal_on s n k ms ≡ None → IsAtCall calling k.stage → IsAtCall (fold calling_after calling ms) (marked_all s n k ms).stage
call_all s n [] k calling none at = at
call_all s n (m ∷ ms) k calling none at = call_all s n ms (marked s n k m) (calling_after calling m) (rest_unrefused s n k m ms none) (call_marked s n k m calling (first_unrefused s n k m ms none) at)

-- whether p has a call after an entry of its own
uncalled : (calling : Bool) (ms : List Mark) → list_any is_called ms ≡ false → fold goes_on_after calling ms ≡ fold calling_after calling ms
uncalled calling [] none = refl
uncalled calling (mark.Called c ∷ ms) none = absurd (true≢false none)
uncalled calling (mark.Waiting t ∷ ms) none = uncalled calling ms none
uncalled calling (mark.Entered ∷ ms) none = uncalled calling ms none
uncalled calling (mark.Taken j r ∷ ms) none = uncalled calling ms none
uncalled calling (mark.Left ∷ ms) none = uncalled calling ms none
uncalled calling (mark.Answered a ∷ ms) none = uncalled false ms none
uncalled calling (mark.Failed ∷ ms) none = uncalled calling ms none
uncalled calling (mark.Settled v ∷ ms) none = uncalled calling ms none
uncalled calling (mark.Down ∷ ms) none = uncalled false ms none
uncalled calling (mark.Withdrew ∷ ms) none = uncalled calling ms none
uncalled calling (mark.Restarted ∷ ms) none = uncalled calling ms none

-- a mark that begins a call has to be the only mark of its entry
called_alone : (ms : List Mark) → list_any is_called ms ≡ true → list_any must_be_alone ms ≡ true
called_alone [] some = some
called_alone (mark.Called c ∷ ms) some = refl
called_alone (mark.Waiting t ∷ ms) some = called_alone ms some
called_alone (mark.Entered ∷ ms) some = called_alone ms some
called_alone (mark.Taken j r ∷ ms) some = called_alone ms some
called_alone (mark.Left ∷ ms) some = called_alone ms some
called_alone (mark.Answered a ∷ ms) some = called_alone ms some
called_alone (mark.Failed ∷ ms) some = refl
called_alone (mark.Settled v ∷ ms) some = called_alone ms some
called_alone (mark.Down ∷ ms) some = called_alone ms some
called_alone (mark.Withdrew ∷ ms) some = refl
called_alone (mark.Restarted ∷ ms) some = refl

-- a mark that calls
which : (m : Mark) → is_called m ≡ true → (c : Command) × (m ≡ mark.Called c)
which (mark.Called c) is = (c, refl)
which _ is = absurd (true≢false (sym is))

called_only : (o : Option Access) (p : ℕ) (ms : List Mark) → Orderly o p ms → list_any is_called ms ≡ true → (c : Command) × (o ≡ None) × (ms ≡ mark.Called c ∷ [])
called_only o p ms fine some =
    let one = one_alone o ms p (called_alone ms some) fine.apart in
    let call = which one.0 (sym (or_false (is_called one.0)) ∙ ap (list_any is_called) (sym one.2) ∙ some) in
    (call.0, one.1, one.2 ∙ ap (λ m. m ∷ []) call.1)

calling_on : (p : ℕ) (o : Option Access) (ms : List Mark) (past : Past) → Orderly o p ms → is_calling p (with_marks p o ms ∷ past) ≡ fold calling_after (is_calling p past) ms
calling_on p o ms past fine =
    ap (λ b. elim b as (λ _. Bool) [ false ↦ is_calling p past | true ↦ elim (list_any is_called ms) as (λ _. Bool) [ true ↦ true | false ↦ fold goes_on_after (is_calling p past) ms ] ]) (eq-eqb p p refl)
    ∙ go (list_any is_called ms) refl
  where
    go : (b : Bool) → list_any is_called ms ≡ b → elim b as (λ _. Bool) [ true ↦ true | false ↦ fold goes_on_after (is_calling p past) ms ] ≡ fold calling_after (is_calling p past) ms
    go false none = uncalled (is_calling p past) ms none
    go true some = ap (fold calling_after (is_calling p past)) (sym (called_only o p ms fine some).2)

at_accessed : (n : ℕ) (k : ProcessView) (o : Option Access) (calling : Bool) → IsAtCall calling k.stage → IsAtCall calling (accessed_by n k o).stage
at_accessed n k None calling at = at
at_accessed n k (Some a) calling at = at

all_at_call : (s : Setup) (past : Past) → AllKeep s past → (p : ℕ) → IsAtCall (is_calling p past) (process_view s p past).stage
all_at_call s [] all p = λ h. absurd (true≢false (sym h))
all_at_call s (e ∷ past) all p = go (cases_eq e.process p) (all_at_call s past all.1 p)
  where
    q : ℕ
    q = e.process

    mine : IsAtCall (is_calling q past) (process_view s q past).stage → IsAtCall (is_calling q (e ∷ past)) (process_view s q (e ∷ past)).stage
    mine before =
        let fine = orderly s past q e.access e.marks all.0.marks in
        let none = unrefused_on s past q e.access e.marks all.0.marks in
        subst (λ (k : ProcessView). IsAtCall (is_calling q (e ∷ past)) k.stage) (whole_applied s q past e.access e.marks fine.apart none)
        (subst (λ b. IsAtCall b (marked_all s (length past) (accessed_by (length past) (process_view s q past) e.access) e.marks).stage) (sym (calling_on q e.access e.marks past fine))
        (call_all s (length past) e.marks (accessed_by (length past) (process_view s q past) e.access) (is_calling q past) none (at_accessed (length past) (process_view s q past) e.access (is_calling q past) before)))

    go : (e.process ≡ p) ⊎ (e.process ≢ p) → IsAtCall (is_calling p past) (process_view s p past).stage → IsAtCall (is_calling p (e ∷ past)) (process_view s p (e ∷ past)).stage
    go (inl same) before = subst (λ r. IsAtCall (is_calling r (e ∷ past)) (process_view s r (e ∷ past)).stage) same (mine (subst (λ r. IsAtCall (is_calling r past) (process_view s r past).stage) (sym same) before))
    go (inr apart) before =
        let other = ne_eqb e.process p apart in
        subst (λ (k : ProcessView). IsAtCall (is_calling p (e ∷ past)) k.stage) (sym (process_view-other s p e past other))
        (subst (λ b. IsAtCall b (process_view s p past).stage) (sym (rw (other, is_calling) refl)) before)

rested : (x : Stage) → is_running x ≡ false → (is_settling x || is_down x) ≡ false → is_at_work x ≡ false
rested stage.Idle a b = refl
rested stage.Down a b = refl
rested stage.Settling a b = absurd (true≢false b)
rested _ a b = absurd (true≢false a)

-- so a process that calls has no unfinished call
pub calls_at_rest : (s : Setup) (past : Past) (e : Entry) → AllKeep s past → Keeps s past e → has is_called e ≡ true → is_calling e.process past ≡ false
calls_at_rest s past e all kept some = by (is_calling e.process past) (all_at_call s past all e.process)
  where
    q : ℕ
    q = e.process

    k : ProcessView
    k = process_view s q past

    only : (c : Command) × (e.access ≡ None) × (e.marks ≡ mark.Called c ∷ [])
    only = called_only e.access q e.marks (orderly s past q e.access e.marks kept.marks) some

    none : mark_refusal k (mark.Called only.0) ≡ None
    none = first_unrefused s (length past) k (mark.Called only.0) []
        ((λ i. refusal_on s (length past) (accessed_by (length past) k (sym only.1 i)) (sym only.2 i)) ∙ unrefused_on s past q e.access e.marks kept.marks)

    rests : is_at_work k.stage ≡ false
    rests = rested k.stage (none_if (is_running k.stage) refusal.Busy _ none) (none_if (is_settling k.stage || is_down k.stage) refusal.IsDown _ (none_else (is_running k.stage) refusal.Busy _ none))

    by : (b : Bool) → IsAtCall b k.stage → b ≡ false
    by false at = refl
    by true at = absurd (true≢false (sym (at refl) ∙ rests))

-- Its process exists.
pub exists : (s : Setup) (past : Past) (e : Entry) → Keeps s past e → nat_lt e.process s.processes ≡ true
exists s past e kept = let below = process_there s past e kept.access in grind (arith, nat_tests)
