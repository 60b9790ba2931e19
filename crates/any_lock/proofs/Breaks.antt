-- The meaning of the tests of the laws.
use Rattle.std.proofs.Common.{◌≡◌, ℕ, ◌<◌, Bool, true, false, not, ◌&&◌, List, [], ◌∷◌, Option, None, Some, is_some, refl, sym, ap, ◌∙◌, subst, true≢false}
use Rattle.std.specs.Prelude.{nat_lt, if◌then◌else◌}
use Rattle.std.proofs.lemmas.Bool.{and_parts, ltb-true}
use Rattle.model.specs.safe_bit.{Move, before_read, is_overlapped, last_written}
use Rattle.model.specs.safe_bit.declared.Move.TheVariants as move
use Rattle.plain_store.specs.{Setup}
use Rattle.model.specs.{Access, Entry, Past, begins_read, moves_of, opening_bit, width}
use Rattle.safe_monitor.specs.{IsOfThere, KeepsSafe, MatchBool}
use Rattle.any_lock.specs.{AccessRefusal, access_refusal, breaks_access, breaks_history, breaks_marks, breaks_overtaken, breaks_safe, breaks_together, broken_inside, broken_later, ends_wrongly, first_broken, first_that, is_there, refusal_of_access, refusal_of_marks, same_truth, process_view}
use Rattle.lock_stages.proofs.Lowest.{unsome}
use Rattle.any_lock.specs.declared.refusals.AccessRefusal.TheVariants as access
use Rattle.any_lock.specs.declared.any_lock_law.AnyLockLaw.TheVariants as law

-- Tests of which none holds.

pub none_here : {R : Type 0} (b : Bool) (r : R) (tests : List (Bool × R)) → first_that ((b, r) ∷ tests) ≡ None → b ≡ false
none_here true r tests h = cc
none_here false r tests h = refl

pub none_later : {R : Type 0} (b : Bool) (r : R) (tests : List (Bool × R)) → first_that ((b, r) ∷ tests) ≡ None → first_that tests ≡ None
none_later true r tests h = cc
none_later false r tests h = h

not_false : (b : Bool) → not b ≡ false → b ≡ true
not_false true h = refl
not_false false h = sym h

-- Processes and bits that exist.

-- a test is false if its refusal is not given
pub none_if : {R : Type 0} (b : Bool) (r : R) (rest : Option R) → (if b then Some r else rest) ≡ None → b ≡ false
none_if true r rest h = cc
none_if false r rest h = refl

pub none_else : {R : Type 0} (b : Bool) (r : R) (rest : Option R) → (if b then Some r else rest) ≡ None → rest ≡ None
none_else true r rest h = cc
none_else false r rest h = h

process_of : (s : Setup) (past : Past) (p : ℕ) (o : Option Access) (e : Entry) → e ≡ record { process = p; access = o; marks = e.marks } → refusal_of_access s past e ≡ None → not (nat_lt p s.processes) ≡ false
process_of s past p None e is none = let h : refusal_of_access s past (record { process = p; access = None; marks = e.marks }) ≡ None = subst (λ (x : Entry). refusal_of_access s past x ≡ None) is none in
    none_if (not (nat_lt p s.processes)) access.NoProcess _ h
process_of s past p (Some a) e is none = let h : refusal_of_access s past (record { process = p; access = Some a; marks = e.marks }) ≡ None = subst (λ (x : Entry). refusal_of_access s past x ≡ None) is none in
    none_if (not (nat_lt p s.processes)) access.NoProcess _ h

-- an entry whose access is not refused is of an existing process
pub process_there : (s : Setup) (past : Past) (e : Entry) → refusal_of_access s past e ≡ None → e.process < s.processes
process_there s past e none = ltb-true e.process s.processes (not_false (nat_lt e.process s.processes) (process_of s past e.process e.access e refl none))

-- an access that is not refused is to an existing bit
pub access_there : (s : Setup) (past : Past) (e : Entry) → refusal_of_access s past e ≡ None → IsOfThere s e
access_there s past e none a is =
    let h : access_refusal s e.process (process_view s e.process past) a ≡ None = subst (λ (o : Option Access). refusal_of_access s past (record { process = e.process; access = o; marks = e.marks }) ≡ None) is none in
    let here : not (is_there s a) ≡ false = none_if (not (is_there s a)) access.NoBit _ (none_else (not (nat_lt e.process s.processes)) access.NoProcess _ h) in
    let parts = and_parts (nat_lt a.owner s.processes && nat_lt a.reader s.processes) (nat_lt a.bit (width s a.field)) (not_false (is_there s a) here) in
    let both = and_parts (nat_lt a.owner s.processes) (nat_lt a.reader s.processes) parts.0 in
    record { owner = ltb-true a.owner s.processes both.0; reader = ltb-true a.reader s.processes both.1; bit = ltb-true a.bit (width s a.field) parts.1 }

-- The law of reads, as a relation and as a test.

same : (v w : Bool) → same_truth v w ≡ true → v ≡ w
same true true h = refl
same true false h = sym h
same false true h = h
same false false h = refl

same_self : (v : Bool) → same_truth v v ≡ true
same_self true = refl
same_self false = refl

pub kept_by : (s : Setup) (past : Past) (e : Entry) → breaks_safe s past e ≡ false → KeepsSafe s past e
kept_by s past e unbroken a v acc how begins calm =
    let moves = moves_of a past in
    let opens = opening_bit s a in
    let h : ends_wrongly (opening_bit s a) (moves_of a past) (move.EndRead v) ≡ false = subst (λ m. ends_wrongly (opening_bit s a) (moves_of a past) m ≡ false) how
    (subst (λ (o : Option Access). breaks_safe s past (record { process = e.process; access = o; marks = e.marks }) ≡ false) acc unbroken) in
    same v (last_written (opening_bit s a) (before_read (moves_of a past)))
    (go (begins_read (moves_of a past)) (is_overlapped (moves_of a past)) (same_truth v (last_written (opening_bit s a) (before_read (moves_of a past)))) begins calm h)
  where
    go : (b o t : Bool) → b ≡ true → o ≡ false → (b && not o && not t) ≡ false → t ≡ true
    go true false true b o h = refl
    go true false false b o h = sym h
    go true true t b o h = absurd (true≢false o)
    go false o t b c h = absurd (true≢false (sym b))

pub broken_by : (s : Setup) (past : Past) (e : Entry) → KeepsSafe s past e → breaks_safe s past e ≡ false
broken_by s past e keeps = by e.access refl
  where
    ends : (a : Access) → e.access ≡ Some a → (m : Move) → a.how ≡ m → ends_wrongly (opening_bit s a) (moves_of a past) m ≡ false
    ends a acc (move.EndRead v) how = go (begins_read (moves_of a past)) refl (is_overlapped (moves_of a past)) refl
      where
        go : (b : Bool) → begins_read (moves_of a past) ≡ b → (o : Bool) → is_overlapped (moves_of a past) ≡ o →
            (begins_read (moves_of a past) && not (is_overlapped (moves_of a past)) && not (same_truth v (last_written (opening_bit s a) (before_read (moves_of a past))))) ≡ false
        go false b o c = rw b refl
        go true b true c = rw (b, c) refl
        go true b false c = let t : v ≡ last_written (opening_bit s a) (before_read (moves_of a past)) = keeps a v acc how b c in
            rw (b, c) (ap (λ x. not (same_truth v x)) (sym t) ∙ ap not (same_self v))
    ends a acc (move.BeginWrite v) how = refl
    ends a acc move.EndWrite how = refl
    ends a acc move.BeginRead how = refl
    ends a acc (move.Settle v) how = refl

    by : (o : Option Access) → e.access ≡ o → elim o as (λ _. Bool) [ None ↦ false | Some a ↦ ends_wrongly (opening_bit s a) (moves_of a past) a.how ] ≡ false
    by None acc = refl
    by (Some a) acc = ends a acc a.how refl

-- by the result of a monitor
pub reported_by : (s : Setup) (past : Past) (e : Entry) (kept : Bool) → MatchBool kept (KeepsSafe s past e) (KeepsSafe s past e → ⊥) → breaks_safe s past e ≡ not kept
reported_by s past e true keeps = broken_by s past e keeps
reported_by s past e false breaks = go (breaks_safe s past e) refl
  where
    go : (b : Bool) → breaks_safe s past e ≡ b → breaks_safe s past e ≡ true
    go true h = h
    go false h = absurd (breaks (kept_by s past e h))

-- The first law that an entry breaks.

pub at_access : (s : Setup) (past : Past) (e : Entry) (r : AccessRefusal) → refusal_of_access s past e ≡ Some r → broken_later s past e ≡ Some law.Access
at_access s past e r h = let b : breaks_access s past e ≡ true = ap is_some h in rw b refl

pub at_inside : (s : Setup) (past : Past) (e : Entry) → refusal_of_access s past e ≡ None → refusal_of_marks s past e ≡ None → broken_later s past e ≡ broken_inside s past e
at_inside s past e h k = let a : breaks_access s past e ≡ false = ap is_some h in let b : breaks_marks s past e ≡ false = ap is_some k in rw (a, b) refl

-- an entry that breaks none has an access that is not refused
pub unbroken : (s : Setup) (past : Past) (e : Entry) → first_broken s past e ≡ None → (breaks_safe s past e ≡ false) × (broken_later s past e ≡ None)
unbroken s past e h = (none_if (breaks_safe s past e) law.Safe (broken_later s past e) h, none_else (breaks_safe s past e) law.Safe (broken_later s past e) h)

pub unrefused : (s : Setup) (past : Past) (e : Entry) → broken_later s past e ≡ None → refusal_of_access s past e ≡ None
unrefused s past e h = unsome (refusal_of_access s past e) (none_if (breaks_access s past e) law.Access _ h)

pub inside_is : (s : Setup) (past : Past) (e : Entry) (a b c : Bool) → breaks_together s past e ≡ a → breaks_overtaken s past e ≡ b → breaks_history s past e ≡ c →
    broken_inside s past e ≡ first_that ((a, law.Together) ∷ (b, law.Overtaken) ∷ (c, law.History) ∷ [])
inside_is s past e a b c x y z = λ i. first_that ((x i, law.Together) ∷ (y i, law.Overtaken) ∷ (z i, law.History) ∷ [])
