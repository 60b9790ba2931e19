-- A process that is within a register access has not failed in its call.
use Rattle.std.proofs.Common.{◌≡◌, ◌<◌, ◌==◌, ℕ, Bool, true, false, cond, List, [], ◌∷◌, length, Option, None, Some, refl, ap, sym, ◌∙◌, arith}
use Rattle.std.specs.List.{list_any}
use Rattle.plain_store.specs.{Command, Setup}
use Rattle.model.specs.{Access, Entry, Mark, Past, first_of, has, is_called, is_failed, number_in_call, own, start_in, starts}
use Rattle.model.specs.declared.marks.Mark.TheVariants.{Called, Waiting, Entered, Taken, Left, Answered, Failed, Settled, Down, Withdrew, Restarted}
use Rattle.model.specs.Closings.{Closing, Withdraws, Settles, Frees, Lowers, Quit, Ended}
use Rattle.world.specs.laws.{Doing, Rests, Lies, Runs, Closes, closes, does_after, doing, goes_on}
use Rattle.world.specs.process.{ProcessState, remaining_at, process_after}

-- The mark with which a program begins.

start_starts : (marks : List Mark) (m : Mark) → start_in marks ≡ Some m → starts m ≡ true
start_starts [] m is = absurd (cc)
start_starts (k ∷ marks) m is = by (starts k) refl is (start_starts marks m)
  where
    by : (b : Bool) → starts k ≡ b → cond b (Some k) (start_in marks) ≡ Some m → (start_in marks ≡ Some m → starts m ≡ true) → starts m ≡ true
    by true begins same rest = let is_it : k ≡ m = cc in ap starts (sym is_it) ∙ begins
    by false begins none rest = rest none

none_failed : (marks : List Mark) → start_in marks ≡ None → list_any is_failed marks ≡ false
none_failed [] is = refl
none_failed (Called c ∷ marks) is = absurd (cc)
none_failed (Withdrew ∷ marks) is = absurd (cc)
none_failed (Failed ∷ marks) is = absurd (cc)
none_failed (Waiting t ∷ marks) is = none_failed marks is
none_failed (Entered ∷ marks) is = none_failed marks is
none_failed (Taken k r ∷ marks) is = none_failed marks is
none_failed (Left ∷ marks) is = none_failed marks is
none_failed (Answered a ∷ marks) is = none_failed marks is
none_failed (Settled v ∷ marks) is = none_failed marks is
none_failed (Down ∷ marks) is = none_failed marks is
none_failed (Restarted ∷ marks) is = none_failed marks is

some_called : (marks : List Mark) (c : Command) → start_in marks ≡ Some (Called c) → list_any is_called marks ≡ true
some_called [] c is = absurd (cc)
some_called (Called d ∷ marks) c is = refl
some_called (Withdrew ∷ marks) c is = absurd (cc)
some_called (Failed ∷ marks) c is = absurd (cc)
some_called (Waiting t ∷ marks) c is = some_called marks c is
some_called (Entered ∷ marks) c is = some_called marks c is
some_called (Taken k r ∷ marks) c is = some_called marks c is
some_called (Left ∷ marks) c is = some_called marks c is
some_called (Answered a ∷ marks) c is = some_called marks c is
some_called (Settled v ∷ marks) c is = some_called marks c is
some_called (Down ∷ marks) c is = some_called marks c is
some_called (Restarted ∷ marks) c is = some_called marks c is

-- A process that runs its call.

abbrev pub runs_call : Doing → Bool
runs_call Rests = false
runs_call Lies = false
runs_call (Runs command number at) = true
runs_call (Closes command number at) = false

closes_never : (command : Command) (number : ℕ) (at : Closing) → runs_call (closes command number at) ≡ true → ⊥
closes_never command number (Withdraws w) is = absurd (cc)
closes_never command number (Settles f bit begun taken inside t) is = absurd (cc)
closes_never command number (Frees inside w) is = absurd (cc)
closes_never command number (Lowers w) is = absurd (cc)
closes_never command number Quit is = absurd (cc)
closes_never command number Ended is = absurd (cc)

ran_before : (s : Setup) (p : ℕ) (e : Entry) (o : Option Access) (d : Doing) → runs_call (goes_on s p e o d) ≡ true → runs_call d ≡ true
ran_before s p e None d is = absurd (cc)
ran_before s p e (Some a) Rests is = absurd (cc)
ran_before s p e (Some a) Lies is = absurd (cc)
ran_before s p e (Some a) (Runs command number at) is = refl
ran_before s p e (Some a) (Closes command number at) is = absurd (closes_never command number _ is)

module _ (s : Setup) (p : ℕ) (e : Entry) (past : Past) (before : runs_call (doing s p past) ≡ true → number_in_call p (has is_failed) past ≡ None) where
  abbrev number_with : (called failed : Bool) → Option ℕ
  number_with called failed = elim called as (λ _. Option ℕ) [
    | true ↦ None
    | false ↦ first_of (number_in_call p (has is_failed) past) (elim failed as (λ _. Option ℕ) [ true ↦ Some (length past) | false ↦ None ])
  ]

  none_with : (called : Bool) → number_in_call p (has is_failed) past ≡ None → number_with called false ≡ None
  none_with true none = refl
  none_with false none = ap (λ o. first_of o None) none

  mine : (o : Option Mark) → start_in e.marks ≡ o → runs_call (does_after s p (own p past) e o (doing s p past)) ≡ true → number_with (has is_called e) (has is_failed e) ≡ None
  mine None none is = ap (number_with (has is_called e)) (none_failed e.marks none) ∙ none_with (has is_called e) (before (ran_before s p e e.access (doing s p past) is))
  mine (Some (Called c)) some is = ap (λ b. number_with b (has is_failed e)) (some_called e.marks c some)
  mine (Some Withdrew) some is = absurd (cc)
  mine (Some Failed) some is = absurd (cc)
  mine (Some (Waiting t)) some is = absurd (let no = start_starts e.marks (Waiting t) some in cc)
  mine (Some Entered) some is = absurd (let no = start_starts e.marks Entered some in cc)
  mine (Some (Taken k r)) some is = absurd (let no = start_starts e.marks (Taken k r) some in cc)
  mine (Some Left) some is = absurd (let no = start_starts e.marks Left some in cc)
  mine (Some (Answered a)) some is = absurd (let no = start_starts e.marks (Answered a) some in cc)
  mine (Some (Settled v)) some is = absurd (let no = start_starts e.marks (Settled v) some in cc)
  mine (Some Down) some is = absurd (let no = start_starts e.marks Down some in cc)
  mine (Some Restarted) some is = absurd (let no = start_starts e.marks Restarted some in cc)

  whoever : (is_mine : Bool) → runs_call (cond is_mine (does_after s p (own p past) e (start_in e.marks) (doing s p past)) (doing s p past)) ≡ true →
      (elim is_mine as (λ _. Option ℕ) [ false ↦ number_in_call p (has is_failed) past | true ↦ number_with (has is_called e) (has is_failed e) ]) ≡ None
  whoever false is = before is
  whoever true is = mine (start_in e.marks) refl is

pub running_unfailed : (s : Setup) (p : ℕ) (past : Past) → runs_call (doing s p past) ≡ true → number_in_call p (has is_failed) past ≡ None
running_unfailed s p [] is = refl
running_unfailed s p (e ∷ past) is = whoever s p e past (running_unfailed s p past) (e.process == p) is

left_runs : (now : ProcessState) (d : Doing) → 0 < remaining_at (record now { doing = d }) → runs_call d ≡ true
left_runs now Rests some = absurd (omega (arith, some))
left_runs now Lies some = absurd (omega (arith, some))
left_runs now (Runs command number at) some = refl
left_runs now (Closes command number at) some = absurd (omega (arith, some))

pub within_unfailed : (s : Setup) (p : ℕ) (past : Past) → 0 < remaining_at (process_after s past p) → number_in_call p (has is_failed) past ≡ None
within_unfailed s p past some = running_unfailed s p past (left_runs (process_after s past p) (doing s p past) some)
