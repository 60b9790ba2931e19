-- The next access of a process, by its place.
use Rattle.std.specs.Prelude.{◌≡◌, refl, ℕ, Bool, true, false, cond, List, [], ◌∷◌, length, map, Option, None, Some, option_map}
use Rattle.std.proofs.Common.{sym, ◌∙◌, ap, true≢false}
use Rattle.safe_bit.specs.{read_value}
use Rattle.model.specs.{Access, Call, Entry, Event, IsFollowed, Mark, Next, Past, Place, ReadSoFar, Stage, access_at, accesses_of, ended, ended_with, entry_at, entry_made, history, is_over, is_running, last_call, last_start, local_program, marks_at, marks_of, moves_of, next_access, nth, opening_bit, own, past_of, place_of, placed, program, program_from, read_so_far, reads_of, scripted, since, stage, stage_at, starts, stepped, value_of, valued, with_access}
use Rattle.plain_store.specs.{Setup}
use Rattle.model.specs.declared.marks.Mark.TheVariants.{Called, Failed, Withdrew}
use Rattle.model.proofs.Follow as follow
use Rattle.model.proofs.Follow.{Spot, Corresponds, spot_of, corresponds, not_over}
use Rattle.model.proofs.Local.{View, Running, rests, down, runs, withdraws, fails, made_too}
use Rattle.model.proofs.Marking.{marks_are, spot_marks}
use Rattle.model.proofs.Ties.{Tied, tied-next, tied-marks, tied-stage, end-with, follows-tied}
use Rattle.model.proofs.Total.{runs_on}
use Rattle.model.proofs.Width.{IsGood}
use Rattle.model.proofs.World.{view}

-- the access that the script has next is that of the place
pub next-tied : (c : Call) → IsGood c.setup → (r : ReadSoFar) (len : ℕ) (spot : Spot) (at : Place) (n : Next) → Corresponds c r len spot → Tied c at spot → scripted c r.finished len ≡ Some n →
    (is_over at.part ≡ false) × (n.access ≡ access_at c at.part at.run)
next-tied c g r len spot at n st t h =
    let o : is_over at.part ≡ false = ap is_over (sym t.part) ∙ not_over c r len spot n st h in
    let e : Some n.access ≡ Some (access_at c at.part at.run) = sym (follow.next_access c r len spot n st h) ∙ tied-next c g at spot o t in
    (o, cc)

-- the marks that the script has next are those of the place
pub marks-tied : (c : Call) → IsGood c.setup → (r : ReadSoFar) (len : ℕ) (spot : Spot) (at : Place) (n : Next) (v : Bool) → Corresponds c r len spot → Tied c at spot → scripted c r.finished len ≡ Some n →
    marks_at len (local_program c (with_access c.setup (Some (ended_with v n.access)) r).finished) ≡ marks_of c at (value_of (ended v n.access.how))
marks-tied c g r len spot at n v st t h =
    ap {A = Option Next} (λ o. elim o as (λ _. List Mark) [ None ↦ [] | Some q ↦ q.marks ]) (made_too c r len spot n v st h).1
    ∙ marks_are c r len spot n (made_too c r len spot n v st h).0 v st h (made_too c r len spot n v st h).1
    ∙ ap (λ x. spot_marks c spot (ended_with v x)) is
    ∙ ap (spot_marks c spot) (end-with v (access_at c at.part at.run))
    ∙ tied-marks c g at spot (value_of (ended v (access_at c at.part at.run).how)) (next-tied c g r len spot at n st t h).0 t
    ∙ ap (λ (x : Access). marks_of c at (value_of (ended v x.how))) (sym is)
  where
    is : n.access ≡ access_at c at.part at.run
    is = (next-tied c g r len spot at n st t h).1

-- for every call and all its accesses: the machine's next access is the script's
pub place-next : (c : Call) → IsGood c.setup → (accesses : List Access) → IsFollowed c accesses →
    option_map (λ (n : Next). n.access) (scripted c (reads_of c accesses).finished (length accesses)) ≡ next_access c (place_of c accesses)
place-next c g accesses f = go (is_over at.part) refl
  where
    at : Place
    at = place_of c accesses

    spot : Spot
    spot = spot_of c accesses

    r : ReadSoFar
    r = reads_of c accesses

    st : Corresponds c r (length accesses) spot
    st = corresponds c g accesses f

    t : Tied c at spot
    t = follows-tied c g accesses f

    go : (b : Bool) → is_over at.part ≡ b → option_map (λ (n : Next). n.access) (scripted c r.finished (length accesses)) ≡ cond b None (Some (access_at c at.part at.run))
    go true o = none (scripted c r.finished (length accesses)) refl
      where
        none : (x : Option Next) → scripted c r.finished (length accesses) ≡ x → option_map (λ (n : Next). n.access) x ≡ None
        none None h = refl
        none (Some n) h = absurd (true≢false (sym o ∙ (next-tied c g r (length accesses) spot at n st t h).0))
    go false o =
        let n = runs_on c r (length accesses) spot st (ap is_over t.part ∙ o) in
        ap (option_map (λ (n : Next). n.access)) n.1 ∙ ap Some (next-tied c g r (length accesses) spot at n.0 st t n.1).1

-- the script's marks are those of the place, for all accesses of a call
pub place-marks : (c : Call) → IsGood c.setup → (accesses : List Access) → IsFollowed c accesses → (n : Next) (v : Bool) → scripted c (reads_of c accesses).finished (length accesses) ≡ Some n →
    marks_at (length accesses) (local_program c (reads_of c (ended_with v n.access ∷ accesses)).finished) ≡ marks_of c (place_of c accesses) (value_of (ended v n.access.how))
place-marks c g accesses f n v h = marks-tied c g (reads_of c accesses) (length accesses) (spot_of c accesses) (place_of c accesses) n v (corresponds c g accesses f) (follows-tied c g accesses f) h

-- a process that runs goes on from its place
pub running_next : (s : Setup) → IsGood s → (p : ℕ) (past : Past) (st : Stage) (flick : Bool) → (r : Running s p (own p past) st) →
    stepped s past p flick ≡ Some (entry_at s past p flick (last_call s p (own p past)) (place_of (last_call s p (own p past)) (accesses_of (since starts (own p past)))))
running_next s g p past st flick r = ap (option_map (entry_made s past p flick)) prog ∙ ap Some made
  where
    mine : Past
    mine = own p past

    c : Call
    c = last_call s p mine

    len : ℕ
    len = length (since starts mine)

    at : Place
    at = place_of c (accesses_of (since starts mine))

    on : (n : Next) × (scripted c (read_so_far s (since starts mine)).finished len ≡ Some n)
    on = runs_on c (read_so_far s (since starts mine)) len r.at r.corresponds r.not_over

    n : Next
    n = on.0

    is : n.access ≡ access_at c at.part at.run
    is = (next-tied c g (read_so_far s (since starts mine)) len r.at at n r.corresponds r.tied on.1).1

    prog : nth len (program s p flick mine) ≡ Some n
    prog = ap (λ m. nth len (program_from s p flick mine m)) r.begun ∙ ap (λ l. nth len (local_program c (read_so_far s l).finished)) r.same ∙ on.1

    v : Bool
    v = read_value (opening_bit s n.access) (moves_of n.access past) flick

    bare : Entry
    bare = record { process = p; access = Some (ended_with v n.access); marks = [] }

    marks : marks_at len (program s p flick (bare ∷ mine)) ≡ marks_of c at (value_of (ended v n.access.how))
    marks = ap (λ o. marks_at len (program_from s p flick (bare ∷ mine) o)) r.begun
        ∙ ap (λ l. marks_at len (local_program c (with_access s (Some (ended_with v n.access)) (read_so_far s l)).finished)) r.same
        ∙ marks-tied c g (read_so_far s (since starts mine)) len r.at at n v r.corresponds r.tied on.1

    made : entry_made s past p flick n ≡ entry_at s past p flick c at
    made = (λ i. record { process = p; access = Some (valued s past flick n.access); marks = map (placed (length (history s past))) (marks i) })
        ∙ (λ i. record { process = p; access = Some (valued s past flick (is i)); marks = map (placed (length (history s past))) (marks_of c at (value_of (valued s past flick (is i)).how)) })

-- in every record a process that runs its call is at its place
pub at_place : (s : Setup) → IsGood s → (events : List Event) (p : ℕ) (command : Rattle.plain_store.specs.declared.Command.Command) →
    last_start (own p (past_of s events)) ≡ Some (Called command) → is_running (stage p (past_of s events)) ≡ true →
    Running s p (own p (past_of s events)) (stage p (past_of s events))
at_place s g events p command b run = go (view s g events p)
  where
    past : Past
    past = past_of s events

    go : View s p (own p past) (stage p past) → Running s p (own p past) (stage p past)
    go (rests i) = absurd (true≢false (sym run ∙ ap is_running i))
    go (down i) = absurd (true≢false (sym run ∙ ap is_running i))
    go (runs r) = r
    go (withdraws w i) = let f : Some (Called command) ≡ Some Withdrew = sym b ∙ w in cc
    go (fails w i) = let f : Some (Called command) ≡ Some Failed = sym b ∙ w in cc

pub running_corresponds : (s : Setup) → IsGood s → (events : List Event) (p : ℕ) (command : Rattle.plain_store.specs.declared.Command.Command)
    → let past : Past = past_of s events in
    let c : Call = last_call s p (own p past) in
    last_start (own p past) ≡ Some (Called command) → is_running (stage p past) ≡ true →
    (is_over (place_of c (accesses_of (since starts (own p past)))).part ≡ false)
    × (stage p past ≡ stage_at (place_of c (accesses_of (since starts (own p past)))))
    × ((flick : Bool) → stepped s past p flick ≡ Some (entry_at s past p flick c (place_of c (accesses_of (since starts (own p past))))))
running_corresponds s g events p command b run =
    let past : Past = past_of s events in
    let r : Running s p (own p past) (stage p past) = at_place s g events p command b run in
    let c : Call = last_call s p (own p past) in
    let o : is_over (place_of c (accesses_of (since starts (own p past)))).part ≡ false = ap is_over (sym r.tied.part) ∙ r.not_over in
    (o, r.stage ∙ tied-stage c g (place_of c (accesses_of (since starts (own p past)))) r.at o r.tied, λ flick. running_next s g p past (stage p past) flick r)
