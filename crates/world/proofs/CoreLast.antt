-- The access that a process made last is that of the newest entry, where it added this within a register access of its call.
use Rattle.std.proofs.Common.{◌≡◌, ◌<◌, ℕ, Bool, false, cond, List, [], ◌∷◌, None, Some, refl, sym, ap, subst, ◌∙◌, arith}
use Rattle.std.specs.Prelude.{slice_get}
use Rattle.plain_store.specs.{Command, Setup}
use Rattle.plain_store.specs.declared.Command.TheVariants.{Ask}
use Rattle.model.specs.safe_bit.{Move, read_value}
use Rattle.model.specs.safe_bit.declared.Move.TheVariants.{BeginWrite, EndWrite, BeginRead, EndRead, Settle}
use Rattle.model.specs.{Access, Call, Entry, Event, Past, Place, access_at, ended, ended_with, entry_of, enter, is_over, moves_of, opening_bit, part_after, past-induction, past_of, place_after, run_after, value_of, valued}
use Rattle.model.specs.Places.{bits_with}
use Rattle.model.proofs.Width.{IsGood, is_good}
use Rattle.laws.specs.{Doing, Rests, Runs, call, doing, runs}
use Rattle.laws.proofs.Frame.{Happens, a_call, a_withdrawal, a_failure, a_restart, a_step, a_closing}
use Rattle.laws.proofs.FrameEvents.{accepted}
use Rattle.process.specs.{ProcessState, last_access, remaining_at, remaining_of, process_after}
use Rattle.process.proofs.LastAccess.{last-goes}
use Rattle.process.proofs.Left.{remaining-some, live-by, within}
use Rattle.world.specs.{CoreState, InEachCorePast, IsNewestAccess, Seat}
use Rattle.world.proofs.CoreLooks.{none-shown, process-shown}

-- the number of accesses left in a register access, by the work of its process
abbrev left_by : Setup → ℕ → Doing → ℕ
left_by s p d = remaining_at (record { setup = s; process = p; doing = d; command = Ask; number = 0 })

-- a move whose value is known keeps this value
ended-again : (w : Bool) (m : Move) → ended (value_of (ended w m)) m ≡ ended w m
ended-again w (BeginWrite v) = refl
ended-again w EndWrite = refl
ended-again w BeginRead = refl
ended-again w (EndRead v) = refl
ended-again w (Settle v) = refl

valued-again : (w : Bool) (a : Access) → ended_with (value_of (ended_with w a).how) a ≡ ended_with w a
valued-again w a = λ i. record { owner = a.owner; field = a.field; bit = a.bit; reader = a.reader; how = ended-again w a.how i }

-- the case of a call that runs
run-last : (s : Setup) (past : Past) (p : ℕ) (command : Command) (number : ℕ) (at : Place) (flick : Bool) (d' : Doing) →
    is_over at.part ≡ false → 0 < left_by s p (Runs command number at) →
    (let a : Access = valued s past flick (access_at (call s p command number) at.part at.run) in d' ≡ runs command number (place_after (call s p command number) at (value_of a.how)) → last_access s p d' ≡ Some a)
run-last s past p command number at flick d' live remaining then =
    let c : Call = call s p command number in
    let next : Access = access_at c at.part at.run in
    let a : Access = valued s past flick next in
    let v : Bool = value_of a.how in
    let some : 0 < remaining_of c at.part at.run = (live-by (is_over at.part) (remaining_of c at.part at.run) remaining).1 in
    let inside = within c at.part at.run v (remaining-some c at.part at.run some).0 in
    let after : Place = record { part = at.part; run = run_after c at.part at.run v } in
    ap (last_access s p) then
    ∙ ap (λ b. last_access s p (runs command number (cond b (enter c (part_after c at.part (bits_with at.run v))) after))) inside.last
    ∙ ap (λ b. last_access s p (cond b Rests (Runs command number after))) live
    ∙ last-goes c at.part at.run v
    ∙ ap Some (valued-again (read_value (opening_bit s next) (moves_of next past) flick) next)

-- each entry of a process that has accesses left in its register access
step-last : (s : Setup) (past : Past) (p : ℕ) (e : Entry) (a : Access) (d d' : Doing) → Happens s past p e d d' → e.access ≡ Some a → 0 < left_by s p d → last_access s p d' ≡ Some a
step-last s past p e a d d' (a_call command number does access marks then) is remaining = let none : Some a ≡ None = sym is ∙ access in absurd (cc)
step-last s past p e a d d' (a_withdrawal command number t w ws run does access marks then) is remaining = let none : Some a ≡ None = sym is ∙ access in absurd (cc)
step-last s past p e a d d' (a_failure command number may access marks then) is remaining = let none : Some a ≡ None = sym is ∙ access in absurd (cc)
step-last s past p e a d d' (a_restart does access marks then) is remaining = let none : Some a ≡ None = sym is ∙ access in absurd (cc)
step-last s past p e a d d' (a_step command number at b flick does live access valued_is marks then) is remaining =
    let c : Call = call s p command number in
    let same : Some b ≡ Some a = sym access ∙ is in
    let some : 0 < left_by s p (Runs command number at) = subst (λ x. 0 < left_by s p x) does remaining in
    run-last s past p command number at flick d' live some (then ∙ ap (λ (x : Access). runs command number (place_after c at (value_of x.how))) valued_is)
    ∙ ap Some (sym valued_is) ∙ same
step-last s past p e a d d' (a_closing command number at flick n does next access valued_is marks then) is remaining =
    let none : 0 < 0 = subst (λ x. 0 < left_by s p x) does remaining in
    absurd (omega (arith, none))

-- the newest entry of a process that was within a register access before it
abbrev ReportsNewest : Setup → Past → Type 0
ReportsNewest s past = (p : ℕ) (a : Access) (before : Past) → past ≡ record { process = p; access = Some a; marks = [] } ∷ before → 0 < remaining_at (process_after s before p) → last_access s p (doing s p past) ≡ Some a

newest-more : (s : Setup) → IsGood s → (events : List Event) (what : Event) (e : Entry) → entry_of s (past_of s events) what ≡ Some e → ReportsNewest s (e ∷ past_of s events)
newest-more s g events what e h p a before is remaining =
    let past : Past = past_of s events in
    let new : e ≡ record { process = p; access = Some a; marks = [] } = cc in
    let old : past ≡ before = cc in
    let own : e.process ≡ p = ap (λ (x : Entry). x.process) new in
    let access : e.access ≡ Some a = ap (λ (x : Entry). x.access) new in
    let happens : Happens s past p e (doing s p past) (doing s p (e ∷ past)) = subst (λ q. Happens s past q e (doing s q past) (doing s q (e ∷ past))) own (accepted s g events what e h).happens in
    step-last s past p e a (doing s p past) (doing s p (e ∷ past)) happens access (subst (λ (x : Past). 0 < remaining_at (process_after s x p)) (sym old) remaining)

newest : (s : Setup) → IsGood s → (events : List Event) → ReportsNewest s (past_of s events)
newest s g events = past-induction ReportsNewest s (λ p a before is remaining. absurd (cc)) (λ events what e h so. newest-more s g events what e h) events

-- the case of a process that exists
pub last-there : (c : CoreState) (p : ℕ) (seat : Seat) → slice_get c.seats p ≡ Some seat → InEachCorePast c (IsNewestAccess p (last_access seat.process.setup seat.process.process seat.process.doing))
last-there c p seat there taken events shows a before is remaining =
    ap (λ (x : ProcessState). last_access x.setup x.process x.doing) (process-shown c p seat there taken events shows)
    ∙ newest c.setup (is_good c.setup shows.good) events p a before is remaining

-- a process that does not exist adds no entry
pub last-beyond : (c : CoreState) (p : ℕ) → slice_get c.seats p ≡ None → InEachCorePast c (IsNewestAccess p None)
last-beyond c p none taken events shows a before is remaining =
    sym (ap (last_access c.setup p) (none-shown c p none taken events shows))
    ∙ newest c.setup (is_good c.setup shows.good) events p a before is remaining
