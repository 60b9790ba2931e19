-- A process within a register access of its call: the number of accesses left, one step alone, and that none of these accesses ends the read of a number.
use Rattle.std.specs.Prelude.{nat_lt}
use Rattle.choices.specs.{FlickState, flick_of}
use Rattle.std.proofs.Common.{cond, ◌≡◌, ℕ, ◌+◌, ◌<◌, Bool, true, false, if◌then◌else◌, List, Some, refl, ap, sym, subst, ◌∙◌, arith}
use Rattle.plain_store.specs.{Setup}
use Rattle.model.specs.safe_bit.{Move}
use Rattle.model.specs.safe_bit.declared.Move.TheVariants.{BeginWrite, EndWrite, BeginRead, EndRead, Settle}
use Rattle.model.specs.{Access, Call, Entry, Event, Part, Past, Reading, Run, Writing, access_at, ended, entry_of, is_over, past_of, valued, width}
use Rattle.model.specs.declared.events.Event.TheVariants.{Step}
use Rattle.model.proofs.Width.{IsGood}
use Rattle.laws.specs.{Closes, Doing, Lies, Rests, Runs, call, doing, next_of}
use Rattle.laws.proofs.Steps.{StepIs, step_is}
use Rattle.process.specs.{ProcessState, remaining_at, remaining_of, process_after, rest_of}
use Rattle.process.proofs.Left.{remaining-some, live-by}
use Rattle.world.specs.{MakesQuietly, Seat, remaining_in}
use Rattle.world.specs.Walks.{Walks}
use Rattle.world.specs.Shows.{Shows, WorldState}
use Rattle.world.proofs.WorldOpen.{seat-remaining, seat-shown, seat-there}

-- HOW MANY ARE LEFT

-- the number of accesses left is that of the past
pub remaining-shown : (w : WorldState) (events : List Event) (p : ℕ) → Shows w events → 0 < remaining_in w.seats p → remaining_in w.seats p ≡ remaining_at (process_after w.setup (past_of w.setup events) p)
remaining-shown w events p shows some =
    let there = seat-there w.seats p some in
    seat-remaining w.seats p there.0 there.1 ∙ ap (λ (x : Seat). remaining_at x.process) (seat-shown w events p there.0 shows there.1)

-- ONE STEP

-- one step alone is one of several steps
one-last : (last : Bool) (before overlapped : ℕ) → before ≡ 0 → overlapped ≡ before + cond last 1 0 → (last ≡ nat_lt 0 overlapped) × (overlapped ≡ cond (nat_lt 0 overlapped) 1 0)
one-last true before overlapped none counts = let one : overlapped ≡ 1 = omega (arith, none, counts) in (sym (ap (nat_lt 0) one), one ∙ sym (ap (λ n. cond (nat_lt 0 n) 1 0) one))
one-last false before overlapped none counts = let one : overlapped ≡ 0 = omega (arith, none, counts) in (sym (ap (nat_lt 0) one), one ∙ sym (ap (λ n. cond (nat_lt 0 n) 1 0) one))

pub walks-one : (old new : WorldState) (f g : FlickState) (p : ℕ) (flick : Bool) (access : Access) (overlapped : ℕ) → flick_of f ≡ flick → Walks old f p 1 access overlapped new g →
    MakesQuietly old p flick access (nat_lt 0 overlapped) new × (overlapped ≡ cond (nat_lt 0 overlapped) 1 0)
walks-one old new f g p flick access overlapped by (w, x, earlier, before, (same, same_flicks, none), last, made, after, counts) =
    let ends = one-last last before overlapped none counts in
    (subst (λ (y : WorldState × Bool × Bool). MakesQuietly y.0 p y.1 access y.2 new) (λ i. (same i, (ap flick_of same_flicks ∙ by) i, ends.0 i)) made, ends.1)

-- NONE ENDS A NUMBER

-- a read that ends, ended or not by the rule
ended-read : (how : Move) (u v : Bool) → ended u how ≡ EndRead v → (w : Bool) × (how ≡ EndRead w)
ended-read (EndRead w) u v is = (w, refl)
ended-read (BeginWrite w) u v is = absurd (cc)
ended-read EndWrite u v is = absurd (cc)
ended-read BeginRead u v is = absurd (cc)
ended-read (Settle w) u v is = absurd (cc)

written-no-read : (b v w : Bool) → (if b then BeginWrite w else EndWrite) ≡ EndRead v → ⊥
written-no-read true v w is = absurd (cc)
written-no-read false v w is = absurd (cc)

-- the next access at a position
inside-at : (c : Call) (part : Part) (run : Run) (v : Bool) → 1 < rest_of c part run → (access_at c part run).how ≡ EndRead v → (access_at c part run).bit + 1 ≡ width c.setup (access_at c part run).field → ⊥
inside-at c part (Writing w) v more reads last = written-no-read _ v _ reads
inside-at c part (Reading bits false) v more reads last = absurd (cc)
inside-at c part (Reading bits true) v more reads last = absurd (omega (arith, more, last))

inside-by : (s : Setup) (p : ℕ) (now : ProcessState) (d : Doing) (flick v : Bool) (a : Access) → now.setup ≡ s → now.process ≡ p → 0 < remaining_at (record now { doing = d }) → next_of s p d flick ≡ Some a → a.how ≡ EndRead v → a.bit + 1 ≡ width s a.field → ⊥
inside-by s p now Rests flick v a same mine more next reads last = absurd (cc)
inside-by s p now Lies flick v a same mine more next reads last = absurd (cc)
inside-by s p now (Closes command number at) flick v a same mine more next reads last = absurd (omega (arith, more))
inside-by s p now (Runs command number at) flick v a same mine more next reads last =
    let c : Call = call s p command number in
    let here : call now.setup now.process command number ≡ c = λ i. call (same i) (mine i) command number in
    let live = live-by (is_over at.part) (remaining_of (call now.setup now.process command number) at.part at.run) more in
    let some : 0 < remaining_of c at.part at.run = subst (λ (c : Call). 0 < remaining_of c at.part at.run) here live.1 in
    let is : access_at c at.part at.run ≡ a = cc in
    inside-at c at.part at.run v (remaining-some c at.part at.run some).0 (ap (λ (a : Access). a.how) is ∙ reads) (ap (λ (a : Access). a.bit + 1) is ∙ last ∙ ap (λ (a : Access). width s a.field) (sym is))

-- the next access within a register access does not end the read of a number
pub inside-number : (s : Setup) → IsGood s → (events : List Event) (p : ℕ) (flick v : Bool) (e : Entry) (a : Access) → entry_of s (past_of s events) (Step p flick) ≡ Some e → e.access ≡ Some a → 0 < remaining_at (process_after s (past_of s events) p) →
    a.how ≡ EndRead v → a.bit + 1 ≡ width s a.field → ⊥
inside-number s g events p flick v e a adds access more reads last =
    let past : Past = past_of s events in
    let is : StepIs s past p flick e = step_is s g events p flick e adds in
    let same : valued s past flick is.next ≡ a = cc in
    let ends = ended-read is.next.how _ v (ap (λ (a : Access). a.how) same ∙ reads) in
    inside-by s p (process_after s past p) (doing s p past) flick ends.0 is.next refl refl more is.is_next ends.1 (ap (λ (a : Access). a.bit + 1) same ∙ last ∙ ap (λ (a : Access). width s a.field) (sym same))
