-- Every access is in its turn on the registers, and each open read is of the register that its process reads at its place.
use Rattle.std.proofs.Common.{◌≡◌, ℕ, true, false, List, ◌∷◌, Option, Some, None, refl, sym, ap, subst, ◌∙◌, true≢false}
use Rattle.model.specs.safe_bit.{MayMove, is_of_write}
use Rattle.model.specs.{Access, Call, Entry, Event, Part, Past, Place, Reading, Run, Writing, access_at, entry_of, is_read, is_running, last_call, last_start, own, past_of, read_at, stage}
use Rattle.plain_store.specs.{Command, Setup}
use Rattle.model.specs.declared.marks.Mark.TheVariants.{Called}
use Rattle.model.proofs.OpenSteps.{place_at}
use Rattle.model.proofs.Width.{IsGood}
use Rattle.laws.specs.{cell_held, doing}
use Rattle.laws.proofs.Frame.{Does, at_rest, lying, running, leaving, settling}
use Rattle.laws.proofs.FrameCells.{EntryBy, marks_only, makes, on-copy}
use Rattle.laws.proofs.FrameCuts.{LeftIn, LeftRun, remaining}
use Rattle.laws.proofs.FrameEvents.{accepted, does_all}
use Rattle.laws.proofs.FrameSteps.{entry-by, remaining-is}
use Rattle.laws.proofs.HeldCells.{held_ends, held_writes, may_move}
use Rattle.laws.proofs.HeldReads.{access-reads, open_read, reads_are, reads_now}

-- the process that reads is the reader
reader-is : (e : Entry) (a : Access) → EntryBy e.process e → e.access ≡ Some a → is_of_write a.how ≡ false → a.reader ≡ e.process
reader-is e a (marks_only none) acc r = let f : None ≡ Some a = sym none ∙ acc in cc
reader-is e a (makes x h by) acc r =
    let f : Some x ≡ Some a = sym h ∙ acc in
    let same : x ≡ a = cc in
    sym (ap (λ (y : Access). y.reader) same) ∙ by.reads (ap (λ (y : Access). is_of_write y.how) same ∙ r)

pub comes_in_turn : (s : Setup) → IsGood s → (events : List Event) (event : Event) (e : Entry) → entry_of s (past_of s events) event ≡ Some e → (a : Access) → e.access ≡ Some a →
    MayMove (cell_held s (past_of s events) a) a.how
comes_in_turn s g events event e is a acc =
    let past : Past = past_of s events in
    may_move (cell_held s past a) a.how (held_writes s g events event e is a acc)
    (λ r. reads_are s g events e.process a (reader-is e a (entry-by s g events event e is) acc r)
    ∙ access-reads s past e.process e (doing s e.process past) (doing s e.process (e ∷ past)) a (accepted s g events event e is).happens acc r)
    (λ v how calm. held_ends s g events event e is a acc v how calm)

-- the place of a read that is open
reads-place : (c : Call) (part : Part) (run : Run) (a : Access) (torn : Option Access) → open_read c part run a ≡ true → LeftRun c torn part run → (is_read part ≡ true) × (read_at c part ≡ (a.owner, a.field))
reads-place c part (Writing w) a torn h l = absurd (true≢false (sym h))
reads-place c part (Reading bits false) a torn h l = absurd (true≢false (sym h))
reads-place c part (Reading bits true) a torn h l =
    let on = on-copy (access_at c part (Reading bits true)) a.owner a.field a.bit a.reader h in
    (l.0, λ i. (sym on.owner i, sym on.field i))

-- the knowledge of a process at this place
abbrev pub ReadsThere : Setup → Past → Access → Type 0
ReadsThere s past a =
    let mine : Past = own a.reader past in
    let c : Call = last_call s a.reader mine in
    let here : Place = place_at s a.reader mine in
    (command : Command) × (last_start mine ≡ Some (Called command)) × (is_running (stage a.reader past) ≡ true) × (is_read here.part ≡ true) × (read_at c here.part ≡ (a.owner, a.field))

pub open_at_place : (s : Setup) → IsGood s → (events : List Event) (a : Access) → (cell_held s (past_of s events) a).reading ≡ true → ReadsThere s (past_of s events) a
open_at_place s g events a h = go (does_all s g events p)
  where
    past : Past
    past = past_of s events

    p : ℕ
    p = a.reader

    mine : Past
    mine = own p past

    now : reads_now s p a (doing s p past) ≡ true
    now = sym (reads_are s g events p a refl) ∙ h

    go : Does s p mine (stage p past) (doing s p past) → ReadsThere s past a
    go (at_rest i k) = absurd (true≢false (sym now ∙ ap (reads_now s p a) k))
    go (lying i k) = absurd (true≢false (sym now ∙ ap (reads_now s p a) k))
    go (leaving b i k) = absurd (true≢false (sym now ∙ ap (reads_now s p a) k))
    go (settling b i k) = absurd (true≢false (sym now ∙ ap (reads_now s p a) k))
    go (running command b r k) =
        let at : Place = place_at s p mine in
        let left_there = subst (LeftIn s p (remaining s mine)) k (remaining-is s g events p) in
        let read = reads-place (last_call s p mine) at.part at.run a (remaining s mine) (sym (ap (reads_now s p a) k) ∙ now) left_there in
        (command, b, r, read.0, read.1)
