-- No read of a version overlaps a write, and while no process is inside no write of a version is open. The reason is that each process that reads or writes a version is inside.
use Rattle.std.specs.Prelude.{slice_index_or}
use Rattle.std.proofs.Common.{◌≡◌, ◌≢◌, ℕ, ◌+◌, ◌%◌, ◌<◌, ◌==◌, Bool, true, false, cond, List, [], ◌∷◌, ◌++◌, length, map, Some, None, refl, sym, ap, subst, ◌∙◌, true≢false, arith, inl, inr}
use Rattle.std.proofs.lemmas.Bool.{cases_eq, false_from_ne_true, false≢true}
use Rattle.std.proofs.lemmas.List.Folds.{list_any_at}
use Rattle.std.proofs.lemmas.List.FromFn.{get_or-range_with_len, length-range_with_len}
use Rattle.model.specs.safe_bit.{Move, is_of_write, is_overlapped, read_value}
use Rattle.model.specs.safe_bit.declared.Move.TheVariants.{BeginWrite, EndRead, EndWrite}
use Rattle.model.proofs.safe_bit.Showing.{shows_moves}
use Rattle.model.specs.{Access, Call, Closing, Entry, Event, Field, Part, Past, Place, Reading, Run, Withdraws, Writing, access_at, bit_written, cell_after, closing_after, copy, ended, is_end_of_read, enter, entry_of, history, inside, is_last, is_over, is_read, is_somebody_inside, is_version, marks_of, moves_of, new_run, opening_bit, part_after, past-induction, past_of, place_after, placed, processes, read_at, run_after, value_of, valued, width, written_at}
use Rattle.model.specs.safe_number.{new_write}
use Rattle.plain_store.specs.{Command, Setup}
use Rattle.model.proofs.Opens.{opened}
use Rattle.model.proofs.TurnRecords.{turns_all}
use Rattle.model.proofs.Width.{IsGood}
use Rattle.laws.proofs.Alone.{touched_inside, version-at}
use Rattle.laws.proofs.Always.{inv_of}
use Rattle.laws.proofs.AtPlaces.{Stepping}
use Rattle.laws.specs.{Doing, Rests, Lies, Runs, Closes, call, closes, doing, runs, is_inside}
use Rattle.laws.proofs.Frame.{Happens, a_call, a_withdrawal, a_failure, a_restart, a_step, a_closing, doing-other}
use Rattle.laws.proofs.FrameCells.{EntryBy, marks_only, makes}
use Rattle.laws.proofs.FrameEvents.{accepted}
use Rattle.laws.proofs.FrameInside.{inside-is}
use Rattle.laws.proofs.FrameSteps.{closing-writes, entry-by}
use Rattle.laws.proofs.FrameWires.{touches-begun, touches-fields, touches-kept}
use Rattle.laws.proofs.Invariant.{Corresponds, touches, wires, Touches}
use Rattle.laws.proofs.Notes.{notes}
use Rattle.laws.proofs.Theorems.{insider, is_process, mutual_exclusion}
use Rattle.history_laws.proofs.OpenVersions.{WritesInside, is_reading, open_inside}

-- a cell shows whether a write of it is open, and whether its read was touched
pub open_cell : (s : Setup) → IsGood s → (events : List Event) (a : Access) → (cell_after s (past_of s events) a).writing ≡ opened (past_of s events) a
open_cell s g events a = (shows_moves (opening_bit s a) (moves_of a (past_of s events)) (turns_all s g events a)).writing

pub touched_cell : (s : Setup) → IsGood s → (events : List Event) (a : Access) → (cell_after s (past_of s events) a).touched ≡ is_overlapped (moves_of a (past_of s events))
touched_cell s g events a = (shows_moves (opening_bit s a) (moves_of a (past_of s events)) (turns_all s g events a)).touched

-- No process inside.

-- While no process is inside, no write of a version is open.
pub whole_outside : (s : Setup) → IsGood s → (events : List Event) → ((p : ℕ) → p < s.processes → inside p (past_of s events) ≡ false) → (a : Access) → is_version a.field ≡ true → (cell_after s (past_of s events) a).writing ≡ false
whole_outside s g events none a v = false_from_ne_true (cell_after s past a).writing λ h.
    let inside_is : inside a.owner past ≡ true = inside-is s g events a.owner ∙ (open_inside s g events a v (sym (open_cell s g events a) ∙ h)).inside in
    true≢false (sym inside_is ∙ none a.owner (insider s g events a.owner inside_is))
  where
    past : Past
    past = past_of s events

-- If a version is read, the open copy is untouched.

abbrev pub IsUntouched : Setup → (t : ℕ → Touches) → Call → Part → Run → Type 0
IsUntouched s t c part (Writing w) = Unit {0}
IsUntouched s t c part (Reading bits begun) = begun ≡ true → is_version (read_at c part).1 ≡ true → t (read_at c part).0 (read_at c part).1 (length bits) ≡ false

abbrev pub IsUntouchedBy : Setup → (t : ℕ → Touches) → ℕ → Doing → Type 0
IsUntouchedBy s t p (Runs command number at) = IsUntouched s t (call s p command number) at.part at.run
IsUntouchedBy s t p _ = Unit {0}

abbrev pub IsUntouchedOf : Setup → Past → ℕ → Doing → Type 0
IsUntouchedOf s past p d = IsUntouchedBy s (λ o. touches s past o p) p d

-- this holds when a part begins
untouched_new : (s : Setup) (t : ℕ → Touches) (c : Call) (part : Part) → IsUntouched s t c part (new_run c part)
untouched_new s t c part = go (is_read part)
  where
    go : (b : Bool) → IsUntouched s t c part (cond b (Reading [] false) (Writing (new_write (width c.setup (written_at c part).0))))
    go true = λ begun v. absurd (false≢true begun)
    go false = tt

-- this holds when a read continues, if it holds when the read of the bit begins
untouched_next : (s : Setup) (t : ℕ → Touches) (c : Call) (part : Part) (run : Run) (v : Bool) →
    ((bits : List Bool) → run ≡ Reading bits false → is_version (read_at c part).1 ≡ true → t (read_at c part).0 (read_at c part).1 (length bits) ≡ false)
    → let to : Place = place_after c (record { part = part; run = run }) v in
    IsUntouched s t c to.part to.run
untouched_next s t c part (Writing w) v begins = go (is_last c part (Writing w))
  where
    to : Bool → Place
    to b = cond b (enter c (part_after c part [])) (record { part = part; run = run_after c part (Writing w) v })

    go : (b : Bool) → IsUntouched s t c (to b).part (to b).run
    go true = untouched_new s t c (part_after c part [])
    go false = tt
untouched_next s t c part (Reading bits false) v begins = λ begun is. begins bits refl is
untouched_next s t c part (Reading bits true) v begins = go (length bits + 1 == width c.setup (read_at c part).1)
  where
    to : Bool → Place
    to b = cond b (enter c (part_after c part (bits ++ v ∷ []))) (record { part = part; run = Reading (bits ++ v ∷ []) false })

    go : (b : Bool) → IsUntouched s t c (to b).part (to b).run
    go true = untouched_new s t c (part_after c part (bits ++ v ∷ []))
    go false = λ begun is. absurd (false≢true begun)

untouched_runs : (s : Setup) (t : ℕ → Touches) (p : ℕ) (command : Command) (number : ℕ) (at : Place) → IsUntouched s t (call s p command number) at.part at.run → IsUntouchedBy s t p (runs command number at)
untouched_runs s t p command number at h = go (is_over at.part)
  where
    go : (b : Bool) → IsUntouchedBy s t p (cond b Rests (Runs command number at))
    go true = tt
    go false = h

untouched_closes : (s : Setup) (t : ℕ → Touches) (p : ℕ) (command : Command) (number : ℕ) (at : Closing) → IsUntouchedBy s t p (closes command number at)
untouched_closes s t p command number (Withdraws w) = tt
untouched_closes s t p command number _ = tt

-- When the read begins, no write of the copy is open: its writer would be inside too.
begins_untouched : (s : Setup) → IsGood s → (events : List Event) (event : Event) (e : Entry) → entry_of s (past_of s events) event ≡ Some e →
    let past : Past = past_of s events in
    let p : ℕ = e.process in
    (command : Command) (number : ℕ) (part : Part) (bits : List Bool) (flick : Bool) → doing s p past ≡ Runs command number (record { part = part; run = Reading bits false }) →
    e.access ≡ Some (valued s past flick (access_at (call s p command number) part (Reading bits false))) → is_version (read_at (call s p command number) part).1 ≡ true →
    touches s (e ∷ past) (read_at (call s p command number) part).0 p (read_at (call s p command number) part).1 (length bits) ≡ false
begins_untouched s g events event e is command number part bits flick does access v =
    touches-begun s past e (valued s past flick x) access refl ∙ false_from_ne_true (wires s past o f (length bits) p).writing λ h.
    let writes : WritesInside (doing s o past) = open_inside s g events (copy o f p (length bits)) v (sym (open_cell s g events (copy o f p (length bits))) ∙ h) in
    let mine : inside p past ≡ true = touched_inside s g (inv_of s g) events event e is (valued s past flick x) access v in
    let same : o ≡ p = mutual_exclusion s g (inv_of s g) events o p (inside-is s g events o ∙ writes.inside) mine in
    false≢true (sym writes.writes ∙ ap (λ q. is_reading (doing s q past)) same ∙ ap is_reading does)
  where
    past : Past
    past = past_of s events

    p : ℕ
    p = e.process

    x : Access
    x = access_at (call s p command number) part (Reading bits false)

    o : ℕ
    o = (read_at (call s p command number) part).0

    f : Field
    f = (read_at (call s p command number) part).1

-- An entry of another process leaves it so: it is not inside, so it touches no version.
others_untouched : (s : Setup) → IsGood s → (events : List Event) (event : Event) (e : Entry) → entry_of s (past_of s events) event ≡ Some e → (p : ℕ) → e.process ≢ p →
    (d : Doing) → doing s p (past_of s events) ≡ d → IsUntouchedOf s (past_of s events) p d → IsUntouchedOf s (e ∷ past_of s events) p d
others_untouched s g events event e is p other Rests does h = tt
others_untouched s g events event e is p other Lies does h = tt
others_untouched s g events event e is p other (Closes command number at) does h = tt
others_untouched s g events event e is p other (Runs command number at) does h = go at.part at.run does h
  where
    past : Past
    past = past_of s events

    c : Call
    c = call s p command number

    there : p < s.processes
    there = is_process s g events p λ rests. let f : Runs command number at ≡ Rests = sym does ∙ rests in cc

    go : (part : Part) (run : Run) → doing s p past ≡ Runs command number (record { part = part; run = run }) → IsUntouched s (λ o. touches s past o p) c part run → IsUntouched s (λ o. touches s (e ∷ past) o p) c part run
    go part (Writing w) k h = tt
    go part (Reading bits begun) k h = λ b v. ap (λ (t : ℕ → Bool). t (length bits)) (kept v) ∙ h b v
      where
        o : ℕ
        o = (read_at c part).0

        f : Field
        f = (read_at c part).1

        mine : is_version f ≡ true → inside p past ≡ true
        mine v =
            let corresponds : Corresponds s p (notes s p past) (wires s past p) (Runs command number (record { part = part; run = Reading bits begun })) =
            subst (Corresponds s p (notes s p past) (wires s past p)) k ((inv_of s g events).own p there).corresponds in
            inside-is s g events p ∙ ap is_inside k ∙ version-at s p c (notes s p past) part (Reading bits begun) corresponds.1 v

        kept : is_version f ≡ true → touches s (e ∷ past) o p f ≡ touches s past o p f
        kept v = by (entry-by s g events event e is)
          where
            by : EntryBy e.process e → touches s (e ∷ past) o p f ≡ touches s past o p f
            by (marks_only none) = ap (λ (t : Touches). t f) (touches-kept s past e o p none)
            by (makes x access w) = touches-fields s past e x o p f access λ same.
                other (mutual_exclusion s g (inv_of s g) events e.process p (touched_inside s g (inv_of s g) events event e is x access (ap is_version (sym same) ∙ v)) (mine v))

-- one of its own too
own_untouched : (s : Setup) → IsGood s → (events : List Event) (event : Event) (e : Entry) → entry_of s (past_of s events) event ≡ Some e →
    let past : Past = past_of s events in
    (d' : Doing) → Happens s past e.process e (doing s e.process past) d' → IsUntouchedOf s (e ∷ past) e.process d'
own_untouched s g events event e is d' (a_call command number was none m then) =
    subst (IsUntouchedOf s (e ∷ past_of s events) e.process) (sym then) tt
own_untouched s g events event e is d' (a_withdrawal command number t w ws run was none m then) = subst (IsUntouchedOf s (e ∷ past_of s events) e.process) (sym then) tt
own_untouched s g events event e is d' (a_failure command number may none m then) = subst (IsUntouchedOf s (e ∷ past_of s events) e.process) (sym then) tt
own_untouched s g events event e is d' (a_restart was none m then) = subst (IsUntouchedOf s (e ∷ past_of s events) e.process) (sym then) tt
own_untouched s g events event e is d' (a_closing command number at flick n was next access same m then) =
    subst (IsUntouchedOf s (e ∷ past_of s events) e.process) (sym then)
    (untouched_closes s (λ o. touches s (e ∷ past_of s events) o e.process) e.process command number (closing_after (call s e.process command number) at flick))
own_untouched s g events event e is d' (a_step command number at a flick was over access made m then) =
    subst (IsUntouchedOf s (e ∷ past_of s events) e.process) (sym then)
    (untouched_runs s t e.process command number (place_after c at (value_of a.how)) (untouched_next s t c at.part at.run (value_of a.how) λ bits run v.
    begins_untouched s g events event e is command number at.part bits flick (was ∙ ap (λ (r : Run). Runs command number (record { part = at.part; run = r })) run)
    (access ∙ ap Some made ∙ ap (λ (r : Run). Some (valued s (past_of s events) flick (access_at c at.part r))) run) v))
  where
    c : Call
    c = call s e.process command number

    t : ℕ → Touches
    t o = touches s (e ∷ past_of s events) o e.process

abbrev AllUntouched : Setup → Past → Type 0
AllUntouched s past = IsGood s → (p : ℕ) → IsUntouchedOf s past p (doing s p past)

-- This holds in every record.
pub untouched : (s : Setup) → IsGood s → (events : List Event) (p : ℕ) → IsUntouchedOf s (past_of s events) p (doing s p (past_of s events))
untouched s g events p = past-induction AllUntouched s (λ g p. tt) more events g p
  where
    more : (events : List Event) (what : Event) (e : Entry) → entry_of s (past_of s events) what ≡ Some e → AllUntouched s (past_of s events) → AllUntouched s (e ∷ past_of s events)
    more events what e is ih g p = elim (cases_eq e.process p) [
      | inl same ↦ subst (λ q. IsUntouchedOf s (e ∷ past_of s events) q (doing s q (e ∷ past_of s events))) same (own_untouched s g events what e is (doing s e.process (e ∷ past_of s events)) (accepted s g events what e is).happens)
      | inr other ↦ subst (IsUntouchedOf s (e ∷ past_of s events) p) (sym (doing-other s p e (past_of s events) other)) (others_untouched s g events what e is p other (doing s p (past_of s events)) refl (ih g p))
    ]

-- The statements.

-- a move that ends a read is not a write
not_write : (m : Move) → is_end_of_read m ≡ true → is_of_write m ≡ false
not_write (EndRead v) h = refl
not_write _ h = absurd (false≢true h)

-- if a process ends the read of a bit, its place reads the bit
pub record EndsRead (s : Setup) (past : Past) (p : ℕ) (e : Entry) (a : Access) : Type 0 where
  pub command : Command
  pub number : ℕ
  pub part : Part
  pub bits : List Bool
  pub step : Stepping s past p e command number (record { part = part; run = Reading bits true })
  pub is : a ≡ valued s past step.flick (access_at (call s p command number) part (Reading bits true))

pub ends_by : (s : Setup) (past : Past) (p : ℕ) (e : Entry) (d' : Doing) (a : Access) → Happens s past p e (doing s p past) d' → e.access ≡ Some a → is_end_of_read a.how ≡ true → EndsRead s past p e a
ends_by s past p e d' a (a_call command number was none m then) access ends = let f : None ≡ Some a = sym none ∙ access in cc
ends_by s past p e d' a (a_withdrawal command number t w ws run was none m then) access ends = let f : None ≡ Some a = sym none ∙ access in cc
ends_by s past p e d' a (a_failure command number may none m then) access ends = let f : None ≡ Some a = sym none ∙ access in cc
ends_by s past p e d' a (a_restart was none m then) access ends = let f : None ≡ Some a = sym none ∙ access in cc
ends_by s past p e d' a (a_closing command number at flick n was next made same m then) access ends =
    let f : Some n.access ≡ Some a = sym made ∙ access in
    let is : n.access ≡ a = cc in
    absurd (true≢false (sym (closing-writes (call s p command number) at flick n next).0 ∙ ap (λ (x : Access). is_of_write x.how) is ∙ not_write a.how ends))
ends_by s past p e d' a (a_step command number at b flick was over made is m then) access ends = go at.part at.run was over m (sym same ∙ is)
  where
    same : b ≡ a
    same = let f : Some b ≡ Some a = sym made ∙ access in cc

    c : Call
    c = call s p command number

    go : (part : Part) (run : Run) → doing s p past ≡ Runs command number (record { part = part; run = run }) → is_over part ≡ false →
        e.marks ≡ map (placed (length (history s past))) (marks_of c (record { part = part; run = run }) (value_of b.how)) → a ≡ valued s past flick (access_at c part run) → EndsRead s past p e a
    go part (Reading bits true) k o m is = record {
      command = command;
      number = number;
      part = part;
      bits = bits;
      step = record { access = b; flick = flick; does = k; not_over = o; is = made; made = same ∙ is; marks = m };
      is = is;
    }
    go part (Reading bits false) k o m is = absurd (false≢true (sym (ap (λ (x : Access). is_end_of_read x.how) is) ∙ ends))
    go part (Writing w) k o m is = absurd (false≢true (sym (not_write a.how ends) ∙ ap (λ (x : Access). is_of_write x.how) is ∙ write ((bit_written (written_at c part).1 w).made % 2 == 0)))
      where
        v : Bool
        v = read_value (opening_bit s (access_at c part (Writing w))) (moves_of (access_at c part (Writing w)) past) flick

        write : (even : Bool) → is_of_write (ended v (cond even (BeginWrite (bit_written (written_at c part).1 w).value) EndWrite)) ≡ true
        write true = refl
        write false = refl

-- No read of a version is overlapped.
pub version_read_unoverlapped : (s : Setup) → IsGood s → (events : List Event) (event : Event) (e : Entry) → entry_of s (past_of s events) event ≡ Some e →
    (a : Access) → e.access ≡ Some a → is_version a.field ≡ true → is_end_of_read a.how ≡ true → is_overlapped (moves_of a (past_of s events)) ≡ false
version_read_unoverlapped s g events event e is a access v ends =
    sym (touched_cell s g events a)
    ∙ ap (λ (x : Access). (cell_after s past x).touched) x.is
    ∙ subst (IsUntouchedOf s past p) x.step.does (untouched s g events p) refl (sym (ap (λ (x : Access). is_version x.field) x.is) ∙ v)
  where
    past : Past
    past = past_of s events

    p : ℕ
    p = e.process

    x : EndsRead s past p e a
    x = ends_by s past p e (doing s p (e ∷ past)) a (accepted s g events event e is).happens access ends

-- none of the processes is inside
pub nobody : (s : Setup) (past : Past) → is_somebody_inside s past ≡ false → (p : ℕ) → p < s.processes → inside p past ≡ false
nobody s past none p below = false_from_ne_true (inside p past) λ h.
    let all = length-range_with_len 0 s.processes in
    let there : slice_index_or (processes s) p 0 ≡ p = get_or-range_with_len 0 s.processes p 0 below ∙ omega arith in
    true≢false (sym (list_any_at (λ q. inside q past) (processes s) p 0 (omega (arith, below, all)) (ap (λ q. inside q past) there ∙ h)) ∙ none)
