-- A process that does not work on the versions, inside or outside, takes nothing and touches no register of a version. Its step does not change the versions.
use Rattle.std.proofs.Common.{◌≡◌, ◌≢◌, ℕ, ◌==◌, ◌&&◌, Bool, true, false, cond, List, [], ◌∷◌, ◌++◌, length, map, Option, Some, None, refl, sym, ap, subst, ◌∙◌, true≢false}
use Rattle.std.proofs.lemmas.Bool.{false≢true}
use Rattle.model.specs.reader_copies.Runs as copies
use Rattle.model.specs.{Access, AsksCommit, AsksImage, AsksStamp, Call, Clears, Entry, Event, Field, Mark, Next, Part, Past, Reading, Run, Wait, Waits, WritesCommit, WritesImage, WritesStamp, Writing, access_at, before_image_read, bits_with, is_end_of_read, entered_if_none, entry_of, first_marks, history, is_commit, is_fresh, is_image, is_last, is_version, last_marks, lets_by, marks_of, past_of, placed, reply_taken, store_after, value_of, valued, waits_of}
use Rattle.model.specs.declared.access.Field.TheVariants.{Choosing, Ticket, Commit}
use Rattle.plain_store.specs.declared.Answer.TheVariants as answer
use Rattle.plain_store.specs.{Reply, Setup}
use Rattle.model.specs.declared.marks.Mark.TheVariants.{Taken, Left, Answered, Down}
use Rattle.model.specs.Closings.{Closing, Withdraws, Settles, Frees, Lowers, Quit, Ended, is_last_written, is_last_settled, is_unwritten, no_ticket, closing_next, settled_marks}
use Rattle.model.specs.Parts as part
use Rattle.model.proofs.Turns.{and_false}
use Rattle.model.proofs.Width.{IsGood}
use Rattle.laws.specs.{Doing, Rests, Lies, Runs, Closes, call, doing, is_inside, is_inside_at, is_inside_closing}
use Rattle.laws.proofs.Doings.{Step, calls, withdraws, fails, restarts, steps, closes_on}
use Rattle.laws.proofs.Invariant.{wires, touches}
use Rattle.laws.proofs.Frame.{Happens, a_call, a_withdrawal, a_failure, a_restart, a_step, a_closing}
use Rattle.laws.proofs.FrameEvents.{accepted}
use Rattle.laws.proofs.FrameInside.{inside-is}
use Rattle.laws.proofs.FrameSteps.{step_of}
use Rattle.laws.proofs.FrameWires.{wires-kept, wires-fields, touches-kept, touches-fields}
use Rattle.laws.proofs.Alone.{SettlesInside, ClosesInside, closes_inside, touched_inside}
use Rattle.laws.proofs.Always.{inv_of}
use Rattle.history_laws.proofs.CountedChanges.{history-none, versions-none}
use Rattle.history_laws.proofs.Kept.{is_committing, is_commit_field, is_busy}
use Rattle.history_laws.proofs.Lifting.{Untouched, still-outside, read-kept}

-- the unit settles a bit of a process that was inside
abbrev pub is_settling_inside : Closing → Bool
is_settling_inside (Settles f bit begun taken is t) = is
is_settling_inside _ = false

-- the process reads or writes versions, or its unit settles a bit of them
abbrev pub is_working : Doing → Bool
is_working Rests = false
is_working Lies = false
is_working (Runs command number at) = is_inside_at at.part false
is_working (Closes command number at) = is_settling_inside at

-- a closing that is not inside does not settle inside
closing-idle : (at : Closing) → is_inside_closing at ≡ false → is_settling_inside at ≡ false
closing-idle (Settles f bit begun taken is t) h = h
closing-idle _ h = refl

pub outside-idle : (d : Doing) → is_inside d ≡ false → is_working d ≡ false
outside-idle Rests h = refl
outside-idle Lies h = refl
outside-idle (Runs command number at) h = still-outside at.part (is_fresh at.run) h
outside-idle (Closes command number at) h = closing-idle at h

-- a bit that is settled of a process that wasn't inside is of no version, and takes nothing
pub settled-outside : (f : Field) (taken : Option Reply) → (is_version f ≡ true → false ≡ true) × (is_commit f ≡ false → taken ≡ None) → (is_version f ≡ false) × (taken ≡ None)
settled-outside Choosing taken h = (refl, h.1 refl)
settled-outside Ticket taken h = (refl, h.1 refl)
settled-outside _ taken h = absurd (false≢true (h.0 refl))

version-commit : (f : Field) → is_version f ≡ false → is_commit_field f ≡ false
version-commit Commit h = absurd (true≢false h)
version-commit _ h = refl

-- no commit bit is being written, or settled
pub idle-free : (d : Doing) → is_working d ≡ false → ClosesInside d → is_busy d ≡ false
idle-free Rests h c = refl
idle-free Lies h c = refl
idle-free (Runs command number at) h c = go at.part h
  where
    go : (x : Part) → is_inside_at x false ≡ false → is_committing x (is_fresh at.run) ≡ false
    go (WritesCommit vs st) h = absurd (true≢false h)
    go _ h = refl
idle-free (Closes command number at) h c = go at h c
  where
    go : (at : Closing) → is_settling_inside at ≡ false → SettlesInside at → is_busy (Closes command number at) ≡ false
    go (Settles f bit begun taken true t) h c = absurd (true≢false h)
    go (Settles f bit begun taken false t) h c = version-commit f (settled-outside f taken c).0
    go _ h c = refl

-- The process takes nothing.

pub placed-none : (n : ℕ) (ms : List Mark) → reply_taken ms ≡ None → reply_taken (map (placed n) ms) ≡ None
placed-none n [] h = refl
placed-none n (Taken k r ∷ ms) h = cc
placed-none n (_ ∷ ms) h = placed-none n ms h

pub append-none : (ms ns : List Mark) → reply_taken ms ≡ None → reply_taken ns ≡ None → reply_taken (ms ++ ns) ≡ None
append-none [] ns h k = k
append-none (Taken i r ∷ ms) ns h k = cc
append-none (_ ∷ ms) ns h k = append-none ms ns h k

pub either-none : (b : Bool) (ms : List Mark) → reply_taken ms ≡ None → reply_taken (cond b ms []) ≡ None
either-none true ms h = h
either-none false ms h = refl

pub entered-none : (ws : List Wait) → reply_taken (entered_if_none ws) ≡ None
entered-none [] = refl
entered-none (w ∷ ws) = refl

first-none : (x : Part) → reply_taken (first_marks x) ≡ None
first-none (Clears a) = refl
first-none _ = refl

last-none : (c : Call) (x : Part) (bits : List Bool) → is_inside_at x false ≡ false → reply_taken (last_marks c x bits) ≡ None
last-none c (part.Lowers t) bits h = entered-none (waits_of c)
last-none c (Waits t w ws) bits h = either-none (lets_by c t w bits) (entered_if_none ws) (entered-none ws)
last-none c (AsksImage vs) bits h = absurd (true≢false h)
last-none c (WritesCommit vs st) bits h = absurd (true≢false h)
last-none c _ bits h = refl

closing-none : (c : Call) (at : Closing) (flick : Bool) (n : Next) → closing_next c at flick ≡ Some n → is_settling_inside at ≡ false → SettlesInside at → reply_taken n.marks ≡ None
closing-none c at flick n is h settles = go at is h settles
  where
    of_next : (x : Next) → Some x ≡ Some n → reply_taken x.marks ≡ None → reply_taken n.marks ≡ None
    of_next x e h = let f : x ≡ n = cc in subst (λ (y : Next). reply_taken y.marks ≡ None) f h

    settled : (begun v : Bool) (taken : Option Reply) → taken ≡ None → reply_taken (settled_marks begun taken v) ≡ None
    settled begun v None h = refl
    settled begun v (Some r) h = cc

    go : (at : Closing) → closing_next c at flick ≡ Some n → is_settling_inside at ≡ false → SettlesInside at → reply_taken n.marks ≡ None
    go (Withdraws w) k h x = of_next _ k (either-none (is_last_written c (no_ticket c) w) (Answered answer.Withdrawn ∷ []) refl)
    go (Settles f bit begun taken true t) k h x = absurd (true≢false h)
    go (Settles f bit begun taken false t) k h x =
        let v : Bool = copies.settled_at t flick in
        of_next _ k (either-none (is_last_settled c t v) (settled_marks begun taken v) (settled begun v taken (settled-outside f taken x).1))
    go (Frees is w) k h x = of_next _ k (either-none (is && is_unwritten w) (Left ∷ []) refl)
    go (Lowers w) k h x = of_next _ k (either-none (is_last_written c (false ∷ []) w) (Down ∷ []) refl)
    go Quit k h x = cc
    go Ended k h x = cc

takes-none : (s : Setup) (past : Past) (p : ℕ) (e : Entry) (d d' : Doing) → Happens s past p e d d' → is_working d ≡ false → ClosesInside d → reply_taken e.marks ≡ None
takes-none s past p e d d' (a_call command number i a m k) h c = ap reply_taken m
takes-none s past p e d d' (a_withdrawal command number t w ws run i a m k) h c = ap reply_taken m
takes-none s past p e d d' (a_failure command number i a m k) h c = ap reply_taken m
takes-none s past p e d d' (a_restart i a m k) h c = ap reply_taken m
takes-none s past p e d d' (a_step command number at a flick i o is made m k) h c =
    let x : Call = call s p command number in
    let bits : List Bool = bits_with at.run (value_of a.how) in
    ap reply_taken m ∙ placed-none (length (history s past)) (marks_of x at (value_of a.how))
    (append-none (cond (is_fresh at.run) (first_marks at.part) []) (cond (is_last x at.part at.run) (last_marks x at.part bits) []) (either-none (is_fresh at.run) (first_marks at.part) (first-none at.part))
    (either-none (is_last x at.part at.run) (last_marks x at.part bits) (last-none x at.part bits (ap is_working (sym i) ∙ h))))
takes-none s past p e d d' (a_closing command number at flick n i next is v m k) h c =
    ap reply_taken m ∙ placed-none (length (history s past)) n.marks (closing-none (call s p command number) at flick n next (ap is_working (sym i) ∙ h) (subst ClosesInside i c))

-- The process touches no register of a version.

-- the access of an entry, if it makes one, is to no register of a version
abbrev pub IsApart : Entry → Type 0
IsApart e = (a : Access) → e.access ≡ Some a → is_version a.field ≡ false

-- a process that is inside, and works on no version, clears its ticket
part-apart : (c : Call) (x : Part) (run : Run) → is_inside_at x false ≡ false → is_inside_at x (is_fresh run) ≡ true → is_version (access_at c x run).field ≡ false
part-apart c (Clears a) (Writing w) idle is = refl
part-apart c (Clears a) (Reading bits begun) idle is = refl
part-apart c (AsksCommit k ks vs) run idle is = absurd (true≢false idle)
part-apart c (AsksStamp k ks vs b) run idle is = absurd (true≢false idle)
part-apart c (AsksImage vs) run idle is = absurd (true≢false idle)
part-apart c (WritesImage vs st) run idle is = absurd (true≢false idle)
part-apart c (WritesStamp vs st) run idle is = absurd (true≢false idle)
part-apart c (WritesCommit vs st) run idle is = absurd (true≢false idle)
part-apart c _ run idle is = absurd (false≢true is)

closing-apart : (c : Call) (at : Closing) (flick : Bool) (n : Next) → closing_next c at flick ≡ Some n → is_settling_inside at ≡ false → is_inside_closing at ≡ true → is_version n.access.field ≡ false
closing-apart c at flick n next idle is = go at next idle is
  where
    of_next : (x : Next) → Some x ≡ Some n → is_version x.access.field ≡ false → is_version n.access.field ≡ false
    of_next x e h = let f : x ≡ n = cc in subst (λ (y : Next). is_version y.access.field ≡ false) f h

    go : (at : Closing) → closing_next c at flick ≡ Some n → is_settling_inside at ≡ false → is_inside_closing at ≡ true → is_version n.access.field ≡ false
    go (Frees was w) k idle is = of_next _ k refl
    go (Settles f bit begun taken was t) k idle is = absurd (true≢false (sym is ∙ idle))
    go _ k idle is = absurd (false≢true is)

inside-apart : (s : Setup) (past : Past) (p : ℕ) (e : Entry) (d d' : Doing) → Step s past p e d d' → is_working d ≡ false → is_inside d ≡ true → IsApart e
inside-apart s past p e d d' (calls command number i none k) idle is a acc = let f : None ≡ Some a = sym none ∙ acc in cc
inside-apart s past p e d d' (withdraws command number t w ws run i none k) idle is a acc = let f : None ≡ Some a = sym none ∙ acc in cc
inside-apart s past p e d d' (fails command number x cut none k) idle is a acc = let f : None ≡ Some a = sym none ∙ acc in cc
inside-apart s past p e d d' (restarts i none k) idle is a acc = let f : None ≡ Some a = sym none ∙ acc in cc
inside-apart s past p e d d' (steps command number at b flick i o this made k) idle is a acc =
    let f : Some b ≡ Some a = sym this ∙ acc in
    let same : b ≡ a = cc in
    ap (λ (x : Access). is_version x.field) (sym same ∙ made) ∙ part-apart (call s p command number) at.part at.run (ap is_working (sym i) ∙ idle) (ap is_inside (sym i) ∙ is)
inside-apart s past p e d d' (closes_on command number at flick n i next this k) idle is a acc =
    let f : Some (valued s past flick n.access) ≡ Some a = sym this ∙ acc in
    let same : valued s past flick n.access ≡ a = cc in
    ap (λ (x : Access). is_version x.field) (sym same) ∙ closing-apart (call s p command number) at flick n next (ap is_working (sym i) ∙ idle) (ap is_inside (sym i) ∙ is)

pub idle-apart : (s : Setup) → IsGood s → (events : List Event) (what : Event) (e : Entry) → entry_of s (past_of s events) what ≡ Some e → is_working (doing s e.process (past_of s events)) ≡ false → IsApart e
idle-apart s g events what e h idle a acc = go (is_version a.field) refl
  where
    past : Past
    past = past_of s events

    go : (b : Bool) → is_version a.field ≡ b → is_version a.field ≡ false
    go false k = k
    go true k =
        let is : is_inside (doing s e.process past) ≡ true = sym (inside-is s g events e.process) ∙ touched_inside s g (inv_of s g) events what e h a acc k in
        inside-apart s past e.process e (doing s e.process past) (doing s e.process (e ∷ past)) (step_of s g events what e h).2 idle is a acc

-- an entry that is apart ends no read of an image
image-version : (f : Field) → is_version f ≡ false → is_image f ≡ false
image-version Choosing h = refl
image-version Ticket h = refl
image-version _ h = absurd (true≢false h)

pub apart-read : (p : ℕ) (e : Entry) (past : Past) → IsApart e → before_image_read p (e ∷ past) ≡ before_image_read p past
apart-read p e past apart = read-kept p e past (e.process == p) refl (go e.access refl)
  where
    ends : Option Access → Bool
    ends x = elim x [ None ↦ false | Some a ↦ is_image a.field && is_end_of_read a.how ]

    go : (x : Option Access) → e.access ≡ x → ((e.process == p) && ends x) ≡ false
    go None h = and_false (e.process == p)
    go (Some a) h = ap (λ b. (e.process == p) && (b && is_end_of_read a.how)) (image-version a.field (apart a h)) ∙ and_false (e.process == p)

-- The process leaves the versions as they are.
pub untouched : (s : Setup) (past : Past) (e : Entry) → reply_taken e.marks ≡ None → IsApart e → Untouched s past e
untouched s past e none apart = record {
  versions = versions-none s past e none;
  store = ap (store_after s) (history-none s past e none);
  wires = λ o f v. other_wires o f v e.access refl;
  touches = λ o r f v. other_touches o r f v e.access refl;
}
  where
    differs : (a : Access) (f : Field) → e.access ≡ Some a → is_version f ≡ true → f ≢ a.field
    differs a f h v same = true≢false (sym v ∙ ap is_version same ∙ apart a h)

    other_wires : (o : ℕ) (f : Field) → is_version f ≡ true → (x : Option Access) → e.access ≡ x → wires s (e ∷ past) o f ≡ wires s past o f
    other_wires o f v None h = λ i. wires-kept s past e o h i f
    other_wires o f v (Some a) h = wires-fields s past e a o f h (differs a f h v)

    other_touches : (o r : ℕ) (f : Field) → is_version f ≡ true → (x : Option Access) → e.access ≡ x → touches s (e ∷ past) o r f ≡ touches s past o r f
    other_touches o r f v None h = λ i. touches-kept s past e o r h i f
    other_touches o r f v (Some a) h = touches-fields s past e a o r f h (differs a f h v)

pub idle-untouched : (s : Setup) → IsGood s → (events : List Event) (what : Event) (e : Entry) → entry_of s (past_of s events) what ≡ Some e → is_working (doing s e.process (past_of s events)) ≡ false → Untouched s (past_of s events) e
idle-untouched s g events what e h idle =
    let past : Past = past_of s events in
    let d : Doing = doing s e.process past in
    untouched s past e (takes-none s past e.process e d (doing s e.process (e ∷ past)) (accepted s g events what e h).happens idle (closes_inside s g events e.process)) (idle-apart s g events what e h idle)
