-- The marks of an entry are true: a command is taken with the sequential store's reply, and a call is answered `StampsFull` only if no further change fits.
use Rattle.std.proofs.Common.{◌≡◌, ℕ, ◌+◌, ◌<◌, ◌&&◌, Bool, true, false, cond, not, if◌then◌else◌, List, [], ◌∷◌, ◌++◌, length, map, zero, suc, Option, Some, None, refl, sym, ap, subst, ◌∙◌, arith, eqb-true, Contains}
use Rattle.std.specs.List.{AllByRecursion}
use Rattle.std.proofs.lemmas.Bool.{false≢true, true≢false}
use Rattle.model.specs.reader_copies.Runs as copies
use Rattle.model.specs.{Access, AsksImage, Call, Clears, Entry, Event, Field, Mark, Next, Part, Past, Place, Reading, Refuses, Run, Wait, Waits, WritesCommit, Writing, access_at, bits_with, call_of, caller, entered_if_none, entry_of, first_marks, history, is_fresh, is_last, last_call, last_marks, lets_by, marks_of, own, past_of, placed, read_at, reply, store_after, store_read, takings, value_of, valued, waits_of, width}
use Rattle.model.specs.declared.access.Field.TheVariants.{Commit}
use Rattle.plain_store.specs.declared.Answer.TheVariants as answer
use Rattle.plain_store.specs.{Command, Contents, Reply, Setup, changes, reply_to}
use Rattle.model.specs.declared.marks.Mark.TheVariants as mark
use Rattle.model.specs.Closings.{Closing, Withdraws, Settles, Frees, Lowers, Quit, Ended, closing_next, is_last_settled, is_last_written, is_unwritten, no_ticket, settled_marks}
use Rattle.model.specs.Parts as part
use Rattle.model.proofs.Width.{IsGood}
use Rattle.laws.proofs.Always.{inv_of}
use Rattle.laws.specs.{Doing, Runs, call, doing}
use Rattle.laws.proofs.Frame.{Happens, a_call, a_withdrawal, a_failure, a_restart, a_step, a_closing}
use Rattle.laws.proofs.FrameEvents.{accepted}
use Rattle.laws.proofs.Invariant.{Corresponds, Wires, wires, touches}
use Rattle.laws.proofs.Notes.{notes}
use Rattle.history_laws.proofs.Codec.{store_is_read}
use Rattle.history_laws.proofs.EntrySteps.{IsOfCall, of_call}
use Rattle.history_laws.proofs.ImageReads.{image_bits_read}
use Rattle.history_laws.proofs.Kept.{Data, IsStampsFull, KnowsAt, KnowsClosing, KnowsData}
use Rattle.history_laws.proofs.Places.{at_its_place}
use Rattle.history_laws.proofs.Versions.{Versions, store_of, versions}

-- a mark of a call is true
abbrev pub IsTrueMark : Setup → Past → Call → Mark → Type 0
IsTrueMark s past c (mark.Taken k r) = r ≡ reply c (store_of s past)
IsTrueMark s past c (mark.Answered a) = IsStampsFull s past c a
IsTrueMark s past c _ = Unit {0}

-- all marks of a call are true
abbrev pub AreTrue : Setup → Past → Call → List Mark → Type 0
AreTrue s past c = AllByRecursion (IsTrueMark s past c)

-- Lists of marks.

joined : (P : Mark → Type 0) (ms ns : List Mark) → AllByRecursion P ms → AllByRecursion P ns → AllByRecursion P (ms ++ ns)
joined P [] ns h k = k
joined P (m ∷ ms) ns h k = (h.0, joined P ms ns h.1 k)

where_so : (P : Mark → Type 0) (b : Bool) (ms : List Mark) → (b ≡ true → AllByRecursion P ms) → AllByRecursion P (cond b ms [])
where_so P true ms h = h refl
where_so P false ms h = tt

placed_true : (s : Setup) (past : Past) (c : Call) (n : ℕ) (m : Mark) → IsTrueMark s past c m → IsTrueMark s past c (placed n m)
placed_true s past c n (mark.Taken k r) h = h
placed_true s past c n (mark.Answered a) h = h
placed_true s past c n _ h = tt

all_placed : (s : Setup) (past : Past) (c : Call) (n : ℕ) (ms : List Mark) → AreTrue s past c ms → AreTrue s past c (map (placed n) ms)
all_placed s past c n [] h = tt
all_placed s past c n (m ∷ ms) h = (placed_true s past c n m h.0, all_placed s past c n ms h.1)

pub taken_true : (s : Setup) (past : Past) (c : Call) (ms : List Mark) → AreTrue s past c ms → (k : ℕ) (r : Reply) → Contains (takings ms) (k, r) → r ≡ reply c (store_of s past)
taken_true s past c [] h k r (i, l, e) = absurd (omega (arith, l))
taken_true s past c (mark.Taken j q ∷ ms) h k r (zero, l, e) = sym (ap (λ (t : ℕ × Reply). t.1) e) ∙ h.0
taken_true s past c (mark.Taken j q ∷ ms) h k r (suc i, l, e) = taken_true s past c ms h.1 k r (i, omega (arith, l), e)
taken_true s past c (_ ∷ ms) h k r there = taken_true s past c ms h.1 k r there

pub one_true : (P : Mark → Type 0) (ms : List Mark) (m : Mark) → AllByRecursion P ms → Contains ms m → P m
one_true P [] m h (k, l, e) = absurd (omega (arith, l))
one_true P (n ∷ ms) m h (zero, l, e) = subst P e h.0
one_true P (n ∷ ms) m h (suc k, l, e) = one_true P ms m h.1 (k, omega (arith, l), e)

-- Parts.

entered_true : (s : Setup) (past : Past) (c : Call) (ws : List Wait) → AreTrue s past c (entered_if_none ws)
entered_true s past c [] = (tt, tt)
entered_true s past c (w ∷ ws) = tt

first_true : (s : Setup) (past : Past) (c : Call) (x : Part) → AreTrue s past c (first_marks x)
first_true s past c (Clears a) = (tt, tt)
first_true s past c _ = tt

-- the knowledge that the last marks of a part need
abbrev KnowsLast : Setup → Past → Call → Part → List Bool → Type 0
KnowsLast s past c (AsksImage vs) bits = store_read c bits ≡ store_of s past
KnowsLast s past c (WritesCommit vs st) bits = st ≡ store_of s past
KnowsLast s past c (Clears a) bits = IsStampsFull s past c a
KnowsLast s past c _ bits = Unit {0}

last_true : (s : Setup) (past : Past) (c : Call) (x : Part) (bits : List Bool) → KnowsLast s past c x bits → AreTrue s past c (last_marks c x bits)
last_true s past c (part.Lowers t) bits h = (tt, entered_true s past c (waits_of c))
last_true s past c (Refuses f) bits h = (tt, tt)
last_true s past c (Waits t w ws) bits h = where_so (IsTrueMark s past c) (lets_by c t w bits) (entered_if_none ws) λ by. entered_true s past c ws
last_true s past c (AsksImage vs) bits h = go (changes (store_read c bits) c.command)
  where
    go : (b : Bool) → AreTrue s past c (cond b [] (mark.Taken 0 (reply c (store_read c bits)) ∷ []))
    go true = tt
    go false = (ap (reply c) h, tt)
last_true s past c (WritesCommit vs st) bits h = (ap (reply c) h, tt)
last_true s past c (Clears a) bits h = (h, tt)
last_true s past c _ bits h = tt

-- the knowledge of a process that runs its call
knows_there : (s : Setup) (past : Past) (p : ℕ) (command : Command) (number : ℕ) (at : Place) → Data s past → p < s.processes → doing s p past ≡ Runs command number at →
    KnowsAt s past (call s p command number) (versions s past) (store_of s past) (wires s past p) (λ o. touches s past o p) at.part at.run
knows_there s past p command number at known below does = subst (KnowsData s past p (versions s past) (store_of s past) (wires s past p) (λ o. touches s past o p)) does (known.knows p below)

step_known : (s : Setup) → IsGood s → (events : List Event) (e : Entry) → let past : Past = past_of s events in let p : ℕ = e.process in p < s.processes → Data s past →
    (command : Command) (number : ℕ) (x : Part) (run : Run) (flick : Bool) → let c : Call = call s p command number in
    doing s p past ≡ Runs command number (record { part = x; run = run }) → e.access ≡ Some (valued s past flick (access_at c x run)) → is_last c x run ≡ true →
    KnowsLast s past c x (bits_with run (value_of (valued s past flick (access_at c x run)).how))
step_known s g events e below known command number (AsksImage vs) (Reading bits true) flick does access last =
    let c : Call = call s e.process command number in
    ap (store_read c) (image_bits_read s g events e below known command number vs bits flick does access (eqb-true (length bits + 1) (width s (read_at c (AsksImage vs)).1) last))
    ∙ store_is_read c (store_of s (past_of s events)) known.kept.sound
step_known s g events e below known command number (AsksImage vs) (Reading bits false) flick does access last = absurd (false≢true last)
step_known s g events e below known command number (AsksImage vs) (Writing w) flick does access last =
    let past : Past = past_of s events in
    let p : ℕ = e.process in
    let corresponds : Corresponds s p (notes s p past) (wires s past p) (Runs command number (record { part = AsksImage vs; run = Writing w })) = subst (Corresponds s p (notes s p past) (wires s past p)) does ((inv_of s g events).own p below).corresponds in
    absurd (true≢false corresponds.0.0)
step_known s g events e below known command number (WritesCommit vs st) run flick does access last = (knows_there s (past_of s events) e.process command number (record { part = WritesCommit vs st; run = run }) known below does).0.store_read
step_known s g events e below known command number (Clears a) run flick does access last = knows_there s (past_of s events) e.process command number (record { part = Clears a; run = run }) known below does
step_known s g events e below known command number _ run flick does access last = tt

-- Closings.

settled_true : (s : Setup) (past : Past) (c : Call) (begun v last : Bool) (taken : Option Reply) → ((r : Reply) → taken ≡ Some r → r ≡ reply c (store_of s past)) → AreTrue s past c (cond last (settled_marks begun taken v) [])
settled_true s past c begun v false taken h = tt
settled_true s past c begun v true None h = (tt, tt)
settled_true s past c begun v true (Some r) h = (tt, where_so (IsTrueMark s past c) (if v then begun else not begun) (mark.Taken 0 r ∷ []) λ by. (h r refl, tt))

none_taken : {X : Type 0} (taken : Option Reply) (r : Reply) → taken ≡ None → taken ≡ Some r → X
none_taken taken r h k = let f : None ≡ Some r = sym h ∙ k in cc

-- a reply that a settling may take is the sequential store's reply
settling_known : (s : Setup) (c : Call) (v : Versions) (store : Contents) (m : Wires) (f : Field) (bit : ℕ) (begun is : Bool) (taken : Option Reply) (t : copies.Settling) →
    KnowsClosing s c v store m (Settles f bit begun taken is t) → (r : Reply) → taken ≡ Some r → r ≡ reply c store
settling_known s c v store m f bit begun false taken t h r k = none_taken taken r h.0 k
settling_known s c v store m Commit bit begun true taken t h r k = let f : Some r ≡ Some (reply c store) = sym k ∙ h.reply_is in cc
settling_known s c v store m _ bit begun true taken t h r k = none_taken taken r h.0 k

closing_true : (s : Setup) (past : Past) (c : Call) (m : Wires) (at : Closing) (flick : Bool) (n : Next) → closing_next c at flick ≡ Some n → KnowsClosing s c (versions s past) (store_of s past) m at → AreTrue s past c n.marks
closing_true s past c m at flick n next h = go at next h
  where
    of_next : (x : Next) → Some x ≡ Some n → AreTrue s past c x.marks → AreTrue s past c n.marks
    of_next x e h = let f : x ≡ n = cc in subst (λ (y : Next). AreTrue s past c y.marks) f h

    one : (m : Mark) (b : Bool) → IsTrueMark s past c m → AreTrue s past c (cond b (m ∷ []) [])
    one m b h = where_so (IsTrueMark s past c) b (m ∷ []) λ by. (h, tt)

    go : (at : Closing) → closing_next c at flick ≡ Some n → KnowsClosing s c (versions s past) (store_of s past) m at → AreTrue s past c n.marks
    go (Withdraws w) k h = of_next _ k (one (mark.Answered answer.Withdrawn) (is_last_written c (no_ticket c) w) tt)
    go (Settles f bit begun taken is t) k h = of_next _ k (
        settled_true s past c begun (copies.settled_at t flick) (is_last_settled c t (copies.settled_at t flick)) taken
        (settling_known s c (versions s past) (store_of s past) m f bit begun is taken t h)
        )
    go (Frees is w) k h = of_next _ k (one mark.Left (is && is_unwritten w) tt)
    go (Lowers w) k h = of_next _ k (one mark.Down (is_last_written c (false ∷ []) w) tt)
    go Quit k h = cc
    go Ended k h = cc

-- Entries.

happens_true : (s : Setup) → IsGood s → (events : List Event) (e : Entry) → let past : Past = past_of s events in e.process < s.processes → Data s past → (d' : Doing) → Happens s past e.process e (doing s e.process past) d' →
    AreTrue s past (call_of s past e) e.marks
happens_true s g events e below known d' (a_call command number was none m k) = subst (AreTrue s (past_of s events) (call_of s (past_of s events) e)) (sym m) (tt, tt)
happens_true s g events e below known d' (a_withdrawal command number t w ws run was none m k) = subst (AreTrue s (past_of s events) (call_of s (past_of s events) e)) (sym m) (tt, tt)
happens_true s g events e below known d' (a_failure command number may none m k) = subst (AreTrue s (past_of s events) (call_of s (past_of s events) e)) (sym m) (tt, tt)
happens_true s g events e below known d' (a_restart was none m k) = subst (AreTrue s (past_of s events) (call_of s (past_of s events) e)) (sym m) (tt, tt)
happens_true s g events e below known d' (a_closing command number at flick n was next access same m k) =
    let past : Past = past_of s events in
    let p : ℕ = e.process in
    let c : Call = call s p command number in
    subst (AreTrue s past (call_of s past e)) (sym m)
    (subst (λ (d : Call). AreTrue s past d (map (placed (length (history s past))) n.marks)) (sym (subst (IsOfCall s p (last_call s p (own p past))) was (of_call s g events p)))
    (all_placed s past c (length (history s past)) n.marks (closing_true s past c (wires s past p) at flick n next (subst (KnowsData s past p (versions s past) (store_of s past) (wires s past p) (λ o. touches s past o p)) was (known.knows p below)))))
happens_true s g events e below known d' (a_step command number at a flick was over access made m k) =
    subst (AreTrue s past (call_of s past e)) (sym m)
    (subst (λ (d : Call). AreTrue s past d (map (placed (length (history s past))) (marks_of c at (value_of a.how)))) (sym (subst (IsOfCall s p (last_call s p (own p past))) was (of_call s g events p)))
    (all_placed s past c (length (history s past)) (marks_of c at (value_of a.how))
    (subst (λ (y : Access). AreTrue s past c (marks_of c at (value_of y.how))) (sym made)
    (joined (IsTrueMark s past c) (cond (is_fresh at.run) (first_marks at.part) []) (cond (is_last c at.part at.run) (last_marks c at.part bits) [])
    (where_so (IsTrueMark s past c) (is_fresh at.run) (first_marks at.part) λ fresh. first_true s past c at.part)
    (where_so (IsTrueMark s past c) (is_last c at.part at.run) (last_marks c at.part bits) λ last. last_true s past c at.part bits (step_known s g events e below known command number at.part at.run flick was (access ∙ ap Some made) last))))))
  where
    past : Past
    past = past_of s events

    p : ℕ
    p = e.process

    c : Call
    c = call s p command number

    bits : List Bool
    bits = bits_with at.run (value_of (valued s past flick (access_at c at.part at.run)).how)

-- All marks of an entry about its call are true.
pub entry_true : (s : Setup) → IsGood s → (events : List Event) (event : Event) (e : Entry) → entry_of s (past_of s events) event ≡ Some e → Data s (past_of s events) → AreTrue s (past_of s events) (call_of s (past_of s events) e) e.marks
entry_true s g events event e is known =
    let step = accepted s g events event e is in
    happens_true s g events e step.below known (doing s e.process (e ∷ past_of s events)) step.happens

-- A command that is taken has its place in the history, and the sequential store's reply there.
pub taken_in_history : (s : Setup) → IsGood s → (events : List Event) (event : Event) (e : Entry) → entry_of s (past_of s events) event ≡ Some e → let past : Past = past_of s events in Data s past →
    (k : ℕ) (r : Reply) → Contains (takings e.marks) (k, r) → (k ≡ length (history s past)) × (r ≡ reply_to (store_after s (history s past)) (call_of s past e).command (caller (call_of s past e)))
taken_in_history s g events event e is known k r there =
    let past : Past = past_of s events in
    (at_its_place s g events event e is k r there, taken_true s past (call_of s past e) e.marks (entry_true s g events event e is known) k r there)

-- `StampsFull` is answered only to a command that would change the store, and only where no further change fits.
pub stamps_full : (s : Setup) → IsGood s → (events : List Event) (event : Event) (e : Entry) → entry_of s (past_of s events) event ≡ Some e → let past : Past = past_of s events in Data s past →
    Contains e.marks (mark.Answered answer.StampsFull) → IsStampsFull s past (call_of s past e) answer.StampsFull
stamps_full s g events event e is known there =
    let past : Past = past_of s events in
    one_true (IsTrueMark s past (call_of s past e)) e.marks (mark.Answered answer.StampsFull) (entry_true s g events event e is known) there
