-- A process writes a change, by an access of the new image, of its stamp, or of the commit bit. The last end of the commit bit takes the command.
use Rattle.std.proofs.Common.{◌≡◌, ℕ, Bool, true, false, cond, List, [], ◌∷◌, ◌++◌, length, map, Option, None, Some, refl, sym, ap, subst, ◌∙◌}
use Rattle.std.proofs.lemmas.Bool.{false≢true}
use Rattle.model.specs.{Access, Call, Entry, Event, Mark, Part, Past, Place, Reading, Run, Version, WritesCommit, WritesImage, WritesStamp, Writing, access_at, caller, entry_of, history, is_fresh, is_last, is_read, last_call, marks_of, own, past_of, place_after, placed, reply, reply_taken, value_of, valued, written_at}
use Rattle.model.specs.safe_number.{NumberWrite}
use Rattle.plain_store.specs.{Command, Contents, Reply, Setup, after}
use Rattle.model.specs.declared.marks.Mark.TheVariants.{Taken}
use Rattle.model.proofs.Width.{IsGood}
use Rattle.laws.proofs.Always.{inv_of}
use Rattle.laws.specs.{Doing, Runs, call, runs, doing}
use Rattle.laws.proofs.Frame.{Happens, a_call, a_withdrawal, a_failure, a_restart, a_step, a_closing}
use Rattle.laws.proofs.FrameEvents.{Accepted, accepted}
use Rattle.laws.proofs.FrameSteps.{entry-by}
use Rattle.laws.proofs.Invariant.{Inv, Corresponds, Touches, Wires, touches, wires}
use Rattle.laws.proofs.Notes.{notes}
use Rattle.laws.proofs.Writing.{Advanced, advances}
use Rattle.history_laws.proofs.DataWrites.{commit_goes_on, commit_written, image_kept, image_written, stamp_kept, stamp_written}
use Rattle.history_laws.proofs.Entering.{runs-known}
use Rattle.history_laws.proofs.EntrySteps.{IsOfCall, Works, busy, of_call, takes_change, takes_none, turns}
use Rattle.history_laws.proofs.EntryWrites.{writes_one}
use Rattle.history_laws.proofs.Kept.{Data, KnowsAt, KnowsData}
use Rattle.history_laws.proofs.Lifting.{Keeps}
use Rattle.history_laws.proofs.Sound.{IsGivenTo, IsStoreOf}
use Rattle.history_laws.proofs.Sounding.{after_is_store}
use Rattle.history_laws.proofs.Uncommitted.{TurnsBusy, WritesOne}
use Rattle.history_laws.proofs.Versions.{Versions, store_of, versions}

-- the part writes a register of versions
abbrev pub is_data_write : Part → Bool
is_data_write (WritesImage vs st) = true
is_data_write (WritesStamp vs st) = true
is_data_write (WritesCommit vs st) = true
is_data_write _ = false

-- such a part reads nothing
writes_alone : (part : Part) → is_data_write part ≡ true → is_read part ≡ false
writes_alone (WritesImage vs st) is = refl
writes_alone (WritesStamp vs st) is = refl
writes_alone (WritesCommit vs st) is = refl
writes_alone _ is = absurd (false≢true is)

-- The command that it takes.

-- the reply in the marks of a part that has marks on its last access alone
last_taken : (n : ℕ) (fresh last : Bool) (ms : List Mark) → reply_taken (map (placed n) (cond fresh [] [] ++ cond last ms [])) ≡ cond last (reply_taken (map (placed n) ms)) None
last_taken n true true ms = refl
last_taken n true false ms = refl
last_taken n false true ms = refl
last_taken n false false ms = refl

-- an entry takes nothing if its last access has no mark
none_taken : (n : ℕ) (fresh last : Bool) → reply_taken (map (placed n) (cond fresh [] [] ++ cond last [] [])) ≡ None
none_taken n fresh last = last_taken n fresh last [] ∙ go last
  where
    go : (last : Bool) → cond last (let none : Option Reply = None in none) None ≡ None
    go true = refl
    go false = refl

-- The step.

-- a place of a write
abbrev written_to : Part → NumberWrite → Place
written_to part w = record { part = part; run = Writing w }

-- the next access of p's write
abbrev accessed : Setup → Past → ℕ → Command → ℕ → Part → NumberWrite → Bool → Access
accessed s past p command number part w flick = valued s past flick (access_at (call s p command number) part (Writing w))

-- the place of p after the access
abbrev comes_to : Setup → Past → ℕ → Command → ℕ → Part → NumberWrite → Bool → Place
comes_to s past p command number part w flick = place_after (call s p command number) (written_to part w) (value_of (accessed s past p command number part w flick).how)

-- p makes that access, and the invariants of the lock and of the data hold
record AtWrite (s : Setup) (past : Past) (e : Entry) (command : Command) (number : ℕ) (part : Part) (w : NumberWrite) (flick : Bool) : Type 0 where
  works : Works s past e (accessed s past e.process command number part w flick) (Runs command number (written_to part w)) (runs command number (comes_to s past e.process command number part w flick))
  marks : e.marks ≡ map (placed (length (history s past))) (marks_of (call s e.process command number) (written_to part w) (value_of (accessed s past e.process command number part w flick).how))
  of : last_call s e.process (own e.process past) ≡ call s e.process command number
  inv : Inv s past
  data_is : Data s past

-- the knowledge of p there
knew : (s : Setup) (past : Past) (e : Entry) (command : Command) (number : ℕ) (part : Part) (w : NumberWrite) (flick : Bool) → AtWrite s past e command number part w flick →
    KnowsAt s past (call s e.process command number) (versions s past) (store_of s past) (wires s past e.process) (λ o. touches s past o e.process) part (Writing w)
knew s past e command number part w flick h =
    subst (KnowsData s past e.process (versions s past) (store_of s past) (wires s past e.process) (λ o. touches s past o e.process)) h.works.was (h.data_is.knows e.process h.works.below)

-- the progress of the write then
further : (s : Setup) (past : Past) (e : Entry) (command : Command) (number : ℕ) (part : Part) (w : NumberWrite) (flick : Bool) → AtWrite s past e command number part w flick → let c : Call = call s e.process command number in
    Advanced s.processes (written_at c part).1 w (wires s (e ∷ past) e.process) (written_at c part).0
further s past e command number part w flick h =
    let c : Call = call s e.process command number in
    advances s past e.process e (written_at c part).0 (written_at c part).1 w flick h.works.access
    (subst (Corresponds s e.process (notes s e.process past) (wires s past e.process)) h.works.was (h.inv.own e.process h.works.below).corresponds).0.1

-- the entry writes the part's register alone
one : (s : Setup) (past : Past) (e : Entry) (command : Command) (number : ℕ) (part : Part) (w : NumberWrite) (flick : Bool) → AtWrite s past e command number part w flick →
    WritesOne e.process (written_at (call s e.process command number) part).0 (wires s past) (wires s (e ∷ past))
one s past e command number part w flick h = writes_one s past e.process e (accessed s past e.process command number part w flick) h.works.by h.works.access

-- the image
image_keeps : (s : Setup) (past : Past) (e : Entry) (command : Command) (number : ℕ) (vs : List Version) (st : Contents) (w : NumberWrite) (flick : Bool) → AtWrite s past e command number (WritesImage vs st) w flick → Keeps s past e
image_keeps s past e command number vs st w flick h =
    let p : ℕ = e.process in
    let part : Part = WritesImage vs st in
    let x : Access = accessed s past p command number part w flick in
    let to : Place = comes_to s past p command number part w flick in
    let d' : Doing = runs command number to in
    let pending = knew s past e command number part w flick h in
    takes_none s past e d' (ap reply_taken h.marks ∙ none_taken (length (history s past)) (is_fresh (Writing w)) (is_last (call s p command number) part (Writing w))) h.works.is
    (image_kept s p command number vs st w d' (versions s past) (store_of s past) (busy s past) (busy s (e ∷ past)) (wires s past) (wires s (e ∷ past)) h.works.below pending (one s past e command number part w flick h)
    (turns s past e x _ d' h.works) h.data_is.kept)
    (runs-known s (e ∷ past) p (versions s past) (store_of s past) (wires s (e ∷ past) p) (λ o. touches s (e ∷ past) o p) command number to
    (image_written s (e ∷ past) p command number vs st w (value_of x.how) (versions s past) (store_of s past) (wires s (e ∷ past)) (λ o. touches s (e ∷ past) o p) h.works.below pending (further s past e command number part w flick h)))

-- its stamp
stamp_keeps : (s : Setup) (past : Past) (e : Entry) (command : Command) (number : ℕ) (vs : List Version) (st : Contents) (w : NumberWrite) (flick : Bool) → AtWrite s past e command number (WritesStamp vs st) w flick → Keeps s past e
stamp_keeps s past e command number vs st w flick h =
    let p : ℕ = e.process in
    let part : Part = WritesStamp vs st in
    let x : Access = accessed s past p command number part w flick in
    let to : Place = comes_to s past p command number part w flick in
    let d' : Doing = runs command number to in
    let known = knew s past e command number part w flick h in
    takes_none s past e d' (ap reply_taken h.marks ∙ none_taken (length (history s past)) (is_fresh (Writing w)) (is_last (call s p command number) part (Writing w))) h.works.is
    (stamp_kept s p command number vs st w d' (versions s past) (store_of s past) (busy s past) (busy s (e ∷ past)) (wires s past) (wires s (e ∷ past)) h.works.below known.0 (one s past e command number part w flick h)
    (turns s past e x _ d' h.works) h.data_is.kept)
    (runs-known s (e ∷ past) p (versions s past) (store_of s past) (wires s (e ∷ past) p) (λ o. touches s (e ∷ past) o p) command number to
    (stamp_written s (e ∷ past) p command number vs st w (value_of x.how) (versions s past) (store_of s past) (busy s past) (wires s past) (wires s (e ∷ past)) (λ o. touches s (e ∷ past) o p) h.works.below h.data_is.kept known.0 known.1
    (one s past e command number part w flick h) (further s past e command number part w flick h)))

-- the commit bit
commit_keeps : (s : Setup) (past : Past) (e : Entry) (command : Command) (number : ℕ) (vs : List Version) (st : Contents) (w : NumberWrite) (flick : Bool) → AtWrite s past e command number (WritesCommit vs st) w flick → Keeps s past e
commit_keeps s past e command number vs st w flick h = go (is_last c part (Writing w)) refl
  where
    p : ℕ
    p = e.process

    c : Call
    c = call s p command number

    part : Part
    part = WritesCommit vs st

    x : Access
    x = accessed s past p command number part w flick

    to : Place
    to = comes_to s past p command number part w flick

    v : Versions
    v = versions s past

    store : Contents
    store = store_of s past

    m' : ℕ → Wires
    m' = wires s (e ∷ past)

    t' : ℕ → Touches
    t' o = touches s (e ∷ past) o p

    known : KnowsAt s past c v store (wires s past p) (λ o. touches s past o p) part (Writing w)
    known = knew s past e command number part w flick h

    turned : TurnsBusy p (Runs command number (written_to part w)) (runs command number to) (busy s past) (busy s (e ∷ past))
    turned = turns s past e x _ _ h.works

    given : IsGivenTo (Runs command number (written_to part w))
    given = subst IsGivenTo h.works.was (h.data_is.given p h.works.below)

    sound : IsStoreOf s (after store command (caller c))
    sound = after_is_store s store command (caller c) h.data_is.kept.sound given.0 given.1

    taken : (last : Bool) → is_last c part (Writing w) ≡ last → reply_taken e.marks ≡ cond last (Some (reply c st)) None
    taken last k = ap reply_taken h.marks ∙ last_taken (length (history s past)) (is_fresh (Writing w)) (is_last c part (Writing w)) (Taken 0 (reply c st) ∷ []) ∙ ap (λ l. cond l (Some (reply c st)) None) k

    go : (last : Bool) → is_last c part (Writing w) ≡ last → Keeps s past e
    go false more =
        let on = commit_goes_on s (e ∷ past) p command number vs st w (value_of x.how) v store (busy s past) (busy s (e ∷ past)) (wires s past) m' t' more known.0 known.1 known.2 (one s past e command number part w flick h) turned h.data_is.kept in
        takes_none s past e (runs command number to) (taken false more) h.works.is on.0 (runs-known s (e ∷ past) p v store (m' p) t' command number to on.1)
    go true last =
        let v' : Versions = versions s (e ∷ past) in
        let store' : Contents = store_of s (e ∷ past) in
        let done = commit_written s (e ∷ past) p command number vs st w (value_of x.how) v v' store store' (busy s past) (busy s (e ∷ past)) (wires s past) m' t' h.works.below last sound known.0 known.1 known.2
        (one s past e command number part w flick h) (further s past e command number part w flick h) turned.others h.data_is.kept in
        takes_change s past e command number (reply c st) (runs command number to) (taken true last) h.of known.0.changing h.works.is done.0 (runs-known s (e ∷ past) p v' store' (m' p) t' command number to done.1)

-- any of them
part_keeps : (s : Setup) (past : Past) (e : Entry) (command : Command) (number : ℕ) (part : Part) (w : NumberWrite) (flick : Bool) → is_data_write part ≡ true → AtWrite s past e command number part w flick → Keeps s past e
part_keeps s past e command number (WritesImage vs st) w flick is h = image_keeps s past e command number vs st w flick h
part_keeps s past e command number (WritesStamp vs st) w flick is h = stamp_keeps s past e command number vs st w flick h
part_keeps s past e command number (WritesCommit vs st) w flick is h = commit_keeps s past e command number vs st w flick h
part_keeps s past e command number _ w flick is h = absurd (false≢true is)

-- a part's access of an accepted event
step_keeps : (s : Setup) → IsGood s → (events : List Event) (e : Entry) (command : Command) (number : ℕ) (part : Part) (run : Run) (flick : Bool) →
    let past : Past = past_of s events in let c : Call = call s e.process command number in let at : Place = record { part = part; run = run } in let x : Access = valued s past flick (access_at c part run) in
    is_data_write part ≡ true → Works s past e x (Runs command number at) (runs command number (place_after c at (value_of x.how))) → e.marks ≡ map (placed (length (history s past))) (marks_of c at (value_of x.how)) →
    Data s past → Keeps s past e
step_keeps s g events e command number part (Writing w) flick is works marks h =
    part_keeps s (past_of s events) e command number part w flick is
    (record { works = works; marks = marks; of = subst (IsOfCall s e.process (last_call s e.process (own e.process (past_of s events)))) works.was (of_call s g events e.process); inv = inv_of s g events; data_is = h })
step_keeps s g events e command number part (Reading bits begun) flick is works marks h =
    let past : Past = past_of s events in
    let at : Place = record { part = part; run = Reading bits begun } in
    let corresponds : Corresponds s e.process (notes s e.process past) (wires s past e.process) (Runs command number at) = subst (Corresponds s e.process (notes s e.process past) (wires s past e.process)) works.was ((inv_of s g events).own e.process works.below).corresponds in
    absurd (false≢true (sym (writes_alone part is) ∙ corresponds.0.0))

-- A step of a process that writes a register of versions keeps the data.
pub write-keeps : (s : Setup) → IsGood s → (events : List Event) (what : Event) (e : Entry) → let past : Past = past_of s events in
    entry_of s past what ≡ Some e → (command : Command) (number : ℕ) (at : Place) → doing s e.process past ≡ Runs command number at → is_data_write at.part ≡ true → (a : Access) → e.access ≡ Some a → Data s past → Keeps s past e
write-keeps s g events what e h command number at was writes a access known = go acc.happens
  where
    past : Past
    past = past_of s events

    acc : Accepted s past what e
    acc = accepted s g events what e h

    accessless : {X : Type 0} → e.access ≡ None → X
    accessless none = let f : None ≡ Some a = sym none ∙ access in cc

    writing : Doing → Bool
    writing (Runs command number at) = is_data_write at.part
    writing _ = false

    is_writing : writing (doing s e.process past) ≡ true
    is_writing = ap writing was ∙ writes

    go : Happens s past e.process e (doing s e.process past) (doing s e.process (e ∷ past)) → Keeps s past e
    go (a_call command number i none marks then) = accessless none
    go (a_withdrawal command number t w ws run i none marks then) = accessless none
    go (a_failure command number may none marks then) = accessless none
    go (a_restart i none marks then) = accessless none
    go (a_step command number at b flick i over made is marks then) =
        let c : Call = call s e.process command number in
        step_keeps s g events e command number at.part at.run flick (sym (ap writing i) ∙ is_writing)
        (record { below = acc.below; by = entry-by s g events what e h; access = made ∙ ap Some is; was = i; is = then ∙ ap (λ (y : Access). runs command number (place_after c at (value_of y.how))) is })
        (marks ∙ ap (λ (y : Access). map (placed (length (history s past))) (marks_of c at (value_of y.how))) is) known
    go (a_closing command number closing flick n i next made same marks then) = absurd (false≢true (sym (ap writing i) ∙ is_writing))
