-- A memory unit settles a bit of a process that was inside. The bit is in a register that is not committed, or is a commit bit, whose last access takes the command if it settles at the new value.
use Rattle.std.proofs.Common.{◌≡◌, ℕ, Bool, true, false, cond, not, List, [], ◌∷◌, length, map, Option, None, Some, refl, sym, ap, subst, ◌∙◌}
use Rattle.std.proofs.lemmas.Bool.{false≢true}
use Rattle.model.specs.reader_copies.Runs as copies
use Rattle.model.specs.safe_bit.{read_value}
use Rattle.model.specs.{Access, Call, Closing, Entry, Event, Field, Next, Past, Settles, access_of, caller, closing_after, closing_next, ended_with, entry_of, freeing, history, is_last_settled, last_call, moves_of, opening_bit, own, past_of, placed, reply, reply_taken, settled_marks, valued}
use Rattle.model.specs.declared.access.Field.TheVariants.{Choosing, Ticket, Commit, Stamp0, Stamp1, Image0, Image1}
use Rattle.plain_store.specs.{Command, Contents, Reply, Setup, after}
use Rattle.model.proofs.Width.{IsGood}
use Rattle.laws.specs.{Doing, Closes, call, closes, doing}
use Rattle.laws.proofs.Frame.{Happens, a_call, a_withdrawal, a_failure, a_restart, a_step, a_closing, may_fail}
use Rattle.laws.proofs.FrameEvents.{accepted}
use Rattle.laws.proofs.FrameSteps.{entry-by}
use Rattle.laws.proofs.Invariant.{Touches, Wires, touches, wires}
use Rattle.laws.proofs.Writing.{Rewired}
use Rattle.history_laws.proofs.Entering.{closes-known}
use Rattle.history_laws.proofs.EntrySteps.{IsOfCall, KnowsThen, Works, busy, of_call, takes_change, takes_none, turns}
use Rattle.history_laws.proofs.EntryWrites.{writes_one}
use Rattle.history_laws.proofs.Kept.{Data, KnowsData, KnowsSettling, SettlesCommit, is_commit_field}
use Rattle.history_laws.proofs.Lifting.{Keeps}
use Rattle.history_laws.proofs.Sound.{IsGivenTo, IsStoreOf}
use Rattle.history_laws.proofs.Sounding.{after_is_store}
use Rattle.history_laws.proofs.Uncommitted.{TurnsBusy, WritesOne}
use Rattle.history_laws.proofs.VersionSettles.{commit_settled_new, commit_settled_old, commit_settles_on, is_new, register_known, register_settles, register_settles_on, settled_wire, settles_copy}
use Rattle.history_laws.proofs.Versions.{Versions, store_of, versions}

-- The command that it takes.

-- the reply that the settling of a bit at x takes
abbrev settled_reply : (begun : Bool) → Option Reply → (x : Bool) → Option Reply
settled_reply begun taken x = elim taken [ None ↦ None | Some r ↦ cond (is_new begun x) (Some r) None ]

-- the reply in the marks of a settling
settled_taken : (n : ℕ) (last begun : Bool) (taken : Option Reply) (x : Bool) → reply_taken (map (placed n) (cond last (settled_marks begun taken x) [])) ≡ cond last (settled_reply begun taken x) None
settled_taken n false begun taken x = refl
settled_taken n true begun None x = refl
settled_taken n true begun (Some r) true = go begun
  where
    go : (b : Bool) → reply_taken (map (placed n) (settled_marks b (Some r) true)) ≡ cond b (Some r) None
    go true = refl
    go false = refl
settled_taken n true begun (Some r) false = go begun
  where
    go : (b : Bool) → reply_taken (map (placed n) (settled_marks b (Some r) false)) ≡ cond (not b) (Some r) None
    go true = refl
    go false = refl

-- The step.

-- the unit of p settles a bit of a field
abbrev settling : Field → ℕ → Bool → Option Reply → copies.Settling → Closing
settling f b begun taken t = Settles f b begun taken true t

-- the access of it
abbrev settle_access : Setup → Past → ℕ → Field → ℕ → copies.Settling → Bool → Access
settle_access s past p f b t flick = valued s past flick (access_of p f (b, copies.next_settle t (copies.settled_at t flick)))

-- the closing after it
abbrev settles_to : Setup → ℕ → Command → ℕ → Field → ℕ → Bool → Option Reply → copies.Settling → Bool → Closing
settles_to s p command number f b begun taken t flick = closing_after (call s p command number) (settling f b begun taken t) flick

-- the unit makes that access, and the invariant of the data holds
record AtSettling (s : Setup) (past : Past) (e : Entry) (command : Command) (number : ℕ) (f : Field) (b : ℕ) (begun : Bool) (taken : Option Reply) (t : copies.Settling) (flick : Bool) : Type 0 where
  works : Works s past e (settle_access s past e.process f b t flick) (Closes command number (settling f b begun taken t)) (closes command number (settles_to s e.process command number f b begun taken t flick))
  marks : e.marks ≡ map (placed (length (history s past))) (cond (is_last_settled (call s e.process command number) t (copies.settled_at t flick)) (settled_marks begun taken (copies.settled_at t flick)) [])
  of : last_call s e.process (own e.process past) ≡ call s e.process command number
  data_is : Data s past

-- its knowledge before
knew : (s : Setup) (past : Past) (e : Entry) (command : Command) (number : ℕ) (f : Field) (b : ℕ) (begun : Bool) (taken : Option Reply) (t : copies.Settling) (flick : Bool) → AtSettling s past e command number f b begun taken t flick →
    KnowsSettling s (call s e.process command number) (versions s past) (store_of s past) (wires s past e.process) f b begun taken t
knew s past e command number f b begun taken t flick h =
    subst (KnowsData s past e.process (versions s past) (store_of s past) (wires s past e.process) (λ o. touches s past o e.process)) h.works.was (h.data_is.knows e.process h.works.below)

-- the step writes the field alone
one : (s : Setup) (past : Past) (e : Entry) (command : Command) (number : ℕ) (f : Field) (b : ℕ) (begun : Bool) (taken : Option Reply) (t : copies.Settling) (flick : Bool) → AtSettling s past e command number f b begun taken t flick →
    WritesOne e.process f (wires s past) (wires s (e ∷ past))
one s past e command number f b begun taken t flick h = writes_one s past e.process e (settle_access s past e.process f b t flick) h.works.by h.works.access

-- the reply in its marks
takes : (s : Setup) (past : Past) (e : Entry) (command : Command) (number : ℕ) (f : Field) (b : ℕ) (begun : Bool) (taken : Option Reply) (t : copies.Settling) (flick : Bool) → AtSettling s past e command number f b begun taken t flick →
    let x : Bool = copies.settled_at t flick in reply_taken e.marks ≡ cond (is_last_settled (call s e.process command number) t x) (settled_reply begun taken x) None
takes s past e command number f b begun taken t flick h =
    let x : Bool = copies.settled_at t flick in
    ap reply_taken h.marks ∙ settled_taken (length (history s past)) (is_last_settled (call s e.process command number) t x) begun taken x

-- a bit of a register that isn't committed: nothing is taken
register_keeps : (s : Setup) (past : Past) (e : Entry) (command : Command) (number : ℕ) (f : Field) (b : ℕ) (begun : Bool) (taken : Option Reply) (t : copies.Settling) (flick : Bool) → is_commit_field f ≡ false →
    AtSettling s past e command number f b begun taken t flick → Keeps s past e
register_keeps s past e command number f b begun taken t flick apart h =
    let p : ℕ = e.process in
    let c : Call = call s p command number in
    let v : Versions = versions s past in
    let store : Contents = store_of s past in
    let d : Doing = Closes command number (settling f b begun taken t) in
    let to : Closing = settles_to s p command number f b begun taken t flick in
    let d' : Doing = closes command number to in
    let x : Bool = copies.settled_at t flick in
    let known = knew s past e command number f b begun taken t flick h in
    let none = register_known s c v store (wires s past p) f b begun taken t apart known in
    takes_none s past e d' (takes s past e command number f b begun taken t flick h ∙ ap (λ o. cond (is_last_settled c t x) (settled_reply begun o x) None) none.0 ∙ nothing (is_last_settled c t x)) h.works.is
    (register_settles s p f d d' v store (busy s past) (busy s (e ∷ past)) (wires s past) (wires s (e ∷ past)) none.1 apart (one s past e command number f b begun taken t flick h) (turns s past e _ d d' h.works) h.data_is.kept)
    (closes-known s (e ∷ past) p v store (wires s (e ∷ past) p) (λ o. touches s (e ∷ past) o p) command number to (register_settles_on s c v store (wires s past p) (wires s (e ∷ past) p) f b begun taken t flick apart known))
  where
    nothing : (last : Bool) → cond last (let none : Option Reply = None in none) None ≡ None
    nothing true = refl
    nothing false = refl

-- a commit bit
commit_keeps : (s : Setup) (past : Past) (e : Entry) (command : Command) (number : ℕ) (b : ℕ) (begun : Bool) (taken : Option Reply) (t : copies.Settling) (flick : Bool) →
    AtSettling s past e command number Commit b begun taken t flick → Keeps s past e
commit_keeps s past e command number b begun taken t flick h = go (is_last_settled c t x) (is_new begun x) refl refl
  where
    p : ℕ
    p = e.process

    c : Call
    c = call s p command number

    x : Bool
    x = copies.settled_at t flick

    v : Versions
    v = versions s past

    store : Contents
    store = store_of s past

    m : ℕ → Wires
    m = wires s past

    m' : ℕ → Wires
    m' = wires s (e ∷ past)

    t' : ℕ → Touches
    t' o = touches s (e ∷ past) o p

    at : Closing
    at = settling Commit b begun taken t

    to : Closing
    to = settles_to s p command number Commit b begun taken t flick

    known : SettlesCommit s c v store b begun taken t (m p)
    known = knew s past e command number Commit b begun taken t flick h

    alone : WritesOne p Commit m m'
    alone = one s past e command number Commit b begun taken t flick h

    copied : Rewired (m p Commit) (m' p Commit) b t.reader (settled_wire t x (m p Commit b t.reader))
    copied = settles_copy s past p e Commit b t flick h.works.access

    turned : TurnsBusy p (Closes command number at) (closes command number to) (busy s past) (busy s (e ∷ past))
    turned = turns s past e (settle_access s past p Commit b t flick) _ _ h.works

    given : IsGivenTo (Closes command number at)
    given = subst IsGivenTo h.works.was (h.data_is.given p h.works.below)

    sound : IsStoreOf s (after store command (caller c))
    sound = after_is_store s store command (caller c) h.data_is.kept.sound given.0 given.1

    reply_is : (last new : Bool) → is_last_settled c t x ≡ last → is_new begun x ≡ new → reply_taken e.marks ≡ cond last (cond new (Some (reply c store)) None) None
    reply_is last new k l = takes s past e command number Commit b begun taken t flick h ∙ (λ i. cond (k i) (settled_reply begun (known.reply_is i) x) None) ∙ ap (λ n. cond last (cond n (Some (reply c store)) None) None) l

    -- after the last access the unit clears the ticket
    frees : is_last_settled c t x ≡ true → (v' : Versions) (store' : Contents) → KnowsThen s past e v' store' (closes command number to)
    frees last v' store' = subst (λ (y : Closing). KnowsThen s past e v' store' (closes command number y)) (sym (ap (λ l. cond l (freeing c true) (settling Commit b begun taken (copies.settle_after t x))) last)) tt

    go : (last new : Bool) → is_last_settled c t x ≡ last → is_new begun x ≡ new → Keeps s past e
    go false new more k =
        let on = commit_settles_on s p command number b begun taken t flick v store (busy s past) (busy s (e ∷ past)) m m' more known alone copied turned h.data_is.kept in
        takes_none s past e (closes command number to) (reply_is false new more k) h.works.is on.0 (closes-known s (e ∷ past) p v store (m' p) t' command number to on.1)
    go true false last old =
        takes_none s past e (closes command number to) (reply_is true false last old) h.works.is
        (commit_settled_old s p command number b begun taken t flick v store (busy s past) (busy s (e ∷ past)) m m' last old known alone copied turned.others h.data_is.kept) (frees last v store)
    go true true last new =
        takes_change s past e command number (reply c store) (closes command number to) (reply_is true true last new) h.of known.changing h.works.is
        (commit_settled_new s p command number b begun taken t flick v store (busy s past) (busy s (e ∷ past)) m m' h.works.below last new sound known alone copied turned.others h.data_is.kept)
        (frees last (versions s (e ∷ past)) (store_of s (e ∷ past)))

-- any of them
field_keeps : (s : Setup) (past : Past) (e : Entry) (command : Command) (number : ℕ) (f : Field) (b : ℕ) (begun : Bool) (taken : Option Reply) (t : copies.Settling) (flick : Bool) → AtSettling s past e command number f b begun taken t flick → Keeps s past e
field_keeps s past e command number Commit b begun taken t flick h = commit_keeps s past e command number b begun taken t flick h
field_keeps s past e command number Choosing b begun taken t flick h = register_keeps s past e command number Choosing b begun taken t flick refl h
field_keeps s past e command number Ticket b begun taken t flick h = register_keeps s past e command number Ticket b begun taken t flick refl h
field_keeps s past e command number Stamp0 b begun taken t flick h = register_keeps s past e command number Stamp0 b begun taken t flick refl h
field_keeps s past e command number Stamp1 b begun taken t flick h = register_keeps s past e command number Stamp1 b begun taken t flick refl h
field_keeps s past e command number Image0 b begun taken t flick h = register_keeps s past e command number Image0 b begun taken t flick refl h
field_keeps s past e command number Image1 b begun taken t flick h = register_keeps s past e command number Image1 b begun taken t flick refl h

-- a unit settles a bit of a process that was inside
abbrev settles_inside : Doing → Bool
settles_inside (Closes command number (Settles f b begun taken is t)) = is
settles_inside _ = false

-- an access of a closing of an accepted event
closing_keeps : (s : Setup) → IsGood s → (events : List Event) (what : Event) (e : Entry) (command : Command) (number : ℕ) (at : Closing) (flick : Bool) (n : Next) → let past : Past = past_of s events in
    entry_of s past what ≡ Some e → doing s e.process past ≡ Closes command number at → settles_inside (Closes command number at) ≡ true → closing_next (call s e.process command number) at flick ≡ Some n →
    e.access ≡ Some n.access → ended_with (read_value (opening_bit s n.access) (moves_of n.access past) flick) n.access ≡ n.access → e.marks ≡ map (placed (length (history s past))) n.marks →
    doing s e.process (e ∷ past) ≡ closes command number (closing_after (call s e.process command number) at flick) → Data s past → Keeps s past e
closing_keeps s g events what e command number (Settles f b begun taken true t) flick n h was inside next access same marks then known =
    field_keeps s past e command number f b begun taken t flick (record {
      works = record {
        below = (accepted s g events what e h).below;
        by = entry-by s g events what e h;
        access = access ∙ ap Some (sym same) ∙ ap (λ (n : Next). Some (valued s past flick n.access)) is;
        was = was;
        is = then;
      };
      marks = marks ∙ ap (λ (n : Next). map (placed (length (history s past))) n.marks) is;
      of = subst (IsOfCall s e.process (last_call s e.process (own e.process past))) was (of_call s g events e.process);
      data_is = known;
    })
  where
    past : Past
    past = past_of s events

    x : Bool
    x = copies.settled_at t flick

    made : Next
    made = record { access = access_of e.process f (b, copies.next_settle t x); marks = cond (is_last_settled (call s e.process command number) t x) (settled_marks begun taken x) [] }

    is : n ≡ made
    is = let f : Some made ≡ Some n = next in cc
closing_keeps s g events what e command number (Settles f b begun taken false t) flick n h was inside next access same marks then known = absurd (false≢true inside)
closing_keeps s g events what e command number _ flick n h was inside next access same marks then known = absurd (false≢true inside)

-- A step of a memory unit that settles a bit of a process that was inside keeps the data.
pub settling-keeps : (s : Setup) → IsGood s → (events : List Event) (what : Event) (e : Entry) → let past : Past = past_of s events in
    entry_of s past what ≡ Some e → (command : Command) (number : ℕ) (f : Field) (b : ℕ) (begun : Bool) (taken : Option Reply) (t : copies.Settling) → doing s e.process past ≡ Closes command number (Settles f b begun taken true t) →
    Data s past → Keeps s past e
settling-keeps s g events what e h command number f b begun taken t was known = go (accepted s g events what e h).happens
  where
    past : Past
    past = past_of s events

    inside : settles_inside (doing s e.process past) ≡ true
    inside = ap settles_inside was

    go : Happens s past e.process e (doing s e.process past) (doing s e.process (e ∷ past)) → Keeps s past e
    go (a_call command number i none marks then) = absurd (false≢true (sym (ap settles_inside i) ∙ inside))
    go (a_withdrawal command number t w ws run i none marks then) = absurd (false≢true (sym (ap settles_inside i) ∙ inside))
    go (a_failure command number may none marks then) = absurd (false≢true (sym (ap may_fail was) ∙ may))
    go (a_restart i none marks then) = absurd (false≢true (sym (ap settles_inside i) ∙ inside))
    go (a_step command number at a flick i over access is marks then) = absurd (false≢true (sym (ap settles_inside i) ∙ inside))
    go (a_closing command number at flick n i next access same marks then) =
        closing_keeps s g events what e command number at flick n h i (sym (ap settles_inside i) ∙ inside) next access same marks then known
