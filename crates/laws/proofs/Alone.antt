-- Registers of versions are touched inside alone.
use Rattle.std.proofs.Common.{◌≡◌, ℕ, Bool, true, false, cond, List, [], ◌∷◌, Some, None, refl, sym, ap, subst, ◌∙◌, true≢false, IsTrue}
use Rattle.model.specs.reader_copies.Runs as copies
use Rattle.model.specs.safe_bit.{is_of_write}
use Rattle.model.specs.reader_copies.{IsWrite}
use Rattle.model.specs.{Access, Call, Closing, Ended, Entry, Event, Frees, Next, Past, Place, Quit, Reading, Run, Settles, Wait, Withdraws, Writing, access_at, closing_after, closing_next, entry_of, freeing, inside, is_commit, is_fresh, is_last_settled, is_last_written, is_version, no_ticket, past_of, place_after, value_of, valued, write_moved}
use Rattle.model.specs.declared.access.Field.TheVariants.{Choosing, Ticket}
use Rattle.plain_store.specs.{Command, Setup}
use Rattle.model.specs.Closings as closing
use Rattle.model.specs.Parts.{Part, Waits, AsksCommit, AsksStamp, AsksImage, WritesImage, WritesStamp, WritesCommit, is_over, read_at, written_at}
use Rattle.model.proofs.Singles.{is_of_write-true}
use Rattle.model.proofs.Width.{IsGood}
use Rattle.model.specs.safe_number.{new_write}
use Rattle.laws.specs.{Doing, Rests, Lies, Runs, Closes, call, runs, closes, doing, is_inside, is_inside_at}
use Rattle.laws.proofs.Doings.{IsCut, at_rest, between, within, leaving, clearing, Step, calls, withdraws, fails, restarts, steps, closes_on}
use Rattle.laws.proofs.Notes.{Notes, notes}
use Rattle.laws.proofs.Invariant.{Corresponds, PartCorresponds, IsWait, wires}
use Rattle.laws.proofs.Frame.{doing-other}
use Rattle.laws.proofs.FrameInside.{inside-is}
use Rattle.laws.proofs.FrameCells.{EntryBy, marks_only, makes}
use Rattle.laws.proofs.FrameSteps.{entry-by, step_of}
use Rattle.laws.proofs.AtPlaces.{own-induction}
use Rattle.laws.proofs.Theorems.{IsKept, mutual_exclusion}

-- a memory unit that settles a version's bit works for a process that is inside, and only a commit bit may take the command
abbrev pub SettlesInside : Closing → Type 0
SettlesInside (Settles f bit begun taken is t) = (is_version f ≡ true → is ≡ true) × (is_commit f ≡ false → taken ≡ None)
SettlesInside _ = Unit {0}

abbrev pub ClosesInside : Doing → Type 0
ClosesInside Rests = Unit {0}
ClosesInside Lies = Unit {0}
ClosesInside (Runs command number at) = Unit {0}
ClosesInside (Closes command number at) = SettlesInside at

-- a process that writes a version is inside
pub version-written : (c : Call) (part : Part) (fresh : Bool) → is_version (written_at c part).0 ≡ true → is_inside_at part fresh ≡ true
version-written c (WritesImage vs st) fresh h = refl
version-written c (WritesStamp vs st) fresh h = refl
version-written c (WritesCommit vs st) fresh h = refl
version-written c _ fresh h = absurd (true≢false (sym h))

cut-inside : (s : Setup) (p : ℕ) (c : Call) (cl : Closing) {d : Doing} → IsCut s p c cl d → SettlesInside cl
cut-inside s p c cl (at_rest e) = subst SettlesInside (sym e) tt
cut-inside s p c cl (between command number at e) = subst SettlesInside (sym e) tt
cut-inside s p c cl (within command number at bit begun taken t e r f) = subst SettlesInside (sym e) (
  λ h. version-written (call s p command number) at.part (is_fresh at.run) h,
  λ h. ap (λ b. cond b (Some taken) None) h,
)
cut-inside s p c cl (leaving command number w e) = subst SettlesInside (sym e) tt
cut-inside s p c cl (clearing command number w bit begun t e u) = subst SettlesInside (sym e) ((λ h. absurd (true≢false (sym h))), λ h. refl)

on-closes : (command : Command) (number : ℕ) (at : Closing) → SettlesInside at → ClosesInside (closes command number at)
on-closes command number (Withdraws w) h = tt
on-closes command number (Settles f bit begun taken is t) h = h
on-closes command number _ h = tt

on-runs : (command : Command) (number : ℕ) (at : Place) → ClosesInside (runs command number at)
on-runs command number at = go (is_over at.part)
  where
    go : (b : Bool) → ClosesInside (cond b Rests (Runs command number at))
    go true = tt
    go false = tt

on-after : (c : Call) (at : Closing) (flick : Bool) → SettlesInside at → SettlesInside (closing_after c at flick)
on-after c (Withdraws w) flick h = go (is_last_written c (no_ticket c) w)
  where
    go : (b : Bool) → SettlesInside (cond b Quit (Withdraws (write_moved c.setup.processes (no_ticket c) w)))
    go true = tt
    go false = tt
on-after c (Settles f bit begun taken is t) flick h = go (is_last_settled c t (copies.settled_at t flick))
  where
    go : (b : Bool) → SettlesInside (cond b (freeing c is) (Settles f bit begun taken is (copies.settle_after t (copies.settled_at t flick))))
    go true = tt
    go false = h
on-after c (Frees is w) flick h = go (is_last_written c (no_ticket c) w)
  where
    go : (b : Bool) → SettlesInside (cond b (closing.Lowers (new_write 1)) (Frees is (write_moved c.setup.processes (no_ticket c) w)))
    go true = tt
    go false = tt
on-after c (closing.Lowers w) flick h = go (is_last_written c (false ∷ []) w)
  where
    go : (b : Bool) → SettlesInside (cond b Ended (closing.Lowers (write_moved c.setup.processes (false ∷ []) w)))
    go true = tt
    go false = tt
on-after c Quit flick h = tt
on-after c Ended flick h = tt

on-step : (s : Setup) (past : Past) (p : ℕ) (e : Entry) (d d' : Doing) → Step s past p e d d' → ClosesInside d → ClosesInside d'
on-step s past p e d d' (calls command number i a k) h = subst ClosesInside (sym k) tt
on-step s past p e d d' (withdraws command number t w ws run i a k) h = subst ClosesInside (sym k) tt
on-step s past p e d d' (fails command number cl cut a k) h = subst ClosesInside (sym k) (cut-inside s p (call s p command number) cl cut)
on-step s past p e d d' (restarts i a k) h = subst ClosesInside (sym k) tt
on-step s past p e d d' (steps command number at a flick i o is made k) h = subst ClosesInside (sym k) (on-runs command number (place_after (call s p command number) at (value_of a.how)))
on-step s past p e d d' (closes_on command number at flick n i next is k) h =
    subst ClosesInside (sym k) (on-closes command number (closing_after (call s p command number) at flick) (on-after (call s p command number) at flick (subst ClosesInside i h)))

pub closes_inside : (s : Setup) → IsGood s → (events : List Event) (p : ℕ) → ClosesInside (doing s p (past_of s events))
closes_inside s g = own-induction s (λ (past : Past) (p : ℕ). ClosesInside (doing s p past)) (λ p. tt)
    (λ past e p apart h. subst ClosesInside (sym (doing-other s p e past apart)) h)
    (λ events event e is h. on-step s (past_of s events) e.process e (doing s e.process (past_of s events)) (doing s e.process (e ∷ past_of s events)) (step_of s g events event e is).2 h)

-- a process that waits reads no version
waits-apart : (held_at since : ℕ) (from to : ℕ → ℕ) (w : Wait) (ws : List Wait) (j : ℕ) (js : List ℕ) → IsWait held_at since from to w ws j js → is_version w.1 ≡ false
waits-apart held_at since from to (i, Choosing) ws j js h = refl
waits-apart held_at since from to (i, Ticket) ws j js h = refl
waits-apart held_at since from to _ ws j js h = absurd h

version-read : (s : Setup) (p : ℕ) (c : Call) (n : Notes) (part : Part) (fresh : Bool) → PartCorresponds s p n part fresh → is_version (read_at c part).1 ≡ true → is_inside_at part fresh ≡ true
version-read s p c n (Waits t w ws) fresh st h = absurd (true≢false (sym h ∙ waits-apart _ _ _ _ w ws st.now st.next st.wait))
version-read s p c n (AsksCommit k ks vs) fresh st h = refl
version-read s p c n (AsksStamp k ks vs b) fresh st h = refl
version-read s p c n (AsksImage vs) fresh st h = refl
version-read s p c n _ fresh st h = absurd (true≢false (sym h))

pub version-at : (s : Setup) (p : ℕ) (c : Call) (n : Notes) (part : Part) (run : Run) → PartCorresponds s p n part (is_fresh run) → is_version (access_at c part run).field ≡ true → is_inside_at part (is_fresh run) ≡ true
version-at s p c n part (Writing w) st h = version-written c part (is_fresh (Writing w)) h
version-at s p c n part (Reading bits begun) st h = version-read s p c n part (is_fresh (Reading bits begun)) st h

version-closing : (c : Call) (command : Command) (number : ℕ) (at : Closing) (flick : Bool) (n : Next) → closing_next c at flick ≡ Some n → SettlesInside at → is_version n.access.field ≡ true →
    is_inside (Closes command number at) ≡ true
version-closing c command number at flick n next settles h = go at next settles
  where
    of_next : (x : Next) → Some x ≡ Some n → is_version x.access.field ≡ true
    of_next x e = let f : x ≡ n = cc in ap (λ (y : Next). is_version y.access.field) f ∙ h

    go : (at : Closing) → closing_next c at flick ≡ Some n → SettlesInside at → is_inside (Closes command number at) ≡ true
    go (Withdraws w) k x = absurd (true≢false (sym (of_next _ k)))
    go (Settles f bit begun taken is t) k x = x.0 (of_next _ k)
    go (Frees is w) k x = absurd (true≢false (sym (of_next _ k)))
    go (closing.Lowers w) k x = absurd (true≢false (sym (of_next _ k)))
    go Quit k x = cc
    go Ended k x = cc

-- an access to a version's register is made inside
inside-step : (s : Setup) (past : Past) (p : ℕ) (e : Entry) (d d' : Doing) (n : Notes) → Step s past p e d d' → Corresponds s p n (wires s past p) d → ClosesInside d → (a : Access) → e.access ≡ Some a → is_version a.field ≡ true → is_inside d ≡ true
inside-step s past p e d d' n (calls command number i none k) st cl a is h = let f : None ≡ Some a = sym none ∙ is in cc
inside-step s past p e d d' n (withdraws command number t w ws run i none k) st cl a is h = let f : None ≡ Some a = sym none ∙ is in cc
inside-step s past p e d d' n (fails command number x cut none k) st cl a is h = let f : None ≡ Some a = sym none ∙ is in cc
inside-step s past p e d d' n (restarts i none k) st cl a is h = let f : None ≡ Some a = sym none ∙ is in cc
inside-step s past p e d d' n (steps command number at b flick i o acc made k) st cl a is h =
    let f : Some b ≡ Some a = sym acc ∙ is in
    let same : b ≡ a = cc in
    let c : Call = call s p command number in
    let corresponds : Corresponds s p n (wires s past p) (Runs command number at) = subst (Corresponds s p n (wires s past p)) i st in
    ap is_inside i ∙ version-at s p c n at.part at.run corresponds.1 (ap (λ (x : Access). is_version x.field) (sym made ∙ same) ∙ h)
inside-step s past p e d d' n (closes_on command number at flick x i next acc k) st cl a is h =
    let f : Some (valued s past flick x.access) ≡ Some a = sym acc ∙ is in
    let same : valued s past flick x.access ≡ a = cc in
    ap is_inside i ∙ version-closing (call s p command number) command number at flick x next (subst ClosesInside i cl) (ap (λ (y : Access). is_version y.field) same ∙ h)

pub touched_inside : (s : Setup) → IsGood s → IsKept s → (events : List Event) (event : Event) (e : Entry) → entry_of s (past_of s events) event ≡ Some e →
    (a : Access) → e.access ≡ Some a → IsTrue (is_version a.field) → IsTrue (inside e.process (past_of s events))
touched_inside s g kept events event e is a acc h =
    let past : Past = past_of s events in
    let step = step_of s g events event e is in
    inside-is s g events e.process
    ∙ inside-step s past e.process e (doing s e.process past) (doing s e.process (e ∷ past)) (notes s e.process past) step.2 ((kept events).own e.process step.1).corresponds (closes_inside s g events e.process) a acc h

pub alone : (s : Setup) → IsGood s → IsKept s → (events : List Event) (p : ℕ) → IsTrue (inside p (past_of s events)) → (j : ℕ) → IsTrue (inside j (past_of s events)) → j ≡ p
alone s g kept events p h j k = mutual_exclusion s g kept events j p k h

-- a process that writes a register owns it
pub owner_writes : (s : Setup) → IsGood s → (events : List Event) (event : Event) (e : Entry) → entry_of s (past_of s events) event ≡ Some e → (a : Access) → e.access ≡ Some a → IsWrite a.how → a.owner ≡ e.process
owner_writes s g events event e is a acc w = go (entry-by s g events event e is)
  where
    go : EntryBy e.process e → a.owner ≡ e.process
    go (marks_only none) = let f : None ≡ Some a = sym none ∙ acc in cc
    go (makes x h by) =
        let f : Some x ≡ Some a = sym h ∙ acc in
        let same : x ≡ a = cc in
        sym (ap (λ (y : Access). y.owner) same) ∙ by.writes (ap (λ (y : Access). is_of_write y.how) same ∙ is_of_write-true a.how w)
