-- A failure of a process that works on versions: its unit settles the torn bit of the version that isn't committed, or the torn commit bit, and nothing that is kept is lost.
use Rattle.std.proofs.Common.{◌≡◌, ℕ, ◌<◌, ◌==◌, ◌&&◌, ◌||◌, Bool, true, false, not, cond, List, [], ◌∷◌, Option, Some, None, refl, sym, ap, subst, ◌∙◌, arith, eq-eqb, ne_eqb, true≢false, inl, inr}
use Rattle.std.proofs.lemmas.Bool.{cases_eq, false≢true}
use Rattle.std.specs.Prelude.{is_none, option_map, slice_index_or, unwrap_or}
use Rattle.model.specs.reader_copies.Runs as copies
use Rattle.model.specs.{Access, AsksCommit, AsksImage, AsksStamp, Call, Change, Closing, Entry, Event, Field, Part, Past, Place, Reading, Run, Settles, Version, Withdraws, WritesCommit, WritesImage, WritesStamp, Writing, call_number, change_of, cut, cut_at, entry_of, failing, image_field, inside, is_fresh, is_read, last_command, named, own, past_of, process_of, reply, reply_taken, stage, stamp_field, start_in, version_of}
use Rattle.model.specs.declared.access.Field.TheVariants.{Ticket, Commit}
use Rattle.model.specs.safe_number.{torn_bit, torn_run, torn_with}
use Rattle.plain_store.specs.{Command, Contents, Setup}
use Rattle.model.specs.declared.marks.Mark.TheVariants.{Failed}
use Rattle.model.proofs.CutRecords.{running-cut}
use Rattle.model.proofs.OpenSteps.{place_at}
use Rattle.model.proofs.Turns.{and_false}
use Rattle.model.proofs.Width.{IsGood}
use Rattle.laws.proofs.Always.{inv_of}
use Rattle.laws.specs.{Doing, Runs, Closes, call, doing, does_after, is_inside, is_inside_at}
use Rattle.laws.proofs.Doings.{Step}
use Rattle.laws.proofs.Frame.{Does, at_rest, lying, running, leaving, settling, may_fail, doing-goes, doing-other}
use Rattle.laws.proofs.FrameCuts.{remaining, LeftRun, LeftIn}
use Rattle.laws.proofs.FrameEvents.{does_all}
use Rattle.laws.proofs.FrameInside.{inside-is}
use Rattle.laws.proofs.FrameSteps.{remaining-is, step_of}
use Rattle.laws.proofs.FrameWires.{wires-kept}
use Rattle.laws.proofs.Invariant.{Wires, Touches, wires, touches, Corresponds, RunCorresponds}
use Rattle.laws.proofs.Notes.{notes}
use Rattle.history_laws.proofs.Versions.{Versions, versions, store_of}
use Rattle.history_laws.proofs.Kept.{Kept, KnowsAt, KnowsClosing, Pending, HasImage, HasStamp, Data, is_busy, is_commit_field, is_committing}
use Rattle.history_laws.proofs.DataWrites.{own_commit}
use Rattle.history_laws.proofs.Lifting.{Untouched, Keeps, Knows, still-outside, untouched-known}
use Rattle.history_laws.proofs.Outside.{is_working, IsApart, apart-read, untouched}
use Rattle.history_laws.proofs.Uncommitted.{WritesOne, IsUncommitted, lock_beside, kept_apart}

-- The unit that a failure starts at a part.

-- a unit's knowledge, and whether the commit bit is being settled
pub record UnitKnows (s : Setup) (c : Call) (v : Versions) (store : Contents) (m : Wires) (busy : Bool) (cl : Closing) : Type 0 where
  pub knows : KnowsClosing s c v store m cl
  pub busy_is : is_busy (Closes c.command c.number cl) ≡ busy

-- the failure interrupts a write of a register that is not committed
cut-register : (s : Setup) (c : Call) (v : Versions) (store : Contents) (m : Wires) (f : Field) (begun : Bool) (pending : Option Change) (torn : Option (ℕ × copies.Settling)) → is_commit_field f ≡ false → IsUncommitted v c.process f →
    UnitKnows s c v store m false (cut c (option_map (named f) torn) begun pending true)
cut-register s c v store m f begun pending None e h = record { knows = tt; busy_is = refl }
cut-register s c v store m Commit begun pending (Some t) e h = absurd (true≢false e)
cut-register s c v store m _ begun pending (Some t) e h = record { knows = (refl, h); busy_is = refl }

image-other : (b : Bool) → is_commit_field (image_field b) ≡ false
image-other true = refl
image-other false = refl

stamp-other : (b : Bool) → is_commit_field (stamp_field b) ≡ false
stamp-other true = refl
stamp-other false = refl

-- the failure interrupts the write of the commit bit: if the write had begun, the bit is torn, no copy is settled, and the change that it may commit is written
cut-commit : (s : Setup) (c : Call) (v : Versions) (store st : Contents) (m : Wires) (vs : List Version) (bit : ℕ) (run : Option copies.Writing) → c.process < s.processes → bit ≡ 0 → ((r : copies.Writing) → run ≡ Some r → (0 < r.made) × (r.ended ≡ false)) →
    Pending s c v store vs st → HasImage s c v store m → HasStamp s c v m →
    UnitKnows s c v store m (not ((bit == 0) && is_none run)) (cut c (option_map (named Commit) (torn_run bit run)) (slice_index_or (not (version_of vs c.process) ∷ []) bit false) (Some (change_of c vs st)) true)
cut-commit s c v store st m vs bit None low first on pending image stamp = record { knows = tt; busy_is = ap (λ b. not (b && true)) (sym (eq-eqb bit 0 first)) }
cut-commit s c v store st m vs bit (Some r) low first on pending image stamp = subst unit (sym is_torn) (record {
  knows = record {
    the_bit = first;
    changing = pending.changing;
    fits = pending.fits;
    new = ap (λ k. slice_index_or (not (version_of vs c.process) ∷ []) k false) first ∙ ap not (own_commit s c v store vs st low pending);
    reply_is = ap (λ x. Some (reply c x)) pending.store_read;
    image = image;
    stamp = stamp;
    below = omega (arith, low);
    settled = λ x e k l. absurd (omega (arith, l));
    open_copy = λ b. absurd (false≢true b);
    chosen = inl (refl, refl);
  };
  busy_is = ap not (sym (and_false (bit == 0)));
})
  where
    unit : Bool → Type 0
    unit b = UnitKnows s c v store m (not ((bit == 0) && false)) (cut c (option_map (named Commit) (torn_with bit (cond b None (Some (record { made = r.made; reader = 0; begun = false; value = None })))))
        (slice_index_or (not (version_of vs c.process) ∷ []) bit false) (Some (change_of c vs st)) true)

    is_torn : ((r.made == 0) || r.ended) ≡ false
    is_torn =
        let o : (0 < r.made) × (r.ended ≡ false) = on r refl in
        let some : 0 < r.made = o.0 in
        λ i. ne_eqb r.made 0 (λ u. omega (arith, u, some)) i || o.1 i

-- a process that reads is not committing
reading-idle : (x : Part) (fresh : Bool) → is_read x ≡ true → false ≡ is_committing x fresh
reading-idle (WritesCommit vs st) fresh h = absurd (false≢true h)
reading-idle _ fresh h = refl

-- at each part that works on versions
cut-part : (s : Setup) (past : Past) (p : ℕ) (command : Command) (number : ℕ) (v : Versions) (store : Contents) (m : Wires) (t : ℕ → Touches) (torn : Option Access) (x : Part) (run : Run)
    → let c : Call = call s p command number in
    p < s.processes → is_inside_at x false ≡ true → RunCorresponds c m x run → LeftRun c torn x run → KnowsAt s past c v store m t x run →
    UnitKnows s c v store m (is_committing x (is_fresh run)) (cut_at c (record { part = x; run = run }) true)
cut-part s past p command number v store m t torn x (Reading bits begun) low is corresponds l h = record { knows = tt; busy_is = reading-idle x (is_fresh (Reading bits begun)) corresponds.0 }
cut-part s past p command number v store m t torn (WritesImage vs st) (Writing w) low is corresponds l h =
    let c : Call = call s p command number in
    cut-register s c v store m (image_field (not (version_of vs p))) _ _ (torn_bit w) (image-other (not (version_of vs p))) (inl (ap (λ b. image_field (not b)) (own_commit s c v store vs st low h)))
cut-part s past p command number v store m t torn (WritesStamp vs st) (Writing w) low is corresponds l h =
    let c : Call = call s p command number in
    cut-register s c v store m (stamp_field (not (version_of vs p))) _ _ (torn_bit w) (stamp-other (not (version_of vs p))) (inr (ap (λ b. stamp_field (not b)) (own_commit s c v store vs st low h.0)))
cut-part s past p command number v store m t torn (WritesCommit vs st) (Writing w) low is corresponds l h = cut-commit s (call s p command number) v store st m vs w.bit w.run low first on h.0 h.1 h.2
  where
    first : w.bit ≡ 0
    first = let inside = corresponds.1.below in let one : w.width ≡ 1 = corresponds.1.width_is in omega (arith, inside, one)

    on : (r : copies.Writing) → w.run ≡ Some r → (0 < r.made) × (r.ended ≡ false)
    on r e = (l.1.begun r e, ap (λ (o : Option copies.Writing). (unwrap_or o (record { value = slice_index_or (not (version_of vs p) ∷ []) w.bit false; made = 0; ended = false })).ended) (sym e) ∙ corresponds.1.going)
cut-part s past p command number v store m t torn (AsksCommit k ks vs) (Writing w) low is corresponds l h = absurd (true≢false corresponds.0)
cut-part s past p command number v store m t torn (AsksStamp k ks vs b) (Writing w) low is corresponds l h = absurd (true≢false corresponds.0)
cut-part s past p command number v store m t torn (AsksImage vs) (Writing w) low is corresponds l h = absurd (true≢false corresponds.0)
cut-part s past p command number v store m t torn _ (Writing w) low is corresponds l h = absurd (false≢true is)

-- The entry of a failure.

-- a process that works at a part is inside
working-inside : (x : Part) (fresh : Bool) → is_inside_at x false ≡ true → is_inside_at x fresh ≡ true
working-inside x fresh h = go (is_inside_at x fresh) refl
  where
    go : (b : Bool) → is_inside_at x fresh ≡ b → is_inside_at x fresh ≡ true
    go true i = i
    go false i = absurd (true≢false (sym h ∙ still-outside x fresh i))

-- a unit that settles a bit does not fail, and a process that withdraws works on no version
closing-stays : (command : Command) (number : ℕ) (at : Closing) → may_fail (Closes command number at) ≡ true → is_working (Closes command number at) ≡ true → ⊥
closing-stays command number (Withdraws w) may is = false≢true is
closing-stays command number (Settles f bit begun taken b t) may is = false≢true may
closing-stays command number _ may is = false≢true is

-- the unit's first knowledge holds, and the unit settles the commit bit if that was being written
abbrev BeginsAs : Setup → Past → ℕ → Doing → Type 0
BeginsAs s past p d = Knows s past p d × (is_busy d ≡ is_busy (doing s p past))

-- only who runs its call works and may fail, and it fails at its place
cut-of : (s : Setup) → IsGood s → (events : List Event) (p : ℕ)
    → let past : Past = past_of s events in
    let mine : Past = own p past in
    p < s.processes → may_fail (doing s p past) ≡ true → is_working (doing s p past) ≡ true → Knows s past p (doing s p past) →
    BeginsAs s past p (Closes (last_command mine) (call_number s mine) (failing (call s p (last_command mine) (call_number s mine)) mine))
cut-of s g events p low may is h = go (does_all s g events p)
  where
    past : Past
    past = past_of s events

    mine : Past
    mine = own p past

    command : Command
    command = last_command mine

    number : ℕ
    number = call_number s mine

    c : Call
    c = call s p command number

    at : Place
    at = place_at s p mine

    go : Does s p mine (stage p past) (doing s p past) → BeginsAs s past p (Closes command number (failing c mine))
    go (at_rest i k) = absurd (false≢true (sym (ap is_working k) ∙ is))
    go (lying i k) = absurd (false≢true (sym (ap is_working k) ∙ is))
    go (leaving b i k) = absurd (closing-stays command number _ (ap may_fail (sym k) ∙ may) (ap is_working (sym k) ∙ is))
    go (settling b i k) = absurd (closing-stays command number _ (ap may_fail (sym k) ∙ may) (ap is_working (sym k) ∙ is))
    go (running d b r k) = subst (λ cl. BeginsAs s past p (Closes command number cl)) (sym unit) (begins.knows, begins.busy_is ∙ ap is_busy (sym k))
      where
        working : is_inside_at at.part false ≡ true
        working = sym (ap is_working k) ∙ is

        corresponds : Corresponds s p (notes s p past) (wires s past p) (Runs command number at)
        corresponds = let inv = inv_of s g events in subst (Corresponds s p (notes s p past) (wires s past p)) k (inv.own p low).corresponds

        was_inside : inside p past ≡ true
        was_inside = inside-is s g events p ∙ ap is_inside k ∙ working-inside at.part (is_fresh at.run) working

        begins : UnitKnows s c (versions s past) (store_of s past) (wires s past p) (is_committing at.part (is_fresh at.run)) (cut_at c at true)
        begins = cut-part s past p command number (versions s past) (store_of s past) (wires s past p) (λ o. touches s past o p) (remaining s mine) at.part at.run low working corresponds.0
            (subst (LeftIn s p (remaining s mine)) k (remaining-is s g events p)) (subst (Knows s past p) k h)

        unit : failing c mine ≡ cut_at c at true
        unit = running-cut s g events p d b r ∙ ap (cut_at c at) was_inside

-- A failure of a process that works on versions keeps the data.
pub failure_keeps : (s : Setup) → IsGood s → (events : List Event) (what : Event) (e : Entry) → entry_of s (past_of s events) what ≡ Some e
    → let past : Past = past_of s events in
    let p : ℕ = e.process in
    (command : Command) (number : ℕ) → may_fail (doing s p past) ≡ true → e.access ≡ None → e.marks ≡ Failed ∷ [] → doing s p (e ∷ past) ≡ Closes command number (failing (call s p command number) (own p past)) →
    is_working (doing s p past) ≡ true → Data s past → Keeps s past e
failure_keeps s g events what e h command number may none marks does is known = record {
  kept = subst (λ v. Kept s v (store_of s (e ∷ past)) busy' (wires s (e ∷ past))) (sym u.versions)
      (subst (λ store. Kept s (versions s past) store busy' (wires s (e ∷ past))) (sym u.store)
      (kept_apart s (versions s past) (store_of s past) busy busy' p Ticket (wires s past) (wires s (e ∷ past)) same (lock_beside (versions s past) p Ticket refl) was known.kept));
  knows = subst (Knows s (e ∷ past) p) (sym then) (untouched-known s past e p unit u (apart-read p e past apart) begins.0);
}
  where
    past : Past
    past = past_of s events

    p : ℕ
    p = e.process

    mine : Past
    mine = own p past

    unit : Doing
    unit = Closes (last_command mine) (call_number s mine) (failing (call s p (last_command mine) (call_number s mine)) mine)

    busy : ℕ → Bool
    busy q = is_busy (doing s q past)

    busy' : ℕ → Bool
    busy' q = is_busy (doing s q (e ∷ past))

    step : (p ≡ process_of what) × (p < s.processes) × Step s past p e (doing s p past) (doing s p (e ∷ past))
    step = step_of s g events what e h

    begins : BeginsAs s past p unit
    begins = cut-of s g events p step.1 may is (known.knows p step.1)

    then : doing s p (e ∷ past) ≡ unit
    then = doing-goes s p e past refl ∙ ap (λ ms. does_after s p mine e (start_in ms) (doing s p past)) marks

    apart : IsApart e
    apart a acc = let f : None ≡ Some a = sym none ∙ acc in cc

    u : Untouched s past e
    u = untouched s past e (ap reply_taken marks) apart

    same : WritesOne p Ticket (wires s past) (wires s (e ∷ past))
    same = record { others = λ q ne. wires-kept s past e q none; fields = λ f ne. ap (λ (m : Wires). m f) (wires-kept s past e p none) }

    was : (q : ℕ) → busy' q ≡ false → busy q ≡ false
    was q free = elim (cases_eq q p) [
      | inl i ↦ ap busy i ∙ sym begins.1 ∙ ap is_busy (sym then) ∙ ap busy' (sym i) ∙ free
      | inr ne ↦ ap is_busy (sym (doing-other s q e past (λ x. ne (sym x)))) ∙ free
    ]
