-- A memory unit settles a bit of a version. The bit is in a version that is not committed, or is a commit bit, which then commits the new version or stays with the old one.
use Rattle.std.proofs.Common.{◌≡◌, ◌≢◌, ℕ, ◌+◌, ◌<◌, ◌≤◌, ◌||◌, Bool, true, false, cond, ◌∷◌, not, Option, None, Some, refl, sym, ap, subst, ◌∙◌, arith, inl, inr, true≢false}
use Rattle.std.specs.Prelude.{unwrap_or, if◌then◌else◌}
use Rattle.std.proofs.lemmas.Bool.{cases_eq, eqb-true, eqb-false, false≢true}
use Rattle.model.specs.reader_copies.Runs as copies
use Rattle.model.specs.safe_bit.{read_value}
use Rattle.model.specs.safe_bit.declared.Move.TheVariants.{BeginWrite, EndWrite, Settle}
use Rattle.model.specs.{Access, Call, Entry, Field, Past, Settles, access_of, caller, closing_after, ended, freeing, is_last_settled, moves_of, opening_bit, valued}
use Rattle.model.specs.declared.access.Field.TheVariants.{Commit}
use Rattle.plain_store.specs.{Command, Contents, Reply, Setup, after}
use Rattle.laws.specs.{Doing, Closes, call, closes}
use Rattle.laws.proofs.FrameWires.{wire_after}
use Rattle.laws.proofs.Invariant.{Wire, Wires, Closed, wires}
use Rattle.laws.proofs.Writing.{Rewired, rewired}
use Rattle.history_laws.proofs.DataWrites.{kept_committed, image_stays, stamp_stays}
use Rattle.history_laws.proofs.Kept.{Kept, KnowsSettling, KnowsClosing, SettlesCommit, is_busy, is_commit_field}
use Rattle.history_laws.proofs.Sound.{IsStoreOf}
use Rattle.history_laws.proofs.Uncommitted.{WritesOne, TurnsBusy, IsUncommitted, idle_before, idle_beside, kept_beside, kept_apart, uncommitted_beside, commit_stays, image_not_commit, stamp_not_commit}
use Rattle.history_laws.proofs.Versions.{Versions, committed}

-- The copy after an access of a settling.

-- a copy's wire after the next access of a settling at x: its end, its settling, or its begin
abbrev pub settled_wire : copies.Settling → Bool → Wire → Wire
settled_wire t x w = cond t.begun (record { value = w.value; writing = false }) (record { value = x; writing = not (copies.is_open_at t.made t.reader) })

pub settles_copy : (s : Setup) (past : Past) (p : ℕ) (e : Entry) (f : Field) (b : ℕ) (t : copies.Settling) (flick : Bool) → let x : Bool = copies.settled_at t flick in
    e.access ≡ Some (valued s past flick (access_of p f (b, copies.next_settle t x))) →
    Rewired (wires s past p f) (wires s (e ∷ past) p f) b t.reader (settled_wire t x (wires s past p f b t.reader))
settles_copy s past p e f b t flick h =
    subst (Rewired (wires s past p f) (wires s (e ∷ past) p f) b t.reader) (go t.begun (copies.is_open_at t.made t.reader)) (rewired s past e (valued s past flick a) h)
  where
    x : Bool
    x = copies.settled_at t flick

    a : Access
    a = access_of p f (b, copies.next_settle t x)

    v : Bool
    v = read_value (opening_bit s a) (moves_of a past) flick

    w : Wire
    w = wires s past p f b t.reader

    go : (begun open_now : Bool) → wire_after w (ended v (if begun then EndWrite else if open_now then Settle x else BeginWrite x)) ≡ cond begun (let y : Wire = record { value = w.value; writing = false } in y) (record { value = x; writing = not open_now })
    go true open_now = refl
    go false true = refl
    go false false = refl

-- The progress of a settling of a commit bit.

-- the bit settles at x: the copies before the cursor are closed at x, and the open one is being given x
pub record SettlesAt (x : Bool) (t : copies.Settling) (row : ℕ → Wire) : Type 0 where
  pub value : t.value ≡ Some x
  pub done : (r : ℕ) → r < t.reader → Closed (row r) x
  pub begun : t.begun ≡ true → (row t.reader).value ≡ x

-- a settling with a chosen value settles at that value
chosen_is : (t : copies.Settling) (x flick : Bool) → t.value ≡ Some x → copies.settled_at t flick ≡ x
chosen_is t x flick h = ap (λ o. unwrap_or o flick) h

-- before the access
settles_at : (s : Setup) (c : Call) (v : Versions) (store : Contents) (b : ℕ) (begun : Bool) (taken : Option Reply) (t : copies.Settling) (m : Wires) (flick : Bool) → SettlesCommit s c v store b begun taken t m
    → let x : Bool = copies.settled_at t flick in ((r : ℕ) → r < t.reader → Closed (m Commit 0 r) x) × (t.begun ≡ true → (m Commit 0 t.reader).value ≡ x)
settles_at s c v store b begun taken t m flick h = elim h.chosen [
  | inl none ↦ ((λ r low. let first = none.0 in absurd (omega arith)), λ e. absurd (false≢true (sym none.1 ∙ e)))
  | inr one ↦ (
    (λ r low. subst (Closed (m Commit 0 r)) (sym (chosen_is t one.0 flick one.1)) (h.settled one.0 one.1 r low)),
    λ e. h.open_copy e one.0 one.1 ∙ sym (chosen_is t one.0 flick one.1),
  )
]

-- after it
settled_further : (t : copies.Settling) (x : Bool) (m m' : ℕ → ℕ → Wire) → Rewired m m' 0 t.reader (settled_wire t x (m 0 t.reader)) → ((r : ℕ) → r < t.reader → Closed (m 0 r) x) → (t.begun ≡ true → (m 0 t.reader).value ≡ x) →
    SettlesAt x (copies.settle_after t x) (m' 0)
settled_further t x m m' w done begun = go t.begun (copies.is_open_at t.made t.reader) w.here begun
  where
    c : ℕ
    c = t.reader

    apart : (r : ℕ) → r ≢ c → Closed (m 0 r) x → Closed (m' 0 r) x
    apart r ne = subst (λ y. Closed y x) (sym (w.there 0 r (λ both. ne both.1)))

    earlier : (r : ℕ) → r < c → Closed (m' 0 r) x
    earlier r low = apart r (λ is. omega arith) (done r low)

    -- the copy is closed at x
    closed : Closed (m' 0 c) x → (r : ℕ) → r < c + 1 → Closed (m' 0 r) x
    closed h r low = elim (cases_eq r c) [
      | inl is ↦ subst (λ k. Closed (m' 0 k) x) (sym is) h
      | inr ne ↦ earlier r (omega arith)
    ]

    go : (b o : Bool) → m' 0 c ≡ cond b (record { value = (m 0 c).value; writing = false }) (record { value = x; writing = not o }) → (b ≡ true → (m 0 c).value ≡ x)
        → SettlesAt x (if b || o then record { made = t.made; reader = c + 1; begun = false; value = Some x } else record { made = t.made; reader = c; begun = true; value = Some x }) (m' 0)
    go true o here was = record {
      value = refl;
      done = closed (subst (λ (y : Wire). Closed y x) (sym here) (record { writing = refl; value = was refl }));
      begun = λ e. absurd (false≢true e);
    }
    go false true here was = record {
      value = refl;
      done = closed (subst (λ (y : Wire). Closed y x) (sym here) (record { writing = refl; value = refl }));
      begun = λ e. absurd (false≢true e);
    }
    go false false here was = record { value = refl; done = earlier; begun = λ e. ap (λ (y : Wire). y.value) here }

-- the cursor moves at most to the next copy
next_reader : (t : copies.Settling) (x : Bool) (n : ℕ) → t.reader < n → (copies.settle_after t x).reader ≤ n
next_reader t x n low = go (t.begun || copies.is_open_at t.made t.reader)
  where
    go : (b : Bool) → (if b then (let y : copies.Settling = record { made = t.made; reader = t.reader + 1; begun = false; value = Some x } in y) else record { made = t.made; reader = t.reader; begun = true; value = Some x }).reader ≤ n
    go true = omega arith
    go false = omega arith

-- after an access of the settling of a commit bit
commit_further : (s : Setup) (c : Call) (v : Versions) (store : Contents) (b : ℕ) (begun : Bool) (taken : Option Reply) (t : copies.Settling) (flick : Bool) (m m' : Wires) → let x : Bool = copies.settled_at t flick in
    SettlesCommit s c v store b begun taken t m → Rewired (m Commit) (m' Commit) b t.reader (settled_wire t x (m Commit b t.reader)) → SettlesAt x (copies.settle_after t x) (m' Commit 0)
commit_further s c v store b begun taken t flick m m' h w =
    let x : Bool = copies.settled_at t flick in
    let before = settles_at s c v store b begun taken t m flick h in
    settled_further t x (m Commit) (m' Commit) (subst (λ k. Rewired (m Commit) (m' Commit) k t.reader (settled_wire t x (m Commit k t.reader))) h.the_bit w) before.0 before.1

-- all copies of p's commit bit are closed at the old bit: nothing has changed
pub kept_rested : (s : Setup) (v : Versions) (store : Contents) (busy busy' : ℕ → Bool) (p : ℕ) (m m' : ℕ → Wires) → WritesOne p Commit m m' → ((q : ℕ) → q ≢ p → busy' q ≡ busy q) → ((r : ℕ) → r < s.processes → Closed (m' p Commit 0 r) (v.commit p))
    → Kept s v store busy m → Kept s v store busy' m'
kept_rested s v store busy busy' p m m' w others closed k = record {
  sound = k.sound;
  commits = commits;
  stamps = beside.stamps;
  image = beside.image;
  most = k.most;
  first = k.first;
  is = k.is;
  newest = k.newest;
  fits = k.fits;
}
  where
    -- for any busy processes
    beside : Kept s v store (λ q. true) m'
    beside = kept_beside s v store busy (λ q. true) p Commit m m' w (stamp_not_commit (v.commit p)) (image_not_commit (v.commit p)) (λ q h. absurd (true≢false h)) (λ h. absurd (true≢false h)) k

    commits : (q : ℕ) → q < s.processes → busy' q ≡ false → (r : ℕ) → r < s.processes → Closed (m' q Commit 0 r) (v.commit q)
    commits q low idle r rlow = elim (cases_eq q p) [
      | inl is ↦ subst (λ x. Closed (m' x Commit 0 r) (v.commit x)) (sym is) (closed r rlow)
      | inr ne ↦ commit_stays p q Commit r (v.commit q) m m' w (λ is. absurd (ne is)) (k.commits q low (sym (others q ne) ∙ idle) r rlow)
    ]

-- The accesses.

-- a register that isn't committed
pub register_settles : (s : Setup) (p : ℕ) (f : Field) (d d' : Doing) (v : Versions) (store : Contents) (busy busy' : ℕ → Bool) (m m' : ℕ → Wires) → IsUncommitted v p f → is_busy d ≡ false → WritesOne p f m m' → TurnsBusy p d d' busy busy' →
    Kept s v store busy m → Kept s v store busy' m'
register_settles s p f d d' v store busy busy' m m' apart idle one turns k = kept_apart s v store busy busy' p f m m' one (uncommitted_beside v p f apart) (idle_before p d d' busy busy' turns idle) k

-- the knowledge of such a settling
pub register_known : (s : Setup) (c : Call) (v : Versions) (store : Contents) (m : Wires) (f : Field) (b : ℕ) (begun : Bool) (taken : Option Reply) (t : copies.Settling) → is_commit_field f ≡ false → KnowsSettling s c v store m f b begun taken t →
    (taken ≡ None) × IsUncommitted v c.process f
register_known s c v store m Commit b begun taken t e h = absurd (true≢false e)
register_known s c v store m _ b begun taken t e h = h

-- this knowledge depends neither on the registers nor on the cursor
register_knows : (s : Setup) (c : Call) (v : Versions) (store : Contents) (m' : Wires) (f : Field) (b : ℕ) (begun : Bool) (taken : Option Reply) (t' : copies.Settling) → is_commit_field f ≡ false → (taken ≡ None) × IsUncommitted v c.process f →
    KnowsSettling s c v store m' f b begun taken t'
register_knows s c v store m' Commit b begun taken t' e h = absurd (true≢false e)
register_knows s c v store m' _ b begun taken t' e h = h

pub register_settles_on : (s : Setup) (c : Call) (v : Versions) (store : Contents) (m m' : Wires) (f : Field) (b : ℕ) (begun : Bool) (taken : Option Reply) (t : copies.Settling) (flick : Bool) → is_commit_field f ≡ false → KnowsSettling s c v store m f b begun taken t →
    KnowsClosing s c v store m' (closing_after c (Settles f b begun taken true t) flick)
register_settles_on s c v store m m' f b begun taken t flick e h = go (is_last_settled c t (copies.settled_at t flick))
  where
    t' : copies.Settling
    t' = copies.settle_after t (copies.settled_at t flick)

    go : (last : Bool) → KnowsClosing s c v store m' (cond last (freeing c true) (Settles f b begun taken true t'))
    go true = tt
    go false = register_knows s c v store m' f b begun taken t' e (register_known s c v store m f b begun taken t e h)

-- a commit bit, by an access that is not the last
pub commit_settles_on : (s : Setup) (p : ℕ) (command : Command) (number : ℕ) (b : ℕ) (begun : Bool) (taken : Option Reply) (t : copies.Settling) (flick : Bool) (v : Versions) (store : Contents) (busy busy' : ℕ → Bool) (m m' : ℕ → Wires)
    → let c : Call = call s p command number in let x : Bool = copies.settled_at t flick in
    is_last_settled c t x ≡ false → SettlesCommit s c v store b begun taken t (m p) → WritesOne p Commit m m' → Rewired (m p Commit) (m' p Commit) b t.reader (settled_wire t x (m p Commit b t.reader)) →
    TurnsBusy p (Closes command number (Settles Commit b begun taken true t)) (closes command number (closing_after c (Settles Commit b begun taken true t) flick)) busy busy' → Kept s v store busy m →
    Kept s v store busy' m' × KnowsClosing s c v store (m' p) (closing_after c (Settles Commit b begun taken true t) flick)
commit_settles_on s p command number b begun taken t flick v store busy busy' m m' more h one w turns k = (
  kept_beside s v store busy busy' p Commit m m' one (stamp_not_commit (v.commit p)) (image_not_commit (v.commit p)) (idle_beside p _ _ busy busy' turns now) (λ idle. absurd (true≢false (sym (turns.is ∙ now) ∙ idle))) k,
  subst (KnowsClosing s c v store (m' p)) (sym place) (record {
    the_bit = h.the_bit;
    changing = h.changing;
    fits = h.fits;
    new = h.new;
    reply_is = h.reply_is;
    image = image_stays s c v store Commit m m' one (image_not_commit (not (v.commit p))) h.image;
    stamp = stamp_stays s c v Commit m m' one (stamp_not_commit (not (v.commit p))) h.stamp;
    below = (let apart : t'.reader ≢ s.processes = eqb-false t'.reader s.processes more in let least : t'.reader ≤ s.processes = next_reader t x s.processes h.below in omega arith);
    settled = λ y is r low. subst (Closed (m' p Commit 0 r)) (same y is) (further.done r low);
    open_copy = λ e y is. further.begun e ∙ same y is;
    chosen = inr (x, further.value);
  }),
)
  where
    c : Call
    c = call s p command number

    x : Bool
    x = copies.settled_at t flick

    t' : copies.Settling
    t' = copies.settle_after t x

    further : SettlesAt x t' (m' p Commit 0)
    further = commit_further s c v store b begun taken t flick (m p) (m' p) h w

    same : (y : Bool) → t'.value ≡ Some y → x ≡ y
    same y is = ap (λ o. unwrap_or o x) (sym further.value ∙ is)

    place : closing_after c (Settles Commit b begun taken true t) flick ≡ Settles Commit b begun taken true t'
    place = ap (λ l. cond l (freeing c true) (Settles Commit b begun taken true t')) more

    now : is_busy (closes command number (closing_after c (Settles Commit b begun taken true t) flick)) ≡ true
    now = ap (λ at. is_busy (closes command number at)) place

-- after the last access all copies are closed at the settled value
all_settled : (s : Setup) (p : ℕ) (command : Command) (number : ℕ) (b : ℕ) (begun : Bool) (taken : Option Reply) (t : copies.Settling) (flick : Bool) (v : Versions) (store : Contents) (m m' : Wires)
    → let c : Call = call s p command number in let x : Bool = copies.settled_at t flick in
    is_last_settled c t x ≡ true → SettlesCommit s c v store b begun taken t m → Rewired (m Commit) (m' Commit) b t.reader (settled_wire t x (m Commit b t.reader)) → (r : ℕ) → r < s.processes → Closed (m' Commit 0 r) x
all_settled s p command number b begun taken t flick v store m m' last h w r low =
    let x : Bool = copies.settled_at t flick in
    let end : (copies.settle_after t x).reader ≡ s.processes = eqb-true (copies.settle_after t x).reader s.processes last in
    (commit_further s (call s p command number) v store b begun taken t flick m m' h w).done r (omega arith)

-- the settled value is the one that was begun
abbrev pub is_new : (begun x : Bool) → Bool
is_new begun x = if x then begun else not begun

new_is : (begun x : Bool) → is_new begun x ≡ true → x ≡ begun
new_is true true h = refl
new_is true false h = absurd (false≢true h)
new_is false true h = absurd (false≢true h)
new_is false false h = refl

old_is : (own begun x : Bool) → begun ≡ not own → is_new begun x ≡ false → x ≡ own
old_is true begun true n h = refl
old_is false begun false n h = refl
old_is true begun false n h = absurd (true≢false (sym (ap not n) ∙ h))
old_is false begun true n h = absurd (true≢false (sym n ∙ h))

-- at the new value: the command is taken, and the new version is committed
pub commit_settled_new : (s : Setup) (p : ℕ) (command : Command) (number : ℕ) (b : ℕ) (begun : Bool) (taken : Option Reply) (t : copies.Settling) (flick : Bool) (v : Versions) (store : Contents) (busy busy' : ℕ → Bool) (m m' : ℕ → Wires)
    → let c : Call = call s p command number in let x : Bool = copies.settled_at t flick in
    p < s.processes → is_last_settled c t x ≡ true → is_new begun x ≡ true → IsStoreOf s (after store command (caller c)) → SettlesCommit s c v store b begun taken t (m p) → WritesOne p Commit m m' →
    Rewired (m p Commit) (m' p Commit) b t.reader (settled_wire t x (m p Commit b t.reader)) → ((q : ℕ) → q ≢ p → busy' q ≡ busy q) → Kept s v store busy m →
    Kept s (committed p v) (after store command (caller c)) busy' m'
commit_settled_new s p command number b begun taken t flick v store busy busy' m m' below last new sound h one w others k =
    kept_committed s p command number v store busy busy' m m' below one others h.fits sound h.image h.stamp
    (λ r low. subst (Closed (m' p Commit 0 r)) (new_is begun (copies.settled_at t flick) new ∙ h.new) (all_settled s p command number b begun taken t flick v store (m p) (m' p) last h w r low)) k

-- at the old value: nothing was done
pub commit_settled_old : (s : Setup) (p : ℕ) (command : Command) (number : ℕ) (b : ℕ) (begun : Bool) (taken : Option Reply) (t : copies.Settling) (flick : Bool) (v : Versions) (store : Contents) (busy busy' : ℕ → Bool) (m m' : ℕ → Wires)
    → let c : Call = call s p command number in let x : Bool = copies.settled_at t flick in
    is_last_settled c t x ≡ true → is_new begun x ≡ false → SettlesCommit s c v store b begun taken t (m p) → WritesOne p Commit m m' →
    Rewired (m p Commit) (m' p Commit) b t.reader (settled_wire t x (m p Commit b t.reader)) → ((q : ℕ) → q ≢ p → busy' q ≡ busy q) → Kept s v store busy m → Kept s v store busy' m'
commit_settled_old s p command number b begun taken t flick v store busy busy' m m' last old h one w others k =
    kept_rested s v store busy busy' p m m' one others
    (λ r low. subst (Closed (m' p Commit 0 r)) (old_is (v.commit p) begun (copies.settled_at t flick) h.new old) (all_settled s p command number b begun taken t flick v store (m p) (m' p) last h w r low)) k
