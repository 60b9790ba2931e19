-- The writes of a change: first the new version's image, then its stamp, then the commit bit. The last end of the commit bit takes the command.
use Rattle.std.specs.Prelude.{◌^◌}
use Rattle.std.proofs.Common.{◌≡◌, ◌≢◌, ℕ, ◌+◌, ◌<◌, ◌≤◌, ◌==◌, Bool, true, false, cond, List, [], ◌∷◌, not, refl, sym, ap, subst, ◌∙◌, arith, inl, inr, true≢false}
use Rattle.std.proofs.lemmas.Bool.{cases_eq, eq-eqb, ne_eqb}
use Rattle.model.specs.{Call, Clears, Field, Past, Place, Version, WritesCommit, WritesImage, WritesStamp, Writing, caller, enter, image_field, is_last, new_image, newest_stamp, place_after, reply, stamp_field, version_of, write_moved}
use Rattle.model.specs.declared.access.Field.TheVariants.{Commit}
use Rattle.model.specs.safe_number.{NumberWrite}
use Rattle.plain_store.specs.declared.Answer.TheVariants as answer
use Rattle.plain_store.specs.{Command, Contents, Setup, after}
use Rattle.laws.specs.{Doing, Runs, call, runs}
use Rattle.laws.proofs.FrameInside.{moved-unfresh}
use Rattle.laws.proofs.Invariant.{Wires, Touches, Closed}
use Rattle.laws.proofs.Writing.{Advanced}
use Rattle.history_laws.proofs.Kept.{IsWhole, Kept, Pending, HasImage, HasStamp, KnowsAt, image_bits, stamp_bits_of, is_busy}
use Rattle.history_laws.proofs.Sound.{IsStoreOf}
use Rattle.history_laws.proofs.Uncommitted.{WritesOne, TurnsBusy, idle_before, idle_beside, kept_beside, kept_apart, uncommitted_beside, whole_stays, commit_stays, image_not_stamp, image_not_commit, stamp_not_commit}
use Rattle.history_laws.proofs.Versions.{Versions, committed}
use Rattle.history_laws.proofs.VersionsRead.{commit_read, stamp_read}

-- The knowledge of the process itself.

-- its own commit bit, as it was read
pub own_commit : (s : Setup) (c : Call) (v : Versions) (store : Contents) (vs : List Version) (st : Contents) → c.process < s.processes → Pending s c v store vs st → version_of vs c.process ≡ v.commit c.process
own_commit s c v store vs st below h = ap (λ x. version_of x c.process) h.versions_read ∙ commit_read s v c.process below

-- the new version's image and stamp stay as they are while another field is written
pub image_stays : (s : Setup) (c : Call) (v : Versions) (store : Contents) (f : Field) (m m' : ℕ → Wires) → WritesOne c.process f m m' → image_field (not (v.commit c.process)) ≢ f → HasImage s c v store (m c.process) → HasImage s c v store (m' c.process)
image_stays s c v store f m m' w apart h = whole_stays s.processes c.process c.process f (image_field (not (v.commit c.process))) (new_image c store) m m' w (λ is. apart) h

pub stamp_stays : (s : Setup) (c : Call) (v : Versions) (f : Field) (m m' : ℕ → Wires) → WritesOne c.process f m m' → stamp_field (not (v.commit c.process)) ≢ f → HasStamp s c v (m c.process) → HasStamp s c v (m' c.process)
stamp_stays s c v f m m' w apart h = whole_stays s.processes c.process c.process f (stamp_field (not (v.commit c.process))) (stamp_bits_of s (v.count + 1)) m m' w (λ is. apart) h

-- The new version is committed.

-- an access of p to its commit bit, with which all its copies are closed at the new bit
pub kept_committed : (s : Setup) (p : ℕ) (command : Command) (number : ℕ) (v : Versions) (store : Contents) (busy busy' : ℕ → Bool) (m m' : ℕ → Wires)
    → let c : Call = call s p command number in
    p < s.processes → WritesOne p Commit m m' → ((q : ℕ) → q ≢ p → busy' q ≡ busy q) → v.count + 1 < 2 ^ s.stamp_bits → IsStoreOf s (after store command (caller c)) → HasImage s c v store (m p) → HasStamp s c v (m p)
    → ((r : ℕ) → r < s.processes → Closed (m' p Commit 0 r) (not (v.commit p))) → Kept s v store busy m → Kept s (committed p v) (after store command (caller c)) busy' m'
kept_committed s p command number v store busy busy' m m' below w others fits sound image stamp closed k = record {
  sound = sound;
  commits = commits;
  stamps = stamps;
  image = subst (λ b. IsWhole s.processes (m' p (image_field b)) (image_bits s (after store command (caller c)))) (sym new) (image_stays s c v store Commit m m' w (image_not_commit (not (v.commit p))) image);
  most = most;
  first = first;
  is = own (v.count + 1) (v.stamp p);
  newest = below;
  fits = fits;
}
  where
    c : Call
    c = call s p command number

    v' : Versions
    v' = committed p v

    -- the value for p
    own : {A : Type 0} (x y : A) → cond (p == p) x y ≡ x
    own x y = ap (λ b. cond b x y) (eq-eqb p p refl)

    -- the value for the other processes
    other : {A : Type 0} (q : ℕ) (x y : A) → q ≢ p → cond (q == p) x y ≡ y
    other q x y ne = ap (λ b. cond b x y) (ne_eqb q p ne)

    new : v'.commit p ≡ not (v.commit p)
    new = own (not (v.commit p)) (v.commit p)

    commits : (q : ℕ) → q < s.processes → busy' q ≡ false → (r : ℕ) → r < s.processes → Closed (m' q Commit 0 r) (v'.commit q)
    commits q low idle r rlow = elim (cases_eq q p) [
      | inl is ↦ subst (λ x. Closed (m' x Commit 0 r) (v'.commit x)) (sym is) (subst (Closed (m' p Commit 0 r)) (sym new) (closed r rlow))
      | inr ne ↦ subst (Closed (m' q Commit 0 r)) (sym (other q (not (v.commit p)) (v.commit q) ne))
          (commit_stays p q Commit r (v.commit q) m m' w (λ is. absurd (ne is)) (k.commits q low (sym (others q ne) ∙ idle) r rlow))
    ]

    stamps : (q : ℕ) → q < s.processes → IsWhole s.processes (m' q (stamp_field (v'.commit q))) (stamp_bits_of s (v'.stamp q))
    stamps q low = elim (cases_eq q p) [
      | inl is ↦ subst (λ x. IsWhole s.processes (m' x (stamp_field (v'.commit x))) (stamp_bits_of s (v'.stamp x))) (sym is)
          (subst (λ b. IsWhole s.processes (m' p (stamp_field b)) (stamp_bits_of s (v'.stamp p))) (sym new)
          (subst (λ n. IsWhole s.processes (m' p (stamp_field (not (v.commit p)))) (stamp_bits_of s n)) (sym (own (v.count + 1) (v.stamp p)))
          (stamp_stays s c v Commit m m' w (stamp_not_commit (not (v.commit p))) stamp)))
      | inr ne ↦ subst (λ b. IsWhole s.processes (m' q (stamp_field b)) (stamp_bits_of s (v'.stamp q))) (sym (other q (not (v.commit p)) (v.commit q) ne))
          (subst (λ n. IsWhole s.processes (m' q (stamp_field (v.commit q))) (stamp_bits_of s n)) (sym (other q (v.count + 1) (v.stamp q) ne))
          (whole_stays s.processes p q Commit (stamp_field (v.commit q)) (stamp_bits_of s (v.stamp q)) m m' w (λ is. absurd (ne is)) (k.stamps q low)))
    ]

    most : (q : ℕ) → q < s.processes → v'.stamp q ≤ v.count + 1
    most q low = elim (cases_eq q p) [
      | inl is ↦ let same : v'.stamp q ≡ v.count + 1 = subst (λ x. v'.stamp x ≡ v.count + 1) (sym is) (own (v.count + 1) (v.stamp p)) in omega arith
      | inr ne ↦ let same : v'.stamp q ≡ v.stamp q = other q (v.count + 1) (v.stamp q) ne in omega (arith, k.most q low)
    ]

    first : (q : ℕ) → q < p → v'.stamp q < v.count + 1
    first q before = let same : v'.stamp q ≡ v.stamp q = other q (v.count + 1) (v.stamp q) (λ is. omega arith) in omega (arith, k.most q (omega arith))

-- The accesses.

-- the knowledge of p at a place of its call
abbrev KnowsPlace : Setup → Past → Call → Versions → Contents → Wires → (ℕ → Touches) → Place → Type 0
KnowsPlace s past c v store m t at = KnowsAt s past c v store m t at.part at.run

-- an access of the new image: with the last one it is whole
pub image_written : (s : Setup) (past : Past) (p : ℕ) (command : Command) (number : ℕ) (vs : List Version) (st : Contents) (w : NumberWrite) (x : Bool) (v : Versions) (store : Contents) (m' : ℕ → Wires) (t : ℕ → Touches)
    → let c : Call = call s p command number in
    p < s.processes → Pending s c v store vs st → Advanced s.processes (new_image c st) w (m' p) (image_field (not (version_of vs p))) →
    KnowsPlace s past c v store (m' p) t (place_after c (record { part = WritesImage vs st; run = Writing w }) x)
image_written s past p command number vs st w x v store m' t below pending advanced = go (is_last c (WritesImage vs st) (Writing w)) refl
  where
    c : Call
    c = call s p command number

    go : (b : Bool) → is_last c (WritesImage vs st) (Writing w) ≡ b
        → KnowsPlace s past c v store (m' p) t (cond b (enter c (WritesStamp vs st)) (record { part = WritesImage vs st; run = Writing (write_moved s.processes (new_image c st) w) }))
    go true e = (
      pending,
      subst (λ b. IsWhole s.processes (m' p (image_field (not b))) (new_image c store)) (own_commit s c v store vs st below pending)
          (subst (λ y. IsWhole s.processes (m' p (image_field (not (version_of vs p)))) (new_image c y)) pending.store_read (advanced.all e)),
    )
    go false e = pending

-- an access of the new stamp: with the last one it is whole
pub stamp_written : (s : Setup) (past : Past) (p : ℕ) (command : Command) (number : ℕ) (vs : List Version) (st : Contents) (w : NumberWrite) (x : Bool) (v : Versions) (store : Contents) (busy : ℕ → Bool) (m m' : ℕ → Wires) (t : ℕ → Touches)
    → let c : Call = call s p command number in
    p < s.processes → Kept s v store busy m → Pending s c v store vs st → HasImage s c v store (m p) → WritesOne p (stamp_field (not (version_of vs p))) m m' →
    Advanced s.processes (stamp_bits_of s (newest_stamp vs + 1)) w (m' p) (stamp_field (not (version_of vs p))) →
    KnowsPlace s past c v store (m' p) t (place_after c (record { part = WritesStamp vs st; run = Writing w }) x)
stamp_written s past p command number vs st w x v store busy m m' t below k pending image one advanced = go (is_last c (WritesStamp vs st) (Writing w)) refl
  where
    c : Call
    c = call s p command number

    image' : HasImage s c v store (m' p)
    image' = image_stays s c v store (stamp_field (not (version_of vs p))) m m' one (image_not_stamp (not (v.commit p)) (not (version_of vs p))) image

    next : newest_stamp vs ≡ v.count
    next = ap newest_stamp pending.versions_read ∙ stamp_read s v store busy m k

    go : (b : Bool) → is_last c (WritesStamp vs st) (Writing w) ≡ b
        → KnowsPlace s past c v store (m' p) t (cond b (enter c (WritesCommit vs st)) (record { part = WritesStamp vs st; run = Writing (write_moved s.processes (stamp_bits_of s (newest_stamp vs + 1)) w) }))
    go true e = (
      pending,
      image',
      subst (λ b. IsWhole s.processes (m' p (stamp_field (not b))) (stamp_bits_of s (v.count + 1))) (own_commit s c v store vs st below pending)
          (subst (λ n. IsWhole s.processes (m' p (stamp_field (not (version_of vs p)))) (stamp_bits_of s (n + 1))) next (advanced.all e)),
    )
    go false e = (pending, image')

-- accesses of the image, and of the stamp, keep the committed registers
pub image_kept : (s : Setup) (p : ℕ) (command : Command) (number : ℕ) (vs : List Version) (st : Contents) (w : NumberWrite) (d' : Doing) (v : Versions) (store : Contents) (busy busy' : ℕ → Bool) (m m' : ℕ → Wires)
    → let c : Call = call s p command number in
    p < s.processes → Pending s c v store vs st → WritesOne p (image_field (not (version_of vs p))) m m' → TurnsBusy p (Runs command number (record { part = WritesImage vs st; run = Writing w })) d' busy busy' →
    Kept s v store busy m → Kept s v store busy' m'
image_kept s p command number vs st w d' v store busy busy' m m' below pending one turns k =
    let own : version_of vs p ≡ v.commit p = own_commit s (call s p command number) v store vs st below pending in
    kept_apart s v store busy busy' p (image_field (not (version_of vs p))) m m' one (uncommitted_beside v p (image_field (not (version_of vs p))) (inl (ap (λ b. image_field (not b)) own))) (idle_before p _ d' busy busy' turns refl) k

pub stamp_kept : (s : Setup) (p : ℕ) (command : Command) (number : ℕ) (vs : List Version) (st : Contents) (w : NumberWrite) (d' : Doing) (v : Versions) (store : Contents) (busy busy' : ℕ → Bool) (m m' : ℕ → Wires)
    → let c : Call = call s p command number in
    p < s.processes → Pending s c v store vs st → WritesOne p (stamp_field (not (version_of vs p))) m m' → TurnsBusy p (Runs command number (record { part = WritesStamp vs st; run = Writing w })) d' busy busy' →
    Kept s v store busy m → Kept s v store busy' m'
stamp_kept s p command number vs st w d' v store busy busy' m m' below pending one turns k =
    let own : version_of vs p ≡ v.commit p = own_commit s (call s p command number) v store vs st below pending in
    kept_apart s v store busy busy' p (stamp_field (not (version_of vs p))) m m' one (uncommitted_beside v p (stamp_field (not (version_of vs p))) (inr (ap (λ b. stamp_field (not b)) own))) (idle_before p _ d' busy busy' turns refl) k

-- an access of the commit bit that is not the last: p is busy then, and keeps its knowledge
pub commit_goes_on : (s : Setup) (past : Past) (p : ℕ) (command : Command) (number : ℕ) (vs : List Version) (st : Contents) (w : NumberWrite) (x : Bool) (v : Versions) (store : Contents) (busy busy' : ℕ → Bool) (m m' : ℕ → Wires) (t : ℕ → Touches)
    → let c : Call = call s p command number in
    let at : Place = place_after c (record { part = WritesCommit vs st; run = Writing w }) x in
    is_last c (WritesCommit vs st) (Writing w) ≡ false → Pending s c v store vs st → HasImage s c v store (m p) → HasStamp s c v (m p) → WritesOne p Commit m m' →
    TurnsBusy p (Runs command number (record { part = WritesCommit vs st; run = Writing w })) (runs command number at) busy busy' → Kept s v store busy m →
    Kept s v store busy' m' × KnowsPlace s past c v store (m' p) t at
commit_goes_on s past p command number vs st w x v store busy busy' m m' t more pending image stamp one turns k = (
  kept_beside s v store busy busy' p Commit m m' one (stamp_not_commit (v.commit p)) (image_not_commit (v.commit p)) (idle_beside p _ _ busy busy' turns now) (λ idle. absurd (true≢false (sym (turns.is ∙ now) ∙ idle))) k,
  subst (KnowsPlace s past c v store (m' p) t) (sym place)
      (pending, image_stays s c v store Commit m m' one (image_not_commit (not (v.commit p))) image, stamp_stays s c v Commit m m' one (stamp_not_commit (not (v.commit p))) stamp),
)
  where
    c : Call
    c = call s p command number

    to : NumberWrite
    to = write_moved s.processes (not (version_of vs p) ∷ []) w

    place : place_after c (record { part = WritesCommit vs st; run = Writing w }) x ≡ record { part = WritesCommit vs st; run = Writing to }
    place = ap (λ b. cond b (enter c (Clears (answer.Reply (reply c st)))) (record { part = WritesCommit vs st; run = Writing to })) more

    now : is_busy (runs command number (place_after c (record { part = WritesCommit vs st; run = Writing w }) x)) ≡ true
    now = ap (λ at. is_busy (runs command number at)) place ∙ ap not (moved-unfresh s.processes (not (version_of vs p) ∷ []) w)

-- the last end of the commit bit: the command is taken, and the new version is committed
pub commit_written : (s : Setup) (past : Past) (p : ℕ) (command : Command) (number : ℕ) (vs : List Version) (st : Contents) (w : NumberWrite) (x : Bool) (v v' : Versions) (store store' : Contents) (busy busy' : ℕ → Bool) (m m' : ℕ → Wires) (t : ℕ → Touches)
    → let c : Call = call s p command number in
    let at : Place = place_after c (record { part = WritesCommit vs st; run = Writing w }) x in
    p < s.processes → is_last c (WritesCommit vs st) (Writing w) ≡ true → IsStoreOf s (after store command (caller c)) → Pending s c v store vs st → HasImage s c v store (m p) → HasStamp s c v (m p) → WritesOne p Commit m m' →
    Advanced s.processes (not (version_of vs p) ∷ []) w (m' p) Commit → ((q : ℕ) → q ≢ p → busy' q ≡ busy q) → Kept s v store busy m →
    Kept s (committed p v) (after store command (caller c)) busy' m' × KnowsPlace s past c v' store' (m' p) t at
commit_written s past p command number vs st w x v v' store store' busy busy' m m' t below last sound pending image stamp one advanced others k = (
  kept_committed s p command number v store busy busy' m m' below one others pending.fits sound image stamp
      (λ r low. subst (λ b. Closed (m' p Commit 0 r) (not b)) (own_commit s c v store vs st below pending) (advanced.all last 0 r (omega arith) low)) k,
  subst (KnowsPlace s past c v' store' (m' p) t)
      (sym (ap (λ b. cond b (enter c (Clears (answer.Reply (reply c st)))) (record { part = WritesCommit vs st; run = Writing (write_moved s.processes (not (version_of vs p) ∷ []) w) })) last)) tt,
)
  where
    c : Call
    c = call s p command number
