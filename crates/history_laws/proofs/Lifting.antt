-- One process moves. If its step keeps the registers and its own knowledge, all processes keep theirs: while it is inside, the others know nothing of the versions; otherwise its step does not change the versions.
use Rattle.std.proofs.Common.{◌≡◌, ◌≢◌, ◌⊎◌, ℕ, ◌+◌, ◌<◌, ◌==◌, ◌&&◌, Bool, true, false, not, [], ◌∷◌, Option, Some, None, refl, sym, ap, subst, ◌∙◌, true≢false, inl, inr}
use Rattle.std.proofs.lemmas.Bool.{cases_eq, ne_eqb}
use Rattle.model.specs.reader_copies.Runs as copies
use Rattle.model.specs.{AsksCommit, AsksImage, AsksStamp, Call, Clears, Closing, Entry, Field, Part, Past, Run, Settles, WritesCommit, WritesImage, WritesStamp, before_image_read, count_changes, is_end_of_read, history, image_field, is_fresh, is_image, is_version, max_of, new_image, stamp_field, store_after}
use Rattle.model.specs.declared.access.Field.TheVariants.{Choosing, Ticket, Commit, Stamp0, Stamp1, Image0, Image1}
use Rattle.plain_store.specs.{Answer, Contents, Reply, Setup, changes, opening_store}
use Rattle.plain_store.specs.declared.Answer.TheVariants as answer
use Rattle.laws.specs.{Doing, Rests, Lies, Runs, Closes, call, doing, is_inside, is_inside_at}
use Rattle.laws.proofs.Invariant.{Wire, Wires, wires, Touches, touches, Closed, Inv}
use Rattle.laws.proofs.Frame.{doing-other}
use Rattle.laws.proofs.Theorems.{together}
use Rattle.history_laws.proofs.Sound.{IsGivenTo}
use Rattle.history_laws.proofs.Versions.{Versions, versions, store_of}
use Rattle.history_laws.proofs.Kept.{IsWhole, image_bits, stamp_bits_of, is_busy, Kept, ReadsClean, HasImage, HasStamp, IsStampsFull, KnowsAt, SettledCopies, SettlesCommit, KnowsClosing, KnowsData, Data}

-- the fields that a bit chooses are fields of versions
pub version-stamp : (b : Bool) → is_version (stamp_field b) ≡ true
version-stamp false = refl
version-stamp true = refl

pub version-image : (b : Bool) → is_version (image_field b) ≡ true
version-image false = refl
version-image true = refl

-- an entry that leaves the versions as they are: the history, the registers of versions, and the marks of overlap on them
pub record Untouched (s : Setup) (past : Past) (e : Entry) : Type 0 where
  pub versions : versions s (e ∷ past) ≡ versions s past
  pub store : store_of s (e ∷ past) ≡ store_of s past
  pub wires : (o : ℕ) (f : Field) → is_version f ≡ true → wires s (e ∷ past) o f ≡ wires s past o f
  pub touches : (o r : ℕ) (f : Field) → is_version f ≡ true → touches s (e ∷ past) o r f ≡ touches s past o r f

-- registers, and marks of overlap, that are equal for versions
pub record SameVersions (m m' : Wires) (t t' : ℕ → Touches) : Type 0 where
  pub wires : (f : Field) → is_version f ≡ true → m' f ≡ m f
  pub touches : (o : ℕ) (f : Field) → is_version f ≡ true → t' o f ≡ t o f

-- Knowledge stays true.

-- the knowledge of an answer: its process ends no read of an image meanwhile
pub full-kept : (s : Setup) (past past' : Past) (c : Call) (a : Answer) → before_image_read c.process past' ≡ before_image_read c.process past → IsStampsFull s past c a → IsStampsFull s past' c a
full-kept s past past' c answer.StampsFull same h =
    subst (λ (y : Past). (changes (store_after s (history s y)) c.command ≡ true) × (count_changes (opening_store s) (history s y) ≡ max_of s.stamp_bits)) (sym same) h
full-kept s past past' c _ same h = tt

image-kept : (s : Setup) (c : Call) (v : Versions) (store : Contents) (m m' : Wires) (t t' : ℕ → Touches) → SameVersions m m' t t' → HasImage s c v store m → HasImage s c v store m'
image-kept s c v store m m' t t' same h =
    let b : Bool = not (v.commit c.process) in
    subst (λ row. IsWhole s.processes row (new_image c store)) (sym (same.wires (image_field b) (version-image b))) h

stamp-kept : (s : Setup) (c : Call) (v : Versions) (m m' : Wires) (t t' : ℕ → Touches) → SameVersions m m' t t' → HasStamp s c v m → HasStamp s c v m'
stamp-kept s c v m m' t t' same h =
    let b : Bool = not (v.commit c.process) in
    subst (λ row. IsWhole s.processes row (stamp_bits_of s (v.count + 1))) (sym (same.wires (stamp_field b) (version-stamp b))) h

-- the knowledge at a part, while the versions do not change
part-kept : (s : Setup) (past past' : Past) (c : Call) (v : Versions) (store : Contents) (m m' : Wires) (t t' : ℕ → Touches) (x : Part) (run : Run) → SameVersions m m' t t' →
    before_image_read c.process past' ≡ before_image_read c.process past → KnowsAt s past c v store m t x run → KnowsAt s past' c v store m' t' x run
part-kept s past past' c v store m m' t t' (AsksCommit k ks vs) run same read h = (h.0, subst (ReadsClean run (v.commit k ∷ [])) (sym (same.touches k Commit refl)) h.1)
part-kept s past past' c v store m m' t t' (AsksStamp k ks vs b) run same read h =
    let f : Field = stamp_field (v.commit k) in
    (h.0, h.1, subst (ReadsClean run (stamp_bits_of s (v.stamp k))) (sym (same.touches k f (version-stamp (v.commit k)))) h.2)
part-kept s past past' c v store m m' t t' (AsksImage vs) run same read h =
    let b : Bool = v.commit v.newest in
    (h.0, subst (ReadsClean run (image_bits s store)) (sym (same.touches v.newest (image_field b) (version-image b))) h.1)
part-kept s past past' c v store m m' t t' (WritesImage vs st) run same read h = h
part-kept s past past' c v store m m' t t' (WritesStamp vs st) run same read h = (h.0, image-kept s c v store m m' t t' same h.1)
part-kept s past past' c v store m m' t t' (WritesCommit vs st) run same read h = (h.0, image-kept s c v store m m' t t' same h.1, stamp-kept s c v m m' t t' same h.2)
part-kept s past past' c v store m m' t t' (Clears a) run same read h = full-kept s past past' c a read h
part-kept s past past' c v store m m' t t' _ run same read h = tt

-- in a closing
commit-kept : (s : Setup) (c : Call) (v : Versions) (store : Contents) (m m' : Wires) (t t' : ℕ → Touches) (bit : ℕ) (begun : Bool) (taken : Option Reply) (x : copies.Settling) → SameVersions m m' t t' →
    SettlesCommit s c v store bit begun taken x m → SettlesCommit s c v store bit begun taken x m'
commit-kept s c v store m m' t t' bit begun taken x same h = record {
  the_bit = h.the_bit;
  changing = h.changing;
  fits = h.fits;
  new = h.new;
  reply_is = h.reply_is;
  image = image-kept s c v store m m' t t' same h.image;
  stamp = stamp-kept s c v m m' t t' same h.stamp;
  below = h.below;
  settled = subst (λ (row : ℕ → ℕ → Wire). SettledCopies s.processes x (row 0)) (sym (same.wires Commit refl)) h.settled;
  open_copy = subst (λ (row : ℕ → ℕ → Wire). x.begun ≡ true → (y : Bool) → x.value ≡ Some y → (row 0 x.reader).value ≡ y) (sym (same.wires Commit refl)) h.open_copy;
  chosen = h.chosen;
}

closing-kept : (s : Setup) (c : Call) (v : Versions) (store : Contents) (m m' : Wires) (t t' : ℕ → Touches) (at : Closing) → SameVersions m m' t t' → KnowsClosing s c v store m at → KnowsClosing s c v store m' at
closing-kept s c v store m m' t t' (Settles f bit begun taken false x) same h = h
closing-kept s c v store m m' t t' (Settles Commit bit begun taken true x) same h = commit-kept s c v store m m' t t' bit begun taken x same h
closing-kept s c v store m m' t t' (Settles Choosing bit begun taken true x) same h = h
closing-kept s c v store m m' t t' (Settles Ticket bit begun taken true x) same h = h
closing-kept s c v store m m' t t' (Settles Stamp0 bit begun taken true x) same h = h
closing-kept s c v store m m' t t' (Settles Stamp1 bit begun taken true x) same h = h
closing-kept s c v store m m' t t' (Settles Image0 bit begun taken true x) same h = h
closing-kept s c v store m m' t t' (Settles Image1 bit begun taken true x) same h = h
closing-kept s c v store m m' t t' _ same h = tt

-- any knowledge, while the versions do not change
pub known-kept : (s : Setup) (past past' : Past) (p : ℕ) (v : Versions) (store : Contents) (m m' : Wires) (t t' : ℕ → Touches) (d : Doing) → SameVersions m m' t t' →
    before_image_read p past' ≡ before_image_read p past → KnowsData s past p v store m t d → KnowsData s past' p v store m' t' d
known-kept s past past' p v store m m' t t' Rests same read h = tt
known-kept s past past' p v store m m' t t' Lies same read h = tt
known-kept s past past' p v store m m' t t' (Runs command number at) same read h = part-kept s past past' (call s p command number) v store m m' t t' at.part at.run same read h
known-kept s past past' p v store m m' t t' (Closes command number at) same read h = closing-kept s (call s p command number) v store m m' t t' at same h

-- a process that is not inside at a part now is not inside after more of the part
pub still-outside : (x : Part) (fresh : Bool) → is_inside_at x fresh ≡ false → is_inside_at x false ≡ false
still-outside (Clears a) fresh h = refl
still-outside _ fresh h = h

-- a process that is not inside knows nothing of the versions
pub outside-part : (s : Setup) (past past' : Past) (c : Call) (v v' : Versions) (store store' : Contents) (m m' : Wires) (t t' : ℕ → Touches) (x : Part) (run run' : Run) → is_inside_at x false ≡ false →
    before_image_read c.process past' ≡ before_image_read c.process past → KnowsAt s past c v store m t x run → KnowsAt s past' c v' store' m' t' x run'
outside-part s past past' c v v' store store' m m' t t' (AsksCommit k ks vs) run run' out read h = absurd (true≢false out)
outside-part s past past' c v v' store store' m m' t t' (AsksStamp k ks vs b) run run' out read h = absurd (true≢false out)
outside-part s past past' c v v' store store' m m' t t' (AsksImage vs) run run' out read h = absurd (true≢false out)
outside-part s past past' c v v' store store' m m' t t' (WritesImage vs st) run run' out read h = absurd (true≢false out)
outside-part s past past' c v v' store store' m m' t t' (WritesStamp vs st) run run' out read h = absurd (true≢false out)
outside-part s past past' c v v' store store' m m' t t' (WritesCommit vs st) run run' out read h = absurd (true≢false out)
outside-part s past past' c v v' store store' m m' t t' (Clears a) run run' out read h = full-kept s past past' c a read h
outside-part s past past' c v v' store store' m m' t t' _ run run' out read h = tt

pub outside-kept : (s : Setup) (past past' : Past) (p : ℕ) (v v' : Versions) (store store' : Contents) (m m' : Wires) (t t' : ℕ → Touches) (d : Doing) → is_inside d ≡ false →
    before_image_read p past' ≡ before_image_read p past → KnowsData s past p v store m t d → KnowsData s past' p v' store' m' t' d
outside-kept s past past' p v v' store store' m m' t t' Rests out read h = tt
outside-kept s past past' p v v' store store' m m' t t' Lies out read h = tt
outside-kept s past past' p v v' store store' m m' t t' (Runs command number at) out read h = outside-part s past past' (call s p command number) v v' store store' m m' t t' at.part at.run at.run (still-outside at.part (is_fresh at.run) out) read h
outside-kept s past past' p v v' store store' m m' t t' (Closes command number at) out read h = go at out h
  where
    c : Call
    c = call s p command number

    go : (at : Closing) → is_inside (Closes command number at) ≡ false → KnowsClosing s c v store m at → KnowsClosing s c v' store' m' at
    go (Settles f bit begun taken false x) out h = h
    go (Settles f bit begun taken true x) out h = absurd (true≢false out)
    go _ out h = tt

-- The knowledge after an entry.

-- the knowledge of q after a past, for any state of q
abbrev pub Knows : Setup → Past → ℕ → Doing → Type 0
Knows s past q d = KnowsData s past q (versions s past) (store_of s past) (wires s past q) (λ o. touches s past o q) d

-- an entry that ends no read of q does not change its last read of an image
pub read-kept : (q : ℕ) (e : Entry) (past : Past) (b : Bool) → (e.process == q) ≡ b → (b && elim e.access [ None ↦ false | Some a ↦ is_image a.field && is_end_of_read a.how ]) ≡ false →
    before_image_read q (e ∷ past) ≡ before_image_read q past
read-kept q e past b is none =
    ap (λ x. elim x as (λ _. Past) [ true ↦ past | false ↦ before_image_read q past ]) (ap (λ x. x && elim e.access [ None ↦ false | Some a ↦ is_image a.field && is_end_of_read a.how ]) is ∙ none)

pub read-others : (q : ℕ) (e : Entry) (past : Past) → e.process ≢ q → before_image_read q (e ∷ past) ≡ before_image_read q past
read-others q e past h = read-kept q e past false (ne_eqb e.process q h) refl

-- an entry that leaves the versions as they are, keeps what is known of them
pub untouched-known : (s : Setup) (past : Past) (e : Entry) (q : ℕ) (d : Doing) → Untouched s past e → before_image_read q (e ∷ past) ≡ before_image_read q past → Knows s past q d → Knows s (e ∷ past) q d
untouched-known s past e q d u read h =
    let m' : Wires = wires s (e ∷ past) q in
    let t' : ℕ → Touches = λ o. touches s (e ∷ past) o q in
    subst (λ v. KnowsData s (e ∷ past) q v (store_of s (e ∷ past)) m' t' d) (sym u.versions)
    (subst (λ store. KnowsData s (e ∷ past) q (versions s past) store m' t' d) (sym u.store)
    (known-kept s past (e ∷ past) q (versions s past) (store_of s past) (wires s past q) m' (λ o. touches s past o q) t' d (record { wires = λ f i. u.wires q f i; touches = λ o f i. u.touches o q f i }) read h))

-- no entry changes the knowledge of a process that is not inside
outside-known : (s : Setup) (past : Past) (e : Entry) (q : ℕ) (d : Doing) → is_inside d ≡ false → before_image_read q (e ∷ past) ≡ before_image_read q past → Knows s past q d → Knows s (e ∷ past) q d
outside-known s past e q d out read h =
    outside-kept s past (e ∷ past) q (versions s past) (versions s (e ∷ past)) (store_of s past) (store_of s (e ∷ past)) (wires s past q) (wires s (e ∷ past) q) (λ o. touches s past o q) (λ o. touches s (e ∷ past) o q) d out read h

-- the registers after an entry
abbrev pub KeptBy : Setup → Past → Type 0
KeptBy s past = Kept s (versions s past) (store_of s past) (λ q. is_busy (doing s q past)) (wires s past)

-- they too are kept, if the process was not writing its commit bit
pub untouched-kept : (s : Setup) (past : Past) (e : Entry) → Untouched s past e → is_busy (doing s e.process past) ≡ false → KeptBy s past → KeptBy s (e ∷ past)
untouched-kept s past e u idle h =
    subst (λ v. Kept s v (store_of s (e ∷ past)) busy' m') (sym u.versions)
    (subst (λ store. Kept s (versions s past) store busy' m') (sym u.store) (record {
      sound = h.sound;
      commits = λ q below free r rb. subst (λ (row : ℕ → ℕ → Wire). Closed (row 0 r) (v.commit q)) (sym (u.wires q Commit refl)) (h.commits q below (was_free q free) r rb);
      stamps = λ q below. subst (λ row. IsWhole s.processes row (stamp_bits_of s (v.stamp q))) (sym (u.wires q (stamp_field (v.commit q)) (version-stamp (v.commit q)))) (h.stamps q below);
      image = subst (λ row. IsWhole s.processes row (image_bits s (store_of s past))) (sym (u.wires v.newest (image_field (v.commit v.newest)) (version-image (v.commit v.newest)))) h.image;
      most = h.most;
      first = h.first;
      is = h.is;
      newest = h.newest;
      fits = h.fits;
    }))
  where
    v : Versions
    v = versions s past

    m' : ℕ → Wires
    m' = wires s (e ∷ past)

    busy' : ℕ → Bool
    busy' q = is_busy (doing s q (e ∷ past))

    was_free : (q : ℕ) → busy' q ≡ false → is_busy (doing s q past) ≡ false
    was_free q free = elim (cases_eq q e.process) [
      | inl is ↦ ap (λ x. is_busy (doing s x past)) is ∙ idle
      | inr ne ↦ ap is_busy (sym (doing-other s q e past (λ h. ne (sym h)))) ∙ free
    ]

-- a step of the process of e has to keep the registers and its own knowledge
pub record Keeps (s : Setup) (past : Past) (e : Entry) : Type 0 where
  pub kept : KeptBy s (e ∷ past)
  pub knows : Knows s (e ∷ past) e.process (doing s e.process (e ∷ past))

-- then all is kept. The process is inside, or it leaves the versions as they are
pub lifts : (s : Setup) (past : Past) (e : Entry) → Inv s past → e.process < s.processes → (is_inside (doing s e.process past) ≡ true) ⊎ Untouched s past e →
    ((p : ℕ) → p < s.processes → IsGivenTo (doing s p (e ∷ past))) → Data s past → Keeps s past e → Data s (e ∷ past)
lifts s past e inv below how given known keeps = record { given = given; kept = keeps.kept; knows = knows }
  where
    p : ℕ
    p = e.process

    -- the knowledge of another process holds after the entry
    other : (q : ℕ) → q < s.processes → q ≢ p → Knows s (e ∷ past) q (doing s q past)
    other q qb ne = elim how [
      | inr u ↦ untouched-known s past e q (doing s q past) u (read-others q e past (λ h. ne (sym h))) (known.knows q qb)
      | inl inside ↦ at inside (is_inside (doing s q past)) refl
    ]
      where
        at : is_inside (doing s p past) ≡ true → (b : Bool) → is_inside (doing s q past) ≡ b → Knows s (e ∷ past) q (doing s q past)
        at inside true i = absurd (together s past q p inv qb below ne i inside)
        at inside false i = outside-known s past e q (doing s q past) i (read-others q e past (λ h. ne (sym h))) (known.knows q qb)

    knows : (q : ℕ) → q < s.processes → Knows s (e ∷ past) q (doing s q (e ∷ past))
    knows q qb = elim (cases_eq q p) [
      | inl is ↦ subst (λ x. Knows s (e ∷ past) x (doing s x (e ∷ past))) (sym is) keeps.knows
      | inr ne ↦ subst (Knows s (e ∷ past) q) (sym (doing-other s q e past (λ h. ne (sym h)))) (other q qb ne)
    ]
