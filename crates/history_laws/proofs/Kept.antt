-- The invariant of the data. Committed registers are whole and hold the history's values. The process inside has read what the registers hold, and writes only registers that are not committed.
use Rattle.std.specs.Prelude.{◌≡◌, ◌⊎◌, ℕ, ◌+◌, ◌^◌, ◌<◌, ◌≤◌, Bool, true, false, not, List, [], ◌∷◌, ◌++◌, length, Option, None, Some}
use Rattle.model.specs.reader_copies.Runs as copies
use Rattle.model.specs.{AsksCommit, AsksImage, AsksStamp, Call, Clears, Closing, Field, Part, Past, Reading, Run, Settles, Version, WritesCommit, WritesImage, WritesStamp, Writing, before_image_read, count_changes, history, image_field, is_fresh, is_version, max_of, new_image, processes, reply, stamp_field, store_after, width}
use Rattle.model.specs.declared.access.Field.TheVariants.{Commit, Image0}
use Rattle.model.specs.safe_number.{bits_in, bits_of_number}
use Rattle.plain_store.specs.{Answer, Contents, Reply, Setup, changes, opening_store}
use Rattle.plain_store.specs.declared.Answer.TheVariants as answer
use Rattle.model.specs.store_image.{image_of}
use Rattle.laws.specs.{Doing, Runs, Closes, call, doing}
use Rattle.laws.proofs.Invariant.{Wire, Wires, Touches, Closed, wires, touches, bit}
use Rattle.history_laws.proofs.Sound.{IsStoreOf, IsGivenTo}
use Rattle.history_laws.proofs.Versions.{Versions, versions, versions_of, store_of}

-- n copies of each of these bits are closed at them
abbrev pub IsWhole : ℕ → (ℕ → ℕ → Wire) → List Bool → Type 0
IsWhole n row bits = (k r : ℕ) → k < length bits → r < n → Closed (row k r) (bit bits k)

-- the bits of the image of a store
abbrev pub image_bits : Setup → Contents → List Bool
image_bits s store = bits_in (image_of store) (width s Image0)

-- the bits of a stamp
abbrev pub stamp_bits_of : Setup → ℕ → List Bool
stamp_bits_of s n = bits_of_number s.stamp_bits n

-- a commit bit is being written, or settled
abbrev pub is_committing : Part → (fresh : Bool) → Bool
is_committing (WritesCommit vs st) fresh = not fresh
is_committing _ fresh = false

abbrev pub is_commit_field : Field → Bool
is_commit_field Commit = true
is_commit_field _ = false

abbrev pub is_busy : Doing → Bool
is_busy (Runs command number at) = is_committing at.part (is_fresh at.run)
is_busy (Closes command number (Settles f bit begun taken is t)) = is_commit_field f
is_busy _ = false

-- The registers and the history. m: the registers of each process; busy: a process whose commit bit is being written or settled.
pub record Kept (s : Setup) (v : Versions) (store : Contents) (busy : ℕ → Bool) (m : ℕ → Wires) : Type 0 where
  pub sound : IsStoreOf s store
  pub commits : (q : ℕ) → q < s.processes → busy q ≡ false → (r : ℕ) → r < s.processes → Closed (m q Commit 0 r) (v.commit q)
  pub stamps : (q : ℕ) → q < s.processes → IsWhole s.processes (m q (stamp_field (v.commit q))) (stamp_bits_of s (v.stamp q))
  pub image : IsWhole s.processes (m v.newest (image_field (v.commit v.newest))) (image_bits s store)
  pub most : (q : ℕ) → q < s.processes → v.stamp q ≤ v.count
  pub first : (q : ℕ) → q < v.newest → v.stamp q < v.count
  pub is : v.stamp v.newest ≡ v.count
  pub newest : v.newest < s.processes
  pub fits : v.count < 2 ^ s.stamp_bits

-- a read of a whole register: the bits so far are its bits, and the open copy is untouched
abbrev pub ReadsClean : Run → List Bool → (touched : ℕ → Bool) → Type 0
ReadsClean (Writing w) bits touched = ⊥
ReadsClean (Reading read begun) bits touched = ((k : ℕ) → k < length read → bit read k ≡ bit bits k) × (begun ≡ true → touched (length read) ≡ false)

-- the versions of the processes before k were read
pub record HasRead (s : Setup) (v : Versions) (k : ℕ) (ks : List ℕ) (vs : List Version) : Type 0 where
  pub done : List ℕ
  pub all : processes s ≡ done ++ k ∷ ks
  pub read : vs ≡ versions_of v done

-- p writes a change: it has read all versions and the store, the command changes it, and its stamp fits
pub record Pending (s : Setup) (c : Call) (v : Versions) (store : Contents) (vs : List Version) (st : Contents) : Type 0 where
  pub versions_read : vs ≡ versions_of v (processes s)
  pub store_read : st ≡ store
  pub changing : changes store c.command ≡ true
  pub fits : v.count + 1 < 2 ^ s.stamp_bits

-- the new version's image is written, and its stamp
abbrev pub HasImage : Setup → Call → Versions → Contents → Wires → Type 0
HasImage s c v store m = IsWhole s.processes (m (image_field (not (v.commit c.process)))) (new_image c store)

abbrev pub HasStamp : Setup → Call → Versions → Wires → Type 0
HasStamp s c v m = IsWhole s.processes (m (stamp_field (not (v.commit c.process)))) (stamp_bits_of s (v.count + 1))

-- if a call is refused for its stamp, the command would change the store that it read, and no further stamp fits
abbrev pub IsStampsFull : Setup → Past → Call → Answer → Type 0
IsStampsFull s past c answer.StampsFull =
    let read = history s (before_image_read c.process past) in
    (changes (store_after s read) c.command ≡ true) × (count_changes (opening_store s) read ≡ max_of s.stamp_bits)
IsStampsFull s past c _ = Unit {0}

-- the knowledge of p at a part of its call. m: its own registers; t: for each owner, which of its open reads are touched
abbrev pub KnowsAt : Setup → Past → Call → Versions → Contents → Wires → (ℕ → Touches) → Part → Run → Type 0
KnowsAt s past c v store m t (AsksCommit k ks vs) run = HasRead s v k ks vs × ReadsClean run (v.commit k ∷ []) (t k Commit)
KnowsAt s past c v store m t (AsksStamp k ks vs b) run = HasRead s v k ks vs × (b ≡ v.commit k) × ReadsClean run (stamp_bits_of s (v.stamp k)) (t k (stamp_field (v.commit k)))
KnowsAt s past c v store m t (AsksImage vs) run = (vs ≡ versions_of v (processes s)) × ReadsClean run (image_bits s store) (t v.newest (image_field (v.commit v.newest)))
KnowsAt s past c v store m t (WritesImage vs st) run = Pending s c v store vs st
KnowsAt s past c v store m t (WritesStamp vs st) run = Pending s c v store vs st × HasImage s c v store m
KnowsAt s past c v store m t (WritesCommit vs st) run = Pending s c v store vs st × HasImage s c v store m × HasStamp s c v m
KnowsAt s past c v store m t (Clears a) run = IsStampsFull s past c a
KnowsAt s past c v store m t _ run = Unit {0}

-- a copy that a settling at x is done with
abbrev pub SettledCopies : (n : ℕ) → copies.Settling → (ℕ → Wire) → Type 0
SettledCopies n t row = (x : Bool) → t.value ≡ Some x → (r : ℕ) → r < t.reader → Closed (row r) x

-- the settling of a commit bit: the change that it may commit is written, its reply is the store's, and the copies before the cursor are settled
pub record SettlesCommit (s : Setup) (c : Call) (v : Versions) (store : Contents) (bit : ℕ) (begun : Bool) (taken : Option Reply) (t : copies.Settling) (m : Wires) : Type 0 where
  pub the_bit : bit ≡ 0
  pub changing : changes store c.command ≡ true
  pub fits : v.count + 1 < 2 ^ s.stamp_bits
  pub new : begun ≡ not (v.commit c.process)
  pub reply_is : taken ≡ Some (reply c store)
  pub image : HasImage s c v store m
  pub stamp : HasStamp s c v m
  pub below : t.reader < s.processes
  pub settled : SettledCopies s.processes t (m Commit 0)
  pub open_copy : t.begun ≡ true → (x : Bool) → t.value ≡ Some x → (m Commit 0 t.reader).value ≡ x
  pub chosen : (t.reader ≡ 0) × (t.begun ≡ false) ⊎ ((x : Bool) × (t.value ≡ Some x))

-- a unit settles, for a process that was inside, a commit bit or a register that is not committed
abbrev pub KnowsSettling : Setup → Call → Versions → Contents → Wires → Field → ℕ → Bool → Option Reply → copies.Settling → Type 0
KnowsSettling s c v store m Commit bit begun taken t = SettlesCommit s c v store bit begun taken t m
KnowsSettling s c v store m f bit begun taken t = (taken ≡ None) × ((f ≡ image_field (not (v.commit c.process))) ⊎ (f ≡ stamp_field (not (v.commit c.process))))

abbrev pub KnowsClosing : Setup → Call → Versions → Contents → Wires → Closing → Type 0
KnowsClosing s c v store m (Settles f bit begun taken false t) = (taken ≡ None) × (is_version f ≡ false)
KnowsClosing s c v store m (Settles f bit begun taken true t) = KnowsSettling s c v store m f bit begun taken t
KnowsClosing s c v store m _ = Unit {0}

abbrev pub KnowsData : Setup → Past → ℕ → Versions → Contents → Wires → (ℕ → Touches) → Doing → Type 0
KnowsData s past p v store m t (Runs command number at) = KnowsAt s past (call s p command number) v store m t at.part at.run
KnowsData s past p v store m t (Closes command number at) = KnowsClosing s (call s p command number) v store m at
KnowsData s past p v store m t _ = Unit {0}

-- every past of a record keeps this of the data
pub record Data (s : Setup) (past : Past) : Type 0 where
  pub given : (p : ℕ) → p < s.processes → IsGivenTo (doing s p past)
  pub kept : Kept s (versions s past) (store_of s past) (λ q. is_busy (doing s q past)) (wires s past)
  pub knows : (p : ℕ) → p < s.processes → KnowsData s past p (versions s past) (store_of s past) (wires s past p) (λ o. touches s past o p) (doing s p past)
