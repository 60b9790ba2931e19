-- Which reads columns mark as overlapped.
use Rattle.std.specs.Prelude.{◌≡◌, ◌<◌, ℕ, true, List, [], ◌∷◌, option_map, Option, None, Some, Ok}
use Rattle.picture_layout.specs.{ShownAccess, UnendedAccess, given_access, open_with}
use Rattle.picture_layout.specs.declared.accesses.AccessKind.TheVariants as kind
use Rattle.plain_store.specs.{Setup, checked}
use Rattle.model.specs.safe_bit.{is_begin_of_read, is_overlapped}
use Rattle.model.specs.safe_bit.declared.Move.TheVariants.{BeginRead}
use Rattle.model.specs.{Access, Event, Past, moves_of, past_of}
use Rattle.picture_layout.specs.declared.limits.WaveLimit.{WaveLimit}
use Rattle.record_accesses.specs.declared.opened.OpenBitAccess.{OpenBitAccess}
use Rattle.record_accesses.specs.Accesses.{possible_past, shown_access}
use Rattle.record_accesses.specs.Bits.{writer_of}
use Rattle.record_accesses.specs.Opened.{opened}

-- These are shown of the entries of a past, the newest first.
abbrev pub AreShown : Setup → WaveLimit → Past → List (Option ShownAccess) → Type 0
AreShown s limit [] [] = Unit {0}
AreShown s limit [] (x ∷ shown) = ⊥
AreShown s limit (e ∷ past) [] = ⊥
AreShown s limit (e ∷ past) (x ∷ shown) = (option_map given_access x ≡ shown_access s limit past e) × AreShown s limit past shown

-- The box that columns of these keep of a process, the newest first.
abbrev pub box_of : ℕ → List (Option ShownAccess) → Option UnendedAccess
box_of p [] = None
box_of p (x ∷ shown) = open_with p (box_of p shown) x

-- A read that process p begins is of its own copy, and p has no write open.
pub record IsOwnRead (past : Past) (p : ℕ) (a : Access) : Type 0 where
  pub own : a.reader ≡ p
  pub calm : (b : Access) → writer_of b past ≡ Some p → ⊥

-- Each read that entries begin is so.
abbrev pub AreOwnReads : Past → Type 0
AreOwnReads [] = Unit {0}
AreOwnReads (e ∷ past) = ((a : Access) → e.access ≡ Some a → a.how ≡ BeginRead → IsOwnRead past e.process a) × AreOwnReads past

-- The box of a read that a process has open is marked as overlapped exactly if a write of its bit was open as the read began, or one
-- has begun since. So it is in each record, good or bad, in which each read is of its process's own copy, and its process has no
-- write open.
abbrev pub MarksOverlappedReads : Type 0
MarksOverlappedReads =
    (s : Setup) → checked s ≡ Ok tt → (limit : WaveLimit) (past : Past) (shown : List (Option ShownAccess)) → AreShown s limit past shown → AreOwnReads (possible_past s past) →
    (p : ℕ) → p < s.processes → (o : OpenBitAccess) → opened p (possible_past s past) ≡ Some o → is_begin_of_read o.access.how ≡ true →
    box_of p shown ≡ Some (record { kind = kind.Read; is_overlapped = is_overlapped (moves_of o.access (possible_past s past)) })

-- So it is in the record of each list of events.
abbrev pub MarksOverlappedReadsOfRuns : Type 0
MarksOverlappedReadsOfRuns =
    (s : Setup) → checked s ≡ Ok tt → (events : List Event) (limit : WaveLimit) (shown : List (Option ShownAccess)) → AreShown s limit (past_of s events) shown →
    (p : ℕ) → p < s.processes → (o : OpenBitAccess) → opened p (past_of s events) ≡ Some o → is_begin_of_read o.access.how ≡ true →
    box_of p shown ≡ Some (record { kind = kind.Read; is_overlapped = is_overlapped (moves_of o.access (past_of s events)) })
