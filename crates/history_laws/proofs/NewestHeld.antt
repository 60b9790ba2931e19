-- While no process is inside, the copies of reader 0 are the committed versions and the image of the store after the history.
use Rattle.std.proofs.Common.{◌≡◌, ℕ, zero, suc, ◌+◌, ◌^◌, ◌<◌, Bool, false, List, [], ◌∷◌, length, map, slice_index_or, refl, sym, ap, ◌∙◌, arith}
use Rattle.std.specs.List.{range_with_len}
use Rattle.std.proofs.lemmas.List.{ext_get_or}
use Rattle.std.proofs.lemmas.List.FromFn.{get_or-map-range_with_len, length-map-range_with_len}
use Rattle.model.specs.{Event, Field, Past, Version, bits_held, bytes_of_bits, cell_after, copy, image_bytes, image_field, inside, is_somebody_inside, newest_bytes, newest_process, past_of, processes, stamp_field, version_held, version_of, versions_held, width}
use Rattle.model.specs.declared.access.Field.TheVariants.{Commit}
use Rattle.model.specs.safe_number.{number_of_bits}
use Rattle.model.proofs.safe_number.Bits.{number-bits, length-bits_of_number}
use Rattle.plain_store.specs.{Contents, Setup}
use Rattle.model.specs.store_image.{image_of}
use Rattle.model.proofs.Width.{IsGood}
use Rattle.laws.proofs.Alone.{closes_inside}
use Rattle.laws.specs.{Doing, doing}
use Rattle.laws.proofs.FrameInside.{inside-is}
use Rattle.laws.proofs.Invariant.{wires}
use Rattle.history_laws.proofs.CleanReads.{commit_whole}
use Rattle.history_laws.proofs.Codec.{bytes_read}
use Rattle.history_laws.proofs.DataReads.{image_wide, stamp_width}
use Rattle.history_laws.proofs.Kept.{Data, IsWhole, Kept, image_bits, is_busy, stamp_bits_of}
use Rattle.history_laws.proofs.NewestVersion.{newest_process_is, version_of_is}
use Rattle.history_laws.proofs.Outside.{idle-free, outside-idle}
use Rattle.history_laws.proofs.VersionReads.{nobody}
use Rattle.history_laws.proofs.Versions.{Versions, store_of, version, versions, versions_of}

-- while no process is inside, no process writes or settles a commit bit
pub idle_outside : (s : Setup) → IsGood s → (events : List Event) (p : ℕ) → inside p (past_of s events) ≡ false → is_busy (doing s p (past_of s events)) ≡ false
idle_outside s g events p out =
    let d : Doing = doing s p (past_of s events) in
    idle-free d (outside-idle d (sym (inside-is s g events p) ∙ out)) (closes_inside s g events p)

-- The bits that the copies of reader 0 hold.

-- if a register is whole, these are its bits
pub held_whole : (s : Setup) (past : Past) (q : ℕ) (f : Field) (bits : List Bool) → 0 < s.processes → length bits ≡ width s f → IsWhole s.processes (wires s past q f) bits → bits_held s past q f 0 ≡ bits
held_whole s past q f bits some wide whole =
    ext_get_or false (bits_held s past q f 0) bits (long ∙ sym wide) λ k below.
    let small : k < width s f = omega (arith, below, long) in
    get_or-map-range_with_len held 0 (width s f) k k false small (omega arith) ∙ (whole k 0 (omega (arith, small, wide)) some).value
  where
    held : ℕ → Bool
    held k = (cell_after s past (copy q f 0 k)).value

    long : length (bits_held s past q f 0) ≡ width s f
    long = length-map-range_with_len held 0 (width s f)

-- the version of q
pub version_is_held : (s : Setup) (past : Past) (busy : ℕ → Bool) (q : ℕ) → Kept s (versions s past) (store_of s past) busy (wires s past) → 0 < s.processes → q < s.processes → busy q ≡ false →
    version_held s past q ≡ version (versions s past) q
version_is_held s past busy q kept some below idle = λ i. (commit i, (ap (λ b. number_of_bits (bits_held s past q (stamp_field b) 0)) commit ∙ stamp) i)
  where
    v : Versions
    v = versions s past

    commit : slice_index_or (bits_held s past q Commit 0) 0 false ≡ v.commit q
    commit = ap (λ bits. slice_index_or bits 0 false) (held_whole s past q Commit (v.commit q ∷ []) some refl (commit_whole s v (store_of s past) busy (wires s past) kept q below idle))

    stamp : number_of_bits (bits_held s past q (stamp_field (v.commit q)) 0) ≡ v.stamp q
    stamp =
        let most = kept.most q below in
        let room = kept.fits in
        let fits : v.stamp q < 2 ^ s.stamp_bits = omega (arith, most, room) in
        ap number_of_bits (held_whole s past q (stamp_field (v.commit q)) (stamp_bits_of s (v.stamp q)) some (length-bits_of_number s.stamp_bits (v.stamp q) ∙ sym (stamp_width s (v.commit q))) (kept.stamps q below))
        ∙ number-bits s.stamp_bits (v.stamp q) fits

-- functions that are equal below a bound give equal lists
same_below : (f g : ℕ → Version) (from n : ℕ) → ((q : ℕ) → q < from + n → f q ≡ g q) → map f (range_with_len from n) ≡ map g (range_with_len from n)
same_below f g from zero h = refl
same_below f g from (suc n) h = λ i. h from (omega arith) i ∷ same_below f g (from + 1) n (λ q below. h q (omega (arith, below))) i

-- while no process writes or settles a commit bit, the registers hold the versions of the history
pub all_held : (s : Setup) (past : Past) (busy : ℕ → Bool) → Kept s (versions s past) (store_of s past) busy (wires s past) → ((q : ℕ) → q < s.processes → busy q ≡ false) → versions_held s past ≡ versions_of (versions s past) (processes s)
all_held s past busy kept idle =
    let some : 0 < s.processes = (let below = kept.newest in omega (arith, below)) in
    same_below (version_held s past) (version (versions s past)) 0 s.processes λ q below. let small : q < s.processes = omega (arith, below) in version_is_held s past busy q kept some small (idle q small)

-- While no process writes or settles a commit bit, the newest bytes are the image of the store after the history.
pub newest_held : (s : Setup) (past : Past) (busy : ℕ → Bool) → Kept s (versions s past) (store_of s past) busy (wires s past) → ((q : ℕ) → q < s.processes → busy q ≡ false) → newest_bytes s past ≡ image_of (store_of s past)
newest_held s past busy kept idle =
    (λ i. bytes_of_bits (image_bytes s) (bits_held s past (owner i) (image_field (version_of (all i) (owner i))) 0))
    ∙ ap (λ b. bytes_of_bits (image_bytes s) (bits_held s past v.newest (image_field b) 0)) (version_of_is s v v.newest kept.newest)
    ∙ ap (bytes_of_bits (image_bytes s)) (held_whole s past v.newest f (image_bits s store) some wide kept.image)
    ∙ bytes_read s store kept.sound
  where
    v : Versions
    v = versions s past

    store : Contents
    store = store_of s past

    f : Field
    f = image_field (v.commit v.newest)

    some : 0 < s.processes
    some = let below = kept.newest in omega (arith, below)

    all : versions_held s past ≡ versions_of v (processes s)
    all = all_held s past busy kept idle

    owner : newest_process (versions_held s past) ≡ v.newest
    owner = ap newest_process all ∙ newest_process_is s v store busy (wires s past) kept

    wide : length (image_bits s store) ≡ width s f
    wide = image_wide s store (v.commit v.newest)

-- While no process is inside, the registers hold the image of the store after the history.
pub newest_is_the_historys : (s : Setup) → IsGood s → (events : List Event) → Data s (past_of s events) → is_somebody_inside s (past_of s events) ≡ false → newest_bytes s (past_of s events) ≡ image_of (store_of s (past_of s events))
newest_is_the_historys s g events known none =
    let past : Past = past_of s events in
    newest_held s past (λ q. is_busy (doing s q past)) known.kept (λ q below. idle_outside s g events q (nobody s past none q below))
