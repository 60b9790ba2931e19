-- The reads of the critical section. A process that is inside reads committed registers. They are whole, so it reads the history's values.
use Rattle.std.proofs.Common.{◌≡◌, ℕ, ◌+◌, ◌*◌, ◌^◌, ◌<◌, ◌==◌, Bool, true, false, cond, List, [], ◌∷◌, ◌++◌, length, slice_index_or, refl, sym, ap, ◌∙◌, subst, arith, append-nil, append_assoc, eqb-true}
use Rattle.std.proofs.lemmas.Bool.{eqb-false}
use Rattle.std.proofs.lemmas.List.{length-append, length_push}
use Rattle.std.proofs.lemmas.List.FromFn.{get_or-range_with_len, length-range_with_len}
use Rattle.std.proofs.Math.Seq.{get_or-append_seam}
use Rattle.model.specs.{AsksCommit, AsksImage, AsksStamp, Call, Clears, Field, Part, Past, Place, Reading, Version, WritesImage, before_image_read, count_changes, enter, history, image_bytes, image_field, max_of, newest_process, newest_stamp, place_after, processes, read_at, reply, stamp_field, store_after, store_read, to_e, to_g, version_of, width}
use Rattle.model.specs.declared.access.Field.TheVariants.{Commit, Image0}
use Rattle.model.specs.safe_number.{number_of_bits}
use Rattle.model.proofs.safe_number.Numbers.{length_bits}
use Rattle.model.proofs.safe_number.Bits.{length-bits_of_number}
use Rattle.plain_store.specs.declared.Answer.TheVariants as answer
use Rattle.plain_store.specs.{Command, Contents, Setup, changes, opening_store}
use Rattle.model.specs.store_image.{image_of}
use Rattle.laws.proofs.Bits.{AreBitsOf, number_read}
use Rattle.laws.specs.{call}
use Rattle.laws.proofs.Invariant.{Touches, Wires, touches, wires}
use Rattle.laws.proofs.ReadEnds.{by_test}
use Rattle.laws.proofs.Reading.{ReadAccess}
use Rattle.history_laws.proofs.CleanReads.{all_read, clean_begins, clean_ends, clean_new, clean_on, commit_whole}
use Rattle.history_laws.proofs.Codec.{store_is_read}
use Rattle.history_laws.proofs.CountedChanges.{count_is}
use Rattle.history_laws.proofs.Kept.{IsStampsFull, Kept, KnowsAt, Pending, ReadsClean, image_bits, stamp_bits_of}
use Rattle.history_laws.proofs.NewestVersion.{newest_process_is, newest_stamp_is, version_of_is}
use Rattle.history_laws.proofs.Versions.{Versions, store_of, version, versions, versions_of}

-- p makes an access, and no process writes a commit bit
pub record Quiet (s : Setup) (past : Past) (p : ℕ) (busy : ℕ → Bool) : Type 0 where
  pub process : p < s.processes
  pub kept : Kept s (versions s past) (store_of s past) busy (wires s past)
  pub idle : (q : ℕ) → q < s.processes → busy q ≡ false

-- The knowledge of p at a place of its call, where past' is the record then: m are its registers, and t gives for each owner which of its open reads are touched. The versions and the store are those of past.
abbrev pub KnowsPlace : (s : Setup) (past past' : Past) (p : ℕ) → Command → ℕ → Wires → (ℕ → Touches) → Place → Type 0
KnowsPlace s past past' p command number m t at = KnowsAt s past' (call s p command number) (versions s past) (store_of s past) m t at.part at.run

-- its knowledge there before
abbrev pub KnewAt : (s : Setup) (past : Past) (p : ℕ) → Command → ℕ → Part → List Bool → Bool → Type 0
KnewAt s past p command number part read begun = KnowsAt s past (call s p command number) (versions s past) (store_of s past) (wires s past p) (λ o. touches s past o p) part (Reading read begun)

-- On to the next part.

-- the versions read so far, and the one of k
one_more_version : (v : Versions) (done : List ℕ) (k : ℕ) → versions_of v (done ++ k ∷ []) ≡ versions_of v done ++ version v k ∷ []
one_more_version v [] k = refl
one_more_version v (q ∷ done) k = ap (λ vs. version v q ∷ vs) (one_more_version v done k)

-- the process that is read next is one of the processes
next_below : (s : Setup) (done : List ℕ) (k : ℕ) (ks : List ℕ) → processes s ≡ done ++ k ∷ ks → k < s.processes
next_below s done k ks all =
    let many = length-range_with_len 0 s.processes in
    let both = length-append done (k ∷ ks) in
    let less : length done < s.processes = omega (arith, many, both, ap length all) in
    let here = get_or-range_with_len 0 s.processes (length done) 0 less in
    let there = get_or-append_seam done k ks 0 in
    let same = ap (λ xs. slice_index_or xs (length done) 0) all in
    omega (arith, here, there, same, less)

-- E begins, continues or is done: the versions of `done` were read
pub to_e_knows : (s : Setup) (past past' : Past) (p : ℕ) (command : Command) (number : ℕ) (m : Wires) (t : ℕ → Touches) (done ks : List ℕ) (vs : List Version) →
    processes s ≡ done ++ ks → vs ≡ versions_of (versions s past) done → KnowsPlace s past past' p command number m t (enter (call s p command number) (to_e ks vs))
to_e_knows s past past' p command number m t done [] vs all read =
    let v : Versions = versions s past in
    (read ∙ ap (versions_of v) (sym (all ∙ append-nil done)), clean_new (image_bits s (store_of s past)) (t v.newest (image_field (v.commit v.newest))))
to_e_knows s past past' p command number m t done (k ∷ ks) vs all read =
    (record { done = done; all = all; read = read }, clean_new ((versions s past).commit k ∷ []) (t k Commit))

-- G: a change begins, if there is one and its stamp fits
to_g_knows : (s : Setup) (past past' : Past) (p : ℕ) (busy : ℕ → Bool) (command : Command) (number : ℕ) (m : Wires) (t : ℕ → Touches) (vs : List Version) (st : Contents) → Quiet s past p busy →
    before_image_read p past' ≡ past → vs ≡ versions_of (versions s past) (processes s) → st ≡ store_of s past →
    KnowsPlace s past past' p command number m t (enter (call s p command number) (to_g (call s p command number) vs st))
to_g_knows s past past' p busy command number m t vs st h before read is = go (changes st command) refl
  where
    c : Call
    c = call s p command number

    v : Versions
    v = versions s past

    top : newest_stamp vs ≡ v.count
    top = ap newest_stamp read ∙ newest_stamp_is s v (store_of s past) busy (wires s past) h.kept

    changing : changes st command ≡ true → changes (store_of s past) command ≡ true
    changing h = ap (λ x. changes x command) (sym is) ∙ h

    full : (newest_stamp vs == max_of s.stamp_bits) ≡ true → changes st command ≡ true → IsStampsFull s past' c answer.StampsFull
    full e h =
        subst (λ (y : Past). (changes (store_after s (history s y)) command ≡ true) × (count_changes (opening_store s) (history s y) ≡ max_of s.stamp_bits)) (sym before)
        (changing h, sym (count_is s past) ∙ sym top ∙ eqb-true (newest_stamp vs) (max_of s.stamp_bits) e)

    pending : (newest_stamp vs == max_of s.stamp_bits) ≡ false → changes st command ≡ true → Pending s c v (store_of s past) vs st
    pending e changes_it =
        let other = eqb-false (newest_stamp vs) (max_of s.stamp_bits) e in
        let fits = h.kept.fits in
        record { versions_read = read; store_read = is; changing = changing changes_it; fits = omega (arith, other, fits, top) }

    stamped : changes st command ≡ true → (d : Bool) → (newest_stamp vs == max_of s.stamp_bits) ≡ d →
        KnowsPlace s past past' p command number m t (enter c (elim d as (λ _. Part) [ true ↦ Clears answer.StampsFull | false ↦ WritesImage vs st ]))
    stamped changes_it true e = full e changes_it
    stamped changes_it false e = pending e changes_it

    go : (b : Bool) → changes st command ≡ b → KnowsPlace s past past' p command number m t (enter c (elim b as (λ _. Part) [
      | false ↦ Clears (answer.Reply (reply c st))
      | true ↦ elim (newest_stamp vs == max_of s.stamp_bits) [ true ↦ Clears answer.StampsFull | false ↦ WritesImage vs st ]
    ]))
    go false e = tt
    go true e = stamped e (newest_stamp vs == max_of s.stamp_bits) refl

-- Each read.

-- a read of k's commit bit
pub commit_reads : (s : Setup) (past past' : Past) (p : ℕ) (busy : ℕ → Bool) (command : Command) (number : ℕ) (m : Wires) (k : ℕ) (ks : List ℕ) (vs : List Version) (read : List Bool) (begun value : Bool) (touched : ℕ → ℕ → Touches) →
    Quiet s past p busy → length read < 1 → ReadAccess s past p k Commit (length read) begun value touched → KnewAt s past p command number (AsksCommit k ks vs) read begun →
    KnowsPlace s past past' p command number m (λ o. touched o p) (place_after (call s p command number) (record { part = AsksCommit k ks vs; run = Reading read begun }) value)
commit_reads s past past' p busy command number m k ks vs read false value touched h small access knew =
    let below = next_below s knew.0.done k ks knew.0.all in
    let whole = commit_whole s (versions s past) (store_of s past) busy (wires s past) h.kept k below (h.idle k below) in
    (knew.0, clean_begins s past p k Commit ((versions s past).commit k ∷ []) read value touched h.process whole small access knew.1)
commit_reads s past past' p busy command number m k ks vs [] true value touched h small access knew =
    let below = next_below s knew.0.done k ks knew.0.all in
    let v : Versions = versions s past in (
      knew.0,
      access.value refl (knew.1.1 refl) ∙ (h.kept.commits k below (h.idle k below) p h.process).value,
      clean_new (stamp_bits_of s (v.stamp k)) (touched k p (stamp_field (v.commit k))),
    )
commit_reads s past past' p busy command number m k ks vs (b ∷ read) true value touched h small access knew = absurd (omega (arith, small))

-- the setup's number of stamp bits is the width of a stamp
pub stamp_width : (s : Setup) (b : Bool) → width s (stamp_field b) ≡ s.stamp_bits
stamp_width s false = refl
stamp_width s true = refl

image_width : (s : Setup) (b : Bool) → width s (image_field b) ≡ 8 * image_bytes s
image_width s false = refl
image_width s true = refl

-- a read of the stamp that k's commit bit chooses
pub stamp_reads : (s : Setup) (past past' : Past) (p : ℕ) (busy : ℕ → Bool) (command : Command) (number : ℕ) (m : Wires) (k : ℕ) (ks : List ℕ) (vs : List Version) (b : Bool) (read : List Bool) (begun value : Bool) (touched : ℕ → ℕ → Touches) →
    Quiet s past p busy → length read < width s (stamp_field b) → ReadAccess s past p k (stamp_field b) (length read) begun value touched → KnewAt s past p command number (AsksStamp k ks vs b) read begun →
    KnowsPlace s past past' p command number m (λ o. touched o p) (place_after (call s p command number) (record { part = AsksStamp k ks vs b; run = Reading read begun }) value)
stamp_reads s past past' p busy command number m k ks vs b read begun value touched h small access knew = go begun access knew.2
  where
    v : Versions
    v = versions s past

    f : Field
    f = stamp_field (v.commit k)

    bits : List Bool
    bits = stamp_bits_of s (v.stamp k)

    below : k < s.processes
    below = next_below s knew.0.done k ks knew.0.all

    wide : length bits ≡ width s (stamp_field b)
    wide = length-bits_of_number s.stamp_bits (v.stamp k) ∙ sym (stamp_width s b)

    within : length read < length bits
    within = omega (arith, small, wide)

    fits : v.stamp k < 2 ^ s.stamp_bits
    fits = let most = h.kept.most k below in let room = h.kept.fits in omega (arith, most, room)

    ends : length read + 1 ≡ width s (stamp_field b) → AreBitsOf bits (read ++ value ∷ []) →
        KnowsPlace s past past' p command number m (λ o. touched o p) (enter (call s p command number) (to_e ks (vs ++ (b, number_of_bits (read ++ value ∷ [])) ∷ [])))
    ends last are =
        let number_is = number_read s.stamp_bits (v.stamp k) (read ++ value ∷ []) fits (length_push read value ∙ last ∙ stamp_width s b) are in
        to_e_knows s past past' p command number m (λ o. touched o p) (knew.0.done ++ k ∷ []) ks (vs ++ (b, number_of_bits (read ++ value ∷ [])) ∷ [])
        (knew.0.all ∙ sym (append_assoc knew.0.done (k ∷ []) ks))
        ((λ i. knew.0.read i ++ (knew.1 i, number_is i) ∷ []) ∙ sym (one_more_version v knew.0.done k))

    go : (begun : Bool) → ReadAccess s past p k (stamp_field b) (length read) begun value touched → ReadsClean (Reading read begun) bits (touches s past k p f) →
        KnowsPlace s past past' p command number m (λ o. touched o p) (place_after (call s p command number) (record { part = AsksStamp k ks vs b; run = Reading read begun }) value)
    go false access clean =
        let there = subst (λ b. ReadAccess s past p k (stamp_field b) (length read) false value touched) knew.1 access in
        (knew.0, knew.1, clean_begins s past p k f bits read value touched h.process (h.kept.stamps k below) within there clean)
    go true access clean =
        let there = subst (λ b. ReadAccess s past p k (stamp_field b) (length read) true value touched) knew.1 access in
        let are = clean_ends s past p k f bits read value touched h.process (h.kept.stamps k below) within there clean in
        by_test (length read + 1 == width s (stamp_field b))
        (λ last. KnowsPlace s past past' p command number m (λ o. touched o p)
        (cond last (enter (call s p command number) (to_e ks (vs ++ (b, number_of_bits (read ++ value ∷ [])) ∷ []))) (record { part = AsksStamp k ks vs b; run = Reading (read ++ value ∷ []) false })))
        (λ e. ends (eqb-true (length read + 1) (width s (stamp_field b)) e) are)
        (λ e. (knew.0, knew.1, clean_on (read ++ value ∷ []) bits (touched k p f) are))

-- The read of the newest image.

-- it is the image of the history's newest process and of that process's committed version
newest_there : (s : Setup) (past : Past) (p : ℕ) (busy : ℕ → Bool) (vs : List Version) → let v : Versions = versions s past in
    Quiet s past p busy → vs ≡ versions_of v (processes s) → (newest_process vs ≡ v.newest) × (version_of vs (newest_process vs) ≡ v.commit v.newest)
newest_there s past p busy vs h read =
    let v : Versions = versions s past in
    let owner : newest_process vs ≡ v.newest = ap newest_process read ∙ newest_process_is s v (store_of s past) busy (wires s past) h.kept in
    (owner, (λ i. version_of (read i) (owner i)) ∙ version_of_is s v v.newest h.kept.newest)

-- the access is to that image
image_there : (s : Setup) (past : Past) (p : ℕ) (busy : ℕ → Bool) (vs : List Version) (k : ℕ) (begun value : Bool) (touched : ℕ → ℕ → Touches) → let v : Versions = versions s past in
    Quiet s past p busy → vs ≡ versions_of v (processes s) → ReadAccess s past p (newest_process vs) (image_field (version_of vs (newest_process vs))) k begun value touched →
    ReadAccess s past p v.newest (image_field (v.commit v.newest)) k begun value touched
image_there s past p busy vs k begun value touched h read access =
    let v : Versions = versions s past in
    let is = newest_there s past p busy vs h read in
    subst (λ o. ReadAccess s past p o (image_field (v.commit v.newest)) k begun value touched) is.0
    (subst (λ b. ReadAccess s past p (newest_process vs) (image_field b) k begun value touched) is.1 access)

-- an image is as wide as its register
pub image_wide : (s : Setup) (store : Contents) (b : Bool) → length (image_bits s store) ≡ width s (image_field b)
image_wide s store b = length_bits (image_of store) (width s Image0) ∙ sym (image_width s b)

-- the bits read so far, with the one that ends, are its bits
image_ends : (s : Setup) (past : Past) (p : ℕ) (busy : ℕ → Bool) (command : Command) (number : ℕ) (vs : List Version) (read : List Bool) (value : Bool) (touched : ℕ → ℕ → Touches) →
    let c : Call = call s p command number in
    Quiet s past p busy → length read < width s (read_at c (AsksImage vs)).1 → ReadAccess s past p (read_at c (AsksImage vs)).0 (read_at c (AsksImage vs)).1 (length read) true value touched →
    KnewAt s past p command number (AsksImage vs) read true → AreBitsOf (image_bits s (store_of s past)) (read ++ value ∷ [])
image_ends s past p busy command number vs read value touched h small access knew =
    let v : Versions = versions s past in
    clean_ends s past p v.newest (image_field (v.commit v.newest)) (image_bits s (store_of s past)) read value touched h.process h.kept.image
    (omega (arith, small, image_wide s (store_of s past) (version_of vs (newest_process vs)))) (image_there s past p busy vs (length read) true value touched h knew.0 access) knew.1

-- all of them: the image of the store after the history
pub image_is_read : (s : Setup) (past : Past) (p : ℕ) (busy : ℕ → Bool) (command : Command) (number : ℕ) (vs : List Version) (read : List Bool) (value : Bool) (touched : ℕ → ℕ → Touches) →
    let c : Call = call s p command number in
    Quiet s past p busy → length read + 1 ≡ width s (read_at c (AsksImage vs)).1 → ReadAccess s past p (read_at c (AsksImage vs)).0 (read_at c (AsksImage vs)).1 (length read) true value touched →
    KnewAt s past p command number (AsksImage vs) read true → read ++ value ∷ [] ≡ image_bits s (store_of s past)
image_is_read s past p busy command number vs read value touched h last access knew =
    all_read (image_bits s (store_of s past)) read value (last ∙ sym (image_wide s (store_of s past) (version_of vs (newest_process vs))))
    (image_ends s past p busy command number vs read value touched h (omega (arith, last)) access knew)

-- the store of the history is read
pub newest_is_read : (s : Setup) (past : Past) (p : ℕ) (busy : ℕ → Bool) (command : Command) (number : ℕ) (vs : List Version) (read : List Bool) (value : Bool) (touched : ℕ → ℕ → Touches) →
    let c : Call = call s p command number in
    Quiet s past p busy → length read + 1 ≡ width s (read_at c (AsksImage vs)).1 → ReadAccess s past p (read_at c (AsksImage vs)).0 (read_at c (AsksImage vs)).1 (length read) true value touched →
    KnewAt s past p command number (AsksImage vs) read true → store_read c (read ++ value ∷ []) ≡ store_of s past
newest_is_read s past p busy command number vs read value touched h last access knew =
    let c : Call = call s p command number in
    ap (store_read c) (image_is_read s past p busy command number vs read value touched h last access knew) ∙ store_is_read c (store_of s past) h.kept.sound

-- before: if the read ends, the look-back finds this end
pub image_reads : (s : Setup) (past past' : Past) (p : ℕ) (busy : ℕ → Bool) (command : Command) (number : ℕ) (m : Wires) (vs : List Version) (read : List Bool) (begun value : Bool) (touched : ℕ → ℕ → Touches) →
    let c : Call = call s p command number in
    Quiet s past p busy → (begun ≡ true → before_image_read p past' ≡ past) → length read < width s (read_at c (AsksImage vs)).1 →
    ReadAccess s past p (read_at c (AsksImage vs)).0 (read_at c (AsksImage vs)).1 (length read) begun value touched → KnewAt s past p command number (AsksImage vs) read begun →
    KnowsPlace s past past' p command number m (λ o. touched o p) (place_after c (record { part = AsksImage vs; run = Reading read begun }) value)
image_reads s past past' p busy command number m vs read false value touched h before small access knew =
    let v : Versions = versions s past in
    let wide = image_wide s (store_of s past) (version_of vs (newest_process vs)) in (
      knew.0,
      clean_begins s past p v.newest (image_field (v.commit v.newest)) (image_bits s (store_of s past)) read value touched h.process h.kept.image (omega (arith, small, wide))
          (image_there s past p busy vs (length read) false value touched h knew.0 access) knew.1,
    )
image_reads s past past' p busy command number m vs read true value touched h before small access knew =
    let c : Call = call s p command number in
    let v : Versions = versions s past in
    let top : ℕ = width s (read_at c (AsksImage vs)).1 in
    by_test (length read + 1 == top)
    (λ last. KnowsPlace s past past' p command number m (λ o. touched o p) (cond last (enter c (to_g c vs (store_read c (read ++ value ∷ [])))) (record { part = AsksImage vs; run = Reading (read ++ value ∷ []) false })))
    (λ e.
    to_g_knows s past past' p busy command number m (λ o. touched o p) vs (store_read c (read ++ value ∷ [])) h (before refl) knew.0
    (newest_is_read s past p busy command number vs read value touched h (eqb-true (length read + 1) top e) access knew))
    (λ e. (
      knew.0,
      clean_on (read ++ value ∷ []) (image_bits s (store_of s past)) (touched v.newest p (image_field (v.commit v.newest))) (image_ends s past p busy command number vs read value touched h small access knew),
    ))
