-- A process that has read the newest image has read the image of the store after the history.
use Rattle.std.proofs.Common.{◌≡◌, ℕ, ◌+◌, ◌<◌, ◌==◌, Bool, true, false, cond, List, [], ◌∷◌, ◌++◌, length, Some, refl, sym, ap, subst, ◌∙◌, eq-eqb}
use Rattle.std.proofs.lemmas.Bool.{false≢true}
use Rattle.model.specs.{Access, AsksCommit, AsksImage, AsksStamp, Call, Entry, Event, Field, Numbers, Part, Past, ReadSoFar, Reading, Version, Waits, access_at, bytes_of_bits, is_end_of_read, entry_of, image_bytes, image_field, is_called, is_image, is_version, last_read, newest_process, own, past_of, read_at, read_so_far, since, stamp_field, value_of, valued, version_of, width, with_access}
use Rattle.model.specs.declared.access.Field.TheVariants.{Image0, Image1}
use Rattle.plain_store.specs.{Command, Contents, Setup, callers_of}
use Rattle.model.specs.store_image.{IsImageOf}
use Rattle.model.proofs.Local.{since_called-plain}
use Rattle.model.proofs.Width.{IsGood}
use Rattle.laws.proofs.Alone.{version-at}
use Rattle.laws.proofs.Always.{inv_of}
use Rattle.laws.proofs.AtPlaces.{AtPlace, Stepping, plain-stepping}
use Rattle.laws.specs.{Runs, call, doing, is_inside, is_inside_at}
use Rattle.laws.proofs.Frame.{own-own}
use Rattle.laws.proofs.FrameEvents.{accepted}
use Rattle.laws.proofs.FrameWires.{answer-untouched}
use Rattle.laws.proofs.FullAnswers as full
use Rattle.laws.proofs.FullAnswers.{knows, read_in_call}
use Rattle.laws.proofs.Invariant.{Corresponds, touches, wires}
use Rattle.laws.proofs.Notes.{notes}
use Rattle.laws.proofs.ReadSteps.{entry_reads}
use Rattle.history_laws.proofs.Codec.{image_read}
use Rattle.history_laws.proofs.DataReads.{image_is_read}
use Rattle.history_laws.proofs.Kept.{Data, KnowsData, image_bits, is_busy}
use Rattle.history_laws.proofs.ReadEntries.{inside_quiet}
use Rattle.history_laws.proofs.VersionReads.{EndsRead, ends_by}
use Rattle.history_laws.proofs.Versions.{store_of, versions}

-- The bits of the image that a process has read when it ends the last one of them.
pub image_bits_read : (s : Setup) → IsGood s → (events : List Event) (e : Entry) → let past : Past = past_of s events in let p : ℕ = e.process in p < s.processes → Data s past →
    (command : Command) (number : ℕ) (vs : List Version) (bits : List Bool) (flick : Bool) → let c : Call = call s p command number in
    doing s p past ≡ Runs command number (record { part = AsksImage vs; run = Reading bits true }) → e.access ≡ Some (valued s past flick (access_at c (AsksImage vs) (Reading bits true))) →
    length bits + 1 ≡ width s (image_field (version_of vs (newest_process vs))) →
    bits ++ value_of (valued s past flick (access_at c (AsksImage vs) (Reading bits true))).how ∷ [] ≡ image_bits s (store_of s past)
image_bits_read s g events e below known command number vs bits flick does access last =
    let past : Past = past_of s events in
    let p : ℕ = e.process in
    let c : Call = call s p command number in
    image_is_read s past p (λ q. is_busy (doing s q past)) command number vs bits (value_of (valued s past flick (access_at c (AsksImage vs) (Reading bits true))).how) (touches s (e ∷ past))
    (inside_quiet s g events p below (ap is_inside does) (ap is_busy does) known) last
    (entry_reads s past p e command number (AsksImage vs) bits true flick (answer-untouched s g events) access)
    (subst (KnowsData s past p (versions s past) (store_of s past) (wires s past p) (λ o. touches s past o p)) does (known.knows p below))

-- Only the read of the newest image reads an image.
stamp_no_image : (b : Bool) → is_image (stamp_field b) ≡ false
stamp_no_image false = refl
stamp_no_image true = refl

image_part : (c : Call) (part : Part) → is_inside_at part false ≡ true → is_image (read_at c part).1 ≡ true → (vs : List Version) × (part ≡ AsksImage vs)
image_part c (AsksImage vs) inside image = (vs, refl)
image_part c (AsksStamp k ks vs b) inside image = absurd (false≢true (sym (stamp_no_image b) ∙ image))
image_part c (AsksCommit k ks vs) inside image = absurd (false≢true image)
image_part c (Waits t w ws) inside image = absurd (false≢true inside)
image_part c _ inside image = absurd (false≢true image)

image_is_version : (f : Field) → is_image f ≡ true → is_version f ≡ true
image_is_version Image0 h = refl
image_is_version Image1 h = refl
image_is_version _ h = absurd (false≢true h)

-- a step that ends the read of a bit at a part
abbrev pub EndsAt : (s : Setup) (past : Past) (p : ℕ) (e : Entry) (a : Access) (command : Command) (number : ℕ) (bits : List Bool) → Part → Type 0
EndsAt s past p e a command number bits part =
    (st : Stepping s past p e command number (record { part = part; run = Reading bits true })) × (a ≡ valued s past st.flick (access_at (call s p command number) part (Reading bits true)))

-- if a process ends the read of an image, the image is the newest one
pub record EndsImage (s : Setup) (past : Past) (p : ℕ) (e : Entry) (a : Access) : Type 0 where
  pub command : Command
  pub number : ℕ
  pub vs : List Version
  pub bits : List Bool
  pub ends : EndsAt s past p e a command number bits (AsksImage vs)

pub ends_image : (s : Setup) → IsGood s → (events : List Event) (event : Event) (e : Entry) → entry_of s (past_of s events) event ≡ Some e →
    (a : Access) → e.access ≡ Some a → is_image a.field ≡ true → is_end_of_read a.how ≡ true → EndsImage s (past_of s events) e.process e a
ends_image s g events event e is a access image ends =
    record { command = x.command; number = x.number; vs = at.0; bits = x.bits; ends = subst (EndsAt s past p e a x.command x.number x.bits) at.1 (x.step, x.is) }
  where
    past : Past
    past = past_of s events

    p : ℕ
    p = e.process

    x : EndsRead s past p e a
    x = ends_by s past p e (doing s p (e ∷ past)) a (accepted s g events event e is).happens access ends

    c : Call
    c = call s p x.command x.number

    field : is_image (read_at c x.part).1 ≡ true
    field = ap (λ (y : Access). is_image y.field) (sym x.is) ∙ image

    corresponds : Corresponds s p (notes s p past) (wires s past p) (Runs x.command x.number (record { part = x.part; run = Reading x.bits true }))
    corresponds = subst (Corresponds s p (notes s p past) (wires s past p)) x.step.does ((inv_of s g events).own p (accepted s g events event e is).below).corresponds

    at : (vs : List Version) × (x.part ≡ AsksImage vs)
    at = image_part c x.part (version-at s p c (notes s p past) x.part (Reading x.bits true) corresponds.1 (image_is_version (read_at c x.part).1 field)) field

last_pushed : (ns : Numbers) (n : List Bool) → last_read (ns ++ n ∷ []) ≡ n
last_pushed [] n = refl
last_pushed (m ∷ []) n = refl
last_pushed (m ∷ k ∷ ns) n = last_pushed (k ∷ ns) n

-- The number that a process has read with the last end of a read of an image is the image of the store after the history.
pub last_image_read : (s : Setup) → IsGood s → (events : List Event) (event : Event) (e : Entry) → entry_of s (past_of s events) event ≡ Some e → Data s (past_of s events) →
    (a : Access) → e.access ≡ Some a → is_image a.field ≡ true → is_end_of_read a.how ≡ true → a.bit + 1 ≡ width s a.field →
    last_read (read_so_far s (since is_called (own e.process (e ∷ past_of s events)))).finished ≡ image_bits s (store_of s (past_of s events))
last_image_read s g events event e is known a access image ends last =
    ap (λ (r : ReadSoFar). last_read r.finished) more
    ∙ ap (λ b. last_read (with_bit_if b).finished) (eq-eqb (length x.bits + 1) (width s f) all)
    ∙ last_pushed r.finished (r.bits ++ v ∷ [])
    ∙ ap (λ bits. bits ++ v ∷ []) so_far
    ∙ image_bits_read s g events e (accepted s g events event e is).below known x.command x.number x.vs x.bits st.flick st.does (st.is ∙ ap Some st.made) all
  where
    past : Past
    past = past_of s events

    p : ℕ
    p = e.process

    x : EndsImage s past p e a
    x = ends_image s g events event e is a access image ends

    c : Call
    c = call s p x.command x.number

    st : Stepping s past p e x.command x.number (record { part = AsksImage x.vs; run = Reading x.bits true })
    st = x.ends.0

    f : Field
    f = image_field (version_of x.vs (newest_process x.vs))

    v : Bool
    v = value_of (valued s past st.flick (access_at c (AsksImage x.vs) (Reading x.bits true))).how

    all : length x.bits + 1 ≡ width s f
    all = ap (λ (y : Access). y.bit + 1) (sym x.ends.1) ∙ last ∙ ap (λ (y : Access). width s y.field) x.ends.1

    r : ReadSoFar
    r = read_in_call s p past

    with_bit_if : Bool → ReadSoFar
    with_bit_if b = cond b (record { finished = r.finished ++ (r.bits ++ v ∷ []) ∷ []; bits = [] }) (record { finished = r.finished; bits = r.bits ++ v ∷ [] })

    so_far : r.bits ≡ x.bits
    so_far =
        let has_read : full.KnowsAt s past p x.command x.number (record { part = AsksImage x.vs; run = Reading x.bits true }) = subst (AtPlace (full.KnowsAt s past p)) st.does (knows s g events p) in
        has_read.reading.1

    more : read_in_call s p (e ∷ past) ≡ with_bit_if (length x.bits + 1 == width s f)
    more = ap (λ l. read_so_far s (since is_called l)) (own-own p e past refl)
        ∙ ap (read_so_far s) (since_called-plain e (own p past) (plain-stepping s past p e x.command x.number (record { part = AsksImage x.vs; run = Reading x.bits true }) st))
        ∙ ap (λ a. with_access s a r) (st.is ∙ ap Some st.made)

-- The bytes that a process reads as an image are an image.
pub images_are_read : (s : Setup) → IsGood s → (events : List Event) (event : Event) (e : Entry) → entry_of s (past_of s events) event ≡ Some e → Data s (past_of s events) →
    (a : Access) → e.access ≡ Some a → is_image a.field ≡ true → is_end_of_read a.how ≡ true → a.bit + 1 ≡ width s a.field →
    (store : Contents) × IsImageOf (callers_of s) (bytes_of_bits (image_bytes s) (last_read (read_so_far s (since is_called (own e.process (e ∷ past_of s events)))).finished)) store
images_are_read s g events event e is known a access image ends last =
    let store : Contents = store_of s (past_of s events) in (
      store,
      subst (λ bits. IsImageOf (callers_of s) (bytes_of_bits (image_bytes s) bits) store) (sym (last_image_read s g events event e is known a access image ends last)) (image_read s store known.kept.sound),
    )
