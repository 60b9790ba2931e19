-- One access of any read of the critical section, and where the last read of an image is looked back to.
use Rattle.std.proofs.Common.{◌≡◌, ℕ, ◌<◌, ◌&&◌, Bool, true, false, List, ◌∷◌, length, None, Some, refl, ap, ◌∙◌, eq-eqb}
use Rattle.std.proofs.lemmas.Bool.{false≢true}
use Rattle.plain_store.specs.{Command, Setup}
use Rattle.model.specs.{AsksCommit, AsksImage, AsksStamp, Call, Entry, Part, Past, Reading, access_at, before_image_read, is_end_of_read, image_field, is_image, newest_process, place_after, read_at, valued, version_of, width}
use Rattle.laws.specs.{call}
use Rattle.laws.proofs.Invariant.{Touches, Wires}
use Rattle.laws.proofs.Reading.{ReadAccess}
use Rattle.history_laws.proofs.DataReads.{KnewAt, KnowsPlace, Quiet, commit_reads, image_reads, stamp_reads}

-- the part reads a register of versions
abbrev pub is_data_read : Part → Bool
is_data_read (AsksCommit k ks vs) = true
is_data_read (AsksStamp k ks vs b) = true
is_data_read (AsksImage vs) = true
is_data_read _ = false

image_is_image : (b : Bool) → is_image (image_field b) ≡ true
image_is_image false = refl
image_is_image true = refl

-- if p ends a read of a bit of an image, the look-back finds this end
pub looks_back : (s : Setup) (past : Past) (p : ℕ) (e : Entry) (command : Command) (number : ℕ) (part : Part) (read : List Bool) (flick : Bool) →
    let c : Call = call s p command number in
    e.process ≡ p → e.access ≡ Some (valued s past flick (access_at c part (Reading read true))) → is_image (read_at c part).1 ≡ true → before_image_read p (e ∷ past) ≡ past
looks_back s past p e command number part read flick mine access image =
    ap (λ b. elim b as (λ _. Past) [ true ↦ past | false ↦ before_image_read p past ])
    ((λ i. eq-eqb e.process p mine i && elim (access i) as (λ _. Bool) [ None ↦ false | Some a ↦ is_image a.field && is_end_of_read a.how ]) ∙ ap (λ b. b && true) image)

-- An access of a read keeps the knowledge of p: the read continues, or p has the knowledge for the next part.
pub data_reads : (s : Setup) (past past' : Past) (p : ℕ) (busy : ℕ → Bool) (command : Command) (number : ℕ) (m : Wires) (part : Part) (read : List Bool) (begun value : Bool) (touched : ℕ → ℕ → Touches) →
    let c : Call = call s p command number in
    is_data_read part ≡ true → Quiet s past p busy → (begun ≡ true → is_image (read_at c part).1 ≡ true → before_image_read p past' ≡ past) → length read < width s (read_at c part).1 →
    ReadAccess s past p (read_at c part).0 (read_at c part).1 (length read) begun value touched → KnewAt s past p command number part read begun →
    KnowsPlace s past past' p command number m (λ o. touched o p) (place_after c (record { part = part; run = Reading read begun }) value)
data_reads s past past' p busy command number m (AsksCommit k ks vs) read begun value touched is h looks small access knew =
    commit_reads s past past' p busy command number m k ks vs read begun value touched h small access knew
data_reads s past past' p busy command number m (AsksStamp k ks vs b) read begun value touched is h looks small access knew =
    stamp_reads s past past' p busy command number m k ks vs b read begun value touched h small access knew
data_reads s past past' p busy command number m (AsksImage vs) read begun value touched is h looks small access knew =
    image_reads s past past' p busy command number m vs read begun value touched h (λ ends. looks ends (image_is_image (version_of vs (newest_process vs)))) small access knew
data_reads s past past' p busy command number m _ read begun value touched is h looks small access knew = absurd (false≢true is)
