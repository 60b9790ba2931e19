-- The invariant of the data also fixes whose image is read, and that stamps count the changes.
use Rattle.std.proofs.Common.{ℕ, ◌<◌, ◌≤◌, ◌^◌, ◌-◌, sym, ap, subst, ◌∙◌, arith}
use Rattle.plain_store.specs.{Contents, callers_of}
use Rattle.model.specs.{ImagesAreOfTheStore, Past, bytes_of_bits, image_bytes, newest_stamp, past_of}
use Rattle.model.proofs.Width.{is_good}
use Rattle.laws.specs.{doing}
use Rattle.laws.proofs.Invariant.{wires}
use Rattle.history_laws.specs.{ChangesFitTheStamps, NewestStampCountsTheChanges}
use Rattle.history_laws.proofs.Codec.{image_read}
use Rattle.history_laws.proofs.CountedChanges.{count_is}
use Rattle.history_laws.proofs.DataAlways.{data_of}
use Rattle.history_laws.proofs.Given.{given_before}
use Rattle.history_laws.proofs.ImageReads.{last_image_read}
use Rattle.history_laws.proofs.Kept.{Data, is_busy}
use Rattle.history_laws.proofs.NewestHeld.{all_held, idle_outside}
use Rattle.history_laws.proofs.NewestVersion.{newest_stamp_is}
use Rattle.history_laws.proofs.VersionReads.{nobody}
use Rattle.history_laws.proofs.Versions.{versions, store_of}
use Rattle.model.specs.store_image.{IsImageOf}

pub images_of_the_store : ImagesAreOfTheStore
images_of_the_store s ok events event e given is a access image ends last =
    let known : Data s (past_of s events) = data_of s ok events (given_before s event events given) in
    let store : Contents = store_of s (past_of s events) in
    subst (λ bits. IsImageOf (callers_of s) (bytes_of_bits (image_bytes s) bits) store) (sym (last_image_read s (is_good s ok) events event e is known a access image ends last)) (image_read s store known.kept.sound)

pub changes_fit : ChangesFitTheStamps
changes_fit s ok events given =
    let past : Past = past_of s events in
    let known : Data s past = data_of s ok events given in
    let fits : (versions s past).count < 2 ^ s.stamp_bits = known.kept.fits in
    let count = count_is s past in
    subst (λ n. n ≤ 2 ^ s.stamp_bits - 1) count (omega (arith, fits))

pub newest_counts : NewestStampCountsTheChanges
newest_counts s ok events given none =
    let past : Past = past_of s events in
    let known : Data s past = data_of s ok events given in
    let idle = λ (q : ℕ) (below : q < s.processes). idle_outside s (is_good s ok) events q (nobody s past none q below) in
    ap newest_stamp (all_held s past (λ q. is_busy (doing s q past)) known.kept idle)
    ∙ newest_stamp_is s (versions s past) (store_of s past) (λ q. is_busy (doing s q past)) (wires s past) known.kept
    ∙ count_is s past
