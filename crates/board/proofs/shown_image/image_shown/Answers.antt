use Rattle.std.proofs.Common.{◌≡◌, ◌<◌, ◌*◌, ℕ, List, map, take, sym, ap, ◌∙◌, subst, arith}
use Rattle.std.specs.List.{range_with_len}
use Rattle.plain_store.specs.{Setup, callers_of}
use Rattle.model.specs.{Version, image_bytes, image_field, width}
use Rattle.store_image.specs.{store_in}
use Rattle.process.specs.{IsNewestWith, newest_version}
use Rattle.process.specs.registers.{RegisterName}
use Rattle.process.specs.declared.newest_version.NewestVersion.{NewestVersion}
use Rattle.process.proofs.NewestSteps.{newest-below, newest-more}
use Rattle.process.proofs.PartOver.{width-image}
use Rattle.board.specs.{version_shown, versions_shown}
use Rattle.board.specs.Closings.{bytes_of}
use Rattle.board.proofs.Seats.{some_processes}
use Rattle.board.proofs.shown_image.image_shown.Goals as goal

-- the newest version, after the loop has folded the versions of all processes
abbrev IsNewest : Setup → List ℕ → NewestVersion → Type 0
IsNewest s words newest = newest ≡ newest_version (versions_shown s words)

all-folded : (s : Setup) (words : List ℕ) (newest : NewestVersion) (p : ℕ) → newest ≡ newest_version (map (version_shown s words) (range_with_len 0 p)) → p ≡ s.processes → IsNewest s words newest
all-folded s words newest p is all = is ∙ ap (λ n. newest_version (map (version_shown s words) (range_with_len 0 n))) all

pub loop-process-preserved : goal.loop-process-preserved
loop-process-preserved c =
    let s = c.args.setup.now in
    let words = c.args.words.now.words.items in
    let p : ℕ = c.loop-process.process in
    newest-more (version_shown s words) p c.loop-process.newest c.with-newest.result c.loop-process.invariant
    (subst (λ (v : Version). IsNewestWith c.loop-process.newest p v c.with-newest.result) c.version_shown.ensures c.with-newest.ensures.newest)

pub bytes_of-bytes-requires : goal.bytes_of-bytes-requires
bytes_of-bytes-requires c =
    let s = c.args.setup.now in
    let words = c.args.words.now.words.items in
    let newest : NewestVersion = c.loop-process.newest in
    let is : IsNewest s words newest = all-folded s words newest c.loop-process.process c.loop-process.invariant (omega (arith, c.loop-process-test.false, c.loop-process.auto.process-end)) in
    let inside : newest.process < s.processes = newest-below (version_shown s words) s.processes newest is (some_processes s c.requires.good) in
    let wide : width s c.image.result.field ≡ 8 * image_bytes s = ap (λ (r : RegisterName). width s r.field) c.image.ensures ∙ width-image s newest.commit in
    record {
      layout = c.of-layout.ensures;
      words = c.requires.words;
      bounded = c.image_bytes-count.ensures.most;
      owner = subst (λ (r : RegisterName). r.owner < s.processes) (sym c.image.ensures) inside;
      bits = omega (arith, wide, c.image_bytes-count.ensures.bytes);
    }

pub returns : goal.returns
returns c =
    let s = c.args.setup.now in
    let words = c.args.words.now.words.items in
    let newest : NewestVersion = c.loop-process.newest in
    let is : IsNewest s words newest = all-folded s words newest c.loop-process.process c.loop-process.invariant (omega (arith, c.loop-process-test.false, c.loop-process.auto.process-end)) in
    let count : c.image_bytes-count.result ≡ image_bytes s = c.image_bytes-count.ensures.bytes in
    c.read_or_empty.ensures.store
    ∙ ap (λ n. store_in s.slots (callers_of s) (take n c.bytes_of-bytes.result)) c.from.ensures
    ∙ ap (store_in s.slots (callers_of s)) (
    c.bytes_of-bytes.ensures.bytes
    ∙ (λ i. bytes_of s words (c.image.ensures i).owner (c.image.ensures i).field (count i))
    ∙ ap (λ (n : NewestVersion). bytes_of s words n.process (image_field n.commit) (image_bytes s)) is)
