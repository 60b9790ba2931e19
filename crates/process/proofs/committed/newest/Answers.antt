use Rattle.std.proofs.Common.{◌≡◌, ◌<◌, ℕ, List, false, get_or, length, map, sym, ap, ◌∙◌, subst, arith}
use Rattle.std.specs.List.{range_with_len}
use Rattle.std.specs.Prelude.{Ok}
use Rattle.plain_store.specs.{Setup, callers_of, checked}
use Rattle.registers.specs.{RegisterName}
use Rattle.registers.specs.safe_bit.Cell.{Cell}
use Rattle.model.specs.{Version, bytes_of_bits, image_bytes, image_field, width}
use Rattle.model.proofs.Width.{is_good}
use Rattle.store_image.specs.{store_in}
use Rattle.process.specs.{IsNewestWith, newest_version, register_held, version_in, versions_in}
use Rattle.process.specs.declared.newest_version.NewestVersion.{NewestVersion}
use Rattle.process.proofs.HeldBits.{held-wide}
use Rattle.process.proofs.NewestSteps.{newest-below, newest-more}
use Rattle.process.proofs.PartOver.{width-image}
use Rattle.process.proofs.committed.newest.Goals as goal

pub loop-process-preserved : goal.loop-process-preserved
loop-process-preserved c =
    let s = c.args.setup.now in
    let memory = c.args.memory.now in
    let p : ℕ = c.loop-process.process in
    newest-more (version_in s memory) p c.loop-process.newest c.with-newest.result c.loop-process.invariant
    (subst (λ (v : Version). IsNewestWith c.loop-process.newest p v c.with-newest.result) c.version_held.ensures c.with-newest.ensures.newest)

-- the newest version once the loop has folded those of all processes
abbrev IsNewest : Setup → List (List Cell) → NewestVersion → Type 0
IsNewest s memory newest = newest ≡ newest_version (versions_in s memory)

all-folded : (s : Setup) (memory : List (List Cell)) (newest : NewestVersion) (p : ℕ) → newest ≡ newest_version (map (version_in s memory) (range_with_len 0 p)) → p ≡ s.processes → IsNewest s memory newest
all-folded s memory newest p is all = is ∙ ap (λ n. newest_version (map (version_in s memory) (range_with_len 0 n))) all

newest-inside : (s : Setup) → checked s ≡ Ok tt → (memory : List (List Cell)) (newest : NewestVersion) → IsNewest s memory newest → newest.process < s.processes
newest-inside s good memory newest is = newest-below (version_in s memory) s.processes newest is (omega (arith, (is_good s good).processes_is))

pub bytes_held-bytes-requires-clause-owner : goal.bytes_held-bytes-requires-clause-owner
bytes_held-bytes-requires-clause-owner c =
    let s = c.args.setup.now in
    let inside = newest-inside s c.requires.good c.args.memory.now c.loop-process.newest
    (all-folded s c.args.memory.now c.loop-process.newest c.loop-process.process c.loop-process.invariant (omega (arith, c.loop-process-test.false, c.loop-process.auto.process-end))) in
    subst (λ (r : RegisterName). r.owner < s.processes) (sym c.image.ensures) inside

pub returns : goal.returns
returns c =
    let s = c.args.setup.now in
    let memory = c.args.memory.now in
    let newest : NewestVersion = c.loop-process.newest in
    let is : IsNewest s memory newest = all-folded s memory newest c.loop-process.process c.loop-process.invariant (omega (arith, c.loop-process-test.false, c.loop-process.auto.process-end)) in
    let inside : newest.process < s.processes = newest-inside s c.requires.good memory newest is in
    let wide : length (register_held s memory newest.process (image_field newest.commit)) ≡ width s (image_field newest.commit) = held-wide s memory newest.process (image_field newest.commit) c.requires.memory inside in
    c.image_read.ensures.store (register_held s memory newest.process (image_field newest.commit)) (wide ∙ width-image s newest.commit)
    (λ k below. c.bytes_held-bytes.ensures k (subst (λ (r : RegisterName). k < width s r.field) (sym c.image.ensures) (omega (arith, below, wide))) ∙ ap (λ (r : RegisterName). get_or (register_held s memory r.owner r.field) k false) c.image.ensures)
    ∙ ap (λ (n : NewestVersion). store_in s.slots (callers_of s) (bytes_of_bits (image_bytes s) (register_held s memory n.process (image_field n.commit)))) is
