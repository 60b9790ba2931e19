-- The versions that a process has read, by their commit bits and their stamps.
use Rattle.std.proofs.Common.{◌≡◌, ℕ, ◌+◌, ◌<◌, ◌≤◌, Bool, false, List, [], ◌∷◌, ◌++◌, get_or, length, map, take, refl, sym, ap, ◌∙◌, arith}
use Rattle.std.proofs.lemmas.List.{get_or-take, length-take-le, take_more_set}
use Rattle.model.specs.{AsksImage, Call, Version, greatest, image_field, index_of, newest_process, newest_stamp, read_at, version_of}
use Rattle.process.specs.{HasRoom, versions, versions_seen}
use Rattle.process.specs.declared.values_read.ValuesRead.{ValuesRead}
use Rattle.process.proofs.Greatest.{greatest-there}

pub stamps-of : (commits : List Bool) (stamps : List ℕ) → length commits ≡ length stamps → map (λ (v : Version). v.1) (versions commits stamps) ≡ stamps
stamps-of [] [] same = refl
stamps-of [] (t ∷ stamps) same = absurd (omega arith)
stamps-of (b ∷ commits) [] same = absurd (omega arith)
stamps-of (b ∷ commits) (t ∷ stamps) same = ap (λ ts. t ∷ ts) (stamps-of commits stamps (omega arith))

pub commits-of : (commits : List Bool) (stamps : List ℕ) → length commits ≡ length stamps → map (λ (v : Version). v.0) (versions commits stamps) ≡ commits
commits-of [] [] same = refl
commits-of [] (t ∷ stamps) same = absurd (omega arith)
commits-of (b ∷ commits) [] same = absurd (omega arith)
commits-of (b ∷ commits) (t ∷ stamps) same = ap (λ bs. b ∷ bs) (commits-of commits stamps (omega arith))

-- one more version
pub versions-push : (commits : List Bool) (stamps : List ℕ) (b : Bool) (t : ℕ) → length commits ≡ length stamps → versions (commits ++ b ∷ []) (stamps ++ t ∷ []) ≡ versions commits stamps ++ (b, t) ∷ []
versions-push [] [] b t same = refl
versions-push [] (u ∷ stamps) b t same = absurd (omega arith)
versions-push (a ∷ commits) [] b t same = absurd (omega arith)
versions-push (a ∷ commits) (u ∷ stamps) b t same = ap (λ vs. (a, u) ∷ vs) (versions-push commits stamps b t (omega arith))

same-length : (seen : ValuesRead) (k : ℕ) → HasRoom seen → k ≤ 16 → length (take k seen.commits) ≡ length (take k seen.numbers)
same-length seen k room within = length-take-le k seen.commits (omega (arith, room.commits)) ∙ sym (length-take-le k seen.numbers (omega (arith, room.numbers)))

-- the greatest stamp, the process that has it, and the commit bits
pub newest-stamp : (seen : ValuesRead) (k : ℕ) → HasRoom seen → k ≤ 16 → newest_stamp (versions_seen k seen) ≡ greatest (take k seen.numbers)
newest-stamp seen k room within = ap greatest (stamps-of (take k seen.commits) (take k seen.numbers) (same-length seen k room within))

pub newest-process : (seen : ValuesRead) (k : ℕ) → HasRoom seen → k ≤ 16 → newest_process (versions_seen k seen) ≡ index_of (greatest (take k seen.numbers)) (take k seen.numbers)
newest-process seen k room within = ap (λ stamps. index_of (greatest stamps) stamps) (stamps-of (take k seen.commits) (take k seen.numbers) (same-length seen k room within))

pub version-at : (seen : ValuesRead) (k p : ℕ) → HasRoom seen → k ≤ 16 → p < k → version_of (versions_seen k seen) p ≡ get_or seen.commits p false
version-at seen k p room within inside =
    ap (λ commits. get_or commits p false) (commits-of (take k seen.commits) (take k seen.numbers) (same-length seen k room within))
    ∙ get_or-take k seen.commits p false inside

-- the values that were read, with one more version
abbrev pub with_version : ValuesRead → ℕ → Bool → ℕ → ValuesRead
with_version seen k b t = record seen { commits = Rattle.std.proofs.Common.set seen.commits k b; numbers = Rattle.std.proofs.Common.set seen.numbers k t }

pub versions-more : (seen : ValuesRead) (k : ℕ) (b : Bool) (t : ℕ) → HasRoom seen → k < 16 → versions_seen (k + 1) (with_version seen k b t) ≡ versions_seen k seen ++ (b, t) ∷ []
versions-more seen k b t room inside =
    (λ i. versions (take_more_set seen.commits k b (omega (arith, room.commits)) i) (take_more_set seen.numbers k t (omega (arith, room.numbers)) i))
    ∙ versions-push (take k seen.commits) (take k seen.numbers) b t (same-length seen k room (omega arith))

-- the register of the newest image
pub newest-inside : (seen : ValuesRead) (n : ℕ) → HasRoom seen → 0 < n → n ≤ 16 → index_of (greatest (take n seen.numbers)) (take n seen.numbers) < n
newest-inside seen n room some within =
    let many : length (take n seen.numbers) ≡ n = length-take-le n seen.numbers (omega (arith, room.numbers)) in
    omega (arith, greatest-there (take n seen.numbers) (omega (arith, many)), many)

pub image-register : (c : Call) (seen : ValuesRead) (newest : ℕ) → HasRoom seen → 0 < c.setup.processes → c.setup.processes ≤ 16 → newest ≡ index_of (greatest (take c.setup.processes seen.numbers)) (take c.setup.processes seen.numbers) →
    read_at c (AsksImage (versions_seen c.setup.processes seen)) ≡ (newest, image_field (get_or seen.commits newest false))
image-register c seen newest room some within is =
    let vs : List Version = versions_seen c.setup.processes seen in
    let p : newest_process vs ≡ newest = newest-process seen c.setup.processes room within ∙ sym is in
    let inside : newest < c.setup.processes = omega (arith, newest-inside seen c.setup.processes room some within, is) in
    (λ i. (p i, image_field (version_of vs (p i)))) ∙ ap (λ b. (newest, image_field b)) (version-at seen c.setup.processes newest room within inside)
