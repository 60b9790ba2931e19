-- The newest of some versions, with one more.
use Rattle.std.proofs.Common.{◌≡◌, ℕ, ◌+◌, ◌<◌, ◌≤◌, ◌⊎◌, max, Bool, false, List, [], ◌∷◌, ◌++◌, length, map, fold, refl, sym, ap, ◌∙◌, arith, inl, inr}
use Rattle.std.proofs.lemmas.Bool.{cases_eq}
use Rattle.std.proofs.lemmas.List.{map-append, get_or_append_left}
use Rattle.std.proofs.lemmas.List.Sums.{fold-append}
use Rattle.std.proofs.Math.Seq.{get_or-append_seam}
use Rattle.std.proofs.lemmas.List.{length-map}
use Rattle.std.proofs.lemmas.List.FromFn.{length-map-range_with_len, map-range_with_len_more}
use Rattle.std.specs.List.{range_with_len}
use Rattle.process.proofs.Greatest.{fold-least, greatest-there, place-here, place-later}
use Rattle.model.specs.{Version, newest_stamp, newest_process, version_of, index_of}
use Rattle.process.specs.{IsNewestWith, newest_version}
use Rattle.process.specs.declared.newest_version.NewestVersion.{NewestVersion}

-- a number that is greater than all items is not one of them
place-above : (n a : ℕ) (xs : List ℕ) → fold max a xs < n → index_of n xs ≡ length xs
place-above n a [] above = refl
place-above n a (x ∷ xs) above =
    let bound = fold-least (max a x) xs in
    let other : x ≡ n → ⊥ = λ same. omega (arith, same) in
    let rest = place-above n (max a x) xs above in
    omega (arith, place-later n x xs other, rest)

-- items added after an item do not change its index
place-front : (n : ℕ) (xs ys : List ℕ) → index_of n xs < length xs → index_of n (xs ++ ys) ≡ index_of n xs
place-front n [] ys there = absurd (omega arith)
place-front n (x ∷ xs) ys there = elim (cases_eq x n) [
  | inl same ↦ place-here n x (xs ++ ys) same ∙ sym (place-here n x xs same)
  | inr other ↦
      let later = place-later n x xs other in
      let rest : index_of n xs < length xs = omega (arith, later) in
      place-later n x (xs ++ ys) other ∙ ap (λ k. 1 + k) (place-front n xs ys rest) ∙ sym later
]

-- the index of an item after others is their number
place-behind : (n : ℕ) (xs : List ℕ) → index_of n xs ≡ length xs → index_of n (xs ++ n ∷ []) ≡ length xs
place-behind n [] none = place-here n n [] refl
place-behind n (x ∷ xs) none = elim (cases_eq x n) [
  | inl same ↦ absurd (omega (arith, place-here n x xs same))
  | inr other ↦
      let later = place-later n x xs other in
      let rest : index_of n xs ≡ length xs = omega (arith, later) in
      omega (arith, place-later n x (xs ++ n ∷ []) other, place-behind n xs rest)
]

-- the commit bits with one more
pub version-more : (vs : List Version) (b : Bool) (t k : ℕ) → k < length vs → version_of (vs ++ (b, t) ∷ []) k ≡ version_of vs k
version-more vs b t k there =
    let f : Version → Bool = λ v. v.0 in
    rw map-append (get_or_append_left (map f vs) (b ∷ []) false k (omega (arith, length-map vs f)))

pub version-last : (vs : List Version) (b : Bool) (t k : ℕ) → k ≡ length vs → version_of (vs ++ (b, t) ∷ []) k ≡ b
version-last vs b t k last =
    let f : Version → Bool = λ v. v.0 in
    let at : k ≡ length (map f vs) = omega (arith, last, length-map vs f) in
    rw (map-append, at) (get_or-append_seam (map f vs) b [] false)

-- the greatest stamp with one more
pub stamp-more : (vs : List Version) (b : Bool) (t : ℕ) → newest_stamp (vs ++ (b, t) ∷ []) ≡ max (newest_stamp vs) t
stamp-more vs b t =
    let f : Version → ℕ = λ v. v.1 in
    ap (fold max 0) (map-append f vs ((b, t) ∷ [])) ∙ fold-append max 0 (map f vs) (t ∷ [])

-- the newest process is one of those that were read
pub process-in : (vs : List Version) → 0 < length vs → newest_process vs < length vs
process-in vs some =
    let f : Version → ℕ = λ v. v.1 in
    omega (arith, greatest-there (map f vs) (omega (arith, length-map vs f)), length-map vs f)

-- a stamp that is greater than all makes its process the newest
process-new : (vs : List Version) (b : Bool) (t : ℕ) → newest_stamp vs < t → newest_process (vs ++ (b, t) ∷ []) ≡ length vs
process-new vs b t above =
    let f : Version → ℕ = λ v. v.1 in
    let top : newest_stamp (vs ++ (b, t) ∷ []) ≡ t = omega (arith, stamp-more vs b t) in
    ap (λ n. index_of n (map f (vs ++ (b, t) ∷ []))) top ∙ ap (index_of t) (map-append f vs ((b, t) ∷ []))
    ∙ place-behind t (map f vs) (place-above t 0 (map f vs) above) ∙ length-map vs f

-- any other leaves it
process-old : (vs : List Version) (b : Bool) (t : ℕ) → 0 < length vs → t ≤ newest_stamp vs → newest_process (vs ++ (b, t) ∷ []) ≡ newest_process vs
process-old vs b t some below =
    let f : Version → ℕ = λ v. v.1 in
    let top : newest_stamp (vs ++ (b, t) ∷ []) ≡ newest_stamp vs = omega (arith, stamp-more vs b t) in
    ap (λ n. index_of n (map f (vs ++ (b, t) ∷ []))) top ∙ ap (index_of (newest_stamp vs)) (map-append f vs ((b, t) ∷ []))
    ∙ place-front (newest_stamp vs) (map f vs) (t ∷ []) (greatest-there (map f vs) (omega (arith, length-map vs f)))

-- the first version is the newest, and so is one with a greater stamp than all before it
pub newest-new : (vs : List Version) (b : Bool) (t p : ℕ) → p ≡ length vs → (p ≡ 0) ⊎ (newest_stamp vs < t) → (let n : NewestVersion = record { stamp = t; process = p; commit = b } in n) ≡ newest_version (vs ++ (b, t) ∷ [])
newest-new vs b t p at (inr above) =
    let newest = process-new vs b t above in
    let make : ℕ → ℕ → Bool → NewestVersion = λ stamp process commit. record { stamp = stamp; process = process; commit = commit } in
    let stamp : t ≡ newest_stamp (vs ++ (b, t) ∷ []) = omega (arith, stamp-more vs b t) in
    let process : p ≡ newest_process (vs ++ (b, t) ∷ []) = at ∙ sym newest in
    let commit : b ≡ version_of (vs ++ (b, t) ∷ []) (newest_process (vs ++ (b, t) ∷ [])) = sym (version-last vs b t (newest_process (vs ++ (b, t) ∷ [])) newest) in
    λ i. make (stamp i) (process i) (commit i)
newest-new [] b t p at (inl first) =
    let make : ℕ → ℕ → Bool → NewestVersion = λ stamp process commit. record { stamp = stamp; process = process; commit = commit } in
    let stamp : t ≡ max 0 t = omega arith in
    let process : 0 ≡ index_of (max 0 t) (t ∷ []) = sym (place-here (max 0 t) t [] (omega arith)) in
    let commit : b ≡ version_of ((b, t) ∷ []) (index_of (max 0 t) (t ∷ [])) = ap (version_of ((b, t) ∷ [])) process in
    λ i. make (stamp i) ((at ∙ process) i) (commit i)
newest-new (v ∷ vs) b t p at (inl first) = absurd (omega arith)

-- any other leaves the newest as it is
pub newest-old : (vs : List Version) (b : Bool) (t : ℕ) → 0 < length vs → t ≤ newest_stamp vs → newest_version vs ≡ newest_version (vs ++ (b, t) ∷ [])
newest-old vs b t some below =
    let newest = process-old vs b t some below in
    let make : ℕ → ℕ → Bool → NewestVersion = λ stamp process commit. record { stamp = stamp; process = process; commit = commit } in
    let stamp : newest_stamp vs ≡ newest_stamp (vs ++ (b, t) ∷ []) = omega (arith, stamp-more vs b t) in
    let commit : version_of vs (newest_process vs) ≡ version_of (vs ++ (b, t) ∷ []) (newest_process (vs ++ (b, t) ∷ [])) = sym (version-more vs b t (newest_process vs) (process-in vs some)) ∙ ap (version_of (vs ++ (b, t) ∷ [])) (sym newest) in
    λ i. make (stamp i) (sym newest i) (commit i)

-- the versions of the first processes, and of one process more
pub newest-more : (version : ℕ → Version) (p : ℕ) (newest then : NewestVersion) → newest ≡ newest_version (map version (range_with_len 0 p)) → IsNewestWith newest p (version p) then → then ≡ newest_version (map version (range_with_len 0 (p + 1)))
newest-more version p newest then known next =
    next (map version (range_with_len 0 p)) (length-map-range_with_len version 0 p) known
    ∙ ap newest_version (sym (map-range_with_len_more version 0 p p (omega arith)))

-- the newest of the versions of the first processes is that of one of them
pub newest-below : (version : ℕ → Version) (n : ℕ) (newest : NewestVersion) → newest ≡ newest_version (map version (range_with_len 0 n)) → 0 < n → newest.process < n
newest-below version n newest is some =
    let many = length-map-range_with_len version 0 n in
    let process = ap (λ (v : NewestVersion). v.process) is in
    omega (arith, process-in (map version (range_with_len 0 n)) (omega (arith, many, some)), many, process)
