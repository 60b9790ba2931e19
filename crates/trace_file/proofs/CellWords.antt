-- Words of the form `NAME[...]`.
use Rattle.std.proofs.Common.{◌≡◌, ℕ, zero, suc, ◌+◌, ◌-◌, ◌<◌, ◌≤◌, ◌==◌, ◌&&◌, Bool, true, false, if◌then◌else◌, List, [], ◌∷◌, ◌++◌, length, get_or, take, drop, Result, Ok, Err, refl, ap, sym, ◌∙◌, arith, add-one, append_assoc}
use Rattle.std.proofs.Math.Seq.{drop-append-add, drop-append_seam, get_or-append_seam, take-append_seam}
use Rattle.std.proofs.lemmas.Bool.{and_from, and_parts}
use Rattle.std.proofs.lemmas.Bool.Decides.{nat_tests}
use Rattle.std.proofs.lemmas.List.{drop_all, drop_more, get_or-drop, length-append, length-drop, take-append-drop}
use Rattle.std.proofs.lemmas.Slice.Eq.{bytes_eq-Decides}
use Rattle.std.specs.Cmp.{both_ways}
use Rattle.std.specs.Str.{bytes_eq}
use Rattle.files.specs.{◌>>=◌}
use Rattle.files.specs.declared.faults.FaultKind.TheVariants.{Unknown}
use Rattle.trace.specs.{Cell, TraceRegister}
use Rattle.trace_file.specs.{cell_from, index_in, indexed, is_cell_of}
use Rattle.trace_file.specs.Reading.{index_of}

-- the number of bytes of such a word
length-indexed : (name index : List ℕ) → length (indexed name index) ≡ length name + (length index + 2)
length-indexed name index =
    let all = length-append name (91 ∷ (index ++ 93 ∷ [])) in
    let inner = length-append index (93 ∷ []) in
    omega (arith, all, inner)

-- the bytes between its brackets are its index
index_is : (name index : List ℕ) → index_in name (indexed name index) ≡ index
index_is name index =
    let count : (length (indexed name index) - 1) - (length name + 1) ≡ length index = omega (arith, length-indexed name index) in
    ap (λ n. take n (drop (length name + 1) (indexed name index))) count
    ∙ ap (take (length index)) (drop-append-add name (91 ∷ (index ++ 93 ∷ [])) 1)
    ∙ take-append_seam index (93 ∷ [])

-- the last of some bytes
split_last : (bytes : List ℕ) (k : ℕ) → length bytes ≡ k + 1 → bytes ≡ take k bytes ++ get_or bytes k 0 ∷ []
split_last [] k count = absurd (omega (arith, count))
split_last (b ∷ []) zero count = refl
split_last (b ∷ c ∷ bs) zero count = absurd (omega (arith, count))
split_last (b ∷ bs) (suc k) count = ap (λ l. b ∷ l) (split_last bs k (omega (arith, count)))

-- the front and the end of a word of this form
record IsCell (name word : List ℕ) : Type 0 where
  front : take (length name) word ≡ name
  opens : get_or word (length name) 0 ≡ 91
  ends : get_or word (length word - 1) 0 ≡ 93

cell_is : (name index word : List ℕ) → word ≡ indexed name index → IsCell name word
cell_is name index word is =
    let count : length word - 1 ≡ length (name ++ 91 ∷ index) = omega (arith, ap length is, length-indexed name index, length-append name (91 ∷ index)) in
    record {
      front = ap (take (length name)) is ∙ take-append_seam name (91 ∷ (index ++ 93 ∷ []));
      opens = ap (λ w. get_or w (length name) 0) is ∙ get_or-append_seam name 91 (index ++ 93 ∷ []) 0;
      ends =
          ap (λ n. get_or word n 0) count
          ∙ ap (λ w. get_or w (length (name ++ 91 ∷ index)) 0) (is ∙ sym (append_assoc name (91 ∷ index) (93 ∷ [])))
          ∙ get_or-append_seam (name ++ 91 ∷ index) 93 [] 0;
    }

is_cell_by : (name word : List ℕ) → length name + 2 ≤ length word → IsCell name word → word ≡ indexed name (index_in name word)
is_cell_by name word long is =
    let n : ℕ = length name in
    let k : ℕ = (length word - 1) - (n + 1) in
    let rest : List ℕ = drop (n + 1) word in
    let count : length rest ≡ k + 1 = omega (arith, length-drop (n + 1) word) in
    let place : n + 1 + k ≡ length word - 1 = omega arith in
    let last : get_or rest k 0 ≡ 93 = get_or-drop (n + 1) word k 0 ∙ ap (λ i. get_or word i 0) place ∙ is.ends in
    sym (take-append-drop n word)
    ∙ ap (λ front. front ++ drop n word) is.front
    ∙ ap (λ l. name ++ l) (drop_more word n 0 (omega arith))
    ∙ ap (λ b. name ++ b ∷ rest) is.opens
    ∙ ap (λ l. name ++ 91 ∷ l) (split_last rest k count)
    ∙ ap (λ b. name ++ 91 ∷ (take k rest ++ b ∷ [])) last

-- A word that is long enough has this form exactly if it passes these tests.
pub is_cell : (name word : List ℕ) → length name + 2 ≤ length word → bytes_eq word (indexed name (index_in name word)) ≡ (bytes_eq (take (length name) word) name && ((get_or word (length name) 0 == 91) && (get_or word (length word - 1) 0 == 93)))
is_cell name word long = both_ways (bytes_eq word (indexed name (index_in name word))) (bytes_eq (take (length name) word) name && ((get_or word (length name) 0 == 91) && (get_or word (length word - 1) 0 == 93))) there back
  where
    there : bytes_eq word (indexed name (index_in name word)) ≡ true → (bytes_eq (take (length name) word) name && ((get_or word (length name) 0 == 91) && (get_or word (length word - 1) 0 == 93))) ≡ true
    there is =
        let cell = cell_is name (index_in name word) word ((bytes_eq-Decides word (indexed name (index_in name word))).0 is) in
        let opens : get_or word (length name) 0 ≡ 91 = cell.opens in
        let ends : get_or word (length word - 1) 0 ≡ 93 = cell.ends in
        let first : (get_or word (length name) 0 == 91) ≡ true = grind (arith, nat_tests) in
        let last : (get_or word (length word - 1) 0 == 93) ≡ true = grind (arith, nat_tests) in
        and_from (bytes_eq (take (length name) word) name) ((get_or word (length name) 0 == 91) && (get_or word (length word - 1) 0 == 93)) ((bytes_eq-Decides (take (length name) word) name).1 cell.front) (and_from (get_or word (length name) 0 == 91) (get_or word (length word - 1) 0 == 93) first last)

    back : (bytes_eq (take (length name) word) name && ((get_or word (length name) 0 == 91) && (get_or word (length word - 1) 0 == 93))) ≡ true → bytes_eq word (indexed name (index_in name word)) ≡ true
    back are =
        let tests = and_parts (bytes_eq (take (length name) word) name) ((get_or word (length name) 0 == 91) && (get_or word (length word - 1) 0 == 93)) are in
        let bytes = and_parts (get_or word (length name) 0 == 91) (get_or word (length word - 1) 0 == 93) tests.1 in
        let first : (get_or word (length name) 0 == 91) ≡ true = bytes.0 in
        let last : (get_or word (length word - 1) 0 == 93) ≡ true = bytes.1 in
        (bytes_eq-Decides word (indexed name (index_in name word))).1 (is_cell_by name word long (record { front = (bytes_eq-Decides (take (length name) word) name).0 tests.0; opens = grind (arith, nat_tests); ends = grind (arith, nat_tests) }))

-- A shorter word does not have this form.
pub too_short : (name word : List ℕ) → length word < length name + 2 → bytes_eq word (indexed name (index_in name word)) ≡ false
too_short name word short = by (bytes_eq word (indexed name (index_in name word))) refl
  where
    by : (b : Bool) → bytes_eq word (indexed name (index_in name word)) ≡ b → b ≡ false
    by true is =
        let same : word ≡ indexed name (index_in name word) = (bytes_eq-Decides word (indexed name (index_in name word))).0 is in
        absurd (omega (arith, ap length same, length-indexed name (index_in name word), short))
    by false is = refl

-- The registers are looked through one by one: one whose cell the word is not,
pub cell_more : (registers : List TraceRegister) (i : ℕ) (r : TraceRegister) (word : List ℕ) → i < length registers → r ≡ get_or registers i r → is_cell_of word r ≡ false → cell_from i (drop i registers) word ≡ cell_from (i + 1) (drop (i + 1) registers) word
cell_more registers i r word within is other =
    ap (λ rs. cell_from i rs word) (drop_more registers i r within)
    ∙ ap (λ s. cell_from i (s ∷ drop (i + 1) registers) word) (sym is)
    ∙ ap (λ b. if b then (index_of r word >>= λ index. Ok (record { register = i; index = index })) else cell_from (i + 1) (drop (i + 1) registers) word) other

-- the one whose cell it is,
pub cell_here : (registers : List TraceRegister) (i : ℕ) (r : TraceRegister) (word : List ℕ) → i < length registers → r ≡ get_or registers i r → is_cell_of word r ≡ true → cell_from i (drop i registers) word ≡ (index_of r word >>= λ index. Ok (record { register = i; index = index }))
cell_here registers i r word within is it =
    ap (λ rs. cell_from i rs word) (drop_more registers i r within)
    ∙ ap (λ s. cell_from i (s ∷ drop (i + 1) registers) word) (sym is)
    ∙ ap (λ b. if b then (index_of r word >>= λ index. Ok (record { register = i; index = index })) else cell_from (i + 1) (drop (i + 1) registers) word) it

-- or none.
pub cell_none : (registers : List TraceRegister) (i : ℕ) (word : List ℕ) → length registers ≤ i → cell_from i (drop i registers) word ≡ Err Unknown
cell_none registers i word all = ap (λ rs. cell_from i rs word) (drop_all i registers all)
