-- Bytes that come in blocks.
use Rattle.std.proofs.Common.{◌≡◌, ℕ, zero, suc, ◌+◌, ◌-◌, ◌<◌, ◌≤◌, not, nat_lt, Bool, true, false, cond, List, [], ◌∷◌, ◌++◌, length, take, drop, get_or, Option, Some, None, Result, Ok, refl, ap, sym, subst, ◌∙◌, arith}
use Rattle.std.proofs.lemmas.Bool.{and_from}
use Rattle.std.proofs.lemmas.Bool.Decides.{nat_tests}
use Rattle.std.proofs.lemmas.List.{drop_all, drop-drop, drop_more, length-drop, length-take, length-take-le, take-append-drop, take-take, take_all, take_rest}
use Rattle.std.proofs.lemmas.List.Quantifiers.{position-Some}
use Rattle.std.proofs.lemmas.List.Sums.{fails_before_first}
use Rattle.std.specs.Io.{ReadsAtMost}
use Rattle.std.specs.Io.KnownBytes.{Consumes, IsAtEnd, ReadConsumes, prepend_known}
use Rattle.std.specs.List.{list_all, position, position_or_len}
use Rattle.files.specs.{ComesToEnd, Failed, MovesAll, MovesEnded, Stays, coming, ends_line, is_inner, without_return}

-- The waiting bytes.

-- there is no 0x0A before the first
inner_before : (bs : List ℕ) (k : ℕ) → ((j : ℕ) → j < k → ends_line (get_or bs j 0) ≡ false) → list_all is_inner (take k bs) ≡ true
inner_before [] zero none = refl
inner_before [] (suc k) none = refl
inner_before (b ∷ bs) zero none = refl
inner_before (b ∷ bs) (suc k) none = and_from (is_inner b) (list_all is_inner (take k bs)) (ap not (none 0 (omega arith))) (inner_before bs k (λ j below. none (suc j) (omega (arith, below))))

-- bytes are cut at the first 0x0A
cut_at : (bs : List ℕ) (k : ℕ) → k < length bs → ends_line (get_or bs k 0) ≡ true → bs ≡ take k bs ++ 10 ∷ drop (k + 1) bs
cut_at bs k within ends =
    let here : get_or bs k 0 ≡ 10 = grind (arith, nat_tests) in
    sym (take-append-drop k bs) ∙ ap (λ l. take k bs ++ l) (drop_more bs k 0 within ∙ ap (λ b. b ∷ drop (k + 1) bs) here)

-- bytes without a 0x0A
none_in : (bs : List ℕ) → position ends_line bs ≡ None → list_all is_inner bs ≡ true
none_in bs at = by (nat_lt (position_or_len ends_line bs) (length bs)) refl at
  where
    by : (t : Bool) → nat_lt (position_or_len ends_line bs) (length bs) ≡ t → cond t (Some (position_or_len ends_line bs)) None ≡ None → list_all is_inner bs ≡ true
    by true within at = absurd (cc)
    by false within at =
        let all : length bs ≤ position_or_len ends_line bs = grind (arith, nat_tests) in
        ap (list_all is_inner) (sym (take_all (length bs) bs (omega arith))) ∙ inner_before bs (length bs) (λ j below. fails_before_first ends_line bs j 0 (omega (arith, all, below)))

-- the bytes before the first 0x0A were moved
pub moves_ended : (items : List ℕ) (at count : ℕ) (line longer : List ℕ) → position ends_line (take (length items - at) (drop at items)) ≡ Some count → longer ≡ line ++ take count (take (length items - at) (drop at items)) → MovesEnded (drop at items) (drop (at + (count + 1)) items) line longer
moves_ended items at count line longer place moved =
    let bs = drop at items in
    let whole : take (length items - at) (drop at items) ≡ drop at items = take_rest items at in
    let first = position-Some ends_line (drop at items) count 0 (ap (position ends_line) (sym whole) ∙ place) in
    record {
      part = take count (drop at items);
      inner = inner_before (drop at items) count first.2;
      split = cut_at (drop at items) count first.0 first.1 ∙ ap (λ l. take count (drop at items) ++ 10 ∷ l) (drop-drop (count + 1) at items);
      moved = moved ∙ ap (λ l. line ++ take count l) whole;
    }

-- the bytes of a line that was found, without its end
pub found_line : (items : List ℕ) (at count inner : ℕ) (line : List ℕ) → take (length items - at) (drop at items) ≡ line → inner ≤ length (take count line) → take inner (take count line) ≡ without_return (take count line) → take (at + inner - at) (drop at items) ≡ without_return (take count line)
found_line items at count inner line is within same =
    let less : at + inner - at ≡ inner = omega arith in
    let few : inner ≤ count = omega (arith, within, length-take count line) in
    ap (λ n. take n (drop at items)) less ∙ ap (take inner) (sym (take_rest items at) ∙ is) ∙ sym (take-take inner count line few) ∙ same

-- all bytes were moved, without a 0x0A
pub moves_all : (items : List ℕ) (at end : ℕ) (line longer : List ℕ) → length items ≤ end → position ends_line (take (length items - at) (drop at items)) ≡ None → longer ≡ line ++ take (length items - at) (drop at items) → MovesAll (drop at items) (drop end items) line longer
moves_all items at end line longer behind place moved =
    let whole : take (length items - at) (drop at items) ≡ drop at items = take_rest items at in
    record {
      inner = none_in (drop at items) (ap (position ends_line) (sym whole) ∙ place);
      none = drop_all end items behind;
      moved = moved ∙ ap (λ l. line ++ l) whole;
    }

-- The bytes to come.

-- the bytes to come stay while some wait
pub stays : (o : Option (List ℕ)) → Stays o o
stays None = tt
stays (Some xs) = refl

pub some_remaining : (items : List ℕ) (at : ℕ) → at < length items → 0 < length (drop at items)
some_remaining items at some = let remaining = length-drop at items in omega (arith, remaining, some)

-- a block of bytes came
pub more_come : (items : List ℕ) (at : ℕ) (reported : Bool) (old new : Option (List ℕ)) (r : Result ℕ Failed) (buffer block : List ℕ) (count : ℕ) → reported ≡ false → length items ≤ at → r ≡ Ok count → ReadConsumes old new r buffer → block ≡ take count buffer →
    Stays (coming (record { bytes = drop at items; ended = reported }) old) (coming (record { bytes = block; ended = reported }) new)
more_come items at reported old new r buffer block count open_yet none is came moved =
    subst (λ (t : Bool). Stays (coming (record { bytes = drop at items; ended = t }) old) (coming (record { bytes = block; ended = t }) new)) (sym open_yet)
    (subst (λ (l : List ℕ). Stays (coming (record { bytes = l; ended = false }) old) (coming (record { bytes = block; ended = false }) new)) (sym (drop_all at items none)) (by old new (subst (λ (r : Result ℕ Failed). ReadConsumes old new r buffer) is came).0))
  where
    by : (old new : Option (List ℕ)) → Consumes old new (take count buffer) → Stays (prepend_known [] old) (prepend_known block new)
    by None new came = tt
    by (Some text) None came = absurd came
    by (Some text) (Some rest) came = ap (λ l. l ++ rest) moved ∙ sym came

pub some_came : (buffer block : List ℕ) (r : Result ℕ Failed) (count : ℕ) → r ≡ Ok count → ReadsAtMost r buffer → (count ≡ 0 → ⊥) → block ≡ take count buffer → 0 < length block
some_came buffer block r count is within some moved =
    let within : ReadsAtMost {E = Failed} (Ok count) buffer = subst (λ (r : Result ℕ Failed). ReadsAtMost r buffer) is within in
    let long : length block ≡ count = ap length moved ∙ length-take-le count buffer within.0 in
    omega (arith, long, some)

-- the source reported its end
pub at_its_end : (old new : Option (List ℕ)) (r : Result ℕ Failed) (buffer : List ℕ) → r ≡ Ok 0 → 0 < length buffer → ReadConsumes old new r buffer → IsAtEnd old × IsAtEnd new
at_its_end old new r buffer is room came =
    let came : ReadConsumes {E = Failed} old new (Ok 0) buffer = subst (λ (r : Result ℕ Failed). ReadConsumes old new r buffer) is came in
    by old new came.0 (came.1 refl room)
  where
    by : (old new : Option (List ℕ)) → Consumes old new [] → IsAtEnd new → IsAtEnd old × IsAtEnd new
    by None new came end = (tt, end)
    by (Some text) None came end = absurd came
    by (Some text) (Some rest) came end = (came ∙ end, end)

pub none_come : (items : List ℕ) (at : ℕ) (reported : Bool) (old new : Option (List ℕ)) (r : Result ℕ Failed) (buffer : List ℕ) → reported ≡ false → length items ≤ at → r ≡ Ok 0 → 0 < length buffer → ReadConsumes old new r buffer →
    ComesToEnd (coming (record { bytes = drop at items; ended = reported }) old) (coming (record { bytes = drop at items; ended = true }) new)
none_come items at reported old new r buffer open_yet none is room came =
    subst (λ (t : Bool). ComesToEnd (coming (record { bytes = drop at items; ended = t }) old) (coming (record { bytes = drop at items; ended = true }) new)) (sym open_yet)
    (subst (λ (l : List ℕ). ComesToEnd (coming (record { bytes = l; ended = false }) old) (coming (record { bytes = l; ended = true }) new)) (sym (drop_all at items none)) (by old (at_its_end old new r buffer is room came).0, refl))
  where
    by : (old : Option (List ℕ)) → IsAtEnd old → IsAtEnd (prepend_known [] old)
    by None end = tt
    by (Some text) end = end

-- the source had reported its end before
pub none_remaining : (items : List ℕ) (at : ℕ) (reported : Bool) (old : Option (List ℕ)) → reported ≡ true → length items ≤ at → ComesToEnd (coming (record { bytes = drop at items; ended = reported }) old) (coming (record { bytes = drop at items; ended = reported }) old)
none_remaining items at reported old is none =
    subst (λ (t : Bool). ComesToEnd (coming (record { bytes = drop at items; ended = t }) old) (coming (record { bytes = drop at items; ended = t }) old)) (sym is)
    (subst (λ (l : List ℕ). ComesToEnd (coming (record { bytes = l; ended = true }) old) (coming (record { bytes = l; ended = true }) old)) (sym (drop_all at items none)) (refl, refl))
