-- Lists and texts that consist of parts.
use Rattle.std.proofs.Common.{◌≡◌, ℕ, suc, ◌+◌, ◌<◌, ◌≤◌, List, [], ◌∷◌, ◌++◌, None, Some, Result, Ok, Err, IsOkAnd, String, codes, flat_map, get_or, length, length-take-le, take, ap, sym, ◌∙◌, append-nil, append_assoc, arith}
use Rattle.std.proofs.lemmas.Grind.{flat_map-append}
use Rattle.std.proofs.lemmas.List.{length-map, map-append, take_all, take_more}
use Rattle.std.specs.Fmt.{decimal}
use Rattle.std.specs.Global.{Vec}
use Rattle.std.specs.String.{string_bytes}
use Rattle.plain_store.specs.{Answer, answer_text}
use Rattle.model.specs.{Placed, lists_of}
use Rattle.scenario.specs.files.{GivesText}
use Rattle.race.specs.{answer_line, answers_from, list_text}

-- one item more
pub items_more : {X A : Type 0} (f : X → List A) (xs : List X) (k : ℕ) (x : X) → k < length xs → x ≡ get_or xs k x → flat_map f (take (k + 1) xs) ≡ flat_map f (take k xs) ++ f x
items_more f xs k x within is =
    ap (flat_map f) (take_more xs k x within) ∙ flat_map-append f (take k xs) (get_or xs k x ∷ []) ∙ ap (λ l. flat_map f (take k xs) ++ l) (append-nil (f (get_or xs k x)) ∙ ap f (sym is))

-- all of them
pub items_all : {X A : Type 0} (f : X → List A) (xs : List X) (k : ℕ) → length xs ≤ k → flat_map f (take k xs) ≡ flat_map f xs
items_all f xs k past = ap (flat_map f) (take_all k xs past)

-- the lines, as `format!` puts them together
pub placed_line_is : (p place : ℕ) (answer : Answer) → decimal p ++ (codes " " ++ (decimal place ++ (codes " " ++ (answer_text answer ++ codes "\n")))) ≡ answer_line p (Some place) answer
placed_line_is p place answer = simp append_assoc

pub unplaced_line_is : (p : ℕ) (answer : Answer) → decimal p ++ (codes " - " ++ (answer_text answer ++ codes "\n")) ≡ answer_line p None answer
unplaced_line_is p answer = simp append_assoc

-- one list more
answers_snoc : (p i : ℕ) (lists : List (List Placed)) (calls : List Placed) → p + length lists ≡ i → answers_from p (lists ++ calls ∷ []) ≡ answers_from p lists ++ list_text i calls
answers_snoc p i [] calls at = append-nil (list_text p calls) ∙ ap (λ k. list_text k calls) (let same : p ≡ i = omega (arith, at) in same)
answers_snoc p i (list ∷ lists) calls at =
    let later : suc p + length lists ≡ i = omega (arith, at) in
    ap (λ l. list_text p list ++ l) (answers_snoc (suc p) i lists calls later) ∙ sym (append_assoc (list_text p list) (answers_from (suc p) lists) (list_text i calls))

pub answers_more : (vecs : List (Vec Placed)) (i : ℕ) (v : Vec Placed) → i < length vecs → v ≡ get_or vecs i v → answers_from 0 (lists_of (take (i + 1) vecs)) ≡ answers_from 0 (lists_of (take i vecs)) ++ list_text i v.items
answers_more vecs i v within at =
    let size : length (take i vecs) ≡ i = length-take-le i vecs (omega (arith, within)) in
    let lists : length (lists_of (take i vecs)) ≡ length (take i vecs) = length-map (take i vecs) (λ (w : Vec Placed). w.items) in
    ap (λ (l : List (Vec Placed)). answers_from 0 (lists_of l)) (take_more vecs i v within ∙ ap (λ (x : Vec Placed). take i vecs ++ x ∷ []) (sym at))
    ∙ ap (answers_from 0) (map-append (λ (w : Vec Placed). w.items) (take i vecs) (v ∷ []))
    ∙ answers_snoc 0 i (lists_of (take i vecs)) v.items (omega (arith, size, lists))

-- a text appended to another one
pub pushed : {Z E : Type 0} (more : Result (String Z) E) (old new reported : List ℕ) → IsOkAnd more (λ text. new ≡ old ++ string_bytes text) → GivesText more reported → new ≡ old ++ reported
pushed (Ok text) old new reported is gives = is ∙ ap (λ bytes. old ++ bytes) gives
pushed (Err e) old new reported is gives = absurd is
