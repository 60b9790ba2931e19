-- One more of a range.
use Rattle.std.proofs.Common.{◌≡◌, ℕ, suc, ◌+◌, ◌<◌, Bool, false, true, ◌||◌, List, [], ◌∷◌, ◌++◌, flat_map, get_or, length, map, take, ap, refl, sym, ◌∙◌, arith, append-nil, append_assoc}
use Rattle.std.proofs.Math.Seq.{take-suc}
use Rattle.std.proofs.lemmas.Grind.{flat_map-append}
use Rattle.std.proofs.lemmas.List.FromFn.{map-range_with_len_more}
use Rattle.std.specs.List.{list_any, range_with_len}
use Rattle.calls.proofs.Ranges.{lines_more, range_more}

any_behind : {A : Type 0} (f : A → Bool) (xs : List A) (x : A) → list_any f (xs ++ x ∷ []) ≡ list_any f xs || f x
any_behind f [] x = by (f x)
  where
    by : (b : Bool) → b || false ≡ false || b
    by true = refl
    by false = refl
any_behind f (y ∷ ys) x = by (f y) (any_behind f ys x)
  where
    by : (b : Bool) → list_any f (ys ++ x ∷ []) ≡ list_any f ys || f x → b || list_any f (ys ++ x ∷ []) ≡ (b || list_any f ys) || f x
    by true rest = refl
    by false rest = rest

-- whether one of them passes a test
pub any_next : (f : ℕ → Bool) (k : ℕ) → list_any f (range_with_len 0 (k + 1)) ≡ list_any f (range_with_len 0 k) || f k
any_next f k = ap (list_any f) (range_more k) ∙ any_behind f (range_with_len 0 k) k

-- a list of one item for each
pub map_next : {A : Type 0} (f : ℕ → A) (k : ℕ) → map f (range_with_len 0 (k + 1)) ≡ map f (range_with_len 0 k) ++ f k ∷ []
map_next f k = let here : 0 + k ≡ k = omega arith in map-range_with_len_more f 0 k k here

-- a text and these lines
pub text_more : (f : ℕ → List ℕ) (k : ℕ) (text now next : List ℕ) → now ≡ text ++ flat_map f (range_with_len 0 k) → next ≡ now ++ f k → next ≡ text ++ flat_map f (range_with_len 0 (k + 1))
text_more f k text now next so_far wrote =
    wrote ∙ ap (λ l. l ++ f k) so_far ∙ append_assoc text (flat_map f (range_with_len 0 k)) (f k) ∙ ap (λ l. text ++ l) (sym (lines_more f k))

-- a text and the lines of one element more
pub list_more : {A : Type 0} (f : A → List ℕ) (xs : List A) (k : ℕ) (d : A) → k < length xs → (text now next : List ℕ) → now ≡ text ++ flat_map f (take k xs) → next ≡ now ++ f (get_or xs k d) → next ≡ text ++ flat_map f (take (k + 1) xs)
list_more {A} f xs k d within text now next so_far wrote =
    let more : k + 1 ≡ suc k = omega arith in
    wrote ∙ ap (λ l. l ++ f (get_or xs k d)) so_far ∙ append_assoc text (flat_map f (take k xs)) (f (get_or xs k d))
    ∙ ap (λ l. text ++ l) (sym (ap (λ n. flat_map f (take n xs)) more ∙ ap (flat_map f) (take-suc {A = A} xs k d within) ∙ flat_map-append f (take k xs) (get_or xs k d ∷ []) ∙ ap (λ l. flat_map f (take k xs) ++ l) (append-nil (f (get_or xs k d)))))

-- whether one of the numbers passes a test
pub any_more : (f : ℕ → Bool) (g : ℕ → ℕ) (k : ℕ) → list_any f (map g (range_with_len 0 (k + 1))) ≡ list_any f (map g (range_with_len 0 k)) || f (g k)
any_more f g k = ap (list_any f) (map_next g k) ∙ any_behind f (map g (range_with_len 0 k)) (g k)

-- a text and their words
pub words_more : (text : List ℕ) (f : ℕ → List ℕ) (g : ℕ → ℕ) (k : ℕ) → text ++ flat_map f (map g (range_with_len 0 (k + 1))) ≡ (text ++ flat_map f (map g (range_with_len 0 k))) ++ f (g k)
words_more text f g k =
    ap (λ l. text ++ flat_map f l) (map_next g k)
    ∙ ap (λ l. text ++ l) (flat_map-append f (map g (range_with_len 0 k)) (g k ∷ []) ∙ ap (λ l. flat_map f (map g (range_with_len 0 k)) ++ l) (append-nil (f (g k))))
    ∙ sym (append_assoc text (flat_map f (map g (range_with_len 0 k))) (f (g k)))

-- the readers so far, once the word of one more is written
pub words_written : (text : List ℕ) (f : ℕ → List ℕ) (g : ℕ → ℕ) (k : ℕ) (now next word : List ℕ) → now ≡ text ++ flat_map f (map g (range_with_len 0 k)) → word ≡ f (g k) → next ≡ now ++ word → next ≡ text ++ flat_map f (map g (range_with_len 0 (k + 1)))
words_written text f g k now next word so_far is wrote = wrote ∙ (λ i. so_far i ++ is i) ∙ sym (words_more text f g k)

-- three pieces, one after the other
pub three_written : (old one two new a b c : List ℕ) → one ≡ old ++ a → two ≡ one ++ b → new ≡ two ++ c → new ≡ old ++ (a ++ (b ++ c))
three_written old one two new a b c first second third = third ∙ ap (λ l. l ++ c) (second ∙ ap (λ l. l ++ b) first) ∙ simp append_assoc
