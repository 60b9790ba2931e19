-- Lists in a loop: the part before the present element, and the part from it on.
use Rattle.std.proofs.Common.{◌≡◌, ℕ, zero, suc, ◌+◌, ◌-◌, ◌*◌, ◌/◌, ◌<◌, ◌≤◌, cond, List, [], ◌∷◌, ◌++◌, filter_map, flat_map, length, map, get_or, set, slice_set, take, Option, None, Some, option_to_list, refl, ap, sym, subst, ◌∙◌, arith}
use Rattle.std.specs.List.{cons_option}
use Rattle.std.proofs.lemmas.List.{map-append, map-set, take_more}
use Rattle.std.proofs.lemmas.List.Elements.{filter_map-append}
use Rattle.picture_layout.specs.{Column, RunLine, Seen, Wording, capped, drawn_apart, has_changes, has_notes, last_of, moved_to, row_shared, seen, reported_in}

-- the height that the columns of a band need below its knots, if `room` is needed already
abbrev pub room_left : ℕ → List Seen → ℕ
room_left room columns = cond (has_notes columns) 28 (cond (has_changes columns) 14 room)

-- a list, in which f changes the first k elements
abbrev pub first_mapped : {A : Type 0} → (A → A) → ℕ → List A → List A
first_mapped f zero l = l
first_mapped f (suc k) [] = []
first_mapped f (suc k) (x ∷ l) = f x ∷ first_mapped f k l

-- one more element is changed
set_next : {A : Type 0} (f : A → A) (k : ℕ) (l : List A) (x d : A) → k < length l → x ≡ f (get_or l k d) → set (first_mapped f k l) k x ≡ first_mapped f (suc k) l
set_next f zero [] x d within is = refl
set_next f zero (y ∷ l) x d within is = ap (λ z. z ∷ l) is
set_next f (suc k) [] x d within is = refl
set_next f (suc k) (y ∷ l) x d within is = ap (λ r. f y ∷ r) (set_next f k l x d (omega (arith, within)) is)

first_mapped_set : {A : Type 0} (f : A → A) (k : ℕ) (l : List A) (x d : A) → k < length l → x ≡ f (get_or l k d) → set (first_mapped f k l) k x ≡ first_mapped f (k + 1) l
first_mapped_set f k l x d within is = set_next f k l x d within is ∙ ap (λ n. first_mapped f n l) (let e : suc k ≡ k + 1 = omega arith in e)

-- the length is unchanged
pub first_mapped_length : {A : Type 0} (f : A → A) (k : ℕ) (l : List A) → length (first_mapped f k l) ≡ length l
first_mapped_length f zero l = refl
first_mapped_length f (suc k) [] = refl
first_mapped_length f (suc k) (x ∷ l) = ap suc (first_mapped_length f k l)

-- the next element is not changed yet
pub first_mapped_next : {A : Type 0} (f : A → A) (k : ℕ) (l : List A) (d : A) → get_or (first_mapped f k l) k d ≡ get_or l k d
first_mapped_next f zero l d = refl
first_mapped_next f (suc k) [] d = refl
first_mapped_next f (suc k) (x ∷ l) d = first_mapped_next f k l d

pub first_mapped_put : {A : Type 0} (f : A → A) (k : ℕ) (now old : List A) (x d : A) → k < length now → now ≡ first_mapped f k old → x ≡ f (get_or now k d) → set now k x ≡ first_mapped f (k + 1) old
first_mapped_put f k now old x d within are is =
    ap (λ l. set l k x) are
    ∙ first_mapped_set f k old x d (let same = first_mapped_length f k old in subst (λ n. k < n) same (subst (λ l. k < length l) are within))
    (is ∙ ap f (ap (λ l. get_or l k d) are ∙ first_mapped_next f k old d))

-- all elements are changed
pub first_mapped_all : {A : Type 0} (f : A → A) (k : ℕ) (l : List A) → length l ≤ k → first_mapped f k l ≡ map f l
first_mapped_all f zero [] all = refl
first_mapped_all f zero (x ∷ l) all = absurd (omega (arith, all))
first_mapped_all f (suc k) [] all = refl
first_mapped_all f (suc k) (x ∷ l) all = ap (λ r. f x ∷ r) (first_mapped_all f k l (omega (arith, all)))

pub first_mapped_done : {A : Type 0} (f : A → A) (k : ℕ) (now old : List A) → length now ≤ k → now ≡ first_mapped f k old → now ≡ map f old
first_mapped_done f k now old all are = are ∙ first_mapped_all f k old (subst (λ n. n ≤ k) (first_mapped_length f k old) (subst (λ l. length l ≤ k) are all))

pub mapped_length : {A B : Type 0} (f : A → B) (l : List A) → length (map f l) ≡ length l
mapped_length f [] = refl
mapped_length f (x ∷ l) = ap suc (mapped_length f l)

mapped_get : {A B : Type 0} (f : A → B) (l : List A) (k : ℕ) (d : A) → get_or (map f l) k (f d) ≡ f (get_or l k d)
mapped_get f [] k d = refl
mapped_get f (x ∷ l) zero d = refl
mapped_get f (x ∷ l) (suc k) d = mapped_get f l k d

-- one more column of a band is drawn apart
pub drawn_more : (old new : ℕ) (now : List Column) (before : List Seen) (k : ℕ) (d : Column) (x : ℕ) → k < length now → map seen now ≡ first_mapped (drawn_apart old new) k before →
    x ≡ capped (52 + ((get_or now k d).x - 52) * new / old) → map seen (set now k (record (get_or now k d) { x = x })) ≡ first_mapped (drawn_apart old new) (k + 1) before
drawn_more old new now before k d x within are is =
    map-set seen now k (record (get_or now k d) { x = x })
    ∙ first_mapped_put (drawn_apart old new) k (map seen now) before (seen (record (get_or now k d) { x = x })) (seen d) (subst (λ n. k < n) (sym (mapped_length seen now)) within) are
    (ap (moved_to (seen (get_or now k d))) is ∙ ap (drawn_apart old new) (sym (mapped_get seen now k d)))

-- a column is put elsewhere, with the same lines
pub set_reported : (columns : List Column) (k : ℕ) (put had : Column) → reported_in put ≡ reported_in (get_or columns k had) → flat_map reported_in (slice_set columns k put) ≡ flat_map reported_in columns
set_reported [] k put had same = refl
set_reported (column ∷ columns) zero put had same = ap (λ l. l ++ flat_map reported_in columns) same
set_reported (column ∷ columns) (suc k) put had same = ap (λ l. reported_in column ++ l) (set_reported columns k put had same)

-- the elements up to the next one, after f
map_take_more : {A B : Type 0} (f : A → B) (l : List A) (k : ℕ) (d : A) → k < length l → map f (take (k + 1) l) ≡ map f (take k l) ++ f (get_or l k d) ∷ []
map_take_more f l k d within = ap (map f) (take_more l k d within) ∙ map-append f (take k l) (get_or l k d ∷ [])

-- the position of the next column
last_push : (columns : List Seen) (column : Seen) → last_of (columns ++ column ∷ []) ≡ column.x
last_push [] column = refl
last_push (first ∷ []) column = refl
last_push (first ∷ next ∷ columns) column = last_push (next ∷ columns) column

pub last_more : (columns : List Column) (k : ℕ) (d : Column) → k < length columns → last_of (map seen (take (k + 1) columns)) ≡ (get_or columns k d).x
last_more columns k d within = ap last_of (map_take_more seen columns k d within) ∙ last_push (map seen (take k columns)) (seen (get_or columns k d))

-- the rows of the lines up to the next one
only_one : (o : Option Wording) → cons_option o [] ≡ option_to_list o
only_one None = refl
only_one (Some row) = refl

pub shared_more : (lines : List RunLine) (k : ℕ) (line : RunLine) → k < length lines → line ≡ get_or lines k line → filter_map row_shared (take (k + 1) lines) ≡ filter_map row_shared (take k lines) ++ option_to_list (row_shared line)
shared_more lines k line within is =
    ap (filter_map row_shared) (take_more lines k line within) ∙ filter_map-append row_shared (take k lines) (get_or lines k line ∷ [])
    ∙ ap (λ l. filter_map row_shared (take k lines) ++ l) (only_one (row_shared (get_or lines k line)) ∙ ap (λ (l : RunLine). option_to_list (row_shared l)) (sym is))
