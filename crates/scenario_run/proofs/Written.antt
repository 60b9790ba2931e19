-- Pieces that are written one after the other, and prefixes of them.
use Rattle.std.proofs.Common.{◌≡◌, ℕ, zero, suc, ◌+◌, ◌<◌, Result, Ok, Err, IfOk, OnErr, OnOk, IsOk, flat_map, drop, get_or, List, [], ◌∷◌, ◌++◌, length, take, Option, refl, ap, sym, subst, ◌∙◌, append-nil}
use Rattle.std.proofs.lemmas.Grind.{flat_map-append}
use Rattle.std.proofs.lemmas.List.{take_more}
use Rattle.std.specs.Io.KnownBytes.{Appends}
use Rattle.std.specs.declared.alloc.AllocError.{AllocError}
use Rattle.scenario.proofs.Places.{drop_in}
use Rattle.scenario.specs.files.{Fault, WritesFront}
use Rattle.scenario_run.specs.{Writes, WritesPart}
pub use Rattle.scenario.proofs.files.Failing.{failed_same}
pub use Rattle.scenario_run.specs.Growing.{appends_both, appends_none, front_after, front_longer, take_after}

-- the empty list is a prefix of every text
pub front_none : (a b : Option (List ℕ)) (text : List ℕ) → b ≡ a → WritesFront a b text
front_none a b text same = record { count = 0; front = subst (λ b. Appends a b []) (sym same) (appends_none a) }

-- a whole text is a prefix of a longer one
pub front_whole : (a b : Option (List ℕ)) (text more : List ℕ) → Appends a b text → WritesFront a b (text ++ more)
front_whole a b text more whole = record { count = length text + 0; front = subst (λ l. Appends a b l) (sym (take_after text more 0 ∙ append-nil text)) whole }

pub front_all : (a b : Option (List ℕ)) (text : List ℕ) → Appends a b text → WritesFront a b text
front_all a b text whole = subst (λ l. WritesFront a b l) (append-nil text) (front_whole a b text [] whole)

-- the text of a run that was written from its start on, in whole or in part
pub all_written : (text : List ℕ) (a b : Option (List ℕ)) → Writes [] text a b → Appends a b text
all_written text a b w = subst (λ l. Appends a b l) (sym w.is) w.taken

pub part_written : (text : List ℕ) (a b : Option (List ℕ)) → WritesPart [] text a b → WritesFront a b text
part_written text a b w = subst (λ l. WritesFront a b l) (sym w.is) w.front

module _ {X : Type 0} (bytes : X → List ℕ) where
  -- a line that was written, because there was memory for it
  pub line_whole : (a b : Option (List ℕ)) (line : Result X AllocError) (text : List ℕ) → IfOk line (λ l. bytes l ≡ text) → IsOk line → IfOk line (λ l. Appends a b (bytes l)) → Appends a b text
  line_whole a b (Ok l) text is made whole = subst (λ t. Appends a b t) is whole
  line_whole a b (Err e) text is made whole = absurd (cc)

  -- the bytes of a line also equal each text that equals its text
  pub ok_along : (line : Result X AllocError) (text other : List ℕ) → IfOk line (λ l. bytes l ≡ text) → text ≡ other → IfOk line (λ l. bytes l ≡ other)
  ok_along (Ok l) text other is same = is ∙ same
  ok_along (Err e) text other is same = tt

  -- a prefix of a line was written
  pub line_front : (a b : Option (List ℕ)) (line : Result X AllocError) (text : List ℕ) → IfOk line (λ l. bytes l ≡ text) → IfOk line (λ l. WritesFront a b (bytes l)) → OnErr line (b ≡ a) → WritesFront a b text
  line_front a b (Ok l) text is front none = subst (λ t. WritesFront a b t) is front
  line_front a b (Err e) text is front none = front_none a b text none

-- a list is its first k elements followed by the rest
front_rest : {X : Type 0} (k : ℕ) (xs : List X) → xs ≡ take k xs ++ drop k xs
front_rest zero xs = refl
front_rest (suc k) [] = refl
front_rest (suc k) (x ∷ xs) = ap (λ l. x ∷ l) (front_rest k xs)

-- the output for items is that for the first k, for item k, and for the others
pub items_split : {X : Type 0} (f : X → List ℕ) (xs : List X) (k : ℕ) (x : X) → k < length xs → x ≡ get_or xs k x → flat_map f xs ≡ flat_map f (take k xs) ++ (f x ++ flat_map f (drop (k + 1) xs))
items_split f xs k x within is =
    ap (flat_map f) (front_rest k xs) ∙ flat_map-append f (take k xs) (drop k xs) ∙ ap (λ l. flat_map f (take k xs) ++ flat_map f l) (drop_in xs k x within is)

-- the output for one item more
pub items_more : {X : Type 0} (f : X → List ℕ) (xs : List X) (k : ℕ) (x : X) → k < length xs → x ≡ get_or xs k x → flat_map f (take (k + 1) xs) ≡ flat_map f (take k xs) ++ f x
items_more f xs k x within is =
    ap (flat_map f) (take_more xs k x within) ∙ flat_map-append f (take k xs) (get_or xs k x ∷ []) ∙ ap (λ l. flat_map f (take k xs) ++ l) (append-nil (f (get_or xs k x)) ∙ ap f (sym is))

-- a fact that holds in any case holds after a fault
pub on_err : {A : Type 0} (r : Result A Fault) (P : Type 0) → P → OnErr r P
on_err (Ok done) P p = tt
on_err (Err e) P p = p

-- a consequence of a success
pub ok_then : {A E : Type 0} (r : Result A E) {P Q : Type 0} → (P → Q) → OnOk r P → OnOk r Q
ok_then (Ok a) then p = then p
ok_then (Err e) then p = tt
