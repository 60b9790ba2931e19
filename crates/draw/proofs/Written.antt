-- Pieces that are written one after the other.
use Rattle.std.proofs.Common.{◌≡◌, ℕ, Result, Ok, Err, IfErr, IfOk, OnOk, List, [], ◌++◌, Option, Some, None, ap, sym, ◌∙◌, append-nil, append_assoc}
use Rattle.std.specs.Io.KnownBytes.{Appends}

-- one piece, and then the next
pub appends_both : (a b c : Option (List ℕ)) (front more : List ℕ) → Appends a b front → Appends b c more → Appends a c (front ++ more)
appends_both None b c front more first next = tt
appends_both (Some xs) (Some ys) (Some zs) front more first next = next ∙ ap (λ l. l ++ more) first ∙ append_assoc xs front more
appends_both (Some xs) (Some ys) None front more first next = next
appends_both (Some xs) None c front more first next = elim first [ ]

-- nothing
pub appends_none : (a : Option (List ℕ)) → Appends a a []
appends_none None = tt
appends_none (Some xs) = sym (append-nil xs)

-- what follows where a call ended well
pub ok_then : {A E : Type 0} (r : Result A E) {P Q : Type 0} → (P → Q) → OnOk r P → OnOk r Q
ok_then (Ok done) then is = then is
ok_then (Err e) then is = tt

pub ok_then_both : {A E : Type 0} (r : Result A E) {P Q R : Type 0} → (P → Q → R) → OnOk r P → OnOk r Q → OnOk r R
ok_then_both (Ok done) then p q = then p q
ok_then_both (Err e) then p q = tt

pub ok_then_all : {A E : Type 0} (r : Result A E) {P Q R S : Type 0} → (P → Q → R → S) → OnOk r P → OnOk r Q → OnOk r R → OnOk r S
ok_then_all (Ok done) then p q s = then p q s
ok_then_all (Err e) then p q s = tt

-- of what a call answered
pub if_ok_then : {A E : Type 0} (r : Result A E) {P Q : A → Type 0} → ((x : A) → P x → Q x) → IfOk r P → IfOk r Q
if_ok_then (Ok x) then is = then x is
if_ok_then (Err e) then is = tt

pub if_ok_both : {A E : Type 0} (r : Result A E) {P Q R : A → Type 0} → ((x : A) → P x → Q x → R x) → IfOk r P → IfOk r Q → IfOk r R
if_ok_both (Ok x) then p q = then x p q
if_ok_both (Err e) then p q = tt

pub if_ok_all : {A E : Type 0} (r : Result A E) {P Q R S : A → Type 0} → ((x : A) → P x → Q x → R x → S x) → IfOk r P → IfOk r Q → IfOk r R → IfOk r S
if_ok_all (Ok x) then p q s = then x p q s
if_ok_all (Err e) then p q s = tt

pub if_err_then : {A E : Type 0} (r : Result A E) {P Q : E → Type 0} → ((e : E) → P e → Q e) → IfErr r P → IfErr r Q
if_err_then (Ok x) then is = tt
if_err_then (Err e) then is = then e is
