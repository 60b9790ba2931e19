-- The pairs after a value is written at a name.
use Rattle.std.specs.Prelude.{◌≡◌, ◌≢◌, ◌↔◌, IsTrue, ℕ, Bool, true, false, not, cond, List, [], ◌∷◌, Option, Some, None, refl}
use Rattle.std.proofs.Common.{ap, sym, ◌∙◌, rules, if◌then◌else◌}
use Rattle.std.proofs.lemmas.Bool.Decides.{Decides-int_eq}
use Rattle.std.proofs.lemmas.Slice.Eq.{bytes_eq-Decides}
use Rattle.std.specs.Str.{bytes_eq}
use Rattle.std.specs.Bool.{Decides}
use Rattle.plain_store.specs.{Command, Contents, Pair, Value, changes, is_new, name_of, outcome_in, pairs_after, put, same_value, value_at, value_for, with_written}
use Rattle.plain_store.specs.declared.commands.Command.TheVariants.{Read, Write, Add, Cas, Ask}
use Rattle.plain_store.specs.declared.commands.Value.TheVariants.{Count, Text}

-- the name has the value that was written
pub value_at-put : (pairs : List Pair) (name : List ℕ) (x : Value) → value_at (put pairs name x) name ≡ Some x
value_at-put [] name x = ap (λ b. cond b (Some x) None) ((bytes_eq-Decides name name).1 refl)
value_at-put (e ∷ es) name x = by (value_at-put es name x) (bytes_eq name e.0) refl
  where
    by : value_at (put es name x) name ≡ Some x → (b : Bool) → bytes_eq name e.0 ≡ b → value_at (if b then (e.0, x) ∷ es else e ∷ put es name x) name ≡ Some x
    by more true same = ap (λ c. cond c (Some x) (value_at es name)) same
    by more false same = ap (λ c. cond c (Some e.1) (value_at (put es name x) name)) same ∙ more

-- writing the value that the name has changes nothing
pub put-same : (pairs : List Pair) (name : List ℕ) (x : Value) → value_at pairs name ≡ Some x → put pairs name x ≡ pairs
put-same [] name x there = cc
put-same (e ∷ es) name x there = by (put-same es name x) (bytes_eq name e.0) there
  where
    by : (value_at es name ≡ Some x → put es name x ≡ es) → (b : Bool) → cond b (Some e.1) (value_at es name) ≡ Some x → (if b then (e.0, x) ∷ es else e ∷ put es name x) ≡ e ∷ es
    by more true same = let this : e.1 ≡ x = cc in ap (λ v. (e.0, v) ∷ es) (sym this)
    by more false same = ap (λ rest. e ∷ rest) (more same)

-- values are the same exactly if they are equal
pub same_value-Decides : (v x : Value) → Decides (same_value v x) (v ≡ x)
same_value-Decides (Count a) (Count b) = ((λ same. ap Count ((Decides-int_eq a b).0 same)), λ same. (Decides-int_eq a b).1 (cc))
same_value-Decides (Text a) (Text b) = ((λ same. ap Text ((bytes_eq-Decides a b).0 same)), λ same. (bytes_eq-Decides a b).1 (cc))
same_value-Decides (Count a) (Text b) = ((λ same. cc), λ same. cc)
same_value-Decides (Text a) (Count b) = ((λ same. cc), λ same. cc)

-- a written value is new exactly if the name had another or none
is_new-Decides : (before : Option Value) (x : Value) → Decides (is_new before (Some x)) (before ≢ Some x)
is_new-Decides None x = ((λ new same. cc), λ differs. refl)
is_new-Decides (Some v) x = by (same_value v x) (same_value-Decides v x)
  where
    by : (b : Bool) → Decides b (v ≡ x) → Decides (not b) (Some v ≢ Some x)
    by true same = ((λ new. cc), λ differs. absurd (differs (ap Some (same.0 refl))))
    by false same = ((λ new equal. let bad : false ≡ true = same.1 (cc) in cc), λ differs. refl)

-- a value that is written at a name changes the pairs exactly if it is new
pub written_differs : (pairs : List Pair) (name : Option (List ℕ)) (written : Option Value) → (name ≡ None → written ≡ None) → (is_new (value_for pairs name) written ≡ true → with_written pairs name written ≢ pairs) × (with_written pairs name written ≢ pairs → is_new (value_for pairs name) written ≡ true)
written_differs pairs None None own = ((λ new. cc), λ differs. absurd (differs refl))
written_differs pairs (Some name) None own = ((λ new. cc), λ differs. absurd (differs refl))
written_differs pairs None (Some x) own = let bad : Some x ≡ None = own refl in ((λ new. cc), λ differs. cc)
written_differs pairs (Some name) (Some x) own = (
  (λ new same. (is_new-Decides (value_at pairs name) x).0 new (sym (ap (λ ps. value_at ps name) same) ∙ value_at-put pairs name x)),
  λ differs. (is_new-Decides (value_at pairs name) x).1 (λ there. differs (put-same pairs name x there)),
)

-- only a command with a name writes
nameless : (s : Contents) (command : Command) → name_of command ≡ None → (outcome_in s command 0).written ≡ None
nameless s (Read n) none = cc
nameless s (Write n x) none = cc
nameless s (Add n d) none = cc
nameless s (Cas n x y) none = cc
nameless s Ask none = refl

-- a command changes the pairs exactly if the pairs after it differ from those before
pub changes_differs : (s : Contents) (command : Command) → IsTrue (changes s command) ↔ (pairs_after s command ≢ s.pairs)
changes_differs s command = search (rules, written_differs s.pairs (name_of command) (outcome_in s command 0).written (nameless s command))
