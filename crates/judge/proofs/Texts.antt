-- Texts one after another.
use Rattle.std.proofs.Common.{◌≡◌, ℕ, List, [], ◌++◌, sym, ◌∙◌, append_assoc, append-nil}

-- a text with nothing appended
pub none : (t : List ℕ) → t ≡ t ++ []
none t = sym (append-nil t)

pub two : (t a b : List ℕ) → (t ++ a) ++ b ≡ t ++ (a ++ b)
two t a b = append_assoc t a b

pub three : (t a b c : List ℕ) → ((t ++ a) ++ b) ++ c ≡ t ++ (a ++ (b ++ c))
three t a b c = append_assoc (t ++ a) b c ∙ append_assoc t a (b ++ c)

pub five : (t a b c d e : List ℕ) → ((((t ++ a) ++ b) ++ c) ++ d) ++ e ≡ t ++ (a ++ (b ++ (c ++ (d ++ e))))
five t a b c d e = three ((t ++ a) ++ b) c d e ∙ append_assoc (t ++ a) b (c ++ (d ++ e)) ∙ append_assoc t a (b ++ (c ++ (d ++ e)))
