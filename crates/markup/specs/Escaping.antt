-- The form of a text within markup, and reading it back.
use Rattle.std.specs.Prelude.{ℕ, Bool, ◌==◌, not, ◌||◌, if◌then◌else◌, List, [], ◌∷◌, codes, flat_map, Option, None, Some}

-- the bytes that markup writes by a name after `&`: `&`, `<`, `>` and `"`
abbrev pub names : List (List ℕ × ℕ)
names = (codes "amp;", 38) ∷ (codes "lt;", 60) ∷ (codes "gt;", 62) ∷ (codes "quot;", 34) ∷ []

-- a byte as markup writes it, if these bytes have names
abbrev pub escaped_by : List (List ℕ × ℕ) → ℕ → List ℕ
escaped_by [] b = b ∷ []
escaped_by (name ∷ more) b = if b == name.1 then 38 ∷ name.0 else escaped_by more b

-- a text as markup writes it
abbrev pub escaped : List ℕ → List ℕ
escaped = flat_map (escaped_by names)

-- the bytes after this prefix of a text, if the text begins with it
abbrev pub behind : List ℕ → List ℕ → Option (List ℕ)
behind [] text = Some text
behind (b ∷ front) [] = None
behind (b ∷ front) (c ∷ text) = if c == b then behind front text else None

-- the text from a `&` on: the byte of the first of these names that follows, and the rest; or the `&` itself
abbrev pub read_by : List (List ℕ × ℕ) → List ℕ → List ℕ
read_by [] text = 38 ∷ text
read_by (name ∷ more) text = elim (behind name.0 text) [ Some rest ↦ name.1 ∷ rest | None ↦ read_by more text ]

-- the text from a byte on, if the bytes after it are read already
abbrev pub read_at : ℕ → List ℕ → List ℕ
read_at b text = if b == 38 then read_by names text else b ∷ text

-- a text of markup, read back
abbrev pub unescaped : List ℕ → List ℕ
unescaped [] = []
unescaped (b ∷ text) = read_at b (unescaped text)

-- a byte that ends neither a text nor the value of an attribute
abbrev pub is_plain : ℕ → Bool
is_plain b = not ((b == 60) || ((b == 62) || (b == 34)))
