-- Accesses: the words of an entry that begins one, ends one, or is one.
use Rattle.std.specs.Prelude.{ℕ, ◌+◌, max, Bool, ◌&&◌, cond, nat_le, nat_lt, List, [], ◌∷◌, ◌++◌, codes, get_or, false, ◌||◌, Option, None, Some}
use Rattle.std.specs.Fmt.{decimal}
use Rattle.picture_layout.specs.declared.accesses.AccessStep.{AccessStep}
use Rattle.picture_layout.specs.declared.accesses.AccessStep.TheVariants as step
use Rattle.picture_layout.specs.declared.accesses.ShownAccess.{ShownAccess}

-- whether a byte of a text continues a character
abbrev pub is_inner : ℕ → Bool
is_inner byte = nat_le 128 byte && nat_lt byte 192

-- the number of characters of a text
abbrev pub characters_of : List ℕ → ℕ
characters_of [] = 0
characters_of (byte ∷ text) = cond (is_inner byte) (characters_of text) (characters_of text + 1)

-- the number of characters of the longest row of an access: its words or its cell, and only its words if it ends
abbrev pub characters_by : AccessStep → List ℕ → List ℕ → ℕ
characters_by step.End words cell = characters_of words
characters_by _ words cell = max (characters_of words) (characters_of cell)

abbrev pub access_characters : Option ShownAccess → ℕ
access_characters None = 0
access_characters (Some access) = characters_by access.step access.words.items access.cell.items

-- the start of the title of an access: its entry and its process
abbrev pub title_front : ShownAccess → List ℕ
title_front access = decimal access.event ++ codes " " ++ decimal access.process ++ codes " "

-- the entry that began an access which ends here
abbrev pub since_text : AccessStep → ℕ → List ℕ
since_text step.End begin = codes " from " ++ decimal begin
since_text _ begin = []

-- words after a space, if there are any
abbrev pub spaced : List ℕ → List ℕ
spaced [] = []
spaced (byte ∷ words) = codes " " ++ byte ∷ words

-- the title of an access: its entry, process and cell, the entry that began it if it ends here, and its words
abbrev pub access_title : ShownAccess → List ℕ
access_title access =
    title_front access ++ access.cell.items ++ since_text access.step access.begin
    ++ spaced access.words.items

-- whether an access overlaps the open access of this process
abbrev pub is_over : ShownAccess → ℕ → Bool
is_over access p = get_or access.overlaps p false

-- whether one of these values is true
abbrev pub is_any : List Bool → Bool
is_any [] = false
is_any (holds ∷ more) = holds || is_any more
