-- The elements that are open, read back from markup.
use Rattle.std.specs.Prelude.{◌≡◌, ℕ, Bool, true, false, ◌==◌, not, ◌&&◌, ◌||◌, if◌then◌else◌, cond, List, [], ◌∷◌, codes, Option, None, Some}
use Rattle.std.specs.List.{list_all, list_any}
use Rattle.std.specs.Str.{bytes_eq}
use Rattle.markup.specs.Titles.{inner, tags_of}

-- a kind of tag
pub data Kind : Type 0 where
  Begins : List ℕ → Kind  -- an element of this name begins
  Ends : List ℕ → Kind  -- an element of this name ends
  NoContent : Kind  -- an element without content
  Broken : Kind  -- not a tag: it has no name or no `>`

-- the elements of HTML that have no content, and those whose content is text alone
abbrev pub void_names : List (List ℕ)
void_names = codes "meta" ∷ codes "input" ∷ []

abbrev pub text_names : List (List ℕ)
text_names = codes "script" ∷ codes "style" ∷ []

-- whether a name is one of these
abbrev pub is_among : List (List ℕ) → List ℕ → Bool
is_among names name = list_any (bytes_eq name) names

-- a name: the bytes before a space or a `/`
abbrev pub name_of : List ℕ → List ℕ
name_of [] = []
name_of (b ∷ text) = if (b == 32) || (b == 47) then [] else b ∷ name_of text

-- the last byte of a text that consists of this byte and the text after it
abbrev pub last_byte : ℕ → List ℕ → ℕ
last_byte b [] = b
last_byte b (c ∷ text) = last_byte c text

-- whether a tag with these bytes has no content: `<!..>`, `<?..>`, `<../>` and those of HTML
abbrev pub has_no_content : ℕ → List ℕ → Bool
has_no_content b text = (b == 33) || ((b == 63) || ((last_byte b text == 47) || is_among void_names (name_of (b ∷ text))))

-- the kind of a tag, by its bytes up to the `>`
abbrev pub kind_by : Option (List ℕ) → Kind
kind_by None = Broken
kind_by (Some []) = Broken
kind_by (Some (b ∷ text)) = if b == 47 then Ends text else if has_no_content b text then NoContent else Begins (name_of (b ∷ text))

-- the kind of a tag
abbrev pub kind_of : List ℕ → Kind
kind_of tag = kind_by (inner tag)

-- the names of the elements that are open, the last one first; no list, if a tag did not fit
abbrev pub Stack : Type 0
Stack = Option (List (List ℕ))

-- the open elements after a tag that does not fit: unchanged inside an element of text alone, otherwise no list
abbrev pub passed : Stack → Stack
passed None = None
passed (Some []) = None
passed (Some (last ∷ others)) = cond (is_among text_names last) (Some (last ∷ others)) None

-- the open elements after an element of this name begins
abbrev pub begun : List ℕ → Stack → Stack
begun name None = None
begun name (Some []) = Some (name ∷ [])
begun name (Some (last ∷ others)) = Some (cond (is_among text_names last) (last ∷ others) (name ∷ last ∷ others))

-- the open elements after an element of this name ends, which must be the one that began last
abbrev pub ended : List ℕ → Stack → Stack
ended name None = None
ended name (Some []) = None
ended name (Some (last ∷ others)) = cond (bytes_eq name last) (Some others) (passed (Some (last ∷ others)))

-- the open elements after a tag
abbrev pub after_kind : Kind → Stack → Stack
after_kind (Begins name) stack = begun name stack
after_kind (Ends name) stack = ended name stack
after_kind NoContent stack = stack
after_kind Broken stack = passed stack

-- the open elements after tags
abbrev pub after_tags : List (List ℕ) → Stack → Stack
after_tags [] stack = stack
after_tags (tag ∷ tags) stack = after_tags tags (after_kind (kind_of tag) stack)

-- the elements that are open after markup, by those that are open before it
abbrev pub opens_in : List ℕ → Stack → Stack
opens_in markup = after_tags (tags_of markup)

-- whether each tag fitted, and no element is open
abbrev pub is_closed : Stack → Bool
is_closed None = false
is_closed (Some []) = true
is_closed (Some (last ∷ others)) = false

-- whether a tag neither begins nor ends an element of text alone
abbrev pub is_no_text : Kind → Bool
is_no_text (Begins name) = not (is_among text_names name)
is_no_text (Ends name) = not (is_among text_names name)
is_no_text NoContent = true
is_no_text Broken = false

-- whether each element that begins in markup ends in it, and each that ends in it began in it; and none is of text alone
abbrev pub is_even : List ℕ → Bool
is_even markup = is_closed (opens_in markup (Some [])) && list_all (λ tag. is_no_text (kind_of tag)) (tags_of markup)

-- Each element that begins in markup ends in it, and no element that began before it ends in it: the same elements are open before it and after it.
abbrev pub EndsAll : List ℕ → Type 0
EndsAll markup = (stack : Stack) → opens_in markup stack ≡ stack
