-- Lines as `format!` puts them together.
use Rattle.std.proofs.Common.{◌≡◌, ℕ, List, ◌++◌, codes, Result, Ok, Err, IfOk, ap, ◌∙◌, append_assoc}
use Rattle.std.specs.Fmt.{decimal}
use Rattle.std.specs.Int.{from_bool}
use Rattle.std.specs.declared.alloc.AllocError.{AllocError}
use Rattle.model.specs.{field_word}
use Rattle.picture_layout.specs.{OverlappedRead, read_text, title_text}

-- if a result has a text, it has each equal text
module _ {X : Type 0} (bytes : X → List ℕ) where
  pub ok_along : (line : Result X AllocError) (text other : List ℕ) → IfOk line (λ l. bytes l ≡ text) → text ≡ other → IfOk line (λ l. bytes l ≡ other)
  ok_along (Ok l) text other is same = is ∙ same
  ok_along (Err e) text other is same = tt

pub counts_are : (taken refused : ℕ) → codes "taken " ++ (decimal taken ++ (codes " refused " ++ decimal refused)) ≡ codes "taken " ++ decimal taken ++ codes " refused " ++ decimal refused
counts_are taken refused = simp append_assoc

read_is : (reader bit : ℕ) (field : List ℕ) (owner : ℕ) →
    codes "process " ++ (decimal reader ++ (codes " read bit " ++ (decimal bit ++ (codes " of " ++ (field ++ (codes "[" ++ (decimal owner ++ codes "]")))))))
    ≡ codes "process " ++ decimal reader ++ codes " read bit " ++ decimal bit ++ codes " of " ++ field ++ codes "[" ++ decimal owner ++ codes "]"
read_is reader bit field owner = simp append_assoc

pub read_of : (read : OverlappedRead) (field : List ℕ) → field ≡ field_word read.field →
    codes "process " ++ (decimal read.reader ++ (codes " read bit " ++ (decimal read.bit ++ (codes " of " ++ (field ++ (codes "[" ++ (decimal read.owner ++ codes "]"))))))) ≡ read_text read
read_of read field is =
    read_is read.reader read.bit field read.owner
    ∙ ap (λ f. codes "process " ++ decimal read.reader ++ codes " read bit " ++ decimal read.bit ++ codes " of " ++ f ++ codes "[" ++ decimal read.owner ++ codes "]") is

title_is : (read : List ℕ) (begin end : ℕ) (value : List ℕ) →
    read ++ (codes " from event " ++ (decimal begin ++ (codes " to " ++ (decimal end ++ (codes " while it was written: " ++ value)))))
    ≡ read ++ codes " from event " ++ decimal begin ++ codes " to " ++ decimal end ++ codes " while it was written: " ++ value
title_is read begin end value = simp append_assoc

pub title_of : (read : OverlappedRead) (text : List ℕ) (value : ℕ) → text ≡ read_text read → value ≡ from_bool read.value →
    text ++ (codes " from event " ++ (decimal read.begin ++ (codes " to " ++ (decimal read.end ++ (codes " while it was written: " ++ decimal value))))) ≡ title_text read
title_of read text value is given =
    title_is text read.begin read.end (decimal value)
    ∙ (λ i. is i ++ codes " from event " ++ decimal read.begin ++ codes " to " ++ decimal read.end ++ codes " while it was written: " ++ decimal (given i))
