-- The lines of the grammar are those that `bstr` gives.
use Rattle.std.proofs.Common.{◌≡◌, ℕ, zero, suc, ◌-◌, ◌≤◌, ◌==◌, ◌&&◌, Bool, true, false, cond, nat_lt, List, [], ◌∷◌, length, map, take, drop, slice_index, if◌then◌else◌, refl, ap, sym, subst, ◌∙◌, arith}
use Rattle.std.proofs.lemmas.Bool.Decides.{nat_tests}
use Rattle.std.proofs.lemmas.List.{length-drop}
use Rattle.bstr.specs.Text.{lines_of, lines_from, line_len, without_terminator, no_cr}
use Rattle.files.specs.{lines, onto}

-- the bytes up to index k, if they are ended by a 0x0D
abbrev cut_return : Bool → ℕ → List ℕ → List ℕ
cut_return some k xs = cond (some && slice_index xs k == 13) (take k xs) xs

-- a byte before at least one other
return_kept : (b c : ℕ) (ys : List ℕ) → no_cr (b ∷ c ∷ ys) ≡ b ∷ no_cr (c ∷ ys)
return_kept b c ys =
    let some : nat_lt 0 (length (b ∷ c ∷ ys)) ≡ true = grind (arith, nat_tests) in
    let last : length (b ∷ c ∷ ys) - 1 ≡ suc (length ys) = omega arith in
    let some_of : nat_lt 0 (length (c ∷ ys)) ≡ true = grind (arith, nat_tests) in
    let last_of : length (c ∷ ys) - 1 ≡ length ys = omega arith in
    ap (λ s. cut_return s (length (b ∷ c ∷ ys) - 1) (b ∷ c ∷ ys)) some
    ∙ ap (λ k. cut_return true k (b ∷ c ∷ ys)) last
    ∙ by (slice_index (c ∷ ys) (length ys) == 13)
    ∙ sym (ap (λ s. b ∷ cut_return s (length (c ∷ ys) - 1) (c ∷ ys)) some_of ∙ ap (λ k. b ∷ cut_return true k (c ∷ ys)) last_of)
  where
    by : (t : Bool) → cond t (b ∷ take (length ys) (c ∷ ys)) (b ∷ c ∷ ys) ≡ b ∷ cond t (take (length ys) (c ∷ ys)) (c ∷ ys)
    by true = refl
    by false = refl

-- the bytes without their end, if byte k is 0x0A
abbrev cut_end : Bool → ℕ → List ℕ → List ℕ
cut_end some k xs = cond (some && slice_index xs k == 10) (no_cr (take k xs)) xs

-- a byte at the start of a line stays, unless it is the 0x0D of the line's end
byte_kept : (b c : ℕ) (ys : List ℕ) → (b == 13) && (c == 10) ≡ false → without_terminator (b ∷ c ∷ ys) ≡ b ∷ without_terminator (c ∷ ys)
byte_kept b c ys other =
    let some : nat_lt 0 (length (b ∷ c ∷ ys)) ≡ true = grind (arith, nat_tests) in
    let last : length (b ∷ c ∷ ys) - 1 ≡ suc (length ys) = omega arith in
    let some_of : nat_lt 0 (length (c ∷ ys)) ≡ true = grind (arith, nat_tests) in
    let last_of : length (c ∷ ys) - 1 ≡ length ys = omega arith in
    ap (λ s. cut_end s (length (b ∷ c ∷ ys) - 1) (b ∷ c ∷ ys)) some
    ∙ ap (λ k. cut_end true k (b ∷ c ∷ ys)) last
    ∙ by ys (slice_index (c ∷ ys) (length ys) == 10) refl
    ∙ sym (ap (λ s. b ∷ cut_end s (length (c ∷ ys) - 1) (c ∷ ys)) some_of ∙ ap (λ k. b ∷ cut_end true k (c ∷ ys)) last_of)
  where
    alone : (t u : Bool) → t && u ≡ false → cond u (cond t [] (b ∷ [])) (b ∷ c ∷ []) ≡ b ∷ cond u [] (c ∷ [])
    alone false true none = refl
    alone false false none = refl
    alone true false none = refl
    alone true true none = absurd (cc)

    by : (ys : List ℕ) (t : Bool) → (slice_index (c ∷ ys) (length ys) == 10) ≡ t → cond t (no_cr (b ∷ take (length ys) (c ∷ ys))) (b ∷ c ∷ ys) ≡ b ∷ cond t (no_cr (take (length ys) (c ∷ ys))) (c ∷ ys)
    by [] t is = ap (λ u. cond u (no_cr (b ∷ [])) (b ∷ c ∷ [])) (sym is) ∙ alone (b == 13) (c == 10) other ∙ ap (λ u. b ∷ cond u [] (c ∷ [])) is
    by (d ∷ zs) true is = return_kept b c (take (length zs) (d ∷ zs))
    by (d ∷ zs) false is = refl

-- the number of bytes of a line after its first byte
abbrev more : ℕ → List ℕ → ℕ
more b bs = cond (b == 10) 0 (line_len bs)

pub line_len_is : (b : ℕ) (bs : List ℕ) → line_len (b ∷ bs) ≡ suc (more b bs)
unfolding line_len
line_len_is b bs = by (b == 10)
  where
    by : (t : Bool) → cond t 1 (suc (line_len bs)) ≡ suc (cond t 0 (line_len bs))
    by true = refl
    by false = refl

-- a line's end alone is an empty line
end_is_empty : (b : ℕ) → (b == 10) ≡ true → without_terminator (b ∷ []) ≡ []
end_is_empty b is = ap (λ t. cond t [] (b ∷ [])) is

other_byte : (b : ℕ) → (b == 10) ≡ false → without_terminator (b ∷ []) ≡ b ∷ []
other_byte b is = ap (λ t. cond t [] (b ∷ [])) is

-- the lines of `b ∷ bs`, by two tests of b and bs, and by the number of bytes of the first line after b
FirstLine : ℕ → List ℕ → Bool → Bool → ℕ → Type 0
FirstLine b bs feeds returns n = (if feeds then [] ∷ lines bs else if returns then lines bs else onto b (lines bs)) ≡ without_terminator (b ∷ take n bs) ∷ lines (drop n bs)

-- b is not 0x0A, and there are bytes after it
longer : (b c : ℕ) (cs : List ℕ) (t : Bool) → ((b == 13) && (c == 10)) ≡ t → lines (c ∷ cs) ≡ without_terminator (c ∷ take (more c cs) cs) ∷ lines (drop (more c cs) cs) → FirstLine b (c ∷ cs) false t (suc (more c cs))
unfolding FirstLine
longer b c cs true ends others =
    let returns : (b == 13) ≡ true = grind (arith, nat_tests) in
    let feeds : (c == 10) ≡ true = grind (arith, nat_tests) in
    let none : more c cs ≡ 0 = ap (λ u. cond u 0 (line_len cs)) feeds in
    others
    ∙ ap (λ n. without_terminator (c ∷ take n cs) ∷ lines (drop n cs)) none
    ∙ ap (λ line. line ∷ lines cs) (end_is_empty c feeds ∙ sym (ap (λ u. cond u (cond (b == 13) [] (b ∷ [])) (b ∷ c ∷ [])) feeds ∙ ap (λ u. cond u [] (b ∷ [])) returns))
    ∙ sym (ap (λ n. without_terminator (b ∷ c ∷ take n cs) ∷ lines (drop n cs)) none)
longer b c cs false ends others =
    ap (onto b) others
    ∙ ap (λ line. line ∷ lines (drop (more c cs) cs)) (sym (byte_kept b c (take (more c cs) cs) ends))

-- b is a 0x0A or not
by_feed : (b : ℕ) (bs : List ℕ) (s t : Bool) (n : ℕ) → (b == 10) ≡ s → FirstLine b bs false t n → FirstLine b bs s t (cond s 0 n)
unfolding FirstLine
by_feed b bs true t n is other = ap (λ line. line ∷ lines bs) (sym (end_is_empty b is))
by_feed b bs false t n is other = other

-- the last byte of a text
last_byte : (b : ℕ) → (b == 10) ≡ false → FirstLine b [] false ((b == 13) && false) 0
unfolding FirstLine
last_byte b is = by (b == 13) ∙ ap (λ line. line ∷ []) (sym (other_byte b is))
  where
    by : (t : Bool) → (if t && false then [] else (b ∷ []) ∷ []) ≡ (b ∷ []) ∷ []
    by true = refl
    by false = refl

-- the first line, and the others
first_line : (b : ℕ) (bs : List ℕ) → lines (b ∷ bs) ≡ without_terminator (b ∷ take (more b bs) bs) ∷ lines (drop (more b bs) bs)
unfolding FirstLine line_len
first_line b [] = by (b == 10) refl
  where
    by : (s : Bool) → (b == 10) ≡ s → FirstLine b [] s ((b == 13) && false) (cond s 0 (line_len []))
    by true is = ap (λ line. line ∷ []) (sym (end_is_empty b is))
    by false is = last_byte b is
first_line b (c ∷ cs) = by (b == 10) refl (first_line c cs)
  where
    by : (s : Bool) → (b == 10) ≡ s → lines (c ∷ cs) ≡ without_terminator (c ∷ take (more c cs) cs) ∷ lines (drop (more c cs) cs) → FirstLine b (c ∷ cs) s ((b == 13) && (c == 10)) (cond s 0 (line_len (c ∷ cs)))
    by s is others = by_feed b (c ∷ cs) s ((b == 13) && (c == 10)) (line_len (c ∷ cs)) is (subst (FirstLine b (c ∷ cs) false ((b == 13) && (c == 10))) (sym (line_len_is c cs)) (longer b c cs ((b == 13) && (c == 10)) refl others))

-- with fuel for each byte, all lines are the same
same_lines : (n : ℕ) (bs : List ℕ) → length bs ≤ n → map without_terminator (lines_from n bs) ≡ lines bs
unfolding lines_from
same_lines zero [] few = refl
same_lines zero (b ∷ bs) few = absurd (omega arith)
same_lines (suc n) [] few = refl
same_lines (suc n) (b ∷ bs) few =
    ap (λ k. without_terminator (take k (b ∷ bs)) ∷ map without_terminator (lines_from n (drop k (b ∷ bs)))) (line_len_is b bs)
    ∙ ap (λ rest. without_terminator (b ∷ take (more b bs) bs) ∷ rest) (same_lines n (drop (more b bs) bs) (omega (arith, length-drop (more b bs) bs)))
    ∙ sym (first_line b bs)

-- the lines of a text
pub lines_agree : (text : List ℕ) → map without_terminator (lines_of text) ≡ lines text
lines_agree text = same_lines (length text) text (omega arith)
