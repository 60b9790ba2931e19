-- A word that is put before a position, with the bytes that precede it.
use Rattle.std.proofs.Common.{◌≡◌, ℕ, ◌+◌, ◌-◌, ◌≤◌, List, ◌++◌, length, take, drop, ap, ◌∙◌, arith}
use Rattle.std.proofs.Math.Seq.{drop-append-add}
use Rattle.std.proofs.lemmas.List.{drop-append-le, drop-drop, length-take-le}
use borrow.Rule.Slice.PartMut.{put_mid, post_of}

-- only the last bytes of the 16 that are put there count
pub word_put : (line word : List ℕ) (end count : ℕ) → 16 ≤ end → end ≤ length line → count ≤ 16 → length word ≡ 16 → drop (end - count) (put_mid (end - 16) (end - (end - 16)) line word) ≡ drop (16 - count) word ++ drop end line
word_put line word end count wide within few whole =
    let a : ℕ = end - 16 in
    let behind : List ℕ = post_of a (end - a) line in
    let front : length (take a line) ≡ a = length-take-le a line (omega (arith, within)) in
    let at : end - count ≡ length (take a line) + (16 - count) = omega (arith, front, wide, few) in
    let whole_of : a + (end - a) ≡ end = omega (arith, wide) in
    let rest : behind ≡ drop end line = drop-drop (end - a) a line ∙ ap (λ n. drop n line) whole_of in
    ap (λ n. drop n (put_mid a (end - a) line word)) at ∙ drop-append-add (take a line) (word ++ behind) (16 - count)
    ∙ drop-append-le (16 - count) word behind (omega (arith, whole)) ∙ ap (λ l. drop (16 - count) word ++ l) rest
