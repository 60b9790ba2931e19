-- The numbers of the lines of a scenario that is printed.
use Rattle.std.proofs.Common.{◌≡◌, ℕ, zero, suc, ◌+◌, ◌-◌, List, [], ◌∷◌, ◌++◌, drop, length, map, refl, ap, sym, ◌∙◌, arith, append_assoc, append-nil}
use Rattle.std.proofs.lemmas.List.{length-append, length-map}
use Rattle.plain_store.proofs.GoodSetups.{good-checked}
use Rattle.scenario.specs.{IsScenario, PrintedLinesAreNumbered, Script, last_of, line_words, numbers_from, open_words, printed_numbers, script_words}
use Rattle.scenario.proofs.ShortLines.{script_printable}
use Rattle.scenario.proofs.Spaced.{printed_one_by_one}

-- k numbers are k
pub many_from : (n k : ℕ) → length (numbers_from n k) ≡ k
many_from n zero = refl
many_from n (suc k) = ap suc (many_from (n + 1) k)

-- one more number, and the remaining numbers
pub count_more : (made now : List ℕ) (n remaining less : ℕ) → now ≡ made ++ n ∷ [] → remaining ≡ suc less → now ++ numbers_from (n + 1) less ≡ made ++ numbers_from n remaining
count_more made now n remaining less is one =
    ap (λ ns. ns ++ numbers_from (n + 1) less) is ∙ append_assoc made (n ∷ []) (numbers_from (n + 1) less) ∙ ap (λ k. made ++ numbers_from n k) (sym one)

-- no number remains
pub count_ended : (made : List ℕ) (n remaining : ℕ) → remaining ≡ 0 → made ++ numbers_from n remaining ≡ made
count_ended made n remaining none = ap (λ k. made ++ numbers_from n k) none ∙ append-nil made

-- without the first j
without_first : (j n k m : ℕ) → m ≡ j + k → drop j (numbers_from n m) ≡ numbers_from (n + j) k
without_first zero n k m is =
    let all : m ≡ k = omega (arith, is) in
    let same : n ≡ n + 0 = omega arith in
    ap (numbers_from n) all ∙ ap (λ i. numbers_from i k) same
without_first (suc j) n k zero is = absurd (omega (arith, is))
without_first (suc j) n k (suc m) is =
    let rest : m ≡ j + k = omega (arith, is) in
    let same : n + 1 + j ≡ n + suc j = omega arith in
    without_first j (n + 1) k m rest ∙ ap (λ i. numbers_from i k) same

-- the last k of j more
last_numbers : (n j k : ℕ) → last_of k (numbers_from n (j + k)) ≡ numbers_from (n + j) k
last_numbers n j k =
    let many : length (numbers_from n (j + k)) ≡ j + k = many_from n (j + k) in
    let before : length (numbers_from n (j + k)) - k ≡ j = omega (arith, many) in
    ap (λ m. drop m (numbers_from n (j + k))) before ∙ without_first j n k (j + k) refl

pub printed_numbered : PrintedLinesAreNumbered
printed_numbered s is =
    let pairs : length (map open_words s.setup.opening) ≡ length s.setup.opening = length-map s.setup.opening open_words in
    let lines : length (map line_words s.lines) ≡ length s.lines = length-map s.lines line_words in
    let both : length (map open_words s.setup.opening ++ map line_words s.lines) ≡ length (map open_words s.setup.opening) + length (map line_words s.lines) = length-append (map open_words s.setup.opening) (map line_words s.lines) in
    let all : length (script_words s) ≡ length s.setup.opening + 5 + length s.lines = omega (arith, pairs, lines, both) in
    let first : 1 + (length s.setup.opening + 5) ≡ length s.setup.opening + 6 = omega arith in
    ap (last_of (length s.lines)) (printed_one_by_one (script_words s) (script_printable s (good-checked s.setup is.good) is) ∙ ap (numbers_from 1) all)
    ∙ last_numbers 1 (length s.setup.opening + 5) (length s.lines)
    ∙ ap (λ m. numbers_from m (length s.lines)) first
