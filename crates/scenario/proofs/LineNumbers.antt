-- The numbers of a scenario's lines in its file.
use Rattle.std.proofs.Common.{◌≡◌, ℕ, suc, ◌+◌, ◌-◌, ◌≤◌, Bool, true, false, cond, if◌then◌else◌, List, [], ◌∷◌, ◌++◌, drop, length, map, filter, get_or, Ok, refl, ap, sym, ◌∙◌, arith, append_assoc}
use Rattle.std.proofs.Math.Seq.{drop-append_seam, get_or-append_seam}
use Rattle.std.proofs.lemmas.List.{drop-map, length-append, length-map}
use Rattle.files.specs.{file_of, is_said, lines, said_numbers, said_words, words_of, ◌>>=◌}
use Rattle.files.proofs.Numbers.{numbers_many}
use Rattle.scenario.specs.{Line, LinesHaveTheirNumbers, Progress, Says, Script, heading_words, line_words, open_words, scenario_grammar, scenario_of, script_of, version_words, words_at}
use Rattle.scenario.proofs.TextSaid.{script_said}

-- A script's lines come after the first line, the headings and the opening pairs.
pub record SaidAfter (file : List ℕ) (said : Script) : Type 0 where
  pub front : List (List (List ℕ))
  pub is : said_words file ≡ front ++ map line_words said.lines

pub said_after : (file : List ℕ) (said : Script) → scenario_of file ≡ Ok said → SaidAfter file said
said_after file said good =
    let says : Says file said = script_said file said good in
    let hs : List (List (List ℕ)) = map heading_words says.headings in
    let os : List (List (List ℕ)) = map open_words said.setup.opening in
    record {
      front = version_words said.setup.version ∷ (hs ++ os);
      is = says.words ∙ ap (λ ws. version_words said.setup.version ∷ ws) (sym (append_assoc hs os (map line_words said.lines)));
    }

-- a file has at least as many lines that are not skipped
pub within_said : (file : List ℕ) (said : Script) → scenario_of file ≡ Ok said → length said.lines ≤ length (said_numbers 1 (lines file))
within_said file said good =
    let a = said_after file said good in
    let many : length (said_numbers 1 (lines file)) ≡ length (said_words file) = numbers_many 1 (lines file) in
    let long : length (said_words file) ≡ length a.front + length said.lines = ap (λ (ws : List (List (List ℕ))). length ws) a.is ∙ length-append a.front (map line_words said.lines) ∙ ap (λ k. length a.front + k) (length-map said.lines line_words) in
    omega (arith, many, long)

-- the lines of a file that was read have no more than its numbers, if these were added to an empty list
pub within_read : (file : List ℕ) (p : Progress) (before numbers : List ℕ) → file_of scenario_grammar file ≡ Ok p → before ≡ [] → numbers ≡ before ++ said_numbers 1 (lines file) → length p.lines ≤ length numbers
within_read file p before numbers read none are =
    let few : length p.lines ≤ length (said_numbers 1 (lines file)) = within_said file (script_of p) (ap (λ r. r >>= λ p. Ok (script_of p)) read) in
    let same : length numbers ≡ length (said_numbers 1 (lines file)) = ap (λ (ns : List ℕ). length ns) (are ∙ ap (λ ns. ns ++ said_numbers 1 (lines file)) none) in
    omega (arith, few, same)

-- the words of a line, counted from 1
abbrev words_in : List (List ℕ) → ℕ → List (List ℕ)
words_in ls n = words_of (get_or ls (n - 1) [])

-- the numbers of lines that are not skipped have their words
numbers_said : (front ls : List (List ℕ)) (n : ℕ) → n ≡ suc (length front) → map (words_in (front ++ ls)) (said_numbers n ls) ≡ filter is_said (map words_of ls)
numbers_said front [] n is = refl
numbers_said front (line ∷ rest) n is =
    let long : length (front ++ line ∷ []) ≡ length front + 1 = length-append front (line ∷ []) in
    let all : (front ++ line ∷ []) ++ rest ≡ front ++ line ∷ rest = append_assoc front (line ∷ []) rest in
    let others : map (words_in (front ++ line ∷ rest)) (said_numbers (n + 1) rest) ≡ filter is_said (map words_of rest) =
    ap (λ ls. map (words_in ls) (said_numbers (n + 1) rest)) (sym all) ∙ numbers_said (front ++ line ∷ []) rest (n + 1) (omega (arith, long, is)) in
    let place : n - 1 ≡ length front = omega (arith, is) in
    let here : words_in (front ++ line ∷ rest) n ≡ words_of line = ap (λ k. words_of (get_or (front ++ line ∷ rest) k [])) place ∙ ap words_of (get_or-append_seam front line rest []) in
    by (is_said (words_of line)) here others
  where
    by : (b : Bool) → words_in (front ++ line ∷ rest) n ≡ words_of line → map (words_in (front ++ line ∷ rest)) (said_numbers (n + 1) rest) ≡ filter is_said (map words_of rest) →
        map (words_in (front ++ line ∷ rest)) (if b then n ∷ said_numbers (n + 1) rest else said_numbers (n + 1) rest) ≡ cond b (words_of line ∷ filter is_said (map words_of rest)) (filter is_said (map words_of rest))
    by true here same = λ i. here i ∷ same i
    by false here same = same

-- A script's lines are the last of these.
pub lines_numbered : LinesHaveTheirNumbers
lines_numbered file said good =
    let a = said_after file said good in
    let mine : List (List (List ℕ)) = map line_words said.lines in
    let numbers : List ℕ = said_numbers 1 (lines file) in
    let many : length numbers ≡ length (said_words file) = numbers_many 1 (lines file) in
    let long : length (said_words file) ≡ length a.front + length said.lines = ap (λ (ws : List (List (List ℕ))). length ws) a.is ∙ length-append a.front mine ∙ ap (λ k. length a.front + k) (length-map said.lines line_words) in
    let at : length numbers - length said.lines ≡ length a.front = omega (arith, many, long) in
    sym (drop-map (words_at file) (length numbers - length said.lines) numbers)
    ∙ ap (λ (ws : List (List (List ℕ))). drop (length numbers - length said.lines) ws) (numbers_said [] (lines file) 1 refl ∙ a.is)
    ∙ ap (λ k. drop k (a.front ++ mine)) at
    ∙ drop-append_seam a.front mine
