use Rattle.std.proofs.Common.{◌≡◌, ℕ, ◌<◌, ◌≤◌, true, false, List, ◌++◌, Option, None, Some, length, nat_lt, slice_get, sym, ap, ◌∙◌, arith}
use Rattle.std.proofs.lemmas.Bool.Decides.{nat_tests}
use Rattle.std.proofs.lemmas.Option.{slice_get-get_or, slice_get_past}
use Rattle.std.specs.Fmt.{decimal}
use Rattle.std.specs.Prelude.{codes}
use Rattle.plain_store.specs.{reply_text}
use Rattle.model.specs.{Taken}
use Rattle.run_state.specs.{taken_words}
use Rattle.run_state.proofs.called.taken_words.Goals as goal

-- the words, by what is found at the place
abbrev words_of : ℕ → ℕ → Option Taken → Option (List ℕ)
words_of place at None = None
words_of place at (Some t) = Some (codes "taken " ++ (decimal place ++ (codes " " ++ (reply_text t.reply ++ (codes " at " ++ decimal at)))))

words_by : (taken : List Taken) (place at : Option ℕ) (p n : ℕ) (found : Option Taken) → place ≡ Some p → at ≡ Some n → slice_get taken p ≡ found → words_of p n found ≡ taken_words taken place at
words_by taken place at p n found is_place is_at is = sym ((λ i. taken_words taken (is_place i) (is_at i)) ∙ ap (words_of p n) is)

within : (p n : ℕ) → true ≡ nat_lt p n → p < n
within p n is = grind (arith, nat_tests)

past : (p n : ℕ) → false ≡ nat_lt p n → n ≤ p
past p n is = grind (arith, nat_tests)

pub returns-in-None : goal.returns-in-None
returns-in-None c =
    let looked = c.in-None.ensures.lookup in
    words_by c.args.history.now c.args.place c.args.at c.in-Some.place c.in-Some-at.at None c.in-Some.is c.in-Some-at.is
    (slice_get_past c.args.history.now c.in-Some.place (past c.in-Some.place (length c.args.history.now) looked.0))

pub returns-in_ok-taking_words-in-Some-get : goal.returns-in_ok-taking_words-in-Some-get
returns-in_ok-taking_words-in-Some-get c =
    let looked = c.in-Some-get.ensures.lookup in
    let t : Taken = c.in-Some-get.taken.now in
    let there = slice_get-get_or c.args.history.now c.in-Some.place t (within c.in-Some.place (length c.args.history.now) looked.0) ∙ ap Some (sym looked.1) in
    ap Some c.in_ok-taking_words-in-Some-get.ensures
    ∙ words_by c.args.history.now c.args.place c.args.at c.in-Some.place c.in-Some-at.at (Some t) c.in-Some.is c.in-Some-at.is there
