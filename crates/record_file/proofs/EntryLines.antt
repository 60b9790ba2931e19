-- The line of a printed entry is read as that entry.
use Rattle.std.proofs.Common.{◌≡◌, ℕ, ◌<◌, ◌^◌, ◌&&◌, nat_lt, true, false, if◌then◌else◌, List, [], ◌∷◌, ◌++◌, length, flat_map, codes, Some, Ok, refl, ap, ◌∙◌, arith}
use Rattle.std.proofs.lemmas.Bool.{and_parts}
use Rattle.std.proofs.lemmas.Bool.Decides.{nat_tests}
use Rattle.std.proofs.lemmas.Fmt.{decimal_nonempty, digits_decimal}
use Rattle.std.specs.Fmt.{decimal}
use Rattle.std.specs.List.{list_all}
use Rattle.std.specs.Str.{bytes_eq}
use Rattle.files.specs.{begins_with, known, statement_read, words_of, words_read, ◌>>=◌}
use Rattle.model.specs.{Entry}
use Rattle.scenario.specs.{are_digits, opener_of, spaced}
use Rattle.scenario.proofs.Numerals.{own}
use Rattle.scenario.proofs.Spaced.{words_of_spaced}
use Rattle.record_file.proofs.PrintedWords.{entry_is_words}
use Rattle.record_file.proofs.ReadBack.{entry_words_again}
use Rattle.record_file.specs.{IsEntry, Progress, access_words, begins_with_digit, entry_words, is_access, is_mark, kind_in, line_said, record_grammar, signed_words}
use Rattle.record_file.specs.declared.line_kinds.LineKind.TheVariants as kind

-- the first word of an entry is a number: it begins with a digit
begins_so : (ds : List ℕ) → 0 < length ds → are_digits ds ≡ true → (begins_with_digit ds ≡ true) × (begins_with 35 ds ≡ false)
begins_so [] some digits = absurd (omega (arith, some))
begins_so (d ∷ ds) some digits = (grind (arith, nat_tests), grind (arith, nat_tests))

-- The words of an entry are read as that entry.
pub entry_of_words : (e : Entry) (p : Progress) → IsEntry e → words_read record_grammar (entry_words e) (Some p) ≡ Ok (Some (record p { ended = true; entry = Some e }))
entry_of_words e p is =
    let number : nat_lt e.process 256 ≡ true = (and_parts (nat_lt e.process 256) (is_access e.access && list_all is_mark e.marks) is.sound).0 in
    let small : e.process < 2 ^ 64 = grind (arith, nat_tests) in
    let first : List ℕ = decimal e.process in
    let rest : List (List ℕ) = access_words e.access ++ flat_map signed_words e.marks in
    let begins = begins_so first (decimal_nonempty e.process small) (digits_decimal own e.process small) in
    ap (λ t. if t then Ok (Some p) else statement_read record_grammar first rest (Some p)) begins.1
    ∙ ap (λ t. (known (if t then Some kind.Entry else if bytes_eq first (codes "record") then Some kind.Record else kind_in (opener_of first)) >>= λ k. line_said k first rest p) >>= λ (p : Progress). Ok (Some p)) begins.0
    ∙ ap (λ r. (r >>= λ entry. Ok (record p { ended = true; entry = Some entry })) >>= λ (p : Progress). Ok (Some p)) (entry_words_again first rest e refl is)

-- The line of an entry is read as the entry.
pub entry_of_line : (e : Entry) (p : Progress) → IsEntry e → words_read record_grammar (words_of (spaced (entry_words e))) (Some p) ≡ Ok (Some (record p { ended = true; entry = Some e }))
entry_of_line e p is = ap (λ ws. words_read record_grammar ws (Some p)) (words_of_spaced (entry_words e) (entry_is_words e is.sound)) ∙ entry_of_words e p is
