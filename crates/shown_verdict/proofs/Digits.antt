-- The number that a text begins with.
use Rattle.std.proofs.Common.{◌≡◌, ◌<◌, ℕ, ◌+◌, ◌*◌, ◌-◌, ◌^◌, min, true, false, List, ◌∷◌, cond, drop, get_or, length, ap, sym, ◌∙◌}
use Rattle.std.proofs.lemmas.List.{drop_more}
use Rattle.std.specs.Char.{is_ascii_digit}
use Rattle.shown_verdict.specs.{number_from}

module _ (text : List ℕ) (k b n : ℕ) (within : k < length text) (is : b ≡ get_or text k b) where
  here : drop k text ≡ b ∷ drop (k + 1) text
  here = drop_more text k b within ∙ ap (λ y. y ∷ drop (k + 1) text) (sym is)

  -- one digit more
  pub digit_next : (m : ℕ) → is_ascii_digit b ≡ true → m ≡ min (min (n * 10) (2 ^ 64 - 1) + (b - 48)) (2 ^ 64 - 1) → number_from m (drop (k + 1) text) ≡ number_from n (drop k text)
  digit_next m digit more =
      ap (λ m. number_from m (drop (k + 1) text)) more
      ∙ sym (ap (number_from n) here ∙ ap (λ t. cond t (number_from (min (min (n * 10) (2 ^ 64 - 1) + (b - 48)) (2 ^ 64 - 1)) (drop (k + 1) text)) n) digit)

  -- no digit more
  pub digits_end : is_ascii_digit b ≡ false → n ≡ number_from n (drop k text)
  digits_end other = sym (ap (number_from n) here ∙ ap (λ t. cond t (number_from (min (min (n * 10) (2 ^ 64 - 1) + (b - 48)) (2 ^ 64 - 1)) (drop (k + 1) text)) n) other)
