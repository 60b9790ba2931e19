-- Flicks and picks that are passed over.
use Rattle.std.proofs.Common.{◌≡◌, ℕ, zero, suc, Bool, refl, sym, ◌∙◌, ap}
use Rattle.rand_pcg.specs.Lcg.{next_state, state_after}
use Rattle.rand_pcg.specs.Pcg.{multiplier_64}
use Rattle.choices.specs.{FlickState, Mode, after_flick, after_pick, flicks_after, picks_after}
use Rattle.choices.specs.declared.Mode.TheVariants.{Constant, Generator}

abbrev pub state : Mode → ℕ → ℕ → FlickState
state mode s increment = record { mode = mode; generator = record { state = s; increment = increment } }

-- a constant takes no word
pub constant : (n : ℕ) (bit : Bool) (s increment : ℕ) → flicks_after n (state (Constant bit) s increment) ≡ state (Constant bit) s increment
constant zero bit s increment = refl
constant (suc n) bit s increment = ap after_flick (constant n bit s increment)

last_step : (n increment s : ℕ) → state_after 64 multiplier_64 increment (suc n) s ≡ next_state 64 multiplier_64 increment (state_after 64 multiplier_64 increment n s)
unfolding state_after
last_step zero increment s = refl
last_step (suc n) increment s = last_step n increment (next_state 64 multiplier_64 increment s)

none : (increment s : ℕ) → state_after 64 multiplier_64 increment zero s ≡ s
unfolding state_after
none increment s = refl

-- each flick of the generator takes one word
pub generated : (n s increment : ℕ) → flicks_after n (state Generator s increment) ≡ state Generator (state_after 64 multiplier_64 increment n s) increment
generated zero s increment = ap (λ x. state Generator x increment) (sym (none increment s))
generated (suc n) s increment = ap after_flick (generated n s increment) ∙ ap (λ x. state Generator x increment) (sym (last_step n increment s))

-- each pick takes one word, in each mode
pub picked : (n : ℕ) (mode : Mode) (s increment : ℕ) → picks_after n (state mode s increment) ≡ state mode (state_after 64 multiplier_64 increment n s) increment
picked zero mode s increment = ap (λ x. state mode x increment) (sym (none increment s))
picked (suc n) mode s increment = ap after_pick (picked n mode s increment) ∙ ap (λ x. state mode x increment) (sym (last_step n increment s))
