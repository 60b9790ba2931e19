-- Flicks and picks: one generator of words and one mode, and what each call makes of them.
use Rattle.std.specs.Prelude.{ℕ, zero, suc, ◌%◌, ◌==◌, Bool, true, false}
use Rattle.rand_core.specs.Pcg32Seed.{pcg32_seed}
use Rattle.rand_pcg.specs.Lcg.{Lcg}
use Rattle.rand_pcg.specs.Pcg.{pcg32, pcg32_of_seed}
use Rattle.choices.specs.declared.Flick.{Flick}
use Rattle.choices.specs.declared.Flick.TheVariants.{Zero, One, Pcg}
use Rattle.choices.specs.declared.Mode.{Mode}
use Rattle.choices.specs.declared.Mode.TheVariants.{Constant, Generator}

-- the source of flicks and picks
pub record FlickState : Type 0 where
  -- a constant bit, or the generator
  pub mode : Mode
  -- the generator of the words
  pub generator : Lcg

-- the generator of a seed
abbrev pub generator_of : ℕ → Lcg
generator_of seed = pcg32_of_seed (pcg32_seed 16 seed)

-- the generator's next word
abbrev pub word_of : Lcg → ℕ
word_of generator = (pcg32 generator).0

-- the generator after its next word was taken
abbrev pub after_word : Lcg → Lcg
after_word generator = (pcg32 generator).1

-- flicks that are all this bit, with the generator of seed 0
abbrev pub constant_flicks : Bool → FlickState
constant_flicks bit = record { mode = Constant bit; generator = generator_of 0 }

-- flicks from the generator of a seed
abbrev pub pcg_flicks : ℕ → FlickState
pcg_flicks seed = record { mode = Generator; generator = generator_of seed }

-- a constant leaves the generator, and a seed makes it anew
abbrev pub after_set : Flick → FlickState → FlickState
after_set Zero flicks = record flicks { mode = Constant false }
after_set One flicks = record flicks { mode = Constant true }
after_set (Pcg seed) flicks = pcg_flicks seed

-- the flick that a mode and a generator give: the constant bit, or the lowest bit of the next word
abbrev pub flick_by : Mode → Lcg → Bool
flick_by (Constant bit) generator = bit
flick_by Generator generator = word_of generator % 2 == 1

-- the generator after a flick by a mode: only a flick by the generator takes a word
abbrev pub after_flick_by : Mode → Lcg → Lcg
after_flick_by (Constant bit) generator = generator
after_flick_by Generator generator = after_word generator

-- a mode by which no flick takes a word
abbrev pub is_constant_by : Mode → Bool
is_constant_by (Constant bit) = true
is_constant_by Generator = false

-- flicks that are all the same bit, and take no word
abbrev pub is_constant : FlickState → Bool
is_constant flicks = is_constant_by flicks.mode

-- the next flick
abbrev pub flick_of : FlickState → Bool
flick_of flicks = flick_by flicks.mode flicks.generator

-- the state after a flick: the mode stays
abbrev pub after_flick : FlickState → FlickState
after_flick flicks = record flicks { generator = after_flick_by flicks.mode flicks.generator }

-- the state after this number of flicks
abbrev pub flicks_after : ℕ → FlickState → FlickState
flicks_after zero flicks = flicks
flicks_after (suc n) flicks = after_flick (flicks_after n flicks)

-- the index that is picked among k: the next word modulo k, whatever the mode
abbrev pub pick_of : ℕ → FlickState → ℕ
pick_of k flicks = word_of flicks.generator % k

-- the state after a pick: one word is taken, and the mode stays
abbrev pub after_pick : FlickState → FlickState
after_pick flicks = record flicks { generator = after_word flicks.generator }

-- the state after this number of picks
abbrev pub picks_after : ℕ → FlickState → FlickState
picks_after zero flicks = flicks
picks_after (suc n) flicks = after_pick (picks_after n flicks)
