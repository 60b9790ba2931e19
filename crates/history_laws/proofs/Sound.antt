-- Sound stores, which have an image, and sound processes, which were given their calls.
use Rattle.std.specs.Prelude.{◌≡◌, ◌^◌, ◌<◌, true, length}
use Rattle.plain_store.specs.{Contents, Setup, callers_of, is_command}
use Rattle.model.specs.store_image.{IsStore}
use Rattle.laws.specs.{Doing, Runs, Closes}

-- a store of this setup that has an image
pub record IsStoreOf (s : Setup) (st : Contents) : Type 0 where
  pub store : IsStore st
  pub slots : st.slots ≡ s.slots
  pub callers : length st.numbers ≡ callers_of s

-- the process's call is a command, and its number has 16 bits
abbrev pub IsGivenTo : Doing → Type 0
IsGivenTo (Runs command number at) = (is_command command ≡ true) × (number < 2 ^ 16)
IsGivenTo (Closes command number at) = (is_command command ≡ true) × (number < 2 ^ 16)
IsGivenTo _ = Unit {0}
