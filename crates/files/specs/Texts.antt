-- Texts that calls give, and those that they make longer.
use Rattle.std.specs.Prelude.{◌≡◌, ℕ, List, ◌++◌, Result, IfOk}
use Rattle.std.specs.String.{string_bytes}
use Rattle.std.specs.declared.string.String.{String}

-- a call returns this text, unless memory runs out
abbrev pub GivesText : {Z E : Type 0} → Result (String Z) E → List ℕ → Type 0
GivesText result bytes = IfOk result (λ text. string_bytes text ≡ bytes)

-- the text is longer by these bytes
abbrev pub AddsText : {Z : Type 0} → String Z → String Z → List ℕ → Type 0
AddsText old new bytes = string_bytes new ≡ string_bytes old ++ bytes
