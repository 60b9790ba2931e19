-- The bytes that a sink took of a text.
use Rattle.std.specs.Prelude.{ℕ, List, Option, Result, IfOk, OnOk}
use Rattle.std.specs.Global.{Vec}
use Rattle.std.specs.Io.KnownBytes.{Appends}
use Rattle.std.specs.String.{string_bytes}
use Rattle.std.specs.declared.string.String.{String}
use Rattle.scenario.specs.files.{WritesFront}

module _ {W : Type 0} (taken : W → Option (List ℕ)) where
  -- the whole text, if the call succeeds
  abbrev pub Wrote : {A E : Type 0} → Result A E → W → W → List ℕ → Type 0
  Wrote result old new text = OnOk result (Appends (taken old) (taken new) text)

  -- a prefix of the text
  abbrev pub WroteFront : W → W → List ℕ → Type 0
  WroteFront old new text = WritesFront (taken old) (taken new) text

  -- these facts about a line, and about bytes, unless an allocation failed for them
  abbrev pub WroteLine : {A E Z F : Type 0} → Result A E → W → W → Result (String Z) F → Type 0
  WroteLine result old new line = OnOk result (IfOk line (λ text. Appends (taken old) (taken new) (string_bytes text)))

  abbrev pub WroteLineFront : {Z F : Type 0} → W → W → Result (String Z) F → Type 0
  WroteLineFront old new line = IfOk line (λ text. WritesFront (taken old) (taken new) (string_bytes text))

  abbrev pub WroteBytes : {A E F : Type 0} → Result A E → W → W → Result (Vec ℕ) F → Type 0
  WroteBytes result old new bytes = OnOk result (IfOk bytes (λ (made : Vec ℕ). Appends (taken old) (taken new) made.items))

  abbrev pub WroteBytesFront : {F : Type 0} → W → W → Result (Vec ℕ) F → Type 0
  WroteBytesFront old new bytes = IfOk bytes (λ (made : Vec ℕ). WritesFront (taken old) (taken new) made.items)
