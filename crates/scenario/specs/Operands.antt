-- Numbers, names and values as words, or their faults.
use Rattle.std.specs.Prelude.{ℕ, ℤ, ◌&&◌, codes, if◌then◌else◌, List, [], ◌∷◌, Option, Some, None, Result, Ok, Err}
use Rattle.std.specs.Option.{ok_or}
use Rattle.std.specs.Str.{bytes_eq}
use Rattle.plain_store.specs.{Value, is_name, is_text}
use Rattle.plain_store.specs.declared.commands.Value.TheVariants.{Count, Text}
use Rattle.scenario.specs.Numbers.{number_up_to, integer_of}
use Rattle.files.specs.{FaultKind}
use Rattle.files.specs.declared.faults.FaultKind.TheVariants.{Number, BadName, BadValue}

-- a number up to `most`
abbrev pub number_at : ℕ → List ℕ → Result ℕ FaultKind
number_at most word = ok_or (number_up_to most word) Number

-- a number of 64 bits with a sign
abbrev pub integer_at : List ℕ → Result ℤ FaultKind
integer_at word = ok_or (integer_of word) Number

-- a name
abbrev pub name_at : List ℕ → Result (List ℕ) FaultKind
name_at word = if is_name word then Ok word else Err BadName

-- the count after `c:`
abbrev pub counter : Option ℤ → Result Value FaultKind
counter None = Err BadValue
counter (Some z) = Ok (Count z)

-- `c:` and a number with a sign, or `t:` and a text
abbrev pub value_at : List ℕ → Result Value FaultKind
value_at [] = Err BadValue
value_at (kind ∷ []) = Err BadValue
value_at (kind ∷ mark ∷ rest) =
    if bytes_eq (kind ∷ mark ∷ []) (codes "c:") then counter (integer_of rest)
    else if bytes_eq (kind ∷ mark ∷ []) (codes "t:") && is_text rest then Ok (Text rest)
    else Err BadValue
