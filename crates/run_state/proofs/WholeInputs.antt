-- An engine whose text depends on the bytes of its input, and not on their meaning alone.
use Rattle.std.proofs.Common.{◌≡◌, ℕ, List, [], Option, None, Some, Result, Ok, Err, IfSome, IsErrAnd, refl, ap, sym, subst, ◌∙◌}
use Rattle.std.proofs.KnownBytes.{Consumes-all}
use Rattle.std.specs.Io.KnownBytes.{Appends}
use Rattle.calls.specs.scenario.files.Engines.{Ran, Streams, text_by, text_or_none}
use Rattle.calls.specs.scenario.files.{Fault, LineFault, ReadsInput, UnlessMemory, WritesFront, ◌>>=◌}
use Rattle.calls.specs.scenario.files.declared.faults.Fault.TheVariants as fault
use Rattle.calls.specs.scenario.{Script, scenario_of}
use Rattle.calls.proofs.scenario_proofs.CutTexts.{scenario_ended, scenario_reported}
use Rattle.calls.proofs.scenario_run_proofs.Written.{front_none as none_is_front}

-- a fact on a result is one on an equal result
same_if : (f g : List ℕ → Result (List ℕ) LineFault) (P : Result (List ℕ) LineFault → Type 0) (o : Option (List ℕ)) → IfSome o (λ input. f input ≡ g input) → IfSome o (λ input. P (f input)) → IfSome o (λ input. P (g input))
same_if f g P None same fact = tt
same_if f g P (Some input) same fact = subst P same fact

-- an engine that ran by one text ran by another that is the same at its input
pub ran_same : (f g : List ℕ → Result (List ℕ) LineFault) (result : Result (Unit {0}) Fault) (old new : Streams) → IfSome old.to_come (λ input. f input ≡ g input) → Ran f result old new → Ran g result old new
ran_same f g (Ok done) old new same ran = (same_if f g (λ r. (text : List ℕ) × (r ≡ Ok text) × Appends old.taken new.taken text) old.to_come same ran.0, ran.1)
ran_same f g (Err (fault.Line at)) old new same ran = (same_if f g (λ r. UnlessMemory at.kind (r ≡ Err at)) old.to_come same ran.0, ran.1)
ran_same f g (Err fault.Read) old new same ran = ran
ran_same f g (Err fault.Write) old new same ran = (ran.0, same_if f g (λ r. (text : List ℕ) × (r ≡ Ok text) × WritesFront old.taken new.taken text) old.to_come same ran.1)
ran_same f g (Err fault.Memory) old new same ran = same_if f g (λ r. WritesFront old.taken new.taken (text_or_none r)) old.to_come same ran

module _ (printed : List ℕ → Script → List ℕ) where
  -- the text by the bytes of a file
  abbrev pub text_of : List ℕ → Result (List ℕ) LineFault
  text_of input = text_by scenario_of (printed input) input

  -- all bytes of a good scenario file are read
  bytes_are : (bytes input : List ℕ) (rest : Option (List ℕ)) (said : Script) → ReadsInput (Some input) rest bytes → scenario_of input ≡ Ok said → bytes ≡ input
  bytes_are bytes input rest said read good = Consumes-all (Some input) rest bytes [] bytes read.front (scenario_ended input bytes rest said read (scenario_reported input bytes rest read ∙ good)) refl

  same_text : (bytes input : List ℕ) (rest : Option (List ℕ)) → ReadsInput (Some input) rest bytes → text_by scenario_of (printed bytes) input ≡ text_of input
  same_text bytes input rest read = by (scenario_of input) refl
    where
      by : (r : Result Script LineFault) → scenario_of input ≡ r → (r >>= λ said. Ok (printed bytes said)) ≡ (r >>= λ said. Ok (printed input said))
      by (Ok said) good = ap (λ bytes. Ok (printed bytes said)) (bytes_are bytes input rest said read good)
      by (Err f) bad = refl

  -- where the text is that of the bytes that were read, it is that of the whole input
  pub ran_whole : (result : Result (Unit {0}) Fault) (bytes : List ℕ) (old new : Streams) → ReadsInput old.to_come new.to_come bytes → Ran (text_by scenario_of (printed bytes)) result old new → Ran text_of result old new
  ran_whole result bytes old new read ran = ran_same (text_by scenario_of (printed bytes)) text_of result old new (by old.to_come read) ran
    where
      by : (o : Option (List ℕ)) → ReadsInput o new.to_come bytes → IfSome o (λ input. text_by scenario_of (printed bytes) input ≡ text_of input)
      by None read = tt
      by (Some input) read = same_text bytes input new.to_come read

-- an engine that finds no memory has written nothing
pub memory_ran : (result : Result (Unit {0}) Fault) (text : List ℕ → Result (List ℕ) LineFault) (old new : Streams) → IsErrAnd result (λ reported. reported ≡ fault.Memory) → new.taken ≡ old.taken → Ran text result old new
memory_ran (Ok done) text old new is same = absurd is
memory_ran (Err e) text old new is same = subst (λ e. Ran text (Err e) old new) (sym is) (by old.to_come)
  where
    by : (o : Option (List ℕ)) → IfSome o (λ input. WritesFront old.taken new.taken (text_or_none (text input)))
    by None = tt
    by (Some input) = none_is_front old.taken new.taken (text_or_none (text input)) same
