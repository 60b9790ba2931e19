-- The end of an engine that reads its input, by any grammar that finds the fault of a long input, and then writes.
use Rattle.std.proofs.Common.{◌≡◌, ℕ, ◌<◌, ◌≤◌, Bool, true, false, nat_lt, List, Option, Some, None, length, Result, Ok, Err, IfSome, IsErrAnd, OnOk, OnErr, subst, ◌+◌, refl, ap, sym, ◌∙◌, arith}
use Rattle.std.proofs.lemmas.Bool.Decides.{nat_tests}
use Rattle.std.specs.Io.KnownBytes.{Appends, IsAtEnd, Keeps}
use Rattle.files.proofs.CutTexts.{input_reports}
use Rattle.files.specs.{Fault, FaultKind, LineFault, ReadsInput, ReportsAtLimit, UnlessMemory, WritesFront, failed_writing, input_limit, ◌>>=◌}
use Rattle.files.specs.declared.faults.Fault.TheVariants.{Line, Write}
use Rattle.files.specs.declared.faults.FaultKind.TheVariants.{NotFirst, Unknown, Words, Number, BadName, BadValue, BadSetup, TooLong, Memory}
use Rattle.files.specs.Engines.{Streams, Ran, text_by}

-- a consequence of a fact that holds unless memory ran out
unless-then : (kind : FaultKind) {P Q : Type 0} → (P → Q) → UnlessMemory kind P → UnlessMemory kind Q
unless-then NotFirst then p = then p
unless-then Unknown then p = then p
unless-then Words then p = then p
unless-then Number then p = then p
unless-then BadName then p = then p
unless-then BadValue then p = then p
unless-then BadSetup then p = then p
unless-then TooLong then p = then p
unless-then Memory then p = p

-- bytes are kept if no byte was written
pub kept : (taken : Option (List ℕ)) → Keeps taken taken
kept None = tt
kept (Some bytes) = refl

module _ {S : Type 0} (reading : List ℕ → Result S LineFault) (printed : S → List ℕ) (reports : (text : List ℕ) → input_limit ≤ length text → ReportsAtLimit reading text) where
  -- the fault of the bytes that were read is the fault of the whole input
  pub line_reported : (old new : Option (List ℕ)) (bytes : List ℕ) (fault : LineFault) → ReadsInput old new bytes → UnlessMemory fault.kind (reading bytes ≡ Err fault) → IfSome old (λ input. UnlessMemory fault.kind (text_by reading printed input ≡ Err fault))
  line_reported None new bytes fault read reported = tt
  line_reported (Some input) new bytes fault read reported =
      let same : reading bytes ≡ reading input = input_reports reading input bytes new reports read in
      unless-then fault.kind (λ is. ap (λ r. r >>= λ said. Ok (printed said)) (sym same ∙ is)) reported

  -- an input without a fault is shorter than the limit
  in_time : (bytes : List ℕ) (said : S) → reading bytes ≡ Ok said → length bytes < input_limit
  in_time bytes said good = by (nat_lt (length bytes) input_limit) refl
    where
      by : (b : Bool) → nat_lt (length bytes) input_limit ≡ b → length bytes < input_limit
      by true early = grind (arith, nat_tests)
      by false late =
          let same = reports bytes (grind (arith, nat_tests)) in
          let two : Err same.fault ≡ Ok said = sym same.right ∙ good in absurd (cc)

  -- an input without a fault was read to its end
  pub read_to_end : (old new : Option (List ℕ)) (bytes : List ℕ) (said : S) → ReadsInput old new bytes → reading bytes ≡ Ok said → IsAtEnd new
  read_to_end old new bytes said read good = read.whole (in_time bytes said good)

  -- the text of the bytes that were read is the text of the whole input
  pub text_reported : (old new : Option (List ℕ)) (bytes : List ℕ) (said : S) (P : List ℕ → Type 0) → ReadsInput old new bytes → reading bytes ≡ Ok said → P (printed said) → IfSome old (λ input. (text : List ℕ) × (text_by reading printed input ≡ Ok text) × P text)
  text_reported None new bytes said P read good written = tt
  text_reported (Some input) new bytes said P read good written =
      let same : reading bytes ≡ reading input = input_reports reading input bytes new reports read in
      (printed said, ap (λ r. r >>= λ s. Ok (printed s)) (sym same ∙ good), written)

  -- an engine that returns the fault of a line has written nothing
  pub ran_to_line : (result : Result (Unit {0}) Fault) (fault : LineFault) (bytes : List ℕ) (old new : Streams) → IsErrAnd result (λ reported. reported ≡ Line fault) → ReadsInput old.to_come new.to_come bytes → UnlessMemory fault.kind (reading bytes ≡ Err fault) → Keeps old.taken new.taken → Ran (text_by reading printed) result old new
  ran_to_line (Ok done) fault bytes old new is read reported kept = absurd is
  ran_to_line (Err e) fault bytes old new is read reported kept =
      let P : Fault → Type 0 = λ e. Ran (text_by reading printed) (Err e) old new in
      subst P (sym is) (line_reported old.to_come new.to_come bytes fault read reported, kept)

  -- an engine that writes the text of the bytes that were read has written all of it, or a prefix if a call failed
  pub ran_to_end : (result : Result (Unit {0}) Fault) (bytes : List ℕ) (said : S) (old new : Streams) → ReadsInput old.to_come new.to_come bytes → reading bytes ≡ Ok said → OnOk result (Appends old.taken new.taken (printed said)) → WritesFront old.taken new.taken (printed said) → OnErr result (result ≡ Err Write) → new.write_failures ≡ old.write_failures + failed_writing result → Ran (text_by reading printed) result old new
  ran_to_end (Ok done) bytes said old new read good written front fault failures = (text_reported old.to_come new.to_come bytes said (λ text. Appends old.taken new.taken text) read good written, read_to_end old.to_come new.to_come bytes said read good)
  ran_to_end (Err e) bytes said old new read good written front fault failures =
      let P : Result (Unit {0}) Fault → Type 0 = λ r. Ran (text_by reading printed) r old new in
      subst P (sym fault) (omega (arith, failures), text_reported old.to_come new.to_come bytes said (λ text. WritesFront old.taken new.taken text) read good front)
