-- How the engine ends.
use Rattle.std.proofs.Common.{◌≡◌, ℕ, ◌+◌, List, [], Option, Some, None, Result, Ok, Err, IsErrAnd, subst, sym, ap, ◌∙◌, refl, arith}
use Rattle.std.specs.Io.KnownBytes.{Appends, IsAtEnd, Keeps}
use Rattle.scenario.proofs.files.CutTexts.{input_reports}
use Rattle.scenario.proofs.files.EngineEnds.{ran_to_line, read_to_end}
use Rattle.scenario.specs.files.Engines.{Streams}
use Rattle.scenario.specs.files.{Fault, LineFault, ReadsInput, UnlessMemory, WritesFront}
use Rattle.scenario.specs.files.declared.faults.Fault.TheVariants.{Line, Memory, Read, Write}
use Rattle.scenario.proofs.CutTexts.{scenario_reports_at_limit}
use Rattle.scenario.specs.{Script, scenario_of}
use Rattle.call_check.specs.{Weighed}
use Rattle.race.specs.{IsFaultOfRacing, OfInput, RanRace, RunFault, ReportsRace, WritesRace, WritesRaceFront, status_of_race}
use Rattle.race.specs.declared.faults.RunFault.TheVariants.{File, Race}

-- a fact about the scenario that was read, as one about that of the whole input
of_input : (P : Script → Type 0) (bytes : List ℕ) (said : Script) (old new : Option (List ℕ)) → ReadsInput old new bytes → scenario_of bytes ≡ Ok said → P said → OfInput old P
of_input P bytes said None new read good is = tt
of_input P bytes said (Some input) new read good is =
    let same : scenario_of bytes ≡ scenario_of input = input_reports scenario_of input bytes new scenario_reports_at_limit read in
    (said, sym same ∙ good, is)

-- a line was at fault
pub ran_to_fault : (result : Result ℕ RunFault) (fault : LineFault) (bytes : List ℕ) (old new : Streams) → IsErrAnd result (λ reported. reported ≡ File (Line fault)) → ReadsInput old.to_come new.to_come bytes → UnlessMemory fault.kind (scenario_of bytes ≡ Err fault) → Keeps old.taken new.taken → RanRace result old new
ran_to_fault (Ok status) fault bytes old new is read reported kept = absurd is
ran_to_fault (Err e) fault bytes old new is read reported kept =
    subst (λ (e : RunFault). RanRace (Err e) old new) (sym is) (ran_to_line scenario_of (λ said. []) scenario_reports_at_limit (Err (Line fault)) fault bytes old new refl read reported kept)

-- the race has no closing, or memory ran out
pub ran_to_no_text : (result : Result ℕ RunFault) (fault : RunFault) (bytes : List ℕ) (said : Script) (old new : Streams) → IsErrAnd result (λ reported. reported ≡ fault) → IsFaultOfRacing fault → ReadsInput old.to_come new.to_come bytes → scenario_of bytes ≡ Ok said → Keeps old.taken new.taken → RanRace result old new
ran_to_no_text (Ok status) fault bytes said old new is cause read good kept = absurd is
ran_to_no_text (Err e) fault bytes said old new is cause read good kept = subst (λ (e : RunFault). RanRace (Err e) old new) (sym is) (by fault cause)
  where
    by : (fault : RunFault) → IsFaultOfRacing fault → RanRace (Err fault) old new
    by (File Memory) cause = kept
    by (File (Line found)) cause = absurd cause
    by (File Read) cause = absurd cause
    by (File Write) cause = absurd cause
    by (Race found) cause = ((of_input (λ said. Unit {0}) bytes said old.to_come new.to_come read good tt, read_to_end scenario_of (λ said. []) scenario_reports_at_limit old.to_come new.to_come bytes said read good), kept)

-- the result of a failed write, and its fault
abbrev pub cut_by : Fault → Result (Unit {0}) Fault
cut_by fault = Err fault

reported_fault : Result (Unit {0}) Fault → Fault
reported_fault (Ok done) = Write
reported_fault (Err fault) = fault

-- a prefix of the text was written
pub ran_to_cut : (result : Result ℕ RunFault) (fault : Fault) (verdict : Weighed) (text : List ℕ) (bytes : List ℕ) (said : Script) (old new : Streams) → IsErrAnd result (λ reported. reported ≡ File fault) → cut_by fault ≡ cut_by Write → ReadsInput old.to_come new.to_come bytes → scenario_of bytes ≡ Ok said →
    ReportsRace said verdict text → WritesFront old.taken new.taken text → new.write_failures ≡ old.write_failures + 1 → RanRace result old new
unfolding reported_fault
ran_to_cut (Ok status) fault verdict text bytes said old new is write read good reports front failures = absurd is
ran_to_cut (Err e) fault verdict text bytes said old new is write read good reports front failures =
    subst (λ (e : RunFault). RanRace (Err e) old new) (sym (is ∙ ap (λ r. File (reported_fault r)) write)) (
      omega (arith, failures),
      of_input (λ said. WritesRaceFront said old.taken new.taken) bytes said old.to_come new.to_come read good (reports.race, subst (λ t. WritesFront old.taken new.taken t) reports.is_text front),
    )

-- the whole text was written
pub ran_to_end : (verdict : Weighed) (status : ℕ) (text : List ℕ) (bytes : List ℕ) (said : Script) (old new taken then : Option (List ℕ)) → status ≡ status_of_race (Ok verdict) → ReadsInput old new bytes → scenario_of bytes ≡ Ok said → ReportsRace said verdict text → Appends taken then text →
    OfInput old (λ said. WritesRace said status taken then) × IsAtEnd new
ran_to_end verdict status text bytes said old new taken then is read good reports written = (
  of_input (λ said. WritesRace said status taken then) bytes said old new read good
      (reports.race, is ∙ ap (λ (v : Weighed). status_of_race (Ok v)) reports.is_verdict, subst (λ t. Appends taken then t) reports.is_text written),
  read_to_end scenario_of (λ said. []) scenario_reports_at_limit old new bytes said read good,
)
