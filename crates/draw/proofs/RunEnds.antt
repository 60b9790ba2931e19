-- How `draw` ends that has read its input.
use Rattle.std.proofs.Common.{◌≡◌, ℕ, ◌+◌, List, [], ◌++◌, Option, None, Some, Result, Ok, Err, IfErr, IfSome, IsErrAnd, OnOk, add-zero, ap, append-nil, arith, subst, sym, ◌∙◌}
use Rattle.scenario.proofs.files.CutTexts.{input_ended}
use Rattle.scenario.proofs.files.EngineEnds.{read_to_end}
use Rattle.scenario.specs.files.{Fault, LineFault, ReadsInput, ◌>>=◌}
use Rattle.scenario.specs.files.Engines.{Ran, Streams}
use Rattle.scenario.specs.files.declared.faults.Fault.TheVariants.{Line, Memory, Read, Write}
use Rattle.scenario.proofs.CutTexts.{scenario_reports_at_limit}
use Rattle.scenario.specs.{Script, scenario_of}
use Rattle.scenario_run.specs.{ended, replay_text, replayed}
use Rattle.picture.specs.{Form}
use Rattle.picture.specs.declared.reads.PictureOptions.{PictureOptions}
use Rattle.draw.specs.{IsWriteFault, failed_write}
use Rattle.draw.specs.{DrawsAll, DrewRun}

-- where a call ended well none failed
pub ok_whole : {A P R : Type 0} (r : Result A Fault) (m n : ℕ) → (P → n ≡ m → R) → OnOk r P → n ≡ m + failed_write r → OnOk r R
ok_whole (Ok done) m n then p e = then p (e ∙ add-zero m)
ok_whole (Err f) m n then p e = tt

-- else it ended by this fault
pub err_whole : {A : Type 0} (r : Result A Fault) (R : Fault → Type 0) (m n : ℕ) → ((f : Fault) → IsWriteFault f → n ≡ m + failed_write {A = Unit {0}} (Err f) → R f) → IfErr r IsWriteFault → n ≡ m + failed_write r → IfErr r R
err_whole (Ok done) R m n then is e = tt
err_whole (Err Write) R m n then is e = then Write is e
err_whole (Err Memory) R m n then is e = then Memory is e
err_whole (Err Read) R m n then is e = absurd is
err_whole (Err (Line f)) R m n then is e = absurd is

-- so many failed, however it ended
pub failures_by : {A : Type 0} (r : Result A Fault) (m n : ℕ) → OnOk r (n ≡ m) → IfErr r (λ f. n ≡ m + failed_write {A = Unit {0}} (Err f)) → n ≡ m + failed_write r
failures_by (Ok done) m n good bad = good ∙ sym (add-zero m)
failures_by (Err Write) m n good bad = bad
failures_by (Err Memory) m n good bad = bad
failures_by (Err Read) m n good bad = bad
failures_by (Err (Line f)) m n good bad = bad

-- a fault of a line
pub drew_line : (options : PictureOptions) (form : Form) (result : Result (Unit {0}) Fault) (fault : LineFault) (old new : Streams) → IsErrAnd result (λ reported. reported ≡ Line fault) → Ran replay_text result old new → DrewRun options form result old new
drew_line options form (Ok done) fault old new is ran = absurd is
drew_line options form (Err (Line f)) fault old new is ran = ran
drew_line options form (Err Read) fault old new is ran = ran
drew_line options form (Err Write) fault old new is ran = absurd (cc)
drew_line options form (Err Memory) fault old new is ran = tt

-- what is read and is a scenario is the whole input
all_read : (input bytes : List ℕ) (new : Option (List ℕ)) (said : Script) → ReadsInput (Some input) new bytes → scenario_of bytes ≡ Ok said → bytes ≡ input
all_read input bytes None said read good = absurd read.front
all_read input bytes (Some remaining) said read good =
    let none : remaining ≡ [] = input_ended scenario_of input bytes (Some remaining) said scenario_reports_at_limit read good in
    sym (read.front ∙ ap (λ ys. bytes ++ ys) none ∙ append-nil bytes)

-- what holds of what was read, of the whole input
script_reported : (old new : Option (List ℕ)) (bytes : List ℕ) (said : Script) (P : List ℕ → Script → Type 0) → ReadsInput old new bytes → scenario_of bytes ≡ Ok said → P bytes said →
    IfSome old (λ input. (said : Script) × (scenario_of input ≡ Ok said) × (replay_text input ≡ Ok (replayed said)) × P input said)
script_reported None new bytes said P read good holds = tt
script_reported (Some input) new bytes said P read good holds =
    let whole : bytes ≡ input = all_read input bytes new said read good in
    let is : scenario_of input ≡ Ok said = ap scenario_of (sym whole) ∙ good in
    (said, is, ap (λ r. r >>= λ s. Ok (replayed s)) is, subst (λ file. P file said) whole holds)

-- the end, once the input is read and is a scenario's
pub drew_all : {A : Type 0} (options : PictureOptions) (form : Form) (result : Result A Fault) (bytes : List ℕ) (said : Script) (old new : Streams) → ReadsInput old.to_come new.to_come bytes → scenario_of bytes ≡ Ok said →
    OnOk result (DrawsAll options form bytes said old.taken new.taken) → IfErr result IsWriteFault → new.write_failures ≡ old.write_failures + failed_write result → DrewRun options form (ended result) old new
drew_all options form (Ok answer) bytes said old new read good draws fault failures = (
  script_reported old.to_come new.to_come bytes said (λ file said. DrawsAll options form file said old.taken new.taken) read good draws,
  read_to_end scenario_of replayed scenario_reports_at_limit old.to_come new.to_come bytes said read good,
)
drew_all options form (Err Write) bytes said old new read good draws fault failures = omega (arith, failures)
drew_all options form (Err Memory) bytes said old new read good draws fault failures = tt
drew_all options form (Err Read) bytes said old new read good draws fault failures = absurd fault
drew_all options form (Err (Line f)) bytes said old new read good draws fault failures = absurd fault
