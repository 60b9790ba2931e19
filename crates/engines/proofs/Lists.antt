-- The lines from an index on, and a run after one more line.
use Rattle.std.proofs.Common.{◌≡◌, ℕ, ◌+◌, ◌<◌, ◌≤◌, Bool, true, false, nat_lt, if◌then◌else◌, List, ◌++◌, length, drop, get_or, Option, None, Some, Result, Ok, Err, IfSome, IsErrAnd, ap, subst, sym, ◌∙◌, arith, refl, append_assoc, codes}
use Rattle.std.proofs.lemmas.List.{length-set}
use Rattle.std.specs.Fmt.{decimal}
use Rattle.plain_store.specs.{Setup}
use Rattle.scenario.specs.{Line}
use Rattle.scenario.specs.declared.lines.Line.TheVariants as line
use Rattle.scenario.proofs.Places.{drop_in}
use Rattle.scenario.specs.files.Engines.{Ran, Streams, text_or_none}
use Rattle.scenario.specs.files.{Fault, LineFault, WritesFront}
use Rattle.scenario.specs.files.declared.faults.Fault.TheVariants.{Memory}
use Rattle.scenario_run.proofs.Written.{front_none}
use Rattle.engines.specs.Plain.{Run, reply_line, text_from, line_text, run_after, applied}

-- the text of the lines from an index on
pub text_step : (setup : Setup) (run : Run) (lines : List Line) (k : ℕ) (here : Line) → k < length lines → here ≡ get_or lines k here → text_from setup run (drop k lines) ≡ line_text setup run here ++ text_from setup (run_after setup run here) (drop (k + 1) lines)
text_step setup run lines k here within is =
    ap (text_from setup run) (drop_in lines k here within is)

-- a text and that of the lines from an index on, one line later
pub text_more : (reported : List ℕ) (setup : Setup) (run : Run) (lines : List Line) (k : ℕ) (here : Line) → k < length lines → here ≡ get_or lines k here → (reported ++ line_text setup run here) ++ text_from setup (run_after setup run here) (drop (k + 1) lines) ≡ reported ++ text_from setup run (drop k lines)
text_more reported setup run lines k here within is = append_assoc reported _ _ ∙ ap (λ more. reported ++ more) (sym (text_step setup run lines k here within is))

-- the number of counts stays the number of processes
pub counts_kept : (setup : Setup) (run : Run) (here : Line) → length (run_after setup run here).counts ≡ length run.counts
counts_kept setup run (line.Call p command) = by (nat_lt p setup.processes)
  where
    by : (b : Bool) → length (if b then applied setup run p command else run).counts ≡ length run.counts
    by true = length-set run.counts p _
    by false = refl
counts_kept setup run other = refl

-- a line applies one call at most
pub place_next : (setup : Setup) (run : Run) (here : Line) → (run_after setup run here).place ≤ run.place + 1
place_next setup run (line.Call p command) = by (nat_lt p setup.processes)
  where
    by : (b : Bool) → (if b then applied setup run p command else run).place ≤ run.place + 1
    by true = omega arith
    by false = omega arith
place_next setup run other = omega arith

-- the line of a reply, as `format!` puts it together
pub reply_line_is : (place p : ℕ) (reply : List ℕ) → decimal place ++ (codes " " ++ (decimal p ++ (codes " " ++ (reply ++ codes "\n")))) ≡ reply_line place p reply
reply_line_is place p reply = simp append_assoc

-- an allocation failed before a byte was written
pub unwritten : (text_of : List ℕ → Result (List ℕ) LineFault) (r : Result (Unit {0}) Fault) (old new : Streams) → IsErrAnd r (λ e. e ≡ Memory) → new.taken ≡ old.taken → Ran text_of r old new
unwritten text_of (Ok done) old new is same = absurd is
unwritten text_of (Err e) old new is same = subst (λ e. Ran text_of (Err e) old new) (sym is) (by old.to_come)
  where
    by : (o : Option (List ℕ)) → IfSome o (λ input. WritesFront old.taken new.taken (text_or_none (text_of input)))
    by None = tt
    by (Some input) = front_none old.taken new.taken (text_or_none (text_of input)) same
