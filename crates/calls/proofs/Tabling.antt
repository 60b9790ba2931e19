-- The lines of the calls that end, turn by turn, and the whole table.
use Rattle.std.proofs.Common.{◌≡◌, ◌+◌, ◌&&◌, ℕ, Bool, true, false, not, cond, List, [], ◌∷◌, ◌++◌, Option, None, Some, Result, Ok, Err, IfErr, OnErr, refl, ap, sym, subst, ◌∙◌, append-nil, eq-eqb}
use Rattle.std.specs.Io.KnownBytes.{Appends}
use Rattle.scenario.specs.files.{Fault, WritesFront}
use Rattle.plain_store.specs.{Setup}
use Rattle.model.specs.{Access, Entry, Event, Mark, Past, entry_of, past_of, process_of, width}
use Rattle.scenario.specs.{Script}
use Rattle.calls.specs.{ComesInTurn, HasObserved, TableState, called, ended_call, ended_lines, ends_number, header, is_calling, is_unmarked, open_lines}
use Rattle.scenario_run.specs.{Accepted, Happening, Happens, IsMarked, IsWriteFault, Lacks, Looks, ReportsOf, Tires, TurnReport, Tries, Writes, WritesPart, entry_made, failed_write, happenings, past_after, tried}
use Rattle.scenario_run.specs.world.{ends_overlapped_read}
use Rattle.scenario_run.specs.declared.reports.TurnReport.TheVariants as reported
use Rattle.scenario_run.proofs.Endings.{err_both}
use Rattle.scenario_run.proofs.InTurn.{process_there}
use Rattle.scenario_run.proofs.Refusals.{past_kept}
use Rattle.scenario_run.proofs.Written.{all_written, appends_both, front_after, front_longer, part_written}
use Rattle.calls.specs.Tables.{CutsReported, HasTabled, IsInTurn, Reports, known_reported, lines_after, past_with, tabled, reported_line}

-- marks that there are
some_marks : (marks : List Mark) → (marks ≡ [] → ⊥) → is_unmarked marks ≡ false
some_marks [] some = absurd (some refl)
some_marks (m ∷ marks) some = refl

-- an entry with marks that is reported comes in its turn
entry_in_turn : (s : Setup) (events : List Event) (event : Event) (made : Accepted) → made.event ≡ event → entry_of s (past_of s events) event ≡ Some (entry_made made) → made.overlapped ≡ ends_overlapped_read (past_of s events) (entry_made made) →
    IsMarked (reported.Accepted made) → ComesInTurn s (past_of s events) (entry_made made) (known_reported made)
entry_in_turn s events event made same is overlapped marked = record {
  process = process_there s events event (entry_made made) (ap process_of same) is;
  reports = record { overlapped = overlapped; read = λ a some. ap (λ b. b && ends_number (width s a.field) a.bit a.how) (some_marks (entry_made made).marks marked) };
}

-- The report of a turn.

-- the past with an entry that is added
pub event_added : (s : Setup) (before : List Happening) (event : Event) (e : Entry) → entry_of s (past_after s before) event ≡ Some e → past_after s (Tries event ∷ before) ≡ e ∷ past_after s before
event_added s before event e adds = ap (λ (o : Option Entry). elim o as (λ _. Past) [ None ↦ past_after s before | Some e ↦ e ∷ past_after s before ]) adds

-- the past with the reported entry is the past after what happens
pub past_reported : (s : Setup) (before : List Happening) (this : Happening) (answer : TurnReport) → ReportsOf s (past_after s before) this answer → past_after s (this ∷ before) ≡ past_with (past_after s before) answer
past_reported s before (Tries event) (reported.Accepted made) reports = event_added s before event (entry_made made) reports.1
past_reported s before (Tries event) (reported.Refused p r) reports = past_kept s (tried before) event r reports.1
past_reported s before (Tries event) (reported.Tired p) reports = absurd reports
past_reported s before (Tries event) (reported.Shown store) reports = absurd reports
past_reported s before (Lacks p) (reported.Refused q r) reports = refl
past_reported s before (Lacks p) (reported.Accepted made) reports = absurd reports
past_reported s before (Lacks p) (reported.Tired q) reports = absurd reports
past_reported s before (Lacks p) (reported.Shown store) reports = absurd reports
past_reported s before (Tires p) (reported.Tired q) reports = refl
past_reported s before (Tires p) (reported.Accepted made) reports = absurd reports
past_reported s before (Tires p) (reported.Refused q r) reports = absurd reports
past_reported s before (Tires p) (reported.Shown store) reports = absurd reports
past_reported s before Looks (reported.Shown store) reports = refl
past_reported s before Looks (reported.Accepted made) reports = absurd reports
past_reported s before Looks (reported.Refused q r) reports = absurd reports
past_reported s before Looks (reported.Tired q) reports = absurd reports

-- and an entry that is reported comes in its turn
pub in_turn : (s : Setup) (before : List Happening) (this : Happening) (answer : TurnReport) → ReportsOf s (past_after s before) this answer → IsMarked answer → IsInTurn s (past_after s before) answer
in_turn s before (Tries event) (reported.Accepted made) reports marked = entry_in_turn s (tried before) event made reports.0 reports.1 reports.2 marked
in_turn s before (Tries event) (reported.Refused p r) reports marked = tt
in_turn s before (Tries event) (reported.Tired p) reports marked = tt
in_turn s before (Tries event) (reported.Shown store) reports marked = tt
in_turn s before (Lacks p) (reported.Accepted made) reports marked = absurd reports
in_turn s before (Lacks p) (reported.Refused q r) reports marked = tt
in_turn s before (Lacks p) (reported.Tired q) reports marked = tt
in_turn s before (Lacks p) (reported.Shown store) reports marked = tt
in_turn s before (Tires p) (reported.Accepted made) reports marked = absurd reports
in_turn s before (Tires p) (reported.Refused q r) reports marked = tt
in_turn s before (Tires p) (reported.Tired q) reports marked = tt
in_turn s before (Tires p) (reported.Shown store) reports marked = tt
in_turn s before Looks (reported.Accepted made) reports marked = absurd reports
in_turn s before Looks (reported.Refused q r) reports marked = tt
in_turn s before Looks (reported.Tired q) reports marked = tt
in_turn s before Looks (reported.Shown store) reports marked = tt

-- the lines of the calls that have ended, with the reported entry
lines_reported : (s : Setup) (past : Past) (answer : TurnReport) → ended_lines s (past_with past answer) ≡ ended_lines s past ++ reported_line s past answer
lines_reported s past (reported.Accepted made) = refl
lines_reported s past (reported.Refused p r) = sym (append-nil (ended_lines s past))
lines_reported s past (reported.Tired p) = sym (append-nil (ended_lines s past))
lines_reported s past (reported.Shown store) = sym (append-nil (ended_lines s past))

-- the entries that the table observes, and the lines that are written
reported_observed : (s : Setup) (before : List Happening) (this : Happening) (answer : TurnReport) (old new : TableState) (a b : Option (List ℕ)) → Happens s before this answer → Reports answer old new a b → HasTabled s before old →
    HasObserved new (past_with (past_after s before) answer) × Appends a b (reported_line s (past_after s before) answer)
reported_observed s before this answer old new a b h reports t =
    let past : Past = past_after s before in
    subst (λ (s : Setup). HasObserved new (past_with past answer) × Appends a b (reported_line s past answer)) t.setup
    (reports past t.observed (subst (λ (s : Setup). IsInTurn s past answer) (sym t.setup) (in_turn s before this answer h.reports h.marked)))

pub reported_tabled : (s : Setup) (before : List Happening) (this : Happening) (answer : TurnReport) (old new : TableState) (a b : Option (List ℕ)) → Happens s before this answer → Reports answer old new a b → new.setup ≡ old.setup →
    HasTabled s before old → HasTabled s (this ∷ before) new
reported_tabled s before this answer old new a b h reports kept t = record {
  setup = kept ∙ t.setup;
  observed = subst (HasObserved new) (sym (past_reported s before this answer h.reports)) (reported_observed s before this answer old new a b h reports t).0;
}

pub reported_written : (s : Setup) (before : List Happening) (this : Happening) (answer : TurnReport) (old new : TableState) (a b : Option (List ℕ)) → Happens s before this answer → Reports answer old new a b → HasTabled s before old →
    Writes (lines_after s before) (lines_after s (this ∷ before)) a b
reported_written s before this answer old new a b h reports t = record {
  text = reported_line s (past_after s before) answer;
  is = ap (ended_lines s) (past_reported s before this answer h.reports) ∙ lines_reported s (past_after s before) answer;
  taken = (reported_observed s before this answer old new a b h reports t).1;
}

pub reported_cut : (s : Setup) (before : List Happening) (this : Happening) (answer : TurnReport) (old : TableState) (a b : Option (List ℕ)) → Happens s before this answer → CutsReported answer old a b → HasTabled s before old →
    WritesPart (lines_after s before) (lines_after s (this ∷ before)) a b
reported_cut s before this answer old a b h cuts t =
    let past : Past = past_after s before in
    record {
      text = reported_line s past answer;
      is = ap (ended_lines s) (past_reported s before this answer h.reports) ∙ lines_reported s past answer;
      front = subst (λ (s : Setup). WritesFront a b (reported_line s past answer)) t.setup (cuts past t.observed (subst (λ (s : Setup). IsInTurn s past answer) (sym t.setup) (in_turn s before this answer h.reports h.marked)));
    }

-- No call ends with an entry without a mark.
not_ended : {A : Type 0} (b : Bool) (c : A) → cond (b && not b) (Some c) None ≡ None
not_ended true c = refl
not_ended false c = refl

pub unmarked_ends : (s : Setup) (past : Past) (p : ℕ) (access : Option Access) → ended_call s past (record { process = p; access = access; marks = [] }) ≡ None
unmarked_ends s past p access =
    let e : Entry = record { process = p; access = access; marks = [] } in
    let same : is_calling p (e ∷ past) ≡ is_calling p past = ap (λ t. elim t as (λ _. Bool) [ false ↦ is_calling p past | true ↦ is_calling p past ]) (eq-eqb p p refl) in
    ap (λ b. cond (is_calling p past && not b) (Some (called s p (e ∷ past))) None) same ∙ not_ended (is_calling p past) (called s p (e ∷ past))

-- a fault, what it left, and how many calls failed
pub err_all : {A P : Type 0} (r : Result A Fault) (R : Fault → Type 0) (m n : ℕ) → ((f : Fault) → P → IsWriteFault f → n ≡ m + failed_write {A = Unit {0}} (Err f) → R f) → OnErr r P → IfErr r IsWriteFault → n ≡ m + failed_write r → IfErr r R
err_all (Ok done) R m n then p is e = tt
err_all {A} (Err f) R m n then p is e = err_both {A = A} (Err f) R m n (λ f is e. then f p is e) is e

-- The whole text.

-- at the start
pub nothing_tabled : (s : Setup) (table : TableState) → table.setup ≡ s → HasObserved table [] → HasTabled s [] table
nothing_tabled s table kept observed = record { setup = kept; observed = observed }

-- at the end: the entries that the table has observed, and the lines of the calls that have ended
pub all_tabled : {was said : Script} {table table' : TableState} {a b b' : Option (List ℕ)} → was ≡ said → table' ≡ table → b' ≡ b → HasTabled was.setup (happenings was) table → Writes [] (lines_after was.setup (happenings was)) a b →
    HasTabled said.setup (happenings said) table' × Writes [] (lines_after said.setup (happenings said)) a b'
all_tabled {was} {said} {table} {table'} {a} {b} {b'} same is taken has writes = (
  subst (λ t. HasTabled said.setup (happenings said) t) (sym is) (subst (λ (said : Script). HasTabled said.setup (happenings said) table) same has),
  subst (λ o. Writes [] (lines_after said.setup (happenings said)) a o) (sym taken) (subst (λ (said : Script). Writes [] (lines_after said.setup (happenings said)) a b) same writes),
)

-- once the lines of the open calls are written, or a prefix of them
pub table_written : (said : Script) (a b c d : Option (List ℕ)) → Appends a b header → Writes [] (lines_after said.setup (happenings said)) b c → Appends c d (open_lines said.setup (past_after said.setup (happenings said))) → Appends a d (tabled said)
table_written said a b c d head w ends =
    let text : List ℕ = lines_after said.setup (happenings said) in
    let last : List ℕ = open_lines said.setup (past_after said.setup (happenings said)) in
    appends_both a b d header (text ++ last) head (appends_both b c d text last (all_written text b c w) ends)

pub open_cut : (said : Script) (a b c d : Option (List ℕ)) → Appends a b header → Writes [] (lines_after said.setup (happenings said)) b c → WritesFront c d (open_lines said.setup (past_after said.setup (happenings said))) → WritesFront a d (tabled said)
open_cut said a b c d head w ends =
    let text : List ℕ = lines_after said.setup (happenings said) in
    let last : List ℕ = open_lines said.setup (past_after said.setup (happenings said)) in
    front_after a b d header (text ++ last) head (front_after b c d text last (all_written text b c w) ends)

-- cut short before them
pub table_cut : (said : Script) (a b c : Option (List ℕ)) → Appends a b header → WritesPart [] (lines_after said.setup (happenings said)) b c → WritesFront a c (tabled said)
table_cut said a b c head part =
    let text : List ℕ = lines_after said.setup (happenings said) in
    let last : List ℕ = open_lines said.setup (past_after said.setup (happenings said)) in
    front_after a b c header (text ++ last) head (front_longer b c text last (part_written text b c part))

-- cut short in the first line
pub head_cut : (said : Script) (a b : Option (List ℕ)) → WritesFront a b header → WritesFront a b (tabled said)
head_cut said a b front =
    let past : Past = past_after said.setup (happenings said) in
    front_longer a b header (ended_lines said.setup past ++ open_lines said.setup past) front
