-- A process with the stage `inside` is inside, and no two are.
use Rattle.std.proofs.Common.{◌≡◌, ◌<◌, ℕ, ◌==◌, Bool, true, false, cond, List, [], ◌∷◌, flat_map, fold, Ok, refl, sym, ◌∙◌, arith}
use Rattle.model.specs.plain_store.{Setup, checked}
use Rattle.record_accesses.proofs.plain_store.GoodSetups.{few-processes}
use Rattle.model.specs.{Mark, Past, Stage, inside, inside_after, past_of, stage, stage_after}
use Rattle.model.specs.declared.marks.Mark.TheVariants as mark
use Rattle.model.specs.declared.stages.Stage.TheVariants.{Idle, Inside}
use Rattle.model.proofs.Width.{is_good}
use Rattle.scenario_run.proofs.laws.Always.{inv_of}
use Rattle.scenario_run.proofs.laws.Theorems.{mutual_exclusion}
use Rattle.picture.specs.picture_layout.{LineContent, StagesAreTheRecords, marks_in, marks_said, stage_among, stages_after}
use Rattle.draw.specs.{OneIsInside}

-- who has left is not inside
left_outside : (stage : Stage) (is : Bool) → stage_after stage mark.Left ≡ Inside → is ≡ true
left_outside Idle is at = absurd (cc)
left_outside stage is at = absurd (cc)

-- a mark more
marked_inside : (stage : Stage) (is : Bool) (m : Mark) → (stage ≡ Inside → is ≡ true) → stage_after stage m ≡ Inside → inside_after is m ≡ true
marked_inside stage is mark.Entered before at = refl
marked_inside stage is (mark.Taken k r) before at = before at
marked_inside stage is mark.Left before at = left_outside stage false at
marked_inside stage is (mark.Settled v) before at = before at
marked_inside stage is m before at = absurd (cc)

-- the marks of an entry
all_inside : (stage : Stage) (is : Bool) (marks : List Mark) → (stage ≡ Inside → is ≡ true) → fold stage_after stage marks ≡ Inside → fold inside_after is marks ≡ true
all_inside stage is [] before at = before at
all_inside stage is (m ∷ marks) before at = all_inside (stage_after stage m) (inside_after is m) marks (marked_inside stage is m before) at

-- an entry more, of this process or of another one
entered_inside : (b : Bool) (was : Stage) (is : Bool) (marks : List Mark) → (was ≡ Inside → is ≡ true) → cond b (fold stage_after was marks) was ≡ Inside → cond b (fold inside_after is marks) is ≡ true
entered_inside true was is marks before at = all_inside was is marks before at
entered_inside false was is marks before at = before at

-- a process with the stage `inside` is inside
pub is_inside : (p : ℕ) (past : Past) → stage p past ≡ Inside → inside p past ≡ true
is_inside p [] at = absurd (cc)
is_inside p (e ∷ past) at = entered_inside (e.process == p) (stage p past) (inside p past) e.marks (is_inside p past) at

-- by lines that say a record's marks
reported_inside : StagesAreTheRecords → (s : Setup) → checked s ≡ Ok tt → (lines : List LineContent) (past : Past) → flat_map marks_said lines ≡ marks_in past → (p : ℕ) → p < s.processes → stage_among (stages_after s.processes lines) p ≡ Inside → inside p past ≡ true
reported_inside are s good lines past say p is at =
    let few = few-processes s good in
    is_inside p past (sym (are s.processes lines past say p is (omega (arith, few, is))) ∙ at)

pub one_is : StagesAreTheRecords → OneIsInside
one_is are s good events lines say p q is_p is_q at_p at_q =
    mutual_exclusion s (is_good s good) (inv_of s (is_good s good)) events p q (reported_inside are s good lines (past_of s events) say p is_p at_p) (reported_inside are s good lines (past_of s events) say q is_q at_q)
