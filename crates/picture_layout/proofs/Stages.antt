-- Lines with the marks of a record lead to its stages.
use Rattle.std.proofs.Common.{◌≡◌, ◌<◌, ◌⊎◌, inl, inr, ℕ, zero, suc, Bool, true, false, cond, nat_lt, ◌==◌, List, [], ◌∷◌, flat_map, fold, get_or, length, map, replicate, refl, ap, sym, subst, ◌∙◌, arith}
use Rattle.std.proofs.lemmas.Bool.{cases_eq, eq-eqb, ne_eqb, cond-true, cond-false, ltb-false}
use Rattle.std.proofs.lemmas.Grind.{fold-append}
use Rattle.std.proofs.lemmas.List.{length-set, get_or-set_same, get_or-set_other}
use Rattle.model.specs.{Mark, Past, Stage, stage, stage_after}
use Rattle.model.specs.declared.stages.Stage.TheVariants.{Idle}
use Rattle.picture_layout.specs.{LineContent, StagesAreTheRecords, like, marks_in, marks_said, nothing_reported, stage_among, stages_marked, stages_reported}
use Rattle.picture_layout.specs.declared.line_contents.LineContent.TheVariants.{Marked, Refused, Tired, Shown, Ended, LockMarked, LockEnded}

-- the stage of process p after a mark of a process
abbrev pub stage_reported : ℕ → Stage → ℕ × Mark → Stage
stage_reported p was said = cond (said.0 == p) (stage_after was said.1) was

-- the number of stages is unchanged
pub marked_length : (stages : List Stage) (q : ℕ) (mark : Mark) → length (stages_marked stages q mark) ≡ length stages
marked_length stages q mark = length-set stages q (stage_after (stage_among stages q) mark)

either_length : (b : Bool) (stages : List Stage) (q : ℕ) (mark : Mark) → length (cond b (stages_marked stages q mark) stages) ≡ length stages
either_length true stages q mark = marked_length stages q mark
either_length false stages q mark = refl

pub reported_length : (processes : ℕ) (stages : List Stage) (line : LineContent) → length (stages_reported processes stages line) ≡ length stages
reported_length processes stages (Marked q mark change) = either_length (nat_lt q processes) stages q mark
reported_length processes stages (Refused q refusal) = refl
reported_length processes stages (Tired q) = refl
reported_length processes stages (Shown words) = refl
reported_length processes stages (Ended events taken refused) = refl
reported_length processes stages (LockMarked q mark) = either_length (nat_lt q processes) stages q (like mark)
reported_length processes stages (LockEnded entries) = refl

-- the stage of process p after a mark of process q
pub marked_stage : (stages : List Stage) (q : ℕ) (mark : Mark) (p : ℕ) → p < length stages → stage_among (stages_marked stages q mark) p ≡ stage_reported p (stage_among stages p) (q, mark)
marked_stage stages q mark p within = go (cases_eq q p)
  where
    go : ((q ≡ p) ⊎ (q ≡ p → ⊥)) → stage_among (stages_marked stages q mark) p ≡ stage_reported p (stage_among stages p) (q, mark)
    go (inl same) = subst (λ q. stage_among (stages_marked stages q mark) p ≡ stage_reported p (stage_among stages p) (q, mark)) (sym same)
        (get_or-set_same stages p (stage_after (stage_among stages p) mark) Idle within ∙ sym (cond-true (p == p) (stage_after (stage_among stages p) mark) (stage_among stages p) (eq-eqb p p refl)))
    go (inr other) = get_or-set_other stages q p (stage_after (stage_among stages q) mark) Idle (λ e. other (sym e))
        ∙ sym (cond-false (q == p) (stage_after (stage_among stages p) mark) (stage_among stages p) (ne_eqb q p other))

-- the stage after a mark of process q, which may exist or not
either_stage : (processes : ℕ) (stages : List Stage) (q : ℕ) (mark : Mark) (p : ℕ) → p < processes → p < length stages → stage_among (cond (nat_lt q processes) (stages_marked stages q mark) stages) p ≡ stage_reported p (stage_among stages p) (q, mark)
either_stage processes stages q mark p is within = go (nat_lt q processes) refl
  where
    go : (b : Bool) → nat_lt q processes ≡ b → stage_among (cond b (stages_marked stages q mark) stages) p ≡ stage_reported p (stage_among stages p) (q, mark)
    go true below = marked_stage stages q mark p within
    go false above = sym (cond-false (q == p) (stage_after (stage_among stages p) mark) (stage_among stages p) (ne_eqb q p (λ same. let past = ltb-false q processes above in omega (arith, same, past, is))))

-- the stage after a line
pub line_stage : (processes : ℕ) (stages : List Stage) (line : LineContent) (p : ℕ) → p < processes → p < length stages → stage_among (stages_reported processes stages line) p ≡ fold (stage_reported p) (stage_among stages p) (marks_said line)
line_stage processes stages (Marked q mark change) p is within = either_stage processes stages q mark p is within
line_stage processes stages (Refused q refusal) p is within = refl
line_stage processes stages (Tired q) p is within = refl
line_stage processes stages (Shown words) p is within = refl
line_stage processes stages (Ended events taken refused) p is within = refl
line_stage processes stages (LockMarked q mark) p is within = either_stage processes stages q (like mark) p is within
line_stage processes stages (LockEnded entries) p is within = refl

-- the stage after all lines
pub lines_stage : (processes : ℕ) (stages : List Stage) (lines : List LineContent) (p : ℕ) → p < processes → p < length stages → stage_among (fold (stages_reported processes) stages lines) p ≡ fold (stage_reported p) (stage_among stages p) (flat_map marks_said lines)
lines_stage processes stages [] p is within = refl
lines_stage processes stages (line ∷ lines) p is within =
    lines_stage processes (stages_reported processes stages line) lines p is (subst (λ n. p < n) (sym (reported_length processes stages line)) within)
    ∙ ap (λ was. fold (stage_reported p) was (flat_map marks_said lines)) (line_stage processes stages line p is within)
    ∙ sym (fold-append (stage_reported p) (stage_among stages p) (marks_said line) (flat_map marks_said lines))

-- the stage after the marks of an entry
entry_stage : (p q : ℕ) (was : Stage) (marks : List Mark) → fold (stage_reported p) was (map (λ mark. (q, mark)) marks) ≡ cond (q == p) (fold stage_after was marks) was
entry_stage p q was marks = go (q == p) refl was marks
  where
    go : (b : Bool) → (q == p) ≡ b → (was : Stage) (marks : List Mark) → fold (stage_reported p) was (map (λ mark. (q, mark)) marks) ≡ cond b (fold stage_after was marks) was
    go true e was [] = refl
    go false e was [] = refl
    go true e was (mark ∷ marks) = ap (λ b. fold (stage_reported p) (cond b (stage_after was mark) was) (map (λ mark. (q, mark)) marks)) e ∙ go true e (stage_after was mark) marks
    go false e was (mark ∷ marks) = ap (λ b. fold (stage_reported p) (cond b (stage_after was mark) was) (map (λ mark. (q, mark)) marks)) e ∙ go false e was marks

-- the stage after the marks of a record
pub record_stage : (p : ℕ) (past : Past) → fold (stage_reported p) Idle (marks_in past) ≡ stage p past
record_stage p [] = refl
record_stage p (e ∷ past) =
    fold-append (stage_reported p) Idle (marks_in past) (map (λ mark. (e.process, mark)) e.marks)
    ∙ ap (λ was. fold (stage_reported p) was (map (λ mark. (e.process, mark)) e.marks)) (record_stage p past)
    ∙ entry_stage p e.process (stage p past) e.marks

-- each process is idle at first
pub nothing_stage : (n p : ℕ) → get_or (replicate n Idle) p Idle ≡ Idle
nothing_stage zero p = refl
nothing_stage (suc n) zero = refl
nothing_stage (suc n) (suc p) = nothing_stage n p

pub stages_are : StagesAreTheRecords
stages_are processes lines past say p is within =
    lines_stage processes nothing_reported lines p is within
    ∙ ap (λ was. fold (stage_reported p) was (flat_map marks_said lines)) (nothing_stage 16 p)
    ∙ ap (fold (stage_reported p) Idle) say ∙ record_stage p past
