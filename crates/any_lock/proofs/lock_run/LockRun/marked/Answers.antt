use Rattle.std.proofs.Common.{◌≡◌, ◌∷◌, sym, ap, ◌∙◌}
use Rattle.model.specs.{Entry}
use Rattle.any_lock.specs.{LockRunState, accessed_by, marked_all, refusal_of_marks, refusal_on, process_view}
use Rattle.any_lock.proofs.Markings.{with_marks}
use Rattle.any_lock.proofs.Whole.{accepted, crowded_refused, nothing_refused, refused}
use Rattle.any_lock.proofs.lock_run.LockRun.marked.Goals as goal

pub returns-then-has_nothing : goal.returns-then-has_nothing
returns-then-has_nothing c = λ past e p a m knows.
    let whole : e ≡ with_marks c.args.process c.args.access.now c.args.marks.now = λ i. record { process = p i; access = a i; marks = m i } in
    ap (refusal_of_marks c.args.self.now.setup past) whole
    ∙ nothing_refused c.args.self.now.setup c.args.process past c.args.access.now c.args.marks.now (sym (c.has_nothing.ensures c.args.process) ∙ c.if-has_nothing.true)

pub returns-then-is_crowded : goal.returns-then-is_crowded
returns-then-is_crowded c = λ past e p a m knows.
    let whole : e ≡ with_marks c.args.process c.args.access.now c.args.marks.now = λ i. record { process = p i; access = a i; marks = m i } in
    ap (refusal_of_marks c.args.self.now.setup past) whole
    ∙ crowded_refused c.args.self.now.setup c.args.process past c.args.access.now c.args.marks.now (sym (c.has_nothing.ensures c.args.process) ∙ c.if-has_nothing.false) (sym (c.is_crowded.ensures c.args.process) ∙ c.if-is_crowded.true)

pub returns-in-Ok : goal.returns-in-Ok
returns-in-Ok c = λ past e p a m knows.
    let whole : e ≡ with_marks c.args.process c.args.access.now c.args.marks.now = λ i. record { process = p i; access = a i; marks = m i } in
    let s = ap (λ (k : LockRunState). k.setup) c.self.view_is in
    let n = ap (λ (k : LockRunState). k.entries) c.self.view_is ∙ knows.entries in
    let k = c.accessed-process_view.ensures past knows ∙ ap (λ n. accessed_by n (process_view c.args.self.now.setup c.args.process past) c.args.access.now) knows.entries in
    let on = accepted c.args.self.now.setup c.args.process past c.args.access.now c.args.marks.now (sym (c.has_nothing.ensures c.args.process) ∙ c.if-has_nothing.false) (sym (c.is_crowded.ensures c.args.process) ∙ c.if-is_crowded.false)
    ((λ i. refusal_on (sym s i) (sym n i) (sym k i) c.args.marks.now) ∙ c.in-Ok.ensures.allowed) in (
      ap (refusal_of_marks c.args.self.now.setup past) whole ∙ on.0,
      c.in-Ok.ensures.marked ∙ (λ i. marked_all (s i) (n i) (k i) c.args.marks.now) ∙ on.1 ∙ ap (λ (x : Entry). process_view c.args.self.now.setup c.args.process (x ∷ past)) (sym whole),
    )

pub returns-in-Err : goal.returns-in-Err
returns-in-Err c = λ past e p a m knows.
    let whole : e ≡ with_marks c.args.process c.args.access.now c.args.marks.now = λ i. record { process = p i; access = a i; marks = m i } in
    let s = ap (λ (k : LockRunState). k.setup) c.self.view_is in
    let n = ap (λ (k : LockRunState). k.entries) c.self.view_is ∙ knows.entries in
    let k = c.accessed-process_view.ensures past knows ∙ ap (λ n. accessed_by n (process_view c.args.self.now.setup c.args.process past) c.args.access.now) knows.entries in
    ap (refusal_of_marks c.args.self.now.setup past) whole
    ∙ refused c.args.self.now.setup c.args.process past c.args.access.now c.args.marks.now (sym (c.has_nothing.ensures c.args.process) ∙ c.if-has_nothing.false) (sym (c.is_crowded.ensures c.args.process) ∙ c.if-is_crowded.false)
    ∙ (λ i. refusal_on (sym s i) (sym n i) (sym k i) c.args.marks.now) ∙ c.in-Err.ensures.refused
