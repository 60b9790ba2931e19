-- The entry that a step of a process adds, computed from its seat.
use Rattle.std.proofs.Common.{◌≡◌, ◌<◌, ℕ, Bool, true, cond, List, [], Option, None, Some, length, map, refl, sym, ap, subst, ◌∙◌}
use Rattle.std.specs.Prelude.{slice_get}
use Rattle.plain_store.specs.{Setup}
use Rattle.model.specs.declared.events.Event.TheVariants.{Step}
use Rattle.model.specs.declared.refusals.Refusal.TheVariants.{NotRunning}
use Rattle.model.specs.{Access, Entry, Mark, Past, Refusal, added, history, past_of, placed, refused, value_of}
use Rattle.process.specs.{StepOutcome, answered_at, remaining_at, marks_on, marks_reported, may_step}
use Rattle.process.proofs.Left.{remaining-quiet}
use Rattle.world.specs.{CoreAddsQuietly, CoreAddsStep, CoreRefuses, CoreState, IsStepEntry, Seat, with_history}
use Rattle.world.proofs.CoreGoes.{entry_reported, made}
use Rattle.world.proofs.CoreRefused.{refused-step}
use Rattle.world.proofs.WorldOpen.{core-shown, history-shown, seat-shown}
use Rattle.world.proofs.WorldStages.{remaining-may}

-- a step that is refused adds no entry
pub none-next : (c : CoreState) (p : ℕ) (flick : Bool) (taken : ℕ) (why : Refusal) → CoreRefuses c (Step p flick) (Some why) → IsStepEntry c p flick taken None
none-next c p flick taken why refuses taken_before events many shows =
    sym (ap (λ (o : Option Refusal). elim o as (λ _. Option Entry) [ Some r ↦ None | None ↦ added c.setup (past_of c.setup events) (Step p flick) ]) (refuses taken_before events shows))

-- the entry computed from the seat of its process is the one that the step adds
pub entry-next : (c : CoreState) (p : ℕ) (flick : Bool) (taken : ℕ) (seat : Seat) → slice_get c.seats p ≡ Some seat → may_step seat.process.doing ≡ true → IsStepEntry c p flick taken (Some (entry_reported c seat taken (Step p flick)))
entry-next c p flick taken seat there goes taken_before events many shows =
    let s : Setup = c.setup in
    let past : Past = past_of s events in
    let allowed : refused s past (Step p flick) ≡ None =
    refused-step c p flick seat there taken_before events shows ∙ ap (λ b. cond b None (Some NotRunning)) goes in
    let counted : taken ≡ length (history s past) = sym many ∙ ap length (history-shown c taken_before events shows) in
    (λ i. Some (entry_reported (core-shown c taken_before events shows i) (seat-shown (with_history c taken_before) events p seat shows there i) (counted i) (Step p flick)))
    ∙ sym (made s shows.good events (Step p flick) allowed)

-- an access and marks that agree with the seat make this entry
reported-next : (c : CoreState) (p : ℕ) (flick : Bool) (taken : ℕ) (seat : Seat) (a : Access) (marks : List Mark) → slice_get c.seats p ≡ Some seat → may_step seat.process.doing ≡ true →
    a ≡ answered_at seat.process c.registers flick → marks ≡ map (placed taken) (marks_on seat.process flick (value_of a.how)) → IsStepEntry c p flick taken (Some (record { process = p; access = Some a; marks = marks }))
reported-next c p flick taken seat a marks there goes access are =
    subst (IsStepEntry c p flick taken)
    (λ i. let e : Entry = record { process = p; access = Some (sym access i); marks = sym (are ∙ ap (λ (x : Access). map (placed taken) (marks_on seat.process flick (value_of x.how))) access) i } in Some e)
    (entry-next c p flick taken seat there goes)

-- the outcome of a step determines its entry
pub step-next : (c : CoreState) (p : ℕ) (flick : Bool) (seat : Seat) (a : Access) (reported : StepOutcome) → slice_get c.seats p ≡ Some seat → may_step seat.process.doing ≡ true →
    a ≡ answered_at seat.process c.registers flick → marks_reported reported ≡ marks_on seat.process flick (value_of a.how) → CoreAddsStep c p flick reported a
step-next c p flick seat a reported there goes access are = λ taken events shows.
    sym (reported-next c p flick (length taken) seat a (map (placed (length taken)) (marks_reported reported)) there goes access (ap (map (placed (length taken))) are) taken events refl shows)

-- a step within a register access is determined by its access alone
pub quiet-next : (c : CoreState) (p : ℕ) (flick : Bool) (seat : Seat) (a : Access) → slice_get c.seats p ≡ Some seat → 0 < remaining_at seat.process → a ≡ answered_at seat.process c.registers flick → CoreAddsQuietly c p flick a
quiet-next c p flick seat a there remaining access = λ taken events shows.
    sym (reported-next c p flick (length taken) seat a [] there (remaining-may seat.process remaining) access (sym (ap (map (placed (length taken))) (remaining-quiet seat.process flick (value_of a.how) remaining))) taken events refl shows)

-- the entry of the step, after `taken` commands
pub entry-of-step : (c : CoreState) (p : ℕ) (flick : Bool) (taken : ℕ) (a : Access) (reported : StepOutcome) (marks : List Mark) → CoreAddsStep c p flick reported a → marks ≡ map (placed taken) (marks_reported reported) →
    IsStepEntry c p flick taken (Some (record { process = p; access = Some a; marks = marks }))
entry-of-step c p flick taken a reported marks adds are = λ history events many shows.
    (λ i. let e : Entry = record { process = p; access = Some a; marks = (are ∙ ap (λ n. map (placed n) (marks_reported reported)) (sym many)) i } in Some e) ∙ sym (adds history events shows)
