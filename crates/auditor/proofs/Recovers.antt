-- An entry that keeps the laws is the entry of an event.
use Rattle.std.proofs.Common.{◌≡◌, ℕ, ◌<◌, nat_lt, Bool, true, false, cond, List, [], ◌∷◌, length, map, Option, Some, None, refl, sym, ap, ◌∙◌, arith}
use Rattle.std.proofs.lemmas.Bool.Decides.{nat_tests}
use Rattle.plain_store.specs.{Setup}
use Rattle.model.specs.declared.events.Event.TheVariants as event
use Rattle.model.specs.{Entry, Mark, Next, Past, Refusal, Stage, TakesItsPlace, entry_made, entry_of, has, history, marks_at, nth, own, placed, program, refused_at, since, stage, starts, stepped, valued}
use Rattle.model.specs.declared.refusals.Refusal.TheVariants.{NoProcess}
use Rattle.model.specs.declared.stages.Stage.TheVariants as stages
use Rattle.model.proofs.Local.{option_map-some}
use Rattle.safe_monitor.specs.declared.verdicts.Law.TheVariants as law
use Rattle.auditor.specs.{IsAlike, IsMade, IsOfEvent, KeepsAll, OwesAt, reports_event}
use Rattle.auditor.proofs.Marks.{same_marks}

-- the entry that a step makes has its process, and its marks have their position
pub record StepIs (s : Setup) (past : Past) (p : ℕ) (made : Entry) : Type 0 where
  pub process : made.process ≡ p
  pub rest : List Mark
  pub marks : made.marks ≡ map (placed (length (history s past))) rest

pub step_is : (s : Setup) (past : Past) (p : ℕ) (flick : Bool) (made : Entry) → stepped s past p flick ≡ Some made → StepIs s past p made
step_is s past p flick made h =
    let n : (n : Next) × (nth (length (since starts (own p past))) (program s p flick (own p past)) ≡ Some n) × (entry_made s past p flick n ≡ made) = option_map-some (entry_made s past p flick) _ made h in
    let bare : Entry = record { process = p; access = Some (valued s past flick n.0.access); marks = [] } in
    record {
      process = ap (λ (e : Entry). e.process) (sym n.2);
      rest = marks_at (length (since starts (own p past))) (program s p flick (bare ∷ own p past));
      marks = ap (λ (e : Entry). e.marks) (sym n.2);
    }

-- an entry that is alike to one that a step makes, with the right positions, equals it
pub is_made : (s : Setup) (past : Past) (e made : Entry) (flick : Bool) → stepped s past e.process flick ≡ Some made → IsAlike e made → TakesItsPlace s past e → e ≡ made
is_made s past e made flick h alike kept =
    let is : StepIs s past e.process made = step_is s past e.process flick made h in
    let marks : e.marks ≡ made.marks = same_marks (length (history s past)) e.marks made.marks is.rest (λ k r c. (kept k r c).0) is.marks alike.marks in
    λ i. let x : Entry = record { process = alike.process i; access = alike.access i; marks = marks i } in x

-- a step that its stage does not refuse adds the entry that the step makes
pub entry-step : (s : Setup) (past : Past) (p : ℕ) (flick : Bool) → p < s.processes → refused_at (event.Step p flick) (stage p past) ≡ None → entry_of s past (event.Step p flick) ≡ stepped s past p flick
entry-step s past p flick below h = go (nat_lt p s.processes) (is_less p s.processes below) (refused_at (event.Step p flick) (stage p past)) h
  where
    is_less : (a b : ℕ) → a < b → nat_lt a b ≡ true
    is_less a b l = grind (arith, nat_tests)

    go : (b : Bool) → b ≡ true → (r : Option Refusal) → r ≡ None →
        elim (cond b (elim r as (λ _. Option Refusal) [ Some x ↦ Some x | None ↦ None ]) (Some NoProcess)) as (λ _. Option Entry) [ Some r ↦ None | None ↦ stepped s past p flick ] ≡ stepped s past p flick
    go true k None l = refl
    go true k (Some r) l = cc
    go false k r l = cc

-- the step of a process that owes an entry is not refused by its stage
pub owes : (s : Setup) (past : Past) (e : Entry) (x : Stage) → OwesAt x s past e → ((flick : Bool) → refused_at (event.Step e.process flick) x ≡ None)
owes s past e stages.Idle h flick = absurd h
owes s past e stages.Down h flick = absurd h
owes s past e stages.Settling h flick = refl
owes s past e stages.Doorway h flick = refl
owes s past e stages.Waiting h flick = refl
owes s past e stages.Inside h flick = refl
owes s past e stages.Leaving h flick = refl

-- the entry that a process owes is a step of its program or of its memory unit
pub makes : (s : Setup) (past : Past) (e : Entry) (x : Stage) → OwesAt x s past e → (x ≡ stages.Settling → IsMade s past e) → IsMade s past e
makes s past e stages.Idle h unit = absurd h
makes s past e stages.Down h unit = absurd h
makes s past e stages.Settling h unit = unit refl
makes s past e stages.Doorway h unit = h
makes s past e stages.Waiting h unit = h
makes s past e stages.Inside h unit = h
makes s past e stages.Leaving h unit = h

pub recovers : (s : Setup) (past : Past) (e : Entry) → KeepsAll s past e → IsOfEvent s past e
recovers s past e kept = go (has reports_event e) (kept law.Program).1
  where
    go : (b : Bool) → elim b as (λ _. Type 0) [ true ↦ IsOfEvent s past e | false ↦ OwesAt (stage e.process past) s past e ] → IsOfEvent s past e
    go true h = h
    go false h =
        let m : IsMade s past e = makes s past e (stage e.process past) h (kept law.Unit) in (
          event.Step e.process m.0,
          entry-step s past e.process m.0 (kept law.Program).0 (owes s past e (stage e.process past) h m.0)
              ∙ m.2 ∙ ap Some (sym (is_made s past e m.1 m.0 m.2 m.3 (kept law.History))),
        )
