-- The number of changes that an event reports is the number of changes taken before it. The process has read this number as the greatest stamp.
use Rattle.std.proofs.Common.{◌≡◌, ℕ, ◌<◌, Bool, true, Some, refl, sym, ap, subst, ◌∙◌, arith}
use Rattle.std.proofs.lemmas.Option.{slice_get_within}
use Rattle.std.specs.Prelude.{IfSome, slice_get}
use Rattle.model.specs.{Event, past_of, process_of, value_of}
use Rattle.model.specs.declared.events.Event.TheVariants as event
use Rattle.laws.specs.{Doing, doing}
use Rattle.history_laws.specs.{changes_taken, stamp_read}
use Rattle.history_laws.proofs.ReadStamps.{stamps_count}
use Rattle.process.specs.{EventOutcome, ProcessState, StepOutcome, answered_at, changes_of_event, changes_read, changes_reported, marks_of, marks_on, marks_reported}
use Rattle.process.specs.declared.outcomes.EventOutcome.TheVariants as effect
use Rattle.process.specs.declared.outcomes.StepOutcome.TheVariants as outcome
use Rattle.process.proofs.TakingSteps.{takes, takes_cases}
use Rattle.world.specs.{CoreEventReportsChanges, CoreReportsChanges, CoreState, InEachCorePast, Seat, marks_made, with_history}
use Rattle.world.proofs.CoreLooks.{process-shown}
use Rattle.world.proofs.WorldOpen.{many-seats}

-- a process that may take its command has read the number of changes that were taken
read-taken : (c : CoreState) (p : ℕ) (flick v : Bool) (seat : Seat) → slice_get c.seats p ≡ Some seat → takes (marks_on seat.process flick v) ≡ true → InEachCorePast c (λ s past. changes_read seat.process.doing ≡ changes_taken s past)
read-taken c p flick v seat there takes_first taken events shows = stamps_count c.setup shows.good events shows.given p (changes_read seat.process.doing) below read
  where
    below : p < c.setup.processes
    below = let within = slice_get_within c.seats p seat there in let many = many-seats (with_history c taken) events shows in omega (arith, within, many)

    read : stamp_read (doing c.setup p (past_of c.setup events)) ≡ Some (changes_read seat.process.doing)
    read =
        ap (λ (now : ProcessState). stamp_read now.doing) (sym (process-shown c p seat there taken events shows))
        ∙ takes_cases (λ (d : Doing). stamp_read d ≡ Some (changes_read d)) (λ command number run versions. refl) (λ command number run versions store. refl)
        seat.process.setup seat.process.process seat.process.doing flick v takes_first

-- the process of an event that takes its command has read this number
made-taken : (c : CoreState) (what : Event) (seat : Seat) → slice_get c.seats (process_of what) ≡ Some seat → takes (marks_made c.registers seat what) ≡ true → InEachCorePast c (λ s past. changes_read seat.process.doing ≡ changes_taken s past)
made-taken c (event.Call p command) seat there takes_first = cc
made-taken c (event.Step p flick) seat there takes_first = read-taken c p flick (value_of (answered_at seat.process c.registers flick).how) seat there takes_first
made-taken c (event.Fail p) seat there takes_first = cc
made-taken c (event.Withdraw p) seat there takes_first = cc
made-taken c (event.Restart p) seat there takes_first = cc

-- a number is reported with the mark of the taken command alone
reports : (c : CoreState) (n : ℕ) (reported : EventOutcome) → (takes (marks_of reported) ≡ true → InEachCorePast c (λ s past. n ≡ changes_taken s past)) → IfSome (changes_of_event reported) (λ changes. changes ≡ n) → CoreEventReportsChanges c reported
reports c n (effect.Steps (outcome.Took reply changes)) counted is = λ taken events shows. is ∙ counted refl taken events shows
reports c n _ counted is = λ taken events shows. tt

-- the case of a step
pub step-changes : (c : CoreState) (p : ℕ) (flick v : Bool) (seat : Seat) (reported : StepOutcome) → slice_get c.seats p ≡ Some seat → marks_reported reported ≡ marks_on seat.process flick v →
    IfSome (changes_reported reported) (λ changes. changes ≡ changes_read seat.process.doing) → CoreReportsChanges c reported
step-changes c p flick v seat reported there marks is = reports c (changes_read seat.process.doing) (effect.Steps reported) (λ first. read-taken c p flick v seat there (sym (ap takes marks) ∙ first)) is

-- the case of an event, of a core that contracts see as another one
pub event-changes : (c d : CoreState) (what : Event) (seat : Seat) (reported : EventOutcome) → c ≡ d → slice_get c.seats (process_of what) ≡ Some seat → marks_of reported ≡ marks_made c.registers seat what →
    IfSome (changes_of_event reported) (λ changes. changes ≡ changes_read seat.process.doing) → CoreEventReportsChanges d reported
event-changes c d what seat reported view there marks is =
    subst (λ (x : CoreState). CoreEventReportsChanges x reported) view
    (reports c (changes_read seat.process.doing) reported (λ first. made-taken c what seat there (sym (ap takes marks) ∙ first)) is)
