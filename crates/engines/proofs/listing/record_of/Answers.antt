use Rattle.std.proofs.Common.{◌≡◌, ◌∷◌, ◌+◌, ℕ, List, reverse, take, ap, sym, subst, ◌∙◌, arith}
use Rattle.std.proofs.lemmas.List.{reverse-reverse}
use Rattle.plain_store.specs.{Setup}
use Rattle.scenario_run.specs.model.{Event, KeepsMainTheoremThroughout, past_of}
use Rattle.scenario_run.proofs.history_laws.MainTheorems.{throughout}
use Rattle.scenario_run.specs.world.Shows.{Shows}
use Rattle.engines.specs.{Records}
use Rattle.engines.proofs.FitRecords.{given_again}
use Rattle.engines.proofs.Recorded.{all_recorded, events_more}
use Rattle.engines.proofs.listing.record_of.Goals as goal

pub loop-event-preserved : goal.loop-event-preserved
loop-event-preserved c =
    let s : Setup = c.args.setup.now in
    let k : ℕ = c.loop-event.event-index in
    let before : List Event = reverse (take k c.args.events.now) in
    let here : Event = c.event-item.result in
    let more : reverse (take (k + 1) c.args.events.now) ≡ here ∷ before = events_more c.args.events.now k here c.loop-event-test.true c.event-item.is in
    let made : Records c.loop-event.world c.record_event.new.world (here ∷ before) c.record_event.new.entries.items =
    c.in_ok-record_event.ensures before c.loop-event.invariant.shows (subst (λ (s : Setup). c.loop-event.entries.items ≡ reverse (past_of s before)) (sym c.loop-event.invariant.setup) c.loop-event.invariant.entries) in
    record {
      shows = subst (λ (l : List Event). Shows c.record_event.new.world l) (sym more) made.shows;
      setup = made.setup ∙ c.loop-event.invariant.setup;
      entries = made.entries_are ∙ ap (λ (s : Setup). reverse (past_of s (here ∷ before))) c.loop-event.invariant.setup ∙ ap (λ (l : List Event). reverse (past_of s l)) (sym more);
    }

pub returns-clause-given : goal.returns-clause-given
returns-clause-given c =
    let s : Setup = c.args.setup.now in
    let events : List Event = c.args.events.now in
    let now = c.loop-event.invariant in
    (all_recorded s events c.loop-event.event-index c.loop-event.world c.loop-event.entries.items (omega arith) now.shows now.setup now.entries).0

pub returns-clause-entries : goal.returns-clause-entries
returns-clause-entries c =
    let s : Setup = c.args.setup.now in
    let events : List Event = c.args.events.now in
    let now = c.loop-event.invariant in
    (all_recorded s events c.loop-event.event-index c.loop-event.world c.loop-event.entries.items (omega arith) now.shows now.setup now.entries).1

pub returns-clause-main_theorem : goal.returns-clause-main_theorem
returns-clause-main_theorem c =
    let s : Setup = c.args.setup.now in
    let events : List Event = c.args.events.now in
    subst (KeepsMainTheoremThroughout s) (sym (ap reverse (returns-clause-entries c) ∙ reverse-reverse (past_of s (reverse events)))) (throughout s c.requires (reverse events) (returns-clause-given c))

pub returns-clause-fit : goal.returns-clause-fit
returns-clause-fit c = (given_again c.args.setup.now c.requires c.args.events.now (returns-clause-given c) (omega arith) c.loop-event.entries.items (returns-clause-entries c)).0

pub returns-clause-read_again : goal.returns-clause-read_again
returns-clause-read_again c = (given_again c.args.setup.now c.requires c.args.events.now (returns-clause-given c) (omega arith) c.loop-event.entries.items (returns-clause-entries c)).1
