use Rattle.std.proofs.Common.{◌≡◌, ℕ, List, [], ◌∷◌, ◌++◌, Option, Some, None, Ok, ap, subst, sym, ◌∙◌}
use Rattle.std.specs.Option.{option_to_list}
use Rattle.plain_store.specs.{Setup}
use Rattle.files.specs.{words_of, words_read}
use Rattle.model.specs.{Entry}
use Rattle.record_file.specs.{Progress, cleared, entry_in, record_grammar}
use Rattle.judge.specs.Firsts.{HasObservedFirsts}
use Rattle.judge.specs.Trials.{Observes}
use Rattle.judge.proofs.Firsts.{steps_by}
use Rattle.judge.proofs.Lines.{quiet_is_cleared}
use Rattle.judge.proofs.Trials.{ends_observed, ends_quiet}
use Rattle.judge.proofs.trial.Trial.pass.Goals as goal

pub returns-then-is_some-2 : goal.returns-then-is_some-2
returns-then-is_some-2 g c = λ before entries numbers corresponds.
    steps_by g.H.EntryObserver.HasObserved g.H.EntryObserver.count g.met.H.EntryObserver.counts c.args.limit c.args.number c.args.line.now c.args.self.now.reader c.args.self.now.observer c.read_step.result before entries numbers c.requires.short c.requires.full
    (sym c.is_some.ensures ∙ c.if-is_some.true) (sym c.is_some-then-is_some.ensures ∙ c.if-is_some-2.true) c.read_step.ensures.line c.read_step.ensures.sound corresponds

pub returns-in_ok-pass_entry : goal.returns-in_ok-pass_entry
returns-in_ok-pass_entry g c =
    let old = c.args.self.now in
    let observed = HasObservedFirsts (Some c.args.limit) g.H.EntryObserver.HasObserved in
    let now : Progress = c.in-Some.reader in
    let e : Entry = c.in-Some-last_entry._entry.now in
    let remaining : Some c.forget_entry.new.self ≡ cleared (Some now) = ap (λ (p : Progress). Some p) c.forget_entry.ensures in
    let says : now.entry ≡ Some e = c.in-Some-last_entry.ensures in
    let read : words_read record_grammar (words_of c.args.line.now) old.reader ≡ Ok (Some now) = c.in_ok-read_any_line.ensures ∙ ap (λ (o : Option Progress). Ok o) c.in-Some.is in
    let observes = subst (λ (s : Setup). (entries : List Entry) (numbers : List ℕ) → Observes observed old.observer s entries numbers → Observes observed c.pass_entry.new.observer s (entries ++ e ∷ []) (numbers ++ c.args.number ∷ [])) c.setup.ensures.value (c.in_ok-pass_entry.ensures.observed e c.args.number) in
    λ before entries numbers corresponds. ends_observed observed c.args.number c.args.line.now old.reader (Some c.forget_entry.new.self) now e old.observer c.pass_entry.new.observer before entries numbers c.requires.short corresponds read says remaining c.in_ok-pass_entry.ensures.present observes

pub returns-in_default-last_entry : goal.returns-in_default-last_entry
returns-in_default-last_entry g c =
    let old = c.args.self.now in
    let now : Progress = c.in-Some.reader in
    let says : now.entry ≡ None = c.in_default-last_entry.ensures in
    let none : entry_in (Some now) ≡ [] = ap option_to_list says in
    let read : words_read record_grammar (words_of c.args.line.now) old.reader ≡ Ok (Some now) = c.in_ok-read_any_line.ensures ∙ ap (λ (o : Option Progress). Ok o) c.in-Some.is in
    λ before entries numbers corresponds. ends_quiet (HasObservedFirsts (Some c.args.limit) g.H.EntryObserver.HasObserved) c.args.number c.args.line.now old.reader (Some now) (Some now) old.observer before entries numbers c.requires.short corresponds read (quiet_is_cleared now says) none
