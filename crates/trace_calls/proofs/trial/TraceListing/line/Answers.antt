use Rattle.std.proofs.Common.{◌≡◌, ℕ, List, [], ◌∷◌, ◌++◌, Option, Some, None, Ok, ap, subst, ◌∙◌}
use Rattle.std.specs.Option.{option_to_list}
use Rattle.files.specs.{words_of, words_read}
use Rattle.trace.specs.{TraceEntry, TraceSetup}
use Rattle.trace_file.specs.TraceFiles.{TraceProgress, cleared, entry_in, trace_grammar}
use Rattle.trace_engine.specs.{Observes}
use Rattle.trace_engine.proofs.LineReads.{quiet_is_cleared}
use Rattle.trace_engine.proofs.Trials.{ends_observed, ends_quiet}
use Rattle.trace_calls.specs.Tables.{HasTabled}
use Rattle.trace_calls.proofs.trial.TraceListing.line.Goals as goal

pub returns-in_ok-list : goal.returns-in_ok-list
returns-in_ok-list c =
    let old = c.args.self.now in
    let now : TraceProgress = c.in-Some.reader in
    let e : TraceEntry = c.in-Some-last_entry.entry.now in
    let remaining : Some c.forget_entry.new.self ≡ cleared (Some now) = ap (λ (p : TraceProgress). Some p) c.forget_entry.ensures in
    let says : now.entry ≡ Some e = c.in-Some-last_entry.ensures in
    let read : words_read trace_grammar (words_of c.args.line.now) old.reader ≡ Ok (Some now) = c.in_ok-read_trace_line.ensures ∙ ap (λ (o : Option TraceProgress). Ok o) c.in-Some.is in
    let observes = subst (λ (s : TraceSetup). (entries : List TraceEntry) (numbers : List ℕ) → Observes HasTabled old.lister s entries numbers → Observes HasTabled c.list.new.lister s (entries ++ e ∷ []) (numbers ++ c.args.number ∷ [])) c.setup.ensures.value (c.in_ok-list.ensures.listed c.args.number) in
    λ before entries numbers read_up_to. ends_observed HasTabled c.args.number c.args.line.now old.reader (Some c.forget_entry.new.self) now e old.lister c.list.new.lister before entries numbers c.requires.short read_up_to read says remaining c.in_ok-list.ensures.present observes

pub returns-in_default-last_entry : goal.returns-in_default-last_entry
returns-in_default-last_entry c =
    let old = c.args.self.now in
    let now : TraceProgress = c.in-Some.reader in
    let says : now.entry ≡ None = c.in_default-last_entry.ensures in
    let none : entry_in (Some now) ≡ [] = ap option_to_list says in
    let read : words_read trace_grammar (words_of c.args.line.now) old.reader ≡ Ok (Some now) = c.in_ok-read_trace_line.ensures ∙ ap (λ (o : Option TraceProgress). Ok o) c.in-Some.is in
    λ before entries numbers read_up_to. ends_quiet HasTabled c.args.number c.args.line.now old.reader (Some now) (Some now) old.lister before entries numbers c.requires.short read_up_to read (quiet_is_cleared now says) none
