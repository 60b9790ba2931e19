use Rattle.std.proofs.Common.{◌≡◌, List, [], ◌∷◌, ◌++◌, ℕ, Option, Some, None, Ok, refl, ap, subst, ◌∙◌}
use Rattle.std.specs.Option.{option_to_list}
use Rattle.files.specs.{words_of, words_read}
use Rattle.trace.specs.{TraceEntry, TraceSetup}
use Rattle.trace_engine.specs.trace_file.TraceFiles.{TraceProgress, cleared, entry_in, trace_grammar}
use Rattle.trace_engine.specs.{Observes}
use Rattle.trace_engine.proofs.LineReads.{quiet_is_cleared}
use Rattle.trace_engine.proofs.Trials.{ends_observed, ends_quiet}
use Rattle.trace_draw.specs.{HasShown, NothingYet, with_output}
use Rattle.trace_draw.proofs.Ends.{nothing_more, some_shown}
use Rattle.trace_draw.proofs.sheet.TraceSheet.read.Goals as goal

pub returns-in_ok-draw_entry-clause-drawn : goal.returns-in_ok-draw_entry-clause-drawn
returns-in_ok-draw_entry-clause-drawn g c =
    let old = c.args.self.now in
    let now : TraceProgress = c.in-Some.reader in
    let e : TraceEntry = c.in-Some-last_entry.entry.now in
    let a = g.W.Sink.taken c.args.output.now in
    let b = g.W.Sink.taken c.draw_entry.new.output in
    let picture = c.draw_entry.new.picture in
    let some = c.in_ok-draw_entry.ensures.present in
    let remaining : Some c.forget_entry.new.self ≡ cleared (Some now) = ap (λ (p : TraceProgress). Some p) c.forget_entry.ensures in
    let says : now.entry ≡ Some e = c.in-Some-last_entry.ensures in
    let read : words_read trace_grammar (words_of c.args.line.now) old.reader ≡ Ok (Some now) = c.in-Ok.ensures ∙ ap (λ (o : Option TraceProgress). Ok o) c.in-Some.is in
    let draws = subst (λ (s : TraceSetup). (first : Option (List ℕ)) (entries : List TraceEntry) (numbers : List ℕ) → NothingYet old.picture first a → Observes (HasShown old.view first) (with_output a old.picture) s entries numbers →
    Observes (HasShown old.view first) (with_output b picture) s (entries ++ e ∷ []) (numbers ++ c.args.number ∷ [])) c.setup.ensures.value c.in_ok-draw_entry.ensures.drawn in
    λ first before entries numbers corresponds. record {
      goes_on = ends_observed (HasShown old.view first) c.args.number c.args.line.now old.reader (Some c.forget_entry.new.self) now e (with_output a old.picture) (with_output b picture) before entries numbers c.requires.short corresponds.read_up_to read says remaining
          (some_shown b picture some) (λ entries numbers observed. draws first entries numbers corresponds.nothing observed);
      nothing = nothing_more picture first b some;
    }

pub returns-in_default-last_entry-clause-drawn : goal.returns-in_default-last_entry-clause-drawn
returns-in_default-last_entry-clause-drawn g c =
    let old = c.args.self.now in
    let now : TraceProgress = c.in-Some.reader in
    let a = g.W.Sink.taken c.args.output.now in
    let says : now.entry ≡ None = c.in_default-last_entry.ensures in
    let none : entry_in (Some now) ≡ [] = ap option_to_list says in
    let read : words_read trace_grammar (words_of c.args.line.now) old.reader ≡ Ok (Some now) = c.in-Ok.ensures ∙ ap (λ (o : Option TraceProgress). Ok o) c.in-Some.is in
    λ first before entries numbers corresponds. record {
      goes_on = ends_quiet (HasShown old.view first) c.args.number c.args.line.now old.reader (Some now) (Some now) (with_output a old.picture) before entries numbers c.requires.short corresponds.read_up_to read (quiet_is_cleared now says) none;
      nothing = corresponds.nothing;
    }

pub returns-in_default-clause-drawn : goal.returns-in_default-clause-drawn
returns-in_default-clause-drawn g c =
    let old = c.args.self.now in
    let a = g.W.Sink.taken c.args.output.now in
    let read : words_read trace_grammar (words_of c.args.line.now) old.reader ≡ Ok None = c.in-Ok.ensures ∙ ap (λ (o : Option TraceProgress). Ok o) c.in_default.is in
    λ first before entries numbers corresponds. record {
      goes_on = ends_quiet (HasShown old.view first) c.args.number c.args.line.now old.reader c.read_trace_line.new.read None (with_output a old.picture) before entries numbers c.requires.short corresponds.read_up_to read c.in_default.is refl;
      nothing = corresponds.nothing;
    }
