use Rattle.std.proofs.Common.{◌≡◌, List, [], ◌∷◌, ℕ, Option, Some, None, Ok, refl, ap, subst, ◌∙◌}
use Rattle.std.specs.Option.{option_to_list}
use Rattle.model.specs.plain_store.{Setup}
use Rattle.scenario.specs.files.{words_of, words_read}
use Rattle.model.specs.{Entry, Past}
use Rattle.judge.specs.record_file.{Progress, cleared, entry_in, record_grammar}
use Rattle.draw.specs.{DrawsPast, RecordPicture}
use Rattle.judge.proofs.Lines.{quiet_is_cleared}
use Rattle.draw.proofs.Lines.{ends_drawn, ends_quiet}
use Rattle.draw.proofs.records.sheet.RecordPicture.any_line.Goals as goal

pub returns-in_ok-take-clause-drawn : goal.returns-in_ok-take-clause-drawn
returns-in_ok-take-clause-drawn g c =
    let old : RecordPicture = c.args.self.now in
    let now : Progress = c.in-Some.reader in
    let e : Entry = c.in-Some-last_entry.entry.now in
    let t : RecordPicture = record old { reader = Some c.forget_entry.new.self; entries = c.take.new.self } in
    let remaining : Some c.forget_entry.new.self ≡ cleared (Some now) = ap (λ (p : Progress). Some p) c.forget_entry.ensures in
    let says : now.entry ≡ Some e = c.in-Some-last_entry.ensures in
    let read : words_read record_grammar (words_of c.args.line.now) old.reader ≡ Ok (Some now) = c.in-Ok.ensures ∙ ap (λ (o : Option Progress). Ok o) c.in-Some.is in
    let draws = subst (λ (s : Setup). (past : Past) (first : Option (List ℕ)) → DrawsPast old.options old.form old.entries s past first (g.W.Sink.taken c.args.output.now) → DrawsPast old.options old.form t.entries s (e ∷ past) first (g.W.Sink.taken c.take.new.output)) c.setup.ensures.value c.in_ok-take.ensures.drawn in
    λ before past first corresponds. ends_drawn c.args.line.now before now e old t past first _ _ c.requires.short corresponds read says remaining refl refl draws

pub returns-in_default-last_entry-clause-drawn : goal.returns-in_default-last_entry-clause-drawn
returns-in_default-last_entry-clause-drawn g c =
    let old : RecordPicture = c.args.self.now in
    let now : Progress = c.in-Some.reader in
    let t : RecordPicture = record old { reader = Some now } in
    let says : now.entry ≡ None = c.in_default-last_entry.ensures in
    let none : entry_in (Some now) ≡ [] = ap option_to_list says in
    let read : words_read record_grammar (words_of c.args.line.now) old.reader ≡ Ok (Some now) = c.in-Ok.ensures ∙ ap (λ (o : Option Progress). Ok o) c.in-Some.is in
    λ before past first corresponds. ends_quiet c.args.line.now before (Some now) old t past first _ _ c.requires.short corresponds read (quiet_is_cleared now says) refl refl refl refl none

pub returns-in_default-clause-drawn : goal.returns-in_default-clause-drawn
returns-in_default-clause-drawn g c =
    let old : RecordPicture = c.args.self.now in
    let t : RecordPicture = record old { reader = c.read_any_line.new.read } in
    let read : words_read record_grammar (words_of c.args.line.now) old.reader ≡ Ok None = c.in-Ok.ensures ∙ ap (λ (o : Option Progress). Ok o) c.in_default.is in
    λ before past first corresponds. ends_quiet c.args.line.now before None old t past first _ _ c.requires.short corresponds read c.in_default.is refl refl refl refl refl
