use Rattle.std.proofs.Common.{ap, codes, refl, sym, ◌∙◌}
use Rattle.files.specs.{words_of}
use Rattle.trace.specs.declared.accesses.CellMove.TheVariants as move
use Rattle.trace_file.specs.declared.keywords.MoveWord.TheVariants as word
use Rattle.trace_file.proofs.ShortWays.{whole_value}
use Rattle.trace_file.proofs.short_lines.short_move.Goals as goal

pub returns-in-Ok : goal.returns-in-Ok
returns-in-Ok c = whole_value (codes "get") word.Get move.Get (words_of c.args.text.now) c.in-Some.word.now c.in-Ok.value (ap words_of c.in-Some.ensures) refl (λ ws. refl) (sym c.in-Ok.ensures)

pub returns-in-Ok-value : goal.returns-in-Ok-value
returns-in-Ok-value c = whole_value (codes "set") word.Set move.Set (words_of c.args.text.now) c.in-Some-after_set.word.now c.in-Ok-value.value (ap words_of c.in-Some-after_set.ensures) refl (λ ws. refl) (sym c.in-Ok-value.ensures)

pub returns-in-Ok-value-2 : goal.returns-in-Ok-value-2
returns-in-Ok-value-2 c = whole_value (codes "value") word.Value move.Value (words_of c.args.text.now) c.in-Some-after_value.word.now c.in-Ok-value-2.value (ap words_of c.in-Some-after_value.ensures) refl (λ ws. refl) (sym c.in-Ok-value-2.ensures)

pub returns-in-Ok-value-3 : goal.returns-in-Ok-value-3
returns-in-Ok-value-3 c = whole_value (codes "write") word.Write move.Write (words_of c.args.text.now) c.in-Some-after_write.word.now c.in-Ok-value-3.value (ap words_of c.in-Some-after_write.ensures) refl (λ ws. refl) (sym c.in-Ok-value-3.ensures)
