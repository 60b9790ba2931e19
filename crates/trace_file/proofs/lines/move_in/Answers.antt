use Rattle.std.proofs.Common.{refl}
use Rattle.files.specs.{words_of}
use Rattle.trace.specs.declared.accesses.CellMove.TheVariants as move
use Rattle.trace_file.specs.declared.keywords.MoveWord.TheVariants as word
use Rattle.trace_file.proofs.LineWords.{for_name, of_cas, of_two, of_value}
use Rattle.trace_file.proofs.lines.move_in.Goals as goal

pub returns-in_ok-value-in-Write : goal.returns-in_ok-value-in-Write
returns-in_ok-value-in-Write c =
    let read = c.in_ok-value-in-Write in
    for_name c.args.name word.Write _ _ _ c.in-Write.is (of_value word.Write move.Write (words_of c.args.line.now) read.value read.behind.now (λ ws. refl) read.ensures)

pub returns-in_ok-value-in-Value : goal.returns-in_ok-value-in-Value
returns-in_ok-value-in-Value c =
    let read = c.in_ok-value-in-Value in
    for_name c.args.name word.Value _ _ _ c.in-Value.is (of_value word.Value move.Value (words_of c.args.line.now) read.value read.behind.now (λ ws. refl) read.ensures)

pub returns-in_ok-value-in-Set : goal.returns-in_ok-value-in-Set
returns-in_ok-value-in-Set c =
    let read = c.in_ok-value-in-Set in
    for_name c.args.name word.Set _ _ _ c.in-Set.is (of_value word.Set move.Set (words_of c.args.line.now) read.value read.behind.now (λ ws. refl) read.ensures)

pub returns-in_ok-value-in-Get : goal.returns-in_ok-value-in-Get
returns-in_ok-value-in-Get c =
    let read = c.in_ok-value-in-Get in
    for_name c.args.name word.Get _ _ _ c.in-Get.is (of_value word.Get move.Get (words_of c.args.line.now) read.value read.behind.now (λ ws. refl) read.ensures)

pub returns-in_ok-gives-in-Swap : goal.returns-in_ok-gives-in-Swap
returns-in_ok-gives-in-Swap c =
    let first = c.in_ok-new-in-Swap in
    let last = c.in_ok-gives-in-Swap in
    for_name c.args.name word.Swap _ _ _ c.in-Swap.is (of_two word.Swap move.Swap (words_of c.args.line.now) first.new last.gives first.behind.now last.behind.now (λ ws. refl) first.ensures last.ensures)

pub returns-in_ok-gives-in-Add : goal.returns-in_ok-gives-in-Add
returns-in_ok-gives-in-Add c =
    let first = c.in_ok-addend-in-Add in
    let last = c.in_ok-gives-in-Add in
    for_name c.args.name word.Add _ _ _ c.in-Add.is (of_two word.Add move.Add (words_of c.args.line.now) first.addend last.gives first.behind.now last.behind.now (λ ws. refl) first.ensures last.ensures)

pub returns-in_ok-gives-in-Cas : goal.returns-in_ok-gives-in-Cas
returns-in_ok-gives-in-Cas c =
    let first = c.in_ok-expected-in-Cas in
    let second = c.in_ok-new-in-Cas in
    let last = c.in_ok-gives-in-Cas in
    for_name c.args.name word.Cas _ _ _ c.in-Cas.is (of_cas (words_of c.args.line.now) first.expected second.new last.gives first.behind.now second.behind.now last.behind.now first.ensures second.ensures last.ensures)
