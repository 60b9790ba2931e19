use Rattle.std.proofs.Common.{◌≡◌, ℕ, ◌+◌, ◌<◌, true, List, [], ◌∷◌, ◌++◌, length, Some, Ok, refl, ap, sym, ◌∙◌, arith}
use Rattle.std.proofs.lemmas.Bool.Decides.{nat_tests}
use Rattle.std.proofs.lemmas.List.{length-append}
use Rattle.files.specs.{words_of}
use Rattle.trace.specs.{LockMark}
use Rattle.trace_file.specs.{is_sign, mark_word_of, marks_read, parts_of}
use Rattle.trace_file.proofs.LineWords.{one_mark}
use Rattle.trace_file.proofs.lines.marks_in.Goals as goal

pub marks-preserved : goal.marks-preserved
marks-preserved c =
    let items : List LockMark = c.marks.marks.items in
    let mark : LockMark = c.in_ok-mark.mark in
    let name : List ℕ = c.in_ok-name.name.now in
    let more : c.push_reserved.new.self.items ≡ items ++ mark ∷ [] = c.push_reserved.ensures.items in
    let count : length c.push_reserved.new.self.items ≡ length items + 1 = ap length more ∙ length-append items (mark ∷ []) in
    let signed : is_sign c.in-Some.sign.now ≡ true = grind (arith, nat_tests) in
    let named : mark_word_of name ≡ Some mark = sym c.in_ok-mark.ensures in
    let few : length items < 4 = omega (arith, c.len.ensures.value) in
    record {
      room = omega (arith, c.push_reserved.ensures.capacity, c.marks.invariant.room);
      read = λ parts all cut read.
          let both = one_mark (words_of c.marks.rest.now) (words_of c.in_ok-name.behind.now) c.in-Some.sign.now name mark items all parts (c.in-Some.ensures.value ∙ ap (λ ws. c.in-Some.sign.now ∷ ws) c.in_ok-name.ensures.value) signed named few cut
          (sym (ap (λ ms. marks_read (length items + 1) parts (Ok ms)) more) ∙ sym (ap (λ n. marks_read n parts (Ok c.push_reserved.new.self.items)) count) ∙ read) in
          c.marks.invariant.read ((name ∷ []) ∷ parts) all both.0 both.1;
    }

pub returns : goal.returns
returns c =
    let all = c.marks.invariant.read [] (Ok c.marks.marks.items) (ap parts_of c.in_default.ensures.value) refl in
    record { parts = all.parts; are = all.are; say = all.say }
