use Rattle.std.proofs.Common.{ap, sym, subst, ◌∙◌, arith}
use Rattle.board.specs.{IsNext, IsTied, nothing, word_of, word_of_copy, words_in}
use Rattle.board.proofs.Ties.{is_next, is_written, no_end, there_at}
use Rattle.board.proofs.WordNumbers.{word_below}
use Rattle.board.proofs.steps.word_step.Goals as goal

pub read-requires : goal.read-requires
read-requires c = let s = c.args.words.now.key in let n = c.next-access.result in
    let low = word_below s n (there_at s c.args.pending c.args.process.now c.args.value.now c.args.seat.now.me.0 n c.requires.tied c.next-access.ensures.in_range) in
    record {
      place = (c.requires.table, omega (arith, low, (c.word_of-word.ensures.word ∙ ap (word_of_copy c.args.setup.now) c.of.ensures), c.requires.size, ap (λ s. word_of s n) c.requires.key, ap words_in c.requires.key));
      tied = (c.args.value.now, c.requires.tied);
      next = (
        n,
        is_next s c.args.pending c.args.process.now c.args.value.now c.args.seat.now.me.0 c.args.flick c.word_of-word.result n c.requires.tied c.requires.enabled c.next-access.ensures.access ((c.word_of-word.ensures.word ∙ ap (word_of_copy c.args.setup.now) c.of.ensures) ∙ ap (λ s. word_of s n) (sym c.requires.key)),
        c.in-BeginRead.is,
      );
      enabled = c.requires.enabled;
    }

pub unreachable-requires : goal.unreachable-requires
unreachable-requires c = let s = c.args.words.now.key in let n = c.next-access.result in
    no_end s c.args.pending c.args.process.now c.args.value.now c.args.flick c.in-EndRead.field-0 c.word_of-word.result n c.args.seat.now.me.0 c.requires.tied
    (is_next s c.args.pending c.args.process.now c.args.value.now c.args.seat.now.me.0 c.args.flick c.word_of-word.result n c.requires.tied c.requires.enabled c.next-access.ensures.access ((c.word_of-word.ensures.word ∙ ap (word_of_copy c.args.setup.now) c.of.ensures) ∙ ap (λ s. word_of s n) (sym c.requires.key)))
    c.in-EndRead.is

pub returns-in-BeginRead-clause-tied : goal.returns-in-BeginRead-clause-tied
returns-in-BeginRead-clause-tied c = c.read.ensures.tied c.args.value.now c.requires.tied

pub write-requires : goal.write-requires
write-requires c = let s = c.args.words.now.key in let n = c.next-access.result in
    let low = word_below s n (there_at s c.args.pending c.args.process.now c.args.value.now c.args.seat.now.me.0 n c.requires.tied c.next-access.ensures.in_range) in
    record {
      place = (c.requires.table, omega (arith, low, (c.word_of-word.ensures.word ∙ ap (word_of_copy c.args.setup.now) c.of.ensures), c.requires.size, ap (λ s. word_of s n) c.requires.key, ap words_in c.requires.key));
      next = (
        c.args.value.now,
        (
          n,
          c.requires.tied,
          is_next s c.args.pending c.args.process.now c.args.value.now c.args.seat.now.me.0 c.args.flick c.word_of-word.result n c.requires.tied c.requires.enabled c.next-access.ensures.access ((c.word_of-word.ensures.word ∙ ap (word_of_copy c.args.setup.now) c.of.ensures) ∙ ap (λ s. word_of s n) (sym c.requires.key)),
          is_written n.how c.in_default.not-BeginRead c.in_default.not-EndRead,
          c.stored-new.ensures.word,
        ),
      );
      enabled = c.requires.enabled;
    }

pub returns-in_default : goal.returns-in_default
returns-in_default c = let s = c.args.words.now.key in let n = c.next-access.result in
    let next : IsNext s c.args.process.now c.args.flick c.word_of-word.result n =
    is_next s c.args.pending c.args.process.now c.args.value.now c.args.seat.now.me.0 c.args.flick c.word_of-word.result n c.requires.tied c.requires.enabled c.next-access.ensures.access ((c.word_of-word.ensures.word ∙ ap (word_of_copy c.args.setup.now) c.of.ensures) ∙ ap (λ s. word_of s n) (sym c.requires.key)) in
    record {
      same = c.write.ensures.same;
      tied = subst (λ value. IsTied s nothing c.write.new.process value c.write.new.seat.me.0) (sym c.stored-new.ensures.value)
          (c.write.ensures.tied c.args.value.now c.word_of-word.result n c.requires.tied next (is_written n.how c.in_default.not-BeginRead c.in_default.not-EndRead));
      step = c.write.ensures.step;
      leads = c.write.ensures.leads;
      lists = c.write.ensures.lists;
      fits = c.write.ensures.fits;
    }
