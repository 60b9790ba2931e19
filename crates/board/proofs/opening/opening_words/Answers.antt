use Rattle.std.proofs.Common.{◌≡◌, ◌+◌, sym, ap, ◌∙◌, arith}
use Rattle.board.specs.{words_in}
use Rattle.board.proofs.WordNumbers.{opening_more}
use Rattle.board.proofs.opening.opening_words.Goals as goal

pub loop-word-preserved : goal.loop-word-preserved
loop-word-preserved c = let i = c.loop-word.invariant in let pushed = c.push_reserved.ensures in
    record {
      len = pushed.len ∙ ap (λ n. n + 1) i.len;
      own = i.own;
      room = pushed.capacity ∙ i.room;
      each = opening_more c.args.setup.now c.loop-word.words.items c.push_reserved.new.self.items c.loop-word.word c.opening_word.result (sym c.loop-word.words.ok.0 ∙ i.len) pushed.items c.opening_word.ensures i.each;
    }

pub returns : goal.returns
returns c =
    let i = c.loop-word.invariant in
    let all : c.loop-word.word ≡ words_in c.args.setup.now = omega (arith, c.loop-word-test.false, c.loop-word.auto.word-end, c.words_in-count.ensures.words) in
    record { length = i.len ∙ all; words = λ k below. i.each k (omega (arith, below, all)) }
