use Rattle.std.proofs.Common.{◌≡◌, ℕ, ◌+◌, ◌&&◌, ◌||◌, not, List, ◌++◌, arith, drop, map, ap, sym, ◌∙◌}
use Rattle.markup.specs.{drawings}
use Rattle.picture_layout.specs.{Column, bar_of, lane_in, seen, lies_in}
use Rattle.picture.specs.{Stretch, free_left, is_word, says_word, stretch_at, stretch_word, words_from}
use Rattle.picture.proofs.Drawn.{drawn_on}
use Rattle.picture.proofs.Steps.{words_end, words_stay}
use Rattle.picture.proofs.bands.Band.draw_words.Goals as goal

pub loop-column-preserved : goal.loop-column-preserved
loop-column-preserved c =
    let columns : List Column = c.args.self.now.columns.items in
    let k : ℕ = c.loop-column.column-index in
    let p : ℕ = c.args.process in
    let middle : ℕ = bar_of (lane_in c.args.self.now.layout p) + 3 in
    let end : ℕ = c.args.self.now.layout.end in
    let column : Column = c.column-item.result in
    let stretch : Stretch = c.loop-column.stretch in
    let begins : c.in_ok-next.next ≡ stretch_at p (seen column) = c.in_ok-next.ensures in
    let said : c.in_ok-is_said.is_said ≡ says_word (free_left p (seen column)) column.x stretch = c.in_ok-is_said.ensures.says ∙ ap (λ free. says_word free column.x stretch) c.in_ok-free.ensures in
    record {
      read = c.in_ok-is_said.ensures.read ∙ c.loop-column.invariant.read;
      draws = drawn_on c.loop-column.markup c.draw.new.markup _ (words_from p middle end stretch (map seen (drop k columns))) (stretch_word (c.bar-middle.result + 3) c.in_ok-free.free column.x stretch)
          (words_from p middle end c.behind-stretch.result (map seen (drop (k + 1) columns)))
          (words_end columns k column (omega arith) (rw c.deref-column-items.ensures.value at c.column-item.is) p middle (c.bar-middle.result + 3) end c.in_ok-free.free stretch c.behind-stretch.result
          (sym (c.ends.ensures ∙ ap (λ (s : Stretch). lies_in p column.lane || not (is_word s.word stretch.word)) begins) ∙ c.if-not-ends.false)
          (ap (λ n. n + 3) (c.bar-middle.ensures.exact ∙ ap bar_of c.lane.ensures)) c.in_ok-free.ensures
          (c.behind-stretch.ensures ∙ (λ i. record (begins i) { is_said = is_word (begins i).word stretch.word && said i })))
          c.loop-column.invariant.draws c.in_ok-is_said.ensures.draws;
    }

pub loop-column-preserved-then-not-ends : goal.loop-column-preserved-then-not-ends
loop-column-preserved-then-not-ends c =
    let columns : List Column = c.args.self.now.columns.items in
    let k : ℕ = c.loop-column.column-index in
    let p : ℕ = c.args.process in
    let column : Column = c.column-item.result in
    let stretch : Stretch = c.loop-column.stretch in
    record {
      read = c.loop-column.invariant.read;
      draws = ap (λ shapes. c.loop-column.markup ++ drawings shapes)
          (sym (words_stay columns k column (omega arith) (rw c.deref-column-items.ensures.value at c.column-item.is) p (bar_of (lane_in c.args.self.now.layout p) + 3) c.args.self.now.layout.end stretch
          (sym (c.ends.ensures ∙ ap (λ (s : Stretch). lies_in p column.lane || not (is_word s.word stretch.word)) c.in_ok-next.ensures) ∙ c.if-not-ends.true)))
          ∙ c.loop-column.invariant.draws;
    }
