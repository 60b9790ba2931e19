use Rattle.std.proofs.Common.{◌≡◌, ◌<◌, ◌+◌, ◌*◌, ◌%◌, ℕ, Bool, List, [], set, length, arith, subst, sym, ◌∙◌, ap}
use Rattle.std.proofs.lemmas.List.{get_or_default}
use Rattle.safe_bit.specs.Cell.{Cell}
use Rattle.reader_copies.specs.{after_write, flag_in, over}
use Rattle.registers.specs.{CursorState, HasLanes, LeadsTo, bits_kept, first_lane, lane_of}
use Rattle.registers.specs.declared.cursor.RegisterAccessKind.TheVariants.{Writes}
use Rattle.registers.proofs.AtOnce.{lanes-written, read-at_once, write-at_once}
use Rattle.registers.proofs.Words.{word-written}
use Rattle.registers.proofs.Held.{lane-found}
use Rattle.registers.proofs.Over.{lanes-above, length-over_lanes, over_lanes}
use Rattle.registers.proofs.memory.BitMemory.run_word.Goals as goal

pub returns-in-Some-clause-leads : goal.returns-in-Some-clause-leads
returns-in-Some-clause-leads c =
    let cur = c.args.cursor.now in
    let n : ℕ = c.bits_ahead-bits.result in
    let lane : ℕ = c.cursor.inside.lane in
    let lane_is : lane ≡ first_lane cur = c.cursor.invariant.lane_is ∙ ap first_lane c.cursor.view_is in
    let inside : first_lane cur < length c.args.self.now = omega (arith, c.requires.fits.lanes.lanes, c.requires.fits.copy) in
    let P : List (List Cell) → Type 0 = λ m. LeadsTo (2 * n) cur c.args.self.now c.keep_word.new.self (set m lane c.read_word.new.self) in
    subst P (sym c.self.view_is)
    (read-at_once n lane c.cursor.inside.bit c.in-Some.word cur c.keep_word.new.self c.args.self.now c.index_mut.result.now c.read_word.new.self
    (sym c.run.ensures ∙ c.in-Reads.is) (c.bits_ahead-bits.ensures.ahead (omega arith)) c.requires.fits lane_is (ap (λ (x : CursorState). x.bit) c.cursor.view_is)
    (lane-found c.self.inside.lanes.items c.args.self.now lane (first_lane cur) c.index_mut.result.now c.self.view_is lane_is c.index_mut.ensures.value inside)
    c.in-Some.ensures.quiet c.in-Some.ensures.word c.in-Some.ensures.read c.keep_word.ensures)

pub write_word-requires-clause-in_range : goal.write_word-requires-clause-in_range
write_word-requires-clause-in_range c =
    let cur = c.args.cursor.now in
    let r = c.cursor.inside in
    let lane_is : r.lane ≡ first_lane cur = c.cursor.invariant.lane_is ∙ ap first_lane c.cursor.view_is in
    let bit_is : r.bit ≡ cur.bit = ap (λ (x : CursorState). x.bit) c.cursor.view_is in
    let copies_are : r.copies ≡ cur.copies = ap (λ (x : CursorState). x.copies) c.cursor.view_is in
    let g : List Cell → List Cell = λ x. over c.bits_ahead-bits.result (λ i y. after_write (flag_in c.word_at-word.result (i % 64)) y) r.bit x in
    let old : List (List Cell) = c.self.inside.lanes.items in
    let now : List (List Cell) = c.loop-copy.self-inside.lanes.items in
    let copy : ℕ = c.loop-copy.copy in
    let at : ℕ = r.lane + copy in
    let there : HasLanes c.args.self.now (first_lane cur) cur.copies cur.width = lanes-written cur c.args.self.now (sym c.run.ensures ∙ c.in-Writes.is) c.requires.fits in
    let long : length now ≡ length c.args.self.now = ap length c.loop-copy.invariant ∙ length-over_lanes copy g r.lane old ∙ ap length c.self.view_is in
    let below : copy < cur.copies = omega (arith, c.loop-copy-test.true, c.from-copies.ensures, copies_are) in
    let found : c.index_mut-in-loop-copy.result.now ≡ lane_of c.args.self.now at =
    c.index_mut-in-loop-copy.ensures.value ∙ get_or_default now at c.index_mut-in-loop-copy.result.now [] (omega (arith, lane_is, there.lanes)) ∙ ap (λ m. lane_of m at) c.loop-copy.invariant ∙ lanes-above copy g r.lane at old (omega arith) ∙ ap (λ m. lane_of m at) c.self.view_is in
    let ahead = c.bits_ahead-bits.ensures.ahead (omega arith) in
    omega (arith, ap length found, there.wide at (omega (arith, lane_is)) (omega (arith, lane_is)), ahead.inside, bit_is)

pub returns-after-loop-copy-clause-leads : goal.returns-after-loop-copy-clause-leads
returns-after-loop-copy-clause-leads c =
    let n : ℕ = c.bits_ahead-bits.result in
    let cur = c.args.cursor.now in
    let r = c.cursor.inside in
    let bit_is : r.bit ≡ cur.bit = ap (λ (x : CursorState). x.bit) c.cursor.view_is in
    let width_is : r.width ≡ cur.width = ap (λ (x : CursorState). x.width) c.cursor.view_is in
    let writes : cur.run ≡ Writes = sym c.run.ensures ∙ c.in-Writes.is in
    let run_is : r.run ≡ Writes = ap (λ (x : CursorState). x.run) c.cursor.view_is ∙ writes in
    let kept : bits_kept r.run r.words (r.bit + n) r.width ≡ bits_kept r.run r.words r.bit r.width =
    ap (λ k. bits_kept k r.words (r.bit + n) r.width) run_is ∙ sym (ap (λ k. bits_kept k r.words r.bit r.width) run_is) in
    let with_bits = λ (bits : List Bool). let x : CursorState = record { register = r.register; reader = r.reader; copies = r.copies; width = r.width; run = r.run; bit = r.bit + n; copy = r.copy; begun = r.begun; bits = bits } in x in
    let on : CursorState → CursorState = λ x. record x { bit = x.bit + n } in
    let written = λ (copies : ℕ) (m : List (List Cell)). over_lanes copies (over n (λ i x. after_write (flag_in c.word_at-word.result (i % 64)) x) r.bit) r.lane m in
    let whole : c.loop-copy.copy ≡ c.from-copies.result = omega (arith, c.loop-copy-test.false, c.loop-copy.auto.copy-end) in
    write-at_once n r.lane r.bit c.from-copies.result c.word_at-word.result cur _ c.args.self.now c.loop-copy.self-inside.lanes.items
    writes (c.bits_ahead-bits.ensures.ahead (omega arith)) c.requires.fits (c.cursor.invariant.lane_is ∙ ap first_lane c.cursor.view_is)
    bit_is (c.from-copies.ensures ∙ ap (λ (x : CursorState). x.copies) c.cursor.view_is)
    (λ i same inside. word-written r.words cur.bits c.word_at-word.result r.bit r.width i (omega arith) (omega arith) c.word_at-word.ensures
    (ap (λ k. bits_kept k r.words r.bit r.width) (sym run_is) ∙ ap (λ (x : CursorState). x.bits) c.cursor.view_is))
    (c.loop-copy.invariant ∙ (λ i. written (whole i) (c.self.view_is i))) (ap with_bits kept ∙ ap on c.cursor.view_is)
