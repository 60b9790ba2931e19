use Rattle.std.proofs.Common.{◌≤◌, ℕ, take, length, refl, sym, ◌∙◌, arith, true≢false}
use Rattle.call_check.specs.{Call}
use Rattle.call_check.proofs.Judged.{bad_in, judged_more, none_bad, note_there}
use Rattle.call_check.proofs.notes.CallNotes.first_bad.Goals as goal

pub returns-then-is_bad : goal.returns-then-is_bad
returns-then-is_bad c = λ s calls p part followed.
    let i : ℕ = c.loop-index.index in
    let call : Call = record { placed = c.index-list-index.result; port = p; index = i } in
    let judged = c.loop-index.invariant s calls p part followed in
    let is_note = note_there s calls c.args.self.now.notes.items c.args.self.now.count c.args.self.now.store c.args.self.now.several p c.args.before c.args.list.now i c.index-list-index.result c.index-note.result.now part followed c.loop-index-test.true c.index-list-index.is c.index-note.ensures in (
      bad_in s calls c.args.self.now.count c.args.self.now.store p c.args.list.now i c.index-list-index.result c.loop-index-test.true c.index-list-index.is
          ((c.is_bad.ensures s calls (take i c.args.list.now) call refl followed is_note judged.least_is).0 c.if-is_bad.true),
      judged.good,
    )

pub loop-index-preserved : goal.loop-index-preserved
loop-index-preserved c = λ s calls p part followed.
    let i : ℕ = c.loop-index.index in
    let call : Call = record { placed = c.index-list-index.result; port = p; index = i } in
    let judged = c.loop-index.invariant s calls p part followed in
    let is_note = note_there s calls c.args.self.now.notes.items c.args.self.now.count c.args.self.now.store c.args.self.now.several p c.args.before c.args.list.now i c.index-list-index.result c.index-note.result.now part followed c.loop-index-test.true c.index-list-index.is c.index-note.ensures in
    judged_more s calls c.args.self.now.count c.args.self.now.store p c.args.list.now i c.loop-index.least c.least_after-least.result c.index-list-index.result c.loop-index-test.true c.index-list-index.is judged
    (λ bad. absurd (true≢false (sym ((c.is_bad.ensures s calls (take i c.args.list.now) call refl followed is_note judged.least_is).1 bad) ∙ c.if-is_bad.false)))
    (c.least_after-least.ensures s calls (take i c.args.list.now) call refl is_note judged.least_is)

pub returns : goal.returns
returns c = λ s calls p part followed.
    let over : length c.args.list.now ≤ c.loop-index.index = (let test = c.loop-index-test.false in let most = c.loop-index.auto.index-end in omega (arith, test, most)) in
    none_bad s calls c.args.self.now.count c.args.self.now.store p c.args.list.now c.loop-index.index c.loop-index.least over (c.loop-index.invariant s calls p part followed)
