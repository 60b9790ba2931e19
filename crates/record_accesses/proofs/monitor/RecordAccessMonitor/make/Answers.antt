use Rattle.std.proofs.Common.{◌≡◌, ◌&&◌, ◌∷◌, List, None, Option, Some, ap, cond, is_some, length, nat_le, sym, subst, ◌∙◌}
use Rattle.laws.specs.{IsThere}
use Rattle.model.specs.safe_bit.{is_of_write, is_write_open}
use Rattle.model.specs.{Access, Entry, moves_of}
use Rattle.record_accesses.specs.{BitState, BitsState, HasBits, HasOpened, HasTaken, OpenBitAccess, MonitorState, begin_of, bit_after, bit_of, bits_taken, change_of, entry_with, row_in, state_at, step_of, monitored_by, waves_after, waves_since, waves_with}
use Rattle.record_accesses.proofs.BitFacts.{writer-open}
use Rattle.record_accesses.proofs.RowFacts.{after-is, before-is, bits-taken, change-row}
use Rattle.record_accesses.proofs.monitor.RecordAccessMonitor.make.Goals as goal

pub returns-clause-bits : goal.returns-clause-bits
returns-clause-bits c = λ past marks has.
    let i = c.self.inside in
    let w : MonitorState = record { setup = i.openings; bits = i.bits; waves = i.waves; opened = i.opened; limit = i.limit } in
    let p = c.args.process in
    let a = c.args.access.now in
    let e : Entry = entry_with p (Some a) marks in
    let old : HasBits w.setup w.bits past = subst (λ (w : MonitorState). HasBits w.setup w.bits past) (sym c.self.view_is) has in
    let there : IsThere w.setup a = subst (λ (w : MonitorState). IsThere w.setup a) (sym c.self.view_is) c.requires.in_range in
    let row = c.row-row.ensures.row in
    let before = c.state-before.ensures ∙ (λ j. state_at w.bits (row j) (c.value.ensures j)) in
    let after = c.after-after.ensures ∙ ap (bit_after p a.how) before in
    let new : c.take.new.self ≡ bits_taken (row_in w.bits.names a) a (bit_after p a.how (state_at w.bits (row_in w.bits.names a) _)) w.bits =
    c.in_ok-row.ensures.taken ∙ (λ j. bits_taken (row j) a (after j) w.bits) in
    subst (λ (w : MonitorState). HasBits w.setup c.take.new.self (e ∷ past)) c.self.view_is
    (subst (λ (b : BitsState). HasBits w.setup b (e ∷ past)) (sym new) (bits-taken w.setup w.bits past p marks a c.row-row.ensures.states there old))

pub returns-clause-waves : goal.returns-clause-waves
returns-clause-waves c =
    let i = c.self.inside in
    let a = c.args.access.now in
    let written = c.is_some.ensures ∙ ap is_some c.in_ok-row.ensures.row in
    c.in_ok-wave.ensures.taken
    ∙ (λ j. waves_with (is_of_write a.how && (nat_le i.limit.from c.args.number && written j)) a i.waves)
    ∙ (λ j. waves_after (c.self.view_is j).limit.from c.args.number c.take.new.self.names (Some a) (c.self.view_is j).waves)

pub returns-clause-monitored : goal.returns-clause-monitored
returns-clause-monitored c = λ past marks taken is.
    let i = c.self.inside in
    let w : MonitorState = record { setup = i.openings; bits = i.bits; waves = i.waves; opened = i.opened; limit = i.limit } in
    let p = c.args.process in
    let a = c.args.access.now in
    let e : Entry = entry_with p (Some a) marks in
    let long = c.row-row.ensures.states in
    let before_it : HasTaken w past = subst (λ (w : MonitorState). HasTaken w past) (sym c.self.view_is) taken in
    let old : HasBits w.setup w.bits past = before_it.bits in
    let all : HasOpened w.opened past = before_it.opened in
    let there : IsThere w.setup a = subst (λ (w : MonitorState). IsThere w.setup a) (sym c.self.view_is) c.requires.in_range in
    let new : HasBits w.setup c.take.new.self (e ∷ past) = subst (λ (w : MonitorState). HasBits w.setup c.take.new.self (e ∷ past)) (sym c.self.view_is) (returns-clause-bits c past marks taken.bits) in
    let row = c.row-row.ensures.row in
    let first = c.state-before.ensures ∙ (λ j. state_at w.bits (row j) (c.value.ensures j)) in
    let before = first ∙ before-is w.setup w.bits past p marks a long there old in
    let after = c.after-after.ensures ∙ ap (bit_after p a.how) first ∙ after-is w.setup w.bits past p marks a long there old in
    let current = c.get-current.ensures ∙ all.each p c.requires.process in
    let step = c.step-step.ensures ∙ ap (λ (o : Option OpenBitAccess). step_of o a) current in
    let begin = c.begin.ensures ∙ (λ j. begin_of (step j) (current j) (is j)) in
    let over = c.overlaps.ensures past all (ap (λ (b : BitState). b.writer) before) in
    let written = c.is_some.ensures ∙ ap is_some c.in_ok-row.ensures.row in
    let waves : c.take-2.new.self ≡ waves_since w.limit.from (e ∷ past) =
    c.in_ok-wave.ensures.taken
    ∙ (λ j. waves_with (is_of_write a.how && (nat_le w.limit.from (is j) && written j)) a (before_it.waves j))
    ∙ (λ j. waves_after w.limit.from (length past) (new.names j) (Some a) (waves_since w.limit.from past)) in
    let place = c.in_ok-wave.ensures.row ∙ ap (λ (rows : List Access). cond (is_of_write a.how) (row_in rows a) None) waves in
    let was_open = ap (λ (b : BitState). is_some b.writer) before ∙ writer-open a past in
    let open_now = ap (λ (b : BitState). is_some b.writer) after ∙ writer-open a (e ∷ past) in
    let change = c.change.ensures
    ∙ (λ j. change_of w.limit.count (place j) a.how (before j).written (after j).written (was_open j) (open_now j))
    ∙ change-row w.limit.count (row_in (waves_since w.limit.from (e ∷ past)) a) a.how (bit_of w.setup past a).written (bit_of w.setup (e ∷ past) a).written
    (is_write_open (moves_of a past)) (is_write_open (moves_of a (e ∷ past))) in
    (λ j. record {
      event = is j;
      process = p;
      access = a;
      step = step j;
      begin = begin j;
      written = (before j).written;
      overlaps = over j;
      change = change j;
    })
    ∙ (λ j. monitored_by (c.self.view_is j).setup (c.self.view_is j).limit past e a)
