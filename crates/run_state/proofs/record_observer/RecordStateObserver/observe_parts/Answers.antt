use Rattle.std.proofs.Common.{◌≡◌, ◌<◌, reverse, subst, sym, ◌∙◌}
use Rattle.plain_store.specs.{Setup}
use Rattle.model.specs.{Entry, Past}
use Rattle.calls.specs.world.laws.{doing}
use Rattle.calls.specs.world.process.{number_read}
use Rattle.calls.specs.world.{CoreState, InEachCorePast}
use Rattle.judge.proofs.Firsts.{more_counted}
use Rattle.judge.proofs.auditor.safe_monitor.GoodVerdicts.{bad_is, good_is}
use Rattle.judge.specs.safe_monitor.{entry_by}
use Rattle.judge.specs.{JudgeState}
use Rattle.run_state.specs.{GoodEntries, IsNext, RecordStateObserver, StoresNext, taken_with}
use Rattle.run_state.proofs.Observed.{all_keep, bad_stays, core_setup, good_stored, in_shown, next_is, shown}
use Rattle.run_state.proofs.ObservedWorlds.{ok_then}
use Rattle.run_state.proofs.record_observer.RecordStateObserver.observe_parts.Goals as goal

pub returns-then-not-is_good : goal.returns-then-not-is_good
returns-then-not-is_good c = λ s noted numbers h.
    let o : RecordStateObserver = c.args.self.now in
    let e : Entry = entry_by c.args.process c.args.access.now c.args.marks.now in
    let j : JudgeState = c.observe_parts.new.self in
    let judged = c.observe_parts.ensures.observed s noted h.judged in
    record {
      setup = h.setup;
      counted = more_counted noted numbers e c.args.line h.counted;
      judged = judged;
      stores = bad_stays o s noted numbers e c.args.line h j judged (bad_is j.verdict (sym c.is_good.ensures ∙ c.if-not-is_good.true));
    }

pub returns : goal.returns
returns c =
    let o : RecordStateObserver = c.args.self.now in
    let p = c.args.process in
    let e : Entry = entry_by p c.args.access.now c.args.marks.now in
    let j : JudgeState = c.observe_parts.new.self in
    let then : GoodEntries = c.store.new.self in
    let read = c.number_read-read.result in
    let taken = c.taken_by-taken.result in
    let core : CoreState = o.judge.auditor.core in
    ok_then c.store.result (λ (stores : StoresNext o.good then c.args.line c.in_ok-entry.entry read taken) s noted numbers h.
    let past : Past = reverse noted in
    let judged = c.observe_parts.ensures.observed s noted h.judged in
    let good = good_is j.verdict (sym c.is_good.ensures ∙ c.if-not-is_good.false) in
    let shows = shown o s noted numbers e c.args.line h j judged good in
    let of_setup : core.setup ≡ s = core_setup o.judge s noted h.judged in
    let reads = subst (λ (core : CoreState). InEachCorePast core (λ (s : Setup) (past : Past). read ≡ number_read (doing s p past))) c.core.ensures c.number_read-read.ensures in
    let next : IsNext s past e read = next_is s h.judged.good past e read (all_keep o s noted numbers e c.args.line h j judged good) (in_shown core s (λ (s : Setup) (past : Past). read ≡ number_read (doing s p past)) past of_setup shows reads) in
    let takes = in_shown core s (λ (s : Setup) (past : Past). p < s.processes → taken ≡ taken_with s past p e.marks) past of_setup shows c.taken_by-taken.ensures next.process in
    record {
      setup = h.setup;
      counted = more_counted noted numbers e c.args.line h.counted;
      judged = judged;
      stores = good_stored o s noted numbers e c.args.line h j judged read taken then good next takes
          (subst (λ (e : Entry). StoresNext o.good then c.args.line e read taken) c.in_ok-entry.ensures stores);
    }) c.store.ensures.stores
