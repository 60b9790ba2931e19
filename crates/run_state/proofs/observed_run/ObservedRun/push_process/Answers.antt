use Rattle.std.proofs.Common.{◌≡◌, ◌<◌, Bool, true, false, cond, ◌++◌, None, Some, ap, sym, subst, ◌∙◌}
use Rattle.model.specs.{calls_in, is_at_rest, own, stage}
use Rattle.run_state.specs.{ProcessSummary, SnapshotState, kept, lines_at, rest_line, running_lines}
use Rattle.run_state.proofs.ObservedWorlds.{ok_then, stage_is}
use Rattle.run_state.proofs.observed_run.ObservedRun.push_process.Goals as goal

pub returns-in_default : goal.returns-in_default
returns-in_default c = λ past u.
    let t = c.args.self.now in
    let two : None ≡ Some (stage c.args.process past) = sym c.in_default.is ∙ c.stage.ensures c.args.history.now u.events u.shows ∙ stage_is t c.args.core.now c.args.history.now past c.args.process c.requires.process u in
    absurd (cc)

pub returns-then-is_at_rest : goal.returns-then-is_at_rest
returns-then-is_at_rest c = ok_then c.push_rest.result
    (λ wrote past u.
    let t = c.args.self.now in
    let p = c.args.process in
    let two : Some c.in-Some.stage ≡ Some (stage p past) = sym c.in-Some.is ∙ c.stage.ensures c.args.history.now u.events u.shows ∙ stage_is t c.args.core.now c.args.history.now past p c.requires.process u in
    let same : c.in-Some.stage ≡ stage p past = cc in
    let rests : is_at_rest c.in-Some.stage ≡ true = sym c.is_at_rest.ensures ∙ c.if-is_at_rest.true in
    let calls : c.kept-kept.result.call_state.last.call ≡ calls_in (own p past) = ap (λ (k : ProcessSummary). k.call_state.last.call) (c.kept-kept.ensures past u.observed) in
    let words = rest_line p c.in-Some.stage (calls_in (own p past)) in
    wrote ∙ ap (λ l. c.args.text.now.items ++ l) (ap (rest_line p c.in-Some.stage) calls ∙ sym (ap (λ (b : Bool). cond b words (running_lines t.setup past p c.in-Some.stage)) rests) ∙ ap (lines_at t.setup past p) same))
    c.push_rest.ensures

pub push-requires : goal.push-requires
push-requires c = record {
  good = c.self.invariant.good;
  core = c.requires.core ∙ sym (ap (λ (x : SnapshotState). x.setup) c.self.view_is);
  process = subst (λ (x : SnapshotState). c.args.process < x.setup.processes) (sym c.self.view_is) c.requires.process;
}

pub returns : goal.returns
returns c = ok_then c.push.result
    (λ wrote past u.
    let t = c.args.self.now in
    let p = c.args.process in
    let two : Some c.in-Some.stage ≡ Some (stage p past) = sym c.in-Some.is ∙ c.stage.ensures c.args.history.now u.events u.shows ∙ stage_is t c.args.core.now c.args.history.now past p c.requires.process u in
    let same : c.in-Some.stage ≡ stage p past = cc in
    let runs : is_at_rest c.in-Some.stage ≡ false = sym c.is_at_rest.ensures ∙ c.if-is_at_rest.false in
    let words = rest_line p c.in-Some.stage (calls_in (own p past)) in
    let kept_is = c.kept-kept.ensures past u.observed ∙ sym (ap (λ (x : SnapshotState). kept x.setup p past) c.self.view_is) in
    wrote past (record { events = u.events; shows = u.shows; is = sym u.is_past; kept = kept_is })
    ∙ ap (λ (x : SnapshotState). c.args.text.now.items ++ running_lines x.setup past p c.in-Some.stage) c.self.view_is
    ∙ ap (λ l. c.args.text.now.items ++ l) (sym (ap (λ (b : Bool). cond b words (running_lines t.setup past p c.in-Some.stage)) runs) ∙ ap (lines_at t.setup past p) same))
    c.push.ensures
