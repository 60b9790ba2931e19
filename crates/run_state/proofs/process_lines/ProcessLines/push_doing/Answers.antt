use Rattle.std.proofs.Common.{◌≡◌, ◌++◌, false, None, Option, Some, append-nil, ap, sym, ◌∙◌}
use Rattle.model.specs.{Access, entry_of}
use Rattle.model.specs.declared.events.Event.TheVariants.{Step}
use Rattle.calls.specs.world.laws.{doing}
use Rattle.calls.specs.world.process.{number_read, settling_of, ticket_known}
use Rattle.run_state.specs.{ProcessLines, access_in, busy_lines, call_kept, doing_by, doing_with, failed_words, kept, line_if, open_words}
use Rattle.run_state.proofs.OfCalls.{tickets_kept}
use Rattle.run_state.proofs.ObservedWorlds.{ok_then}
use Rattle.run_state.proofs.process_lines.ProcessLines.push_doing.Goals as goal

pub returns-in-None : goal.returns-in-None
returns-in-None c = λ past u entry.
    let l : ProcessLines = c.args.self.now in
    let start = c.args.text.now.items in
    let none : access_in (entry_of l.setup.now past (Step l.process false)) ≡ None = ap access_in (sym entry) ∙ sym c.access_in.ensures ∙ c.in-None.is in
    sym (append-nil start) ∙ ap (λ o. start ++ doing_by l.setup.now past l.process l.stage o) (sym none)

pub returns-in-Some : goal.returns-in-Some
returns-in-Some c = ok_then c.push_access.result
    (λ wrote past u entry.
    let l : ProcessLines = c.args.self.now in
    let s = l.setup.now in
    let p = l.process in
    let stage = l.stage in
    let a : Access = c.in-Some.next in
    let d = doing s p past in
    let k = kept s p past in
    let start = c.args.text.now.items in
    let next : access_in (entry_of s past (Step p false)) ≡ Some a = ap access_in (sym entry) ∙ sym c.access_in.ensures ∙ c.in-Some.is in
    wrote past u next
    ∙ (λ i. start ++ doing_with s past p stage (call_kept (u.kept i)) (u.kept i) d a)
    ∙ ap (λ t. start ++ (line_if p (failed_words stage k.failed) ++ (t ++ (busy_lines s past p a (number_read d) (settling_of d) ++ line_if p (open_words s past p a (settling_of d)))))) (tickets_kept s p past stage (ticket_known s d) k.read)
    ∙ ap (λ (o : Option Access). start ++ doing_by s past p stage o) (sym next))
    c.push_access.ensures
