use Rattle.std.proofs.Common.{◌≡◌, ◌++◌, ℕ, List, Option, ap, ◌∙◌, append_assoc}
use Rattle.std.specs.Prelude.{option_map}
use Rattle.std.specs.String.{string_bytes}
use Rattle.calls.specs.world.laws.{Doing, doing}
use Rattle.calls.specs.world.process.{ProcessState, number_read, settling_of, ticket_known}
use Rattle.run_state.specs.{ProcessLines, busy_lines, call_kept, failed_words, line_if, open_by, open_words, ticket_lines}
use Rattle.run_state.proofs.ObservedWorlds.{core_of, next_there, ok_then, place_is}
use Rattle.run_state.proofs.process_lines.ProcessLines.push_access.Goals as goal

pub returns : goal.returns
returns c = ok_then c.push_line_if-2.result
    (λ wrote past u next.
    let l : ProcessLines = c.args.self.now in
    let s = l.setup.now in
    let p : ℕ = l.process in
    let a = c.args.next.now in
    let start = c.args.text.now.items in
    let d : Doing = doing s p past in
    let place = place_is l past c.process-place.result.now c.requires u c.process-place.ensures in
    let torn : c.settling-settling.result ≡ settling_of d = c.settling-settling.ensures ∙ ap (λ (q : ProcessState). settling_of q.doing) place in
    let known : c.ticket_known.result ≡ ticket_known s d = c.ticket_known.ensures ∙ ap (λ (q : ProcessState). ticket_known q.setup q.doing) place in
    let first = line_if p (failed_words l.stage l.kept.now.failed) in
    let ticket = ticket_lines p l.stage (ticket_known s d) l.kept.now.read (call_kept l.kept.now) in
    let busy = busy_lines s past p a (number_read d) (settling_of d) in
    let last = line_if p (open_words s past p a (settling_of d)) in
    let one : c.push_line_if.new.text.items ≡ start ++ first = c.in_ok-push_line_if.ensures ∙ ap (λ (o : Option (List ℕ)). start ++ line_if p o) c.in_ok-failed.ensures in
    let two : c.push_ticket.new.text.items ≡ (start ++ first) ++ ticket = c.in_ok-push_ticket.ensures ∙ (λ i. one i ++ ticket_lines p l.stage (known i) l.kept.now.read (call_kept l.kept.now)) in
    let three : c.push_busy.new.text.items ≡ ((start ++ first) ++ ticket) ++ busy = c.in_ok-push_busy.ensures past u next ∙ ap (λ t. t ++ busy) two in
    let opened : option_map string_bytes c.in_ok-opened.opened ≡ open_words s past p a (settling_of d) =
    c.in_ok-opened.ensures ∙ (λ i. open_by p a a.how (c.bit_at-seen.ensures past (core_of l past u) (next_there l past a c.requires u next) i) (torn i)) in
    wrote ∙ (λ i. three i ++ line_if p (opened i))
    ∙ append_assoc ((start ++ first) ++ ticket) busy last ∙ append_assoc (start ++ first) ticket (busy ++ last) ∙ append_assoc start first (ticket ++ (busy ++ last)))
    c.push_line_if-2.ensures
