use Rattle.std.proofs.Common.{◌≡◌, ℕ, List, ◌++◌, ap, ◌∙◌, append_assoc}
use Rattle.model.specs.{stage_word}
use Rattle.calls.specs.{open_call}
use Rattle.run_state.specs.{ProcessLines, call_kept, doing_lines, lines_of_two, open_lines, process_line, words_added}
use Rattle.run_state.proofs.OfCalls.{lines_kept}
use Rattle.run_state.proofs.ObservedWorlds.{history_is, ok_then}
use Rattle.run_state.proofs.process_lines.ProcessLines.push.Goals as goal

pub returns : goal.returns
returns c = ok_then c.push_next.result
    (λ wrote past u.
    let l : ProcessLines = c.args.self.now in
    let s = l.setup.now in
    let p : ℕ = l.process in
    let start = c.args.text.now.items in
    let head = process_line p (stage_word l.stage) in
    let mid = open_lines p l.history.now c.open_call-call.result in
    let reported = doing_lines s past p l.stage in
    let last = lines_of_two p (words_added c.next_entry-first.result) (words_added c.next_entry-second.result) in
    let first = c.next_entry-first.ensures past u in
    let second = c.next_entry-second.ensures past u in
    let call : mid ≡ open_lines p l.history.now (open_call s p past) = ap (open_lines p l.history.now) (c.open_call-call.ensures ∙ ap call_kept u.kept) ∙ lines_kept s p past l.history.now in
    let one : c.push_line.new.text.items ≡ start ++ head = c.in_ok-push_line.ensures ∙ ap (λ (w : List ℕ). start ++ process_line p w) c.word.ensures in
    let two : c.push_open.new.text.items ≡ (start ++ head) ++ mid = c.in_ok-push_open.ensures ∙ ap (λ t. t ++ mid) one in
    let three : c.push_doing.new.text.items ≡ ((start ++ head) ++ mid) ++ reported = c.in_ok-push_doing.ensures past u first ∙ ap (λ t. t ++ reported) two in
    wrote ∙ ap (λ t. t ++ last) three
    ∙ append_assoc ((start ++ head) ++ mid) reported last ∙ append_assoc (start ++ head) mid (reported ++ last) ∙ append_assoc start head (mid ++ (reported ++ last))
    ∙ ap (λ t. start ++ (head ++ (t ++ (reported ++ last)))) call
    ∙ (λ i. start ++ (head ++ (open_lines p (history_is l past c.requires u i) (open_call s p past) ++ (reported ++ lines_of_two p (words_added (first i)) (words_added (second i)))))))
    c.push_next.ensures
