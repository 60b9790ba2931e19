use Rattle.std.proofs.Common.{◌≡◌, ◌-◌, ◌∙◌, arith, ap, length, take, drop}
use Rattle.std.proofs.lemmas.List.{length-drop, take_rest}
use Rattle.command_line.proofs.Opening.{block_given, bytes_behind}
use Rattle.command_line.proofs.opened.SniffedSourceSource.next_bytes.Goals as goal

pub returns-clause-bytes : goal.returns-clause-bytes
returns-clause-bytes g c = bytes_behind c.args.self.now.front.items c.args.self.now.given _ _ c.next_bytes.result c.next_bytes.new.buffer (omega (arith, c.if-self-len.false)) c.next_bytes.ensures.bytes

pub returns-then-self-len-clause-bytes : goal.returns-then-self-len-clause-bytes
returns-then-self-len-clause-bytes g c =
    let front = c.args.self.now.front.items in
    let given = c.args.self.now.given in
    let bytes = c.deref.result.now in
    let remaining : take (length bytes - given) (drop given bytes) ≡ drop given front = take_rest bytes given ∙ ap (drop given) c.deref.ensures.value in
    let count : length (take (length bytes - given) (drop given bytes)) ≡ length front - given = ap length remaining ∙ length-drop given front in
    block_given front c.put_front-count.new.buffer given c.put_front-count.result _ (c.put_front-count.ensures.front ∙ ap (take c.put_front-count.result) remaining)
    (λ none room. absurd (omega (arith, none, room, count, c.if-self-len.true, c.put_front-count.ensures.count, c.put_front-count.ensures.length)))
