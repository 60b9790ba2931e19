use Rattle.std.proofs.Common.{◌≡◌}
use Rattle.std.proofs.lemmas.Result.{IfOk-at_ok}
use Rattle.plain_store.specs.{Reply, after}
use Rattle.model.specs.{caller, reply}
use Rattle.process.specs.{call_of}
use Rattle.process.proofs.store.applied.Goals as goal

pub returns : goal.returns
returns c =
    let call = call_of c.args.call.now in
    record {
      store = IfOk-at_ok (λ (r : Reply). c.apply.new.self ≡ after c.args.read.now call.command (caller call)) c.unwrap-reply.ensures c.apply.ensures.contents;
      reply = IfOk-at_ok (λ (r : Reply). r ≡ reply call c.args.read.now) c.unwrap-reply.ensures c.apply.ensures.reply;
    }
