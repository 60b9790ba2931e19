use Rattle.std.proofs.Common.{◌≡◌, sym, ◌∙◌}
use Rattle.plain_store.specs.{reply_to}
use Rattle.call_check.specs.{caller_of}
use Rattle.call_check.proofs.notes.replies.Goals as goal

pub returns-in-Ok : goal.returns-in-Ok
returns-in-Ok c = λ few size.
    let own_is : c.in-Ok.own ≡ reply_to c.args.store.now c.args.call.now.placed.command (caller_of c.args.setup.now c.args.call.now) = c.in-Ok.ensures.reply ∙ (c.caller.ensures few).reply c.args.store.now size c.args.call.now.placed.command in
    (λ h. c.is_same.ensures.0 h ∙ own_is, λ e. c.is_same.ensures.1 (e ∙ sym own_is))
