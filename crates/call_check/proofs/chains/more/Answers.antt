use Rattle.std.proofs.Common.{length, sym, ap, subst, ◌∙◌, arith}
use Rattle.std.proofs.lemmas.List.{length_push}
use Rattle.call_check.specs.{AreNothing}
use Rattle.call_check.proofs.Linking.{nothing_more}
use Rattle.call_check.proofs.chains.more.Goals as goal

pub loop-preserved : goal.loop-preserved
loop-preserved c =
    let heads = c.loop.heads.items in
    let pushed = c.in_ok-push.ensures.items in
    let long = ap length pushed ∙ length_push heads 0 in
    let size = c.loop.invariant.size in
    record {
      size = omega (arith, long, size);
      nothing = λ none. subst AreNothing (sym pushed) (nothing_more heads (c.loop.invariant.nothing none));
    }
