-- The two definitions of good lists are equivalent.
use Rattle.std.proofs.Common.{sym, ap, ◌∙◌}
use Rattle.store_image.specs.{image_of}
use Rattle.call_check.specs.{BadEndIsSaidOverLists, GoodIsSaidOverLists, all_calls, number_of_changes, store_below}
use Rattle.call_check.proofs.Backward.{ended, none_bad}
use Rattle.call_check.proofs.Forward.{last_is, said}

pub good_is_said : GoodIsSaidOverLists
good_is_said s lists image = (
  λ weighed. (
    said s lists weighed.c weighed.store weighed.end weighed.verdict.0,
    weighed.verdict.1 ∙ ap image_of (last_is s lists weighed.c weighed.store weighed.end weighed.verdict.0),
  ),
  λ good. record {
    c = number_of_changes s (all_calls lists);
    store = store_below s (all_calls lists) (number_of_changes s (all_calls lists));
    end = ended s lists good.0;
    verdict = (none_bad s lists good.0, good.1);
  },
)

pub bad_end_is_said : BadEndIsSaidOverLists
bad_end_is_said s lists image = (
  λ weighed. (
    said s lists weighed.c weighed.store weighed.end weighed.verdict.0,
    λ is. weighed.verdict.1 (is ∙ sym (ap image_of (last_is s lists weighed.c weighed.store weighed.end weighed.verdict.0))),
  ),
  λ good. record {
    c = number_of_changes s (all_calls lists);
    store = store_below s (all_calls lists) (number_of_changes s (all_calls lists));
    end = ended s lists good.0;
    verdict = (none_bad s lists good.0, good.1);
  },
)
