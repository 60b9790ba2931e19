-- Lists that are short, as contracts see them.
use Rattle.std.proofs.Common.{◌≤◌, All, List, length}
use Rattle.std.specs.Global.{Vec}
use Rattle.std.proofs.lemmas.List.Elements.{All-map}
use Rattle.model.specs.{Placed, lists_of}

pub short_lists : (vecs : List (Vec Placed)) → All (λ (v : Vec Placed). length v.items ≤ 65535) vecs → All (λ (list : List Placed). length list ≤ 65535) (lists_of vecs)
short_lists vecs short = All-map (λ (list : List Placed). length list ≤ 65535) (λ (v : Vec Placed). v.items) vecs short
