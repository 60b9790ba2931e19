-- The finished calls of the ports: list p is that of process p, its oldest call first.
use Rattle.std.specs.Prelude.{List, map}
use Rattle.std.specs.Global.{Vec}
use Rattle.model.specs.declared.calls.Placed.{Placed}

-- the lists of calls
abbrev pub lists_of : List (Vec Placed) → List (List Placed)
lists_of vecs = map (λ (v : Vec Placed). v.items) vecs
