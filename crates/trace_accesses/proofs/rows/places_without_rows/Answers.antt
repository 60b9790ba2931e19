use Rattle.std.proofs.Common.{◌≡◌, ℕ, ◌+◌, ◌*◌, ◌++◌, List, None, Option, ap, arith, replicate, ◌∙◌}
use Rattle.std.proofs.lemmas.List.{replicate-append-replicate}
use Rattle.trace_accesses.proofs.rows.places_without_rows.Goals as goal

pub loop-register-preserved : goal.loop-register-preserved
loop-register-preserved c =
    let k = c.loop-register._register in
    let more : 16 * k + 16 ≡ 16 * (k + 1) = omega arith in
    c.in_ok-extend_from_slice.ensures.items
    ∙ ap (λ (l : List (Option ℕ)). l ++ replicate 16 None) c.loop-register.invariant
    ∙ replicate-append-replicate {A = Option ℕ} (16 * k) 16 None
    ∙ ap (λ n. replicate {A = Option ℕ} n None) more
