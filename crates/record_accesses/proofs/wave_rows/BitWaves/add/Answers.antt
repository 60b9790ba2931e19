use Rattle.std.proofs.Common.{◌≡◌, ◌++◌, ◌∷◌, [], List, Option, None, Some, ap, refl, subst, sym, ◌∙◌, ℕ}
use Rattle.model.specs.{Access}
use Rattle.record_accesses.specs.{row_in, with_last}
use Rattle.record_accesses.proofs.RowFacts.{added-keys, last-same}
use Rattle.record_accesses.proofs.wave_rows.BitWaves.add.Goals as goal

was-none : (c : goal.In_ok-insert) → row_in c.self.inside.bits.keys c.args.access ≡ None
was-none c = subst (λ (rows : List Access). row_in rows c.args.access ≡ None) (sym c.self.view_is) c.requires

bits-after : (c : goal.In_ok-insert) → c.insert.new.self.keys ≡ c.self.inside.bits.keys ++ c.args.access ∷ []
bits-after c = added-keys c.self.inside.bits.keys c.self.inside.bits.keys c.insert.new.self.keys c.args.access c.of.result refl c.of.ensures c.in_ok-insert.ensures.keys (was-none c)

pub returns-clause-taken : goal.returns-clause-taken
returns-clause-taken c =
    bits-after c
    ∙ ap (λ (rows : List Access). rows ++ c.args.access ∷ []) c.self.view_is
    ∙ sym (ap (λ (o : Option ℕ). with_last o c.args.access c.args.self.now) c.requires)

pub returns-clause-row : goal.returns-clause-row
returns-clause-row c =
    ap Some c.len-row.ensures.len
    ∙ sym (last-same c.self.inside.bits.keys c.args.access (was-none c))
    ∙ ap (λ (rows : List Access). row_in rows c.args.access) (sym (bits-after c))
