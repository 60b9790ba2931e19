use Rattle.std.proofs.Common.{◌≡◌, ◌++◌, ◌∷◌, [], List, None, Some, ap, subst, sym, ◌∙◌}
use Rattle.model.specs.{Access}
use Rattle.record_accesses.specs.{BitsState, row_in}
use Rattle.record_accesses.proofs.RowFacts.{added-keys, bits-added, bits_by, last-same, long-added}
use Rattle.record_accesses.proofs.written_bits.WrittenBits.add.Goals as goal

was-none : (c : goal.In_ok-insert) → row_in c.self.inside.names.keys c.args.access ≡ None
was-none c = subst (λ (b : BitsState). row_in b.names c.args.access ≡ None) (sym c.self.view_is) c.requires

names-after : (c : goal.In_ok-insert) → c.insert.new.self.keys ≡ c.self.inside.names.keys ++ c.args.access ∷ []
names-after c = added-keys c.self.inside.names.keys c.reserve.new.self.keys c.insert.new.self.keys c.args.access c.of.result c.in_ok-reserve.ensures.keys c.of.ensures c.in_ok-insert.ensures.keys (was-none c)

pub invariant_of-self-2 : goal.invariant_of-self-2
invariant_of-self-2 c = long-added c.self.inside.names.keys c.insert.new.self.keys c.self.inside.states.items c.push.new.self.items c.args.access c.args.state c.self.invariant (names-after c) c.in_ok-push.ensures.items

pub returns-clause-taken : goal.returns-clause-taken
returns-clause-taken c =
    bits-added (bits_by c.self.inside.names.keys c.self.inside.states.items) c.args.self.now c.insert.new.self.keys c.push.new.self.items c.args.access c.args.state
    c.self.view_is (sym c.gives_value.ensures ∙ c.if-not-gives_value.false) (names-after c) c.in_ok-push.ensures.items

pub returns-clause-row : goal.returns-clause-row
returns-clause-row c =
    ap Some c.len-row.ensures.len
    ∙ sym (last-same c.self.inside.names.keys c.args.access (was-none c))
    ∙ ap (λ (rows : List Access). row_in rows c.args.access) (sym (names-after c))
