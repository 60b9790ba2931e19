-- The next access of a call is one to the register of its part.
use Rattle.std.proofs.Common.{◌≡◌, Bool, true, false, cond, refl, sym, ap, ◌∙◌}
use Rattle.model.specs.{is_read, read_at, written_at}
use Rattle.registers.specs.{CursorState, ReadsAt, RegisterName, WritesAt, next_access}
use Rattle.process.specs.{IsOfRegister, KeepsPlace, PartState, Activity, doing_at, register_at}
use Rattle.process.specs.declared.activity.Activity.TheVariants as work

runs-at : (k : PartState) (cur : CursorState) (b : Bool) → is_read k.part ≡ b →
    elim b as (λ _. Type 0) [ true ↦ ReadsAt k.call.setup k.call.process (read_at k.call k.part) cur | false ↦ WritesAt k.call.setup k.call.process (written_at k.call k.part) cur ] →
    (cur.register.owner, cur.register.field) ≡ register_at k.call k.part
runs-at k cur true reads at =
    ap (λ (r : RegisterName). (r.owner, r.field)) at.at ∙ sym (ap (λ b. cond b (read_at k.call k.part) (k.call.process, (written_at k.call k.part).0)) reads)
runs-at k cur false writes at =
    ap (λ (r : RegisterName). (r.owner, r.field)) at.at ∙ sym (ap (λ b. cond b (read_at k.call k.part) (k.call.process, (written_at k.call k.part).0)) writes)

pub of-register : (k : PartState) (w : Activity) (cur : CursorState) (flick : Bool) → KeepsPlace k w cur → IsOfRegister k.call.setup k.call.process (doing_at k w cur) (next_access cur flick)
of-register k work.Rests cur flick keeps = tt
of-register k work.Lies cur flick keeps = tt
of-register k work.Runs cur flick keeps = runs-at k cur (is_read k.part) refl keeps.working.at
of-register k work.Withdraws cur flick keeps = tt
of-register k (work.Settles inside taken) cur flick keeps = tt
of-register k (work.Frees inside) cur flick keeps = tt
of-register k work.Lowers cur flick keeps = tt
