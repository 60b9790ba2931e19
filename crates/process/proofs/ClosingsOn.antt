-- A withdrawal and the memory unit's writes advance by their cursor.
use Rattle.std.proofs.Common.{◌≡◌, ◌==◌, ◌&&◌, Bool, false, cond, List, [], ◌∷◌, refl, sym, ap, ◌∙◌, subst, arith}
use Rattle.plain_store.specs.declared.Answer.TheVariants.{Withdrawn}
use Rattle.model.specs.{Closing, Field, Mark, no_ticket, width, write_moved}
use Rattle.model.specs.declared.access.Field.TheVariants.{Choosing, Ticket}
use Rattle.model.specs.declared.marks.Mark.TheVariants as mark
use Rattle.model.specs.Closings as closing
use Rattle.model.specs.safe_number.{NumberWrite, bits_of_number, new_write}
use Rattle.laws.specs.{closes}
use Rattle.registers.specs.{CursorState, WritesAt, is_over, moved, write_kept, writing}
use Rattle.registers.proofs.ClosingMoves.{ends, unwritten}
use Rattle.process.specs.declared.activity.Activity.TheVariants as work
use Rattle.process.specs.{HasMoved, IsCall, KeepsPlace, PartState, ProcessState, marks_on, state_at, stepped, with_doing}

-- the work after the access
abbrev pub then_closes : PartState → Closing → ProcessState
then_closes k at = with_doing k (closes k.call.command k.call.number at)

-- THE WRITE THAT THEY BEGIN WITH

abbrev pub clearing : PartState → Field → CursorState
clearing k field = writing k.call.setup (record { owner = k.call.process; field = field }) (bits_of_number (width k.call.setup field) 0)

pub clears-ticket : (k : PartState) (inside : Bool) → IsCall k.call → KeepsPlace k (work.Frees inside) (clearing k Ticket)
clears-ticket k inside is = record {
  call = is;
  working = record { run = refl; at = refl; reader = refl; copies = refl; wide = refl; bits = refl; copy = omega (arith, is.process); going = is.some_ticket };
}

pub clears-choosing : (k : PartState) → IsCall k.call → KeepsPlace k work.Lowers (clearing k Choosing)
clears-choosing k is = record {
  call = is;
  working = record { run = refl; at = refl; reader = refl; copies = refl; wide = refl; bits = refl; copy = omega (arith, is.process); going = omega arith };
}

-- THE OUTCOME OF A WRITE

-- the write after its next access
abbrev then_written : PartState → Field × List Bool → CursorState → NumberWrite
then_written k own before = write_moved k.call.setup.processes own.1 (write_kept before)

goes-to : (k : PartState) (own : Field × List Bool) (value : Bool) {over : Bool} {before cur : CursorState} (done : Closing) (on : NumberWrite → Closing) → WritesAt k.call.setup k.call.process own before → cur ≡ moved before value → is_over cur ≡ over →
    then_closes k (cond over done (on (write_kept cur))) ≡ then_closes k (cond ((then_written k own before).bit == before.width) done (on (then_written k own before)))
goes-to k own value {over} {before} {cur} done on at moves is =
    let e = ends k.call.setup k.call.process own before value at in
    sym ((λ i. then_closes k (cond (e.last i) done (on (e.run i))))
    ∙ ap (λ c. then_closes k (cond (is_over c) done (on (write_kept c)))) (sym moves)
    ∙ ap (λ b. then_closes k (cond b done (on (write_kept cur)))) is)

marked-by : (k : PartState) (own : Field × List Bool) (value : Bool) {over : Bool} {before cur : CursorState} (marks : List Mark) → WritesAt k.call.setup k.call.process own before → cur ≡ moved before value → is_over cur ≡ over →
    cond over marks [] ≡ cond ((then_written k own before).bit == before.width) marks []
marked-by k own value {over} {before} marks at moves is = sym (ap (λ b. cond b marks []) ((ends k.call.setup k.call.process own before value at).last ∙ sym (ap is_over moves) ∙ is))

still-at : (k : PartState) (own : Field × List Bool) (value : Bool) {before cur : CursorState} → WritesAt k.call.setup k.call.process own before → cur ≡ moved before value → is_over cur ≡ false → WritesAt k.call.setup k.call.process own cur
still-at k own value {before} at moves more = subst (WritesAt k.call.setup k.call.process own) (sym moves) ((ends k.call.setup k.call.process own before value at).stays (ap is_over (sym moves) ∙ more))

module _ {k : PartState} {flick value fresh : Bool} {before cur : CursorState} where
  -- a withdrawal
  pub withdraws-to : {over : Bool} → HasMoved k work.Withdraws flick value before cur fresh → is_over cur ≡ over → then_closes k (cond over closing.Quit (closing.Withdraws (write_kept cur))) ≡ stepped (state_at k work.Withdraws before) flick value
  withdraws-to h is = goes-to k (Ticket, no_ticket k.call) value closing.Quit closing.Withdraws h.keeps.working h.moves is

  pub withdraws-marks : {over : Bool} → HasMoved k work.Withdraws flick value before cur fresh → is_over cur ≡ over → (let answered : List Mark = mark.Answered Withdrawn ∷ [] in cond over answered []) ≡ marks_on (state_at k work.Withdraws before) flick value
  withdraws-marks h is = marked-by k (Ticket, no_ticket k.call) value (mark.Answered Withdrawn ∷ []) h.keeps.working h.moves is

  pub still-withdraws : HasMoved k work.Withdraws flick value before cur fresh → is_over cur ≡ false → KeepsPlace k work.Withdraws cur
  still-withdraws h more = record { call = h.keeps.call; working = still-at k (Ticket, no_ticket k.call) value h.keeps.working h.moves more }

  -- the unit writes `Ticket` 0
  pub frees-to : {inside over : Bool} → HasMoved k (work.Frees inside) flick value before cur fresh → is_over cur ≡ over → then_closes k (cond over (closing.Lowers (new_write 1)) (closing.Frees inside (write_kept cur))) ≡ stepped (state_at k (work.Frees inside) before) flick value
  frees-to {inside} h is = goes-to k (Ticket, no_ticket k.call) value (closing.Lowers (new_write 1)) (closing.Frees inside) h.keeps.working h.moves is

  pub frees-marks : {inside : Bool} → HasMoved k (work.Frees inside) flick value before cur fresh → (let remaining : List Mark = mark.Left ∷ [] in cond (inside && fresh) remaining []) ≡ marks_on (state_at k (work.Frees inside) before) flick value
  frees-marks {inside} h =
      let remaining : List Mark = mark.Left ∷ [] in
      ap (λ b. cond (inside && b) remaining []) (h.first ∙ sym (unwritten k.call.setup k.call.process (Ticket, no_ticket k.call) before h.keeps.working))

  pub still-frees : {inside : Bool} → HasMoved k (work.Frees inside) flick value before cur fresh → is_over cur ≡ false → KeepsPlace k (work.Frees inside) cur
  still-frees h more = record { call = h.keeps.call; working = still-at k (Ticket, no_ticket k.call) value h.keeps.working h.moves more }

  -- it writes `Choosing` 0
  pub lowers-to : {over : Bool} → HasMoved k work.Lowers flick value before cur fresh → is_over cur ≡ over → then_closes k (cond over closing.Ended (closing.Lowers (write_kept cur))) ≡ stepped (state_at k work.Lowers before) flick value
  lowers-to h is = goes-to k (Choosing, false ∷ []) value closing.Ended closing.Lowers h.keeps.working h.moves is

  pub lowers-marks : {over : Bool} → HasMoved k work.Lowers flick value before cur fresh → is_over cur ≡ over → (let down : List Mark = mark.Down ∷ [] in cond over down []) ≡ marks_on (state_at k work.Lowers before) flick value
  lowers-marks h is = marked-by k (Choosing, false ∷ []) value (mark.Down ∷ []) h.keeps.working h.moves is

  pub still-lowers : HasMoved k work.Lowers flick value before cur fresh → is_over cur ≡ false → KeepsPlace k work.Lowers cur
  still-lowers h more = record { call = h.keeps.call; working = still-at k (Choosing, false ∷ []) value h.keeps.working h.moves more }
