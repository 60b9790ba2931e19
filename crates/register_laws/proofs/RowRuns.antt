-- Several accesses of a cursor are as many steps on the row of its register.
use Rattle.std.proofs.Common.{◌≡◌, ℕ, zero, suc, List, length, refl, sym, ap, ◌∙◌, subst, arith}
use Rattle.model.specs.safe_bit.Cell.{Cell}
use Rattle.model.specs.safe_bit.{Move}
use Rattle.world.specs.choices.{FlickState, after_flick, flick_of, flicks_after}
use Rattle.safe_number.specs.{ReadState, WriteState, number_read_after, number_write_after, read_interval, write_interval}
use Rattle.safe_number.specs.Written.{loaded, register_read}
use Rattle.safe_number.specs.Runs.{register_written}
use Rattle.model.specs.{Access}
use Rattle.registers.specs.{CursorState, RegisterAccessKind, access_next, after_by, cursor_after, run_of}
use Rattle.registers.specs.Rows.{row_of}
use Rattle.registers.specs.declared.cursor.RegisterAccessKind.TheVariants.{Reads, Writes, Settles}
use Rattle.registers.proofs.Runs.{run-fits, same-by}
use Rattle.register_laws.specs.Rows.{HasNext, IsAtRead, IsAtWrite, ReadRunsAgree, StepsAsRead, StepsAsWrite, WriteRunsAgree, own_moments, row_at}
use Rattle.register_laws.proofs.RowSteps.{reads, writes}

-- a cursor keeps its register, its reader, and the number of copies
record SameRegister (c d : CursorState) : Type 0 where
  register : c.register ≡ d.register
  copies : c.copies ≡ d.copies
  reader : c.reader ≡ d.reader

reader-by : (r : RegisterAccessKind) (c : CursorState) (how : Move) → (after_by r c how).reader ≡ c.reader
reader-by Reads c how = refl
reader-by Writes c how = refl
reader-by (Settles cut value) c how = refl

run-same : (k : ℕ) (now : CursorState × List (List Cell) × FlickState) → SameRegister (run_of k now).0 now.0
run-same zero now = record { register = refl; copies = refl; reader = refl }
run-same (suc k) now =
    let c : CursorState = (run_of k now).0 in
    let how : Move = (access_next (run_of k now)).how in
    let before : SameRegister c now.0 = run-same k now in
    let same = same-by c.run c how in
    record { register = same.0 ∙ before.register; copies = same.1 ∙ before.copies; reader = reader-by c.run c how ∙ before.reader }

run-flicks : (k : ℕ) (now : CursorState × List (List Cell) × FlickState) → (run_of k now).2 ≡ flicks_after k now.2
run-flicks zero now = refl
run-flicks (suc k) now = ap after_flick (run-flicks k now)

-- so it has the same row
row-same : (c d : CursorState) (memory : List (List Cell)) → SameRegister c d → row_at c memory ≡ row_at d memory
row-same c d memory same = λ i. row_of (same.copies i) memory (same.register i)

pub write-runs : WriteRunsAgree
write-runs zero memory c value w flicks fits at left = (refl, at)
write-runs (suc k) memory c value w flicks fits at left =
    let now : CursorState × List (List Cell) × FlickState = run_of k (c, memory, flicks) in
    let then : WriteState = write_interval value (record { row = row_at c memory; run = w }) (own_moments k flicks) in
    let before = write-runs k memory c value w flicks fits at (λ j less. left j (omega arith)) in
    let same : SameRegister now.0 c = run-same k (c, memory, flicks) in
    let row : row_at now.0 now.1 ≡ then.row = row-same now.0 c now.1 same ∙ before.0 in
    let next : HasNext now.1 now.0 = record { fits = run-fits k (c, memory, flicks) fits; going = left k (omega arith) } in
    let a : Access = access_next now in
    let step : StepsAsWrite now.1 now.0 value then.run a = writes now.1 now.0 value then.run (flick_of now.2) next before.1 in (
      sym (row-same now.0 c (run_of (suc k) (c, memory, flicks)).1 same) ∙ step.row ∙ ap (λ x. register_written x value then.run) row,
      subst (λ x. IsAtWrite value (number_write_after (length x) value then.run) (cursor_after now.0 a.how)) row step.progress,
    )

pub read-runs : ReadRunsAgree
read-runs zero memory c r flicks fits at left = (refl, at)
read-runs (suc k) memory c r flicks fits at left =
    let now : CursorState × List (List Cell) × FlickState = run_of k (c, memory, flicks) in
    let then : ReadState = read_interval c.reader (record { row = row_at c memory; run = r }) (own_moments k flicks) in
    let before = read-runs k memory c r flicks fits at (λ j less. left j (omega arith)) in
    let same : SameRegister now.0 c = run-same k (c, memory, flicks) in
    let row : row_at now.0 now.1 ≡ then.row = row-same now.0 c now.1 same ∙ before.0 in
    let next : HasNext now.1 now.0 = record { fits = run-fits k (c, memory, flicks) fits; going = left k (omega arith) } in
    let flick : flick_of now.2 ≡ flick_of (flicks_after k flicks) = ap flick_of (run-flicks k (c, memory, flicks)) in
    let a : Access = access_next now in
    let step : StepsAsRead now.1 now.0 then.run (flick_of now.2) a = reads now.1 now.0 then.run (flick_of now.2) next before.1 in (
      sym (row-same now.0 c (run_of (suc k) (c, memory, flicks)).1 same) ∙ step.row ∙ (λ i. register_read (row i) (same.reader i) then.run (flick i)),
      subst (λ x. IsAtRead x (cursor_after now.0 a.how)) (λ i. number_read_after then.run (loaded (row i) (same.reader i) then.run (flick i))) step.progress,
    )
