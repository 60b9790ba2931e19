-- A write that ends a call advances by its cursor.
use Rattle.std.proofs.Common.{◌≡◌, ℕ, ◌==◌, ◌&&◌, Bool, false, not, List, get_or, sym, ap, ◌∙◌, subst}
use Rattle.plain_store.specs.{Setup}
use Rattle.model.specs.{Field, access_of, is_unwritten, next_written, write_moved}
use Rattle.safe_number.specs.{NumberWrite}
use Rattle.registers.specs.{CursorState, WritesAt, is_fresh, is_over, is_settling, moved, next_access, write_after, write_kept}
use Rattle.registers.proofs.CursorRuns.{fresh-write, write-moved, write-next, write-stays, write-step}

pub record Ends (s : Setup) (p : ℕ) (written : Field × List Bool) (cur : CursorState) (v : Bool) : Type 0 where
  pub access : access_of p written.0 (next_written written.1 (write_kept cur)) ≡ next_access cur false
  pub run : write_moved s.processes written.1 (write_kept cur) ≡ write_kept (moved cur v)
  pub last : ((write_moved s.processes written.1 (write_kept cur)).bit == cur.width) ≡ is_over (moved cur v)
  pub stays : is_over (moved cur v) ≡ false → WritesAt s p written (moved cur v)

pub ends : (s : Setup) (p : ℕ) (written : Field × List Bool) (cur : CursorState) (v : Bool) → WritesAt s p written cur → Ends s p written cur v
ends s p written cur v at =
    let goes : moved cur v ≡ write_after cur = write-moved s p written cur v at in
    let step : write_moved s.processes written.1 (write_kept cur) ≡ write_kept (write_after cur) = write-step s p written cur at in
    record {
      access = write-next s p written cur at;
      run = step ∙ sym (ap write_kept goes);
      last = ap (λ (w : NumberWrite). w.bit == cur.width) step ∙ sym (ap is_over goes);
      stays = λ more. subst (WritesAt s p written) (sym goes) (write-stays s p written cur at (sym (ap is_over goes) ∙ more));
    }

-- the write has made no access
pub unwritten : (s : Setup) (p : ℕ) (written : Field × List Bool) (cur : CursorState) → WritesAt s p written cur → is_unwritten (write_kept cur) ≡ is_fresh cur
unwritten s p written cur at =
    fresh-write cur.bit cur.copy cur.begun (get_or cur.bits cur.bit false)
    ∙ sym (ap (λ r. (cur.bit == 0) && (cur.copy == 0) && not cur.begun && not (is_settling r)) at.run)
