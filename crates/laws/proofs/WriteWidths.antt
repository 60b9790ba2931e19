-- A write has as many bits as its register.
use Rattle.std.proofs.Common.{◌≡◌, ℕ, ◌<◌, false, Some, None, length, refl, sym, ap, subst, ◌∙◌}
use Rattle.model.specs.{Call, Part, Past, Reading, Run, Writing, is_over, past_of, width}
use Rattle.plain_store.specs.{Command, Setup}
use Rattle.model.specs.Closings.{Closing, Withdraws, Settles, Frees, Lowers, Quit, Ended}
use Rattle.model.proofs.safe_number.Bits.{length-bits_of_number}
use Rattle.model.proofs.Ties.{written-width}
use Rattle.model.proofs.Width.{IsGood, is_good}
use Rattle.laws.specs.{Closes, Doing, IsLive, Lies, RegisterWrite, Rests, Runs, call, doing, register_write, write_at}
use Rattle.laws.specs.Writes.{WritesFitTheirRegister}
use Rattle.laws.proofs.Always.{inv_of}
use Rattle.laws.proofs.ClosingWrites.{some_write, written_so_far}
use Rattle.laws.proofs.Invariant.{Inv, Corresponds, RunCorresponds, Wires, wires}
use Rattle.laws.proofs.Notes.{notes}
use Rattle.laws.proofs.Theorems.{is_process}
use Rattle.laws.proofs.WriteSteps.{live}

-- a write of a part has as many bits as its register
part_fits : (c : Call) (m : Wires) (part : Part) (run : Run) (w : RegisterWrite) → is_over part ≡ false → RunCorresponds c m part run → write_at c part run ≡ Some w → length w.bits ≡ width c.setup w.field
part_fits c m part (Writing x) w going corresponds h =
    subst (λ (y : RegisterWrite). length y.bits ≡ width c.setup y.field) (some_write _ w h) (sym (written-width c part corresponds.0 going))
part_fits c m part (Reading bits begun) w going corresponds h = cc

-- each write of a process, or of its memory unit, has the width of its register
abbrev HasItsWidth : Setup → ℕ → RegisterWrite → Doing → Type 0
HasItsWidth s p w d = register_write s p d ≡ Some w → length w.bits ≡ width s w.field

closing_fits : (s : Setup) (p : ℕ) (w : RegisterWrite) (command : Command) (number : ℕ) (at : Closing) → HasItsWidth s p w (Closes command number at)
closing_fits s p w command number (Withdraws x) h = subst (λ (y : RegisterWrite). length y.bits ≡ width s y.field) (some_write _ w h) (length-bits_of_number s.ticket_bits 0)
closing_fits s p w command number (Settles f k begun taken is t) h = cc
closing_fits s p w command number (Frees is x) h = subst (λ (y : RegisterWrite). length y.bits ≡ width s y.field) (some_write _ w h) (length-bits_of_number s.ticket_bits 0)
closing_fits s p w command number (Lowers x) h = subst (λ (y : RegisterWrite). length y.bits ≡ width s y.field) (some_write _ w h) refl
closing_fits s p w command number Quit h = cc
closing_fits s p w command number Ended h = cc

-- in every record
pub writes_fit : WritesFitTheirRegister
writes_fit s good events p w h = record { bits = bits; run = (written_so_far s g events p w h).width_is ∙ bits }
  where
    g : IsGood s
    g = is_good s good

    past : Past
    past = past_of s events

    there : p < s.processes
    there = is_process s g events p (λ r. let f : None ≡ Some w = sym (ap (register_write s p) r) ∙ h in cc)

    go : (d : Doing) → doing s p past ≡ d → HasItsWidth s p w d
    go Rests does i = cc
    go Lies does i = cc
    go (Runs command number at) does i =
        let inv : Inv s past = inv_of s g events in
        let live : IsLive (Runs command number at) = subst IsLive does (live s g events p there) in
        part_fits (call s p command number) (wires s past p) at.part at.run w live (subst (Corresponds s p (notes s p past) (wires s past p)) does (inv.own p there).corresponds).0 i
    go (Closes command number at) does i = closing_fits s p w command number at i

    bits : length w.bits ≡ width s w.field
    bits = go (doing s p past) refl h
