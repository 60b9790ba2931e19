-- No number access is empty.
use Rattle.std.specs.Prelude.{◌≡◌, ℕ, zero, suc, ◌+◌, ◌-◌, ◌<◌, ◌≤◌, Bool, true, false, not, List, [], ◌∷◌, length, Ok}
use Rattle.std.proofs.Common.{arith}
use Rattle.std.proofs.lemmas.Bool.Decides.{nat_tests}
use Rattle.std.specs.Int.{is_in_range}
use Rattle.model.specs.{Call, Field, caller, new_image, newest_stamp, read_of, stamp_field, version_of, width, write_of}
use Rattle.model.specs.declared.access.Field.TheVariants.{Choosing, Ticket, Commit, Stamp0, Stamp1, Image0, Image1}
use Rattle.safe_number.specs.{bits_of_number}
use Rattle.safe_number.proofs.Numbers.{length_bits}
use Rattle.plain_store.specs.{Setup, after, checked}
use Rattle.store_image.specs.{image_of}
use Rattle.plain_store.proofs.GoodSetups.{good-checked}
use Rattle.model.specs.Parts.{Part, Raises, Asks, TakesTicket, Lowers, Refuses, Waits, AsksCommit, AsksStamp, AsksImage, WritesImage, WritesStamp, WritesCommit, Clears, Over, is_over, read_at, doing}
use Rattle.model.proofs.Singles.{write_of-pos, length-reads_from}

-- the properties of a setup that the check accepts
pub record IsGood (s : Setup) : Type 0 where
  pub others : ℕ
  pub processes_is : s.processes ≡ suc others
  pub ticket : ℕ
  pub ticket_is : s.ticket_bits ≡ suc ticket
  pub stamp : ℕ
  pub stamp_is : s.stamp_bits ≡ suc stamp
  pub slot : ℕ
  pub slot_is : s.slots ≡ suc slot

pub some : (n top : ℕ) → is_in_range 1 top n ≡ true → n ≡ suc (n - 1)
some n top h = let pos : 1 ≤ n = grind (arith, nat_tests) in omega arith

pub is_good : (s : Setup) → checked s ≡ Ok tt → IsGood s
is_good s h =
    let good = good-checked s h in
    record {
      others = s.processes - 1;
      processes_is = some s.processes _ good.processes;
      ticket = s.ticket_bits - 1;
      ticket_is = some s.ticket_bits _ good.ticket_bits;
      stamp = s.stamp_bits - 1;
      stamp_is = some s.stamp_bits _ good.stamp_bits;
      slot = s.slots - 1;
      slot_is = some s.slots _ good.slots;
    }

pub width-pos : (s : Setup) → IsGood s → (f : Field) → 0 < width s f
width-pos s g Choosing = omega arith
width-pos s g Ticket = rw g.ticket_is (omega arith)
width-pos s g Commit = omega arith
width-pos s g Stamp0 = rw g.stamp_is (omega arith)
width-pos s g Stamp1 = rw g.stamp_is (omega arith)
width-pos s g Image0 = omega (arith, g.slot_is)
width-pos s g Image1 = omega (arith, g.slot_is)

pub read_of-pos : (s : Setup) → IsGood s → (p owner : ℕ) (f : Field) → 0 < length (read_of s p owner f)
read_of-pos s g p owner f = omega (arith, length-reads_from p owner f 0 (width s f), width-pos s g f)

pub written-pos : (s : Setup) → IsGood s → (p : ℕ) (f : Field) (bits : List Bool) → 0 < length bits → 0 < length (write_of s p f bits)
written-pos s g p f [] h = absurd (omega arith)
written-pos s g p f (b ∷ bits) h = write_of-pos s p f b bits g.others g.processes_is

pub bits_of_number-pos : (w n : ℕ) → 0 < w → 0 < length (bits_of_number w n)
bits_of_number-pos zero n h = h
bits_of_number-pos (suc w) n h = omega arith

pub doing-pos : (c : Call) → IsGood c.setup → (part : Part) → is_over part ≡ false → 0 < length (doing c part)
doing-pos c g Raises o = written-pos c.setup g c.process Choosing (true ∷ []) (omega arith)
doing-pos c g (Asks j js ts) o = read_of-pos c.setup g c.process j Ticket
doing-pos c g (TakesTicket t) o = written-pos c.setup g c.process Ticket (bits_of_number c.setup.ticket_bits t) (bits_of_number-pos c.setup.ticket_bits t (width-pos c.setup g Ticket))
doing-pos c g (Lowers t) o = written-pos c.setup g c.process Choosing (false ∷ []) (omega arith)
doing-pos c g (Refuses f) o = written-pos c.setup g c.process Choosing (false ∷ []) (omega arith)
doing-pos c g (Waits t w ws) o = read_of-pos c.setup g c.process w.0 w.1
doing-pos c g (AsksCommit k ks vs) o = read_of-pos c.setup g c.process k Commit
doing-pos c g (AsksStamp k ks vs b) o = read_of-pos c.setup g c.process k (stamp_field b)
doing-pos c g (AsksImage vs) o = read_of-pos c.setup g c.process (read_at c (AsksImage vs)).0 (read_at c (AsksImage vs)).1
doing-pos c g (WritesImage vs st) o =
    written-pos c.setup g c.process _ (new_image c st) (omega (arith, length_bits (image_of (after st c.command (caller c))) (width c.setup Image0), width-pos c.setup g Image0))
doing-pos c g (WritesStamp vs st) o = written-pos c.setup g c.process _ (bits_of_number c.setup.stamp_bits (newest_stamp vs + 1)) (bits_of_number-pos c.setup.stamp_bits _ (width-pos c.setup g Stamp0))
doing-pos c g (WritesCommit vs st) o = written-pos c.setup g c.process Commit (not (version_of vs c.process) ∷ []) (omega arith)
doing-pos c g (Clears a) o = written-pos c.setup g c.process Ticket (bits_of_number c.setup.ticket_bits 0) (bits_of_number-pos c.setup.ticket_bits 0 (width-pos c.setup g Ticket))
doing-pos c g Over o = cc
