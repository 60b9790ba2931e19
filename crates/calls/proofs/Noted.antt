-- The state of a call with one access more.
use Rattle.std.proofs.Common.{◌≡◌, ℕ, Bool, true, false, ◌&&◌, not, cond, Option, None, Some, is_none, is_some, refl, ap, ◌∙◌}
use Rattle.plain_store.specs.{Setup}
use Rattle.model.specs.safe_bit.{is_begin_of_read, is_begin_of_write}
use Rattle.model.specs.{Access}
use Rattle.calls.specs.{Accesses, EntryFacts, Marked, first_if, more_if, waits_by, with_access}

none_reported : (o : Option ℕ) (b : Bool) → is_some o ≡ not b → b ≡ is_none o
none_reported None true is = refl
none_reported None false is = absurd (cc)
none_reported (Some n) true is = absurd (cc)
none_reported (Some n) false is = refl

pub noted : (s : Setup) (p number : ℕ) (known : EntryFacts) (m : Marked) (a : Access) (k : Accesses) (doorway : Option ℕ) (reads writes overlapped : ℕ) (itself reading writing waits : Bool) →
    doorway ≡ first_if itself number k.doorway → is_some m.failed ≡ not itself → reading ≡ is_begin_of_read a.how → writing ≡ is_begin_of_write a.how → reads ≡ more_if (reading && itself) k.reads → writes ≡ more_if (writing && itself) k.writes →
    overlapped ≡ more_if known.overlapped k.overlapped → waits ≡ waits_by s p m.ticket m.wait_end a known.read →
    ◌≡◌ {A = Accesses} (record { doorway = doorway; reads = reads; writes = writes; overlapped = overlapped; waited_for = cond waits (Some a.owner) k.waited_for }) (with_access s p number known m a k)
noted s p number known m a k doorway reads writes overlapped itself reading writing waits first goes_on begins_read begins_write r w o so =
    let own : itself ≡ is_none m.failed = none_reported m.failed itself goes_on in
    λ i. record {
      doorway = (first ∙ ap (λ b. first_if b number k.doorway) own) i;
      reads = (r ∙ (λ j. more_if (begins_read j && own j) k.reads)) i;
      writes = (w ∙ (λ j. more_if (begins_write j && own j) k.writes)) i;
      overlapped = o i;
      waited_for = cond (so i) (Some a.owner) k.waited_for;
    }
