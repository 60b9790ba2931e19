-- Callers: a store of version 1 does not distinguish them.
use Rattle.std.proofs.Common.{◌≡◌, ℕ, ◌+◌, true, false, if◌then◌else◌, ◌==◌, nat_lt, List, length, slice_index, slice_set, sym, ap, ◌∙◌, arith}
use Rattle.std.proofs.lemmas.List.{get_or_past, set_past}
use Rattle.plain_store.specs.{Caller, Command, Contents, Setup, after, callers_of, changes, name_of, outcome, pairs_after, reply_to, value_for}
use Rattle.call_check.specs.{Call, IsCaller, caller_of}

-- positions past the end of the numbers read equal, and writing there changes nothing
same_read : (numbers : List ℕ) (p q : ℕ) → length numbers ≡ 0 → slice_index numbers p ≡ slice_index numbers q
same_read numbers p q none = get_or_past numbers p 0 (omega (arith, none)) ∙ sym (get_or_past numbers q 0 (omega (arith, none)))

same_write : (numbers : List ℕ) (p q m n : ℕ) → length numbers ≡ 0 → slice_set numbers p m ≡ slice_set numbers q n
same_write numbers p q m n none = set_past numbers p m (omega (arith, none)) ∙ sym (set_past numbers q n (omega (arith, none)))

no_numbers : (s : Setup) (store : Contents) → (s.version == 1) ≡ true → length store.numbers ≡ callers_of s → length store.numbers ≡ 0
no_numbers s store one size = size ∙ ap (λ b. if b then 0 else s.processes) one

same_after : (store : Contents) (command : Command) (a b : Caller) → length store.numbers ≡ 0 → after store command a ≡ after store command b
same_after store command a b none = λ i. record {
  pairs = pairs_after store command;
  slots = store.slots;
  numbers = if changes store command then same_write store.numbers a.process b.process a.number b.number none i else store.numbers;
}

pub of_version_one : (s : Setup) (call : Call) → (s.version == 1) ≡ true → IsCaller s call (record { process = 0; number = 0 })
of_version_one s call one = record {
  reply = λ store size command. ap (λ n. (outcome (value_for store.pairs (name_of command)) (nat_lt (length store.pairs) store.slots) n command).reply)
      (same_read store.numbers 0 call.port (no_numbers s store one size));
  after = λ store size command. same_after store command (record { process = 0; number = 0 }) (caller_of s call) (no_numbers s store one size);
}

same_caller : (s : Setup) (call : Call) (p n : ℕ) → (s.version == 1) ≡ false → p ≡ call.port → n ≡ call.index + 1 → (record { process = p; number = n }) ≡ caller_of s call
same_caller s call p n two same_port same_number = λ i. record {
  process = same_port i;
  number = (same_number ∙ sym (ap (λ b. if b then 0 else call.index + 1) two)) i;
}

pub of_version_two : (s : Setup) (call : Call) (p n : ℕ) → (s.version == 1) ≡ false → p ≡ call.port → n ≡ call.index + 1 → IsCaller s call (record { process = p; number = n })
of_version_two s call p n two same_port same_number =
    let same : (record { process = p; number = n }) ≡ caller_of s call = same_caller s call p n two same_port same_number in
    record {
      reply = λ store size command. ap (reply_to store command) same;
      after = λ store size command. ap (after store command) same;
    }
