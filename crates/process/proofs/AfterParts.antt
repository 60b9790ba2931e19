-- The part after a part, computed from the stored values.
use Rattle.std.proofs.Common.{◌≡◌, ◌≢◌, ℕ, suc, ◌+◌, ◌-◌, ◌^◌, ◌<◌, ◌≤◌, ◌==◌, Bool, true, false, List, [], ◌∷◌, flat_map, length, take, None, Some, sym, ap, ◌∙◌, subst, arith}
use Rattle.std.proofs.Math.Pow.{pow_mono}
use Rattle.std.proofs.lemmas.Bool.{eq-eqb, ne_eqb}
use Rattle.std.specs.List.{range_with_len}
use Rattle.model.specs.declared.access.Field.TheVariants.{Choosing, Ticket}
use Rattle.plain_store.specs.declared.Answer.TheVariants as answer
use Rattle.plain_store.specs.{Contents, changes}
use Rattle.model.specs.{Asks, Call, Clears, Part, Refuses, TakesTicket, Version, Wait, WritesImage, first_full, greatest, index_of, max_of, newest_stamp, part_after, processes, reply, to_b, to_c, to_d, to_e, to_g}
use Rattle.process.specs.{Holds, IsCall, KeepsPart, ProgramPoint, all_from, first_other, other_numbered, others_of, part_at, tickets_seen, versions_seen, waits_from}
use Rattle.process.specs.declared.part.ProgramPoint.TheVariants as at
use Rattle.process.specs.declared.values_read.ValuesRead.{ValuesRead}
use Rattle.process.proofs.Greatest.{greatest-there}
use Rattle.process.proofs.OthersFrom.{below-some, listed, other-at, others-from}

-- no register is so narrow that its greatest number is 0
pub most-some : (w : ℕ) → 1 ≤ w → 0 < max_of w
most-some w some = let least : 2 ^ 1 ≤ 2 ^ w = pow_mono {i = 1} {j = w} some in omega arith

-- C: the ticket is one more than the greatest one, if it fits
pub chosen-full : (c : Call) (ts : List ℕ) → IsCall c → length ts + 1 ≡ c.setup.processes → greatest ts ≡ max_of c.setup.ticket_bits → index_of (greatest ts) ts + 1 < c.setup.processes
chosen-full c ts is all full = by ts all full
  where
    by : (ts : List ℕ) → length ts + 1 ≡ c.setup.processes → greatest ts ≡ max_of c.setup.ticket_bits → index_of (greatest ts) ts + 1 < c.setup.processes
    by [] all full = absurd (omega (arith, most-some c.setup.ticket_bits is.some_ticket))
    by (t ∷ ts) all full = omega (arith, greatest-there (t ∷ ts) (omega arith))

pub refuses : (c : Call) (ts : List ℕ) → IsCall c → length ts + 1 ≡ c.setup.processes → greatest ts ≡ max_of c.setup.ticket_bits → Refuses (other_numbered c.process (index_of (greatest ts) ts)) ≡ to_c c ts
refuses c ts is all full =
    ap Refuses (sym (other-at c.setup.processes c.process (index_of (greatest ts) ts) is.process (chosen-full c ts is all full)))
    ∙ sym (ap (λ b. elim b as (λ _. Part) [ true ↦ Refuses (first_full c ts) | false ↦ TakesTicket (greatest ts + 1) ]) (eq-eqb (greatest ts) (max_of c.setup.ticket_bits) full))

pub takes : (c : Call) (ts : List ℕ) → greatest ts ≢ max_of c.setup.ticket_bits → TakesTicket (greatest ts + 1) ≡ to_c c ts
takes c ts low = sym (ap (λ b. elim b as (λ _. Part) [ true ↦ Refuses (first_full c ts) | false ↦ TakesTicket (greatest ts + 1) ]) (ne_eqb (greatest ts) (max_of c.setup.ticket_bits) low))

-- B: the ticket of the first of the others, if there is one
pub asks-some : (c : Call) (seen : ValuesRead) (first j : ℕ) → first ≤ c.setup.processes → first_other c.setup.processes c.process first ≡ Some j → part_at c seen (at.Asks j) ≡ to_b c (others_of c first) (tickets_seen c.process first seen)
asks-some c seen first j within is =
    ap (λ k. Asks j (others_of c (j + 1)) (take k seen.numbers)) (below-some c.setup.processes c.process first j is).2
    ∙ sym (ap (λ js. to_b c js (tickets_seen c.process first seen)) (others-from c.setup.processes c.process first within ∙ ap (listed c.setup.processes c.process) is))

pub asks-none : (c : Call) (ts : List ℕ) (first : ℕ) → first ≤ c.setup.processes → first_other c.setup.processes c.process first ≡ None → to_c c ts ≡ to_b c (others_of c first) ts
asks-none c ts first within is = sym (ap (λ js. to_b c js ts) (others-from c.setup.processes c.process first within ∙ ap (listed c.setup.processes c.process) is))

-- from the first process on
whole : (n : ℕ) → n - 0 ≡ n
whole n = omega arith

pub all-all : (c : Call) → all_from c 0 ≡ processes c.setup
all-all c = ap (range_with_len 0) (whole c.setup.processes)

-- E: the version of this process, if it exists
pub version-some : (c : Call) (seen : ValuesRead) (first : ℕ) → first < c.setup.processes → part_at c seen (at.AsksCommit first) ≡ to_e (all_from c first) (versions_seen first seen)
version-some c seen first inside =
    let more : c.setup.processes - first ≡ suc (c.setup.processes - (first + 1)) = omega arith in
    sym (ap (λ n. to_e (range_with_len first n) (versions_seen first seen)) more)

-- D: the wait for the first of the others, if there is one
pub awaits-some : (c : Call) (seen : ValuesRead) (t first j : ℕ) → first ≤ c.setup.processes → first_other c.setup.processes c.process first ≡ Some j → part_at c seen (at.AwaitsChoosing t j) ≡ to_d c t (waits_from c first)
awaits-some c seen t first j within is =
    sym (ap (λ js. to_d c t (flat_map (λ k. (let w : Wait = (k, Choosing) in w) ∷ (k, Ticket) ∷ []) js)) (others-from c.setup.processes c.process first within ∙ ap (listed c.setup.processes c.process) is))

pub awaits-none : (c : Call) (seen : ValuesRead) (t first : ℕ) → first ≤ c.setup.processes → first_other c.setup.processes c.process first ≡ None → to_e (all_from c 0) (versions_seen 0 seen) ≡ to_d c t (waits_from c first)
awaits-none c seen t first within is =
    ap (λ ks. to_e ks []) (all-all c)
    ∙ sym (ap (λ js. to_d c t (flat_map (λ k. (let w : Wait = (k, Choosing) in w) ∷ (k, Ticket) ∷ []) js)) (others-from c.setup.processes c.process first within ∙ ap (listed c.setup.processes c.process) is))

-- the part after a given one, and its invariant
abbrev pub part-then : Call → ValuesRead → List Bool → ProgramPoint → Part
part-then c seen bits part = part_after c (part_at c seen part) bits

pub keeps-then : (c : Call) (seen : ValuesRead) (part known next : ProgramPoint) → KeepsPart c seen part → part ≡ known → (Holds c seen known → Holds c seen next) → KeepsPart c seen next
keeps-then c seen part known next keeps is holds = record { call = keeps.call; room = keeps.room; holds = holds (subst (Holds c seen) is keeps.holds) }

pub g-full : (c : Call) (vs : List Version) (st : Contents) → changes st c.command ≡ true → newest_stamp vs ≡ max_of c.setup.stamp_bits → Clears answer.StampsFull ≡ to_g c vs st
g-full c vs st some full =
    sym (ap (λ b. elim b as (λ _. Part) [ true ↦ Clears answer.StampsFull | false ↦ WritesImage vs st ]) (eq-eqb (newest_stamp vs) (max_of c.setup.stamp_bits) full))
    ∙ sym (ap (λ b. elim b as (λ _. Part) [
      | false ↦ Clears (answer.Reply (reply c st))
      | true ↦ elim (newest_stamp vs == max_of c.setup.stamp_bits) as (λ _. Part) [ true ↦ Clears answer.StampsFull | false ↦ WritesImage vs st ]
    ]) some)

pub g-writes : (c : Call) (vs : List Version) (st : Contents) → changes st c.command ≡ true → newest_stamp vs ≢ max_of c.setup.stamp_bits → WritesImage vs st ≡ to_g c vs st
g-writes c vs st some low =
    sym (ap (λ b. elim b as (λ _. Part) [ true ↦ Clears answer.StampsFull | false ↦ WritesImage vs st ]) (ne_eqb (newest_stamp vs) (max_of c.setup.stamp_bits) low))
    ∙ sym (ap (λ b. elim b as (λ _. Part) [
      | false ↦ Clears (answer.Reply (reply c st))
      | true ↦ elim (newest_stamp vs == max_of c.setup.stamp_bits) as (λ _. Part) [ true ↦ Clears answer.StampsFull | false ↦ WritesImage vs st ]
    ]) some)
