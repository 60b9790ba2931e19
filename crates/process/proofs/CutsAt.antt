-- A failure finds a torn bit, which the unit settles, or none.
use Rattle.std.proofs.Common.{◌≡◌, ℕ, ◌+◌, ◌*◌, ◌==◌, ◌&&◌, ◌||◌, Bool, true, false, cond, not, List, [], ◌∷◌, get_or, length, Option, None, Some, option_map, refl, sym, ap, ◌∙◌, subst, arith, ◌<◌, ◌⊎◌, inl, inr}
use Rattle.std.proofs.lemmas.Bool.{cases_eq, eq-eqb, ne_eqb}
use Rattle.std.specs.Prelude.{IfSome}
use Rattle.plain_store.specs.{Reply, Setup}
use Rattle.registers.specs.reader_copies.Runs as copies
use Rattle.model.specs.{Change, Closing, Field, IsTornOf, begun_run, cut, is_read, named, no_ticket, pending_at, read_at, taken_with, torn_in, torn_run, width, written_at}
use Rattle.model.specs.declared.access.Field.TheVariants.{Commit, Ticket}
use Rattle.model.specs.Closings as closing
use Rattle.model.specs.safe_number.Runs as numbers
use Rattle.model.proofs.Closing.{ticket_width}
use Rattle.model.proofs.Ties.{written-width}
use Rattle.laws.specs.{Closes, is_inside}
use Rattle.registers.specs.{CursorState, ReadsAt, RegisterName, WritesAt, bit_begun, is_torn, is_writing, made_of_bit, run_at, run_by, settling, torn_bit, write_kept}
use Rattle.registers.specs.declared.cursor.RegisterAccessKind.TheVariants.{Writes}
use Rattle.process.specs.{IsOfCommit, KeepsPlace, PartState, ProcessState, Activity, SettlesAt, doing_at, failed, is_torn_at, reply_taken, settling_at, state_at, taken_at, torn_of, with_doing}
use Rattle.process.specs.declared.activity.Activity.TheVariants as work

-- the process has failed, and its unit does this work
abbrev then_closes : PartState → Closing → ProcessState
then_closes k at = with_doing k (Closes k.call.command k.call.number at)

-- THE TORN BIT OF A WRITE

abbrev torn_now : ℕ → copies.Settling
torn_now made = record { made = made; reader = 0; begun = false; value = None }

torn-if : (made bit : ℕ) (v torn : Bool) → (made == 0) ≡ not torn → numbers.torn_run bit (bit_begun made v) ≡ cond torn (Some (bit, torn_now made)) None
torn-if made bit v true some =
    ap (λ none. numbers.torn_run bit (cond none None (Some (record { value = v; made = made; ended = false })))) some
    ∙ ap (λ none. numbers.torn_with bit (cond (none || false) None (Some (torn_now made)))) some
torn-if made bit v false none = ap (λ none. numbers.torn_run bit (cond none None (Some (record { value = v; made = made; ended = false })))) none

-- the write of the bit has begun on a copy, or ended on one
made-none : (copy : ℕ) (begun : Bool) → (2 * copy + cond begun 1 0 == 0) ≡ not (not (copy == 0) || begun)
made-none copy true = ne_eqb (2 * copy + 1) 0 (omega arith) ∙ by (copy == 0)
  where
    by : (first : Bool) → false ≡ not (not first || true)
    by true = refl
    by false = refl
made-none copy false = elim (cases_eq copy 0) [
  | inl e ↦ eq-eqb (2 * copy + 0) 0 (omega arith) ∙ sym (ap (λ b. not (not b || false)) (eq-eqb copy 0 e))
  | inr e ↦ ne_eqb (2 * copy + 0) 0 (omega arith) ∙ sym (ap (λ b. not (not b || false)) (ne_eqb copy 0 e))
]

torn-write : (field : Field) (cur : CursorState) (torn : Bool) → cur.run ≡ Writes → is_torn cur ≡ torn → torn_in field (write_kept cur) ≡ cond torn (Some (named field (cur.bit, torn_now (made_of_bit cur)))) None
torn-write field cur torn run is =
    let made : (made_of_bit cur == 0) ≡ not torn = made-none cur.copy cur.begun ∙ sym (ap (λ r. not (is_writing r && (not (cur.copy == 0) || cur.begun))) run) ∙ ap not is in
    ap (option_map (named field)) (torn-if (made_of_bit cur) cur.bit (get_or cur.bits cur.bit false) torn made) ∙ by torn
  where
    by : (torn : Bool) → option_map (named field) (cond torn (Some (cur.bit, torn_now (made_of_bit cur))) None) ≡ cond torn (Some (named field (cur.bit, torn_now (made_of_bit cur)))) None
    by true = refl
    by false = refl

-- THE CASE OF A TORN BIT

torn-closing : (k : PartState) (written : Field × List Bool) (pending : Option Change) (inside : Bool) (taken : Option Reply) (cur : CursorState) → WritesAt k.call.setup k.call.process written cur → is_torn cur ≡ true → taken ≡ taken_with written.0 pending →
    settling_at (settling cur).run inside taken (settling cur) ≡ cut k.call (torn_in written.0 (write_kept cur)) (get_or written.1 cur.bit false) pending inside
torn-closing k written pending inside taken cur at torn takes =
    (λ i. closing.Settles (at.at i).field cur.bit (get_or (at.bits i) cur.bit false) (takes i) inside (torn_now (made_of_bit cur)))
    ∙ sym (ap (λ t. cut k.call t (get_or written.1 cur.bit false) pending inside) (torn-write written.0 cur true at.run torn))

-- a part that reads tears no bit
torn-writes : (k : PartState) (cur : CursorState) → KeepsPlace k work.Runs cur → is_torn cur ≡ true → (is_read k.part ≡ false) × WritesAt k.call.setup k.call.process (written_at k.call k.part) cur
torn-writes k cur keeps torn = by (is_read k.part) refl keeps.working.at
  where
    by : (b : Bool) → is_read k.part ≡ b → elim b as (λ _. Type 0) [ true ↦ ReadsAt k.call.setup k.call.process (read_at k.call k.part) cur | false ↦ WritesAt k.call.setup k.call.process (written_at k.call k.part) cur ] → (is_read k.part ≡ false) × WritesAt k.call.setup k.call.process (written_at k.call k.part) cur
    by true is at = absurd (let none : false ≡ true = sym (ap (λ r. is_writing r && (not (cur.copy == 0) || cur.begun)) at.run) ∙ torn in cc)
    by false is at = (is, at)

torn-run : (k : PartState) (inside : Bool) (cur : CursorState) → WritesAt k.call.setup k.call.process (written_at k.call k.part) cur →
    cut k.call (torn_in (written_at k.call k.part).0 (write_kept cur)) (get_or (written_at k.call k.part).1 cur.bit false) (pending_at k.call k.part) inside
    ≡ cut k.call (torn_run k.call k.part (run_at cur)) (begun_run k.call k.part (run_at cur)) (pending_at k.call k.part) inside
torn-run k inside cur at = sym (ap (λ r. cut k.call (torn_run k.call k.part (run_by r cur)) (begun_run k.call k.part (run_by r cur)) (pending_at k.call k.part) inside) at.run)

pub cut-torn : (k : PartState) (w : Activity) (cur : CursorState) (inside : Bool) (taken : Option (Bool × Reply)) → KeepsPlace k w cur → is_torn_at w cur ≡ true → inside ≡ is_inside (doing_at k w cur) → reply_taken taken ≡ taken_at k w →
    state_at k (work.Settles inside taken) (settling cur) ≡ failed (state_at k w cur)
cut-torn k work.Rests cur inside taken keeps torn is takes = absurd (cc)
cut-torn k work.Lies cur inside taken keeps torn is takes = absurd (cc)
cut-torn k work.Runs cur inside taken keeps torn is takes =
    let at = (torn-writes k cur keeps torn).1 in
    ap (then_closes k) (torn-closing k (written_at k.call k.part) (pending_at k.call k.part) inside (reply_taken taken) cur at torn takes ∙ torn-run k inside cur at)
    ∙ ap (λ i. then_closes k (cut k.call (torn_run k.call k.part (run_at cur)) (begun_run k.call k.part (run_at cur)) (pending_at k.call k.part) i)) is
cut-torn k work.Withdraws cur inside taken keeps torn is takes =
    ap (then_closes k) (torn-closing k (Ticket, no_ticket k.call) None inside (reply_taken taken) cur keeps.working torn takes)
    ∙ ap (λ i. then_closes k (cut k.call (torn_in Ticket (write_kept cur)) (get_or (no_ticket k.call) cur.bit false) None i)) is
cut-torn k (work.Settles i t) cur inside taken keeps torn is takes = absurd (cc)
cut-torn k (work.Frees i) cur inside taken keeps torn is takes = absurd (cc)
cut-torn k work.Lowers cur inside taken keeps torn is takes = absurd (cc)

-- the unit is at that bit
settles-torn : (s : Setup) (p : ℕ) (written : Field × List Bool) (taken : Option (Bool × Reply)) (cur : CursorState) → WritesAt s p written cur → width s written.0 ≡ length written.1 → IfSome taken (λ (t : Bool × Reply). t.0 ≡ get_or cur.bits cur.bit false) → SettlesAt s p taken (settling cur)
settles-torn s p written taken cur at long given = record {
  cut = made_of_bit cur;
  value = None;
  run = refl;
  owner = ap (λ (r : RegisterName). r.owner) at.at;
  reader = at.reader;
  copies = at.copies;
  wide = at.wide ∙ sym (ap (λ (r : RegisterName). width s r.field) at.at);
  copy = omega (arith, at.copy);
  going = at.going;
  known = omega (arith, at.going, at.wide, long, ap length at.bits);
  settled = λ begun. absurd (cc);
  written = given;
}

of-commit : (s : Setup) (p : ℕ) (written : Field × List Bool) (t : Bool × Reply) (cur : CursorState) → WritesAt s p written cur → written ≡ (Commit, t.0 ∷ []) → t.0 ≡ get_or cur.bits cur.bit false
of-commit s p written t cur at is =
    let wide : cur.width ≡ 1 = at.wide ∙ ap (λ (w : Field × List Bool). width s w.0) is in
    let first : cur.bit ≡ 0 = omega (arith, at.going, wide) in
    let bits : cur.bits ≡ t.0 ∷ [] = at.bits ∙ ap (λ (w : Field × List Bool). w.1) is in
    sym (λ i. get_or (bits i) (first i) false)

-- the value that a part writes is as wide as its register
wide-written : (k : PartState) (cur : CursorState) → KeepsPlace k work.Runs cur → is_torn cur ≡ true → width k.call.setup (written_at k.call k.part).0 ≡ length (written_at k.call k.part).1
wide-written k cur keeps torn = written-width k.call k.part (torn-writes k cur keeps torn).0 keeps.working.going

pub cut-keeps : (k : PartState) (w : Activity) (cur : CursorState) (inside : Bool) (taken : Option (Bool × Reply)) → KeepsPlace k w cur → is_torn_at w cur ≡ true → IfSome taken (IsOfCommit k w) → KeepsPlace k (work.Settles inside taken) (settling cur)
cut-keeps k work.Rests cur inside taken keeps torn commit = absurd (cc)
cut-keeps k work.Lies cur inside taken keeps torn commit = absurd (cc)
cut-keeps k work.Runs cur inside None keeps torn commit = record { call = keeps.call; working = settles-torn k.call.setup k.call.process (written_at k.call k.part) None cur (torn-writes k cur keeps torn).1 (wide-written k cur keeps torn) tt }
cut-keeps k work.Runs cur inside (Some t) keeps torn commit =
    let at = (torn-writes k cur keeps torn).1 in
    record { call = keeps.call; working = settles-torn k.call.setup k.call.process (written_at k.call k.part) (Some t) cur at (wide-written k cur keeps torn) (of-commit k.call.setup k.call.process (written_at k.call k.part) t cur at commit) }
cut-keeps k work.Withdraws cur inside None keeps torn commit = record { call = keeps.call; working = settles-torn k.call.setup k.call.process (Ticket, no_ticket k.call) None cur keeps.working (ticket_width k.call) tt }
cut-keeps k work.Withdraws cur inside (Some t) keeps torn commit = absurd commit
cut-keeps k (work.Settles i t) cur inside taken keeps torn commit = absurd (cc)
cut-keeps k (work.Frees i) cur inside taken keeps torn commit = absurd (cc)
cut-keeps k work.Lowers cur inside taken keeps torn commit = absurd (cc)

-- THE STATE AT A FAILURE

torn-in-is : (s : Setup) (p : ℕ) (written : Field × List Bool) (cur : CursorState) → WritesAt s p written cur → torn_in written.0 (write_kept cur) ≡ torn_bit cur
torn-in-is s p written cur at =
    torn-write written.0 cur (is_torn cur) at.run refl
    ∙ ap (λ (r : RegisterName). cond (is_torn cur) (Some (named r.field (cur.bit, torn_now (made_of_bit cur)))) None) (sym at.at)

runs-torn : (k : PartState) (cur : CursorState) → KeepsPlace k work.Runs cur → torn_bit cur ≡ torn_run k.call k.part (run_at cur)
runs-torn k cur keeps = by (is_read k.part) keeps.working.at
  where
    by : (b : Bool) → elim b as (λ _. Type 0) [ true ↦ ReadsAt k.call.setup k.call.process (read_at k.call k.part) cur | false ↦ WritesAt k.call.setup k.call.process (written_at k.call k.part) cur ] → torn_bit cur ≡ torn_run k.call k.part (run_at cur)
    by true at =
        ap (λ r. cond (is_writing r && (not (cur.copy == 0) || cur.begun)) (Some (named cur.register.field (cur.bit, torn_now (made_of_bit cur)))) None) at.run
        ∙ sym (ap (λ r. torn_run k.call k.part (run_by r cur)) at.run)
    by false at = sym (ap (λ r. torn_run k.call k.part (run_by r cur)) at.run ∙ torn-in-is k.call.setup k.call.process (written_at k.call k.part) cur at)

-- it is one of the setup
torn-known : (s : Setup) (cur : CursorState) → cur.bit < width s cur.register.field → 0 < s.processes → IfSome (torn_bit cur) (IsTornOf s)
torn-known s cur inside some = by (is_torn cur)
  where
    by : (b : Bool) → IfSome (cond b (Some (named cur.register.field (cur.bit, torn_now (made_of_bit cur)))) None) (IsTornOf s)
    by true = (inside, some)
    by false = tt

inside-register : (s : Setup) (r : RegisterName) (owner : ℕ) (field : Field) (bit wide : ℕ) → bit < wide → wide ≡ width s field → r ≡ record { owner = owner; field = field } → bit < width s r.field
inside-register s r owner field bit wide going is at = omega (arith, going, is, ap (λ (r : RegisterName). width s r.field) at)

runs-inside : (k : PartState) (cur : CursorState) → KeepsPlace k work.Runs cur → cur.bit < width k.call.setup cur.register.field
runs-inside k cur keeps = by (is_read k.part) keeps.working.at
  where
    by : (b : Bool) → elim b as (λ _. Type 0) [ true ↦ ReadsAt k.call.setup k.call.process (read_at k.call k.part) cur | false ↦ WritesAt k.call.setup k.call.process (written_at k.call k.part) cur ] → cur.bit < width k.call.setup cur.register.field
    by true at = inside-register k.call.setup cur.register (read_at k.call k.part).0 (read_at k.call k.part).1 cur.bit cur.width at.going at.wide at.at
    by false at = inside-register k.call.setup cur.register k.call.process (written_at k.call k.part).0 cur.bit cur.width at.going at.wide at.at

-- at work that may tear a bit
abbrev TornIs : PartState → Activity → CursorState → Type 0
TornIs k w cur = (torn_bit cur ≡ torn_of k.call.setup k.call.process (doing_at k w cur)) × IfSome (torn_bit cur) (IsTornOf k.call.setup)

torn-works : (k : PartState) (w : Activity) (cur : CursorState) → (w ≡ work.Runs) ⊎ (w ≡ work.Withdraws) → KeepsPlace k w cur → TornIs k w cur
torn-works k w cur (inl runs) keeps =
    let now = subst (λ w. KeepsPlace k w cur) runs keeps in
    subst (λ w. TornIs k w cur) (sym runs) (runs-torn k cur now, torn-known k.call.setup cur (runs-inside k cur now) (omega (arith, now.call.process)))
torn-works k w cur (inr withdraws) keeps =
    let now = subst (λ w. KeepsPlace k w cur) withdraws keeps in
    let at = now.working in
    subst (λ w. TornIs k w cur) (sym withdraws) (
      sym (torn-in-is k.call.setup k.call.process (Ticket, no_ticket k.call) cur at),
      torn-known k.call.setup cur (inside-register k.call.setup cur.register k.call.process Ticket cur.bit cur.width at.going at.wide at.at) (omega (arith, now.call.process)),
    )

pub torn-shown : (k : PartState) (w : Activity) (cur : CursorState) (now : ProcessState) → KeepsPlace k w cur → state_at k w cur ≡ now → (w ≡ work.Runs) ⊎ (w ≡ work.Withdraws) → (torn_bit cur ≡ torn_of now.setup now.process now.doing) × IfSome (torn_bit cur) (IsTornOf now.setup)
torn-shown k w cur now keeps shown may = subst (λ (x : ProcessState). (torn_bit cur ≡ torn_of x.setup x.process x.doing) × IfSome (torn_bit cur) (IsTornOf x.setup)) shown (torn-works k w cur may keeps)
