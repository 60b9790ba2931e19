-- In a world that shows a record, the core, the history and each of the seats are those of the past.
use Rattle.std.proofs.lemmas.Option.{slice_get_read, slice_get_within}
use Rattle.std.proofs.Common.{◌≡◌, ℕ, zero, suc, ◌<◌, ◌≤◌, Bool, true, false, cond, List, [], ◌∷◌, Option, Some, None, length, map, refl, sym, ap, subst, ◌∙◌, arith}
use Rattle.std.specs.Prelude.{nat_lt, slice_get, slice_index_or}
use Rattle.std.proofs.lemmas.List.FromFn.{length-map-range_with_len}
use Rattle.plain_store.specs.{Setup}
use Rattle.plain_store.proofs.GoodSetups.{few-processes}
use Rattle.model.specs.{Event, Past, Refusal, Taken, calls_full, history, past_of, process_of, processes, refused, refused_at, stage}
use Rattle.model.specs.declared.refusals.Refusal.TheVariants.{NoProcess, CallsFull}
use Rattle.laws.proofs.Theorems.{less}
use Rattle.process.specs.{remaining_at}
use Rattle.process.specs.registers.{AreOf}
use Rattle.world.specs.{CoreState, Seat, remaining_in, seat_of, with_history}
use Rattle.world.specs.Shows.{Shows, WorldState}
use Rattle.world.proofs.WorldLists.{get-mapped}
use Rattle.world.proofs.WorldRegisters.{are_of, registers_at}

-- an event that is not refused is one of a process that exists, at a stage that allows it, and is not one call too many
pub record IsAllowed (s : Setup) (past : Past) (what : Event) : Type 0 where
  pub below : process_of what < s.processes
  pub at : refused_at what (stage (process_of what) past) ≡ None
  pub counted : calls_full s past what ≡ false

pub is-allowed : (s : Setup) (past : Past) (what : Event) → refused s past what ≡ None → IsAllowed s past what
is-allowed s past what h = go (nat_lt (process_of what) s.processes) refl (refused_at what (stage (process_of what) past)) refl (calls_full s past what) refl h
  where
    go : (b : Bool) → nat_lt (process_of what) s.processes ≡ b → (r : Option Refusal) → refused_at what (stage (process_of what) past) ≡ r → (f : Bool) → calls_full s past what ≡ f →
        cond b (elim r as (λ _. Option Refusal) [ Some x ↦ Some x | None ↦ cond f (Some CallsFull) None ]) (Some NoProcess) ≡ None → IsAllowed s past what
    go true i None j false k h = record { below = less (process_of what) s.processes i; at = j; counted = k }
    go true i None j true k h = cc
    go true i (Some x) j f k h = cc
    go false i r j f k h = cc

-- A seat that exists.

-- a seat by its index
pub seat-indexed : (seats : List Seat) (i p : ℕ) (seat : Seat) → i ≡ p → i < length seats → seat ≡ slice_index_or seats i seat → slice_get seats p ≡ Some seat
seat-indexed seats i p seat index l is = ap (slice_get seats) (sym index) ∙ slice_get_read seats (length seats) i seat refl l is

-- a seat exists if accesses are left in its register access
pub seat-there : (seats : List Seat) (p : ℕ) → 0 < remaining_in seats p → (seat : Seat) × (slice_get seats p ≡ Some seat) × (0 < remaining_at seat.process)
seat-there [] p some = absurd (omega (arith, some))
seat-there (x ∷ seats) zero some = (x, refl, some)
seat-there (x ∷ seats) (suc p) some = seat-there seats p some

pub seat-remaining : (seats : List Seat) (p : ℕ) (seat : Seat) → slice_get seats p ≡ Some seat → remaining_in seats p ≡ remaining_at seat.process
seat-remaining seats p seat is = ap (λ (o : Option Seat). elim o as (λ _. ℕ) [ None ↦ 0 | Some x ↦ remaining_at x.process ]) is

-- A world that shows a record.

pub many-seats : (w : WorldState) (events : List Event) → Shows w events → length w.seats ≡ w.setup.processes
many-seats w events shows = ap (λ (w : WorldState). length w.seats) shows.shown ∙ length-map-range_with_len (seat_of w.setup (past_of w.setup events)) 0 w.setup.processes

-- a process without a seat has a number above those of the processes that exist
pub seatless : (w : WorldState) (events : List Event) (p : ℕ) → Shows w events → slice_get w.seats p ≡ None → w.setup.processes ≤ p
seatless w events p shows none = let many = many-seats w events shows in let beyond = past w.seats p none in omega (arith, many, beyond)
  where
    past : (seats : List Seat) (p : ℕ) → slice_get seats p ≡ None → length seats ≤ p
    past [] p none = omega arith
    past (x ∷ seats) zero none = cc
    past (x ∷ seats) (suc p) none = let more = past seats p none in omega (arith, more)

-- a seat is that of its process
pub seat-shown : (w : WorldState) (events : List Event) (p : ℕ) (seat : Seat) → Shows w events → slice_get w.seats p ≡ Some seat → seat ≡ seat_of w.setup (past_of w.setup events) p
seat-shown w events p seat shows is =
    let many = many-seats w events shows in
    let l : p < w.setup.processes = let l = slice_get_within w.seats p seat is in omega (arith, l, many) in
    let both : Some seat ≡ Some (seat_of w.setup (past_of w.setup events) p) =
    sym is ∙ ap (λ (w : WorldState). slice_get w.seats p) shows.shown ∙ get-mapped (seat_of w.setup (past_of w.setup events)) 0 w.setup.processes p p l (omega arith) in
    cc

-- the core of a past
abbrev pub core_of : Setup → Past → CoreState
core_of s past = record { setup = s; registers = registers_at s past; seats = map (seat_of s past) (processes s) }

-- this core is that of a world that shows the record
pub core-shown : (c : CoreState) (taken : List Taken) (events : List Event) → Shows (with_history c taken) events → c ≡ core_of c.setup (past_of c.setup events)
core-shown c taken events shows = λ i. let core : CoreState = record { setup = c.setup; registers = (shows.shown i).registers; seats = (shows.shown i).seats } in core

pub history-shown : (c : CoreState) (taken : List Taken) (events : List Event) → Shows (with_history c taken) events → taken ≡ history c.setup (past_of c.setup events)
history-shown c taken events shows = ap (λ (w : WorldState). w.history) shows.shown

-- a process that exists has a seat, and its number is below 16
pub record IsSeated (c : CoreState) (p : ℕ) (seat : Seat) : Type 0 where
  pub there : slice_get c.seats p ≡ Some seat
  pub few : p < 16
  pub setup : seat.process.setup ≡ c.setup
  pub registers : AreOf seat.process.setup c.registers

pub is-seated : (c : CoreState) (taken : List Taken) (events : List Event) (p : ℕ) (seat : Seat) → Shows (with_history c taken) events → slice_get c.seats p ≡ Some seat → IsSeated c p seat
is-seated c taken events p seat shows there = record {
  there = there;
  few = let l = slice_get_within c.seats p seat there in let many = many-seats (with_history c taken) events shows in let most = few-processes c.setup shows.good in omega (arith, l, many, most);
  setup = setup;
  registers = subst (λ s. AreOf s c.registers) (sym setup) (subst (AreOf c.setup) (sym (ap (λ (w : WorldState). w.registers) shows.shown)) (are_of c.setup (past_of c.setup events)));
}
  where
    setup : seat.process.setup ≡ c.setup
    setup = ap (λ (x : Seat). x.process.setup) (seat-shown (with_history c taken) events p seat shows there)
