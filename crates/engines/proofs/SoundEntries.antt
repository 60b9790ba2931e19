-- The entries of every record fit: their parts are in range, and the number of their marks is limited.
use Rattle.std.proofs.Common.{◌≡◌, ℕ, suc, ◌+◌, ◌<◌, ◌≤◌, ◌^◌, ◌==◌, ◌&&◌, nat_lt, if◌then◌else◌, Bool, true, false, List, [], ◌∷◌, ◌++◌, length, Option, Some, None, Ok, is_some, true≢false, refl, sym, ap, subst, ◌∙◌, arith}
use Rattle.std.proofs.Math.Pow.{pow_mono}
use Rattle.std.proofs.lemmas.Bool.{and_from}
use Rattle.std.proofs.lemmas.Bool.Decides.{nat_tests}
use Rattle.std.proofs.lemmas.List.{length-append}
use Rattle.std.specs.Int.{is_in_range}
use Rattle.std.specs.List.{list_all}
use Rattle.scenario_run.specs.model.{Access, Entry, Event, Field, Mark, Next, Part, Past, Place, Taken, added, entry_made, entry_of, history, is_event, is_fresh, marks_of, nth, own, past_of, program, reply_taken, since, starts, stepped, value_of, width}
use Rattle.scenario_run.specs.model.declared.access.Field.TheVariants.{Choosing, Ticket, Commit, Stamp0, Stamp1, Image0, Image1}
use Rattle.plain_store.proofs.GoodSetups.{few-processes, good-checked}
use Rattle.plain_store.specs.{Command, Reply, Setup, callers_of, checked, most_bits}
use Rattle.scenario_run.specs.model.Parts as part
use Rattle.scenario_run.specs.model.declared.events.Event.TheVariants as event
use Rattle.scenario_run.specs.model.declared.marks.Mark.TheVariants.{Called, Failed, Withdrew, Restarted}
use Rattle.scenario_run.proofs.model.Local.{option_map-some}
use Rattle.scenario_run.proofs.model.Width.{is_good}
use Rattle.scenario_run.proofs.model.World.{entry-accepted}
use Rattle.scenario_run.specs.laws.{Doing, IsThere, Runs, call, doing}
use Rattle.sweeper.proofs.laws.Always.{inv_of}
use Rattle.sweeper.proofs.laws.Frame.{Happens, a_call, a_withdrawal, a_failure, a_restart, a_step, a_closing}
use Rattle.sweeper.proofs.laws.FrameEvents.{Accepted, accepted}
use Rattle.sweeper.proofs.laws.HeldThere.{access_there}
use Rattle.sweeper.proofs.laws.Invariant.{Own, PartCorresponds, Wires, next_time, wires}
use Rattle.sweeper.proofs.laws.Notes.{Notes, notes}
use Rattle.scenario_run.proofs.history_laws.CountedChanges.{history-none, history-takes, taken_at}
use Rattle.judge.specs.record_file.{is_access, is_entry, is_mark}
use Rattle.judge.proofs.record_file.FewMarks.{AreFew, closing_few, placed_few, step_few}
use Rattle.engines.proofs.SoundDoings.{doing_sound, is_sound_doing}
use Rattle.judge.proofs.record_file.SoundMarks.{TicketFits, closing_sound, placed_sound, step_sound}

-- marks that fit
pub record AreGood (ms : List Mark) : Type 0 where
  pub sound : list_all is_mark ms ≡ true
  pub few : AreFew ms

-- Tickets.

few_bits : (s : Setup) → checked s ≡ Ok tt → s.ticket_bits ≤ 32
few_bits s h = by (s.version == 1) (good-checked s h).ticket_bits
  where
    by : (b : Bool) → is_in_range 1 (if b then 16 else 32) s.ticket_bits ≡ true → s.ticket_bits ≤ 32
    by true fits = grind (arith, nat_tests)
    by false fits = grind (arith, nat_tests)

-- a ticket that is held fits the ticket bits
ticket_fits : (s : Setup) → s.ticket_bits ≤ 32 → (p now : ℕ) (n : Notes) (m : Wires) (command : Command) (number : ℕ) (at : Place) → Own s p now (Runs command number at) n m → TicketFits at.part
ticket_fits s few p now n m command number at mine = by at.part (is_fresh at.run) mine.corresponds.1
  where
    by : (x : Part) (fresh : Bool) → PartCorresponds s p n x fresh → TicketFits x
    by (part.Lowers t) fresh corresponds =
        let held : n.ticket < 2 ^ s.ticket_bits = mine.senior.fits corresponds.0 in
        let most : 2 ^ s.ticket_bits ≤ 2 ^ 32 = pow_mono {i = s.ticket_bits} {j = 32} few in
        let is : n.ticket ≡ t = corresponds.1 in
        grind (arith, nat_tests)
    by _ fresh corresponds = tt

-- One entry.

-- an entry with a mark alone
marked_good : (p : ℕ) (m : Mark) (e : Entry) → Some (record { process = p; access = None; marks = m ∷ [] }) ≡ Some e → AreGood (m ∷ []) → AreGood e.marks
marked_good p m e is good = let same : record { process = p; access = None; marks = m ∷ [] } ≡ e = cc in subst (λ (x : Entry). AreGood x.marks) same good

-- the entry of a step
stepped_good : (s : Setup) → checked s ≡ Ok tt → (events : List Event) (p : ℕ) (flick : Bool) (e : Entry) → nat_lt (length (history s (past_of s events))) (2 ^ 64) ≡ true →
    stepped s (past_of s events) p flick ≡ Some e → Accepted s (past_of s events) (event.Step p flick) e → AreGood e.marks
stepped_good s h events p flick e few is step = go step.happens
  where
    past : Past
    past = past_of s events

    k : ℕ
    k = length (history s past)

    d' : Doing
    d' = doing s e.process (e ∷ past)

    made : (n : Next) × (nth (length (since starts (own p past))) (program s p flick (own p past)) ≡ Some n) × (entry_made s past p flick n ≡ e)
    made = option_map-some (entry_made s past p flick) (nth (length (since starts (own p past))) (program s p flick (own p past))) e is

    accessed : e.access ≡ None → ⊥
    accessed none = let f : (entry_made s past p flick made.0).access ≡ None = ap (λ (x : Entry). x.access) made.2 ∙ none in true≢false (ap is_some f)

    sound : is_sound_doing (doing s e.process past) ≡ true
    sound = let few : s.processes ≤ 16 = few-processes s h in doing_sound s e.process past (omega (arith, few))

    go : Happens s past e.process e (doing s e.process past) d' → AreGood e.marks
    go (a_call command number was none marks goes) = absurd (accessed none)
    go (a_withdrawal command number t w ws run was none marks goes) = absurd (accessed none)
    go (a_failure command number may none marks goes) = absurd (accessed none)
    go (a_restart was none marks goes) = absurd (accessed none)
    go (a_step command number at a flick was over access is marks goes) =
        let c = call s e.process command number in
        let there = subst (λ d. Own s e.process (next_time past) d (notes s e.process past) (wires s past e.process)) was ((inv_of s (is_good s h) events).own e.process step.below) in
        subst AreGood (sym marks) (record {
          sound = placed_sound k (marks_of c at (value_of a.how)) few (step_sound c at (value_of a.how) (subst (λ d. is_sound_doing d ≡ true) was sound)
              (ticket_fits s (few_bits s h) e.process (next_time past) (notes s e.process past) (wires s past e.process) command number at there));
          few = placed_few k (marks_of c at (value_of a.how)) (step_few c at (value_of a.how));
        })
    go (a_closing command number at flick n was next access same marks goes) =
        let c = call s e.process command number in
        subst AreGood (sym marks) (record {
          sound = placed_sound k n.marks few (closing_sound c at flick n next (subst (λ d. is_sound_doing d ≡ true) was sound));
          few = placed_few k n.marks (closing_few c at flick n next);
        })

marks_good : (s : Setup) → checked s ≡ Ok tt → (events : List Event) (what : Event) (e : Entry) → nat_lt (length (history s (past_of s events))) (2 ^ 64) ≡ true → is_event what ≡ true →
    entry_of s (past_of s events) what ≡ Some e → AreGood e.marks
marks_good s h events what e few given is = by what given (entry-accepted s (past_of s events) what e is).2 (accepted s (is_good s h) events what e is)
  where
    alone : (m : Mark) → is_mark m ≡ true → AreFew (m ∷ []) → AreGood (m ∷ [])
    alone m sound few = record { sound = and_from (is_mark m) true sound refl; few = few }

    by : (x : Event) → is_event x ≡ true → added s (past_of s events) x ≡ Some e → Accepted s (past_of s events) x e → AreGood e.marks
    by (event.Call p command) given adds step = marked_good p (Called command) e adds (alone (Called command) given (record { few = omega arith; small = omega arith }))
    by (event.Fail p) given adds step = marked_good p Failed e adds (alone Failed refl (record { few = omega arith; small = omega arith }))
    by (event.Withdraw p) given adds step = marked_good p Withdrew e adds (alone Withdrew refl (record { few = omega arith; small = omega arith }))
    by (event.Restart p) given adds step = marked_good p Restarted e adds (alone Restarted refl (record { few = omega arith; small = omega arith }))
    by (event.Step p flick) given adds step = stepped_good s h events p flick e few adds step

-- Accesses.

few_copies : (s : Setup) → checked s ≡ Ok tt → (f : Field) → width s f ≤ 65536
few_copies s h = by
  where
    processes : s.processes ≤ 16
    processes = few-processes s h

    slots : s.slots ≤ 8
    slots = let fits : is_in_range 1 8 s.slots ≡ true = (good-checked s h).slots in grind (arith, nat_tests)

    bits : (n : ℕ) → is_in_range 1 (most_bits s.version) n ≡ true → n ≤ 65536
    bits n = at (s.version == 1)
      where
        at : (b : Bool) → is_in_range 1 (if b then 16 else 32) n ≡ true → n ≤ 65536
        at true fits = grind (arith, nat_tests)
        at false fits = grind (arith, nat_tests)

    callers : callers_of s ≤ 16
    callers = at (s.version == 1)
      where
        at : (b : Bool) → (if b then 0 else s.processes) ≤ 16
        at true = omega arith
        at false = processes

    by : (f : Field) → width s f ≤ 65536
    by Choosing = omega arith
    by Ticket = bits s.ticket_bits (good-checked s h).ticket_bits
    by Commit = omega arith
    by Stamp0 = bits s.stamp_bits (good-checked s h).stamp_bits
    by Stamp1 = bits s.stamp_bits (good-checked s h).stamp_bits
    by Image0 = omega (arith, slots, callers)
    by Image1 = omega (arith, slots, callers)

access_good : (s : Setup) → checked s ≡ Ok tt → (o : Option Access) → ((a : Access) → o ≡ Some a → IsThere s a) → is_access o ≡ true
access_good s h None there = refl
access_good s h (Some a) there =
    let is : IsThere s a = there a refl in
    let few : s.processes ≤ 16 = few-processes s h in
    let wide : width s a.field ≤ 65536 = few_copies s h a.field in
    let owner : a.owner < s.processes = is.owner in
    let reader : a.reader < s.processes = is.reader in
    let bit : a.bit < width s a.field = is.bit in
    and_from (nat_lt a.owner 256) (nat_lt a.bit 65536 && nat_lt a.reader 256) (grind (arith, nat_tests))
    (and_from (nat_lt a.bit 65536) (nat_lt a.reader 256) (grind (arith, nat_tests)) (grind (arith, nat_tests)))

-- The facts about an entry that an event adds, if fewer than 2^64 commands were taken.
pub record EntryFits (e : Entry) : Type 0 where
  pub sound : is_entry e ≡ true
  pub few : AreFew e.marks

pub entry_fits : (s : Setup) → checked s ≡ Ok tt → (events : List Event) (what : Event) (e : Entry) → length (history s (past_of s events)) < 2 ^ 64 → is_event what ≡ true →
    entry_of s (past_of s events) what ≡ Some e → EntryFits e
entry_fits s h events what e small given is =
    let marks = marks_good s h events what e (grind (arith, nat_tests)) given is in
    let below : e.process < s.processes = (accepted s (is_good s h) events what e is).below in
    let few : s.processes ≤ 16 = few-processes s h in
    let process : nat_lt e.process 256 ≡ true = grind (arith, nat_tests) in
    let access = access_good s h e.access (access_there s (is_good s h) events what e is) in
    record {
      sound = and_from (nat_lt e.process 256) (is_access e.access && list_all is_mark e.marks) process (and_from (is_access e.access) (list_all is_mark e.marks) access marks.sound);
      few = marks.few;
    }

-- The history has at most as many commands as there were events.
pub few_taken : (s : Setup) (events : List Event) → length (history s (past_of s events)) ≤ length events
few_taken s [] = omega arith
few_taken s (what ∷ events) = by (few_taken s events) (entry_of s (past_of s events) what)
  where
    past : Past
    past = past_of s events

    taken : length (history s past) ≤ length events → (e : Entry) (r : Option Reply) → reply_taken e.marks ≡ r → length (history s (e ∷ past)) ≤ suc (length events)
    taken before e None is = let same : length (history s (e ∷ past)) ≡ length (history s past) = ap (λ (l : List Taken). length l) (history-none s past e is) in omega (arith, same, before)
    taken before e (Some r) is =
        let same : length (history s (e ∷ past)) ≡ length (history s past ++ taken_at s past e r ∷ []) = ap (λ (l : List Taken). length l) (history-takes s past e r is) in
        let more : length (history s past ++ taken_at s past e r ∷ []) ≡ length (history s past) + 1 = length-append (history s past) (taken_at s past e r ∷ []) in
        omega (arith, same, more, before)

    by : length (history s past) ≤ length events → (o : Option Entry) → length (history s (elim o as (λ _. Past) [ None ↦ past | Some e ↦ e ∷ past ])) ≤ suc (length events)
    by before None = omega (arith, before)
    by before (Some e) = taken before e (reply_taken e.marks) refl
