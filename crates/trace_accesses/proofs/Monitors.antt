-- The state of the monitor after one more entry.
use Rattle.std.proofs.Common.{◌≡◌, ℕ, ◌+◌, ◌<◌, ◌≤◌, ◌*◌, Bool, true, false, nat_lt, cond, List, ◌∷◌, Option, None, Some, length, option_map, Result, Ok, Err, IfOk, refl, sym, ap, ◌∙◌, subst, add-one}
use Rattle.std.proofs.lemmas.Bool.{and_parts, leb-true, ltb-true}
use Rattle.trace.specs.{CellAccess, LockMark, TraceEntry, TracePast, TraceSetup, is_trace_setup, trace_entry}
use Rattle.trace_memory.specs.{HasMade, MemoryState, has_cell, moves_on, open_write, place_of}
use Rattle.trace_memory.proofs.CellPlaces.{place_within}
use Rattle.trace_memory.proofs.Made.{made-still}
use Rattle.trace_accesses.specs.{HasRows, HasTaken, HasMonitored, IsMonitor, RowsState, MonitorState, MonitoredAccess, WaveLimit, counts_from, is_possible, possible_access, possible_past, rows_taken, shown_access, shown_as, monitored_access, waves_since}
use Rattle.trace_accesses.proofs.RowFacts.{rows-taken}

-- a setup in range has at most 64 registers
pub few-registers : (s : TraceSetup) → is_trace_setup s ≡ true → length s.registers ≤ 64
few-registers s good =
    let all = and_parts _ _ good in
    let some = and_parts _ _ all.0 in
    leb-true (length s.registers) 64 some.1

-- An access that is possible.

pub record IsPossible (s : TraceSetup) (p : ℕ) (a : CellAccess) : Type 0 where
  pub process : p < s.processes
  pub cell : has_cell s a.cell ≡ true

pub possible-parts : (s : TraceSetup) (p : ℕ) (o : Option CellAccess) (a : CellAccess) → possible_access s p o ≡ Some a → IsPossible s p a
possible-parts s p None a h = absurd (cc)
possible-parts s p (Some b) a h = by (is_possible s p b) refl h
  where
    by : (t : Bool) → is_possible s p b ≡ t → cond t (Some b) None ≡ Some a → IsPossible s p a
    by true is h =
        let same : b ≡ a = cc in
        let both = and_parts (nat_lt p s.processes) (has_cell s b.cell) is in
        record { process = ltb-true p s.processes both.0; cell = subst (λ (x : CellAccess). has_cell s x.cell ≡ true) same both.1 }
    by false is h = absurd (cc)

-- where the row of its cell is kept
pub row-within : (s : TraceSetup) (rows : RowsState) (a : CellAccess) → is_trace_setup s ≡ true → has_cell s a.cell ≡ true → length rows.places ≡ 16 * length s.registers → place_of a.cell < length rows.places
row-within s rows a good there long = subst (λ n. place_of a.cell < n) (sym long) (place_within s a.cell good there)

-- An entry without an access.
pub taken-still : (w : MonitorState) (p : ℕ) (marks : List LockMark) (past : TracePast) → HasTaken w past →
    HasTaken (record { memory = w.memory; rows = w.rows; limit = w.limit; entries = w.entries + 1 }) (trace_entry p None marks ∷ past)
taken-still w p marks past taken = record {
  made = made-still w.memory p marks past taken.made;
  rows = taken.rows;
  entries = ap (λ n. n + 1) taken.entries ∙ add-one (length past);
}

-- An entry with an access.
module _ (w : MonitorState) (a : CellAccess) (memory : MemoryState) (rows : RowsState) (is : IsMonitor w) (setup : memory.setup ≡ w.memory.setup) where
  abbrev next : MonitorState
  next = record { memory = memory; rows = rows; limit = w.limit; entries = w.entries + 1 }

  pub is-monitor : length rows.places ≡ length w.rows.places → IsMonitor next
  is-monitor long = record {
    good = subst (λ (s : TraceSetup). is_trace_setup s ≡ true) (sym setup) is.good;
    places = long ∙ is.places ∙ ap (λ (s : TraceSetup). 16 * length s.registers) (sym setup);
  }

  pub taken-on : (p : ℕ) (marks : List LockMark) (past : TracePast) → has_cell w.memory.setup a.cell ≡ true → HasTaken w past → HasMade memory (trace_entry p (Some a) marks ∷ past) →
      rows ≡ rows_taken (counts_from w.limit.from w.entries a.how (open_write (moves_on a.cell past))) a.cell w.rows → HasTaken next (trace_entry p (Some a) marks ∷ past)
  taken-on p marks past there taken made are = record {
    made = made;
    rows = subst (λ (s : TraceSetup). HasRows s rows (waves_since w.limit.from (trace_entry p (Some a) marks ∷ past))) (sym setup)
        (subst (λ (r : RowsState). HasRows w.memory.setup r (waves_since w.limit.from (trace_entry p (Some a) marks ∷ past)))
        (sym (are ∙ (λ i. rows_taken (counts_from w.limit.from (taken.entries i) a.how (open_write (moves_on a.cell past))) a.cell w.rows)))
        (rows-taken w.memory.setup w.rows (waves_since w.limit.from past) is.good is.places taken.rows (counts_from w.limit.from (length past) a.how (open_write (moves_on a.cell past))) a.cell there));
    entries = ap (λ n. n + 1) taken.entries ∙ add-one (length past);
  }

-- Entries of any kind.

-- a monitor that has taken in one more entry has observed it
pub monitored-on : (w new : MonitorState) (s : TraceSetup) (limit : WaveLimit) (past : TracePast) (e : TraceEntry) → HasMonitored w s limit past → new.memory.setup ≡ w.memory.setup → new.limit ≡ w.limit →
    HasTaken new (trace_entry e.process (possible_access w.memory.setup e.process e.access) e.marks ∷ possible_past s past) → HasMonitored new s limit (e ∷ past)
monitored-on w new s limit past e h setup same taken = record {
  setup = setup ∙ h.setup;
  shows = same ∙ h.shows;
  taken = subst (λ (s' : TraceSetup). HasTaken new (trace_entry e.process (possible_access s' e.process e.access) e.marks ∷ possible_past s past)) h.setup taken;
}

-- what is shown of it
pub shown-on : (w : MonitorState) (s : TraceSetup) (limit : WaveLimit) (past : TracePast) (e : TraceEntry) (o : Option MonitoredAccess) → HasMonitored w s limit past →
    o ≡ monitored_access w.memory.setup w.limit (possible_past s past) (trace_entry e.process (possible_access w.memory.setup e.process e.access) e.marks) →
    option_map (shown_as w.memory.setup.registers) o ≡ shown_access s limit past e
shown-on w s limit past e o h is =
    ap (option_map (shown_as w.memory.setup.registers)) is
    ∙ (λ i. option_map (shown_as (h.setup i).registers) (monitored_access (h.setup i) (h.shows i) (possible_past s past) (trace_entry e.process (possible_access (h.setup i) e.process e.access) e.marks)))

-- what holds of every result
pub ok_then : {A E : Type 0} {P Q : A → Type 0} (r : Result A E) → ((x : A) → P x → Q x) → IfOk r P → IfOk r Q
ok_then (Ok x) f h = f x h
ok_then (Err e) f h = tt
