-- Each value that the reasons name keeps all laws.
use Rattle.std.proofs.Common.{◌≡◌, ℕ, true, List, [], Option, None, Some, is_none, refl}
use Rattle.std.specs.List.{All, filter}
use Rattle.std.proofs.lemmas.List.Elements.{All-nil, All-same, All-weaker, filter_passes}
use Rattle.trace.specs.{CellAccess, TraceEntry, TracePast, TraceSetup}
use Rattle.trace_memory.specs.{allowed_values, if_few, present, read_ended, register_of}
use Rattle.trace_judge.specs.{AreReasons, TraceReasons, entry_reading, first_broken, keeps_with, mays_of}
use Rattle.trace_judge.specs.declared.verdicts.TraceLaw.TheVariants.{Memory}

is_none_none : {A : Type 0} (o : Option A) → is_none o ≡ true → o ≡ None
is_none_none None h = refl
is_none_none (Some x) h = absurd (cc)

passes : (s : TraceSetup) (past : TracePast) (e : TraceEntry) (vs : List ℕ) → All (λ v. first_broken s past (entry_reading v e) ≡ None) (filter (keeps_with s past e) vs)
passes s past e vs =
    All-weaker (λ v. keeps_with s past e v ≡ true) (λ v. first_broken s past (entry_reading v e) ≡ None)
    (λ v h. is_none_none (first_broken s past (entry_reading v e)) h) (filter (keeps_with s past e) vs) (filter_passes (keeps_with s past e) vs)

all-mays : (s : TraceSetup) (past : TracePast) (e : TraceEntry) → All (λ v. first_broken s past (entry_reading v e) ≡ None) (mays_of s past e)
all-mays s past e = by e.access
  where
    by : (o : Option CellAccess) → All (λ v. first_broken s past (entry_reading v e) ≡ None)
        (elim o as (λ _. List ℕ) [ None ↦ [] | Some a ↦ filter (keeps_with s past e) (if_few (allowed_values s.memory (register_of s a.cell) (read_ended past e.process a))) ])
    by None = All-nil (λ v. first_broken s past (entry_reading v e) ≡ None)
    by (Some a) = passes s past e (if_few (allowed_values s.memory (register_of s a.cell) (read_ended past e.process a)))

pub mays-keep : (s : TraceSetup) (past : TracePast) (e : TraceEntry) (r : TraceReasons) → AreReasons s past e Memory r → All (λ v. first_broken s past (entry_reading v e) ≡ None) (present r.may)
mays-keep s past e r are = All-same (λ v. first_broken s past (entry_reading v e) ≡ None) (present r.may) (mays_of s past e) are.may (all-mays s past e)
