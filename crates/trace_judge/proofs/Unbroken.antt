-- What an entry keeps that breaks no law.
use Rattle.std.proofs.Common.{◌≡◌, ℕ, ◌<◌, Bool, false, not, [], ◌∷◌, Option, None, Some, is_some, nat_lt, refl}
use Rattle.std.proofs.lemmas.Bool.{ltb-true, not-false}
use Rattle.trace.specs.{CellAccess, TraceEntry, TracePast, TraceSetup, first_that}
use Rattle.trace.proofs.Tables.{neither_table, none_applies, none_first}
use Rattle.lock_stages.specs.{is_idle}
use Rattle.trace_memory.specs.{CellRefusal, cell_refusal, open_refusals, opened, setup_refusals}
use Rattle.trace_memory.specs.declared.refusals.CellRefusal.TheVariants as refusal
use Rattle.trace_judge.specs.{breaks_access, breaks_marks, breaks_memory, breaks_overtaken, breaks_together, first_broken, laws_broken, refusal_of_access, stage}

-- an entry breaks none of the laws
pub record Keeps (s : TraceSetup) (past : TracePast) (e : TraceEntry) : Type 0 where
  pub access : breaks_access s past e ≡ false
  pub memory : breaks_memory s past e ≡ false
  pub marks : breaks_marks past e ≡ false
  pub together : breaks_together s past e ≡ false
  pub overtaken : breaks_overtaken s past e ≡ false

pub keeps : (s : TraceSetup) (past : TracePast) (e : TraceEntry) → first_broken s past e ≡ None → Keeps s past e
keeps s past e h =
    let none = none_applies (laws_broken s past e) h in
    record { access = none.0; memory = none.1.0; marks = none.1.1.0; together = none.1.1.1.0; overtaken = none.1.1.1.1.0 }

pub broken_none : (s : TraceSetup) (past : TracePast) (e : TraceEntry) → Keeps s past e → first_broken s past e ≡ None
broken_none s past e k = none_first (laws_broken s past e) (k.access, (k.memory, (k.marks, (k.together, (k.overtaken, tt)))))

pub is_none_of : {A : Type 0} (o : Option A) → is_some o ≡ false → o ≡ None
is_none_of None h = refl
is_none_of (Some x) h = absurd (cc)

-- its process exists
process-refused : (s : TraceSetup) (past : TracePast) (p : ℕ) (access : Option CellAccess) (idle : Bool) →
    elim access as (λ _. Option CellRefusal) [
      | None ↦ first_that ((not (nat_lt p s.processes), refusal.NoProcess) ∷ [])
      | Some a ↦ cell_refusal s past p idle a
    ] ≡ None → not (nat_lt p s.processes) ≡ false
process-refused s past p None idle h = (none_applies ((not (nat_lt p s.processes), refusal.NoProcess) ∷ []) h).0
process-refused s past p (Some a) idle h = (none_applies (setup_refusals s p a) (neither_table (setup_refusals s p a) (open_refusals idle (opened p past) a) h).first).0

pub process-exists : (s : TraceSetup) (past : TracePast) (e : TraceEntry) → refusal_of_access s past e ≡ None → e.process < s.processes
process-exists s past e h = ltb-true e.process s.processes (not-false (nat_lt e.process s.processes) (process-refused s past e.process e.access (is_idle (stage e.process past)) h))
