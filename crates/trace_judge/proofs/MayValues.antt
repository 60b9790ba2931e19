-- The values that the reasons of a wrong read name.
use Rattle.std.proofs.Common.{◌≡◌, ℕ, Bool, true, false, cond, not, List, [], ◌∷◌, ◌++◌, Option, None, Some, refl, sym, ap, ◌∙◌, true≢false}
use Rattle.std.specs.List.{filter}
use Rattle.std.specs.Option.{option_to_list}
use Rattle.std.proofs.lemmas.Bool.{not-true}
use Rattle.std.proofs.lemmas.List.Elements.{filter-append}
use Rattle.trace.specs.{CellAccess, LockMark, TraceEntry, TracePast, TraceSetup, first_that, is_trace_setup, trace_entry, value_read}
use Rattle.trace_memory.specs.declared.allowed.Allowed.{Allowed}
use Rattle.trace_memory.specs.{allowed_by, has_cell, if_few, may_give, present, read_ended, reads_wrongly, register_of, values_in}
use Rattle.trace_memory.proofs.ReadValues.{values-kept}
use Rattle.trace_memory.proofs.SetupFacts.{few_numbers}
use Rattle.trace_judge.specs.{breaks_access, breaks_marks, breaks_memory, breaks_overtaken, breaks_together, first_broken, keeps_with, mays_of}
use Rattle.trace_judge.specs.declared.verdicts.TraceLaw.TheVariants as law

-- an entry that breaks the law of memory first
pub record BreaksMemory (s : TraceSetup) (past : TracePast) (e : TraceEntry) : Type 0 where
  pub access : breaks_access s past e ≡ false
  pub memory : breaks_memory s past e ≡ true

pub memory_first : (s : TraceSetup) (past : TracePast) (e : TraceEntry) → first_broken s past e ≡ Some law.Memory → BreaksMemory s past e
memory_first s past e h =
    let both = by (breaks_access s past e) (breaks_memory s past e) (breaks_marks past e) (breaks_together s past e) (breaks_overtaken s past e) h in
    record { access = both.0; memory = both.1 }
  where
    by : (a b c d f : Bool) → first_that ((a, law.Access) ∷ (b, law.Memory) ∷ (c, law.Marks) ∷ (d, law.Together) ∷ (f, law.Overtaken) ∷ []) ≡ Some law.Memory → (a ≡ false) × (b ≡ true)
    by true b c d f h = absurd (let is : Some law.Access ≡ Some law.Memory = h in cc)
    by false true c d f h = (refl, refl)
    by false false true d f h = absurd (let is : Some law.Marks ≡ Some law.Memory = h in cc)
    by false false false true f h = absurd (let is : Some law.Together ≡ Some law.Memory = h in cc)
    by false false false false true h = absurd (let is : Some law.Overtaken ≡ Some law.Memory = h in cc)
    by false false false false false h = absurd (let is : None ≡ Some law.Memory = h in cc)

-- reads a value that it may not give
pub record WrongValue (s : TraceSetup) (past : TracePast) (p : ℕ) (a : CellAccess) : Type 0 where
  pub value : ℕ
  pub wrong : may_give s.memory (register_of s a.cell) (read_ended past p a) value ≡ false

wrong_value : (s : TraceSetup) (past : TracePast) (p : ℕ) (a : CellAccess) → reads_wrongly s past p a ≡ true → WrongValue s past p a
wrong_value s past p a h = by (value_read a.how) h
  where
    by : (o : Option ℕ) → elim o as (λ _. Bool) [ None ↦ false | Some v ↦ not (may_give s.memory (register_of s a.cell) (read_ended past p a) v) ] ≡ true → WrongValue s past p a
    by None h = absurd (true≢false (sym h))
    by (Some v) h = record { value = v; wrong = not-true (may_give s.memory (register_of s a.cell) (read_ended past p a) v) h }

-- of two values those that pass a test
two-kept : (test : ℕ → Bool) (a b x y : Option ℕ) → option_to_list x ≡ filter test (option_to_list a) → option_to_list y ≡ filter test (option_to_list b) → present (x ∷ y ∷ []) ≡ filter test (present (a ∷ b ∷ []))
two-kept test a b x y hx hy =
    (λ i. hx i ++ (hy i ++ []))
    ∙ ap (λ l. filter test (option_to_list a) ++ l) (sym (filter-append test (option_to_list b) []))
    ∙ sym (filter-append test (option_to_list a) (option_to_list b ++ []))

-- a width that there is if a test holds
pub width-there : (b : Bool) (w n : ℕ) → Some w ≡ cond b (Some n) None → (b ≡ true) × (w ≡ n)
width-there true w n h = (refl, ap (λ o. elim o as (λ _. ℕ) [ Some v ↦ v | None ↦ w ]) h)
width-there false w n h = absurd (let is : Some w ≡ None = h in cc)

pub mays-kept : (s : TraceSetup) (past : TracePast) (p : ℕ) (a : CellAccess) (marks : List LockMark) (width : ℕ) (allowed : Allowed) (f g x y : Option ℕ) → is_trace_setup s ≡ true → has_cell s a.cell ≡ true → width ≡ (register_of s a.cell).width →
    allowed ≡ allowed_by s.memory (register_of s a.cell) (read_ended past p a) → present (f ∷ g ∷ []) ≡ if_few (values_in width allowed) → first_broken s past (trace_entry p (Some a) marks) ≡ Some law.Memory →
    option_to_list x ≡ filter (keeps_with s past (trace_entry p (Some a) marks)) (option_to_list f) → option_to_list y ≡ filter (keeps_with s past (trace_entry p (Some a) marks)) (option_to_list g) →
    present (x ∷ y ∷ []) ≡ mays_of s past (trace_entry p (Some a) marks)
mays-kept s past p a marks width allowed f g x y good there wide kept few broken hx hy =
    let e : TraceEntry = trace_entry p (Some a) marks in
    let wrong = wrong_value s past p a (memory_first s past e broken).memory in
    two-kept (keeps_with s past e) f g x y hx hy
    ∙ ap (filter (keeps_with s past e)) (few
    ∙ (λ i. if_few (values_in (wide i) (kept i)))
    ∙ ap if_few (values-kept s.memory (register_of s a.cell) (read_ended past p a) wrong.value wrong.wrong (few_numbers s a.cell good there)))
