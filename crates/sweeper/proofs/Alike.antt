-- Two runs with alike cores: each event is accepted in both or in neither, and leads to alike cores.
use Rattle.std.proofs.Common.{◌≡◌, ℕ, ◌<◌, ◌&&◌, ◌||◌, ◌==◌, Bool, true, false, cond, List, [], ◌∷◌, Option, None, Some, Ok, refl, ap, sym, subst, ◌∙◌, arith}
use Rattle.std.proofs.lemmas.Bool.Decides.{nat_tests}
use Rattle.std.specs.Prelude.{is_none, nat_le, nat_lt}
use Rattle.std.specs.List.{list_any}
use Rattle.plain_store.specs.{Command, Setup, checked}
use Rattle.model.specs.{Event, Refusal, calls_full, calls_in, is_call, own, past_of, process_of, processes, refused, refused_at, stage}
use Rattle.model.specs.declared.events.Event.TheVariants.{Call, Step}
use Rattle.model.specs.declared.refusals.Refusal.TheVariants.{NoProcess, CallsFull}
use Rattle.model.proofs.Width.{is_good}
use Rattle.world.specs.process.{stage_doing}
use Rattle.world.specs.{AreAlikeCores, Seat}
use Rattle.world.proofs.AlikeCores.{alike-goes, same_seat}
use Rattle.world.proofs.WorldOpen.{core_of}
use Rattle.world.proofs.WorldStages.{stage-process}
use Rattle.sweeper.specs.{Run, ended, goes, is_accepted, most, steps_of, with_call, with_calls}
use Rattle.sweeper.proofs.Accepted.{past_kept}
use Rattle.sweeper.proofs.Going.{related_repeated}

-- runs of these events have cores that are equal, except for flags of registers that no read uses
abbrev pub HaveAlikeCores : Setup → List Event → List Event → Type 0
HaveAlikeCores s x y = AreAlikeCores (core_of s (past_of s x)) (core_of s (past_of s y))

-- a number that the test finds below another is below it
less : (p n : ℕ) → nat_lt p n ≡ true → p < n
less p n h = grind (arith, nat_tests)

-- One event.

module _ (s : Setup) (good : checked s ≡ Ok tt) (x y : List Event) (same : HaveAlikeCores s x y) where
  same_stage : (p : ℕ) → p < s.processes → stage p (past_of s x) ≡ stage p (past_of s y)
  same_stage p below =
      sym (stage-process s (is_good s good) x p) ∙ ap (λ (seat : Seat). stage_doing seat.process.doing) (same_seat s (past_of s x) (past_of s y) same.seats p below) ∙ stage-process s (is_good s good) y p

  same_full : (what : Event) → process_of what < s.processes → calls_full s (past_of s x) what ≡ calls_full s (past_of s y) what
  same_full what below =
      by (is_call what) (s.version == 2) (calls_in (own (process_of what) (past_of s x))) (calls_in (own (process_of what) (past_of s y)))
      (ap (λ (seat : Seat). seat.process.number) (same_seat s (past_of s x) (past_of s y) same.seats (process_of what) below))
    where
      by : (b v : Bool) (n m : ℕ) → cond v n 0 ≡ cond v m 0 → (b && v && nat_le 65535 n) ≡ (b && v && nat_le 65535 m)
      by true true n m h = ap (nat_le 65535) h
      by true false n m h = refl
      by false v n m h = refl

  pub same_refused : (what : Event) → refused s (past_of s x) what ≡ refused s (past_of s y) what
  same_refused what = by (nat_lt (process_of what) s.processes) refl
    where
      by : (b : Bool) → nat_lt (process_of what) s.processes ≡ b → refused s (past_of s x) what ≡ refused s (past_of s y) what
      by true is =
          let below = less (process_of what) s.processes is in
          λ i. cond (nat_lt (process_of what) s.processes) (elim (refused_at what (same_stage (process_of what) below i)) as (λ _. Option Refusal) [ Some x ↦ Some x | None ↦ cond (same_full what below i) (Some CallsFull) None ]) (Some NoProcess)
      by false is =
          (λ i. cond (is i) (elim (refused_at what (stage (process_of what) (past_of s x))) as (λ _. Option Refusal) [ Some x ↦ Some x | None ↦ cond (calls_full s (past_of s x) what) (Some CallsFull) None ]) (Some NoProcess))
          ∙ sym (λ i. cond (is i) (elim (refused_at what (stage (process_of what) (past_of s y))) as (λ _. Option Refusal) [ Some x ↦ Some x | None ↦ cond (calls_full s (past_of s y) what) (Some CallsFull) None ]) (Some NoProcess))

  pub same_accepted : (what : Event) → is_accepted s x what ≡ is_accepted s y what
  same_accepted what = ap is_none (same_refused what)

  pub same_goes : (v : Bool) → goes s v x ≡ goes s v y
  same_goes v = ap (λ test. list_any test (processes s)) (λ i p. same_accepted (Step p v) i)

pub same_then : (s : Setup) → checked s ≡ Ok tt → (x y : List Event) (what : Event) → HaveAlikeCores s x y → HaveAlikeCores s (what ∷ x) (what ∷ y)
same_then s good x y what same = by (refused s (past_of s x) what) refl
  where
    other : (o : Option Refusal) → refused s (past_of s x) what ≡ o → refused s (past_of s y) what ≡ o
    other o is = sym (same_refused s good x y same what) ∙ is

    by : (o : Option Refusal) → refused s (past_of s x) what ≡ o → HaveAlikeCores s (what ∷ x) (what ∷ y)
    by None is = alike-goes s good x y what is (other None is) same
    by (Some r) is =
        subst (λ past. AreAlikeCores (core_of s past) (core_of s (past_of s (what ∷ y)))) (sym (past_kept s x what r is))
        (subst (λ past. AreAlikeCores (core_of s (past_of s x)) (core_of s past)) (sym (past_kept s y what r (other (Some r) is))) same)

-- Steps.

same_steps : (s : Setup) → checked s ≡ Ok tt → (p : ℕ) (v : Bool) (n : ℕ) (x y : List Event) → HaveAlikeCores s x y → HaveAlikeCores s (steps_of s p v n x) (steps_of s p v n y)
same_steps s good p v n x y same =
    related_repeated (HaveAlikeCores s) (λ events. is_accepted s events (Step p v)) (λ events. Step p v ∷ events) (λ x y same. same_accepted s good x y same (Step p v)) (λ x y same. same_then s good x y (Step p v) same) n x y same

-- Calls.

-- two runs have alike cores, and both are stuck or neither is
record AreAlike (s : Setup) (a b : Run) : Type 0 where
  cores : HaveAlikeCores s a.events b.events
  stuck : a.stuck ≡ b.stuck

alike_call : (s : Setup) → checked s ≡ Ok tt → (v : Bool) (a b : Run) (p : ℕ) (command : Command) → AreAlike s a b → AreAlike s (with_call s v a (p, command)) (with_call s v b (p, command))
alike_call s good v a b p command alike = by (is_accepted s a.events (Call p command)) (is_accepted s b.events (Call p command)) (same_accepted s good a.events b.events alike.cores (Call p command))
  where
    then : Run → Run
    then run = let after : List Event = steps_of s p v most (Call p command ∷ run.events) in record { events = after; stuck = run.stuck || is_accepted s after (Step p v) }

    cores : HaveAlikeCores s (then a).events (then b).events
    cores = same_steps s good p v most (Call p command ∷ a.events) (Call p command ∷ b.events) (same_then s good a.events b.events (Call p command) alike.cores)

    by : (c d : Bool) → c ≡ d → AreAlike s (cond c (then a) a) (cond d (then b) b)
    by true true h = record { cores = cores; stuck = λ i. alike.stuck i || same_accepted s good (then a).events (then b).events cores (Step p v) i }
    by true false h = cc
    by false true h = cc
    by false false h = alike

alike_calls : (s : Setup) → checked s ≡ Ok tt → (v : Bool) (calls : List (ℕ × Command)) (a b : Run) → AreAlike s a b → AreAlike s (with_calls s calls v a) (with_calls s calls v b)
alike_calls s good v [] a b alike = alike
alike_calls s good v ((p, command) ∷ calls) a b alike = alike_calls s good v calls (with_call s v a (p, command)) (with_call s v b (p, command)) (alike_call s good v a b p command alike)

-- the outcome of two runs that make the same calls
pub same_end : (s : Setup) → checked s ≡ Ok tt → (calls : List (ℕ × Command)) (v : Bool) (x y : List Event) → HaveAlikeCores s x y → (ended s calls v x).stuck ≡ (ended s calls v y).stuck
same_end s good calls v x y same =
    let a : Run = record { events = x; stuck = goes s v x } in
    let b : Run = record { events = y; stuck = goes s v y } in
    let alike : AreAlike s (with_calls s calls v a) (with_calls s calls v b) = alike_calls s good v calls a b (record { cores = same; stuck = same_goes s good x y same v }) in
    alike.stuck
