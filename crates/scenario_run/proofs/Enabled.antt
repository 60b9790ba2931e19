-- The processes with a Step to make, one by one. A Step without a mark leaves them as they are. None of their Steps is refused.
use Rattle.std.proofs.Common.{◌≡◌, ℕ, zero, suc, ◌+◌, nat_lt, Bool, true, false, cond, ◌==◌, List, [], ◌∷◌, ◌++◌, Option, None, Some, filter, fold, length, slice_index, ◌<◌, refl, ap, subst, sym, ◌∙◌, arith, add-zero, add-one, eqb-true}
use Rattle.std.specs.Prelude.{slice_index_or}
use Rattle.std.specs.List.{range_with_len}
use Rattle.std.proofs.lemmas.Bool.Decides.{nat_tests}
use Rattle.std.proofs.lemmas.List.Elements.{All-filter, filter_passes}
use Rattle.std.proofs.lemmas.List.FromFn.{get_or-range_with_len, length-range_with_len}
use Rattle.std.proofs.lemmas.Nat.{mod_below}
use Rattle.plain_store.specs.{Setup}
use Rattle.model.specs.{Entry, Event, Past, Refusal, Stage, is_at_work, past_of, processes, refused, refused_at, stage, stage_after}
use Rattle.model.specs.declared.events.Event.TheVariants.{Step}
use Rattle.model.specs.declared.refusals.Refusal.TheVariants.{NoProcess}
use Rattle.model.specs.declared.stages.Stage.TheVariants as stages
use Rattle.world.specs.choices.{pick_of}
use Rattle.scenario_run.specs.{AddsMarks, Happening, Run, enabled, past_after, past_in, pick_among}
use Rattle.scenario_run.proofs.Refusals.{entry_by}

-- a range with one number more, which the filter keeps or drops
pub filter_more : (p : ℕ → Bool) (a n j : ℕ) → a + n ≡ j → filter p (range_with_len a (suc n)) ≡ filter p (range_with_len a n) ++ cond (p j) (j ∷ []) []
filter_more p a zero j e = ap (λ k. cond (p k) (k ∷ []) []) (sym (add-zero a) ∙ e)
filter_more p a (suc n) j e = by (p a) (filter_more p (a + 1) n j (omega (arith, e)))
  where
    by : (b : Bool) → filter p (range_with_len (a + 1) (suc n)) ≡ filter p (range_with_len (a + 1) n) ++ cond (p j) (j ∷ []) []
        → cond b (a ∷ filter p (range_with_len (a + 1) (suc n))) (filter p (range_with_len (a + 1) (suc n)))
        ≡ cond b (a ∷ filter p (range_with_len (a + 1) n)) (filter p (range_with_len (a + 1) n)) ++ cond (p j) (j ∷ []) []
    by true more = ap (λ l. a ∷ l) more
    by false more = more

-- the numbers kept so far, with one number more
pub kept_more : (p : ℕ → Bool) (items : List ℕ) (k : ℕ) (b : Bool) → items ≡ filter p (range_with_len 0 k) → p k ≡ b → items ++ cond b (k ∷ []) [] ≡ filter p (range_with_len 0 (k + 1))
kept_more p items k b so_far is =
    ap (λ l. l ++ cond b (k ∷ []) []) so_far ∙ ap (λ b. filter p (range_with_len 0 k) ++ cond b (k ∷ []) []) (sym is)
    ∙ sym (filter_more p 0 k k (omega arith)) ∙ ap (λ n. filter p (range_with_len 0 n)) (sym (add-one k))

-- a list whose length is 0, and one whose length is not
pub none_remaining : (ps : List ℕ) → (length ps == 0) ≡ true → ps ≡ []
none_remaining [] h = refl
none_remaining (p ∷ ps) h = let no : length (p ∷ ps) ≡ 0 = eqb-true (length (p ∷ ps)) 0 h in absurd (omega (arith, no))

pub some_remaining : (ps : List ℕ) → (length ps == 0) ≡ false → 0 < length ps
some_remaining [] h = absurd (cc)
some_remaining (p ∷ ps) h = omega arith

-- an entry without a mark leaves each process in its stage
stage_kept : (p : ℕ) (e : Entry) (past : Past) → e.marks ≡ [] → stage p (e ∷ past) ≡ stage p past
stage_kept p e past none = by (e.process == p)
  where
    by : (b : Bool) → cond b (fold stage_after (stage p past) e.marks) (stage p past) ≡ stage p past
    by true = ap (fold stage_after (stage p past)) none
    by false = refl

-- an event without a mark leaves each process in its stage
pub stage_quiet : (s : Setup) (p : ℕ) (events : List Event) (event : Event) → AddsMarks s (past_of s events) event [] → stage p (past_of s (event ∷ events)) ≡ stage p (past_of s events)
stage_quiet s p events event adds =
    let e : Entry = entry_by event adds.0 [] in
    ap (λ (o : Option Entry). stage p (elim o as (λ _. Past) [ None ↦ past_of s events | Some e ↦ e ∷ past_of s events ])) adds.1 ∙ stage_kept p e (past_of s events) refl

-- after an event without a mark, the same processes have a Step to make
pub enabled_quiet : (s : Setup) (events : List Event) (event : Event) → AddsMarks s (past_of s events) event [] → enabled s (past_of s (event ∷ events)) ≡ enabled s (past_of s events)
enabled_quiet s events event adds = λ i. filter (λ p. is_at_work (stage_quiet s p events event adds i)) (processes s)

-- The processes that may make a Step.

-- no Step of this process is refused
abbrev pub MaySteps : ℕ → Setup → List Happening → Type 0
MaySteps p s happened = (flick : Bool) → refused s (past_after s happened) (Step p flick) ≡ None

-- a Step is made unless its stage refuses it, for each flick
abbrev unless : Option Refusal → Option Refusal
unless o = elim o as (λ _. Option Refusal) [ Some r ↦ Some r | None ↦ None ]

-- no Step of a process with a Step to make is refused
pub enabled_steps : (s : Setup) (happened : List Happening) (p : ℕ) → p < s.processes → is_at_work (stage p (past_after s happened)) ≡ true → MaySteps p s happened
enabled_steps s happened p within has flick =
    let there : nat_lt p s.processes ≡ true = grind (arith, nat_tests) in
    ap (λ b. cond b (unless (refused_at (Step p flick) (stage p (past_after s happened)))) (Some NoProcess)) there ∙ by (stage p (past_after s happened)) has
  where
    by : (st : Stage) → is_at_work st ≡ true → unless (refused_at (Step p flick) st) ≡ None
    by stages.Idle has = absurd (cc)
    by stages.Down has = absurd (cc)
    by stages.Doorway has = refl
    by stages.Waiting has = refl
    by stages.Inside has = refl
    by stages.Leaving has = refl
    by stages.Settling has = refl

-- no Step of a picked process is refused
pub pick_steps : (s : Setup) (run : Run) (ps : List ℕ) → enabled s (past_in s run) ≡ ps → 0 < length ps → MaySteps (pick_among ps run) s run.happened
pick_steps s run ps are some =
    let k : ℕ = pick_of (length ps) run.flicks in
    let less : k < length ps = mod_below _ (length ps) some in
    let test : ℕ → Bool = λ p. is_at_work (stage p (past_in s run)) in
    let below : k < length (filter test (processes s)) = subst (λ l. k < length l) (sym are) less in
    enabled_steps s run.happened (pick_among ps run)
    (subst (λ l. slice_index l k < s.processes) are (All-filter test (λ p. p < s.processes) (processes s) (all_below s.processes) k 0 below))
    (subst (λ l. is_at_work (stage (slice_index l k) (past_in s run)) ≡ true) are (filter_passes test (processes s) k 0 below))
  where
    all_below : (n i d : ℕ) → i < length (range_with_len 0 n) → slice_index_or (range_with_len 0 n) i d < n
    all_below n i d within =
        let long = length-range_with_len 0 n in
        let is = get_or-range_with_len 0 n i d (omega (arith, within, long)) in
        omega (arith, is, within, long)
