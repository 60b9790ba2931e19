-- Plans and their lengths.
use Rattle.std.proofs.Common.{◌≡◌, ℕ, ◌+◌, ◌<◌, ◌≤◌, All, Bool, true, false, if◌then◌else◌, ◌==◌, List, [], ◌∷◌, ◌++◌, get_or, length, map, ap, sym, ◌∙◌, arith, length-append, subst}
use Rattle.std.proofs.lemmas.List.{length-map, map-append}
use Rattle.std.proofs.lemmas.List.FromFn.{length-map-range_with_len, map-range_with_len_more}
use Rattle.std.proofs.lemmas.List.Elements.{All-cons, All-from_get_or, All-get_or, All-map, All-nil, All-same, All-weaker}
use Rattle.std.proofs.lemmas.Option.{get_or_from_slice_get, slice_get-get_or, slice_get_within}
use Rattle.std.specs.Global.{Vec}
use Rattle.std.specs.List.{range_with_len}
use Rattle.plain_store.specs.{Command, Contents}
use Rattle.race.specs.{IsRaced, called_of, plan_in, plans_in, plans_of}
use Rattle.model.specs.{Placed}
use Rattle.scenario.specs.{Line, Script}
use Rattle.scenario.specs.declared.lines.Line.TheVariants as line

-- one plan more
pub plans_more : (had : List (Vec Command)) (plan : Vec Command) (lines : List Line) (p : ℕ) → plans_of had ≡ map (plan_in lines) (range_with_len 0 p) → plan.items ≡ plan_in lines p →
    plans_of (had ++ plan ∷ []) ≡ map (plan_in lines) (range_with_len 0 (p + 1))
plans_more had plan lines p are is =
    map-append (λ (v : Vec Command). v.items) had (plan ∷ []) ∙ (λ i. are i ++ is i ∷ []) ∙ sym (map-range_with_len_more (plan_in lines) 0 p p (omega arith))

-- each process has one plan
pub plans_each : (vecs : List (Vec Command)) (said : Script) → plans_of vecs ≡ plans_in said → length vecs ≡ said.setup.processes
plans_each vecs said are =
    sym (length-map vecs (λ (v : Vec Command). v.items)) ∙ ap length are ∙ length-map-range_with_len (plan_in said.lines) 0 said.setup.processes

-- a line calls one command at most
called_once : (p : ℕ) (here : Line) → length (called_of p here) ≤ 1
called_once p (line.Call q command) = by (q == p)
  where
    by : (b : Bool) → length (if b then command ∷ [] else []) ≤ 1
    by true = omega arith
    by false = omega arith
called_once p other = omega arith

-- a plan is not longer than the file
pub plan_few : (p : ℕ) (lines : List Line) → length (plan_in lines p) ≤ length lines
plan_few p [] = omega arith
plan_few p (here ∷ lines) =
    let own : length (called_of p here) ≤ 1 = called_once p here in
    let rest : length (plan_in lines p) ≤ length lines = plan_few p lines in
    let both : length (called_of p here ++ plan_in lines p) ≡ length (called_of p here) + length (plan_in lines p) = length-append (called_of p here) (plan_in lines p) in
    let all : length (plan_in (here ∷ lines) p) ≡ length (called_of p here) + length (plan_in lines p) = both in
    omega (arith, own, rest, all)

-- the number of a plan's commands is small enough for every race
abbrev IsShort : {X : Type 0} → List X → Type 0
IsShort xs = length xs ≤ 4000

all_short : (lines : List Line) (processes : List ℕ) → length lines ≤ 4000 → All (λ p. IsShort (plan_in lines p)) processes
all_short lines [] few = All-nil (λ p. IsShort (plan_in lines p))
all_short lines (p ∷ processes) few =
    let own : length (plan_in lines p) ≤ length lines = plan_few p lines in
    All-cons (λ p. IsShort (plan_in lines p)) p processes (omega (arith, own, few)) (all_short lines processes few)

plans_short : (said : Script) → length said.lines ≤ 4000 → All IsShort (plans_in said)
plans_short said few = All-map IsShort (plan_in said.lines) (range_with_len 0 said.setup.processes) (all_short said.lines (range_with_len 0 said.setup.processes) few)

pub raced_plans_short : (vecs : List (Vec Command)) (said : Script) → plans_of vecs ≡ plans_in said → length said.lines ≤ 4000 → All (λ (plan : List Command). length plan ≤ 65535) (plans_of vecs)
raced_plans_short vecs said are few =
    let P : List Command → Type 0 = λ plan. length plan ≤ 65535 in
    All-same P (plans_of vecs) (plans_in said) are (All-weaker IsShort P (λ plan short. omega (arith, short)) (plans_in said) (plans_short said few))

-- each list at the end of a race is as short as its plan
list_short : (said : Script) (lists : List (List Placed)) (image : Contents) → length said.lines ≤ 4000 → IsRaced said.setup (plans_in said) lists image → (p : ℕ) → p < length lists → length (get_or lists p []) ≤ 65535
list_short said lists image few raced p within =
    let plans : List (List Command) = plans_in said in
    let calls : List Placed = get_or lists p [] in
    let made = raced.made p calls (slice_get-get_or lists p [] within) in
    let plan : List Command = made.0 in
    let own : IsShort (get_or plans p plan) = All-get_or IsShort plans p plan (slice_get_within plans p plan made.1) (plans_short said few) in
    let short : length plan ≤ 4000 = subst IsShort (get_or_from_slice_get plans p plan plan made.1) own in
    let same : length calls ≡ length plan = sym (length-map calls (λ (call : Placed). call.command)) ∙ ap length made.2.commands in
    omega (arith, short, same)

pub raced_lists_short : (said : Script) (lists : List (List Placed)) (image : Contents) → length said.lines ≤ 4000 → IsRaced said.setup (plans_in said) lists image → All (λ (calls : List Placed). length calls ≤ 65535) lists
raced_lists_short said lists image few raced = All-from_get_or (λ (calls : List Placed). length calls ≤ 65535) lists [] (list_short said lists image few raced)
