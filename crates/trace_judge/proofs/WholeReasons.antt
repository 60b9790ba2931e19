-- If all accesses are whole, all memories give the same reasons.
use Rattle.std.proofs.Common.{◌≡◌, ℕ, zero, suc, ◌^◌, ◌<◌, ◌≤◌, ◌==◌, Bool, true, false, cond, List, [], ◌∷◌, ◌++◌, Option, None, Some, is_none, option_map, nat_lt, refl, sym, ap, ◌∙◌, subst, arith, true≢false, add-one, inl, inr, eq-eqb, ne_eqb}
use Rattle.std.specs.List.{filter, list_all, range_with_len}
use Rattle.std.proofs.lemmas.Bool.{and_parts, cases_eq, ltb-true}
use Rattle.std.proofs.lemmas.List.Elements.{filter_agree}
use Rattle.trace.specs.{Cell, CellAccess, CellMove, LockMark, TraceEntry, TraceMemory, TracePast, TraceRegister, TraceSetup, access_reading, fits, is_trace_setup, move_reading}
use Rattle.trace.specs.declared.accesses.CellMove.TheVariants.{Set, Get}
use Rattle.trace.specs.declared.setups.TraceMemory.TheVariants.{Safe, Regular, Atomic}
use Rattle.lock_stages.specs.{AreSince, is_idle}
use Rattle.trace_memory.specs.{allowed_values, if_few, may_give, move_on, moves_on, open_write, read_ended, register_of, same_cell, stored, whole_read, with_move}
use Rattle.trace_memory.proofs.CellPlaces.{same_cell-eq}
use Rattle.trace_memory.proofs.Few.{filter-more}
use Rattle.trace_memory.proofs.ReadValues.{not_refused}
use Rattle.trace_memory.proofs.SetupFacts.{opens_fit}
use Rattle.trace_judge.specs.{AreReasons, TraceLaw, TraceReasons, TraceRefused, doorway_by, entry_reading, has_whole, inside_by, is_whole, keeps_with, mays_by, mays_of, refusal_of_access, refusal_of_marks, stage, verdict_after, waits_by, with_memory}
use Rattle.trace_judge.specs.declared.reasons.TraceRefused.TheVariants as by
use Rattle.trace_judge.specs.declared.verdicts.TraceLaw.TheVariants as law
use Rattle.trace_judge.specs.declared.verdicts.TraceVerdict.TheVariants.{Good}
use Rattle.trace_judge.proofs.Sound.{good-on}
use Rattle.trace_judge.proofs.Unbroken.{is_none_of, keeps}
use Rattle.trace_judge.proofs.Whole.{access_of, access-same, broken-same, may-stored, none-open, read-whole}

-- One number below another.
filter-none : (x n : ℕ) → n ≤ x → filter (λ v. x == v) (range_with_len 0 n) ≡ []
filter-none x zero past = refl
filter-none x (suc n) past =
    ap (λ k. filter (λ v. x == v) (range_with_len 0 k)) (sym (add-one n))
    ∙ filter-more (λ v. x == v) n
    ∙ (λ i. filter-none x n (omega arith) i ++ cond (ne_eqb x n (λ h. absurd (omega (arith, h))) i) (n ∷ []) [])

filter-one : (x n : ℕ) → x < n → filter (λ v. x == v) (range_with_len 0 n) ≡ x ∷ []
filter-one x zero below = absurd (omega arith)
filter-one x (suc n) below =
    ap (λ k. filter (λ v. x == v) (range_with_len 0 k)) (sym (add-one n))
    ∙ filter-more (λ v. x == v) n
    ∙ elim (cases_eq x n) [
      | inl same ↦ (λ i. filter-none x n (omega (arith, same)) i ++ cond (eq-eqb x n same i) (n ∷ []) []) ∙ ap (λ k. k ∷ []) (sym same)
      | inr apart ↦ (λ i. filter-one x n (omega arith) i ++ cond (ne_eqb x n apart i) (n ∷ []) [])
    ]

-- What a whole read may give, as a list.
allowed-one : (m : TraceMemory) (reg : TraceRegister) (c : Cell) (past : TracePast) → open_write (moves_on c past) ≡ None → stored reg (moves_on c past) < 2 ^ reg.width →
    allowed_values m reg (whole_read c past) ≡ stored reg (moves_on c past) ∷ []
allowed-one Safe reg c past none fits = refl
allowed-one Regular reg c past none fits =
    filter_agree (may_give Regular reg (whole_read c past)) (λ v. stored reg (moves_on c past) == v) (λ v. may-stored Regular reg c past v none) (range_with_len 0 (2 ^ reg.width))
    ∙ filter-one (stored reg (moves_on c past)) (2 ^ reg.width) fits
allowed-one Atomic reg c past none fits = refl

-- What is stored fits its register.
stored-fits : (s : TraceSetup) (m : TraceMemory) (c : Cell) (past : TracePast) → is_trace_setup (with_memory Regular s) ≡ true → list_all has_whole past ≡ true →
    verdict_after (with_memory m s) past ≡ Good → stored (register_of s c) (moves_on c past) < 2 ^ (register_of s c).width
stored-fits s m c [] good whole judged = opens_fit (with_memory Regular s) c good
stored-fits s m c (e ∷ past) good whole judged =
    let both = and_parts (has_whole e) (list_all has_whole past) whole in
    let on = good-on (with_memory m s) e past judged in
    by e.access refl both.0 (is_none_of _ (keeps (with_memory m s) past e on.unbroken).access) (stored-fits s m c past good both.1 on.before)
  where
    at : (b : Bool) (a : CellAccess) → same_cell a.cell c ≡ b → is_whole a.how ≡ true → fits (register_of s a.cell).width a.how ≡ true →
        stored (register_of s c) (moves_on c past) < 2 ^ (register_of s c).width →
        stored (register_of s c) (with_move (cond b (Some a.how) None) (moves_on c past)) < 2 ^ (register_of s c).width
    at false a same whole fit before = before
    at true a same whole fit before = move a.how whole (subst (λ d. fits (register_of s d).width a.how ≡ true) (same_cell-eq a.cell c same) fit)
      where
        move : (how : CellMove) → is_whole how ≡ true → fits (register_of s c).width how ≡ true → stored (register_of s c) (how ∷ moves_on c past) < 2 ^ (register_of s c).width
        move (Set v) whole fit = ltb-true v (2 ^ (register_of s c).width) (and_parts (nat_lt v (2 ^ (register_of s c).width)) true fit).0
        move (Get v) whole fit = before
        move _ whole fit = absurd (true≢false (sym whole))

    by : (o : Option CellAccess) → e.access ≡ o → elim o as (λ _. Bool) [ None ↦ true | Some a ↦ is_whole a.how ] ≡ true → refusal_of_access (with_memory m s) past e ≡ None →
        stored (register_of s c) (moves_on c past) < 2 ^ (register_of s c).width → stored (register_of s c) (with_move (move_on c e.access) (moves_on c past)) < 2 ^ (register_of s c).width
    by None is whole h before = subst (λ o. stored (register_of s c) (with_move (move_on c o) (moves_on c past)) < 2 ^ (register_of s c).width) (sym is) before
    by (Some a) is whole h before =
        let refused = ap (λ o. access_of (with_memory m s) past e.process o) (sym is) ∙ h in
        subst (λ o. stored (register_of s c) (with_move (move_on c o) (moves_on c past)) < 2 ^ (register_of s c).width) (sym is)
        (at (same_cell a.cell c) a refl whole (not_refused (with_memory m s) past e.process (is_idle (stage e.process past)) a refused).fits before)

-- With another value an access is whole too.
whole-reading : (v : ℕ) (o : Option CellAccess) → elim o as (λ _. Bool) [ None ↦ true | Some a ↦ is_whole a.how ] ≡ true →
    elim (option_map (access_reading v) o) as (λ _. Bool) [ None ↦ true | Some a ↦ is_whole a.how ] ≡ true
whole-reading v None whole = refl
whole-reading v (Some a) whole = by a.how whole
  where
    by : (how : CellMove) → is_whole how ≡ true → is_whole (move_reading v how) ≡ true
    by (Set x) whole = refl
    by (Get x) whole = refl
    by _ whole = absurd (true≢false (sym whole))

-- The entries that may be.
module _ (s : TraceSetup) (m other : TraceMemory) (past : TracePast) (good : is_trace_setup (with_memory Regular s) ≡ true) (before : list_all has_whole past ≡ true) (judged : verdict_after (with_memory m s) past ≡ Good) where
  mays-same : (p : ℕ) (o : Option CellAccess) (marks : List LockMark) → elim o as (λ _. Bool) [ None ↦ true | Some a ↦ is_whole a.how ] ≡ true →
      mays_of (with_memory m s) past (record { process = p; access = o; marks = marks }) ≡ mays_of (with_memory other s) past (record { process = p; access = o; marks = marks })
  mays-same p None marks whole = refl
  mays-same p (Some a) marks whole =
      let reg = register_of s a.cell in
      let none = none-open a.cell past before in
      let fits = stored-fits s m a.cell past good before judged in
      let values = ap (λ r. allowed_values m reg r) (read-whole past p a.cell a.how whole) ∙ allowed-one m reg a.cell past none fits in
      let others = ap (λ r. allowed_values other reg r) (read-whole past p a.cell a.how whole) ∙ allowed-one other reg a.cell past none fits in
      let e : TraceEntry = record { process = p; access = Some a; marks = marks } in
      ap (λ l. filter (keeps_with (with_memory m s) past e) (if_few l)) (values ∙ sym others)
      ∙ filter_agree (keeps_with (with_memory m s) past e) (keeps_with (with_memory other s) past e)
      (λ v. ap (λ o. is_none o) (broken-same s m other past (entry_reading v e) before (whole-reading v (Some a) whole))) (if_few (allowed_values other reg (read_ended past p a)))

  by-same : (l : TraceLaw) (e : TraceEntry) → has_whole e ≡ true → mays_by l (with_memory m s) past e ≡ mays_by l (with_memory other s) past e
  by-same law.Memory e whole = mays-same e.process e.access e.marks whole
  by-same _ e whole = refl

  pub reasons-same : (e : TraceEntry) (l : TraceLaw) (r : TraceReasons) → has_whole e ≡ true → AreReasons (with_memory m s) past e l r → AreReasons (with_memory other s) past e l r
  reasons-same e l r whole are = record {
    may = are.may ∙ by-same l e whole;
    refused = are.refused ∙ ap (λ o. elim o as (λ _. Option TraceRefused) [ Some r ↦ Some (by.Access r) | None ↦ option_map by.Marks (refusal_of_marks past e) ])
        (access-same s m other past e.process e.access whole);
    stage = are.stage;
    opened = are.opened;
    inside = inside l are.inside;
    waits = waits l are.waits;
    doorway = doorway l are.doorway;
  }
    where
      inside : (l : TraceLaw) → AreSince r.inside (inside_by l (with_memory m s) past e) → AreSince r.inside (inside_by l (with_memory other s) past e)
      inside law.Together given = given
      inside _ given = given

      waits : (l : TraceLaw) → AreSince r.waits (waits_by l (with_memory m s) past e) → AreSince r.waits (waits_by l (with_memory other s) past e)
      waits law.Overtaken given = given
      waits _ given = given

      doorway : (l : TraceLaw) → r.doorway ≡ doorway_by l (with_memory m s) past e → r.doorway ≡ doorway_by l (with_memory other s) past e
      doorway law.Overtaken given = given
      doorway _ given = given
