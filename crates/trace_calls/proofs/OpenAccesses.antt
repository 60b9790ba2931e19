-- Open accesses, and what one entry more makes of them.
use Rattle.std.proofs.Common.{◌≡◌, ◌≢◌, ℕ, zero, suc, ◌==◌, ◌<◌, nat_lt, Bool, true, false, ◌&&◌, ◌||◌, cond, List, [], ◌∷◌, Option, None, Some, option_map, map, length, slice_get, slice_set, refl, sym, ap, ◌∙◌, subst, inl, inr, eq-eqb, ne_eqb, arith}
use Rattle.std.proofs.lemmas.Bool.{cases_eq}
use Rattle.std.proofs.lemmas.Option.{slice_get-map}
use Rattle.std.proofs.lemmas.List.{length-map}
use Rattle.std.specs.List.{list_any}
use Rattle.std.specs.Option.{option_map_or}
use Rattle.trace.proofs.Lists.{slice_get-set_other, slice_get-set_same}
use Rattle.trace.specs.{Cell, CellAccess, CellMove, LockMark, TraceEntry, TracePast, begins, begins_read, trace_entry}
use Rattle.trace.specs.declared.accesses.CellMove.TheVariants.{Write, End, Read, Value, Set, Get, Swap, Add, Cas}
use Rattle.trace_engine.specs.trace_judge.trace_memory.{MadeAccess, if_begun, latest_access, one_later, opened, same_cell}
use Rattle.trace_calls.specs.Keeping.{HasOpened, OpenState, ends_kept_read, kept_move, kept_open, opened_after, opened_by, seen, writes_cell}
use Rattle.trace_calls.specs.Overlaps.{any_below, begins_write, ends_open_read, is_overlapped, is_writing, is_written, opens_write, writes_on}
use Rattle.trace_calls.specs.declared.opened.OpenMove.{OpenMove}

-- What is kept of an open access.

-- whether a move that began is kept as a write
writing-made : (n : ℕ) (c cell : Cell) (how : CellMove) (before since : TracePast) →
    writes_cell c (option_map (kept_move n) (if_begun (Some (record { access = record { cell = cell; how = how }; before = before; since = since }))))
    ≡ option_map_or (λ m. opens_write m.access.how && same_cell m.access.cell c) (if_begun (Some (record { access = record { cell = cell; how = how }; before = before; since = since }))) false
writing-made n c cell (Write v) before since = refl
writing-made n c cell End before since = refl
writing-made n c cell Read before since = refl
writing-made n c cell (Value v) before since = refl
writing-made n c cell (Set v) before since = refl
writing-made n c cell (Get v) before since = refl
writing-made n c cell (Swap new gives) before since = refl
writing-made n c cell (Add addend gives) before since = refl
writing-made n c cell (Cas expected new gives) before since = refl

writing-kept : (n : ℕ) (c : Cell) (o : Option MadeAccess) →
    writes_cell c (option_map (kept_move n) (if_begun o)) ≡ option_map_or (λ m. opens_write m.access.how && same_cell m.access.cell c) (if_begun o) false
writing-kept n c None = refl
writing-kept n c (Some m) = writing-made n c m.access.cell m.access.how m.before m.since

pub is_writing-kept : (n : ℕ) (c : Cell) (q : ℕ) (past : TracePast) → writes_cell c (kept_open n q past) ≡ is_writing c past q
is_writing-kept n c q past = writing-kept n c (latest_access q past)

ends-made : (n : ℕ) (c : Cell) (o : Option MadeAccess) →
    ends_kept_read c (option_map (kept_move n) o) ≡ option_map_or (λ m. begins_read m.access.how && same_cell m.access.cell c && is_overlapped n m) o false
ends-made n c None = refl
ends-made n c (Some m) = refl

pub ends-kept : (n : ℕ) (c : Cell) (p : ℕ) (past : TracePast) → ends_kept_read c (kept_open n p past) ≡ ends_open_read n past p c
ends-kept n c p past = ends-made n c (opened p past)

-- a test that holds for a number below n
pub one_below : (n k : ℕ) (test : ℕ → Bool) → test k ≡ true → k < n → any_below n test ≡ true
one_below zero k test holds below = absurd (omega (arith, below))
one_below (suc n) k test holds below = elim (cases_eq k n) [
  | inl same ↦ ap (λ b. any_below n test || b) (ap test (sym same) ∙ holds) ∙ or-true (any_below n test)
  | inr apart ↦ ap (λ b. b || test n) (one_below n k test holds (omega (arith, below, apart)))
]
  where
    or-true : (b : Bool) → (b || true) ≡ true
    or-true true = refl
    or-true false = refl

or-assoc : (x y z : Bool) → ((x || y) || z) ≡ (x || (y || z))
or-assoc true y z = refl
or-assoc false y z = refl

and-false : (b : Bool) → (b && false) ≡ false
and-false true = refl
and-false false = refl

same_move : (k m : OpenMove) → k.cell ≡ m.cell → k.reads ≡ m.reads → k.overlapped ≡ m.overlapped → k ≡ m
same_move k m a b c = λ i. record { cell = a i; reads = b i; overlapped = c i }

module _ (n p : ℕ) (a : CellAccess) (marks : List LockMark) (below : nat_lt p n ≡ true) where
  abbrev this : TraceEntry
  this = trace_entry p (Some a) marks

  kept-later : (m : MadeAccess) → kept_move n (one_later this m) ≡ seen a (kept_move n m)
  kept-later m = same_move (kept_move n (one_later this m)) (seen a (kept_move n m)) refl refl
      (ap (λ b. ((b && writes_on m.access.cell a) || list_any (begins_write n m.access.cell) m.since) || is_written n m.access.cell m.before) below
      ∙ or-assoc (writes_on m.access.cell a) (list_any (begins_write n m.access.cell) m.since) (is_written n m.access.cell m.before))

  begun-later : (o : Option MadeAccess) → option_map (kept_move n) (if_begun (option_map (one_later this) o)) ≡ option_map (seen a) (option_map (kept_move n) (if_begun o))
  begun-later None = refl
  begun-later (Some m) = by (begins m.access.how)
    where
      by : (b : Bool) → option_map (kept_move n) (cond b (Some (one_later this m)) None) ≡ option_map (seen a) (option_map (kept_move n) (cond b (Some m) None))
      by true = ap Some (kept-later m)
      by false = refl

  abbrev latest_with : ℕ → TracePast → Option CellAccess → Option MadeAccess
  latest_with q past o = elim o as (λ _. Option MadeAccess) [
    | Some a ↦ Some (record { access = a; before = past; since = [] })
    | None ↦ option_map (one_later this) (latest_access q past)
  ]

  pub open-other : (q : ℕ) (past : TracePast) → q ≢ p → kept_open n q (this ∷ past) ≡ option_map (seen a) (kept_open n q past)
  open-other q past apart =
      ap (λ b. option_map (kept_move n) (if_begun (latest_with q past (cond b (Some a) None)))) (ne_eqb p q (λ h. apart (sym h)))
      ∙ begun-later (latest_access q past)

  pub open-mine : (past : TracePast) → kept_open n p (this ∷ past) ≡ opened_by (is_written n a.cell past) a
  open-mine past =
      ap (λ b. option_map (kept_move n) (if_begun (latest_with p past (cond b (Some a) None)))) (eq-eqb p p refl)
      ∙ by (begins a.how)
    where
      by : (b : Bool) → option_map (kept_move n) (cond b (Some (record { access = a; before = past; since = [] })) None)
          ≡ cond b (Some (record { cell = a.cell; reads = begins_read a.how; overlapped = is_written n a.cell past })) None
      by true = refl
      by false = refl

-- An entry that counts for nothing: without an access, or of a process that does not exist.

quiet-later : (n : ℕ) (e : TraceEntry) (m : MadeAccess) → ((c : Cell) → begins_write n c e ≡ false) → kept_move n (one_later e m) ≡ kept_move n m
quiet-later n e m none = same_move (kept_move n (one_later e m)) (kept_move n m) refl refl
    (ap (λ b. (b || list_any (begins_write n m.access.cell) m.since) || is_written n m.access.cell m.before) (none m.access.cell))

begun-quiet : (n : ℕ) (e : TraceEntry) (o : Option MadeAccess) → ((c : Cell) → begins_write n c e ≡ false) →
    option_map (kept_move n) (if_begun (option_map (one_later e) o)) ≡ option_map (kept_move n) (if_begun o)
begun-quiet n e None none = refl
begun-quiet n e (Some m) none = by (begins m.access.how)
  where
    by : (b : Bool) → option_map (kept_move n) (cond b (Some (one_later e m)) None) ≡ option_map (kept_move n) (cond b (Some m) None)
    by true = ap Some (quiet-later n e m none)
    by false = refl

none-made : (b : Bool) → ◌≡◌ {A = Option CellAccess} (cond b None None) None
none-made true = refl
none-made false = refl

pub open-still : (n p q : ℕ) (marks : List LockMark) (past : TracePast) → kept_open n q (trace_entry p None marks ∷ past) ≡ kept_open n q past
open-still n p q marks past =
    ap (λ o. option_map (kept_move n) (if_begun (elim o as (λ _. Option MadeAccess) [
      | Some a ↦ Some (record { access = a; before = past; since = [] })
      | None ↦ option_map (one_later (trace_entry p None marks)) (latest_access q past)
    ]))) (none-made (p == q))
    ∙ begun-quiet n (trace_entry p None marks) (latest_access q past) (λ c. and-false (nat_lt p n))

pub open-stray : (n q : ℕ) (e : TraceEntry) (past : TracePast) → nat_lt e.process n ≡ false → e.process ≢ q → kept_open n q (e ∷ past) ≡ kept_open n q past
open-stray n q e past stray apart =
    ap (λ b. option_map (kept_move n) (if_begun (elim (cond b e.access None) as (λ _. Option MadeAccess) [
      | Some a ↦ Some (record { access = a; before = past; since = [] })
      | None ↦ option_map (one_later e) (latest_access q past)
    ]))) (ne_eqb e.process q apart)
    ∙ begun-quiet n e (latest_access q past) (λ c. ap (λ b. b && option_map_or (writes_on c) e.access false) stray)

-- the open accesses after an access of a process that exists
pub opens-on : (k : OpenState) (p : ℕ) (a : CellAccess) (marks : List LockMark) (past : TracePast) → length k.opened ≡ 16 → nat_lt p k.processes ≡ true → p < 16 →
    HasOpened k past → HasOpened (opened_after p (is_written k.processes a.cell past) a k) (trace_entry p (Some a) marks ∷ past)
opens-on k p a marks past long below inside opens q exists = elim (cases_eq q p) [
  | inl mine ↦
      ap (slice_get (slice_set (map (option_map (seen a)) k.opened) p (opened_by (is_written k.processes a.cell past) a))) mine
      ∙ slice_get-set_same (map (option_map (seen a)) k.opened) p (opened_by (is_written k.processes a.cell past) a)
      (subst (λ m. p < m) (sym (length-map k.opened (option_map (seen a)) ∙ long)) inside)
      ∙ ap Some (sym (open-mine k.processes p a marks below past))
      ∙ ap (λ r. Some (kept_open k.processes r (trace_entry p (Some a) marks ∷ past))) (sym mine)
  | inr apart ↦
      slice_get-set_other (map (option_map (seen a)) k.opened) p q (opened_by (is_written k.processes a.cell past) a) apart
      ∙ slice_get-map (option_map (seen a)) k.opened q
      ∙ ap (option_map (option_map (seen a))) (opens q exists)
      ∙ ap Some (sym (open-other k.processes p a marks below q past apart))
]
