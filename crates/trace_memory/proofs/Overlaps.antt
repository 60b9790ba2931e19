-- Open accesses, and what one entry more makes of them.
use Rattle.std.proofs.Common.{◌≡◌, ◌≢◌, ℕ, ◌==◌, Bool, true, false, ◌&&◌, cond, List, [], ◌∷◌, ◌++◌, Option, None, Some, is_some, option_map, length, refl, sym, ap, ◌∙◌, eq-eqb, ne_eqb, true≢false}
use Rattle.std.specs.Option.{option_to_list}
use Rattle.trace.specs.{Cell, CellAccess, CellMove, LockMark, TraceMemory, TracePast, TraceSetup, begins, trace_entry, value_written}
use Rattle.trace.specs.declared.accesses.CellMove.TheVariants.{Write, End, Read, Value}
use Rattle.trace.specs.declared.setups.TraceMemory.TheVariants.{Safe, Regular, Atomic}
use Rattle.trace_memory.specs.{MadeAccess, OpenAccess, allowed_after, allowed_in, allowed_of, cell_after, ends_kept, ends_move, if_begun, is_end_of, kept_access, kept_open, latest_access, moves_on, one_later, open_write, opened, opened_by, overlapped, register_of, same_cell, seen, stored, values_written, with_move}

-- What a read may give.

-- one write more
overlapped-more : (m : TraceMemory) (x v : ℕ) (values : List ℕ) → allowed_of m x (v ∷ values) ≡ overlapped m v (allowed_of m x values)
overlapped-more Safe x v [] = refl
overlapped-more Safe x v (w ∷ values) = refl
overlapped-more Regular x v values = refl
overlapped-more Atomic x v values = refl

-- one move more, which writes a value or not
abbrev with_written : Option ℕ → List ℕ → List ℕ
with_written w values = option_to_list w ++ values

written-more : (m : TraceMemory) (x : ℕ) (values rest : List ℕ) (w : Option ℕ) → Some (allowed_of m x (with_written w values ++ rest)) ≡ allowed_after m w (Some (allowed_of m x (values ++ rest)))
written-more m x values rest None = refl
written-more m x values rest (Some v) = ap Some (overlapped-more m x v (values ++ rest))

-- one move more on the cell of the read, or on another
allowed-more : (m : TraceMemory) (x : ℕ) (since : List CellMove) (rest : List ℕ) (same : Bool) (how : CellMove) →
    Some (allowed_of m x (values_written (with_move (cond same (Some how) None) since) ++ rest))
    ≡ cond same (allowed_after m (value_written how) (Some (allowed_of m x (values_written since ++ rest)))) (Some (allowed_of m x (values_written since ++ rest)))
allowed-more m x since rest false how = refl
allowed-more m x since rest true how = written-more m x (values_written since) rest (value_written how)

-- a write may give nothing
none-more : (m : TraceMemory) (same : Bool) (w : Option ℕ) → None ≡ cond same (allowed_after m w None) None
none-more m false w = refl
none-more m true None = refl
none-more m true (Some v) = refl

-- One access later.

-- open accesses with the same fields
open_by : (k m : OpenAccess) → k.entry ≡ m.entry → k.cell ≡ m.cell → k.allowed ≡ m.allowed → k ≡ m
open_by k m a b c = λ i. record { entry = a i; cell = b i; allowed = c i }

module _ (s : TraceSetup) (p : ℕ) (a : CellAccess) (marks : List LockMark) where
  -- an access with this move, on this cell
  abbrev made : Cell → CellMove → TracePast → TracePast → MadeAccess
  made c how before since = record { access = record { cell = c; how = how }; before = before; since = since }

  allowed-later : (c : Cell) (how : CellMove) (before since : TracePast) →
      allowed_in s (made c how before (trace_entry p (Some a) marks ∷ since))
      ≡ cond (same_cell a.cell c) (allowed_after s.memory (value_written a.how) (allowed_in s (made c how before since))) (allowed_in s (made c how before since))
  allowed-later c Read before since = allowed-more s.memory (stored (register_of s c) (moves_on c before)) (moves_on c since) (option_to_list (open_write (moves_on c before))) (same_cell a.cell c) a.how
  allowed-later c _ before since = none-more s.memory (same_cell a.cell c) (value_written a.how)

  kept-later : (m : MadeAccess) → kept_access s (one_later (trace_entry p (Some a) marks) m) ≡ seen s.memory a (kept_access s m)
  kept-later m = open_by (kept_access s (one_later (trace_entry p (Some a) marks) m)) (seen s.memory a (kept_access s m)) refl refl
      (allowed-later m.access.cell m.access.how m.before m.since)

  begun-later : (o : Option MadeAccess) →
      option_map (kept_access s) (if_begun (option_map (one_later (trace_entry p (Some a) marks)) o)) ≡ option_map (seen s.memory a) (option_map (kept_access s) (if_begun o))
  begun-later None = refl
  begun-later (Some m) = by (begins m.access.how)
    where
      by : (b : Bool) → option_map (kept_access s) (cond b (Some (one_later (trace_entry p (Some a) marks) m)) None) ≡ option_map (seen s.memory a) (option_map (kept_access s) (cond b (Some m) None))
      by true = ap Some (kept-later m)
      by false = refl

  -- the latest access of a process whose entry this is not
  abbrev latest_with : ℕ → TracePast → Option CellAccess → Option MadeAccess
  latest_with q past o = elim o as (λ _. Option MadeAccess) [
    | Some a ↦ Some (record { access = a; before = past; since = [] })
    | None ↦ option_map (one_later (trace_entry p (Some a) marks)) (latest_access q past)
  ]

  -- of another process
  pub open-other : (q : ℕ) (past : TracePast) → q ≢ p → kept_open s q (trace_entry p (Some a) marks ∷ past) ≡ option_map (seen s.memory a) (kept_open s q past)
  open-other q past apart =
      ap (λ b. option_map (kept_access s) (if_begun (latest_with q past (cond b (Some a) None)))) (ne_eqb p q (λ h. apart (sym h)))
      ∙ begun-later (latest_access q past)

  -- of its own
  pub open-mine : (past : TracePast) → kept_open s p (trace_entry p (Some a) marks ∷ past) ≡ opened_by s.memory (length past) (cell_after s a.cell past) a
  open-mine past =
      ap (λ b. option_map (kept_access s) (if_begun (latest_with p past (cond b (Some a) None)))) (eq-eqb p p refl)
      ∙ by a.cell a.how
    where
      by : (c : Cell) (how : CellMove) → option_map (kept_access s) (if_begun (Some (made c how past []))) ≡ opened_by s.memory (length past) (cell_after s c past) (record { cell = c; how = how })
      by c Read = refl
      by c _ = refl

-- An entry without an access.

none-made : (b : Bool) → ◌≡◌ {A = Option CellAccess} (cond b None None) None
none-made true = refl
none-made false = refl

begun-still : (s : TraceSetup) (p : ℕ) (marks : List LockMark) (o : Option MadeAccess) →
    option_map (kept_access s) (if_begun (option_map (one_later (trace_entry p None marks)) o)) ≡ option_map (kept_access s) (if_begun o)
begun-still s p marks None = refl
begun-still s p marks (Some m) = by (begins m.access.how)
  where
    by : (b : Bool) → option_map (kept_access s) (cond b (Some (one_later (trace_entry p None marks) m)) None) ≡ option_map (kept_access s) (cond b (Some m) None)
    by true = refl
    by false = refl

pub open-still : (s : TraceSetup) (p q : ℕ) (marks : List LockMark) (past : TracePast) → kept_open s q (trace_entry p None marks ∷ past) ≡ kept_open s q past
open-still s p q marks past =
    ap (λ o. option_map (kept_access s) (if_begun (elim o as (λ _. Option MadeAccess) [
      | Some a ↦ Some (record { access = a; before = past; since = [] })
      | None ↦ option_map (one_later (trace_entry p None marks)) (latest_access q past)
    ]))) (none-made (p == q))
    ∙ begun-still s p marks (latest_access q past)

-- Ends.

ends-made : (s : TraceSetup) (c : Cell) (how : CellMove) (before since : TracePast) (d : Cell) (end : CellMove) → begins how ≡ true →
    ends_kept (Some (kept_access s (record { access = record { cell = c; how = how }; before = before; since = since }))) (record { cell = d; how = end }) ≡ same_cell c d && ends_move how end
ends-made s c (Write v) before since d End h = refl
ends-made s c (Write v) before since d _ h = refl
ends-made s c Read before since d (Value v) h = refl
ends-made s c Read before since d _ h = refl
ends-made s c _ before since d end h = absurd (true≢false (sym h))

ends-begun : (s : TraceSetup) (o : Option MadeAccess) (a : CellAccess) → ends_kept (option_map (kept_access s) (if_begun o)) a ≡ is_end_of (if_begun o) a
ends-begun s None a = refl
ends-begun s (Some m) a = by (begins m.access.how) refl
  where
    by : (b : Bool) → begins m.access.how ≡ b → ends_kept (option_map (kept_access s) (cond b (Some m) None)) a ≡ is_end_of (cond b (Some m) None) a
    by true h = ends-made s m.access.cell m.access.how m.before m.since a.cell a.how h
    by false h = refl

-- an end is that of the access that is kept as open
pub ends-open : (s : TraceSetup) (p : ℕ) (past : TracePast) (a : CellAccess) → ends_kept (kept_open s p past) a ≡ is_end_of (opened p past) a
ends-open s p past a = ends-begun s (latest_access p past) a

pub some-map : {A B : Type 0} (f : A → B) (o : Option A) → is_some (option_map f o) ≡ is_some o
some-map f None = refl
some-map f (Some x) = refl

some-begun : (b : Bool) (k : OpenAccess) → is_some (cond b (Some k) None) ≡ b
some-begun true k = refl
some-begun false k = refl

-- an access is open after one that begins
pub opens : (s : TraceSetup) (p : ℕ) (a : CellAccess) (marks : List LockMark) (past : TracePast) → is_some (opened p (trace_entry p (Some a) marks ∷ past)) ≡ begins a.how
opens s p a marks past =
    sym (some-map (kept_access s) (opened p (trace_entry p (Some a) marks ∷ past)))
    ∙ ap is_some (open-mine s p a marks past)
    ∙ some-begun (begins a.how) _

-- and without an access it stays open
pub stays_open : (s : TraceSetup) (p : ℕ) (marks : List LockMark) (past : TracePast) → is_some (opened p (trace_entry p None marks ∷ past)) ≡ is_some (kept_open s p past)
stays_open s p marks past = sym (some-map (kept_access s) (opened p (trace_entry p None marks ∷ past))) ∙ ap is_some (open-still s p p marks past)
