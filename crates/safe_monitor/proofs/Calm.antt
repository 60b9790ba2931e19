-- The end of a read after one more move.
use Rattle.std.proofs.Common.{◌≡◌, Bool, true, false, not, ◌&&◌, List, [], ◌∷◌, Some, cond, refl, sym, ap, ◌∙◌, subst}
use Rattle.model.specs.safe_bit.{MayEndWith, Move, before_read, is_overlapped, is_write_open, last_written}
use Rattle.model.specs.safe_bit.declared.Move.TheVariants.{BeginWrite, EndWrite, BeginRead, EndRead, Settle}
use Rattle.model.specs.{Access, Entry, Past, begins_read, moves_of, opening_bit}
use Rattle.plain_store.specs.{Setup}
use Rattle.safe_monitor.specs.{KeepsSafe, MatchBool, ReadEnd, ending_of}
use Rattle.safe_monitor.specs.declared.monitored_bit.ReadEnd.TheVariants.{Free, Writing, Bound}

-- while a write is open, the read that began last is overlapped
pub open_overlaps : (moves : List Move) → is_write_open moves ≡ true → (begins_read moves && not (is_overlapped moves)) ≡ false
open_overlaps [] h = refl
open_overlaps (BeginWrite v ∷ moves) h = by (begins_read moves)
  where
    by : (b : Bool) → (b && false) ≡ false
    by true = refl
    by false = refl
open_overlaps (EndWrite ∷ moves) h = cc
open_overlaps (Settle v ∷ moves) h = cc
open_overlaps (BeginRead ∷ moves) h = λ i. not (h i)
open_overlaps (EndRead v ∷ moves) h = open_overlaps moves h

-- once no write is open, an overlapped read stays overlapped, and a bound read stays bound
pub closed_then : (e : ReadEnd) (opening : Bool) (moves : List Move) → e ≡ ending_of opening moves → elim e as (λ _. ReadEnd) [ Free ↦ Free | Writing ↦ Free | Bound v ↦ Bound v ] ≡ cond (begins_read moves && not (is_overlapped moves)) (Bound (last_written opening (before_read moves))) Free
closed_then e opening moves h = by e (is_write_open moves) (begins_read moves && not (is_overlapped moves)) (last_written opening (before_read moves)) (open_overlaps moves) h
  where
    by : (e : ReadEnd) (w b x : Bool) → (w ≡ true → b ≡ false) → e ≡ cond w Writing (cond b (Bound x) Free) → elim e as (λ _. ReadEnd) [ Free ↦ Free | Writing ↦ Free | Bound v ↦ Bound v ] ≡ cond b (Bound x) Free
    by Free true b x calm h = cc
    by Free false true x calm h = cc
    by Free false false x calm h = refl
    by Writing true b x calm h = sym (ap (λ t. cond t (Bound x) Free) (calm refl))
    by Writing false true x calm h = cc
    by Writing false false x calm h = cc
    by (Bound v) true b x calm h = cc
    by (Bound v) false true x calm h = h
    by (Bound v) false false x calm h = cc

-- The end of a read.

-- a read that is not bound may end with each value
pub free_allows : (e : ReadEnd) (v opening : Bool) (moves : List Move) → e ≡ ending_of opening moves → ((only : Bool) → e ≡ Bound only → ⊥) → begins_read moves ≡ true → MayEndWith opening moves v
free_allows e v opening moves h free begins calm = absurd (by (is_write_open moves) refl)
  where
    by : (w : Bool) → is_write_open moves ≡ w → ⊥
    by true is = let none : (begins_read moves && not (is_overlapped moves)) ≡ false = open_overlaps moves is in
        let some : (begins_read moves && not (is_overlapped moves)) ≡ true = λ i. begins i && not (calm i) in cc
    by false is = free (last_written opening (before_read moves))
        (h ∙ (λ i. cond (is i) Writing (cond (begins i && not (calm i)) (Bound (last_written opening (before_read moves))) Free)))

-- a read that is bound was overlapped by no write
pub bound_calm : (only opening : Bool) (moves : List Move) → Bound only ≡ ending_of opening moves → false ≡ is_overlapped moves
bound_calm only opening moves h = by (is_write_open moves) (begins_read moves) (is_overlapped moves) (last_written opening (before_read moves)) h
  where
    by : (w b o x : Bool) → Bound only ≡ cond w Writing (cond (b && not o) (Bound x) Free) → false ≡ o
    by true b o x h = cc
    by false true true x h = cc
    by false true false x h = refl
    by false false o x h = cc

-- a read that is not bound was overlapped, if it has begun
pub free_overlapped : (e : ReadEnd) (opening : Bool) (moves : List Move) → e ≡ ending_of opening moves → ((only : Bool) → e ≡ Bound only → ⊥) → begins_read moves ≡ true → true ≡ is_overlapped moves
free_overlapped e opening moves h free begins = by (is_overlapped moves) refl
  where
    by : (o : Bool) → is_overlapped moves ≡ o → true ≡ o
    by true is = refl
    by false is =
        let one : true ≡ last_written opening (before_read moves) = free_allows e true opening moves h free begins is in
        let zero : false ≡ last_written opening (before_read moves) = free_allows e false opening moves h free begins is in cc

-- The moves that an entry may have.

-- the move keeps the safe rule
abbrev pub IsAllowed : Bool → List Move → Move → Type 0
IsAllowed opening moves how = (v : Bool) → how ≡ EndRead v → begins_read moves ≡ true → MayEndWith opening moves v

pub keeps_by : (s : Setup) (past : Past) (e : Entry) (a : Access) → e.access ≡ Some a → IsAllowed (opening_bit s a) (moves_of a past) a.how → KeepsSafe s past e
keeps_by s past e a access allowed other v is = let same : a ≡ other = cc in subst (λ (x : Access). IsAllowed (opening_bit s x) (moves_of x past) x.how) same allowed v

-- the end of a read is judged by the values that it may have
pub ends_by : (s : Setup) (past : Past) (e : Entry) (a : Access) (v : Bool) (r : Bool) → e.access ≡ Some a → a.how ≡ EndRead v →
    MatchBool r (begins_read (moves_of a past) ≡ true → MayEndWith (opening_bit s a) (moves_of a past) v) ((begins_read (moves_of a past) ≡ true → MayEndWith (opening_bit s a) (moves_of a past) v) → ⊥) →
    MatchBool r (KeepsSafe s past e) (KeepsSafe s past e → ⊥)
ends_by s past e a v true access how may = keeps_by s past e a access (λ u is. let same : v ≡ u = cc in subst (λ u. begins_read (moves_of a past) ≡ true → MayEndWith (opening_bit s a) (moves_of a past) u) same may)
ends_by s past e a v false access how may = λ keeps. may (keeps a v access how)
