-- The reports of a monitor and of the last access of each process on overlapped reads.
use Rattle.std.proofs.Common.{◌≡◌, ℕ, ◌<◌, ◌==◌, ◌&&◌, Bool, true, false, cond, get_or, set, List, [], ◌∷◌, ◌++◌, Option, None, Some, true≢false, refl, ap, sym, subst, ◌∙◌, arith, inl, inr, ne_eqb, eq-eqb}
use Rattle.std.proofs.lemmas.Bool.{and_parts, cases_eq}
use Rattle.std.proofs.lemmas.Bool.Decides.{nat_tests}
use Rattle.std.proofs.lemmas.List.{get_or-set_other, get_or-set_same}
use Rattle.plain_store.specs.{Setup}
use Rattle.plain_store.proofs.GoodSetups.{few-processes}
use Rattle.model.specs.{Access, Mark, Past, begins_read, moves_of, same_bit}
use Rattle.model.specs.safe_bit.{Move, is_begin_of_read}
use Rattle.model.specs.safe_bit.declared.Move.TheVariants.{BeginRead, EndRead}
use Rattle.world.specs.{ends_overlapped}
use Rattle.calls.specs.{begins_read_of, ends_own_overlapped, entry_with, is_there, last_access, later_access}
use Rattle.judge.specs.safe_monitor.MonitoredBits as looks
use Rattle.judge.specs.safe_monitor.laws.{IsThere}
use Rattle.judge.specs.safe_monitor.{HasObserved}
use Rattle.calls.specs.{OverlapMonitor, Monitors}

-- Reads that have begun.

begins_here : (m : Move) (moves : List Move) → is_begin_of_read m ≡ true → begins_read (m ∷ moves) ≡ true
begins_here BeginRead moves is = refl
begins_here m moves is = absurd (true≢false (sym is))

begins_on : (m : Move) (moves : List Move) → begins_read moves ≡ true → begins_read (m ∷ moves) ≡ true
begins_on BeginRead moves is = refl
begins_on m moves is = is

-- the moves of an entry with this access, before others
abbrev moves_with : Access → Option Access → List Move → List Move
moves_with a o moves = elim o as (λ _. List Move) [ None ↦ [] | Some b ↦ cond (same_bit a b) (b.how ∷ []) [] ] ++ moves

begins_behind : (a : Access) (o : Option Access) (moves : List Move) → begins_read moves ≡ true → begins_read (moves_with a o moves) ≡ true
begins_behind a None moves is = is
begins_behind a (Some x) moves is = by (same_bit a x)
  where
    by : (b : Bool) → begins_read (cond b (x.how ∷ []) [] ++ moves) ≡ true
    by true = begins_on x.how moves is
    by false = is

begins_with : (a x : Access) (moves : List Move) → (is_begin_of_read x.how && same_bit a x) ≡ true → begins_read (moves_with a (Some x) moves) ≡ true
begins_with a x moves is =
    let both = and_parts (is_begin_of_read x.how) (same_bit a x) is in
    ap (λ b. begins_read (cond b (x.how ∷ []) [] ++ moves)) both.1 ∙ begins_here x.how moves both.0

-- if the last access of a process began a read of a bit, a read of that bit has begun
begun_reads : (p : ℕ) (a : Access) (past : Past) → begins_read_of (last_access p past) a ≡ true → begins_read (moves_of a past) ≡ true
begun_reads p a [] is = absurd (true≢false (sym is))
begun_reads p a (e ∷ past) is = by (e.process == p) e.access is (begun_reads p a past)
  where
    by : (mine : Bool) (o : Option Access) → begins_read_of (cond mine (later_access (last_access p past) o) (last_access p past)) a ≡ true → (begins_read_of (last_access p past) a ≡ true → begins_read (moves_of a past) ≡ true) →
        begins_read (moves_with a o (moves_of a past)) ≡ true
    by true None is before = before is
    by true (Some x) is before = begins_with a x (moves_of a past) is
    by false o is before = begins_behind a o (moves_of a past) (before is)

-- The report.

same_end : (moves : List Move) (how : Move) → looks.ends_overlapped moves how ≡ ends_overlapped moves how
same_end moves (EndRead v) = refl
same_end moves _ = refl

there_is : (s : Setup) (a : Access) → is_there s a ≡ true → IsThere s a
there_is s a is = record { owner = grind (arith, nat_tests, is); reader = grind (arith, nat_tests, is); bit = grind (arith, nat_tests, is) }

not_there : (s : Setup) (a : Access) → is_there s a ≡ false → IsThere s a → ⊥
not_there s a is there =
    let owner = there.owner in let reader = there.reader in let bit = there.bit in
    let yes : is_there s a ≡ true = grind (arith, nat_tests, owner, reader, bit) in true≢false (sym yes ∙ is)

few : (s : Setup) (past : Past) (w : OverlapMonitor) (p : ℕ) → Monitors s past w → p < s.processes → p < 16
few s past w p h below = omega (arith, few-processes s h.good, below)

-- the last access of the process began the read
pub reported_begun : (s : Setup) (past : Past) (w : OverlapMonitor) (p : ℕ) (a : Access) (over : Bool) → Monitors s past w → p < s.processes → begins_read_of (get_or w.last p None) a ≡ true →
    ((past : Past) → HasObserved w.monitor past → IsThere w.monitor.setup a → looks.ReportsOverlap over (moves_of a past) a.how) → ((IsThere w.monitor.setup a → ⊥) → over ≡ false) → over ≡ ends_own_overlapped s p past a
reported_begun s past w p a over h below begun there stray = by (is_there s a) refl
  where
    last : get_or w.last p None ≡ last_access p past
    last = h.last p (few s past w p h below)

    begins : begins_read_of (last_access p past) a ≡ true
    begins = ap (λ o. begins_read_of o a) (sym last) ∙ begun

    by : (t : Bool) → is_there s a ≡ t → over ≡ (t && begins_read_of (last_access p past) a && ends_overlapped (moves_of a past) a.how)
    by false is = stray (λ here. not_there s a is (subst (λ (s : Setup). IsThere s a) h.monitored here))
    by true is =
        there past h.observed (subst (λ (s : Setup). IsThere s a) (sym h.monitored) (there_is s a is)) (begun_reads p a past begins)
        ∙ same_end (moves_of a past) a.how ∙ ap (λ b. b && ends_overlapped (moves_of a past) a.how) (sym begins)

-- The state.

-- p's last access, after an entry with these parts
pub last_on : (s : Setup) (past : Past) (w : OverlapMonitor) (q : ℕ) (a : Access) (marks : List Mark) → Monitors s past w → (p : ℕ) → p < 16 → get_or (set w.last q (Some a)) p None ≡ last_access p (entry_with q (Some a) marks ∷ past)
last_on s past w q a marks h p below = elim (cases_eq p q) [
  | inl same ↦ subst (λ q. get_or (set w.last q (Some a)) p None ≡ last_access p (entry_with q (Some a) marks ∷ past)) same mine
  | inr apart ↦ get_or-set_other w.last q p (Some a) None apart ∙ h.last p below ∙ sym (ap (λ b. cond b (Some a) (last_access p past)) (ne_eqb q p (λ h. apart (sym h))))
]
  where
    mine : get_or (set w.last p (Some a)) p None ≡ last_access p (entry_with p (Some a) marks ∷ past)
    mine = get_or-set_same w.last p (Some a) None (subst (λ n. p < n) (sym h.room) below) ∙ sym (ap (λ b. cond b (Some a) (last_access p past)) (eq-eqb p p refl))

pub last_still : (past : Past) (q : ℕ) (marks : List Mark) (p : ℕ) → last_access p past ≡ last_access p (entry_with q None marks ∷ past)
last_still past q marks p = by (q == p)
  where
    by : (b : Bool) → last_access p past ≡ cond b (last_access p past) (last_access p past)
    by true = refl
    by false = refl
