-- The notes of a read of one process.
use Rattle.std.specs.Prelude.{◌≡◌, ◌≢◌, ℕ, suc, ◌<◌, ◌≤◌, ◌==◌, Bool, true, false, cond}
use Rattle.std.proofs.Common.{refl, sym, subst, arith}
use Rattle.std.proofs.lemmas.Bool.{false≢true, cond_both, cond-true, cond-false, eqb-true, eq-eqb, ne_eqb}
use Rattle.plain_store.specs.{Setup}
use Rattle.model.specs.{Past}
use Rattle.laws.proofs.Invariant.{Knows, Touches, Wires, next_time}
use Rattle.laws.proofs.Notes.{Notes, notes, set}
use Rattle.laws.proofs.Owner.{owner_shows_no_more}
use Rattle.laws.proofs.Ready.{Ready}

-- A function of processes that is changed at one of them.

pub set-same : (j x : ℕ) (f : ℕ → ℕ) → set j x f j ≡ x
set-same j x f = cond-true (j == j) x (f j) (eq-eqb j j refl)

pub set-other : (j x : ℕ) (f : ℕ → ℕ) (i : ℕ) → i ≢ j → set j x f i ≡ f i
set-other j x f i other = cond-false (i == j) x (f i) (ne_eqb i j other)

-- a property of the new value at j, and of the old ones elsewhere, holds everywhere
pub set-all : (P : ℕ → ℕ → Type 0) (j x : ℕ) (f : ℕ → ℕ) → P j x → ((i : ℕ) → P i (f i)) → (i : ℕ) → P i (set j x f i)
set-all P j x f here there i = cond_both (i == j) x (f i) (P i) (λ is. subst (λ k. P k x) (sym (eqb-true i j is)) here) (λ is. there i)

-- a property of the new values of two functions at j, and of the old ones elsewhere, holds everywhere
pub set-both : (P : ℕ → ℕ → ℕ → Type 0) (j x y : ℕ) (f g : ℕ → ℕ) → P j x y → ((i : ℕ) → P i (f i) (g i)) → (i : ℕ) → P i (set j x f i) (set j y g i)
set-both P j x y f g here there i = go (i == j) (λ is. subst (λ k. P k x y) (sym (eqb-true i j is)) here)
  where
    go : (b : Bool) → (b ≡ true → P i x y) → P i (cond b x (f i)) (cond b y (g i))
    go true at = at refl
    go false at = there i

-- The notes with what was seen of the others.
abbrev pub seen : ℕ → (choosing_from choosing_to asked_from asked let_from let_by : ℕ → ℕ) → Notes → Notes
seen now choosing_from choosing_to asked_from asked let_from let_by n =
    record n { since = now; choosing_from = choosing_from; choosing_to = choosing_to; asked_from = asked_from; asked = asked; let_from = let_from; let_by = let_by }

-- the read is past, the doorway's part fits a held ticket, and it is true of each other process
pub record Saw (s : Setup) (past : Past) (p : ℕ) (n : Notes) (choosing_from choosing_to asked_from asked let_from let_by : ℕ → ℕ) : Type 0 where
  pub choosing_past : (j : ℕ) → choosing_from j < suc (next_time past)
  pub asked_past : (j : ℕ) → asked_from j < suc (next_time past)
  pub let_past : (j : ℕ) → let_from j < suc (next_time past)
  pub from : n.holds ≡ true → (j : ℕ) → j < s.processes → j ≢ p → n.announced_at ≤ asked_from j
  pub above : n.holds ≡ true → (j : ℕ) → j < s.processes → j ≢ p → asked j < n.ticket
  pub knows : (o : ℕ) → o < s.processes → o ≢ p →
      Knows o (notes s o past).announced (notes s o past).holds (notes s o past).ticket (notes s o past).announced_at (notes s o past).held_at choosing_from choosing_to asked_from asked let_from let_by

-- then p, who isn't inside, stays ready: to the others it shows what it showed
pub ready_seen : (s : Setup) (past : Past) (p : ℕ) (n : Notes) (choosing_from choosing_to asked_from asked let_from let_by : ℕ → ℕ) (m : Wires) (t : ℕ → ℕ → Touches) →
    Ready s past p false n m t → Saw s past p n choosing_from choosing_to asked_from asked let_from let_by →
    Ready s past p false (seen (next_time past) choosing_from choosing_to asked_from asked let_from let_by n) m t
ready_seen s past p n choosing_from choosing_to asked_from asked let_from let_by m t r saw = record {
  times = record {
    announced_at_past = r.times.announced_at_past;
    held_at_past = r.times.held_at_past;
    began_past = r.times.began_past;
    ended_past = r.times.ended_past;
    since_past = omega arith;
    choosing_past = saw.choosing_past;
    asked_past = saw.asked_past;
    let_past = saw.let_past;
  };
  whole = r.whole;
  senior = record {
    fits = r.senior.fits;
    positive = r.senior.positive;
    began_before = r.senior.began_before;
    from = saw.from;
    above = saw.above;
    held = r.senior.held;
    passed = λ inside. absurd (false≢true inside);
  };
  knows = saw.knows;
  owner = λ o below other. owner_shows_no_more s p _ _ _ _ _ _ (record {
    announced = λ e. e;
    announced_at = refl;
    holds = λ e. e;
    ticket = refl;
    held_at = refl;
    choosing_marks = λ e k. refl;
    ticket_marks = λ e k. refl;
  }) (r.owner o below other);
}
