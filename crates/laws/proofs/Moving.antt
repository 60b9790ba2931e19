-- One process moves. If its move keeps its own part, and its part with each other process, then all parts are kept.
use Rattle.std.proofs.Common.{◌≡◌, ◌≢◌, ℕ, suc, ◌<◌, ◌∷◌, sym, ap, subst, ◌∙◌, arith, inl, inr}
use Rattle.std.proofs.lemmas.Bool.{cases_eq}
use Rattle.plain_store.specs.{Setup}
use Rattle.model.specs.{Entry, Past}
use Rattle.laws.specs.{Doing, doing}
use Rattle.laws.proofs.Notes.{Notes, notes}
use Rattle.laws.proofs.Invariant.{Wires, wires, Touches, touches, IsPast, Own, Pair, Inv, Moves, next_time}

-- an entry of p leaves the others as they were
pub record Apart (s : Setup) (past : Past) (p : ℕ) (e : Entry) : Type 0 where
  pub doing : (q : ℕ) → q ≢ p → doing s q (e ∷ past) ≡ doing s q past
  pub notes : (q : ℕ) → q ≢ p → notes s q (e ∷ past) ≡ notes s q past
  pub wires : (q : ℕ) → q ≢ p → wires s (e ∷ past) q ≡ wires s past q
  pub touches : (o r : ℕ) → o ≢ p → r ≢ p → touches s (e ∷ past) o r ≡ touches s past o r

-- the state, notes, registers and marks of overlap of p after an entry of p
pub record Becomes (s : Setup) (past : Past) (p : ℕ) (e : Entry) (d : Doing) (n : Notes) (m : Wires) (t : ℕ → ℕ → Touches) : Type 0 where
  pub doing : doing s p (e ∷ past) ≡ d
  pub notes : notes s p (e ∷ past) ≡ n
  pub wires : wires s (e ∷ past) p ≡ m
  pub touches : touches s (e ∷ past) ≡ t

-- past times stay past
pub past_later : (now announced_at held_at began ended since : ℕ) (choosing_from asked_from let_from : ℕ → ℕ) → IsPast now announced_at held_at began ended since choosing_from asked_from let_from
    → IsPast (suc now) announced_at held_at began ended since choosing_from asked_from let_from
past_later now announced_at held_at began ended since choosing_from asked_from let_from h = record {
  announced_at_past = omega (arith, h.announced_at_past);
  held_at_past = omega (arith, h.held_at_past);
  began_past = omega (arith, h.began_past);
  ended_past = omega (arith, h.ended_past);
  since_past = omega (arith, h.since_past);
  choosing_past = λ j. omega (arith, h.choosing_past j);
  asked_past = λ j. omega (arith, h.asked_past j);
  let_past = λ j. omega (arith, h.let_past j);
}

pub own_later : (s : Setup) (p now : ℕ) (d : Doing) (n : Notes) (m : Wires) → Own s p now d n m → Own s p (suc now) d n m
own_later s p now d n m h = record { past = past_later _ _ _ _ _ _ _ _ _ h.past; whole = h.whole; senior = h.senior; corresponds = h.corresponds }

-- the own part, and the pair part, of equal states, notes and registers
own_same : (s : Setup) (p now : ℕ) (d d' : Doing) (n n' : Notes) (m m' : Wires) → d' ≡ d → n' ≡ n → m' ≡ m → Own s p now d n m → Own s p now d' n' m'
own_same s p now d d' n n' m m' de ne me h = subst (λ x. Own s p now x n' m') (sym de) (subst (λ x. Own s p now d x m') (sym ne) (subst (λ x. Own s p now d n x) (sym me) h))

pair_same : (s : Setup) (o : ℕ) (d d' : Doing) (n n' u u' : Notes) (t t' : Touches) → d' ≡ d → n' ≡ n → u' ≡ u → t' ≡ t → Pair s o d n u t → Pair s o d' n' u' t'
pair_same s o d d' n n' u u' t t' de ne ue te h =
    subst (λ x. Pair s o x n' u' t') (sym de) (subst (λ x. Pair s o d x u' t') (sym ne) (subst (λ x. Pair s o d n x t') (sym ue) (subst (λ x. Pair s o d n u x) (sym te) h)))

-- the move of one process keeps the invariant of all
pub all_move : (s : Setup) (past : Past) (p : ℕ) (e : Entry) (d : Doing) (n : Notes) (m : Wires) (t : ℕ → ℕ → Touches) →
    Inv s past → Apart s past p e → Becomes s past p e d n m t → Moves s past p d n m t → Inv s (e ∷ past)
all_move s past p e d n m t inv a b moves = record { own = own; pair = pair }
  where
    mark : (o r : ℕ) → touches s (e ∷ past) o r ≡ t o r
    mark o r = ap (λ y. y o r) b.touches

    own : (q : ℕ) → q < s.processes → Own s q (next_time (e ∷ past)) (doing s q (e ∷ past)) (notes s q (e ∷ past)) (wires s (e ∷ past) q)
    own q below = elim (cases_eq q p) [
      | inl is ↦ subst (λ x. Own s x (suc (next_time past)) (doing s x (e ∷ past)) (notes s x (e ∷ past)) (wires s (e ∷ past) x)) (sym is)
          (own_same s p _ _ _ _ _ _ _ b.doing b.notes b.wires moves.own)
      | inr not ↦ own_same s q _ _ _ _ _ _ _ (a.doing q not) (a.notes q not) (a.wires q not) (own_later s q _ _ _ _ (inv.own q below))
    ]

    -- neither of the two moves
    neither : (r o : ℕ) → r < s.processes → o < s.processes → r ≢ o → r ≢ p → o ≢ p → Pair s o (doing s r (e ∷ past)) (notes s r (e ∷ past)) (notes s o (e ∷ past)) (touches s (e ∷ past) o r)
    neither r o rb ob ne rp op = pair_same s o _ _ _ _ _ _ _ _ (a.doing r rp) (a.notes r rp) (a.notes o op) (a.touches o r op rp) (inv.pair r o rb ob ne)

    -- the reader moves
    reads : (o : ℕ) → o < s.processes → o ≢ p → Pair s o (doing s p (e ∷ past)) (notes s p (e ∷ past)) (notes s o (e ∷ past)) (touches s (e ∷ past) o p)
    reads o ob op = pair_same s o _ _ _ _ _ _ _ _ b.doing b.notes (a.notes o op) (mark o p) (moves.reader o ob op)

    -- the owner moves
    owns : (r : ℕ) → r < s.processes → r ≢ p → Pair s p (doing s r (e ∷ past)) (notes s r (e ∷ past)) (notes s p (e ∷ past)) (touches s (e ∷ past) p r)
    owns r rb rp = pair_same s p _ _ _ _ _ _ _ _ (a.doing r rp) (a.notes r rp) b.notes (mark p r) (moves.owner r rb rp)

    pair : (r o : ℕ) → r < s.processes → o < s.processes → r ≢ o → Pair s o (doing s r (e ∷ past)) (notes s r (e ∷ past)) (notes s o (e ∷ past)) (touches s (e ∷ past) o r)
    pair r o rb ob ne = elim (cases_eq r p) [
      | inl rp ↦ subst (λ x. Pair s o (doing s x (e ∷ past)) (notes s x (e ∷ past)) (notes s o (e ∷ past)) (touches s (e ∷ past) o x)) (sym rp) (reads o ob (λ op. ne (rp ∙ sym op)))
      | inr rp ↦ elim (cases_eq o p) [
        | inl op ↦ subst (λ x. Pair s x (doing s r (e ∷ past)) (notes s r (e ∷ past)) (notes s x (e ∷ past)) (touches s (e ∷ past) x r)) (sym op) (owns r rb rp)
        | inr op ↦ neither r o rb ob ne rp op
      ]
    ]
