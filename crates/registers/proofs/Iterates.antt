-- Consecutive accesses.
use Rattle.std.proofs.Common.{◌≡◌, ℕ, zero, suc, ◌+◌, ◌≤◌, Bool, true, false, cond, List, refl, sym, ◌∙◌, arith, ap}
use mir.Val.{bool_byte}
use Rattle.safe_bit.specs.Cell.{Cell}
use Rattle.choices.specs.{FlickState, after_flick, flicks_after}
use Rattle.registers.specs.{CursorState, LeadsTo, access_of, overlapped_of, overlaps_next, run_of}

-- a run is two runs, one after the other
pub run-more : (a b : ℕ) (now : CursorState × List (List Cell) × FlickState) → run_of (a + b) now ≡ run_of b (run_of a now)
run-more a zero now = ap (λ n. run_of n now) (let e : a + 0 ≡ a = omega arith in e)
run-more a (suc b) now = let e : a + suc b ≡ suc (a + b) = omega arith in ap (λ n. run_of n now) e ∙ ap access_of (run-more a b now)

add-again : (x y z : ℕ) → x + y + z ≡ x + (y + z)
add-again x y z = omega arith

-- 1, if the next access ends a read that a write overlapped
abbrev one : CursorState × List (List Cell) × FlickState → ℕ
one now = cond (overlaps_next now) 1 0

pub overlapped-more : (a b : ℕ) (now : CursorState × List (List Cell) × FlickState) → overlapped_of (a + b) now ≡ overlapped_of a now + overlapped_of b (run_of a now)
overlapped-more a zero now = let e : a + 0 ≡ a = omega arith in ap (λ n. overlapped_of n now) e ∙ (let same : overlapped_of a now ≡ overlapped_of a now + 0 = omega arith in same)
overlapped-more a (suc b) now =
    let e : a + suc b ≡ suc (a + b) = omega arith in
    ap (λ n. overlapped_of n now) e
    ∙ (λ i. overlapped-more a b now i + one (run-more a b now i))
    ∙ add-again (overlapped_of a now) (overlapped_of b (run_of a now)) (one (run_of b (run_of a now)))

one-at_most : (b : Bool) → cond b 1 0 ≤ 1
one-at_most true = omega arith
one-at_most false = omega arith

-- one more, or none
pub byte-one : (b : Bool) → bool_byte b ≡ 0 + cond b 1 0
byte-one true = refl
byte-one false = refl

-- each is one at most
pub overlapped-few : (k : ℕ) (now : CursorState × List (List Cell) × FlickState) → overlapped_of k now ≤ k
overlapped-few zero now = omega arith
overlapped-few (suc k) now = omega (arith, overlapped-few k now, one-at_most (overlaps_next (run_of k now)))

flicks-more : (a b : ℕ) (flicks : FlickState) → flicks_after b (flicks_after a flicks) ≡ flicks_after (a + b) flicks
flicks-more a zero flicks = ap (λ n. flicks_after n flicks) (let e : a ≡ a + 0 = omega arith in e)
flicks-more a (suc b) flicks = let e : suc (a + b) ≡ a + suc b = omega arith in ap after_flick (flicks-more a b flicks) ∙ ap (λ n. flicks_after n flicks) e

-- EQUAL RESULTS FOR ALL FLICKS

pub leads_more : (a b : ℕ) (c d e : CursorState) (before memory now : List (List Cell)) → LeadsTo a c before d memory → LeadsTo b d memory e now → LeadsTo (a + b) c before e now
leads_more a b c d e before memory now first then = record {
  run = λ f. run-more a b (c, before, f) ∙ ap (run_of b) (first.run f) ∙ then.run (flicks_after a f) ∙ (λ i. (e, now, flicks-more a b f i));
  none = λ f. overlapped-more a b (c, before, f) ∙ (λ i. first.none f i + overlapped_of b (first.run f i)) ∙ ap (λ k. 0 + k) (then.none (flicks_after a f));
}

-- the fact in other terms
pub leads-same : (n n' : ℕ) (c c' d d' : CursorState) (before before' now now' : List (List Cell)) → n ≡ n' → c ≡ c' → before ≡ before' → d ≡ d' → now ≡ now' → LeadsTo n c before d now → LeadsTo n' c' before' d' now'
leads-same n n' c c' d d' before before' now now' number start from end to h = record {
  run = λ f. (λ i. run_of (sym number i) (sym start i, sym from i, f)) ∙ h.run f ∙ (λ i. (end i, to i, flicks_after (number i) f));
  none = λ f. (λ i. overlapped_of (sym number i) (sym start i, sym from i, f)) ∙ h.none f;
}
