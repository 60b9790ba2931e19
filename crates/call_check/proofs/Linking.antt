-- The calls are chained by their places.
use Rattle.std.proofs.Common.{◌≡◌, ◌≢◌, ℕ, zero, suc, ◌+◌, ◌<◌, ◌≤◌, List, [], ◌∷◌, ◌++◌, length, set, Option, Some, refl, sym, ap, subst, ◌∙◌, arith, ⊎_elim, length-append, length-set}
use Rattle.std.proofs.lemmas.Bool.{cases_lt}
use Rattle.std.proofs.lemmas.Option.{slice_get_within}
use Rattle.std.specs.List.{slice_get}
use Rattle.call_check.specs.{AreChains, AreNothing, Call, IsLast, IsLink, PositionLink}
use Rattle.call_check.proofs.CallNotes.{from_some, none_some}
use Rattle.call_check.proofs.Places.{get_push_new, get_push_old, get_set_other, get_set_same, same_or_not}

-- the last call with a place, where a call comes

last_kept : (calls : List Call) (x : Call) (k b m : ℕ) → b ≤ length calls → IsLast calls k b m → IsLast (calls ++ x ∷ []) k b m
last_kept calls x k b m within last =
    let le : m ≤ b = last.before in
    record {
      before = le;
      there = λ j call is there. last.there j call is (sym (get_push_old calls x j (omega (arith, is, le, within))) ∙ there);
      none_later = λ j call ge l there. last.none_later j call ge l (sym (get_push_old calls x j (omega (arith, l, within))) ∙ there);
    }

-- the call that came
came : (calls : List Call) (x : Call) (j : ℕ) (call : Call) → length calls ≡ j → slice_get (calls ++ x ∷ []) j ≡ Some call → x ≡ call
came calls x j call here there = from_some x call (sym (get_push_new calls x) ∙ subst (λ i. slice_get (calls ++ x ∷ []) i ≡ Some call) (sym here) there)

last_more : (calls : List Call) (x : Call) (k m : ℕ) → x.placed.place ≢ Some k → IsLast calls k (length calls) m → IsLast (calls ++ x ∷ []) k (length (calls ++ x ∷ [])) m
last_more calls x k m other last =
    let le : m ≤ length calls = last.before in
    let size : length (calls ++ x ∷ []) ≡ length calls + 1 = length-append calls (x ∷ []) in
    record {
      before = omega (arith, le, size);
      there = λ j call is there. last.there j call is (sym (get_push_old calls x j (omega (arith, is, le))) ∙ there);
      none_later = λ j call ge l there. ⊎_elim
          (λ (old : j < length calls). last.none_later j call ge old (sym (get_push_old calls x j old) ∙ there))
          (λ (past : length calls ≤ j). subst (λ (y : Call). y.placed.place ≢ Some k) (came calls x j call (omega (arith, past, l, size)) there) other)
          (cases_lt j (length calls));
    }

last_new : (calls : List Call) (x : Call) (k : ℕ) → x.placed.place ≡ Some k → IsLast (calls ++ x ∷ []) k (length (calls ++ x ∷ [])) (length (calls ++ x ∷ []))
last_new calls x k is_there =
    let size : length (calls ++ x ∷ []) ≡ length calls + 1 = length-append calls (x ∷ []) in
    record {
      before = omega arith;
      there = λ j call is there. subst (λ (y : Call). y.placed.place ≡ Some k) (came calls x j call (omega (arith, is, size)) there) is_there;
      none_later = λ j call ge l there. absurd (omega (arith, ge, l));
    }

-- a call that comes

link_kept : (calls : List Call) (x : Call) (n i : ℕ) (call : Call) (link : PositionLink) → i ≤ length calls → IsLink calls n i call link → IsLink (calls ++ x ∷ []) n i call link
link_kept calls x n i call link within is = record {
  port = is.port;
  index = is.index;
  before = is.before;
  earlier = λ k l there. last_kept calls x k i link.earlier within (is.earlier k l there);
}

chains_more : (calls : List Call) (n : ℕ) (heads heads2 : List ℕ) (links links2 : List PositionLink) (x : Call) (link : PositionLink) → AreChains calls n heads links → links2 ≡ links ++ link ∷ [] → IsLink (calls ++ x ∷ []) n (length calls) x link → length heads2 ≡ length heads → ((k m : ℕ) → slice_get heads2 k ≡ Some m → IsLast (calls ++ x ∷ []) k (length (calls ++ x ∷ [])) m) → AreChains (calls ++ x ∷ []) n heads2 links2
chains_more calls n heads heads2 links links2 x link chains more new places head =
    let all : length (calls ++ x ∷ []) ≡ length calls + 1 = length-append calls (x ∷ []) in
    let both : length (links ++ link ∷ []) ≡ length links + 1 = length-append links (link ∷ []) in
    let long : length links2 ≡ length (links ++ link ∷ []) = ap length more in
    let size : length links ≡ length calls = chains.size in
    record {
      places = places ∙ chains.places;
      size = omega (arith, all, both, long, size);
      head = head;
      link = λ i call there. ⊎_elim
          (λ (old : i < length calls).
          let (found, found_there, is) = chains.link i call (sym (get_push_old calls x i old) ∙ there) in
          (found, ap (λ (l : List PositionLink). slice_get l i) more ∙ get_push_old links link i (omega (arith, old, size)) ∙ found_there, link_kept calls x n i call found (omega (arith, old)) is))
          (λ (past : length calls ≤ i).
          let within : i < length (calls ++ x ∷ []) = slice_get_within (calls ++ x ∷ []) i call there in
          let here : length calls ≡ i = omega (arith, past, within, all) in
          let at : length links ≡ i = omega (arith, here, size) in (
            link,
            ap (λ (l : List PositionLink). slice_get l i) more ∙ subst (λ m. slice_get (links ++ link ∷ []) m ≡ Some link) at (get_push_new links link),
            subst (λ m. IsLink (calls ++ x ∷ []) n m call link) here (subst (λ (y : Call). IsLink (calls ++ x ∷ []) n (length calls) y link) (came calls x i call here there) new),
          ))
          (cases_lt i (length calls));
    }

-- one more call, which has no chain
pub chain_without : (calls : List Call) (n : ℕ) (heads : List ℕ) (links links2 : List PositionLink) (x : Call) (link : PositionLink) → AreChains calls n heads links → links2 ≡ links ++ link ∷ [] → link.port ≡ x.port → link.index ≡ x.index → link.earlier ≡ 0 → ((k : ℕ) → k < n → x.placed.place ≢ Some k) → AreChains (calls ++ x ∷ []) n heads links2
chain_without calls n heads links links2 x link chains more port index none elsewhere = chains_more calls n heads heads links links2 x link chains more
    (record { port = port; index = index; before = omega (arith, none); earlier = λ k l there. absurd (elsewhere k l there) })
    refl
    (λ k m there.
    let within : k < length heads = slice_get_within heads k m there in
    let places : length heads ≡ n = chains.places in
    last_more calls x k m (elsewhere k (omega (arith, within, places))) (chains.head k m there))

some_same : (a b : ℕ) (o : Option ℕ) → o ≡ Some a → o ≡ Some b → a ≡ b
some_same a b o is_a is_b = from_some a b (sym is_a ∙ is_b)

-- one more call, in the chain of its place
pub chain_with : (calls : List Call) (n : ℕ) (heads heads2 : List ℕ) (links links2 : List PositionLink) (x : Call) (link : PositionLink) (k : ℕ) → AreChains calls n heads links → links2 ≡ links ++ link ∷ [] → link.port ≡ x.port → link.index ≡ x.index → x.placed.place ≡ Some k → slice_get heads k ≡ Some link.earlier → heads2 ≡ set heads k (length links2) → AreChains (calls ++ x ∷ []) n heads2 links2
chain_with calls n heads heads2 links links2 x link k chains more port index placed earlier heads2_is =
    let last : IsLast calls k (length calls) link.earlier = chains.head k link.earlier earlier in
    let within : k < length heads = slice_get_within heads k link.earlier earlier in
    let all : length (calls ++ x ∷ []) ≡ length calls + 1 = length-append calls (x ∷ []) in
    let both : length (links ++ link ∷ []) ≡ length links + 1 = length-append links (link ∷ []) in
    let long : length links2 ≡ length (links ++ link ∷ []) = ap length more in
    let size : length links ≡ length calls = chains.size in
    let end : length (calls ++ x ∷ []) ≡ length links2 = omega (arith, all, both, long, size) in
    chains_more calls n heads heads2 links links2 x link chains more
    (record {
      port = port;
      index = index;
      before = last.before;
      earlier = λ j l there. subst (λ i. IsLast (calls ++ x ∷ []) i (length calls) link.earlier) (some_same k j x.placed.place placed there) (last_kept calls x k (length calls) link.earlier (omega arith) last);
    })
    (ap length heads2_is ∙ length-set heads k (length links2))
    (λ j m there.
    let there_set : slice_get (set heads k (length links2)) j ≡ Some m = sym (ap (λ (l : List ℕ). slice_get l j) heads2_is) ∙ there in
    ⊎_elim
    (λ (here : j ≡ k).
    let is : length links2 ≡ m = from_some (length links2) m (sym (get_set_same heads k (length links2) within) ∙ subst (λ i. slice_get (set heads k (length links2)) i ≡ Some m) here there_set) in
    subst (λ i. IsLast (calls ++ x ∷ []) i (length (calls ++ x ∷ [])) m) (sym here) (subst (λ e. IsLast (calls ++ x ∷ []) k (length (calls ++ x ∷ [])) e) (end ∙ is) (last_new calls x k placed)))
    (λ (other : j ≢ k). last_more calls x j m (λ e. other (sym (some_same k j x.placed.place placed e))) (chains.head j m (sym (get_set_other heads k j (length links2) other) ∙ there_set)))
    (same_or_not j k))

-- no calls

pub chains_none : (n : ℕ) (heads : List ℕ) → length heads ≡ n → AreNothing heads → AreChains [] n heads []
chains_none n heads places are = record {
  places = places;
  size = refl;
  head = λ k m there.
      let none : m ≡ 0 = are k m there in
      record {
        before = omega (arith, none);
        there = λ j call is there. absurd (omega (arith, none, is));
        none_later = λ j call ge l there. absurd (omega (arith, l));
      };
  link = λ i call there. absurd (none_some call there);
}

-- one place more, with no call
pub nothing_more : (heads : List ℕ) → AreNothing heads → AreNothing (heads ++ 0 ∷ [])
nothing_more [] none zero m at = sym (from_some 0 m at)
nothing_more [] none (suc k) m at = absurd (none_some m at)
nothing_more (head ∷ heads) none zero m at = none zero m at
nothing_more (head ∷ heads) none (suc k) m at = nothing_more heads (λ i n there. none (suc i) n there) k m at
