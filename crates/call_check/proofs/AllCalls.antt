-- The calls of all lists.
use Rattle.std.proofs.Common.{◌≡◌, ℕ, zero, suc, ◌+◌, ◌-◌, ◌<◌, ◌≤◌, ◌==◌, false, List, [], ◌∷◌, ◌++◌, length, get_or, take, Some, All, refl, sym, ap, subst, ◌∙◌, arith, ⊎_elim, append-nil, append_assoc, length-append, length-take-le}
use Rattle.std.proofs.lemmas.Bool.{cases_lt}
use Rattle.std.proofs.lemmas.List.{length-map, map-append, take_more}
use Rattle.std.proofs.lemmas.List.Elements.{All-append, All-cons, All-head, All-nil, All-tail}
use Rattle.std.proofs.lemmas.Option.{slice_get_read, slice_get_within}
use Rattle.std.specs.Global.{Vec}
use Rattle.std.specs.List.{slice_get}
use Rattle.plain_store.specs.{Setup}
use Rattle.call_check.specs.{AreFew, ArePart, Call, IsFew, all_calls, all_calls_from, calls_from}
use Rattle.model.specs.{Placed, lists_of}
use Rattle.call_check.proofs.CallNotes.{from_some, none_some}
use Rattle.call_check.proofs.Places.{get_back, get_front}

-- one call more, and one list more

pub calls_snoc : (p i j : ℕ) (list : List Placed) (placed : Placed) → j ≡ i + length list → calls_from p i (list ++ placed ∷ []) ≡ calls_from p i list ++ record { placed = placed; port = p; index = j } ∷ []
calls_snoc p i j [] placed at = let here : i ≡ j = omega (arith, at) in ap (λ m. record { placed = placed; port = p; index = m } ∷ []) here
calls_snoc p i j (x ∷ xs) placed at = ap (λ (l : List Call). record { placed = x; port = p; index = i } ∷ l) (calls_snoc p (suc i) j xs placed (omega (arith, at)))

pub all_snoc : (p q : ℕ) (lists : List (List Placed)) (list : List Placed) → q ≡ p + length lists → all_calls_from p (lists ++ list ∷ []) ≡ all_calls_from p lists ++ calls_from q 0 list
all_snoc p q [] list at = let here : p ≡ q = omega (arith, at) in append-nil (calls_from p 0 list) ∙ ap (λ m. calls_from m 0 list) here
all_snoc p q (x ∷ xs) list at = ap (λ (l : List Call). calls_from p 0 x ++ l) (all_snoc (suc p) q xs list (omega (arith, at))) ∙ sym (append_assoc (calls_from p 0 x) (all_calls_from (suc p) xs) (calls_from q 0 list))

pub length-calls_from : (p i : ℕ) (list : List Placed) → length (calls_from p i list) ≡ length list
length-calls_from p i [] = refl
length-calls_from p i (x ∷ xs) = ap suc (length-calls_from p (suc i) xs)

-- one call of a list more, and one list more

pub calls_more : (p i : ℕ) (list : List Placed) (placed : Placed) → i < length list → placed ≡ get_or list i placed → calls_from p 0 (take (i + 1) list) ≡ calls_from p 0 (take i list) ++ record { placed = placed; port = p; index = i } ∷ []
calls_more p i list placed within at =
    let size : length (take i list) ≡ i = length-take-le i list (omega (arith, within)) in
    ap (calls_from p 0) (take_more list i placed within ∙ ap (λ (x : Placed). take i list ++ x ∷ []) (sym at)) ∙ calls_snoc p 0 i (take i list) placed (omega (arith, size))

pub all_more : (vecs : List (Vec Placed)) (i : ℕ) (v : Vec Placed) → i < length vecs → v ≡ get_or vecs i v → all_calls (lists_of (take (i + 1) vecs)) ≡ all_calls (lists_of (take i vecs)) ++ calls_from i 0 v.items
all_more vecs i v within at =
    let size : length (take i vecs) ≡ i = length-take-le i vecs (omega (arith, within)) in
    let lists : length (lists_of (take i vecs)) ≡ length (take i vecs) = length-map (take i vecs) (λ (w : Vec Placed). w.items) in
    ap (λ (l : List (Vec Placed)). all_calls (lists_of l)) (take_more vecs i v within ∙ ap (λ (x : Vec Placed). take i vecs ++ x ∷ []) (sym at))
    ∙ ap all_calls (map-append (λ (w : Vec Placed). w.items) (take i vecs) (v ∷ []))
    ∙ all_snoc 0 i (lists_of (take i vecs)) v.items (omega (arith, size, lists))

-- few lists of few calls have few calls

calls_few : (s : Setup) (p i : ℕ) (list : List Placed) → ((s.version == 1) ≡ false → (p < 16) × (i + length list ≤ 65535)) → All (IsFew s) (calls_from p i list)
calls_few s p i [] few = All-nil (IsFew s)
calls_few s p i (x ∷ xs) few = All-cons (IsFew s) (record { placed = x; port = p; index = i }) (calls_from p (suc i) xs)
    (λ two. let most : i + length (x ∷ xs) ≤ 65535 = (few two).1 in ((few two).0, omega (arith, most)))
    (calls_few s p (suc i) xs (λ two. let most : i + length (x ∷ xs) ≤ 65535 = (few two).1 in ((few two).0, omega (arith, most))))

pub all_few : (s : Setup) (p : ℕ) (lists : List (List Placed)) → ((s.version == 1) ≡ false → (p + length lists ≤ 16) × All (λ (list : List Placed). length list ≤ 65535) lists) → AreFew s (all_calls_from p lists)
all_few s p [] few = All-nil (IsFew s)
all_few s p (x ∷ xs) few = All-append (IsFew s) (calls_from p 0 x) (all_calls_from (suc p) xs)
    (calls_few s p 0 x (λ two.
    let lists : p + length (x ∷ xs) ≤ 16 = (few two).0 in
    let own : length x ≤ 65535 = All-head (λ (list : List Placed). length list ≤ 65535) x xs (few two).1 in
    (omega (arith, lists), omega (arith, own))))
    (all_few s (suc p) xs (λ two.
    let lists : p + length (x ∷ xs) ≤ 16 = (few two).0 in
    (omega (arith, lists), All-tail (λ (list : List Placed). length list ≤ 65535) x xs (few two).1)))

-- the positions of the calls

-- the call is in the lists, the first of which is list p
pub record IsThere (p : ℕ) (vecs : List (Vec Placed)) (call : Call) : Type 0 where
  pub q : ℕ
  pub port : call.port ≡ p + q
  pub list : Vec Placed
  pub list_there : slice_get vecs q ≡ Some list
  pub there : slice_get list.items call.index ≡ Some call.placed

-- call j of a list
pub record IsIn (p i j : ℕ) (list : List Placed) (call : Call) : Type 0 where
  pub port : call.port ≡ p
  pub index : call.index ≡ i + j
  pub there : slice_get list j ≡ Some call.placed

in_list : (p i j : ℕ) (list : List Placed) (call : Call) → slice_get (calls_from p i list) j ≡ Some call → IsIn p i j list call
in_list p i j [] call there = absurd (none_some call there)
in_list p i zero (x ∷ xs) call there =
    let same : (record { placed = x; port = p; index = i }) ≡ call = from_some (record { placed = x; port = p; index = i }) call there in
    let at : i ≡ call.index = ap (λ (y : Call). y.index) same in
    record {
      port = sym (ap (λ (y : Call). y.port) same);
      index = omega (arith, at);
      there = ap (λ (y : Call). Some y.placed) same;
    }
in_list p i (suc j) (x ∷ xs) call there =
    let rest : IsIn p (suc i) j xs call = in_list p (suc i) j xs call there in
    let at : call.index ≡ suc i + j = rest.index in
    record { port = rest.port; index = omega (arith, at); there = rest.there }

pub there_in : (p j : ℕ) (vecs : List (Vec Placed)) (call : Call) → slice_get (all_calls_from p (lists_of vecs)) j ≡ Some call → IsThere p vecs call
there_in p j [] call there = absurd (none_some call there)
there_in p j (v ∷ vs) call there = ⊎_elim
    (λ (own : j < length (calls_from p 0 v.items)).
    let is : IsIn p 0 j v.items call = in_list p 0 j v.items call (sym (get_front (calls_from p 0 v.items) (all_calls_from (suc p) (lists_of vs)) j own) ∙ there) in
    let port : call.port ≡ p = is.port in
    let index : call.index ≡ j = (let e : call.index ≡ 0 + j = is.index in omega (arith, e)) in
    record {
      q = 0;
      port = omega (arith, port);
      list = v;
      list_there = refl;
      there = subst (λ m. slice_get v.items m ≡ Some call.placed) (sym index) is.there;
    })
    (λ (past : length (calls_from p 0 v.items) ≤ j).
    let split : length (calls_from p 0 v.items) + (j - length (calls_from p 0 v.items)) ≡ j = omega (arith, past) in
    let later : slice_get (all_calls_from (suc p) (lists_of vs)) (j - length (calls_from p 0 v.items)) ≡ Some call =
    sym (get_back (calls_from p 0 v.items) (all_calls_from (suc p) (lists_of vs)) (j - length (calls_from p 0 v.items)))
    ∙ subst (λ m. slice_get (calls_from p 0 v.items ++ all_calls_from (suc p) (lists_of vs)) m ≡ Some call) (sym split) there in
    let rest : IsThere (suc p) vs call = there_in (suc p) (j - length (calls_from p 0 v.items)) vs call later in
    let port : call.port ≡ suc p + rest.q = rest.port in
    record { q = suc rest.q; port = omega (arith, port); list = rest.list; list_there = rest.list_there; there = rest.there })
    (cases_lt j (length (calls_from p 0 v.items)))

-- the calls of list q, which follow those of the lists before it

list_calls : (p b i : ℕ) (list : List Placed) (placed : Placed) → slice_get list i ≡ Some placed → slice_get (calls_from p b list) i ≡ Some (record { placed = placed; port = p; index = b + i })
list_calls p b i [] placed there = absurd (none_some placed there)
list_calls p b zero (x ∷ xs) placed there =
    let same : x ≡ placed = from_some x placed there in
    let at : b ≡ b + 0 = omega arith in
    ap (λ (y : Placed). Some (record { placed = y; port = p; index = b })) same ∙ ap (λ m. Some (record { placed = placed; port = p; index = m })) at
list_calls p b (suc i) (x ∷ xs) placed there =
    let at : suc b + i ≡ b + suc i = omega arith in
    list_calls p (suc b) i xs placed there ∙ ap (λ m. Some (record { placed = placed; port = p; index = m })) at

pub calls_there : (p q : ℕ) (vecs : List (Vec Placed)) (v : Vec Placed) (i : ℕ) (placed : Placed) → slice_get vecs q ≡ Some v → slice_get v.items i ≡ Some placed → slice_get (all_calls_from p (lists_of vecs)) (length (all_calls_from p (lists_of (take q vecs))) + i) ≡ Some (record { placed = placed; port = p + q; index = i })
calls_there p q [] v i placed there own = absurd (none_some v there)
calls_there p zero (x ∷ xs) v i placed there own =
    let same : x ≡ v = from_some x v there in
    let own_x : slice_get x.items i ≡ Some placed = subst (λ (y : Vec Placed). slice_get y.items i ≡ Some placed) (sym same) own in
    let within : i < length x.items = slice_get_within x.items i placed own_x in
    let size : length (calls_from p 0 x.items) ≡ length x.items = length-calls_from p 0 x.items in
    let at : p ≡ p + 0 = omega arith in
    let none : 0 + i ≡ i = omega arith in
    ap (slice_get (calls_from p 0 x.items ++ all_calls_from (suc p) (lists_of xs))) none ∙ get_front (calls_from p 0 x.items) (all_calls_from (suc p) (lists_of xs)) i (omega (arith, within, size)) ∙ list_calls p 0 i x.items placed own_x
    ∙ ap (λ m. Some (record { placed = placed; port = p; index = m })) none
    ∙ ap (λ m. Some (record { placed = placed; port = m; index = i })) at
calls_there p (suc q) (x ∷ xs) v i placed there own =
    let at : suc p + q ≡ p + suc q = omega arith in
    let size : length (calls_from p 0 x.items ++ all_calls_from (suc p) (lists_of (take q xs))) ≡ length (calls_from p 0 x.items) + length (all_calls_from (suc p) (lists_of (take q xs))) = length-append (calls_from p 0 x.items) (all_calls_from (suc p) (lists_of (take q xs))) in
    let split : length (calls_from p 0 x.items ++ all_calls_from (suc p) (lists_of (take q xs))) + i ≡ length (calls_from p 0 x.items) + (length (all_calls_from (suc p) (lists_of (take q xs))) + i) = omega (arith, size) in
    ap (slice_get (calls_from p 0 x.items ++ all_calls_from (suc p) (lists_of xs))) split
    ∙ get_back (calls_from p 0 x.items) (all_calls_from (suc p) (lists_of xs)) (length (all_calls_from (suc p) (lists_of (take q xs))) + i)
    ∙ calls_there (suc p) q xs v i placed there own
    ∙ ap (λ m. Some (record { placed = placed; port = m; index = i })) at

-- the lists up to this one have no more calls than all
pub calls_within : (p q : ℕ) (vecs : List (Vec Placed)) → length (all_calls_from p (lists_of (take q vecs))) ≤ length (all_calls_from p (lists_of vecs))
calls_within p q [] = elim q as (λ q. length (all_calls_from p (lists_of (take q []))) ≤ 0) [ zero ↦ omega arith | suc q ↦ omega arith ]
calls_within p zero (x ∷ xs) = omega arith
calls_within p (suc q) (x ∷ xs) =
    let rest : length (all_calls_from (suc p) (lists_of (take q xs))) ≤ length (all_calls_from (suc p) (lists_of xs)) = calls_within (suc p) q xs in
    let front = length-append (calls_from p 0 x.items) (all_calls_from (suc p) (lists_of (take q xs))) in
    let all = length-append (calls_from p 0 x.items) (all_calls_from (suc p) (lists_of xs)) in
    omega (arith, rest, front, all)

-- the calls of the lists before list p, and those of that list

pub part_there : (vecs : List (Vec Placed)) (p before : ℕ) (v : Vec Placed) → before ≡ length (all_calls (lists_of (take p vecs))) → p < length vecs → v ≡ get_or vecs p v → ArePart (all_calls (lists_of vecs)) p before v.items
part_there vecs p before v before_is within at i placed there =
    let zero_more : 0 + p ≡ p = omega arith in
    let list_there : slice_get vecs p ≡ Some v = slice_get_read vecs (length vecs) p v refl within at in
    subst (λ m. slice_get (all_calls (lists_of vecs)) (m + i) ≡ Some (record { placed = placed; port = p; index = i })) (sym before_is)
    (calls_there 0 p vecs v i placed list_there there ∙ ap (λ m. Some (record { placed = placed; port = m; index = i })) zero_more)

pub before_more : (vecs : List (Vec Placed)) (p before : ℕ) (v : Vec Placed) → before ≡ length (all_calls (lists_of (take p vecs))) → p < length vecs → v ≡ get_or vecs p v → before + length v.items ≡ length (all_calls (lists_of (take (p + 1) vecs)))
before_more vecs p before v before_is within at =
    let all : length (all_calls (lists_of (take (p + 1) vecs))) ≡ length (all_calls (lists_of (take p vecs)) ++ calls_from p 0 v.items) = ap length (all_more vecs p v within at) in
    let both : length (all_calls (lists_of (take p vecs)) ++ calls_from p 0 v.items) ≡ length (all_calls (lists_of (take p vecs))) + length (calls_from p 0 v.items) = length-append (all_calls (lists_of (take p vecs))) (calls_from p 0 v.items) in
    let own : length (calls_from p 0 v.items) ≡ length v.items = length-calls_from p 0 v.items in
    omega (arith, all, both, own, before_is)

pub before_within : (vecs : List (Vec Placed)) (p before : ℕ) (v : Vec Placed) → before ≡ length (all_calls (lists_of (take p vecs))) → p < length vecs → v ≡ get_or vecs p v → before + length v.items ≤ length (all_calls (lists_of vecs))
before_within vecs p before v before_is within at =
    let more : before + length v.items ≡ length (all_calls (lists_of (take (p + 1) vecs))) = before_more vecs p before v before_is within at in
    let most : length (all_calls (lists_of (take (p + 1) vecs))) ≤ length (all_calls (lists_of vecs)) = calls_within 0 (p + 1) vecs in
    omega (arith, more, most)
