-- The queue of processes, and some of them as a group.
use Rattle.std.proofs.Common.{◌≡◌, ℕ, zero, suc, ◌+◌, ◌<◌, min, Bool, true, false, ◌==◌, cond, List, [], ◌∷◌, ◌++◌, length, get_or, set, take, refl, ap, sym, ◌∙◌, arith}
use Rattle.std.proofs.lemmas.List.{length-append, set_past}
use Rattle.picture_layout.specs.{ProcessGroup, State, group_of, line_of_first, lined_up, places_from, ticket_in}

-- the queue of one more process
pub line_more : (state : State) (p : ℕ) → line_of_first state (p + 1) ≡ cond (ticket_in state p == 0) (line_of_first state p) (lined_up state p (line_of_first state p))
line_more state p = ap (line_of_first state) (let e : p + 1 ≡ suc p = omega arith in e)

-- one more process of a group: it is among the first three, or it is only counted
group_first : (some : List ℕ) (p : ℕ) → set (take 3 (some ++ 0 ∷ 0 ∷ 0 ∷ [])) (min (length some) 255) p ≡ take 3 ((some ++ p ∷ []) ++ 0 ∷ 0 ∷ 0 ∷ [])
group_first [] p = refl
group_first (a ∷ []) p = refl
group_first (a ∷ b ∷ []) p = refl
group_first (a ∷ b ∷ c ∷ more) p = set_past (a ∷ b ∷ c ∷ []) (min (length (a ∷ b ∷ c ∷ more)) 255) p (omega arith)

pub group_with : (some : List ℕ) (p : ℕ) (group : ProcessGroup) (count : ℕ) (first : List ℕ) → group ≡ group_of some → count ≡ min (group.count + 1) 255 → first ≡ set group.first group.count p →
    ◌≡◌ {A = ProcessGroup} (record { count = count; first = first }) (group_of (some ++ p ∷ []))
group_with some p group count first are counted is = λ i. record {
  count = (counted ∙ ap (λ (g : ProcessGroup). min (g.count + 1) 255) are ∙ more) i;
  first = (is ∙ ap (λ (g : ProcessGroup). set g.first g.count p) are ∙ group_first some p) i;
}
  where
    more : min (min (length some) 255 + 1) 255 ≡ min (length (some ++ p ∷ [])) 255
    more = let longer = length-append some (p ∷ []) in omega (arith, longer)

-- the indexes at which a list is true, with one more item
places_more : (j k : ℕ) (said : List Bool) (d : Bool) → k < length said → places_from j (take (suc k) said) ≡ places_from j (take k said) ++ cond (get_or said k d) ((j + k) ∷ []) []
places_more j k [] d within = absurd (omega (arith, within))
places_more j zero (true ∷ said) d within = ap (λ n. n ∷ []) (let e : j ≡ j + 0 = omega arith in e)
places_more j zero (false ∷ said) d within = refl
places_more j (suc k) (true ∷ said) d within = ap (λ l. j ∷ l) (places_more (j + 1) k said d (omega (arith, within)) ∙ ap (λ n. places_from (j + 1) (take k said) ++ cond (get_or said k d) (n ∷ []) []) (let e : j + 1 + k ≡ j + suc k = omega arith in e))
places_more j (suc k) (false ∷ said) d within = places_more (j + 1) k said d (omega (arith, within)) ∙ ap (λ n. places_from (j + 1) (take k said) ++ cond (get_or said k d) (n ∷ []) []) (let e : j + 1 + k ≡ j + suc k = omega arith in e)

pub said_more : (k j : ℕ) (said : List Bool) (d : Bool) → k < length said → j ≡ k → places_from 0 (take k said) ++ cond (get_or said j d) (k ∷ []) [] ≡ places_from 0 (take (k + 1) said)
said_more k j said d within same =
    ap (λ n. places_from 0 (take k said) ++ cond (get_or said n d) (k ∷ []) []) same
    ∙ ap (λ n. places_from 0 (take k said) ++ cond (get_or said k d) (n ∷ []) []) (let e : k ≡ 0 + k = omega arith in e)
    ∙ sym (places_more 0 k said d within)
    ∙ ap (λ n. places_from 0 (take n said)) (let e : suc k ≡ k + 1 = omega arith in e)
