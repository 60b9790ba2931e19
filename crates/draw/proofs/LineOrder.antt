-- The line of tickets in a picture is ordered: each process before another has a lower ticket, or the same ticket and a lower number.
use Rattle.std.proofs.Common.{◌≡◌, ◌≢◌, ◌⊎◌, inl, inr, ◌<◌, ◌≤◌, ℕ, zero, suc, ◌==◌, nat_le, Bool, true, false, cond, List, [], ◌∷◌, Contains, refl, ap, sym, subst, ◌∙◌, arith}
use Rattle.std.specs.List.{AllByRecursion}
use Rattle.std.proofs.lemmas.Bool.{cases_eq, eqb-false, leb-false, leb-true, ne_eqb}
use Rattle.picture.specs.picture_layout.{State, before_in, line_of_first, lined_up, ticket_in}

-- x has the lower ticket; or the same one, and the lower number
abbrev pub Below : State → ℕ → ℕ → Type 0
Below state x y = (ticket_in state x < ticket_in state y) ⊎ ((ticket_in state x ≡ ticket_in state y) × (x < y))

-- each is below all that come after it
abbrev Ordered : State → List ℕ → Type 0
Ordered state [] = Unit {0}
Ordered state (x ∷ xs) = AllByRecursion (Below state x) xs × Ordered state xs

abbrev IsIn : ℕ → List ℕ → Type 0
IsIn p [] = ⊥
IsIn p (x ∷ xs) = (x ≡ p) ⊎ IsIn p xs

-- Lists.

each : (P Q : ℕ → Type 0) → ((x : ℕ) → P x → Q x) → (xs : List ℕ) → AllByRecursion P xs → AllByRecursion Q xs
each P Q f [] h = tt
each P Q f (x ∷ xs) h = (f x h.0, each P Q f xs h.1)

each_in : (P : ℕ → Type 0) (xs : List ℕ) (p : ℕ) → AllByRecursion P xs → IsIn p xs → P p
each_in P [] p h is = absurd is
each_in P (x ∷ xs) p h (inl same) = subst P same h.0
each_in P (x ∷ xs) p h (inr later) = each_in P xs p h.1 later

each_contained : (P : ℕ → Type 0) (xs : List ℕ) (q : ℕ) → AllByRecursion P xs → Contains xs q → P q
each_contained P [] q h (k, l, e) = absurd (omega (arith, l))
each_contained P (x ∷ xs) q h (zero, l, e) = subst P e h.0
each_contained P (x ∷ xs) q h (suc k, l, e) = each_contained P xs q h.1 (k, omega (arith, l), e)

-- One more process in line.

-- it comes after a process whose ticket is not above its own and whose number is lower
behind : (state : State) (x p : ℕ) → ticket_in state x ≤ ticket_in state p → x < p → Below state x p
behind state x p upto lower = elim (cases_eq (ticket_in state x) (ticket_in state p)) [ inl same ↦ inr (same, lower) | inr other ↦ inl (omega (arith, upto, other)) ]

-- if it comes before a process with a higher ticket, it comes before all after that process
beyond : (state : State) (p x y : ℕ) → ticket_in state p < ticket_in state x → Below state x y → Below state p y
beyond state p x y above (inl lower) = inl (omega (arith, above, lower))
beyond state p x y above (inr (same, lower)) = inl (omega (arith, above, same))

lined_each : (P : ℕ → Type 0) (state : State) (p : ℕ) (line : List ℕ) → P p → AllByRecursion P line → AllByRecursion P (lined_up state p line)
lined_each P state p [] is h = (is, tt)
lined_each P state p (x ∷ line) is h = go (nat_le (ticket_in state x) (ticket_in state p)) (lined_each P state p line is h.1)
  where
    go : (b : Bool) → AllByRecursion P (lined_up state p line) → AllByRecursion P (cond b (x ∷ lined_up state p line) (p ∷ x ∷ line))
    go true rest = (h.0, rest)
    go false rest = (is, h)

lined_ordered : (state : State) (p : ℕ) (line : List ℕ) → AllByRecursion (λ x. x < p) line → Ordered state line → Ordered state (lined_up state p line)
lined_ordered state p [] lower h = (tt, tt)
lined_ordered state p (x ∷ line) lower h = go (nat_le (ticket_in state x) (ticket_in state p)) refl (lined_ordered state p line lower.1 h.1)
  where
    go : (b : Bool) → nat_le (ticket_in state x) (ticket_in state p) ≡ b → Ordered state (lined_up state p line) → Ordered state (cond b (x ∷ lined_up state p line) (p ∷ x ∷ line))
    go true is rest = (lined_each (Below state x) state p line (behind state x p (leb-true (ticket_in state x) (ticket_in state p) is) lower.0) h.0, rest)
    go false is rest =
        let above : ticket_in state p < ticket_in state x = leb-false (ticket_in state x) (ticket_in state p) is in
        ((inl above, each (Below state x) (Below state p) (λ y. beyond state p x y above) line h.0), h)

lined_new : (state : State) (p : ℕ) (line : List ℕ) → IsIn p (lined_up state p line)
lined_new state p [] = inl refl
lined_new state p (x ∷ line) = go (nat_le (ticket_in state x) (ticket_in state p)) (lined_new state p line)
  where
    go : (b : Bool) → IsIn p (lined_up state p line) → IsIn p (cond b (x ∷ lined_up state p line) (p ∷ x ∷ line))
    go true rest = inr rest
    go false rest = inl refl

lined_old : (state : State) (p q : ℕ) (line : List ℕ) → IsIn q line → IsIn q (lined_up state p line)
lined_old state p q [] h = absurd h
lined_old state p q (x ∷ line) h = go (nat_le (ticket_in state x) (ticket_in state p)) h (lined_old state p q line)
  where
    go : (b : Bool) → IsIn q (x ∷ line) → (IsIn q line → IsIn q (lined_up state p line)) → IsIn q (cond b (x ∷ lined_up state p line) (p ∷ x ∷ line))
    go true (inl same) rest = inl same
    go true (inr later) rest = inr (rest later)
    go false h rest = inr h

-- All processes in line.

-- one of the first n processes, with a ticket
abbrev pub HasTicket : State → ℕ → ℕ → Type 0
HasTicket state n x = (x < n) × (ticket_in state x ≢ 0)

line_is : (state : State) (n : ℕ) → AllByRecursion (HasTicket state n) (line_of_first state n) × Ordered state (line_of_first state n)
line_is state zero = (tt, tt)
line_is state (suc n) = go (ticket_in state n == 0) refl (line_is state n)
  where
    line : List ℕ
    line = line_of_first state n

    more : AllByRecursion (HasTicket state n) line → AllByRecursion (HasTicket state (suc n)) line
    more = each (HasTicket state n) (HasTicket state (suc n)) (λ x h. let l = h.0 in (omega (arith, l), h.1)) line

    go : (b : Bool) → (ticket_in state n == 0) ≡ b → AllByRecursion (HasTicket state n) line × Ordered state line → AllByRecursion (HasTicket state (suc n)) (cond b line (lined_up state n line)) × Ordered state (cond b line (lined_up state n line))
    go true is before = (more before.0, before.1)
    go false is before = (
      lined_each (HasTicket state (suc n)) state n line (omega arith, eqb-false (ticket_in state n) 0 is) (more before.0),
      lined_ordered state n line (each (HasTicket state n) (λ x. x < n) (λ x h. h.0) line before.0) before.1,
    )

line_has : (state : State) (n p : ℕ) → p < n → ticket_in state p ≢ 0 → IsIn p (line_of_first state n)
line_has state zero p is_process holds = absurd (omega (arith, is_process))
line_has state (suc n) p is_process holds = by (cases_eq p n) (λ lower. line_has state n p lower holds)
  where
    line : List ℕ
    line = line_of_first state n

    go : (b : Bool) → IsIn p line → IsIn p (cond b line (lined_up state n line))
    go true is = is
    go false is = lined_old state n p line is

    by : ((p ≡ n) ⊎ (p ≡ n → ⊥)) → (p < n → IsIn p line) → IsIn p (cond (ticket_in state n == 0) line (lined_up state n line))
    by (inl same) rest = subst (λ b. IsIn p (cond b line (lined_up state n line))) (sym (ne_eqb (ticket_in state n) 0 (λ none. holds (ap (ticket_in state) same ∙ none))))
        (subst (λ x. IsIn x (lined_up state n line)) (sym same) (lined_new state n line))
    by (inr other) rest = go (ticket_in state n == 0) (rest (omega (arith, is_process, other)))

-- each process before p in the line has the property P and is below p
before_is : (P : ℕ → Type 0) (state : State) (p : ℕ) (line : List ℕ) → AllByRecursion P line → Ordered state line → IsIn p line → AllByRecursion (λ q. P q × Below state q p) (before_in p line)
before_is P state p [] all h is = tt
before_is P state p (x ∷ line) all h is = go (x == p) refl is (before_is P state p line all.1 h.1)
  where
    go : (b : Bool) → (x == p) ≡ b → IsIn p (x ∷ line) → (IsIn p line → AllByRecursion (λ q. P q × Below state q p) (before_in p line)) → AllByRecursion (λ q. P q × Below state q p) (cond b [] (x ∷ before_in p line))
    go true same is rest = tt
    go false other (inl same) rest = absurd (eqb-false x p other same)
    go false other (inr later) rest = ((all.0, each_in (Below state x) line p h.0 later), rest later)

pub comes_before_in_line : (state : State) (n p : ℕ) → p < n → ticket_in state p ≢ 0 → (q : ℕ) → Contains (before_in p (line_of_first state n)) q → HasTicket state n q × Below state q p
comes_before_in_line state n p is_process holds q before = each_contained (λ q. HasTicket state n q × Below state q p) (before_in p (line_of_first state n)) q
    (before_is (HasTicket state n) state p (line_of_first state n) (line_is state n).0 (line_is state n).1 (line_has state n p is_process holds)) before
