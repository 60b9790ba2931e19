-- The first seat, and seats that are made and joined.
use Rattle.std.proofs.Common.{◌≡◌, ◌≢◌, ◌⊎◌, ◌==◌, ℕ, zero, suc, ◌<◌, true, false, List, [], ◌∷◌, ◌++◌, length, set, refl, sym, ap, ◌∙◌, subst, inl, inr, ⊎_elim, arith}
use Rattle.std.specs.Prelude.{slice_index, Ok}
use mathlib.Core.Option.{some, some-injective, some-ne-none}
use lib.ListN.{get_elem?}
use Rattle.atomic_table.proofs.Lists.{at_set, at_snoc, set_else, at_longer}
use Rattle.atomic_table.specs.Table.{State, Splits, Joins}
use Rattle.model.specs.safe_bit.declared.Move.TheVariants.{BeginRead}
use Rattle.model.specs.{Access, Entry, Event, Past, call_number, last_command, opening_bit, own, past_of}
use Rattle.model.specs.declared.access.Field.TheVariants.{Choosing}
use Rattle.plain_store.specs.{Setup, are_pairs, checked}
use Rattle.model.proofs.Width.{is_good}
use Rattle.laws.specs.{IsThere, Rests, doing}
use Rattle.process.specs.registers.{BitCopy}
use Rattle.board.specs.{Agree, IsIn, IsQuiet, Knows, KnowsSeats, OwnView, Shows, ViewState, access_to, calls_of, changes_of, closed_word, entries_of, first_view, new_own, new_view, no_calls, opening_word, own_view, spent_view, with_joined, with_made, word_of, words_in}
use Rattle.board.proofs.WordNumbers.{copy_of_word, word_below}
use Rattle.board.proofs.Along.{set_at, was_view}

abbrev Holds : Setup → State (Unit {0}) ViewState → Type 0
Holds s t = Agree s t.words t.views

-- A process without entries has done nothing.

off : (p : ℕ) (e : Entry) (past : Past) → own p (e ∷ past) ≡ [] → ((e.process == p) ≡ false) × (own p past ≡ [])
off p e past h = grind arith

no_doing : (s : Setup) (p : ℕ) (past : Past) → own p past ≡ [] → doing s p past ≡ Rests
no_doing s p [] h = refl
no_doing s p (e ∷ past) h = let o = off p e past h in rw o.0 (no_doing s p past o.1)

none_called : (s : Setup) (p : ℕ) (past : Past) → own p past ≡ [] → calls_of s p past ≡ no_calls
none_called s p [] h = refl
none_called s p (e ∷ past) h = let o = off p e past h in rw o.0 (none_called s p past o.1)

none_made : (s : Setup) (p : ℕ) (past : Past) → own p past ≡ [] → entries_of s p past ≡ []
none_made s p [] h = refl
none_made s p (e ∷ past) h = let o = off p e past h in rw o.0 (none_made s p past o.1)

no_number : (s : Setup) → call_number s [] ≡ 0
no_number s = grind arith

-- the view of a process without entries
nothing_known : (s : Setup) (p : ℕ) (past : Past) → own p past ≡ [] → own_view s past p ≡ new_own p
nothing_known s p past h = λ i. record {
  process = p;
  entries = none_made s p past h i;
  doing = no_doing s p past h i;
  command = ap last_command h i;
  number = (ap (call_number s) h ∙ no_number s) i;
  calls = none_called s p past h i;
}

-- The first seat.

only : (i : ℕ) (v : ViewState) → get_elem? (first_view ∷ []) i ≡ some v → (i ≡ 0) × (first_view ≡ v)
only zero v e = (refl, some-injective first_view v e)
only (suc i) v e = absurd (some-ne-none v (sym e))

-- the opening words show the opening bits
opens : (s : Setup) (a : Access) → IsThere s a → opening_word s (word_of s a) ≡ closed_word (opening_bit s a)
opens s a there = ap (λ (c : BitCopy). closed_word (opening_bit s (access_to c))) (copy_of_word s a there)

-- the opening words agree with the view of the first seat alone
pub starts : (s : Setup) (words : List ℕ) → checked s ≡ Ok tt → are_pairs s.opening ≡ true → 0 < s.processes → length words ≡ words_in s → ((word : ℕ) → word < words_in s → slice_index words word ≡ opening_word s word) → Agree s words (first_view ∷ [])
starts s words good pairs some_ size is = (
  [],
  record {
    good = good;
    given = record { opening = pairs; commands = refl };
    size = size;
    bits = λ a there. is (word_of s a) (word_below s a there) ∙ opens s a there;
    known = λ i v e live. subst (Knows s []) (only i v e).1 (record { below = some_; own = sym (nothing_known s 0 [] refl); seen = (changes_of s [], refl); inside = λ h. refl });
    apart = λ i j v w a b _ _ _. (only i v a).0 ∙ sym (only j w b).0;
    seats = (
      first_view,
      record {
        at = refl;
        live = refl;
        process = refl;
        made = omega arith;
        others = λ i w e _. let number : 0 ≡ w.own.process = ap (λ (v : ViewState). v.own.process) (only i w e).1 in (omega arith, λ h. h);
        joined = λ p h. absurd h;
        unmade = λ p _. refl;
      },
    );
  },
  refl,
)

-- Seats that are made and joined.

-- only port 0's seat has the number 0, and it knows the seats
pub is_first : (s : Setup) (events : List Event) (words : List ℕ) (views : List ViewState) (f : Shows s events words views) (id : ℕ) (v : ViewState) → get_elem? views id ≡ some v → v.spent ≡ false → v.own.process ≡ 0 → (id ≡ 0) × KnowsSeats s (past_of s events) views v
is_first s events words views f id v at live zero_ =
    let first = f.seats.1 in
    let here : id ≡ 0 = f.apart id 0 v f.seats.0 at first.at live first.live (zero_ ∙ sym first.process) in
    (here, subst (KnowsSeats s (past_of s events) views) (some-injective f.seats.0 v (sym first.at ∙ (ap (λ (k : ℕ). get_elem? views k) (sym here) ∙ at))) first)

at_snoc_from : {A : Type 0} (l : List A) (a b : A) (j : ℕ) → get_elem? (l ++ a ∷ []) j ≡ some b → (get_elem? l j ≡ some b) ⊎ ((j ≡ length l) × (a ≡ b))
at_snoc_from [] a b zero e = inr (refl, some-injective a b e)
at_snoc_from [] a b (suc j) e = absurd (some-ne-none b (sym e))
at_snoc_from (x ∷ xs) a b zero e = inl e
at_snoc_from (x ∷ xs) a b (suc j) e = ⊎_elim (λ h. inl h) (λ t. inr (ap suc t.0, t.1)) (at_snoc_from xs a b j e)

pub splits : (s : Setup) (id : ℕ) (v : ViewState) → v.spent ≡ false → v.own.process ≡ 0 → v.made < s.processes → v.joined ≡ [] → Splits (Holds s) id v (with_made v) (new_view v.made 0)
splits s id v live zero_ room none_back state agree at = (
  agree.0,
  record {
    good = f.good;
    given = f.given;
    size = f.size;
    bits = f.bits;
    known = λ i x e x_live. ⊎_elim (λ was. old i x was x_live) (λ (same : new_view v.made 0 ≡ x). subst (Knows s past) same fresh) (at_snoc (set state.views id (with_made v)) (new_view v.made 0) x i e);
    apart = λ i j x y ex ey lx ly is.
        ⊎_elim
        (λ a. let u = before i x a lx in ⊎_elim
        (λ b. let w = before j y b ly in f.apart i j u.0 w.0 u.1 w.1 u.2 w.2 (u.3 ∙ (is ∙ sym w.3)))
        (λ (b : (j ≡ length (set state.views id (with_made v))) × (new_view v.made 0 ≡ y)). let o = seats.others i u.0 u.1 u.2 in let number : v.made ≡ y.own.process = ap (λ (z : ViewState). z.own.process) b.1 in let of_u = u.3 in absurd (omega arith))
        (at_snoc_from (set state.views id (with_made v)) (new_view v.made 0) y j ey))
        (λ (a : (i ≡ length (set state.views id (with_made v))) × (new_view v.made 0 ≡ x)). ⊎_elim
        (λ b. let w = before j y b ly in let o = seats.others j w.0 w.1 w.2 in let number : v.made ≡ x.own.process = ap (λ (z : ViewState). z.own.process) a.1 in let of_w = w.3 in absurd (omega arith))
        (λ (b : (j ≡ length (set state.views id (with_made v))) × (new_view v.made 0 ≡ y)). a.0 ∙ sym b.0)
        (at_snoc_from (set state.views id (with_made v)) (new_view v.made 0) y j ey))
        (at_snoc_from (set state.views id (with_made v)) (new_view v.made 0) x i ex);
    seats = (
      with_made v,
      record {
        at = at_longer (set state.views id (with_made v)) (new_view v.made 0 ∷ []) 0 (with_made v) (subst (λ (k : ℕ). get_elem? (set state.views id (with_made v)) k ≡ some (with_made v)) first.0 (set_at state.views id v (with_made v) at));
        live = live;
        process = zero_;
        made = omega arith;
        others = λ i x ex lx. ⊎_elim
            (λ a. let u = before i x a lx in let o = seats.others i u.0 u.1 u.2 in let of_u = u.3 in (omega arith, λ has. subst (λ (js : List ℕ). IsIn x.own.process js) none_back has))
            (λ (a : (i ≡ length (set state.views id (with_made v))) × (new_view v.made 0 ≡ x)). let number : v.made ≡ x.own.process = ap (λ (z : ViewState). z.own.process) a.1 in (omega arith, λ has. subst (λ (js : List ℕ). IsIn x.own.process js) none_back has))
            (at_snoc_from (set state.views id (with_made v)) (new_view v.made 0) x i ex);
        joined = seats.joined;
        unmade = λ p h. seats.unmade p (omega arith);
      },
    );
  },
  agree.2,
)
  where
    f : Shows s agree.0 state.words state.views
    f = agree.1

    past : Past
    past = past_of s agree.0

    first : (id ≡ 0) × KnowsSeats s past state.views v
    first = is_first s agree.0 state.words state.views f id v at live zero_

    seats : KnowsSeats s past state.views v
    seats = first.1

    before : (i : ℕ) (x : ViewState) → get_elem? (set state.views id (with_made v)) i ≡ some x → x.spent ≡ false → (y : ViewState) × (get_elem? state.views i ≡ some y) × (y.spent ≡ false) × (y.own.process ≡ x.own.process)
    before = was_view state.views id v (with_made v) at refl refl

    old : (i : ℕ) (x : ViewState) → get_elem? (set state.views id (with_made v)) i ≡ some x → x.spent ≡ false → Knows s past x
    old i x e x_live = ⊎_elim
        (λ (t : (i ≡ id) × (with_made v ≡ x)). let k = f.known id v at live in subst (Knows s past) t.1 (record { below = k.below; own = k.own; seen = k.seen; inside = k.inside }))
        (λ (t : (i ≢ id) × (get_elem? state.views i ≡ some x)). f.known i x t.1 x_live)
        (at_set state.views id i (with_made v) x e)

    fresh : Knows s past (new_view v.made 0)
    fresh = record { below = room; own = sym (nothing_known s v.made past (seats.unmade v.made (omega arith))); seen = (changes_of s past, refl); inside = λ h. let f : false ≡ true = h in cc }

pub joins : (s : Setup) (id : ℕ) (v : ViewState) (other : ℕ) (w : ViewState) → v.spent ≡ false → v.own.process ≡ 0 → w.spent ≡ false → IsQuiet w.own.doing → Joins (Holds s) id v other w (with_joined v w) spent_view
joins s id v other w live zero_ w_live quiet state agree at ne at_w = (
  agree.0,
  record {
    good = f.good;
    given = f.given;
    size = f.size;
    bits = f.bits;
    known = λ i x e lx. let t = now i x e lx in ⊎_elim
        (λ (a : (i ≡ id) × (with_joined v w ≡ x)). let k = f.known id v at live in subst (Knows s past) a.1 (record { below = k.below; own = k.own; seen = k.seen; inside = k.inside }))
        (λ (a : (i ≢ id) × (get_elem? state.views i ≡ some x)). f.known i x a.1 lx)
        (at_set state.views id i (with_joined v w) x t.1);
    apart = λ i j x y ex ey lx ly is. let a = now i x ex lx in let b = now j y ey ly in let u = before i x a.1 lx in let z = before j y b.1 ly in f.apart i j u.0 z.0 u.1 z.1 u.2 z.2 (u.3 ∙ (is ∙ sym z.3));
    seats = (
      with_joined v w,
      record {
        at = set_else (set state.views id (with_joined v w)) other 0 spent_view (λ h. ne (sym h ∙ sym first.0)) ∙ subst (λ (k : ℕ). get_elem? (set state.views id (with_joined v w)) k ≡ some (with_joined v w)) first.0 (set_at state.views id v (with_joined v w) at);
        live = live;
        process = zero_;
        made = seats.made;
        others = λ i x ex lx. let a = now i x ex lx in let u = before i x a.1 lx in let o = seats.others i u.0 u.1 u.2 in (
          subst (λ (k : ℕ). k < v.made) u.3 o.0,
          λ has. ⊎_elim
              (λ (is : w.own.process ≡ x.own.process). a.0 (f.apart i other u.0 w u.1 at_other u.2 w_live (u.3 ∙ sym is)))
              (λ (m : IsIn x.own.process v.joined). o.1 (subst (λ p. IsIn p v.joined) (sym u.3) m)) has,
        );
        joined = λ p h. ⊎_elim
            (λ (is : w.own.process ≡ p). subst (λ (q : ℕ). IsQuiet (doing s q past)) is (subst IsQuiet (ap (λ (o : OwnView). o.doing) (f.known other w at_other w_live).own) quiet))
            (λ (m : IsIn p v.joined). seats.joined p m) h;
        unmade = seats.unmade;
      },
    );
  },
  agree.2,
)
  where
    f : Shows s agree.0 state.words state.views
    f = agree.1

    past : Past
    past = past_of s agree.0

    first : (id ≡ 0) × KnowsSeats s past state.views v
    first = is_first s agree.0 state.words state.views f id v at live zero_

    seats : KnowsSeats s past state.views v
    seats = first.1

    at_other : get_elem? state.views other ≡ some w
    at_other = sym (set_else state.views id other (with_joined v w) ne) ∙ at_w

    now : (i : ℕ) (x : ViewState) → get_elem? (set (set state.views id (with_joined v w)) other spent_view) i ≡ some x → x.spent ≡ false → (i ≢ other) × (get_elem? (set state.views id (with_joined v w)) i ≡ some x)
    now i x e lx = ⊎_elim
        (λ (t : (i ≡ other) × (spent_view ≡ x)). let off : true ≡ false = ap (λ (z : ViewState). z.spent) t.1 ∙ lx in absurd (cc))
        (λ t. t)
        (at_set (set state.views id (with_joined v w)) other i spent_view x e)

    before : (i : ℕ) (x : ViewState) → get_elem? (set state.views id (with_joined v w)) i ≡ some x → x.spent ≡ false → (y : ViewState) × (get_elem? state.views i ≡ some y) × (y.spent ≡ false) × (y.own.process ≡ x.own.process)
    before = was_view state.views id v (with_joined v w) at refl refl

-- a seat of the board is made after k others
pub splits_at : (key s : Setup) (id k : ℕ) (v : ViewState) → key ≡ s → v ≡ new_view 0 k → k < s.processes → Splits (Holds key) id v (with_made v) (new_view v.made 0)
splits_at key s id k v same is room = subst (λ (m : Setup). Splits (Holds m) id v (with_made v) (new_view v.made 0)) (sym same)
    (splits s id v (ap (λ (u : ViewState). u.spent) is) (ap (λ (u : ViewState). u.own.process) is) (let made : v.made ≡ k = ap (λ (u : ViewState). u.made) is in omega arith) (ap (λ (u : ViewState). u.joined) is))

-- there is at least one process
pub some_processes : (s : Setup) → checked s ≡ Ok tt → 0 < s.processes
some_processes s good = let is = (is_good s good).processes_is in omega arith

-- there is at least one word
pub some_words : (s : Setup) → 0 < s.processes → 0 < words_in s
some_words s h =
    let a : Access = record { owner = 0; field = Choosing; bit = 0; reader = 0; how = BeginRead } in
    let below : word_of s a < words_in s = word_below s a (record { owner = h; reader = h; bit = omega arith }) in
    omega arith
