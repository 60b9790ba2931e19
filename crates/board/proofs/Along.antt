-- An entry of one process leaves the views of the other seats.
use Rattle.std.proofs.Common.{◌≡◌, ◌≢◌, ℕ, zero, suc, ◌<◌, ◌≤◌, Bool, true, false, cond, List, [], ◌∷◌, ◌++◌, length, set, refl, sym, ap, ◌∙◌, subst, ⊎_elim, arith, append_assoc, ne_eqb, Option, Some, None}
use Rattle.std.specs.Prelude.{slice_index, fold}
use Rattle.std.proofs.lemmas.List.{append-nil}
use mathlib.Core.Option.{some, some-injective, some-ne-none}
use mathlib.Core.Logic.{dite}
use native.Mathlib.Decide.{ℕ_discrete}
use lib.ListN.{get_elem?}
use Rattle.atomic_table.proofs.Lists.{at_set, set_else}
use Rattle.model.specs.{Access, AreGiven, Entry, Event, Past, Taken, call_number, count_changes, entry_of, has, history, is_called, last_command, own, past_of, reply_taken}
use Rattle.plain_store.specs.{Contents, Reply, Setup, changes, opening_store}
use Rattle.model.proofs.Width.{IsGood}
use Rattle.laws.specs.{IsThere, cell_held, doing, is_inside}
use Rattle.laws.proofs.Frame.{own-other, doing-other}
use Rattle.laws.proofs.FrameInside.{inside-is}
use Rattle.history_laws.proofs.ReadStamps.{history_unchanged}
use Rattle.history_laws.proofs.CountedChanges.{history-none, history-takes, taken_at, then}
use Rattle.board.specs.{IsIn, IsPrefix, IsQuiet, Knows, KnowsSeats, OwnView, Shows, ViewState, calls_after, calls_of, changes_of, changing, counted_at, entries_of, own_view, shown, word_of, words_in}
use Rattle.history_laws.specs.{changes_taken}

-- Changes.

-- more commands make more changes
changing-more : (store : Contents) (xs ys : List Taken) → IsPrefix (changing store xs) (changing store (xs ++ ys))
changing-more store [] ys = (changing store ys, refl)
changing-more store (t ∷ xs) ys =
    let more = changing-more (then store t) xs ys in
    (more.0, by (changes store t.command) (changing (then store t) (xs ++ ys)) (changing (then store t) xs) more.0 more.1)
  where
    by : (b : Bool) (all first rest : List Taken) → all ≡ first ++ rest → cond b (t ∷ all) all ≡ cond b (t ∷ first) first ++ rest
    by true all first rest h = ap (λ (z : List Taken). t ∷ z) h
    by false all first rest h = h

-- an entry removes no change
pub changes_entry : (s : Setup) (past : Past) (e : Entry) → IsPrefix (changes_of s past) (changes_of s (e ∷ past))
changes_entry s past e = by (reply_taken e.marks) refl
  where
    by : (o : Option Reply) → reply_taken e.marks ≡ o → IsPrefix (changes_of s past) (changes_of s (e ∷ past))
    by None h = ([], ap (changing (opening_store s)) (history-none s past e h) ∙ sym (append-nil (changes_of s past)))
    by (Some r) h =
        let more = changing-more (opening_store s) (history s past) (taken_at s past e r ∷ []) in
        (more.0, ap (changing (opening_store s)) (history-takes s past e r h) ∙ more.1)

-- an entry that takes no command adds no change
pub changes_none : (s : Setup) (past : Past) (e : Entry) → reply_taken e.marks ≡ None → changes_of s (e ∷ past) ≡ changes_of s past
changes_none s past e h = ap (changing (opening_store s)) (history-none s past e h)

-- the number of changes
changes_counted : (store : Contents) (xs : List Taken) → length (changing store xs) ≡ count_changes store xs
changes_counted store [] = refl
changes_counted store (t ∷ xs) = by (changes store t.command) (changing (then store t) xs) (changes_counted (then store t) xs)
  where
    by : (b : Bool) (rest : List Taken) {n : ℕ} → length rest ≡ n → length (cond b (t ∷ rest) rest) ≡ cond b (suc n) n
    by true rest h = ap suc h
    by false rest h = h

pub so_many_changes : (s : Setup) (past : Past) → length (changes_of s past) ≡ changes_taken s past
so_many_changes s past = changes_counted (opening_store s) (history s past)

pub prefix-trans : (a b c : List Taken) → IsPrefix a b → IsPrefix b c → IsPrefix a c
prefix-trans a b c f g = (f.0 ++ g.0, g.1 ∙ (ap (λ (xs : List Taken). xs ++ g.0) f.1 ∙ append_assoc a f.0 g.0))

-- The view of another process.

calls-other : (s : Setup) (q : ℕ) (e : Entry) (past : Past) → e.process ≢ q → calls_of s q (e ∷ past) ≡ calls_of s q past
calls-other s q e past h = ap (λ b. cond b (fold (calls_after (changes_taken s past)) (calls_of s q past) e.marks) (calls_of s q past)) (ne_eqb e.process q h)

entries-other : (s : Setup) (q : ℕ) (e : Entry) (past : Past) → e.process ≢ q → entries_of s q (e ∷ past) ≡ entries_of s q past
entries-other s q e past h = ap (λ b. cond b (counted_at (changes_taken s past) e ∷ cond (has is_called e) [] (entries_of s q past)) (entries_of s q past)) (ne_eqb e.process q h)

-- the past past' is the past past, followed by an entry of process p
pub record Along (s : Setup) (p : ℕ) (past past' : Past) : Type 0 where
  pub others : (q : ℕ) → p ≢ q → own_view s past' q ≡ own_view s past q
  pub owns : (q : ℕ) → p ≢ q → own q past' ≡ own q past
  pub changed : IsPrefix (changes_of s past) (changes_of s past')
  pub fits : (q : ℕ) → p ≢ q → is_inside (doing s q past) ≡ true → changes_of s past' ≡ changes_of s past

pub along_entry : (s : Setup) → IsGood s → (events : List Event) (event : Event) (e : Entry) → entry_of s (past_of s events) event ≡ Some e → (p : ℕ) → e.process ≡ p → Along s p (past_of s events) (e ∷ past_of s events)
along_entry s g events event e added p is = let past = past_of s events in record {
  others = λ q ne.
      let other : e.process ≢ q = λ h. ne (sym is ∙ h) in
      λ i. record {
        process = q;
        entries = entries-other s q e past other i;
        doing = doing-other s q e past other i;
        command = last_command (own-other q e past other i);
        number = call_number s (own-other q e past other i);
        calls = calls-other s q e past other i;
      };
  owns = λ q ne. own-other q e past (λ h. ne (sym is ∙ h));
  changed = changes_entry s past e;
  fits = λ q ne inside_. ap (changing (opening_store s)) (history_unchanged s g events event e added q (inside-is s g events q ∙ inside_) (λ same. ne (sym is ∙ sym same)));
}

pub seen_along : (s : Setup) (p : ℕ) (past past' : Past) (seen : List Taken) → Along s p past past' → IsPrefix seen (changes_of s past) → IsPrefix seen (changes_of s past')
seen_along s p past past' seen along k = prefix-trans seen (changes_of s past) (changes_of s past') k along.changed

knows_along : (s : Setup) (p : ℕ) (past past' : Past) (x : ViewState) → Along s p past past' → p ≢ x.own.process → Knows s past x → Knows s past' x
knows_along s p past past' x along ne k = record {
  below = k.below;
  own = k.own ∙ sym (along.others x.own.process ne);
  seen = seen_along s p past past' x.seen along k.seen;
  inside = λ h. k.inside h ∙ sym (along.fits x.own.process ne (ap (λ (o : OwnView). is_inside o.doing) (sym k.own) ∙ h));
}

-- Lists of views.

pub set_at : {A : Type 0} (l : List A) (i : ℕ) (a b : A) → get_elem? l i ≡ some a → get_elem? (set l i b) i ≡ some b
set_at [] i a b e = absurd (some-ne-none a (sym e))
set_at (x ∷ xs) zero a b e = refl
set_at (x ∷ xs) (suc i) a b e = set_at xs i a b e

pub set_set : {A : Type 0} (l : List A) (i : ℕ) (a b : A) → set (set l i a) i b ≡ set l i b
set_set [] i a b = refl
set_set (x ∷ xs) zero a b = refl
set_set (x ∷ xs) (suc i) a b = ap (λ (ys : List _). x ∷ ys) (set_set xs i a b)

-- a step leaves these parts of a view unchanged
pub record Same (v w : ViewState) : Type 0 where
  pub spent : w.spent ≡ v.spent
  pub process : w.own.process ≡ v.own.process
  pub made : w.made ≡ v.made
  pub joined : w.joined ≡ v.joined

-- a view after a step belongs to a view before it, of the same process
pub was_view : (views : List ViewState) (id : ℕ) (v w : ViewState) → get_elem? views id ≡ some v → w.spent ≡ v.spent → w.own.process ≡ v.own.process → (i : ℕ) (x : ViewState) → get_elem? (set views id w) i ≡ some x → x.spent ≡ false
    → (y : ViewState) × (get_elem? views i ≡ some y) × (y.spent ≡ false) × (y.own.process ≡ x.own.process)
was_view views id v w at spent process i x e live = ⊎_elim
    (λ (t : (i ≡ id) × (w ≡ x)). (v, subst (λ (k : ℕ). get_elem? views k ≡ some v) (sym t.0) at, sym spent ∙ (ap (λ (u : ViewState). u.spent) t.1 ∙ live), sym process ∙ ap (λ (u : ViewState). u.own.process) t.1))
    (λ (t : (i ≢ id) × (get_elem? views i ≡ some x)). (x, t.1, live, refl))
    (at_set views id i w x e)

-- words and views agree after a step of one seat
pub kept : (s : Setup) (events events' : List Event) (words words' : List ℕ) (views : List ViewState) (id : ℕ) (v w : ViewState) → Shows s events words views → get_elem? views id ≡ some v → v.spent ≡ false
    → Along s v.own.process (past_of s events) (past_of s events') → Same v w → AreGiven s events' → Knows s (past_of s events') w
    → length words' ≡ words_in s → ((a : Access) → IsThere s a → slice_index words' (word_of s a) ≡ shown (cell_held s (past_of s events') a)) → Shows s events' words' (set views id w)
kept s events events' words words' views id v w f at live along same given knows size bits = record {
  good = f.good;
  given = given;
  size = size;
  bits = bits;
  known = λ i x e x_live. ⊎_elim
      (λ (t : (i ≡ id) × (w ≡ x)). subst (Knows s past') t.1 knows)
      (λ (t : (i ≢ id) × (get_elem? views i ≡ some x)). knows_along s v.own.process past past' x along (λ is. t.0 (sym (f.apart id i v x at t.1 live x_live is))) (f.known i x t.1 x_live))
      (at_set views id i w x e);
  apart = λ i j x y ex ey x_live y_live is.
      let a = was_view views id v w at same.spent same.process i x ex x_live in
      let b = was_view views id v w at same.spent same.process j y ey y_live in
      f.apart i j a.0 b.0 a.1 b.1 a.2 b.2 (a.3 ∙ (is ∙ sym b.3));
  seats = seated;
}
  where
    past : Past
    past = past_of s events

    past' : Past
    past' = past_of s events'

    joined : (c : ViewState) → KnowsSeats s past views c → (p : ℕ) → IsIn p c.joined → IsQuiet (doing s p past')
    joined c k p h =
        let mine = k.others id v at live in
        let ne : v.own.process ≢ p = λ is. mine.1 (subst (λ q. IsIn q c.joined) (sym is) h) in
        subst IsQuiet (sym (ap (λ (o : OwnView). o.doing) (along.others p ne))) (k.joined p h)

    unmade : (c : ViewState) → KnowsSeats s past views c → (p : ℕ) → c.made ≤ p → own p past' ≡ []
    unmade c k p h =
        let mine = k.others id v at live in
        let ne : v.own.process ≢ p = λ is. omega arith in
        along.owns p ne ∙ k.unmade p h

    -- the views of the other seats, from those before the step
    others : (c d : ViewState) → KnowsSeats s past views c → d.made ≡ c.made → d.joined ≡ c.joined → (i : ℕ) (x : ViewState) → get_elem? (set views id w) i ≡ some x → x.spent ≡ false → (x.own.process < d.made) × (IsIn x.own.process d.joined → ⊥)
    others c d k m j i x e x_live =
        let y = was_view views id v w at same.spent same.process i x e x_live in
        let o = k.others i y.0 y.1 y.2 in
        (omega (arith, y.3, m), λ has. o.1 (subst (λ (z : ℕ × List ℕ). IsIn z.0 z.1) (λ n. (sym y.3 n, j n)) has))

    seated : (x : ViewState) × KnowsSeats s past' (set views id w) x
    seated =
        let c = f.seats.0 in
        let k = f.seats.1 in
        dite (ℕ_discrete id 0)
        (λ zero_. let c_is : c ≡ v = some-injective c v (sym k.at ∙ (ap (λ (n : ℕ). get_elem? views n) (sym zero_) ∙ at)) in
        let m : w.made ≡ c.made = same.made ∙ ap (λ (u : ViewState). u.made) (sym c_is) in
        let j : w.joined ≡ c.joined = same.joined ∙ ap (λ (u : ViewState). u.joined) (sym c_is) in (
          w,
          record {
            at = subst (λ (n : ℕ). get_elem? (set views id w) n ≡ some w) zero_ (set_at views id v w at);
            live = same.spent ∙ live;
            process = same.process ∙ (ap (λ (u : ViewState). u.own.process) (sym c_is) ∙ k.process);
            made = subst (λ (n : ℕ). n ≤ s.processes) (sym m) k.made;
            others = others c w k m j;
            joined = λ p h. joined c k p (subst (λ (z : List ℕ). IsIn p z) j h);
            unmade = λ p h. unmade c k p (omega arith);
          },
        ))
        (λ other_. (
          c,
          record {
            at = set_else views id 0 w (λ is. other_ (sym is)) ∙ k.at;
            live = k.live;
            process = k.process;
            made = k.made;
            others = others c c k refl refl;
            joined = joined c k;
            unmade = unmade c k;
          },
        ))
