-- The commands of the history: each has the sequential store's reply at its place, and the numbers of a process's commands ascend.
use Rattle.std.proofs.Common.{◌≡◌, ◌≢◌, ◌⊎◌, ℕ, zero, suc, ◌<◌, ◌≤◌, ◌==◌, Bool, true, false, cond, List, [], ◌∷◌, ◌++◌, Option, Some, None, length, take, slice_get, refl, sym, ap, subst, ◌∙◌, arith, inl, inr, eqb-true, Ok, Contains}
use Rattle.std.proofs.lemmas.List.{length-replicate}
use Rattle.plain_store.specs.{Reply, Setup, callers_of, checked, opening_store, reply_to}
use Rattle.model.specs.{AreGiven, Entry, Event, Mark, Past, Taken, TakenInHistory, all_takings, call_number, calls_in, entry_of, has, history, is_called, own, past_of, reply_taken, since, store_after, takings}
use Rattle.model.specs.declared.marks.Mark.TheVariants as mark
use Rattle.model.proofs.Width.{IsGood}
use Rattle.laws.proofs.AtPlaces.{own-induction}
use Rattle.laws.specs.{doing}
use Rattle.laws.proofs.Frame.{own-other, own-own}
use Rattle.laws.proofs.FrameEvents.{accepted}
use Rattle.history_laws.proofs.CountedChanges.{history-none, history-takes, taken_at}
use Rattle.history_laws.proofs.Given.{given_before}
use Rattle.history_laws.proofs.StoreNumbers.{Ascends, Each, IsKept}
use Rattle.history_laws.proofs.Reported.{SaysAfter, says, since-uncalled}
use Rattle.history_laws.proofs.Took.{begins, goes, doing-few}

-- Each command with those before it.

-- this holds of each command and the commands before it
abbrev pub EachWithBefore : (List Taken → Taken → Type 0) → List Taken → Type 0
EachWithBefore P h = (k : ℕ) (t : Taken) → slice_get h k ≡ Some t → P (take k h) t

-- a command of a list with one more at its end: one of the list, or the last
at_end : {X : Type 0} (xs : List X) (x : X) (k : ℕ) (y : X) → slice_get (xs ++ x ∷ []) k ≡ Some y →
    ((slice_get xs k ≡ Some y) × (take k (xs ++ x ∷ []) ≡ take k xs)) ⊎ ((x ≡ y) × (take k (xs ++ x ∷ []) ≡ xs))
at_end [] x zero y h = inr (cc, refl)
at_end [] x (suc k) y h = cc
at_end (z ∷ xs) x zero y h = inl (h, refl)
at_end (z ∷ xs) x (suc k) y h = elim (at_end xs x k y h) [
  | inl a ↦ inl (a.0, ap (λ l. z ∷ l) a.1)
  | inr a ↦ inr (a.0, ap (λ l. z ∷ l) a.1)
]

one_more : (P : List Taken → Taken → Type 0) (h : List Taken) (t : Taken) → EachWithBefore P h → P h t → EachWithBefore P (h ++ t ∷ [])
one_more P h t all here k u at = elim (at_end h t k u at) [
  | inl a ↦ subst (λ before. P before u) (sym a.1) (all k u a.0)
  | inr a ↦ subst (λ before. P before u) (sym a.1) (subst (P h) a.0 here)
]

no_commands : (P : List Taken → Taken → Type 0) → EachWithBefore P []
no_commands P k t at = cc

-- A property of each command when it is taken is a property of each command of the history.
pub each_taken : (s : Setup) (P : List Taken → Taken → Type 0) →
    ((events : List Event) (event : Event) (e : Entry) (r : Reply) → AreGiven s (event ∷ events) → entry_of s (past_of s events) event ≡ Some e → reply_taken e.marks ≡ Some r →
    P (history s (past_of s events)) (taken_at s (past_of s events) e r)) →
    (events : List Event) → AreGiven s events → EachWithBefore P (history s (past_of s events))
each_taken s P here [] given = no_commands P
each_taken s P here (event ∷ events) given = go (entry_of s past event) refl (each_taken s P here events (given_before s event events given))
  where
    past : Past
    past = past_of s events

    took : EachWithBefore P (history s past) → (e : Entry) (o : Option Reply) → reply_taken e.marks ≡ o → entry_of s past event ≡ Some e → EachWithBefore P (history s (e ∷ past))
    took before e None r is = subst (EachWithBefore P) (sym (history-none s past e r)) before
    took before e (Some reply) r is = subst (EachWithBefore P) (sym (history-takes s past e reply r)) (one_more P (history s past) (taken_at s past e reply) before (here events event e reply given is r))

    go : (x : Option Entry) → entry_of s past event ≡ x → EachWithBefore P (history s past) → EachWithBefore P (history s (elim x as (λ _. Past) [ None ↦ past | Some e ↦ e ∷ past ]))
    go None is before = before
    go (Some e) is before = took before e (reply_taken e.marks) refl is

-- Replies.

-- the reply of the sequential store after the commands before
abbrev pub HasItsReply : Setup → List Taken → Taken → Type 0
HasItsReply s before t = t.reply ≡ reply_to (store_after s before) t.command (record { process = t.process; number = t.number })

-- a reply that is taken is in a mark
taking_of : (ms : List Mark) (r : Reply) → reply_taken ms ≡ Some r → (k : ℕ) × Contains (takings ms) (k, r)
taking_of [] r h = cc
taking_of (mark.Taken k q ∷ ms) r h = let same : q ≡ r = cc in (k, (0, omega arith, ap (λ (x : Reply). (k, x)) same))
taking_of (_ ∷ ms) r h = taking_of ms r h

-- Each command of the history has the sequential store's reply at its place.
pub each_has_its_reply : TakenInHistory → (s : Setup) → checked s ≡ Ok tt → (events : List Event) → AreGiven s events → EachWithBefore (HasItsReply s) (history s (past_of s events))
each_has_its_reply law s good = each_taken s (HasItsReply s) here
  where
    here : (events : List Event) (event : Event) (e : Entry) (r : Reply) → AreGiven s (event ∷ events) → entry_of s (past_of s events) event ≡ Some e → reply_taken e.marks ≡ Some r →
        HasItsReply s (history s (past_of s events)) (taken_at s (past_of s events) e r)
    here events event e r given is h = let t = taking_of e.marks r h in (law s good events event e given is t.0 r t.1).1

-- Numbers.

-- in version 1 each call's number is 0
number-none : (s : Setup) (mine : Past) → (s.version == 1) ≡ true → call_number s mine ≡ 0
number-none s mine h = ap (λ v. cond (v == 2) (calls_in mine) 0) (eqb-true s.version 1 h)

-- in version 2 the number of a call is the number of calls so far
number-counts : (s : Setup) (mine : Past) → s.version ≡ 2 → call_number s mine ≡ calls_in mine
number-counts s mine h = ap (λ v. cond (v == 2) (calls_in mine) 0) h

opening-callers : (s : Setup) → length (opening_store s).numbers ≡ cond (s.version == 1) 0 s.processes
opening-callers s = length-replicate (callers_of s) 0

-- The store keeps the number of the process of each command, or the command has number 0.
pub each_is_kept : (s : Setup) → IsGood s → (events : List Event) → AreGiven s events → Each (IsKept (length (opening_store s).numbers)) (history s (past_of s events))
each_is_kept s g = each_taken s (λ before t. IsKept (length (opening_store s).numbers) t) here
  where
    here : (events : List Event) (event : Event) (e : Entry) (r : Reply) → AreGiven s (event ∷ events) → entry_of s (past_of s events) event ≡ Some e → reply_taken e.marks ≡ Some r →
        IsKept (length (opening_store s).numbers) (taken_at s (past_of s events) e r)
    here events event e r given is h = go (s.version == 1) refl
      where
        go : (b : Bool) → (s.version == 1) ≡ b → IsKept (length (opening_store s).numbers) (taken_at s (past_of s events) e r)
        go true v = inr (number-none s (own e.process (past_of s events)) v)
        go false v = inl (subst (λ n. e.process < n) (sym (opening-callers s ∙ ap (λ b. cond b 0 s.processes) v)) (accepted s g events event e is).below)

-- The commands of a process have numbers of its calls; that of the present call only if it took one.
record Counted (h : List Taken) (p : ℕ) (mine : Past) : Type 0 where
  pub most : (k : ℕ) (t : Taken) → slice_get h k ≡ Some t → t.process ≡ p → t.number ≤ calls_in mine
  pub earlier : all_takings (since is_called mine) ≡ [] → (k : ℕ) (t : Taken) → slice_get h k ≡ Some t → t.process ≡ p → t.number < calls_in mine

calls-called : (e : Entry) (mine : Past) → has is_called e ≡ true → calls_in (e ∷ mine) ≡ suc (calls_in mine)
calls-called e mine h = ap (λ b. elim b as (λ _. ℕ) [ true ↦ suc (calls_in mine) | false ↦ calls_in mine ]) h

pub calls-uncalled : (e : Entry) (mine : Past) → has is_called e ≡ false → calls_in (e ∷ mine) ≡ calls_in mine
calls-uncalled e mine h = ap (λ b. elim b as (λ _. ℕ) [ true ↦ suc (calls_in mine) | false ↦ calls_in mine ]) h

append-none : {X : Type 0} (xs ys : List X) → xs ++ ys ≡ [] → (xs ≡ []) × (ys ≡ [])
append-none [] ys h = (refl, h)
append-none (x ∷ xs) ys h = cc

-- after an entry of another process
counted-other : (s : Setup) (past : Past) (e : Entry) (p : ℕ) → e.process ≢ p → Counted (history s past) p (own p past) → Counted (history s (e ∷ past)) p (own p (e ∷ past))
counted-other s past e p apart c = subst (Counted (history s (e ∷ past)) p) (sym (own-other p e past apart)) (go (reply_taken e.marks) refl)
  where
    go : (o : Option Reply) → reply_taken e.marks ≡ o → Counted (history s (e ∷ past)) p (own p past)
    go None r = subst (λ h. Counted h p (own p past)) (sym (history-none s past e r)) c
    go (Some reply) r = subst (λ h. Counted h p (own p past)) (sym (history-takes s past e reply r)) (record {
      most = λ k t at is. elim (at_end (history s past) (taken_at s past e reply) k t at) [
        | inl a ↦ c.most k t a.0 is
        | inr a ↦ absurd (apart (ap (λ (x : Taken). x.process) a.0 ∙ is))
      ];
      earlier = λ none k t at is. elim (at_end (history s past) (taken_at s past e reply) k t at) [
        | inl a ↦ c.earlier none k t a.0 is
        | inr a ↦ absurd (apart (ap (λ (x : Taken). x.process) a.0 ∙ is))
      ];
    })

-- an entry that takes a command has a mark for it
no-taking : (ms : List Mark) (r : Reply) → reply_taken ms ≡ Some r → takings ms ≢ []
no-taking ms r h none = let t = taking_of ms r h in let l = t.1.1 in let n : length (takings ms) ≡ 0 = ap length none in omega (arith, l, n)

-- after an entry of the process itself
counted-own : (s : Setup) → s.version ≡ 2 → (past : Past) (e : Entry) → SaysAfter s past e → Counted (history s past) e.process (own e.process past) → Counted (history s (e ∷ past)) e.process (own e.process (e ∷ past))
counted-own s two past e reported c = subst (Counted (history s (e ∷ past)) p) (sym (own-own p e past refl)) (go (reply_taken e.marks) refl reported)
  where
    p : ℕ
    p = e.process

    mine : Past
    mine = own p past

    called : has is_called e ≡ true → Counted (history s past) p (e ∷ mine)
    called y = record {
      most = λ k t at is. let m = c.most k t at is in let n = calls-called e mine y in omega (arith, m, n);
      earlier = λ none k t at is. let m = c.most k t at is in let n = calls-called e mine y in omega (arith, m, n);
    }

    uncalled : has is_called e ≡ false → Counted (history s past) p (e ∷ mine)
    uncalled y = record {
      most = λ k t at is. let m = c.most k t at is in let n = calls-uncalled e mine y in omega (arith, m, n);
      earlier = λ none k t at is.
          let m = c.earlier (append-none (all_takings (since is_called mine)) (takings e.marks) (sym (ap all_takings (since-uncalled e mine y)) ∙ none)).0 k t at is in
          let n = calls-uncalled e mine y in omega (arith, m, n);
    }

    took : (r : Reply) → reply_taken e.marks ≡ Some r → has is_called e ≡ false → Counted (history s past ++ taken_at s past e r ∷ []) p (e ∷ mine)
    took r h y = record {
      most = λ k t at is. elim (at_end (history s past) (taken_at s past e r) k t at) [
        | inl a ↦ (uncalled y).most k t a.0 is
        | inr a ↦ (let m : t.number ≡ calls_in mine = sym (ap (λ (x : Taken). x.number) a.0) ∙ number-counts s mine two in let n = calls-uncalled e mine y in omega (arith, m, n))
      ];
      earlier = λ none. absurd (no-taking e.marks r h (append-none (all_takings (since is_called mine)) (takings e.marks) (sym (ap all_takings (since-uncalled e mine y)) ∙ none)).1);
    }

    go : (o : Option Reply) → reply_taken e.marks ≡ o → SaysAfter s past e → Counted (history s (e ∷ past)) p (e ∷ mine)
    go None r (begins command m k) = subst (λ h. Counted h p (e ∷ mine)) (sym (history-none s past e r)) (called (ap (λ (ms : List Mark). has is_called (record { process = p; access = e.access; marks = ms })) m))
    go None r (goes t) = subst (λ h. Counted h p (e ∷ mine)) (sym (history-none s past e r)) (uncalled t.uncalled)
    go (Some reply) r (begins command m k) = absurd (no-taking e.marks reply r (ap takings m))
    go (Some reply) r (goes t) = subst (λ h. Counted h p (e ∷ mine)) (sym (history-takes s past e reply r)) (took reply r t.uncalled)

counted : (s : Setup) → IsGood s → s.version ≡ 2 → (events : List Event) (p : ℕ) → Counted (history s (past_of s events)) p (own p (past_of s events))
counted s g two = own-induction s (λ past p. Counted (history s past) p (own p past)) none (counted-other s) own_entry
  where
    none : (p : ℕ) → Counted [] p []
    none p = record { most = λ k t at is. cc; earlier = λ none k t at is. cc }

    own_entry : (events : List Event) (event : Event) (e : Entry) → entry_of s (past_of s events) event ≡ Some e → Counted (history s (past_of s events)) e.process (own e.process (past_of s events)) →
        Counted (history s (e ∷ past_of s events)) e.process (own e.process (e ∷ past_of s events))
    own_entry events event e is = counted-own s two (past_of s events) e (says s g events event e is)

-- a process that takes a command has taken none before in its call
first-of-call : (s : Setup) (past : Past) (e : Entry) (r : Reply) → reply_taken e.marks ≡ Some r → SaysAfter s past e → all_takings (since is_called (own e.process past)) ≡ []
first-of-call s past e r h (begins command m k) = absurd (no-taking e.marks r h (ap takings m))
first-of-call s past e r h (goes t) = go (all_takings (since is_called (own e.process past))) (takings e.marks) (doing-few (doing s e.process (e ∷ past)) _ t.took) (no-taking e.marks r h)
  where
    go : (xs ys : List (ℕ × Reply)) → length (xs ++ ys) < 2 → ys ≢ [] → xs ≡ []
    go [] ys few some = refl
    go (x ∷ []) [] few some = absurd (some refl)
    go (x ∷ []) (y ∷ ys) few some = absurd (omega (arith, few))
    go (x ∷ z ∷ xs) ys few some = absurd (omega (arith, few))

-- earlier commands of the process have lower numbers
abbrev IsAbove : List Taken → Taken → Type 0
IsAbove before t = (j : ℕ) (u : Taken) → slice_get before j ≡ Some u → u.process ≡ t.process → u.number < t.number

get-take : {X : Type 0} (xs : List X) (j k : ℕ) → j < k → slice_get (take k xs) j ≡ slice_get xs j
get-take [] j zero h = absurd (omega (arith, h))
get-take [] j (suc k) h = refl
get-take (x ∷ xs) j zero h = absurd (omega (arith, h))
get-take (x ∷ xs) zero (suc k) h = refl
get-take (x ∷ xs) (suc j) (suc k) h = get-take xs j k (omega (arith, h))

-- In version 2 the numbers of a process's commands ascend.
pub numbers_ascend : (s : Setup) → IsGood s → s.version ≡ 2 → (events : List Event) → AreGiven s events → Ascends (history s (past_of s events))
numbers_ascend s g two events given j k u t less at_j at_k same =
    each_taken s IsAbove here events given k t at_k j u (get-take (history s (past_of s events)) j k less ∙ at_j) same
  where
    here : (events : List Event) (event : Event) (e : Entry) (r : Reply) → AreGiven s (event ∷ events) → entry_of s (past_of s events) event ≡ Some e → reply_taken e.marks ≡ Some r →
        IsAbove (history s (past_of s events)) (taken_at s (past_of s events) e r)
    here events event e r given is h j u at same =
        let c = (counted s g two events e.process).earlier (first-of-call s (past_of s events) e r h (says s g events event e is)) j u at same in
        let n = number-counts s (own e.process (past_of s events)) two in
        omega (arith, c, n)
