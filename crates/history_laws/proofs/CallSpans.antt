-- The entries of a call, one more at a time, and the records that a past continues.
use Rattle.std.proofs.Common.{◌≡◌, ◌≢◌, ℕ, ◌==◌, ◌||◌, Bool, true, false, List, [], ◌∷◌, ◌++◌, Option, Some, None, refl, sym, ap, ◌∙◌, eqb-true}
use Rattle.std.proofs.lemmas.Bool.{eqb-false}
use Rattle.std.specs.List.{list_any}
use Rattle.plain_store.specs.{Setup}
use Rattle.model.specs.{Entry, Event, Past, entries_of_call, entry_of, has, is_called, own, past_of, since, until}
use Rattle.laws.proofs.Frame.{own-other, own-own}
use Rattle.history_laws.proofs.Reported.{since-called, since-uncalled}

-- A past is that of a record, and its newest entry is that of its newest accepted event.

pub record Older (s : Setup) (e : Entry) (rest : Past) : Type 0 where
  pub events : List Event
  pub event : Event
  pub past : past_of s events ≡ rest
  pub added : entry_of s (past_of s events) event ≡ Some e

pub older : (s : Setup) (events : List Event) (e : Entry) (rest : Past) → past_of s events ≡ e ∷ rest → Older s e rest
older s [] e rest h = cc
older s (event ∷ events) e rest h = go (older s events e rest) (entry_of s (past_of s events) event) refl h
  where
    go : (past_of s events ≡ e ∷ rest → Older s e rest) → (x : Option Entry) → entry_of s (past_of s events) event ≡ x → elim x as (λ _. Past) [ None ↦ past_of s events | Some f ↦ f ∷ past_of s events ] ≡ e ∷ rest → Older s e rest
    go refused None i h = refused h
    go refused (Some f) i h = let same : f ≡ e = cc in record { events = events; event = event; past = cc; added = i ∙ ap Some same }

-- the entries before some entries are the past of a record too
pub before : (s : Setup) (newer : Past) (events : List Event) (rest : Past) → past_of s events ≡ newer ++ rest → (more : List Event) × (past_of s more ≡ rest)
before s [] events rest h = (events, h)
before s (e ∷ newer) events rest h = let o = older s events e (newer ++ rest) h in before s newer o.events rest o.past

-- The entries of a call.

false-remaining : (a b : Bool) → (a || b) ≡ false → a ≡ false
false-remaining false b h = refl
false-remaining true b h = h

false-right : (a b : Bool) → (a || b) ≡ false → b ≡ false
false-right false b h = h
false-right true b h = cc

-- no later call has begun: they are all the process's own
pub whole : (mine : Past) → list_any (has is_called) mine ≡ false → until is_called mine ≡ mine
whole [] h = refl
whole (e ∷ mine) h = ap (λ b. elim b as (λ _. Past) [ true ↦ until is_called mine | false ↦ e ∷ mine ]) h

-- one entry more belongs to a call, or not
pub data OneMore (p : ℕ) (e : Entry) (later : Past) : Type 0 where
  outside : entries_of_call p (e ∷ later) ≡ entries_of_call p later → OneMore p e later
  belongs : e.process ≡ p → own p (e ∷ later) ≡ e ∷ own p later → list_any (has is_called) (own p (e ∷ later)) ≡ false → list_any (has is_called) (own p later) ≡ false → OneMore p e later

pub one_more : (p : ℕ) (e : Entry) (later : Past) → OneMore p e later
one_more p e later = go (e.process == p) refl
  where
    called : (b : Bool) → (has is_called e || list_any (has is_called) (own p later)) ≡ b → e.process ≡ p → OneMore p e later
    called true h i = outside (ap (until is_called) (own-own p e later i) ∙ ap (λ b. elim b as (λ _. Past) [ true ↦ until is_called (own p later) | false ↦ e ∷ own p later ]) h)
    called false h i = belongs i (own-own p e later i) (ap (list_any (has is_called)) (own-own p e later i) ∙ h) (false-right (has is_called e) (list_any (has is_called) (own p later)) h)

    go : (b : Bool) → (e.process == p) ≡ b → OneMore p e later
    go true i = called (has is_called e || list_any (has is_called) (own p later)) refl (eqb-true e.process p i)
    go false i = outside (ap (until is_called) (own-other p e later (eqb-false e.process p i)))

-- the present call is that which began with x, where none began later
pub since-whole : (later : Past) (x : Entry) (earlier : Past) → has is_called x ≡ true → list_any (has is_called) (own x.process later) ≡ false →
    since is_called (own x.process (later ++ x ∷ earlier)) ≡ own x.process later
since-whole [] x earlier c h = ap (since is_called) (own-own x.process x earlier refl) ∙ since-called x (own x.process earlier) c
since-whole (e ∷ later) x earlier c h = go (since-whole later x earlier c) (e.process == x.process) refl
  where
    p : ℕ
    p = x.process

    rest : Past
    rest = later ++ x ∷ earlier

    go : (list_any (has is_called) (own p later) ≡ false → since is_called (own p rest) ≡ own p later) → (b : Bool) → (e.process == p) ≡ b → since is_called (own p (e ∷ rest)) ≡ own p (e ∷ later)
    go ih true i =
        let is : e.process ≡ p = eqb-true e.process p i in
        let none : (has is_called e || list_any (has is_called) (own p later)) ≡ false = sym (ap (list_any (has is_called)) (own-own p e later is)) ∙ h in
        ap (since is_called) (own-own p e rest is)
        ∙ since-uncalled e (own p rest) (false-remaining (has is_called e) (list_any (has is_called) (own p later)) none)
        ∙ ap (λ m. e ∷ m) (ih (false-right (has is_called e) (list_any (has is_called) (own p later)) none))
        ∙ sym (own-own p e later is)
    go ih false i =
        let apart : e.process ≢ p = eqb-false e.process p i in
        ap (since is_called) (own-other p e rest apart)
        ∙ ih (sym (ap (list_any (has is_called)) (own-other p e later apart)) ∙ h)
        ∙ sym (own-other p e later apart)
