-- A call takes at most one command, and the places are in the order of the calls' spans.
use Rattle.std.proofs.Common.{◌≡◌, ℕ, zero, suc, ◌<◌, ◌≤◌, ◌+◌, Bool, true, false, List, [], ◌∷◌, ◌++◌, Some, length, map, refl, sym, ap, subst, ◌∙◌, arith, append_assoc, append-nil, length-append, Contains}
use Rattle.std.specs.List.{list_any}
use Rattle.std.proofs.lemmas.Bool.{or_right}
use Rattle.std.proofs.lemmas.List.{length-map}
use Rattle.plain_store.specs.{Answer, Reply, Setup}
use Rattle.model.specs.{Entry, Event, IsAnswerTo, Past, all_takings, ends_span, entries_of_call, entry_of, has, has_ended, history, is_called, is_failed, own, past_of, since, takings, takings_of_call}
use Rattle.model.specs.declared.marks.Mark.TheVariants.{Answered}
use Rattle.model.proofs.Width.{IsGood}
use Rattle.laws.specs.{Doing, doing}
use Rattle.laws.proofs.Frame.{own-own}
use Rattle.history_laws.specs.{taken_with}
use Rattle.history_laws.proofs.CallSpans.{Older, older, before, whole, OneMore, outside, belongs, one_more, since-whole}
use Rattle.history_laws.proofs.Places.{at_its_place, grows_by_the_taken}
use Rattle.history_laws.proofs.Reported.{ReportedOf, SaysAfter, since-uncalled, reported, says}
use Rattle.history_laws.proofs.Took.{begins, goes, EachAnswer, Gives, answer-at, doing-few, is_done, may_answer}

-- Answers.

-- an answer that an entry gives to its call
abbrev Answers : Setup → Past → Entry → Answer → Type 0
Answers s past e = Gives (may_answer (doing s e.process past)) (all_takings (since is_called (own e.process past)) ++ takings e.marks)

-- a call that is answered was not cut
pub cut_is_not_answered : (s : Setup) → IsGood s → (events : List Event) (event : Event) (e : Entry) → entry_of s (past_of s events) event ≡ Some e → (a : Answer) → Contains e.marks (Answered a) →
    list_any (has is_failed) (since is_called (own e.process (past_of s events))) ≡ false
cut_is_not_answered s g events event e is a h = go (says s g events event e is)
  where
    past : Past
    past = past_of s events

    go : SaysAfter s past e → list_any (has is_failed) (since is_called (own e.process past)) ≡ false
    go (begins command m k) = absurd (answer-at (λ _. ⊥) e.marks a (subst (EachAnswer (λ _. ⊥)) (sym m) tt) h)
    go (goes t) = (reported s g events e.process).uncut (answer-at (Answers s past e) e.marks a t.answers h).1

-- a call that is answered has taken what its answer states
pub answers_report : (s : Setup) → IsGood s → (events : List Event) (event : Event) (e : Entry) → entry_of s (past_of s events) event ≡ Some e → (a : Answer) → Contains e.marks (Answered a) →
    IsAnswerTo a (all_takings (since is_called (own e.process (e ∷ past_of s events))))
answers_report s g events event e is a h = go (says s g events event e is)
  where
    past : Past
    past = past_of s events

    go : SaysAfter s past e → IsAnswerTo a (all_takings (since is_called (own e.process (e ∷ past))))
    go (begins command m k) = absurd (answer-at (λ _. ⊥) e.marks a (subst (EachAnswer (λ _. ⊥)) (sym m) tt) h)
    go (goes t) = subst (λ (call : Past). IsAnswerTo a (all_takings call)) (sym (ap (since is_called) (own-own e.process e past refl) ∙ since-uncalled e (own e.process past) t.uncalled))
        (answer-at (Answers s past e) e.marks a t.answers h).0

-- The commands of a call.

-- At most one command.
pub once : (s : Setup) → IsGood s → (later : Past) (events : List Event) (x : Entry) (earlier : Past) → past_of s events ≡ later ++ x ∷ earlier → has is_called x ≡ true → length (takings_of_call x.process later) < 2
once s g [] events x earlier h c = omega arith
once s g (e ∷ later) events x earlier h c = go (once s g later o.events x earlier o.past c) (one_more p e later)
  where
    p : ℕ
    p = x.process

    o : Older s e (later ++ x ∷ earlier)
    o = older s events e (later ++ x ∷ earlier) h

    go : length (takings_of_call p later) < 2 → OneMore p e later → length (takings_of_call p (e ∷ later)) < 2
    go ih (outside k) = subst (λ (call : Past). length (all_takings call) < 2) (sym k) ih
    go ih (belongs i k none n) =
        let t : ReportedOf s (past_of s events) p = reported s g events p in
        let call : since is_called (own p (past_of s events)) ≡ own p (e ∷ later) = ap (λ (past : Past). since is_called (own p past)) h ∙ since-whole (e ∷ later) x earlier c none in
        subst (λ (call : Past). length (all_takings call) < 2) (call ∙ sym (whole (own p (e ∷ later)) none)) (doing-few (doing s p (past_of s events)) (all_takings (since is_called (own p (past_of s events)))) t.took)

-- The knowledge of an entry, and of the past that it was added to.
record Added (s : Setup) (rest : Past) (e : Entry) : Type 0 where
  pub reported_of : (p : ℕ) → ReportedOf s rest p
  pub says_after : SaysAfter s rest e
  pub place : (k : ℕ) (r : Reply) → Contains (takings e.marks) (k, r) → k ≡ length (history s rest)
  pub grows : length (history s (e ∷ rest)) ≡ length (history s rest) + length (takings e.marks)

added : (s : Setup) → IsGood s → (e : Entry) (rest : Past) → Older s e rest → Added s rest e
added s g e rest o = subst (λ (rest : Past). Added s rest e) o.past (record {
  reported_of = reported s g o.events;
  says_after = says s g o.events o.event e o.added;
  place = at_its_place s g o.events o.event e o.added;
  grows = ap length (grows_by_the_taken s g o.events o.event e o.added)
      ∙ length-append (history s (past_of s o.events)) (map (λ (t : ℕ × Reply). taken_with s (past_of s o.events) e t.1) (takings e.marks))
      ∙ ap (λ n. length (history s (past_of s o.events)) + n) (length-map (takings e.marks) (λ (t : ℕ × Reply). taken_with s (past_of s o.events) e t.1));
})

-- The history never gets shorter.
longer : (s : Setup) → IsGood s → (later : Past) (events : List Event) (base : Past) → past_of s events ≡ later ++ base → length (history s base) ≤ length (history s (later ++ base))
longer s g [] events base h = omega arith
longer s g (e ∷ later) events base h =
    let o = older s events e (later ++ base) h in
    let a = added s g e (later ++ base) o in
    let l = longer s g later o.events base o.past in
    let n : length (history s (e ∷ later ++ base)) ≡ length (history s (later ++ base)) + length (takings e.marks) = a.grows in
    omega (arith, l, n)

pub in-append : {X : Type 0} (A : Type 0) (xs ys : List X) (x : X) → Contains (xs ++ ys) x → (Contains xs x → A) → (Contains ys x → A) → A
in-append A [] ys x h remaining right = right h
in-append A (y ∷ xs) ys x (zero, l, e) remaining right = remaining (0, omega arith, e)
in-append A (y ∷ xs) ys x (suc k, l, e) remaining right = in-append A xs ys x (k, omega (arith, l), e) (λ h. remaining (suc h.0, (let m = h.1 in omega (arith, m)), h.2)) right

-- A command of a call has its place between the lengths of the history before and after the call's entries.
within : (s : Setup) → IsGood s → (later : Past) (events : List Event) (base : Past) (p k : ℕ) (r : Reply) → past_of s events ≡ later ++ base → Contains (takings_of_call p later) (k, r) →
    (length (history s base) ≤ k) × (k < length (history s (later ++ base)))
within s g [] events base p k r h (i, l, e) = absurd (omega (arith, l))
within s g (e ∷ later) events base p k r h at = go (within s g later o.events base p k r o.past) (longer s g later o.events base o.past) (one_more p e later)
  where
    o : Older s e (later ++ base)
    o = older s events e (later ++ base) h

    a : Added s (later ++ base) e
    a = added s g e (later ++ base) o

    Between : Type 0
    Between = (length (history s base) ≤ k) × (k < length (history s (e ∷ later ++ base)))

    Before : Type 0
    Before = (length (history s base) ≤ k) × (k < length (history s (later ++ base)))

    earlier : Before → Between
    earlier b = let below = b.1 in let n = a.grows in (b.0, omega (arith, below, n))

    now : length (history s base) ≤ length (history s (later ++ base)) → Contains (takings e.marks) (k, r) → Between
    now low (i, l, f) =
        let q = a.place k r (i, l, f) in
        let n = a.grows in
        (omega (arith, q, low), omega (arith, q, n, l))

    go : (Contains (takings_of_call p later) (k, r) → Before) → length (history s base) ≤ length (history s (later ++ base)) → OneMore p e later → Between
    go ih low (outside x) = earlier (ih (subst (λ (call : Past). Contains (all_takings call) (k, r)) x at))
    go ih low (belongs i x none n) = in-append Between (all_takings (own p later)) (takings e.marks) (k, r)
        (subst (λ (call : Past). Contains (all_takings call) (k, r)) (whole (own p (e ∷ later)) none ∙ x) at)
        (λ c. earlier (ih (subst (λ (call : Past). Contains (all_takings call) (k, r)) (sym (whole (own p later) n)) c))) (now low)

-- A call whose span has ended takes nothing more.
abbrev KeepsTakings : ℕ → Past → Past → Type 0
KeepsTakings p between later = (has_ended p later ≡ true) × (takings_of_call p later ≡ takings_of_call p between)

settled : (s : Setup) (x : Entry) (later earlier : Past) → ReportedOf s (later ++ x ∷ earlier) x.process → has is_called x ≡ true → list_any (has is_called) (own x.process later) ≡ false → has_ended x.process later ≡ true →
    is_done (doing s x.process (later ++ x ∷ earlier)) ≡ true
settled s x later earlier t c none ended = go (is_done d) refl
  where
    d : Doing
    d = doing s x.process (later ++ x ∷ earlier)

    go : (b : Bool) → is_done d ≡ b → b ≡ true
    go true h = refl
    go false h = sym (t.unended h) ∙ ap (list_any (has ends_span)) (since-whole later x earlier c none ∙ sym (whole (own x.process later) none)) ∙ ended

pub keeps_takings : (s : Setup) → IsGood s → (newer : Past) (events : List Event) (between : Past) (x : Entry) (earlier : Past) → past_of s events ≡ newer ++ between ++ x ∷ earlier → has is_called x ≡ true →
    has_ended x.process between ≡ true → KeepsTakings x.process between (newer ++ between)
keeps_takings s g [] events between x earlier h c ended = (ended, refl)
keeps_takings s g (e ∷ newer) events between x earlier h c ended = go (keeps_takings s g newer o.events between x earlier o.past c ended) (one_more p e later)
  where
    p : ℕ
    p = x.process

    later : Past
    later = newer ++ between

    o : Older s e (later ++ x ∷ earlier)
    o = older s events e (later ++ x ∷ earlier) h

    a : Added s (later ++ x ∷ earlier) e
    a = added s g e (later ++ x ∷ earlier) o

    go : KeepsTakings p between later → OneMore p e later → KeepsTakings p between (e ∷ later)
    go ih (outside k) = (ap (list_any (has ends_span)) k ∙ ih.0, ap all_takings k ∙ ih.1)
    go ih (belongs i k none n) = (
      ap (list_any (has ends_span)) call ∙ or_right (has ends_span e) (list_any (has ends_span) (own p later)) (sym (ap (list_any (has ends_span)) (whole (own p later) n)) ∙ ih.0),
      ap all_takings call ∙ ap (λ l. all_takings (own p later) ++ l) nothing ∙ append-nil (all_takings (own p later)) ∙ sym (ap all_takings (whole (own p later) n)) ∙ ih.1,
    )
      where
        call : entries_of_call p (e ∷ later) ≡ e ∷ own p later
        call = whole (own p (e ∷ later)) none ∙ k

        done : is_done (doing s e.process (later ++ x ∷ earlier)) ≡ true
        done = subst (λ (q : ℕ). is_done (doing s q (later ++ x ∷ earlier)) ≡ true) (sym i) (settled s x later earlier (a.reported_of p) c n ih.0)

        quiet : SaysAfter s (later ++ x ∷ earlier) e → takings e.marks ≡ []
        quiet (begins command m q) = ap takings m
        quiet (goes t) = t.quiet done

        nothing : takings e.marks ≡ []
        nothing = quiet a.says_after

-- If two calls took a command and do not overlap, the earlier one has the lower place.
pub in_order : (s : Setup) → IsGood s → (events : List Event) (newer between earlier : Past) (x y : Entry) → past_of s events ≡ newer ++ y ∷ between ++ x ∷ earlier →
    has is_called x ≡ true → has_ended x.process between ≡ true → (k m : ℕ) (q r : Reply) →
    Contains (takings_of_call x.process (newer ++ y ∷ between)) (k, q) → Contains (takings_of_call y.process newer) (m, r) → k < m
in_order s g events newer between earlier x y h c ended k m q r takes_x takes_y =
    let after = before s newer events (y ∷ between ++ x ∷ earlier) split in
    let o = older s after.0 y (between ++ x ∷ earlier) after.1 in
    let first = keeps_takings s g (y ∷ []) after.0 between x earlier after.1 c ended in
    let all = keeps_takings s g newer events (y ∷ between) x earlier h c first.0 in
    let own_x : Contains (takings_of_call x.process between) (k, q) = subst (λ l. Contains l (k, q)) (all.1 ∙ first.1) takes_x in
    let low = (within s g between o.events (x ∷ earlier) x.process k q o.past own_x).1 in
    let high = (within s g newer events (y ∷ between ++ x ∷ earlier) y.process m r split takes_y).0 in
    let grows = (added s g y (between ++ x ∷ earlier) o).grows in
    omega (arith, low, high, grows)
  where
    split : past_of s events ≡ newer ++ (y ∷ between ++ x ∷ earlier)
    split = h ∙ append_assoc newer (y ∷ between) (x ∷ earlier)
