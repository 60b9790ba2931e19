-- What an observer of a record stores, with one more entry.
use Rattle.std.proofs.Common.{◌≡◌, ℕ, ◌<◌, ◌==◌, true, false, true≢false, eqb-true, List, [], ◌∷◌, ◌++◌, length, reverse, take, Option, None, Some, Ok, refl, ap, sym, subst, ◌∙◌, arith, append-nil, append_assoc}
use Rattle.std.specs.Prelude.{OnOk, Result, Err, min}
use Rattle.std.specs.Prelude.{option_map}
use Rattle.std.specs.Option.{option_to_list}
use Rattle.std.proofs.Math.Seq.{take-append_seam, take-nil}
use Rattle.std.proofs.lemmas.List.{length-append, length-reverse, length-take, reverse-append, reverse-reverse, take-append-le, take_at}
use Rattle.plain_store.specs.{Reply, Setup, checked}
use Rattle.model.specs.{Access, Entry, Event, Mark, Past, Taken, entry_of, history, past_of, reply_taken}
use Rattle.model.proofs.Width.{is_good}
use Rattle.calls.specs.world.laws.{Doing, doing}
use Rattle.calls.specs.world.process.{number_read, process_after}
use Rattle.calls.specs.world.{CoreState, InEachCorePast}
use Rattle.calls.proofs.world_proofs.laws_proofs.Frame.{Happens, a_call, a_closing, a_failure, a_restart, a_step, a_withdrawal}
use Rattle.calls.proofs.world_proofs.laws_proofs.FrameEvents.{accepted}
use Rattle.judge.specs.{HasAudited, HasJudged, JudgeState}
use Rattle.judge.specs.ThisLockVerdicts.{newest_first, newest_is_bad, stays_bad}
use Rattle.judge.specs.auditor.{AllKeep, IsAt, IsOfEvent, IsVerdict, Law, Verdict}
use Rattle.judge.specs.safe_monitor.declared.verdicts.Verdict.TheVariants.{Good, Bad}
use Rattle.judge.proofs.auditor.Recovers.{recovers}
use Rattle.judge.proofs.auditor.Unique.{one_verdict}
use Rattle.judge.proofs.auditor.Whole.{of_events}
use Rattle.run_state.specs.{CoreShows, GoodEntries, HasObserved, HasObservedRecord, IsNext, IsStored, RecordStateObserver, StoresNext, ReportsNumber, good_ones, newest_stored, taken_with}

-- The good ones.

-- none of no items
pub good_none : {A : Type 0} (v : Verdict Law) → let none : List A = [] in good_ones v none ≡ none
good_none Good = refl
good_none (Bad k l) = take-nil k

-- a bad entry is one of the entries
bad_within : (s : Setup) (entries : List Entry) (k : ℕ) (l : Law) → IsVerdict s entries (Bad k l) → k < length entries
bad_within s entries k l is =
    let all : length (reverse entries) ≡ length (is.at.later ++ is.entry ∷ is.past) = ap (λ (p : Past). length p) is.at.splits in
    let parts = length-append is.at.later (is.entry ∷ is.past) in
    omega (arith, all, parts, is.at.number, length-reverse entries)

-- with one more entry, if the record is bad then, they are the same
pub bad_same : {A : Type 0} (s : Setup) (entries : List Entry) (e : Entry) (v v' : Verdict Law) (items : List A) (item : A) → length items ≡ length entries → IsVerdict s entries v → IsVerdict s (entries ++ e ∷ []) v' → (v' ≡ Good → ⊥) →
    good_ones v' (items ++ item ∷ []) ≡ good_ones v items
bad_same s entries e Good Good items item long was is bad = absurd (bad refl)
bad_same s entries e Good (Bad k l) items item long was is bad =
    let place : k ≡ length items = newest_is_bad s entries e k l was is ∙ sym long in
    ap (λ m. take m (items ++ item ∷ [])) place ∙ take-append_seam items (item ∷ [])
bad_same s entries e (Bad k l) v' items item long was is bad =
    let same : v' ≡ Bad k l = one_verdict s (entries ++ e ∷ []) v' (Bad k l) is (stays_bad s entries e k l was) in
    let within : k < length entries = bad_within s entries k l was in
    ap (λ (v : Verdict Law). good_ones v (items ++ item ∷ [])) same ∙ take-append-le k items (item ∷ []) (omega (arith, within, long))

-- where the record is good with one more entry, it was good before
pub good_before : (s : Setup) (entries : List Entry) (e : Entry) (v v' : Verdict Law) → IsVerdict s entries v → IsVerdict s (entries ++ e ∷ []) v' → v' ≡ Good → v ≡ Good
good_before s entries e Good v' was is good = refl
good_before s entries e (Bad k l) v' was is good =
    let same : v' ≡ Bad k l = one_verdict s (entries ++ e ∷ []) v' (Bad k l) is (stays_bad s entries e k l was) in
    absurd (cc)

-- The judge's core.

-- it is of the record's setup
pub core_setup : (j : JudgeState) (s : Setup) (entries : List Entry) → HasJudged j s entries → j.auditor.core.setup ≡ s
core_setup j s entries judged = by j.verdict refl judged.verdict
  where
    by : (v : Verdict Law) → j.verdict ≡ v → IsVerdict s entries v → j.auditor.core.setup ≡ s
    by Good is verdict = (judged.goes_on is).audited
    by (Bad k l) is verdict = (judged.stays k l verdict.entry verdict.past is verdict.at).setup

-- the entries before an entry are the first ones
before_is : (entries : List Entry) (k : ℕ) (e : Entry) (past : Past) → IsAt entries k e past → past ≡ reverse (take k entries)
before_is entries k e past at =
    let last : reverse (e ∷ past) ≡ reverse past ++ e ∷ [] = reverse-append (e ∷ []) past in
    let split : reverse (reverse entries) ≡ (reverse past ++ e ∷ []) ++ reverse at.later = ap reverse at.splits ∙ reverse-append at.later (e ∷ past) ∙ ap (λ l. l ++ reverse at.later) last in
    let front : entries ≡ reverse past ++ (e ∷ [] ++ reverse at.later) = sym (reverse-reverse entries) ∙ split ∙ append_assoc (reverse past) (e ∷ []) (reverse at.later) in
    sym (ap (λ l. reverse (take k l)) front ∙ ap reverse (take_at (reverse past) (e ∷ [] ++ reverse at.later) k (length-reverse past ∙ at.number)) ∙ reverse-reverse past)

-- an auditor has observed the good ones of the entries that were judged
pub audited : (j : JudgeState) (s : Setup) (entries : List Entry) → HasJudged j s entries → HasAudited j.auditor s (reverse (good_ones j.verdict entries))
audited j s entries judged = by j.verdict refl judged.verdict
  where
    by : (v : Verdict Law) → j.verdict ≡ v → IsVerdict s entries v → HasAudited j.auditor s (reverse (good_ones v entries))
    by Good is verdict = let both = judged.goes_on is in record { setup = both.audited; observed = both.auditor }
    by (Bad k l) is verdict =
        subst (HasAudited j.auditor s) (before_is entries k verdict.entry verdict.past verdict.at) (judged.stays k l verdict.entry verdict.past is verdict.at)

-- so its core shows them
pub shows_good : (j : JudgeState) (s : Setup) (entries : List Entry) → HasJudged j s entries → CoreShows j.auditor.core (reverse (good_ones j.verdict entries))
shows_good j s entries judged =
    let observed = (audited j s entries judged).observed in
    record { taken = history j.auditor.core.setup (reverse (good_ones j.verdict entries)); events = observed.events; shows = observed.shows; is = observed.past_is }

-- As many items.

same_length : {A B : Type 0} (n : ℕ) (xs : List A) (ys : List B) → length xs ≡ length ys → length (take n xs) ≡ length (take n ys)
same_length n xs ys same = length-take n xs ∙ ap (min n) same ∙ sym (length-take n ys)

pub good_length : {A B : Type 0} (v : Verdict Law) (xs : List A) (ys : List B) → length xs ≡ length ys → length (good_ones v xs) ≡ length (good_ones v ys)
good_length Good xs ys same = same
good_length (Bad k l) xs ys same = same_length k xs ys same

-- One more entry.

-- One more is judged.
module _ (o : RecordStateObserver) (s : Setup) (entries : List Entry) (numbers : List ℕ) (e : Entry) (m : ℕ) (h : HasObservedRecord o s entries numbers) where
  module _ (j : JudgeState) (judged : HasJudged j s (entries ++ e ∷ [])) where
    -- It is good, and so it was.
    pub was_good : j.verdict ≡ Good → o.judge.verdict ≡ Good
    was_good good = good_before s entries e o.judge.verdict j.verdict h.judged.verdict judged.verdict good

    pub all_keep : j.verdict ≡ Good → AllKeep s (e ∷ reverse entries)
    all_keep good = subst (AllKeep s) (newest_first entries e) (subst (IsVerdict s (entries ++ e ∷ [])) good judged.verdict)

    -- The core before it shows the entries before it.
    pub shown : j.verdict ≡ Good → CoreShows o.judge.auditor.core (reverse entries)
    shown good = subst (λ (v : Verdict Law). CoreShows o.judge.auditor.core (reverse (good_ones v entries))) (was_good good) (shows_good o.judge s entries h.judged)

    -- If the record is bad, nothing more is stored.
    pub bad_stays : (j.verdict ≡ Good → ⊥) → IsStored o.good s (good_ones j.verdict (entries ++ e ∷ [])) (good_ones j.verdict (numbers ++ m ∷ []))
    bad_stays bad =
        let same_entries = bad_same s entries e o.judge.verdict j.verdict entries e refl h.judged.verdict judged.verdict bad in
        let same_numbers = bad_same s entries e o.judge.verdict j.verdict numbers m h.counted h.judged.verdict judged.verdict bad in
        subst (λ (l : List Entry). IsStored o.good s l (good_ones j.verdict (numbers ++ m ∷ []))) (sym same_entries)
        (subst (λ (l : List ℕ). IsStored o.good s (good_ones o.judge.verdict entries) l) (sym same_numbers) h.stores)

    -- If it is good, the entry is stored.
    pub good_stored : (read : ℕ) (taken : Option Taken) (stored : GoodEntries) → j.verdict ≡ Good → IsNext s (reverse entries) e read → taken ≡ taken_with s (reverse entries) e.process e.marks →
        StoresNext o.good stored m e read taken → IsStored stored s (good_ones j.verdict (entries ++ e ∷ [])) (good_ones j.verdict (numbers ++ m ∷ []))
    good_stored read taken stored good next takes stores =
        let was : IsStored o.good s entries numbers = subst (λ (v : Verdict Law). IsStored o.good s (good_ones v entries) (good_ones v numbers)) (was_good good) h.stores in
        subst (λ (v : Verdict Law). IsStored stored s (good_ones v (entries ++ e ∷ [])) (good_ones v (numbers ++ m ∷ []))) (sym good) (stores s entries numbers next takes was)

-- A good entry.

accesses_if_unmarked : (s : Setup) (past : Past) (p : ℕ) (e : Entry) (d d' : Doing) → Happens s past p e d d' → e.marks ≡ [] → (a : Access) × (e.access ≡ Some a)
accesses_if_unmarked s past p e d d' (a_call command number rests access marks then) none = let two = sym marks ∙ none in absurd (cc)
accesses_if_unmarked s past p e d d' (a_withdrawal command number t w ws run runs access marks then) none = let two = sym marks ∙ none in absurd (cc)
accesses_if_unmarked s past p e d d' (a_failure command number may access marks then) none = let two = sym marks ∙ none in absurd (cc)
accesses_if_unmarked s past p e d d' (a_restart lies access marks then) none = let two = sym marks ∙ none in absurd (cc)
accesses_if_unmarked s past p e d d' (a_step command number at a flick runs goes access valued marks then) none = (a, access)
accesses_if_unmarked s past p e d d' (a_closing command number at flick n closes next access ended marks then) none = (n.access, access)

-- it may come next
pub next_is : (s : Setup) → checked s ≡ Ok tt → (past : Past) (e : Entry) (read : ℕ) → AllKeep s (e ∷ past) → read ≡ number_read (doing s e.process past) → IsNext s past e read
next_is s good past e read all is =
    let before : (events : List Event) × (past_of s events ≡ past) = of_events s past all.1 in
    let here : IsOfEvent s past e = recovers s past e all.0 in
    let happens = accepted s (is_good s good) before.0 here.0 e (ap (λ l. entry_of s l here.0) before.1 ∙ here.1) in
    record {
      process = happens.below;
      unmarked = λ none. let access = accesses_if_unmarked s (past_of s before.0) e.process e _ _ happens.happens none in (access.0, access.1, λ ends. is);
    }

-- what a core gives in each past that it shows
pub in_shown : (c : CoreState) (s : Setup) (P : Setup → Past → Type 0) (past : Past) → c.setup ≡ s → CoreShows c past → InEachCorePast c P → P s past
in_shown c s P past same shows each = subst (λ (t : Setup). P t past) same (subst (P c.setup) shows.is (each shows.taken shows.events shows.shows))

-- the history goes on by what is taken
history_by : (taken : List Taken) (f : Reply → Taken) (o : Option Reply) → elim o as (λ _. List Taken) [ None ↦ taken | Some r ↦ taken ++ f r ∷ [] ] ≡ taken ++ option_to_list (option_map f o)
history_by taken f None = sym (append-nil taken)
history_by taken f (Some r) = refl

history_more : (s : Setup) (past : Past) (e : Entry) (taken : Option Taken) → taken ≡ taken_with s past e.process e.marks → history s past ++ option_to_list taken ≡ history s (e ∷ past)
history_more s past e taken is =
    ap (λ o. history s past ++ option_to_list o) is
    ∙ sym (history_by (history s past) (λ r. record { process = e.process; command = (process_after s past e.process).command; reply = r; number = (process_after s past e.process).number }) (reply_taken e.marks))

-- the newest entry is stored
newest_more : (entries : List Entry) (numbers : List ℕ) (e : Entry) (m : ℕ) → newest_stored (reverse (numbers ++ m ∷ [])) (reverse (entries ++ e ∷ [])) ≡ Some (record { line = m; entry = e })
newest_more entries numbers e m = λ i. newest_stored (reverse-append numbers (m ∷ []) i) (reverse-append entries (e ∷ []) i)

-- all of it is stored
pub stored : (old new : GoodEntries) (m : ℕ) (e : Entry) (read : ℕ) (taken : Option Taken) → new.observed_run.setup ≡ old.observed_run.setup → ((past : Past) → IsNext old.observed_run.setup past e read → HasObserved old.observed_run past → HasObserved new.observed_run (e ∷ past)) →
    new.taken.items ≡ old.taken.items ++ option_to_list taken → new.newest ≡ Some (record { line = m; entry = e }) → StoresNext old new m e read taken
stored old new m e read taken setup observed history_is newest s entries numbers next takes was =
    let past : Past = reverse entries in
    let first : reverse (entries ++ e ∷ []) ≡ e ∷ past = newest_first entries e in
    record {
      observed_run = setup ∙ was.observed_run;
      observed = subst (HasObserved new.observed_run) (sym first) (observed past (subst (λ (t : Setup). IsNext t past e read) (sym was.observed_run) next) was.observed);
      newest = newest ∙ sym (newest_more entries numbers e m);
      taken = history_is ∙ ap (λ l. l ++ option_to_list taken) was.taken ∙ history_more s past e taken takes ∙ ap (history s) (sym first);
    }

-- The observer.

-- nothing was observed yet
pub observes_none : (o : RecordStateObserver) (s : Setup) → o.setup ≡ s → HasJudged o.judge s [] → o.good.observed_run.setup ≡ s → HasObserved o.good.observed_run [] → o.good.newest ≡ None → o.good.taken.items ≡ [] → HasObservedRecord o s [] []
observes_none o s setup judged observed_run observed newest taken = record {
  setup = setup;
  counted = refl;
  judged = judged;
  stores = subst (λ (l : List Entry). IsStored o.good s l (good_ones o.judge.verdict [])) (sym (good_none o.judge.verdict))
      (subst (λ (l : List ℕ). IsStored o.good s [] l) (sym (good_none o.judge.verdict)) (record { observed_run = observed_run; observed = observed; newest = newest; taken = taken }));
}

-- Parts of what the code finds.

pub ok_all : {X E : Type 0} (r : Result X E) {A B C D : Type 0} → (A → B → C → D) → OnOk r A → OnOk r B → OnOk r C → OnOk r D
ok_all (Ok x) leads a b c = leads a b c
ok_all (Err e) leads a b c = tt

pub empty_is : (marks : List Mark) → (length marks == 0) ≡ true → marks ≡ []
empty_is [] is = refl
empty_is (m ∷ marks) is = let none : length (m ∷ marks) ≡ 0 = eqb-true (length (m ∷ marks)) 0 is in absurd (omega (arith, none))

pub some_is : (marks : List Mark) → (length marks == 0) ≡ false → marks ≡ [] → ⊥
some_is marks is none = true≢false (sym (ap (λ (l : List Mark). length l == 0) none) ∙ is)

-- an entry that may come next and has no access has marks
pub marked_if_still : (s : Setup) (past : Past) (e : Entry) (read : ℕ) → IsNext s past e read → e.access ≡ None → e.marks ≡ [] → ⊥
marked_if_still s past e read next still none = let unmarked = next.unmarked none in let two = sym still ∙ unmarked.1 in absurd (cc)

-- before an access without a mark, this was read of the number
pub reports_read : (s : Setup) (past : Past) (e : Entry) (a : Access) (read : ℕ) → IsNext s past e read → e.marks ≡ [] → e.access ≡ Some a → ReportsNumber s past e.process a read
reports_read s past e a read next none is =
    let unmarked = next.unmarked none in
    let two : Some unmarked.0 ≡ Some a = sym unmarked.1 ∙ is in
    let same : unmarked.0 ≡ a = cc in
    subst (λ (a : Access). ReportsNumber s past e.process a read) same unmarked.2
