-- `Ask` returns the number of the asker's latest change, and so shows whether a cut call was taken.
use Rattle.std.proofs.Common.{◌≡◌, ℕ, zero, suc, ◌+◌, ◌<◌, ◌==◌, ◌||◌, false, List, [], ◌∷◌, Some, fold, length, take, drop, replicate, slice_get, refl, sym, ap, subst, ◌∙◌, arith, ne_eqb, IsTrue}
use Rattle.std.proofs.Math.Bool.{or-false}
use Rattle.std.proofs.lemmas.List.{take-append-drop}
use Rattle.plain_store.specs.{Command, Contents, callers_of, number_of, opening_store, reply_to}
use Rattle.plain_store.specs.declared.Reply.TheVariants.{Last}
use Rattle.model.specs.{AskAnswersTheLatestChange, AskReportsOfCutCalls, Taken, TakenInHistory, has_change, history, latest_change, past_of, store_after}
use Rattle.model.proofs.Width.{is_good}
use Rattle.history_laws.proofs.CountedChanges.{then}
use Rattle.history_laws.proofs.HistoryItems.{each_has_its_reply, each_is_kept, numbers_ascend}
use Rattle.history_laws.proofs.StoreNumbers.{Ascends, Each, IsKept, has_change-append, latest_is, latest_is_there, none_passes, number_is_latest}

zero-of : (n p : ℕ) → number_of (replicate n 0) p ≡ 0
zero-of zero p = refl
zero-of (suc n) zero = refl
zero-of (suc n) (suc p) = zero-of n p

-- Parts of a list.

of-take : {X : Type 0} (xs : List X) (k j : ℕ) (x : X) → slice_get (take k xs) j ≡ Some x → slice_get xs j ≡ Some x
of-take xs zero j x h = cc
of-take [] (suc k) j x h = cc
of-take (y ∷ xs) (suc k) zero x h = h
of-take (y ∷ xs) (suc k) (suc j) x h = of-take xs k j x h

of-drop : {X : Type 0} (xs : List X) (k j : ℕ) (x : X) → slice_get (drop k xs) j ≡ Some x → slice_get xs (k + j) ≡ Some x
of-drop xs zero j x h = ap (slice_get xs) (omega arith) ∙ h
of-drop [] (suc k) j x h = cc
of-drop (y ∷ xs) (suc k) j x h = let next : suc k + j ≡ suc (k + j) = omega arith in ap (slice_get (y ∷ xs)) next ∙ of-drop xs k j x h

-- `Ask` returns the number of the asker's latest change before its place, or 0.
pub ask_answers : TakenInHistory → AskAnswersTheLatestChange
ask_answers law s good events given k t at asks =
    each_has_its_reply law s good events given k t at
    ∙ ap (λ (c : Command). reply_to (store_after s before) c (record { process = t.process; number = t.number })) asks
    ∙ ap Last (number_is_latest t.process (opening_store s) before kept ∙ ap (latest_change t.process (opening_store s) before) (zero-of (callers_of s) t.process))
  where
    before : List Taken
    before = take k (history s (past_of s events))

    kept : Each (IsKept (length (opening_store s).numbers)) before
    kept j u h = each_is_kept s (is_good s good) events given j u (of-take (history s (past_of s events)) k j u h)

-- no command of t's process from place k on has number m, if t is at place k and has a greater number
later-pass : (h : List Taken) → Ascends h → (k m : ℕ) (t : Taken) → slice_get h k ≡ Some t → m < t.number → Each (λ u. u.process ≡ t.process → (u.number == m) ≡ false) (drop k h)
later-pass h up k m t at above j u here same = go j (of-drop h k j u here)
  where
    apart : (n : ℕ) → m < n → (n == m) ≡ false
    apart n h = ne_eqb n m (λ same. omega (arith, h, same))

    go : (j : ℕ) → slice_get h (k + j) ≡ Some u → (u.number == m) ≡ false
    go zero there = let same_place : Some t ≡ Some u = sym at ∙ ap (slice_get h) (omega arith) ∙ there in let is : t ≡ u = cc in apart u.number (subst (λ (x : Taken). m < x.number) is above)
    go (suc j) there = let less = up k (k + suc j) t u (omega arith) at there (sym same) in apart u.number (omega (arith, less, above))

-- If no later change of the asker precedes it, call m was taken as a change exactly if the answer to `Ask` is `Last(m)`.
pub ask_reports : TakenInHistory → AskReportsOfCutCalls
ask_reports law s good events given two k m t at asks some above none = (there, back)
  where
    p : ℕ
    p = t.process

    store : Contents
    store = opening_store s

    h : List Taken
    h = history s (past_of s events)

    before : List Taken
    before = take k h

    up : Ascends h
    up = numbers_ascend s (is_good s good) two events given

    up-before : Ascends before
    up-before i j u v less at_i at_j = up i j u v less (of-take h k i u at_i) (of-take h k j v at_j)

    latest : ℕ
    latest = latest_change p store before 0

    answers : t.reply ≡ Last latest
    answers = ask_answers law s good events given k t at asks

    parts : has_change p (λ n. n == m) store h ≡ (has_change p (λ n. n == m) store before || has_change p (λ n. n == m) (fold then store before) (drop k h))
    parts = ap (has_change p (λ n. n == m) store) (sym (take-append-drop k h)) ∙ has_change-append p (λ n. n == m) store before (drop k h)

    late : has_change p (λ n. n == m) (fold then store before) (drop k h) ≡ false
    late = none_passes p (λ n. n == m) (fold then store before) (drop k h) (later-pass h up k m t at above)

    same-before : has_change p (λ n. n == m) store h ≡ has_change p (λ n. n == m) store before
    same-before = parts ∙ ap (λ b. has_change p (λ n. n == m) store before || b) late ∙ or-false (has_change p (λ n. n == m) store before)

    there : IsTrue (has_change p (λ n. n == m) store h) → t.reply ≡ Last m
    there is = answers ∙ ap Last (latest_is m p store before 0 up-before none (sym same-before ∙ is))

    back : t.reply ≡ Last m → IsTrue (has_change p (λ n. n == m) store h)
    back is =
        let same : Last latest ≡ Last m = sym answers ∙ is in
        let is_m : latest ≡ m = cc in
        same-before ∙ latest_is_there m p store before 0 (λ z. omega (arith, some, z)) is_m
