-- Each mark keeps the calls of one process consistent with the list of changes, given the stage, the calls and the taken commands of the process.
use Rattle.std.proofs.Common.{◌≡◌, ℕ, suc, ◌+◌, ◌≤◌, ◌==◌, Bool, true, false, cond, List, [], ◌∷◌, ◌++◌, length, take, slice_get, Option, None, Some, refl, sym, ap, subst, ◌∙◌, arith}
use Rattle.std.specs.Prelude.{IfSome, option_map}
use Rattle.std.proofs.lemmas.List.{length-append}
use Rattle.plain_store.specs.{Answer, Caller, Command, Contents, Reply, Setup, changes, reply_to}
use Rattle.plain_store.specs.declared.Answer.TheVariants as answer
use Rattle.model.specs.{IsAnswerTo, Placed, Stage, Taken, is_at_rest, store_after}
use Rattle.model.specs.declared.stages.Stage.TheVariants as stage
use Rattle.board.specs.{PlacedAsAnswered, FitsAt, FitsChanges, and_then, called, caller_of, change_at, place_after, store_at}
use Rattle.board.proofs.FittingCalls.{ComesLast, behind_all, comes_last, last_is, fits_front, fits_longer, fits_push, store-longer}

-- the caller of the last of n calls
abbrev pub last_caller : Setup → ℕ → ℕ → Caller
last_caller s p n = record { process = p; number = cond (s.version == 2) n 0 }

-- the commands that a call has taken, by its position: none without a position, and otherwise one command, with the reply of the store at that position
abbrev pub TookFrom : Setup → List Taken → Caller → Command → Option ℕ → List (ℕ × Reply) → Type 0
TookFrom s list caller command None taken = taken ≡ []
TookFrom s list caller command (Some place) taken = (k : ℕ) × (taken ≡ (k, reply_to (store_at s list place) command caller) ∷ [])

-- the state of an unfinished call, the last of n: its command, and the commands that it has taken
pub record IsNow (s : Setup) (p n : ℕ) (command : Command) (taken : List (ℕ × Reply)) (list : List Taken) (call : Placed) : Type 0 where
  pub same : call.command ≡ command
  pub unanswered : call.answer ≡ None
  pub took : TookFrom s list (last_caller s p n) call.command call.place taken

-- the state of the calls of a process that is in this stage and has called n times, last with this command; that call has taken these commands
pub record StageFits (s : Setup) (p : ℕ) (st : Stage) (n : ℕ) (command : Command) (taken : List (ℕ × Reply)) (list : List Taken) (done : List Placed) (now : Option Placed) : Type 0 where
  pub rests : is_at_rest st ≡ true → now ≡ None
  pub count : length (and_then done now) ≡ n
  pub last : IfSome now (IsNow s p n command taken list)
  pub fits : FitsChanges s p (and_then done now) list

-- A process that has not called.
pub stage_fits_none : (s : Setup) (p : ℕ) → StageFits s p stage.Idle 0 Rattle.plain_store.specs.declared.Command.TheVariants.Ask [] [] [] None
stage_fits_none s p = record {
  rests = λ _. refl;
  count = refl;
  last = tt;
  fits = record { taken = λ k place call at is. cc; answered = λ k call at. cc; order = λ j k place next call later less at_j at_k is is_next. cc };
}

-- A call begins.
pub stage_fits_called : (s : Setup) (p : ℕ) (st then : Stage) (n : ℕ) (command next : Command) (taken : List (ℕ × Reply)) (list : List Taken) (done : List Placed) (now : Option Placed) → is_at_rest st ≡ true → is_at_rest then ≡ false →
    StageFits s p st n command taken list done now → StageFits s p then (suc n) next [] list done (Some (called next))
stage_fits_called s p st then n command next taken list done now quiet busy h = by now (h.rests quiet) h.count h.fits
  where
    by : (now : Option Placed) → now ≡ None → length (and_then done now) ≡ n → FitsChanges s p (and_then done now) list → StageFits s p then (suc n) next [] list done (Some (called next))
    by None is count fits = record {
      rests = λ q. let f : true ≡ false = sym q ∙ busy in cc;
      count = let l : length (done ++ called next ∷ []) ≡ length done + 1 = length-append done (called next ∷ []) in omega (arith, l, count);
      last = record { same = refl; unanswered = refl; took = refl };
      fits = fits_push s p done list (called next) fits tt (λ place is. cc);
    }
    by (Some call) is count fits = cc

-- The stage changes.
pub stage_fits_on : (s : Setup) (p : ℕ) (st then : Stage) (n : ℕ) (command : Command) (taken : List (ℕ × Reply)) (list : List Taken) (done : List Placed) (now : Option Placed) → (is_at_rest then ≡ true → is_at_rest st ≡ true) →
    StageFits s p st n command taken list done now → StageFits s p then n command taken list done now
stage_fits_on s p st then n command taken list done now quiet h = record { rests = λ q. h.rests (quiet q); count = h.count; last = h.last; fits = h.fits }

-- The list of changes grows.
took_longer : (s : Setup) (list more : List Taken) (caller : Caller) (command : Command) (place : Option ℕ) (taken : List (ℕ × Reply)) → ((k : ℕ) → place ≡ Some k → k ≤ length list) → TookFrom s list caller command place taken → TookFrom s (list ++ more) caller command place taken
took_longer s list more caller command None taken within h = h
took_longer s list more caller command (Some place) taken within h = (h.0, h.1 ∙ ap (λ (x : Contents). (h.0, reply_to x command caller) ∷ []) (sym (store-longer s list more place (within place refl))))

pub stage_fits_longer : (s : Setup) (p : ℕ) (st : Stage) (n : ℕ) (command : Command) (taken : List (ℕ × Reply)) (list more : List Taken) (done : List Placed) (now : Option Placed) → StageFits s p st n command taken list done now →
    StageFits s p st n command taken (list ++ more) done now
stage_fits_longer s p st n command taken list more done now h = record {
  rests = h.rests;
  count = h.count;
  last = by now h.last h.fits;
  fits = fits_longer s p (and_then done now) list more h.fits;
}
  where
    by : (now : Option Placed) → IfSome now (IsNow s p n command taken list) → FitsChanges s p (and_then done now) list → IfSome now (IsNow s p n command taken (list ++ more))
    by None h fits = tt
    by (Some call) h fits = record {
      same = h.same;
      unanswered = h.unanswered;
      took = took_longer s list more (last_caller s p n) call.command call.place taken (λ k is. (comes_last s p done list call fits k is).fits.within) h.took;
    }

-- A command is taken, with the reply of the store, and adds a change if it is one.
abbrev pub one_change : Setup → List Taken → Caller → Command → Reply → List Taken
one_change s list caller command reply = cond (changes (store_after s list) command) (record { process = caller.process; command = command; reply = reply; number = caller.number } ∷ []) []

abbrev pub taken_here : ℕ → Option Placed → Option Placed
taken_here place now = option_map (λ (call : Placed). record call { place = Some place }) now

store-front : (s : Setup) (list more : List Taken) → store_at s (list ++ more) (length list) ≡ store_after s list
store-front s list more = store-longer s list more (length list) (omega arith) ∙ ap (store_after s) (take-all list)
  where
    take-all : (xs : List Taken) → take (length xs) xs ≡ xs
    take-all [] = refl
    take-all (x ∷ xs) = ap (λ (ys : List Taken). x ∷ ys) (take-all xs)

-- the last change is that of the command, if it is one
last_change : (list : List Taken) (b : Bool) (t : Taken) → b ≡ true → slice_get (list ++ cond b (t ∷ []) []) (length list) ≡ Some t
last_change list true t h = last_is list t
last_change list false t h = cc

pub stage_fits_taken : (s : Setup) (p : ℕ) (st then : Stage) (n : ℕ) (command : Command) (k : ℕ) (r : Reply) (list : List Taken) (done : List Placed) (now : Option Placed) → (is_at_rest then ≡ true → is_at_rest st ≡ true) →
    r ≡ reply_to (store_after s list) command (last_caller s p n) → StageFits s p st n command [] list done now →
    StageFits s p then n command ((k, r) ∷ []) (list ++ one_change s list (last_caller s p n) command r) done (taken_here (length list) now)
stage_fits_taken s p st then n command k r list done None quiet reply h = record {
  rests = λ _. refl;
  count = h.count;
  last = tt;
  fits = fits_longer s p done list (one_change s list (last_caller s p n) command r) h.fits;
}
stage_fits_taken s p st then n command k r list done (Some call) quiet reply h = record {
  rests = λ q. let f : Some call ≡ None = h.rests (quiet q) in cc;
  count = length-append done (new ∷ []) ∙ (sym (length-append done (call ∷ [])) ∙ h.count);
  last = record { same = h.last.same; unanswered = h.last.unanswered; took = (k, ap (λ (q : Reply). (k, q) ∷ []) (reply ∙ ap (λ (c : Command). reply_to (store_after s list) c caller) (sym h.last.same) ∙ ap (λ (x : Contents). reply_to x call.command caller) (sym here))) };
  fits = fits_push s p done all new (fits_longer s p done list more before) (subst (λ (a : Option Answer). PlacedAsAnswered a (Some (length list))) (sym h.last.unanswered) tt) (λ place is. comes place (some-is place is));
}
  where
    caller : Caller
    caller = last_caller s p n

    more : List Taken
    more = one_change s list caller command r

    all : List Taken
    all = list ++ more

    new : Placed
    new = record call { place = Some (length list) }

    here : store_at s all (length list) ≡ store_after s list
    here = store-front s list more

    before : FitsChanges s p done list
    before = fits_front s p done (call ∷ []) list h.fits

    some-is : (place : ℕ) → Some (length list) ≡ Some place → length list ≡ place
    some-is place e = cc

    same-caller : caller_of s p (length done) ≡ caller
    same-caller =
        let l : length (done ++ call ∷ []) ≡ length done + 1 = length-append done (call ∷ []) in
        let m : length done + 1 ≡ n = sym l ∙ h.count in
        ap (λ (q : ℕ). last_caller s p q) m

    -- the change at the position is that of the command
    changed : changes (store_at s all (length list)) call.command ≡ true → slice_get all (length list) ≡ Some (change_at s all caller call.command (length list))
    changed c =
        let d : changes (store_after s list) command ≡ true = ap (λ (x : Command). changes (store_after s list) x) (sym h.last.same) ∙ (ap (λ (x : Contents). changes x call.command) (sym here) ∙ c) in
        last_change list (changes (store_after s list) command) (record { process = p; command = command; reply = r; number = caller.number }) d
        ∙ (λ i. Some (record { process = p; command = sym h.last.same i; reply = (reply ∙ (λ j. reply_to (sym here j) (sym h.last.same j) caller)) i; number = caller.number }))

    fits_there : FitsAt s all caller new (length list)
    fits_there = record {
      within = let l : length all ≡ length list + length more = length-append list more in omega (arith, l);
      reply = λ q is. let f : None ≡ Some (answer.Reply q) = sym h.last.unanswered ∙ is in cc;
      change = changed;
    }

    comes : (place : ℕ) → length list ≡ place → ComesLast s p done all new place
    comes place is = subst (ComesLast s p done all new) is (record {
      fits = subst (λ (x : Caller). FitsAt s all x new (length list)) (sym same-caller) fits_there;
      order = λ j earlier call at is_earlier. order j earlier call at is_earlier;
    })
      where
        order : (j earlier : ℕ) (first : Placed) → slice_get done j ≡ Some first → first.place ≡ Some earlier → place_after s all first.command earlier ≤ length list
        order j earlier first at is_earlier = subst (λ (x : Contents). cond (changes x first.command) (earlier + 1) earlier ≤ length list)
            (sym (store-longer s list more earlier (before.taken j earlier first at is_earlier).within)) (behind_all s p done list before j earlier first at is_earlier)

-- A call is finished: it is answered, or its process is down.
one_reply : (t u : ℕ × Reply) → t ∷ [] ≡ u ∷ [] → t.1 ≡ u.1
one_reply t u h = let same : t ≡ u = cc in ap (λ (x : ℕ × Reply). x.1) same

answered_so : (s : Setup) (list : List Taken) (caller : Caller) (command : Command) (a : Answer) (place : Option ℕ) (taken : List (ℕ × Reply)) → IsAnswerTo a taken → TookFrom s list caller command place taken → PlacedAsAnswered (Some a) place
answered_so s list caller command a place taken h k = grind arith

-- the answer is the reply of the store at the position of the call
replied_so : (s : Setup) (list : List Taken) (caller : Caller) (command : Command) (place : ℕ) (r : Reply) (taken : List (ℕ × Reply)) → IsAnswerTo (answer.Reply r) taken → TookFrom s list caller command (Some place) taken →
    r ≡ reply_to (store_at s list place) command caller
replied_so s list caller command place r taken reported took = one_reply (reported.0, r) (took.0, reply_to (store_at s list place) command caller) (sym reported.1 ∙ took.1)

pub stage_fits_answered : (s : Setup) (p : ℕ) (st then : Stage) (n : ℕ) (command : Command) (taken : List (ℕ × Reply)) (a : Answer) (list : List Taken) (done : List Placed) (now : Option Placed) → IsAnswerTo a taken →
    StageFits s p st n command taken list done now → StageFits s p then n command taken list (and_then done (option_map (λ (call : Placed). record call { answer = Some a }) now)) None
stage_fits_answered s p st then n command taken a list done None reported h = record { rests = λ _. refl; count = h.count; last = tt; fits = h.fits }
stage_fits_answered s p st then n command taken a list done (Some call) reported h = record {
  rests = λ _. refl;
  count = length-append done (new ∷ []) ∙ (sym (length-append done (call ∷ [])) ∙ h.count);
  last = tt;
  fits = fits_push s p done list new (fits_front s p done (call ∷ []) list h.fits) (answered_so s list (last_caller s p n) call.command a call.place taken reported h.last.took) comes;
}
  where
    new : Placed
    new = record call { answer = Some a }

    same-caller : caller_of s p (length done) ≡ last_caller s p n
    same-caller =
        let l : length (done ++ call ∷ []) ≡ length done + 1 = length-append done (call ∷ []) in
        let m : length done + 1 ≡ n = sym l ∙ h.count in
        ap (λ (q : ℕ). last_caller s p q) m

    reported_so : (place : ℕ) → call.place ≡ Some place → (r : Reply) → Some a ≡ Some (answer.Reply r) → r ≡ reply_to (store_at s list place) call.command (caller_of s p (length done))
    reported_so place is r e =
        let same : a ≡ answer.Reply r = cc in
        replied_so s list (last_caller s p n) call.command place r taken (subst (λ (x : Answer). IsAnswerTo x taken) same reported) (subst (λ (x : Option ℕ). TookFrom s list (last_caller s p n) call.command x taken) is h.last.took)
        ∙ ap (λ (x : Caller). reply_to (store_at s list place) call.command x) (sym same-caller)

    comes : (place : ℕ) → call.place ≡ Some place → ComesLast s p done list new place
    comes place is =
        let c = comes_last s p done list call h.fits place is in
        record { fits = record { within = c.fits.within; reply = reported_so place is; change = c.fits.change }; order = c.order }

pub stage_fits_down : (s : Setup) (p : ℕ) (st then : Stage) (n : ℕ) (command : Command) (taken : List (ℕ × Reply)) (list : List Taken) (done : List Placed) (now : Option Placed) → StageFits s p st n command taken list done now →
    StageFits s p then n command taken list (and_then done now) None
stage_fits_down s p st then n command taken list done now h = record { rests = λ _. refl; count = h.count; last = tt; fits = h.fits }
