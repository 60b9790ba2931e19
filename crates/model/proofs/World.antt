-- In every run each process is at a place of its program, at rest, or in its unit's hands.
use Rattle.std.specs.Prelude.{◌≡◌, ◌⊎◌, refl, ℕ, zero, suc, ◌==◌, nat_lt, Bool, true, false, cond, not, ◌&&◌, List, [], ◌∷◌, ◌++◌, length, map, fold, slice_get, if◌then◌else◌, Option, None, Some}
use Rattle.std.proofs.Common.{sym, ◌∙◌, ap, subst, inl, inr, append-nil, eqb-true}
use Rattle.std.specs.List.{list_any}
use Rattle.model.specs.{Access, Entry, Event, Mark, Next, Past, Raises, Refusal, Script, Stage, added, before, calls_full, entry_made, entry_of, has, history, inside, is_called, is_commit, is_failed, last_call, last_read, last_start, last_write, marks_at, nth, own, past_of, placed, process_of, program, program_from, read_so_far, refused_at, reply, settle, settles_at, since, single, singles, stage, stage_after, starts, store_read, unfinished, unit_program, value_begun, withdrawn, writing}
use Rattle.plain_store.specs.{Setup}
use Rattle.plain_store.specs.declared.Answer.TheVariants.{Withdrawn}
use Rattle.model.specs.declared.access.Field.TheVariants.{Choosing, Ticket}
use Rattle.model.specs.declared.events.Event.TheVariants.{Call, Step, Fail, Withdraw, Restart}
use Rattle.model.specs.declared.marks.Mark.TheVariants.{Called, Taken, Left, Answered, Failed, Settled, Down, Withdrew, Restarted}
use Rattle.model.specs.declared.stages.Stage.TheVariants.{Idle, Leaving, Settling, Down}
use Rattle.model.proofs.Follow.{start}
use Rattle.model.proofs.Ties.{enters}
use Rattle.model.proofs.Width.{IsGood, doing-pos}
use Rattle.model.proofs.Staging.{stage-placed, no_start-placed}
use Rattle.model.proofs.Local.{View, rests, down, runs, withdraws, fails, start-plain, running_steps, option_map-some}
use Rattle.safe_number.specs.{bits_of_number}

-- what holds of the marks of each portion holds of each entry's
abbrev pub EachPortion : (List Mark → Type 0) → Script → Type 0
EachPortion Q [] = Unit {0}
EachPortion Q (q ∷ script) = ((b1 b2 : Bool) → Q (cond b1 q.first [] ++ cond b2 q.last [])) × EachPortion Q script

abbrev pub EachNext : (List Mark → Type 0) → List Next → Type 0
EachNext Q [] = Unit {0}
EachNext Q (n ∷ ns) = Q n.marks × EachNext Q ns

pub EachNext-append : (Q : List Mark → Type 0) (ns ms : List Next) → EachNext Q ns → EachNext Q ms → EachNext Q (ns ++ ms)
EachNext-append Q [] ms h k = k
EachNext-append Q (n ∷ ns) ms h k = (h.0, EachNext-append Q ns ms h.1 k)

pub EachNext-single : (Q : List Mark → Type 0) (f l : List Mark) (xs : List Access) → ((b1 b2 : Bool) → Q (cond b1 f [] ++ cond b2 l [])) → EachNext Q (single f l xs)
EachNext-single Q f l [] h = tt
EachNext-single Q f l (a ∷ []) h = (h true true, tt)
EachNext-single Q f l (a ∷ b ∷ tail) h = (subst Q (append-nil f) (h true false), EachNext-single Q [] l (b ∷ tail) rest)
  where
    rest : (b1 b2 : Bool) → Q (cond b1 [] [] ++ cond b2 l [])
    rest true b2 = h false b2
    rest false b2 = h false b2

pub EachNext-singles : (Q : List Mark → Type 0) (script : Script) → EachPortion Q script → EachNext Q (singles script)
EachNext-singles Q [] h = tt
EachNext-singles Q (q ∷ script) h = EachNext-append Q (single q.first q.last q.accesses) (singles script) (EachNext-single Q q.first q.last q.accesses h.0) (EachNext-singles Q script h.1)

pub EachNext-get : (Q : List Mark → Type 0) → Q [] → (ns : List Next) (k : ℕ) → EachNext Q ns → Q (elim (slice_get ns k) as (λ _. List Mark) [ None ↦ [] | Some n ↦ n.marks ])
EachNext-get Q e [] zero h = e
EachNext-get Q e [] (suc k) h = e
EachNext-get Q e (n ∷ ns) zero h = h.0
EachNext-get Q e (n ∷ ns) (suc k) h = EachNext-get Q e ns k h.1

pub each_marks : (Q : List Mark → Type 0) → Q [] → (script : Script) (k : ℕ) → EachPortion Q script → Q (marks_at k script)
each_marks Q e script k h = EachNext-get Q e (singles script) k (EachNext-singles Q script h)

-- the marks begin no program, and leave the stage at one or bring it to the other
abbrev pub Keeps : Stage → Stage → List Mark → Type 0
Keeps x y ms = (list_any starts ms ≡ false) × ((fold stage_after x ms ≡ x) ⊎ (fold stage_after x ms ≡ y))

pub withdrawn-keeps : (c : Rattle.model.specs.Scripts.Call) (k : ℕ) → Keeps Leaving Idle (marks_at k (withdrawn c))
withdrawn-keeps c k = each_marks (Keeps Leaving Idle) (refl, inl refl) (withdrawn c) k (go, tt)
  where
    go : (b1 b2 : Bool) → Keeps Leaving Idle (cond b1 [] [] ++ cond b2 (Answered Withdrawn ∷ []) [])
    go true true = (refl, inr refl)
    go true false = (refl, inl refl)
    go false true = (refl, inr refl)
    go false false = (refl, inl refl)

pub unit-keeps : (c : Rattle.model.specs.Scripts.Call) (past : Past) (v : Bool) (k : ℕ) → Keeps Settling Down (marks_at k (unit_program c past v))
unit-keeps c past v k = each_marks (Keeps Settling Down) (refl, inl refl) (unit_program c past v) k (portions (unfinished c.setup.processes (last_write past)))
  where
    clears : (i b1 b2 : Bool) → Keeps Settling Down (cond b1 (cond i (Left ∷ []) []) [] ++ cond b2 [] [])
    clears true true true = (refl, inl refl)
    clears true true false = (refl, inl refl)
    clears true false true = (refl, inl refl)
    clears true false false = (refl, inl refl)
    clears false true true = (refl, inl refl)
    clears false true false = (refl, inl refl)
    clears false false true = (refl, inl refl)
    clears false false false = (refl, inl refl)

    lowers : (b1 b2 : Bool) → Keeps Settling Down (cond b1 [] [] ++ cond b2 (Down ∷ []) [])
    lowers true true = (refl, inr refl)
    lowers true false = (refl, inl refl)
    lowers false true = (refl, inr refl)
    lowers false false = (refl, inl refl)

    settles : (r : Rattle.plain_store.specs.declared.Reply.Reply) (t b1 b2 : Bool) → Keeps Settling Down (cond b1 [] [] ++ cond b2 (Settled v ∷ cond t (Taken 0 r ∷ []) []) [])
    settles r true true true = (refl, inl refl)
    settles r true true false = (refl, inl refl)
    settles r true false true = (refl, inl refl)
    settles r true false false = (refl, inl refl)
    settles r false true true = (refl, inl refl)
    settles r false true false = (refl, inl refl)
    settles r false false true = (refl, inl refl)
    settles r false false false = (refl, inl refl)

    Q : List Mark → Type 0
    Q = Keeps Settling Down

    portions : (o : Option Access) → EachPortion Q (settle c past v o
        ++ writing c Ticket (bits_of_number c.setup.ticket_bits 0) (cond (inside c.process past) (Left ∷ []) []) []
        ∷ writing c Choosing (false ∷ []) [] (Down ∷ []) ∷ [])
    portions None = (clears (inside c.process past), (lowers, tt))
    portions (Some a) = (
      settles (reply c (store_read c (last_read (read_so_far c.setup (since is_called past)).finished)))
          (is_commit a.field && (if v then value_begun past else not (value_begun past))),
      (clears (inside c.process past), (lowers, tt)),
    )

pub refused-idle : (p : ℕ) (c : Rattle.plain_store.specs.declared.Command.Command) (st : Stage) → refused_at (Call p c) st ≡ None → st ≡ Idle
refused-idle p c Idle h = refl
refused-idle p c _ h = cc

-- one entry of a process, from its view before to its view after
pub entry_view : (s : Setup) → IsGood s → (past : Past) (event : Event) (e : Entry) →
    refused_at event (stage (process_of event) past) ≡ None → View s (process_of event) (own (process_of event) past) (stage (process_of event) past) → added s past event ≡ Some e →
    (e.process ≡ process_of event) × View s (process_of event) (e ∷ own (process_of event) past) (fold stage_after (stage (process_of event) past) e.marks)
entry_view s g past (Call p c) e h v a =
    let d : record { process = p; access = None; marks = Called c ∷ [] } ≡ e = cc in
    let P : Entry → Type 0 = λ e. (e.process ≡ p) × View s p (e ∷ own p past) (fold stage_after (stage p past) e.marks) in
    subst P d (
      refl,
      runs (record {
        command = c;
        begun = refl;
        same = refl;
        at = start;
        corresponds = record { done = []; count = refl; bits = refl; script = λ more. refl; within = doing-pos (last_call s p (record { process = p; access = None; marks = Called c ∷ [] } ∷ own p past)) g Raises; fresh = λ _. refl };
        not_over = refl;
        tied = enters (last_call s p (record { process = p; access = None; marks = Called c ∷ [] } ∷ own p past)) g Raises;
        stage = refl;
      }),
    )
entry_view s g past (Fail p) e h v a =
    let d : record { process = p; access = None; marks = Failed ∷ [] } ≡ e = cc in
    let P : Entry → Type 0 = λ e. (e.process ≡ p) × View s p (e ∷ own p past) (fold stage_after (stage p past) e.marks) in
    subst P d (refl, fails refl refl)
entry_view s g past (Withdraw p) e h v a =
    let d : record { process = p; access = None; marks = Withdrew ∷ [] } ≡ e = cc in
    let P : Entry → Type 0 = λ e. (e.process ≡ p) × View s p (e ∷ own p past) (fold stage_after (stage p past) e.marks) in
    subst P d (refl, withdraws refl refl)
entry_view s g past (Restart p) e h v a =
    let d : record { process = p; access = None; marks = Restarted ∷ [] } ≡ e = cc in
    let P : Entry → Type 0 = λ e. (e.process ≡ p) × View s p (e ∷ own p past) (fold stage_after (stage p past) e.marks) in
    subst P d (refl, rests refl)
entry_view s g past (Step p flick) e h v a = (same, go v)
  where
    mine : Past
    mine = own p past

    len : ℕ
    len = length (since starts mine)

    made : (n : Next) × (nth len (program s p flick mine) ≡ Some n) × (entry_made s past p flick n ≡ e)
    made = option_map-some (entry_made s past p flick) (nth len (program s p flick mine)) e a

    same : e.process ≡ p
    same = ap (λ (e : Entry). e.process) (sym made.2)

    bare : Entry
    bare = record { process = p; access = Some (Rattle.model.specs.Moves.valued s past flick made.0.access); marks = [] }

    marks_is : e.marks ≡ map (placed (length (history s past))) (marks_at len (program s p flick (bare ∷ mine)))
    marks_is = ap (λ (e : Entry). e.marks) (sym made.2)

    -- a step whose program's marks keep x, or bring the stage to y
    kept : (x y : Stage) (m : Mark) → last_start mine ≡ Some m → stage p past ≡ x → Keeps x y (marks_at len (program_from s p flick (bare ∷ mine) (Some m))) →
        (last_start (e ∷ mine) ≡ Some m) × ((fold stage_after (stage p past) e.marks ≡ x) ⊎ (fold stage_after (stage p past) e.marks ≡ y))
    kept x y m b st k = (start-plain e mine plain ∙ b, last k.1)
      where
        ms : List Mark
        ms = marks_at len (program_from s p flick (bare ∷ mine) (Some m))

        is : e.marks ≡ map (placed (length (history s past))) ms
        is = marks_is ∙ ap (λ o. map (placed (length (history s past))) (marks_at len (program_from s p flick (bare ∷ mine) o))) b

        plain : has starts e ≡ false
        plain = ap (list_any starts) is ∙ no_start-placed (length (history s past)) ms ∙ k.0

        to : fold stage_after (stage p past) e.marks ≡ fold stage_after x ms
        to = ap (fold stage_after (stage p past)) is ∙ stage-placed (length (history s past)) (stage p past) ms ∙ ap (λ u. fold stage_after u ms) st

        last : (fold stage_after x ms ≡ x) ⊎ (fold stage_after x ms ≡ y) → (fold stage_after (stage p past) e.marks ≡ x) ⊎ (fold stage_after (stage p past) e.marks ≡ y)
        last (inl q) = inl (to ∙ q)
        last (inr q) = inr (to ∙ q)

    go : View s p mine (stage p past) → View s p (e ∷ mine) (fold stage_after (stage p past) e.marks)
    go (rests i) = let f : refused_at (Step p flick) Idle ≡ None = ap (refused_at (Step p flick)) (sym i) ∙ h in cc
    go (down i) = let f : refused_at (Step p flick) Down ≡ None = ap (refused_at (Step p flick)) (sym i) ∙ h in cc
    go (runs r) = (running_steps s g p past (stage p past) flick r e a).1
    go (withdraws b st) = out (kept Leaving Idle Withdrew b st (withdrawn-keeps (last_call s p (bare ∷ mine)) len))
      where
        out : (last_start (e ∷ mine) ≡ Some Withdrew) × ((fold stage_after (stage p past) e.marks ≡ Leaving) ⊎ (fold stage_after (stage p past) e.marks ≡ Idle)) → View s p (e ∷ mine) (fold stage_after (stage p past) e.marks)
        out k = elim k.1 [ inl q ↦ withdraws k.0 q | inr q ↦ rests q ]
    go (fails b st) = out (kept Settling Down Failed b st (unit-keeps (last_call s p (bare ∷ mine)) (before is_failed (bare ∷ mine)) (settles_at (since is_failed (bare ∷ mine)) flick) len))
      where
        out : (last_start (e ∷ mine) ≡ Some Failed) × ((fold stage_after (stage p past) e.marks ≡ Settling) ⊎ (fold stage_after (stage p past) e.marks ≡ Down)) → View s p (e ∷ mine) (fold stage_after (stage p past) e.marks)
        out k = elim k.1 [ inl q ↦ fails k.0 q | inr q ↦ down q ]

-- an entry is added only by an event that isn't refused
pub entry-accepted : (s : Setup) (past : Past) (event : Event) (e : Entry) → entry_of s past event ≡ Some e →
    (nat_lt (process_of event) s.processes ≡ true) × (refused_at event (stage (process_of event) past) ≡ None) × (added s past event ≡ Some e)
entry-accepted s past event e h = go (nat_lt (process_of event) s.processes) refl (refused_at event (stage (process_of event) past)) refl (calls_full s past event) h
  where
    Entered : Bool → Option Refusal → Bool → Option Entry
    Entered b r f = elim (cond b (elim r as (λ _. Option Refusal) [ Some x ↦ Some x | None ↦ cond f (Some Rattle.model.specs.declared.refusals.Refusal.TheVariants.CallsFull) None ]) (Some Rattle.model.specs.declared.refusals.Refusal.TheVariants.NoProcess)) as (λ _. Option Entry) [ Some r ↦ None | None ↦ added s past event ]

    go : (b : Bool) → nat_lt (process_of event) s.processes ≡ b → (r : Option Refusal) → refused_at event (stage (process_of event) past) ≡ r → (f : Bool) →
        Entered b r f ≡ Some e → (nat_lt (process_of event) s.processes ≡ true) × (refused_at event (stage (process_of event) past) ≡ None) × (added s past event ≡ Some e)
    go true i None j false h = (i, j, h)
    go _ i _ j _ h = cc

-- in every run each process has a view
pub view : (s : Setup) → IsGood s → (events : List Event) (p : ℕ) → View s p (own p (past_of s events)) (stage p (past_of s events))
view s g [] p = rests refl
view s g (event ∷ events) p = with_entry s g (past_of s events) event p (view s g events) (entry_of s (past_of s events) event) refl
  where
    with_entry : (s : Setup) → IsGood s → (past : Past) (event : Event) (p : ℕ) → ((p : ℕ) → View s p (own p past) (stage p past)) → (x : Option Entry) → entry_of s past event ≡ x →
        View s p (own p (elim x as (λ _. Past) [ None ↦ past | Some e ↦ e ∷ past ])) (stage p (elim x as (λ _. Past) [ None ↦ past | Some e ↦ e ∷ past ]))
    with_entry s g past event p ih None h = ih p
    with_entry s g past event p ih (Some e) h = at (e.process == p) refl
      where
        acc : (nat_lt (process_of event) s.processes ≡ true) × (refused_at event (stage (process_of event) past) ≡ None) × (added s past event ≡ Some e)
        acc = entry-accepted s past event e h

        both : (e.process ≡ process_of event) × View s (process_of event) (e ∷ own (process_of event) past) (fold stage_after (stage (process_of event) past) e.marks)
        both = entry_view s g past event e acc.1 (ih (process_of event)) acc.2

        at : (b : Bool) → (e.process == p) ≡ b → View s p (cond (e.process == p) (e ∷ own p past) (own p past)) (cond (e.process == p) (fold stage_after (stage p past) e.marks) (stage p past))
        at true i =
            let P : ℕ → Type 0 = λ q. View s q (e ∷ own q past) (fold stage_after (stage q past) e.marks) in
            rw i (subst P (sym both.0 ∙ eqb-true e.process p i) both.1)
        at false i = rw i (ih p)
