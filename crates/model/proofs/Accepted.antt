-- Every accepted event adds exactly one entry.
use Rattle.std.specs.Prelude.{◌≡◌, ◌⊎◌, refl, ℕ, zero, suc, ◌+◌, ◌-◌, ◌<◌, ◌==◌, nat_lt, Bool, true, false, cond, List, [], ◌∷◌, ◌++◌, length, map, fold, slice_get, Option, None, Some}
use Rattle.std.proofs.Common.{sym, ◌∙◌, ap, subst, arith, inl, inr, length-append, eqb-true}
use Rattle.std.specs.List.{list_any}
use Rattle.model.specs.{Access, Entry, Event, Mark, Next, Past, Portion, Script, Stage, access_of, added, before, calls_full, entry_made, entry_of, has, history, is_failed, last_call, last_start, last_write, made_with, marks_at, nth, own, past_of, placed, process_of, processes, program, program_from, read_so_far, refused, refused_at, settle, settle_of, settles_at, settling, since, single, singles, stage, stage_after, starts, stepped, unfinished, unit_program, valued, withdrawn}
use Rattle.model.specs.declared.access.Field.TheVariants.{Choosing, Ticket}
use Rattle.plain_store.specs.{Setup}
use Rattle.model.specs.declared.events.Event.TheVariants.{Call, Step, Fail, Withdraw, Restart}
use Rattle.model.specs.declared.marks.Mark.TheVariants.{Called, Failed, Withdrew, Restarted}
use Rattle.model.specs.declared.stages.Stage.TheVariants.{Idle, Leaving, Settling, Down}
use Rattle.model.proofs.Singles.{length-single}
use Rattle.model.proofs.Width.{IsGood, written-pos, bits_of_number-pos, width-pos}
use Rattle.model.proofs.Staging.{stage-placed, no_start-placed}
use Rattle.model.proofs.Local.{View, rests, down, runs, withdraws, fails, get_some, start-plain, since-plain, call-plain, running_steps, option_map-some}
use Rattle.model.proofs.World.{withdrawn-keeps, unit-keeps, entry-accepted, entry_view, view}
use Rattle.model.proofs.Total.{runs_on, withdrawn-ends, unit-ends}
use Rattle.safe_number.specs.{at_bit, bits_of_number}
use Rattle.std.proofs.lemmas.List.{length-map}
use Rattle.safe_bit.specs.declared.Move.TheVariants.{BeginWrite, EndWrite, Settle}
use Rattle.reader_copies.specs.{Made, is_open_at, settles_from}

-- the unit makes as many accesses whatever it settles at
pub length-settles : (m r n : ℕ) (v w : Bool) → length (settles_from m r n v) ≡ length (settles_from m r n w)
length-settles m r zero v w = refl
length-settles m r (suc n) v w = go (is_open_at m r) (length-settles m (r + 1) n v w)
  where
    go : (b : Bool) → length (settles_from m (r + 1) n v) ≡ length (settles_from m (r + 1) n w) →
        length (cond b (record { reader = r; how = Settle v } ∷ settles_from m (r + 1) n v) (record { reader = r; how = BeginWrite v } ∷ record { reader = r; how = EndWrite } ∷ settles_from m (r + 1) n v))
        ≡ length (cond b (record { reader = r; how = Settle w } ∷ settles_from m (r + 1) n w) (record { reader = r; how = BeginWrite w } ∷ record { reader = r; how = EndWrite } ∷ settles_from m (r + 1) n w))
    go true ih = ap suc ih
    go false ih = ap (λ k. suc (suc k)) ih

pub length-settle : (a : Access) (v w : Bool) (n p : ℕ) → length (settle_of n p v a) ≡ length (settle_of n p w a)
length-settle a v w n p = long v ∙ length-settles (made_with a) 0 n v w ∙ sym (long w)
  where
    long : (v : Bool) → length (settle_of n p v a) ≡ length (settles_from (made_with a) 0 n v)
    long v = length-map {A = ℕ × Made} {B = Access} (map (at_bit a.bit) (settles_from (made_with a) 0 n v)) (access_of p a.field) ∙ length-map {A = Made} {B = ℕ × Made} (settles_from (made_with a) 0 n v) (at_bit a.bit)

pub length-unit : (c : Rattle.model.specs.Scripts.Call) (past : Past) (v w : Bool) → length (singles (unit_program c past v)) ≡ length (singles (unit_program c past w))
length-unit c past v w = go (unfinished c.setup.processes (last_write past))
  where
    tail : Script
    tail = Rattle.model.specs.Scripts.writing c Ticket (bits_of_number c.setup.ticket_bits 0) (cond (Rattle.model.specs.Stages.inside c.process past) (Rattle.model.specs.declared.marks.Mark.TheVariants.Left ∷ []) []) []
        ∷ Rattle.model.specs.Scripts.writing c Choosing (false ∷ []) [] (Rattle.model.specs.declared.marks.Mark.TheVariants.Down ∷ []) ∷ []

    one : (q : Portion) → length (singles (q ∷ tail)) ≡ length q.accesses + length (singles tail)
    one q = length-append (single q.first q.last q.accesses) (singles tail) ∙ ap (λ n. n + length (singles tail)) (length-single q.first q.last q.accesses)

    go : (o : Option Access) → length (singles (settle c past v o ++ tail)) ≡ length (singles (settle c past w o ++ tail))
    go None = refl
    go (Some a) = one (settling c past v a) ∙ ap (λ n. n + length (singles tail)) (length-settle a v w c.setup.processes c.process) ∙ sym (one (settling c past w a))

pub record Room (s : Setup) (p : ℕ) (mine : Past) (st : Stage) : Type 0 where
  pub withdrawing : last_start mine ≡ Some Withdrew → st ≡ Leaving → length (since starts mine) < length (singles (withdrawn (last_call s p mine)))
  pub failing : last_start mine ≡ Some Failed → st ≡ Settling → (v : Bool) → length (since starts mine) < length (singles (unit_program (last_call s p mine) (before is_failed mine) v))

pub no_failed : (ms : List Mark) → list_any starts ms ≡ false → list_any is_failed ms ≡ false
no_failed [] h = refl
no_failed (Called c ∷ ms) h = cc
no_failed (Failed ∷ ms) h = cc
no_failed (Withdrew ∷ ms) h = cc
no_failed (_ ∷ ms) h = no_failed ms h

pub before-plain : (e : Entry) (mine : Past) → has starts e ≡ false → before is_failed (e ∷ mine) ≡ before is_failed mine
before-plain e mine h = rw (no_failed e.marks h, before) refl

pub closer : (k n : ℕ) → k < n → (suc k < n) ⊎ (k + 1 ≡ n)
closer k n h = grind arith

-- a step keeps the room
pub room-step : (s : Setup) → IsGood s → (past : Past) (p : ℕ) (flick : Bool) (e : Entry) → refused_at (Step p flick) (stage p past) ≡ None →
    View s p (own p past) (stage p past) → Room s p (own p past) (stage p past) → stepped s past p flick ≡ Some e → Room s p (e ∷ own p past) (fold stage_after (stage p past) e.marks)
room-step s g past p flick e h v room a = go v
  where
    mine : Past
    mine = own p past

    len : ℕ
    len = length (since starts mine)

    made : (n : Next) × (nth len (program s p flick mine) ≡ Some n) × (entry_made s past p flick n ≡ e)
    made = option_map-some (entry_made s past p flick) (nth len (program s p flick mine)) e a

    bare : Entry
    bare = record { process = p; access = Some (valued s past flick made.0.access); marks = [] }

    marks_is : e.marks ≡ map (placed (length (history s past))) (marks_at len (program s p flick (bare ∷ mine)))
    marks_is = ap (λ (e : Entry). e.marks) (sym made.2)

    begun : (m : Mark) → last_start mine ≡ Some m → e.marks ≡ map (placed (length (history s past))) (marks_at len (program_from s p flick (bare ∷ mine) (Some m)))
    begun m b = marks_is ∙ ap (λ o. map (placed (length (history s past))) (marks_at len (program_from s p flick (bare ∷ mine) o))) b

    plain : (m : Mark) → last_start mine ≡ Some m → list_any starts (marks_at len (program_from s p flick (bare ∷ mine) (Some m))) ≡ false → has starts e ≡ false
    plain m b k = ap (list_any starts) (begun m b) ∙ no_start-placed (length (history s past)) (marks_at len (program_from s p flick (bare ∷ mine) (Some m))) ∙ k

    stage_is : (m : Mark) (x : Stage) → last_start mine ≡ Some m → stage p past ≡ x → fold stage_after (stage p past) e.marks ≡ fold stage_after x (marks_at len (program_from s p flick (bare ∷ mine) (Some m)))
    stage_is m x b st = ap (fold stage_after (stage p past)) (begun m b) ∙ stage-placed (length (history s past)) (stage p past) (marks_at len (program_from s p flick (bare ∷ mine) (Some m)))
        ∙ ap (λ u. fold stage_after u (marks_at len (program_from s p flick (bare ∷ mine) (Some m)))) st

    go : View s p mine (stage p past) → Room s p (e ∷ mine) (fold stage_after (stage p past) e.marks)
    go (rests i) = let f : refused_at (Step p flick) Idle ≡ None = ap (refused_at (Step p flick)) (sym i) ∙ h in cc
    go (down i) = let f : refused_at (Step p flick) Down ≡ None = ap (refused_at (Step p flick)) (sym i) ∙ h in cc
    go (runs r) = record {
      withdrawing = λ b st. let f : Some (Called r.command) ≡ Some Withdrew = sym r.begun ∙ sym (start-plain e mine pl) ∙ b in cc;
      failing = λ b st. let f : Some (Called r.command) ≡ Some Failed = sym r.begun ∙ sym (start-plain e mine pl) ∙ b in cc;
    }
      where
        pl : has starts e ≡ false
        pl = (running_steps s g p past (stage p past) flick r e a).0
    go (withdraws b st) = record {
      withdrawing = λ c at. rw (since-plain e mine pl) (subst P (sym (call-plain s p e mine pl)) (more at (closer len _ (room.withdrawing b st))));
      failing = λ c at. let f : Some Withdrew ≡ Some Failed = sym b ∙ sym (start-plain e mine pl) ∙ c in cc;
    }
      where
        P : Rattle.model.specs.Scripts.Call → Type 0
        P c = suc len < length (singles (withdrawn c))

        pl : has starts e ≡ false
        pl = plain Withdrew b (withdrawn-keeps (last_call s p (bare ∷ mine)) len).0

        more : fold stage_after (stage p past) e.marks ≡ Leaving → (suc len < length (singles (withdrawn (last_call s p mine)))) ⊎ (len + 1 ≡ length (singles (withdrawn (last_call s p mine)))) →
            suc len < length (singles (withdrawn (last_call s p mine)))
        more at (inl l) = l
        more at (inr l) = let f : Leaving ≡ Idle = sym at ∙ stage_is Withdrew Leaving b st ∙ withdrawn-ends (last_call s p mine) g len l in cc
    go (fails b st) = record {
      withdrawing = λ c at. let f : Some Failed ≡ Some Withdrew = sym b ∙ sym (start-plain e mine pl) ∙ c in cc;
      failing = λ c at w. rw (since-plain e mine pl)
          (subst (P w (before is_failed (e ∷ mine))) (sym (call-plain s p e mine pl)) (subst (Q w) (sym (before-plain e mine pl))
          (subst R (length-unit (last_call s p mine) (before is_failed mine) v0 w) (more at (closer len _ (room.failing b st v0))))));
    }
      where
        P : Bool → Past → Rattle.model.specs.Scripts.Call → Type 0
        P w at c = suc len < length (singles (unit_program c at w))

        Q : Bool → Past → Type 0
        Q w at = suc len < length (singles (unit_program (last_call s p mine) at w))

        R : ℕ → Type 0
        R n = suc len < n

        v0 : Bool
        v0 = settles_at (since is_failed (bare ∷ mine)) flick

        pl : has starts e ≡ false
        pl = plain Failed b (unit-keeps (last_call s p (bare ∷ mine)) (before is_failed (bare ∷ mine)) v0 len).0

        more : fold stage_after (stage p past) e.marks ≡ Settling →
            (suc len < length (singles (unit_program (last_call s p mine) (before is_failed mine) v0))) ⊎ (len + 1 ≡ length (singles (unit_program (last_call s p mine) (before is_failed mine) v0))) →
            suc len < length (singles (unit_program (last_call s p mine) (before is_failed mine) v0))
        more at (inl l) = l
        more at (inr l) = let f : Settling ≡ Down = sym at ∙ stage_is Failed Settling b st ∙ unit-ends (last_call s p mine) g (before is_failed mine) v0 len l in cc

pub withdrawn-pos : (c : Rattle.model.specs.Scripts.Call) → IsGood c.setup → 0 < length (singles (withdrawn c))
withdrawn-pos c g = omega (arith, pos, length-single [] (last ∷ []) accesses, length-append (single [] (last ∷ []) accesses) [])
  where
    last : Mark
    last = Rattle.model.specs.declared.marks.Mark.TheVariants.Answered Rattle.plain_store.specs.declared.Answer.TheVariants.Withdrawn

    accesses : List Access
    accesses = Rattle.model.specs.Registers.write_of c.setup c.process Ticket (bits_of_number c.setup.ticket_bits 0)

    pos : 0 < length accesses
    pos = written-pos c.setup g c.process Ticket (bits_of_number c.setup.ticket_bits 0) (bits_of_number-pos c.setup.ticket_bits 0 (width-pos c.setup g Ticket))

pub unit-pos : (c : Rattle.model.specs.Scripts.Call) → IsGood c.setup → (past : Past) (v : Bool) → 0 < length (singles (unit_program c past v))
unit-pos c g past v = go (unfinished c.setup.processes (last_write past))
  where
    q : Portion
    q = Rattle.model.specs.Scripts.writing c Ticket (bits_of_number c.setup.ticket_bits 0) (cond (Rattle.model.specs.Stages.inside c.process past) (Rattle.model.specs.declared.marks.Mark.TheVariants.Left ∷ []) []) []

    tail : Script
    tail = Rattle.model.specs.Scripts.writing c Choosing (false ∷ []) [] (Rattle.model.specs.declared.marks.Mark.TheVariants.Down ∷ []) ∷ []

    pos : 0 < length (singles (q ∷ tail))
    pos = omega (
      arith,
      length-append (single q.first q.last q.accesses) (singles tail),
      length-single q.first q.last q.accesses,
      written-pos c.setup g c.process Ticket (bits_of_number c.setup.ticket_bits 0) (bits_of_number-pos c.setup.ticket_bits 0 (width-pos c.setup g Ticket)),
    )

    go : (o : Option Access) → 0 < length (singles (settle c past v o ++ q ∷ tail))
    go None = pos
    go (Some a) = omega (arith, pos, length-append (single (settling c past v a).first (settling c past v a).last (settling c past v a).accesses) (singles (q ∷ tail)))

-- an entry keeps the room
pub added-room : (s : Setup) → IsGood s → (past : Past) (event : Event) (e : Entry) → refused_at event (stage (process_of event) past) ≡ None →
    View s (process_of event) (own (process_of event) past) (stage (process_of event) past) → Room s (process_of event) (own (process_of event) past) (stage (process_of event) past) →
    added s past event ≡ Some e → Room s (process_of event) (e ∷ own (process_of event) past) (fold stage_after (stage (process_of event) past) e.marks)
added-room s g past (Call p c) e h v r a =
    let d : record { process = p; access = None; marks = Called c ∷ [] } ≡ e = cc in
    let P : Entry → Type 0 = λ e. Room s p (e ∷ own p past) (fold stage_after (stage p past) e.marks) in
    subst P d (record { withdrawing = λ b st. cc; failing = λ b st. cc })
added-room s g past (Step p flick) e h v r a = room-step s g past p flick e h v r a
added-room s g past (Fail p) e h v r a =
    let d : record { process = p; access = None; marks = Failed ∷ [] } ≡ e = cc in
    let P : Entry → Type 0 = λ e. Room s p (e ∷ own p past) (fold stage_after (stage p past) e.marks) in
    subst P d (record { withdrawing = λ b st. cc; failing = λ b st w. unit-pos (last_call s p (record { process = p; access = None; marks = Failed ∷ [] } ∷ own p past)) g (own p past) w })
added-room s g past (Withdraw p) e h v r a =
    let d : record { process = p; access = None; marks = Withdrew ∷ [] } ≡ e = cc in
    let P : Entry → Type 0 = λ e. Room s p (e ∷ own p past) (fold stage_after (stage p past) e.marks) in
    subst P d (record { withdrawing = λ b st. withdrawn-pos (last_call s p (record { process = p; access = None; marks = Withdrew ∷ [] } ∷ own p past)) g; failing = λ b st. cc })
added-room s g past (Restart p) e h v r a =
    let d : record { process = p; access = None; marks = Restarted ∷ [] } ≡ e = cc in
    let P : Entry → Type 0 = λ e. Room s p (e ∷ own p past) (fold stage_after (stage p past) e.marks) in
    subst P d (record { withdrawing = λ b st. cc; failing = λ b st. cc })

pub rooms : (s : Setup) → IsGood s → (events : List Event) (p : ℕ) → Room s p (own p (past_of s events)) (stage p (past_of s events))
rooms s g [] p = record { withdrawing = λ b st. cc; failing = λ b st. cc }
rooms s g (event ∷ events) p = with_entry s g (past_of s events) event p (view s g events) (rooms s g events) (entry_of s (past_of s events) event) refl
  where
    with_entry : (s : Setup) → IsGood s → (past : Past) (event : Event) (p : ℕ) → ((p : ℕ) → View s p (own p past) (stage p past)) → ((p : ℕ) → Room s p (own p past) (stage p past)) →
        (x : Option Entry) → entry_of s past event ≡ x →
        Room s p (own p (elim x as (λ _. Past) [ None ↦ past | Some e ↦ e ∷ past ])) (stage p (elim x as (λ _. Past) [ None ↦ past | Some e ↦ e ∷ past ]))
    with_entry s g past event p vs ih None h = ih p
    with_entry s g past event p vs ih (Some e) h = at (e.process == p) refl
      where
        acc : (nat_lt (process_of event) s.processes ≡ true) × (refused_at event (stage (process_of event) past) ≡ None) × (added s past event ≡ Some e)
        acc = entry-accepted s past event e h

        is : e.process ≡ process_of event
        is = (entry_view s g past event e acc.1 (vs (process_of event)) acc.2).0

        at : (b : Bool) → (e.process == p) ≡ b → Room s p (cond (e.process == p) (e ∷ own p past) (own p past)) (cond (e.process == p) (fold stage_after (stage p past) e.marks) (stage p past))
        at true i =
            let P : ℕ → Type 0 = λ q. Room s q (e ∷ own q past) (fold stage_after (stage q past) e.marks) in
            rw i (subst P (sym is ∙ eqb-true e.process p i) (added-room s g past event e acc.1 (vs (process_of event)) (ih (process_of event)) acc.2))
        at false i = rw i (ih p)

-- a step that isn't refused has a next access
pub step_adds : (s : Setup) → IsGood s → (past : Past) (p : ℕ) (flick : Bool) → refused_at (Step p flick) (stage p past) ≡ None →
    View s p (own p past) (stage p past) → Room s p (own p past) (stage p past) → (e : Entry) × (stepped s past p flick ≡ Some e)
step_adds s g past p flick h v room = go v
  where
    mine : Past
    mine = own p past

    len : ℕ
    len = length (since starts mine)

    made : (n : Next) → nth len (program s p flick mine) ≡ Some n → (e : Entry) × (stepped s past p flick ≡ Some e)
    made n k = (entry_made s past p flick n, ap (Rattle.std.specs.Prelude.option_map (entry_made s past p flick)) k)

    go : View s p mine (stage p past) → (e : Entry) × (stepped s past p flick ≡ Some e)
    go (rests i) = let f : refused_at (Step p flick) Idle ≡ None = ap (refused_at (Step p flick)) (sym i) ∙ h in cc
    go (down i) = let f : refused_at (Step p flick) Down ≡ None = ap (refused_at (Step p flick)) (sym i) ∙ h in cc
    go (runs r) =
        let n = runs_on (last_call s p mine) (read_so_far s (since starts mine)) len r.at r.corresponds r.not_over in
        made n.0 (ap (λ m. nth len (program_from s p flick mine m)) r.begun
        ∙ ap (λ l. slice_get (singles (Rattle.model.specs.Program.local_program (last_call s p mine) (read_so_far s l).finished)) len) r.same ∙ n.1)
    go (withdraws b st) =
        let n = get_some (singles (withdrawn (last_call s p mine))) len (room.withdrawing b st) in
        made n.0 (ap (λ m. nth len (program_from s p flick mine m)) b ∙ n.1)
    go (fails b st) =
        let n = get_some (singles (unit_program (last_call s p mine) (before is_failed mine) (settles_at (since is_failed mine) flick))) len (room.failing b st (settles_at (since is_failed mine) flick)) in
        made n.0 (ap (λ m. nth len (program_from s p flick mine m)) b ∙ n.1)

-- every event that isn't refused adds an entry
pub accepted_adds : (s : Setup) → IsGood s → (events : List Event) (event : Event) → refused s (past_of s events) event ≡ None → (e : Entry) × (entry_of s (past_of s events) event ≡ Some e)
accepted_adds s g events event h = (adds.0, ap (λ r. elim r as (λ _. Option Entry) [ Some x ↦ None | None ↦ added s (past_of s events) event ]) h ∙ adds.1)
  where
    past : Past
    past = past_of s events

    at_stage : refused_at event (stage (process_of event) past) ≡ None
    at_stage = go (nat_lt (process_of event) s.processes) (refused_at event (stage (process_of event) past)) (calls_full s past event) h
      where
        go : (b : Bool) (r : Option Rattle.model.specs.declared.refusals.Refusal.Refusal) (f : Bool) →
            cond b (elim r as (λ _. Option Rattle.model.specs.declared.refusals.Refusal.Refusal) [ Some x ↦ Some x | None ↦ cond f (Some Rattle.model.specs.declared.refusals.Refusal.TheVariants.CallsFull) None ]) (Some Rattle.model.specs.declared.refusals.Refusal.TheVariants.NoProcess) ≡ None → r ≡ None
        go true None f h = refl
        go true (Some x) f h = cc
        go false r f h = cc

    by : (event : Event) → refused_at event (stage (process_of event) past) ≡ None → (e : Entry) × (added s past event ≡ Some e)
    by (Call p c) h = (record { process = p; access = None; marks = Called c ∷ [] }, refl)
    by (Step p flick) h = step_adds s g past p flick h (view s g events p) (rooms s g events p)
    by (Fail p) h = (record { process = p; access = None; marks = Failed ∷ [] }, refl)
    by (Withdraw p) h = (record { process = p; access = None; marks = Withdrew ∷ [] }, refl)
    by (Restart p) h = (record { process = p; access = None; marks = Restarted ∷ [] }, refl)

    adds : (e : Entry) × (added s past event ≡ Some e)
    adds = by event at_stage
