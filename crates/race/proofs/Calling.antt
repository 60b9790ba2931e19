-- A call of a port that is driven: it goes on, or it is answered.
use Rattle.std.proofs.Common.{◌≡◌, ◌⊎◌, ℕ, zero, suc, Bool, true, false, cond, List, [], ◌∷◌, ◌++◌, inl, inr, refl, sym, ap, ◌∙◌, subst, Option, Some, None}
use Rattle.std.specs.Prelude.{fold, option_map}
use Rattle.plain_store.specs.{Answer, Command, Reply, Setup, changes}
use Rattle.board.specs.choices.{FlickState, flick_of}
use Rattle.model.specs.{Call, Event, Mark, Part, Placed, Refusal, Stage, Taken, Wait, bits_with, entered_if_none, first_marks, is_at_work, is_fresh, is_last, is_over, last_marks, lets_by, place_after, reply, stage_after, stage_of, store_read, waits_of}
use Rattle.model.specs.declared.marks.Mark.TheVariants as mark
use Rattle.model.specs.declared.stages.Stage.TheVariants as stage
use Rattle.model.specs.Parts as part
use Rattle.board.specs.laws.{Closes, Doing, Lies, Rests, Runs, call, does_then, marks_with}
use Rattle.board.specs.process.{stage_doing}
use Rattle.board.specs.Calls.{Calls, and_then, calls_after}
use Rattle.board.specs.{BoardState, Driven, Drives, EndsWith, IsBegun, IsOf, Loads, Makes, OwnView, PortState, SamePort, ViewState, Walks, WordStep, at_events, called, flicks_after, goes, port_after, refusal_in, stage_in}
use Rattle.board.specs.declared.driving.Driven.TheVariants as driven
use Rattle.board.proofs.Leads.{begin_calls}
use Rattle.board.proofs.Drives.{same_on}
use Rattle.model.specs.declared.events.Event.TheVariants as event
use Rattle.std.specs.Prelude.{OnOk, Result, Ok, Err}
use Rattle.std.specs.Result.{is_err}
use Rattle.race.specs.declared.workers.CallReached.TheVariants as reached
use Rattle.race.specs.{CallGoesOn, ComesTo, HasCalled, IsAnswered, IsCalling, is_uncut}

-- A process that is neither failed nor withdrawn stays so, and is not down.

over_uncut : (b : Bool) (d : Doing) → is_uncut d ≡ true → is_uncut (cond b Rests d) ≡ true
over_uncut true d h = refl
over_uncut false d h = h

uncut_then : (s : Setup) (p : ℕ) (d : Doing) (flick v : Bool) → is_uncut d ≡ true → is_uncut (does_then s p d flick v) ≡ true
uncut_then s p Rests flick v h = refl
uncut_then s p Lies flick v h = cc
uncut_then s p (Runs command number at) flick v h = over_uncut (is_over (place_after (call s p command number) at v).part) (Runs command number (place_after (call s p command number) at v)) refl
uncut_then s p (Closes command number at) flick v h = cc

part_up : (x : Part) (fresh : Bool) → stage_of x fresh ≡ stage.Down → ⊥
part_up (part.Clears a) true h = cc
part_up (part.Clears a) false h = cc
part_up _ fresh h = cc

uncut_up : (d : Doing) → is_uncut d ≡ true → stage_doing d ≡ stage.Down → ⊥
uncut_up Rests h is = cc
uncut_up Lies h is = cc
uncut_up (Runs command number at) h is = part_up at.part (is_fresh at.run) is
uncut_up (Closes command number at) h is = cc

-- a process that has a next access is not idle
goes_busy : (st : Stage) → is_at_work st ≡ true → st ≡ stage.Idle → ⊥
goes_busy st h is = let f : false ≡ true = sym (ap is_at_work is) ∙ h in cc

-- The marks of a call: it goes on, or it is answered.

abbrev with_place : Option ℕ → Option Placed → Option Placed
with_place place now = option_map (λ (call : Placed). record call { place = place }) now

placed_twice : (p q : Option ℕ) (now : Option Placed) → with_place q (with_place p now) ≡ with_place q now
placed_twice p q None = refl
placed_twice p q (Some one) = refl

goes_from : (calls : Calls) → CallGoesOn calls calls
goes_from calls = by calls.done calls.now
  where
    by : (done : List Placed) (now : Option Placed) → CallGoesOn (record { done = done; now = now }) (record { done = done; now = now })
    by done None = (None, refl)
    by done (Some one) = (one.place, refl)

taken_on : (before calls : Calls) (place k : ℕ) (r : Reply) → CallGoesOn before calls → CallGoesOn before (calls_after place calls (mark.Taken k r))
taken_on before calls place k r h = (
  Some place,
  ap (λ (t : Calls). calls_after place t (mark.Taken k r)) h.1 ∙ ap (λ (now : Option Placed). record before { now = now }) (placed_twice h.0 (Some place) before.now),
)

-- the call goes on, or these marks lead to the stage of a process at rest
abbrev Ends : Calls → Calls → ℕ → Stage → List Mark → Type 0
Ends before calls place st marks = CallGoesOn before (fold (calls_after place) calls marks) ⊎ (fold stage_after st marks ≡ stage.Idle)

entered_ends : (before calls : Calls) (place : ℕ) (st : Stage) (ws : List Wait) → CallGoesOn before calls → Ends before calls place st (entered_if_none ws)
entered_ends before calls place st [] h = inl h
entered_ends before calls place st (w ∷ ws) h = inl h

waits_ends : (before calls : Calls) (place : ℕ) (st : Stage) (ws : List Wait) (t : ℕ) → CallGoesOn before calls → Ends before calls place st (mark.Waiting t ∷ entered_if_none ws)
waits_ends before calls place st [] t h = inl h
waits_ends before calls place st (w ∷ ws) t h = inl h

lets_ends : (before calls : Calls) (place : ℕ) (st : Stage) (b : Bool) (ws : List Wait) → CallGoesOn before calls → Ends before calls place st (cond b (entered_if_none ws) [])
lets_ends before calls place st true ws h = entered_ends before calls place st ws h
lets_ends before calls place st false ws h = inl h

reads_ends : (before calls : Calls) (place : ℕ) (st : Stage) (b : Bool) (r : Reply) → CallGoesOn before calls → Ends before calls place st (cond b [] (mark.Taken 0 r ∷ []))
reads_ends before calls place st true r h = inl h
reads_ends before calls place st false r h = inl (taken_on before calls place 0 r h)

last_ends : (before calls : Calls) (place : ℕ) (st : Stage) (c : Call) (x : Part) (bits : List Bool) → CallGoesOn before calls → Ends before calls place st (last_marks c x bits)
last_ends before calls place st c (part.Lowers t) bits h = waits_ends before calls place st (waits_of c) t h
last_ends before calls place st c (part.Refuses f) bits h = inr refl
last_ends before calls place st c (part.Waits t w ws) bits h = lets_ends before calls place st (lets_by c t w bits) ws h
last_ends before calls place st c (part.AsksImage vs) bits h = reads_ends before calls place st (changes (store_read c bits) c.command) (reply c (store_read c bits)) h
last_ends before calls place st c (part.WritesCommit vs xs) bits h = inl (taken_on before calls place 0 (reply c xs) h)
last_ends before calls place st c (part.Clears a) bits h = inr refl
last_ends before calls place st c _ bits h = inl h

then_ends : (before calls : Calls) (place : ℕ) (st : Stage) (last : Bool) (c : Call) (x : Part) (bits : List Bool) → CallGoesOn before calls → Ends before calls place st (cond last (last_marks c x bits) [])
then_ends before calls place st true c x bits h = last_ends before calls place st c x bits h
then_ends before calls place st false c x bits h = inl h

part_ends : (before calls : Calls) (place : ℕ) (st : Stage) (fresh last : Bool) (c : Call) (x : Part) (bits : List Bool) → CallGoesOn before calls →
    Ends before calls place st (cond fresh (first_marks x) [] ++ cond last (last_marks c x bits) [])
part_ends before calls place st false last c x bits h = then_ends before calls place st last c x bits h
part_ends before calls place st true last c (part.Clears a) bits h = then_ends before calls place (stage_after st mark.Left) last c (part.Clears a) bits h
part_ends before calls place st true last c x bits h = then_ends before calls place st last c x bits h

marks_end : (before calls : Calls) (place : ℕ) (st : Stage) (s : Setup) (p : ℕ) (d : Doing) (flick v : Bool) → is_uncut d ≡ true → CallGoesOn before calls → Ends before calls place st (marks_with s p d flick v)
marks_end before calls place st s p Rests flick v h on = inl on
marks_end before calls place st s p Lies flick v h on = cc
marks_end before calls place st s p (Runs command number at) flick v h on =
    part_ends before calls place st (is_fresh at.run) (is_last (call s p command number) at.part at.run) (call s p command number) at.part (bits_with at.run v) on
marks_end before calls place st s p (Closes command number at) flick v h on = cc

-- One access.

makes_uncut : (s : Setup) (seen : List Taken) (flick value : Bool) (o then : OwnView) → Makes s seen flick value o then → is_uncut o.doing ≡ true → is_uncut then.doing ≡ true
makes_uncut s seen flick value o then m h = ap (λ (x : OwnView). is_uncut x.doing) m.is ∙ uncut_then s o.process o.doing flick value h

makes_on : (s : Setup) (seen : List Taken) (flick value : Bool) (o then : OwnView) (before : Calls) → Makes s seen flick value o then → is_uncut o.doing ≡ true → CallGoesOn before o.calls → goes s then ≡ true → CallGoesOn before then.calls
makes_on s seen flick value o then before m h on go =
    elim (marks_end before o.calls m.place (stage_in s o) s o.process o.doing flick value h on) [
      | inl a ↦ subst (CallGoesOn before) (sym (ap (λ (x : OwnView). x.calls) m.is)) a
      | inr a ↦ absurd (goes_busy (stage_in s then) go (m.stage ∙ a))
    ]

-- One word step.

begun_calls : (s : Setup) (flick : Bool) (v : ViewState) (word : ℕ) (w : ViewState) (load : Loads s flick v word w) → load.begun.calls ≡ v.own.calls
begun_calls s flick v word w load = ap (λ (x : OwnView). x.calls) load.begins.is ∙ begin_calls s v.own.process v.own.doing flick false load.access load.begins.place v.own.calls load.next load.reads

step_uncut : (s : Setup) (flick : Bool) (v w : ViewState) → WordStep s flick v w → is_uncut v.own.doing ≡ true → is_uncut w.own.doing ≡ true
step_uncut s flick v w (inl load) h = makes_uncut s v.seen flick _ load.1.begun w.own load.1.ends (makes_uncut s v.seen flick false v.own load.1.begun load.1.begins h)
step_uncut s flick v w (inr store) h = makes_uncut s v.seen flick false v.own w.own store.makes h

step_on : (s : Setup) (flick : Bool) (v w : ViewState) (before : Calls) → WordStep s flick v w → is_uncut v.own.doing ≡ true → CallGoesOn before v.own.calls → goes s w.own ≡ true → CallGoesOn before w.own.calls
step_on s flick v w before (inl load) h on go =
    makes_on s v.seen flick _ load.1.begun w.own before load.1.ends (makes_uncut s v.seen flick false v.own load.1.begun load.1.begins h) (subst (CallGoesOn before) (sym (begun_calls s flick v load.0 w load.1)) on) go
step_on s flick v w before (inr store) h on go = makes_on s v.seen flick false v.own w.own before store.makes h on go

-- Several word steps.

walk_uncut : (s : Setup) (flicks : FlickState) (v : ViewState) (n : ℕ) (w : ViewState) → Walks s flicks v n w → is_uncut v.own.doing ≡ true → is_uncut w.own.doing ≡ true
walk_uncut s flicks v zero w walk h = ap (λ (x : ViewState). is_uncut x.own.doing) walk ∙ h
walk_uncut s flicks v (suc n) w walk h = step_uncut s (flick_of (flicks_after n flicks)) walk.0 w walk.3 (walk_uncut s flicks v n walk.0 walk.1 h)

walk_on : (s : Setup) (flicks : FlickState) (v : ViewState) (n : ℕ) (w : ViewState) → Walks s flicks v n w → is_uncut v.own.doing ≡ true → goes s w.own ≡ true → CallGoesOn v.own.calls w.own.calls
walk_on s flicks v zero w walk h go = subst (λ (x : ViewState). CallGoesOn v.own.calls x.own.calls) (sym walk) (goes_from v.own.calls)
walk_on s flicks v (suc n) w walk h go = step_on s (flick_of (flicks_after n flicks)) walk.0 w v.own.calls walk.3 (walk_uncut s flicks v n walk.0 walk.1 h) (walk_on s flicks v n walk.0 walk.1 h walk.2) go

-- the open call of these calls is answered
answered_on : (before calls : Calls) (answer : Answer) → CallGoesOn before calls → IsAnswered before (calls_after 0 calls (mark.Answered answer))
answered_on before calls answer on = (on.0, answer, ap (λ (t : Calls). calls_after 0 t (mark.Answered answer)) on.1 ∙ ap (λ (now : Option Placed). record { done = and_then before.done now; now = None }) (by before.now))
  where
    by : (now : Option Placed) → option_map (λ (call : Placed). record call { answer = Some answer }) (with_place on.0 now) ≡ option_map (λ (call : Placed). record { command = call.command; answer = Some answer; place = on.0 }) now
    by None = refl
    by (Some one) = refl

-- the result of driving: after all turns the call goes on; otherwise it is answered
abbrev LeadsOn : Setup → Driven → ViewState → ViewState → Type 0
LeadsOn s driven.Turns v w = ComesTo s (Some reached.Section) v w
LeadsOn s _ v w = ComesTo s (Some reached.Answer) v w

ends_lead : (s : Setup) (flicks : FlickState) (v : ViewState) (turns : ℕ) (end : Driven) (n : ℕ) (w : ViewState) → EndsWith s flicks v turns end n w → IsCalling s v.own → LeadsOn s end v w
ends_lead s flicks v turns driven.Turns n w h c = (record { goes = h.2; uncut = walk_uncut s flicks v n w h.1 c.uncut }, walk_on s flicks v n w h.1 c.uncut h.2)
ends_lead s flicks v turns (driven.Answered answer) zero w h c = absurd h.1
ends_lead s flicks v turns (driven.Answered answer) (suc n) w h c =
    let u = h.1.0 in (
      subst (IsAnswered v.own.calls) (sym h.1.4.1) (answered_on v.own.calls u.own.calls answer (walk_on s flicks v n u h.1.1 c.uncut h.1.2)),
      h.1.4.0,
    )
ends_lead s flicks v turns driven.Down n w h c = absurd (uncut_up w.own.doing (walk_uncut s flicks v n w h.1 c.uncut) h.2)
ends_lead s flicks v turns driven.Idle n w h c = absurd (goes_busy (stage_in s v.own) c.goes h.2)

drives_lead : (s : Setup) (v : ViewState) (turns : ℕ) (flicks : FlickState) (end : Driven) (w : ViewState) (then : FlickState) → Drives s v turns flicks end w then → IsCalling s v.own → LeadsOn s end v w
drives_lead s v turns flicks end w then d c = ends_lead s flicks v turns end d.made w d.ends c

-- Several stretches of driving in a row.

goes_trans : (a b c : Calls) → CallGoesOn a b → CallGoesOn b c → CallGoesOn a c
goes_trans a b c h k = (
  k.0,
  k.1 ∙ ap (λ (t : Calls). record t { now = with_place k.0 t.now }) h.1 ∙ ap (λ (now : Option Placed). record a { now = now }) (placed_twice h.0 k.0 a.now),
)

answered_trans : (a b c : Calls) → CallGoesOn a b → IsAnswered b c → IsAnswered a c
answered_trans a b c h k = (k.0, k.1, k.2 ∙ ap (λ (t : Calls). record { done = and_then t.done (with_answer t.now); now = None }) h.1 ∙ ap (λ (now : Option Placed). record { done = and_then a.done now; now = None }) (by a.now))
  where
    with_answer : Option Placed → Option Placed
    with_answer now = option_map (λ (call : Placed). record { command = call.command; answer = Some k.1; place = k.0 }) now

    by : (now : Option Placed) → with_answer (with_place h.0 now) ≡ with_answer now
    by None = refl
    by (Some one) = refl

-- a port whose call has begun, while it is driven
pub record IsOnItsWay (board : BoardState) (old now : PortState) : Type 0 where
  pub of_board : IsOf board now
  pub same : SamePort old now
  pub calling : IsCalling old.setup now.view.own
  pub on : CallGoesOn old.view.own.calls now.view.own.calls

pub sets_out : (board : BoardState) (port : PortState) → IsOf board port → IsCalling port.setup port.view.own → IsOnItsWay board port port
sets_out board port is c = record { of_board = is; same = (refl, refl, refl, refl); calling = c; on = goes_from port.view.own.calls }

pub is_of_then : (board : BoardState) (old new : PortState) → IsOf board old → SamePort old new → IsOf board new
is_of_then board old new h same = (same.0 ∙ h.0, same.2 ∙ h.1)

leads_from : (board : BoardState) (old now new : PortState) (turns : ℕ) (flicks then : FlickState) (end : Driven) → IsOnItsWay board old now → Drives now.setup now.view turns flicks end new.view then → LeadsOn old.setup end now.view new.view
leads_from board old now new turns flicks then end h d =
    subst (λ (s : Setup). LeadsOn s end now.view new.view) h.same.2 (drives_lead now.setup now.view turns flicks end new.view then d (subst (λ (s : Setup). IsCalling s now.view.own) (sym h.same.2) h.calling))

pub goes_on_its_way : (board : BoardState) (old now new : PortState) (turns : ℕ) (flicks then : FlickState) (end : Driven) → IsOnItsWay board old now → SamePort now new → Drives now.setup now.view turns flicks end new.view then → end ≡ driven.Turns → IsOnItsWay board old new
goes_on_its_way board old now new turns flicks then end h same d is =
    let lead : ComesTo old.setup (Some reached.Section) now.view new.view = subst (λ (e : Driven). LeadsOn old.setup e now.view new.view) is (leads_from board old now new turns flicks then end h d) in
    record { of_board = is_of_then board now new h.of_board same; same = same_on old now new h.same same; calling = lead.0; on = goes_trans old.view.own.calls now.view.own.calls new.view.own.calls h.on lead.1 }

not_turns : (s : Setup) (end : Driven) (v w : ViewState) → (end ≡ driven.Turns → ⊥) → LeadsOn s end v w → ComesTo s (Some reached.Answer) v w
not_turns s driven.Turns v w never h = absurd (never refl)
not_turns s _ v w never h = h

pub comes_to_answer : (board : BoardState) (old now new : PortState) (turns : ℕ) (flicks then : FlickState) (end : Driven) → IsOnItsWay board old now → Drives now.setup now.view turns flicks end new.view then → (end ≡ driven.Turns → ⊥) → ComesTo old.setup (Some reached.Answer) old.view new.view
comes_to_answer board old now new turns flicks then end h d never =
    let c = not_turns old.setup end now.view new.view never (leads_from board old now new turns flicks then end h d) in
    (answered_trans old.view.own.calls now.view.own.calls new.view.own.calls h.on c.0, c.1)

pub is_inside : (board : BoardState) (old now : PortState) → IsOnItsWay board old now → ComesTo old.setup (Some reached.Section) old.view now.view
is_inside board old now h = (h.calling, h.on)

pub still_on_its_way : (board : BoardState) (old now new : PortState) → IsOnItsWay board old now → SamePort now new → ComesTo now.setup None now.view new.view → IsOnItsWay board old new
still_on_its_way board old now new h same c =
    record {
      of_board = is_of_then board now new h.of_board same;
      same = same_on old now new h.same same;
      calling = subst (λ (s : Setup). IsCalling s new.view.own) h.same.2 c.0;
      on = goes_trans old.view.own.calls now.view.own.calls new.view.own.calls h.on c.1;
    }

pub comes_there : (board : BoardState) (old now new : PortState) (r : _) → IsOnItsWay board old now → ComesTo now.setup (Some r) now.view new.view → ComesTo old.setup (Some r) old.view new.view
comes_there board old now new reached.Section h c = (subst (λ (s : Setup). IsCalling s new.view.own) h.same.2 c.0, goes_trans old.view.own.calls now.view.own.calls new.view.own.calls h.on c.1)
comes_there board old now new reached.Answer h c =
    let then : ComesTo old.setup (Some reached.Answer) now.view new.view = subst (λ (s : Setup). ComesTo s (Some reached.Answer) now.view new.view) h.same.2 c in
    (answered_trans old.view.own.calls now.view.own.calls new.view.own.calls h.on then.0, then.1)

-- A call that begins.

no_err : {r : Refusal} {answer : Result (Unit {0}) Refusal} → answer ≡ Err r → answer ≡ Ok tt → ⊥
no_err a ok = cc

begun_is : (port : PortState) (event : Event) (answer : Result (Unit {0}) Refusal) → IsBegun port event answer → answer ≡ Ok tt → port_after port event ≡ record port { view = at_events port.setup port.view (event ∷ []) }
begun_is port event answer h ok = by (refusal_in port.setup port.view.own event) (elim h [ inl a ↦ sym a ∙ ok | inr a ↦ absurd (no_err a.0 ok) ])
  where
    by : (o : Option Refusal) → ◌≡◌ {A = Result (Unit {0}) Refusal} (elim o [ Some refusal ↦ Err refusal | None ↦ Ok tt ]) (Ok tt) →
        ◌≡◌ {A = PortState} (elim o [ Some refusal ↦ port | None ↦ record port { view = at_events port.setup port.view (event ∷ []) } ]) (record port { view = at_events port.setup port.view (event ∷ []) })
    by None e = refl
    by (Some refusal) e = cc

-- a result that is not an error
pub was_ok : {E : Type 0} (r : Result (Unit {0}) E) → false ≡ is_err r → r ≡ Ok tt
was_ok (Ok x) is = refl
was_ok (Err x) is = cc

pub where_ok : {A E : Type 0} {P : Type 0} (r : Result A E) → OnOk r P → false ≡ is_err r → P
where_ok (Ok x) h is = h
where_ok (Err x) h is = cc

-- a call of the port begins
pub record Begins (old new : PortState) (command : Command) : Type 0 where
  pub calling : IsCalling new.setup new.view.own
  pub calls : new.view.own.calls ≡ record old.view.own.calls { now = Some (called command) }

pub begins : (old new : PortState) (command : Command) (answer : Result (Unit {0}) Refusal) → IsBegun old (event.Call old.view.own.process command) answer → answer ≡ Ok tt → new ≡ port_after old (event.Call old.view.own.process command) → Begins old new command
begins old new command answer h ok is =
    subst (λ (port : PortState). Begins old port command) (sym (is ∙ begun_is old (event.Call old.view.own.process command) answer h ok)) (record { calling = record { goes = refl; uncut = refl }; calls = refl })

-- a call that began was answered
pub has_called : (old begun new : PortState) (command : Command) → Begins old begun command → begun.setup ≡ old.setup → ComesTo begun.setup (Some reached.Answer) begun.view new.view → HasCalled old.setup command old.view new.view
has_called old begun new command b same c =
    let place = c.0.0 in let answer = c.0.1 in
    record {
      call = record { command = command; answer = Some answer; place = place };
      of_command = refl;
      answered = (answer, refl);
      calls = c.0.2 ∙ ap (λ (t : Calls). record { done = and_then t.done (option_map (λ (call : Placed). record { command = call.command; answer = Some answer; place = place }) t.now); now = None }) b.calls;
      rests = ap (λ (s : Setup). stage_in s new.view.own) (sym same) ∙ c.1;
    }

pub has_called_inside : (old begun middle new : PortState) (command : Command) → Begins old begun command → begun.setup ≡ old.setup → middle.setup ≡ begun.setup → ComesTo begun.setup (Some reached.Section) begun.view middle.view → ComesTo middle.setup (Some reached.Answer) middle.view new.view →
    HasCalled old.setup command old.view new.view
has_called_inside old begun middle new command b same same' c d =
    let then : ComesTo begun.setup (Some reached.Answer) middle.view new.view = subst (λ (s : Setup). ComesTo s (Some reached.Answer) middle.view new.view) same' d in
    has_called old begun new command b same (answered_trans begun.view.own.calls middle.view.own.calls new.view.own.calls c.1 then.0, then.1)

-- a port that is driven until its process is down
pub is_down : (old new : PortState) (turns : ℕ) (flicks then : FlickState) → SamePort old new → Drives old.setup old.view turns flicks driven.Down new.view then → stage_in new.setup new.view.own ≡ stage.Down
is_down old new turns flicks then same drives = ap (λ (s : Setup). stage_in s new.view.own) same.2 ∙ drives.ends.2
