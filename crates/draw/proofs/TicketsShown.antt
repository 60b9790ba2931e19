-- The ticket of a process that a picture shows, by the marks of a record. A process that waits or is inside has the last ticket reported; a process that has nothing to do with the lock has none.
use Rattle.std.proofs.Common.{◌≡◌, ◌≢◌, ℕ, ◌==◌, Bool, true, false, cond, List, [], ◌∷◌, ◌++◌, Some, length, map, refl, sym, ap, subst, ◌∙◌, true≢false, eq-eqb, ne_eqb}
use Rattle.std.specs.Prelude.{fold}
use Rattle.std.specs.List.{list_any}
use Rattle.std.proofs.lemmas.Grind.{fold-append}
use Rattle.model.specs.plain_store.{Setup, changes}
use Rattle.model.specs.{Call, Entry, Event, Mark, Past, Stage, Wait, bits_with, entered_if_none, entry_of, history, is_fresh, is_last, lets_by, marks_of, past_of, placed, reply, stage, stage_after, store_read, value_of, waits_of}
use Rattle.model.specs.declared.marks.Mark.TheVariants as mark
use Rattle.model.specs.declared.stages.Stage.TheVariants as stages
use Rattle.model.specs.Parts.{Part, Lowers, Refuses, Waits, AsksImage, WritesCommit, Clears, first_marks, last_marks, stage_of}
use Rattle.model.proofs.Width.{IsGood}
use Rattle.scenario_run.specs.laws.{call, doing, ticket_after, ticket_reported}
use Rattle.scenario_run.proofs.laws.AtPlaces.{IsOfLock, any-closing, any-placed, own-induction}
use Rattle.scenario_run.proofs.laws.Doings as doings
use Rattle.scenario_run.proofs.laws.Frame.{Happens, a_call, a_withdrawal, a_failure, a_restart, a_step, a_closing}
use Rattle.scenario_run.proofs.laws.FrameEvents.{accepted}
use Rattle.scenario_run.proofs.laws.FrameInside.{stage-is}
use Rattle.picture.specs.picture_layout.{marks_in}

-- the ticket that is shown after a mark
abbrev pub shown_after : ℕ → Mark → ℕ
shown_after was (mark.Waiting ticket) = ticket
shown_after was mark.Left = 0
shown_after was (mark.Answered answer) = 0
shown_after was mark.Down = 0
shown_after was _ = was

-- the ticket of a process after a mark of any process
abbrev pub shown_reported : ℕ → ℕ → ℕ × Mark → ℕ
shown_reported p was said = cond (said.0 == p) (shown_after was said.1) was

-- the ticket of a process after the entries of a past
abbrev pub ticket_shown : ℕ → Past → ℕ
ticket_shown p [] = 0
ticket_shown p (e ∷ past) = cond (e.process == p) (fold shown_after (ticket_shown p past) e.marks) (ticket_shown p past)

entry_shown : (p q was : ℕ) (marks : List Mark) → fold (shown_reported p) was (map (λ mark. (q, mark)) marks) ≡ cond (q == p) (fold shown_after was marks) was
entry_shown p q was marks = go (q == p) refl was marks
  where
    go : (b : Bool) → (q == p) ≡ b → (was : ℕ) (marks : List Mark) → fold (shown_reported p) was (map (λ mark. (q, mark)) marks) ≡ cond b (fold shown_after was marks) was
    go true e was [] = refl
    go false e was [] = refl
    go true e was (mark ∷ marks) = ap (λ b. fold (shown_reported p) (cond b (shown_after was mark) was) (map (λ mark. (q, mark)) marks)) e ∙ go true e (shown_after was mark) marks
    go false e was (mark ∷ marks) = ap (λ b. fold (shown_reported p) (cond b (shown_after was mark) was) (map (λ mark. (q, mark)) marks)) e ∙ go false e was marks

pub record_shown : (p : ℕ) (past : Past) → fold (shown_reported p) 0 (marks_in past) ≡ ticket_shown p past
record_shown p [] = refl
record_shown p (e ∷ past) =
    fold-append (shown_reported p) 0 (marks_in past) (map (λ mark. (e.process, mark)) e.marks)
    ∙ ap (λ was. fold (shown_reported p) was (map (λ mark. (e.process, mark)) e.marks)) (record_shown p past)
    ∙ entry_shown p e.process (ticket_shown p past) e.marks

-- Marks come in the order of the stages.

-- the marks that each come at one stage only
abbrev Fits : Stage → Mark → Type 0
Fits st (mark.Called command) = st ≡ stages.Idle
Fits st mark.Entered = st ≡ stages.Waiting
Fits st mark.Restarted = st ≡ stages.Down
Fits st _ = Unit {0}

abbrev Follow : Stage → List Mark → Type 0
Follow st [] = Unit {0}
Follow st (m ∷ ms) = Fits st m × Follow (stage_after st m) ms

abbrev is_bound : Mark → Bool
is_bound (mark.Called command) = true
is_bound mark.Entered = true
is_bound mark.Restarted = true
is_bound _ = false

of_bound : IsOfLock is_bound
of_bound = record { taken = λ k r. refl; remaining = refl; settled = λ v. refl; down = refl; withdrawn = refl }

-- the other marks come at any stage
unbound : (st : Stage) (ms : List Mark) → list_any is_bound ms ≡ false → Follow st ms
unbound st [] h = tt
unbound st (mark.Called command ∷ ms) h = absurd (true≢false h)
unbound st (mark.Entered ∷ ms) h = absurd (true≢false h)
unbound st (mark.Restarted ∷ ms) h = absurd (true≢false h)
unbound st (m ∷ ms) h = (tt, unbound (stage_after st m) ms h)

placed-follow : (k : ℕ) (st : Stage) (ms : List Mark) → Follow st ms → Follow st (map (placed k) ms)
placed-follow k st [] h = tt
placed-follow k st (mark.Taken i r ∷ ms) h = (tt, placed-follow k st ms h.1)
placed-follow k st (m ∷ ms) h = (h.0, placed-follow k (stage_after st m) ms h.1)

-- the marks on the last access of a part
entered-follow : (ws : List Wait) → Follow stages.Waiting (entered_if_none ws)
entered-follow [] = (refl, tt)
entered-follow (w ∷ ws) = tt

last-follow : (c : Call) (x : Part) (bits : List Bool) (fresh : Bool) → Follow (stage_of x fresh) (last_marks c x bits)
last-follow c (Lowers t) bits fresh = (tt, entered-follow (waits_of c))
last-follow c (Waits t w ws) bits fresh = go (lets_by c t w bits)
  where
    go : (b : Bool) → Follow stages.Waiting (cond b (entered_if_none ws) [])
    go true = entered-follow ws
    go false = tt
last-follow c (AsksImage vs) bits fresh = go (changes (store_read c bits) c.command)
  where
    go : (b : Bool) → Follow stages.Inside (cond b [] (mark.Taken 0 (reply c (store_read c bits)) ∷ []))
    go true = tt
    go false = (tt, tt)
last-follow c (Refuses f) bits fresh = (tt, tt)
last-follow c (WritesCommit vs st) bits fresh = (tt, tt)
last-follow c (Clears a) bits fresh = (tt, tt)
last-follow c _ bits fresh = tt

last-if : (c : Call) (x : Part) (bits : List Bool) (fresh last : Bool) → Follow (stage_of x fresh) (cond last (last_marks c x bits) [])
last-if c x bits fresh true = last-follow c x bits fresh
last-if c x bits fresh false = tt

part-follow : (c : Call) (x : Part) (bits : List Bool) (fresh last : Bool) → Follow (stage_of x fresh) (cond fresh (first_marks x) [] ++ cond last (last_marks c x bits) [])
part-follow c x bits false last = last-if c x bits false last
part-follow c (Clears a) bits true false = (tt, tt)
part-follow c (Clears a) bits true true = (tt, (tt, tt))
part-follow c x bits true last = last-if c x bits true last

-- the marks of an entry come in the order of the stages
entry-follow : (s : Setup) (past : Past) (p : ℕ) (e : Entry) → Happens s past p e (doing s p past) (doing s p (e ∷ past)) → stage p past ≡ doings.stage_of (doing s p past) → Follow (stage p past) e.marks
entry-follow s past p e (a_call command number i a m k) st = subst (Follow (stage p past)) (sym m) (st ∙ ap doings.stage_of i, tt)
entry-follow s past p e (a_restart i a m k) st = subst (Follow (stage p past)) (sym m) (st ∙ ap doings.stage_of i, tt)
entry-follow s past p e (a_withdrawal command number t w ws run i a m k) st = unbound (stage p past) e.marks (ap (list_any is_bound) m)
entry-follow s past p e (a_failure command number i a m k) st = unbound (stage p past) e.marks (ap (list_any is_bound) m)
entry-follow s past p e (a_closing command number at flick n i next is v m k) st =
    unbound (stage p past) e.marks (ap (list_any is_bound) m ∙ any-placed is_bound of_bound (length (history s past)) n.marks ∙ any-closing is_bound of_bound (call s p command number) at flick n next)
entry-follow s past p e (a_step command number at a flick i o is made m k) st = subst (Follow (stage p past)) (sym m)
    (placed-follow (length (history s past)) (stage p past) (marks_of c at (value_of a.how))
    (subst (λ x. Follow x (marks_of c at (value_of a.how))) (sym (st ∙ ap doings.stage_of i)) (part-follow c at.part (bits_with at.run (value_of a.how)) (is_fresh at.run) (is_last c at.part at.run))))
  where
    c : Call
    c = call s p command number

-- The ticket that is shown, at each stage.

abbrev pub ShownAt : Stage → (shown reported : ℕ) → Type 0
ShownAt stages.Idle shown reported = shown ≡ 0
ShownAt stages.Doorway shown reported = shown ≡ 0
ShownAt stages.Waiting shown reported = shown ≡ reported
ShownAt stages.Inside shown reported = shown ≡ reported
ShownAt stages.Leaving shown reported = Unit {0}
ShownAt stages.Settling shown reported = Unit {0}
ShownAt stages.Down shown reported = shown ≡ 0

remaining-shows : (st : Stage) (shown reported : ℕ) → ShownAt (stage_after st mark.Left) shown reported
remaining-shows stages.Idle shown reported = tt
remaining-shows st shown reported = tt

mark-shows : (st : Stage) (m : Mark) (shown reported : ℕ) → Fits st m → ShownAt st shown reported → ShownAt (stage_after st m) (shown_after shown m) (ticket_after reported m)
mark-shows st (mark.Called command) shown reported f h = subst (λ x. ShownAt x shown reported) f h
mark-shows st (mark.Waiting t) shown reported f h = refl
mark-shows st mark.Entered shown reported f h = subst (λ x. ShownAt x shown reported) f h
mark-shows st (mark.Taken k r) shown reported f h = h
mark-shows st mark.Left shown reported f h = remaining-shows st 0 reported
mark-shows st (mark.Answered a) shown reported f h = refl
mark-shows st mark.Failed shown reported f h = tt
mark-shows st (mark.Settled v) shown reported f h = h
mark-shows st mark.Down shown reported f h = refl
mark-shows st mark.Withdrew shown reported f h = tt
mark-shows st mark.Restarted shown reported f h = subst (λ x. ShownAt x shown reported) f h

marks-show : (st : Stage) (ms : List Mark) (shown reported : ℕ) → Follow st ms → ShownAt st shown reported → ShownAt (fold stage_after st ms) (fold shown_after shown ms) (fold ticket_after reported ms)
marks-show st [] shown reported f h = h
marks-show st (m ∷ ms) shown reported f h = marks-show (stage_after st m) ms (shown_after shown m) (ticket_after reported m) f.1 (mark-shows st m shown reported f.0 h)

-- in every record
abbrev Shows : Past → ℕ → Type 0
Shows past p = ShownAt (stage p past) (ticket_shown p past) (ticket_reported p past)

pub shows : (s : Setup) → IsGood s → (events : List Event) (p : ℕ) → Shows (past_of s events) p
shows s g = own-induction s Shows (λ p. refl) others mine
  where
    by : (b : Bool) (past : Past) (e : Entry) (p : ℕ) → (e.process == p) ≡ b → ShownAt (cond b (fold stage_after (stage p past) e.marks) (stage p past)) (cond b (fold shown_after (ticket_shown p past) e.marks) (ticket_shown p past)) (cond b (fold ticket_after (ticket_reported p past) e.marks) (ticket_reported p past)) → Shows (e ∷ past) p
    by b past e p is h = subst (λ b. ShownAt (cond b (fold stage_after (stage p past) e.marks) (stage p past)) (cond b (fold shown_after (ticket_shown p past) e.marks) (ticket_shown p past)) (cond b (fold ticket_after (ticket_reported p past) e.marks) (ticket_reported p past))) (sym is) h

    others : (past : Past) (e : Entry) (p : ℕ) → e.process ≢ p → Shows past p → Shows (e ∷ past) p
    others past e p apart h = by false past e p (ne_eqb e.process p apart) h

    mine : (events : List Event) (event : Event) (e : Entry) → entry_of s (past_of s events) event ≡ Some e → Shows (past_of s events) e.process → Shows (e ∷ past_of s events) e.process
    mine events event e is h =
        let past : Past = past_of s events in
        by true past e e.process (eq-eqb e.process e.process refl)
        (marks-show (stage e.process past) e.marks (ticket_shown e.process past) (ticket_reported e.process past)
        (entry-follow s past e.process e (accepted s g events event e is).happens (stage-is s g events e.process)) h)
