-- Commands are taken inside.
use Rattle.std.specs.Prelude.{Option, None}
use Rattle.std.proofs.Common.{◌≡◌, ℕ, ◌||◌, Bool, true, false, cond, List, [], ◌∷◌, Some, length, map, refl, sym, ap, subst, ◌∙◌, true≢false, IsTrue}
use Rattle.std.specs.List.{list_any}
use Rattle.model.specs.reader_copies.Runs as copies
use Rattle.model.specs.{AsksImage, Call, Entry, Event, Field, Mark, Next, Part, Past, Wait, Waits, WritesCommit, bits_with, entered_if_none, entry_of, has, history, inside, is_commit, is_fresh, is_last, is_version, last_marks, lets_by, marks_of, past_of, placed, value_of, waits_of}
use Rattle.model.specs.declared.access.Field.TheVariants.{Commit}
use Rattle.plain_store.specs.{Command, Reply, Setup}
use Rattle.model.specs.declared.marks.Mark.TheVariants.{Taken, Left, Down}
use Rattle.model.specs.Closings.{Closing, Withdraws, Settles, Frees, Lowers, Quit, Ended, closing_next, is_last_settled, settled_marks}
use Rattle.model.specs.Parts as part
use Rattle.model.proofs.Width.{IsGood}
use Rattle.laws.specs.{Closes, Doing, call, doing, is_inside, is_inside_at, is_taken}
use Rattle.laws.proofs.Frame.{Happens, a_call, a_withdrawal, a_failure, a_restart, a_step, a_closing}
use Rattle.laws.proofs.FrameEvents.{accepted}
use Rattle.laws.proofs.FrameInside.{inside-is}
use Rattle.laws.proofs.Alone.{SettlesInside, ClosesInside, closes_inside}
use Rattle.laws.proofs.AtPlaces.{any-marks}
use Rattle.laws.proofs.DoorwayParts.{both}

placed-taken : (k : ℕ) (ms : List Mark) → list_any is_taken (map (placed k) ms) ≡ list_any is_taken ms
placed-taken k [] = refl
placed-taken k (Taken i r ∷ ms) = refl
placed-taken k (m ∷ ms) = ap (λ b. is_taken m || b) (placed-taken k ms)

entered-taken : (ws : List Wait) → list_any is_taken (entered_if_none ws) ≡ false
entered-taken [] = refl
entered-taken (w ∷ ws) = refl

-- the parts that take a command are inside
part-takes : (c : Call) (x : Part) (bits : List Bool) (fresh : Bool) → list_any is_taken (last_marks c x bits) ≡ true → is_inside_at x fresh ≡ true
part-takes c (AsksImage vs) bits fresh h = refl
part-takes c (WritesCommit vs st) bits fresh h = refl
part-takes c (part.Lowers t) bits fresh h = absurd (true≢false (sym h ∙ entered-taken (waits_of c)))
part-takes c (Waits t w ws) bits fresh h = absurd (true≢false (sym h ∙ go (lets_by c t w bits)))
  where
    go : (b : Bool) → list_any is_taken (cond b (entered_if_none ws) []) ≡ false
    go true = entered-taken ws
    go false = refl
part-takes c _ bits fresh h = absurd (true≢false (sym h))

commit-version : (f : Field) → is_commit f ≡ true → is_version f ≡ true
commit-version Commit h = refl
commit-version _ h = absurd (true≢false (sym h))

-- a memory unit takes a command with a commit bit alone
unit-takes : (c : Call) (command : Command) (number : ℕ) (at : Closing) (flick : Bool) (n : Next) → closing_next c at flick ≡ Some n → SettlesInside at → list_any is_taken n.marks ≡ true → is_inside (Closes command number at) ≡ true
unit-takes c command number at flick n next settles h = go at next settles
  where
    of_next : (x : Next) → Some x ≡ Some n → list_any is_taken x.marks ≡ true
    of_next x e = let f : x ≡ n = cc in ap (λ (y : Next). list_any is_taken y.marks) f ∙ h

    one : (m : Mark) (b : Bool) → is_taken m ≡ false → list_any is_taken (cond b (m ∷ []) []) ≡ true → ⊥
    one m true k h = true≢false (sym h ∙ ap (λ b. b || false) k)
    one m false k h = true≢false (sym h)

    commits : (begun v last commit : Bool) (taken : Option Reply) → (commit ≡ false → taken ≡ None) → list_any is_taken (cond last (settled_marks begun taken v) []) ≡ true → commit ≡ true
    commits begun v last true taken by h = refl
    commits begun v true false taken by h = let k : list_any is_taken (settled_marks begun taken v) ≡ false = ap (λ t. list_any is_taken (settled_marks begun t v)) (by refl) in absurd (true≢false (sym h ∙ k))
    commits begun v false false taken by h = absurd (true≢false (sym h))

    go : (at : Closing) → closing_next c at flick ≡ Some n → SettlesInside at → is_inside (Closes command number at) ≡ true
    go (Withdraws w) k x = absurd (one _ _ refl (of_next _ k))
    go (Settles f bit begun taken is t) k x =
        let v : Bool = copies.settled_at t flick in
        x.0 (commit-version f (commits begun v (is_last_settled c t v) (is_commit f) taken x.1 (of_next _ k)))
    go (Frees is w) k x = absurd (one Left _ refl (of_next _ k))
    go (Lowers w) k x = absurd (one Down _ refl (of_next _ k))
    go Quit k x = cc
    go Ended k x = cc

takes-inside : (s : Setup) (past : Past) (p : ℕ) (e : Entry) (d d' : Doing) → Happens s past p e d d' → ClosesInside d → has is_taken e ≡ true → is_inside d ≡ true
takes-inside s past p e d d' (a_call command number i a m k) x h = absurd (true≢false (sym h ∙ ap (list_any is_taken) m))
takes-inside s past p e d d' (a_withdrawal command number t w ws run i a m k) x h = absurd (true≢false (sym h ∙ ap (list_any is_taken) m))
takes-inside s past p e d d' (a_failure command number i a m k) x h = absurd (true≢false (sym h ∙ ap (list_any is_taken) m))
takes-inside s past p e d d' (a_restart i a m k) x h = absurd (true≢false (sym h ∙ ap (list_any is_taken) m))
takes-inside s past p e d d' (a_step command number at a flick i o is made m k) x h =
    let c : Call = call s p command number in
    let bits : List Bool = bits_with at.run (value_of a.how) in
    let reported : list_any is_taken (marks_of c at (value_of a.how)) ≡ true = sym (ap (list_any is_taken) m ∙ placed-taken (length (history s past)) (marks_of c at (value_of a.how))) ∙ h in
    let tests = both (is_last c at.part at.run) (list_any is_taken (last_marks c at.part bits)) (sym (any-marks is_taken refl c at (value_of a.how)) ∙ reported) in
    ap is_inside i ∙ part-takes c at.part bits (is_fresh at.run) tests.1
takes-inside s past p e d d' (a_closing command number at flick n i next is v m k) x h =
    ap is_inside i ∙ unit-takes (call s p command number) command number at flick n next (subst ClosesInside i x) (sym (ap (list_any is_taken) m ∙ placed-taken (length (history s past)) n.marks) ∙ h)

pub taken_inside : (s : Setup) → IsGood s → (events : List Event) (event : Event) (e : Entry) → entry_of s (past_of s events) event ≡ Some e → has is_taken e ≡ true → IsTrue (inside e.process (past_of s events))
taken_inside s g events event e is h =
    let past : Past = past_of s events in
    inside-is s g events e.process
    ∙ takes-inside s past e.process e (doing s e.process past) (doing s e.process (e ∷ past)) (accepted s g events event e is).happens (closes_inside s g events e.process) h
