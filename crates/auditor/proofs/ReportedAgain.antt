-- A step is the one with the flick that its access determines.
use Rattle.std.proofs.Common.{◌≡◌, ℕ, Bool, true, false, cond, List, [], ◌∷◌, length, map, Option, Some, None, refl, sym, ap, ◌∙◌}
use Rattle.std.specs.Prelude.{if◌then◌else◌, option_map}
use Rattle.model.specs.safe_bit.{Move, before_read, is_overlapped, last_written, read_value}
use Rattle.model.specs.safe_bit.declared.Move.TheVariants.{BeginWrite, EndWrite, BeginRead, EndRead, Settle}
use Rattle.model.specs.reader_copies.Runs as copies
use Rattle.model.specs.{Access, Call, Closing, Entry, Event, Next, Past, Place, access_at, accesses_of, before, closing_entry, closing_next, closing_of, ended, entry_at, failing, history, is_failed, last_call, last_write, made_with, marks_of, moves_of, opening_bit, own, past_of, place_of, placed, refused_at, settling_from, since, stage, starts, stepped, unfinished, value_of, value_written, valued, withdrawing}
use Rattle.plain_store.specs.{Setup}
use Rattle.model.specs.declared.events.Event.TheVariants as event
use Rattle.model.specs.declared.stages.Stage.TheVariants as stages
use Rattle.model.proofs.ClosingAccesses.{chosen-after, flick-free, unit_corresponds, withdrawn_corresponds, IsChosen}
use Rattle.model.proofs.Local.{View, rests, down, runs, withdraws, fails, option_map-some}
use Rattle.model.proofs.NextAccesses.{running_next}
use Rattle.model.proofs.Width.{IsGood}
use Rattle.model.proofs.World.{view}
use Rattle.auditor.specs.{flick_in}

reported_in : Move → Bool
reported_in m = elim m as (λ _. Bool) [ BeginWrite v ↦ v | EndWrite ↦ false | BeginRead ↦ false | EndRead v ↦ v | Settle v ↦ v ]

-- an overlapped read ends with its flick; any other read does not depend on the flick
value-again : (opening : Bool) (moves : List Move) (flick : Bool) → read_value opening moves (read_value opening moves flick) ≡ read_value opening moves flick
value-again opening moves flick = go (is_overlapped moves)
  where
    go : (b : Bool) → (if b then (if b then flick else last_written opening (before_read moves)) else last_written opening (before_read moves)) ≡ (if b then flick else last_written opening (before_read moves))
    go true = refl
    go false = refl

move-again : (opening : Bool) (moves : List Move) (flick : Bool) (m : Move) →
    ended (read_value opening moves (reported_in (ended (read_value opening moves flick) m))) m ≡ ended (read_value opening moves flick) m
unfolding reported_in
move-again opening moves flick (EndRead w) = ap EndRead (value-again opening moves flick)
move-again opening moves flick (BeginWrite w) = refl
move-again opening moves flick EndWrite = refl
move-again opening moves flick BeginRead = refl
move-again opening moves flick (Settle w) = refl

valued-again : (s : Setup) (past : Past) (flick : Bool) (a : Access) → valued s past (flick_in (Some (valued s past flick a))) a ≡ valued s past flick a
unfolding reported_in
valued-again s past flick a = ap (λ h. let x : Access = record a { how = h } in x) (move-again (opening_bit s a) (moves_of a past) flick a.how)

-- a step of a closing whose next access does not depend on the flick, or determines it
closes-again : (s : Setup) (past : Past) (p : ℕ) (flick : Bool) (c : Call) (at : Closing) (e : Entry) → ((f : Bool) → stepped s past p f ≡ option_map (closing_entry s past p f) (closing_next c at f)) →
    ((n : Next) → closing_next c at flick ≡ Some n → closing_next c at (flick_in (Some (valued s past flick n.access))) ≡ Some n) →
    stepped s past p flick ≡ Some e → stepped s past p (flick_in e.access) ≡ Some e
closes-again s past p flick c at e steps again h =
    let n : (n : Next) × (closing_next c at flick ≡ Some n) × (closing_entry s past p flick n ≡ e) = option_map-some (closing_entry s past p flick) (closing_next c at flick) e (sym (steps flick) ∙ h) in
    let v : Bool = flick_in (Some (valued s past flick n.0.access)) in
    let reported : flick_in e.access ≡ v = ap (λ (x : Entry). flick_in x.access) (sym n.2) in
    let made : closing_entry s past p v n.0 ≡ closing_entry s past p flick n.0 = ap (λ a. let x : Entry = record { process = p; access = Some a; marks = map (placed (length (history s past))) n.0.marks } in x) (valued-again s past flick n.0.access) in
    ap (stepped s past p) reported ∙ steps v ∙ ap (option_map (closing_entry s past p v)) (again n.0 n.1) ∙ ap Some (made ∙ n.2)

-- the first access of a unit determines its flick
first-again : (s : Setup) (past : Past) (c : Call) (mine : Past) (flick : Bool) (n : Next) → closing_next c (failing c mine) flick ≡ Some n →
    closing_next c (failing c mine) (flick_in (Some (valued s past flick n.access))) ≡ Some n
first-again s past c mine flick n h = go (unfinished c.setup.processes (last_write mine)) h
  where
    go : (torn : Option Access) → closing_next c (settling_from c mine torn) flick ≡ Some n → closing_next c (settling_from c mine torn) (flick_in (Some (valued s past flick n.access))) ≡ Some n
    go None h = h
    go (Some a) h = ap (closing_next c (settling_from c mine (Some a))) same ∙ h
      where
        how : n.access.how ≡ cond (copies.is_open_at (made_with a) 0) (Settle flick) (BeginWrite flick)
        how = sym (ap (λ o. elim o as (λ _. Move) [ None ↦ EndWrite | Some n ↦ n.access.how ]) h)

        from : (m : Move) → Bool
        from m = elim (ended (read_value (opening_bit s n.access) (moves_of n.access past) flick) m) as (λ _. Bool) [ BeginWrite v ↦ v | EndWrite ↦ false | BeginRead ↦ false | EndRead v ↦ v | Settle v ↦ v ]

        same : flick_in (Some (valued s past flick n.access)) ≡ flick
        same = ap from how ∙ either (copies.is_open_at (made_with a) 0)
          where
            either : (b : Bool) → from (cond b (Settle flick) (BeginWrite flick)) ≡ flick
            either true = refl
            either false = refl

unit-again : (s : Setup) (past : Past) (c : Call) (mine : Past) (flicks : List Bool) (flick : Bool) (n : Next) → closing_next c (closing_of c (failing c mine) flicks) flick ≡ Some n →
    closing_next c (closing_of c (failing c mine) flicks) (flick_in (Some (valued s past flick n.access))) ≡ Some n
unit-again s past c mine [] flick n h = first-again s past c mine flick n h
unit-again s past c mine (f ∷ flicks) flick n h = flick-free c (closing_of c (failing c mine) (f ∷ flicks)) (chosen-after c (closing_of c (failing c mine) flicks) f) _ flick ∙ h

withdrawing-chosen : (c : Call) (flicks : List Bool) → IsChosen (closing_of c (withdrawing c) flicks)
withdrawing-chosen c [] = tt
withdrawing-chosen c (f ∷ flicks) = chosen-after c (closing_of c (withdrawing c) flicks) f

pub reported_again : (s : Setup) → IsGood s → (events : List Event) (p : ℕ) (flick : Bool) (e : Entry) → refused_at (event.Step p flick) (stage p (past_of s events)) ≡ None →
    stepped s (past_of s events) p flick ≡ Some e → stepped s (past_of s events) p (flick_in e.access) ≡ Some e
reported_again s g events p flick e ok h = go (view s g events p)
  where
    past : Past
    past = past_of s events

    mine : Past
    mine = own p past

    c : Call
    c = last_call s p mine

    go : View s p mine (stage p past) → stepped s past p (flick_in e.access) ≡ Some e
    go (rests i) = let f : refused_at (event.Step p flick) stages.Idle ≡ None = ap (refused_at (event.Step p flick)) (sym i) ∙ ok in absurd (cc)
    go (down i) = let f : refused_at (event.Step p flick) stages.Down ≡ None = ap (refused_at (event.Step p flick)) (sym i) ∙ ok in absurd (cc)
    go (runs r) =
        let at : Place = place_of c (accesses_of (since starts mine)) in
        let a : Access = access_at c at.part at.run in
        let now : Some (entry_at s past p flick c at) ≡ Some e = sym (running_next s g p past (stage p past) flick r) ∙ h in
        let is : entry_at s past p flick c at ≡ e = cc in
        let reported : flick_in e.access ≡ flick_in (Some (valued s past flick a)) = ap (λ (x : Entry). flick_in x.access) (sym is) in
        ap (stepped s past p) reported
        ∙ running_next s g p past (stage p past) (flick_in (Some (valued s past flick a))) r
        ∙ ap Some (ap (λ (a : Access). let x : Entry = record { process = p; access = Some a; marks = map (placed (length (history s past))) (marks_of c at (value_of a.how)) } in x) (valued-again s past flick a) ∙ is)
    go (withdraws b st) =
        let at : Closing = closing_of c (withdrawing c) (map value_written (since starts mine)) in
        closes-again s past p flick c at e (withdrawn_corresponds s g events p b st).1 (λ n k. flick-free c at (withdrawing-chosen c (map value_written (since starts mine))) _ flick ∙ k) h
    go (fails b st) =
        let at : Closing = closing_of c (failing c (before is_failed mine)) (map value_written (since is_failed mine)) in
        closes-again s past p flick c at e (unit_corresponds s g events p b st).1 (unit-again s past c (before is_failed mine) (map value_written (since is_failed mine)) flick) h
