-- The next access of a process that withdrew, and of its memory unit.
use Rattle.std.specs.Prelude.{◌≡◌, refl, ℕ, ◌<◌, Bool, true, false, cond, List, [], ◌∷◌, length, map, Option, None, Some, option_map, unwrap_or}
use Rattle.std.proofs.Common.{sym, ◌∙◌, ap}
use Rattle.std.specs.List.{list_any}
use Rattle.std.proofs.lemmas.List.{length-map}
use Rattle.reader_copies.specs.Runs as copies
use Rattle.safe_bit.specs.{Move}
use Rattle.safe_bit.specs.declared.Move.TheVariants.{BeginWrite, EndWrite, Settle}
use Rattle.model.specs.{Access, Call, Entry, Event, Mark, Next, Past, Script, before, ended, entry_made, first_flick, has, history, is_failed, last_call, last_start, last_write, marks_at, moves_of, nth, opening_bit, own, past_of, placed, program, program_from, since, singles, stage as stage_in, start_in, starts, stepped, unfinished, unit_program, value_written, valued, withdrawn, write_moved}
use Rattle.plain_store.specs.{Setup}
use Rattle.model.specs.declared.marks.Mark.TheVariants.{Called, Failed, Withdrew}
use Rattle.model.specs.declared.stages.Stage.TheVariants as stage
use Rattle.model.specs.Closings.{Closing, Withdraws, Settles, Frees, Lowers, Quit, Ended, withdrawing, settling_from, failing, freeing, is_last_written, is_last_settled, no_ticket, closing_next, closing_after, closing_stage, closing_of, closing_entry}
use Rattle.model.proofs.Accepted.{rooms, no_failed}
use Rattle.model.proofs.ClosingScripts.{goes_on, over-next, first-more, withdrawal-reports, unit-reports}
use Rattle.model.proofs.Local.{get_some}
use Rattle.model.proofs.Width.{IsGood}

-- the unit's, not the withdrawal's
abbrev pub is_unit : Closing → Bool
is_unit (Withdraws w) = false
is_unit (Settles field bit begun taken is t) = true
is_unit (Frees is w) = true
is_unit (Lowers w) = true
is_unit Quit = false
is_unit Ended = true

same-kind : (c : Call) (at : Closing) (flick : Bool) → is_unit (closing_after c at flick) ≡ is_unit at
same-kind c (Withdraws w) flick = go (is_last_written c (no_ticket c) w)
  where
    go : (b : Bool) → is_unit (cond b Quit (Withdraws (write_moved c.setup.processes (no_ticket c) w))) ≡ false
    go true = refl
    go false = refl
same-kind c (Settles field bit begun taken is t) flick = go (is_last_settled c t (copies.settled_at t flick))
  where
    go : (b : Bool) → is_unit (cond b (freeing c is) (Settles field bit begun taken is (copies.settle_after t (copies.settled_at t flick)))) ≡ true
    go true = refl
    go false = refl
same-kind c (Frees is w) flick = go (is_last_written c (no_ticket c) w)
  where
    go : (b : Bool) → is_unit (cond b (Lowers (Rattle.safe_number.specs.Runs.new_write 1)) (Frees is (write_moved c.setup.processes (no_ticket c) w))) ≡ true
    go true = refl
    go false = refl
same-kind c (Lowers w) flick = go (is_last_written c (false ∷ []) w)
  where
    go : (b : Bool) → is_unit (cond b Ended (Lowers (write_moved c.setup.processes (false ∷ []) w))) ≡ true
    go true = refl
    go false = refl
same-kind c Quit flick = refl
same-kind c Ended flick = refl

pub keeps-kind : (c : Call) (start : Closing) (flicks : List Bool) → is_unit (closing_of c start flicks) ≡ is_unit start
keeps-kind c start [] = refl
keeps-kind c start (f ∷ flicks) = same-kind c (closing_of c start flicks) f ∙ keeps-kind c start flicks

pub failing-kind : (c : Call) (past : Past) → is_unit (failing c past) ≡ true
failing-kind c past = go (unfinished c.setup.processes (last_write past))
  where
    go : (torn : Option Access) → is_unit (settling_from c past torn) ≡ true
    go None = refl
    go (Some a) = refl

stage-kind : (at : Closing) → goes_on at ≡ true → closing_stage at ≡ cond (is_unit at) stage.Settling stage.Leaving
stage-kind (Withdraws w) o = refl
stage-kind (Settles field bit begun taken is t) o = refl
stage-kind (Frees is w) o = refl
stage-kind (Lowers w) o = refl
stage-kind Quit o = cc
stage-kind Ended o = cc

-- while its script has an access left, the machine continues
goes : (c : Call) (script : Script) (at : Closing) (flick : Bool) (k : ℕ) → k < length (singles script) → nth k script ≡ closing_next c at flick → goes_on at ≡ true
goes c script at flick k l e = go (goes_on at) refl
  where
    go : (b : Bool) → goes_on at ≡ b → goes_on at ≡ true
    go true o = o
    go false o =
        let n = get_some (singles script) k l in
        let f : Some n.0 ≡ None = sym n.1 ∙ e ∙ over-next c at flick o in cc

-- the entry that is made with the access of the machine
same-entry : (s : Setup) (past : Past) (p : ℕ) (flick : Bool) (n : Next) →
    marks_at (length (since starts (own p past))) (program s p flick (record { process = p; access = Some (valued s past flick n.access); marks = [] } ∷ own p past)) ≡ n.marks →
    entry_made s past p flick n ≡ closing_entry s past p flick n
same-entry s past p flick n e = λ i. record { process = p; access = Some (valued s past flick n.access); marks = map (placed (length (history s past))) (e i) }

same-entries : (s : Setup) (past : Past) (p : ℕ) (flick : Bool) (x : Option Next) →
    ((n : Next) → x ≡ Some n → marks_at (length (since starts (own p past))) (program s p flick (record { process = p; access = Some (valued s past flick n.access); marks = [] } ∷ own p past)) ≡ n.marks) →
    option_map (entry_made s past p flick) x ≡ option_map (closing_entry s past p flick) x
same-entries s past p flick None h = refl
same-entries s past p flick (Some n) h = ap Some (same-entry s past p flick n (h n refl))

marks_in : (script : Script) (k : ℕ) (n : Next) → nth k script ≡ Some n → marks_at k script ≡ n.marks
marks_in script k n h = ap {A = Option Next} (λ o. elim o as (λ _. List Mark) [ None ↦ [] | Some n ↦ n.marks ]) h

-- a process that withdrew
pub withdrawn_corresponds : (s : Setup) → IsGood s → (events : List Event) (p : ℕ)
    → let past : Past = past_of s events in
    let c : Call = last_call s p (own p past) in
    let at : Closing = closing_of c (withdrawing c) (map value_written (since starts (own p past))) in
    last_start (own p past) ≡ Some Withdrew → stage_in p past ≡ stage.Leaving →
    (closing_stage at ≡ stage.Leaving) × ((flick : Bool) → stepped s past p flick ≡ option_map (closing_entry s past p flick) (closing_next c at flick))
withdrawn_corresponds s g events p b st = (
  stage-kind at (goes c (withdrawn c) at false len ((rooms s g events p).withdrawing b st) (reports false)) ∙ ap (λ k. cond k stage.Settling stage.Leaving) (keeps-kind c (withdrawing c) fs),
  λ flick. ap (option_map (entry_made s past p flick)) (ap (λ m. nth len (program_from s p flick mine m)) b)
      ∙ same-entries s past p flick (nth len (withdrawn c)) (λ n h. ap (λ m. marks_at len (program_from s p flick (record { process = p; access = Some (valued s past flick n.access); marks = [] } ∷ mine) m)) b ∙ marks_in (withdrawn c) len n h)
      ∙ ap (option_map (closing_entry s past p flick)) (reports flick),
)
  where
    past : Past
    past = past_of s events

    mine : Past
    mine = own p past

    c : Call
    c = last_call s p mine

    len : ℕ
    len = length (since starts mine)

    fs : List Bool
    fs = map value_written (since starts mine)

    at : Closing
    at = closing_of c (withdrawing c) fs

    reports : (flick : Bool) → nth len (withdrawn c) ≡ closing_next c at flick
    reports flick = ap (λ k. nth k (withdrawn c)) (sym (length-map {B = Bool} (since starts mine) value_written)) ∙ withdrawal-reports c g fs flick

-- after a failure both marks are the same
first-failed : (marks : List Mark) → start_in marks ≡ Some Failed → list_any is_failed marks ≡ true
first-failed [] h = cc
first-failed (Called c ∷ marks) h = cc
first-failed (Withdrew ∷ marks) h = cc
first-failed (Failed ∷ marks) h = refl
first-failed (_ ∷ marks) h = first-failed marks h

started : (marks : List Mark) → list_any starts marks ≡ true → (m : Mark) × (start_in marks ≡ Some m)
started [] h = cc
started (Called c ∷ marks) h = (Called c, refl)
started (Withdrew ∷ marks) h = (Withdrew, refl)
started (Failed ∷ marks) h = (Failed, refl)
started (_ ∷ marks) h = started marks h

not_started : (marks : List Mark) → list_any starts marks ≡ false → start_in marks ≡ None
not_started [] h = refl
not_started (Called c ∷ marks) h = cc
not_started (Withdrew ∷ marks) h = cc
not_started (Failed ∷ marks) h = cc
not_started (_ ∷ marks) h = not_started marks h

pub since-failed : (mine : Past) → last_start mine ≡ Some Failed → since starts mine ≡ since is_failed mine
since-failed [] h = refl
since-failed (e ∷ mine) h = go (has starts e) refl (since-failed mine) h
  where
    go : (b : Bool) → has starts e ≡ b → (last_start mine ≡ Some Failed → since starts mine ≡ since is_failed mine) →
        elim (start_in e.marks) as (λ _. Option Mark) [ None ↦ last_start mine | Some m ↦ Some m ] ≡ Some Failed →
        since starts (e ∷ mine) ≡ since is_failed (e ∷ mine)
    go true o more h =
        let m = started e.marks o in
        let f : Some m.0 ≡ Some Failed = ap (λ x. elim x as (λ _. Option Mark) [ None ↦ last_start mine | Some m ↦ Some m ]) (sym m.1) ∙ h in
        ap (λ b. elim b as (λ _. Past) [ true ↦ [] | false ↦ e ∷ since starts mine ]) o
        ∙ sym (ap (λ b. elim b as (λ _. Past) [ true ↦ [] | false ↦ e ∷ since is_failed mine ]) (first-failed e.marks (m.1 ∙ f)))
    go false o more h =
        let f : last_start mine ≡ Some Failed = ap (λ x. elim x as (λ _. Option Mark) [ None ↦ last_start mine | Some m ↦ Some m ]) (sym (not_started e.marks o)) ∙ h in
        ap (λ b. elim b as (λ _. Past) [ true ↦ [] | false ↦ e ∷ since starts mine ]) o
        ∙ ap (λ l. e ∷ l) (more f)
        ∙ sym (ap (λ b. elim b as (λ _. Past) [ true ↦ [] | false ↦ e ∷ since is_failed mine ]) (no_failed e.marks o))

-- the value that is settled at was chosen
abbrev pub IsChosen : Closing → Type 0
IsChosen (Settles field bit begun taken is t) = (v : Bool) × (t.value ≡ Some v)
IsChosen _ = Unit {0}

pub chosen-after : (c : Call) (at : Closing) (flick : Bool) → IsChosen (closing_after c at flick)
chosen-after c (Withdraws w) flick = go (is_last_written c (no_ticket c) w)
  where
    go : (b : Bool) → IsChosen (cond b Quit (Withdraws (write_moved c.setup.processes (no_ticket c) w)))
    go true = tt
    go false = tt
chosen-after c (Settles field bit begun taken is t) flick = go (is_last_settled c t (copies.settled_at t flick)) (Rattle.std.specs.Prelude.◌||◌ t.begun (copies.is_open_at t.made t.reader))
  where
    v : Bool
    v = copies.settled_at t flick

    go : (b d : Bool) → IsChosen (cond b (freeing c is) (Settles field bit begun taken is (cond {A = copies.Settling} d (record { made = t.made; reader = Prim.Native.Nat.◌+◌ t.reader 1; begun = false; value = Some v }) (record { made = t.made; reader = t.reader; begun = true; value = Some v }))))
    go true d = tt
    go false true = (v, refl)
    go false false = (v, refl)
chosen-after c (Frees is w) flick = go (is_last_written c (no_ticket c) w)
  where
    go : (b : Bool) → IsChosen (cond b (Lowers (Rattle.safe_number.specs.Runs.new_write 1)) (Frees is (write_moved c.setup.processes (no_ticket c) w)))
    go true = tt
    go false = tt
chosen-after c (Lowers w) flick = go (is_last_written c (false ∷ []) w)
  where
    go : (b : Bool) → IsChosen (cond b Ended (Lowers (write_moved c.setup.processes (false ∷ []) w)))
    go true = tt
    go false = tt
chosen-after c Quit flick = tt
chosen-after c Ended flick = tt

-- once the value is chosen, the machine does not depend on flicks
pub flick-free : (c : Call) (at : Closing) → IsChosen at → (w flick : Bool) → closing_next c at w ≡ closing_next c at flick
flick-free c (Withdraws x) h w flick = refl
flick-free c (Settles field bit begun taken is t) h w flick =
    ap (λ v. Some (let n : Next = record {
      access = Rattle.model.specs.Accesses.access_of c.process field (bit, copies.next_settle t v);
      marks = cond (is_last_settled c t v) (Rattle.model.specs.Closings.settled_marks begun taken v) [];
    } in n)) (ap (λ o. unwrap_or o w) h.1 ∙ sym (ap (λ o. unwrap_or o flick) h.1))
flick-free c _ h w flick = refl

-- the first access of a unit determines the flick that it was made with
first-flick : (s : Setup) (past : Past) (c : Call) (mine : Past) (flick : Bool) (n : Next) → closing_next c (failing c mine) flick ≡ Some n →
    closing_next c (failing c mine) (value_written (record { process = c.process; access = Some (valued s past flick n.access); marks = [] })) ≡ Some n
first-flick s past c mine flick n h = go (unfinished c.setup.processes (last_write mine)) h
  where
    written : Access → Bool
    written a = value_written (record { process = c.process; access = Some (valued s past flick a); marks = [] })

    go : (torn : Option Access) → closing_next c (settling_from c mine torn) flick ≡ Some n → closing_next c (settling_from c mine torn) (written n.access) ≡ Some n
    go None h = h
    go (Some a) h = ap (closing_next c (settling_from c mine (Some a))) same ∙ h
      where
        how : n.access.how ≡ cond (copies.is_open_at (Rattle.model.specs.Unit.made_with a) 0) (Settle flick) (BeginWrite flick)
        how = sym (ap (λ o. elim o as (λ _. Move) [ None ↦ EndWrite | Some n ↦ n.access.how ]) h)

        from : (m : Move) → Bool
        from m = elim (ended (Rattle.safe_bit.specs.SafeRule.read_value (opening_bit s n.access) (moves_of n.access past) flick) m) as (λ _. Bool) [ BeginWrite v ↦ v | Settle v ↦ v | EndWrite ↦ false | Rattle.safe_bit.specs.declared.Move.TheVariants.BeginRead ↦ false | Rattle.safe_bit.specs.declared.Move.TheVariants.EndRead v ↦ false ]

        same : written n.access ≡ flick
        same = ap from how ∙ either (copies.is_open_at (Rattle.model.specs.Unit.made_with a) 0)
          where
            either : (b : Bool) → from (cond b (Settle flick) (BeginWrite flick)) ≡ flick
            either true = refl
            either false = refl

-- so a unit's next access is the same if the value that it wrote is the flick
pub reported-again : (s : Setup) (past : Past) (c : Call) (mine : Past) (flicks : List Bool) (flick : Bool) (n : Next) → closing_next c (closing_of c (failing c mine) flicks) flick ≡ Some n →
    closing_next c (closing_of c (failing c mine) flicks) (value_written (record { process = c.process; access = Some (valued s past flick n.access); marks = [] })) ≡ Some n
reported-again s past c mine [] flick n h = first-flick s past c mine flick n h
reported-again s past c mine (f ∷ flicks) flick n h = flick-free c (closing_of c (failing c mine) (f ∷ flicks)) (chosen-after c (closing_of c (failing c mine) flicks) f) _ flick ∙ h

-- the memory unit of a process that failed
pub unit_corresponds : (s : Setup) → IsGood s → (events : List Event) (p : ℕ)
    → let past : Past = past_of s events in
    let c : Call = last_call s p (own p past) in
    let at : Closing = closing_of c (failing c (before is_failed (own p past))) (map value_written (since is_failed (own p past))) in
    last_start (own p past) ≡ Some Failed → stage_in p past ≡ stage.Settling →
    (closing_stage at ≡ stage.Settling) × ((flick : Bool) → stepped s past p flick ≡ option_map (closing_entry s past p flick) (closing_next c at flick))
unit_corresponds s g events p b st = (
  stage-kind at (goes c (unit_program c cut (first_flick fs false)) at false len ((rooms s g events p).failing b st (first_flick fs false)) (reports false))
      ∙ ap (λ k. cond k stage.Settling stage.Leaving) (keeps-kind c (failing c cut) fs ∙ failing-kind c cut),
  λ flick. ap (option_map (entry_made s past p flick)) (ap (λ m. nth len (program_from s p flick mine m)) b ∙ reports flick)
      ∙ same-entries s past p flick (closing_next c at flick) (marks flick),
)
  where
    past : Past
    past = past_of s events

    mine : Past
    mine = own p past

    c : Call
    c = last_call s p mine

    cut : Past
    cut = before is_failed mine

    len : ℕ
    len = length (since starts mine)

    fs : List Bool
    fs = map value_written (since is_failed mine)

    at : Closing
    at = closing_of c (failing c cut) fs

    size : len ≡ length fs
    size = ap length (since-failed mine b) ∙ sym (length-map {B = Bool} (since is_failed mine) value_written)

    reports : (flick : Bool) → nth len (unit_program c cut (first_flick fs flick)) ≡ closing_next c at flick
    reports flick = ap (λ k. nth k (unit_program c cut (first_flick fs flick))) size ∙ unit-reports c g cut fs flick

    marks : (flick : Bool) (n : Next) → closing_next c at flick ≡ Some n →
        marks_at len (program s p flick (record { process = p; access = Some (valued s past flick n.access); marks = [] } ∷ mine)) ≡ n.marks
    marks flick n h =
        ap (λ m. marks_at len (program_from s p flick (bare ∷ mine) m)) b
        ∙ ap (λ v. marks_at len (unit_program c cut v)) (first-more (value_written bare) fs flick)
        ∙ marks_in (unit_program c cut (first_flick fs (value_written bare))) len n (reports (value_written bare) ∙ reported-again s past c cut fs flick n h)
      where
        bare : Entry
        bare = record { process = p; access = Some (valued s past flick n.access); marks = [] }
