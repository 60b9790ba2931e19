-- A unit's steps are those of the closing machine, at each closing that the unit shows.
use Rattle.std.proofs.Common.{◌≡◌, ℕ, Bool, true, false, cond, List, [], ◌∷◌, Option, None, Some, option_map, refl, sym, ap, ◌∙◌}
use Rattle.reader_copies.specs.{settled_at, settle_after}
use Rattle.model.specs.{Call, Change, Field, Mark, Next, TornBit, cut, is_commit, taken_with, write_moved}
use Rattle.model.specs.safe_number.{new_write}
use Rattle.plain_store.specs.declared.Command.TheVariants.{Ask}
use Rattle.model.specs.declared.Mark.TheVariants as mark
use Rattle.model.specs.Closings.{Closing, Withdraws, Settles, Frees, Lowers, Quit, Ended, closing_after, closing_next, freeing, is_last_settled, is_last_written, no_ticket, settled_marks}
use Rattle.process.specs.laws.{Doing, Closes, call, closes}
use Rattle.process.specs.{ProcessState, may_step, next_at, stepped, unit_with}
use Rattle.bakery.specs.Units.{marks_reported, remains, unit_at, work_at}

-- a unit's step at a closing
pub record IsUnit (c : Call) (at : Closing) (flick : Bool) : Type 0 where
  pub access : option_map (λ (n : Next). n.access) (closing_next c at flick) ≡ Some (next_at (unit_at c at) flick)
  pub after : stepped (unit_at c at) flick false ≡ unit_at c (closing_after c at flick)
  pub marks : option_map (λ (n : Next). n.marks) (closing_next c at flick) ≡ Some (marks_reported at flick (remains (unit_at c at).doing) (remains (stepped (unit_at c at) flick false).doing))

abbrev does : Call → Doing → ProcessState
does c d = record { setup = c.setup; process = c.process; doing = d; command = Ask; number = 0 }

unit-by : (c : Call) (at : Closing) (flick : Bool) → may_step (work_at at) ≡ true → IsUnit c at flick
unit-by c (Withdraws w) flick going = absurd (cc)
unit-by c Quit flick going = absurd (cc)
unit-by c Ended flick going = absurd (cc)
unit-by c (Settles field bit begun taken inside t) flick going =
    let last : Bool = is_last_settled c t (settled_at t flick) in
    record { access = refl; after = after last; marks = marks last }
  where
    after : (b : Bool) → does c (closes Ask 0 (cond b (freeing c false) (Settles field bit false None false (settle_after t (settled_at t flick))))) ≡ unit_at c (cond b (freeing c inside) (Settles field bit begun taken inside (settle_after t (settled_at t flick))))
    after true = refl
    after false = refl

    marks : (b : Bool) → (let all : List Mark = cond b (settled_marks begun taken (settled_at t flick)) [] in
        Some all ≡ Some (marks_reported (Settles field bit begun taken inside t) flick (remains (work_at (Settles field bit begun taken inside t))) (remains (closes Ask 0 (cond b (freeing c false) (Settles field bit false None false (settle_after t (settled_at t flick))))))))
    marks true = refl
    marks false = refl
unit-by c (Frees inside w) flick going =
    let last : Bool = is_last_written c (no_ticket c) w in
    record { access = refl; after = after last; marks = marks last }
  where
    after : (b : Bool) → does c (closes Ask 0 (cond b (Lowers (new_write 1)) (Frees false (write_moved c.setup.processes (no_ticket c) w)))) ≡ unit_at c (cond b (Lowers (new_write 1)) (Frees inside (write_moved c.setup.processes (no_ticket c) w)))
    after true = refl
    after false = refl

    marks : (b : Bool) → option_map (λ (n : Next). n.marks) (closing_next c (Frees inside w) flick) ≡ Some (marks_reported (Frees inside w) flick (remains (work_at (Frees inside w))) (remains (closes Ask 0 (cond b (Lowers (new_write 1)) (Frees false (write_moved c.setup.processes (no_ticket c) w))))))
    marks true = refl
    marks false = refl
unit-by c (Lowers w) flick going =
    let last : Bool = is_last_written c (false ∷ []) w in
    record { access = refl; after = after last; marks = marks last }
  where
    after : (b : Bool) → does c (closes Ask 0 (cond b Ended (Lowers (write_moved c.setup.processes (false ∷ []) w)))) ≡ unit_at c (cond b Ended (Lowers (write_moved c.setup.processes (false ∷ []) w)))
    after true = refl
    after false = refl

    marks : (b : Bool) → (let all : List Mark = cond b (mark.Down ∷ []) [] in
        Some all ≡ Some (marks_reported (Lowers w) flick (remains (work_at (Lowers w))) (remains (closes Ask 0 (cond b Ended (Lowers (write_moved c.setup.processes (false ∷ []) w)))))))
    marks true = refl
    marks false = refl

-- each unit at this closing has this step
unit-is : (c : Call) (at : Closing) (u : ProcessState) (flick : Bool) → u ≡ unit_at c at → may_step u.doing ≡ true → IsUnit c at flick
unit-is c at u flick is going = unit-by c at flick (sym (ap (λ (x : ProcessState). may_step x.doing) is) ∙ going)

pub unit-after : (c : Call) (at : Closing) (u then : ProcessState) (flick : Bool) → u ≡ unit_at c at → may_step u.doing ≡ true → then ≡ stepped u flick false → then ≡ unit_at c (closing_after c at flick)
unit-after c at u then flick is going goes = goes ∙ ap (λ x. stepped x flick false) is ∙ (unit-is c at u flick is going).after

-- THE BEGINNING

untaken : (field : Field) → taken_with field None ≡ None
untaken field = by (is_commit field)
  where
    by : (b : Bool) → (let none : Option Change = None in cond b (option_map (λ (change : Change). change.0) none) None) ≡ None
    by true = refl
    by false = refl

-- the number is 0 in every version of the setup
abbrev numbered : Call → Option TornBit → ℕ → ProcessState
numbered c torn n = record { setup = c.setup; process = c.process; doing = Closes Ask n (unit_with (call c.setup c.process Ask n) torn); command = Ask; number = n }

begins : (c : Call) (torn : Option TornBit) (begun : Bool) (pending : Option Change) (inside : Bool) → numbered c torn 0 ≡ unit_at c (cut c torn begun pending inside)
begins c None begun pending inside = refl
begins c (Some t) begun pending inside = ap (λ taken. does c (Closes Ask 0 (Settles t.field t.bit false taken false t.torn))) (untaken t.field) ∙ refl
