-- The next access of a process is that of its cursor.
use Rattle.std.proofs.Common.{◌≡◌, ◌+◌, Bool, true, false, List, [], ◌∷◌, Option, None, Some, ℕ, sym, ap, ◌∙◌, arith, ◌⊎◌, inl, inr}
use Rattle.std.specs.Prelude.{IfSome}
use Rattle.plain_store.specs.{Reply}
use Rattle.model.specs.{Access, Mark, no_ticket}
use Rattle.model.specs.declared.access.Field.TheVariants.{Choosing, Ticket}
use Rattle.laws.specs.{Closes}
use Rattle.registers.specs.{CursorState, cursor_after, is_fresh, move_by, next_access}
use Rattle.registers.proofs.ClosingMoves.{ends}
use Rattle.registers.proofs.CursorRuns.{moves}
use Rattle.process.specs.{AreMarksOn, HasMoved, IsStepped, KeepsPlace, PartState, ProcessState, Activity, SettlesAt, changes_at, changes_read, doing_at, value_for_next, marks_on, may_step, next_at, reply_taken, settling_at, state_at, stepped, with_doing}
use Rattle.process.specs.declared.activity.Activity.TheVariants as work

settling-next : (k : PartState) (inside flick : Bool) (taken : Option (Bool × Reply)) (cur : CursorState) → SettlesAt k.call.setup k.call.process taken cur →
    next_access cur flick ≡ next_at (state_at k (work.Settles inside taken) cur) flick
settling-next k inside flick taken cur at =
    let reader : cur.reader + cur.copy ≡ cur.copy = omega (arith, at.reader) in
    (λ i. record { owner = at.owner i; field = cur.register.field; bit = cur.bit; reader = reader i; how = move_by (at.run i) cur flick })
    ∙ sym (ap (λ r. next_at (with_doing k (Closes k.call.command k.call.number (settling_at r inside (reply_taken taken) cur))) flick) at.run)

pub next-is : (k : PartState) (w : Activity) (cur : CursorState) (flick : Bool) → KeepsPlace k w cur → may_step (doing_at k w cur) ≡ true → next_access cur (value_for_next w flick false) ≡ next_at (state_at k w cur) flick
next-is k work.Rests cur flick keeps goes = absurd (cc)
next-is k work.Lies cur flick keeps goes = absurd (cc)
next-is k work.Runs cur flick keeps goes = let m = moves k.call k.part cur false keeps.working.at in sym m.access
next-is k work.Withdraws cur flick keeps goes = let e = ends k.call.setup k.call.process (Ticket, no_ticket k.call) cur false keeps.working in sym e.access
next-is k (work.Settles inside taken) cur flick keeps goes = settling-next k inside flick taken cur keeps.working
next-is k (work.Frees inside) cur flick keeps goes = let e = ends k.call.setup k.call.process (Ticket, no_ticket k.call) cur false keeps.working in sym e.access
next-is k work.Lowers cur flick keeps goes = let e = ends k.call.setup k.call.process (Choosing, false ∷ []) cur false keeps.working in sym e.access

-- a process that has an access to make is neither idle nor down
pub idle-goes : (k : PartState) (w : Activity) (cur : CursorState) → may_step (doing_at k w cur) ≡ true → (w ≡ work.Rests) ⊎ (w ≡ work.Lies) → ⊥
idle-goes k w cur goes (inl rests) = let none : false ≡ true = sym (ap (λ w. may_step (doing_at k w cur)) rests) ∙ goes in absurd (cc)
idle-goes k w cur goes (inr lies) = let none : false ≡ true = sym (ap (λ w. may_step (doing_at k w cur)) lies) ∙ goes in absurd (cc)

-- the cursor has made the access
pub has-moved : {k : PartState} {w : Activity} {g fresh : Bool} {a : Access} {before cur : CursorState} (flick value : Bool) → KeepsPlace k w before → may_step (doing_at k w before) ≡ true → g ≡ value_for_next w flick value → a ≡ next_access before g → cur ≡ cursor_after before a.how → fresh ≡ is_fresh before →
    HasMoved k w flick value before cur fresh
has-moved {k} {w} {g} {fresh} {a} {before} {cur} flick value keeps may gives is goes first = record {
  keeps = keeps;
  goes = may;
  moves = goes ∙ ap (λ (b : Access). cursor_after before b.how) (is ∙ ap (next_access before) gives);
  first = first;
}

-- the process has advanced from its state before
module _ {k : PartState} {w : Activity} {flick value fresh : Bool} {before cur : CursorState} {now : ProcessState} (h : HasMoved k w flick value before cur fresh) (shows : state_at k w before ≡ now) where
  pub then-stepped : {next : ProcessState} → IsStepped k w cur fresh next → next ≡ stepped now flick value
  then-stepped steps = steps flick value before h ∙ ap (λ (s : ProcessState). stepped s flick value) shows

  pub then-marks : {marks : List Mark} → AreMarksOn k w cur fresh marks → marks ≡ marks_on now flick value
  then-marks are = are flick value before h ∙ ap (λ (s : ProcessState). marks_on s flick value) shows

-- the changes that a running call reports are those that it has read
pub then-changes : (k : PartState) (w : Activity) (before : CursorState) (now : ProcessState) (reported : Option ℕ) → state_at k w before ≡ now → IfSome reported (λ n. (w ≡ work.Runs) × (n ≡ changes_at k.part)) → IfSome reported (λ n. n ≡ changes_read now.doing)
then-changes k w before now None shows are = tt
then-changes k w before now (Some n) shows (runs, is) = is ∙ ap (λ w. changes_read (doing_at k w before)) (sym runs) ∙ ap (λ (s : ProcessState). changes_read s.doing) shows
