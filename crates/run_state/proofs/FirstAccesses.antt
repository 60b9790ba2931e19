-- A process within a number access has itself made an access of its call.
use Rattle.std.proofs.Common.{◌≡◌, ◌≢◌, ◌<◌, ◌==◌, ◌&&◌, ℕ, Bool, true, false, List, ◌∷◌, Option, None, Some, length, refl, sym, ap, subst, ◌∙◌, arith, eq-eqb, eqb-true, true≢false}
use Rattle.std.specs.Prelude.{is_none, is_some}
use Rattle.plain_store.specs.{Command, Setup}
use Rattle.plain_store.specs.declared.Command.TheVariants.{Ask}
use Rattle.model.specs.{Entry, Event, Past, entry_of, has, is_called, is_failed, number_in_call, past-induction, past_of}
use Rattle.model.specs.Closings.{Closing, Withdraws, Settles, Frees, Lowers, Quit, Ended, closing_after}
use Rattle.model.proofs.Width.{IsGood}
use Rattle.calls.specs.{accesses_itself, first_if, first_in_call}
use Rattle.calls.specs.world.laws.{Doing, call, closes, doing}
use Rattle.calls.proofs.InCall.{first-mine, first-other}
use Rattle.calls.proofs.world_proofs.laws_proofs.Frame.{Happens, a_call, a_closing, a_failure, a_restart, a_step, a_withdrawal, doing-other}
use Rattle.calls.proofs.world_proofs.laws_proofs.FrameEvents.{accepted}
use Rattle.calls.proofs.world_proofs.laws_proofs.FrameMarks.{called-is, is_resting, is_running}
use Rattle.calls.specs.world.process.{remaining_at, process_after}
use Rattle.run_state.specs.{has_accessed}
use Rattle.calls.proofs.Unfailed.{running_unfailed, runs_call}

-- how many accesses are left to a process that does this
abbrev left_doing : Setup → ℕ → Doing → ℕ
left_doing s p d = remaining_at (record { setup = s; process = p; doing = d; command = Ask; number = 0 })

-- a closing has none
closing-none : (s : Setup) (p : ℕ) (d : Doing) (command : Command) (number : ℕ) (at : Closing) → d ≡ closes command number at → left_doing s p d ≡ 0
closing-none s p d command number (Withdraws w) is = ap (left_doing s p) is
closing-none s p d command number (Settles f bit begun taken inside t) is = ap (left_doing s p) is
closing-none s p d command number (Frees inside w) is = ap (left_doing s p) is
closing-none s p d command number (Lowers w) is = ap (left_doing s p) is
closing-none s p d command number Quit is = ap (left_doing s p) is
closing-none s p d command number Ended is = ap (left_doing s p) is

some-none : {A : Type 0} (n : ℕ) → 0 < n → n ≡ 0 → A
some-none n more none = absurd (omega (arith, more, none))

-- an entry after which some are left has an access, and its process ran its call before it
steps-by : (s : Setup) (past : Past) (p : ℕ) (e : Entry) (d d' : Doing) → Happens s past p e d d' → 0 < left_doing s p d' → (is_some e.access ≡ true) × (is_resting d ≡ false) × (runs_call d ≡ true)
steps-by s past p e d d' (a_call command number was none marks then) more = some-none (left_doing s p d') more (ap (left_doing s p) then)
steps-by s past p e d d' (a_withdrawal command number t w ws run was none marks then) more = some-none (left_doing s p d') more (ap (left_doing s p) then)
steps-by s past p e d d' (a_failure command number may none marks then) more = some-none (left_doing s p d') more (ap (left_doing s p) then)
steps-by s past p e d d' (a_restart was none marks then) more = some-none (left_doing s p d') more (ap (left_doing s p) then)
steps-by s past p e d d' (a_step command number at a flick was over access is marks then) more = (ap is_some access, ap is_resting was, ap runs_call was)
steps-by s past p e d d' (a_closing command number at flick n was next access same marks then) more = some-none (left_doing s p d') more (closing-none s p d' command number (closing_after (call s p command number) at flick) then)

first-some : (first : Option ℕ) (n : ℕ) → is_some (first_if true n first) ≡ true
first-some None n = refl
first-some (Some k) n = refl

abbrev HasFirst : Setup → Past → Type 0
HasFirst s past = IsGood s → (p : ℕ) → 0 < remaining_at (process_after s past p) → has_accessed s p past ≡ true

-- so in every record
pub has-first : (s : Setup) → IsGood s → (events : List Event) (p : ℕ) → 0 < remaining_at (process_after s (past_of s events) p) → has_accessed s p (past_of s events) ≡ true
has-first s g events p = past-induction HasFirst s (λ g p more. absurd (omega (arith, more))) on events g p
  where
    on : (events : List Event) (what : Event) (e : Entry) → entry_of s (past_of s events) what ≡ Some e → HasFirst s (past_of s events) → HasFirst s (e ∷ past_of s events)
    on events what e h ih g p more = go (e.process == p) refl
      where
        past : Past
        past = past_of s events

        go : (b : Bool) → (e.process == p) ≡ b → has_accessed s p (e ∷ past) ≡ true
        go true i =
            let mine : e.process ≡ p = eqb-true e.process p i in
            let happens = subst (λ q. Happens s past q e (doing s q past) (doing s q (e ∷ past))) mine (accepted s g events what e h).happens in
            let steps = steps-by s past p e (doing s p past) (doing s p (e ∷ past)) happens more in
            let plain : has is_called e ≡ false =
            called-is s g events what e h
            ∙ ap (λ q. is_resting (doing s q past) && is_running (doing s q (e ∷ past))) mine
            ∙ ap (λ b. b && is_running (doing s p (e ∷ past))) steps.1 in
            let unfailed : number_in_call p (has is_failed) past ≡ None = running_unfailed s p past steps.2 in
            let itself : accesses_itself p past e ≡ true = λ i. steps.0 i && is_none (unfailed i) in
            let first : Option ℕ = first_in_call p (accesses_itself p) past in
            ap is_some (first-mine p (accesses_itself p) e past mine plain ∙ ap (λ b. first_if b (length past) first) itself) ∙ first-some first (length past)
        go false i =
            let other : e.process ≢ p = λ u. true≢false (sym (eq-eqb e.process p u) ∙ i) in
            ap is_some (first-other p (accesses_itself p) e past i) ∙ ih g p (subst (λ d. 0 < left_doing s p d) (doing-other s p e past other) more)
