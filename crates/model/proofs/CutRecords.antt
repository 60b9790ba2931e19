-- In every record a failure cuts a call or a withdrawal at its place.
use Rattle.std.proofs.Common.{◌≡◌, ℕ, ◌<◌, ◌==◌, ◌||◌, Bool, true, false, cond, not, List, [], ◌∷◌, Option, Some, None, length, map, refl, sym, ap, subst, ◌∙◌, arith, true≢false, inl, inr}
use Rattle.std.specs.Prelude.{fold, option_map, slice_index_or}
use Rattle.model.specs.{Access, Call, Change, Event, Field, IsTornOf, Numbers, Past, Place, Reading, Run, TornBit, Writing, accesses_of, begun_at, begun_closing, change_of, cut, cut_at, cut_closing, first_flick, image_field, inside, inside_after, is_called, is_running, last_call, last_read, last_start, last_write, named, own, past_of, pending_at, place_of, read_so_far, reply, since, stage, stamp_field, starts, taken_with, torn_at, torn_closing, torn_in, unfinished, value_written, version_of, width}
use Rattle.model.specs.declared.access.Field.TheVariants.{Ticket, Commit}
use Rattle.safe_number.specs.{NumberWrite, torn_bit, torn_run, torn_with}
use Rattle.plain_store.specs.{Command, Setup}
use Rattle.model.specs.declared.marks.Mark.TheVariants.{Called, Failed, Withdrew}
use Rattle.model.specs.declared.stages.Stage.TheVariants as stages
use Rattle.model.specs.Closings.{Closing, Withdraws, Settles, Frees, Lowers, Quit, Ended, no_ticket, freeing, withdrawing, failing, settling_from, reply_with, closing_of}
use Rattle.model.specs.Parts.{Part, Raises, Asks, TakesTicket, Lowers as LowersChoosing, Refuses, Waits, AsksCommit, AsksStamp, AsksImage, WritesImage, WritesStamp, WritesCommit, Clears, Over, is_over, written_at}
use Rattle.model.proofs.ClosingAccesses.{is_unit, keeps-kind}
use Rattle.model.proofs.Knows.{Knows}
use Rattle.model.proofs.Left.{bit_left, value_at, value_closing, value-begun, value-withdrawn}
use Rattle.model.proofs.OpenSteps.{Opens, closed, runs_at, leaves, settles, Cuts, CutsLate, torn_late, place_at, leaving_at}
use Rattle.model.proofs.Opens.{IsBegun}
use Rattle.model.proofs.TurnRecords.{opens_all}
use Rattle.model.proofs.Width.{IsGood}
use Rattle.model.proofs.Closing.{Fit, ticket_width}
use Rattle.model.proofs.ClosingScripts.{withdrawal-stays}
use Rattle.model.proofs.Cursors.{Goes}
use Rattle.model.proofs.Local.{Running}
use Rattle.model.proofs.NextAccesses.{at_place}
use Rattle.model.proofs.Ties.{Tie, over, writes, reads, written-width}
use Rattle.reader_copies.specs.{Writing as BitWriting, Settling}

-- whether a process is inside is seen in its own entries
pub inside-own : (p : ℕ) (past : Past) → inside p (own p past) ≡ inside p past
inside-own p [] = refl
inside-own p (e ∷ past) = go (e.process == p) refl (inside-own p past)
  where
    go : (b : Bool) → (e.process == p) ≡ b → inside p (own p past) ≡ inside p past → inside p (cond b (e ∷ own p past) (own p past)) ≡ cond b (fold inside_after (inside p past) e.marks) (inside p past)
    go true h same = ap (λ b. cond b (fold inside_after (inside p (own p past)) e.marks) (inside p (own p past))) h ∙ ap (λ is. fold inside_after is e.marks) same
    go false h same = same

-- the bits that a call read last
abbrev read_last : Call → Past → List Bool
read_last c mine = last_read (read_so_far c.setup (since is_called mine)).finished

-- the unit that settles the last access's bit is the one that settles its torn bit
from-torn : (c : Call) (mine : Past) (x : Option Access) (torn : Option TornBit) (v : Bool) (pending : Option Change) → option_map bit_left x ≡ torn → IsBegun mine torn v →
    ((t : TornBit) → torn ≡ Some t → reply_with c t.field (read_last c mine) ≡ taken_with t.field pending) → settling_from c mine x ≡ cut c torn v pending (inside c.process mine)
from-torn c mine None torn v pending l b r = ap (λ t. cut c t v pending (inside c.process mine)) l
from-torn c mine (Some a) torn v pending l b r =
    (λ i. Settles a.field a.bit (b (bit_left a) (sym l) i) (r (bit_left a) (sym l) i) (inside c.process mine) (bit_left a).torn) ∙ ap (λ t. cut c t v pending (inside c.process mine)) l

torn-field : (f : Field) (w : NumberWrite) (t : TornBit) → torn_in f w ≡ Some t → t.field ≡ f
torn-field f w t = go (torn_bit w)
  where
    go : (x : Option (ℕ × Rattle.reader_copies.specs.Runs.Settling)) → option_map (named f) x ≡ Some t → t.field ≡ f
    go None h = cc
    go (Some x) h = let e : named f x ≡ t = cc in ap (λ (t : TornBit). t.field) (sym e)

-- the reply that the settling of a register's bit may give, by the store that the part knows
reply-known : (c : Call) (part : Part) (f : Numbers) → Knows c part f → reply_with c (written_at c part).0 (last_read f) ≡ taken_with (written_at c part).0 (pending_at c part)
reply-known c Raises f k = refl
reply-known c (Asks j js ts) f k = refl
reply-known c (TakesTicket t) f k = refl
reply-known c (LowersChoosing t) f k = refl
reply-known c (Refuses q) f k = refl
reply-known c (Waits t w ws) f k = refl
reply-known c (AsksCommit q ks vs) f k = refl
reply-known c (AsksStamp q ks vs b) f k = refl
reply-known c (AsksImage vs) f k = refl
reply-known c (WritesImage vs store) f k = go (not (version_of vs c.process))
  where
    go : (b : Bool) → reply_with c (image_field b) (last_read f) ≡ taken_with (image_field b) (Some (change_of c vs store))
    go true = refl
    go false = refl
reply-known c (WritesStamp vs store) f k = go (not (version_of vs c.process))
  where
    go : (b : Bool) → reply_with c (stamp_field b) (last_read f) ≡ taken_with (stamp_field b) (Some (change_of c vs store))
    go true = refl
    go false = refl
reply-known c (WritesCommit vs store) f k = ap (λ store. Some (reply c store)) (sym k)
reply-known c (Clears a) f k = refl
reply-known c Over f k = refl

cut-place : (c : Call) (mine : Past) (at : Place) → value_at c at ≡ begun_at c at → Cuts c mine at (read_so_far c.setup (since is_called mine)).finished → failing c mine ≡ cut_at c at (inside c.process mine)
cut-place c mine at value k = from-torn c mine (unfinished c.setup.processes (last_write mine)) (torn_at c at) (begun_at c at) (pending_at c at.part) k.torn.remaining (λ t h. k.begun t h ∙ value) (go at.run)
  where
    go : (run : Run) (t : TornBit) → torn_at c (record { part = at.part; run = run }) ≡ Some t → reply_with c t.field (read_last c mine) ≡ taken_with t.field (pending_at c at.part)
    go (Writing w) t h = subst (λ f. reply_with c f (read_last c mine) ≡ taken_with f (pending_at c at.part)) (sym (torn-field (written_at c at.part).0 w t h))
        (reply-known c at.part (read_so_far c.setup (since is_called mine)).finished k.knows)
    go (Reading bits begun) t h = cc

withdrawn-late : (at : Closing) → is_unit at ≡ false → torn_closing at ≡ torn_late at
withdrawn-late (Withdraws w) h = refl
withdrawn-late (Settles field bit begun taken is s) h = refl
withdrawn-late (Frees is w) h = cc
withdrawn-late (Lowers w) h = cc
withdrawn-late Quit h = refl
withdrawn-late Ended h = refl

cut-late : (c : Call) (mine : Past) (at : Closing) → torn_closing at ≡ torn_late at → value_closing c at ≡ begun_closing c at → CutsLate c mine at → failing c mine ≡ cut_closing c at (inside c.process mine)
cut-late c mine at same value k = from-torn c mine (unfinished c.setup.processes (last_write mine)) (torn_closing at) (begun_closing c at) None (k.torn.remaining ∙ sym same) (λ t h. k.begun t (sym same ∙ h) ∙ value) (go at)
  where
    go : (at : Closing) (t : TornBit) → torn_closing at ≡ Some t → reply_with c t.field (read_last c mine) ≡ taken_with t.field None
    go (Withdraws w) t h = subst (λ f. reply_with c f (read_last c mine) ≡ taken_with f None) (sym (torn-field Ticket w t h)) refl
    go _ t h = cc

-- a process that runs its call
pub running-cut : (s : Setup) → IsGood s → (events : List Event) (p : ℕ) (command : Command)
    → let past : Past = past_of s events in
    let c : Call = last_call s p (own p past) in
    last_start (own p past) ≡ Some (Called command) → is_running (stage p past) ≡ true → failing c (own p past) ≡ cut_at c (place_of c (accesses_of (since starts (own p past)))) (inside p past)
running-cut s g events p command b run = go (opens_all s g events p)
  where
    past : Past
    past = past_of s events

    go : Opens s p (own p past) (stage p past) →
        failing (last_call s p (own p past)) (own p past) ≡ cut_at (last_call s p (own p past)) (place_at s p (own p past)) (inside p past)
    go (closed (inl i) w t) = absurd (true≢false (sym run ∙ ap is_running i))
    go (closed (inr i) w t) = absurd (true≢false (sym run ∙ ap is_running i))
    go (runs_at d e r w t) = cut-place (last_call s p (own p past)) (own p past) (place_at s p (own p past)) (value-begun (last_call s p (own p past)) (accesses_of (since starts (own p past)))) t ∙ ap (cut_at (last_call s p (own p past)) (place_at s p (own p past))) (inside-own p past)
    go (leaves e i w t) = let f : Some (Called command) ≡ Some Withdrew = sym b ∙ e in cc
    go (settles e i w r t) = let f : Some (Called command) ≡ Some Failed = sym b ∙ e in cc

-- a process that withdrew
pub withdrawn-cut : (s : Setup) → IsGood s → (events : List Event) (p : ℕ)
    → let past : Past = past_of s events in
    let c : Call = last_call s p (own p past) in
    last_start (own p past) ≡ Some Withdrew → stage p past ≡ stages.Leaving →
    failing c (own p past) ≡ cut_closing c (closing_of c (withdrawing c) (map value_written (since starts (own p past)))) (inside p past)
withdrawn-cut s g events p b st = go (opens_all s g events p)
  where
    past : Past
    past = past_of s events

    c : Call
    c = last_call s p (own p past)

    go : Opens s p (own p past) (stage p past) → failing c (own p past) ≡ cut_closing c (leaving_at s p (own p past)) (inside p past)
    go (closed (inl i) w t) = let f : stages.Leaving ≡ stages.Idle = sym st ∙ i in cc
    go (closed (inr i) w t) = let f : stages.Leaving ≡ stages.Down = sym st ∙ i in cc
    go (runs_at d e r w t) = let f : Some Withdrew ≡ Some (Called d) = sym b ∙ e in cc
    go (leaves e i w t) = cut-late c (own p past) (leaving_at s p (own p past)) (withdrawn-late (leaving_at s p (own p past)) (keeps-kind c (withdrawing c) (map value_written (since starts (own p past))))) (value-withdrawn c (map value_written (since starts (own p past)))) t
        ∙ ap (cut_closing c (leaving_at s p (own p past))) (inside-own p past)
    go (settles e i w r t) = let f : Some Withdrew ≡ Some Failed = sym b ∙ e in cc

-- a process that is at rest
pub rest-cut : (s : Setup) → IsGood s → (events : List Event) (p : ℕ)
    → let past : Past = past_of s events in
    let c : Call = last_call s p (own p past) in
    stage p past ≡ stages.Idle → failing c (own p past) ≡ freeing c (inside p past)
rest-cut s g events p st = go (opens_all s g events p)
  where
    past : Past
    past = past_of s events

    c : Call
    c = last_call s p (own p past)

    go : Opens s p (own p past) (stage p past) → failing c (own p past) ≡ freeing c (inside p past)
    go (closed i w t) = from-torn c (own p past) (unfinished s.processes (last_write (own p past))) None false None t.remaining (λ t h. cc) (λ t h. cc) ∙ ap (freeing c) (inside-own p past)
    go (runs_at d e r w t) = absurd (true≢false (sym r ∙ ap is_running st))
    go (leaves e i w t) = let f : stages.Idle ≡ stages.Leaving = sym st ∙ i in cc
    go (settles e i w r t) = let f : stages.Idle ≡ stages.Settling = sym st ∙ i in cc

-- the torn bit of a write that goes on is one of its register's
torn-there : (s : Setup) → IsGood s → (f : Field) (bits : List Bool) (w : NumberWrite) (t : TornBit) → Goes s.processes bits w → width s f ≡ length bits → torn_in f w ≡ Some t → IsTornOf s t
torn-there s g f bits w t on same = go w.run
  where
    settling : (run : BitWriting) (b : Bool) → option_map (named f) (torn_with w.bit (cond b None (Some (let x : Settling = record { made = run.made; reader = 0; begun = false; value = None } in x)))) ≡ Some t → IsTornOf s t
    settling run true h = cc
    settling run false h =
        let e : named f (w.bit, (let x : Settling = record { made = run.made; reader = 0; begun = false; value = None } in x)) ≡ t = cc in
        subst (IsTornOf s) e (omega (arith, on.inside, on.width, same), omega (arith, g.processes_is))

    go : (run : Option BitWriting) → option_map (named f) (torn_run w.bit run) ≡ Some t → IsTornOf s t
    go None h = cc
    go (Some run) h = settling run ((run.made == 0) || run.ended) h

pub call-bit : (s : Setup) → IsGood s → (events : List Event) (p : ℕ) (command : Command) (t : TornBit)
    → let past : Past = past_of s events in
    let c : Call = last_call s p (own p past) in
    last_start (own p past) ≡ Some (Called command) → is_running (stage p past) ≡ true → torn_at c (place_of c (accesses_of (since starts (own p past)))) ≡ Some t →
    IsTornOf s t
call-bit s g events p command t b run = go (place_at s p mine).run r.tied.run
  where
    mine : Past
    mine = own p (past_of s events)

    c : Call
    c = last_call s p mine

    part : Part
    part = (place_at s p mine).part

    r : Running s p mine (stage p (past_of s events))
    r = at_place s g events p command b run

    not_over : is_over part ≡ false
    not_over = ap is_over (sym r.tied.part) ∙ r.not_over

    go : (run : Run) → Tie c part run r.at.made r.at.bits → torn_at c (record { part = part; run = run }) ≡ Some t → IsTornOf s t
    go run (over o) h = absurd (true≢false (sym o ∙ not_over))
    go (Writing w) (writes e q tie) h = torn-there s g (written_at c part).0 (written_at c part).1 w t tie.goes (written-width c part e not_over) h
    go (Reading bits begun) (reads e tie) h = cc

pub withdrawal-bit : (c : Call) → IsGood c.setup → (flicks : List Bool) (t : TornBit) → torn_closing (closing_of c (withdrawing c) flicks) ≡ Some t → IsTornOf c.setup t
withdrawal-bit c g flicks t = go (closing_of c (withdrawing c) flicks) (withdrawal-stays c g flicks false).fit
  where
    go : (at : Closing) → Fit c at (first_flick flicks false) false → torn_closing at ≡ Some t → IsTornOf c.setup t
    go (Withdraws w) fit h = torn-there c.setup g Ticket (no_ticket c) w t fit (ticket_width c) h
    go _ fit h = cc

-- a part that writes the commit bit writes that of the pending change
commit-written : (c : Call) (part : Part) (w : NumberWrite) → (written_at c part).0 ≡ Commit → w.bit < length (written_at c part).1 →
    (change : Change) × (pending_at c part ≡ Some change) × (slice_index_or (written_at c part).1 w.bit false ≡ change.2)
commit-written c Raises w h l = cc
commit-written c (Asks j js ts) w h l = cc
commit-written c (TakesTicket t) w h l = cc
commit-written c (LowersChoosing t) w h l = cc
commit-written c (Refuses q) w h l = cc
commit-written c (Waits t x ws) w h l = cc
commit-written c (AsksCommit q ks vs) w h l = cc
commit-written c (AsksStamp q ks vs b) w h l = cc
commit-written c (AsksImage vs) w h l = cc
commit-written c (WritesImage vs store) w h l = absurd (go (not (version_of vs c.process)) h)
  where
    go : (b : Bool) → image_field b ≡ Commit → ⊥
    go true h = cc
    go false h = cc
commit-written c (WritesStamp vs store) w h l = absurd (go (not (version_of vs c.process)) h)
  where
    go : (b : Bool) → stamp_field b ≡ Commit → ⊥
    go true h = cc
    go false h = cc
commit-written c (WritesCommit vs store) w h l = let first : w.bit ≡ 0 = omega (arith, l) in (change_of c vs store, refl, ap (λ k. slice_index_or (not (version_of vs c.process) ∷ []) k false) first)
commit-written c (Clears a) w h l = cc
commit-written c Over w h l = cc

pub commit-pending : (s : Setup) → IsGood s → (events : List Event) (p : ℕ) (command : Command) (t : TornBit)
    → let past : Past = past_of s events in
    let c : Call = last_call s p (own p past) in
    let at : Place = place_of c (accesses_of (since starts (own p past))) in
    last_start (own p past) ≡ Some (Called command) → is_running (stage p past) ≡ true → torn_at c at ≡ Some t → t.field ≡ Commit →
    (change : Change) × (pending_at c at.part ≡ Some change) × (begun_at c at ≡ change.2)
commit-pending s g events p command t b run = go (place_at s p mine).run r.tied.run
  where
    mine : Past
    mine = own p (past_of s events)

    c : Call
    c = last_call s p mine

    part : Part
    part = (place_at s p mine).part

    r : Running s p mine (stage p (past_of s events))
    r = at_place s g events p command b run

    not_over : is_over part ≡ false
    not_over = ap is_over (sym r.tied.part) ∙ r.not_over

    go : (run : Run) → Tie c part run r.at.made r.at.bits → torn_at c (record { part = part; run = run }) ≡ Some t → t.field ≡ Commit →
        (change : Change) × (pending_at c part ≡ Some change) × (begun_at c (record { part = part; run = run }) ≡ change.2)
    go run (over o) h f = absurd (true≢false (sym o ∙ not_over))
    go (Writing w) (writes e q tie) h f = commit-written c part w (sym (torn-field (written_at c part).0 w t h) ∙ f) (omega (arith, tie.goes.inside, tie.goes.width))
    go (Reading bits begun) (reads e tie) h f = cc
