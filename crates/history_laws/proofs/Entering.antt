-- The knowledge of a process after a step that works on no version. It is nothing; when it enters, it has read no version yet; when it leaves, it still knows why its call was refused.
use Rattle.std.proofs.Common.{◌≡◌, ℕ, ◌+◌, ◌<◌, ◌==◌, Bool, true, false, cond, List, [], ◌∷◌, ◌++◌, Some, None, refl, sym, ap, subst, ◌∙◌, true≢false, append-nil}
use Rattle.model.specs.reader_copies.Runs as copies
use Rattle.model.specs.declared.access.Field.TheVariants.{Commit}
use Rattle.model.specs.safe_number.{new_write, number_of_bits}
use Rattle.plain_store.specs.{Command, Contents, Setup}
use Rattle.model.specs.{Asks, AsksCommit, AsksImage, AsksStamp, Call, Clears, Entry, Event, Over, Part, Past, Place, Raises, Refuses, TakesTicket, Version, Wait, Waits, WritesCommit, WritesImage, WritesStamp, before_image_read, bits_with, enter, entry_of, first_full, greatest, image_field, is_last, is_over, lets_by, max_of, new_run, others, part_after, past_of, place_after, process_of, processes, run_after, to_b, to_d, to_e, value_of, waits_of, write_moved}
use Rattle.model.specs.Closings.{Closing, Withdraws, Settles, Frees, Lowers, Quit, Ended, is_last_written, is_last_settled, no_ticket, freeing, closing_after}
use Rattle.model.specs.Parts as part
use Rattle.model.proofs.Width.{IsGood}
use Rattle.laws.specs.{Doing, Rests, Runs, call, runs, closes, doing, is_inside_at}
use Rattle.laws.proofs.Doings.{IsCut, at_rest, between, within, leaving, clearing, Step, calls, withdraws, fails, restarts, steps, closes_on}
use Rattle.laws.proofs.Invariant.{Wires, wires, Touches, touches}
use Rattle.laws.proofs.FrameSteps.{step_of}
use Rattle.laws.proofs.Alone.{SettlesInside, ClosesInside, closes_inside}
use Rattle.history_laws.proofs.CleanReads.{clean_new}
use Rattle.history_laws.proofs.Versions.{Versions, versions, versions_of, store_of}
use Rattle.history_laws.proofs.Kept.{image_bits, KnowsAt, KnowsClosing, KnowsData, Data}
use Rattle.history_laws.proofs.Lifting.{Keeps, outside-part, untouched-kept}
use Rattle.history_laws.proofs.Outside.{is_settling_inside, is_working, settled-outside, idle-free, idle-apart, apart-read, idle-untouched}

-- The next part.

-- the knowledge once the versions of some processes were read, and the others' are next
pub to_e-known : (c : Call) (past : Past) (v : Versions) (store : Contents) (m : Wires) (t : ℕ → Touches) (done ks : List ℕ) (vs : List Version) → processes c.setup ≡ done ++ ks → vs ≡ versions_of v done →
    KnowsAt c.setup past c v store m t (to_e ks vs) (new_run c (to_e ks vs))
to_e-known c past v store m t done [] vs all read = (read ∙ ap (versions_of v) (sym (all ∙ append-nil done)), clean_new (image_bits c.setup store) (t v.newest (image_field (v.commit v.newest))))
to_e-known c past v store m t done (k ∷ ks) vs all read = (record { done = done; all = all; read = read }, clean_new (v.commit k ∷ []) (t k Commit))

to_d-known : (c : Call) (past : Past) (v : Versions) (store : Contents) (m : Wires) (t : ℕ → Touches) (ticket : ℕ) (ws : List Wait) →
    KnowsAt c.setup past c v store m t (to_d c ticket ws) (new_run c (to_d c ticket ws))
to_d-known c past v store m t ticket [] = to_e-known c past v store m t [] (processes c.setup) [] refl refl
to_d-known c past v store m t ticket (w ∷ ws) = tt

to_b-known : (c : Call) (past : Past) (v : Versions) (store : Contents) (m : Wires) (t : ℕ → Touches) (js ts : List ℕ) → KnowsAt c.setup past c v store m t (to_b c js ts) (new_run c (to_b c js ts))
to_b-known c past v store m t (j ∷ js) ts = tt
to_b-known c past v store m t [] ts = go (greatest ts == max_of c.setup.ticket_bits)
  where
    to : Bool → Part
    to b = elim b [ true ↦ Refuses (first_full c ts) | false ↦ TakesTicket (greatest ts + 1) ]

    go : (b : Bool) → KnowsAt c.setup past c v store m t (to b) (new_run c (to b))
    go true = tt
    go false = tt

-- the part that comes after
next-known : (c : Call) (past : Past) (v : Versions) (store : Contents) (m : Wires) (t : ℕ → Touches) (x : Part) (bits : List Bool) → is_inside_at x false ≡ false →
    KnowsAt c.setup past c v store m t (part_after c x bits) (new_run c (part_after c x bits))
next-known c past v store m t Raises bits h = to_b-known c past v store m t (others c.setup c.process) []
next-known c past v store m t (Asks j js ts) bits h = to_b-known c past v store m t js (ts ++ number_of_bits bits ∷ [])
next-known c past v store m t (TakesTicket ticket) bits h = tt
next-known c past v store m t (part.Lowers ticket) bits h = to_d-known c past v store m t ticket (waits_of c)
next-known c past v store m t (Refuses f) bits h = tt
next-known c past v store m t (Waits ticket w ws) bits h = to_d-known c past v store m t ticket (cond (lets_by c ticket w bits) ws (w ∷ ws))
next-known c past v store m t (AsksCommit k ks vs) bits h = absurd (true≢false h)
next-known c past v store m t (AsksStamp k ks vs b) bits h = absurd (true≢false h)
next-known c past v store m t (AsksImage vs) bits h = absurd (true≢false h)
next-known c past v store m t (WritesImage vs st) bits h = absurd (true≢false h)
next-known c past v store m t (WritesStamp vs st) bits h = absurd (true≢false h)
next-known c past v store m t (WritesCommit vs st) bits h = absurd (true≢false h)
next-known c past v store m t (Clears a) bits h = tt
next-known c past v store m t Over bits h = tt

-- The knowledge after a step.

-- a place of its call, or its rest
pub runs-known : (s : Setup) (past : Past) (p : ℕ) (v : Versions) (store : Contents) (m : Wires) (t : ℕ → Touches) (command : Command) (number : ℕ) (at : Place) →
    KnowsAt s past (call s p command number) v store m t at.part at.run → KnowsData s past p v store m t (runs command number at)
runs-known s past p v store m t command number at h = go (is_over at.part)
  where
    go : (b : Bool) → KnowsData s past p v store m t (cond b Rests (Runs command number at))
    go true = tt
    go false = h

-- a place of its closing, or its end
pub closes-known : (s : Setup) (past : Past) (p : ℕ) (v : Versions) (store : Contents) (m : Wires) (t : ℕ → Touches) (command : Command) (number : ℕ) (at : Closing) →
    KnowsClosing s (call s p command number) v store m at → KnowsData s past p v store m t (closes command number at)
closes-known s past p v store m t command number (Withdraws w) h = tt
closes-known s past p v store m t command number (Settles f bit begun taken is x) h = h
closes-known s past p v store m t command number _ h = tt

-- the place after an access
place-known : (s : Setup) (past past' : Past) (p : ℕ) (command : Command) (number : ℕ) (v v' : Versions) (store store' : Contents) (m m' : Wires) (t t' : ℕ → Touches) (at : Place) (b : Bool)
    → let c : Call = call s p command number in
    is_inside_at at.part false ≡ false → before_image_read p past' ≡ before_image_read p past → KnowsAt s past c v store m t at.part at.run →
    KnowsAt s past' c v' store' m' t' (place_after c at b).part (place_after c at b).run
place-known s past past' p command number v v' store store' m m' t t' at b idle read h = go (is_last c at.part at.run)
  where
    c : Call
    c = call s p command number

    to : Bool → Place
    to last = cond last (enter c (part_after c at.part (bits_with at.run b))) (record { part = at.part; run = run_after c at.part at.run b })

    go : (last : Bool) → KnowsAt s past' c v' store' m' t' (to last).part (to last).run
    go true = next-known c past' v' store' m' t' at.part (bits_with at.run b) idle
    go false = outside-part s past past' c v v' store store' m m' t t' at.part at.run (run_after c at.part at.run b) idle read h

-- a closing that settles no bit of a process that was inside
idle-closing : (s : Setup) (c : Call) (v : Versions) (store : Contents) (m : Wires) (at : Closing) → is_settling_inside at ≡ false → SettlesInside at → KnowsClosing s c v store m at
idle-closing s c v store m (Settles f bit begun taken true t) idle h = absurd (true≢false idle)
idle-closing s c v store m (Settles f bit begun taken false t) idle h = let x = settled-outside f taken h in (x.1, x.0)
idle-closing s c v store m _ idle h = tt

-- a closing that settles no such bit settles none later
after-idle : (c : Call) (at : Closing) (flick : Bool) → is_settling_inside at ≡ false → is_settling_inside (closing_after c at flick) ≡ false
after-idle c (Withdraws w) flick idle = go (is_last_written c (no_ticket c) w)
  where
    go : (b : Bool) → is_settling_inside (cond b Quit (Withdraws (write_moved c.setup.processes (no_ticket c) w))) ≡ false
    go true = refl
    go false = refl
after-idle c (Settles f bit begun taken is t) flick idle = go (is_last_settled c t (copies.settled_at t flick))
  where
    go : (b : Bool) → is_settling_inside (cond b (freeing c is) (Settles f bit begun taken is (copies.settle_after t (copies.settled_at t flick)))) ≡ false
    go true = refl
    go false = idle
after-idle c (Frees is w) flick idle = go (is_last_written c (no_ticket c) w)
  where
    go : (b : Bool) → is_settling_inside (cond b (Lowers (new_write 1)) (Frees is (write_moved c.setup.processes (no_ticket c) w))) ≡ false
    go true = refl
    go false = refl
after-idle c (Lowers w) flick idle = go (is_last_written c (false ∷ []) w)
  where
    go : (b : Bool) → is_settling_inside (cond b Ended (Lowers (write_moved c.setup.processes (false ∷ []) w))) ≡ false
    go true = refl
    go false = refl
after-idle c Quit flick idle = refl
after-idle c Ended flick idle = refl

-- a failure of a process that works on no version begins such a closing
cut-idle : (s : Setup) (p : ℕ) (c : Call) (cl : Closing) (d : Doing) → IsCut s p c cl d → is_working d ≡ false → is_settling_inside cl ≡ false
cut-idle s p c cl d (at_rest e) idle = ap is_settling_inside e
cut-idle s p c cl d (between command number at e) idle = ap is_settling_inside e
cut-idle s p c cl d (within command number at bit begun taken t e r f) idle = ap is_settling_inside e ∙ ap (is_inside_at at.part) f ∙ idle
cut-idle s p c cl d (leaving command number w e) idle = ap is_settling_inside e
cut-idle s p c cl d (clearing command number w bit begun t e u) idle = ap is_settling_inside e

idle-known : (s : Setup) (past : Past) (p : ℕ) (e : Entry) (d d' : Doing) (v v' : Versions) (store store' : Contents) (m m' : Wires) (t t' : ℕ → Touches) → Step s past p e d d' → is_working d ≡ false → ClosesInside d' →
    before_image_read p (e ∷ past) ≡ before_image_read p past → KnowsData s past p v store m t d → KnowsData s (e ∷ past) p v' store' m' t' d'
idle-known s past p e d d' v v' store store' m m' t t' step idle closes' read h = go step
  where
    K : Doing → Type 0
    K x = KnowsData s (e ∷ past) p v' store' m' t' x

    go : Step s past p e d d' → K d'
    go (calls command number i none k) = subst K (sym k) tt
    go (withdraws command number ticket w ws run i none k) = subst K (sym k) tt
    go (fails command number cl cut none k) = subst K (sym k) (idle-closing s (call s p command number) v' store' m' cl (cut-idle s p (call s p command number) cl d cut idle) (subst ClosesInside k closes'))
    go (restarts i none k) = subst K (sym k) tt
    go (steps command number at a flick i o this made k) = subst K (sym k)
        (runs-known s (e ∷ past) p v' store' m' t' command number (place_after (call s p command number) at (value_of a.how))
        (place-known s past (e ∷ past) p command number v v' store store' m m' t t' at (value_of a.how) (ap is_working (sym i) ∙ idle) read (subst (KnowsData s past p v store m t) i h)))
    go (closes_on command number at flick n i next this k) = closing (closing_after (call s p command number) at flick) k (after-idle (call s p command number) at flick (ap is_working (sym i) ∙ idle))
      where
        closing : (to : Closing) → d' ≡ closes command number to → is_settling_inside to ≡ false → K d'
        closing (Settles f bit begun taken is x) k idle = subst K (sym k) (idle-closing s (call s p command number) v' store' m' (Settles f bit begun taken is x) idle (subst ClosesInside k closes'))
        closing _ k idle = subst K (sym k) tt

-- the unit that an entry begins, or continues, settles bits of versions only for a process that is inside
closes_then : (s : Setup) → IsGood s → (events : List Event) (what : Event) (e : Entry) → entry_of s (past_of s events) what ≡ Some e → (p : ℕ) → ClosesInside (doing s p (e ∷ past_of s events))
closes_then s g events what e h p = subst (λ past. ClosesInside (doing s p past)) (ap (λ x. elim x as (λ _. Past) [ None ↦ past_of s events | Some e ↦ e ∷ past_of s events ]) h) (closes_inside s g (what ∷ events) p)

-- Every step of a process that works on no version keeps the data: outside, when it enters, and when it leaves.
pub idle-keeps : (s : Setup) → IsGood s → (events : List Event) (what : Event) (e : Entry) → entry_of s (past_of s events) what ≡ Some e → is_working (doing s e.process (past_of s events)) ≡ false →
    Data s (past_of s events) → Keeps s (past_of s events) e
idle-keeps s g events what e h idle known = record {
  kept = untouched-kept s past e (idle-untouched s g events what e h idle) (idle-free d idle (closes_inside s g events p)) known.kept;
  knows = idle-known s past p e d (doing s p (e ∷ past)) (versions s past) (versions s (e ∷ past)) (store_of s past) (store_of s (e ∷ past)) (wires s past p) (wires s (e ∷ past) p) (λ o. touches s past o p) (λ o. touches s (e ∷ past) o p) step.2 idle (closes_then s g events what e h p)
      (apart-read p e past (idle-apart s g events what e h idle)) (known.knows p step.1);
}
  where
    past : Past
    past = past_of s events

    p : ℕ
    p = e.process

    d : Doing
    d = doing s p past

    step : (e.process ≡ process_of what) × (p < s.processes) × Step s past p e d (doing s p (e ∷ past))
    step = step_of s g events what e h
