-- Entries that keep all laws: if two calls do not overlap, the earlier one has the lower position.
use Rattle.std.proofs.Common.{◌≡◌, ◌≢◌, ℕ, ◌<◌, ◌≤◌, not, ◌||◌, Bool, true, false, List, [], ◌∷◌, ◌++◌, Contains, Option, None, Some, length, refl, sym, ap, ◌∙◌, subst, append_assoc, append-nil, arith, true≢false, ◌⊎◌, inl, inr, ne_eqb}
use Rattle.std.specs.List.{list_any}
use Rattle.std.proofs.lemmas.Bool.{cases_eq}
use Rattle.std.proofs.lemmas.List.{length-append}
use Rattle.std.proofs.lemmas.List.Elements.{Contains-append_cases}
use Rattle.plain_store.specs.{Reply, Setup}
use Rattle.model.specs.{Access, Entry, Mark, Past, PlacesKeepOrder, Stage, all_takings, ends_span, has, has_ended, history, is_called, is_in_doorway, is_leaving, is_settling, is_waiting_stage, own, reply_taken, takings, takings_of_call, until}
use Rattle.model.specs.declared.marks.Mark.TheVariants as mark
use Rattle.model.specs.declared.stages.Stage.TheVariants as stage
use Rattle.any_lock.specs.declared.refusals.MarkRefusal.TheVariants as refusal
use Rattle.any_lock.specs.{ProcessView, accessed_by, mark_refusal, marked, marked_all, refusal_on, process_view}
use Rattle.any_lock.proofs.Alone.{AllKeep, Keeps, takes_its_place}
use Rattle.any_lock.proofs.Breaks.{none_else, none_if}
use Rattle.any_lock.proofs.Cuts.{IsSound, all_sound, answers_not, cut_after, first_unrefused, is_cut, orderly, own-other, rest_unrefused, rests, sound_accessed, sound_marked, unrefused_on}
use Rattle.any_lock.proofs.Going.{history_with}
use Rattle.any_lock.proofs.Markings.{or_left, or_right}
use Rattle.any_lock.proofs.Once.{own-append}
use Rattle.any_lock.proofs.Steps.{own-mine, process_view-other}
use Rattle.any_lock.proofs.Took.{outside}
use Rattle.any_lock.proofs.Whole.{whole_applied}

-- A call whose span has ended takes no more commands.

-- the process is not inside, and no call runs
record IsOver (k : ProcessView) : Type 0 where
  pub rest : rests k.stage ≡ true
  pub out : k.passage.inside ≡ false

clash : (b : Bool) → b ≡ true → b ≡ false → ⊥
clash b t f = true≢false (sym t ∙ f)

over_accessed : (n : ℕ) (k : ProcessView) (o : Option Access) → IsOver k → IsOver (accessed_by n k o)
over_accessed n k None over = over
over_accessed n k (Some a) over = record { rest = over.rest; out = over.out }

-- at a stage of rest a process does not wait, choose or leave
never_waits : (x : Stage) → rests x ≡ true → not (is_waiting_stage x) ≡ true
never_waits stage.Idle is = refl
never_waits stage.Settling is = refl
never_waits stage.Down is = refl
never_waits _ is = absurd (true≢false (sym is))

never_chooses : (x : Stage) → rests x ≡ true → not (is_in_doorway x) ≡ true
never_chooses stage.Idle is = refl
never_chooses stage.Settling is = refl
never_chooses stage.Down is = refl
never_chooses _ is = absurd (true≢false (sym is))

-- after a mark that begins no call the span is still over, and the mark takes nothing
over_marked : (s : Setup) (n : ℕ) (k : ProcessView) (m : Mark) → is_called m ≡ false → mark_refusal k m ≡ None → IsOver k → IsOver (marked s n k m) × (takings (m ∷ []) ≡ [])
over_marked s n k (mark.Called c) uncalled none over = absurd (true≢false uncalled)
over_marked s n k (mark.Waiting t) uncalled none over = absurd (clash (not (is_in_doorway k.stage)) (never_chooses k.stage over.rest) (none_if (not (is_in_doorway k.stage)) refusal.NotInDoorway _ none))
over_marked s n k mark.Entered uncalled none over = absurd (clash (not (is_waiting_stage k.stage)) (never_waits k.stage over.rest) (none_if (not (is_waiting_stage k.stage)) refusal.NotWaiting _ none))
over_marked s n k (mark.Taken j r) uncalled none over = absurd (clash (not k.passage.inside) (ap not over.out) (none_if (not k.passage.inside) refusal.NotInside _ none))
over_marked s n k mark.Left uncalled none over = absurd (clash (not k.passage.inside) (ap not over.out) (none_if (not k.passage.inside) refusal.NotInside _ none))
over_marked s n k (mark.Answered a) uncalled none over = absurd (clash (rests k.stage) over.rest (answers_not k.stage (none_if (not (is_in_doorway k.stage || is_leaving k.stage)) refusal.NotLeaving _ none)).1)
over_marked s n k (mark.Settled v) uncalled none over = (over, refl)
over_marked s n k mark.Withdrew uncalled none over = absurd (clash (not (is_waiting_stage k.stage)) (never_waits k.stage over.rest) (none_if (not (is_waiting_stage k.stage)) refusal.NotWaiting _ none))
over_marked s n k _ uncalled none over = (record { rest = refl; out = over.out }, refl)

-- the commands that marks take
takings_more : (m : Mark) (ms : List Mark) → takings (m ∷ ms) ≡ takings (m ∷ []) ++ takings ms
takings_more (mark.Taken j r) ms = refl
takings_more _ ms = refl

over_all : (s : Setup) (n : ℕ) (ms : List Mark) (k : ProcessView) → list_any is_called ms ≡ false → refusal_on s n k ms ≡ None → IsOver k → IsOver (marked_all s n k ms) × (takings ms ≡ [])
over_all s n [] k uncalled none over = (over, refl)
over_all s n (m ∷ ms) k uncalled none over =
    let first = over_marked s n k m (or_left (is_called m) (list_any is_called ms) uncalled) (first_unrefused s n k m ms none) over in
    let rest = over_all s n ms (marked s n k m) (or_right (is_called m) (list_any is_called ms) uncalled) (rest_unrefused s n k m ms none) first.0 in
    (rest.0, takings_more m ms ∙ ap (λ (l : List (ℕ × Reply)). l ++ takings ms) first.1 ∙ rest.1)

-- after marks that end the span of a call, the call is over
ends_all : (s : Setup) (n : ℕ) (ms : List Mark) (k : ProcessView) (cut : Bool) → list_any is_called ms ≡ false → list_any ends_span ms ≡ true → refusal_on s n k ms ≡ None → IsSound k cut → IsOver (marked_all s n k ms)
ends_all s n [] k cut uncalled ends none sound = absurd (true≢false (sym ends))
ends_all s n (m ∷ ms) k cut uncalled ends none sound =
    by (λ (x : Mark) ends first rest. ends_all s n ms (marked s n k x) (cut_after cut x) (or_right (is_called m) (list_any is_called ms) uncalled) ends rest (sound_marked s n k x cut first sound))
    m ends (or_left (is_called m) (list_any is_called ms) uncalled) (first_unrefused s n k m ms none) (rest_unrefused s n k m ms none)
  where
    later : list_any is_called ms ≡ false
    later = or_right (is_called m) (list_any is_called ms) uncalled

    by : ((m : Mark) → list_any ends_span ms ≡ true → mark_refusal k m ≡ None → refusal_on s n (marked s n k m) ms ≡ None → IsOver (marked_all s n (marked s n k m) ms)) → (m : Mark) → list_any ends_span (m ∷ ms) ≡ true → is_called m ≡ false → mark_refusal k m ≡ None → refusal_on s n (marked s n k m) ms ≡ None → IsOver (marked_all s n (marked s n k m) ms)
    by on (mark.Answered a) ends uncalled first rest =
        let out : k.passage.inside ≡ false = outside k cut sound (answers_not k.stage (none_if (not (is_in_doorway k.stage || is_leaving k.stage)) refusal.NotLeaving _ first)).0 in
        (over_all s n ms (marked s n k (mark.Answered a)) later rest (record { rest = refl; out = out })).0
    by on mark.Down ends uncalled first rest =
        let out : k.passage.inside ≡ false = none_if k.passage.inside refusal.StillInside _ (none_else (not (is_settling k.stage)) refusal.NotSettling _ first) in
        (over_all s n ms (marked s n k mark.Down) later rest (record { rest = refl; out = out })).0
    by on (mark.Called c) ends uncalled first rest = absurd (true≢false uncalled)
    by on (mark.Waiting t) ends uncalled first rest = on (mark.Waiting t) ends first rest
    by on mark.Entered ends uncalled first rest = on mark.Entered ends first rest
    by on (mark.Taken j r) ends uncalled first rest = on (mark.Taken j r) ends first rest
    by on mark.Left ends uncalled first rest = on mark.Left ends first rest
    by on mark.Failed ends uncalled first rest = on mark.Failed ends first rest
    by on (mark.Settled v) ends uncalled first rest = on (mark.Settled v) ends first rest
    by on mark.Withdrew ends uncalled first rest = on mark.Withdrew ends first rest
    by on mark.Restarted ends uncalled first rest = on mark.Restarted ends first rest

-- an entry of the process, whose call is over, takes nothing and leaves it over
over_entry : (s : Setup) (past : Past) (e : Entry) → Keeps s past e → has is_called e ≡ false → IsOver (process_view s e.process past) → IsOver (process_view s e.process (e ∷ past)) × (takings e.marks ≡ [])
over_entry s past e kept uncalled over =
    let fine = orderly s past e.process e.access e.marks kept.marks in
    let none = unrefused_on s past e.process e.access e.marks kept.marks in
    let all = over_all s (length past) e.marks (accessed_by (length past) (process_view s e.process past) e.access) uncalled none (over_accessed (length past) (process_view s e.process past) e.access over) in
    (subst IsOver (whole_applied s e.process past e.access e.marks fine.apart none) all.0, all.1)

ends_entry : (s : Setup) (past : Past) (e : Entry) → AllKeep s past → Keeps s past e → has is_called e ≡ false → has ends_span e ≡ true → IsOver (process_view s e.process (e ∷ past))
ends_entry s past e before kept uncalled ends =
    let fine = orderly s past e.process e.access e.marks kept.marks in
    let none = unrefused_on s past e.process e.access e.marks kept.marks in
    let sound = sound_accessed (length past) (process_view s e.process past) e.access (is_cut e.process past) (all_sound s past before e.process) in
    subst IsOver (whole_applied s e.process past e.access e.marks fine.apart none)
    (ends_all s (length past) e.marks (accessed_by (length past) (process_view s e.process past) e.access) (is_cut e.process past) uncalled ends none sound)

-- the state of p after the span of its call has ended, until its next call
is_over : (s : Setup) (p : ℕ) (later rest : Past) → AllKeep s (later ++ rest) → list_any (has is_called) (own p later) ≡ false → list_any (has ends_span) (own p later) ≡ true → IsOver (process_view s p (later ++ rest))
is_over s p [] rest all uncalled ends = absurd (true≢false (sym ends))
is_over s p (e ∷ later) rest all uncalled ends = go (is_over s p later rest all.1) (cases_eq e.process p)
  where
    mine : (list_any (has is_called) (own p later) ≡ false → list_any (has ends_span) (own p later) ≡ true → IsOver (process_view s p (later ++ rest))) → e.process ≡ p → list_any (has is_called) (e ∷ own p later) ≡ false → list_any (has ends_span) (e ∷ own p later) ≡ true → IsOver (process_view s p (e ∷ (later ++ rest)))
    mine before same uncalled ends = subst (λ q. IsOver (process_view s q (e ∷ (later ++ rest)))) same (by (list_any (has ends_span) (own p later)) refl ends)
      where
        e_no : has is_called e ≡ false
        e_no = or_left (has is_called e) (list_any (has is_called) (own p later)) uncalled

        here : (a : Bool) → has ends_span e ≡ a → (a || false) ≡ true → has ends_span e ≡ true
        here true is h = is
        here false is h = absurd (true≢false (sym h))

        by : (b : Bool) → list_any (has ends_span) (own p later) ≡ b → (has ends_span e || b) ≡ true → IsOver (process_view s e.process (e ∷ (later ++ rest)))
        by true ended h =
            (over_entry s (later ++ rest) e all.0 e_no (subst (λ q. IsOver (process_view s q (later ++ rest))) (sym same)
            (before (or_right (has is_called e) (list_any (has is_called) (own p later)) uncalled) ended))).0
        by false ended h = ends_entry s (later ++ rest) e all.1 all.0 e_no (here (has ends_span e) refl h)

    go : (list_any (has is_called) (own p later) ≡ false → list_any (has ends_span) (own p later) ≡ true → IsOver (process_view s p (later ++ rest))) → (e.process ≡ p) ⊎ (e.process ≢ p) → IsOver (process_view s p (e ∷ (later ++ rest)))
    go before (inl same) = mine before same (ap (list_any (has is_called)) (sym (own-mine p e later same)) ∙ uncalled) (ap (list_any (has ends_span)) (sym (own-mine p e later same)) ∙ ends)
    go before (inr apart) = subst IsOver (sym (process_view-other s p e (later ++ rest) (ne_eqb e.process p apart)))
        (before (ap (list_any (has is_called)) (sym (own-other p e later apart)) ∙ uncalled) (ap (list_any (has ends_span)) (sym (own-other p e later apart)) ∙ ends))

-- The entries of a call.

-- all entries are, until the next call
until_none : (l : Past) → list_any (has is_called) l ≡ false → until is_called l ≡ l
until_none [] none = refl
until_none (e ∷ l) none = ap (λ b. elim b as (λ _. Past) [ true ↦ until is_called l | false ↦ e ∷ l ]) none

any_append : (test : Entry → Bool) (a b : Past) → list_any test (a ++ b) ≡ (list_any test a || list_any test b)
any_append test [] b = refl
any_append test (e ∷ a) b = by (test e) (any_append test a b)
  where
    by : (t : Bool) → list_any test (a ++ b) ≡ (list_any test a || list_any test b) → (t || list_any test (a ++ b)) ≡ ((t || list_any test a) || list_any test b)
    by true more = refl
    by false more = more

or_true : (a : Bool) → (a || true) ≡ true
or_true true = refl
or_true false = refl

-- the commands that a call has taken are final once its span has ended
takes_no_more : (s : Setup) (p : ℕ) (newer between rest : Past) → AllKeep s (newer ++ (between ++ rest)) → has_ended p between ≡ true → takings_of_call p (newer ++ between) ≡ takings_of_call p between
takes_no_more s p [] between rest all ended = refl
takes_no_more s p (e ∷ newer) between rest all ended = go (cases_eq e.process p) (takes_no_more s p newer between rest all.1 ended)
  where
    l : Past
    l = own p (newer ++ between)

    none_here : list_any (has is_called) l ≡ false → list_any (has is_called) (own p between) ≡ false
    none_here none = or_right (list_any (has is_called) (own p newer)) (list_any (has is_called) (own p between))
        (sym (any_append (has is_called) (own p newer) (own p between)) ∙ ap (list_any (has is_called)) (sym (own-append p newer between)) ∙ none)

    ends : list_any (has is_called) l ≡ false → list_any (has ends_span) l ≡ true
    ends none =
        ap (list_any (has ends_span)) (own-append p newer between) ∙ any_append (has ends_span) (own p newer) (own p between)
        ∙ ap (λ b. list_any (has ends_span) (own p newer) || b) (ap (list_any (has ends_span)) (sym (until_none (own p between) (none_here none))) ∙ ended)
        ∙ or_true (list_any (has ends_span) (own p newer))

    over : list_any (has is_called) l ≡ false → IsOver (process_view s p (newer ++ (between ++ rest)))
    over none = subst (λ (x : Past). IsOver (process_view s p x)) (append_assoc newer between rest)
        (is_over s p (newer ++ between) rest (subst (AllKeep s) (sym (append_assoc newer between rest)) all.1) none (ends none))

    mine : e.process ≡ p → takings_of_call p (newer ++ between) ≡ takings_of_call p between → (b : Bool) → list_any (has is_called) (e ∷ l) ≡ b →
        all_takings (elim b as (λ _. Past) [ true ↦ until is_called l | false ↦ e ∷ l ]) ≡ takings_of_call p between
    mine same before true any = before
    mine same before false none =
        let e_no = or_left (has is_called e) (list_any (has is_called) l) none in
        let l_no = or_right (has is_called e) (list_any (has is_called) l) none in
        let nothing = (over_entry s (newer ++ (between ++ rest)) e all.0 e_no (subst (λ q. IsOver (process_view s q (newer ++ (between ++ rest)))) (sym same) (over l_no))).1 in
        ap (λ (x : List (ℕ × Reply)). all_takings l ++ x) nothing ∙ append-nil (all_takings l) ∙ ap all_takings (sym (until_none l l_no)) ∙ before

    go : (e.process ≡ p) ⊎ (e.process ≢ p) → takings_of_call p (newer ++ between) ≡ takings_of_call p between → takings_of_call p (e ∷ (newer ++ between)) ≡ takings_of_call p between
    go (inl same) before = ap (λ (x : Past). all_takings (until is_called x)) (own-mine p e (newer ++ between) same) ∙ mine same before (list_any (has is_called) (e ∷ l)) refl
    go (inr apart) before = ap (λ (x : Past). all_takings (until is_called x)) (own-other p e (newer ++ between) apart) ∙ before

-- Positions.

-- marks without a taken reply take nothing
nothing_taken : (ms : List Mark) → reply_taken ms ≡ None → takings ms ≡ []
nothing_taken [] none = refl
nothing_taken (mark.Taken j r ∷ ms) none = absurd (cc)
nothing_taken (_ ∷ ms) none = nothing_taken ms none

-- an entry never shortens the history, and lengthens it if it takes a command
history_grows : (s : Setup) (past : Past) (e : Entry) → (length (history s past) ≤ length (history s (e ∷ past))) × ((t : ℕ × Reply) → Contains (takings e.marks) t → length (history s past) < length (history s (e ∷ past)))
history_grows s past e = by (reply_taken e.marks) refl
  where
    never : (ts : List (ℕ × Reply)) (t : ℕ × Reply) → ts ≡ [] → Contains ts t → ⊥
    never [] t none among = let within = among.1 in omega (arith, within)
    never (u ∷ ts) t none among = absurd (cc)

    by : (o : Option Reply) → reply_taken e.marks ≡ o → (length (history s past) ≤ length (history s (e ∷ past))) × ((t : ℕ × Reply) → Contains (takings e.marks) t → length (history s past) < length (history s (e ∷ past)))
    by None none =
        let same : history s (e ∷ past) ≡ history s past = history_with s past e None none in
        let long = ap length same in
        (omega (arith, long), λ t among. absurd (never (takings e.marks) t (nothing_taken e.marks none) among))
    by (Some r) some =
        let more = history_with s past e (Some r) some in
        let long = ap length more ∙ length-append (history s past) _ in
        (omega (arith, long), λ t among. omega (arith, long))

history_on : (s : Setup) (l rest : Past) → length (history s rest) ≤ length (history s (l ++ rest))
history_on s [] rest = omega arith
history_on s (e ∷ l) rest = let before = history_on s l rest in let more = (history_grows s (l ++ rest) e).0 in omega (arith, before, more)

-- the positions of the commands that a call takes in these entries are those by which they lengthen the history
record IsWithin (s : Setup) (l rest : Past) (k : ℕ) : Type 0 where
  pub from : length (history s rest) ≤ k
  pub below : k < length (history s (l ++ rest))

placed_within : (s : Setup) (p : ℕ) (l rest : Past) → AllKeep s (l ++ rest) → (k : ℕ) (q : Reply) → Contains (takings_of_call p l) (k, q) → IsWithin s l rest k
placed_within s p [] rest all k q among = let within = among.1 in absurd (omega (arith, within))
placed_within s p (e ∷ l) rest all k q among = go (placed_within s p l rest all.1 k q) (cases_eq e.process p)
  where
    further : IsWithin s l rest k → IsWithin s (e ∷ l) rest k
    further before =
        let from = before.from in let below = before.below in let more = (history_grows s (l ++ rest) e).0 in
        record { from = from; below = omega (arith, below, more) }

    here : Contains (takings e.marks) (k, q) → IsWithin s (e ∷ l) rest k
    here among =
        let place : k ≡ length (history s (l ++ rest)) = (takes_its_place s (l ++ rest) e all.0 k q among).0 in
        let from = history_on s l rest in
        let more = (history_grows s (l ++ rest) e).1 (k, q) among in
        record { from = omega (arith, from, place); below = omega (arith, place, more) }

    mine : (Contains (takings_of_call p l) (k, q) → IsWithin s l rest k) → (b : Bool) → list_any (has is_called) (e ∷ own p l) ≡ b → Contains (all_takings (elim b as (λ _. Past) [ true ↦ until is_called (own p l) | false ↦ e ∷ own p l ])) (k, q) → IsWithin s (e ∷ l) rest k
    mine before true any among = further (before among)
    mine before false none among = either (Contains-append_cases (all_takings (own p l)) (takings e.marks) (k, q) among)
      where
        either : Contains (all_takings (own p l)) (k, q) ⊎ Contains (takings e.marks) (k, q) → IsWithin s (e ∷ l) rest k
        either (inl old) = further (before (subst (λ (x : Past). Contains (all_takings x) (k, q)) (sym (until_none (own p l) (or_right (has is_called e) (list_any (has is_called) (own p l)) none))) old))
        either (inr now) = here now

    go : (Contains (takings_of_call p l) (k, q) → IsWithin s l rest k) → (e.process ≡ p) ⊎ (e.process ≢ p) → IsWithin s (e ∷ l) rest k
    go before (inl same) = mine before (list_any (has is_called) (e ∷ own p l)) refl (subst (λ (x : Past). Contains (all_takings (until is_called x)) (k, q)) (own-mine p e l same) among)
    go before (inr apart) = further (before (subst (λ (x : Past). Contains (all_takings (until is_called x)) (k, q)) (own-other p e l apart) among))

-- the entries before one of those that keep all laws
kept_before : (s : Setup) (later rest : Past) → AllKeep s (later ++ rest) → AllKeep s rest
kept_before s [] rest all = all
kept_before s (x ∷ later) rest all = kept_before s later rest all.1

pub places_keep_order : (s : Setup) (past : Past) → AllKeep s past → PlacesKeepOrder past
places_keep_order s past all newer between earlier x y splits x_called y_called ended k m q r x_takes y_takes =
    let whole : AllKeep s (newer ++ (y ∷ (between ++ x ∷ earlier))) = subst (AllKeep s) (splits ∙ append_assoc newer (y ∷ between) (x ∷ earlier)) all in
    let from_y : AllKeep s (y ∷ (between ++ x ∷ earlier)) = kept_before s newer (y ∷ (between ++ x ∷ earlier)) whole in
    let front : Past = newer ++ y ∷ [] in
    let assoc : front ++ (between ++ x ∷ earlier) ≡ newer ++ (y ∷ (between ++ x ∷ earlier)) = append_assoc newer (y ∷ []) (between ++ x ∷ earlier) in
    let same : takings_of_call x.process (front ++ between) ≡ takings_of_call x.process between = takes_no_more s x.process front between (x ∷ earlier) (subst (AllKeep s) (sym assoc) whole) ended in
    let x_took : Contains (takings_of_call x.process between) (k, q) = subst (λ (l : List (ℕ × Reply)). Contains l (k, q)) (ap (takings_of_call x.process) (sym (append_assoc newer (y ∷ []) between)) ∙ same) x_takes in
    let low = placed_within s x.process between (x ∷ earlier) from_y.1 k q x_took in
    let high = placed_within s y.process newer (y ∷ (between ++ x ∷ earlier)) whole m r y_takes in
    let below = low.below in let from = high.from in let more = (history_grows s (between ++ x ∷ earlier) y).0 in
    omega (arith, below, from, more)
