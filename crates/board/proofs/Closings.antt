-- Seats of still processes are joined, and the words of a closed board show the image of the store.
use Rattle.std.proofs.Common.{◌≡◌, ◌==◌, ℕ, ◌<◌, Bool, true, false, cond, List, [], ◌∷◌, map, get_or, fold, refl, sym, ap, ◌∙◌, subst, inl, inr, arith}
use Rattle.std.specs.Prelude.{slice_index}
use Rattle.std.specs.List.{list_any}
use mathlib.Core.Option.{some}
use mathlib.Core.Logic.{dite}
use native.Mathlib.Decide.{ℕ_discrete}
use lib.ListN.{get_elem?}
use Rattle.atomic_table.proofs.Lists.{set_else}
use Rattle.atomic_table.specs.Table.{State, Joins}
use Rattle.model.specs.safe_bit.Cell.{Cell}
use Rattle.model.specs.{Event, Field, Past, Stage, Taken, Version, bits_held, bytes_of_bits, cell_after, copy, history, image_bytes, image_field, inside, is_running, is_somebody_inside, is_version, newest_bytes, newest_process, own, past_of, processes, stage, stamp_field, store_after, version_held, version_of, versions_held, width}
use Rattle.model.specs.declared.access.Field.TheVariants.{Commit}
use Rattle.model.specs.safe_number.{number_of_bits}
use Rattle.model.proofs.safe_number.Numbers.{range_same}
use Rattle.plain_store.specs.declared.Command.TheVariants.{Ask}
use Rattle.plain_store.specs.{Contents, Setup, callers_of, changes, opening_store}
use Rattle.store_image.specs.{store_in}
use Rattle.model.specs.declared.stages.Stage.TheVariants as stage
use Rattle.model.proofs.Width.{IsGood, is_good}
use Rattle.laws.specs.{Doing, IsThere, call, cell_held, doing, is_inside}
use Rattle.laws.proofs.Frame.{Does, at_rest, lying, running, leaving, settling}
use Rattle.laws.proofs.FrameEvents.{does_all}
use Rattle.laws.proofs.FrameInside.{inside-is}
use Rattle.laws.proofs.HeldCells.{held-is}
use Rattle.history_laws.proofs.Codec.{bytes_read, store_is_read}
use Rattle.history_laws.proofs.CountedChanges.{then}
use Rattle.history_laws.proofs.DataAlways.{data_of}
use Rattle.history_laws.proofs.DataMainTheorem as main_theorem
use Rattle.history_laws.proofs.MainTheorems.{throughout}
use Rattle.history_laws.proofs.Sound.{IsStoreOf}
use Rattle.history_laws.proofs.Sounding.{after_is_same}
use Rattle.process.specs.{newest_version}
use Rattle.process.proofs.NewestSteps.{newest-below}
use Rattle.board.proofs.Doings.{stage_known}
use Rattle.board.specs.{Agree, IsIn, IsQuiet, IsStill, KnowsSeats, Leaves, OwnView, Shows, FitsChanges, ViewState, bits_shown, bytes_shown, own_view, shown, spent_view, stage_in, version_shown, versions_shown, with_joined, word_of}
use Rattle.board.specs.Calls.{Calls, changes_of, changing}
use Rattle.board.proofs.CallsFit.{calls_in_the_changes}
use Rattle.board.proofs.Seats.{is_first, joins, some_processes}

-- Processes that are still.

-- a still process of a record is quiet
still_quiet : (s : Setup) → IsGood s → (events : List Event) (p : ℕ) → IsStill s (own_view s (past_of s events) p) → IsQuiet (doing s p (past_of s events))
still_quiet s g events p still = go (does_all s g events p) still
  where
    past : Past
    past = past_of s events

    is : (st : Stage) → stage_in s (own_view s past p) ≡ st → stage p past ≡ st
    is st h = sym (stage_known s g events p) ∙ h

    go : Does s p (own p past) (stage p past) (doing s p past) → IsStill s (own_view s past p) → IsQuiet (doing s p past)
    go (at_rest i k) h = inl k
    go (lying i k) h = inr k
    go (running command b r k) (inl h) = let f : false ≡ true = ap is_running (sym (is stage.Idle h)) ∙ r in cc
    go (running command b r k) (inr h) = let f : false ≡ true = ap is_running (sym (is stage.Down h)) ∙ r in cc
    go (leaving b i k) (inl h) = let f : stage.Leaving ≡ stage.Idle = sym i ∙ is stage.Idle h in cc
    go (leaving b i k) (inr h) = let f : stage.Leaving ≡ stage.Down = sym i ∙ is stage.Down h in cc
    go (settling b i k) (inl h) = let f : stage.Settling ≡ stage.Idle = sym i ∙ is stage.Idle h in cc
    go (settling b i k) (inr h) = let f : stage.Settling ≡ stage.Down = sym i ∙ is stage.Down h in cc

abbrev Holds : Setup → State (Unit {0}) ViewState → Type 0
Holds s t = Agree s t.words t.views

-- the seat of a still process is joined
pub joins_still : (s : Setup) (id : ℕ) (v : ViewState) (other : ℕ) (w : ViewState) → v.spent ≡ false → v.own.process ≡ 0 → w.spent ≡ false → IsStill s w.own → Joins (Holds s) id v other w (with_joined v w) spent_view
joins_still s id v other w live zero_ w_live still state agree at ne at_w =
    let f = agree.1 in
    let k = f.known other w (sym (set_else state.views id other (with_joined v w) ne) ∙ at_w) w_live in
    let quiet : IsQuiet w.own.doing = subst (λ (o : OwnView). IsQuiet o.doing) (sym k.own) (still_quiet s (is_good s f.good) agree.0 w.own.process (subst (IsStill s) k.own still)) in
    joins s id v other w live zero_ w_live quiet state agree at ne at_w

-- The bits.

bit-value : (c : Cell) → c.writing ≡ false → (shown c == 1) ≡ c.value
bit-value c h = grind arith

-- while no process is inside, the words show the values of the version registers
bits-are : (s : Setup) (events : List Event) (words : List ℕ) (views : List ViewState) → Shows s events words views → is_somebody_inside s (past_of s events) ≡ false → (p : ℕ) (field : Field) → p < s.processes → is_version field ≡ true →
    bits_shown s words p field ≡ bits_held s (past_of s events) p field 0
bits-are s events words views f none p field below version =
    let past = past_of s events in
    range_same (λ k. (cell_after s past (copy p field 0 k)).value) (λ k. slice_index words (word_of s (copy p field 0 k)) == 1) (width s field) false (λ k inside_.
    let a = copy p field 0 k in
    let there : IsThere s a = record { owner = below; reader = omega (arith, below); bit = inside_ } in
    let whole : (cell_held s past a).writing ≡ false = ap (λ (c : Cell). c.writing) (held-is s past a) ∙ main_theorem.whole s f.good events none a version in
    ap (λ w. w == 1) (f.bits a there) ∙ bit-value (cell_held s past a) whole ∙ ap (λ (c : Cell). c.value) (held-is s past a))

version-is : (s : Setup) (events : List Event) (words : List ℕ) (views : List ViewState) → Shows s events words views → is_somebody_inside s (past_of s events) ≡ false → (p : ℕ) → p < s.processes → version_shown s words p ≡ version_held s (past_of s events) p
version-is s events words views f none p below =
    let past = past_of s events in
    let commit : get_or (bits_shown s words p Commit) 0 false ≡ get_or (bits_held s past p Commit 0) 0 false = ap (λ bits. get_or bits 0 false) (bits-are s events words views f none p Commit below refl) in
    λ i. (commit i, (stamp (get_or (bits_shown s words p Commit) 0 false) ∙ ap (λ b. number_of_bits (bits_held s past p (stamp_field b) 0)) commit) i)
  where
    stamp : (b : Bool) → number_of_bits (bits_shown s words p (stamp_field b)) ≡ number_of_bits (bits_held s (past_of s events) p (stamp_field b) 0)
    stamp true = ap number_of_bits (bits-are s events words views f none p (stamp_field true) below refl)
    stamp false = ap number_of_bits (bits-are s events words views f none p (stamp_field false) below refl)

-- the newest image
bytes-are : (s : Setup) (events : List Event) (words : List ℕ) (views : List ViewState) → Shows s events words views → is_somebody_inside s (past_of s events) ≡ false → bytes_shown s words ≡ newest_bytes s (past_of s events)
bytes-are s events words views f none =
    ap (bytes_of_bits (image_bytes s)) (image newest (version_of (versions_shown s words) newest) below
    ∙ ap (λ versions. bits_held s past (newest_process versions) (image_field (version_of versions (newest_process versions))) 0) versions-are)
  where
    past : Past
    past = past_of s events

    newest : ℕ
    newest = newest_process (versions_shown s words)

    below : newest < s.processes
    below = newest-below (version_shown s words) s.processes (newest_version (versions_shown s words)) refl (some_processes s f.good)

    image : (p : ℕ) (b : Bool) → p < s.processes → bits_shown s words p (image_field b) ≡ bits_held s past p (image_field b) 0
    image p true h = bits-are s events words views f none p (image_field true) h refl
    image p false h = bits-are s events words views f none p (image_field false) h refl

    versions-are : versions_shown s words ≡ versions_held s past
    versions-are = let zero_ : Version = (false, 0) in range_same (version_held s past) (version_shown s words) s.processes zero_ (λ p h. version-is s events words views f none p h)

-- The store.

-- commands that change nothing leave the store
changed_store : (store : Contents) (xs : List Taken) → fold then store (changing store xs) ≡ fold then store xs
changed_store store [] = refl
changed_store store (t ∷ xs) = by (changed_store (then store t) xs) (changes store t.command) refl
  where
    rest : List Taken
    rest = changing (then store t) xs

    by : fold then (then store t) rest ≡ fold then (then store t) xs → (b : Bool) → changes store t.command ≡ b → fold then store (cond b (t ∷ rest) rest) ≡ fold then (then store t) xs
    by more true h = more
    by more false h = ap (λ z. fold then z rest) (sym (after_is_same store t.command (record { process = t.process; number = t.number }) h)) ∙ more

any_map : (f : ℕ → Bool) (xs : List ℕ) → list_any f xs ≡ list_any (λ b. b) (map f xs)
any_map f [] = refl
any_map f (x ∷ xs) = ap (λ b. Rattle.std.specs.Prelude.◌||◌ (f x) b) (any_map f xs)

any_false : (xs : List ℕ) → list_any (λ (b : Bool). b) (map (λ _. false) xs) ≡ false
any_false [] = refl
any_false (x ∷ xs) = any_false xs

-- if each process is quiet, no process is inside
nobody_inside : (s : Setup) → IsGood s → (events : List Event) → ((p : ℕ) → p < s.processes → IsQuiet (doing s p (past_of s events))) → is_somebody_inside s (past_of s events) ≡ false
nobody_inside s g events quiet =
    let past = past_of s events in
    any_map (λ p. inside p past) (processes s)
    ∙ ap (list_any (λ (b : Bool). b)) (range_same (λ _. false) (λ p. inside p past) s.processes false (λ p below. inside-is s g events p ∙ outside (doing s p past) (quiet p below)))
    ∙ any_false (processes s)
  where
    outside : (d : Doing) → IsQuiet d → is_inside d ≡ false
    outside d (inl h) = ap is_inside h
    outside d (inr h) = ap is_inside h

-- the store whose image a closed board shows
pub closes : (s : Setup) (id : ℕ) (v : ViewState) (words : List ℕ) (t : State (Unit {0}) ViewState) (image : Contents) → Agree s t.words t.views → get_elem? t.views id ≡ some v → t.words ≡ words → v.spent ≡ false → v.own.process ≡ 0 → IsStill s v.own →
    ((p : ℕ) → 0 < p → p < s.processes → IsIn p v.joined) → image ≡ store_in s.slots (callers_of s) (bytes_shown s words) → Leaves s v.own.calls v.seen image
closes s id v words t image agree at same live zero_ still joined is = record {
  events = events;
  given = f.given;
  main_theorem = throughout s f.good events f.given;
  quiet = quiet;
  calls = ap (λ (o : OwnView). o.calls) mine;
  seen = k.seen;
  fits = subst (λ (calls : Calls). FitsChanges s 0 calls.done (changes_of s past)) (sym (ap (λ (o : OwnView). o.calls) mine)) (calls_in_the_changes s f.good events f.given 0).0;
  store =
      is
      ∙ ap (λ ws. store_in s.slots (callers_of s) (bytes_shown s ws)) (sym same)
      ∙ ap (store_in s.slots (callers_of s)) (bytes-are s events t.words t.views f none ∙ main_theorem.newest s f.good events f.given none ∙ sym (bytes_read s store sound))
      ∙ store_is_read (call s 0 Ask 0) store sound
      ∙ sym (changed_store (opening_store s) (history s past));
}
  where
    events : List Event
    events = agree.0

    f : Shows s events t.words t.views
    f = agree.1

    g : IsGood s
    g = is_good s f.good

    past : Past
    past = past_of s events

    k : Rattle.board.specs.Agreement.Knows s past v
    k = f.known id v at live

    mine : v.own ≡ own_view s past 0
    mine = k.own ∙ ap (own_view s past) zero_

    seats : KnowsSeats s past t.views v
    seats = (is_first s events t.words t.views f id v at live zero_).1

    quiet : (p : ℕ) → p < s.processes → IsQuiet (doing s p past)
    quiet p below = dite (ℕ_discrete p 0)
        (λ none_. subst (λ q. IsQuiet (doing s q past)) (sym none_) (still_quiet s g events 0 (subst (IsStill s) mine still)))
        (λ some_. seats.joined p (joined p (omega arith) below))

    none : is_somebody_inside s past ≡ false
    none = nobody_inside s g events quiet

    store : Contents
    store = store_after s (history s past)

    sound : IsStoreOf s store
    sound = (data_of s f.good events f.given).kept.sound
