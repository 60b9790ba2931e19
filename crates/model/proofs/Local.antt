-- The state of each process, in every run: at rest, down, at a place of its program, withdrawing, or in its unit's hands.
use Rattle.std.specs.Prelude.{◌≡◌, refl, ℕ, zero, suc, ◌+◌, ◌<◌, ◌==◌, Bool, true, false, cond, List, [], ◌∷◌, ◌++◌, length, map, fold, slice_get, Option, None, Some}
use Rattle.std.proofs.Common.{sym, ◌∙◌, ap, subst, arith, ne_eqb}
use Rattle.std.specs.List.{list_any}
use Rattle.model.specs.{Access, Entry, Field, Mark, Next, Part, Past, Place, Portion, ReadSoFar, Script, Stage, access_at, accesses_of, calls_in, doing, ended, ended_with, entry_made, has, history, is_called, is_over, is_read, last_call, last_command, last_start, local_program, marks_at, nth, own, part_after, place_of, placed, program, program_from, read_at, read_of, read_so_far, scripted, since, single, singles, stage_after, stage_of, starts, stepped, width, with_access, with_move, write_of, written_at}
use Rattle.plain_store.specs.{Command, Setup}
use Rattle.model.specs.declared.marks.Mark.TheVariants.{Called, Failed, Down, Withdrew}
use Rattle.model.specs.declared.stages.Stage.TheVariants.{Idle, Leaving, Settling, Down}
use Rattle.model.proofs.Singles
use Rattle.model.proofs.Singles.{get-append, get-remaining, length-single, Half, begins, ends, read-at, AllWrites-write_of, AllWrites-get}
use Rattle.model.proofs.Place.{portion, rest, rest-read}
use Rattle.model.proofs.Follow.{Spot, more_bits, moved_on, Corresponds, next_access, not_over, write-adds_nothing, step}
use Rattle.model.proofs.Ties.{Tied, tied-next, tied-on}
use Rattle.model.proofs.Marking.{spot_marks, marks_are}
use Rattle.model.proofs.Width.{IsGood}
use Rattle.model.proofs.Staging.{stage-marks, stage-placed, no_start-marks, no_start-placed, no_called, no_command, no_start}
use Rattle.safe_bit.specs.{is_of_write}

pub record Running (s : Setup) (p : ℕ) (mine : Past) (st : Stage) : Type 0 where
  pub command : Command
  pub begun : last_start mine ≡ Some (Called command)
  pub same : since is_called mine ≡ since starts mine
  pub at : Spot
  pub corresponds : Corresponds (last_call s p mine) (read_so_far s (since starts mine)) (length (since starts mine)) at
  pub not_over : is_over at.part ≡ false
  pub tied : Tied (last_call s p mine) (place_of (last_call s p mine) (accesses_of (since starts mine))) at
  pub stage : st ≡ stage_of at.part (at.made == 0)

pub data View (s : Setup) (p : ℕ) (mine : Past) (st : Stage) : Type 0 where
  rests : st ≡ Idle → View s p mine st
  down : st ≡ Down → View s p mine st
  runs : Running s p mine st → View s p mine st
  withdraws : last_start mine ≡ Some Withdrew → st ≡ Leaving → View s p mine st
  fails : last_start mine ≡ Some Failed → st ≡ Settling → View s p mine st

-- an entry with no mark that begins a program
pub since-plain : (e : Entry) (mine : Past) → has starts e ≡ false → since starts (e ∷ mine) ≡ e ∷ since starts mine
since-plain e mine h = rw (h, since) refl

pub since_called-plain : (e : Entry) (mine : Past) → has starts e ≡ false → since is_called (e ∷ mine) ≡ e ∷ since is_called mine
since_called-plain e mine h = rw (no_called e.marks h, since) refl

pub start-plain : (e : Entry) (mine : Past) → has starts e ≡ false → last_start (e ∷ mine) ≡ last_start mine
start-plain e mine h = rw (no_start e.marks h, last_start) refl

pub command-plain : (e : Entry) (mine : Past) → has starts e ≡ false → last_command (e ∷ mine) ≡ last_command mine
command-plain e mine h = rw (no_command e.marks h, last_command) refl

pub calls-plain : (e : Entry) (mine : Past) → has starts e ≡ false → calls_in (e ∷ mine) ≡ calls_in mine
calls-plain e mine h = rw (no_called e.marks h, calls_in) refl

pub call-plain : (s : Setup) (p : ℕ) (e : Entry) (mine : Past) → has starts e ≡ false → last_call s p (e ∷ mine) ≡ last_call s p mine
call-plain s p e mine h = λ i. record {
  setup = s;
  process = p;
  command = command-plain e mine h i;
  number = cond (s.version == 2) (calls-plain e mine h i) 0;
}

pub get_some : {X : Type 0} → (xs : List X) (k : ℕ) → k < length xs → (x : X) × (slice_get xs k ≡ Some x)
get_some [] k h = absurd (omega arith)
get_some (x ∷ xs) zero h = (x, refl)
get_some (x ∷ xs) (suc k) h = get_some xs k (omega arith)

-- the script goes as far when the access is made
pub made_too : (c : Rattle.model.specs.Scripts.Call) (r : ReadSoFar) (len : ℕ) (at : Spot) (n : Next) (v : Bool) → Corresponds c r len at → scripted c r.finished len ≡ Some n →
    (m : Next) × (scripted c (with_access c.setup (Some (ended_with v n.access)) r).finished len ≡ Some m)
made_too c r len at n v st h = go (is_read at.part) refl
  where
    owner : ℕ
    owner = (read_at c at.part).0

    field : Field
    field = (read_at c at.part).1

    Made : ReadSoFar → Type 0
    Made q = (m : Next) × (scripted c q.finished len ≡ Some m)

    one : (q : Portion) (tail : Script) → at.made < length q.accesses → (m : Next) × (slice_get (singles (q ∷ tail)) at.made ≡ Some m)
    one q tail l =
        let (m, e) = get_some (single q.first q.last q.accesses) at.made (rw length-single l) in
        (m, get-remaining (single q.first q.last q.accesses) (singles tail) at.made (rw length-single l) ∙ e)

    finished : (val : List Bool) → is_read at.part ≡ true → (m : Next) × (scripted c (r.finished ++ val ∷ []) len ≡ Some m)
    finished val w =
        let (m, e) = one (portion c at.part val) (rest c (part_after c at.part val) []) (st.within (not_over c r len at n st h)) in (
          m,
          ap (λ l. slice_get l len) (st.script (val ∷ []))
              ∙ ap (λ i. slice_get (st.done ++ singles (rest c at.part (val ∷ []))) i) (sym st.count)
              ∙ get-append st.done (singles (rest c at.part (val ∷ []))) at.made
              ∙ ap (λ s. slice_get (singles s) at.made) (rest-read c at.part val [] w) ∙ e,
        )

    go : (b : Bool) → is_read at.part ≡ b → Made (with_access c.setup (Some (ended_with v n.access)) r)
    go false w = (n, ap (λ (q : ReadSoFar). scripted c q.finished len) (write-adds_nothing (width c.setup n.access.field) n.access.bit v n.access.how r is) ∙ h)
      where
        is : is_of_write n.access.how ≡ true
        is = AllWrites-get (write_of c.setup c.process (written_at c at.part).0 (written_at c at.part).1) at.made n.access
            (AllWrites-write_of c.setup c.process (written_at c at.part).0 (written_at c at.part).1)
            (ap (λ b. slice_get (cond b (read_of c.setup c.process (read_at c at.part).0 (read_at c at.part).1) (write_of c.setup c.process (written_at c at.part).0 (written_at c at.part).1)) at.made) (sym w) ∙ next_access c r len at n st h)
    go true w = half which.half
      where
        is_reading : doing c at.part ≡ read_of c.setup c.process owner field
        is_reading = ap (λ b. cond b (read_of c.setup c.process owner field) (write_of c.setup c.process (written_at c at.part).0 (written_at c at.part).1)) w

        which : Singles.IsReadAt owner field 0 (width c.setup field) at.made n.access
        which = read-at c.process owner field 0 (width c.setup field) at.made n.access (ap (λ l. slice_get l at.made) (sym is_reading) ∙ next_access c r len at n st h)

        half : Half 0 (width c.setup field) at.made n.access → Made (with_move (width c.setup n.access.field) n.access.bit (ended v n.access.how) r)
        half (begins e l) = rw e (n, h)
        half (ends e b) = rw e (last (n.access.bit + 1 == width c.setup n.access.field))
          where
            last : (t : Bool) → Made (cond t (record { finished = r.finished ++ (r.bits ++ v ∷ []) ∷ []; bits = [] }) (record { finished = r.finished; bits = r.bits ++ v ∷ [] }))
            last true = finished (r.bits ++ v ∷ []) w
            last false = (n, h)

pub over-idle : (part : Part) (f : Bool) → is_over part ≡ true → stage_of part f ≡ Idle
over-idle Rattle.model.specs.Parts.Over f h = refl
over-idle _ f h = cc

pub stage-moved : (c : Rattle.model.specs.Scripts.Call) (at : Spot) (a : Access) →
    fold stage_after (stage_of at.part (at.made == 0)) (spot_marks c at a) ≡ stage_of (moved_on c at a).part ((moved_on c at a).made == 0)
stage-moved c at a = stage-marks c at.part (more_bits a.how at.bits) (at.made == 0) (at.made + 1 == length (doing c at.part)) ∙ go (at.made + 1 == length (doing c at.part))
  where
    next : Bool → Spot
    next b = cond b (record { part = part_after c at.part (more_bits a.how at.bits); made = 0; bits = [] }) (record { part = at.part; made = at.made + 1; bits = more_bits a.how at.bits })

    go : (b : Bool) → cond b (stage_of (part_after c at.part (more_bits a.how at.bits)) true) (stage_of at.part false) ≡ stage_of (next b).part ((next b).made == 0)
    go true = refl
    go false = ap (stage_of at.part) (sym (ne_eqb (at.made + 1) 0 (λ u. omega (arith, u))))

pub running_on : (s : Setup) → IsGood s → (p : ℕ) (mine : Past) (st : Stage) (r : Running s p mine st) (e : Entry) (n : Next) (v : Bool) (k : ℕ) →
    e.access ≡ Some (ended_with v n.access) → e.marks ≡ map (placed k) (spot_marks (last_call s p mine) r.at (ended_with v n.access)) →
    scripted (last_call s p mine) (read_so_far s (since starts mine)).finished (length (since starts mine)) ≡ Some n →
    (has starts e ≡ false) × View s p (e ∷ mine) (fold stage_after st e.marks)
running_on s g p mine st r e n v k ea em h = (plain, go (is_over to.part) refl)
  where
    a : Access
    a = ended_with v n.access

    to : Spot
    to = moved_on (last_call s p mine) r.at a

    plain : has starts e ≡ false
    plain = ap (list_any starts) em ∙ no_start-placed k (spot_marks (last_call s p mine) r.at a)
        ∙ no_start-marks (last_call s p mine) r.at.part (more_bits a.how r.at.bits) (r.at.made == 0) (r.at.made + 1 == length (doing (last_call s p mine) r.at.part))

    at_stage : fold stage_after st e.marks ≡ stage_of to.part (to.made == 0)
    at_stage = ap (fold stage_after st) em ∙ stage-placed k st (spot_marks (last_call s p mine) r.at a)
        ∙ ap (λ x. fold stage_after x (spot_marks (last_call s p mine) r.at a)) r.stage ∙ stage-moved (last_call s p mine) r.at a

    corresponds : Corresponds (last_call s p (e ∷ mine)) (read_so_far s (since starts (e ∷ mine))) (length (since starts (e ∷ mine))) to
    corresponds = rw (call-plain s p e mine plain, since-plain e mine plain, ea)
        (step (last_call s p mine) g (read_so_far s (since starts mine)) (length (since starts mine)) r.at n v r.corresponds h)

    place : Place
    place = place_of (last_call s p mine) (accesses_of (since starts mine))

    is : n.access ≡ access_at (last_call s p mine) place.part place.run
    is =
        let f : Some n.access ≡ Some (access_at (last_call s p mine) place.part place.run) =
        sym (next_access (last_call s p mine) (read_so_far s (since starts mine)) (length (since starts mine)) r.at n r.corresponds h)
        ∙ tied-next (last_call s p mine) g place r.at (ap is_over (sym r.tied.part) ∙ r.not_over) r.tied in
        cc

    accesses : accesses_of (since starts (e ∷ mine)) ≡ a ∷ accesses_of (since starts mine)
    accesses = ap accesses_of (since-plain e mine plain) ∙ ap (λ o. elim o as (λ _. List Access) [ None ↦ accesses_of (since starts mine) | Some b ↦ b ∷ accesses_of (since starts mine) ]) ea

    tied_here : Tied (last_call s p mine) (place_of (last_call s p mine) (accesses_of (since starts (e ∷ mine)))) to
    tied_here = subst (λ l. Tied (last_call s p mine) (place_of (last_call s p mine) l) to) (sym accesses)
        (tied-on (last_call s p mine) g place r.at v a (ap is_over (sym r.tied.part) ∙ r.not_over) r.tied (ap (ended_with v) is))

    tied : Tied (last_call s p (e ∷ mine)) (place_of (last_call s p (e ∷ mine)) (accesses_of (since starts (e ∷ mine)))) to
    tied = subst (λ c. Tied c (place_of c (accesses_of (since starts (e ∷ mine)))) to) (sym (call-plain s p e mine plain)) tied_here

    go : (b : Bool) → is_over to.part ≡ b → View s p (e ∷ mine) (fold stage_after st e.marks)
    go true o = rests (at_stage ∙ over-idle to.part (to.made == 0) o)
    go false o = runs (record {
      command = r.command;
      begun = start-plain e mine plain ∙ r.begun;
      same = since_called-plain e mine plain ∙ ap (λ l. e ∷ l) r.same ∙ sym (since-plain e mine plain);
      at = to;
      corresponds = corresponds;
      not_over = o;
      tied = tied;
      stage = at_stage;
    })

pub option_map-some : {X Y : Type 0} → (f : X → Y) (o : Option X) (y : Y) → Rattle.std.specs.Prelude.option_map f o ≡ Some y → (x : X) × (o ≡ Some x) × (f x ≡ y)
option_map-some f None y h = cc
option_map-some f (Some x) y h = (x, refl, cc)

-- a step of a process that runs
pub running_steps : (s : Setup) → IsGood s → (p : ℕ) (past : Past) (st : Stage) (flick : Bool) → Running s p (own p past) st → (e : Entry) → stepped s past p flick ≡ Some e →
    (has starts e ≡ false) × View s p (e ∷ own p past) (fold stage_after st e.marks)
running_steps s g p past st flick r e h =
    let P : Entry → Type 0 = λ e. (has starts e ≡ false) × View s p (e ∷ own p past) (fold stage_after st e.marks) in
    subst P made.2 (running_on s g p mine st r (entry_made s past p flick n) n v (length (history s past)) refl (ap (map (placed (length (history s past)))) marks_is) next)
  where
    mine : Past
    mine = own p past

    c : Rattle.model.specs.Scripts.Call
    c = last_call s p mine

    len : ℕ
    len = length (since starts mine)

    made : (n : Next) × (nth len (program s p flick mine) ≡ Some n) × (entry_made s past p flick n ≡ e)
    made = option_map-some (entry_made s past p flick) (nth len (program s p flick mine)) e h

    n : Next
    n = made.0

    v : Bool
    v = Rattle.safe_bit.specs.SafeRule.read_value (Rattle.model.specs.Registers.opening_bit s n.access) (Rattle.model.specs.Moves.moves_of n.access past) flick

    bare : Entry
    bare = record { process = p; access = Some (ended_with v n.access); marks = [] }

    next : scripted c (read_so_far s (since starts mine)).finished len ≡ Some n
    next = ap (λ l. scripted c (read_so_far s l).finished len) (sym r.same) ∙ ap (λ o. nth len (program_from s p flick mine o)) (sym r.begun) ∙ made.1

    there : scripted c (with_access s (Some (ended_with v n.access)) (read_so_far s (since starts mine))).finished len ≡ Some (made_too c (read_so_far s (since starts mine)) len r.at n v r.corresponds next).0
    there = (made_too c (read_so_far s (since starts mine)) len r.at n v r.corresponds next).1

    marks_is : marks_at len (program s p flick (bare ∷ mine)) ≡ spot_marks c r.at (ended_with v n.access)
    marks_is = ap (λ o. marks_at len (program_from s p flick (bare ∷ mine) o)) r.begun
        ∙ ap (λ l. marks_at len (local_program c (with_access s (Some (ended_with v n.access)) (read_so_far s l)).finished)) r.same
        ∙ ap {A = Option Next} (λ o. elim o as (λ _. List Mark) [ None ↦ [] | Some q ↦ q.marks ]) there
        ∙ marks_are c (read_so_far s (since starts mine)) len r.at n (made_too c (read_so_far s (since starts mine)) len r.at n v r.corresponds next).0 v r.corresponds next there
