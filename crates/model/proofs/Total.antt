-- An accepted event adds an entry: a program that is run has a next access.
use Rattle.std.specs.Prelude.{◌≡◌, refl, ℕ, ◌+◌, ◌-◌, ◌<◌, ◌==◌, Bool, true, false, cond, List, [], ◌∷◌, ◌++◌, length, fold, slice_get, Option, None, Some}
use Rattle.std.proofs.Common.{sym, ◌∙◌, ap, subst, arith, append-nil, length-append, eq-eqb}
use Rattle.model.specs.declared.access.Field.TheVariants.{Choosing, Ticket}
use Rattle.plain_store.specs.declared.Answer.TheVariants.{Withdrawn}
use Rattle.model.specs.{Mark, Next, Past, Portion, Script, Stage, doing, inside, is_over, is_read, last_write, marks_at, scripted, settle, single, singles, stage_after, unfinished, unit_program, withdrawn, writing}
use Rattle.model.specs.declared.marks.Mark.TheVariants.{Answered, Left, Down}
use Rattle.model.specs.declared.stages.Stage.TheVariants.{Idle, Leaving, Settling, Down}
use Rattle.model.proofs.Singles.{get-append, get-remaining, length-single}
use Rattle.model.proofs.Place.{portion, rest, rest-unread, rest-write}
use Rattle.model.proofs.Follow.{Spot, Corresponds}
use Rattle.model.proofs.Marking.{marks_on, single-marks}
use Rattle.model.proofs.Local.{get_some}
use Rattle.model.proofs.Whole.{flat_map-append}
use Rattle.model.proofs.Width.{IsGood, written-pos, bits_of_number-pos, width-pos}
use Rattle.safe_number.specs.{bits_of_number}

-- a running process has a next access
pub runs_on : (c : Rattle.model.specs.Scripts.Call) (r : Rattle.model.specs.Calls.ReadSoFar) (len : ℕ) (at : Spot) → Corresponds c r len at → is_over at.part ≡ false → (n : Next) × (scripted c r.finished len ≡ Some n)
runs_on c r len at st o = go (is_read at.part) refl
  where
    one : (q : Portion) (tail : Script) → at.made < length q.accesses → (m : Next) × (slice_get (singles (q ∷ tail)) at.made ≡ Some m)
    one q tail l =
        let (m, e) = get_some (single q.first q.last q.accesses) at.made (rw length-single l) in
        (m, get-remaining (single q.first q.last q.accesses) (singles tail) at.made (rw length-single l) ∙ e)

    back : (m : Next) → slice_get (singles (rest c at.part [])) at.made ≡ Some m → scripted c r.finished len ≡ Some m
    back m h = ap (λ f. scripted c f len) (sym (append-nil r.finished)) ∙ ap (λ l. slice_get l len) (st.script [])
        ∙ ap (λ i. slice_get (st.done ++ singles (rest c at.part [])) i) (sym st.count) ∙ get-append st.done (singles (rest c at.part [])) at.made ∙ h

    go : (b : Bool) → is_read at.part ≡ b → (n : Next) × (scripted c r.finished len ≡ Some n)
    go true w =
        let (m, e) = one (record { accesses = doing c at.part; first = []; last = [] }) [] (st.within o) in
        (m, back m (ap (λ s. slice_get (singles s) at.made) (rest-unread c at.part w) ∙ e))
    go false w =
        let (m, e) = one (portion c at.part []) (rest c (Rattle.model.specs.Parts.part_after c at.part []) []) (st.within o) in
        (m, back m (ap (λ s. slice_get (singles s) at.made) (rest-write c at.part [] w o) ∙ e))

-- the last entry of a script has the last marks of its last portion
pub last_marks_of : (front : Script) (q : Portion) (k : ℕ) → 0 < length q.accesses → k + 1 ≡ length (singles (front ++ q ∷ [])) →
    marks_at k (front ++ q ∷ []) ≡ marks_on q.first q.last (length q.accesses) (length q.accesses - 1)
last_marks_of front q k pos e =
    ap {A = Option Next} (λ o. elim o as (λ _. List Mark) [ None ↦ [] | Some n ↦ n.marks ]) (here ∙ found.1)
    ∙ single-marks q.first q.last q.accesses (length q.accesses - 1) found.0 found.1
  where
    mine : List Next
    mine = single q.first q.last q.accesses

    found : (n : Next) × (slice_get mine (length q.accesses - 1) ≡ Some n)
    found = get_some mine (length q.accesses - 1) (omega (arith, length-single q.first q.last q.accesses))

    split : singles (front ++ q ∷ []) ≡ singles front ++ mine
    split = flat_map-append (λ (q : Portion). single q.first q.last q.accesses) front (q ∷ []) ∙ ap (λ l. singles front ++ l) (append-nil mine)

    where_is : length (singles front) + (length q.accesses - 1) ≡ k
    where_is = omega (arith, e, ap length split, length-append (singles front) mine, length-single q.first q.last q.accesses)

    here : slice_get (singles (front ++ q ∷ [])) k ≡ slice_get mine (length q.accesses - 1)
    here = ap (λ l. slice_get l k) split ∙ ap (λ i. slice_get (singles front ++ mine) i) (sym where_is) ∙ get-append (singles front) mine (length q.accesses - 1)

pub at_end : (f l : List Mark) (n : ℕ) (x y : Stage) → 0 < n → f ≡ [] → fold stage_after x l ≡ y → fold stage_after x (marks_on f l n (n - 1)) ≡ y
at_end f l n x y pos e h = rw (e, eq-eqb (n - 1 + 1) n (omega arith)) (go (n - 1 == 0))
  where
    go : (b : Bool) → fold stage_after x (cond {A = List Mark} b [] [] ++ l) ≡ y
    go true = h
    go false = h

pub withdrawn-ends : (c : Rattle.model.specs.Scripts.Call) → IsGood c.setup → (k : ℕ) → k + 1 ≡ length (singles (withdrawn c)) → fold stage_after Leaving (marks_at k (withdrawn c)) ≡ Idle
withdrawn-ends c g k e =
    ap (fold stage_after Leaving) (last_marks_of [] q k pos e) ∙ at_end [] (Answered Withdrawn ∷ []) (length q.accesses) Leaving Idle pos refl refl
  where
    q : Portion
    q = writing c Ticket (bits_of_number c.setup.ticket_bits 0) [] (Answered Withdrawn ∷ [])

    pos : 0 < length q.accesses
    pos = written-pos c.setup g c.process Ticket (bits_of_number c.setup.ticket_bits 0) (bits_of_number-pos c.setup.ticket_bits 0 (width-pos c.setup g Ticket))

pub unit-ends : (c : Rattle.model.specs.Scripts.Call) → IsGood c.setup → (past : Past) (v : Bool) (k : ℕ) → k + 1 ≡ length (singles (unit_program c past v)) →
    fold stage_after Settling (marks_at k (unit_program c past v)) ≡ Down
unit-ends c g past v k e = subst P assoc go e
  where
    q : Portion
    q = writing c Choosing (false ∷ []) [] (Down ∷ [])

    t : Portion
    t = writing c Ticket (bits_of_number c.setup.ticket_bits 0) (cond (inside c.process past) (Left ∷ []) []) []

    pos : 0 < length q.accesses
    pos = written-pos c.setup g c.process Choosing (false ∷ []) (omega arith)

    first : Script
    first = settle c past v (unfinished c.setup.processes (last_write past))

    assoc : (first ++ t ∷ []) ++ q ∷ [] ≡ unit_program c past v
    assoc = Rattle.std.proofs.Common.append_assoc first (t ∷ []) (q ∷ [])

    P : Script → Type 0
    P s = k + 1 ≡ length (singles s) → fold stage_after Settling (marks_at k s) ≡ Down

    go : P ((first ++ t ∷ []) ++ q ∷ [])
    go e = ap (fold stage_after Settling) (last_marks_of (first ++ t ∷ []) q k pos e) ∙ at_end [] (Down ∷ []) (length q.accesses) Settling Down pos refl refl
