-- The closing machine goes through the scripts.
use Rattle.std.proofs.Common.{◌≡◌, ℕ, zero, suc, ◌+◌, ◌-◌, ◌<◌, ◌&&◌, not, Bool, true, false, cond, List, [], ◌∷◌, ◌++◌, Option, Some, None, drop, length, map, refl, sym, ap, subst, ◌∙◌, arith, append-nil}
use Rattle.std.specs.Prelude.{slice_get, fold}
use Rattle.reader_copies.specs.{Made}
use Rattle.reader_copies.specs.Runs as copies
use Rattle.model.specs.{Access, Call, Field, Mark, Next, Past, Script, access_of, first_flick, inside, is_called, is_commit, last_read, last_write, next_written, nth, read_so_far, reply, settle, since, single, singles, stage_after, store_read, unfinished, unit_program, value_begun, withdrawn, write_moved}
use Rattle.model.specs.declared.access.Field.TheVariants.{Choosing, Ticket}
use Rattle.safe_number.specs.{NumberWrite, at_bit, new_write}
use Rattle.plain_store.specs.declared.Answer.TheVariants as answer
use Rattle.plain_store.specs.{Reply}
use Rattle.model.specs.declared.marks.Mark.TheVariants.{Taken, Left, Answered, Settled, Down}
use Rattle.model.specs.declared.stages.Stage.TheVariants as stage
use Rattle.model.specs.Closings.{Closing, Withdraws, Settles, Frees, Lowers, Quit, Ended, no_ticket, is_last_written, is_unwritten, is_last_settled, settled_marks, withdrawing, freeing, settling_from, failing, closing_next, closing_after, closing_stage, closing_of}
use Rattle.model.proofs.Cursors.{drop-more, get-drop, Goes, left_written, remaining-new}
use Rattle.model.proofs.Width.{IsGood}
use Rattle.model.proofs.Closing.{Fit, Further, Settled-on, Steps, clearing_too, freeing-new, further, remaining, lowering, lowering-new, settle-step, settles-on, ticket_width, write-step}

abbrev pub goes_on : Closing → Bool
goes_on Quit = false
goes_on Ended = false
goes_on _ = true

withdraws-step : (c : Call) → IsGood c.setup → (w : NumberWrite) (v flick : Bool) → Goes c.setup.processes (no_ticket c) w → Steps c (Withdraws w) v flick
withdraws-step c g w v flick on = (next, refl, write-step n bits w f [] last (omega (arith, g.processes_is)) on ∙ ap (λ l. next ∷ l) (go (is_last_written c bits w) more.none), fit (is_last_written c bits w) more.goes)
  where
    n : ℕ
    n = c.setup.processes

    bits : List Bool
    bits = no_ticket c

    f : ℕ × Made → Access
    f = access_of c.process Ticket

    last : List Mark
    last = Answered answer.Withdrawn ∷ []

    to : NumberWrite
    to = write_moved n bits w

    next : Next
    next = record { access = f (next_written bits w); marks = cond (is_last_written c bits w) last [] }

    more : Further n bits w
    more = further n bits w (omega (arith, g.processes_is)) on

    go : (b : Bool) → (b ≡ true → left_written n bits to ≡ []) → single [] last (map f (left_written n bits to)) ≡ remaining c (cond b Quit (Withdraws to)) v
    go true none = ap (λ l. single [] last (map f l)) (none refl)
    go false none = refl

    fit : (b : Bool) → (b ≡ false → Goes n bits to) → (m : Bool) → Fit c (cond b Quit (Withdraws to)) v m
    fit true goes m = tt
    fit false goes m = goes refl

lowers-step : (c : Call) → IsGood c.setup → (w : NumberWrite) (v flick : Bool) → Goes c.setup.processes (false ∷ []) w → Steps c (Lowers w) v flick
lowers-step c g w v flick on = (next, refl, write-step n bits w f [] last (omega (arith, g.processes_is)) on ∙ ap (λ l. next ∷ l) (go (is_last_written c bits w) more.none), fit (is_last_written c bits w) more.goes)
  where
    n : ℕ
    n = c.setup.processes

    bits : List Bool
    bits = false ∷ []

    f : ℕ × Made → Access
    f = access_of c.process Choosing

    last : List Mark
    last = Down ∷ []

    to : NumberWrite
    to = write_moved n bits w

    next : Next
    next = record { access = f (next_written bits w); marks = cond (is_last_written c bits w) last [] }

    more : Further n bits w
    more = further n bits w (omega (arith, g.processes_is)) on

    go : (b : Bool) → (b ≡ true → left_written n bits to ≡ []) → single [] last (map f (left_written n bits to)) ≡ remaining c (cond b Ended (Lowers to)) v
    go true none = ap (λ l. single [] last (map f l)) (none refl)
    go false none = refl

    fit : (b : Bool) → (b ≡ false → Goes n bits to) → (m : Bool) → Fit c (cond b Ended (Lowers to)) v m
    fit true goes m = tt
    fit false goes m = goes refl

-- a new write goes on
pub new-goes : (n : ℕ) (bits : List Bool) (w : ℕ) → 0 < n → 0 < w → w ≡ length bits → Goes n bits (new_write w)
new-goes n bits w some wide same = record { width = same; inside = wide; going = omega (arith, some) }

frees-step : (c : Call) → IsGood c.setup → (is : Bool) (w : NumberWrite) (v flick : Bool) → Goes c.setup.processes (no_ticket c) w → Steps c (Frees is w) v flick
frees-step c g is w v flick on = (
  next,
  refl,
  ap (λ l. l ++ singles (lowering c)) (write-step n bits w f first [] (omega (arith, g.processes_is)) on)
      ∙ ap (λ m. (let x : Next = record { access = f (next_written bits w); marks = m } in x) ∷ single [] [] (map f (left_written n bits to)) ++ singles (lowering c)) (bare first (is_last_written c bits w))
      ∙ ap (λ l. next ∷ l) (go (is_last_written c bits w) more.none),
  fit (is_last_written c bits w) more.goes,
)
  where
    n : ℕ
    n = c.setup.processes

    bits : List Bool
    bits = no_ticket c

    f : ℕ × Made → Access
    f = access_of c.process Ticket

    first : List Mark
    first = cond (is && is_unwritten w) (Left ∷ []) []

    to : NumberWrite
    to = write_moved n bits w

    next : Next
    next = record { access = f (next_written bits w); marks = first }

    more : Further n bits w
    more = further n bits w (omega (arith, g.processes_is)) on

    bare : (marks : List Mark) (b : Bool) → marks ++ cond b [] [] ≡ marks
    bare marks true = append-nil marks
    bare marks false = append-nil marks

    unmarked : cond (is && is_unwritten to) (Left ∷ []) [] ≡ []
    unmarked = ap (λ b. cond (is && b) (Left ∷ []) []) more.begun ∙ neither is
      where
        neither : (b : Bool) → cond {A = List Mark} (b && false) (Left ∷ []) [] ≡ []
        neither true = refl
        neither false = refl

    go : (b : Bool) → (b ≡ true → left_written n bits to ≡ []) → single [] [] (map f (left_written n bits to)) ++ singles (lowering c) ≡ remaining c (cond b (Lowers (new_write 1)) (Frees is to)) v
    go true none = ap (λ l. single [] [] (map f l) ++ singles (lowering c)) (none refl) ∙ lowering-new c v
    go false none = ap (λ m. single m [] (map f (left_written n bits to)) ++ singles (lowering c)) (sym unmarked)

    fit : (b : Bool) → (b ≡ false → Goes n bits to) → (m : Bool) → Fit c (cond b (Lowers (new_write 1)) (Frees is to)) v m
    fit true goes m = new-goes n (false ∷ []) 1 (omega (arith, g.processes_is)) (omega arith) refl
    fit false goes m = goes refl

settles-step : (c : Call) → IsGood c.setup → (field : Field) (bit : ℕ) (begun : Bool) (taken : Option Reply) (is : Bool) (t : copies.Settling) (v flick : Bool) → t.reader < c.setup.processes → copies.settled_at t flick ≡ v →
    Steps c (Settles field bit begun taken is t) v flick
settles-step c g field bit begun taken is t v flick within e = subst (λ u. Steps c (Settles field bit begun taken is t) u flick) e
    (next, refl, ap (λ l. l ++ singles (clearing_too c is)) (settle-step n t u f bit last within) ∙ ap (λ l. next ∷ l) (go (is_last_settled c t u) on.none), fit (is_last_settled c t u) on.inside)
  where
    n : ℕ
    n = c.setup.processes

    u : Bool
    u = copies.settled_at t flick

    f : ℕ × Made → Access
    f = access_of c.process field

    last : List Mark
    last = settled_marks begun taken u

    to : copies.Settling
    to = copies.settle_after t u

    next : Next
    next = record { access = f (bit, copies.next_settle t u); marks = cond (is_last_settled c t u) last [] }

    on : Settled-on n t u
    on = settles-on n t u within

    go : (b : Bool) → (b ≡ true → copies.rest_of_settling n to u ≡ []) →
        single [] last (map f (map (at_bit bit) (copies.rest_of_settling n to u))) ++ singles (clearing_too c is) ≡ remaining c (cond b (freeing c is) (Settles field bit begun taken is to)) u
    go true none = ap (λ l. single [] last (map f (map (at_bit bit) l)) ++ singles (clearing_too c is)) (none refl) ∙ freeing-new c is u
    go false none = refl

    fit : (b : Bool) → (b ≡ false → to.reader < n) → (m : Bool) → Fit c (cond b (freeing c is) (Settles field bit begun taken is to)) u m
    fit true more m = new-goes n (no_ticket c) c.setup.ticket_bits (omega (arith, g.processes_is)) (omega (arith, g.ticket_is)) (ticket_width c)
    fit false more m = (more refl, on.value m)

step : (c : Call) → IsGood c.setup → (at : Closing) (v flick : Bool) → goes_on at ≡ true → Fit c at v flick → Steps c at v flick
step c g (Withdraws w) v flick on fit = withdraws-step c g w v flick fit
step c g (Settles field bit begun taken is t) v flick on fit = settles-step c g field bit begun taken is t v flick fit.0 fit.1
step c g (Frees is w) v flick on fit = frees-step c g is w v flick fit
step c g (Lowers w) v flick on fit = lowers-step c g w v flick fit
step c g Quit v flick on fit = cc
step c g Ended v flick on fit = cc

-- once it is over, it stays so
pub over-next : (c : Call) (at : Closing) (flick : Bool) → goes_on at ≡ false → closing_next c at flick ≡ None
over-next c Quit flick o = refl
over-next c Ended flick o = refl
over-next c _ flick o = cc

over-after : (c : Call) (at : Closing) (flick : Bool) → goes_on at ≡ false → closing_after c at flick ≡ at
over-after c Quit flick o = refl
over-after c Ended flick o = refl
over-after c _ flick o = cc

over-remaining : (c : Call) (at : Closing) (v : Bool) → goes_on at ≡ false → remaining c at v ≡ []
over-remaining c Quit v o = refl
over-remaining c Ended v o = refl
over-remaining c _ v o = cc

over-fit : (c : Call) (at : Closing) (v flick : Bool) → goes_on at ≡ false → Fit c at v flick
over-fit c Quit v flick o = tt
over-fit c Ended v flick o = tt
over-fit c _ v flick o = cc

get-past : {X : Type 0} (xs : List X) (k : ℕ) → drop k xs ≡ [] → slice_get xs k ≡ None
get-past [] zero h = refl
get-past [] (suc k) h = refl
get-past (x ∷ xs) zero h = cc
get-past (x ∷ xs) (suc k) h = get-past xs k h

drop-none : {X : Type 0} (xs : List X) (k : ℕ) → drop k xs ≡ [] → drop (suc k) xs ≡ []
drop-none [] zero h = refl
drop-none [] (suc k) h = refl
drop-none (x ∷ xs) zero h = cc
drop-none (x ∷ xs) (suc k) h = drop-none xs k h

-- the first flick does not change once a flick was drawn
pub first-more : (f : Bool) (flicks : List Bool) (flick : Bool) → first_flick (f ∷ flicks) flick ≡ first_flick flicks f
first-more f [] flick = refl
first-more f (g ∷ []) flick = refl
first-more f (g ∷ h ∷ flicks) flick = first-more g (h ∷ flicks) flick ∙ sym (first-more g (h ∷ flicks) f)

-- a script, one for each value that may be settled at, and the machine that starts with it
pub record Starts (c : Call) (script : Bool → Script) (start : Closing) : Type 0 where
  pub all : (v : Bool) → singles (script v) ≡ remaining c start v
  pub fit : (v : Bool) → Fit c start v v

-- after any flicks the machine has left what the script has
pub record Stays (c : Call) (script : Bool → Script) (start : Closing) (flicks : List Bool) (flick : Bool) : Type 0 where
  pub remaining_is : drop (length flicks) (singles (script (first_flick flicks flick))) ≡ remaining c (closing_of c start flicks) (first_flick flicks flick)
  pub fit : Fit c (closing_of c start flicks) (first_flick flicks flick) flick

stays-more : (c : Call) → IsGood c.setup → (script : Bool → Script) (start : Closing) (f : Bool) (flicks : List Bool) (flick : Bool) → Stays c script start flicks f → Stays c script start (f ∷ flicks) flick
stays-more c g script start f flicks flick before = go (goes_on at) refl
  where
    at : Closing
    at = closing_of c start flicks

    v : Bool
    v = first_flick flicks f

    value : first_flick (f ∷ flicks) flick ≡ v
    value = first-more f flicks flick

    with_value : drop (suc (length flicks)) (singles (script v)) ≡ remaining c (closing_after c at f) v → Fit c (closing_after c at f) v flick → Stays c script start (f ∷ flicks) flick
    with_value l k = record {
      remaining_is = subst (λ u. drop (suc (length flicks)) (singles (script u)) ≡ remaining c (closing_after c at f) u) (sym value) l;
      fit = subst (λ u. Fit c (closing_after c at f) u flick) (sym value) k;
    }

    go : (b : Bool) → goes_on at ≡ b → Stays c script start (f ∷ flicks) flick
    go true o =
        let st = step c g at v f o before.fit in
        let one : suc (length flicks) ≡ length flicks + 1 = omega arith in
        with_value (ap (λ k. drop k (singles (script v))) one ∙ drop-more (singles (script v)) (remaining c (closing_after c at f) v) (length flicks) st.0 (before.remaining_is ∙ st.2)) (st.3 flick)
    go false o = with_value
        (drop-none (singles (script v)) (length flicks) (before.remaining_is ∙ over-remaining c at v o) ∙ sym (over-remaining c at v o) ∙ ap (λ x. remaining c x v) (sym (over-after c at f o)))
        (subst (λ x. Fit c x v flick) (sym (over-after c at f o)) (over-fit c at v flick o))

stays : (c : Call) → IsGood c.setup → (script : Bool → Script) (start : Closing) → Starts c script start → (flicks : List Bool) (flick : Bool) → Stays c script start flicks flick
stays c g script start s [] flick = record { remaining_is = s.all flick; fit = s.fit flick }
stays c g script start s (f ∷ flicks) flick = stays-more c g script start f flicks flick (stays c g script start s flicks f)

-- so the next access of the closing machine is the script's
pub closing-reports : (c : Call) → IsGood c.setup → (script : Bool → Script) (start : Closing) → Starts c script start → (flicks : List Bool) (flick : Bool) →
    nth (length flicks) (script (first_flick flicks flick)) ≡ closing_next c (closing_of c start flicks) flick
closing-reports c g script start s flicks flick = go (goes_on at) refl
  where
    at : Closing
    at = closing_of c start flicks

    v : Bool
    v = first_flick flicks flick

    here : Stays c script start flicks flick
    here = stays c g script start s flicks flick

    go : (b : Bool) → goes_on at ≡ b → slice_get (singles (script v)) (length flicks) ≡ closing_next c at flick
    go true o =
        let st = step c g at v flick o here.fit in
        get-drop (singles (script v)) (remaining c (closing_after c at flick) v) (length flicks) st.0 (here.remaining_is ∙ st.2) ∙ sym st.1
    go false o = get-past (singles (script v)) (length flicks) (here.remaining_is ∙ over-remaining c at v o) ∙ sym (over-next c at flick o)

-- the withdrawal's
pub withdrawal-starts : (c : Call) → IsGood c.setup → Starts c (λ v. withdrawn c) (withdrawing c)
withdrawal-starts c g = record {
  all = λ v. append-nil _ ∙ ap (λ l. single [] (Answered answer.Withdrawn ∷ []) (map (access_of c.process Ticket) l)) (sym (remaining-new c.setup.processes (no_ticket c) c.setup.ticket_bits (ticket_width c)));
  fit = λ v. new-goes c.setup.processes (no_ticket c) c.setup.ticket_bits (omega (arith, g.processes_is)) (omega (arith, g.ticket_is)) (ticket_width c);
}

pub withdrawal-stays : (c : Call) → IsGood c.setup → (flicks : List Bool) (flick : Bool) → Stays c (λ v. withdrawn c) (withdrawing c) flicks flick
withdrawal-stays c g = stays c g (λ v. withdrawn c) (withdrawing c) (withdrawal-starts c g)

pub withdrawal-reports : (c : Call) → IsGood c.setup → (flicks : List Bool) (flick : Bool) → nth (length flicks) (withdrawn c) ≡ closing_next c (closing_of c (withdrawing c) flicks) flick
withdrawal-reports c g = closing-reports c g (λ v. withdrawn c) (withdrawing c) (withdrawal-starts c g)

-- the marks of a settling, of a commit bit or of another
commit-marks : (b begun v : Bool) (r : Reply) → Settled v ∷ cond (b && cond v begun (not begun)) (Taken 0 r ∷ []) [] ≡ settled_marks begun (cond b (Some r) None) v
commit-marks true begun v r = refl
commit-marks false begun v r = refl

-- the unit's
pub unit-starts : (c : Call) → IsGood c.setup → (past : Past) → Starts c (unit_program c past) (failing c past)
unit-starts c g past = starts (unfinished c.setup.processes (last_write past))
  where
    starts : (torn : Option Access) → Starts c (λ v. settle c past v torn ++ clearing_too c (inside c.process past)) (settling_from c past torn)
    starts None = record {
      all = λ v. freeing-new c (inside c.process past) v;
      fit = λ v. new-goes c.setup.processes (no_ticket c) c.setup.ticket_bits (omega (arith, g.processes_is)) (omega (arith, g.ticket_is)) (ticket_width c);
    }
    starts (Some a) = record {
      all = λ v. ap (all-with a v (Rattle.model.specs.Unit.settling c past v a).last) (whole c.setup.processes)
          ∙ ap (λ marks. all-with a v marks (c.setup.processes - 0)) (commit-marks (is_commit a.field) (value_begun past) v (reply c (store_read c (last_read (read_so_far c.setup (since is_called past)).finished))));
      fit = λ v. (omega (arith, g.processes_is), refl);
    }
      where
        whole : (n : ℕ) → n ≡ n - 0
        whole n = omega arith

        all-with : Access → Bool → List Mark → ℕ → List Next
        all-with a v last k = single [] last (map (access_of c.process a.field) (map (at_bit a.bit) (copies.settles_from (Rattle.model.specs.Unit.made_with a) 0 k v))) ++ singles (clearing_too c (inside c.process past))

pub unit-stays : (c : Call) → IsGood c.setup → (past : Past) (flicks : List Bool) (flick : Bool) → Stays c (unit_program c past) (failing c past) flicks flick
unit-stays c g past = stays c g (unit_program c past) (failing c past) (unit-starts c g past)

pub unit-reports : (c : Call) → IsGood c.setup → (past : Past) (flicks : List Bool) (flick : Bool) →
    nth (length flicks) (unit_program c past (first_flick flicks flick)) ≡ closing_next c (closing_of c (failing c past) flicks) flick
unit-reports c g past = closing-reports c g (unit_program c past) (failing c past) (unit-starts c g past)

-- the marks lead to the stages
pub closing-stages : (c : Call) (at : Closing) (flick : Bool) (n : Next) → closing_next c at flick ≡ Some n → fold stage_after (closing_stage at) n.marks ≡ closing_stage (closing_after c at flick)
closing-stages c (Withdraws w) flick n h = ap (λ (o : Option Next). fold stage_after stage.Leaving (marks o)) (sym h) ∙ go (is_last_written c (no_ticket c) w)
  where
    marks : Option Next → List Mark
    marks None = []
    marks (Some n) = n.marks

    go : (b : Bool) → fold stage_after stage.Leaving (cond b (Answered answer.Withdrawn ∷ []) []) ≡ closing_stage (cond b Quit (Withdraws (write_moved c.setup.processes (no_ticket c) w)))
    go true = refl
    go false = refl
closing-stages c (Settles field bit begun taken is t) flick n h = ap (λ (o : Option Next). fold stage_after stage.Settling (marks o)) (sym h)
    ∙ go taken (is_last_settled c t (copies.settled_at t flick)) (cond (copies.settled_at t flick) begun (not begun))
  where
    marks : Option Next → List Mark
    marks None = []
    marks (Some n) = n.marks

    go : (taken : Option Reply) (b d : Bool) → fold stage_after stage.Settling (cond b (Settled (copies.settled_at t flick) ∷ elim taken as (λ _. List Mark) [ None ↦ [] | Some r ↦ cond d (Taken 0 r ∷ []) [] ]) [])
        ≡ closing_stage (cond b (freeing c is) (Settles field bit begun taken is (copies.settle_after t (copies.settled_at t flick))))
    go None true d = refl
    go (Some r) true true = refl
    go (Some r) true false = refl
    go taken false d = refl
closing-stages c (Frees is w) flick n h = ap (λ (o : Option Next). fold stage_after stage.Settling (marks o)) (sym h) ∙ go (is && is_unwritten w) (is_last_written c (no_ticket c) w)
  where
    marks : Option Next → List Mark
    marks None = []
    marks (Some n) = n.marks

    go : (b d : Bool) → fold stage_after stage.Settling (cond b (Left ∷ []) []) ≡ closing_stage (cond d (Lowers (new_write 1)) (Frees is (write_moved c.setup.processes (no_ticket c) w)))
    go true true = refl
    go true false = refl
    go false true = refl
    go false false = refl
closing-stages c (Lowers w) flick n h = ap (λ (o : Option Next). fold stage_after stage.Settling (marks o)) (sym h) ∙ go (is_last_written c (false ∷ []) w)
  where
    marks : Option Next → List Mark
    marks None = []
    marks (Some n) = n.marks

    go : (b : Bool) → fold stage_after stage.Settling (cond b (Down ∷ []) []) ≡ closing_stage (cond b Ended (Lowers (write_moved c.setup.processes (false ∷ []) w)))
    go true = refl
    go false = refl
closing-stages c Quit flick n h = cc
closing-stages c Ended flick n h = cc
