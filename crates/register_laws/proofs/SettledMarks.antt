-- The mark of a settled bit is on the last access of its settling, and on no other entry.
use Rattle.std.proofs.Common.{◌≡◌, ℕ, zero, suc, ◌&&◌, ◌||◌, Bool, true, false, not, cond, List, [], ◌∷◌, ◌++◌, length, map, Option, None, Some, refl, sym, ap, ◌∙◌, subst, arith, eq-eqb, eqb-true}
use Rattle.std.specs.Prelude.{if◌then◌else◌}
use Rattle.std.specs.List.{Contains, list_any}
use Rattle.std.proofs.lemmas.List.Folds.{list_any-append}
use Rattle.reader_copies.specs.{settle_after, settled_at}
use Rattle.model.specs.plain_store.{Command, Reply, Setup, changes}
use Rattle.model.specs.plain_store.declared.Answer.TheVariants as answer
use Rattle.model.specs.{Access, Call, Closing, Ended, Entry, Event, Frees, Mark, Next, Part, Past, Quit, Settles, Wait, Withdraws, bits_with, closing_next, entered_if_none, entry_of, first_marks, history, is_fresh, is_last, is_last_settled, is_last_written, is_unwritten, last_marks, lets_by, marks_of, no_ticket, past_of, placed, reply, settled_marks, store_read, value_of, value_written}
use Rattle.model.specs.Closings.{Lowers}
use Rattle.model.specs.Parts as part
use Rattle.model.specs.declared.marks.Mark.TheVariants.{Answered, Called, Down, Failed, Left, Restarted, Settled, Taken, Withdrew}
use Rattle.model.proofs.Width.{IsGood}
use Rattle.laws.specs.{Closes, Doing, call, doing}
use Rattle.laws.proofs.Frame.{Happens, a_call, a_closing, a_failure, a_restart, a_step, a_withdrawal}
use Rattle.laws.proofs.FrameEvents.{accepted}
use Rattle.registers.specs.{RegisterName}
use Rattle.register_laws.specs.NumbersHeld.{InSettling, Quiet, progress_at, progress_in}
use Rattle.register_laws.specs.RegisterLaws.{EndsSettling}
use Rattle.register_laws.proofs.InterruptedWrites.{chosen}
use Rattle.register_laws.proofs.NumbersAlways.{access-is}

-- MARKS THAT SETTLE NO BIT

abbrev is_settled : Mark → Bool
is_settled (Settled v) = true
is_settled _ = false

none-in : (ms : List Mark) → list_any is_settled ms ≡ false → (v : Bool) → Contains ms (Settled v) → ⊥
none-in [] h v (k, l, e) = omega (arith, l)
none-in (m ∷ ms) h v (zero, l, e) = let x : true ≡ false = sym (ap (λ y. is_settled y || list_any is_settled ms) e) ∙ h in cc
none-in (m ∷ ms) h v (suc k, l, e) = none-in ms (rest (is_settled m) (list_any is_settled ms) h) v (k, omega (arith, l), e)
  where
    rest : (a b : Bool) → (a || b) ≡ false → b ≡ false
    rest true b h = absurd (let x : true ≡ false = h in cc)
    rest false b h = h

-- the place of a taken command makes no difference
settled-placed : (k : ℕ) (m : Mark) → is_settled (placed k m) ≡ is_settled m
settled-placed k (Taken i r) = refl
settled-placed k _ = refl

any-placed : (k : ℕ) (ms : List Mark) → list_any is_settled (map (placed k) ms) ≡ list_any is_settled ms
any-placed k [] = refl
any-placed k (m ∷ ms) = λ j. settled-placed k m j || any-placed k ms j

one : (b : Bool) (m : Mark) → is_settled m ≡ false → list_any is_settled (cond b (m ∷ []) []) ≡ false
one true m h = ap (λ t. t || false) h
one false m h = refl

first-last : (first last : List Mark) (a b : Bool) → list_any is_settled first ≡ false → list_any is_settled last ≡ false → list_any is_settled (cond a first [] ++ cond b last []) ≡ false
first-last first last a b h k = list_any-append is_settled (cond a first []) (cond b last []) ∙ go a b
  where
    go : (a b : Bool) → (list_any is_settled (cond a first []) || list_any is_settled (cond b last [])) ≡ false
    go true true = λ i. h i || k i
    go true false = ap (λ b. b || false) h
    go false true = k
    go false false = refl

entered : (ws : List Wait) → list_any is_settled (entered_if_none ws) ≡ false
entered [] = refl
entered (w ∷ ws) = refl

enters-if : (b : Bool) (ws : List Wait) → list_any is_settled (cond b (entered_if_none ws) []) ≡ false
enters-if true ws = entered ws
enters-if false ws = refl

takes-if : (b : Bool) (r : Reply) → list_any is_settled (cond b [] (Taken 0 r ∷ [])) ≡ false
takes-if true r = refl
takes-if false r = refl

-- a step of a call settles no bit
part-marks : (c : Call) (x : Part) (v : List Bool) (a b : Bool) → list_any is_settled (cond a (first_marks x) [] ++ cond b (last_marks c x v) []) ≡ false
part-marks c (part.Lowers t) v a b = first-last [] _ a b refl (entered _)
part-marks c (part.Waits t w ws) v a b = first-last [] _ a b refl (enters-if (lets_by c t w v) ws)
part-marks c (part.AsksImage vs) v a b = first-last [] _ a b refl (takes-if (changes (store_read c v) c.command) (reply c (store_read c v)))
part-marks c (part.Refuses f) v a b = first-last [] _ a b refl refl
part-marks c (part.WritesCommit vs st) v a b = first-last [] _ a b refl refl
part-marks c (part.Clears r) v a b = first-last (Left ∷ []) (Answered r ∷ []) a b refl refl
part-marks c _ v a b = first-last [] [] a b refl refl

-- THE MARKS OF A SETTLING

taken-marks : (taken : Option Reply) (begun v : Bool) → list_any is_settled (elim taken as (λ _. List Mark) [ None ↦ [] | Some r ↦ cond (if v then begun else not begun) (Taken 0 r ∷ []) [] ]) ≡ false
taken-marks None begun v = refl
taken-marks (Some r) begun v = one (if v then begun else not begun) (Taken 0 r) refl

same-settled : {u v : Bool} → Settled u ≡ Settled v → v ≡ u
same-settled h = cc

settling-marks : (k : ℕ) (last begun u v : Bool) (taken : Option Reply) → Contains (map (placed k) (cond last (settled_marks begun taken u) [])) (Settled v) → (last ≡ true) × (v ≡ u)
settling-marks k false begun u v taken (i, l, e) = absurd (omega (arith, l))
settling-marks k true begun u v taken (zero, l, e) = (refl, same-settled e)
settling-marks k true begun u v taken (suc i, l, e) =
    let rest : List Mark = elim taken as (λ _. List Mark) [ None ↦ [] | Some r ↦ cond (if u then begun else not begun) (Taken 0 r ∷ []) [] ] in
    absurd (none-in (map (placed k) rest) (any-placed k rest ∙ taken-marks taken begun u) v (i, omega (arith, l), e))

-- AN ENTRY WITH THE MARK

abbrev Ends : Setup → Past → Entry → Bool → Type 0
Ends s past e v = (r : RegisterName) × (bit : ℕ) × EndsSettling s past e r bit v

marks-are : {x y : Next} → Some x ≡ Some y → x.marks ≡ y.marks
marks-are {x} {y} h = let same : x ≡ y = cc in ap (λ (n : Next). n.marks) same

module _ (s : Setup) (g : IsGood s) (events : List Event) (what : Event) (e : Entry) (accepts : entry_of s (past_of s events) what ≡ Some e) (v : Bool) (marked : Contains e.marks (Settled v)) where
  abbrev past : Past
  past = past_of s events

  unmarked : (ms : List Mark) → e.marks ≡ ms → list_any is_settled ms ≡ false → ⊥
  unmarked ms is none = none-in ms none v (subst (λ x. Contains x (Settled v)) is marked)

  closes : (command : Command) (number : ℕ) (at : Closing) (flick : Bool) (n : Next) → doing s e.process past ≡ Closes command number at → closing_next (call s e.process command number) at flick ≡ Some n → e.access ≡ Some n.access → e.marks ≡ map (placed (length (history s past))) n.marks →
      Ends s past e v
  closes command number at flick n does next acc marks = by at does next
    where
      c : Call
      c = call s e.process command number

      k : ℕ
      k = length (history s past)

      never : (ms : List Mark) → n.marks ≡ ms → list_any is_settled ms ≡ false → Ends s past e v
      never ms is none = absurd (unmarked (map (placed k) ms) (marks ∙ ap (map (placed k)) is) (any-placed k ms ∙ none))

      by : (at : Closing) → doing s e.process past ≡ Closes command number at → closing_next c at flick ≡ Some n → Ends s past e v
      by (Withdraws w) does next = never _ (sym (marks-are next)) (one (is_last_written c (no_ticket c) w) (Answered answer.Withdrawn) refl)
      by (Frees inside w) does next = never _ (sym (marks-are next)) (one (inside && is_unwritten w) Left refl)
      by (Lowers w) does next = never _ (sym (marks-are next)) (one (is_last_written c (false ∷ []) w) Down refl)
      by (Settles field bit begun taken inside t) does next =
          let u : Bool = settled_at t flick in
          let its : RegisterName = record { owner = e.process; field = field } in
          let ends = settling-marks k (is_last_settled c t u) begun u v taken (subst (λ x. Contains x (Settled v)) (marks ∙ ap (map (placed k)) (sym (marks-are next))) marked) in
          let progress : progress_at s past its ≡ InSettling bit t = ap (progress_in s e.process field) does ∙ ap (λ b. cond b (InSettling bit t) Quiet) (eq-eqb _ _ refl) in
          let value : settled_at t (value_written e) ≡ u = chosen s g events what e accepts field field bit t flick n.access progress acc (ap (λ (y : Access). y.how) (sym (access-is next))) in
          let all : (settle_after t u).reader ≡ s.processes = eqb-true (settle_after t u).reader s.processes ends.0 in
          (its, bit, record { settling = t; owner = refl; progress = progress; value = ends.1 ∙ sym value; last = ap (λ x. (settle_after t x).reader) ends.1 ∙ all })
      by Quit does next = absurd (cc)
      by Ended does next = absurd (cc)

  entry-ends : (d after : Doing) → Happens s past e.process e d after → doing s e.process past ≡ d → Ends s past e v
  entry-ends d after (a_call command number was none marks goes) does = absurd (unmarked (Called command ∷ []) marks refl)
  entry-ends d after (a_withdrawal command number t w ws run was none marks goes) does = absurd (unmarked (Withdrew ∷ []) marks refl)
  entry-ends d after (a_failure command number may none marks goes) does = absurd (unmarked (Failed ∷ []) marks refl)
  entry-ends d after (a_restart was none marks goes) does = absurd (unmarked (Restarted ∷ []) marks refl)
  entry-ends d after (a_step command number at a flick was over acc is marks goes) does =
      let c : Call = call s e.process command number in
      absurd (unmarked _ marks (any-placed (length (history s past)) (marks_of c at (value_of a.how)) ∙ part-marks c at.part (bits_with at.run (value_of a.how)) (is_fresh at.run) (is_last c at.part at.run)))
  entry-ends d after (a_closing command number at flick n was next acc same marks goes) does = closes command number at flick n (does ∙ was) next acc marks

pub settled-ends : (s : Setup) → IsGood s → (events : List Event) (what : Event) (e : Entry) → entry_of s (past_of s events) what ≡ Some e → (v : Bool) → Contains e.marks (Settled v) → Ends s (past_of s events) e v
settled-ends s g events what e accepts v marked =
    entry-ends s g events what e accepts v marked (doing s e.process (past_of s events)) (doing s e.process (e ∷ past_of s events)) (accepted s g events what e accepts).happens refl
