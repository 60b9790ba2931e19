-- Within a register access begins and ends alternate, and are of one kind. A fact about each begin with its end, and each end with a begin of that kind, holds of an access and the next one.
use Rattle.std.proofs.Common.{◌≡◌, ℕ, ◌+◌, ◌*◌, ◌%◌, ◌<◌, ◌==◌, Bool, true, false, if◌then◌else◌, List, ◌∷◌, None, Some, refl, ap, sym, subst, ◌∙◌, arith, eq-eqb, ne_eqb}
use Rattle.std.proofs.lemmas.Bool.{eqb-false, eqb-true}
use Rattle.plain_store.specs.{Setup}
use Rattle.model.specs.reader_copies.Runs as copies
use Rattle.model.specs.safe_bit.{Move}
use Rattle.model.specs.safe_bit.declared.Move.TheVariants.{BeginWrite, EndWrite, BeginRead, EndRead}
use Rattle.model.specs.safe_number.{NumberWrite}
use Rattle.model.specs.{Access, Call, Entry, Event, Part, Past, Place, Reading, Run, Writing, access_at, bit_written, ended, entry_of, is_over, past_of, run_after, value_of, valued, written_at}
use Rattle.model.specs.declared.events.Event.TheVariants.{Step}
use Rattle.model.proofs.Width.{IsGood}
use Rattle.laws.specs.{Closes, Doing, Lies, Rests, Runs, call, does_then, doing, next_of}
use Rattle.laws.proofs.Steps.{StepIs, step_is}
use Rattle.process.specs.{ProcessState, remaining_at, remaining_of, process_after}
use Rattle.process.proofs.Left.{remaining-runs, live-by}
use Rattle.world.proofs.WorldShows.{past-after}

-- one of two consecutive numbers is even
even-odd : (n : ℕ) → (n % 2 == 0) ≡ true → ((n + 1) % 2 == 0) ≡ false
even-odd n h = let even : n % 2 ≡ 0 = eqb-true (n % 2) 0 h in ne_eqb ((n + 1) % 2) 0 (omega (arith, even))

odd-even : (n : ℕ) → (n % 2 == 0) ≡ false → ((n + 1) % 2 == 0) ≡ true
odd-even n h = let odd = eqb-false (n % 2) 0 h in let even : (n + 1) % 2 ≡ 0 = omega (arith, odd) in eq-eqb ((n + 1) % 2) 0 even

-- a write that is made to its end was made an odd number of times before
last-odd : (n k : ℕ) → (n + 1 == 2 * k) ≡ true → (n % 2 == 0) ≡ false
last-odd n k h = let all : n + 1 ≡ 2 * k = eqb-true (n + 1) (2 * k) h in ne_eqb (n % 2) 0 (omega (arith, all))

module _ (Follows : Move → Move → Type 0) (reads : (v : Bool) → Follows BeginRead (EndRead v)) (read_on : (v : Bool) → Follows (EndRead v) BeginRead) (writes : (v : Bool) → Follows (BeginWrite v) EndWrite) (written_on : (v : Bool) → Follows EndWrite (BeginWrite v)) where
  -- the move number n of a write of a bit
  abbrev move : ℕ → Bool → Move
  move n v = if n % 2 == 0 then BeginWrite v else EndWrite

  turn-move : (n : ℕ) (u v : Bool) → Follows (move n u) (move (n + 1) v)
  turn-move n u v = by (n % 2 == 0) refl
    where
      by : (b : Bool) → (n % 2 == 0) ≡ b → Follows (if b then BeginWrite u else EndWrite) (move (n + 1) v)
      by true h = subst (λ (c : Bool). Follows (BeginWrite u) (if c then BeginWrite v else EndWrite)) (sym (even-odd n h)) (writes u)
      by false h = subst (λ (c : Bool). Follows EndWrite (if c then BeginWrite v else EndWrite)) (sym (odd-even n h)) (written_on v)

  turn-bit : (n k : ℕ) (u v : Bool) → (n + 1 == 2 * k) ≡ true → Follows (move n u) (BeginWrite v)
  turn-bit n k u v h = subst (λ (c : Bool). Follows (if c then BeginWrite u else EndWrite) (BeginWrite v)) (sym (last-odd n k h)) (written_on v)

  -- for any values of the two
  turn-write : (c : Call) (part : Part) (w : NumberWrite) (x u v : Bool) → Follows (ended u (access_at c part (Writing w)).how) (ended v (access_at c part (run_after c part (Writing w) x)).how)
  turn-write c part w x u v = by (now.made + 1 == 2 * c.setup.processes) refl
    where
      bits : List Bool
      bits = (written_at c part).1

      now : copies.Writing
      now = bit_written bits w

      next : Bool → NumberWrite
      next ends = if ends then record { width = w.width; bit = w.bit + 1; run = None } else record { width = w.width; bit = w.bit; run = Some (record { value = now.value; made = now.made + 1; ended = ends }) }

      plain : {t : Move} (b : Bool) (y z : Bool) → Follows t (if b then BeginWrite y else EndWrite) → Follows t (ended z (if b then BeginWrite y else EndWrite))
      plain true y z follows = follows
      plain false y z follows = follows

      first : {t : Move} (b : Bool) (y z : Bool) → Follows (if b then BeginWrite y else EndWrite) t → Follows (ended z (if b then BeginWrite y else EndWrite)) t
      first true y z follows = follows
      first false y z follows = follows

      by : (ends : Bool) → (now.made + 1 == 2 * c.setup.processes) ≡ ends → Follows (ended u (move now.made now.value)) (ended v (copies.next_write (bit_written bits (next ends))).how)
      by true h = first (now.made % 2 == 0) now.value u (turn-bit now.made c.setup.processes now.value _ h)
      by false h = first (now.made % 2 == 0) now.value u (plain ((now.made + 1) % 2 == 0) now.value v (turn-move now.made now.value now.value))

  turn-place : (c : Call) (part : Part) (run : Run) (x u v : Bool) → Follows (ended u (access_at c part run).how) (ended v (access_at c part (run_after c part run x)).how)
  turn-place c part (Writing w) x u v = turn-write c part w x u v
  turn-place c part (Reading bits false) x u v = reads v
  turn-place c part (Reading bits true) x u v = read_on u

  turn-by : (s : Setup) (p : ℕ) (now : ProcessState) (d : Doing) (f g x u v : Bool) (a b : Access) → now.setup ≡ s → now.process ≡ p → 0 < remaining_at (record now { doing = d }) → next_of s p d f ≡ Some a → next_of s p (does_then s p d f x) g ≡ Some b →
      Follows (ended u a.how) (ended v b.how)
  turn-by s p now Rests f g x u v a b same mine more first next = absurd (cc)
  turn-by s p now Lies f g x u v a b same mine more first next = absurd (cc)
  turn-by s p now (Closes command number at) f g x u v a b same mine more first next = absurd (omega (arith, more))
  turn-by s p now (Runs command number at) f g x u v a b same mine more first next =
      let c : Call = call s p command number in
      let here : call now.setup now.process command number ≡ c = λ i. call (same i) (mine i) command number in
      let live = live-by (is_over at.part) (remaining_of (call now.setup now.process command number) at.part at.run) more in
      let some : 0 < remaining_of c at.part at.run = subst (λ (c : Call). 0 < remaining_of c at.part at.run) here live.1 in
      let after : Place = record { part = at.part; run = run_after c at.part at.run x } in
      let does : does_then s p (Runs command number at) f x ≡ Runs command number after = remaining-runs s p command number at f x live.0 some in
      let second : Some (access_at c at.part after.run) ≡ Some b = sym (ap (λ d. next_of s p d g) does) ∙ next in
      let is_first : access_at c at.part at.run ≡ a = cc in
      let is_second : access_at c at.part after.run ≡ b = cc in
      subst (λ (b : Access). Follows (ended u a.how) (ended v b.how)) is_second (subst (λ (a : Access). Follows (ended u a.how) (ended v (access_at c at.part after.run).how)) is_first (turn-place c at.part at.run x u v))

  -- the accesses of two consecutive steps, of which the first is made within a register access
  pub takes-turns : (s : Setup) → IsGood s → (events : List Event) (p : ℕ) (f g : Bool) (d e : Entry) (a b : Access) → 0 < remaining_at (process_after s (past_of s events) p) →
      entry_of s (past_of s events) (Step p f) ≡ Some d → d.access ≡ Some a → entry_of s (past_of s (Step p f ∷ events)) (Step p g) ≡ Some e → e.access ≡ Some b → Follows a.how b.how
  takes-turns s good events p f g d e a b more adds made adds_next made_next =
      let past : Past = past_of s events in
      let first : StepIs s past p f d = step_is s good events p f d adds in
      let second : StepIs s (past_of s (Step p f ∷ events)) p g e = step_is s good (Step p f ∷ events) p g e adds_next in
      let at : past_of s (Step p f ∷ events) ≡ d ∷ past = past-after s events (Step p f) d adds in
      let next : next_of s p (does_then s p (doing s p past) f (value_of (valued s past f first.next).how)) g ≡ Some second.next =
      sym (ap (λ (l : Past). next_of s p (doing s p l) g) at ∙ ap (λ d. next_of s p d g) first.does) ∙ second.is_next in
      let is_first : valued s past f first.next ≡ a = cc in
      let is_second : valued s (past_of s (Step p f ∷ events)) g second.next ≡ b = cc in
      subst (λ (b : Access). Follows a.how b.how) is_second (subst (λ (a : Access). Follows a.how (valued s (past_of s (Step p f ∷ events)) g second.next).how) is_first
      (turn-by s p (process_after s past p) (doing s p past) f g _ _ _ first.next second.next refl refl more first.is_next next))
