-- A process between two accesses: all that it keeps except its place in the program.
use Rattle.std.proofs.Common.{◌≡◌, ◌≢◌, ℕ, suc, ◌/◌, ◌<◌, Bool, true, false, cond, List, [], length, refl, sym, subst, arith, inl, inr}
use Rattle.std.proofs.lemmas.Bool.{false≢true}
use Rattle.model.specs.{Asks, Call, Field, Part, Past, Place, Reading, Wait, Waits, Writing, enter, is_over, is_read, new_run, read_at, width, written_at}
use Rattle.model.specs.declared.access.Field.TheVariants.{Choosing, Ticket}
use Rattle.model.specs.safe_number.{new_write}
use Rattle.plain_store.specs.{Command, Setup}
use Rattle.model.proofs.Ties.{written-width}
use Rattle.model.proofs.Width.{IsGood, width-pos}
use Rattle.laws.specs.{Doing, Rests, Runs, call, runs, doing, is_inside, is_inside_at}
use Rattle.laws.proofs.FrameInside.{enter-fresh}
use Rattle.laws.proofs.Notes.{Notes, notes, turned}
use Rattle.laws.proofs.Invariant.{Wires, wires, Touches, touches, IsPast, Whole, Senior, Before, Written, RunCorresponds, PartCorresponds, Corresponds, DoesKnow, CleanWait, CleanRun, Clean, Pair, Inv, Moves, next_time}
use Rattle.laws.proofs.Moving.{past_later}
use Rattle.laws.proofs.Owner.{owner_shows_no_more}

-- is: whether p is inside
pub record Ready (s : Setup) (past : Past) (p : ℕ) (is : Bool) (n : Notes) (m : Wires) (t : ℕ → ℕ → Touches) : Type 0 where
  pub times : IsPast (suc (next_time past)) n.announced_at n.held_at n.began n.ended n.since n.choosing_from n.asked_from n.let_from
  pub whole : Whole s n.announced n.holds n.ticket m
  pub senior : Senior s p n.holds is n.ticket n.announced_at n.held_at n.began n.choosing_from n.choosing_to n.asked_from n.asked n.let_from n.let_by
  pub knows : (o : ℕ) → o < s.processes → o ≢ p → DoesKnow o n (notes s o past)
  pub owner : (r : ℕ) → r < s.processes → r ≢ p → Pair s p (doing s r past) (notes s r past) n (t p r)

-- p is ready after the past
pub ready : (s : Setup) (past : Past) (p : ℕ) → p < s.processes → Inv s past → Ready s past p (is_inside (doing s p past)) (notes s p past) (wires s past p) (touches s past)
ready s past p below inv = record {
  times = past_later _ _ _ _ _ _ _ _ _ (inv.own p below).past;
  whole = (inv.own p below).whole;
  senior = (inv.own p below).senior;
  knows = λ o ob ne. (inv.pair p o below ob (λ e. ne (sym e))).knows;
  owner = λ r rb ne. inv.pair r p rb below ne;
}

-- the notes with another end of the doorway, and another beginning of the present number access
abbrev pub later : Notes → (ended since : ℕ) → Notes
later n ended since = record n { ended = ended; since = since }

-- a number access ends, and what it has shown stays
pub ready_later : (s : Setup) (past : Past) (p : ℕ) (is : Bool) (n : Notes) (ended since : ℕ) (m : Wires) (t : ℕ → ℕ → Touches) → ended < suc (next_time past) → since < suc (next_time past) →
    Ready s past p is n m t → Ready s past p is (later n ended since) m t
ready_later s past p is n ended since m t ended_past since_past r = record {
  times = record {
    announced_at_past = r.times.announced_at_past;
    held_at_past = r.times.held_at_past;
    began_past = r.times.began_past;
    ended_past = ended_past;
    since_past = since_past;
    choosing_past = r.times.choosing_past;
    asked_past = r.times.asked_past;
    let_past = r.times.let_past;
  };
  whole = r.whole;
  senior = r.senior;
  knows = r.knows;
  owner = λ q below ne. owner_shows_no_more s p _ _ _ _ _ _ (record { announced = λ e. e; announced_at = refl; holds = λ e. e; ticket = refl; held_at = refl; choosing_marks = λ e k. refl; ticket_marks = λ e k. refl }) (r.owner q below ne);
}

-- p is ready when another number access begins
pub ready_turned : (s : Setup) (past : Past) (p : ℕ) (is : Bool) (n : Notes) (m : Wires) (t : ℕ → ℕ → Touches) → Ready s past p is n m t → Ready s past p is (turned (next_time past) n) m t
ready_turned s past p is n m t r = ready_later s past p is n n.ended (next_time past) m t r.times.ended_past (omega arith) r

-- from ready to a move, if its place fits and its reads so far are clean
pub moves_to : (s : Setup) (past : Past) (p : ℕ) (d : Doing) (n : Notes) (m : Wires) (t : ℕ → ℕ → Touches) → Ready s past p (is_inside d) n m t → Corresponds s p n m d →
    ((o : ℕ) → o < s.processes → o ≢ p → Clean s o d n.since (notes s o past) (t o p)) → Moves s past p d n m t
moves_to s past p d n m t r corresponds clean = record {
  own = record { past = r.times; whole = r.whole; senior = r.senior; corresponds = corresponds };
  reader = λ o ob ne. record { knows = r.knows o ob ne; clean = clean o ob ne };
  owner = r.owner;
}

-- p is at rest
pub rests : (s : Setup) (past : Past) (p : ℕ) (n : Notes) (m : Wires) (t : ℕ → ℕ → Touches) → Ready s past p false n m t → n.holds ≡ false → Moves s past p Rests n m t
rests s past p n m t r free = moves_to s past p Rests n m t r free (λ o ob ne. tt)

-- No access of a number access is made yet.

no_bit : {X : Type 0} (k : ℕ) → k < 0 → X
no_bit k below = absurd (omega arith)

unread_wait : (s : Setup) (o : ℕ) (w : Wait) (since : ℕ) (u : Notes) (t : Touches) → CleanWait s o w since [] false u t
unread_wait s o (j, Choosing) since u t = λ e h le b. absurd (false≢true b)
unread_wait s o (j, Ticket) since u t = λ e h le. (λ k below. no_bit k below, λ b. absurd (false≢true b))
unread_wait s o (j, _) since u t = tt

-- nothing is read of it
pub unread : (s : Setup) (o : ℕ) (c : Call) (part : Part) (since : ℕ) (u : Notes) (t : Touches) → CleanRun s o part (new_run c part) since u t
unread s o c (Asks j js ts) since u t = λ e h le. (λ k below. no_bit k below, λ b. absurd (false≢true b))
unread s o c (Waits ticket w ws) since u t = unread_wait s o w since u t
unread s o c _ since u t = tt

-- nothing is written
pub unwritten : (n : ℕ) (bits : List Bool) (wide : ℕ) (m : Wires) (f : Field) → 0 < n → wide ≡ length bits → 0 < wide → Written n bits (new_write wide) m f
unwritten n bits wide m f some same pos = record {
  width_is = same;
  below = pos;
  made = omega arith;
  value = refl;
  going = refl;
  done = λ k r below before. absurd (none k r before);
  begun = λ odd. absurd (omega arith);
}
  where
    none : (k r : ℕ) → Before k r 0 (0 / 2) → ⊥
    none k r (inl lower) = no_bit k lower
    none k r (inr here) = let low : r < 0 / 2 = here.1 in omega arith

-- a new place is at the beginning of its number access
pub new_corresponds : (s : Setup) → IsGood s → (p : ℕ) (command : Command) (number : ℕ) (part : Part) (m : Wires) → is_over part ≡ false → RunCorresponds (call s p command number) m part (new_run (call s p command number) part)
new_corresponds s g p command number part m over = go (is_read part) refl
  where
    c : Call
    c = call s p command number

    go : (b : Bool) → is_read part ≡ b → RunCorresponds c m part (cond b (Reading [] false) (Writing (new_write (width s (written_at c part).0))))
    go true e = (e, width-pos s g (read_at c part).1)
    go false e = (e, unwritten s.processes (written_at c part).1 (width s (written_at c part).0) m (written_at c part).0 (omega (arith, g.processes_is)) (written-width c part e over) (width-pos s g (written_at c part).0))

-- from ready to a new place: it suffices what p knows there
pub starts : (s : Setup) → IsGood s → (past : Past) (p : ℕ) (command : Command) (number : ℕ) (part : Part) (n : Notes) (m : Wires) (t : ℕ → ℕ → Touches) → is_over part ≡ false →
    Ready s past p (is_inside_at part true) n m t → PartCorresponds s p n part true → Moves s past p (runs command number (enter (call s p command number) part)) n m t
starts s g past p command number part n m t over r corresponds =
    subst (λ b. Moves s past p (cond b Rests (Runs command number at)) n m t) (sym over)
    (moves_to s past p (Runs command number at) n m t
    (subst (λ b. Ready s past p (is_inside_at part b) n m t) (sym (enter-fresh c part)) r)
    (new_corresponds s g p command number part m over, subst (λ b. PartCorresponds s p n part b) (sym (enter-fresh c part)) corresponds)
    (λ o ob ne. unread s o c part n.since (notes s o past) (t o p)))
  where
    c : Call
    c = call s p command number

    at : Place
    at = enter c part
