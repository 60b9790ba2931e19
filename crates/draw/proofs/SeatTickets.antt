-- The tickets of a picture's state are those that the marks of its lines show, and its stages are those that its lines show.
use Rattle.std.proofs.Common.{◌≡◌, ◌⊎◌, inl, inr, ◌<◌, ℕ, zero, suc, ◌==◌, nat_lt, Bool, true, false, cond, List, [], ◌∷◌, flat_map, get_or, length, map, replicate, set, refl, ap, sym, subst, ◌∙◌, arith}
use Rattle.std.specs.Prelude.{fold}
use Rattle.std.proofs.lemmas.Bool.{cases_eq, cond-true, cond-false, eq-eqb, ltb-false, ne_eqb}
use Rattle.std.proofs.lemmas.Grind.{fold-append}
use Rattle.std.proofs.lemmas.List.{get_or-set_other, get_or-set_same, length-map, length-set}
use Rattle.model.specs.{Mark, Stage, is_in_doorway}
use Rattle.model.specs.declared.marks.Mark.TheVariants as mark
use Rattle.picture.specs.picture_layout.{ProcessDetails, LineContent, State, at_first, like, marks_said, no_seat, not_awaiting, seats_marked, stages_marked, stages_reported, state_lock_marked, state_marked, state_reported, ticket_in}
use Rattle.picture.specs.picture_layout.declared.line_contents.LineContent.TheVariants.{LockMarked, Marked}
use Rattle.picture.specs.picture_layout.trace.{LockMark}
use Rattle.picture.specs.picture_layout.trace.declared.marks.LockMark.TheVariants as lock
use Rattle.draw.proofs.TicketsShown.{shown_after, shown_reported}

-- Of one mark.

-- a mark does not change the number of seats
marked_seats : (stages : List Stage) (seats : List ProcessDetails) (q : ℕ) (m : Mark) → length (seats_marked stages seats q m) ≡ length seats
marked_seats stages seats q (mark.Waiting t) = length-set (map (not_awaiting q) seats) q (record { ticket = t; awaits = map is_in_doorway stages }) ∙ length-map seats (not_awaiting q)
marked_seats stages seats q mark.Left = length-set (map (not_awaiting q) seats) q _ ∙ length-map seats (not_awaiting q)
marked_seats stages seats q (mark.Answered a) = length-set (map (not_awaiting q) seats) q _ ∙ length-map seats (not_awaiting q)
marked_seats stages seats q mark.Down = length-set (map (not_awaiting q) seats) q _ ∙ length-map seats (not_awaiting q)
marked_seats stages seats q (mark.Taken k r) = refl
marked_seats stages seats q (mark.Settled v) = refl
marked_seats stages seats q m = length-map seats (not_awaiting q)

-- the processes that a seat awaits do not affect its ticket
forgotten : (q : ℕ) (seats : List ProcessDetails) (p : ℕ) → (get_or (map (not_awaiting q) seats) p no_seat).ticket ≡ (get_or seats p no_seat).ticket
forgotten q [] p = refl
forgotten q (seat ∷ seats) zero = refl
forgotten q (seat ∷ seats) (suc p) = forgotten q seats p

same_either : (b : Bool) (n : ℕ) → n ≡ cond b n n
same_either true n = refl
same_either false n = refl

-- a seat gets a ticket
seated : (q : ℕ) (seats : List ProcessDetails) (seat : ProcessDetails) (p : ℕ) → p < length seats → (get_or (set (map (not_awaiting q) seats) q seat) p no_seat).ticket ≡ cond (q == p) seat.ticket (get_or seats p no_seat).ticket
seated q seats seat p within = go (cases_eq q p)
  where
    go : ((q ≡ p) ⊎ (q ≡ p → ⊥)) → (get_or (set (map (not_awaiting q) seats) q seat) p no_seat).ticket ≡ cond (q == p) seat.ticket (get_or seats p no_seat).ticket
    go (inl same) =
        ap (λ i. (get_or (set (map (not_awaiting q) seats) i seat) p no_seat).ticket) same
        ∙ ap (λ (x : ProcessDetails). x.ticket) (get_or-set_same (map (not_awaiting q) seats) p seat no_seat (subst (λ n. p < n) (sym (length-map seats (not_awaiting q))) within))
        ∙ sym (cond-true (q == p) seat.ticket (get_or seats p no_seat).ticket (eq-eqb q p same))
    go (inr other) =
        ap (λ (x : ProcessDetails). x.ticket) (get_or-set_other (map (not_awaiting q) seats) q p seat no_seat (λ e. other (sym e)))
        ∙ forgotten q seats p
        ∙ sym (cond-false (q == p) seat.ticket (get_or seats p no_seat).ticket (ne_eqb q p other))

marked_ticket : (stages : List Stage) (seats : List ProcessDetails) (q : ℕ) (m : Mark) (p : ℕ) → p < length seats → (get_or (seats_marked stages seats q m) p no_seat).ticket ≡ shown_reported p (get_or seats p no_seat).ticket (q, m)
marked_ticket stages seats q (mark.Waiting t) p within = seated q seats _ p within
marked_ticket stages seats q mark.Left p within = seated q seats _ p within
marked_ticket stages seats q (mark.Answered a) p within = seated q seats _ p within
marked_ticket stages seats q mark.Down p within = seated q seats _ p within
marked_ticket stages seats q (mark.Taken k r) p within = same_either (q == p) (get_or seats p no_seat).ticket
marked_ticket stages seats q (mark.Settled v) p within = same_either (q == p) (get_or seats p no_seat).ticket
marked_ticket stages seats q m p within = forgotten q seats p ∙ same_either (q == p) (get_or seats p no_seat).ticket

-- Of one mark of a trace.

-- a seat that has got a ticket is cleared
cleared_seat : (q : ℕ) (seats : List ProcessDetails) (seat : ProcessDetails) (p : ℕ) → p < length seats → (get_or (set (set (map (not_awaiting q) seats) q seat) q no_seat) p no_seat).ticket ≡ cond (q == p) 0 (get_or seats p no_seat).ticket
cleared_seat q seats seat p within = go (cases_eq q p)
  where
    long : length (set (map (not_awaiting q) seats) q seat) ≡ length seats
    long = length-set (map (not_awaiting q) seats) q seat ∙ length-map seats (not_awaiting q)

    go : ((q ≡ p) ⊎ (q ≡ p → ⊥)) → (get_or (set (set (map (not_awaiting q) seats) q seat) q no_seat) p no_seat).ticket ≡ cond (q == p) 0 (get_or seats p no_seat).ticket
    go (inl same) =
        ap (λ i. (get_or (set (set (map (not_awaiting q) seats) q seat) i no_seat) p no_seat).ticket) same
        ∙ ap (λ (x : ProcessDetails). x.ticket) (get_or-set_same (set (map (not_awaiting q) seats) q seat) p no_seat no_seat (subst (λ n. p < n) (sym long) within))
        ∙ sym (cond-true (q == p) 0 (get_or seats p no_seat).ticket (eq-eqb q p same))
    go (inr other) =
        ap (λ (x : ProcessDetails). x.ticket) (get_or-set_other (set (map (not_awaiting q) seats) q seat) q p no_seat no_seat (λ e. other (sym e)))
        ∙ ap (λ (x : ProcessDetails). x.ticket) (get_or-set_other (map (not_awaiting q) seats) q p seat no_seat (λ e. other (sym e)))
        ∙ forgotten q seats p
        ∙ sym (cond-false (q == p) 0 (get_or seats p no_seat).ticket (ne_eqb q p other))

-- the parts of a state that a mark does not change, and those that it determines
record MarkLeads (state then : State) (q : ℕ) (m : Mark) : Type 0 where
  pub processes : then.processes ≡ state.processes
  pub seats : length then.seats ≡ length state.seats
  pub stages : then.stages ≡ stages_marked state.stages q m
  pub tickets : (p : ℕ) → p < length state.seats → ticket_in then p ≡ shown_reported p (ticket_in state p) (q, m)

mark_leads : (state : State) (q : ℕ) (m : Mark) → MarkLeads state (state_marked state q m) q m
mark_leads state q m = record {
  processes = refl;
  seats = marked_seats (stages_marked state.stages q m) state.seats q m;
  stages = refl;
  tickets = λ p within. marked_ticket (stages_marked state.stages q m) state.seats q m p within;
}

lock_mark_leads : (state : State) (q : ℕ) (m : LockMark) → MarkLeads state (state_lock_marked state q m) q (like m)
lock_mark_leads state q lock.Call = mark_leads state q (like lock.Call)
lock_mark_leads state q lock.Wait =
    let marked : State = state_marked state q (like lock.Wait) in
    record {
      processes = refl;
      seats = length-set marked.seats q no_seat ∙ marked_seats (stages_marked state.stages q (like lock.Wait)) state.seats q (like lock.Wait);
      stages = refl;
      tickets = λ p within. cleared_seat q state.seats _ p within;
    }
lock_mark_leads state q lock.Enter = mark_leads state q (like lock.Enter)
lock_mark_leads state q lock.Leave = mark_leads state q (like lock.Leave)
lock_mark_leads state q lock.Answer = mark_leads state q (like lock.Answer)

-- Of a line.

-- the parts of a state that a line does not change, and those that it determines
record LeadsOn (state then : State) (line : LineContent) : Type 0 where
  pub processes : then.processes ≡ state.processes
  pub seats : length then.seats ≡ length state.seats
  pub stages : then.stages ≡ stages_reported state.processes state.stages line
  pub tickets : (p : ℕ) → p < state.processes → p < length state.seats → ticket_in then p ≡ fold (shown_reported p) (ticket_in state p) (marks_said line)

line_leads : (state : State) (line : LineContent) → LeadsOn state (state_reported state line) line
line_leads state (Marked q m change) = go (nat_lt q state.processes) refl
  where
    go : (b : Bool) → nat_lt q state.processes ≡ b → LeadsOn state (cond (nat_lt q state.processes) (state_marked state q m) state) (Marked q m change)
    go true is = record {
      processes = ap (λ b. (cond b (state_marked state q m) state).processes) is;
      seats = ap (λ b. length (cond b (state_marked state q m) state).seats) is ∙ marked_seats (stages_marked state.stages q m) state.seats q m;
      stages = ap (λ b. (cond b (state_marked state q m) state).stages) is ∙ sym (ap (λ b. cond b (stages_marked state.stages q m) state.stages) is);
      tickets = λ p is_process within. ap (λ b. ticket_in (cond b (state_marked state q m) state) p) is ∙ marked_ticket (stages_marked state.stages q m) state.seats q m p within;
    }
    go false is = record {
      processes = ap (λ b. (cond b (state_marked state q m) state).processes) is;
      seats = ap (λ b. length (cond b (state_marked state q m) state).seats) is;
      stages = ap (λ b. (cond b (state_marked state q m) state).stages) is ∙ sym (ap (λ b. cond b (stages_marked state.stages q m) state.stages) is);
      tickets = λ p is_process within. ap (λ b. ticket_in (cond b (state_marked state q m) state) p) is
          ∙ sym (cond-false (q == p) (shown_after (ticket_in state p) m) (ticket_in state p) (ne_eqb q p (λ same. let past = ltb-false q state.processes is in omega (arith, same, past, is_process))));
    }
line_leads state (LockMarked q m) = go (nat_lt q state.processes) refl
  where
    go : (b : Bool) → nat_lt q state.processes ≡ b → LeadsOn state (cond (nat_lt q state.processes) (state_lock_marked state q m) state) (LockMarked q m)
    go true is = record {
      processes = ap (λ b. (cond b (state_lock_marked state q m) state).processes) is ∙ (lock_mark_leads state q m).processes;
      seats = ap (λ b. length (cond b (state_lock_marked state q m) state).seats) is ∙ (lock_mark_leads state q m).seats;
      stages = ap (λ b. (cond b (state_lock_marked state q m) state).stages) is ∙ (lock_mark_leads state q m).stages ∙ sym (ap (λ b. cond b (stages_marked state.stages q (like m)) state.stages) is);
      tickets = λ p is_process within. ap (λ b. ticket_in (cond b (state_lock_marked state q m) state) p) is ∙ (lock_mark_leads state q m).tickets p within;
    }
    go false is = record {
      processes = ap (λ b. (cond b (state_lock_marked state q m) state).processes) is;
      seats = ap (λ b. length (cond b (state_lock_marked state q m) state).seats) is;
      stages = ap (λ b. (cond b (state_lock_marked state q m) state).stages) is ∙ sym (ap (λ b. cond b (stages_marked state.stages q (like m)) state.stages) is);
      tickets = λ p is_process within. ap (λ b. ticket_in (cond b (state_lock_marked state q m) state) p) is
          ∙ sym (cond-false (q == p) (shown_after (ticket_in state p) (like m)) (ticket_in state p) (ne_eqb q p (λ same. let past = ltb-false q state.processes is in omega (arith, same, past, is_process))));
    }
line_leads state line = record { processes = refl; seats = refl; stages = refl; tickets = λ p is_process within. refl }

-- Of all lines.

pub lines_processes : (state : State) (lines : List LineContent) → (fold state_reported state lines).processes ≡ state.processes
lines_processes state [] = refl
lines_processes state (line ∷ lines) = lines_processes (state_reported state line) lines ∙ (line_leads state line).processes

pub lines_stages : (state : State) (lines : List LineContent) → (fold state_reported state lines).stages ≡ fold (stages_reported state.processes) state.stages lines
lines_stages state [] = refl
lines_stages state (line ∷ lines) = lines_stages (state_reported state line) lines ∙ (λ i. fold (stages_reported ((line_leads state line).processes i)) ((line_leads state line).stages i) lines)

lines_tickets : (state : State) (lines : List LineContent) (p : ℕ) → p < state.processes → p < length state.seats → ticket_in (fold state_reported state lines) p ≡ fold (shown_reported p) (ticket_in state p) (flat_map marks_said lines)
lines_tickets state [] p is_process within = refl
lines_tickets state (line ∷ lines) p is_process within =
    lines_tickets (state_reported state line) lines p (subst (λ n. p < n) (sym (line_leads state line).processes) is_process) (subst (λ n. p < n) (sym (line_leads state line).seats) within)
    ∙ ap (λ was. fold (shown_reported p) was (flat_map marks_said lines)) ((line_leads state line).tickets p is_process within)
    ∙ sym (fold-append (shown_reported p) (ticket_in state p) (marks_said line) (flat_map marks_said lines))

-- no process has a ticket at first
nothing_held : (n p : ℕ) → (get_or (replicate n no_seat) p no_seat).ticket ≡ 0
nothing_held zero p = refl
nothing_held (suc n) zero = refl
nothing_held (suc n) (suc p) = nothing_held n p

pub tickets_are : (processes : ℕ) (lines : List LineContent) (p : ℕ) → p < processes → p < 16 → ticket_in (fold state_reported (at_first processes) lines) p ≡ fold (shown_reported p) 0 (flat_map marks_said lines)
tickets_are processes lines p is_process few =
    lines_tickets (at_first processes) lines p is_process few ∙ ap (λ was. fold (shown_reported p) was (flat_map marks_said lines)) (nothing_held 16 p)
