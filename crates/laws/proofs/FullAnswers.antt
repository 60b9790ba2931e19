-- The end of a doorway. If one of its reads gave the greatest ticket, it ends with `TicketsFull`, which names the lowest process with such a read; otherwise it ends with a ticket. This is a fact of the local program alone.
use Rattle.std.proofs.Common.{◌≡◌, ◌≢◌, ℕ, suc, ◌+◌, ◌^◌, ◌%◌, ◌<◌, ◌==◌, Bool, true, false, cond, if◌then◌else◌, List, [], ◌∷◌, ◌++◌, Option, Some, None, length, map, refl, sym, ap, subst, ◌∙◌, true≢false, arith, append_assoc, eqb-true, length-append, slice_index}
use Rattle.std.proofs.lemmas.List.{length_push, map-append}
use Rattle.std.proofs.lemmas.Nat.{pow_pos}
use Rattle.std.proofs.Math.Nat.{pow-suc}
use Rattle.std.specs.List.{list_any}
use Rattle.model.specs.safe_bit.{read_value}
use Rattle.model.specs.safe_bit.declared.Move.TheVariants.{BeginWrite, EndWrite}
use Rattle.model.specs.safe_number.{new_write, number_of_bits}
use Rattle.model.proofs.safe_number.Bits.{number-fits}
use Rattle.model.specs.{Access, Call, Entry, Event, Numbers, Past, Place, ReadSoFar, Reading, Run, Version, Wait, Writing, access_at, bit_written, ended, ended_with, enter, first_full, greatest, index_of, is_called, is_last, lets_by, lowest_full, max_of, moves_of, new_run, newest_stamp, opening_bit, others, own, past_of, place_after, processes, read_so_far, reply, run_after, since, store_read, value_of, waits_of, width, with_access, with_move}
use Rattle.plain_store.specs.{Answer, Command, Contents, Setup, changes}
use Rattle.plain_store.specs.declared.Answer.TheVariants as answer
use Rattle.model.specs.declared.marks.Mark.TheVariants.{Called}
use Rattle.model.specs.Parts.{Part, Raises, Asks, TakesTicket, Lowers, Refuses, Waits, AsksCommit, AsksStamp, AsksImage, WritesImage, WritesStamp, WritesCommit, Clears, Over, is_read, is_over, read_at, to_b, to_d, to_e, to_g, part_after, written_at}
use Rattle.model.proofs.Local.{since_called-plain}
use Rattle.model.proofs.Width.{IsGood}
use Rattle.laws.specs.{call, doing}
use Rattle.laws.proofs.Frame.{own-other, own-own}
use Rattle.laws.proofs.AtPlaces.{AtPlace, Stepping, place-induction, plain-stepping}
use Rattle.laws.proofs.Tickets.{AllUpTo, up_to-push, none_full, lowest_is}

-- the tickets of these numbers
abbrev pub tickets : Numbers → List ℕ
tickets = map number_of_bits

-- the lowest of p's others whose ticket, of those that were read, is the greatest one
abbrev pub full_in : Setup → ℕ → Numbers → Option ℕ
full_in s p values = lowest_full (max_of s.ticket_bits) (others s p) (tickets values)

-- the tickets read so far are these, of the others that come before js
pub record Asked (s : Setup) (p : ℕ) (js ts : List ℕ) (values : Numbers) : Type 0 where
  pub kept : tickets values ≡ ts
  pub done : List ℕ
  pub all : others s p ≡ done ++ js
  pub as_many : length done ≡ length ts
  pub up_to : AllUpTo (max_of s.ticket_bits) ts

-- all tickets have been read; the lowest process whose ticket is the greatest one, if such a process exists
abbrev pub AllAsked : Setup → ℕ → Option ℕ → Numbers → Type 0
AllAsked s p o values = (length (tickets values) ≡ length (others s p)) × (full_in s p values ≡ o)

-- the answer is `TicketsFull`
abbrev pub is_full : Answer → Bool
is_full (answer.TicketsFull j) = true
is_full _ = false

-- the knowledge of a process about the tickets that it has read in this call
abbrev pub KnowsTickets : Setup → ℕ → Part → Numbers → Type 0
KnowsTickets s p Raises values = values ≡ []
KnowsTickets s p (Asks j js ts) values = Asked s p (j ∷ js) ts values
KnowsTickets s p (TakesTicket t) values = AllAsked s p None values
KnowsTickets s p (Lowers t) values = AllAsked s p None values
KnowsTickets s p (Refuses f) values = AllAsked s p (Some f) values
KnowsTickets s p (Clears a) values = is_full a ≡ false
KnowsTickets s p _ values = Unit {0}

-- the bits read so far of the present number
abbrev pub IsReadingOf : Part → Run → List Bool → Type 0
IsReadingOf part (Writing w) read = (is_read part ≡ false) × (read ≡ [])
IsReadingOf part (Reading bits begun) read = (is_read part ≡ true) × (read ≡ bits)

pub record KnowsReads (s : Setup) (p : ℕ) (at : Place) (r : ReadSoFar) : Type 0 where
  pub reading : IsReadingOf at.part at.run r.bits
  pub knows : KnowsTickets s p at.part r.finished

-- the values that p has read in its last call
abbrev pub read_in_call : Setup → ℕ → Past → ReadSoFar
read_in_call s p past = read_so_far s (since is_called (own p past))

abbrev pub KnowsAt : Setup → Past → ℕ → Command → ℕ → Place → Type 0
KnowsAt s past p command number at = KnowsReads s p at (read_in_call s p past)

-- The next part.

some-top : (s : Setup) → IsGood s → 0 < max_of s.ticket_bits
some-top s g = let e = g.ticket_is in let p = pow_pos g.ticket in let q = pow-suc 2 g.ticket in
    let w : 2 ^ s.ticket_bits ≡ 2 ^ suc g.ticket = ap (λ k. 2 ^ k) e in omega (arith, p, q, w)

-- all tickets were read: one of them is the greatest one, or a greater ticket fits
to-c : (s : Setup) → IsGood s → (p : ℕ) (command : Command) (number : ℕ) (ts : List ℕ) (values : Numbers) → Asked s p [] ts values → KnowsTickets s p (to_b (call s p command number) [] ts) values
to-c s g p command number ts values x = go (greatest ts == max_of s.ticket_bits) refl
  where
    c : Call
    c = call s p command number

    top : ℕ
    top = max_of s.ticket_bits

    long : length (others s p) ≡ length ts
    long = ap length x.all ∙ length-append x.done [] ∙ (let l = x.as_many in omega (arith, l))

    many : length (tickets values) ≡ length (others s p)
    many = ap length x.kept ∙ sym long

    go : (b : Bool) → (greatest ts == top) ≡ b → KnowsTickets s p (elim b as (λ _. Part) [ true ↦ Refuses (first_full c ts) | false ↦ TakesTicket (greatest ts + 1) ]) values
    go true e =
        let is : greatest ts ≡ top = eqb-true (greatest ts) top e in (
          many,
          ap (lowest_full top (others s p)) x.kept ∙ lowest_is top 0 (others s p) ts long (some-top s g) is
              ∙ ap (λ k. Some (slice_index (others s p) (index_of k ts))) (sym is),
        )
    go false e = (many, ap (lowest_full top (others s p)) x.kept ∙ none_full top 0 (others s p) ts x.up_to (omega arith) e)

knows-to_b : (s : Setup) → IsGood s → (p : ℕ) (command : Command) (number : ℕ) (js ts : List ℕ) (values : Numbers) → Asked s p js ts values → KnowsTickets s p (to_b (call s p command number) js ts) values
knows-to_b s g p command number [] ts values x = to-c s g p command number ts values x
knows-to_b s g p command number (j ∷ js) ts values x = x

knows-to_e : (s : Setup) (p : ℕ) (ks : List ℕ) (vs : List Version) (values : Numbers) → KnowsTickets s p (to_e ks vs) values
knows-to_e s p [] vs values = tt
knows-to_e s p (k ∷ ks) vs values = tt

knows-to_d : (s : Setup) (p : ℕ) (c : Call) (t : ℕ) (ws : List Wait) (values : Numbers) → KnowsTickets s p (to_d c t ws) values
knows-to_d s p c t [] values = knows-to_e s p (processes c.setup) [] values
knows-to_d s p c t (w ∷ ws) values = tt

knows-to_g : (s : Setup) (p : ℕ) (c : Call) (vs : List Version) (st : Contents) (values : Numbers) → KnowsTickets s p (to_g c vs st) values
knows-to_g s p c vs st values = go (changes st c.command) (newest_stamp vs == max_of c.setup.stamp_bits)
  where
    go : (b d : Bool) → KnowsTickets s p (elim b as (λ _. Part) [ false ↦ Clears (answer.Reply (reply c st)) | true ↦ elim d as (λ _. Part) [ true ↦ Clears answer.StampsFull | false ↦ WritesImage vs st ] ]) values
    go false d = refl
    go true true = refl
    go true false = tt

-- one more ticket
asked-more : (s : Setup) (p j : ℕ) (js ts : List ℕ) (values : Numbers) (value : List Bool) → Asked s p (j ∷ js) ts values → length value ≡ s.ticket_bits →
    Asked s p js (ts ++ number_of_bits value ∷ []) (values ++ value ∷ [])
asked-more s p j js ts values value x long = record {
  kept = map-append number_of_bits values (value ∷ []) ∙ ap (λ l. l ++ number_of_bits value ∷ []) x.kept;
  done = x.done ++ j ∷ [];
  all = x.all ∙ sym (append_assoc x.done (j ∷ []) js);
  as_many = length_push x.done j ∙ ap (λ k. k + 1) x.as_many ∙ sym (length_push ts (number_of_bits value));
  up_to = up_to-push (max_of s.ticket_bits) ts (number_of_bits value) x.up_to
      (let fits = number-fits value in let same : 2 ^ length value ≡ 2 ^ s.ticket_bits = ap (λ k. 2 ^ k) long in omega (arith, fits, same));
}

-- after the last access of a part that writes
knows-written : (s : Setup) → IsGood s → (p : ℕ) (command : Command) (number : ℕ) (part : Part) (values : Numbers) → is_read part ≡ false → KnowsTickets s p part values →
    KnowsTickets s p (part_after (call s p command number) part []) values
knows-written s g p command number Raises values r h =
    knows-to_b s g p command number (others s p) [] values (record { kept = ap tickets h; done = []; all = refl; as_many = refl; up_to = tt })
knows-written s g p command number (TakesTicket t) values r h = h
knows-written s g p command number (Lowers t) values r h = knows-to_d s p (call s p command number) t (waits_of (call s p command number)) values
knows-written s g p command number (Refuses f) values r h = tt
knows-written s g p command number (WritesImage vs st) values r h = tt
knows-written s g p command number (WritesStamp vs st) values r h = tt
knows-written s g p command number (WritesCommit vs st) values r h = refl
knows-written s g p command number (Clears a) values r h = tt
knows-written s g p command number Over values r h = tt
knows-written s g p command number _ values r h = absurd (true≢false r)

-- after the last access of a part that reads
knows-read : (s : Setup) → IsGood s → (p : ℕ) (command : Command) (number : ℕ) (part : Part) (values : Numbers) (value : List Bool) → is_read part ≡ true → KnowsTickets s p part values →
    length value ≡ width s (read_at (call s p command number) part).1 → KnowsTickets s p (part_after (call s p command number) part value) (values ++ value ∷ [])
knows-read s g p command number (Asks j js ts) values value r h long =
    knows-to_b s g p command number js (ts ++ number_of_bits value ∷ []) (values ++ value ∷ []) (asked-more s p j js ts values value h long)
knows-read s g p command number (Waits t w ws) values value r h long = let c = call s p command number in knows-to_d s p c t (cond (lets_by c t w value) ws (w ∷ ws)) (values ++ value ∷ [])
knows-read s g p command number (AsksCommit k ks vs) values value r h long = tt
knows-read s g p command number (AsksStamp k ks vs b) values value r h long = knows-to_e s p ks (vs ++ (b, number_of_bits value) ∷ []) (values ++ value ∷ [])
knows-read s g p command number (AsksImage vs) values value r h long = let c = call s p command number in knows-to_g s p c vs (store_read c value) (values ++ value ∷ [])
knows-read s g p command number _ values value r h long = absurd (true≢false (sym r))

-- The next access.

new-reading : (c : Call) (part : Part) → IsReadingOf part (new_run c part) []
new-reading c part = go (is_read part) refl
  where
    go : (b : Bool) → is_read part ≡ b → IsReadingOf part (cond b (Reading [] false) (Writing (new_write (width c.setup (written_at c part).0)))) []
    go true h = (h, refl)
    go false h = (h, refl)

-- an access of a place, with its value, is what is read next
knows-next : (s : Setup) → IsGood s → (p : ℕ) (command : Command) (number : ℕ) (part : Part) (run : Run) (r : ReadSoFar) (v : Bool)
    → let c : Call = call s p command number in
    let a : Access = ended_with v (access_at c part run) in
    KnowsReads s p (record { part = part; run = run }) r → KnowsReads s p (place_after c (record { part = part; run = run }) (value_of a.how)) (with_access s (Some a) r)
knows-next s g p command number part (Reading bits false) r v x = record { reading = x.reading; knows = x.knows }
knows-next s g p command number part (Reading bits true) r v x = go (length bits + 1 == width s (read_at c part).1) refl
  where
    c : Call
    c = call s p command number

    go : (b : Bool) → (length bits + 1 == width s (read_at c part).1) ≡ b →
        KnowsReads s p (cond b (enter c (part_after c part (bits ++ v ∷ []))) (record { part = part; run = Reading (bits ++ v ∷ []) false }))
        (cond b (record { finished = r.finished ++ (r.bits ++ v ∷ []) ∷ []; bits = [] }) (record { finished = r.finished; bits = r.bits ++ v ∷ [] }))
    go true e = record {
      reading = new-reading c (part_after c part (bits ++ v ∷ []));
      knows = subst (λ l. KnowsTickets s p (part_after c part (bits ++ v ∷ [])) (r.finished ++ (l ++ v ∷ []) ∷ [])) (sym x.reading.1)
          (knows-read s g p command number part r.finished (bits ++ v ∷ []) x.reading.0 x.knows (length_push bits v ∙ eqb-true (length bits + 1) (width s (read_at c part).1) e));
    }
    go false e = record { reading = (x.reading.0, ap (λ l. l ++ v ∷ []) x.reading.1); knows = x.knows }
knows-next s g p command number part (Writing w) r v x = subst (λ q. KnowsReads s p (place_after c (record { part = part; run = Writing w }) (value_of a.how)) q) (sym nothing) (go (is_last c part (Writing w)))
  where
    c : Call
    c = call s p command number

    a : Access
    a = ended_with v (access_at c part (Writing w))

    nothing : with_access s (Some a) r ≡ r
    nothing = at ((bit_written (written_at c part).1 w).made % 2 == 0) (bit_written (written_at c part).1 w).value
      where
        at : (b u : Bool) → with_move (width s a.field) a.bit (ended v (if b then BeginWrite u else EndWrite)) r ≡ r
        at true u = refl
        at false u = refl

    go : (b : Bool) → KnowsReads s p (cond b (enter c (part_after c part [])) (record { part = part; run = run_after c part (Writing w) (value_of a.how) })) r
    go true = record {
      reading = subst (IsReadingOf (part_after c part []) (new_run c (part_after c part []))) (sym x.reading.1) (new-reading c (part_after c part []));
      knows = knows-written s g p command number part r.finished x.reading.0 x.knows;
    }
    go false = record { reading = x.reading; knows = x.knows }

-- Every record.

others-keep : (s : Setup) (past : Past) (e : Entry) (p : ℕ) (command : Command) (number : ℕ) (at : Place) → e.process ≢ p → KnowsAt s past p command number at → KnowsAt s (e ∷ past) p command number at
others-keep s past e p command number at apart h = subst (λ l. KnowsReads s p at (read_so_far s (since is_called l))) (sym (own-other p e past apart)) h

call-begins : (s : Setup) (past : Past) (e : Entry) (command : Command) (number : ℕ) → e.access ≡ None → e.marks ≡ Called command ∷ [] →
    KnowsAt s (e ∷ past) e.process command number (enter (call s e.process command number) Raises)
call-begins s past e command number a m = subst (KnowsReads s e.process (enter (call s e.process command number) Raises)) (sym none) (record { reading = (refl, refl); knows = refl })
  where
    none : read_in_call s e.process (e ∷ past) ≡ record { finished = []; bits = [] }
    none = ap (λ l. read_so_far s (since is_called l)) (own-own e.process e past refl)
        ∙ ap (λ b. read_so_far s (elim b as (λ _. Past) [ true ↦ [] | false ↦ e ∷ since is_called (own e.process past) ])) (ap (list_any is_called) m)

step-keeps : (s : Setup) → IsGood s → (past : Past) (e : Entry) (command : Command) (number : ℕ) (at : Place) (st : Stepping s past e.process e command number at) → KnowsAt s past e.process command number at →
    is_over (place_after (call s e.process command number) at (value_of st.access.how)).part ≡ false →
    KnowsAt s (e ∷ past) e.process command number (place_after (call s e.process command number) at (value_of st.access.how))
step-keeps s g past e command number at st h o =
    subst (λ (a : Access). KnowsReads s p (place_after c at (value_of a.how)) (read_in_call s p (e ∷ past))) (sym st.made)
    (subst (KnowsReads s p (place_after c at (value_of (ended_with v (access_at c at.part at.run)).how))) (sym more) (knows-next s g p command number at.part at.run (read_in_call s p past) v h))
  where
    p : ℕ
    p = e.process

    c : Call
    c = call s p command number

    v : Bool
    v = read_value (opening_bit s (access_at c at.part at.run)) (moves_of (access_at c at.part at.run) past) st.flick

    more : read_in_call s p (e ∷ past) ≡ with_access s (Some (ended_with v (access_at c at.part at.run))) (read_in_call s p past)
    more = ap (λ l. read_so_far s (since is_called l)) (own-own p e past refl) ∙ ap (read_so_far s) (since_called-plain e (own p past) (plain-stepping s past p e command number at st))
        ∙ ap (λ a. with_access s a (read_in_call s p past)) (st.is ∙ ap Some st.made)

pub knows : (s : Setup) → IsGood s → (events : List Event) (p : ℕ) → AtPlace (KnowsAt s (past_of s events) p) (doing s p (past_of s events))
knows s g = place-induction s g (KnowsAt s) (others-keep s) (call-begins s) (step-keeps s g)
