-- The place of a process in its local program: the register access that it is making, and what it knows.
use Rattle.std.specs.Prelude.{◌≡◌, refl, ℕ, ◌+◌, ◌==◌, Bool, true, false, cond, List, [], ◌∷◌, ◌++◌}
use Rattle.std.proofs.Common.{sym, ap}
use Rattle.model.specs.declared.access.Field.TheVariants.{Choosing, Ticket}
use Rattle.plain_store.specs.declared.Answer.TheVariants.{Reply, TicketsFull, StampsFull}
use Rattle.model.specs.declared.marks.Mark.TheVariants.{Waiting, Answered}
use Rattle.plain_store.specs.{Contents, changes}
use Rattle.model.specs.{Call, Numbers, Portion, Script, Version, Wait, change, entered_if_none, first_full, greatest, lets_by, local_program, max_of, newest_stamp, none, others, part_b, part_c, part_d, part_e, part_f, part_g, part_h, processes, reply, stamp_field, store_read, then_read, waits_of, writing}
use Rattle.safe_number.specs.{bits_of_number, number_of_bits}
use Rattle.model.specs.Parts.{Part, Raises, Asks, TakesTicket, Lowers, Refuses, Waits, AsksCommit, AsksStamp, AsksImage, WritesImage, WritesStamp, WritesCommit, Clears, Over, is_read, is_over, doing, first_marks, last_marks, part_after, to_b, to_c, to_d, to_e, to_g}

abbrev pub portion : Call → Part → List Bool → Portion
portion c part v = record { accesses = doing c part; first = first_marks part; last = last_marks c part v }

-- the rest of the script from there on
abbrev pub rest : Call → Part → Numbers → Script
rest c Raises reads = local_program c reads
rest c (Asks j js ts) reads = part_b c (j ∷ js) ts reads
rest c (TakesTicket t) reads = portion c (TakesTicket t) [] ∷ portion c (Lowers t) [] ∷ part_d c t reads (waits_of c)
rest c (Lowers t) reads = portion c (Lowers t) [] ∷ part_d c t reads (waits_of c)
rest c (Refuses f) reads = portion c (Refuses f) [] ∷ []
rest c (Waits t w ws) reads = part_d c t reads (w ∷ ws)
rest c (AsksCommit k ks vs) reads = part_e c (k ∷ ks) vs reads
rest c (AsksStamp k ks vs b) reads = then_read c k (stamp_field b) none (λ v. part_e c ks (vs ++ (b, number_of_bits v) ∷ [])) reads
rest c (AsksImage vs) reads = part_f c vs reads
rest c (WritesImage vs st) reads = change c vs st
rest c (WritesStamp vs st) reads = portion c (WritesStamp vs st) [] ∷ portion c (WritesCommit vs st) [] ∷ part_h c (Reply (reply c st))
rest c (WritesCommit vs st) reads = portion c (WritesCommit vs st) [] ∷ part_h c (Reply (reply c st))
rest c (Clears a) reads = part_h c a
rest c Over reads = []

pub rest-to_e : (c : Call) (ks : List ℕ) (vs : List Version) (more : Numbers) → rest c (to_e ks vs) more ≡ part_e c ks vs more
rest-to_e c [] vs more = refl
rest-to_e c (k ∷ ks) vs more = refl

pub rest-to_d : (c : Call) (t : ℕ) (ws : List Wait) (more : Numbers) → rest c (to_d c t ws) more ≡ part_d c t more ws
rest-to_d c t [] more = rest-to_e c (processes c.setup) [] more
rest-to_d c t (w ∷ ws) more = refl

pub rest-to_c : (c : Call) (ts : List ℕ) (more : Numbers) → rest c (to_c c ts) more ≡ part_c c ts more
rest-to_c c ts more = elim (greatest ts == max_of c.setup.ticket_bits) as (λ b.
    rest c (elim b [ true ↦ Refuses (first_full c ts) | false ↦ TakesTicket (greatest ts + 1) ]) more
    ≡ elim b [
      | true ↦ writing c Choosing (false ∷ []) [] (Answered (TicketsFull (first_full c ts)) ∷ []) ∷ []
      | false ↦
          writing c Ticket (bits_of_number c.setup.ticket_bits (greatest ts + 1)) [] []
          ∷ writing c Choosing (false ∷ []) [] (Waiting (greatest ts + 1) ∷ entered_if_none (waits_of c))
          ∷ part_d c (greatest ts + 1) more (waits_of c)
    ]) [ true ↦ refl | false ↦ refl ]

pub rest-to_b : (c : Call) (js ts : List ℕ) (more : Numbers) → rest c (to_b c js ts) more ≡ part_b c js ts more
rest-to_b c [] ts more = rest-to_c c ts more
rest-to_b c (j ∷ js) ts more = refl

pub rest-to_g : (c : Call) (vs : List Version) (st : Contents) (more : Numbers) → rest c (to_g c vs st) more ≡ part_g c vs st
rest-to_g c vs st more = go (changes st c.command) (newest_stamp vs == max_of c.setup.stamp_bits)
  where
    go : (b d : Bool) → rest c (elim b [ false ↦ Clears (Reply (reply c st)) | true ↦ elim d [ true ↦ Clears StampsFull | false ↦ WritesImage vs st ] ]) more
        ≡ elim b [ false ↦ part_h c (Reply (reply c st)) | true ↦ elim d [ true ↦ part_h c StampsFull | false ↦ change c vs st ] ]
    go false d = refl
    go true true = refl
    go true false = refl

-- a part that reads: with no value yet the script ends with it; with one, it goes on
pub rest-unread : (c : Call) (part : Part) → is_read part ≡ true → rest c part [] ≡ record { accesses = doing c part; first = []; last = [] } ∷ []
rest-unread c Raises h = cc
rest-unread c (Asks j js ts) h = refl
rest-unread c (TakesTicket t) h = cc
rest-unread c (Lowers t) h = cc
rest-unread c (Refuses f) h = cc
rest-unread c (Waits t w ws) h = refl
rest-unread c (AsksCommit k ks vs) h = refl
rest-unread c (AsksStamp k ks vs b) h = refl
rest-unread c (AsksImage vs) h = refl
rest-unread c _ h = cc

pub rest-read : (c : Call) (part : Part) (v : List Bool) (more : Numbers) → is_read part ≡ true → rest c part (v ∷ more) ≡ portion c part v ∷ rest c (part_after c part v) more
rest-read c Raises v more h = cc
rest-read c (Asks j js ts) v more h = ap (λ t. portion c (Asks j js ts) v ∷ t) (sym (rest-to_b c js (ts ++ number_of_bits v ∷ []) more))
rest-read c (TakesTicket t) v more h = cc
rest-read c (Lowers t) v more h = cc
rest-read c (Refuses f) v more h = cc
rest-read c (Waits t w ws) v more h = ap (λ r. portion c (Waits t w ws) v ∷ r) (sym (rest-to_d c t (cond (lets_by c t w v) ws (w ∷ ws)) more))
rest-read c (AsksCommit k ks vs) v more h = refl
rest-read c (AsksStamp k ks vs b) v more h = ap (λ r. portion c (AsksStamp k ks vs b) v ∷ r) (sym (rest-to_e c ks (vs ++ (b, number_of_bits v) ∷ []) more))
rest-read c (AsksImage vs) v more h = ap (λ r. portion c (AsksImage vs) v ∷ r) (sym (rest-to_g c vs (store_read c v) more))
rest-read c _ v more h = cc

pub rest-write : (c : Call) (part : Part) (more : Numbers) → is_read part ≡ false → is_over part ≡ false → rest c part more ≡ portion c part [] ∷ rest c (part_after c part []) more
rest-write c Raises more h o = ap (λ r. portion c Raises [] ∷ r) (sym (rest-to_b c (others c.setup c.process) [] more))
rest-write c (Asks j js ts) more h o = cc
rest-write c (TakesTicket t) more h o = refl
rest-write c (Lowers t) more h o = ap (λ r. portion c (Lowers t) [] ∷ r) (sym (rest-to_d c t (waits_of c) more))
rest-write c (Refuses f) more h o = refl
rest-write c (Waits t w ws) more h o = cc
rest-write c (AsksCommit k ks vs) more h o = cc
rest-write c (AsksStamp k ks vs b) more h o = cc
rest-write c (AsksImage vs) more h o = cc
rest-write c (WritesImage vs st) more h o = refl
rest-write c (WritesStamp vs st) more h o = refl
rest-write c (WritesCommit vs st) more h o = refl
rest-write c (Clears a) more h o = refl
rest-write c Over more h o = cc
