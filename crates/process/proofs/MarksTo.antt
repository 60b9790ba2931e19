-- The part that comes next determines the marks on the last access of a part.
use Rattle.std.proofs.Common.{◌≡◌, ℕ, Bool, true, false, cond, List, [], ◌∷◌, ◌==◌, refl, sym, ap, ◌∙◌}
use Rattle.plain_store.specs.declared.Answer.TheVariants as answer
use Rattle.plain_store.specs.{Contents, Reply, changes}
use Rattle.model.specs.{Call, Mark, Version, Wait, entered_if_none, lets_by, max_of, newest_stamp, processes, reply, store_read, waits_of}
use Rattle.model.specs.declared.marks.Mark.TheVariants as mark
use Rattle.model.specs.Parts.{Part, Raises, Asks, TakesTicket, Lowers, Refuses, Waits, AsksCommit, AsksStamp, AsksImage, WritesImage, WritesStamp, WritesCommit, Clears, Over, last_marks, part_after, to_d, to_e, to_g}
use Rattle.process.specs.{ProgramPoint, marks_lowered, marks_taken, marks_to, marks_waited, part_at, reads_image, versions_seen}
use Rattle.process.specs.declared.part.ProgramPoint.TheVariants as at
use Rattle.process.specs.declared.values_read.ValuesRead.{ValuesRead}

inside-waited : (ks : List ℕ) (vs : List Version) → marks_waited (to_e ks vs) ≡ mark.Entered ∷ []
inside-waited [] vs = refl
inside-waited (k ∷ ks) vs = refl

inside-lowered : (t : ℕ) (ks : List ℕ) (vs : List Version) → marks_lowered t (to_e ks vs) ≡ mark.Waiting t ∷ mark.Entered ∷ []
inside-lowered t [] vs = refl
inside-lowered t (k ∷ ks) vs = refl

lowered : (c : Call) (t : ℕ) (ws : List Wait) → mark.Waiting t ∷ entered_if_none ws ≡ marks_lowered t (to_d c t ws)
lowered c t [] = sym (inside-lowered t (processes c.setup) [])
lowered c t (w ∷ ws) = refl

waited : (c : Call) (t : ℕ) (w : Wait) (ws : List Wait) (by : Bool) → cond by (entered_if_none ws) [] ≡ marks_waited (to_d c t (cond by ws (w ∷ ws)))
waited c t w [] true = sym (inside-waited (processes c.setup) [])
waited c t w (x ∷ ws) true = refl
waited c t w ws false = refl

taken : (r : Reply) (vs : List Version) (st : Contents) (change full : Bool) →
    cond change (let none : List Mark = [] in none) (mark.Taken 0 r ∷ []) ≡ marks_taken (elim change [ false ↦ Clears (answer.Reply r) | true ↦ elim full [ true ↦ Clears answer.StampsFull | false ↦ WritesImage vs st ] ])
taken r vs st false full = refl
taken r vs st true true = refl
taken r vs st true false = refl

pub marks-to : (c : Call) (part : Part) (bits : List Bool) → last_marks c part bits ≡ marks_to part (part_after c part bits)
marks-to c Raises bits = refl
marks-to c (Asks j js ts) bits = refl
marks-to c (TakesTicket t) bits = refl
marks-to c (Lowers t) bits = lowered c t (waits_of c)
marks-to c (Refuses full) bits = refl
marks-to c (Waits t w ws) bits = waited c t w ws (lets_by c t w bits)
marks-to c (AsksCommit k ks vs) bits = refl
marks-to c (AsksStamp k ks vs b) bits = refl
marks-to c (AsksImage vs) bits = taken (reply c (store_read c bits)) vs (store_read c bits) (changes (store_read c bits) c.command) (newest_stamp vs == max_of c.setup.stamp_bits)
marks-to c (WritesImage vs st) bits = refl
marks-to c (WritesStamp vs st) bits = refl
marks-to c (WritesCommit vs st) bits = refl
marks-to c (Clears a) bits = refl
marks-to c Over bits = refl

-- only one part reads the image
image-part : (c : Call) (seen : ValuesRead) (part : ProgramPoint) → reads_image (part_at c seen part) ≡ true → part ≡ at.AsksImage
image-part c seen at.Raises reads = absurd (cc)
image-part c seen (at.Asks j) reads = absurd (cc)
image-part c seen (at.TakesTicket t) reads = absurd (cc)
image-part c seen (at.Lowers t) reads = absurd (cc)
image-part c seen (at.Refuses full) reads = absurd (cc)
image-part c seen (at.AwaitsChoosing t j) reads = absurd (cc)
image-part c seen (at.AwaitsTicket t j) reads = absurd (cc)
image-part c seen (at.AsksCommit k) reads = absurd (cc)
image-part c seen (at.AsksStamp k b) reads = absurd (cc)
image-part c seen at.AsksImage reads = refl
image-part c seen at.WritesImage reads = absurd (cc)
image-part c seen at.WritesStamp reads = absurd (cc)
image-part c seen at.WritesCommit reads = absurd (cc)
image-part c seen (at.Clears a) reads = absurd (cc)
image-part c seen at.Over reads = absurd (cc)

pub after-image : (c : Call) (seen : ValuesRead) (part : ProgramPoint) (bits : List Bool) (store : Contents) (next : Part) → reads_image (part_at c seen part) ≡ true → store_read c bits ≡ store →
    next ≡ to_g c (versions_seen c.setup.processes seen) store → next ≡ part_after c (part_at c seen part) bits
after-image c seen part bits store next reads is goes =
    goes ∙ ap (to_g c (versions_seen c.setup.processes seen)) (sym is)
    ∙ ap (λ p. part_after c (part_at c seen p) bits) (sym (image-part c seen part reads))
