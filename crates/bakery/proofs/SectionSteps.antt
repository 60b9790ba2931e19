-- The results of accesses of a section, and their marks.
use Rattle.std.proofs.Common.{◌≡◌, ℕ, ◌==◌, Bool, true, false, cond, List, [], ◌∷◌, ◌++◌, Option, is_some, refl, sym, ap, subst, ◌∙◌}
use Rattle.plain_store.specs.{Answer, Contents, changes}
use Rattle.plain_store.specs.declared.Answer.TheVariants as answer
use Rattle.model.specs.{Call, Mark, Place, Version, bits_with, enter, is_fresh, is_last, marks_of, max_of, newest_stamp, pending_at, place_after, reply, run_after, store_read}
use Rattle.model.specs.declared.marks.Mark.TheVariants as mark
use Rattle.model.specs.Parts.{Part, Raises, Asks, TakesTicket, Lowers, Refuses, Waits, AsksCommit, AsksStamp, AsksImage, WritesImage, WritesStamp, WritesCommit, Clears, Over, first_marks, is_over, last_marks, part_after, to_e, to_g}
use Rattle.process.specs.laws.{Doing, Rests, Lies, Runs, Closes, call, runs}
use Rattle.process.specs.{ProcessState, answer_at, answer_of, change_of, changes_at, changes_read, marks_on, may_step, stepped}
use Rattle.bakery.specs.{SectionProgress}
use Rattle.bakery.specs.Sections.{goes, goes_on, is_going, is_of_data, marks_reported, progress_on, reported_at}

-- a part from E to G
data OfData : Part → Type 0 where
  commit : (k : ℕ) (ks : List ℕ) (vs : List Version) → OfData (AsksCommit k ks vs)
  stamp : (k : ℕ) (ks : List ℕ) (vs : List Version) (b : Bool) → OfData (AsksStamp k ks vs b)
  image : (vs : List Version) → OfData (AsksImage vs)
  new_image : (vs : List Version) (st : Contents) → OfData (WritesImage vs st)
  new_stamp : (vs : List Version) (st : Contents) → OfData (WritesStamp vs st)
  new_commit : (vs : List Version) (st : Contents) → OfData (WritesCommit vs st)

of-data : (part : Part) → is_of_data part ≡ true → OfData part
of-data Raises is = absurd (cc)
of-data (Asks j js ts) is = absurd (cc)
of-data (TakesTicket t) is = absurd (cc)
of-data (Lowers t) is = absurd (cc)
of-data (Refuses full) is = absurd (cc)
of-data (Waits t w ws) is = absurd (cc)
of-data (AsksCommit k ks vs) is = commit k ks vs
of-data (AsksStamp k ks vs b) is = stamp k ks vs b
of-data (AsksImage vs) is = image vs
of-data (WritesImage vs st) is = new_image vs st
of-data (WritesStamp vs st) is = new_stamp vs st
of-data (WritesCommit vs st) is = new_commit vs st
of-data (Clears a) is = absurd (cc)
of-data Over is = absurd (cc)

-- the result of an access from a part to the next one
abbrev outcome_before : Call → (part next : Part) → SectionProgress
outcome_before c part next = reported_at (changes_at part) (answer_at next) (is_some (pending_at c next))

record IsSaid (c : Call) (part next : Part) (made : List Mark) : Type 0 where
  going : is_of_data next ≡ goes_on (outcome_before c part next)
  marks : marks_reported (outcome_before c part next) ≡ made
  live : is_over next ≡ false

-- within a number access
said-within : (c : Call) (part : Part) → OfData part → IsSaid c part part []
said-within c part (commit k ks vs) = record { going = refl; marks = refl; live = refl }
said-within c part (stamp k ks vs b) = record { going = refl; marks = refl; live = refl }
said-within c part (image vs) = record { going = refl; marks = refl; live = refl }
said-within c part (new_image vs st) = record { going = refl; marks = refl; live = refl }
said-within c part (new_stamp vs st) = record { going = refl; marks = refl; live = refl }
said-within c part (new_commit vs st) = record { going = refl; marks = refl; live = refl }

said-stamp : (c : Call) (part : Part) (ks : List ℕ) (vs : List Version) → changes_at part ≡ 0 → IsSaid c part (to_e ks vs) []
said-stamp c part [] vs none = record { going = refl; marks = refl; live = refl }
said-stamp c part (k ∷ ks) vs none = record { going = refl; marks = refl; live = refl }

said-image : (c : Call) (vs : List Version) (st : Contents) → IsSaid c (AsksImage vs) (to_g c vs st) (cond (changes st c.command) [] (mark.Taken 0 (reply c st) ∷ []))
said-image c vs st = by (changes st c.command) (newest_stamp vs == max_of c.setup.stamp_bits)
  where
    by : (b full : Bool) → IsSaid c (AsksImage vs) (elim b as (λ _. Part) [
      | false ↦ Clears (answer.Reply (reply c st))
      | true ↦ elim full as (λ _. Part) [ true ↦ Clears answer.StampsFull | false ↦ WritesImage vs st ]
    ]) (cond b [] (mark.Taken 0 (reply c st) ∷ []))
    by false full = record { going = refl; marks = refl; live = refl }
    by true true = record { going = refl; marks = refl; live = refl }
    by true false = record { going = refl; marks = refl; live = refl }

-- at the end of one
said-over : (c : Call) (part : Part) → OfData part → (bits : List Bool) → IsSaid c part (part_after c part bits) (last_marks c part bits)
said-over c part (commit k ks vs) bits = record { going = refl; marks = refl; live = refl }
said-over c part (stamp k ks vs b) bits = said-stamp c (AsksStamp k ks vs b) ks _ refl
said-over c part (image vs) bits = said-image c vs (store_read c bits)
said-over c part (new_image vs st) bits = record { going = refl; marks = refl; live = refl }
said-over c part (new_stamp vs st) bits = record { going = refl; marks = refl; live = refl }
said-over c part (new_commit vs st) bits = record { going = refl; marks = refl; live = refl }

unmarked : (part : Part) → OfData part → (fresh : Bool) → cond fresh (first_marks part) [] ≡ []
unmarked part (commit k ks vs) true = refl
unmarked part (stamp k ks vs b) true = refl
unmarked part (image vs) true = refl
unmarked part (new_image vs st) true = refl
unmarked part (new_stamp vs st) true = refl
unmarked part (new_commit vs st) true = refl
unmarked part is false = refl

said : (c : Call) (at : Place) (v : Bool) → OfData at.part → IsSaid c at.part (place_after c at v).part (marks_of c at v)
said c at v is =
    subst (IsSaid c at.part (place_after c at v).part) (sym (ap (λ (first : List Mark). first ++ cond (is_last c at.part at.run) (last_marks c at.part (bits_with at.run v)) []) (unmarked at.part is (is_fresh at.run)))) (by is (is_last c at.part at.run))
  where
    by : OfData at.part → (b : Bool) →
        let next : Place = cond b (enter c (part_after c at.part (bits_with at.run v))) (record { part = at.part; run = run_after c at.part at.run v }) in
        IsSaid c at.part next.part (cond b (last_marks c at.part (bits_with at.run v)) [])
    by is true = said-over c at.part is (bits_with at.run v)
    by is false = said-within c at.part is

-- a section that goes is a process that does
going-by : (d : Doing) → goes d ≡ true → may_step d ≡ true
going-by Rests going = absurd (cc)
going-by Lies going = absurd (cc)
going-by (Runs command number at) going = refl
going-by (Closes command number at) going = absurd (cc)

-- the result of its step
pub record IsReported (now : ProcessState) (flick v : Bool) : Type 0 where
  pub going : is_going (stepped now flick v) ≡ goes_on (progress_on now (stepped now flick v))
  pub marks : marks_reported (progress_on now (stepped now flick v)) ≡ marks_on now flick v

reported-by : (now : ProcessState) (d : Doing) (flick v : Bool) → goes d ≡ true → IsReported (record now { doing = d }) flick v
reported-by now Rests flick v going = absurd (cc)
reported-by now Lies flick v going = absurd (cc)
reported-by now (Closes command number at) flick v going = absurd (cc)
reported-by now (Runs command number at) flick v going =
    let c : Call = call now.setup now.process command number in
    let s = said c at v (of-data at.part going) in
    let runs-on : runs command number (place_after c at v) ≡ Runs command number (place_after c at v) = ap (λ b. cond b Rests (Runs command number (place_after c at v))) s.live in
    let before : ProcessState = record now { doing = Runs command number at } in
    record {
      going = subst (λ d. goes d ≡ goes_on (progress_on before (record now { doing = d }))) (sym runs-on) s.going;
      marks = subst (λ d. marks_reported (progress_on before (record now { doing = d })) ≡ marks_of c at v) (sym runs-on) s.marks;
    }

pub reported : (now : ProcessState) (flick v : Bool) → is_going now ≡ true → IsReported now flick v
reported now flick v going = reported-by now now.doing flick v going

-- the result as the code computes it
pub reported-is : {changes : ℕ} {a : Option Answer} {writes : Bool} (now place then : ProcessState) (flick v : Bool) → place ≡ now → then ≡ stepped now flick v → changes ≡ changes_read place.doing → a ≡ answer_of then.doing → writes ≡ is_some (change_of then.setup then.process then.doing) →
    reported_at changes a writes ≡ progress_on now (stepped now flick v)
reported-is now place then flick v same goes changes a writes =
    (λ i. reported_at (changes i) (a i) (writes i))
    ∙ (λ i. reported_at (changes_read (same i).doing) (answer_of (goes i).doing) (is_some (change_of (goes i).setup (goes i).process (goes i).doing)))
