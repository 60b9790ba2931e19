-- The marks of a step of a call, by its part.
use Rattle.std.proofs.Common.{◌≡◌, ℕ, ◌+◌, ◌==◌, ◌<◌, Bool, true, false, cond, List, [], ◌∷◌, ◌++◌, length, map, refl, sym, ap, subst, ◌∙◌, arith, append-nil}
use Rattle.std.specs.List.{list_any}
use Rattle.plain_store.specs.declared.Answer.TheVariants as answer
use Rattle.plain_store.specs.{Command, Reply, changes}
use Rattle.model.specs.{Call, IsAnswerTo, Mark, Place, Version, Wait, bits_with, ends_span, enter, entered_if_none, first_full, greatest, is_called, is_failed, is_fresh, is_last, lets_by, marks_of, max_of, newest_stamp, others, place_after, placed, processes, reply, run_after, store_read, takings, waits_of}
use Rattle.model.specs.declared.marks.Mark.TheVariants.{Waiting, Taken, Left, Answered}
use Rattle.model.specs.Parts.{Part, Raises, Asks, TakesTicket, Lowers, Refuses, Waits, AsksCommit, AsksStamp, AsksImage, WritesImage, WritesStamp, WritesCommit, Clears, Over, is_over, first_marks, last_marks, part_after, to_b, to_c, to_d, to_e}
use Rattle.laws.specs.{Runs, Rests, runs}
use Rattle.history_laws.proofs.Took.{TookAt, EachAnswer, Gives, Reports, Silent, unmarked, no_answer, kept, few, part-few}

-- the marks with which a call moves to a part
record PartReports (taken : List (ℕ × Reply)) (ms : List Mark) (to : Part) : Type 0 where
  pub one : length (takings ms) < 2
  pub answers : EachAnswer (Gives true (taken ++ takings ms)) ms
  pub uncalled : list_any is_called ms ≡ false
  pub unfailed : list_any is_failed ms ≡ false
  pub took : TookAt to (taken ++ takings ms)
  pub unended : is_over to ≡ false → list_any ends_span ms ≡ false

silent-part : (taken : List (ℕ × Reply)) (ms : List Mark) (to : Part) → Silent ms → TookAt to taken → PartReports taken ms to
silent-part taken ms to s h = record {
  one = few (takings ms) s.taken;
  answers = no_answer (Gives true (taken ++ takings ms)) ms s.ended;
  uncalled = s.called;
  unfailed = s.failed;
  took = kept (TookAt to) taken (takings ms) s.taken h;
  unended = λ o. s.ended;
}

-- nothing was taken before, and is now
early : (taken : List (ℕ × Reply)) (ms : List Mark) (to : Part) → taken ≡ [] → Silent ms → TookAt to [] → PartReports taken ms to
early taken ms to none s h = silent-part taken ms to s (subst (TookAt to) (sym none) h)

-- The parts to which a call moves without a taken command.

to-c : (c : Call) (ts : List ℕ) → TookAt (to_c c ts) []
to-c c ts = go (greatest ts == max_of c.setup.ticket_bits)
  where
    go : (b : Bool) → TookAt (elim b as (λ _. Part) [ true ↦ Refuses (first_full c ts) | false ↦ TakesTicket (greatest ts + 1) ]) []
    go true = refl
    go false = refl

to-b : (c : Call) (js ts : List ℕ) → TookAt (to_b c js ts) []
to-b c [] ts = to-c c ts
to-b c (j ∷ js) ts = refl

to-e : (ks : List ℕ) (vs : List Version) → TookAt (to_e ks vs) []
to-e [] vs = refl
to-e (k ∷ ks) vs = refl

to-d : (c : Call) (t : ℕ) (ws : List Wait) → TookAt (to_d c t ws) []
to-d c t [] = to-e (processes c.setup) []
to-d c t (w ∷ ws) = refl

-- Silent marks.

entered : (n : ℕ) (ws : List Wait) → Silent (map (placed n) (entered_if_none ws))
entered n [] = record { taken = refl; called = refl; failed = refl; ended = refl }
entered n (w ∷ ws) = unmarked

entered-by : (n : ℕ) (ws : List Wait) (b : Bool) → Silent (map (placed n) (cond b (entered_if_none ws) []))
entered-by n ws true = entered n ws
entered-by n ws false = unmarked

waiting : (n t : ℕ) (ws : List Wait) → Silent (map (placed n) (Waiting t ∷ entered_if_none ws))
waiting n t ws = let s = entered n ws in record { taken = s.taken; called = s.called; failed = s.failed; ended = s.ended }

first-silent : (n : ℕ) (part : Part) (fresh : Bool) → Silent (map (placed n) (cond fresh (first_marks part) [] ++ []))
first-silent n part false = unmarked
first-silent n (Clears a) true = record { taken = refl; called = refl; failed = refl; ended = refl }
first-silent n _ true = unmarked

-- nothing marks the first access
unmarked-first : (X : List Mark → Type 0) (fresh : Bool) (ms : List Mark) → X ms → X (cond {A = List Mark} fresh [] [] ++ ms)
unmarked-first X true ms h = h
unmarked-first X false ms h = h

-- The last access of a part.

-- the command is taken, and the call moves to its last part
takes : (taken : List (ℕ × Reply)) (n : ℕ) (r : Reply) → taken ≡ [] → PartReports taken (Taken n r ∷ []) (Clears (answer.Reply r))
takes taken n r h = record { one = omega arith; answers = tt; uncalled = refl; unfailed = refl; took = (n, ap (λ l. l ++ (n, r) ∷ []) h); unended = λ o. refl }

image-reports : (c : Call) (vs : List Version) (bits : List Bool) (n : ℕ) (taken : List (ℕ × Reply)) → taken ≡ [] → PartReports taken (map (placed n) (last_marks c (AsksImage vs) bits)) (part_after c (AsksImage vs) bits)
image-reports c vs bits n taken h = go (changes (store_read c bits) c.command)
  where
    r : Reply
    r = reply c (store_read c bits)

    on : Bool → Part
    on b = elim b as (λ _. Part) [ true ↦ Clears answer.StampsFull | false ↦ WritesImage vs (store_read c bits) ]

    writes : (b : Bool) → TookAt (on b) []
    writes true = refl
    writes false = refl

    go : (b : Bool) → PartReports taken (map (placed n) (cond b [] (Taken 0 r ∷ []))) (elim b as (λ _. Part) [ false ↦ Clears (answer.Reply r) | true ↦ on (newest_stamp vs == max_of c.setup.stamp_bits) ])
    go false = takes taken n r h
    go true = early taken [] (on (newest_stamp vs == max_of c.setup.stamp_bits)) h unmarked (writes (newest_stamp vs == max_of c.setup.stamp_bits))

last-reports : (c : Call) (part : Part) (bits : List Bool) (n : ℕ) (fresh : Bool) (taken : List (ℕ × Reply)) → is_over part ≡ false → TookAt part taken →
    PartReports taken (map (placed n) (cond fresh (first_marks part) [] ++ last_marks c part bits)) (part_after c part bits)
last-reports c part bits n fresh taken o h = go part o h
  where
    X : Part → List Mark → Type 0
    X to ms = PartReports taken (map (placed n) ms) to

    none : (to : Part) → taken ≡ [] → TookAt to [] → X to (cond {A = List Mark} fresh [] [] ++ [])
    none to h t = unmarked-first (X to) fresh [] (early taken [] to h unmarked t)

    go : (part : Part) → is_over part ≡ false → TookAt part taken → PartReports taken (map (placed n) (cond fresh (first_marks part) [] ++ last_marks c part bits)) (part_after c part bits)
    go Raises o h = none (to_b c (others c.setup c.process) []) h (to-b c (others c.setup c.process) [])
    go (Asks j js ts) o h = none (part_after c (Asks j js ts) bits) h (to-b c js _)
    go (TakesTicket t) o h = none (Lowers t) h refl
    go (Lowers t) o h = unmarked-first (X (to_d c t (waits_of c))) fresh (last_marks c (Lowers t) bits) (early taken _ (to_d c t (waits_of c)) h (waiting n t (waits_of c)) (to-d c t (waits_of c)))
    go (Refuses f) o h = unmarked-first (X Over) fresh (last_marks c (Refuses f) bits)
        (record { one = omega arith; answers = ((append-nil taken ∙ h, refl), tt); uncalled = refl; unfailed = refl; took = kept (λ l. length l < 2) taken [] refl (few taken h); unended = λ x. cc })
    go (Waits t w ws) o h = unmarked-first (X (part_after c (Waits t w ws) bits)) fresh (last_marks c (Waits t w ws) bits)
        (early taken _ (part_after c (Waits t w ws) bits) h (entered-by n ws (lets_by c t w bits)) (to-d c t _))
    go (AsksCommit k ks vs) o h = none (part_after c (AsksCommit k ks vs) bits) h refl
    go (AsksStamp k ks vs b) o h = none (part_after c (AsksStamp k ks vs b) bits) h (to-e ks _)
    go (AsksImage vs) o h = unmarked-first (X (part_after c (AsksImage vs) bits)) fresh (last_marks c (AsksImage vs) bits) (image-reports c vs bits n taken h)
    go (WritesImage vs st) o h = none (WritesStamp vs st) h refl
    go (WritesStamp vs st) o h = none (WritesCommit vs st) h refl
    go (WritesCommit vs st) o h = unmarked-first (X (Clears (answer.Reply (reply c st)))) fresh (last_marks c (WritesCommit vs st) bits) (takes taken n (reply c st) h)
    go (Clears a) o h = clears fresh
      where
        clears : (b : Bool) → X Over (cond b (Left ∷ []) [] ++ Answered a ∷ [])
        clears true = record { one = omega arith; answers = ((kept (IsAnswerTo a) taken [] refl h, refl), tt); uncalled = refl; unfailed = refl; took = kept (λ l. length l < 2) taken [] refl (part-few (Clears a) taken h); unended = λ x. cc }
        clears false = record { one = omega arith; answers = ((kept (IsAnswerTo a) taken [] refl h, refl), tt); uncalled = refl; unfailed = refl; took = kept (λ l. length l < 2) taken [] refl (part-few (Clears a) taken h); unended = λ x. cc }
    go Over o h = cc

-- any access
place-reports : (c : Call) (at : Place) (v : Bool) (n : ℕ) (taken : List (ℕ × Reply)) → is_over at.part ≡ false → TookAt at.part taken → PartReports taken (map (placed n) (marks_of c at v)) (place_after c at v).part
place-reports c at v n taken o h = go (is_last c at.part at.run)
  where
    bits : List Bool
    bits = bits_with at.run v

    go : (b : Bool) → PartReports taken (map (placed n) (cond (is_fresh at.run) (first_marks at.part) [] ++ cond b (last_marks c at.part bits) []))
        (cond b (enter c (part_after c at.part bits)) (record { part = at.part; run = run_after c at.part at.run v })).part
    go true = last-reports c at.part bits n (is_fresh at.run) taken o h
    go false = silent-part taken _ at.part (first-silent n at.part (is_fresh at.run)) h

-- The marks of a step.
pub step-reports : (c : Call) (command : Command) (number : ℕ) (at : Place) (v : Bool) (n : ℕ) (taken : List (ℕ × Reply)) → is_over at.part ≡ false → TookAt at.part taken →
    Reports taken (Runs command number at) (runs command number (place_after c at v)) (map (placed n) (marks_of c at v))
step-reports c command number at v n taken o h = go (is_over to.part) refl
  where
    to : Place
    to = place_after c at v

    ms : List Mark
    ms = map (placed n) (marks_of c at v)

    t : PartReports taken ms to.part
    t = place-reports c at v n taken o h

    go : (b : Bool) → is_over to.part ≡ b → Reports taken (Runs command number at) (cond b Rests (Runs command number to)) ms
    go true k = record { one = t.one; answers = t.answers; uncalled = t.uncalled; took = part-few to.part (taken ++ takings ms) t.took; uncut = λ x. cc; unended = λ x. cc; quiet = λ x. cc }
    go false k = record { one = t.one; answers = t.answers; uncalled = t.uncalled; took = t.took; uncut = λ x. (t.unfailed, refl); unended = λ x. (t.unended k, refl); quiet = λ x. cc }
