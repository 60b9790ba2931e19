-- Each entry of a read in the critical section keeps the data: it writes no register, and the command that the last one may take changes nothing.
use Rattle.std.proofs.Common.{◌≡◌, ◌≢◌, ℕ, ◌+◌, ◌<◌, ◌==◌, Bool, true, false, cond, List, [], ◌∷◌, ◌++◌, length, map, Option, Some, None, refl, sym, ap, subst, ◌∙◌, inl, inr, eqb-true}
use Rattle.std.proofs.lemmas.Bool.{and_parts, cases_eq, false≢true}
use Rattle.model.specs.safe_bit.{is_of_write}
use Rattle.model.specs.{Access, AsksCommit, AsksImage, AsksStamp, Call, Entry, Event, Part, Past, Place, Reading, Run, Version, Writing, access_at, before_image_read, bits_with, entry_of, history, is_fresh, is_image, is_last, is_read, last_call, last_marks, marks_of, own, past_of, place_after, placed, read_at, reply, reply_taken, store_after, store_read, value_of, valued, width}
use Rattle.plain_store.specs.{Command, Contents, Reply, Setup, changes}
use Rattle.model.specs.declared.marks.Mark.TheVariants.{Taken}
use Rattle.model.proofs.Width.{IsGood}
use Rattle.laws.proofs.Always.{inv_of}
use Rattle.laws.proofs.Alone.{closes_inside}
use Rattle.laws.specs.{Runs, call, doing, runs, is_inside, is_inside_at}
use Rattle.laws.proofs.FrameSteps.{step_of}
use Rattle.laws.proofs.FrameWires.{answer-untouched, wires-read}
use Rattle.laws.proofs.Invariant.{Corresponds, RunCorresponds, Touches, Wires, touches, wires}
use Rattle.laws.proofs.Notes.{notes}
use Rattle.laws.proofs.Reading.{ReadAccess}
use Rattle.laws.proofs.ReadSteps.{entry_reads}
use Rattle.laws.proofs.Theorems.{together}
use Rattle.history_laws.proofs.CountedChanges.{history-none, store-unchanged, versions-none, versions-unchanged}
use Rattle.history_laws.proofs.DataReads.{KnewAt, Quiet, newest_is_read}
use Rattle.history_laws.proofs.DataReadSteps.{data_reads, is_data_read, looks_back}
use Rattle.history_laws.proofs.Entering.{runs-known}
use Rattle.history_laws.proofs.EntrySteps.{IsOfCall, of_call}
use Rattle.history_laws.proofs.Kept.{Data, Kept, KnowsData, is_busy, is_committing}
use Rattle.history_laws.proofs.Lifting.{Keeps}
use Rattle.history_laws.proofs.Outside.{append-none, either-none, idle-free, outside-idle, placed-none}
use Rattle.history_laws.proofs.Versions.{Versions, is_change, store_of, versions}

-- Facts about any entry.

-- if no other process is inside, and p writes no commit bit, no process writes one
pub inside_quiet : (s : Setup) → IsGood s → (events : List Event) (p : ℕ) → let past : Past = past_of s events in p < s.processes → is_inside (doing s p past) ≡ true → is_busy (doing s p past) ≡ false → Data s past →
    Quiet s past p (λ q. is_busy (doing s q past))
inside_quiet s g events p below inside idle known = record {
  process = below;
  kept = known.kept;
  idle = λ q qb. elim (cases_eq q p) [
    | inl is ↦ ap (λ x. is_busy (doing s x (past_of s events))) is ∙ idle
    | inr ne ↦ other q qb ne (is_inside (doing s q (past_of s events))) refl
  ];
}
  where
    other : (q : ℕ) → q < s.processes → q ≢ p → (b : Bool) → is_inside (doing s q (past_of s events)) ≡ b → is_busy (doing s q (past_of s events)) ≡ false
    other q qb ne true i = absurd (together s (past_of s events) q p (inv_of s g events) qb below ne i inside)
    other q qb ne false i = idle-free (doing s q (past_of s events)) (outside-idle (doing s q (past_of s events)) i) (closes_inside s g events q)

-- an entry that takes nothing, or a command that changes nothing, leaves the versions and the store as they are
pub same_versions : (s : Setup) (past : Past) (e : Entry) → (is_change s past e ≡ true → reply_taken e.marks ≡ None) → (versions s (e ∷ past) ≡ versions s past) × (store_of s (e ∷ past) ≡ store_of s past)
same_versions s past e h = go (reply_taken e.marks) refl (is_change s past e) refl
  where
    go : (x : Option Reply) → reply_taken e.marks ≡ x → (b : Bool) → is_change s past e ≡ b → (versions s (e ∷ past) ≡ versions s past) × (store_of s (e ∷ past) ≡ store_of s past)
    go None n b c = (versions-none s past e n, ap (store_after s) (history-none s past e n))
    go (Some r) n false c = (versions-unchanged s past e r n c, store-unchanged s past e r n c)
    go (Some r) n true c = let f : None ≡ Some r = sym (h c) ∙ n in cc

-- an entry that leaves registers, versions and store keeps the registers, if its process was not writing its commit bit
kept_same : (s : Setup) (v v' : Versions) (store store' : Contents) (busy busy' : ℕ → Bool) (m m' : ℕ → Wires) → v' ≡ v → store' ≡ store → m' ≡ m → ((q : ℕ) → q < s.processes → busy' q ≡ false → busy q ≡ false) →
    Kept s v store busy m → Kept s v' store' busy' m'
kept_same s v v' store store' busy busy' m m' vs stores ms was k =
    subst (λ v. Kept s v store' busy' m') (sym vs) (subst (λ store. Kept s v store busy' m') (sym stores) (subst (Kept s v store busy') (sym ms) (record {
      sound = k.sound;
      commits = λ q below idle. k.commits q below (was q below idle);
      stamps = k.stamps;
      image = k.image;
      most = k.most;
      first = k.first;
      is = k.is;
      newest = k.newest;
      fits = k.fits;
    })))

-- The marks.

-- a read of a bit that is not the last of an image, or is that of one that the command changes, takes nothing
read_takes : (s : Setup) (past : Past) (p : ℕ) (busy : ℕ → Bool) (command : Command) (number : ℕ) (part : Part) (read : List Bool) (begun value : Bool) (touched : ℕ → ℕ → Touches) →
    let c : Call = call s p command number in
    is_data_read part ≡ true → Quiet s past p busy → ReadAccess s past p (read_at c part).0 (read_at c part).1 (length read) begun value touched → KnewAt s past p command number part read begun →
    changes (store_of s past) command ≡ true → reply_taken (marks_of c (record { part = part; run = Reading read begun }) value) ≡ None
read_takes s past p busy command number part read begun value touched is quiet access knew changing = go part is access knew
  where
    c : Call
    c = call s p command number

    fresh : Bool
    fresh = is_fresh (Reading read begun)

    image_takes : (vs : List Version) → ReadAccess s past p (read_at c (AsksImage vs)).0 (read_at c (AsksImage vs)).1 (length read) begun value touched → KnewAt s past p command number (AsksImage vs) read begun →
        (last : Bool) → is_last c (AsksImage vs) (Reading read begun) ≡ last → reply_taken (cond last (last_marks c (AsksImage vs) (bits_with (Reading read begun) value)) []) ≡ None
    image_takes vs access knew false e = refl
    image_takes vs access knew true e = ended begun access knew (and_parts begun (length read + 1 == width s (read_at c (AsksImage vs)).1) e).0 (eqb-true (length read + 1) (width s (read_at c (AsksImage vs)).1) (and_parts begun (length read + 1 == width s (read_at c (AsksImage vs)).1) e).1)
      where
        ended : (begun : Bool) → ReadAccess s past p (read_at c (AsksImage vs)).0 (read_at c (AsksImage vs)).1 (length read) begun value touched → KnewAt s past p command number (AsksImage vs) read begun →
            begun ≡ true → length read + 1 ≡ width s (read_at c (AsksImage vs)).1 → reply_taken (last_marks c (AsksImage vs) (bits_with (Reading read begun) value)) ≡ None
        ended false access knew b last = absurd (false≢true b)
        ended true access knew b last =
            let store : store_read c (read ++ value ∷ []) ≡ store_of s past = newest_is_read s past p busy command number vs read value touched quiet last access knew in
            ap (λ x. reply_taken (cond x [] (Taken 0 (reply c (store_read c (read ++ value ∷ []))) ∷ []))) (ap (λ st. changes st command) store ∙ changing)

    go : (part : Part) → is_data_read part ≡ true → ReadAccess s past p (read_at c part).0 (read_at c part).1 (length read) begun value touched → KnewAt s past p command number part read begun →
        reply_taken (marks_of c (record { part = part; run = Reading read begun }) value) ≡ None
    go (AsksCommit k ks vs) is access knew = append-none (cond fresh [] []) (cond (is_last c (AsksCommit k ks vs) (Reading read begun)) [] []) (either-none fresh [] refl) (either-none (is_last c (AsksCommit k ks vs) (Reading read begun)) [] refl)
    go (AsksStamp k ks vs b) is access knew = append-none (cond fresh [] []) (cond (is_last c (AsksStamp k ks vs b) (Reading read begun)) [] []) (either-none fresh [] refl) (either-none (is_last c (AsksStamp k ks vs b) (Reading read begun)) [] refl)
    go (AsksImage vs) is access knew =
        append-none (cond fresh [] []) (cond (is_last c (AsksImage vs) (Reading read begun)) (last_marks c (AsksImage vs) (bits_with (Reading read begun) value)) []) (either-none fresh [] refl)
        (image_takes vs access knew (is_last c (AsksImage vs) (Reading read begun)) refl)
    go _ is access knew = absurd (false≢true is)

-- The entry.

-- an access of a read writes nothing
writes_not : (s : Setup) (past : Past) (flick : Bool) (c : Call) (part : Part) (read : List Bool) (begun : Bool) → is_of_write (valued s past flick (access_at c part (Reading read begun))).how ≡ false
writes_not s past flick c part read true = refl
writes_not s past flick c part read false = refl

-- a process that reads versions is inside, and writes no commit bit
reads_inside : (part : Part) (fresh : Bool) → is_data_read part ≡ true → (is_inside_at part fresh ≡ true) × (is_committing part fresh ≡ false) × (is_read part ≡ true)
reads_inside (AsksCommit k ks vs) fresh is = (refl, refl, refl)
reads_inside (AsksStamp k ks vs b) fresh is = (refl, refl, refl)
reads_inside (AsksImage vs) fresh is = (refl, refl, refl)
reads_inside _ fresh is = absurd (false≢true is)

-- at a place where a bit is read
record ReadsAt (s : Setup) (events : List Event) (what : Event) (e : Entry) (command : Command) (number : ℕ) (part : Part) (read : List Bool) (begun flick : Bool) : Type 0 where
  pub good : IsGood s
  pub adds : entry_of s (past_of s events) what ≡ Some e
  pub data_read : is_data_read part ≡ true
  pub small : length read < width s (read_at (call s e.process command number) part).1
  pub known : Data s (past_of s events)
  pub does : doing s e.process (past_of s events) ≡ Runs command number (record { part = part; run = Reading read begun })
  pub access : e.access ≡ Some (valued s (past_of s events) flick (access_at (call s e.process command number) part (Reading read begun)))

reads_bit : (s : Setup) (events : List Event) (what : Event) (e : Entry) (command : Command) (number : ℕ) (part : Part) (read : List Bool) (begun flick : Bool) → ReadsAt s events what e command number part read begun flick →
    let past : Past = past_of s events in let c : Call = call s e.process command number in let at : Place = record { part = part; run = Reading read begun } in
    let value : Bool = value_of (valued s past flick (access_at c part (Reading read begun))).how in
    e.marks ≡ map (placed (length (history s past))) (marks_of c at value) → doing s e.process (e ∷ past) ≡ runs command number (place_after c at value) → Keeps s past e
reads_bit s events what e command number part read begun flick h marks to = record {
  kept = kept_same s (versions s past) (versions s (e ∷ past)) (store_of s past) (store_of s (e ∷ past)) (λ q. is_busy (doing s q past)) (λ q. is_busy (doing s q (e ∷ past))) (wires s past) (wires s (e ∷ past))
      same.0 same.1 unwritten (λ q qb free. quiet.idle q qb) h.known.kept;
  knows = subst (λ v. KnowsData s (e ∷ past) p v (store_of s (e ∷ past)) m t (doing s p (e ∷ past))) (sym same.0)
      (subst (λ store. KnowsData s (e ∷ past) p (versions s past) store m t (doing s p (e ∷ past))) (sym same.1)
      (subst (KnowsData s (e ∷ past) p (versions s past) (store_of s past) m t) (sym to)
      (runs-known s (e ∷ past) p (versions s past) (store_of s past) m t command number (place_after c at value)
      (data_reads s past (e ∷ past) p busy command number m part read begun value (touches s (e ∷ past)) h.data_read quiet looks h.small reading knew))));
}
  where
    past : Past
    past = past_of s events

    p : ℕ
    p = e.process

    c : Call
    c = call s p command number

    at : Place
    at = record { part = part; run = Reading read begun }

    x : Access
    x = valued s past flick (access_at c part (Reading read begun))

    value : Bool
    value = value_of x.how

    m : Wires
    m = wires s (e ∷ past) p

    t : ℕ → Touches
    t o = touches s (e ∷ past) o p

    busy : ℕ → Bool
    busy q = is_busy (doing s q past)

    below : p < s.processes
    below = (step_of s h.good events what e h.adds).1

    is : (is_inside_at part (is_fresh (Reading read begun)) ≡ true) × (is_committing part (is_fresh (Reading read begun)) ≡ false) × (is_read part ≡ true)
    is = reads_inside part (is_fresh (Reading read begun)) h.data_read

    quiet : Quiet s past p busy
    quiet = inside_quiet s h.good events p below (ap is_inside h.does ∙ is.0) (ap is_busy h.does ∙ is.1) h.known

    reading : ReadAccess s past p (read_at c part).0 (read_at c part).1 (length read) begun value (touches s (e ∷ past))
    reading = entry_reads s past p e command number part read begun flick (answer-untouched s h.good events) h.access

    knew : KnewAt s past p command number part read begun
    knew = subst (KnowsData s past p (versions s past) (store_of s past) (wires s past p) (λ o. touches s past o p)) h.does (h.known.knows p below)

    looks : begun ≡ true → is_image (read_at c part).1 ≡ true → before_image_read p (e ∷ past) ≡ past
    looks b image = looks_back s past p e command number part read flick refl (h.access ∙ ap (λ b. Some (valued s past flick (access_at c part (Reading read b)))) b) image

    last : last_call s p (own p past) ≡ c
    last = subst (IsOfCall s p (last_call s p (own p past))) h.does (of_call s h.good events p)

    same : (versions s (e ∷ past) ≡ versions s past) × (store_of s (e ∷ past) ≡ store_of s past)
    same = same_versions s past e (λ change.
        ap reply_taken marks ∙ placed-none (length (history s past)) (marks_of c at value)
        (read_takes s past p busy command number part read begun value (touches s (e ∷ past)) h.data_read quiet reading knew (ap (λ (d : Call). changes (store_of s past) d.command) (sym last) ∙ change)))

    unwritten : wires s (e ∷ past) ≡ wires s past
    unwritten = λ i o. wires-read s past e x o h.access (writes_not s past flick c part read begun) i

-- Every entry of a read of parts E and F keeps the data.
pub reads_keep : (s : Setup) → IsGood s → (events : List Event) (what : Event) (e : Entry) → entry_of s (past_of s events) what ≡ Some e →
    let past : Past = past_of s events in
    (command : Command) (number : ℕ) (part : Part) (run : Run) (flick : Bool) → let c : Call = call s e.process command number in let x : Access = valued s past flick (access_at c part run) in
    doing s e.process past ≡ Runs command number (record { part = part; run = run }) → e.access ≡ Some x → e.marks ≡ map (placed (length (history s past))) (marks_of c (record { part = part; run = run }) (value_of x.how)) →
    doing s e.process (e ∷ past) ≡ runs command number (place_after c (record { part = part; run = run }) (value_of x.how)) → is_data_read part ≡ true → Data s past → Keeps s past e
reads_keep s g events what e h command number part run flick does access marks to is known = go run does access marks to
  where
    past : Past
    past = past_of s events

    p : ℕ
    p = e.process

    c : Call
    c = call s p command number

    corresponds : (run : Run) → doing s p past ≡ Runs command number (record { part = part; run = run }) → RunCorresponds c (wires s past p) part run
    corresponds run does = (subst (Corresponds s p (notes s p past) (wires s past p)) does ((inv_of s g events).own p (step_of s g events what e h).1).corresponds).0

    go : (run : Run) → let x : Access = valued s past flick (access_at c part run) in doing s p past ≡ Runs command number (record { part = part; run = run }) → e.access ≡ Some x →
        e.marks ≡ map (placed (length (history s past))) (marks_of c (record { part = part; run = run }) (value_of x.how)) →
        doing s p (e ∷ past) ≡ runs command number (place_after c (record { part = part; run = run }) (value_of x.how)) → Keeps s past e
    go (Reading read begun) does access marks to =
        reads_bit s events what e command number part read begun flick
        (record { good = g; adds = h; data_read = is; small = (corresponds (Reading read begun) does).1; known = known; does = does; access = access }) marks to
    go (Writing w) does access marks to = absurd (false≢true (sym (corresponds (Writing w) does).0 ∙ (reads_inside part false is).2))
