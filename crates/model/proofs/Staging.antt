-- The stage that the marks give is that of the place.
use Rattle.std.specs.Prelude.{◌≡◌, refl, ℕ, ◌+◌, ◌==◌, Bool, true, false, cond, ◌||◌, List, [], ◌∷◌, ◌++◌, map, fold, None}
use Rattle.std.proofs.Common.{sym, ◌∙◌, ap}
use Rattle.std.specs.List.{list_any}
use Rattle.std.proofs.lemmas.List.Folds.{list_any-append}
use Rattle.plain_store.specs.declared.Answer.TheVariants.{Reply, StampsFull}
use Rattle.model.specs.{Call, Mark, Stage, Version, Wait, called_in, entered_if_none, first_full, greatest, is_called, lets_by, max_of, newest_stamp, others, placed, processes, reply, stage_after, start_in, starts, store_read, waits_of}
use Rattle.model.specs.declared.marks.Mark.TheVariants.{Called, Waiting, Taken, Failed, Withdrew}
use Rattle.model.specs.declared.stages.Stage.TheVariants.{Doorway, Waiting, Inside}
use Rattle.plain_store.specs.{Contents, changes}
use Rattle.model.specs.Parts.{stage_of, Part, Raises, Asks, TakesTicket, Lowers, Refuses, Waits, AsksCommit, AsksStamp, AsksImage, WritesImage, WritesStamp, WritesCommit, Clears, Over, first_marks, last_marks, to_e, to_d, to_b, to_g, part_after}

pub stage-to_e : (ks : List ℕ) (vs : List Version) (f : Bool) → stage_of (to_e ks vs) f ≡ Inside
stage-to_e [] vs f = refl
stage-to_e (k ∷ ks) vs f = refl

pub stage-to_d : (c : Call) (t : ℕ) (ws : List Wait) (f : Bool) → fold stage_after Waiting (entered_if_none ws) ≡ stage_of (to_d c t ws) f
stage-to_d c t [] f = sym (stage-to_e (processes c.setup) [] f)
stage-to_d c t (w ∷ ws) f = refl

pub stage-to_b : (c : Call) (js ts : List ℕ) (f : Bool) → Doorway ≡ stage_of (to_b c js ts) f
stage-to_b c (j ∷ js) ts f = refl
stage-to_b c [] ts f = go (greatest ts == max_of c.setup.ticket_bits)
  where
    go : (b : Bool) → Doorway ≡ stage_of (elim b [ true ↦ Refuses (first_full c ts) | false ↦ TakesTicket (greatest ts + 1) ]) f
    go true = refl
    go false = refl

pub stage-to_g : (c : Call) (vs : List Version) (st : Contents) → Inside ≡ stage_of (to_g c vs st) true
stage-to_g c vs st = go (changes st c.command) (newest_stamp vs == max_of c.setup.stamp_bits)
  where
    go : (b d : Bool) → Inside ≡ stage_of (elim b [ false ↦ Clears (Reply (reply c st)) | true ↦ elim d [ true ↦ Clears StampsFull | false ↦ WritesImage vs st ] ]) true
    go false d = refl
    go true true = refl
    go true false = refl

-- the last access leads to the stage of the next part
pub stage-last : (c : Call) (part : Part) (v : List Bool) (f : Bool) → fold stage_after (stage_of part false) (last_marks c part v) ≡ stage_of (part_after c part v) true
stage-last c Raises v f = stage-to_b c (others c.setup c.process) [] true
stage-last c (Asks j js ts) v f = stage-to_b c js _ true
stage-last c (TakesTicket t) v f = refl
stage-last c (Lowers t) v f = stage-to_d c t (waits_of c) true
stage-last c (Refuses q) v f = refl
stage-last c (Waits t w ws) v f = go (lets_by c t w v)
  where
    go : (b : Bool) → fold stage_after Waiting (cond b (entered_if_none ws) []) ≡ stage_of (to_d c t (cond b ws (w ∷ ws))) true
    go true = stage-to_d c t ws true
    go false = refl
stage-last c (AsksCommit k ks vs) v f = refl
stage-last c (AsksStamp k ks vs b) v f = sym (stage-to_e ks _ true)
stage-last c (AsksImage vs) v f = go (changes (store_read c v) c.command) ∙ stage-to_g c vs (store_read c v)
  where
    go : (b : Bool) → fold stage_after Inside (cond b [] (Taken 0 (reply c (store_read c v)) ∷ [])) ≡ Inside
    go true = refl
    go false = refl
stage-last c _ v f = refl

pub plain_first : (st last_st : Stage) (last : List Mark) (b1 b2 : Bool) → fold stage_after st last ≡ last_st → fold stage_after st (cond b1 [] [] ++ cond b2 last []) ≡ cond b2 last_st st
plain_first st last_st last true true h = h
plain_first st last_st last true false h = refl
plain_first st last_st last false true h = h
plain_first st last_st last false false h = refl

-- all the marks of an access at a part
pub stage-marks : (c : Call) (part : Part) (v : List Bool) (b1 b2 : Bool) →
    fold stage_after (stage_of part b1) (cond b1 (first_marks part) [] ++ cond b2 (last_marks c part v) []) ≡ cond b2 (stage_of (part_after c part v) true) (stage_of part false)
stage-marks c Raises v b1 b2 = plain_first _ _ _ b1 b2 (stage-last c Raises v true)
stage-marks c (Asks j js ts) v b1 b2 = plain_first _ _ _ b1 b2 (stage-last c (Asks j js ts) v true)
stage-marks c (TakesTicket t) v b1 b2 = plain_first _ _ _ b1 b2 (stage-last c (TakesTicket t) v true)
stage-marks c (Lowers t) v b1 b2 = plain_first _ _ _ b1 b2 (stage-last c (Lowers t) v true)
stage-marks c (Refuses q) v b1 b2 = plain_first _ _ _ b1 b2 (stage-last c (Refuses q) v true)
stage-marks c (Waits t w ws) v b1 b2 = plain_first _ _ _ b1 b2 (stage-last c (Waits t w ws) v true)
stage-marks c (AsksCommit k ks vs) v b1 b2 = plain_first _ _ _ b1 b2 (stage-last c (AsksCommit k ks vs) v true)
stage-marks c (AsksStamp k ks vs b) v b1 b2 = plain_first _ _ _ b1 b2 (stage-last c (AsksStamp k ks vs b) v true)
stage-marks c (AsksImage vs) v b1 b2 = plain_first _ _ _ b1 b2 (stage-last c (AsksImage vs) v true)
stage-marks c (WritesImage vs st) v b1 b2 = plain_first _ _ _ b1 b2 (stage-last c (WritesImage vs st) v true)
stage-marks c (WritesStamp vs st) v b1 b2 = plain_first _ _ _ b1 b2 (stage-last c (WritesStamp vs st) v true)
stage-marks c (WritesCommit vs st) v b1 b2 = plain_first _ _ _ b1 b2 (stage-last c (WritesCommit vs st) v true)
stage-marks c (Clears a) v true true = refl
stage-marks c (Clears a) v true false = refl
stage-marks c (Clears a) v false true = refl
stage-marks c (Clears a) v false false = refl
stage-marks c Over v b1 b2 = plain_first _ _ _ b1 b2 refl

-- the place in a Taken mark changes no stage
pub stage-placed : (k : ℕ) (st : Stage) (ms : List Mark) → fold stage_after st (map (placed k) ms) ≡ fold stage_after st ms
stage-placed k st [] = refl
stage-placed k st (Taken i r ∷ ms) = stage-placed k st ms
stage-placed k st (m ∷ ms) = stage-placed k (stage_after st m) ms

-- no mark of a part begins a program
pub no_start-entered : (ws : List Wait) → list_any starts (entered_if_none ws) ≡ false
no_start-entered [] = refl
no_start-entered (w ∷ ws) = refl

pub no_start-last : (c : Call) (part : Part) (v : List Bool) → list_any starts (last_marks c part v) ≡ false
no_start-last c (Lowers t) v = no_start-entered (waits_of c)
no_start-last c (Waits t w ws) v = go (lets_by c t w v)
  where
    go : (b : Bool) → list_any starts (cond b (entered_if_none ws) []) ≡ false
    go true = no_start-entered ws
    go false = refl
no_start-last c (AsksImage vs) v = go (changes (store_read c v) c.command)
  where
    go : (b : Bool) → list_any starts (cond b [] (Taken 0 (reply c (store_read c v)) ∷ [])) ≡ false
    go true = refl
    go false = refl
no_start-last c _ v = refl

pub no_start-first : (part : Part) → list_any starts (first_marks part) ≡ false
no_start-first (Clears a) = refl
no_start-first _ = refl

pub no_start-marks : (c : Call) (part : Part) (v : List Bool) (b1 b2 : Bool) → list_any starts (cond b1 (first_marks part) [] ++ cond b2 (last_marks c part v) []) ≡ false
no_start-marks c part v b1 b2 = list_any-append starts (cond b1 (first_marks part) []) (cond b2 (last_marks c part v) []) ∙ go b1 b2
  where
    go : (b1 b2 : Bool) → (list_any starts (cond b1 (first_marks part) []) || list_any starts (cond b2 (last_marks c part v) [])) ≡ false
    go true true = rw (no_start-first part, no_start-last c part v) refl
    go true false = rw (no_start-first part) refl
    go false true = no_start-last c part v
    go false false = refl

pub no_start-placed : (k : ℕ) (ms : List Mark) → list_any starts (map (placed k) ms) ≡ list_any starts ms
no_start-placed k [] = refl
no_start-placed k (Taken i r ∷ ms) = no_start-placed k ms
no_start-placed k (m ∷ ms) = ap (λ t. starts m || t) (no_start-placed k ms)

pub no_called : (ms : List Mark) → list_any starts ms ≡ false → list_any is_called ms ≡ false
no_called [] h = refl
no_called (Called c ∷ ms) h = cc
no_called (Failed ∷ ms) h = cc
no_called (Withdrew ∷ ms) h = cc
no_called (_ ∷ ms) h = no_called ms h

pub no_command : (ms : List Mark) → list_any starts ms ≡ false → called_in ms ≡ None
no_command [] h = refl
no_command (Called c ∷ ms) h = cc
no_command (Failed ∷ ms) h = cc
no_command (Withdrew ∷ ms) h = cc
no_command (_ ∷ ms) h = no_command ms h

pub no_start : (ms : List Mark) → list_any starts ms ≡ false → start_in ms ≡ None
no_start [] h = refl
no_start (Called c ∷ ms) h = cc
no_start (Failed ∷ ms) h = cc
no_start (Withdrew ∷ ms) h = cc
no_start (_ ∷ ms) h = no_start ms h
