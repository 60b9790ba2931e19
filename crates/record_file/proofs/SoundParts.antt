-- The state of a process holds replies and answers that fit.
use Rattle.std.proofs.Common.{◌≡◌, ℕ, zero, suc, ◌+◌, ◌≤◌, ◌==◌, not, nat_lt, Bool, true, false, cond, List, [], ◌∷◌, ◌++◌, filter, Option, Some, None, refl, arith}
use Rattle.std.proofs.lemmas.Bool.{and_from, and_parts}
use Rattle.std.proofs.lemmas.Bool.Decides.{nat_tests}
use Rattle.std.specs.List.{list_all, range_with_len}
use Rattle.model.specs.{Access, Asks, AsksCommit, AsksImage, AsksStamp, Call, Clears, Field, Over, Part, Past, Place, Raises, Refuses, TakesTicket, Version, Wait, Waits, WritesCommit, WritesImage, WritesStamp, bits_with, caller, enter, first_full, greatest, index_of, is_called, is_commit, is_last, last_read, last_write, lets_by, max_of, newest_stamp, others, part_after, place_after, processes, read_so_far, reply, run_after, since, store_read, to_b, to_c, to_d, to_e, to_g, unfinished, waits_of, write_moved}
use Rattle.model.specs.safe_number.{new_write, number_of_bits}
use Rattle.plain_store.specs.{Contents, Reply, changes}
use Rattle.plain_store.specs.declared.Answer.TheVariants as answer
use Rattle.model.specs.Closings.{Closing, Withdraws, Settles, Frees, Lowers, Quit, Ended, closing_after, failing, freeing, is_last_settled, is_last_written, no_ticket, reply_with, settling_from}
use Rattle.model.specs.Parts as part
use Rattle.model.specs.reader_copies.Runs as copies
use Rattle.record_file.specs.{is_answer, is_reply}
use Rattle.record_file.proofs.SoundReplies.{index_small, is_sound, read_sound, reply_sound}

-- the reply or the number that a part holds fits
abbrev pub is_sound_part : Part → Bool
is_sound_part (Refuses f) = nat_lt f 256
is_sound_part (WritesImage vs st) = is_sound st
is_sound_part (WritesStamp vs st) = is_sound st
is_sound_part (WritesCommit vs st) = is_sound st
is_sound_part (Clears a) = is_answer a
is_sound_part _ = true

-- the reply with which a command may be taken
abbrev pub is_sound_taken : Option Reply → Bool
is_sound_taken None = true
is_sound_taken (Some r) = is_reply r

abbrev pub is_sound_closing : Closing → Bool
is_sound_closing (Settles field bit begun taken is t) = is_sound_taken taken
is_sound_closing _ = true

-- Parts.

small_range : (from n most : ℕ) → from + n ≤ most → list_all (λ x. nat_lt x most) (range_with_len from n) ≡ true
small_range from zero most few = refl
small_range from (suc n) most few = and_from (nat_lt from most) (list_all (λ x. nat_lt x most) (range_with_len (from + 1) n)) (grind (arith, nat_tests)) (small_range (from + 1) n most (omega arith))

small_filter : (most : ℕ) (test : ℕ → Bool) (xs : List ℕ) → list_all (λ x. nat_lt x most) xs ≡ true → list_all (λ x. nat_lt x most) (filter test xs) ≡ true
small_filter most test [] all = refl
small_filter most test (x ∷ xs) all = by (test x) (small_filter most test xs (and_parts (nat_lt x most) (list_all (λ x. nat_lt x most) xs) all).1)
  where
    by : (b : Bool) → list_all (λ x. nat_lt x most) (filter test xs) ≡ true → list_all (λ x. nat_lt x most) (cond b (x ∷ filter test xs) (filter test xs)) ≡ true
    by true rest = and_from (nat_lt x most) (list_all (λ x. nat_lt x most) (filter test xs)) (and_parts (nat_lt x most) (list_all (λ x. nat_lt x most) xs) all).0 rest
    by false rest = rest

full_small : (c : Call) (ts : List ℕ) → c.setup.processes ≤ 256 → nat_lt (first_full c ts) 256 ≡ true
full_small c ts few = index_small 256 (omega arith) (others c.setup c.process) (index_of (greatest ts) ts) (small_filter 256 (λ j. not (j == c.process)) (processes c.setup) (small_range 0 c.setup.processes 256 (omega (arith, few))))

sound_c : (c : Call) (ts : List ℕ) → c.setup.processes ≤ 256 → is_sound_part (to_c c ts) ≡ true
sound_c c ts few = by (greatest ts == max_of c.setup.ticket_bits)
  where
    by : (b : Bool) → is_sound_part (elim b as (λ _. Part) [ true ↦ Refuses (first_full c ts) | false ↦ TakesTicket (greatest ts + 1) ]) ≡ true
    by true = full_small c ts few
    by false = refl

sound_b : (c : Call) (js ts : List ℕ) → c.setup.processes ≤ 256 → is_sound_part (to_b c js ts) ≡ true
sound_b c [] ts few = sound_c c ts few
sound_b c (j ∷ js) ts few = refl

sound_e : (ks : List ℕ) (vs : List Version) → is_sound_part (to_e ks vs) ≡ true
sound_e [] vs = refl
sound_e (k ∷ ks) vs = refl

sound_d : (c : Call) (t : ℕ) (ws : List Wait) → is_sound_part (to_d c t ws) ≡ true
sound_d c t [] = sound_e (processes c.setup) []
sound_d c t (w ∷ ws) = refl

sound_g : (c : Call) (vs : List Version) (st : Contents) → is_sound st ≡ true → is_sound_part (to_g c vs st) ≡ true
sound_g c vs st sound = by (changes st c.command) (newest_stamp vs == max_of c.setup.stamp_bits)
  where
    by : (b d : Bool) → is_sound_part (elim b as (λ _. Part) [ false ↦ Clears (answer.Reply (reply c st)) | true ↦ elim d as (λ _. Part) [ true ↦ Clears answer.StampsFull | false ↦ WritesImage vs st ] ]) ≡ true
    by false d = reply_sound st c.command (caller c) sound
    by true true = refl
    by true false = sound

sound_part_after : (c : Call) (x : Part) (value : List Bool) → c.setup.processes ≤ 256 → is_sound_part x ≡ true → is_sound_part (part_after c x value) ≡ true
sound_part_after c Raises value few sound = sound_b c (others c.setup c.process) [] few
sound_part_after c (Asks j js ts) value few sound = sound_b c js (ts ++ number_of_bits value ∷ []) few
sound_part_after c (TakesTicket t) value few sound = refl
sound_part_after c (part.Lowers t) value few sound = sound_d c t (waits_of c)
sound_part_after c (Refuses f) value few sound = refl
sound_part_after c (Waits t w ws) value few sound = sound_d c t (cond (lets_by c t w value) ws (w ∷ ws))
sound_part_after c (AsksCommit k ks vs) value few sound = refl
sound_part_after c (AsksStamp k ks vs b) value few sound = sound_e ks (vs ++ (b, number_of_bits value) ∷ [])
sound_part_after c (AsksImage vs) value few sound = sound_g c vs (store_read c value) (read_sound c value)
sound_part_after c (WritesImage vs st) value few sound = sound
sound_part_after c (WritesStamp vs st) value few sound = sound
sound_part_after c (WritesCommit vs st) value few sound = reply_sound st c.command (caller c) sound
sound_part_after c (Clears a) value few sound = refl
sound_part_after c Over value few sound = refl

pub sound_place : (c : Call) (at : Place) (v : Bool) → c.setup.processes ≤ 256 → is_sound_part at.part ≡ true → is_sound_part (place_after c at v).part ≡ true
sound_place c at v few sound = by (is_last c at.part at.run)
  where
    next : Part
    next = part_after c at.part (bits_with at.run v)

    by : (b : Bool) → is_sound_part (cond b (enter c next) (record { part = at.part; run = run_after c at.part at.run v })).part ≡ true
    by true = sound_part_after c at.part (bits_with at.run v) few sound
    by false = sound

-- Closings.

sound_with : (c : Call) (field : Field) (value : List Bool) → is_sound_taken (reply_with c field value) ≡ true
sound_with c field value = by (is_commit field)
  where
    by : (b : Bool) → is_sound_taken (cond b (Some (reply c (store_read c value))) None) ≡ true
    by true = reply_sound (store_read c value) c.command (caller c) (read_sound c value)
    by false = refl

pub sound_failing : (c : Call) (past : Past) → is_sound_closing (failing c past) ≡ true
sound_failing c past = by (unfinished c.setup.processes (last_write past))
  where
    by : (torn : Option Access) → is_sound_closing (settling_from c past torn) ≡ true
    by None = refl
    by (Some a) = sound_with c a.field (last_read (read_so_far c.setup (since is_called past)).finished)

pub sound_closing_after : (c : Call) (at : Closing) (flick : Bool) → is_sound_closing at ≡ true → is_sound_closing (closing_after c at flick) ≡ true
sound_closing_after c (Withdraws w) flick sound = by (is_last_written c (no_ticket c) w)
  where
    by : (b : Bool) → is_sound_closing (cond b Quit (Withdraws (write_moved c.setup.processes (no_ticket c) w))) ≡ true
    by true = refl
    by false = refl
sound_closing_after c (Settles field bit begun taken is t) flick sound = by (is_last_settled c t (copies.settled_at t flick))
  where
    by : (b : Bool) → is_sound_closing (cond b (freeing c is) (Settles field bit begun taken is (copies.settle_after t (copies.settled_at t flick)))) ≡ true
    by true = refl
    by false = sound
sound_closing_after c (Frees is w) flick sound = by (is_last_written c (no_ticket c) w)
  where
    by : (b : Bool) → is_sound_closing (cond b (Lowers (new_write 1)) (Frees is (write_moved c.setup.processes (no_ticket c) w))) ≡ true
    by true = refl
    by false = refl
sound_closing_after c (Lowers w) flick sound = by (is_last_written c (false ∷ []) w)
  where
    by : (b : Bool) → is_sound_closing (cond b Ended (Lowers (write_moved c.setup.processes (false ∷ []) w))) ≡ true
    by true = refl
    by false = refl
sound_closing_after c Quit flick sound = refl
sound_closing_after c Ended flick sound = refl
