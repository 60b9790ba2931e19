-- The marks of a step are in range, if the state of the process is.
use Rattle.std.proofs.Common.{◌≡◌, ℕ, ◌^◌, ◌&&◌, not, nat_lt, if◌then◌else◌, Bool, true, false, cond, List, [], ◌∷◌, map, Option, Some, None, refl, subst, ◌∙◌}
use Rattle.std.proofs.lemmas.Bool.{and_from, and_parts}
use Rattle.std.proofs.lemmas.List.Folds.{list_all-append}
use Rattle.std.specs.List.{list_all}
use Rattle.model.specs.reader_copies.Runs as copies
use Rattle.plain_store.specs.{Reply, changes}
use Rattle.plain_store.specs.declared.Answer.TheVariants as answer
use Rattle.model.specs.Closings.{Closing, Withdraws, Settles, Frees, Lowers, Quit, Ended, closing_next, is_last_settled, is_last_written, is_unwritten, no_ticket, settled_marks}
use Rattle.model.specs.{AsksImage, Call, Clears, Mark, Next, Part, Place, Refuses, Wait, Waits, WritesCommit, bits_with, caller, entered_if_none, first_marks, is_fresh, is_last, last_marks, lets_by, marks_of, placed, reply, store_read, waits_of}
use Rattle.model.specs.Parts as part
use Rattle.model.specs.declared.marks.Mark.TheVariants.{Called, Waiting, Taken, Left, Answered, Down}
use Rattle.record_file.specs.{is_mark, is_reply}
use Rattle.record_file.proofs.SoundReplies.{read_sound, reply_sound}
use Rattle.record_file.proofs.SoundParts.{is_sound_closing, is_sound_part, is_sound_taken}

-- the ticket with which a doorway ends has 32 bits
abbrev pub TicketFits : Part → Type 0
TicketFits (part.Lowers t) = nat_lt t (2 ^ 32) ≡ true
TicketFits _ = Unit {0}

all_or_none : (b : Bool) (ms : List Mark) → list_all is_mark ms ≡ true → list_all is_mark (cond b ms []) ≡ true
all_or_none true ms sound = sound
all_or_none false ms sound = refl

none_or_all : (b : Bool) (ms : List Mark) → list_all is_mark ms ≡ true → list_all is_mark (cond b [] ms) ≡ true
none_or_all true ms sound = refl
none_or_all false ms sound = sound

one_mark : (m : Mark) → is_mark m ≡ true → list_all is_mark (m ∷ []) ≡ true
one_mark m sound = and_from (is_mark m) true sound refl

-- Parts.

entered_sound : (ws : List Wait) → list_all is_mark (entered_if_none ws) ≡ true
entered_sound [] = refl
entered_sound (w ∷ ws) = refl

first_sound : (x : Part) → list_all is_mark (first_marks x) ≡ true
first_sound (Clears a) = refl
first_sound _ = refl

last_sound : (c : Call) (x : Part) (bits : List Bool) → is_sound_part x ≡ true → TicketFits x → list_all is_mark (last_marks c x bits) ≡ true
last_sound c (part.Lowers t) bits sound fits = and_from (is_mark (Waiting t)) (list_all is_mark (entered_if_none (waits_of c))) fits (entered_sound (waits_of c))
last_sound c (Refuses f) bits sound fits = one_mark (Answered (answer.TicketsFull f)) sound
last_sound c (Waits t w ws) bits sound fits = all_or_none (lets_by c t w bits) (entered_if_none ws) (entered_sound ws)
last_sound c (AsksImage vs) bits sound fits =
    none_or_all (changes (store_read c bits) c.command) (Taken 0 (reply c (store_read c bits)) ∷ []) (one_mark (Taken 0 (reply c (store_read c bits))) (reply_sound (store_read c bits) c.command (caller c) (read_sound c bits)))
last_sound c (WritesCommit vs st) bits sound fits = one_mark (Taken 0 (reply c st)) (reply_sound st c.command (caller c) sound)
last_sound c (Clears a) bits sound fits = one_mark (Answered a) sound
last_sound c _ bits sound fits = refl

-- the marks of a step of a call
pub step_sound : (c : Call) (at : Place) (v : Bool) → is_sound_part at.part ≡ true → TicketFits at.part → list_all is_mark (marks_of c at v) ≡ true
step_sound c at v sound fits =
    let first : List Mark = cond (is_fresh at.run) (first_marks at.part) [] in
    let last : List Mark = cond (is_last c at.part at.run) (last_marks c at.part (bits_with at.run v)) [] in
    list_all-append is_mark first last ∙ and_from (list_all is_mark first) (list_all is_mark last)
    (all_or_none (is_fresh at.run) (first_marks at.part) (first_sound at.part))
    (all_or_none (is_last c at.part at.run) (last_marks c at.part (bits_with at.run v)) (last_sound c at.part (bits_with at.run v) sound fits))

-- Closings.

settled_sound : (begun v : Bool) (taken : Option Reply) → is_sound_taken taken ≡ true → list_all is_mark (settled_marks begun taken v) ≡ true
settled_sound begun v None sound = refl
settled_sound begun v (Some r) sound = all_or_none (if v then begun else not begun) (Taken 0 r ∷ []) (one_mark (Taken 0 r) sound)

of_next : (x n : Next) → Some x ≡ Some n → list_all is_mark x.marks ≡ true → list_all is_mark n.marks ≡ true
of_next x n same sound = let is : x ≡ n = cc in subst (λ (y : Next). list_all is_mark y.marks ≡ true) is sound

-- the marks of a step of a closing
pub closing_sound : (c : Call) (at : Closing) (flick : Bool) (n : Next) → closing_next c at flick ≡ Some n → is_sound_closing at ≡ true → list_all is_mark n.marks ≡ true
closing_sound c (Withdraws w) flick n next sound = of_next _ n next (all_or_none (is_last_written c (no_ticket c) w) (Answered answer.Withdrawn ∷ []) refl)
closing_sound c (Settles field bit begun taken is t) flick n next sound =
    of_next _ n next (all_or_none (is_last_settled c t (copies.settled_at t flick)) (settled_marks begun taken (copies.settled_at t flick)) (settled_sound begun (copies.settled_at t flick) taken sound))
closing_sound c (Frees is w) flick n next sound = of_next _ n next (all_or_none (is && is_unwritten w) (Left ∷ []) refl)
closing_sound c (Lowers w) flick n next sound = of_next _ n next (all_or_none (is_last_written c (false ∷ []) w) (Down ∷ []) refl)
closing_sound c Quit flick n next sound = cc
closing_sound c Ended flick n next sound = cc

-- Places.

one_placed : (k : ℕ) (m : Mark) → nat_lt k (2 ^ 64) ≡ true → is_mark m ≡ true → is_mark (placed k m) ≡ true
one_placed k (Taken j r) small sound = and_from (nat_lt k (2 ^ 64)) (is_reply r) small (and_parts (nat_lt j (2 ^ 64)) (is_reply r) sound).1
one_placed k (Called c) small sound = sound
one_placed k (Waiting t) small sound = sound
one_placed k (Answered a) small sound = sound
one_placed k _ small sound = refl

-- marks with positions of 64 bits are in range
pub placed_sound : (k : ℕ) (ms : List Mark) → nat_lt k (2 ^ 64) ≡ true → list_all is_mark ms ≡ true → list_all is_mark (map (placed k) ms) ≡ true
placed_sound k [] small sound = refl
placed_sound k (m ∷ ms) small sound =
    let parts = and_parts (is_mark m) (list_all is_mark ms) sound in
    and_from (is_mark (placed k m)) (list_all is_mark (map (placed k) ms)) (one_placed k m small parts.0) (placed_sound k ms small parts.1)
