-- The laws that each entry of the record of any lock keeps, computed from the entries before it.
use Rattle.std.specs.Prelude.{◌≡◌, ℕ, ◌==◌, Bool, false, not, ◌&&◌, List, [], ◌∷◌, length, Option, None, Some, is_some, if◌then◌else◌}
use Rattle.std.specs.List.{list_all}
use Rattle.model.specs.safe_bit.{Move, before_read, is_overlapped, last_written}
use Rattle.model.specs.safe_bit.declared.Move.TheVariants.{EndRead}
use Rattle.plain_store.specs.{Reply, Setup, reply_to}
use Rattle.model.specs.{Entry, Mark, Past, begins_read, has, history, is_entered, moves_of, opening_bit, store_after, takings}
use Rattle.lock_stages.specs.{overtakes_another, joins_another}
use Rattle.any_lock.specs.declared.any_lock_law.AnyLockLaw.{AnyLockLaw}
use Rattle.any_lock.specs.declared.any_lock_law.AnyLockLaw.TheVariants as law
use Rattle.any_lock.specs.Refusals.{first_that, refusal_of_access, refusal_of_marks, same_reply, same_truth}
use Rattle.any_lock.specs.ProcessViews.{passage_in, process_view}

-- after these moves of a bit a read ends with a wrong value: no write overlapped the read, and another value was written last before it began
abbrev pub ends_wrongly : Bool → List Move → Move → Bool
ends_wrongly opening moves (EndRead v) = begins_read moves && not (is_overlapped moves) && not (same_truth v (last_written opening (before_read moves)))
ends_wrongly opening moves _ = false

-- Safe: a read that no write overlapped ends with the value written last before it began, or otherwise with the opening value of the bit.
abbrev pub breaks_safe : Setup → Past → Entry → Bool
breaks_safe s past e = elim e.access [ None ↦ false | Some a ↦ ends_wrongly (opening_bit s a) (moves_of a past) a.how ]

-- Access: the access is not refused.
abbrev pub breaks_access : Setup → Past → Entry → Bool
breaks_access s past e = is_some (refusal_of_access s past e)

-- Marks: the marks are not refused.
abbrev pub breaks_marks : Setup → Past → Entry → Bool
breaks_marks s past e = is_some (refusal_of_marks s past e)

-- Together: no process enters while another is inside.
abbrev pub breaks_together : Setup → Past → Entry → Bool
breaks_together s past e = joins_another (passage_in past) s.processes e.process (has is_entered e)

-- Overtaken: no process enters while another is ahead of it.
abbrev pub breaks_overtaken : Setup → Past → Entry → Bool
breaks_overtaken s past e = overtakes_another (passage_in past) s.processes e.process (has is_entered e)

-- the sequential store's reply to p's command, after the history
abbrev pub right_reply : Setup → Past → ℕ → Reply
right_reply s past p = let k = process_view s p past in reply_to (store_after s (history s past)) k.command (record { process = p; number = k.number })

-- the position and the reply are these
abbrev pub is_that : ℕ → Reply → ℕ × Reply → Bool
is_that place reply t = (t.0 == place) && same_reply t.1 reply

-- the commands that these marks of p take have that position and that reply
abbrev pub takes_rightly : Setup → Past → ℕ → List Mark → Bool
takes_rightly s past p marks = list_all (is_that (length (history s past)) (right_reply s past p)) (takings marks)

-- History: a command is taken with the length of the history as its position, and with the sequential store's reply after the history.
abbrev pub breaks_history : Setup → Past → Entry → Bool
breaks_history s past e = not (takes_rightly s past e.process e.marks)

-- the first of the last three laws that an entry breaks, if its access and its marks are not refused
abbrev pub broken_inside : Setup → Past → Entry → Option AnyLockLaw
broken_inside s past e = first_that (
    (breaks_together s past e, law.Together)
    ∷ (breaks_overtaken s past e, law.Overtaken)
    ∷ (breaks_history s past e, law.History)
    ∷ [])

-- the first law after `Safe` that an entry breaks
abbrev pub broken_later : Setup → Past → Entry → Option AnyLockLaw
broken_later s past e =
    if breaks_access s past e then Some law.Access else
    if breaks_marks s past e then Some law.Marks else
    broken_inside s past e

-- the first law that the entry breaks
abbrev pub first_broken : Setup → Past → Entry → Option AnyLockLaw
first_broken s past e = if breaks_safe s past e then Some law.Safe else broken_later s past e

-- this is the first law that the entry breaks, if it is known whether the entry keeps the law `Safe`
abbrev pub IsFirst : Bool → Option AnyLockLaw → Setup → Past → Entry → Type 0
IsFirst is_safe reported s past e = breaks_safe s past e ≡ not is_safe → reported ≡ first_broken s past e
