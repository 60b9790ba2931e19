-- The state of a process, computed from a past.
use Rattle.std.specs.Prelude.{ℕ, ◌==◌, Bool, true, false, [], ◌∷◌, length, fold, cond, Option, None, Some, is_some}
use Rattle.std.specs.List.{list_any}
use Rattle.model.specs.safe_bit.{is_begin, settles}
use Rattle.model.specs.safe_bit.declared.Move.TheVariants.{BeginWrite, EndWrite, BeginRead, EndRead, Settle}
use Rattle.plain_store.specs.{Reply, Setup}
use Rattle.model.specs.{Access, Entry, Mark, Past, call_number, doorway_end, has, inside, is_called, is_entered, is_failed, is_waiting_stage, last_command, number_in_call, own, reply_taken, since, stage}
use Rattle.model.specs.declared.marks.Mark.TheVariants.{Failed, Withdrew}
use Rattle.lock_stages.specs.{Passage}
use Rattle.any_lock.specs.declared.process_views.BegunAccess.{BegunAccess}
use Rattle.any_lock.specs.declared.process_views.ProcessView.{ProcessView}

-- the process stops waiting
abbrev pub is_withdrawal : Mark → Bool
is_withdrawal Withdrew = true
is_withdrawal _ = false

-- the entries of p since its last call
abbrev pub its_call : ℕ → Past → Past
its_call p past = since is_called (own p past)

-- the reply with which these entries take a command
abbrev pub reply_in : Past → Option Reply
reply_in [] = None
reply_in (e ∷ past) = elim (reply_taken e.marks) [ Some r ↦ Some r | None ↦ reply_in past ]

-- an entry has an access
abbrev pub has_access : Entry → Bool
has_access e = is_some e.access

-- The open access.

-- the open access after an access: that access, if it is a begin
abbrev pub begun_by : ℕ → Option Access → Option BegunAccess → Option BegunAccess
begun_by entry None before = before
begun_by entry (Some a) before = cond (is_begin a.how) (Some (record { entry = entry; access = a })) None

-- the open access, if it is a write
abbrev pub write_of : Option BegunAccess → Option BegunAccess
write_of None = None
write_of (Some b) = elim b.access.how [ BeginWrite v ↦ Some b | EndWrite ↦ None | BeginRead ↦ None | EndRead v ↦ None | Settle v ↦ None ]

-- the open access after a mark: a failure leaves none, and a withdrawal drops a read
abbrev pub left_open : Option BegunAccess → Mark → Option BegunAccess
left_open before Failed = None
left_open before Withdrew = write_of before
left_open before _ = before

-- the open access of p: that of its newest entry with an access, if it is a begin, unless p has failed since, or has withdrawn from a read
abbrev pub opened : ℕ → Past → Option BegunAccess
opened p [] = None
opened p (e ∷ past) = cond (e.process == p) (fold left_open (begun_by (length past) e.access (opened p past)) e.marks) (opened p past)

-- the torn bit after an access: none, if the access settles
abbrev pub torn_after : Option Access → Option BegunAccess → Option BegunAccess
torn_after None before = before
torn_after (Some a) before = cond (settles a.how) None before

-- the torn bit of p: the write that was open when p last failed, until p settles
abbrev pub torn : ℕ → Past → Option BegunAccess
torn p [] = None
torn p (e ∷ past) = cond (e.process == p)
    (elim (has is_failed e) [ true ↦ write_of (opened p past) | false ↦ torn_after e.access (torn p past) ])
    (torn p past)

-- the passage of p through the lock
abbrev pub passage_in : Past → ℕ → Passage
passage_in past p = record {
  inside = inside p past;
  waiting = is_waiting_stage (stage p past);
  doorway = number_in_call p has_access past;  -- the entry of the first access of its call
  waits = doorway_end p past;  -- the entry of its call's `wait`
  enters = number_in_call p (has is_entered) past;  -- the entry of its call's `enter`
}

-- the state of p
abbrev pub process_view : Setup → ℕ → Past → ProcessView
process_view s p past = record {
  stage = stage p past;
  withdrawn = list_any (has is_withdrawal) (its_call p past);
  number = call_number s (own p past);
  command = last_command (own p past);
  reply = reply_in (its_call p past);
  opened = opened p past;
  torn = torn p past;
  passage = passage_in past p;
}
