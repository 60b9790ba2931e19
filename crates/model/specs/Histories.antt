-- The history: the commands taken, in the order of the record.
use Rattle.std.specs.Prelude.{List, [], ◌∷◌, ◌++◌, Option, None, Some, fold}
use Rattle.plain_store.specs.{Contents, Reply, Setup, after, opening_store}
use Rattle.model.specs.declared.history.Taken.{Taken}
use Rattle.model.specs.declared.marks.Mark.{Mark}
use Rattle.model.specs.declared.marks.Mark.TheVariants as mark
use Rattle.model.specs.Calls.{last_call}
use Rattle.model.specs.Entries.{Past, own}

-- the reply of a mark `Taken`
abbrev pub reply_taken : List Mark → Option Reply
reply_taken [] = None
reply_taken (mark.Taken k r ∷ marks) = Some r
reply_taken (_ ∷ marks) = reply_taken marks

-- the commands taken, in order, each with its process, its reply and its call's number
abbrev pub history : Setup → Past → List Taken
history s [] = []
history s (e ∷ past) = elim (reply_taken e.marks) [
  | None ↦ history s past
  | Some r ↦
      let c = last_call s e.process (own e.process past) in
      history s past ++ record { process = e.process; command = c.command; reply = r; number = c.number } ∷ []
]

-- the sequential store after the commands taken
abbrev pub store_after : Setup → List Taken → Contents
store_after s = fold (λ store t. after store t.command (record { process = t.process; number = t.number })) (opening_store s)
