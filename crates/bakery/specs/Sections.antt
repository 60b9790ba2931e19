-- A process inside the critical section: parts E to G of its call, and the result of each access.
use Rattle.std.specs.Prelude.{◌≡◌, ◌<◌, ℕ, Bool, true, false, List, [], ◌∷◌, Option, None, Some, is_some}
use Rattle.plain_store.specs.{Answer, Setup}
use Rattle.plain_store.specs.declared.Answer.TheVariants as answer
use Rattle.model.specs.{Access, Field, AsksCommit, AsksImage, AsksStamp, Mark, Part, WritesCommit, WritesImage, WritesStamp, width}
use Rattle.model.specs.declared.marks.Mark.TheVariants as mark
use Rattle.process.specs.laws.{Doing, Runs}
use Rattle.process.specs.{ProcessState, answer_of, change_of, changes_read}
use Rattle.bakery.specs.declared.section_progress.SectionProgress.{SectionProgress}
use Rattle.bakery.specs.declared.section_progress.SectionProgress.TheVariants as reported
use Rattle.model.specs.declared.access.Field.TheVariants.{Choosing, Ticket}

-- a part from E to G
abbrev pub is_of_data : Part → Bool
is_of_data (AsksCommit k ks vs) = true
is_of_data (AsksStamp k ks vs b) = true
is_of_data (AsksImage vs) = true
is_of_data (WritesImage vs st) = true
is_of_data (WritesStamp vs st) = true
is_of_data (WritesCommit vs st) = true
is_of_data _ = false

-- an access remains to be made
abbrev pub goes : Doing → Bool
goes (Runs command number at) = is_of_data at.part
goes _ = false

abbrev pub is_going : ProcessState → Bool
is_going section = goes section.doing

-- the field is one of the store's versions
abbrev pub is_data : Field → Bool
is_data Choosing = false
is_data Ticket = false
is_data _ = true

-- an access of a process to the registers of a setup
pub record IsInRange (s : Setup) (a : Access) : Type 0 where
  pub owner : a.owner < s.processes
  pub field : is_data a.field ≡ true
  pub bit : a.bit < width s a.field
  pub reader : a.reader < s.processes

-- THE RESULTS OF ACCESSES

-- the result, by the answer of the call, if it has one, and by whether it writes a change; `changes` is the greatest stamp read before the access
abbrev pub reported_at : (changes : ℕ) → Option Answer → (writes : Bool) → SectionProgress
reported_at changes None true = reported.Writing
reported_at changes None false = reported.Reading
reported_at changes (Some (answer.Reply reply)) writes = reported.Taken reply changes
reported_at changes (Some _) writes = reported.NoStamp

abbrev pub progress_on : ProcessState → ProcessState → SectionProgress
progress_on section then = reported_at (changes_read section.doing) (answer_of then.doing) (is_some (change_of then.setup then.process then.doing))

-- the section has further accesses after this result
abbrev pub goes_on : SectionProgress → Bool
goes_on reported.Reading = true
goes_on reported.Writing = true
goes_on _ = false

-- the marks of an access with this result; the place in the history is open here, and written as 0
abbrev pub marks_reported : SectionProgress → List Mark
marks_reported (reported.Taken reply changes) = mark.Taken 0 reply ∷ []
marks_reported _ = []
