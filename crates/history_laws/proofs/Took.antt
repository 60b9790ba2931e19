-- The commands that the present call of a process has taken so far, by the state of the process, and the marks of each of its entries.
use Rattle.std.proofs.Common.{◌≡◌, ℕ, zero, suc, ◌<◌, Bool, true, false, List, [], ◌∷◌, ◌++◌, Option, Some, None, length, refl, sym, ap, subst, ◌∙◌, arith, append-nil, Contains}
use Rattle.std.specs.List.{list_any}
use Rattle.plain_store.specs.{Answer, Command, Reply}
use Rattle.plain_store.specs.declared.Answer.TheVariants as answer
use Rattle.model.specs.{Clears, Closing, IsAnswerTo, Mark, Over, Part, Past, Settles, Withdraws, all_takings, ends_span, has, is_called, is_failed, takings}
use Rattle.model.specs.declared.marks.Mark.TheVariants.{Called, Answered, Down}
use Rattle.laws.specs.{Doing, Rests, Lies, Runs, Closes}

-- the commands that a call has taken at a part: nothing before its last read of an image, or the last end of its commit
abbrev pub TookAt : Part → List (ℕ × Reply) → Type 0
TookAt (Clears a) taken = IsAnswerTo a taken
TookAt Over taken = length taken < 2
TookAt _ taken = taken ≡ []

-- while a bit is settled: nothing, if its settling may take the command
abbrev pub TookBefore : Option Reply → List (ℕ × Reply) → Type 0
TookBefore (Some r) taken = taken ≡ []
TookBefore None taken = length taken < 2

-- in a closing
abbrev pub TookIn : Closing → List (ℕ × Reply) → Type 0
TookIn (Withdraws w) taken = taken ≡ []
TookIn (Settles f bit begun by is t) taken = TookBefore by taken
TookIn _ taken = length taken < 2

-- by what is done
abbrev pub TookBy : Doing → List (ℕ × Reply) → Type 0
TookBy Rests taken = length taken < 2
TookBy Lies taken = length taken < 2
TookBy (Runs command number at) taken = TookAt at.part taken
TookBy (Closes command number at) taken = TookIn at taken

-- the call may still be answered
abbrev pub may_answer_in : Closing → Bool
may_answer_in (Withdraws w) = true
may_answer_in _ = false

abbrev pub may_answer : Doing → Bool
may_answer Rests = false
may_answer Lies = false
may_answer (Runs command number at) = true
may_answer (Closes command number at) = may_answer_in at

-- nothing is taken any more
abbrev pub has_settled : Closing → Bool
has_settled (Withdraws w) = false
has_settled (Settles f bit begun by is t) = false
has_settled _ = true

abbrev pub is_done : Doing → Bool
is_done Rests = true
is_done Lies = true
is_done (Runs command number at) = false
is_done (Closes command number at) = has_settled at

-- the knowledge of a process from the entries of its present call
pub record Reported (d : Doing) (call : Past) : Type 0 where
  pub took : TookBy d (all_takings call)
  pub uncut : may_answer d ≡ true → list_any (has is_failed) call ≡ false
  pub unended : is_done d ≡ false → list_any (has ends_span) call ≡ false

-- this holds of each answer in the marks
abbrev pub EachAnswer : (Answer → Type 0) → List Mark → Type 0
EachAnswer P [] = Unit {0}
EachAnswer P (Answered a ∷ ms) = P a × EachAnswer P ms
EachAnswer P (_ ∷ ms) = EachAnswer P ms

-- an answer that states what was taken, in a call that may be answered
abbrev pub Gives : Bool → List (ℕ × Reply) → Answer → Type 0
Gives may taken a = IsAnswerTo a taken × (may ≡ true)

-- The marks of an entry that begins no call, if its call has taken these commands before.
pub record Reports (taken : List (ℕ × Reply)) (d d' : Doing) (ms : List Mark) : Type 0 where
  pub one : length (takings ms) < 2
  pub answers : EachAnswer (Gives (may_answer d) (taken ++ takings ms)) ms
  pub uncalled : list_any is_called ms ≡ false
  pub took : TookBy d' (taken ++ takings ms)
  pub uncut : may_answer d' ≡ true → (list_any is_failed ms ≡ false) × (may_answer d ≡ true)
  pub unended : is_done d' ≡ false → (list_any ends_span ms ≡ false) × (is_done d ≡ false)
  pub quiet : is_done d ≡ true → takings ms ≡ []

-- the marks of any entry
pub data Says (taken : List (ℕ × Reply)) (d d' : Doing) (ms : List Mark) : Type 0 where
  begins : (command : Command) → ms ≡ Called command ∷ [] → TookBy d' [] → Says taken d d' ms
  goes : Reports taken d d' ms → Says taken d d' ms

-- Marks about no call.

pub record Silent (ms : List Mark) : Type 0 where
  pub taken : takings ms ≡ []
  pub called : list_any is_called ms ≡ false
  pub failed : list_any is_failed ms ≡ false
  pub ended : list_any ends_span ms ≡ false

pub unmarked : Silent []
unmarked = record { taken = refl; called = refl; failed = refl; ended = refl }

pub no_answer : (P : Answer → Type 0) (ms : List Mark) → list_any ends_span ms ≡ false → EachAnswer P ms
no_answer P [] h = tt
no_answer P (Answered a ∷ ms) h = cc
no_answer P (Down ∷ ms) h = cc
no_answer P (_ ∷ ms) h = no_answer P ms h

pub kept : (P : List (ℕ × Reply) → Type 0) (taken more : List (ℕ × Reply)) → more ≡ [] → P taken → P (taken ++ more)
kept P taken more none h = subst P (sym (ap (λ l. taken ++ l) none ∙ append-nil taken)) h

pub few : (taken : List (ℕ × Reply)) → taken ≡ [] → length taken < 2
few taken h = let n : length taken ≡ 0 = ap length h in omega (arith, n)

pub silent-reports : (taken : List (ℕ × Reply)) (d d' : Doing) (ms : List Mark) → Silent ms → TookBy d' taken → (may_answer d' ≡ true → may_answer d ≡ true) → (is_done d' ≡ false → is_done d ≡ false) →
    Reports taken d d' ms
silent-reports taken d d' ms s h answers done = record {
  one = few (takings ms) s.taken;
  answers = no_answer (Gives (may_answer d) (taken ++ takings ms)) ms s.ended;
  uncalled = s.called;
  took = kept (TookBy d') taken (takings ms) s.taken h;
  uncut = λ m. (s.failed, answers m);
  unended = λ m. (s.ended, done m);
  quiet = λ m. s.taken;
}

-- At most one command is taken at every part, and in every state.

answer-few : (a : Answer) (taken : List (ℕ × Reply)) → IsAnswerTo a taken → length taken < 2
answer-few (answer.Reply r) taken h = let n : length taken ≡ 1 = ap length h.1 in omega (arith, n)
answer-few _ taken h = few taken h

pub part-few : (part : Part) (taken : List (ℕ × Reply)) → TookAt part taken → length taken < 2
part-few (Clears a) taken h = answer-few a taken h
part-few Over taken h = h
part-few _ taken h = few taken h

before-few : (by : Option Reply) (taken : List (ℕ × Reply)) → TookBefore by taken → length taken < 2
before-few (Some r) taken h = few taken h
before-few None taken h = h

pub doing-few : (d : Doing) (taken : List (ℕ × Reply)) → TookBy d taken → length taken < 2
doing-few Rests taken h = h
doing-few Lies taken h = h
doing-few (Runs command number at) taken h = part-few at.part taken h
doing-few (Closes command number (Withdraws w)) taken h = few taken h
doing-few (Closes command number (Settles f bit begun by is t)) taken h = before-few by taken h
doing-few (Closes command number _) taken h = h

-- The answer in a mark.

answers-rest : (P : Answer → Type 0) (m : Mark) (ms : List Mark) → EachAnswer P (m ∷ ms) → EachAnswer P ms
answers-rest P (Answered a) ms h = h.1
answers-rest P _ ms h = h

pub answer-at : (P : Answer → Type 0) (ms : List Mark) (a : Answer) → EachAnswer P ms → Contains ms (Answered a) → P a
answer-at P [] a h (k, l, e) = absurd (omega (arith, l))
answer-at P (m ∷ ms) a h (zero, l, e) = let at : EachAnswer P (Answered a ∷ ms) = subst (λ x. EachAnswer P (x ∷ ms)) e h in at.0
answer-at P (m ∷ ms) a h (suc k, l, e) = answer-at P ms a (answers-rest P m ms h) (k, omega (arith, l), e)
