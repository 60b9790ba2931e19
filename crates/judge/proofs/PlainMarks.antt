-- Marks that any lock's tables do not refuse in a given state of a process.
use Rattle.std.proofs.Common.{◌≡◌, ℕ, ◌&&◌, ◌||◌, not, Bool, true, false, List, [], ◌∷◌, Option, Some, None, map, refl, sym, ap, ◌∙◌}
use Rattle.std.specs.Option.{is_none, is_some}
use Rattle.plain_store.specs.{Answer, Reply, Setup}
use Rattle.plain_store.specs.declared.Answer.TheVariants as answer
use Rattle.model.specs.{IsAnswerTo, Mark, Wait, entered_if_none, is_in_doorway, is_leaving, is_settling, is_waiting_stage, placed}
use Rattle.model.specs.declared.marks.Mark.TheVariants.{Waiting, Entered, Taken, Left, Answered, Settled, Down}
use Rattle.model.specs.declared.stages.Stage.TheVariants as stages
use Rattle.any_lock.specs.{MarkRefusal, ProcessView, first_that, has_other_reply, is_reply, is_withdrawn, mark_refusal, marked, refusal_on}
use Rattle.any_lock.specs.declared.refusals.MarkRefusal.TheVariants as refusal
use Rattle.any_lock.proofs.Took.{Takes}
use Rattle.judge.proofs.SameReply.{same_as_itself}

-- One mark.

pub waits : (k : ProcessView) (t : ℕ) → k.stage ≡ stages.Doorway → mark_refusal k (Waiting t) ≡ None
waits k t st = ap (λ x. first_that ((not (is_in_doorway x), refusal.NotInDoorway) ∷ [])) st

pub enters : (k : ProcessView) → k.stage ≡ stages.Waiting → mark_refusal k Entered ≡ None
enters k st = ap (λ x. first_that ((not (is_waiting_stage x), refusal.NotWaiting) ∷ [])) st

pub leaves : (k : ProcessView) → k.passage.inside ≡ true → mark_refusal k Left ≡ None
leaves k is = ap (λ x. first_that ((not x, refusal.NotInside) ∷ [])) is

pub takes : (k : ProcessView) (n : ℕ) (r : Reply) → k.passage.inside ≡ true → k.reply ≡ None → mark_refusal k (Taken n r) ≡ None
takes k n r is none = λ i. first_that ((not (is i), refusal.NotInside) ∷ (is_some (none i), refusal.TakenBefore) ∷ [])

pub settles : (k : ProcessView) (v : Bool) → k.stage ≡ stages.Settling → k.torn ≡ None → mark_refusal k (Settled v) ≡ None
settles k v st none = λ i. first_that ((not (is_settling (st i)), refusal.NotSettling) ∷ (is_some (none i), refusal.Torn) ∷ [])

pub lies_down : (k : ProcessView) → k.stage ≡ stages.Settling → k.passage.inside ≡ false → k.opened ≡ None → k.torn ≡ None → mark_refusal k Down ≡ None
lies_down k st out closed whole = λ i. first_that ((not (is_settling (st i)), refusal.NotSettling) ∷ (out i, refusal.StillInside) ∷ (is_some (closed i), refusal.AccessOpen) ∷ (is_some (whole i), refusal.Torn) ∷ [])

-- the facts about an answer that is not refused
pub record MayAnswer (k : ProcessView) (a : Answer) : Type 0 where
  pub at_stage : (is_in_doorway k.stage || is_leaving k.stage) ≡ true
  pub withdrawn : (k.withdrawn && not (is_withdrawn a)) ≡ false
  pub same : has_other_reply k.reply a ≡ false
  pub taken : (is_none k.reply && is_reply a) ≡ false
  pub unwithdrawn : (not k.withdrawn && is_withdrawn a) ≡ false
  pub closed : k.opened ≡ None

pub answers : (k : ProcessView) (a : Answer) → MayAnswer k a → mark_refusal k (Answered a) ≡ None
answers k a h = λ i. first_that (
    (not (h.at_stage i), refusal.NotLeaving)
    ∷ (h.withdrawn i, refusal.WasWithdrawn)
    ∷ (h.same i, refusal.OtherReply)
    ∷ (h.taken i, refusal.NotTaken)
    ∷ (h.unwithdrawn i, refusal.NotWithdrawn)
    ∷ (is_some (h.closed i), refusal.AccessOpen)
    ∷ [])

-- The replies with which commands were taken.

pub no_reply : (o : Option Reply) (ts : List (ℕ × Reply)) → Takes o ts → ts ≡ [] → o ≡ None
no_reply None ts h none = refl
no_reply (Some r) ts h none = let both : ◌≡◌ {A = List (ℕ × Reply)} ((h.0, r) ∷ []) [] = sym h.1 ∙ none in cc

one_reply : (o : Option Reply) (ts : List (ℕ × Reply)) (k : ℕ) (r : Reply) → Takes o ts → ts ≡ (k, r) ∷ [] → o ≡ Some r
one_reply None ts k r h one = let both : ◌≡◌ {A = List (ℕ × Reply)} [] ((k, r) ∷ []) = sym h ∙ one in cc
one_reply (Some q) ts k r h one =
    let both : ◌≡◌ {A = List (ℕ × Reply)} ((h.0, q) ∷ []) ((k, r) ∷ []) = sym h.1 ∙ one in
    let pair : ◌≡◌ {A = ℕ × Reply} (h.0, q) (k, r) = cc in
    ap (λ (t : ℕ × Reply). Some t.1) pair

-- an answer is the reply with which the call has taken its command, or contains no reply
pub fits_answer : (a : Answer) (o : Option Reply) (ts : List (ℕ × Reply)) → Takes o ts → IsAnswerTo a ts → (has_other_reply o a ≡ false) × ((is_none o && is_reply a) ≡ false)
fits_answer (answer.Reply r) o ts h is =
    let one : o ≡ Some r = one_reply o ts is.0 r h is.1 in
    (ap (λ x. has_other_reply x (answer.Reply r)) one ∙ ap not (same_as_itself r), ap (λ x. is_none x && true) one)
fits_answer (answer.TicketsFull j) o ts h is = let none : o ≡ None = no_reply o ts h is in (ap (λ x. has_other_reply x (answer.TicketsFull j)) none, ap (λ x. is_none x && false) none)
fits_answer answer.StampsFull o ts h is = let none : o ≡ None = no_reply o ts h is in (ap (λ x. has_other_reply x answer.StampsFull) none, ap (λ x. is_none x && false) none)
fits_answer answer.Withdrawn o ts h is = let none : o ≡ None = no_reply o ts h is in (ap (λ x. has_other_reply x answer.Withdrawn) none, ap (λ x. is_none x && false) none)

-- Marks one after the other.

-- marks that get this position are not refused
abbrev pub Fine : Setup → ℕ → ℕ → ProcessView → List Mark → Type 0
Fine s n place k ms = refusal_on s n k (map (placed place) ms) ≡ None

pub fine_more : (s : Setup) (n place : ℕ) (k : ProcessView) (m : Mark) (ms : List Mark) → mark_refusal k (placed place m) ≡ None → Fine s n place (marked s n k (placed place m)) ms → Fine s n place k (m ∷ ms)
fine_more s n place k m ms h rest =
    ap (λ r. elim r as (λ _. Option MarkRefusal) [ Some r ↦ Some r | None ↦ refusal_on s n (marked s n k (placed place m)) (map (placed place) ms) ]) h ∙ rest

pub fine_one : (s : Setup) (n place : ℕ) (k : ProcessView) (m : Mark) → mark_refusal k (placed place m) ≡ None → Fine s n place k (m ∷ [])
fine_one s n place k m h = fine_more s n place k m [] h refl

-- a process that waits for no other enters
pub fine_entered : (s : Setup) (n place : ℕ) (k : ProcessView) (ws : List Wait) → k.stage ≡ stages.Waiting → Fine s n place k (entered_if_none ws)
fine_entered s n place k [] st = fine_one s n place k Entered (enters k st)
fine_entered s n place k (w ∷ ws) st = refl
