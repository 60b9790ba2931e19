-- No mark of a step is refused by any lock's tables.
use Rattle.std.proofs.Common.{◌≡◌, ℕ, ◌&&◌, ◌||◌, not, Bool, true, false, cond, List, [], ◌∷◌, ◌++◌, Option, Some, None, refl, sym, ap, subst, ◌∙◌, true≢false}
use Rattle.std.specs.Prelude.{if◌then◌else◌}
use Rattle.model.specs.reader_copies.Runs as copies
use Rattle.model.specs.{AsksImage, Call, Clears, Field, IsAnswerTo, Mark, Next, Part, Refuses, Waits, WritesCommit, entered_if_none, first_marks, is_commit, is_in_doorway, is_leaving, is_over, is_version, last_marks, lets_by, part_after, reply, stage_after, stage_of, store_read, waits_of, write_moved}
use Rattle.model.specs.declared.access.Field.TheVariants.{Commit}
use Rattle.plain_store.specs.{Answer, Command, Reply, Setup, changes}
use Rattle.plain_store.specs.declared.Answer.TheVariants as answer
use Rattle.model.specs.declared.marks.Mark.TheVariants.{Waiting, Taken, Left, Answered, Settled, Down}
use Rattle.model.specs.Closings.{Closing, Withdraws, Settles, Frees, Lowers, Quit, Ended, closing_after, closing_next, closing_stage, freeing, is_last_settled, is_last_written, is_unwritten, no_ticket, settled_marks}
use Rattle.model.specs.Parts as part
use Rattle.any_lock.specs.safe_monitor.laws.{Closes, call, is_inside_at, is_inside_closing}
use Rattle.any_lock.proofs.safe_monitor.laws.Alone.{SettlesInside}
use Rattle.judge.proofs.history_laws.Took.{TookAt, TookIn}
use Rattle.any_lock.specs.{ProcessView, is_withdrawn, marked}
use Rattle.any_lock.proofs.Took.{Takes}
use Rattle.judge.proofs.PlainMarks.{Fine, MayAnswer, answers, fine_entered, fine_more, fine_one, fits_answer, leaves, lies_down, no_reply, settles, takes, waits}
use Rattle.judge.proofs.Withdrawals.{WithdrawnIn, answers_withdrawn}

-- Marks at a place.

-- the state of a process after the access of a part, before the marks; last: it is the last one of its part
pub record AtPart (k : ProcessView) (ts : List (ℕ × Reply)) (c : Call) (x : Part) (fresh last : Bool) (bits : List Bool) : Type 0 where
  pub at_stage : k.stage ≡ stage_of x fresh
  pub inside : k.passage.inside ≡ is_inside_at x fresh
  pub unwithdrawn : k.withdrawn ≡ false
  pub replies : Takes k.reply ts
  pub took : TookAt x ts
  pub other : answers_withdrawn x ≡ false
  pub closed : last ≡ true → is_over (part_after c x bits) ≡ true → k.opened ≡ None

-- marks on the last access alone
only_last : (P : List Mark → Type 0) (fresh last : Bool) (ms : List Mark) → P [] → (last ≡ true → P ms) → P (cond {A = List Mark} fresh [] [] ++ cond last ms [])
only_last P true true ms none some = some refl
only_last P true false ms none some = none
only_last P false true ms none some = some refl
only_last P false false ms none some = none

not_withdrawn : (a : Answer) → answers_withdrawn (Clears a) ≡ false → is_withdrawn a ≡ false
not_withdrawn answer.Withdrawn h = h
not_withdrawn _ h = refl

-- an answer of a call that was not withdrawn
may_answer : (k : ProcessView) (ts : List (ℕ × Reply)) (a : Answer) → (is_in_doorway k.stage || is_leaving k.stage) ≡ true → k.withdrawn ≡ false → is_withdrawn a ≡ false → Takes k.reply ts → IsAnswerTo a ts → k.opened ≡ None → MayAnswer k a
may_answer k ts a st unwithdrawn other replies took closed =
    let fits = fits_answer a k.reply ts replies took in
    record {
      at_stage = st;
      withdrawn = ap (λ b. b && not (is_withdrawn a)) unwithdrawn;
      same = fits.0;
      taken = fits.1;
      unwithdrawn = ap (λ b. not b && is_withdrawn a) unwithdrawn ∙ other;
      closed = closed;
    }

module _ (s : Setup) (n place : ℕ) where
  clears_fine : (k : ProcessView) (ts : List (ℕ × Reply)) (c : Call) (a : Answer) (fresh last : Bool) (bits : List Bool) → AtPart k ts c (Clears a) fresh last bits → Fine s n place k (cond fresh (Left ∷ []) [] ++ cond last (Answered a ∷ []) [])
  clears_fine k ts c a true true bits at =
      let remaining : ProcessView = marked s n k Left in
      fine_more s n place k Left (Answered a ∷ []) (leaves k at.inside)
      (fine_one s n place remaining (Answered a) (answers remaining a (may_answer remaining ts a (ap (λ x. is_in_doorway (stage_after x Left) || is_leaving (stage_after x Left)) at.at_stage) at.unwithdrawn (not_withdrawn a at.other) at.replies at.took (at.closed refl refl))))
  clears_fine k ts c a true false bits at = fine_one s n place k Left (leaves k at.inside)
  clears_fine k ts c a false true bits at =
      fine_one s n place k (Answered a) (answers k a (may_answer k ts a (ap (λ x. is_in_doorway x || is_leaving x) at.at_stage) at.unwithdrawn (not_withdrawn a at.other) at.replies at.took (at.closed refl refl)))
  clears_fine k ts c a false false bits at = refl

  pub part_fine : (k : ProcessView) (ts : List (ℕ × Reply)) (c : Call) (x : Part) (fresh last : Bool) (bits : List Bool) → AtPart k ts c x fresh last bits → Fine s n place k (cond fresh (first_marks x) [] ++ cond last (last_marks c x bits) [])
  part_fine k ts c (part.Lowers t) fresh last bits at = only_last (Fine s n place k) fresh last (Waiting t ∷ entered_if_none (waits_of c)) refl
      (λ _. fine_more s n place k (Waiting t) (entered_if_none (waits_of c)) (waits k t at.at_stage) (fine_entered s n place (marked s n k (Waiting t)) (waits_of c) refl))
  part_fine k ts c (Refuses f) fresh last bits at = only_last (Fine s n place k) fresh last (Answered (answer.TicketsFull f) ∷ []) refl
      (λ done. fine_one s n place k (Answered (answer.TicketsFull f)) (answers k (answer.TicketsFull f)
      (may_answer k ts (answer.TicketsFull f) (ap (λ x. is_in_doorway x || is_leaving x) at.at_stage) at.unwithdrawn refl at.replies at.took (at.closed done refl))))
  part_fine k ts c (Waits t w ws) fresh last bits at = only_last (Fine s n place k) fresh last (cond (lets_by c t w bits) (entered_if_none ws) []) refl (λ _. by (lets_by c t w bits))
    where
      by : (b : Bool) → Fine s n place k (cond b (entered_if_none ws) [])
      by true = fine_entered s n place k ws at.at_stage
      by false = refl
  part_fine k ts c (AsksImage vs) fresh last bits at = only_last (Fine s n place k) fresh last (cond (changes (store_read c bits) c.command) [] (Taken 0 (reply c (store_read c bits)) ∷ [])) refl (λ _. by (changes (store_read c bits) c.command))
    where
      by : (b : Bool) → Fine s n place k (cond b [] (Taken 0 (reply c (store_read c bits)) ∷ []))
      by true = refl
      by false = fine_one s n place k (Taken 0 (reply c (store_read c bits))) (takes k place (reply c (store_read c bits)) at.inside (no_reply k.reply ts at.replies at.took))
  part_fine k ts c (WritesCommit vs st) fresh last bits at = only_last (Fine s n place k) fresh last (Taken 0 (reply c st) ∷ []) refl
      (λ _. fine_one s n place k (Taken 0 (reply c st)) (takes k place (reply c st) at.inside (no_reply k.reply ts at.replies at.took)))
  part_fine k ts c (Clears a) fresh last bits at = clears_fine k ts c a fresh last bits at
  part_fine k ts c _ fresh last bits at = only_last (Fine s n place k) fresh last [] refl (λ _. refl)

-- Marks in a closing.

-- the closing has ended
abbrev pub is_done : Closing → Bool
is_done Quit = true
is_done Ended = true
is_done _ = false

-- the closing settles a bit
abbrev pub is_settler : Closing → Bool
is_settler (Settles f bit begun taken is t) = true
is_settler _ = false

-- the state of a process after the access of a closing, before the marks
pub record AtClosing (s : Setup) (p : ℕ) (k : ProcessView) (ts : List (ℕ × Reply)) (command : Command) (number : ℕ) (x : Closing) (flick : Bool) : Type 0 where
  pub at_stage : k.stage ≡ closing_stage x
  pub inside : k.passage.inside ≡ is_inside_closing x
  pub withdrawn : WithdrawnIn k.withdrawn (Closes command number x)
  pub replies : Takes k.reply ts
  pub took : TookIn x ts
  pub settles_inside : SettlesInside x
  pub closed : is_done (closing_after (call s p command number) x flick) ≡ true → k.opened ≡ None
  pub whole : is_settler (closing_after (call s p command number) x flick) ≡ false → k.torn ≡ None

commits_version : (f : Field) → is_commit f ≡ true → is_version f ≡ true
commits_version Commit h = refl
commits_version _ h = absurd (true≢false (sym h))

-- a unit that may take the command is inside
takes_inside : (f : Field) (by : Option Reply) (is : Bool) (r : Reply) → by ≡ Some r → (is_version f ≡ true → is ≡ true) → (is_commit f ≡ false → by ≡ None) → is ≡ true
takes_inside f by is r some version none = go (is_commit f) refl
  where
    go : (b : Bool) → is_commit f ≡ b → is ≡ true
    go true h = version (commits_version f h)
    go false h = let g : Some r ≡ None = sym some ∙ none h in cc

module _ (s : Setup) (n place : ℕ) (p : ℕ) (k : ProcessView) (ts : List (ℕ × Reply)) (command : Command) (number : ℕ) (flick : Bool) where
  abbrev c : Call
  c = call s p command number

  settles_fine : (f : Field) (bit : ℕ) (begun : Bool) (by : Option Reply) (is : Bool) (t : copies.Settling) → AtClosing s p k ts command number (Settles f bit begun by is t) flick → (v last : Bool) →
      (last ≡ true → k.torn ≡ None) → Fine s n place k (cond last (settled_marks begun by v) [])
  settles_fine f bit begun by is t at v false whole = refl
  settles_fine f bit begun by is t at v true whole = fine_more s n place k (Settled v) _ (settles k v at.at_stage (whole refl)) (taken by refl at.took)
    where
      taken : (o : Option Reply) → by ≡ o → TookIn (Settles f bit begun o is t) ts → Fine s n place k (elim o as (λ _. List Mark) [ None ↦ [] | Some r ↦ cond (if v then begun else not begun) (Taken 0 r ∷ []) [] ])
      taken None o h = refl
      taken (Some r) o h = go (if v then begun else not begun)
        where
          go : (b : Bool) → Fine s n place k (cond b (Taken 0 r ∷ []) [])
          go true = fine_one s n place k (Taken 0 r) (takes k place r (at.inside ∙ takes_inside f by is r o at.settles_inside.0 at.settles_inside.1) (no_reply k.reply ts at.replies h))
          go false = refl

  pub closing_fine_at : (x : Closing) (next : Next) → closing_next c x flick ≡ Some next → AtClosing s p k ts command number x flick → Fine s n place k next.marks
  closing_fine_at x next is at = go x is at
    where
      of_next : (x : Next) → Fine s n place k x.marks → Some x ≡ Some next → Fine s n place k next.marks
      of_next x h e = let f : x ≡ next = cc in subst (λ (y : Next). Fine s n place k y.marks) f h

      go : (x : Closing) → closing_next c x flick ≡ Some next → AtClosing s p k ts command number x flick → Fine s n place k next.marks
      go (Withdraws w) is at = of_next _ (by (is_last_written c (no_ticket c) w) refl) is
        where
          by : (b : Bool) → is_last_written c (no_ticket c) w ≡ b → Fine s n place k (cond b (Answered answer.Withdrawn ∷ []) [])
          by false last = refl
          by true last =
              let fits = fits_answer answer.Withdrawn k.reply ts at.replies at.took in
              fine_one s n place k (Answered answer.Withdrawn) (answers k answer.Withdrawn (record {
                at_stage = ap (λ x. is_in_doorway x || is_leaving x) at.at_stage;
                withdrawn = ap (λ b. b && false) at.withdrawn;
                same = fits.0;
                taken = fits.1;
                unwithdrawn = ap (λ b. not b && true) at.withdrawn;
                closed = at.closed (ap (λ b. is_done (cond b Quit (Withdraws (write_moved s.processes (no_ticket c) w)))) last);
              }))
      go (Settles f bit begun by is_in t) is at =
          let v : Bool = copies.settled_at t flick in
          of_next _ (settles_fine f bit begun by is_in t at v (is_last_settled c t v) (λ last. at.whole (ap (λ b. is_settler (cond b (freeing c is_in) (Settles f bit begun by is_in (copies.settle_after t v)))) last))) is
      go (Frees is_in w) is at = of_next _ (by (is_in && is_unwritten w) refl) is
        where
          by : (b : Bool) → (is_in && is_unwritten w) ≡ b → Fine s n place k (cond b (Left ∷ []) [])
          by false h = refl
          by true h = fine_one s n place k Left (leaves k (at.inside ∙ h))
      go (Lowers w) is at = of_next _ (by (is_last_written c (false ∷ []) w) refl) is
        where
          by : (b : Bool) → is_last_written c (false ∷ []) w ≡ b → Fine s n place k (cond b (Down ∷ []) [])
          by false last = refl
          by true last = fine_one s n place k Down (lies_down k at.at_stage at.inside
              (at.closed (ap (λ b. is_done (cond b Ended (Lowers (write_moved s.processes (false ∷ []) w)))) last))
              (at.whole (ap (λ b. is_settler (cond b Ended (Lowers (write_moved s.processes (false ∷ []) w)))) last)))
      go Quit is at = cc
      go Ended is at = cc
