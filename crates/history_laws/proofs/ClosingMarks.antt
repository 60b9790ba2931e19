-- The marks of a step of a closing, and the marks of a failure.
use Rattle.std.proofs.Common.{◌≡◌, ℕ, ◌<◌, ◌&&◌, Bool, true, false, cond, not, List, [], ◌∷◌, ◌++◌, Option, Some, None, length, map, refl, sym, ap, subst, ◌∙◌, arith, append-nil}
use Rattle.std.specs.Prelude.{if◌then◌else◌}
use Rattle.model.specs.reader_copies.Runs as copies
use Rattle.model.specs.{Access, Call, Clears, Entry, Field, Mark, Next, Over, Part, Past, WritesCommit, WritesImage, WritesStamp, is_commit, last_write, placed, unfinished, write_moved, written_at}
use Rattle.model.specs.safe_number.{NumberWrite, new_write}
use Rattle.plain_store.specs.declared.Answer.TheVariants as answer
use Rattle.plain_store.specs.{Command, Reply, Setup}
use Rattle.model.specs.declared.marks.Mark.TheVariants.{Taken, Left, Answered, Failed, Settled, Down}
use Rattle.model.specs.Closings.{Closing, Withdraws, Settles, Frees, Lowers, Quit, Ended, no_ticket, is_last_written, is_last_settled, is_unwritten, settled_marks, freeing, failing, settling_from, closing_next, closing_after}
use Rattle.laws.specs.{Doing, Rests, Runs, Closes, call, closes}
use Rattle.laws.proofs.Doings.{Step, calls, withdraws, fails, restarts, steps, closes_on, IsCut, at_rest, between, within, leaving, clearing}
use Rattle.history_laws.proofs.Took.{TookAt, TookBefore, TookIn, TookBy, Reports, Silent, unmarked, silent-reports, kept, few, part-few, is_done, may_answer_in, has_settled, may_answer}

one-silent : (n : ℕ) (m : Mark) (b : Bool) → Silent (map (placed n) (m ∷ [])) → Silent (map (placed n) (cond b (m ∷ []) []))
one-silent n m true h = h
one-silent n m false h = unmarked

-- a step of a withdrawal
withdraws-reports : (command : Command) (number n : ℕ) (w w' : NumberWrite) (last : Bool) (taken : List (ℕ × Reply)) → taken ≡ [] →
    Reports taken (Closes command number (Withdraws w)) (closes command number (cond last Quit (Withdraws w'))) (map (placed n) (cond last (Answered answer.Withdrawn ∷ []) []))
withdraws-reports command number n w w' true taken h = record {
  one = omega arith;
  answers = ((append-nil taken ∙ h, refl), tt);
  uncalled = refl;
  took = kept (λ l. length l < 2) taken [] refl (few taken h);
  uncut = λ x. cc;
  unended = λ x. cc;
  quiet = λ x. cc;
}
withdraws-reports command number n w w' false taken h = silent-reports taken _ _ [] unmarked h (λ x. refl) (λ x. refl)

-- a memory unit settles a bit: with the last access it may take the command
settles-reports : (c : Call) (command : Command) (number n : ℕ) (f : Field) (bit : ℕ) (begun : Bool) (by : Option Reply) (is : Bool) (t t' : copies.Settling) (v last : Bool) (taken : List (ℕ × Reply)) → TookBefore by taken →
    Reports taken (Closes command number (Settles f bit begun by is t)) (closes command number (cond last (freeing c is) (Settles f bit begun by is t'))) (map (placed n) (cond last (settled_marks begun by v) []))
settles-reports c command number n f bit begun by is t t' v false taken h = silent-reports taken _ _ [] unmarked h (λ x. cc) (λ x. refl)
settles-reports c command number n f bit begun None is t t' v true taken h =
    silent-reports taken _ _ (Settled v ∷ []) (record { taken = refl; called = refl; failed = refl; ended = refl }) h (λ x. cc) (λ x. cc)
settles-reports c command number n f bit begun (Some r) is t t' v true taken h = go (if v then begun else not begun)
  where
    d : Doing
    d = Closes command number (Settles f bit begun (Some r) is t)

    d' : Doing
    d' = Closes command number (freeing c is)

    go : (b : Bool) → Reports taken d d' (map (placed n) (Settled v ∷ cond b (Taken 0 r ∷ []) []))
    go true = record {
      one = omega arith;
      answers = tt;
      uncalled = refl;
      took = let l : length (taken ++ (n, r) ∷ []) ≡ 1 = ap (λ l. length (l ++ (n, r) ∷ [])) h in omega (arith, l);
      uncut = λ x. cc;
      unended = λ x. cc;
      quiet = λ x. cc;
    }
    go false = silent-reports taken d d' (Settled v ∷ []) (record { taken = refl; called = refl; failed = refl; ended = refl }) (few taken h) (λ x. cc) (λ x. cc)

-- a memory unit clears the ticket
frees-reports : (command : Command) (number n : ℕ) (is b last : Bool) (w w' : NumberWrite) (taken : List (ℕ × Reply)) → length taken < 2 →
    Reports taken (Closes command number (Frees is w)) (closes command number (cond last (Lowers (new_write 1)) (Frees is w'))) (map (placed n) (cond b (Left ∷ []) []))
frees-reports command number n is b true w w' taken h = silent-reports taken _ _ _ (one-silent n Left b (record { taken = refl; called = refl; failed = refl; ended = refl })) h (λ x. cc) (λ x. cc)
frees-reports command number n is b false w w' taken h = silent-reports taken _ _ _ (one-silent n Left b (record { taken = refl; called = refl; failed = refl; ended = refl })) h (λ x. cc) (λ x. cc)

-- a memory unit clears the choosing bit
lowers-reports : (command : Command) (number n : ℕ) (last : Bool) (w w' : NumberWrite) (taken : List (ℕ × Reply)) → length taken < 2 →
    Reports taken (Closes command number (Lowers w)) (closes command number (cond last Ended (Lowers w'))) (map (placed n) (cond last (Down ∷ []) []))
lowers-reports command number n true w w' taken h = record {
  one = omega arith;
  answers = tt;
  uncalled = refl;
  took = kept (λ l. length l < 2) taken [] refl h;
  uncut = λ x. cc;
  unended = λ x. cc;
  quiet = λ x. refl;
}
lowers-reports command number n false w w' taken h = silent-reports taken _ _ [] unmarked h (λ x. cc) (λ x. cc)

-- The marks of a step of a closing.
pub closing-reports : (c : Call) (command : Command) (number n : ℕ) (at : Closing) (flick : Bool) (next : Next) (taken : List (ℕ × Reply)) → closing_next c at flick ≡ Some next → TookIn at taken →
    Reports taken (Closes command number at) (closes command number (closing_after c at flick)) (map (placed n) next.marks)
closing-reports c command number n at flick next taken h k = go at h k
  where
    X : Closing → List Mark → Type 0
    X at ms = Reports taken (Closes command number at) (closes command number (closing_after c at flick)) (map (placed n) ms)

    of_next : (at : Closing) (x : Next) → X at x.marks → Some x ≡ Some next → X at next.marks
    of_next at x k e = let f : x ≡ next = cc in subst (λ (y : Next). X at y.marks) f k

    go : (at : Closing) → closing_next c at flick ≡ Some next → TookIn at taken → X at next.marks
    go (Withdraws w) h k = of_next (Withdraws w) _ (withdraws-reports command number n w (write_moved c.setup.processes (no_ticket c) w) (is_last_written c (no_ticket c) w) taken k) h
    go (Settles f bit begun by is t) h k =
        let v : Bool = copies.settled_at t flick in
        of_next (Settles f bit begun by is t) _ (settles-reports c command number n f bit begun by is t (copies.settle_after t v) v (is_last_settled c t v) taken k) h
    go (Frees is w) h k =
        of_next (Frees is w) _ (frees-reports command number n is (is && is_unwritten w) (is_last_written c (no_ticket c) w) w (write_moved c.setup.processes (no_ticket c) w) taken k) h
    go (Lowers w) h k = of_next (Lowers w) _ (lowers-reports command number n (is_last_written c (false ∷ []) w) w (write_moved c.setup.processes (false ∷ []) w) taken k) h
    go Quit h k = cc
    go Ended h k = cc

-- A failure.

-- the settling of a bit may take the command only where none was taken
before : (b : Bool) (r : Reply) (taken : List (ℕ × Reply)) → taken ≡ [] → TookBefore (cond b (Some r) None) taken
before true r taken h = h
before false r taken h = few taken h

part-before : (c : Call) (part : Part) (r : Reply) (taken : List (ℕ × Reply)) → TookAt part taken → TookBefore (cond (is_commit (written_at c part).0) (Some r) None) taken
part-before c (Clears a) r taken h = part-few (Clears a) taken h
part-before c Over r taken h = h
part-before c (WritesImage vs st) r taken h = before (is_commit (written_at c (WritesImage vs st)).0) r taken h
part-before c (WritesStamp vs st) r taken h = before (is_commit (written_at c (WritesStamp vs st)).0) r taken h
part-before c (WritesCommit vs st) r taken h = h
part-before c _ r taken h = few taken h

-- a cut call continues with a memory unit
record Cuts (taken : List (ℕ × Reply)) (d : Doing) (cl : Closing) : Type 0 where
  pub took : TookIn cl taken
  pub unanswered : may_answer_in cl ≡ false
  pub done : has_settled cl ≡ false → is_done d ≡ false

cuts : (s : Setup) (p : ℕ) (c : Call) (cl : Closing) (d : Doing) (taken : List (ℕ × Reply)) → IsCut s p c cl d → TookBy d taken → Cuts taken d cl
cuts s p c cl d taken (at_rest i) h = subst (Cuts taken Rests) (sym i) (record { took = h; unanswered = refl; done = λ x. cc })
cuts s p c cl d taken (between command number at i) h = subst (Cuts taken (Runs command number at)) (sym i) (record { took = part-few at.part taken h; unanswered = refl; done = λ x. refl })
cuts s p c cl d taken (within command number at bit begun r t i read fresh) h =
    subst (Cuts taken (Runs command number at)) (sym i) (record { took = part-before (call s p command number) at.part r taken h; unanswered = refl; done = λ x. refl })
cuts s p c cl d taken (leaving command number w i) h = subst (Cuts taken (Closes command number (Withdraws w))) (sym i) (record { took = few taken h; unanswered = refl; done = λ x. refl })
cuts s p c cl d taken (clearing command number w bit begun t i written) h =
    subst (Cuts taken (Closes command number (Withdraws w))) (sym i) (record { took = few taken h; unanswered = refl; done = λ x. refl })

failed-reports : (taken : List (ℕ × Reply)) (d : Doing) (command : Command) (number : ℕ) (cl : Closing) → Cuts taken d cl → Reports taken d (Closes command number cl) (Failed ∷ [])
failed-reports taken d command number cl x = record {
  one = omega arith;
  answers = tt;
  uncalled = refl;
  took = kept (TookIn cl) taken [] refl x.took;
  uncut = λ m. let f : true ≡ false = sym m ∙ x.unanswered in cc;
  unended = λ m. (refl, x.done m);
  quiet = λ m. refl;
}

-- a memory unit withdraws nothing
unwithdrawn : (c : Call) (past : Past) → may_answer_in (failing c past) ≡ false
unwithdrawn c past = go (unfinished c.setup.processes (last_write past))
  where
    go : (o : Option Access) → may_answer_in (settling_from c past o) ≡ false
    go None = refl
    go (Some a) = refl

-- The mark of a failure.
pub failure-reports : (s : Setup) (past : Past) (p : ℕ) (e : Entry) (d d' : Doing) (command : Command) (number : ℕ) (c : Call) (mine : Past) (taken : List (ℕ × Reply)) →
    Step s past p e d d' → e.access ≡ None → d' ≡ Closes command number (failing c mine) → TookBy d taken → Reports taken d d' (Failed ∷ [])
failure-reports s past p e d d' command number c mine taken (calls command' number' i a k) none goal h = let f : Runs command' number' _ ≡ Closes command number (failing c mine) = sym k ∙ goal in cc
failure-reports s past p e d d' command number c mine taken (withdraws command' number' t w ws run i a k) none goal h =
    let f : Closes command' number' (Withdraws (new_write _)) ≡ Closes command number (failing c mine) = sym k ∙ goal in
    let g : true ≡ false = ap may_answer f ∙ unwithdrawn c mine in cc
failure-reports s past p e d d' command number c mine taken (fails command' number' cl cut a k) none goal h =
    subst (λ x. Reports taken d x (Failed ∷ [])) (sym k) (failed-reports taken d command' number' cl (cuts s p (call s p command' number') cl d taken cut h))
failure-reports s past p e d d' command number c mine taken (restarts i a k) none goal h = let f : Rests ≡ Closes command number (failing c mine) = sym k ∙ goal in cc
failure-reports s past p e d d' command number c mine taken (steps command' number' at a flick i o is made k) none goal h = let f : Some a ≡ None = sym is ∙ none in cc
failure-reports s past p e d d' command number c mine taken (closes_on command' number' at flick n i next is k) none goal h = let f : Some _ ≡ None = sym is ∙ none in cc
