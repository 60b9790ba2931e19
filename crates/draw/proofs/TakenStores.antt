-- The store after marks goes on by one more.
use Rattle.std.proofs.Common.{◌≡◌, ◌≢◌, ◌<◌, ◌≤◌, ℕ, ◌==◌, inl, inr, Bool, true, false, nat_lt, cond, List, ◌∷◌, get_or, length, set, Option, None, Some, slice_get, refl, ap, sym, subst, ◌∙◌, arith, length-set, true≢false}
use Rattle.std.proofs.lemmas.Bool.{cases_lt}
use Rattle.std.proofs.lemmas.Bool.Decides.{nat_tests}
use Rattle.std.proofs.lemmas.List.{get_or-set_same, get_or-set_other}
use Rattle.std.proofs.lemmas.Option.{get_or_from_slice_get, slice_get-get_or, slice_get_within}
use Rattle.model.specs.plain_store.{Command, Contents, Setup}
use Rattle.model.specs.{Mark, is_called}
use Rattle.model.specs.declared.marks.Mark.TheVariants as mark
use Rattle.picture.specs.picture_layout.{places_marked}
use Rattle.draw.specs.{Changed, IsAfterMarks, LastCall, TakenStore, after_call, call_after, called_by, change_by_call, change_of, change_with, next_number, no_call, store_by, store_with, taken_by}

-- where nothing is looked up, there is nothing
past_all : (xs : List LastCall) (p : ℕ) → slice_get xs p ≡ None → length xs ≤ p
past_all xs p none = elim (cases_lt p (length xs)) [
  | inl within ↦ let some : slice_get xs p ≡ Some (get_or xs p no_call) = slice_get-get_or xs p no_call within in let no : None ≡ Some (get_or xs p no_call) = sym none ∙ some in absurd (cc)
  | inr past ↦ past
]

-- a process that is not there takes nothing
store_stray : (s : Setup) (p : ℕ) (call : LastCall) (m : Mark) (store : Contents) → nat_lt p s.processes ≡ false → store_with s p call m store ≡ store
store_stray s p call (mark.Taken k r) store stray = ap (λ b. cond b (after_call p call store) store) stray
store_stray s p call m store stray = refl

change_stray : (s : Setup) (p : ℕ) (call : LastCall) (m : Mark) (store : Contents) → nat_lt p s.processes ≡ false → change_with s p call m store ≡ None
change_stray s p call (mark.Taken k r) store stray = ap (λ b. cond b (change_by_call p call store) None) stray
change_stray s p call m store stray = refl

-- a mark of another process leaves a call, and so does one that begins none
pub call_other : (s : Setup) (m : Mark) (call : LastCall) → call_after s false m call ≡ call
call_other s (mark.Called c) call = refl
call_other s m call = refl

pub call_uncalled : (s : Setup) (own : Bool) (m : Mark) (call : LastCall) → is_called m ≡ false → call_after s own m call ≡ call
call_uncalled s false m call none = call_other s m call
call_uncalled s true (mark.Called c) call none = absurd (true≢false none)
call_uncalled s true m call none = refl

-- a mark that takes a command
abbrev pub is_taking : Mark → Bool
is_taking (mark.Taken k r) = true
is_taking _ = false

-- marks that neither begin a call nor take a command
abbrev pub is_quiet : Mark → Bool
is_quiet (mark.Called c) = false
is_quiet (mark.Taken k r) = false
is_quiet _ = true

call_quiet : (s : Setup) (own : Bool) (m : Mark) (call : LastCall) → is_quiet m ≡ true → call_after s own m call ≡ call
call_quiet s own (mark.Called c) call quiet = absurd (true≢false (sym quiet))
call_quiet s own m call quiet = call_uncalled s own m call refl

store_quiet : (s : Setup) (p : ℕ) (call : LastCall) (m : Mark) (store : Contents) → is_quiet m ≡ true → store_with s p call m store ≡ store
store_quiet s p call (mark.Taken k r) store quiet = absurd (true≢false (sym quiet))
store_quiet s p call m store quiet = refl

module _ (s : Setup) (before : List (ℕ × Mark)) (c new : TakenStore) (p : ℕ) (m : Mark) (is : IsAfterMarks s before c) (taken : new.taken ≡ places_marked c.taken m) where
  taken_then : new.taken ≡ taken_by ((p, m) ∷ before)
  taken_then = taken ∙ ap (λ n. places_marked n m) is.taken

  -- a process that is not there
  module _ (none : slice_get c.calls.items p ≡ None) where
    stray : nat_lt p s.processes ≡ false
    stray = let past : length c.calls.items ≤ p = past_all c.calls.items p none in let many : length c.calls.items ≡ s.processes = is.many in grind (arith, nat_tests)

    pub change_none : None ≡ change_of s before p m
    change_none = sym (change_stray s p (called_by s p before) m (store_by s before) stray)

    pub after_stray : new.version ≡ c.version → new.calls.items ≡ c.calls.items → new.store ≡ c.store → IsAfterMarks s ((p, m) ∷ before) new
    after_stray version calls store = record {
      version = version ∙ is.version;
      many = ap length calls ∙ is.many;
      store = store ∙ is.store ∙ sym (store_stray s p (called_by s p before) m (store_by s before) stray);
      taken = taken_then;
      calls = λ q below. ap (λ l. get_or l q no_call) calls ∙ is.calls q below ∙ sym (ap (λ b. call_after s b m (called_by s q before)) (apart q below) ∙ call_other s m (called_by s q before));
    }
      where
        apart : (q : ℕ) → q < s.processes → (q == p) ≡ false
        apart q below = let over = stray in grind (arith, nat_tests)

  -- a mark that neither begins a call nor takes a command
  pub after_quiet : is_quiet m ≡ true → new.version ≡ c.version → new.calls.items ≡ c.calls.items → new.store ≡ c.store → IsAfterMarks s ((p, m) ∷ before) new
  after_quiet quiet version calls store = record {
    version = version ∙ is.version;
    many = ap length calls ∙ is.many;
    store = store ∙ is.store ∙ sym (store_quiet s p (called_by s p before) m (store_by s before) quiet);
    taken = taken_then;
    calls = λ q below. ap (λ l. get_or l q no_call) calls ∙ is.calls q below ∙ sym (call_quiet s (q == p) m (called_by s q before) quiet);
  }

  -- a process that is there
  module _ (call : LastCall) (some : slice_get c.calls.items p ≡ Some call) where
    there : p < s.processes
    there = subst (λ n. p < n) is.many (slice_get_within c.calls.items p call some)

    is_there : nat_lt p s.processes ≡ true
    is_there = let below = there in grind (arith, nat_tests)

    last : call ≡ called_by s p before
    last = sym (get_or_from_slice_get c.calls.items p call no_call some) ∙ is.calls p there

    -- takes a command
    pub change_taking : is_taking m ≡ true → (made : Option Changed) → made ≡ change_by_call p call c.store → made ≡ change_of s before p m
    change_taking taking made by = by ∙ (λ i. change_by_call p (last i) (is.store i)) ∙ ap (λ b. cond b (change_by_call p (called_by s p before) (store_by s before)) None) (sym is_there) ∙ sym (change_is m taking)
      where
        change_is : (m : Mark) → is_taking m ≡ true → change_of s before p m ≡ cond (nat_lt p s.processes) (change_by_call p (called_by s p before) (store_by s before)) None
        change_is (mark.Taken k r) taking = refl
        change_is m taking = absurd (true≢false (sym taking))

    pub after_taking : is_taking m ≡ true → new.version ≡ c.version → new.calls.items ≡ c.calls.items → new.store ≡ after_call p call c.store → IsAfterMarks s ((p, m) ∷ before) new
    after_taking taking version calls store = record {
      version = version ∙ is.version;
      many = ap length calls ∙ is.many;
      store = store ∙ (λ i. after_call p (last i) (is.store i)) ∙ ap (λ b. cond b (after_call p (called_by s p before) (store_by s before)) (store_by s before)) (sym is_there) ∙ sym (store_is m taking);
      taken = taken_then;
      calls = λ q below. ap (λ l. get_or l q no_call) calls ∙ is.calls q below ∙ sym (call_uncalled s (q == p) m (called_by s q before) (uncalled m taking));
    }
      where
        store_is : (m : Mark) → is_taking m ≡ true → store_by s ((p, m) ∷ before) ≡ cond (nat_lt p s.processes) (after_call p (called_by s p before) (store_by s before)) (store_by s before)
        store_is (mark.Taken k r) taking = refl
        store_is m taking = absurd (true≢false (sym taking))

        uncalled : (m : Mark) → is_taking m ≡ true → is_called m ≡ false
        uncalled (mark.Called c) taking = absurd (true≢false (sym taking))
        uncalled m taking = refl

-- a process that is there calls
pub after_called : (s : Setup) (before : List (ℕ × Mark)) (c new : TakenStore) (p : ℕ) (command : Command) → IsAfterMarks s before c → (call : LastCall) → slice_get c.calls.items p ≡ Some call →
    new.taken ≡ c.taken → new.version ≡ c.version → new.store ≡ c.store → new.calls.items ≡ set c.calls.items p (record { command = command; number = next_number s call.number }) → IsAfterMarks s ((p, mark.Called command) ∷ before) new
after_called s before c new p command is call some taken version store calls = record {
  version = version ∙ is.version;
  many = ap length calls ∙ length-set c.calls.items p then ∙ is.many;
  store = store ∙ is.store;
  taken = taken ∙ is.taken;
  calls = λ q below. ap (λ l. get_or l q no_call) calls ∙ by q below (q == p) refl;
}
  where
    then : LastCall
    then = record { command = command; number = next_number s call.number }

    there : p < length c.calls.items
    there = slice_get_within c.calls.items p call some

    last : call ≡ called_by s p before
    last = sym (get_or_from_slice_get c.calls.items p call no_call some) ∙ is.calls p (subst (λ n. p < n) is.many there)

    by : (q : ℕ) → q < s.processes → (b : Bool) → (q == p) ≡ b → get_or (set c.calls.items p then) q no_call ≡ called_by s q ((p, mark.Called command) ∷ before)
    by q below true at =
        let same : q ≡ p = grind (arith, nat_tests, at) in
        ap (λ n. get_or (set c.calls.items p then) n no_call) same ∙ get_or-set_same c.calls.items p then no_call there
        ∙ ap (λ (l : LastCall). record { command = command; number = next_number s l.number }) last
        ∙ ap (λ n. call_after s true (mark.Called command) (called_by s n before)) (sym same) ∙ ap (λ b. call_after s b (mark.Called command) (called_by s q before)) (sym at)
    by q below false at =
        let apart : q ≢ p = λ same. let no : (q == p) ≡ true = grind (arith, nat_tests, same) in true≢false (sym no ∙ at) in
        get_or-set_other c.calls.items p q then no_call apart ∙ is.calls q below ∙ ap (λ b. call_after s b (mark.Called command) (called_by s q before)) (sym at)
