-- Every bit has one writer: who makes a write move owns the bit.
use Rattle.std.specs.Prelude.{◌≡◌, refl, ℕ, zero, suc, ◌+◌, ◌==◌, nat_lt, Bool, true, false, cond, ◌&&◌, List, [], ◌∷◌, ◌++◌, length, map, slice_get, Option, None, Some}
use Rattle.std.proofs.Common.{sym, ◌∙◌, ap, subst, true≢false, eqb-true, eq-eqb}
use Rattle.model.specs.{Access, Entry, Event, Field, Mark, Next, Past, Script, access_of, added, before, doing, ended, ended_with, entry_made, entry_of, field_number, has, inside, is_failed, is_finished, is_read, last_call, last_write, made_with, move_on, moves_of, nth, own, past_of, process_of, program, program_from, read_at, read_of, refused_at, same_bit, settle, settles_at, since, single, singles, stage, starts, stepped, unfinished, unit_program, valued, width, withdrawn, write_of, writing, written_at}
use Rattle.model.specs.declared.access.Field.TheVariants.{Choosing, Ticket}
use Rattle.safe_bit.specs.{Move, is_of_write, is_write_open}
use Rattle.safe_bit.specs.declared.Move.TheVariants.{BeginWrite, EndWrite, BeginRead, EndRead, Settle}
use Rattle.plain_store.specs.{Setup}
use Rattle.model.specs.declared.events.Event.TheVariants.{Call, Step, Fail, Withdraw, Restart}
use Rattle.model.specs.declared.marks.Mark.TheVariants.{Left, Down, Failed, Withdrew}
use Rattle.model.specs.declared.stages.Stage.TheVariants.{Idle, Down}
use Rattle.model.proofs.Singles.{reads_from, map-joined}
use Rattle.model.proofs.Whole.{NoWrites, open-reads}
use Rattle.model.proofs.Follow.{Spot, next_access}
use Rattle.model.proofs.Local.{View, rests, down, runs, withdraws, fails, option_map-some}
use Rattle.model.proofs.World.{entry-accepted, entry_view, view}
use Rattle.model.proofs.Width.{IsGood}
use Rattle.safe_number.specs.{at_bit, bits_of_number}
use Rattle.safe_number.specs.Accesses as number
use Rattle.reader_copies.specs.{settles_from, is_open_at}
use Rattle.reader_copies.specs.Runs as copies

-- a write move of p is on a bit of p
abbrev pub IsOwn : ℕ → Access → Type 0
IsOwn p x = is_of_write x.how ≡ true → x.owner ≡ p

abbrev pub AllOwn : ℕ → List Access → Type 0
AllOwn p [] = Unit {0}
AllOwn p (x ∷ xs) = IsOwn p x × AllOwn p xs

pub AllOwn-append : (p : ℕ) (xs ys : List Access) → AllOwn p xs → AllOwn p ys → AllOwn p (xs ++ ys)
AllOwn-append p [] ys h k = k
AllOwn-append p (x ∷ xs) ys h k = (h.0, AllOwn-append p xs ys h.1 k)

pub own-copies : (p : ℕ) (f : Field) (k r n : ℕ) (v : Bool) → AllOwn p (map (access_of p f) (map (at_bit k) (copies.writes_from r n v)))
own-copies p f k r zero v = tt
own-copies p f k r (suc n) v = ((λ _. refl), ((λ _. refl), own-copies p f k (r + 1) n v))

pub own-bits : (n p : ℕ) (f : Field) (k : ℕ) (bits : List Bool) → AllOwn p (map (access_of p f) (number.writes_from n k bits))
own-bits n p f k [] = tt
own-bits n p f k (b ∷ bits) =
    subst (AllOwn p) (sym (map-joined (access_of p f) (map (at_bit k) (copies.bit_writes n b)) (number.writes_from n (k + 1) bits)))
    (AllOwn-append p (map (access_of p f) (map (at_bit k) (copies.bit_writes n b))) (map (access_of p f) (number.writes_from n (k + 1) bits)) (own-copies p f k 0 n b) (own-bits n p f (k + 1) bits))

pub write_of-own : (s : Setup) (p : ℕ) (f : Field) (bits : List Bool) → AllOwn p (write_of s p f bits)
write_of-own s p f bits = own-bits s.processes p f 0 bits

pub own-reads : (p owner : ℕ) (f : Field) (k n : ℕ) → AllOwn p (reads_from p owner f k n)
own-reads p owner f k zero = tt
own-reads p owner f k (suc n) = ((λ h. absurd (true≢false (sym h))), ((λ h. absurd (true≢false (sym h))), own-reads p owner f (k + 1) n))

pub read_of-own : (s : Setup) (p owner : ℕ) (f : Field) → AllOwn p (read_of s p owner f)
read_of-own s p owner f = own-reads p owner f 0 (width s f)

pub AllOwn-get : (p : ℕ) (xs : List Access) (i : ℕ) (x : Access) → AllOwn p xs → slice_get xs i ≡ Some x → IsOwn p x
AllOwn-get p [] zero x w h = cc
AllOwn-get p [] (suc i) x w h = cc
AllOwn-get p (a ∷ xs) zero x w h = let e : a ≡ x = cc in let P : Access → Type 0 = IsOwn p in subst P e w.0
AllOwn-get p (a ∷ xs) (suc i) x w h = AllOwn-get p xs i x w.1 h

-- the accesses of a script are the process's own
abbrev pub ScriptOwn : ℕ → Script → Type 0
ScriptOwn p [] = Unit {0}
ScriptOwn p (q ∷ script) = AllOwn p q.accesses × ScriptOwn p script

abbrev pub NextsOwn : ℕ → List Next → Type 0
NextsOwn p [] = Unit {0}
NextsOwn p (n ∷ ns) = IsOwn p n.access × NextsOwn p ns

pub NextsOwn-append : (p : ℕ) (ns ms : List Next) → NextsOwn p ns → NextsOwn p ms → NextsOwn p (ns ++ ms)
NextsOwn-append p [] ms h k = k
NextsOwn-append p (n ∷ ns) ms h k = (h.0, NextsOwn-append p ns ms h.1 k)

pub single-own : (p : ℕ) (f l : List Mark) (xs : List Access) → AllOwn p xs → NextsOwn p (single f l xs)
single-own p f l [] h = tt
single-own p f l (a ∷ []) h = (h.0, tt)
single-own p f l (a ∷ b ∷ tail) h = (h.0, single-own p [] l (b ∷ tail) h.1)

pub singles-own : (p : ℕ) (script : Script) → ScriptOwn p script → NextsOwn p (singles script)
singles-own p [] h = tt
singles-own p (q ∷ script) h = NextsOwn-append p (single q.first q.last q.accesses) (singles script) (single-own p q.first q.last q.accesses h.0) (singles-own p script h.1)

pub nexts-get : (p : ℕ) (ns : List Next) (k : ℕ) (n : Next) → NextsOwn p ns → slice_get ns k ≡ Some n → IsOwn p n.access
nexts-get p [] zero n w h = cc
nexts-get p [] (suc k) n w h = cc
nexts-get p (m ∷ ns) zero n w h = let e : m ≡ n = cc in let P : Next → Type 0 = λ n. IsOwn p n.access in subst P e w.0
nexts-get p (m ∷ ns) (suc k) n w h = nexts-get p ns k n w.1 h

-- an entry of p, and each entry of a past
abbrev pub EntryOwn : Entry → Type 0
EntryOwn e = (a : Access) → e.access ≡ Some a → IsOwn e.process a

abbrev pub PastOwn : ℕ → Past → Type 0
PastOwn p [] = Unit {0}
PastOwn p (e ∷ past) = ((a : Access) → e.access ≡ Some a → IsOwn p a) × PastOwn p past

pub before-own : (p : ℕ) (past : Past) → PastOwn p past → PastOwn p (before is_failed past)
before-own p [] h = tt
before-own p (e ∷ past) h = go (has is_failed e) (before-own p past h.1)
  where
    go : (b : Bool) → PastOwn p (before is_failed past) → PastOwn p (elim b as (λ _. Past) [ true ↦ past | false ↦ before is_failed past ])
    go true k = h.1
    go false k = k

pub settles-own : (p : ℕ) (f : Field) (k m r n : ℕ) (v : Bool) → AllOwn p (map (access_of p f) (map (at_bit k) (settles_from m r n v)))
settles-own p f k m r zero v = tt
settles-own p f k m r (suc n) v = go (is_open_at m r) (settles-own p f k m (r + 1) n v)
  where
    go : (b : Bool) → AllOwn p (map (access_of p f) (map (at_bit k) (settles_from m (r + 1) n v))) →
        AllOwn p (map (access_of p f) (map (at_bit k) (cond b (record { reader = r; how = Settle v } ∷ settles_from m (r + 1) n v) (record { reader = r; how = BeginWrite v } ∷ record { reader = r; how = EndWrite } ∷ settles_from m (r + 1) n v))))
    go true ih = ((λ _. refl), ih)
    go false ih = ((λ _. refl), ((λ _. refl), ih))

pub unit-own : (c : Rattle.model.specs.Scripts.Call) (past : Past) (v : Bool) → PastOwn c.process past → ScriptOwn c.process (unit_program c past v)
unit-own c past v h = go (last_write past) refl
  where
    rest : Script
    rest = writing c Ticket (bits_of_number c.setup.ticket_bits 0) (cond (inside c.process past) (Left ∷ []) []) [] ∷ writing c Choosing (false ∷ []) [] (Down ∷ []) ∷ []

    rest-own : ScriptOwn c.process rest
    rest-own = (write_of-own c.setup c.process Ticket (bits_of_number c.setup.ticket_bits 0), (write_of-own c.setup c.process Choosing (false ∷ []), tt))

    go : (x : Option Access) → last_write past ≡ x → ScriptOwn c.process (settle c past v (unfinished c.setup.processes x) ++ rest)
    go None e = rest-own
    go (Some a) e = at (is_finished c.setup.processes a)
      where
        at : (b : Bool) → ScriptOwn c.process (settle c past v (cond b None (Some a)) ++ rest)
        at true = rest-own
        at false = (settles-own c.process a.field a.bit (made_with a) 0 c.setup.processes v, rest-own)

pub own-valued : (p : ℕ) (v : Bool) (a : Access) → IsOwn p a → IsOwn p (ended_with v a)
own-valued p v a h = go a.how h
  where
    go : (m : Move) → (is_of_write m ≡ true → a.owner ≡ p) → is_of_write (ended v m) ≡ true → a.owner ≡ p
    go (BeginWrite w) h = h
    go _ h = h

pub doing-own : (c : Rattle.model.specs.Scripts.Call) (at : Spot) → AllOwn c.process (doing c at.part)
doing-own c at = go (is_read at.part)
  where
    go : (b : Bool) → AllOwn c.process (cond b (read_of c.setup c.process (read_at c at.part).0 (read_at c at.part).1) (write_of c.setup c.process (written_at c at.part).0 (written_at c at.part).1))
    go true = read_of-own c.setup c.process (read_at c at.part).0 (read_at c at.part).1
    go false = write_of-own c.setup c.process (written_at c at.part).0 (written_at c at.part).1

-- the entry that a step adds is the process's own
pub step-own : (s : Setup) → IsGood s → (past : Past) (p : ℕ) (flick : Bool) (e : Entry) →
    refused_at (Step p flick) (stage p past) ≡ None → View s p (own p past) (stage p past) → PastOwn p (own p past) → stepped s past p flick ≡ Some e → (a : Access) → e.access ≡ Some a → IsOwn p a
step-own s g past p flick e h v o a = own_access
  where
    mine : Past
    mine = own p past

    len : ℕ
    len = length (since starts mine)

    made : (n : Next) × (nth len (program s p flick mine) ≡ Some n) × (entry_made s past p flick n ≡ e)
    made = option_map-some (entry_made s past p flick) (nth len (program s p flick mine)) e a

    next : View s p mine (stage p past) → IsOwn p made.0.access
    next (rests i) = let f : refused_at (Step p flick) Idle ≡ None = ap (refused_at (Step p flick)) (sym i) ∙ h in cc
    next (down i) = let f : refused_at (Step p flick) Down ≡ None = ap (refused_at (Step p flick)) (sym i) ∙ h in cc
    next (runs r) = AllOwn-get p (doing (last_call s p mine) r.at.part) r.at.made made.0.access (doing-own (last_call s p mine) r.at)
        (next_access (last_call s p mine) _ len r.at made.0 r.corresponds
        (ap (λ l. slice_get (singles (Rattle.model.specs.Program.local_program (last_call s p mine) (Rattle.model.specs.Calls.read_so_far s l).finished)) len) (sym r.same)
        ∙ ap (λ m. nth len (program_from s p flick mine m)) (sym r.begun) ∙ made.1))
    next (withdraws b st) = nexts-get p (singles (withdrawn (last_call s p mine))) len made.0
        (singles-own p (withdrawn (last_call s p mine)) (write_of-own s p Ticket (bits_of_number s.ticket_bits 0), tt))
        (ap (λ m. nth len (program_from s p flick mine m)) (sym b) ∙ made.1)
    next (fails b st) = nexts-get p (singles (unit_program (last_call s p mine) (before is_failed mine) (settles_at (since is_failed mine) flick))) len made.0
        (singles-own p (unit_program (last_call s p mine) (before is_failed mine) (settles_at (since is_failed mine) flick)) (unit-own (last_call s p mine) (before is_failed mine) (settles_at (since is_failed mine) flick) (before-own p mine o)))
        (ap (λ m. nth len (program_from s p flick mine m)) (sym b) ∙ made.1)

    own_access : (b : Access) → e.access ≡ Some b → IsOwn p b
    own_access b k =
        let f : valued s past flick made.0.access ≡ b = some_is (ap (λ (e : Entry). e.access) made.2 ∙ k) in
        let P : Access → Type 0 = IsOwn p in
        subst P f (own-valued p (Rattle.safe_bit.specs.SafeRule.read_value (Rattle.model.specs.Registers.opening_bit s made.0.access) (Rattle.model.specs.Moves.moves_of made.0.access past) flick) made.0.access (next v))
      where
        some_is : Some (valued s past flick made.0.access) ≡ Some b → valued s past flick made.0.access ≡ b
        some_is q = cc

pub added-own : (s : Setup) → IsGood s → (past : Past) (event : Event) (e : Entry) → refused_at event (stage (process_of event) past) ≡ None →
    View s (process_of event) (own (process_of event) past) (stage (process_of event) past) → PastOwn (process_of event) (own (process_of event) past) → added s past event ≡ Some e →
    (a : Access) → e.access ≡ Some a → IsOwn (process_of event) a
added-own s g past (Call p c) e h v o i a k =
    let d : record { process = p; access = None; marks = Rattle.model.specs.declared.marks.Mark.TheVariants.Called c ∷ [] } ≡ e = cc in
    let f : None ≡ Some a = ap (λ (e : Entry). e.access) d ∙ k in cc
added-own s g past (Step p flick) e h v o i a k = step-own s g past p flick e h v o i a k
added-own s g past (Fail p) e h v o i a k =
    let d : record { process = p; access = None; marks = Failed ∷ [] } ≡ e = cc in
    let f : None ≡ Some a = ap (λ (e : Entry). e.access) d ∙ k in cc
added-own s g past (Withdraw p) e h v o i a k =
    let d : record { process = p; access = None; marks = Withdrew ∷ [] } ≡ e = cc in
    let f : None ≡ Some a = ap (λ (e : Entry). e.access) d ∙ k in cc
added-own s g past (Restart p) e h v o i a k =
    let d : record { process = p; access = None; marks = Rattle.model.specs.declared.marks.Mark.TheVariants.Restarted ∷ [] } ≡ e = cc in
    let f : None ≡ Some a = ap (λ (e : Entry). e.access) d ∙ k in cc

-- in every run each process writes its own bits alone
pub one_writer : (s : Setup) → IsGood s → (events : List Event) (p : ℕ) → PastOwn p (own p (past_of s events))
one_writer s g [] p = tt
one_writer s g (event ∷ events) p = with_entry s g (past_of s events) event p (view s g events) (one_writer s g events) (entry_of s (past_of s events) event) refl
  where
    with_entry : (s : Setup) → IsGood s → (past : Past) (event : Event) (p : ℕ) → ((p : ℕ) → View s p (own p past) (stage p past)) → ((p : ℕ) → PastOwn p (own p past)) →
        (x : Option Entry) → entry_of s past event ≡ x → PastOwn p (own p (elim x as (λ _. Past) [ None ↦ past | Some e ↦ e ∷ past ]))
    with_entry s g past event p vs ih None h = ih p
    with_entry s g past event p vs ih (Some e) h = at (e.process == p) refl
      where
        acc : (nat_lt (process_of event) s.processes ≡ true) × (refused_at event (stage (process_of event) past) ≡ None) × (added s past event ≡ Some e)
        acc = entry-accepted s past event e h

        is : e.process ≡ process_of event
        is = (entry_view s g past event e acc.1 (vs (process_of event)) acc.2).0

        at : (b : Bool) → (e.process == p) ≡ b → PastOwn p (cond (e.process == p) (e ∷ own p past) (own p past))
        at true i =
            let P : ℕ → Type 0 = λ q. ((a : Access) → e.access ≡ Some a → IsOwn q a) × PastOwn q (own q past) in
            rw i (subst P (sym is ∙ eqb-true e.process p i)
            (added-own s g past event e acc.1 (vs (process_of event)) (ih (process_of event)) acc.2, ih (process_of event)))
        at false i = rw i (ih p)

abbrev pub EachOwn : Past → Type 0
EachOwn [] = Unit {0}
EachOwn (e ∷ past) = EntryOwn e × EachOwn past

pub each_own : (s : Setup) → IsGood s → (events : List Event) → EachOwn (past_of s events)
each_own s g [] = tt
each_own s g (event ∷ events) = go (entry_of s (past_of s events) event) refl (each_own s g events)
  where
    go : (x : Option Entry) → entry_of s (past_of s events) event ≡ x → EachOwn (past_of s events) → EachOwn (elim x as (λ _. Past) [ None ↦ past_of s events | Some e ↦ e ∷ past_of s events ])
    go None h ih = ih
    go (Some e) h ih =
        let acc = entry-accepted s (past_of s events) event e h in
        let is : e.process ≡ process_of event = (entry_view s g (past_of s events) event e acc.1 (view s g events (process_of event)) acc.2).0 in
        let P : ℕ → Type 0 = λ q. (a : Access) → e.access ≡ Some a → IsOwn q a in
        (subst P (sym is) (added-own s g (past_of s events) event e acc.1 (view s g events (process_of event)) (one_writer s g events (process_of event)) acc.2), ih)

-- others only read the bit
pub others-read : (a : Access) (e : Entry) → EntryOwn e → (e.process == a.owner) ≡ false → NoWrites (move_on a e)
others-read a e o h = go e.access refl
  where
    go : (x : Option Access) → e.access ≡ x → NoWrites (elim x as (λ _. List Move) [ None ↦ [] | Some b ↦ cond (same_bit a b) (b.how ∷ []) [] ])
    go None i = tt
    go (Some b) i = at (same_bit a b) refl
      where
        at : (t : Bool) → same_bit a b ≡ t → NoWrites (cond t (b.how ∷ []) [])
        at false j = tt
        at true j = (read (is_of_write b.how) refl, tt)
          where
            owner : (a.owner == b.owner) ≡ true
            owner = second (a.bit == b.bit) (first ((a.bit == b.bit) && (a.reader == b.reader) && (a.owner == b.owner)) (field_number a.field == field_number b.field) j)
              where
                first : (x y : Bool) → (x && y) ≡ true → x ≡ true
                first true y k = refl
                first false y k = k

                second : (x : Bool) → (x && (a.reader == b.reader) && (a.owner == b.owner)) ≡ true → (a.owner == b.owner) ≡ true
                second true k = last (a.reader == b.reader) k
                  where
                    last : (x : Bool) → (x && (a.owner == b.owner)) ≡ true → (a.owner == b.owner) ≡ true
                    last true k = k
                    last false k = cc
                second false k = cc

            read : (w : Bool) → is_of_write b.how ≡ w → is_of_write b.how ≡ false
            read false k = k
            read true k = absurd (true≢false (sym (eq-eqb e.process a.owner (sym (o b i k) ∙ sym (eqb-true a.owner b.owner owner))) ∙ h))

-- so whether a write of the bit is open, and what was last written, is read off its owner's entries
pub open-own : (a : Access) (past : Past) → EachOwn past → is_write_open (moves_of a past) ≡ is_write_open (moves_of a (own a.owner past))
open-own a [] o = refl
open-own a (e ∷ past) o = go (e.process == a.owner) refl (open-own a past o.1)
  where
    go : (b : Bool) → (e.process == a.owner) ≡ b → is_write_open (moves_of a past) ≡ is_write_open (moves_of a (own a.owner past)) →
        is_write_open (move_on a e ++ moves_of a past) ≡ is_write_open (moves_of a (cond b (e ∷ own a.owner past) (own a.owner past)))
    go false h ih = open-reads (move_on a e) (moves_of a past) (others-read a e o.0 h) ∙ ih
    go true h ih = front (move_on a e)
      where
        front : (l : List Move) → is_write_open (l ++ moves_of a past) ≡ is_write_open (l ++ moves_of a (own a.owner past))
        front [] = ih
        front (m ∷ l) = at m (front l)
          where
            at : (m : Move) → is_write_open (l ++ moves_of a past) ≡ is_write_open (l ++ moves_of a (own a.owner past)) → is_write_open (m ∷ l ++ moves_of a past) ≡ is_write_open (m ∷ l ++ moves_of a (own a.owner past))
            at (BeginWrite v) k = refl
            at EndWrite k = refl
            at (Settle v) k = refl
            at BeginRead k = k
            at (EndRead v) k = k
