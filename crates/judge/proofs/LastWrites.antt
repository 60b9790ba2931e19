-- The write that a process has open, as any lock's look-back finds it, is its last one, and its last one is open, if that is a begin.
use Rattle.std.proofs.Common.{◌≡◌, ℕ, ◌<◌, ◌+◌, ◌==◌, ◌&&◌, not, Bool, true, false, cond, [], ◌∷◌, Option, Some, None, length, refl, sym, ap, subst, ◌∙◌, true≢false}
use Rattle.model.specs.safe_bit.{Move, is_begin, is_of_write}
use Rattle.model.specs.safe_bit.declared.Move.TheVariants.{BeginWrite, EndWrite, BeginRead, EndRead, Settle}
use Rattle.model.specs.{Access, Entry, Mark, Past, Withdraws, is_begin_of_write, last_write, own, unfinished}
use Rattle.plain_store.specs.{Setup}
use Rattle.model.specs.declared.marks.Mark.TheVariants as mark
use Rattle.model.proofs.Opens.{last-none}
use Rattle.any_lock.specs.safe_monitor.laws.{Doing, Runs, Closes}
use Rattle.any_lock.proofs.safe_monitor.laws.Frame.{own-own}
use Rattle.any_lock.proofs.safe_monitor.laws.FrameCells.{ByProcess}
use Rattle.any_lock.proofs.safe_monitor.laws.FrameCuts.{last-made}
use Rattle.any_lock.specs.{BegunAccess, left_open, opened, write_of}
use Rattle.any_lock.proofs.Markings.{ArePlain}
use Rattle.judge.proofs.OpenDoings.{opened_access, opened_marked}
use Rattle.judge.proofs.Opened.{open_by}

-- the last access of a write that p made, if it is a begin
abbrev pub Unended : Option Access → Access → Type 0
Unended last a = (last ≡ Some a) × (is_begin_of_write a.how ≡ true)

-- an open write is of this process, on a copy that exists, and its last write
pub record IsLast (s : Setup) (p : ℕ) (last : Option Access) (b : BegunAccess) : Type 0 where
  pub last_is : last ≡ Some b.access
  pub begins : is_begin_of_write b.access.how ≡ true
  pub owner : b.access.owner ≡ p
  pub reader : b.access.reader < s.processes

abbrev pub OpenIsLast : Setup → ℕ → Option BegunAccess → Option Access → Type 0
OpenIsLast s p o last = (b : BegunAccess) → write_of o ≡ Some b → IsLast s p last b

-- the last write is open, if it is a begin
abbrev pub LastIsOpen : Option BegunAccess → Option Access → Type 0
LastIsOpen o last = (a : Access) → Unended last a → write_of o ≡ None → ⊥

abbrev pub LastIsOpenIn : Option BegunAccess → Option Access → Doing → Type 0
LastIsOpenIn o last (Runs command number at) = LastIsOpen o last
LastIsOpenIn o last (Closes command number (Withdraws w)) = LastIsOpen o last
LastIsOpenIn o last _ = Unit {0}

-- if no bit is left unfinished, the last access is not a begin
pub finished : (n : ℕ) (last : Option Access) (o : Option BegunAccess) → unfinished n last ≡ None → LastIsOpen o last
finished n last o none a unended closed =
    let remaining_is : unfinished n last ≡ cond (not (is_begin_of_write a.how) && (a.reader + 1 == n)) None (Some a) = ap (unfinished n) unended.0 in
    let begun : cond (not (is_begin_of_write a.how) && (a.reader + 1 == n)) None (Some a) ≡ Some a = ap (λ b. cond {A = Option Access} (not b && (a.reader + 1 == n)) None (Some a)) unended.1 in
    let f : None ≡ Some a = sym none ∙ remaining_is ∙ begun in cc

-- an access, if it is a write that is open
abbrev of_write : BegunAccess → Move → Option BegunAccess
of_write b m = cond (is_begin m) (elim m as (λ _. Option BegunAccess) [ BeginWrite v ↦ Some b | EndWrite ↦ None | BeginRead ↦ None | EndRead v ↦ None | Settle v ↦ None ]) None

open_write : (entry : ℕ) (x : Access) → write_of (open_by entry x) ≡ of_write (record { entry = entry; access = x }) x.how
open_write entry x = push (is_begin x.how)
  where
    b : BegunAccess
    b = record { entry = entry; access = x }

    push : (c : Bool) → write_of (cond c (Some b) None) ≡ cond c (elim x.how as (λ _. Option BegunAccess) [ BeginWrite v ↦ Some b | EndWrite ↦ None | BeginRead ↦ None | EndRead v ↦ None | Settle v ↦ None ]) None
    push true = refl
    push false = refl

write_begun : (entry : ℕ) (x : Access) (b : BegunAccess) → write_of (open_by entry x) ≡ Some b → (b.access ≡ x) × (is_begin_of_write x.how ≡ true)
write_begun entry x b h = go x.how refl (sym (open_write entry x) ∙ h)
  where
    at : BegunAccess
    at = record { entry = entry; access = x }

    go : (m : Move) → x.how ≡ m → of_write at m ≡ Some b → (b.access ≡ x) × (is_begin_of_write m ≡ true)
    go (BeginWrite v) is same = let one : at ≡ b = cc in (ap (λ (y : BegunAccess). y.access) (sym one), refl)
    go _ is same = cc

-- an access that begins a write has it open
pub begun_open : (entry : ℕ) (x : Access) → is_begin_of_write x.how ≡ true → write_of (open_by entry x) ≡ None → ⊥
begun_open entry x begun closed = go x.how begun (sym (open_write entry x) ∙ closed)
  where
    go : (m : Move) → is_begin_of_write m ≡ true → of_write (record { entry = entry; access = x }) m ≡ None → ⊥
    go (BeginWrite v) h same = cc
    go EndWrite h same = true≢false (sym h)
    go BeginRead h same = true≢false (sym h)
    go (EndRead v) h same = true≢false (sym h)
    go (Settle v) h same = true≢false (sym h)

begin_writes : (m : Move) → is_begin_of_write m ≡ true → is_of_write m ≡ true
begin_writes (BeginWrite v) h = refl
begin_writes _ h = absurd (true≢false (sym h))

-- an entry with an access
pub access_last : (s : Setup) (past : Past) (e : Entry) (a : Access) → e.access ≡ Some a → ArePlain e.marks → ByProcess e.process a → a.reader < s.processes → OpenIsLast s e.process (opened e.process (e ∷ past)) (last_write (own e.process (e ∷ past)))
access_last s past e a acc plain by below b is_open =
    let one = write_begun (length past) a b (sym (ap write_of (opened_access past e a acc plain)) ∙ is_open) in
    let writes : is_of_write a.how ≡ true = begin_writes a.how one.1 in
    record {
      last_is = ap last_write (own-own e.process e past refl) ∙ last-made e (own e.process past) a acc ∙ ap (λ b. cond b (Some a) (last_write (own e.process past))) writes ∙ ap Some (sym one.0);
      begins = ap (λ (x : Access). is_begin_of_write x.how) one.0 ∙ one.1;
      owner = ap (λ (x : Access). x.owner) one.0 ∙ by.writes writes;
      reader = subst (λ (x : Access). x.reader < s.processes) (sym one.0) below;
    }

-- an entry with a mark alone
pub marked_last : (s : Setup) (past : Past) (e : Entry) (m : Mark) → e.access ≡ None → e.marks ≡ m ∷ [] → OpenIsLast s e.process (opened e.process past) (last_write (own e.process past)) →
    OpenIsLast s e.process (opened e.process (e ∷ past)) (last_write (own e.process (e ∷ past)))
marked_last s past e m none marks before b is_open =
    let was : IsLast s e.process (last_write (own e.process past)) b = before b (left_write (opened e.process past) m b (sym (ap write_of (opened_marked past e m none marks)) ∙ is_open)) in
    record {
      last_is = ap last_write (own-own e.process e past refl) ∙ last-none e (own e.process past) none ∙ was.last_is;
      begins = was.begins;
      owner = was.owner;
      reader = was.reader;
    }
  where
    twice : (o : Option BegunAccess) → write_of (write_of o) ≡ write_of o
    twice None = refl
    twice (Some b) = go b.access.how refl
      where
        w : Move → Option BegunAccess
        w m = elim m as (λ _. Option BegunAccess) [ BeginWrite v ↦ Some b | EndWrite ↦ None | BeginRead ↦ None | EndRead v ↦ None | Settle v ↦ None ]

        go : (m : Move) → b.access.how ≡ m → write_of (w b.access.how) ≡ w b.access.how
        go (BeginWrite v) is = let at : w b.access.how ≡ Some b = ap w is in ap write_of at ∙ refl
        go _ is = let at : w b.access.how ≡ None = ap w is in ap write_of at ∙ sym at

    left_write : (o : Option BegunAccess) (m : Mark) (b : BegunAccess) → write_of (left_open o m) ≡ Some b → write_of o ≡ Some b
    left_write o mark.Failed b h = cc
    left_write o mark.Withdrew b h = sym (twice o) ∙ h
    left_write o _ b h = h
