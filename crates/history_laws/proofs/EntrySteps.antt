-- An accepted entry with an access: its call, the commit bits that are being written then, and the data that it keeps if it takes a change or nothing.
use Rattle.std.proofs.Common.{◌≡◌, ℕ, ◌<◌, Bool, true, cond, List, ◌∷◌, None, Some, refl, sym, ap, subst, ◌∙◌}
use Rattle.model.specs.{Access, Call, Entry, Event, Past, caller, last_call, own, past_of, reply_taken, stage, store_after}
use Rattle.plain_store.specs.{Command, Contents, Reply, Setup, after, changes}
use Rattle.model.proofs.Width.{IsGood}
use Rattle.laws.specs.{Doing, Runs, Closes, call, doing}
use Rattle.laws.proofs.Frame.{Does, at_rest, lying, running, leaving, settling, doing-other}
use Rattle.laws.proofs.FrameCells.{EntryBy}
use Rattle.laws.proofs.FrameEvents.{does_all}
use Rattle.laws.proofs.Invariant.{wires, touches}
use Rattle.history_laws.proofs.CountedChanges.{history-none, store-takes, versions-none, versions-takes}
use Rattle.history_laws.proofs.Kept.{Kept, KnowsData, is_busy}
use Rattle.history_laws.proofs.Lifting.{Keeps, Knows}
use Rattle.history_laws.proofs.Uncommitted.{TurnsBusy}
use Rattle.history_laws.proofs.Versions.{Versions, committed, is_change, store_of, versions}

-- The call of an entry.

-- c is the call that is run, or ended
abbrev pub IsOfCall : Setup → ℕ → Call → Doing → Type 0
IsOfCall s p c (Runs command number at) = c ≡ call s p command number
IsOfCall s p c (Closes command number at) = c ≡ call s p command number
IsOfCall s p c _ = Unit {0}

-- the state of a process belongs to its last call
pub of_call : (s : Setup) → IsGood s → (events : List Event) (p : ℕ) → IsOfCall s p (last_call s p (own p (past_of s events))) (doing s p (past_of s events))
of_call s g events p = go (does_all s g events p)
  where
    past : Past
    past = past_of s events

    C : Doing → Type 0
    C d = IsOfCall s p (last_call s p (own p past)) d

    go : Does s p (own p past) (stage p past) (doing s p past) → C (doing s p past)
    go (at_rest i k) = subst C (sym k) tt
    go (lying i k) = subst C (sym k) tt
    go (running command b i k) = subst C (sym k) refl
    go (leaving b i k) = subst C (sym k) refl
    go (settling b i k) = subst C (sym k) refl

-- The entry.

-- e is an accepted entry with the access x; its process, which did d, does d' then
pub record Works (s : Setup) (past : Past) (e : Entry) (x : Access) (d d' : Doing) : Type 0 where
  pub below : e.process < s.processes
  pub by : EntryBy e.process e
  pub access : e.access ≡ Some x
  pub was : doing s e.process past ≡ d
  pub is : doing s e.process (e ∷ past) ≡ d'

-- the processes whose commit bits are being written or settled
abbrev pub busy : Setup → Past → ℕ → Bool
busy s past q = is_busy (doing s q past)

pub turns : (s : Setup) (past : Past) (e : Entry) (x : Access) (d d' : Doing) → Works s past e x d d' → TurnsBusy e.process d d' (busy s past) (busy s (e ∷ past))
turns s past e x d d' w = record { others = λ q ne. ap is_busy (doing-other s q e past (λ h. ne (sym h))); was = ap is_busy w.was; is = ap is_busy w.is }

-- The data that an entry keeps.

-- the knowledge of its process then, about these versions and this store
abbrev pub KnowsThen : Setup → Past → Entry → Versions → Contents → Doing → Type 0
KnowsThen s past e v store d = KnowsData s (e ∷ past) e.process v store (wires s (e ∷ past) e.process) (λ o. touches s (e ∷ past) o e.process) d

-- an entry that takes nothing
pub takes_none : (s : Setup) (past : Past) (e : Entry) (d' : Doing) → reply_taken e.marks ≡ None → doing s e.process (e ∷ past) ≡ d' →
    Kept s (versions s past) (store_of s past) (busy s (e ∷ past)) (wires s (e ∷ past)) → KnowsThen s past e (versions s past) (store_of s past) d' → Keeps s past e
takes_none s past e d' none is kept knows = record {
  kept = subst (λ v. Kept s v (store_of s (e ∷ past)) (busy s (e ∷ past)) (wires s (e ∷ past))) (sym same_versions)
      (subst (λ store. Kept s (versions s past) store (busy s (e ∷ past)) (wires s (e ∷ past))) (sym same_store) kept);
  knows = subst (Knows s (e ∷ past) e.process) (sym is)
      (subst (λ v. KnowsThen s past e v (store_of s (e ∷ past)) d') (sym same_versions)
      (subst (λ store. KnowsThen s past e (versions s past) store d') (sym same_store) knows));
}
  where
    same_versions : versions s (e ∷ past) ≡ versions s past
    same_versions = versions-none s past e none

    same_store : store_of s (e ∷ past) ≡ store_of s past
    same_store = ap (store_after s) (history-none s past e none)

-- an entry that takes its call's command, which changes the store
pub takes_change : (s : Setup) (past : Past) (e : Entry) (command : Command) (number : ℕ) (r : Reply) (d' : Doing) → let c : Call = call s e.process command number in
    reply_taken e.marks ≡ Some r → last_call s e.process (own e.process past) ≡ c → changes (store_of s past) command ≡ true → doing s e.process (e ∷ past) ≡ d' →
    Kept s (committed e.process (versions s past)) (after (store_of s past) command (caller c)) (busy s (e ∷ past)) (wires s (e ∷ past)) → KnowsThen s past e (versions s (e ∷ past)) (store_of s (e ∷ past)) d' → Keeps s past e
takes_change s past e command number r d' taken of changing is kept knows = record {
  kept = subst (λ v. Kept s v (store_of s (e ∷ past)) (busy s (e ∷ past)) (wires s (e ∷ past))) (sym new_versions)
      (subst (λ store. Kept s (committed e.process (versions s past)) store (busy s (e ∷ past)) (wires s (e ∷ past))) (sym new_store) kept);
  knows = subst (Knows s (e ∷ past) e.process) (sym is) knows;
}
  where
    c : Call
    c = call s e.process command number

    change : is_change s past e ≡ true
    change = ap (λ (c : Call). changes (store_of s past) c.command) of ∙ changing

    new_versions : versions s (e ∷ past) ≡ committed e.process (versions s past)
    new_versions = versions-takes s past e r taken ∙ ap (λ b. cond b (committed e.process (versions s past)) (versions s past)) change

    new_store : store_of s (e ∷ past) ≡ after (store_of s past) command (caller c)
    new_store = store-takes s past e r taken ∙ ap (λ (c : Call). after (store_of s past) c.command (record { process = e.process; number = c.number })) of
