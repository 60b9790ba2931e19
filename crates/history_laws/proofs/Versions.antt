-- The versions that the processes have committed, by the history: each changing command commits its process's other version, with the next stamp.
use Rattle.std.specs.Prelude.{ℕ, ◌+◌, ◌==◌, Bool, false, not, cond, List, [], ◌∷◌, map, None, Some}
use Rattle.plain_store.specs.{Contents, Setup, changes}
use Rattle.model.specs.{Entry, Past, Version, history, last_call, own, reply_taken, store_after}
use Rattle.laws.proofs.Notes.{set}

pub record Versions : Type 0 where
  pub commit : ℕ → Bool  -- of each process: which version it has committed
  pub stamp : ℕ → ℕ  -- and that version's stamp
  pub newest : ℕ  -- the lowest process with the greatest stamp
  pub count : ℕ  -- how many changes there were

abbrev pub first_versions : Versions
first_versions = record { commit = λ (q : ℕ). false; stamp = λ (q : ℕ). 0; newest = 0; count = 0 }

-- p commits its other version
abbrev pub committed : ℕ → Versions → Versions
committed p v = record { commit = λ (q : ℕ). cond (q == p) (not (v.commit p)) (v.commit q); stamp = set p (v.count + 1) v.stamp; newest = p; count = v.count + 1 }

-- the store after the history
abbrev pub store_of : Setup → Past → Contents
store_of s past = store_after s (history s past)

-- whether an entry that takes the command of its process's call changes the store
abbrev pub is_change : Setup → Past → Entry → Bool
is_change s past e = changes (store_of s past) (last_call s e.process (own e.process past)).command

abbrev pub versions : Setup → Past → Versions
versions s [] = first_versions
versions s (e ∷ past) = elim (reply_taken e.marks) [ None ↦ versions s past | Some r ↦ cond (is_change s past e) (committed e.process (versions s past)) (versions s past) ]

-- the version of q
abbrev pub version : Versions → ℕ → Version
version v q = (v.commit q, v.stamp q)

-- the versions of some processes
abbrev pub versions_of : Versions → List ℕ → List Version
versions_of v qs = map (version v) qs
