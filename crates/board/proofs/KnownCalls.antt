-- The state of the calls of a process, in one record, and its change by one more entry.
use Rattle.std.proofs.Common.{◌≡◌, ◌≢◌, ℕ, ◌==◌, true, false, cond, List, [], ◌∷◌, ◌++◌, Some, None, refl, sym, subst, eq-eqb, ne_eqb}
use Rattle.std.specs.Prelude.{fold}
use Rattle.std.specs.List.{list_any}
use Rattle.plain_store.specs.{Command, Reply, Setup}
use Rattle.model.specs.{Entry, Mark, Past, Stage, Taken, all_takings, called_in, calls_in, has, is_called, last_command, own, since, stage, stage_after, takings}
use Rattle.model.specs.declared.marks.Mark.TheVariants as mark
use Rattle.laws.proofs.Frame.{own-other, own-own}
use Rattle.history_laws.specs.{changes_taken}
use Rattle.history_laws.proofs.HistoryItems.{calls-uncalled}
use Rattle.history_laws.proofs.Reported.{since-uncalled}
use Rattle.board.specs.Calls.{Calls, calls_after, calls_of, changes_of}
use Rattle.board.proofs.Along.{changes_entry}
use Rattle.board.proofs.StageFits.{StageFits, stage_fits_longer}

-- The state of the calls of a process, in one record.
pub record Known : Type 0 where
  pub stage : Stage
  pub number : ℕ
  pub command : Command
  pub taken : List (ℕ × Reply)
  pub list : List Taken
  pub calls : Calls

abbrev pub KnownCallsFit : Setup → ℕ → Known → Type 0
KnownCallsFit s p k = StageFits s p k.stage k.number k.command k.taken k.list k.calls.done k.calls.now

-- that state in a past
abbrev pub known : Setup → Past → ℕ → Known
known s past p = record {
  stage = stage p past;
  number = calls_in (own p past);
  command = last_command (own p past);
  taken = all_takings (since is_called (own p past));
  list = changes_of s past;
  calls = calls_of s p past;
}

-- after one more entry of the process
abbrev pub known_then : Setup → Past → Entry → Known
known_then s past e =
    let p = e.process in
    let mine = e ∷ own p past in
    record {
      stage = fold stage_after (stage p past) e.marks;
      number = calls_in mine;
      command = last_command mine;
      taken = all_takings (since is_called mine);
      list = changes_of s (e ∷ past);
      calls = fold (calls_after (changes_taken s past)) (calls_of s p past) e.marks;
    }

pub known-own : (s : Setup) (past : Past) (e : Entry) → known s (e ∷ past) e.process ≡ known_then s past e
known-own s past e = λ i. record {
  stage = cond (is i) (fold stage_after (stage p past) e.marks) (stage p past);
  number = calls_in (mine i);
  command = last_command (mine i);
  taken = all_takings (since is_called (mine i));
  list = changes_of s (e ∷ past);
  calls = cond (is i) (fold (calls_after (changes_taken s past)) (calls_of s p past) e.marks) (calls_of s p past);
}
  where
    p : ℕ
    p = e.process

    is : (e.process == p) ≡ true
    is = eq-eqb e.process p refl

    mine : own p (e ∷ past) ≡ e ∷ own p past
    mine = own-own p e past refl

-- if the entry begins no call
no_command : (ms : List Mark) → list_any is_called ms ≡ false → called_in ms ≡ None
no_command [] h = refl
no_command (mark.Called command ∷ ms) h = cc
no_command (_ ∷ ms) h = no_command ms h

pub known-uncalled : (s : Setup) (past : Past) (e : Entry) → has is_called e ≡ false → known_then s past e ≡ record (known s past e.process) {
  stage = fold stage_after (stage e.process past) e.marks;
  taken = all_takings (since is_called (own e.process past)) ++ takings e.marks;
  list = changes_of s (e ∷ past);
  calls = fold (calls_after (changes_taken s past)) (calls_of s e.process past) e.marks;
}
known-uncalled s past e h = λ i. record {
  stage = fold stage_after (stage p past) e.marks;
  number = calls-uncalled e mine h i;
  command = elim (no_command e.marks h i) as (λ _. Command) [ None ↦ last_command mine | Some command ↦ command ];
  taken = all_takings (since-uncalled e mine h i);
  list = changes_of s (e ∷ past);
  calls = fold (calls_after (changes_taken s past)) (calls_of s p past) e.marks;
}
  where
    p : ℕ
    p = e.process

    mine : Past
    mine = own p past

-- Another process's entry.

known-other : (s : Setup) (past : Past) (e : Entry) (p : ℕ) → e.process ≢ p → known s (e ∷ past) p ≡ record (known s past p) { list = changes_of s (e ∷ past) }
known-other s past e p apart = λ i. record {
  stage = cond (ne_eqb e.process p apart i) (fold stage_after (stage p past) e.marks) (stage p past);
  number = calls_in (own-other p e past apart i);
  command = last_command (own-other p e past apart i);
  taken = all_takings (since is_called (own-other p e past apart i));
  list = changes_of s (e ∷ past);
  calls = cond (ne_eqb e.process p apart i) (fold (calls_after (changes_taken s past)) (calls_of s p past) e.marks) (calls_of s p past);
}

pub other_entry : (s : Setup) (past : Past) (e : Entry) (p : ℕ) → e.process ≢ p → KnownCallsFit s p (known s past p) → KnownCallsFit s p (known s (e ∷ past) p)
other_entry s past e p apart h =
    let k : Known = known s past p in
    let more = changes_entry s past e in
    subst (KnownCallsFit s p) (sym (known-other s past e p apart))
    (subst (λ (list : List Taken). KnownCallsFit s p (record k { list = list })) (sym more.1) (stage_fits_longer s p k.stage k.number k.command k.taken k.list more.0 k.calls.done k.calls.now h))
