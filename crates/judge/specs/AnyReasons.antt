-- The lines of the reasons, on a record of any lock.
use Rattle.std.specs.Prelude.{◌≡◌, ℕ, ◌+◌, List, [], ◌∷◌, ◌++◌, codes, Option, Some, None}
use Rattle.std.specs.Fmt.{decimal}
use Rattle.plain_store.specs.{Setup}
use Rattle.model.specs.{Entry, Past}
use Rattle.judge.specs.ReasonLines.{bad_lines, named_entry, number_line, stage_line, word_line}
use Rattle.any_lock.specs.{AnyLockLaw, AreReasons, Refused, Remedy, access_refusal_text, changed, mark_refusal_text}
use Rattle.any_lock.specs.declared.reasons.Reasons.{Reasons}
use Rattle.any_lock.specs.declared.reasons.Refused.TheVariants as by

-- the entry as it would keep all laws
abbrev pub any_may_line : Entry → Option Remedy → List ℕ
any_may_line e None = []
any_may_line e (Some change) = named_entry (codes "may") (changed change e)

-- why it is refused
abbrev pub any_refused_line : Option Refused → List ℕ
any_refused_line None = []
any_refused_line (Some (by.Access r)) = word_line (codes "refused") (access_refusal_text r)
any_refused_line (Some (by.Marks r)) = word_line (codes "refused") (mark_refusal_text r)

-- a word and the number of an entry, if there is one
abbrev pub entry_if : List ℕ → Option ℕ → List ℕ
entry_if word None = []
entry_if word (Some k) = number_line word k

-- a word, a process and the number of an entry
abbrev pub pair_line : List ℕ → ℕ → ℕ → List ℕ
pair_line word q k = word ++ (codes " " ++ (decimal q ++ (codes " " ++ (decimal k ++ codes "\n"))))

-- the process that is inside, and the entry since which it is inside
abbrev pub inside_line : Option (ℕ × ℕ) → List ℕ
inside_line None = []
inside_line (Some pair) = pair_line (codes "inside") pair.0 pair.1

-- a process that is ahead, and the entry since which it waits
abbrev pub wait_line : ℕ → Option ℕ → List ℕ
wait_line q None = []
wait_line q (Some k) = pair_line (codes "waits") q k

-- the processes from q on that are ahead
abbrev pub waits_from : ℕ → List (Option ℕ) → List ℕ
waits_from q [] = []
waits_from q (wait ∷ waits) = wait_line q wait ++ waits_from (q + 1) waits

-- the stage of the process, and the entries with its open access and its torn bit
abbrev pub process_state_lines : Reasons → List ℕ
process_state_lines r = stage_line r.stage ++ (entry_if (codes "open") r.opened ++ entry_if (codes "torn") r.torn)

-- the processes that are inside or ahead, and the begin of the doorway
abbrev pub others_lines : Reasons → List ℕ
others_lines r = inside_line r.inside ++ (waits_from 0 r.waits ++ entry_if (codes "doorway") r.doorway)

-- The lines of the reasons of an entry in line n.
abbrev pub any_reason_lines : ℕ → Entry → Reasons → List ℕ
any_reason_lines n e r = bad_lines n e ++ (any_may_line e r.may ++ (any_refused_line r.refused ++ (process_state_lines r ++ others_lines r)))

-- These are the lines of the reasons of an entry that breaks this law first.
abbrev pub AreAnyLockReasons : AnyLockLaw → Setup → Past → ℕ → Entry → List ℕ → Type 0
AreAnyLockReasons l s past n e lines = (reasons : Reasons) × AreReasons s past e l reasons × (lines ≡ any_reason_lines n e reasons)
