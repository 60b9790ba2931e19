-- The text of a turn, and of a whole replay.
use Rattle.std.proofs.Common.{◌≡◌, ℕ, List, [], ◌∷◌, ◌++◌, Option, ap, subst}
use Rattle.std.specs.Io.KnownBytes.{Appends}
use Rattle.plain_store.specs.{Setup}
use Rattle.scenario.specs.files.{WritesFront}
use Rattle.scenario.specs.{Script}
use Rattle.scenario_run.specs.{Happening, Happens, Summary, TurnReport, end_line, happenings, replayed, summary_of, text_of, reported_text}
use Rattle.scenario_run.specs.Writing.{Counts, Writes, WritesPart}
use Rattle.scenario_run.proofs.Counting.{text_observed}
use Rattle.scenario_run.proofs.Written.{all_written, appends_both, front_after, front_longer, part_written}

-- the text of a turn was written, or a prefix of it
pub reported_written : (s : Setup) (before : List Happening) (this : Happening) (reported : TurnReport) (had : Summary) (a b : Option (List ℕ)) → Happens s before this reported → Appends a b (reported_text had.events reported) → Counts s before had → Writes (text_of s before) (text_of s (this ∷ before)) a b
reported_written s before this reported had a b h wrote counts = record { text = reported_text had.events reported; is = text_observed s before this reported had h counts; taken = wrote }

pub reported_cut : (s : Setup) (before : List Happening) (this : Happening) (reported : TurnReport) (had : Summary) (a b : Option (List ℕ)) → Happens s before this reported → WritesFront a b (reported_text had.events reported) → Counts s before had → WritesPart (text_of s before) (text_of s (this ∷ before)) a b
reported_cut s before this reported had a b h front counts = record { text = reported_text had.events reported; is = text_observed s before this reported had h counts; front = front }

-- the counts before the first event
pub counts_none : (s : Setup) (summary : Summary) → summary ≡ record { events = 0; taken = 0; refused = 0 } → Counts s [] summary
counts_none s summary none = record { events = ap (λ (n : Summary). n.events) none; refused = ap (λ (n : Summary). n.refused) none }

-- The whole text.

-- the whole text was written with its last line, or a prefix with a prefix of that line
pub replay_written : (said : Script) (a b c : Option (List ℕ)) (last : Summary) → Writes [] (text_of said.setup (happenings said)) a b → last ≡ summary_of said.setup (happenings said) → Appends b c (end_line last) → Appends a c (replayed said)
replay_written said a b c last w numbers ends =
    let text : List ℕ = text_of said.setup (happenings said) in
    subst (λ n. Appends a c (text ++ end_line n)) numbers (appends_both a b c text (end_line last) (all_written text a b w) ends)

pub replay_end_cut : (said : Script) (a b c : Option (List ℕ)) (last : Summary) → Writes [] (text_of said.setup (happenings said)) a b → last ≡ summary_of said.setup (happenings said) → WritesFront b c (end_line last) → WritesFront a c (replayed said)
replay_end_cut said a b c last w numbers ends =
    let text : List ℕ = text_of said.setup (happenings said) in
    subst (λ n. WritesFront a c (text ++ end_line n)) numbers (front_after a b c text (end_line last) (all_written text a b w) ends)

-- a prefix of the text was written, which ends before the last line
pub replay_cut : (said : Script) (a b : Option (List ℕ)) → WritesPart [] (text_of said.setup (happenings said)) a b → WritesFront a b (replayed said)
replay_cut said a b part =
    let text : List ℕ = text_of said.setup (happenings said) in
    front_longer a b text (end_line (summary_of said.setup (happenings said))) (part_written text a b part)
