-- Each entry of a run is one of a process that exists.
use Rattle.std.proofs.Common.{◌≡◌, ◌<◌, nat_lt, true, List, Some, sym, subst, arith}
use Rattle.std.proofs.lemmas.Bool.Decides.{nat_tests}
use Rattle.plain_store.specs.{Setup}
use Rattle.model.specs.{Entry, Event, entry_of, past_of, process_of}
use Rattle.model.proofs.World.{entry-accepted}

pub process_there : (s : Setup) (events : List Event) (event : Event) (e : Entry) → e.process ≡ process_of event → entry_of s (past_of s events) event ≡ Some e → e.process < s.processes
process_there s events event e mine is =
    let there : nat_lt (process_of event) s.processes ≡ true = (entry-accepted s (past_of s events) event e is).0 in
    let inside : process_of event < s.processes = grind (arith, nat_tests, there) in
    subst (λ n. n < s.processes) (sym mine) inside
