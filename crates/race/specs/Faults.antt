-- The fault of a race, and its consequences for the ports.
use Rattle.std.specs.Prelude.{◌≡◌, ◌<◌, ◌+◌, ℕ}
use Rattle.plain_store.specs.{Setup}
use Rattle.model.specs.declared.stages.Stage.TheVariants.{Down}
use Rattle.board.specs.{OwnView, stage_in}
use Rattle.race.specs.declared.faults.RaceFault.{RaceFault}
use Rattle.race.specs.declared.faults.RaceFault.TheVariants.{Spawn, Held, Memory}

-- the position of a fault in the order of reports: first a thread that did not start, then the held ports, the lowest first, and last an allocation failure
abbrev pub rank : RaceFault → ℕ
rank Spawn = 0
rank (Held p) = 1 + p
rank Memory = 257

-- the fault that ends the calls of the port of process p: the gate held that port, or an allocation failed
abbrev pub IsFaultOf : ℕ → RaceFault → Type 0
IsFaultOf p Spawn = ⊥
IsFaultOf p (Held q) = q ≡ p
IsFaultOf p Memory = Unit {0}

-- the fault of a port; a port that was held has failed and is down
abbrev pub EndsPort : ℕ → Setup → OwnView → RaceFault → Type 0
EndsPort p s own (Held q) = (q ≡ p) × (stage_in s own ≡ Down)
EndsPort p s own fault = IsFaultOf p fault

-- a fault of a race with this number of plans: a port that was held is that of one of them
abbrev pub IsFaultAmong : ℕ → RaceFault → Type 0
IsFaultAmong plans (Held p) = p < plans
IsFaultAmong plans fault = Unit {0}
