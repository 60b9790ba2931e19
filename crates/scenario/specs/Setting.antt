-- Headings and opening pairs, and what they set up.
use Rattle.std.specs.Prelude.{ℕ, Bool, true, false, not, nat_lt, ◌&&◌, List, [], ◌∷◌, ◌++◌, length, is_some}
use Rattle.plain_store.specs.{Setup, Value, most_bits, most_processes, value_at}
use Rattle.scenario.specs.declared.headings.Given.{Given}
use Rattle.scenario.specs.declared.keywords.Heading.{Heading}
use Rattle.scenario.specs.declared.keywords.Heading.TheVariants.{Processes, Tickets, Stamps, Slots}

-- no heading was given
abbrev pub none_given : Given
none_given = record { processes = false; tickets = false; stamps = false; slots = false }

-- whether a heading was given
abbrev pub is_given : Heading → Given → Bool
is_given Processes given = given.processes
is_given Tickets given = given.tickets
is_given Stamps given = given.stamps
is_given Slots given = given.slots

-- the headings that were given, and one more
abbrev pub and_given : Heading → Given → Given
and_given Processes given = record given { processes = true }
and_given Tickets given = record given { tickets = true }
and_given Stamps given = record given { stamps = true }
and_given Slots given = record given { slots = true }

-- the greatest number of a heading
abbrev pub most_of : Heading → ℕ → ℕ
most_of Processes version = most_processes version
most_of Tickets version = most_bits version
most_of Stamps version = most_bits version
most_of Slots version = 8

-- the setup of a file without headings
abbrev pub default_setup : ℕ → Setup
default_setup version = record { version = version; processes = 2; ticket_bits = 4; stamp_bits = 4; slots = 1; opening = [] }

-- a setup with the number of a heading
abbrev pub with_heading : Heading → ℕ → Setup → Setup
with_heading Processes n setup = record setup { processes = n }
with_heading Tickets n setup = record setup { ticket_bits = n }
with_heading Stamps n setup = record setup { stamp_bits = n }
with_heading Slots n setup = record setup { slots = n }

-- whether a pair with this name may be added: there is a slot for it, and the name is new
abbrev pub may_open : Setup → List ℕ → Bool
may_open setup name = nat_lt (length setup.opening) setup.slots && not (is_some (value_at setup.opening name))

-- a setup with one more opening pair
abbrev pub with_pair : List ℕ → Value → Setup → Setup
with_pair name value setup = record setup { opening = setup.opening ++ (name, value) ∷ [] }
