-- How a picture shows a move.
use Rattle.picture_layout.specs.{AccessKind}
use Rattle.picture_layout.specs.declared.accesses.AccessKind.TheVariants as kind
use Rattle.model.specs.safe_bit.{Move}
use Rattle.model.specs.safe_bit.declared.Move.TheVariants.{BeginWrite, EndWrite, BeginRead, EndRead, Settle}

-- The kind of the access that a move begins or ends.
abbrev pub kind_of : Move → AccessKind
kind_of (BeginWrite v) = kind.Write
kind_of EndWrite = kind.Write
kind_of BeginRead = kind.Read
kind_of (EndRead v) = kind.Read
kind_of (Settle v) = kind.Write
