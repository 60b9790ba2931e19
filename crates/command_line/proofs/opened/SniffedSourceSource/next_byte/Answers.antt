use Rattle.std.proofs.Common.{arith}
use Rattle.command_line.proofs.Opening.{byte_behind}
use Rattle.command_line.proofs.opened.SniffedSourceSource.next_byte.Goals as goal

pub returns-clause-byte : goal.returns-clause-byte
returns-clause-byte g c = byte_behind c.args.self.now.front.items c.args.self.now.given _ _ c.next_byte.result (omega (arith, c.if-self-len.false)) c.next_byte.ensures.byte
