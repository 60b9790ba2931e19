use Rattle.board.proofs.Changes.{store_at_place, store_of_changes}
use Rattle.board.proofs.CallsFit.{calls_in_the_changes}
use Rattle.board.proofs.OwnWrites.{own_writes_are_read}
use Rattle.board.proofs.SeenCallsFit.{drive_seen}
use Rattle.board.proofs.FittingCalls.{fits_in_longer}
use Rattle.board.proofs.laws_of_boards.calls_are_in_one_list.Goals as goal

pub returns-clause-store : goal.returns-clause-store
returns-clause-store c = λ s past k. store_at_place s past k

pub returns-clause-whole_store : goal.returns-clause-whole_store
returns-clause-whole_store c = λ s past. store_of_changes s past

pub returns-clause-calls : goal.returns-clause-calls
returns-clause-calls c = λ s ok events given p. calls_in_the_changes s ok events given p

pub returns-clause-longer : goal.returns-clause-longer
returns-clause-longer c = λ s p calls first all more h. fits_in_longer s p calls first all more h

pub returns-clause-own_writes : goal.returns-clause-own_writes
returns-clause-own_writes c = λ s p calls list h j k place write read name x at_write at_read writes reads is_write is_read new a answered. own_writes_are_read s p calls list h j k place write read name x at_write at_read writes reads is_write is_read new a answered

pub returns-clause-seen : goal.returns-clause-seen
returns-clause-seen c = λ s v turns flicks end w then d. drive_seen s v turns flicks end w then d
