use Rattle.std.proofs.Common.{◌≡◌, ◌+◌, ◌<◌, ◌≤◌, ◌++◌, ℕ, vec_capacity, vec_len}
use Rattle.board.specs.{AreOthers, AreQuiet, EachIsInRecord, IsIn, done_calls}
use Rattle.model.specs.{lists_of}
use Rattle.board.proofs.closing.join_all.Given as goal

abbrev pub invariant-loop-others : goal.invariant-loop-others
invariant-loop-others l = record {
  table : l.first.table_id ≡ l.words.table_id;
  id : l.first.id ≡ l.fn.first.id;
  live : l.first.me.0.spent ≡ l.fn.first.me.0.spent;
  own : l.first.me.0.own ≡ l.fn.first.me.0.own;
  seen : l.first.me.0.seen ≡ l.fn.first.me.0.seen;
  joined : (p : ℕ) → 0 < p → p < vec_len l.answers → IsIn p l.first.me.0.joined;
  others : AreOthers l.words.table_id l.words.key (vec_len l.answers) l.others.items;
  quiet : AreQuiet l.others.items;
  all : vec_len l.answers + vec_len l.others ≡ vec_len l.fn.others + 1;
  room : vec_len l.answers + vec_len l.others ≤ vec_capacity l.answers;
  fit : EachIsInRecord l.words.key (lists_of l.answers.items);
  lists : lists_of l.answers.items ++ done_calls l.others.items ≡ lists_of l.fn.answers.items ++ done_calls l.fn.others.items;
}

abbrev pub decreases-loop-others : goal.decreases-loop-others
decreases-loop-others l = vec_len l.others
