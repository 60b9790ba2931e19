use Rattle.std.proofs.Common.{◌<◌, ap, sym, subst, ◌∙◌}
use Rattle.plain_store.specs.{Setup}
use Rattle.board.specs.{BoardState}
use Rattle.board.proofs.Seats.{some_processes, some_words, splits_at}
use Rattle.board.proofs.board.Board.newcomer.Goals as goal

pub split_seat-requires : goal.split_seat-requires
split_seat-requires c = let b = c.self.inside in let i = c.self.invariant in let first = c.args.first.now in (
  c.requires.board ∙ sym (ap (λ (s : BoardState). s.table_id) c.self.view_is),
  subst (λ n. 0 < n) (sym i.sized) (some_words b.setup (some_processes b.setup i.good)),
  splits_at b.table.shared.key b.setup first.id first.me.0.made first.me.0 i.keyed (ap (λ m. m.0) c.requires.first)
      (subst (λ (s : Setup). first.me.0.made < s.processes) (sym (ap (λ (s : BoardState). s.setup) c.self.view_is)) c.requires.made),
)
