pub use Rattle.board.specs as board
