use Rattle.board.proofs.Happenings.{refusals_reported, stage_reported}
use Rattle.board.proofs.laws_of_boards.views_report_the_record.Goals as goal

pub returns-clause-stages : goal.returns-clause-stages
returns-clause-stages c = λ s events words views i v since shows at live may. stage_reported s events words views i v since shows at live may

pub returns-clause-refusals : goal.returns-clause-refusals
returns-clause-refusals c = λ s events words views i v since shows at live may event process. refusals_reported s events words views i v since shows at live may event process
