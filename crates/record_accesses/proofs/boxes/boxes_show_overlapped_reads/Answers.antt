use Rattle.record_accesses.proofs.MarkFacts.{marks-overlapped}
use Rattle.record_accesses.proofs.OwnReads.{runs-marked}
use Rattle.record_accesses.proofs.boxes.boxes_show_overlapped_reads.Goals as goal

pub returns-clause-records : goal.returns-clause-records
returns-clause-records c = marks-overlapped

pub returns-clause-runs : goal.returns-clause-runs
returns-clause-runs c = runs-marked
