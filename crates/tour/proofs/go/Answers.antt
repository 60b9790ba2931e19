use Rattle.tour.proofs.Alone.{inside_alone}
use Rattle.tour.proofs.go.Goals as goal

pub returns-then-matches : goal.returns-then-matches
returns-then-matches g c = record { alone = λ events shows here other i. inside_alone c.main_theorem.ensures.mutual_exclusion c.loop.world events shows c.args.process here other i }
