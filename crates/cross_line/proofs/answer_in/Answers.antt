-- `cross_line::answer_in` meets its contract: what is gathered is given, or the first at fault is refused.
use Rattle.cross_line.proofs.LineLaws.{at-fault}
use Rattle.cross_line.proofs.answer_in.Goals as goal

pub returns-in-Err : goal.returns-in-Err
returns-in-Err g c = λ cuts counted meets ranged. at-fault cuts _ _ _ _ _ _ c.at.ensures (c.in-Err.ensures.gathers _ cuts counted meets)
