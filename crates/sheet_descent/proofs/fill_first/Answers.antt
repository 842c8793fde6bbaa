-- `sheet_descent::fill_first` meets its contract: no descent over a good formula ends early.
use Rattle.sheet_descent.proofs.Judged.{never_ends, filled}
use Rattle.sheet_descent.proofs.fill_first.Goals as goal

pub returns-in-Some : goal.returns-in-Some
returns-in-Some c = filled _ _ _ c.requires _ _ c.in-Some.ensures.descended

pub returns-in-None : goal.returns-in-None
returns-in-None c = absurd (never_ends _ _ _ c.requires c.in-None.ensures.descended.early)
