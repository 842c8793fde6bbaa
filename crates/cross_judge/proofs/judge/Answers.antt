-- `cross_judge::judge` meets its contract: a good line, and each axis judged by its reach.
use Rattle.cross_line.proofs.ProbeLaws.{origin_x, origin_y, origin_z, direction_x, direction_y, direction_z}
use Rattle.cross_reach.proofs.ReachLaws.{told}
use Rattle.cross_judge.proofs.FaultLaws.{no_fault, never}
use borrow.Author.Rules.{rules}
use Rattle.cross_judge.proofs.judge.Goals as goal

pub judge_axis-x-requires : goal.judge_axis-x-requires
judge_axis-x-requires c = search (origin_x, direction_x, told, rules)

pub judge_axis-y-requires : goal.judge_axis-y-requires
judge_axis-y-requires c = search (origin_y, direction_y, told, rules)

pub judge_axis-z-requires : goal.judge_axis-z-requires
judge_axis-z-requires c = search (origin_z, direction_z, told, rules)

pub returns-then-good_probe : goal.returns-then-good_probe
returns-then-good_probe c = λ h. search (no_fault, rules)

pub returns : goal.returns
returns c = λ h. never _ _ h
