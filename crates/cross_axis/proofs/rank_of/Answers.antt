-- `cross_axis::rank_of` meets its contract: the distance is a number.
use Rattle.cross_axis.proofs.AxisLaws.{far_number, face_rank}
use borrow.Author.Rules.{rules}
use Rattle.cross_axis.proofs.rank_of.Goals as goal

pub rank_of_nearest-requires : goal.rank_of_nearest-requires
rank_of_nearest-requires c = search (far_number, rules)

pub returns-clause-component_value_2 : goal.returns-clause-component_value_2
returns-clause-component_value_2 c = search (face_rank, rules)
