-- `cross_hits::face_met` meets its contract: the face is level, or its position may be given, or it may not.
use Rattle.cross_hits.proofs.HitLaws.{face_level, face_once, face_number, face_nowhere}
use borrow.Author.Rules.{rules}
use Rattle.cross_hits.proofs.face_met.Goals as goal

pub returns-then-is_zero : goal.returns-then-is_zero
returns-then-is_zero c = search (face_level, rules)

pub rank_of_nearest-rank-requires : goal.rank_of_nearest-rank-requires
rank_of_nearest-rank-requires c = search (face_number, rules)

pub returns-then-within : goal.returns-then-within
returns-then-within c = search (face_once, rules)

pub returns : goal.returns
returns c = search (face_nowhere, rules)
