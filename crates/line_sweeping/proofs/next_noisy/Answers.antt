-- The zeros from bit j on are quiet.
use mathlib.Core.Path.{refl}
use Rattle.line_sweeping.proofs.BitLaws.{next_noisy, zeros_few}
use Rattle.line_sweeping.proofs.next_noisy.Goals as goal

pub returns : goal.returns
returns c = next_noisy _ _ _ _ _ _ c.differing.ensures refl (zeros_few _ _ _ refl) c.requires
