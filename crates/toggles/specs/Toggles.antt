-- Toggles by documents 01 and 02: a toggle of a shape with its count, and a run.
use Rattle.std.specs.Prelude.{ℕ, suc, not, cond, List, [], ◌∷◌, get_or, set}
use Rattle.formula.specs.Formula.{Formula}
use Rattle.formula.specs.States.{outside}
use Rattle.contraction.specs.Records.{Rec}
use Rattle.contraction.specs.Rounds.{dwarf}
use Rattle.contraction.specs.Height.{last}
use Rattle.labels.specs.Labels.{bit, on, labels, is_of}
use Rattle.toggle_passes.specs.Reworking.{Steps, rework}

-- The other bit.
abbrev pub flip : ℕ → ℕ
flip x = bit (not (on x))

-- A toggle flips all leaves of its shape s first: the leaves among the records from number i on.
abbrev pub flip_leaves : ℕ → List Rec → ℕ → List ℕ → List ℕ
flip_leaves s [] i ls = ls
flip_leaves s (r ∷ rs) i ls = flip_leaves s rs (suc i) (cond (is_of s r) (set ls i (flip (get_or ls i 0))) ls)

-- Then it goes through the nodes in rising number and reworks those with a changed child.
abbrev pub toggle : List Rec → ℕ → List ℕ → Steps
toggle rs s ls = rework ls rs 0 (flip_leaves s rs 0 ls)

-- Answers, in order: a root bit for each toggle, a count for each toggle, the final label of every dwarf node.
pub record Answers : Type 0 where
  pub roots : List ℕ
  pub counts : List ℕ
  pub final : List ℕ

abbrev pub answers : List ℕ → List ℕ → List ℕ → Answers
answers rs cs ls = record { roots = rs; counts = cs; final = ls }

-- The toggles one after the other; the root is the last node.
abbrev pub toggle_each : List Rec → List ℕ → List ℕ → Answers
toggle_each rs ls [] = answers [] [] ls
toggle_each rs ls (s ∷ ss) =
    let one = toggle rs s ls in
    let more = toggle_each rs one.labels ss in
    answers (last one.labels ∷ more.roots) (one.count ∷ more.counts) more.final

-- A toggle run on the dwarf tree of a formula, with every shape outside at first.
abbrev pub toggle_run : Formula → List ℕ → Answers
toggle_run f ss = toggle_each (dwarf f) (labels outside (dwarf f)) ss
