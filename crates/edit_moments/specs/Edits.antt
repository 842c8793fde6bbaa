-- Edits in a toggle run, document 02, K13: what three lists bring, the formula as edited by a moment, and a count for each edit.
use Rattle.std.specs.Prelude.{ℕ, true, false, List, [], ◌∷◌, leb, take}
use Rattle.formula.specs.Formula.{Op, Formula}
use Rattle.formula.specs.Codes.{op_of}
use Rattle.formula.specs.States.{toggled_by}
use Rattle.contraction.specs.Rounds.{dwarf}
use Rattle.labels.specs.Labels.{labels}
use Rattle.edits.specs.Edits.{edited, node_at}
use Rattle.edit_labels.specs.Editing.{edit}

-- After how many toggles, the postfix position, the new operation.
pub record Edit : Type 0 where
  pub moment : ℕ
  pub position : ℕ
  pub operation : Op

-- Three lists bring them: moments, positions, codes.
abbrev pub edits_of : List ℕ → List ℕ → List ℕ → List Edit
edits_of [] ps cs = []
edits_of (m ∷ ms) [] cs = []
edits_of (m ∷ ms) (p ∷ ps) [] = []
edits_of (m ∷ ms) (p ∷ ps) (c ∷ cs) = record { moment = m; position = p; operation = op_of c } ∷ edits_of ms ps cs

-- The formula with an edit more.
abbrev pub after : Edit → Formula → Formula
after e f = edited e.position e.operation f

-- The formula as edited by moment m: with the edits up to it, whose moments do not fall.
abbrev pub edited_by : ℕ → List Edit → Formula → Formula
edited_by m [] f = f
edited_by m (e ∷ es) f = elim (leb e.moment m) [ true ↦ edited_by m es (after e f) | false ↦ f ]

-- A count for each edit: the labels that it reworks, where f is the formula as edited before it.
abbrev pub edit_counts : List ℕ → Formula → List Edit → List ℕ
edit_counts toggles f [] = []
edit_counts toggles f (e ∷ es) =
    (edit (dwarf (after e f)) (node_at f e.position) (labels (toggled_by (take e.moment toggles)) (dwarf f))).count
    ∷ edit_counts toggles (after e f) es
