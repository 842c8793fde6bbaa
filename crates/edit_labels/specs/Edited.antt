-- One edit on arrays: what it asks for, and what it leaves.
use Rattle.std.specs.Prelude.{ℕ, ◌≡◌, List, length, take}
use Rattle.formula.specs.Formula.{op_at, Formula}
use Rattle.contraction.specs.Records.{number}
use Rattle.contraction.specs.Rounds.{dwarf}
use Rattle.contraction.specs.Entries.{kind_at}
use Rattle.contraction.specs.declared.Records.{Records}
use Rattle.edits.specs.Edits.{edited, node_at}
use Rattle.edits.specs.Changes.{operations, rekind}
use Rattle.labels.specs.Arrays.{Holds}
use Rattle.labels.specs.Linked.{Rules, Parents}
use Rattle.toggle_passes.specs.Reworking.{steps}
use Rattle.edit_labels.specs.Editing.{edit}

-- The number of the kind of the same record over operation o.
pub record Rekinded (kind o new : ℕ) : Type 0 where
  pub so : new ≡ number (rekind (λ x. op_at o) (kind_at kind))

-- The arrays hold the dwarf tree of f, and e is the node of the operation at position p.
pub record NodeOf (ks fs ss : List ℕ) (leaves nodes e : ℕ) (f : Formula) (p : ℕ) : Type 0 where
  pub holds : Holds ks fs ss leaves nodes f
  pub operation : operations p 0 f ≡ 1
  pub node_is : e ≡ node_at f p

-- So it is for some formula and position; the rules and the parents are filled.
pub record Editable (rules ks fs ss : List ℕ) (leaves nodes : ℕ) (ps ls : List ℕ) (e : ℕ) : Type 0 where
  pub formula : Formula
  pub position : ℕ
  pub at : NodeOf ks fs ss leaves nodes e formula position
  pub ruled : Rules rules
  pub ups : Parents ks fs ss nodes ps
  pub long : length ls ≡ 3072

-- The arrays hold the dwarf tree of the edited formula, and labels and count are those of the edit.
pub record EditLeft (ks fs ss : List ℕ) (leaves nodes : ℕ) (ps old ls : List ℕ) (count e o : ℕ) (f : Formula) (p : ℕ) : Type 0 where
  pub holds : Holds ks fs ss leaves nodes (edited p (op_at o) f)
  pub ups : Parents ks fs ss nodes ps
  pub long : length ls ≡ 3072
  pub edit_is : steps (take nodes ls) count ≡ edit (dwarf (edited p (op_at o) f)) e (take nodes old)

-- So it is for every formula and position of which that node is.
pub record EditDone (ks fs ss : List ℕ) (leaves nodes : ℕ) (ps old : List ℕ) (e o : ℕ) (ks' ls : List ℕ) (count : ℕ) : Type 0 where
  pub so : (f : Formula) (p : ℕ) → NodeOf ks fs ss leaves nodes e f p → EditLeft ks' fs ss leaves nodes ps old ls count e o f p

-- Of the records nothing changes but kinds, and there are as many of them.
pub record KindsAlone (old new : Records) : Type 0 where
  pub firsts : new.firsts ≡ old.firsts
  pub seconds : new.seconds ≡ old.seconds
  pub as_many : length new.kinds ≡ length old.kinds
