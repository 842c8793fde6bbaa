-- The edits that three lists bring, one by one; what an edit leaves of the others; the formula as edited by a moment.
use Prim.Native.Nat.{ℕ, zero, suc, ◌*◌, ◌<◌, ◌≤◌}
use native.Mathlib.Omega.{arith}
use mathlib.Core.Path.{◌≡◌, refl, ap, ◌∙◌}
use mathlib.Core.Bool.{Bool, true, false}
use mathlib.Core.List.{List, [], ◌∷◌}
use lib.Dec.{leb}
use lib.ListN.{length, get_or, drop, drop_of_length-le}
use borrow.Author.Tests.{le-leb, lt-leb, leb-true, leb-false}
use Rattle.formula.specs.Formula.{Formula, leaf, node, leaves}
use Rattle.formula.specs.Codes.{op_of}
use Rattle.edits.specs.Edits.{size}
use Rattle.edits.specs.Changes.{operations}
use Rattle.edits.proofs.Codes.{above_none}
use Rattle.edits.proofs.Again.{operations-edited}
use Rattle.edit_moments.specs.Edits.{Edit, edits_of, after, edited_by}
use Rattle.edit_moments.specs.Listed.{Operations, Rises, Listed}
use Rattle.edit_moments.specs.Waiting.{Desk, waiting}

-- ---- edit k of three lists
abbrev pub edit_at : List ℕ → List ℕ → List ℕ → ℕ → Edit
edit_at ms ps cs k = record { moment = get_or ms k 0; position = get_or ps k 0; operation = op_of (get_or cs k 0) }

edits_here : (ms ps cs : List ℕ) (k : ℕ) → length ps ≡ length ms → length cs ≡ length ms → k < length ms
    → drop k (edits_of ms ps cs) ≡ edit_at ms ps cs k ∷ drop (suc k) (edits_of ms ps cs)
edits_here [] ps cs k a b h = absurd (omega arith)
edits_here (m ∷ ms) [] cs k a b h = absurd (omega arith)
edits_here (m ∷ ms) (p ∷ ps) [] k a b h = absurd (omega arith)
edits_here (m ∷ ms) (p ∷ ps) (c ∷ cs) zero a b h = refl
edits_here (m ∷ ms) (p ∷ ps) (c ∷ cs) (suc k) a b h = edits_here ms ps cs k (omega arith) (omega arith) (omega arith)

length_edits : (ms ps cs : List ℕ) → length ps ≡ length ms → length cs ≡ length ms → length (edits_of ms ps cs) ≡ length ms
length_edits [] ps cs a b = refl
length_edits (m ∷ ms) [] cs a b = absurd (omega arith)
length_edits (m ∷ ms) (p ∷ ps) [] a b = absurd (omega arith)
length_edits (m ∷ ms) (p ∷ ps) (c ∷ cs) a b = ap suc (length_edits ms ps cs (omega arith) (omega arith))

module _ (d : Desk) {most : ℕ} (l : Listed d.moments d.positions d.codes most) where
  pub waiting-here : (k : ℕ) → k < length d.moments → waiting d k ≡ edit_at d.moments d.positions d.codes k ∷ waiting d (suc k)
  waiting-here k h = edits_here d.moments d.positions d.codes k l.positions_long l.codes_long h

  pub waiting_none : (k : ℕ) → length d.moments ≤ k → waiting d k ≡ []
  waiting_none k h =
      let few : length (edits_of d.moments d.positions d.codes) ≤ k = omega (arith, length_edits d.moments d.positions d.codes l.positions_long l.codes_long) in
      drop_of_length-le (edits_of d.moments d.positions d.codes) few

-- ---- an edit leaves operations where they were
pub kept-operations : (f : Formula) (e : Edit) (es : List Edit) → Operations f es → Operations (after e f) es
kept-operations f e [] h = tt
kept-operations f e (x ∷ es) h = (operations-edited f e.position x.position e.operation ∙ h.0, kept-operations f e es h.1)

-- a position of an operation is one of a sheet's codes
size-leaves : (f : Formula) → suc (size f) ≡ 2 * leaves f
size-leaves (leaf s) = refl
size-leaves (node o l r) = omega (arith, size-leaves l, size-leaves r)

pub position_small : (f : Formula) (p : ℕ) → operations p 0 f ≡ 1 → leaves f ≤ 1024 → p < 2048
position_small f p h few = go (leb (size f) p) refl
  where
    go : (b : Bool) → leb (size f) p ≡ b → p < 2048
    go true e = absurd (omega (arith, above_none f 0 p (omega (arith, leb-true (size f) p e))))
    go false e = omega (arith, leb-false (size f) p e, size-leaves f)

-- ---- the formula as edited by a moment
pub by_now : (m : ℕ) (e : Edit) (es : List Edit) (f : Formula) → e.moment ≤ m → edited_by m (e ∷ es) f ≡ edited_by m es (after e f)
by_now m e es f h = rw (le-leb e.moment m h, edited_by)

by_wait : (m : ℕ) (e : Edit) (es : List Edit) (f : Formula) → m < e.moment → edited_by m (e ∷ es) f ≡ f
by_wait m e es f h = rw (lt-leb e.moment m h, edited_by)

-- no edit that waits is one of moment m
pub by_later : (m : ℕ) (es : List Edit) (f : Formula) → Rises (suc m) es → edited_by m es f ≡ f
by_later m [] f h = refl
by_later m (e ∷ es) f h = by_wait m e es f (omega (arith, h.0))
