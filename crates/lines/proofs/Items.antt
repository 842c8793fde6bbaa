-- The three lists read as one, at an index.
use Prim.Native.Nat.{ℕ, zero, suc, ◌*◌, ◌<◌, ◌≤◌}
use native.Mathlib.Nat.{not-suc-le-zero, le_of_suc-le-suc}
use native.Mathlib.Omega.{arith}
use mathlib.Core.Path.{◌≡◌, refl, ap, ◌∙◌}
use mathlib.Core.Bool.{true, false}
use mathlib.Core.List.{List, [], ◌∷◌}
use lib.IntN.{ℤ, pos}
use lib.ListN.{length, drop, get_or, drop_of_length-le}
use Rattle.lines.specs.Lines.{LineLists, row_count, Crossing, crossings, strays}
use Rattle.lines.specs.AtIndex.{item, Accepted}
use Rattle.lines.proofs.Keys.{le_k, eq_le_k, le_trans, le_z_self}
use Rattle.lines.proofs.Crossings.{Each, Sorted}
use Rattle.lines.proofs.Judgement.{judged_positions, judged_shapes, judged_in_order, judged-whole, judged_few, judged-bytes}

pub length-crossings : (ls : List ℕ) (ps : List ℤ) (ss : List ℕ) → length ps ≡ length ls → length ss ≡ length ls → length (crossings ls ps ss) ≡ length ls
length-crossings [] ps ss e f = refl
length-crossings (l ∷ ls) [] ss e f = e
length-crossings (l ∷ ls) (p ∷ ps) [] e f = f
length-crossings (l ∷ ls) (p ∷ ps) (s ∷ ss) e f = ap suc (length-crossings ls ps ss (omega arith) (omega arith))

-- what is left at i: the i-th, and what is left after it
pub drop-item : (ls : List ℕ) (ps : List ℤ) (ss : List ℕ) (i : ℕ) → length ps ≡ length ls → length ss ≡ length ls → i < length ls
    → drop i (crossings ls ps ss) ≡ item ls ps ss i ∷ drop (suc i) (crossings ls ps ss)
drop-item [] ps ss i e f h = absurd (not-suc-le-zero h)
drop-item (l ∷ ls) [] ss i e f h = let z : ⊥ = omega arith in absurd z
drop-item (l ∷ ls) (p ∷ ps) [] i e f h = let z : ⊥ = omega arith in absurd z
drop-item (l ∷ ls) (p ∷ ps) (s ∷ ss) zero e f h = refl
drop-item (l ∷ ls) (p ∷ ps) (s ∷ ss) (suc i) e f h = drop-item ls ps ss i (omega arith) (omega arith) (le_of_suc-le-suc h)

pub drop_all : (ls : List ℕ) (ps : List ℤ) (ss : List ℕ) (i : ℕ) → length ps ≡ length ls → length ss ≡ length ls → length ls ≤ i → drop i (crossings ls ps ss) ≡ []
drop_all ls ps ss i e f h = drop_of_length-le (crossings ls ps ss) {i = i} (omega (arith, length-crossings ls ps ss e f))

-- what holds of each entry
each_item : (P : Crossing → Type 0) (ls : List ℕ) (ps : List ℤ) (ss : List ℕ) → length ps ≡ length ls → length ss ≡ length ls
    → Each P (crossings ls ps ss) → (i : ℕ) → i < length ls → P (item ls ps ss i)
each_item P [] ps ss e f all i h = absurd (not-suc-le-zero h)
each_item P (l ∷ ls) [] ss e f all i h = let z : ⊥ = omega arith in absurd z
each_item P (l ∷ ls) (p ∷ ps) [] e f all i h = let z : ⊥ = omega arith in absurd z
each_item P (l ∷ ls) (p ∷ ps) (s ∷ ss) e f all zero h = all.0
each_item P (l ∷ ls) (p ∷ ps) (s ∷ ss) e f all (suc i) h = each_item P ls ps ss (omega arith) (omega arith) all.1 i (le_of_suc-le-suc h)

-- sorted entries rise from one index to any later one
sorted_items : (ls : List ℕ) (ps : List ℤ) (ss : List ℕ) → length ps ≡ length ls → length ss ≡ length ls → Sorted (crossings ls ps ss) → (i j : ℕ) → i ≤ j → j < length ls
    → le_k (get_or ls i 0) (get_or ps i (pos 0)) (get_or ls j 0) (get_or ps j (pos 0)) ≡ true
sorted_items [] ps ss e f so i j h k = absurd (not-suc-le-zero k)
sorted_items (l ∷ ls) [] ss e f so i j h k = let z : ⊥ = omega arith in absurd z
sorted_items (l ∷ ls) (p ∷ ps) [] e f so i j h k = let z : ⊥ = omega arith in absurd z
sorted_items (l ∷ ls) (p ∷ ps) (s ∷ ss) e f so zero zero h k = eq_le_k l p l p refl ∙ le_z_self p
sorted_items (l ∷ []) (p ∷ ps) (s ∷ ss) e f so zero (suc j) h k = let z : ⊥ = omega arith in absurd z
sorted_items (l ∷ m ∷ ls) (p ∷ []) (s ∷ ss) e f so zero (suc j) h k = let z : ⊥ = omega arith in absurd z
sorted_items (l ∷ m ∷ ls) (p ∷ q ∷ ps) (s ∷ []) e f so zero (suc j) h k = let z : ⊥ = omega arith in absurd z
sorted_items (l ∷ m ∷ ls) (p ∷ q ∷ ps) (s ∷ t ∷ ss) e f so zero (suc j) h k =
    le_trans (l, p) (m, q) (get_or (m ∷ ls) j 0, get_or (q ∷ ps) j (pos 0)) so.0 (sorted_items (m ∷ ls) (q ∷ ps) (t ∷ ss) (omega arith) (omega arith) so.1 zero j (omega arith) (le_of_suc-le-suc k))
sorted_items (l ∷ ls) (p ∷ ps) (s ∷ ss) e f so (suc i) zero h k = absurd (not-suc-le-zero h)
sorted_items (l ∷ ls) (p ∷ ps) (s ∷ ss) e f so (suc i) (suc j) h k = sorted_items ls ps ss (omega arith) (omega arith) so.1 i j (le_of_suc-le-suc h) (le_of_suc-le-suc k)

-- accepted lists: of one length, rising by line and then by position, every shape one of the names, every line one that has a row, and no position at an end mark
module _ {names : ℕ} {c : LineLists} (ok : Accepted names c) where
  pub accepted_positions : length c.positions ≡ length c.lines
  accepted_positions = judged_positions names c ok.judged_so

  pub accepted_shapes : length c.shapes ≡ length c.lines
  accepted_shapes = judged_shapes names c ok.judged_so

  pub accepted-named : (i : ℕ) → i < length c.lines → get_or c.shapes i 0 < names
  accepted-named = each_item (λ x. x.shape < names) c.lines c.positions c.shapes accepted_positions accepted_shapes (judged_in_order names c ok.judged_so).named

  pub accepted-kept : (i : ℕ) → i < length c.lines → strays (row_count names c.rows) (item c.lines c.positions c.shapes i) ≡ false
  accepted-kept = each_item (λ x. strays (row_count names c.rows) x ≡ false) c.lines c.positions c.shapes accepted_positions accepted_shapes (judged_in_order names c ok.judged_so).kept

  pub accepted_rises : (i j : ℕ) → i ≤ j → j < length c.lines → le_k (get_or c.lines i 0) (get_or c.positions i (pos 0)) (get_or c.lines j 0) (get_or c.positions j (pos 0)) ≡ true
  accepted_rises = sorted_items c.lines c.positions c.shapes accepted_positions accepted_shapes (judged_in_order names c ok.judged_so).sorted

  -- and their rows: whole, as many as have a number, and of zeros and ones
  pub accepted-whole : length c.rows ≡ row_count names c.rows * names
  accepted-whole = judged-whole names c ok.judged_so

  pub accepted_few : row_count names c.rows ≤ 4294967296
  accepted_few = judged_few names c ok.judged_so

  pub accepted-bytes : (j : ℕ) → get_or c.rows j 0 ≤ 1
  accepted-bytes = judged-bytes names c ok.judged_so
