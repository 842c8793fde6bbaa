-- Lists that were put together, cut again: the parts are those that were put together.
use Prim.Native.Nat.{ℕ, suc, ◌+◌, ◌*◌, ◌<◌}
use native.Mathlib.Omega.{arith}
use mathlib.Core.Path.{◌≡◌, refl, sym, ap, ◌∙◌}
use mathlib.Core.List.{List, [], ◌∷◌, ◌++◌, map}
use borrow.Author.Tests.{lt-ltb, le-ltb}
use lib.ListN.{length, take, drop}
use lib.Seq.{take-append_seam, drop-append_seam}
use Rattle.lines.specs.Lines.{LineLists}
use Rattle.line_cuts.specs.Cuts.{cut_index, lowered, first_lines, other_lines, AllBelow, together}
use Rattle.line_cuts.specs.Places.{Leads}
use Rattle.line_cuts.proofs.Places.{index_on, index-off, index-none}

index_seam : (r : ℕ) (ls ms : List ℕ) → AllBelow r ls → cut_index r (ls ++ map (λ l. r + l) ms) ≡ length ls
index_seam r [] [] h = index-none r
index_seam r [] (m ∷ ms) h = index-off r (r + m) (map (λ l. r + l) ms) (le-ltb (r + m) r (omega arith))
index_seam r (l ∷ ls) ms h = index_on r l (ls ++ map (λ l. r + l) ms) (lt-ltb l r h.0) ∙ ap suc (index_seam r ls ms h.1)

lowered_again : (r : ℕ) (ls : List ℕ) → AllBelow 4294967296 ls → map (lowered r) (map (λ l. r + l) ls) ≡ ls
lowered_again r [] h = refl
lowered_again r (l ∷ ls) h =
    let small : l < 4294967296 = h.0 in
    let e : lowered r (r + l) ≡ l = omega arith in
    rw (e, lowered_again r ls h.1)

module _ {A : Type 0} where
  seam_take : (n : ℕ) (xs ys : List A) → length xs ≡ n → take n (xs ++ ys) ≡ xs
  seam_take n xs ys e = ap (λ (k : ℕ). take k (xs ++ ys)) (sym e) ∙ take-append_seam xs ys

  seam_drop : (n : ℕ) (xs ys : List A) → length xs ≡ n → drop n (xs ++ ys) ≡ ys
  seam_drop n xs ys e = ap (λ (k : ℕ). drop k (xs ++ ys)) (sym e) ∙ drop-append_seam xs ys

module _ (names r : ℕ) (a b : LineLists) (lead : Leads names r a) (numbers : AllBelow 4294967296 b.lines) where
  seam : cut_index r (together r a b).lines ≡ length a.lines
  seam = index_seam r a.lines b.lines lead.below

  pub first_again : first_lines names r (together r a b) ≡ a
  first_again =
      let rows = seam_take (r * names) a.rows b.rows lead.whole in
      let lines = seam_take (cut_index r (together r a b).lines) a.lines (map (λ l. r + l) b.lines) (sym seam) in
      let positions = seam_take (cut_index r (together r a b).lines) a.positions b.positions (lead.one_length.positions_long ∙ sym seam) in
      let shapes = seam_take (cut_index r (together r a b).lines) a.shapes b.shapes (lead.one_length.shapes_long ∙ sym seam) in
      λ j. record { rows = rows j; lines = lines j; positions = positions j; shapes = shapes j }

  pub others_again : other_lines names r (together r a b) ≡ b
  others_again =
      let rows = seam_drop (r * names) a.rows b.rows lead.whole in
      let lines = ap (map (lowered r)) (seam_drop (cut_index r (together r a b).lines) a.lines (map (λ l. r + l) b.lines) (sym seam)) ∙ lowered_again r b.lines numbers in
      let positions = seam_drop (cut_index r (together r a b).lines) a.positions b.positions (lead.one_length.positions_long ∙ sym seam) in
      let shapes = seam_drop (cut_index r (together r a b).lines) a.shapes b.shapes (lead.one_length.shapes_long ∙ sym seam) in
      λ j. record { rows = rows j; lines = lines j; positions = positions j; shapes = shapes j }
