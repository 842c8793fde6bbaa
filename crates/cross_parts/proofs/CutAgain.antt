-- What is drawn of many lines, cut as line lists are: the parts are what is drawn of the parts.
use Prim.Native.Nat.{ℕ, suc, ◌+◌, ◌*◌, ◌/◌, ◌<◌, ◌≤◌}
use native.Mathlib.Nat.{mul_comm, mul-div_cancel, mul-le-mul_right}
use native.Mathlib.Omega.{arith}
use mathlib.Core.Path.{◌≡◌, refl, sym, ap, ◌∙◌}
use mathlib.Core.List.{List, [], ◌∷◌, ◌++◌, map}
use lib.Ieee.{Float}
use lib.ListN.{length, take, drop, length-append, length-map}
use Rattle.lines.specs.Lines.{LineLists, row_count}
use Rattle.line_cuts.specs.Cuts.{other_lines, parts_of, total, AllBelow, Cuttable, together}
use Rattle.line_cuts.specs.Places.{Leads}
use Rattle.line_cuts.proofs.JoinLaws.{first_again, others_again}
use Rattle.cross_cuts.specs.Cuts.{LineCrossing, line_crossings}
use Rattle.cross_line.specs.Crossing.{shape_cuts}
use Rattle.cross_drawn.specs.Drawn.{Drawn, rows_of, lines_from, drawn_lists}
use Rattle.cross_drawn.specs.Lent.{probes_of}
use Rattle.cross_drawn.proofs.DrawnLaws.{positions_many, shapes_many, rows-count}
use Rattle.cross_drawn.proofs.ProbeLaws.{length_probes}
use Rattle.cross_parts.specs.Parts.{probe_parts}
use Rattle.cross_parts.proofs.ProbeParts.{probes_cut, rest-whole}
use Rattle.cross_parts.proofs.DrawnParts.{all, drawn_of, drawn-cut, drawn_long, lists-together}

below-join : (n : ℕ) (xs ys : List ℕ) → AllBelow n xs → AllBelow n ys → AllBelow n (xs ++ ys)
below-join n [] ys a b = b
below-join n (x ∷ xs) ys a b = (a.0, below-join n xs ys a.1 b)

below-same : (n k : ℕ) (xs : List LineCrossing) → k < n → AllBelow n (map (λ x. k) xs)
below-same n k [] h = tt
below-same n k (x ∷ xs) h = (h, below-same n k xs h)

lines-below : (m n : ℕ) (v : Drawn) → n + length v ≤ m → AllBelow m (lines_from n v)
unfolding lines_from
lines-below m n [] h = tt
lines-below m n (line ∷ lines) h = below-join m (map (λ x. n) (line_crossings line)) (lines_from (suc n) lines) (below-same m n (line_crossings line) (omega arith)) (lines-below m (suc n) lines (omega arith))

module _ (kinds : List ℕ) (numbers : List Float) where
  abbrev names : ℕ
  names = length kinds

  all_long : (lines : List Float) → length (all kinds numbers lines) ≡ length (probes_of lines)
  all_long lines = length-map (probes_of lines) (λ p. shape_cuts p kinds numbers)

  all-below : (lines : List Float) → length (probes_of lines) ≤ 4294967296 → AllBelow 4294967296 (lines_from 0 (all kinds numbers lines))
  all-below lines few = lines-below 4294967296 0 (all kinds numbers lines) (omega (arith, all_long lines))

  module _ (r : ℕ) (lines : List Float) (whole : 6 * r ≤ length lines) where
    first_leads : Leads names r (drawn_lists (all kinds numbers (take (6 * r) lines)))
    first_leads =
        let first : List Float = take (6 * r) lines in
        let count : length (probes_of first) ≡ r = sym (all_long first) ∙ drawn_long kinds numbers r lines whole in
        record {
          whole = rows-count kinds numbers (probes_of first) ∙ ap (λ (n : ℕ). names * n) count ∙ mul_comm names r;
          one_length = record { positions_long = positions_many 0 (all kinds numbers first); shapes_long = shapes_many 0 (all kinds numbers first) };
          below = lines-below r 0 (all kinds numbers first) (omega (arith, drawn_long kinds numbers r lines whole));
        }

    apart : drawn_lists (all kinds numbers lines) ≡ together r (drawn_lists (all kinds numbers (take (6 * r) lines))) (drawn_lists (all kinds numbers (drop (6 * r) lines)))
    apart =
        ap drawn_lists (drawn-cut kinds numbers r lines whole)
        ∙ lists-together (all kinds numbers (take (6 * r) lines)) (all kinds numbers (drop (6 * r) lines))
        ∙ ap (λ (n : ℕ). together n (drawn_lists (all kinds numbers (take (6 * r) lines))) (drawn_lists (all kinds numbers (drop (6 * r) lines)))) (drawn_long kinds numbers r lines whole)

  -- what is drawn of the parts is what the lists are cut into
  pub parts_drawn : (sizes : List ℕ) (lines : List Float) → 6 * total sizes ≤ length lines → length (probes_of lines) ≤ 4294967296
      → parts_of names sizes (drawn_lists (all kinds numbers lines)) ≡ map drawn_lists (drawn_of kinds numbers (probe_parts sizes lines))
  parts_drawn [] lines h few = refl
  parts_drawn (r ∷ rs) lines h few =
      let p = rest-whole r rs lines h in
      let rest : List Float = drop (6 * r) lines in
      let first : LineLists = drawn_lists (all kinds numbers (take (6 * r) lines)) in
      let others : LineLists = drawn_lists (all kinds numbers rest) in
      let count : length (probes_of lines) ≡ length (probes_of (take (6 * r) lines)) + length (probes_of rest) = ap length (probes_cut r lines p.0) ∙ length-append (probes_of (take (6 * r) lines)) (probes_of rest) in
      let fewer : length (probes_of rest) ≤ 4294967296 = omega (arith, count) in
      let lead = first_leads r lines p.0 in
      ap (parts_of names (r ∷ rs)) (apart r lines p.0)
      ∙ ap (λ (c : LineLists). c ∷ parts_of names rs (other_lines names r (together r first others))) (first_again names r first others lead (all-below rest fewer))
      ∙ ap (λ (c : LineLists). first ∷ parts_of names rs c) (others_again names r first others lead (all-below rest fewer))
      ∙ ap (λ (cs : List LineLists). first ∷ cs) (parts_drawn rs rest p.1 fewer)

  pub drawn_cuttable : (sizes : List ℕ) (lines : List Float) → 6 * total sizes ≤ length lines → length (probes_of lines) ≤ 4294967296 → Cuttable names sizes (drawn_lists (all kinds numbers lines))
  drawn_cuttable sizes lines h few =
      let enough : total sizes ≤ length (probes_of lines) = omega (arith, length_probes lines) in
      record {
        rows_there = omega (arith, mul-le-mul_right names enough, rows-count kinds numbers (probes_of lines), mul_comm names (length (probes_of lines)));
        numbers = all-below lines few;
      }

  -- a row a line
  pub drawn-rows : 0 < names → (lines : List Float) → row_count names (rows_of (all kinds numbers lines)) ≡ length (probes_of lines)
  drawn-rows named lines =
      ap (λ (n : ℕ). n / names) (rows-count kinds numbers (probes_of lines) ∙ mul_comm names (length (probes_of lines))) ∙ mul-div_cancel (length (probes_of lines)) named
