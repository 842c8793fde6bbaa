-- What is drawn of lines that are cut into parts: the parts give the whole.
use Prim.Native.Nat.{ℕ, suc, ◌+◌, ◌*◌, ◌≤◌}
use native.Mathlib.Omega.{arith}
use mathlib.Core.Path.{◌≡◌, refl, sym, ap, ◌∙◌}
use mathlib.Core.List.{List, [], ◌∷◌, ◌++◌, map, append-nil, map-append}
use lib.Ieee.{Float}
use lib.ListN.{length, take, drop, length-map}
use Rattle.line_cuts.specs.Cuts.{total, together, join_lists}
use Rattle.cross_cuts.specs.Cuts.{line_crossings, LineCrossing}
use Rattle.cross_shapes.specs.declared.Probe.{Probe}
use Rattle.cross_line.specs.Crossing.{shape_cuts}
use Rattle.cross_many.specs.Crossing.{crossing_many}
use Rattle.cross_drawn.specs.Drawn.{drawn, Drawn, lines_from, drawn_lists}
use Rattle.cross_drawn.specs.Lent.{probes_of}
use Rattle.cross_drawn.proofs.DrawnLaws.{rows_join, lines_join, positions_join, shapes_join}
use Rattle.cross_drawn.proofs.ProbeLaws.{length_probes}
use Rattle.cross_many.proofs.Settled.{many_drawn}
use Rattle.cross_parts.specs.Parts.{probe_parts, EachDrawn, one_after_another}
use Rattle.cross_parts.proofs.ProbeParts.{probes_cut, probes_first, rest-whole}

-- ---- the lists of some lines and then of others, which are numbered on

map_const : (r n : ℕ) (xs : List LineCrossing) → map (λ x. r + n) xs ≡ map (λ l. r + l) (map (λ x. n) xs)
map_const r n [] = refl
map_const r n (x ∷ xs) = ap (λ (ls : List ℕ). (r + n) ∷ ls) (map_const r n xs)

lines_raised : (r n : ℕ) (v : Drawn) → lines_from (r + n) v ≡ map (λ l. r + l) (lines_from n v)
unfolding lines_from
lines_raised r n [] = refl
lines_raised r n (line ∷ lines) =
    let next : suc (r + n) ≡ r + suc n = omega arith in
    ap (λ (k : ℕ). map (λ x. r + n) (line_crossings line) ++ lines_from k lines) next
    ∙ ap (λ (ls : List ℕ). ls ++ lines_from (r + suc n) lines) (map_const r n (line_crossings line))
    ∙ ap (λ (ls : List ℕ). map (λ l. r + l) (map (λ x. n) (line_crossings line)) ++ ls) (lines_raised r (suc n) lines)
    ∙ sym (map-append (λ (l : ℕ). r + l) (map (λ x. n) (line_crossings line)) (lines_from (suc n) lines))

pub lists-together : (v w : Drawn) → drawn_lists (v ++ w) ≡ together (length v) (drawn_lists v) (drawn_lists w)
lists-together v w =
    let rows = rows_join v w in
    let counted : 0 + length v ≡ length v + 0 = omega arith in
    let lines = lines_join 0 v w ∙ ap (λ (k : ℕ). lines_from 0 v ++ lines_from k w) counted ∙ ap (λ (ls : List ℕ). lines_from 0 v ++ ls) (lines_raised (length v) 0 w) in
    let positions = positions_join v w in
    let shapes = shapes_join v w in
    λ j. record { rows = rows j; lines = lines j; positions = positions j; shapes = shapes j }

-- ---- the lines that are lent

module _ (kinds : List ℕ) (numbers : List Float) where
  abbrev pub all : List Float → Drawn
  all lines = drawn kinds numbers (probes_of lines)

  module _ (r : ℕ) (lines : List Float) (whole : 6 * r ≤ length lines) where
    pub drawn-cut : all lines ≡ all (take (6 * r) lines) ++ all (drop (6 * r) lines)
    drawn-cut = ap (drawn kinds numbers) (probes_cut r lines whole) ∙ map-append (λ (p : Probe). shape_cuts p kinds numbers) (probes_of (take (6 * r) lines)) (probes_of (drop (6 * r) lines))

    pub drawn_long : length (all (take (6 * r) lines)) ≡ r
    drawn_long = length-map (probes_of (take (6 * r) lines)) (λ p. shape_cuts p kinds numbers) ∙ length_probes (take (6 * r) lines) ∙ probes_first r lines whole

  -- of every part what it has of each shape
  abbrev pub drawn_of : List (List Float) → List Drawn
  drawn_of parts = map all parts

  pub drawn-after : (sizes : List ℕ) (lines : List Float) → 6 * total sizes ≤ length lines → all lines ≡ one_after_another (drawn_of (probe_parts sizes lines))
  drawn-after [] lines h = sym (append-nil (all lines))
  drawn-after (r ∷ rs) lines h =
      let p = rest-whole r rs lines h in
      drawn-cut r lines p.0 ∙ ap (λ (v : Drawn). all (take (6 * r) lines) ++ v) (drawn-after rs (drop (6 * r) lines) p.1)

  lists-after : (sizes : List ℕ) (lines : List Float) → 6 * total sizes ≤ length lines → drawn_lists (all lines) ≡ join_lists sizes (map drawn_lists (drawn_of (probe_parts sizes lines)))
  lists-after [] lines h = refl
  lists-after (r ∷ rs) lines h =
      let p = rest-whole r rs lines h in
      ap drawn_lists (drawn-cut r lines p.0)
      ∙ lists-together (all (take (6 * r) lines)) (all (drop (6 * r) lines))
      ∙ ap (λ (n : ℕ). together n (drawn_lists (all (take (6 * r) lines))) (drawn_lists (all (drop (6 * r) lines)))) (drawn_long r lines p.0)
      ∙ ap (together r (drawn_lists (all (take (6 * r) lines)))) (lists-after rs (drop (6 * r) lines) p.1)

  pub each_drawn : (parts : List (List Float)) (vs : List Drawn) → EachDrawn (crossing_many kinds numbers) parts vs → vs ≡ drawn_of parts
  each_drawn [] [] g = refl
  each_drawn [] (v ∷ vs) g = absurd g
  each_drawn (lines ∷ parts) [] g = absurd g
  each_drawn (lines ∷ parts) (v ∷ vs) g = rw (many_drawn kinds numbers lines g.0.0 v g.0.1, each_drawn parts vs g.1)

  module _ (sizes : List ℕ) (lines : List Float) (whole : 6 * total sizes ≤ length lines) (vs : List Drawn) (g : EachDrawn (crossing_many kinds numbers) (probe_parts sizes lines) vs) where
    -- The start rows and crossings of the parts, part after part, with line numbers raised, are those of the whole.
    pub lists_of_parts : drawn_lists (one_after_another vs) ≡ join_lists sizes (map drawn_lists vs)
    lists_of_parts =
        let is = each_drawn (probe_parts sizes lines) vs g in
        ap (λ (ws : List Drawn). drawn_lists (one_after_another ws)) is ∙ ap drawn_lists (sym (drawn-after sizes lines whole)) ∙ lists-after sizes lines whole ∙ ap (λ (ws : List Drawn). join_lists sizes (map drawn_lists ws)) (sym is)
