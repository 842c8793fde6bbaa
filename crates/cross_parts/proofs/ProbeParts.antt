-- The lines that are lent, some and then others.
use Prim.Native.Nat.{ℕ, zero, suc, ◌+◌, ◌*◌, ◌/◌, ◌<◌, ◌≤◌}
use native.Mathlib.Omega.{arith}
use mathlib.Core.Path.{◌≡◌, sym, ap, ◌∙◌}
use mathlib.Core.List.{List, [], ◌∷◌, ◌++◌}
use lib.Ieee.{Float, nan}
use lib.ListN.{length, take, drop, get_or, length-drop, get_or-append, take-append-drop}
use lib.Seq.{length-take-le, drop-append-le}
use Rattle.line_cuts.specs.Cuts.{total}
use Rattle.cross_drawn.specs.Lent.{probe_from, probes_from, probes_of}

probe_first : (xs ys : List Float) → 6 ≤ length xs → probe_from (xs ++ ys) ≡ probe_from xs
probe_first xs ys h = rw (at 0 (omega arith), at 1 (omega arith), at 2 (omega arith), at 3 (omega arith), at 4 (omega arith), at 5 (omega arith))
  where
    at : (k : ℕ) → k < length xs → get_or (xs ++ ys) k nan ≡ get_or xs k nan
    at k h = get_or-append xs ys nan k h

probes_from_lem : (r m : ℕ) (xs ys : List Float) → length xs ≡ 6 * r → probes_from (r + m) (xs ++ ys) ≡ probes_from r xs ++ probes_from m ys
unfolding probes_from
probes_from_lem zero m [] ys e = let none : 0 + m ≡ m = omega arith in ap (λ (k : ℕ). probes_from k ys) none
probes_from_lem zero m (x ∷ xs) ys e = absurd (omega arith)
probes_from_lem (suc r) m xs ys e =
    let more : suc r + m ≡ suc (r + m) = omega arith in
    let rest : probes_from (r + m) (drop 6 (xs ++ ys)) ≡ probes_from r (drop 6 xs) ++ probes_from m ys = ap (probes_from (r + m)) (drop-append-le 6 xs ys (omega arith)) ∙ probes_from_lem r m (drop 6 xs) ys (omega (arith, length-drop 6 xs)) in
    ap (λ (k : ℕ). probes_from k (xs ++ ys)) more ∙ rw (probe_first xs ys (omega arith), rest)

module _ (r : ℕ) (lines : List Float) (whole : 6 * r ≤ length lines) where
  first_long : length (take (6 * r) lines) ≡ 6 * r
  first_long = length-take-le (6 * r) lines whole

  -- r lines, and then the others
  pub probes_cut : probes_of lines ≡ probes_of (take (6 * r) lines) ++ probes_of (drop (6 * r) lines)
  probes_cut =
      let n : (length lines + 5) / 6 ≡ r + (length (drop (6 * r) lines) + 5) / 6 = omega (arith, length-drop (6 * r) lines) in
      let m : r ≡ (length (take (6 * r) lines) + 5) / 6 = omega (arith, first_long) in
      ap (λ (k : ℕ). probes_from k lines) n
      ∙ ap (probes_from (r + (length (drop (6 * r) lines) + 5) / 6)) (sym (take-append-drop (6 * r) lines))
      ∙ probes_from_lem r ((length (drop (6 * r) lines) + 5) / 6) (take (6 * r) lines) (drop (6 * r) lines) first_long
      ∙ ap (λ (k : ℕ). probes_from k (take (6 * r) lines) ++ probes_of (drop (6 * r) lines)) m

  pub probes_first : (length (take (6 * r) lines) + 5) / 6 ≡ r
  probes_first = omega (arith, first_long)

-- what is left after the first part is cut again
pub rest-whole : (r : ℕ) (rs : List ℕ) (lines : List Float) → 6 * total (r ∷ rs) ≤ length lines → (6 * r ≤ length lines) × (6 * total rs ≤ length (drop (6 * r) lines))
rest-whole r rs lines h = (omega arith, omega (arith, length-drop (6 * r) lines))
