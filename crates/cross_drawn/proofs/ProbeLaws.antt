-- The lines that are lent, one by one.
use Prim.Native.Nat.{ℕ, zero, suc, ◌+◌, ◌*◌, ◌/◌, ◌<◌}
use native.Mathlib.Omega.{arith}
use mathlib.Core.Path.{◌≡◌, refl, sym, ap, ◌∙◌}
use mathlib.Core.List.{List}
use lib.ListN.{length, drop, get_or}
use lib.Seq.{drop-drop, get_or-drop}
use lib.Ieee.{Float, nan}
use Rattle.std.specs.Int.{div_ceil}
use Rattle.cross_shapes.specs.declared.Probe.{Probe}
use Rattle.cross_drawn.specs.Lent.{probe_from, probes_from, probes_of}

-- ---- one line
pub probe_read : (lines : List Float) (n : ℕ) (a b c d e f : Float) → a ≡ get_or lines n nan → b ≡ get_or lines (n + 1) nan → c ≡ get_or lines (n + 2) nan → d ≡ get_or lines (n + 3) nan → e ≡ get_or lines (n + 4) nan → f ≡ get_or lines (n + 5) nan
    → record { ox = a; oy = b; oz = c; dx = d; dy = e; dz = f } ≡ probe_from (drop n lines)
probe_read lines n a b c d e f ea eb ec ed ee ef =
    let z : get_or lines (n + 0) nan ≡ a = ap (λ k. get_or lines k nan) (omega arith) ∙ sym ea in
    sym (rw (get_or-drop n lines 0 nan, get_or-drop n lines 1 nan, get_or-drop n lines 2 nan, get_or-drop n lines 3 nan, get_or-drop n lines 4 nan, get_or-drop n lines 5 nan, z, ← eb, ← ec, ← ed, ← ee, ← ef))

-- ---- all of them
length_probes-from : (n : ℕ) (lines : List Float) → length (probes_from n lines) ≡ n
unfolding probes_from
length_probes-from zero lines = refl
length_probes-from (suc n) lines = ap suc (length_probes-from n (drop 6 lines))

pub length_probes : (lines : List Float) → length (probes_of lines) ≡ (length lines + 5) / 6
length_probes lines = length_probes-from ((length lines + 5) / 6) lines

-- as the code counts them
pub lines_counted : (lines : List Float) → div_ceil (length lines) 6 ≡ length (probes_of lines)
lines_counted lines = omega (arith, length_probes lines)

probe_from_lem : (n : ℕ) (lines : List Float) (k : ℕ) (d : Probe) → k < n → get_or (probes_from n lines) k d ≡ probe_from (drop (6 * k) lines)
unfolding probes_from
probe_from_lem zero lines k d h = absurd (omega arith)
probe_from_lem (suc n) lines zero d h = refl
probe_from_lem (suc n) lines (suc k) d h =
    let six : 6 + 6 * k ≡ 6 * suc k = omega arith in
    probe_from_lem n (drop 6 lines) k d (omega arith) ∙ ap probe_from (drop-drop (6 * k) 6 lines ∙ ap (λ i. drop i lines) six)

pub probe_of_lem : (lines : List Float) (k : ℕ) (d : Probe) → k < length (probes_of lines) → get_or (probes_of lines) k d ≡ probe_from (drop (6 * k) lines)
probe_of_lem lines k d h = probe_from_lem ((length lines + 5) / 6) lines k d (omega (arith, length_probes lines))
