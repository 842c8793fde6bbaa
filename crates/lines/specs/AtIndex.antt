-- The lists at an index: what loops over them keep.
use Rattle.std.specs.Prelude.{ℕ, ◌+◌, ◌≤◌, ◌<◌, ◌≡◌, Bool, true, not, ◌||◌, cond, List, eqb, ℤ, pos, get_or, length}
use Rattle.std.specs.Int.Signed.{lt_z}
use Rattle.outcome.specs.Outcome.{given}
use Rattle.lines.specs.Lines.{LineLists, Crossing, judged}

-- the i-th crossing, from 0
abbrev pub item : List ℕ → List ℤ → List ℕ → ℕ → Crossing
item ls ps ss i = record { line = get_or ls i 0; at = get_or ps i (pos 0); shape = get_or ss i 0 }

-- the i-th crossing is the last of those that act together
abbrev pub group_ends_at : List ℕ → List ℤ → ℕ → Bool
group_ends_at ls ps i = cond (eqb (i + 1) (length ls)) true (not (eqb (get_or ls (i + 1) 0) (get_or ls i 0)) || lt_z (get_or ps i (pos 0)) (get_or ps (i + 1) (pos 0)))

-- lists that are accepted, of as many names as a sheet can have
pub record Accepted (names : ℕ) (c : LineLists) : Type 0 where
  pub some : 0 < names
  pub few : names ≤ 256
  pub judged_so : judged names c ≡ given tt
