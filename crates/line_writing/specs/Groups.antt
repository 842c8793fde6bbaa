-- The crossings at one position, and what the loops over them keep.
use Rattle.std.specs.Prelude.{ℕ, ◌-◌, ◌≤◌, ◌<◌, ◌≡◌, Bool, true, false, not, ◌||◌, List, ◌⊎◌, eqb, ℤ, pos, get_or, length, take}
use Rattle.std.specs.Int.Signed.{lt_z}
use Rattle.formula.specs.States.{State}
use Rattle.formula.specs.Flips.{after}
use Rattle.lines.specs.Lines.{line_lists, crossings, shape_at}
use Rattle.lines.specs.AtIndex.{group_ends_at, Accepted}

-- a byte a shape: whether it is inside
abbrev pub state_of : List Bool → State
state_of odd s = get_or odd s false

-- crossing k is on another line than crossing i, or short of it
abbrev pub aside : List ℕ → List ℤ → ℕ → ℕ → Bool
aside ls ps k i = not (eqb (get_or ls k 0) (get_or ls i 0)) || lt_z (get_or ps k (pos 0)) (get_or ps i (pos 0))

-- crossing g is the first that acts together with crossing i
pub record GroupStart (ls : List ℕ) (ps : List ℤ) (i g : ℕ) : Type 0 where
  pub within : g ≤ i
  pub together : (k : ℕ) → g ≤ k → k ≤ i → aside ls ps k i ≡ false
  pub first : 0 < g → aside ls ps (g - 1) i ≡ true

-- where r is so, crossing i acts first at its position
pub record FirstThere (ls : List ℕ) (ps : List ℤ) (i : ℕ) (r : Bool) : Type 0 where
  pub first : r ≡ true → GroupStart ls ps i i

-- crossing i is the last that acts at its position, in lists that are accepted for some names and start rows
pub record GroupEnd (ls : List ℕ) (ps : List ℤ) (ss : List ℕ) (i : ℕ) : Type 0 where
  pub inside : i < length ls
  pub ends : group_ends_at ls ps i ≡ true
  pub names : ℕ
  pub rows : List ℕ
  pub accepted : Accepted names (line_lists rows ls ps ss)

-- r is the shape at the position of crossing i, whatever is inside at the lines' starts
pub record GroupShape (ls : List ℕ) (ps : List ℤ) (ss : List ℕ) (i r : ℕ) : Type 0 where
  pub is : (start : ℕ → State) → r ≡ shape_at start (crossings ls ps ss) (get_or ls i 0) (get_or ps i (pos 0))

pub record FewShapes (shapes : List ℕ) : Type 0 where
  pub few : (j : ℕ) → j < length shapes → get_or shapes j 0 < 256

-- flipped at each of the first j shapes
pub record Tallied (shapes : List ℕ) (j : ℕ) (odd odd' : List Bool) : Type 0 where
  pub states : state_of odd' ≡ after (state_of odd) (take j shapes)

-- of the first j shapes, r is the least whose state is on, or none is
pub record Least (shapes : List ℕ) (j : ℕ) (state : State) (r : ℕ) : Type 0 where
  pub among : (k : ℕ) → k < j → state (get_or shapes k 0) ≡ true → r ≤ get_or shapes k 0
  pub on : (r ≡ 65535) ⊎ (state r ≡ true)
