-- What makes a wall list right, apart from how walls are found.
use Rattle.std.specs.Prelude.{ℕ, ◌<◌, ◌≡◌, Bool, true, false, ◌&&◌, ◌||◌, List, [], ◌∷◌, eqb, ltb, ℤ}
use Rattle.std.specs.Int.Signed.{lt_z, le_z}
use Rattle.formula.specs.Formula.{Formula, inside}
use Rattle.formula.specs.States.{State}
use Rattle.lines.specs.Lines.{Crossing, low, high, state_before, state_at, Wall}

-- The unit cell from p to p + 1 of line l lies in a wall of the list.
unfoldable pub covers : ℕ → ℤ → List Wall → Bool
covers l p [] = false
covers l p (w ∷ ws) = (eqb w.line l && le_z w.start p && lt_z p w.end) || covers l p ws

-- v after w: on a later line, or beyond w's end with something between. So stretches that touch are joined.
abbrev pub apart : Wall → Wall → Bool
apart w v = ltb w.line v.line || (eqb w.line v.line && lt_z w.end v.start)

abbrev pub Next : Wall → List Wall → Type 0
Next w [] = Unit {0}
Next w (v ∷ vs) = apart w v ≡ true

-- Stretches of positive length, in rising order, that never touch.
abbrev pub Rising : List Wall → Type 0
Rising [] = Unit {0}
Rising (w ∷ ws) = (lt_z w.start w.end ≡ true) × (Next w ws × Rising ws)

-- Of the states before and after: s is the lowest number whose state differs.
pub record LowestChanged (a b : State) (s : ℕ) : Type 0 where
  pub changed : a s ≡ b s → ⊥
  pub lowest : (t : ℕ) → t < s → a t ≡ b t

-- The shape at position p of line l; an open end's is 65535.
pub record Bounds (start : ℕ → State) (xs : List Crossing) (l : ℕ) (p : ℤ) (s : ℕ) : Type 0 where
  pub open_end : (le_z p low || le_z high p) ≡ true → s ≡ 65535
  pub crossed_there : (le_z p low || le_z high p) ≡ false → LowestChanged (state_before start xs l p) (state_at start xs l p) s

-- Each wall names the shape at its start and the one at its end.
abbrev pub Bounded : (ℕ → State) → List Crossing → List Wall → Type 0
Bounded start xs [] = Unit {0}
Bounded start xs (w ∷ ws) = (Bounds start xs w.line w.start w.start_shape × Bounds start xs w.line w.end w.end_shape) × Bounded start xs ws

-- Of the lines that have a row, between the end marks: the longest stretches of positive length inside, all of them, in rising order, with the shapes that bound them.
pub record Right (f : Formula) (rows : ℕ) (start : ℕ → State) (xs : List Crossing) (ws : List Wall) : Type 0 where
  pub cells : (l : ℕ) (p : ℤ) → covers l p ws ≡ (ltb l rows && (le_z low p && (lt_z p high && inside f (state_at start xs l p))))
  pub rising : Rising ws
  pub shapes : Bounded start xs ws
