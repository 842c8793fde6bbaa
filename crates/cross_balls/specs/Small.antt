-- The ranks of a ball whose numbers are in their ranges.
use Rattle.std.specs.Prelude.{ℕ, ◌≤◌}

pub record Small (u v radius centre : ℕ) : Type 0 where
  pub u_low : 2146483648 ≤ u
  pub u_high : u ≤ 2148483648
  pub v_low : 2146483648 ≤ v
  pub v_high : v ≤ 2148483648
  pub radius_low : 2147483649 ≤ radius
  pub radius_high : radius ≤ 2148483648
  pub centre_low : 1147483648 ≤ centre
  pub centre_high : centre ≤ 3147483648
