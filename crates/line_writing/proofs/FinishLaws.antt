-- One event after another: the walls that they finish, and the open one that they leave.
use Prim.Native.Nat.{ℕ, suc, ◌+◌, ◌/◌, ◌<◌}
use native.Mathlib.Numerals.{add-one}
use native.Mathlib.Omega.{arith}
use mathlib.Core.Path.{◌≡◌, refl, sym, ap, ◌∙◌}
use mathlib.Core.Bool.{cond}
use mathlib.Core.List.{List, [], ◌∷◌, ◌++◌, append_assoc, append-nil}
use mathlib.Core.Option.{Option, none, some}
use lib.ListN.{length, take, get_or}
use lib.Seq.{take-suc}
use Rattle.std.specs.Option.{is_some}
use Rattle.std.specs.Prelude as given
use Rattle.lines.specs.Lines.{Wall, Edge}
use Rattle.line_writing.specs.Finishing.{ending, beginning, walls_by, open_by, is_open_edge}
use Rattle.line_writing.specs.Spots.{open_from}
use Rattle.line_writing.specs.declared.spots.Spot.{Spot}

module _ (edge : ℕ → Edge) (line : ℕ → ℕ) where
  pub walls_app : (o : Option Edge) (xs ys : List ℕ) → walls_by edge line o (xs ++ ys) ≡ walls_by edge line o xs ++ walls_by edge line (open_by edge o xs) ys
  walls_app o [] ys = refl
  walls_app o (x ∷ xs) ys = ap (λ (r : List Wall). ending (line x) (edge x) o ++ r) (walls_app (beginning (edge x) o) xs ys) ∙ sym (append_assoc (ending (line x) (edge x) o) _ _)

  pub open_app : (o : Option Edge) (xs ys : List ℕ) → open_by edge o (xs ++ ys) ≡ open_by edge (open_by edge o xs) ys
  open_app o [] ys = refl
  open_app o (x ∷ xs) ys = open_app (beginning (edge x) o) xs ys

  -- every other event ends a wall
  pub walls-count : (o : Option Edge) (es : List ℕ) → length (walls_by edge line o es) ≡ (length es + cond (is_open_edge o) 1 0) / 2
  walls-count none [] = refl
  walls-count (some a) [] = refl
  walls-count none (e ∷ es) = walls-count (some (edge e)) es ∙ (let z : length es + 1 ≡ suc (length es) + 0 = omega arith in ap (λ (n : ℕ). n / 2) z)
  walls-count (some a) (e ∷ es) = omega (arith, walls-count none es)

  -- event k, after those before it
  module _ (o : Option Edge) (events : List ℕ) (k : ℕ) (h : k < length events) where
    next : take (k + 1) events ≡ take k events ++ (get_or events k 0 ∷ [])
    next = ap (λ (n : ℕ). take n events) (add-one k) ∙ take-suc events k 0 h

    pub walls-next : walls_by edge line o (take (k + 1) events) ≡ walls_by edge line o (take k events) ++ ending (line (get_or events k 0)) (edge (get_or events k 0)) (open_by edge o (take k events))
    walls-next =
        ap (walls_by edge line o) next
        ∙ walls_app o (take k events) (get_or events k 0 ∷ [])
        ∙ ap (λ (ws : List Wall). walls_by edge line o (take k events) ++ ws) (append-nil (ending (line (get_or events k 0)) (edge (get_or events k 0)) (open_by edge o (take k events))))

    pub open_next : open_by edge o (take (k + 1) events) ≡ beginning (edge (get_or events k 0)) (open_by edge o (take k events))
    open_next = ap (open_by edge o) next ∙ open_app o (take k events) (get_or events k 0 ∷ [])

-- ---- where there is metal

pub open_metal : (o : given.Option Spot) → is_open_edge (open_from o) ≡ is_some o
open_metal (given.Some p) = refl
open_metal given.None = refl
