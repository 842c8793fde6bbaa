-- A pass over the columns, block by block: how it begins, goes on and ends, and that there is room for what it has found.
use Prim.Native.Nat.{ℕ, ◌+◌, ◌/◌, ◌≤◌}
use mathlib.Core.Path.{◌≡◌, sym, ap, ◌∙◌}
use mathlib.Core.Bool.{Bool}
use mathlib.Core.List.{List, [], ◌++◌, append_assoc, append-nil}
use mathlib.Core.Option.{Option, none}
use lib.ListN.{length, drop}
use Rattle.outcome.specs.Outcome.{given}
use Rattle.formula.specs.Formula.{Formula, inside}
use Rattle.formula.specs.States.{State, outside}
use Rattle.lines.specs.Lines.{LineLists, row_count, judged, Wall, Edge, walls}
use Rattle.lines.specs.Columns.{Column, all_columns, column_walls}
use Rattle.lines.specs.Views.{View, state_after, open_after, walls_after, Passed, Lit}
use Rattle.lines.proofs.ColumnLines.{column_nil}
use Rattle.lines.proofs.WallsColumns.{walls-columns}
use Rattle.lines.proofs.BlockWalls.{block-walls}
use Rattle.lines.proofs.WallCount.{done-room}

module _ (f : Formula) (names : ℕ) (c : LineLists) where
  pub pass_start : judged names c ≡ given tt → Passed f names c [] outside none (all_columns names c)
  pass_start e = record { all = walls-columns f names c e }

  module _ (done : List Wall) (state : State) (from : Option Edge) (left : List Column) (p : Passed f names c done state from left) where
    pub pass_block : (at : ℕ → View) (metal : ℕ → Bool) (n : ℕ) → Lit f state left at metal n
        → Passed f names c (done ++ walls_after at metal from n) (state_after at state n) (open_after at metal from n) (drop n left)
    pass_block at metal n b = record {
      all = p.all ∙ ap (λ (ws : List Wall). done ++ ws) (block-walls (inside f) state from left at metal n b.enough b.are b.lit)
          ∙ sym (append_assoc done (walls_after at metal from n) (column_walls (inside f) (state_after at state n) (open_after at metal from n) (drop n left)));
    }

    pub pass_end : left ≡ [] → walls f names c ≡ done
    pass_end e = p.all ∙ ap (λ (xs : List Column). done ++ column_walls (inside f) state from xs) e ∙ ap (λ (ws : List Wall). done ++ ws) (column_nil (inside f) state from) ∙ append-nil done

    pub pass_room : judged names c ≡ given tt → length done ≤ length c.lines / 2 + row_count names c.rows
    pass_room e = done-room f names c done (column_walls (inside f) state from left) e p.all
