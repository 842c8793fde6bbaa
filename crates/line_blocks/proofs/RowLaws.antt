-- A block's row, and what the pass may take from it.
use Prim.Native.Nat.{ℕ}
use native.Mathlib.Omega.{arith}
use mathlib.Core.Path.{sym, ◌∙◌}
use mathlib.Core.Bool.{Bool}
use mathlib.Core.List.{List}
use Rattle.line_strips.specs.Filling.{Fillable, Fills}
use Rattle.line_words.specs.Evaluating.{Evaluable, Evaluated}
use Rattle.line_words.specs.declared.Arranged.{Arranged}
use Rattle.line_blocks.specs.Blocks.{RowMade}

module _ {table : List ℕ} {arranged : Arranged} {names : ℕ} {rows shapes cols lasts : List ℕ} {a n : ℕ} {going_on : Bool} {words then : List ℕ} where
  pub evaluable_filled : Evaluable table words arranged → Fills names rows shapes cols lasts a n going_on words then → Evaluable table then arranged
  evaluable_filled e f = record { workable = e.workable; room = omega (arith, e.room, f.long) }

  pub row_made : {told : Bool} {words' row : List ℕ} → Fillable names rows shapes cols lasts a n told words → Fills names rows shapes cols lasts a n going_on words then → Evaluated table arranged then words' row
      → RowMade table arranged names rows shapes cols lasts a n going_on words words' row
  row_made {told} {words'} {row} ok f e =
      record {
        long = e.long ∙ f.long;
        filled = λ c first q r en. let g = f.filled c first q r en in record { is = λ j s h k. e.kept s j (omega (arith, ok.legible.few)) (omega (arith, ok.legible.most)) ∙ g.is j s h k };
        root = λ codes st. let r = e.root names codes ok.legible.few st in record { is = λ g state j h q o same. r.is g state j h q o (λ s k. sym (e.kept s j (omega (arith, ok.legible.few)) h) ∙ same s k) };
      }
