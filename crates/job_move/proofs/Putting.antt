-- A formula's codes in the order of the edition that it has not.
use Prim.Native.Nat.{ℕ, ◌-◌, ◌≤◌}
use native.Mathlib.Omega.{arith}
use mathlib.Core.Path.{◌≡◌, ◌∙◌}
use mathlib.Core.List.{List}
use borrow.Author.Tests.{eq-eqb, ne_eqb}
use Rattle.sheet.specs.Sheet.{codes_of, formula_in}
use Rattle.sheet_codes.specs.Codes.{CodesStand}
use Rattle.sheet_descent.specs.Descent.{in_postfix}
use Rattle.sheet_laying.specs.Laid.{Laid}
use Rattle.job_move.specs.Putting.{OtherCodes}

module _ (ed names : ℕ) (bytes codes : List ℕ) (n : ℕ) where
  pub other-first : ed ≡ 1 → Laid (codes_of bytes) codes n → OtherCodes ed names bytes codes n
  other-first one laid =
      let two : 3 - ed ≡ 1 → ⊥ = λ q. omega arith in
      record {
        long = laid.long;
        are = λ f g. rw (ne_eqb (3 - ed) 1 two) (laid.are f (record { over = g.over; are = g.codes_are ∙ rw (eq-eqb ed 1 one) }));
      }

  pub other-postfix : (ed ≡ 1 → ⊥) → CodesStand (in_postfix (formula_in ed names 0 0 (codes_of bytes))) codes n → OtherCodes ed names bytes codes n
  other-postfix two stand =
      record {
        long = stand.sized;
        are = λ f g.
            let one : 3 - ed ≡ 1 = let l = g.least in let m = g.most in let h : ed ≡ 2 = by_two ed two l m in omega (arith, h) in
            rw (eq-eqb (3 - ed) 1 one) (rw g.judged at stand);
      }
    where
      by_two : (ed : ℕ) → (ed ≡ 1 → ⊥) → 1 ≤ ed → ed ≤ 2 → ed ≡ 2
      by_two ed two l m = omega arith
