-- Where a sheet of edition 1 has 0xFFF3; a sheet of edition 2 may have it.
use Prim.Native.Nat.{ℕ, ◌+◌, ◌-◌, ◌*◌, ◌^◌, ◌≤◌, ◌<◌}
use native.Mathlib.Omega.{arith}
use mathlib.Core.Path.{◌≡◌, refl, sym, ap, ◌∙◌}
use mathlib.Core.Bool.{true, false, and-false}
use mathlib.Core.List.{List}
use lib.ListN.{length, get_or}
use lib.Dec.{eqb}
use borrow.Author.Tests.{eq-eqb, ne_eqb}
use Rattle.std.specs.Prelude.{Some, None}
use Rattle.sheet.specs.Sheet.{Sheet, between, codes_of}
use Rattle.sheet.proofs.CodesFirst.{length-codes_in}
use Rattle.job_move.specs.Moving.{has_exclusive, before_exclusive, codes_of_sheet, out_of_use, other}
use Rattle.job_move.specs.Putting.{many_exclusive, first_exclusive, Held, Holding, UsedAt}
use Rattle.job_move.proofs.Exclusive.{has_either, before_most, none_among, first_none, first_some}
use Rattle.job_move.proofs.Giving.{many, first_is, enough, edition_is}

module _ (s codes : List ℕ) (holding : Holding s codes) where
  pub used_fits : 2 * length codes ≤ length s
  used_fits = enough s codes holding.sheet holding.held

  -- a sheet of edition 2 may have it
  pub used_two : get_or s 4 0 ≡ 2 → UsedAt s codes None
  used_two two = record { is = λ r h. let one : 3 - r.edition ≡ 2 → ⊥ = λ e. omega (arith, e, h.own.said, two) in rw (ne_eqb (3 - r.edition) 2 one) refl }

  -- in either order it is there or not
  either_order : (r : Sheet) → Held s codes r → has_exclusive (codes_of_sheet r) ≡ has_exclusive codes
  either_order r h = has_either r.edition r.formula ∙ sym (has_either (other r.edition) r.formula) ∙ ap has_exclusive (sym h.are)

  pub used_none : (k : ℕ) → k ≡ many_exclusive codes → k ≡ 0 → UsedAt s codes None
  used_none k is e =
      record {
        is = λ r h. let no : out_of_use r ≡ false = rw (either_order r h, none_among codes (sym is ∙ e)) (and-false (eqb (other r.edition) 2)) in rw no refl;
      }

  -- of edition 1, the codes are those of the formula's bytes
  module _ (one : get_or s 4 0 ≡ 2 → ⊥) where
    abbrev bytes : List ℕ
    bytes = between s (length s - 2 * length codes) (length s)

    own-codes : (r : Sheet) → Held s codes r → codes_of bytes ≡ codes_of_sheet r
    own-codes r h =
        ap (λ (i : ℕ). codes_of (between s i (length s))) (first_is s codes r h)
        ∙ ap (λ (i : ℕ). codes_of (between s r.first i)) (sym h.own.ends)
        ∙ h.own.codes_are

    use_is : (r : Sheet) → Held s codes r → out_of_use r ≡ has_exclusive (codes_of bytes)
    use_is r h =
        let is_one : other r.edition ≡ 2 = edition_is r.edition (λ e. one (h.own.said ∙ e)) h.own.least_edition h.own.most_edition in
        rw (eq-eqb (other r.edition) 2 is_one) (ap has_exclusive (sym (own-codes r h)))

    pub used_nowhere : None ≡ first_exclusive (codes_of bytes) → UsedAt s codes None
    used_nowhere e = record { is = λ r h. let no : out_of_use r ≡ false = use_is r h ∙ first_none (codes_of bytes) e in rw no refl }

    module _ (k : ℕ) (is : Some k ≡ first_exclusive (codes_of bytes)) where
      before_is : (r : Sheet) → Held s codes r → k ≡ before_exclusive (codes_of_sheet r)
      before_is r h = (first_some (codes_of bytes) k is).1 ∙ ap before_exclusive (own-codes r h)

      used_few : k ≤ length codes
      used_few =
          let r = holding.sheet in
          let h = holding.held in
          let long : length (codes_of_sheet r) ≡ length codes = length-codes_in r.edition r.formula ∙ many s codes r h in
          omega (arith, before_is r h, before_most (codes_of_sheet r), long)

      pub used_double : 2 * k < 2 ^ 64
      used_double = omega (arith, used_few, holding.held.few)

      pub used_place : length s - 2 * length codes + 2 * k < 2 ^ 64
      used_place = omega (arith, used_few, used_fits, holding.held.own.few_in_all)

      pub used_some : UsedAt s codes (Some (length s - 2 * length codes + 2 * k))
      used_some =
          record {
            is = λ r h.
                let out : out_of_use r ≡ true = use_is r h ∙ (first_some (codes_of bytes) k is).0 in
                let place : length s - 2 * length codes + 2 * k ≡ r.first + 2 * before_exclusive (codes_of_sheet r) = omega (arith, first_is s codes r h, before_is r h) in
                rw (out, place) refl;
          }
