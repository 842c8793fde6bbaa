-- The codes put into an array: the first i of them stand there, and the others in the formula's bytes.
use Prim.Native.Nat.{ℕ, ◌+◌, ◌*◌, ◌/◌, ◌≤◌, ◌<◌}
use native.Mathlib.Omega.{arith}
use native.Mathlib.Numerals.{add-one}
use mathlib.Core.Path.{◌≡◌, refl, sym, ◌∙◌}
use mathlib.Core.List.{List, [], ◌∷◌, ◌++◌, append_assoc, append-nil}
use lib.ListN.{length, take, drop, set, length-set, drop_of_length-le}
use lib.Seq.{length-take-le, take-suc-set}
use Rattle.sheet.specs.Sheet.{two_bytes_at, codes_of}
use Rattle.sheet_codes.specs.Codes.{CodesFit, CodesStand}
use Rattle.sheet_codes.proofs.CodeSteps.{codes_more}

pub record Filling (bytes array : List ℕ) (i : ℕ) : Type 0 where
  pub within : 2 * i ≤ length bytes
  pub are : codes_of bytes ≡ take i array ++ codes_of (drop (2 * i) bytes)
  pub sized : length array ≡ 2048

pub filling_none : (bytes array : List ℕ) → CodesFit bytes array → Filling bytes array 0
filling_none bytes array f = record { within = omega arith; are = refl; sized = f.sized }

module _ (bytes array old : List ℕ) (i : ℕ) (f : CodesFit bytes old) (inv : Filling bytes array i) where
  pub filling_room : i < length bytes / 2 → i < 2048
  filling_room more = let few : length bytes ≤ 4094 = f.few in omega arith

  pub filling_more : (c : ℕ) → i < length bytes / 2 → c ≡ two_bytes_at bytes (2 * i) → Filling bytes (set array i c) (i + 1)
  filling_more c more is =
      let two : 2 * i + 1 < length bytes = omega arith in
      let room : i < length array = omega (arith, filling_room more, inv.sized) in
      let next : 2 * (i + 1) ≡ 2 * i + 2 = omega arith in
      record {
        within = omega arith;
        are = inv.are ∙ rw (next, codes_more bytes (2 * i) two, ← is, add-one i, take-suc-set array i c room) (sym (append_assoc (take i array) (c ∷ []) (codes_of (drop (2 * i + 2) bytes))));
        sized = length-set array i c ∙ inv.sized;
      }

  pub filling_all : length bytes / 2 ≤ i → CodesStand (codes_of bytes) array (length bytes / 2)
  unfolding codes_of
  filling_all done =
      let even = f.even in
      let within = inv.within in
      let n : i ≡ length bytes / 2 = omega arith in
      let past : length bytes ≤ 2 * i = omega arith in
      let e : codes_of bytes ≡ take i array = inv.are ∙ rw (drop_of_length-le bytes past) (append-nil (take i array)) in
      let few : length bytes ≤ 4094 = f.few in
      let fits : i ≤ length array = omega (arith, inv.sized) in
      rw (← n) (record { all = rw e (sym (length-take-le i array fits)); are = sym e; sized = inv.sized })
