-- Codes put into bytes one after the other.
use Prim.Native.Nat.{ℕ, ◌+◌, ◌*◌, ◌/◌, ◌%◌, ◌≤◌, ◌<◌}
use native.Mathlib.Omega.{arith}
use native.Mathlib.Numerals.{add-one}
use mathlib.Core.Path.{◌≡◌, refl, sym, ap, ◌∙◌}
use mathlib.Core.List.{List, [], ◌∷◌, ◌++◌}
use lib.ListN.{length, get_or, take, set, length-set}
use lib.Seq.{sets, length-sets, take-suc, take_all, length-take-le}
use Rattle.sheet_laying.specs.Bytes.{code_bytes}
use Rattle.sheet_laying.proofs.Stores.{sets_append}

pub length-code_bytes : (cs : List ℕ) → length (code_bytes cs) ≡ 2 * length cs
unfolding code_bytes
length-code_bytes [] = refl
length-code_bytes (c ∷ cs) = omega (arith, length-code_bytes cs)

code_bytes-append : (xs ys : List ℕ) → code_bytes (xs ++ ys) ≡ code_bytes xs ++ code_bytes ys
unfolding code_bytes
code_bytes-append [] ys = refl
code_bytes-append (x ∷ xs) ys = ap (λ (b : List ℕ). x / 256 ∷ x % 256 ∷ b) (code_bytes-append xs ys)

-- The first i codes stand in the bytes from offset `at` on.
pub record Putting (codes old new : List ℕ) (at i : ℕ) : Type 0 where
  pub are : new ≡ sets old at (code_bytes (take i codes))

pub putting_none : (codes old : List ℕ) (at : ℕ) → Putting codes old old at 0
unfolding code_bytes
putting_none codes old at = record { are = refl }

module _ (codes old new : List ℕ) (at i : ℕ) (p : Putting codes old new at i) where
  pub putting_long : length new ≡ length old
  putting_long = ap length p.are ∙ length-sets old at (code_bytes (take i codes))

  module _ (more : i < length codes) (fits : at + 2 * length codes ≤ length old) where
    pub high_there : at + 2 * i < length new
    high_there = omega (arith, putting_long)

    pub low_there : (x : ℕ) → at + 2 * i + 1 < length (set new (at + 2 * i) x)
    low_there x = omega (arith, putting_long, length-set new (at + 2 * i) x)

  more_by : (c : ℕ) → c ≡ get_or codes i 0 → i < length codes → Putting codes old (set (set new (at + 2 * i) (c / 256)) (at + 2 * i + 1) (c % 256)) at (i + 1)
  unfolding code_bytes
  more_by c is more =
      let k : length (code_bytes (take i codes)) ≡ 2 * i = length-code_bytes (take i codes) ∙ ap (λ (n : ℕ). 2 * n) (length-take-le i codes (omega (arith, more))) in
      let t : take (i + 1) codes ≡ take i codes ++ (c ∷ []) = ap (λ (n : ℕ). take n codes) (add-one i) ∙ take-suc codes i 0 more ∙ ap (λ (x : ℕ). take i codes ++ (x ∷ [])) (sym is) in
      record {
        are =
            ap (λ (xs : List ℕ). set (set xs (at + 2 * i) (c / 256)) (at + 2 * i + 1) (c % 256)) p.are
            ∙ ap (λ (j : ℕ). set (set (sets old at (code_bytes (take i codes))) (at + 2 * i) (c / 256)) j (c % 256)) (add-one (at + 2 * i))
            ∙ ap (λ (j : ℕ). sets (sets old at (code_bytes (take i codes))) (at + j) (c / 256 ∷ c % 256 ∷ [])) (sym k)
            ∙ sym (sets_append old at (code_bytes (take i codes)) (c / 256 ∷ c % 256 ∷ []))
            ∙ ap (λ (xs : List ℕ). sets old at xs) (sym (code_bytes-append (take i codes) (c ∷ [])))
            ∙ ap (λ (cs : List ℕ). sets old at (code_bytes cs)) (sym t);
      }

  pub putting_more : (two : List ℕ) → get_or codes i 0 < 65536 → two ≡ get_or codes i 0 / 256 % 256 ∷ get_or codes i 0 % 256 ∷ [] → i < length codes
      → Putting codes old (set (set new (at + 2 * i) (get_or two 0 0)) (at + 2 * i + 1) (get_or two 1 0)) at (i + 1)
  putting_more two small are more =
      let high : get_or two 0 0 ≡ get_or codes i 0 / 256 = ap (λ (b : List ℕ). get_or b 0 0) are ∙ omega (arith, small) in
      let low : get_or two 1 0 ≡ get_or codes i 0 % 256 = ap (λ (b : List ℕ). get_or b 1 0) are in
      rw (high, low) (more_by (get_or codes i 0) refl more)

pub putting_all : (codes old new : List ℕ) (at i : ℕ) → Putting codes old new at i → length codes ≤ i → new ≡ sets old at (code_bytes codes)
putting_all codes old new at i p h = p.are ∙ ap (λ (cs : List ℕ). sets old at (code_bytes cs)) (take_all i codes h)
