-- A walk over the bits of a word that are on, the lowest of the rest first.
use Rattle.std.proofs.Common.{◌≡◌, ℕ, ◌+◌, ◌<◌, ◌≤◌, Bool, true, false, ltb, sym, refl, ◌∙◌, true≢false, arith, ltb-false, ltb-true}
use Rattle.word_bits.specs.Words.{bit}
use Rattle.word_bits.specs.Lowest.{Lowest, Others}
use Rattle.word_bits.proofs.Digits.{bit-none}

-- The bits below `done` are behind, and from there on the rest are those of the word.
pub record Rest (word rest done : ℕ) : Type 0 where
  pub below : (c : ℕ) → c < done → bit rest c ≡ false
  pub above : (c : ℕ) → done ≤ c → bit rest c ≡ bit word c

pub rest-starts : {word : ℕ} → Rest word word 0
rest-starts = record { below = λ c h. absurd (omega arith); above = λ c h. refl }

module _ {word rest done z : ℕ} (at : Rest word rest done) (low : Lowest rest z) where
  pub rest_up : done ≤ z
  rest_up = go (ltb z done) refl
    where
      go : (t : Bool) → ltb z done ≡ t → done ≤ z
      go true e = absurd (true≢false (sym low.on ∙ at.below z (ltb-true z done e)))
      go false e = ltb-false z done e

  pub rest-here : bit word z ≡ true
  rest-here = sym (at.above z rest_up) ∙ low.on

  pub rest-none : (c : ℕ) → done ≤ c → c < z → bit word c ≡ false
  rest-none c h l = sym (at.above c h) ∙ low.off c l

  pub rest-on : {r : ℕ} → Others rest r → Rest word r (z + 1)
  rest-on {r} others = record {
    below = λ c h. others.gone z c low (omega arith);
    above = λ c h. others.kept z c low (omega arith) ∙ at.above c (omega (arith, rest_up));
  }

pub rest-ends : {word done : ℕ} → Rest word 0 done → (c : ℕ) → done ≤ c → bit word c ≡ false
rest-ends at c h = sym (at.above c h) ∙ bit-none c
