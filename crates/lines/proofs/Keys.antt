-- The order of ℤ by its test `le_z`, and of (line, position), line first.
use mathlib.Core.Path.{◌≡◌, refl, sym, ap, ◌∙◌}
use mathlib.Core.Bool.{Bool, true, false, not, ◌&&◌, ◌||◌, true≢false, false≢true}
use mathlib.Core.Logic.{◌⊎◌, inl, inr}
use Prim.Native.Nat.{ℕ, ◌<◌}
use native.Mathlib.Omega.{arith}
use borrow.Author.Tests.{eq-eqb, ne_eqb, eqb-true, eqb-false, leb-true, leb-false, le-leb, ltb-true, ltb-false, lt-ltb, le-ltb}
use lib.Dec.{eqb, leb, ltb}
use lib.IntN.{ℤ, pos, negsuc}
use lib.Signed.{le_z, lt_z}

ltb_not : (a b : ℕ) → ltb a b ≡ not (leb b a)
ltb_not a b = go (leb b a) refl
  where
    go : (t : Bool) → leb b a ≡ t → ltb a b ≡ not t
    go true e = le-ltb a b (leb-true b a e)
    go false e = lt-ltb a b (leb-false b a e)

pub lt_z_not : (a b : ℤ) → lt_z a b ≡ not (le_z b a)
lt_z_not (pos a) (pos b) = ltb_not a b
lt_z_not (pos a) (negsuc b) = refl
lt_z_not (negsuc a) (pos b) = refl
lt_z_not (negsuc a) (negsuc b) = ltb_not b a

pub total : (a b : ℤ) → le_z a b ≡ false → le_z b a ≡ true
total (pos a) (pos b) e = le-leb b a (omega (arith, leb-false a b e))
total (pos a) (negsuc b) e = refl
total (negsuc a) (pos b) e = absurd (true≢false e)
total (negsuc a) (negsuc b) e = le-leb a b (omega (arith, leb-false b a e))

pub trans : (a b c : ℤ) → le_z a b ≡ true → le_z b c ≡ true → le_z a c ≡ true
trans (pos a) (pos b) (pos c) e f = le-leb a c (omega (arith, leb-true a b e, leb-true b c f))
trans (pos a) (pos b) (negsuc c) e f = f
trans (pos a) (negsuc b) c e f = absurd (false≢true e)
trans (negsuc a) (pos b) (pos c) e f = refl
trans (negsuc a) (pos b) (negsuc c) e f = absurd (false≢true f)
trans (negsuc a) (negsuc b) (pos c) e f = refl
trans (negsuc a) (negsuc b) (negsuc c) e f = le-leb c a (omega (arith, leb-true b a e, leb-true c b f))

pub antisym : (a b : ℤ) → le_z a b ≡ true → le_z b a ≡ true → a ≡ b
antisym (pos a) (pos b) e f = ap pos (omega (arith, leb-true a b e, leb-true b a f))
antisym (pos a) (negsuc b) e f = absurd (false≢true e)
antisym (negsuc a) (pos b) e f = absurd (false≢true f)
antisym (negsuc a) (negsuc b) e f = ap negsuc (omega (arith, leb-true b a e, leb-true a b f))

pub lt→no : (a b : ℤ) → lt_z a b ≡ true → le_z b a ≡ false
lt→no a b e = go (le_z b a) refl
  where
    go : (t : Bool) → le_z b a ≡ t → le_z b a ≡ false
    go true g = absurd (false≢true (sym (lt_z_not a b ∙ ap not g) ∙ e))
    go false g = g

pub no→lt : (a b : ℤ) → le_z b a ≡ false → lt_z a b ≡ true
no→lt a b e = lt_z_not a b ∙ ap not e

pub not-lt→ : (a b : ℤ) → lt_z a b ≡ false → le_z b a ≡ true
not-lt→ a b e = go (le_z b a) refl
  where
    go : (t : Bool) → le_z b a ≡ t → le_z b a ≡ true
    go true g = g
    go false g = absurd (true≢false (sym (no→lt a b g) ∙ e))

pub lt→le : (a b : ℤ) → lt_z a b ≡ true → le_z a b ≡ true
lt→le a b e = total b a (lt→no a b e)

pub lt_trans : (a b c : ℤ) → lt_z a b ≡ true → lt_z b c ≡ true → lt_z a c ≡ true
lt_trans a b c e f = go (lt_z a c) refl
  where
    go : (t : Bool) → lt_z a c ≡ t → lt_z a c ≡ true
    go true g = g
    go false g = absurd (true≢false (sym (trans c a b (not-lt→ a c g) (lt→le a b e)) ∙ lt→no b c f))

pub le_z_self : (a : ℤ) → le_z a a ≡ true
le_z_self a = go (le_z a a) refl
  where
    go : (t : Bool) → le_z a a ≡ t → le_z a a ≡ true
    go true e = e
    go false e = total a a e

pub lt_le : (a b c : ℤ) → lt_z a b ≡ true → le_z b c ≡ true → lt_z a c ≡ true
lt_le a b c e f = no→lt a c (go (le_z c a) refl)
  where
    go : (t : Bool) → le_z c a ≡ t → le_z c a ≡ false
    go true g = absurd (true≢false (sym (trans b c a f g) ∙ lt→no a b e))
    go false g = g

pub le_lt : (a b c : ℤ) → le_z a b ≡ true → lt_z b c ≡ true → lt_z a c ≡ true
le_lt a b c e f = no→lt a c (go (le_z c a) refl)
  where
    go : (t : Bool) → le_z c a ≡ t → le_z c a ≡ false
    go true g = absurd (true≢false (sym (trans c a b g e) ∙ lt→no b c f))
    go false g = g

-- what is short of a is short of what a reaches
pub le_z_off : (a b p : ℤ) → le_z a b ≡ true → le_z a p ≡ false → le_z b p ≡ false
le_z_off a b p e f = go (le_z b p) refl
  where
    go : (t : Bool) → le_z b p ≡ t → le_z b p ≡ false
    go true g = absurd (true≢false (sym (trans a b p e g) ∙ f))
    go false g = g

-- ---- line first

abbrev pub le_k : ℕ → ℤ → ℕ → ℤ → Bool
le_k l p m q = ltb l m || (eqb l m && le_z p q)

-- what the test says
pub yes_le_k : (l : ℕ) (p : ℤ) (m : ℕ) (q : ℤ) → le_k l p m q ≡ true → (l < m) ⊎ ((l ≡ m) × (le_z p q ≡ true))
yes_le_k l p m q e = go (ltb l m) refl (eqb l m) refl
  where
    go : (a : Bool) → ltb l m ≡ a → (b : Bool) → eqb l m ≡ b → (l < m) ⊎ ((l ≡ m) × (le_z p q ≡ true))
    go true u b v = inl (ltb-true l m u)
    go false u true v = inr (eqb-true l m v, rw (u, v) at e)
    go false u false v = absurd (false≢true (rw (u, v) at e))

no_le_k : (l : ℕ) (p : ℤ) (m : ℕ) (q : ℤ) → le_k l p m q ≡ false → (m < l) ⊎ ((l ≡ m) × (le_z p q ≡ false))
no_le_k l p m q e = go (ltb l m) refl (eqb l m) refl
  where
    go : (a : Bool) → ltb l m ≡ a → (b : Bool) → eqb l m ≡ b → (m < l) ⊎ ((l ≡ m) × (le_z p q ≡ false))
    go true u b v = absurd (true≢false (rw u at e))
    go false u true v = inr (eqb-true l m v, rw (u, v) at e)
    go false u false v = inl (omega (arith, ltb-false l m u, eqb-false l m v))

pub lt_le_k : (l : ℕ) (p : ℤ) (m : ℕ) (q : ℤ) → l < m → le_k l p m q ≡ true
lt_le_k l p m q h = rw (lt-ltb l m h)

pub gt_le_k : (l : ℕ) (p : ℤ) (m : ℕ) (q : ℤ) → m < l → le_k l p m q ≡ false
gt_le_k l p m q h = rw (le-ltb l m (omega arith), ne_eqb l m (omega arith))

pub eq_le_k : (l : ℕ) (p : ℤ) (m : ℕ) (q : ℤ) → l ≡ m → le_k l p m q ≡ le_z p q
eq_le_k l p m q h = rw (le-ltb l m (omega arith), eq-eqb l m h)

-- a key
abbrev pub Key : Type 0
Key = ℕ × ℤ

abbrev pub le : Key → Key → Bool
le a b = le_k a.0 a.1 b.0 b.1

pub le_total : (a b : Key) → le a b ≡ false → le b a ≡ true
le_total a b e = go (no_le_k a.0 a.1 b.0 b.1 e)
  where
    go : (b.0 < a.0) ⊎ ((a.0 ≡ b.0) × (le_z a.1 b.1 ≡ false)) → le b a ≡ true
    go (inl h) = lt_le_k b.0 b.1 a.0 a.1 h
    go (inr h) = eq_le_k b.0 b.1 a.0 a.1 (sym h.0) ∙ total a.1 b.1 h.1

pub le_trans : (a b c : Key) → le a b ≡ true → le b c ≡ true → le a c ≡ true
le_trans a b c e f = go (yes_le_k a.0 a.1 b.0 b.1 e) (yes_le_k b.0 b.1 c.0 c.1 f)
  where
    go : (a.0 < b.0) ⊎ ((a.0 ≡ b.0) × (le_z a.1 b.1 ≡ true)) → (b.0 < c.0) ⊎ ((b.0 ≡ c.0) × (le_z b.1 c.1 ≡ true)) → le a c ≡ true
    go (inl h) (inl k) = lt_le_k a.0 a.1 c.0 c.1 (omega arith)
    go (inl h) (inr k) = lt_le_k a.0 a.1 c.0 c.1 (omega arith)
    go (inr h) (inl k) = lt_le_k a.0 a.1 c.0 c.1 (omega arith)
    go (inr h) (inr k) = eq_le_k a.0 a.1 c.0 c.1 (h.0 ∙ k.0) ∙ trans a.1 b.1 c.1 h.1 k.1

pub le_antisym : (a b : Key) → le a b ≡ true → le b a ≡ true → a ≡ b
le_antisym a b e f = go (yes_le_k a.0 a.1 b.0 b.1 e) (yes_le_k b.0 b.1 a.0 a.1 f)
  where
    go : (a.0 < b.0) ⊎ ((a.0 ≡ b.0) × (le_z a.1 b.1 ≡ true)) → (b.0 < a.0) ⊎ ((b.0 ≡ a.0) × (le_z b.1 a.1 ≡ true)) → a ≡ b
    go (inl h) (inl k) = let z : ⊥ = omega arith in absurd z
    go (inl h) (inr k) = let z : ⊥ = omega arith in absurd z
    go (inr h) (inl k) = let z : ⊥ = omega arith in absurd z
    go (inr h) (inr k) = λ i. (h.0 i, antisym a.1 b.1 h.1 k.1 i)
