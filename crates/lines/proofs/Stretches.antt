-- Stretches of a total order, `lo` up to, not including, `hi`: rising lists with something between that cover the same places are equal.
use mathlib.Core.Path.{◌≡◌, refl, sym, ◌∙◌, subst}
use mathlib.Core.Bool.{Bool, true, false, not, ◌&&◌, ◌||◌, true≢false, false≢true}
use mathlib.Core.List.{List, [], ◌∷◌}

pub record Stretch (K : Type 0) : Type 0 where
  pub lo : K
  pub hi : K

module _ {K : Type 0} (le : K → K → Bool) where
  abbrev pub in_stretch : K → Stretch K → Bool
  in_stretch k w = le w.lo k && not (le w.hi k)

  unfoldable pub covered : K → List (Stretch K) → Bool
  covered k [] = false
  covered k (w ∷ ws) = in_stretch k w || covered k ws

  abbrev Then : Stretch K → List (Stretch K) → Type 0
  Then w [] = Unit {0}
  Then w (v ∷ vs) = le v.lo w.hi ≡ false

  abbrev pub Rises : List (Stretch K) → Type 0
  Rises [] = Unit {0}
  Rises (w ∷ ws) = (le w.hi w.lo ≡ false) × (Then w ws × Rises ws)

module _ {K : Type 0} (le : K → K → Bool)
    (total : (a b : K) → le a b ≡ false → le b a ≡ true)
    (trans : (a b c : K) → le a b ≡ true → le b c ≡ true → le a c ≡ true)
    (antisym : (a b : K) → le a b ≡ true → le b a ≡ true → a ≡ b) where
  self : (a : K) → le a a ≡ true
  self a = go (le a a) refl
    where
      go : (t : Bool) → le a a ≡ t → le a a ≡ true
      go true e = e
      go false e = total a a e

  -- a < c where a < b ≤ c, and where a ≤ b < c; a < b is `le b a ≡ false`
  lt_le : (a b c : K) → le b a ≡ false → le b c ≡ true → le c a ≡ false
  lt_le a b c e f = go (le c a) refl
    where
      go : (t : Bool) → le c a ≡ t → le c a ≡ false
      go true g = absurd (true≢false (sym (trans b c a f g) ∙ e))
      go false g = g

  le_lt : (a b c : K) → le a b ≡ true → le c b ≡ false → le c a ≡ false
  le_lt a b c e f = go (le c a) refl
    where
      go : (t : Bool) → le c a ≡ t → le c a ≡ false
      go true g = absurd (true≢false (sym (trans c a b g e) ∙ f))
      go false g = g

  -- nothing before the first
  before : (k : K) (w : Stretch K) (ws : List (Stretch K)) → Rises le (w ∷ ws) → le w.lo k ≡ false → covered le k (w ∷ ws) ≡ false
  unfolding covered
  before k w [] r h = rw h
  before k w (v ∷ vs) r h = rw h (before k v vs r.1.1 (le_lt k w.lo v.lo (total w.lo k h) (lt_le w.lo w.hi v.lo r.0 (total v.lo w.hi r.1.0))))

  -- nothing in the others up to the end of the first
  pub beyond : (k : K) (w : Stretch K) (ws : List (Stretch K)) → Rises le (w ∷ ws) → le k w.hi ≡ true → covered le k ws ≡ false
  unfolding covered
  beyond k w [] r h = refl
  beyond k w (v ∷ vs) r h = before k v vs r.1.1 (le_lt k w.hi v.lo h r.1.0)

  starts : (w : Stretch K) (ws : List (Stretch K)) → Rises le (w ∷ ws) → covered le w.lo (w ∷ ws) ≡ true
  unfolding covered
  starts w ws r = rw (self w.lo, r.0)

  pub unique : (vs ws : List (Stretch K)) → Rises le vs → Rises le ws → ((k : K) → covered le k vs ≡ covered le k ws) → vs ≡ ws
  unfolding covered
  unique [] [] r s h = refl
  unique [] (w ∷ ws) r s h = absurd (false≢true (h w.lo ∙ starts w ws s))
  unique (v ∷ vs) [] r s h = absurd (true≢false (sym (starts v vs r) ∙ h v.lo))
  unique (v ∷ vs) (w ∷ ws) r s h = joined (unique vs ws r.1.1 s.1.1 rest)
    where
      low : (a b : Stretch K) (cs ds : List (Stretch K)) → Rises le (a ∷ cs) → Rises le (b ∷ ds) → ((k : K) → covered le k (a ∷ cs) ≡ covered le k (b ∷ ds)) → le a.lo b.lo ≡ true
      low a b cs ds p q e = go (le a.lo b.lo) refl
        where
          go : (t : Bool) → le a.lo b.lo ≡ t → le a.lo b.lo ≡ true
          go true g = g
          go false g = absurd (false≢true (sym (before b.lo a cs p g) ∙ e b.lo ∙ starts b ds q))

      lows : v.lo ≡ w.lo
      lows = antisym v.lo w.lo (low v w vs ws r s h) (low w v ws vs s r (λ k. sym (h k)))

      high : (a b : Stretch K) (cs ds : List (Stretch K)) → a.lo ≡ b.lo → Rises le (a ∷ cs) → Rises le (b ∷ ds) → ((k : K) → covered le k (a ∷ cs) ≡ covered le k (b ∷ ds)) → le a.hi b.hi ≡ true
      high a b cs ds l p q e = go (le a.hi b.hi) refl
        where
          go : (t : Bool) → le a.hi b.hi ≡ t → le a.hi b.hi ≡ true
          go true g = g
          go false g =
              let one : covered le b.hi (a ∷ cs) ≡ true = rw (l, total b.hi b.lo q.0, g) in
              let two : covered le b.hi (b ∷ ds) ≡ false = rw (total b.hi b.lo q.0, self b.hi) (beyond b.hi b ds q (self b.hi)) in
              absurd (true≢false (sym one ∙ e b.hi ∙ two))

      highs : v.hi ≡ w.hi
      highs = antisym v.hi w.hi (high v w vs ws lows r s h) (high w v ws vs (sym lows) s r (λ k. sym (h k)))

      heads : v ≡ w
      heads = λ i. record { lo = lows i; hi = highs i }

      rest : (k : K) → covered le k vs ≡ covered le k ws
      rest k = go (le v.hi k) refl
        where
          go : (t : Bool) → le v.hi k ≡ t → covered le k vs ≡ covered le k ws
          go true g =
              let no : in_stretch le k v ≡ false = go2 (le v.lo k) in
              let no' : in_stretch le k w ≡ false = subst (λ (u : Stretch K). in_stretch le k u ≡ false) heads no in
              rw (no, no') at (h k)
            where
              go2 : (t : Bool) → (t && not (le v.hi k)) ≡ false
              go2 true = rw g
              go2 false = refl
          go false g = beyond k v vs r (total v.hi k g) ∙ sym (beyond k w ws s (total w.hi k (subst (λ (u : K). le u k ≡ false) highs g)))

      joined : vs ≡ ws → v ∷ vs ≡ w ∷ ws
      joined t = λ i. heads i ∷ t i
