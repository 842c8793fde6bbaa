-- What is kept from line to line: which axis stands alone, two axes filled and put together, and the parts of the ranks that stay.
use mathlib.Core.Path.{◌≡◌, refl, sym, ap, ◌∙◌, subst}
use mathlib.Core.Bool.{Bool, true, false, not, ◌&&◌, ◌||◌, true≢false, and-eq-true_iff}
use mathlib.Core.List.{List}
use mathlib.Core.Logic.{◌≢◌}
use Prim.Native.Nat.{ℕ, ◌+◌, ◌-◌, ◌*◌, ◌/◌, ◌%◌, ◌<◌, ◌≤◌, min, max}
use native.Mathlib.Omega.{arith}
use lib.Dec.{eqb, ltb}
use borrow.Author.Tests.{eqb-true, eqb-false, eq-eqb, ne_eqb, ltb-true, ltb-false}
use lib.ListN.{length, get_or, set, length-set}
use lib.Seq.{get_or-set_same, get_or-set_other}
use lib.Ieee.{Float, nan}
use Rattle.word_bits.specs.Words.{bit, WithBit, Picked}
use Rattle.word_bits.proofs.Digits.{bit-none}
use Rattle.cross_shapes.specs.Shapes.{finite}
use Rattle.cross_shapes.specs.declared.Probe.{Probe}
use Rattle.cross_line.specs.Crossing.{good_probe}
use Rattle.cross_line.proofs.ProbeLaws.{origin_x, origin_y, origin_z, direction_x, direction_y, direction_z}
use Rattle.cross_columns.specs.Columns.{FiniteFaces}
use Rattle.cross_axis.specs.Axes.{Sized, FiniteAlong, Fillable, Said, Beside, Filled, SameNumbers}
use Rattle.cross_axis.specs.declared.Along.{Along}
use Rattle.cross_axis.proofs.AxisLaws.{beside-starts}
use Rattle.cross_kept.specs.Keeping.{starts_at, first, second, along_of, Serves, Joined, Paired, remains, Leaves, Ranked, CanPair, Follows}
use Rattle.cross_kept.specs.declared.Axis.{Axis}
use Rattle.cross_kept.specs.declared.Axis.TheVariants.{X, Y, Z}
use Rattle.cross_kept.specs.declared.Kept.{Kept}

-- ---- a line's numbers on an axis
along-finite : (probe : Probe) → good_probe probe ≡ true → (axis : Axis) → FiniteAlong (along_of probe axis)
along-finite probe good X = record { origin = origin_x probe good; component = direction_x probe good }
along-finite probe good Y = record { origin = origin_y probe good; component = direction_y probe good }
along-finite probe good Z = record { origin = origin_z probe good; component = direction_z probe good }

pub finite-along : (probe : Probe) → good_probe probe ≡ true → (a : Along) (axis : Axis) → a ≡ along_of probe axis → FiniteAlong a
finite-along probe good a axis e = rw e (along-finite probe good axis)

-- ---- what is kept serves another line
pub serves_is : (probe : Probe) (kept : Kept) (one other : Axis) → one ≡ first kept.alone → other ≡ second kept.alone → (a b : Along) → a ≡ along_of probe one → b ≡ along_of probe other → (p q : Bool)
    → SameNumbers kept.one a p → SameNumbers kept.other b q → Serves probe kept (p && q)
serves_is probe kept one other e f a b ea eb p q sp sq = record {
  one = λ h. sp.are (two h).0 ∙ (ea ∙ ap (along_of probe) e);
  other = λ h. sq.are (two h).1 ∙ (eb ∙ ap (along_of probe) f);
}
  where
    two : (p && q) ≡ true → (p ≡ true) × (q ≡ true)
    two h = (and-eq-true_iff p q).0 h

pub serves_follows : {probe : Probe} {kept : Kept} {shapes : ℕ} {halves : List ℕ} {lows highs : List Float} {lessers greaters : List ℕ} → (kept.shapes ≡ shapes) × Ranked kept halves lows highs lessers greaters
    → (r : Bool) → Serves probe kept r → r ≡ true → Follows probe shapes halves lows highs lessers greaters kept
serves_follows held r serves h = record { shapes_still = held.0; one = serves.one h; other = serves.other h; ranked = held.1 }

-- ---- two axes put together
pub record Pairing (one other i : ℕ) (old-lessers old-greaters lessers greaters : List ℕ) : Type 0 where
  pub lessers_beside : Beside 768 1024 old-lessers lessers
  pub greaters_beside : Beside 768 1024 old-greaters greaters
  pub lesser : (j : ℕ) → j < i → get_or lessers (768 + j) 0 ≡ max (get_or old-lessers (one + j) 0) (get_or old-lessers (other + j) 0)
  pub greater : (j : ℕ) → j < i → get_or greaters (768 + j) 0 ≡ min (get_or old-greaters (one + j) 0) (get_or old-greaters (other + j) 0)

pub pairing_starts : {one other : ℕ} {lessers greaters : List ℕ} → Pairing one other 0 lessers greaters lessers greaters
pairing_starts = record { lessers_beside = beside-starts; greaters_beside = beside-starts; lesser = λ j h. absurd (omega arith); greater = λ j h. absurd (omega arith) }

-- one list of ranks, with what is to stand at each
put_more : (value : ℕ → ℕ) (ranks : List ℕ) (i v : ℕ) → length ranks ≡ 1024 → i < 256 → v ≡ value i → ((j : ℕ) → j < i → get_or ranks (768 + j) 0 ≡ value j)
    → (j : ℕ) → j < i + 1 → get_or (set ranks (768 + i) v) (768 + j) 0 ≡ value j
put_more value ranks i v long inside e before j less = go (eqb j i) refl
  where
    go : (t : Bool) → eqb j i ≡ t → get_or (set ranks (768 + i) v) (768 + j) 0 ≡ value j
    go true q =
        let s : j ≡ i = eqb-true j i q in
        rw s (get_or-set_same ranks (768 + i) v 0 (omega arith) ∙ e)
    go false q =
        let n : j ≢ i = eqb-false j i q in
        let d : 768 + j ≢ 768 + i = λ t. n (omega arith) in
        get_or-set_other ranks (768 + i) (768 + j) v 0 d ∙ before j (omega arith)

beside_put : {old new : List ℕ} (i v : ℕ) → Beside 768 1024 old new → i < 256 → Beside 768 1024 old (set new (768 + i) v)
beside_put {old} {new} i v b h = record {
  sized = length-set new (768 + i) v ∙ b.sized;
  below = λ j l.
      let d : j ≢ 768 + i = λ e. omega arith in
      get_or-set_other new (768 + i) j v 0 d ∙ b.below j l;
  above = λ j l.
      let d : j ≢ 768 + i = λ e. omega arith in
      get_or-set_other new (768 + i) j v 0 d ∙ b.above j l;
}

module _ {one other shapes i : ℕ} {old-lessers old-greaters lessers greaters : List ℕ} (at : Pairing one other i old-lessers old-greaters lessers greaters) (near : one ≤ 512) (near' : other ≤ 512) (few : shapes ≤ 256)
    (long-lessers : length old-lessers ≡ 1024) (long-greaters : length old-greaters ≡ 1024) where
  pub pairing_on : (l g : ℕ) → i < shapes → l ≡ max (get_or lessers (one + i) 0) (get_or lessers (other + i) 0) → g ≡ min (get_or greaters (one + i) 0) (get_or greaters (other + i) 0)
      → Pairing one other (i + 1) old-lessers old-greaters (set lessers (768 + i) l) (set greaters (768 + i) g)
  pairing_on l g more el eg = record {
    lessers_beside = beside_put i l at.lessers_beside (omega arith);
    greaters_beside = beside_put i g at.greaters_beside (omega arith);
    lesser =
        put_more (λ (j : ℕ). max (get_or old-lessers (one + j) 0) (get_or old-lessers (other + j) 0)) lessers i l (at.lessers_beside.sized ∙ long-lessers) (omega arith)
        (el ∙ rw (at.lessers_beside.below (one + i) (omega arith), at.lessers_beside.below (other + i) (omega arith))) at.lesser;
    greater =
        put_more (λ (j : ℕ). min (get_or old-greaters (one + j) 0) (get_or old-greaters (other + j) 0)) greaters i g (at.greaters_beside.sized ∙ long-greaters) (omega arith)
        (eg ∙ rw (at.greaters_beside.below (one + i) (omega arith), at.greaters_beside.below (other + i) (omega arith))) at.greater;
  }

  pub pairing_ends : shapes ≤ i → Paired one other shapes old-lessers old-greaters lessers greaters
  pairing_ends h = record {
    lessers_beside = at.lessers_beside;
    greaters_beside = at.greaters_beside;
    joined = record {
      lesser = λ j k. at.lesser j (omega arith) ∙ sym (rw (at.lessers_beside.below (one + j) (omega arith), at.lessers_beside.below (other + j) (omega arith)));
      greater = λ j k. at.greater j (omega arith) ∙ sym (rw (at.greaters_beside.below (one + j) (omega arith), at.greaters_beside.below (other + j) (omega arith)));
    };
  }

-- ---- what remains
pub record Leaving (halves lessers greaters masks : List ℕ) (left b : ℕ) : Type 0 where
  pub long : length masks ≡ 16
  pub over : (i : ℕ) → i < 16 * b → bit (get_or masks (i / 16) 0) (i % 16) ≡ remains halves lessers greaters i
  pub none : (i : ℕ) → i < 16 * b → bit left (i / 16) ≡ false → remains halves lessers greaters i ≡ false
  pub high : (c : ℕ) → b ≤ c → c < 32 → bit left c ≡ false

module _ {halves lessers greaters : List ℕ} where
  pub leaving-starts : {masks : List ℕ} → length masks ≡ 16 → Leaving halves lessers greaters masks 0 0
  leaving-starts long = record { long = long; over = λ i h. absurd (omega arith); none = λ i h. absurd (omega arith); high = λ c h l. bit-none c }

  module _ {masks : List ℕ} {left b : ℕ} (at : Leaving halves lessers greaters masks left b) (inside : b < 16) (v : ℕ) (picked : Picked (λ c. remains halves lessers greaters (16 * b + c)) 16 v)
      {r : ℕ} (put : WithBit left b (not (eqb v 0)) r) where
    here : (i : ℕ) → 16 * b ≤ i → i < 16 * (b + 1) → (i / 16 ≡ b) × (remains halves lessers greaters i ≡ bit v (i % 16))
    here i h l =
        let q : i / 16 ≡ b = omega arith in
        let e : 16 * b + i % 16 ≡ i = omega arith in
        (q, sym (picked.are (i % 16) (omega arith) ∙ ap (λ (k : ℕ). remains halves lessers greaters k) e))

    over_now : (i : ℕ) → i < 16 * (b + 1) → (t : Bool) → ltb i (16 * b) ≡ t → bit (get_or (set masks b v) (i / 16) 0) (i % 16) ≡ remains halves lessers greaters i
    over_now i h true e =
        let l : i < 16 * b = ltb-true i (16 * b) e in
        let d : i / 16 ≢ b = λ q. omega arith in
        rw (get_or-set_other masks b (i / 16) v 0 d) (at.over i l)
    over_now i h false e =
        let l : 16 * b ≤ i = ltb-false i (16 * b) e in
        let n = here i l h in
        let m : b < length masks = omega (arith, at.long) in
        rw (n.0, get_or-set_same masks b v 0 m) (sym n.1)

    neither : (s t : Bool) → (s || t) ≡ false → (s ≡ false) × (t ≡ false)
    neither true t e = absurd (true≢false e)
    neither false t e = (refl, e)

    none_now : (i : ℕ) → i < 16 * (b + 1) → bit r (i / 16) ≡ false → (t : Bool) → ltb i (16 * b) ≡ t → remains halves lessers greaters i ≡ false
    none_now i h off true e =
        let l : i < 16 * b = ltb-true i (16 * b) e in
        at.none i l (neither (bit left (i / 16)) _ (sym (put.is (i / 16) (omega arith)) ∙ off)).0
    none_now i h off false e =
        let l : 16 * b ≤ i = ltb-false i (16 * b) e in
        let n = here i l h in
        n.1 ∙ zero_bit (eqb v 0) refl (sym (rw (n.0, eq-eqb b b refl)) ∙ (neither (bit left (i / 16)) _ (sym (put.is (i / 16) (omega arith)) ∙ off)).1)
      where
        zero_bit : (t : Bool) → eqb v 0 ≡ t → (not (eqb v 0) && true) ≡ false → bit v (i % 16) ≡ false
        zero_bit true q f = rw (eqb-true v 0 q) (bit-none (i % 16))
        zero_bit false q f = absurd (true≢false (sym (rw q) ∙ f))

    pub leaving-on : Leaving halves lessers greaters (set masks b v) r (b + 1)
    leaving-on = record {
      long = length-set masks b v ∙ at.long;
      over = λ i h. over_now i h (ltb i (16 * b)) refl;
      none = λ i h off. none_now i h off (ltb i (16 * b)) refl;
      high = λ c h l.
          let d : c ≢ b = λ e. omega arith in
          put.is c l ∙ rw (at.high c (omega arith) l, ne_eqb c b d) (and_none (not (eqb v 0)));
    }
      where
        and_none : (t : Bool) → (t && false) ≡ false
        and_none true = refl
        and_none false = refl

  pub leaving-ends : {masks : List ℕ} {left b : ℕ} (shapes r : ℕ) → shapes ≤ 16 * b → r ≡ left → Leaving halves lessers greaters masks left b → Leaves halves lessers greaters masks r shapes
  leaving-ends {masks} {left} {b} shapes r past e at = rw e (record { long = at.long; over = λ i h. at.over i (omega arith); none = λ i h off. at.none i (omega arith) off })

-- ---- a part that stays
record Stays (start : ℕ) (old new : List ℕ) : Type 0 where
  at : (k : ℕ) → start ≤ k → k < start + 256 → get_or new k 0 ≡ get_or old k 0

stays_below : {here there : ℕ} {old new : List ℕ} (part : ℕ) → Beside here there old new → part + 256 ≤ here → Stays part old new
stays_below {here} {there} part b h = record { at = λ k low less. b.below k (omega arith) }

stays_above : {here there : ℕ} {old new : List ℕ} (part : ℕ) → Beside here there old new → there ≤ part → Stays part old new
stays_above {here} {there} part b h = record { at = λ k low less. b.above k (omega arith) }

module _ {shapes : ℕ} (few : shapes ≤ 256) {l₀ g₀ l g : List ℕ} where
  said_stays : {lows highs : List Float} {start : ℕ} {along : Along} → Stays start l₀ l → Stays start g₀ g → Said lows highs start (start + shapes) along l₀ g₀ → Said lows highs start (start + shapes) along l g
  said_stays el eg s = record { right = λ k low less. rw (el.at k low (omega arith), eg.at k low (omega arith)) (s.right k low less) }

  joined_stays : (one other : ℕ) → Stays one l₀ l → Stays other l₀ l → Stays 768 l₀ l → Stays one g₀ g → Stays other g₀ g → Stays 768 g₀ g → Joined one other shapes l₀ g₀ → Joined one other shapes l g
  joined_stays one other lo la lt go ga gt t = record {
    lesser = λ i h. rw (lt.at (768 + i) (omega arith) (omega arith), lo.at (one + i) (omega arith) (omega arith), la.at (other + i) (omega arith) (omega arith)) (t.lesser i h);
    greater = λ i h. rw (gt.at (768 + i) (omega arith) (omega arith), go.at (one + i) (omega arith) (omega arith), ga.at (other + i) (omega arith) (omega arith)) (t.greater i h);
  }

-- what remains goes by what two axes say together
leaves_stay : {halves masks l₀ g₀ l g : List ℕ} {left shapes : ℕ} → shapes ≤ 256 → Stays 768 l₀ l → Stays 768 g₀ g → Leaves halves l₀ g₀ masks left shapes → Leaves halves l g masks left shapes
leaves_stay few lt gt v = record {
  long = v.long;
  over = λ i h. rw (lt.at (768 + i) (omega arith) (omega arith), gt.at (768 + i) (omega arith) (omega arith)) (v.over i h);
  none = λ i h off. rw (lt.at (768 + i) (omega arith) (omega arith), gt.at (768 + i) (omega arith) (omega arith)) (v.none i h off);
}

-- the axis that stands alone is beside the two others, and beside what they say together
record Apart (alone : Axis) (old new : List ℕ) : Type 0 where
  one : Stays (starts_at (first alone)) old new
  other : Stays (starts_at (second alone)) old new
  both : Stays 768 old new

apart : (alone : Axis) {old new : List ℕ} → Beside (starts_at alone) (starts_at alone + 256) old new → Apart alone old new
apart X b = record { one = stays_above 256 b (omega arith); other = stays_above 512 b (omega arith); both = stays_above 768 b (omega arith) }
apart Y b = record { one = stays_below 0 b (omega arith); other = stays_above 512 b (omega arith); both = stays_above 768 b (omega arith) }
apart Z b = record { one = stays_below 0 b (omega arith); other = stays_below 256 b (omega arith); both = stays_above 768 b (omega arith) }

still_sized : {lows highs : List Float} {l₀ g₀ l g : List ℕ} → Sized lows highs l₀ g₀ → length l ≡ length l₀ → length g ≡ length g₀ → Sized lows highs l g
still_sized s el eg = record { lows_length = s.lows_length; highs_length = s.highs_length; lessers_length = el ∙ s.lessers_length; greaters_length = eg ∙ s.greaters_length }

-- after the axis that stands alone was asked
pub ranked_beside : {kept : Kept} {halves : List ℕ} {lows highs : List Float} {l₀ g₀ l g : List ℕ} → Ranked kept halves lows highs l₀ g₀
    → Beside (starts_at kept.alone) (starts_at kept.alone + 256) l₀ l → Beside (starts_at kept.alone) (starts_at kept.alone + 256) g₀ g → Ranked kept halves lows highs l g
ranked_beside {kept} m bl bg =
    let al = apart kept.alone bl in
    let ag = apart kept.alone bg in
    record {
      few = m.few;
      halves_length = m.halves_length;
      sized = still_sized m.sized bl.sized bg.sized;
      numbers = m.numbers;
      pairs =
          let p = m.pairs in
          record {
            said_one = said_stays m.few al.one ag.one p.said_one;
            said_other = said_stays m.few al.other ag.other p.said_other;
            joined = joined_stays m.few (starts_at (first kept.alone)) (starts_at (second kept.alone)) al.one al.other al.both ag.one ag.other ag.both p.joined;
            leaves = leaves_stay m.few al.both ag.both p.leaves;
          };
    }

-- ---- two axes filled, one after the other, and put together
pub axis_near : (axis : Axis) → starts_at axis ≤ 512
axis_near X = omega arith
axis_near Y = omega arith
axis_near Z = omega arith

-- filling the second leaves the first as it is
first_stays : (alone : Axis) {there : ℕ} {old new : List ℕ} → Beside (starts_at (second alone)) there old new → Stays (starts_at (first alone)) old new
first_stays X b = stays_below 256 b (omega arith)
first_stays Y b = stays_below 0 b (omega arith)
first_stays Z b = stays_below 0 b (omega arith)

-- an axis of finite faces
pub low-on : {shapes : ℕ} {lows highs : List Float} → FiniteFaces shapes lows highs → (axis : Axis) (i : ℕ) → i < shapes → finite (get_or lows (starts_at axis + i) nan) ≡ true
low-on f X i h = let e : i ≡ 0 + i = omega arith in rw (← e) (f.low.x i h)
low-on f Y i h = f.low.y i h
low-on f Z i h = f.low.z i h

pub high-on : {shapes : ℕ} {lows highs : List Float} → FiniteFaces shapes lows highs → (axis : Axis) (i : ℕ) → i < shapes → finite (get_or highs (starts_at axis + i) nan) ≡ true
high-on f X i h = let e : i ≡ 0 + i = omega arith in rw (← e) (f.high.x i h)
high-on f Y i h = f.high.y i h
high-on f Z i h = f.high.z i h

fillable : (probe : Probe) {shapes : ℕ} {lows highs : List Float} {l g : List ℕ} → good_probe probe ≡ true → FiniteFaces shapes lows highs → shapes ≤ 256 → Sized lows highs l g → (axis : Axis)
    → Fillable (starts_at axis) (starts_at axis + shapes) (along_of probe axis) lows highs l g
fillable probe {shapes} {lows} {highs} good faces few sized axis = record {
  sized = sized;
  inside = omega (arith, axis_near axis);
  numbers = along-finite probe good axis;
  low = λ k h l.
      let e : starts_at axis + (k - starts_at axis) ≡ k = omega arith in
      subst (λ (i : ℕ). finite (get_or lows i nan) ≡ true) e (low-on faces axis (k - starts_at axis) (omega arith));
  high = λ k h l.
      let e : starts_at axis + (k - starts_at axis) ≡ k = omega arith in
      subst (λ (i : ℕ). finite (get_or highs i nan) ≡ true) e (high-on faces axis (k - starts_at axis) (omega arith));
}

module _ {probe : Probe} {shapes : ℕ} {halves : List ℕ} {lows highs : List Float} {l₀ g₀ : List ℕ} (can : CanPair probe shapes halves lows highs l₀ g₀) (alone : Axis) (one other : ℕ) (e : one ≡ starts_at (first alone)) (f : other ≡ starts_at (second alone))
    (a b : Along) (ea : a ≡ along_of probe (first alone)) (eb : b ≡ along_of probe (second alone)) where
  pub one_fillable : Fillable one (one + shapes) a lows highs l₀ g₀
  one_fillable = rw (ea, e) (fillable probe can.good can.faces can.few can.sized (first alone))

  pub one_near : one ≤ 512
  one_near = rw e (axis_near (first alone))

  pub other_near : other ≤ 512
  other_near = rw f (axis_near (second alone))

  module _ {l₁ g₁ : List ℕ} (filled : Filled lows highs one (one + shapes) a l₀ g₀ l₁ g₁) where
    sized_then : Sized lows highs l₁ g₁
    sized_then = still_sized can.sized filled.lessers_beside.sized filled.greaters_beside.sized

    pub other_fillable : Fillable other (other + shapes) b lows highs l₁ g₁
    other_fillable = rw (eb, f) (fillable probe can.good can.faces can.few sized_then (second alone))

    module _ {l₂ g₂ : List ℕ} (filled' : Filled lows highs other (other + shapes) b l₁ g₁ l₂ g₂) {l g : List ℕ} (paired : Paired one other shapes l₂ g₂ l g) where
      paired_sized : Sized lows highs l g
      paired_sized = still_sized (still_sized sized_then filled'.lessers_beside.sized filled'.greaters_beside.sized) paired.lessers_beside.sized paired.greaters_beside.sized

      -- what the first says stays when the second is filled, and what both say when they are put together
      said-first : Said lows highs (starts_at (first alone)) (starts_at (first alone) + shapes) a l g
      said-first =
          let near : starts_at (first alone) + 256 ≤ 768 = omega (arith, axis_near (first alone)) in
          let s : Said lows highs (starts_at (first alone)) (starts_at (first alone) + shapes) a l₁ g₁ = subst (λ (o : ℕ). Said lows highs o (o + shapes) a l₁ g₁) e filled.said in
          let bl = subst (λ (o : ℕ). Beside o (o + shapes) l₁ l₂) f filled'.lessers_beside in
          let bg = subst (λ (o : ℕ). Beside o (o + shapes) g₁ g₂) f filled'.greaters_beside in
          said_stays can.few (stays_below (starts_at (first alone)) paired.lessers_beside near) (stays_below (starts_at (first alone)) paired.greaters_beside near)
          (said_stays can.few (first_stays alone bl) (first_stays alone bg) s)

      said-second : Said lows highs (starts_at (second alone)) (starts_at (second alone) + shapes) b l g
      said-second =
          let near : starts_at (second alone) + 256 ≤ 768 = omega (arith, axis_near (second alone)) in
          let s : Said lows highs (starts_at (second alone)) (starts_at (second alone) + shapes) b l₂ g₂ = subst (λ (o : ℕ). Said lows highs o (o + shapes) b l₂ g₂) f filled'.said in
          said_stays can.few (stays_below (starts_at (second alone)) paired.lessers_beside near) (stays_below (starts_at (second alone)) paired.greaters_beside near) s

      pub pair_follows : (masks : List ℕ) (left : ℕ) → Leaves halves l g masks left shapes
          → Follows probe shapes halves lows highs l g (record { one = a; other = b; alone = alone; shapes = shapes; left = left; masks = masks })
      pair_follows masks left leaves = record {
        shapes_still = refl;
        one = ea;
        other = eb;
        ranked = record {
          few = can.few;
          halves_length = can.halves_length;
          sized = paired_sized;
          numbers = record { one = finite-along probe can.good a (first alone) ea; other = finite-along probe can.good b (second alone) eb };
          pairs = record {
            said_one = said-first;
            said_other = said-second;
            joined = subst (λ (o : ℕ). Joined (starts_at (first alone)) o shapes l g) f (subst (λ (o : ℕ). Joined o other shapes l g) e paired.joined);
            leaves = leaves;
          };
        };
      }
