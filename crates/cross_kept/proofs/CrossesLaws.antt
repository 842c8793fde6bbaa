-- The columns of the drawing, two axes of a line together and the third say what the line has of each shape.
use mathlib.Core.Path.{◌≡◌, refl, sym, ap, ◌∙◌, subst}
use mathlib.Core.Bool.{Bool, true, false, cond, not, ◌&&◌, ◌||◌, true≢false, and-eq-true_iff}
use mathlib.Core.List.{List, [], ◌∷◌}
use mathlib.Core.Logic.{◌≢◌}
use mathlib.Core.Option.{Option, none, some}
use Prim.Native.Nat.{ℕ, suc, ◌+◌, ◌-◌, ◌<◌, ◌≤◌, min, max}
use native.Mathlib.Nat.{zero-add}
use native.Mathlib.Omega.{arith}
use borrow.Author.Tests.{le-ltb, lt-ltb, ltb-false, leb-true, eqb-true, eq-eqb, ne_eqb}
use lib.Dec.{leb, ltb, eqb}
use lib.IntN.{ℤ, pos, negsuc}
use lib.Signed.{lt_z}
use lib.ListN.{get_or}
use lib.Ieee.{Float, nan, lt}
use Rattle.cross_ranks.specs.Ranks.{unrank}
use Rattle.cross_ranks.proofs.RankLaws.{unrank_lt}
use Rattle.cross_positions.specs.Positions.{allowed, in_range, nearest_whole, distance, position}
use Rattle.cross_cuts.specs.Cuts.{Cut, fault, cut}
use Rattle.cross_shapes.specs.Shapes.{finite, is_zero, lesser, greater, Range, wrong, missed, free, from, between, axis_range, meet, box_range, crossed_twice, good_pair, box_cut, half_space_cut}
use Rattle.cross_shapes.specs.declared.Probe.{Probe}
use Rattle.cross_shapes.proofs.BoxLaws.{lesser_rank, greater_rank}
use Rattle.cross_line.specs.Crossing.{all_three, good_probe}
use Rattle.cross_columns.specs.Columns.{cuts_in}
use Rattle.cross_columns.proofs.CutLaws.{cuts-length, cuts-at, box_pairs, none-at-fault}
use Rattle.cross_axis.specs.Axes.{Codes, range_at, Said}
use Rattle.cross_axis.specs.declared.Along.{Along}
use Rattle.cross_hits.specs.Hits.{box_met, Passed, Crosses}
use Rattle.cross_kept.specs.Keeping.{starts_at, first, second, along_of, Joined, remains, Pairs, Ranked, Over}
use Rattle.cross_kept.specs.declared.Axis.{Axis}
use Rattle.cross_kept.specs.declared.Axis.TheVariants.{X, Y, Z}
use Rattle.cross_kept.specs.declared.Kept.{Kept}
use Rattle.cross_kept.proofs.KeepLaws.{axis_near, low-on, high-on, finite-along}

abbrev max3 : ℕ → ℕ → ℕ → ℕ
max3 a b c = max (max a b) c

abbrev min3 : ℕ → ℕ → ℕ → ℕ
min3 a b c = min (min a b) c

-- ---- two axes together
codes-meet : (r s : Range) (l g m h : ℕ) → Codes r l g → Codes s m h → Codes (meet r s) (max l m) (min g h)
codes-meet wrong s l g m h c d = absurd c
codes-meet free wrong l g m h c d = absurd d
codes-meet free missed l g m h c d = omega arith
codes-meet free free l g m h c d = (omega (arith, c.0, d.0), omega (arith, c.1, d.1))
codes-meet free (from p q) l g m h c d =
    let e : max l m ≡ m = omega (arith, c.0) in
    let f : min g h ≡ h = omega (arith, c.1, d.1.1) in
    (ap unrank e ∙ d.0, (ap unrank f ∙ d.1.0, omega (arith, d.1.1)))
codes-meet missed wrong l g m h c d = absurd d
codes-meet missed missed l g m h c d = omega arith
codes-meet missed free l g m h c d = omega arith
codes-meet missed (from p q) l g m h c d = omega arith
codes-meet (from a b) wrong l g m h c d = absurd d
codes-meet (from a b) missed l g m h c d = omega arith
codes-meet (from a b) free l g m h c d =
    let e : max l m ≡ l = omega (arith, d.0) in
    let f : min g h ≡ g = omega (arith, d.1, c.1.1) in
    (ap unrank e ∙ c.0, (ap unrank f ∙ c.1.0, omega (arith, c.1.1)))
codes-meet (from a b) (from p q) l g m h c d = (
  greater_rank l m ∙ ap (λ (x : ℤ). greater x (unrank m)) c.0 ∙ ap (λ (y : ℤ). greater a y) d.0,
  (lesser_rank g h ∙ ap (λ (x : ℤ). lesser x (unrank h)) c.1.0 ∙ ap (λ (y : ℤ). lesser b y) d.1.0, omega (arith, c.1.1)),
)

-- ---- no position and no miss on all of three axes: none of them goes along the line
is_free : Range → Bool
is_free wrong = false
is_free missed = false
is_free free = true
is_free (from a b) = false

meet-free : (r s : Range) → is_free (meet r s) ≡ (is_free r && is_free s)
unfolding is_free
meet-free wrong s = refl
meet-free free s = refl
meet-free missed wrong = refl
meet-free missed missed = refl
meet-free missed free = refl
meet-free missed (from p q) = refl
meet-free (from a b) wrong = refl
meet-free (from a b) missed = refl
meet-free (from a b) free = refl
meet-free (from a b) (from p q) = refl

between-free : (p q : Option ℤ) → is_free (between p q) ≡ false
unfolding is_free
between-free none q = refl
between-free (some p) none = refl
between-free (some p) (some q) = refl

axis-free : (low high origin component : Float) → is_zero component ≡ false → is_free (axis_range low high origin component) ≡ false
unfolding axis_range
axis-free low high origin component z = rw z (between-free (position low origin component) (position high origin component))

any_false : (a b c x y z : Bool) → (a ≡ false → x ≡ false) → (b ≡ false → y ≡ false) → (c ≡ false → z ≡ false) → (a && (b && c)) ≡ false → ((x && y) && z) ≡ false
any_false false b c x y z f g h e = rw (f refl)
any_false true false c x y z f g h e = by x (g refl)
  where
    by : (x : Bool) → y ≡ false → ((x && y) && z) ≡ false
    by true k = rw k
    by false k = refl
any_false true true c x y z f g h e = by (x && y) (h e)
  where
    by : (w : Bool) → z ≡ false → (w && z) ≡ false
    by true k = k
    by false k = refl

-- ---- two crossings or none
twice : (r : Range) (l g : ℕ) → Codes r l g → is_free r ≡ false → crossed_twice r ≡ box_met l g
unfolding is_free
twice wrong l g c h = absurd c
twice missed l g c h = sym (rw (le-ltb l g c))
twice free l g c h = absurd (true≢false h)
twice (from a b) l g c h =
    ap (λ (x : ℤ). cond (lt_z x b) (cut false (x ∷ b ∷ [])) (cut false [])) (sym c.0) ∙ ap (λ (y : ℤ). cond (lt_z (unrank l) y) (cut false (unrank l ∷ y ∷ [])) (cut false [])) (sym c.1.0) ∙ rw (unrank_lt l g)

-- ---- one shape
still_not : (probe : Probe) → good_probe probe ≡ true → all_three is_zero probe.dx probe.dy probe.dz ≡ false
unfolding good_probe
still_not probe h = by (all_three finite probe.ox probe.oy probe.oz) (all_three finite probe.dx probe.dy probe.dz) (all_three is_zero probe.dx probe.dy probe.dz) h
  where
    by : (a b c : Bool) → (a && (b && not c)) ≡ true → c ≡ false
    by true true true e = absurd (true≢false (sym e))
    by true true false e = refl
    by true false c e = absurd (true≢false (sym e))
    by false b c e = absurd (true≢false (sym e))

module _ (probe : Probe) (good : good_probe probe ≡ true) (lx ly lz hx hy hz : Float) (ax bx ay by az bz : ℕ)
    (cx : Codes (axis_range lx hx probe.ox probe.dx) ax bx) (cy : Codes (axis_range ly hy probe.oy probe.dy) ay by) (cz : Codes (axis_range lz hz probe.oz probe.dz) az bz) where
  box_twice : crossed_twice (box_range probe lx ly lz hx hy hz) ≡ box_met (max3 ax ay az) (min3 bx by bz)
  unfolding box_range
  box_twice =
      let rx = axis_range lx hx probe.ox probe.dx in
      let ry = axis_range ly hy probe.oy probe.dy in
      let rz = axis_range lz hz probe.oz probe.dz in
      twice (meet (meet rx ry) rz) (max3 ax ay az) (min3 bx by bz)
      (codes-meet (meet rx ry) rz (max ax ay) (min bx by) az bz (codes-meet rx ry ax bx ay by cx cy) cz)
      (meet-free (meet rx ry) rz ∙ ap (λ (b : Bool). b && is_free rz) (meet-free rx ry)
      ∙ any_false (is_zero probe.dx) (is_zero probe.dy) (is_zero probe.dz) (is_free rx) (is_free ry) (is_free rz) (axis-free _ _ _ _) (axis-free _ _ _ _) (axis-free _ _ _ _) (still_not probe good))

  box_cut_lem : good_pair lx hx ≡ true → good_pair ly hy ≡ true → good_pair lz hz ≡ true → box_cut probe lx ly lz hx hy hz ≡ box_met (max3 ax ay az) (min3 bx by bz)
  unfolding box_cut
  box_cut_lem f g h = rw (f, g, h) box_twice

-- ---- a box that is not at fault has no position that may not be given
meet-wrong : (r : Range) → meet r wrong ≡ wrong
meet-wrong wrong = refl
meet-wrong missed = refl
meet-wrong free = refl
meet-wrong (from a b) = refl

left-right : (r s : Range) → meet r s ≢ wrong → r ≢ wrong
left-right r s n e = n (rw e refl)

right-right : (r s : Range) → meet r s ≢ wrong → s ≢ wrong
right-right r s n e = n (rw e (meet-wrong r))

module _ (probe : Probe) (lx ly lz hx hy hz : Float) where
  abbrev on_x : Range
  on_x = axis_range lx hx probe.ox probe.dx

  abbrev on_y : Range
  on_y = axis_range ly hy probe.oy probe.dy

  abbrev on_z : Range
  on_z = axis_range lz hz probe.oz probe.dz

  box_ranged : box_cut probe lx ly lz hx hy hz ≢ fault → box_range probe lx ly lz hx hy hz ≢ wrong
  unfolding box_cut
  box_ranged n e = n (by (good_pair lx hx && (good_pair ly hy && good_pair lz hz)) (ap crossed_twice e))
    where
      by : (t : Bool) → crossed_twice (box_range probe lx ly lz hx hy hz) ≡ fault → cond t (crossed_twice (box_range probe lx ly lz hx hy hz)) fault ≡ fault
      by true h = h
      by false h = refl

  Three_ranged : box_range probe lx ly lz hx hy hz ≢ wrong → (on_x ≢ wrong) × ((on_y ≢ wrong) × (on_z ≢ wrong))
  unfolding box_range
  Three_ranged n =
      let xy = left-right (meet on_x on_y) on_z n in
      (left-right on_x on_y xy, (right-right on_x on_y xy, right-right (meet on_x on_y) on_z n))

-- ---- ranks that code a range
ranked : (z : ℤ) → allowed z ≡ true → (m : ℕ) × ((unrank m ≡ z) × (m ≤ 4294967295))
ranked (pos n) h =
    let k : n ≤ 2147483646 = leb-true n 2147483646 h in
    let d : 2147483648 + n - 2147483648 ≡ n = omega arith in
    (2147483648 + n, (rw (le-ltb (2147483648 + n) 2147483648 (omega arith)) (ap pos d), omega arith))
ranked (negsuc n) h =
    let k : n ≤ 2147483646 = leb-true n 2147483646 ((and-eq-true_iff (leb n 2147483646) true).0 h).0 in
    let d : 2147483648 - suc (2147483648 - suc n) ≡ n = omega arith in
    (2147483648 - suc n, (rw (lt-ltb (2147483648 - suc n) 2147483648 (omega arith)) (ap negsuc d), omega arith))

position_ranked : (p : Option ℤ) → in_range p ≢ none → (m : ℕ) × ((some (unrank m) ≡ in_range p) × (m ≤ 4294967295))
position_ranked none n = absurd (n refl)
position_ranked (some z) n = by (allowed z) refl
  where
    by : (t : Bool) → allowed z ≡ t → (m : ℕ) × ((some (unrank m) ≡ cond (allowed z) (some z) none) × (m ≤ 4294967295))
    by true e =
        let m = ranked z e in
        (m.0, (rw e (ap some m.1.0), m.1.1))
    by false e = absurd (n (rw e refl))

is_some : Option ℤ → Bool
is_some none = false
is_some (some z) = true

both_found : (p q : Option ℤ) → between p q ≢ wrong → (p ≢ none) × (q ≢ none)
unfolding is_some
both_found none q n = absurd (n refl)
both_found (some a) none n = absurd (n refl)
both_found (some a) (some b) n = (λ e. true≢false (ap is_some e), λ e. true≢false (ap is_some e))

-- whatever may be given has ranks
both_coded : (x y : Option ℤ) (m n : ℕ) → some (unrank m) ≡ x → some (unrank n) ≡ y → m ≤ 4294967295 → n ≤ 4294967295 → Codes (between x y) (min m n) (max m n)
both_coded x y m n e f a b = rw (← e, ← f) (lesser_rank m n, (greater_rank m n, omega arith))

slant_coded : (p q : Option ℤ) → between (in_range p) (in_range q) ≢ wrong → (l : ℕ) × ((g : ℕ) × Codes (between (in_range p) (in_range q)) l g)
slant_coded p q w =
    let f = both_found (in_range p) (in_range q) w in
    let u = position_ranked p f.0 in
    let v = position_ranked q f.1 in
    (min u.0 v.0, (max u.0 v.0, both_coded (in_range p) (in_range q) u.0 v.0 u.1.0 v.1.0 u.1.1 v.1.1))

level_coded : (t : Bool) → (l : ℕ) × ((g : ℕ) × Codes (cond t free missed) l g)
level_coded true = (0, (4294967295, (refl, refl)))
level_coded false = (0, (0, omega arith))

coded : (low high origin component : Float) → axis_range low high origin component ≢ wrong → (l : ℕ) × ((g : ℕ) × Codes (axis_range low high origin component) l g)
unfolding axis_range
coded low high origin component = by (is_zero component)
  where
    by : (t : Bool) → cond t (cond (lt low origin && lt origin high) free missed) (between (position low origin component) (position high origin component)) ≢ wrong
        → (l : ℕ) × ((g : ℕ) × Codes (cond t (cond (lt low origin && lt origin high) free missed) (between (position low origin component) (position high origin component))) l g)
    by true n = level_coded (lt low origin && lt origin high)
    by false n = slant_coded (nearest_whole (distance low origin component)) (nearest_whole (distance high origin component)) n

no_rest : (half a b : ℕ) → (not (eqb half 0) || ltb a b) ≡ false → (half ≡ 0) × (b ≤ a)
no_rest half a b e = by (eqb half 0) refl e
  where
    by : (t : Bool) → eqb half 0 ≡ t → (not t || ltb a b) ≡ false → (half ≡ 0) × (b ≤ a)
    by true q f = (eqb-true half 0 q, ltb-false a b f)
    by false q f = absurd (true≢false f)

-- ---- one axis alone and two together are three
module _ {probe : Probe} {kept : Kept} {halves : List ℕ} {lows highs : List Float} {l g bytes keys : List ℕ} (over : Over probe kept halves lows highs l g bytes keys) where
  abbrev cuts : List Cut
  cuts = cuts_in probe kept.shapes lows highs halves

  abbrev held : Ranked kept halves lows highs l g
  held = over.follows.ranked

  pairs : Pairs kept halves lows highs l g
  pairs = held.pairs

  module _ (i : ℕ) (h : i < kept.shapes) where
    half_cut : get_or halves i 0 ≢ 0 → get_or cuts i fault ≡ half_space_cut probe (get_or halves i 0 - 1) (get_or lows i nan)
    half_cut n = cuts-at probe lows highs halves kept.shapes i h ∙ rw (ne_eqb (get_or halves i 0) 0 n)

    module _ (box : get_or halves i 0 ≡ 0) where
      abbrev whole : Cut
      whole = box_cut probe (get_or lows i nan) (get_or lows (256 + i) nan) (get_or lows (512 + i) nan) (get_or highs i nan) (get_or highs (256 + i) nan) (get_or highs (512 + i) nan)

      box_is : get_or cuts i fault ≡ whole
      box_is = cuts-at probe lows highs halves kept.shapes i h ∙ rw (eq-eqb (get_or halves i 0) 0 box)

      sound_box : whole ≢ fault
      sound_box e = none-at-fault 16 0 cuts over.lent.no_fault i (omega (arith, h, cuts-length probe lows highs halves kept.shapes)) (box_is ∙ e)

      ranged : (axis_range (get_or lows i nan) (get_or highs i nan) probe.ox probe.dx ≢ wrong)
          × ((axis_range (get_or lows (256 + i) nan) (get_or highs (256 + i) nan) probe.oy probe.dy ≢ wrong) × (axis_range (get_or lows (512 + i) nan) (get_or highs (512 + i) nan) probe.oz probe.dz ≢ wrong))
      ranged =
          Three_ranged probe (get_or lows i nan) (get_or lows (256 + i) nan) (get_or lows (512 + i) nan) (get_or highs i nan) (get_or highs (256 + i) nan) (get_or highs (512 + i) nan)
          (box_ranged probe (get_or lows i nan) (get_or lows (256 + i) nan) (get_or lows (512 + i) nan) (get_or highs i nan) (get_or highs (256 + i) nan) (get_or highs (512 + i) nan) sound_box)

      sure_x : range_at lows highs (along_of probe X) (0 + i) ≢ wrong
      sure_x = rw (zero-add i) ranged.0

      sure_y : range_at lows highs (along_of probe Y) (256 + i) ≢ wrong
      sure_y = ranged.1.0

      sure_z : range_at lows highs (along_of probe Z) (512 + i) ≢ wrong
      sure_z = ranged.1.1

      module _ (ax bx ay by az bz : ℕ) (cx : Codes (range_at lows highs (along_of probe X) (0 + i)) ax bx) (cy : Codes (range_at lows highs (along_of probe Y) (256 + i)) ay by)
          (cz : Codes (range_at lows highs (along_of probe Z) (512 + i)) az bz) where
        Three_say : get_or cuts i fault ≡ box_met (max3 ax ay az) (min3 bx by bz)
        Three_say =
            let p = box_pairs probe (get_or lows i nan) (get_or lows (256 + i) nan) (get_or lows (512 + i) nan) (get_or highs i nan) (get_or highs (256 + i) nan) (get_or highs (512 + i) nan) sound_box in
            box_is
            ∙ box_cut_lem probe over.lent.good (get_or lows i nan) (get_or lows (256 + i) nan) (get_or lows (512 + i) nan) (get_or highs i nan) (get_or highs (256 + i) nan) (get_or highs (512 + i) nan) ax bx ay by az bz
            (rw (zero-add i) at cx) cy cz p.0 p.1.0 p.1.1

  says : (alone : Axis) (i : ℕ) → i < kept.shapes → get_or halves i 0 ≡ 0
      → Said lows highs (starts_at (first alone)) (starts_at (first alone) + kept.shapes) (along_of probe (first alone)) l g
      → Said lows highs (starts_at (second alone)) (starts_at (second alone) + kept.shapes) (along_of probe (second alone)) l g
      → Joined (starts_at (first alone)) (starts_at (second alone)) kept.shapes l g → (a b : ℕ) → Codes (range_at lows highs (along_of probe alone) (starts_at alone + i)) a b
      → get_or cuts i fault ≡ box_met (max a (get_or l (768 + i) 0)) (min b (get_or g (768 + i) 0))
  says X i h box one other joined a b c =
      let e : max3 a (get_or l (256 + i) 0) (get_or l (512 + i) 0) ≡ max a (get_or l (768 + i) 0) = omega (arith, joined.lesser i h) in
      let f : min3 b (get_or g (256 + i) 0) (get_or g (512 + i) 0) ≡ min b (get_or g (768 + i) 0) = omega (arith, joined.greater i h) in
      Three_say i h box a b (get_or l (256 + i) 0) (get_or g (256 + i) 0) (get_or l (512 + i) 0) (get_or g (512 + i) 0) c
      (one.right (256 + i) (omega arith) (omega arith) (sure_y i h box)) (other.right (512 + i) (omega arith) (omega arith) (sure_z i h box))
      ∙ rw (e, f)
  says Y i h box one other joined a b c =
      let e : max3 (get_or l (0 + i) 0) a (get_or l (512 + i) 0) ≡ max a (get_or l (768 + i) 0) = omega (arith, joined.lesser i h) in
      let f : min3 (get_or g (0 + i) 0) b (get_or g (512 + i) 0) ≡ min b (get_or g (768 + i) 0) = omega (arith, joined.greater i h) in
      Three_say i h box (get_or l (0 + i) 0) (get_or g (0 + i) 0) a b (get_or l (512 + i) 0) (get_or g (512 + i) 0)
      (one.right (0 + i) (omega arith) (omega arith) (sure_x i h box)) c (other.right (512 + i) (omega arith) (omega arith) (sure_z i h box))
      ∙ rw (e, f)
  says Z i h box one other joined a b c =
      let e : max3 (get_or l (0 + i) 0) (get_or l (256 + i) 0) a ≡ max a (get_or l (768 + i) 0) = omega (arith, joined.lesser i h) in
      let f : min3 (get_or g (0 + i) 0) (get_or g (256 + i) 0) b ≡ min b (get_or g (768 + i) 0) = omega (arith, joined.greater i h) in
      Three_say i h box (get_or l (0 + i) 0) (get_or g (0 + i) 0) (get_or l (256 + i) 0) (get_or g (256 + i) 0) a b
      (one.right (0 + i) (omega arith) (omega arith) (sure_x i h box)) (other.right (256 + i) (omega arith) (omega arith) (sure_y i h box)) c
      ∙ rw (e, f)

  sure : (alone : Axis) (i : ℕ) → i < kept.shapes → get_or halves i 0 ≡ 0 → range_at lows highs (along_of probe alone) (starts_at alone + i) ≢ wrong
  sure X i h box = sure_x i h box
  sure Y i h box = sure_y i h box
  sure Z i h box = sure_z i h box

  Three : (i : ℕ) → i < kept.shapes → get_or halves i 0 ≡ 0 → (a b : ℕ) → Codes (range_at lows highs (along_of probe kept.alone) (starts_at kept.alone + i)) a b
      → get_or cuts i fault ≡ box_met (max a (get_or l (768 + i) 0)) (min b (get_or g (768 + i) 0))
  Three i h box =
      says kept.alone i h box
      (subst (λ (a : Along). Said lows highs (starts_at (first kept.alone)) (starts_at (first kept.alone) + kept.shapes) a l g) over.follows.one pairs.said_one)
      (subst (λ (a : Along). Said lows highs (starts_at (second kept.alone)) (starts_at (second kept.alone) + kept.shapes) a l g) over.follows.other pairs.said_other)
      pairs.joined

  -- a shape that does not remain
  passes : (i : ℕ) → i < kept.shapes → remains halves l g i ≡ false → Passed cuts halves i
  passes i h e =
      let n = no_rest (get_or halves i 0) (get_or l (768 + i) 0) (get_or g (768 + i) 0) e in
      let along = along_of probe kept.alone in
      let c = coded (get_or lows (starts_at kept.alone + i) nan) (get_or highs (starts_at kept.alone + i) nan) along.origin along.component (sure kept.alone i h n.0) in
      let empty : min c.1.0 (get_or g (768 + i) 0) ≤ max c.0 (get_or l (768 + i) 0) = omega (arith, n.1) in
      (n.0, Three i h n.0 c.0 c.1.0 c.1.1 ∙ rw (le-ltb (max c.0 (get_or l (768 + i) 0)) (min c.1.0 (get_or g (768 + i) 0)) empty))

  pub over_crosses : (start : ℕ) → start ≡ starts_at kept.alone → (a : Along) → a ≡ along_of probe kept.alone → Crosses probe cuts lows highs (record { start = start; along = a; shapes = kept.shapes; left = kept.left }) kept.masks halves l g
  over_crosses start es a e =
      rw es (let n = cuts-length probe lows highs halves kept.shapes in
      record {
        few = omega (arith, n, held.few);
        counted = sym n;
        masks_length = pairs.leaves.long;
        ranks = held.sized;
        sized = record { inside = axis_near kept.alone; halves_length = held.halves_length; lessers_length = held.sized.lessers_length; greaters_length = held.sized.greaters_length };
        numbers = finite-along probe over.lent.good a kept.alone e;
        low = λ i h. low-on over.lent.faces kept.alone i (omega arith);
        high = λ i h. high-on over.lent.faces kept.alone i (omega arith);
        half = λ i h. half_cut i (omega arith);
        sure = λ i h box. rw e (sure kept.alone i (omega arith) box);
        right = λ i h box u v codes. Three i (omega arith) box u v (rw e at codes);
        passed = λ i h off. passes i (omega arith) (sym (pairs.leaves.over i (omega arith)) ∙ off);
        over = λ i h off. passes i (omega arith) (pairs.leaves.none i (omega arith) off);
      })
