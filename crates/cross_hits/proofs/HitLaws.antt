-- What one axis says beside two together, of one shape and of sixteen.
use mathlib.Core.Path.{◌≡◌, refl, sym, ap, ◌∙◌, subst}
use mathlib.Core.Bool.{Bool, true, false, cond, not, ◌&&◌, ◌||◌, true≢false, and-true, and-false, or-false}
use mathlib.Core.List.{List, [], ◌∷◌}
use mathlib.Core.Option.{Option, none, some}
use Prim.Native.Nat.{ℕ, zero, suc, ◌+◌, ◌-◌, ◌<◌, ◌≤◌, min, max}
use native.Mathlib.Omega.{arith}
use lib.Dec.{eqb, ltb}
use borrow.Author.Tests.{eqb-true, eqb-false, eq-eqb, ne_eqb, ltb-false, lt-ltb, le-ltb}
use lib.IntN.{ℤ}
use lib.ListN.{length, get_or}
use lib.Ieee.{Float, nan, lt, is_nan, binary64, of_bits}
use Rattle.word_bits.specs.Words.{bit, WithBit, Picked}
use Rattle.word_bits.proofs.Digits.{bit-none}
use Rattle.cross_ranks.specs.Ranks.{unrank}
use Rattle.cross_positions.specs.Positions.{distance, nearest_whole, in_range, position}
use Rattle.cross_quick.specs.Given.{given, is_there}
use Rattle.cross_quick.proofs.GivenLaws.{found_rank, given-number}
use Rattle.cross_cuts.specs.Cuts.{Cut, fault, cut}
use Rattle.cross_cuts.specs.Keys.{cut_of}
use Rattle.cross_cuts.specs.declared.Met.{Met}
use Rattle.cross_cuts.specs.declared.Met.TheVariants.{Never, Once, Twice}
use Rattle.std.proofs.Common.{Option as Opt, Some, None}
use Rattle.cross_shapes.specs.Shapes.{finite, is_zero, origin_on, component_on, face_cut, half_space_cut, axis_range}
use Rattle.cross_shapes.specs.declared.Probe.{Probe}
use Rattle.cross_shapes.proofs.FloatLaws.{zero_is}
use Rattle.cross_axis.specs.Axes.{Codes, range_at, Fillable, Filled, Beside}
use Rattle.cross_axis.specs.declared.Along.{Along}
use Rattle.cross_hits.specs.Hits.{Chosen, box_met, enters, leaves, level_at, slant_at, MetAt, Told, Crosses}
use Rattle.cross_hits.specs.declared.Alone.{Alone}

-- ---- one shape
module _ (alone : Alone) (w : Bool) (says : w ≡ is_zero alone.along.component) (ranks : List ℕ) (i r : ℕ) where
  pub enters_level : w ≡ true → r ≡ max 0 (get_or ranks (768 + i) 0) → r ≡ enters alone ranks i
  enters_level h e = e ∙ sym (rw (sym says ∙ h))

  pub enters_slant : w ≡ false → r ≡ max (get_or ranks (alone.start + i) 0) (get_or ranks (768 + i) 0) → r ≡ enters alone ranks i
  enters_slant h e = e ∙ sym (rw (sym says ∙ h))

  pub leaves_level : w ≡ true → r ≡ min 4294967295 (get_or ranks (768 + i) 0) → r ≡ leaves alone ranks i
  leaves_level h e = e ∙ sym (rw (sym says ∙ h))

  pub leaves_slant : w ≡ false → r ≡ min (get_or ranks (alone.start + i) 0) (get_or ranks (768 + i) 0) → r ≡ leaves alone ranks i
  leaves_slant h e = e ∙ sym (rw (sym says ∙ h))

pub slant_exit : (half l g a b : ℕ) → a ≡ l → b ≡ g → (not (eqb half 0) || ltb a b) ≡ (not (eqb half 0) || ltb l g)
slant_exit half l g a b e f = rw (e, f)

no_half : (half : ℕ) (t : Bool) → (not (eqb half 0) || t) ≡ false → (half ≡ 0) × (t ≡ false)
no_half half t h = by (eqb half 0) refl h
  where
    by : (s : Bool) → eqb half 0 ≡ s → (not s || t) ≡ false → (half ≡ 0) × (t ≡ false)
    by true e f = (eqb-true half 0 e, f)
    by false e f = absurd (true≢false f)

box_on : (half : ℕ) (t : Bool) → half ≡ 0 → (not (eqb half 0) || t) ≡ true → t ≡ true
box_on half t e h = rw (eq-eqb half 0 e) at h

-- ---- bits put on one after another, by what is answered of each
pub chosen_starts : {Gives : ℕ → Bool → Type 0} → Chosen Gives 0 0
chosen_starts = record { are = λ c h. absurd (omega arith); none = λ c h l. bit-none c }

pub chosen_on : {Gives : ℕ → Bool → Type 0} {n w : ℕ} {on : Bool} {r : ℕ} → n < 32 → Chosen Gives n w → Gives n on → WithBit w n on r → Chosen Gives (n + 1) r
chosen_on {Gives} {n} {w} {on} {r} inside before says put = record { are = λ c h. go c h (eqb c n) refl; none = λ c h l. past c h l }
  where
    go : (c : ℕ) → c < n + 1 → (t : Bool) → eqb c n ≡ t → Gives c (bit r c)
    go c h true q =
        let e : n ≡ c = sym (eqb-true c n q) in
        let b : on ≡ bit r c = sym (put.is c (omega arith) ∙ rw (q, ← e, before.none n (omega arith) inside, and-true on)) in
        subst (Gives c) b (subst (λ (i : ℕ). Gives i on) e says)
    go c h false q =
        let d : c ≡ n → ⊥ = eqb-false c n q in
        let l : c < n = omega (arith, d) in
        subst (Gives c) (sym (put.is c (omega arith) ∙ rw (q, and-false on, or-false (bit w c)))) (before.are c l)

    past : (c : ℕ) → n + 1 ≤ c → c < 32 → bit r c ≡ false
    past c h l =
        let d : c ≡ n → ⊥ = λ e. omega arith in
        put.is c l ∙ rw (ne_eqb c n d, and-false on, before.none c (omega arith) l)

pub chosen_ends : {Gives : ℕ → Bool → Type 0} {n w : ℕ} (all : ℕ) → n ≤ all → all ≤ n → Chosen Gives n w → Chosen Gives all w
chosen_ends {Gives} {n} {w} all h k at = let e : n ≡ all = omega arith in subst (λ (m : ℕ). Chosen Gives m w) e at

-- where each answer is this one
pub chosen_picked : {Gives : ℕ → Bool → Type 0} {n w : ℕ} (these : ℕ → Bool) → ((c : ℕ) (b : Bool) → Gives c b → b ≡ these c) → Chosen Gives n w → Picked these n w
chosen_picked these says at = record { are = λ c h. says c _ (at.are c h); none = at.none }

-- ---- a half-space
there_not : (o : Option ℤ) → is_there o ≡ false → o ≡ none
there_not none e = refl
there_not (some z) e = absurd (true≢false e)

module _ (face origin component : Float) (w : Bool) (says : w ≡ is_zero component) where
  pub face_level : w ≡ true → cut_of (Some (Never (lt origin face))) ≡ face_cut face origin component
  face_level e = sym (rw (sym says ∙ e))

  module _ (crossed : w ≡ false) (p : Float) (far : p ≡ distance face origin component) (good : Bool) (told : good ≡ given p) where
    pub face_once : good ≡ true → (rank : ℕ) → (given p ≡ true → some (unrank rank) ≡ nearest_whole p) → cut_of (Some (Once (lt (of_bits binary64 0) component) rank)) ≡ face_cut face origin component
    face_once e rank m =
        let at : position face origin component ≡ some (unrank rank) = ap (λ (x : Float). in_range (nearest_whole x)) (sym far) ∙ sym (found_rank p rank told e (m (sym told ∙ e))) in
        ap (λ (z : Float). cut (lt z component) (unrank rank ∷ [])) zero_is ∙ sym (rw (sym says ∙ crossed, at))

    pub face_number : good ≡ true → is_nan p ≡ false
    face_number e = given-number p (sym told ∙ e)

    pub face_nowhere : good ≡ false → cut_of None ≡ face_cut face origin component
    unfolding given
    face_nowhere e =
        let at : position face origin component ≡ none = ap (λ (x : Float). in_range (nearest_whole x)) (sym far) ∙ there_not (in_range (nearest_whole p)) (sym told ∙ e) in
        sym (rw (sym says ∙ crossed, at))

above_3 : (n : ℕ) → 0 < n → (n ≡ 1 → ⊥) → (n ≡ 2 → ⊥) → (n ≡ 3 → ⊥) → 2 < n - 1
above_3 zero h a b c = absurd (omega arith)
above_3 (suc zero) h a b c = absurd (a refl)
above_3 (suc (suc zero)) h a b c = absurd (b refl)
above_3 (suc (suc (suc zero))) h a b c = absurd (c refl)
above_3 (suc (suc (suc (suc n)))) h a b c = omega arith

module _ (probe : Probe) (half : ℕ) (face : Float) (w : Bool) (says : w ≡ finite face) where
  abbrev axis : ℕ
  axis = half - 1

  pub half_unsound : w ≡ false → cut_of None ≡ half_space_cut probe axis face
  unfolding half_space_cut
  half_unsound e = sym (ap (λ (b : Bool). cond (ltb 2 axis) fault (cond b (face_cut face (origin_on probe axis) (component_on probe axis)) fault)) (sym says ∙ e) ∙ by (ltb 2 axis))
    where
      by : (b : Bool) → cond b fault fault ≡ fault
      by true = refl
      by false = refl

  pub half_beyond : 0 < half → (half ≡ 1 → ⊥) → (half ≡ 2 → ⊥) → (half ≡ 3 → ⊥) → cut_of None ≡ half_space_cut probe axis face
  unfolding half_space_cut
  half_beyond h a b c = sym (rw (lt-ltb 2 axis (above_3 half h a b c)))

  module _ (good : w ≡ true) (m : Opt Met) where
    half_on : axis ≤ 2 → cut_of m ≡ face_cut face (origin_on probe axis) (component_on probe axis) → cut_of m ≡ half_space_cut probe axis face
    unfolding half_space_cut
    half_on h e = e ∙ sym (rw (le-ltb 2 axis h, sym says ∙ good))

    pub half_x : half ≡ 1 → cut_of m ≡ face_cut face probe.ox probe.dx → cut_of m ≡ half_space_cut probe axis face
    half_x a e = half_on (omega arith) (e ∙ sym (rw (eq-eqb axis 0 (omega arith))))

    pub half_y : half ≡ 2 → cut_of m ≡ face_cut face probe.oy probe.dy → cut_of m ≡ half_space_cut probe axis face
    half_y a e =
        let not-x : axis ≡ 0 → ⊥ = λ k. omega arith in
        half_on (omega arith) (e ∙ sym (rw (ne_eqb axis 0 not-x, eq-eqb axis 1 (omega arith))))

    pub half_z : half ≡ 3 → cut_of m ≡ face_cut face probe.oz probe.dz → cut_of m ≡ half_space_cut probe axis face
    half_z a e =
        let not-x : axis ≡ 0 → ⊥ = λ k. omega arith in
        let not-y : axis ≡ 1 → ⊥ = λ k. omega arith in
        half_on (omega arith) (e ∙ sym (rw (ne_eqb axis 0 not-x, ne_eqb axis 1 not-y)))

-- ---- what is met of one shape
module _ (probe : Probe) (cuts : List Cut) (alone : Alone) (halves : List ℕ) (lows : List Float) (lessers greaters : List ℕ) (i : ℕ) where
  module _ (box : get_or halves i 0 ≡ 0) (a b : ℕ) (ea : a ≡ enters alone lessers i) (eb : b ≡ leaves alone greaters i) (at : MetAt probe cuts alone halves lows lessers greaters i) where
    met : box_met a b ≡ get_or cuts i fault
    met = ap (λ (x : ℕ). box_met x b) ea ∙ ap (λ (y : ℕ). box_met (enters alone lessers i) y) eb ∙ sym (at.box box)

    pub met-twice : a < b → cut_of (Some (Twice a b)) ≡ get_or cuts i fault
    met-twice h = sym (rw (lt-ltb a b h)) ∙ met

    pub met_never : b ≤ a → cut_of (Some (Never false)) ≡ get_or cuts i fault
    met_never h = sym (rw (le-ltb a b h)) ∙ met

  pub met_half : (get_or halves i 0 ≡ 0 → ⊥) → (r : Opt Met) → cut_of r ≡ half_space_cut probe (get_or halves i 0 - 1) (get_or lows i nan) → MetAt probe cuts alone halves lows lessers greaters i → cut_of r ≡ get_or cuts i fault
  met_half other r meets at = meets ∙ sym (at.half other)

-- ---- what the third axis says of sixteen shapes
module _ {probe : Probe} {cuts : List Cut} {lows highs : List Float} {alone : Alone} {masks halves lessers₀ greaters₀ : List ℕ} (crosses : Crosses probe cuts lows highs alone masks halves lessers₀ greaters₀) (start : ℕ) where
  here : (c : ℕ) → c < min 16 (alone.shapes - start) → start + c < length cuts
  here c h = omega (arith, crosses.counted)

  module _ (level : is_zero alone.along.component ≡ true) (c : ℕ) (h : c < min 16 (alone.shapes - start)) (box : get_or halves (start + c) 0 ≡ 0) where
    abbrev between : Bool
    between = lt (get_or lows (alone.start + (start + c)) nan) alone.along.origin && lt alone.along.origin (get_or highs (alone.start + (start + c)) nan)

    level_free : between ≡ true → Codes (range_at lows highs alone.along (alone.start + (start + c))) 0 4294967295
    unfolding axis_range
    level_free b = rw (level, b) (refl, refl)

    level_missed : between ≡ false → Codes (range_at lows highs alone.along (alone.start + (start + c))) 0 0
    unfolding axis_range
    level_missed b = rw (level, b) (omega arith)

    passed_level : between ≡ false → get_or cuts (start + c) fault ≡ cut false []
    passed_level b =
        let l = get_or lessers₀ (768 + (start + c)) 0 in
        let g = get_or greaters₀ (768 + (start + c)) 0 in
        crosses.right (start + c) (here c h) box 0 0 (level_missed b) ∙ rw (le-ltb (max 0 l) (min 0 g) (omega arith))

    met_level : between ≡ true → get_or cuts (start + c) fault ≡ box_met (enters alone lessers₀ (start + c)) (leaves alone greaters₀ (start + c))
    met_level b = crosses.right (start + c) (here c h) box 0 4294967295 (level_free b) ∙ sym (rw level)

  pub told_level : (r : ℕ) → is_zero alone.along.component ≡ true → Picked (λ c. level_at alone halves lows highs (start + c)) 16 r
      → Told probe cuts alone halves lows lessers₀ greaters₀ start (min 16 (alone.shapes - start)) r
  told_level r level picked = record {
    off = λ c h e.
        let n = no_half (get_or halves (start + c) 0) _ (sym (picked.are c (omega arith)) ∙ e) in
        (n.0, passed_level level c h n.0 n.1);
    on = λ c h e. record {
      half = crosses.half (start + c) (here c h);
      box = λ z. met_level level c h z (box_on (get_or halves (start + c) 0) _ z (sym (picked.are c (omega arith)) ∙ e));
    };
  }

  module _ (slant : is_zero alone.along.component ≡ false) {lessers greaters : List ℕ} (size : ℕ) (e : size ≡ min 16 (alone.shapes - start))
      (filled : Filled lows highs (alone.start + start) (alone.start + start + size) alone.along lessers₀ greaters₀ lessers greaters) (near : start + 16 ≤ 256) where
    met_slant : (c : ℕ) → c < min 16 (alone.shapes - start) → get_or halves (start + c) 0 ≡ 0 → get_or cuts (start + c) fault ≡ box_met (enters alone lessers (start + c)) (leaves alone greaters (start + c))
    met_slant c h box =
        let i = start + c in
        let n = crosses.sized.inside in
        let a : alone.start + start ≤ alone.start + i = omega arith in
        let b : alone.start + i < alone.start + start + size = omega arith in
        let past : alone.start + start + size ≤ 768 + i = omega arith in
        crosses.right i (here c h) box (get_or lessers (alone.start + i) 0) (get_or greaters (alone.start + i) 0) (filled.said.right (alone.start + i) a b (crosses.sure i (here c h) box))
        ∙ rw (← filled.lessers_beside.above (768 + i) past, ← filled.greaters_beside.above (768 + i) past) (sym (rw slant))

    pub told_slant : (r : ℕ) → Picked (λ c. slant_at alone halves lessers greaters (start + c)) 16 r → Told probe cuts alone halves lows lessers greaters start (min 16 (alone.shapes - start)) r
    told_slant r picked = record {
      off = λ c h q.
          let n = no_half (get_or halves (start + c) 0) _ (sym (picked.are c (omega arith)) ∙ q) in
          let a = enters alone lessers (start + c) in
          let b = leaves alone greaters (start + c) in
          (n.0, met_slant c h n.0 ∙ rw (le-ltb a b (ltb-false a b n.1)));
      on = λ c h q. record { half = crosses.half (start + c) (here c h); box = met_slant c h };
    }

-- ---- a part of the axis that stands alone
pub fillable_part : {here : ℕ} {along : Along} {lows highs : List Float} {lessers greaters : List ℕ} (size n : ℕ) → size ≡ n → Fillable here (here + n) along lows highs lessers greaters → Fillable here (here + size) along lows highs lessers greaters
fillable_part {here} {along} {lows} {highs} {lessers} {greaters} size n e f = subst (λ (k : ℕ). Fillable here (here + k) along lows highs lessers greaters) (sym e) f

pub wider : (part start size : ℕ) {old new : List ℕ} → start + 16 ≤ 256 → size ≤ 16 → Beside (part + start) (part + start + size) old new → Beside part (part + 256) old new
wider part start size near few b = record { sized = b.sized; below = λ k h. b.below k (omega arith); above = λ k h. b.above k (omega arith) }

pub sixteen_most : (size n : ℕ) → size ≡ min 16 n → size ≤ 16
sixteen_most size n e = omega arith
