-- The codes of a formula, gone through one by one, tell the operation over each operand and where the leaves stand.
use Prim.Native.Nat.{ℕ, suc, ◌+◌, ◌-◌, ◌≤◌, ◌<◌}
use native.Mathlib.Numerals.{add-one}
use native.Mathlib.Omega.{arith}
use mathlib.Core.Path.{◌≡◌, refl, sym, ap, ◌∙◌}
use mathlib.Core.List.{List, [], ◌∷◌, foldl, foldl-append}
use borrow.Author.Tests.{lt-ltb}
use lib.ListN.{length, get_or, set, take, replicate, length-set, length-replicate}
use lib.Seq.{take-suc, take_all, get_or-set_same, get_or-set_other}
use Rattle.formula.specs.Formula.{Op, union, intersection, difference, exclusive, code, Formula, leaf, node, leaves, postfix, Over}
use Rattle.edits.specs.Edits.{size}
use Rattle.edits.specs.Spots.{own, Ups, LeafSpots}
use Rattle.edits.proofs.Codes.{length-postfix}
use Rattle.edit_places.specs.Standing.{Scan, leaf_met, operation_met, met, view, zeros, begin, Scanned, ScanDone}

-- ---- positions
own-size : (f : Formula) (p : ℕ) → suc (own p f) ≡ p + size f
own-size (leaf s) p = omega arith
own-size (node o l r) p = omega arith

size_pos : (f : Formula) → 1 ≤ size f
size_pos (leaf s) = omega arith
size_pos (node o l r) = omega arith

leaves-size : (f : Formula) → leaves f ≤ size f
leaves-size (leaf s) = omega arith
leaves-size (node o l r) = omega (arith, leaves-size l, leaves-size r)

-- what is said of a formula is read from its own positions and its own leaves alone
module _ (xs ys : List ℕ) where
  ups_agree : (f : Formula) (p : ℕ) → ((i : ℕ) → p ≤ i → i < own p f → get_or ys i 0 ≡ get_or xs i 0) → Ups xs p f → Ups ys p f
  ups_agree (leaf s) p h u = tt
  ups_agree (node o l r) p h u =
      let a = own-size l p in
      let b = own-size r (p + size l) in
      let c = size_pos l in
      let d = size_pos r in (
        h (own p l) (omega arith) (omega arith) ∙ u.0,
        h (own (p + size l) r) (omega arith) (omega arith) ∙ u.1,
        ups_agree l p (λ i g k. h i g (omega arith)) u.2,
        ups_agree r (p + size l) (λ i g k. h i (omega arith) (omega arith)) u.3,
      )

  pub leaves-agree : (f : Formula) (p n : ℕ) → ((i : ℕ) → n ≤ i → i < n + leaves f → get_or ys i 0 ≡ get_or xs i 0) → LeafSpots xs p n f → LeafSpots ys p n f
  leaves-agree (leaf s) p n h u = h n (omega arith) (omega arith) ∙ u
  leaves-agree (node o l r) p n h u = (
    leaves-agree l p n (λ i g k. h i g (omega arith)) u.0,
    leaves-agree r (p + size l) (n + leaves l) (λ i g k. h i (omega arith) (omega arith)) u.1,
  )

-- ---- a formula gone through, from state σ to state τ
record Ran (f : Formula) (σ τ : Scan) : Type 0 where
  at_is : τ.at ≡ σ.at + size f
  next_is : τ.next ≡ σ.next + leaves f
  starts_long : length τ.starts ≡ length σ.starts
  ups_long : length τ.ups ≡ length σ.ups
  spots_long : length τ.spots ≡ length σ.spots
  begins : get_or τ.starts (own σ.at f) 0 ≡ σ.at
  starts_kept : (i : ℕ) → i < σ.at → get_or τ.starts i 0 ≡ get_or σ.starts i 0
  over : Ups τ.ups σ.at f
  below_kept : (i : ℕ) → i < σ.at → get_or τ.ups i 0 ≡ get_or σ.ups i 0
  above_kept : (i : ℕ) → own σ.at f ≤ i → get_or τ.ups i 0 ≡ get_or σ.ups i 0
  at_leaves : LeafSpots τ.spots σ.at σ.next f
  spots_kept : (i : ℕ) → i < σ.next → get_or τ.spots i 0 ≡ get_or σ.spots i 0

-- there is room for it
record Fits (f : Formula) (σ : Scan) : Type 0 where
  starts_room : σ.at + size f ≤ length σ.starts
  ups_room : σ.at + size f ≤ length σ.ups
  spots_room : σ.next + leaves f ≤ length σ.spots

ran_leaf : (s : ℕ) (σ : Scan) → Fits (leaf s) σ → Ran (leaf s) σ (leaf_met σ)
ran_leaf s σ h =
    record {
      at_is = refl;
      next_is = refl;
      starts_long = length-set σ.starts σ.at σ.at;
      ups_long = refl;
      spots_long = length-set σ.spots σ.next σ.at;
      begins = get_or-set_same σ.starts σ.at σ.at 0 (omega (arith, h.starts_room));
      starts_kept = λ i l. get_or-set_other σ.starts σ.at i σ.at 0 (λ e. omega arith);
      over = tt;
      below_kept = λ i l. refl;
      above_kept = λ i l. refl;
      at_leaves = get_or-set_same σ.spots σ.next σ.at 0 (omega (arith, h.spots_room));
      spots_kept = λ i l. get_or-set_other σ.spots σ.next i σ.at 0 (λ e. omega arith);
    }

-- two operands gone through, and then their operation
module _ (o : Op) (l r : Formula) (σ α β : Scan) (h : Fits (node o l r) σ) (a : Ran l σ α) (b : Ran r α β) where
  abbrev x : ℕ
  x = own σ.at l

  abbrev y : ℕ
  y = own (σ.at + size l) r

  at_own : β.at ≡ σ.at + (size l + size r)
  at_own = omega (arith, a.at_is, b.at_is)

  right_is : β.at - 1 ≡ y
  right_is = omega (arith, a.at_is, b.at_is, own-size r (σ.at + size l))

  right-own : own α.at r ≡ y
  right-own = ap (λ k. own k r) a.at_is

  left_is : get_or β.starts (β.at - 1) 0 - 1 ≡ x
  left_is =
      let e : get_or β.starts (β.at - 1) 0 ≡ α.at = ap (λ k. get_or β.starts k 0) (right_is ∙ sym right-own) ∙ b.begins in
      omega (arith, e, a.at_is, own-size l σ.at)

  start_is : get_or β.starts x 0 ≡ σ.at
  start_is = b.starts_kept x (omega (arith, a.at_is, own-size l σ.at)) ∙ a.begins

  abbrev us : List ℕ
  us = set (set β.ups y β.at) x β.at

  abbrev τ : Scan
  τ = record { starts = set β.starts β.at σ.at; ups = us; spots = β.spots; next = β.next; at = β.at + 1 }

  τ-is : operation_met β ≡ τ
  τ-is = rw (left_is, right_is, start_is)

  apart : x < y
  apart = omega (arith, own-size l σ.at, own-size r (σ.at + size l), size_pos r)

  long : length β.ups ≡ length σ.ups
  long = b.ups_long ∙ a.ups_long

  over-left : get_or us x 0 ≡ β.at
  over-left = get_or-set_same (set β.ups y β.at) x β.at 0 (omega (arith, length-set β.ups y β.at, long, h.ups_room, own-size l σ.at))

  over-right : get_or us y 0 ≡ β.at
  over-right =
      get_or-set_other (set β.ups y β.at) x y β.at 0 (λ e. omega (arith, apart))
      ∙ get_or-set_same β.ups y β.at 0 (omega (arith, long, h.ups_room, own-size r (σ.at + size l)))

  others : (i : ℕ) → (i ≡ x → ⊥) → (i ≡ y → ⊥) → get_or us i 0 ≡ get_or β.ups i 0
  others i n k = get_or-set_other (set β.ups y β.at) x i β.at 0 n ∙ get_or-set_other β.ups y i β.at 0 k

  sl : suc x ≡ σ.at + size l
  sl = own-size l σ.at

  sr : suc y ≡ σ.at + size l + size r
  sr = own-size r (σ.at + size l)

  kept-left : (i : ℕ) → σ.at ≤ i → i < x → get_or us i 0 ≡ get_or α.ups i 0
  kept-left i g k = others i (λ e. omega arith) (λ e. omega (arith, apart)) ∙ b.below_kept i (omega (arith, a.at_is, sl))

  kept-right : (i : ℕ) → σ.at + size l ≤ i → i < y → get_or us i 0 ≡ get_or β.ups i 0
  kept-right i g k = others i (λ e. omega (arith, sl)) (λ e. omega arith)

  ran_all : Ran (node o l r) σ τ
  ran_all =
      record {
        at_is = omega (arith, at_own);
        next_is = omega (arith, a.next_is, b.next_is);
        starts_long = length-set β.starts β.at σ.at ∙ b.starts_long ∙ a.starts_long;
        ups_long = length-set (set β.ups y β.at) x β.at ∙ length-set β.ups y β.at ∙ long;
        spots_long = b.spots_long ∙ a.spots_long;
        begins =
            ap (λ k. get_or (set β.starts β.at σ.at) k 0) (sym at_own)
            ∙ get_or-set_same β.starts β.at σ.at 0 (omega (arith, at_own, b.starts_long, a.starts_long, h.starts_room));
        starts_kept = λ i k.
            get_or-set_other β.starts β.at i σ.at 0 (λ e. omega (arith, at_own))
            ∙ b.starts_kept i (omega (arith, a.at_is)) ∙ a.starts_kept i k;
        over = (
          over-left ∙ at_own,
          over-right ∙ at_own,
          ups_agree α.ups us l σ.at kept-left a.over,
          ups_agree β.ups us r (σ.at + size l) kept-right (rw a.at_is at b.over),
        );
        below_kept = λ i k.
            others i (λ e. omega (arith, sl, size_pos l)) (λ e. omega (arith, sr, size_pos r)) ∙ b.below_kept i (omega (arith, a.at_is)) ∙ a.below_kept i k;
        above_kept = λ i k.
            others i (λ e. omega (arith, sl, size_pos r)) (λ e. omega (arith, sr)) ∙ b.above_kept i (omega (arith, right-own, sr)) ∙ a.above_kept i (omega (arith, sl));
        at_leaves = (
          leaves-agree α.spots β.spots l σ.at σ.next (λ i g k. b.spots_kept i (omega (arith, a.next_is))) a.at_leaves,
          (rw (a.at_is, a.next_is) at b.at_leaves),
        );
        spots_kept = λ i k. b.spots_kept i (omega (arith, a.next_is)) ∙ a.spots_kept i k;
      }

  ran_node : Ran (node o l r) σ (operation_met β)
  ran_node = rw τ-is ran_all

met-code : (o : Op) (σ : Scan) → met σ (code o) ≡ operation_met σ
met-code union σ = refl
met-code intersection σ = refl
met-code difference σ = refl
met-code exclusive σ = refl

fits-left : (o : Op) (l r : Formula) (σ : Scan) → Fits (node o l r) σ → Fits l σ
fits-left o l r σ h = record { starts_room = omega (arith, h.starts_room); ups_room = omega (arith, h.ups_room); spots_room = omega (arith, h.spots_room) }

fits-right : (o : Op) (l r : Formula) (σ α : Scan) → Fits (node o l r) σ → Ran l σ α → Fits r α
fits-right o l r σ α h a =
    record {
      starts_room = omega (arith, h.starts_room, a.at_is, a.starts_long);
      ups_room = omega (arith, h.ups_room, a.at_is, a.ups_long);
      spots_room = omega (arith, h.spots_room, a.next_is, a.spots_long);
    }

ran : (f : Formula) (σ : Scan) → Over 256 f → Fits f σ → Ran f σ (foldl met σ (postfix f))
ran (leaf s) σ v h = rw (lt-ltb s 65520 (omega arith)) (ran_leaf s σ h)
ran (node o l r) σ v h =
    let α = foldl met σ (postfix l) in
    let a = ran l σ v.0 (fits-left o l r σ h) in
    let β = foldl met α (postfix r) in
    let b = ran r α v.1 (fits-right o l r σ α h a) in
    rw (foldl-append, foldl-append, met-code o β) (ran_node o l r σ α β h a b)

length-zeros : length zeros ≡ 3072
unfolding zeros
length-zeros = length-replicate {A = ℕ} 3072 0

-- ---- the loop: the first j codes are met
module _ (codes : List ℕ) where
  pub record Scanning (j next : ℕ) (starts ups spots : List ℕ) : Type 0 where
    pub few : length codes < 2048
    pub within : j ≤ length codes
    pub low : next ≤ j
    pub so : view starts ups spots next j ≡ foldl met begin (take j codes)

  pub scanning_start : length codes < 2048 → Scanning 0 0 (replicate 3072 0) (replicate 3072 0) (replicate 3072 0)
  unfolding zeros
  scanning_start few = record { few = few; within = omega arith; low = omega arith; so = refl }

module _ {codes : List ℕ} {j next : ℕ} {starts ups spots : List ℕ} (u : Scanning codes j next starts ups spots) where
  pub next-below : j < length codes → next < 3072
  next-below h = omega (arith, u.low, u.few)

  pub scanning_more : {next' : ℕ} {starts' ups' spots' : List ℕ} → j < length codes → view starts' ups' spots' next' (j + 1) ≡ met (view starts ups spots next j) (get_or codes j 0) → next' ≤ next + 1
      → Scanning codes (j + 1) next' starts' ups' spots'
  scanning_more {next'} h is low =
      record {
        few = u.few;
        within = omega arith;
        low = omega (arith, u.low);
        so =
            is ∙ ap (λ (s : Scan). met s (get_or codes j 0)) u.so
            ∙ rw (add-one j, take-suc codes j 0 h) (sym (foldl-append met begin (take j codes) (get_or codes j 0 ∷ [])));
      }

  pub scanning_end : length codes ≤ j → ScanDone codes ups spots
  scanning_end h = record { so = scanned }
    where
      scanned : (f : Formula) → Over 256 f → codes ≡ postfix f → Scanned f ups spots
      scanned f v e =
          let few : size f ≤ 2047 = omega (arith, length-postfix f, ap length e, u.few) in
          let z = length-zeros in
          let w = ran f begin v (record { starts_room = omega arith; ups_room = omega arith; spots_room = omega (arith, leaves-size f) }) in
          let last : view starts ups spots next j ≡ foldl met begin (postfix f) = u.so ∙ ap (foldl met begin) (take_all j codes h ∙ e) in
          let got : Ran f begin (view starts ups spots next j) = rw last w in
          record { long = got.spots_long ∙ z; over = got.over; at_leaves = got.at_leaves }
