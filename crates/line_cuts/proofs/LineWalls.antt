-- The walls of the whole, line by line: those of the first part's lines, then those of the second's.
use Prim.Native.Nat.{ℕ, zero, suc, ◌+◌, ◌<◌, ◌≤◌}
use native.Mathlib.Omega.{arith}
use mathlib.Core.Path.{◌≡◌, refl, sym, ap, ◌∙◌}
use mathlib.Core.Bool.{Bool, true, false}
use mathlib.Core.List.{List, [], ◌∷◌, ◌++◌, map, append-nil, append_assoc, map-append}
use mathlib.Core.Option.{Option, none, some}
use borrow.Author.Tests.{ne_eqb}
use lib.IntN.{ℤ}
use lib.Signed.{lt_z, le_z}
use Rattle.formula.specs.States.{State, changed_by, flipped}
use Rattle.lines.specs.Lines.{Crossing, crossed, low, high, on_line, lowest_from, shape_at, Edge, edge_at, open_end, ends_group, opened, closed, walls_on, crossings_on, line_walls, walls_from}
use Rattle.lines.proofs.Crossings.{crossed_in, crossed_out, on_nil, on_in, on_out, crossed-on}
use Rattle.lines.proofs.LinesBy.{walls_on_nil, walls_on_cons}
use Rattle.line_cuts.specs.Cuts.{on_later}
use Rattle.line_cuts.proofs.Raised.{eqb_add, raise, Under}

-- ---- the crossings of a line

on-append : (l : ℕ) (xs ys : List Crossing) → crossings_on l (xs ++ ys) ≡ crossings_on l xs ++ crossings_on l ys
on-append l [] ys = rw (on_nil l)
on-append l (x ∷ xs) ys = by (on_line l x) refl (on-append l xs ys)
  where
    by : (a : Bool) → on_line l x ≡ a → crossings_on l (xs ++ ys) ≡ crossings_on l xs ++ crossings_on l ys → crossings_on l (x ∷ xs ++ ys) ≡ crossings_on l (x ∷ xs) ++ crossings_on l ys
    by true a ih = rw (on_in l x (xs ++ ys) a, on_in l x xs a, ih)
    by false a ih = rw (on_out l x (xs ++ ys) a, on_out l x xs a, ih)

-- none of the second part's is on a line of the first, nor the other way round
on_raised-none : (r l : ℕ) (ys : List Crossing) → l < r → crossings_on l (map (raise r) ys) ≡ []
on_raised-none r l [] h = on_nil l
on_raised-none r l (y ∷ ys) h = on_out l (raise r y) (map (raise r) ys) (ne_eqb (r + y.line) l (λ q. omega arith)) ∙ on_raised-none r l ys h

on_under-none : (r l : ℕ) (xs : List Crossing) → Under r xs → crossings_on (r + l) xs ≡ []
on_under-none r l [] u = on_nil (r + l)
on_under-none r l (x ∷ xs) u = let h : x.line < r = u.0 in on_out (r + l) x xs (ne_eqb x.line (r + l) (λ q. omega arith)) ∙ on_under-none r l xs u.1

on_raised : (r l : ℕ) (ys : List Crossing) → crossings_on (r + l) (map (raise r) ys) ≡ map (raise r) (crossings_on l ys)
on_raised r l [] = rw (on_nil (r + l), on_nil l)
on_raised r l (y ∷ ys) = by (on_line l y) refl (on_raised r l ys)
  where
    by : (a : Bool) → on_line l y ≡ a → crossings_on (r + l) (map (raise r) ys) ≡ map (raise r) (crossings_on l ys) → crossings_on (r + l) (map (raise r) (y ∷ ys)) ≡ map (raise r) (crossings_on l (y ∷ ys))
    by true a ih = rw (on_in (r + l) (raise r y) (map (raise r) ys) (eqb_add r y.line l ∙ a), on_in l y ys a, ih)
    by false a ih = rw (on_out (r + l) (raise r y) (map (raise r) ys) (eqb_add r y.line l ∙ a), on_out l y ys a, ih)

-- ---- the shape at a position, from the line's own crossings

shape_by : State → List Crossing → ℤ → ℕ
shape_by state xs p = lowest_from 256 0 (changed_by state (crossed (λ x. lt_z x.at p) xs)) (changed_by state (crossed (λ x. le_z x.at p) xs))

shape_by_lem : (start : ℕ → State) (xs : List Crossing) (l : ℕ) (p : ℤ) → shape_at start xs l p ≡ shape_by (start l) (crossings_on l xs) p
unfolding shape_at shape_by
shape_by_lem start xs l p = rw (crossed-on l (λ q. lt_z q p) xs, crossed-on l (λ q. le_z q p) xs)

crossed_raised : (r : ℕ) (test : ℤ → Bool) (xs : List Crossing) → crossed (λ x. test x.at) (map (raise r) xs) ≡ crossed (λ x. test x.at) xs
crossed_raised r test [] = refl
crossed_raised r test (x ∷ xs) = by (test x.at) refl (crossed_raised r test xs)
  where
    by : (a : Bool) → test x.at ≡ a → crossed (λ x. test x.at) (map (raise r) xs) ≡ crossed (λ x. test x.at) xs → crossed (λ x. test x.at) (map (raise r) (x ∷ xs)) ≡ crossed (λ x. test x.at) (x ∷ xs)
    by true a ih = crossed_in (λ x. test x.at) (raise r x) (map (raise r) xs) a ∙ ap (λ ss. x.shape ∷ ss) ih ∙ sym (crossed_in (λ x. test x.at) x xs a)
    by false a ih = crossed_out (λ x. test x.at) (raise r x) (map (raise r) xs) a ∙ ih ∙ sym (crossed_out (λ x. test x.at) x xs a)

shape_by_raised : (r : ℕ) (state : State) (xs : List Crossing) (p : ℤ) → shape_by state (map (raise r) xs) p ≡ shape_by state xs p
unfolding shape_by
shape_by_raised r state xs p = rw (crossed_raised r (λ q. lt_z q p) xs, crossed_raised r (λ q. le_z q p) xs)

-- ---- one line

module _ (solid : State → Bool) (shape shape' : ℕ → ℤ → ℕ) (l : ℕ) where
  walls-same : ((p : ℤ) → shape l p ≡ shape' l p) → (xs : List Crossing) (state : State) (from : Option Edge) → walls_on solid shape l state from xs ≡ walls_on solid shape' l state from xs
  walls-same e [] state from = walls_on_nil solid shape l state from ∙ sym (walls_on_nil solid shape' l state from)
  walls-same e (x ∷ xs) state from =
      let ends : Bool = ends_group x xs in
      let state' : State = flipped x.shape state in
      let here : Edge = edge_at shape' l x.at in
      walls_on_cons solid shape l state from x xs
      ∙ ap (λ (s : ℕ). closed ends (solid state') from l (record { at = x.at; shape = s }) ++ walls_on solid shape l state' (opened ends (solid state') from (record { at = x.at; shape = s })) xs) (e x.at)
      ∙ ap (λ ws. closed ends (solid state') from l here ++ ws) (walls-same e xs state' (opened ends (solid state') from here))
      ∙ sym (walls_on_cons solid shape' l state from x xs)

closed_raised : (r : ℕ) (ends metal : Bool) (from : Option Edge) (l : ℕ) (here : Edge) → closed ends metal from (r + l) here ≡ map (on_later r) (closed ends metal from l here)
closed_raised r false metal from l here = refl
closed_raised r true true from l here = refl
closed_raised r true false none l here = refl
closed_raised r true false (some a) l here = refl

ends_raised : (r : ℕ) (x : Crossing) (xs : List Crossing) → ends_group (raise r x) (map (raise r) xs) ≡ ends_group x xs
ends_raised r x [] = refl
ends_raised r x (y ∷ ys) = refl

module _ (solid : State → Bool) (shape shape' : ℕ → ℤ → ℕ) (r l : ℕ) where
  walls_raised : ((p : ℤ) → shape (r + l) p ≡ shape' l p) → (xs : List Crossing) (state : State) (from : Option Edge)
      → walls_on solid shape (r + l) state from (map (raise r) xs) ≡ map (on_later r) (walls_on solid shape' l state from xs)
  walls_raised e [] state from = walls_on_nil solid shape (r + l) state from ∙ closed_raised r true false from l (open_end high) ∙ ap (map (on_later r)) (sym (walls_on_nil solid shape' l state from))
  walls_raised e (x ∷ xs) state from =
      let ends : Bool = ends_group x xs in
      let state' : State = flipped x.shape state in
      let here : Edge = edge_at shape' l x.at in
      let from' : Option Edge = opened ends (solid state') from here in
      walls_on_cons solid shape (r + l) state from (raise r x) (map (raise r) xs)
      ∙ ap (λ (t : Bool). closed t (solid state') from (r + l) (edge_at shape (r + l) x.at) ++ walls_on solid shape (r + l) state' (opened t (solid state') from (edge_at shape (r + l) x.at)) (map (raise r) xs)) (ends_raised r x xs)
      ∙ ap (λ (s : ℕ). closed ends (solid state') from (r + l) (record { at = x.at; shape = s }) ++ walls_on solid shape (r + l) state' (opened ends (solid state') from (record { at = x.at; shape = s })) (map (raise r) xs)) (e x.at)
      ∙ ap (λ ws. ws ++ walls_on solid shape (r + l) state' from' (map (raise r) xs)) (closed_raised r ends (solid state') from l here)
      ∙ ap (λ ws. map (on_later r) (closed ends (solid state') from l here) ++ ws) (walls_raised e xs state' from')
      ∙ sym (map-append (on_later r) (closed ends (solid state') from l here) (walls_on solid shape' l state' from' xs))
      ∙ ap (map (on_later r)) (sym (walls_on_cons solid shape' l state from x xs))

-- ---- line after line

module _ (solid : State → Bool) (start : ℕ → State) (xs : List Crossing) where
  from-none : (l : ℕ) → walls_from solid start xs zero l ≡ []
  unfolding walls_from
  from-none l = refl

  from_more : (k l : ℕ) → walls_from solid start xs (suc k) l ≡ line_walls solid start xs l ++ walls_from solid start xs k (suc l)
  unfolding walls_from
  from_more k l = refl

  from_split : (j k l : ℕ) → walls_from solid start xs (j + k) l ≡ walls_from solid start xs j l ++ walls_from solid start xs k (j + l)
  from_split zero k l = let a : 0 + k ≡ k = omega arith in let b : 0 + l ≡ l = omega arith in rw (from-none l, a, b)
  from_split (suc j) k l =
      let a : suc j + k ≡ suc (j + k) = omega arith in
      let b : suc j + l ≡ j + suc l = omega arith in
      ap (λ (n : ℕ). walls_from solid start xs n l) a ∙ from_more (j + k) l
      ∙ ap (λ ws. line_walls solid start xs l ++ ws) (from_split j k (suc l))
      ∙ sym (append_assoc (line_walls solid start xs l) (walls_from solid start xs j (suc l)) (walls_from solid start xs k (j + suc l)))
      ∙ ap (λ ws. ws ++ walls_from solid start xs k (j + suc l)) (sym (from_more j l))
      ∙ ap (λ (n : ℕ). walls_from solid start xs (suc j) l ++ walls_from solid start xs k n) (sym b)

module _ (solid : State → Bool) (start startA startB : ℕ → State) (r : ℕ) (first : (l : ℕ) → l < r → start l ≡ startA l) (second : (l : ℕ) → start (r + l) ≡ startB l)
    (xs ys : List Crossing) (u : Under r xs) where
  abbrev all : List Crossing
  all = xs ++ map (raise r) ys

  on-first : (l : ℕ) → l < r → crossings_on l all ≡ crossings_on l xs
  on-first l h = on-append l xs (map (raise r) ys) ∙ ap (λ zs. crossings_on l xs ++ zs) (on_raised-none r l ys h) ∙ append-nil (crossings_on l xs)

  on-second : (l : ℕ) → crossings_on (r + l) all ≡ map (raise r) (crossings_on l ys)
  on-second l = on-append (r + l) xs (map (raise r) ys) ∙ ap (λ zs. zs ++ crossings_on (r + l) (map (raise r) ys)) (on_under-none r l xs u) ∙ on_raised r l ys

  shape-first : (l : ℕ) → l < r → (p : ℤ) → shape_at start all l p ≡ shape_at startA xs l p
  shape-first l h p = shape_by_lem start all l p ∙ rw (on-first l h, first l h) (sym (shape_by_lem startA xs l p))

  shape-second : (l : ℕ) (p : ℤ) → shape_at start all (r + l) p ≡ shape_at startB ys l p
  shape-second l p = shape_by_lem start all (r + l) p ∙ rw (on-second l, second l) (shape_by_raised r (startB l) (crossings_on l ys) p ∙ sym (shape_by_lem startB ys l p))

  abbrev opening : State → Option Edge
  opening state = opened true (solid state) none (open_end low)

  line_first : (l : ℕ) → l < r → line_walls solid start all l ≡ line_walls solid startA xs l
  line_first l h =
      ap (λ zs. walls_on solid (shape_at start all) l (start l) (opening (start l)) zs) (on-first l h)
      ∙ ap (λ (state : State). walls_on solid (shape_at start all) l state (opening state) (crossings_on l xs)) (first l h)
      ∙ walls-same solid (shape_at start all) (shape_at startA xs) l (shape-first l h) (crossings_on l xs) (startA l) (opening (startA l))

  line_second : (l : ℕ) → line_walls solid start all (r + l) ≡ map (on_later r) (line_walls solid startB ys l)
  line_second l =
      ap (λ zs. walls_on solid (shape_at start all) (r + l) (start (r + l)) (opening (start (r + l))) zs) (on-second l)
      ∙ ap (λ (state : State). walls_on solid (shape_at start all) (r + l) state (opening state) (map (raise r) (crossings_on l ys))) (second l)
      ∙ walls_raised solid (shape_at start all) (shape_at startB ys) r l (shape-second l) (crossings_on l ys) (startB l) (opening (startB l))

  from_first : (k l : ℕ) → l + k ≤ r → walls_from solid start all k l ≡ walls_from solid startA xs k l
  from_first zero l h = from-none solid start all l ∙ sym (from-none solid startA xs l)
  from_first (suc k) l h =
      let d : l < r = omega arith in
      from_more solid start all k l
      ∙ rw (line_first l d, from_first k (suc l) (omega arith)) (sym (from_more solid startA xs k l))

  from_second : (k l : ℕ) → walls_from solid start all k (r + l) ≡ map (on_later r) (walls_from solid startB ys k l)
  from_second zero l = from-none solid start all (r + l) ∙ ap (map (on_later r)) (sym (from-none solid startB ys l))
  from_second (suc k) l =
      let e : suc (r + l) ≡ r + suc l = omega arith in
      from_more solid start all k (r + l)
      ∙ ap (λ (n : ℕ). line_walls solid start all (r + l) ++ walls_from solid start all k n) e
      ∙ rw (line_second l, from_second k (suc l)) (sym (map-append (on_later r) (line_walls solid startB ys l) (walls_from solid startB ys k (suc l))))
      ∙ ap (map (on_later r)) (sym (from_more solid startB ys k l))

  pub from-together : (k : ℕ) → walls_from solid start all (r + k) 0 ≡ walls_from solid startA xs r 0 ++ map (on_later r) (walls_from solid startB ys k 0)
  from-together k =
      from_split solid start all r k 0
      ∙ ap (λ ws. ws ++ walls_from solid start all k (r + 0)) (from_first r 0 (omega arith))
      ∙ ap (λ ws. walls_from solid startA xs r 0 ++ ws) (from_second k 0)
