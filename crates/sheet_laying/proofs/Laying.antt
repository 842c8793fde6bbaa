-- A formula laid from its end, one code at a time.
use Prim.Native.Nat.{ℕ, zero, suc, ◌+◌, ◌-◌, ◌*◌, ◌/◌, ◌≤◌, ◌<◌}
use native.Mathlib.Omega.{arith}
use native.Mathlib.Numerals.{add-one}
use mathlib.Core.Path.{◌≡◌, refl, sym, ap, ◌∙◌}
use mathlib.Core.List.{List, [], ◌∷◌, ◌++◌, append_assoc, append-nil}
use mathlib.Core.Option.{Option, none, some}
use lib.ListN.{length, get_or, take, drop, set, length-set, length-append}
use lib.Seq.{take-suc, take-suc-set, take-set-le, drop-set-lt, drop-cons, get_or-set_same, get_or-set_other, length-take-le, take_all, take_at}
use Rattle.formula.specs.Formula.{Op, union, intersection, difference, exclusive, first_operation, code, Formula, leaf, node, postfix, prefix}
use Rattle.formula.proofs.Laws.{length-prefix}
use Rattle.sheet.specs.Sheet.{two_bytes_at, codes_of}
use Rattle.sheet_codes.specs.Codes.{CodesFit}
use Rattle.sheet_laying.specs.Laid.{Wholly, Laid}
use Rattle.sheet_laying.proofs.CodeBytes.{codes_long, two-code}
use Rattle.sheet_laying.specs.Waiting.{Wait, for_both, for_left, codes_held, unread, ahead, Stands, Between, Settled, Low, Settles}

-- ---- the last one of a list

snoc_same : (xs ys : List ℕ) (x y : ℕ) → xs ++ (x ∷ []) ≡ ys ++ (y ∷ []) → (x ≡ y) × (xs ≡ ys)
snoc_same [] [] x y e = (cc e, refl)
snoc_same [] (b ∷ ys) x y e = let z : 1 ≡ suc (length (ys ++ (y ∷ []))) = ap length e in absurd (omega (arith, z, length-append ys (y ∷ [])))
snoc_same (a ∷ xs) [] x y e = let z : suc (length (xs ++ (x ∷ []))) ≡ 1 = ap length e in absurd (omega (arith, z, length-append xs (x ∷ [])))
snoc_same (a ∷ xs) (b ∷ ys) x y e =
    let t : xs ++ (x ∷ []) ≡ ys ++ (y ∷ []) = cc e in
    let h : a ≡ b = cc e in
    let r = snoc_same xs ys x y t in
    (r.0, rw (h, r.1))

-- The last one of the first k.
last_of : (l : List ℕ) (k : ℕ) → 0 < k → k ≤ length l → (xs : List ℕ) (x : ℕ) → xs ++ (x ∷ []) ≡ take k l → (x ≡ get_or l (k - 1) 0) × (xs ≡ take (k - 1) l)
last_of l k more within xs x e =
    let s : suc (k - 1) ≡ k = omega (arith, more) in
    let t : take (suc (k - 1)) l ≡ take (k - 1) l ++ (get_or l (k - 1) 0 ∷ []) = take-suc l (k - 1) 0 (omega (arith, more, within)) in
    let t' : take k l ≡ take (k - 1) l ++ (get_or l (k - 1) 0 ∷ []) = rw s at t in
    snoc_same xs (take (k - 1) l) x (get_or l (k - 1) 0) (e ∙ t')

-- What is stored before the rest stands before it.
stored_before : (l : List ℕ) (i j x : ℕ) → i < length l → j ≡ suc i → drop i (set l i x) ≡ x ∷ drop j l
stored_before l i j x h e =
    drop-cons (set l i x) i 0 (omega (arith, h, length-set l i x))
    ∙ ap (λ (y : ℕ). y ∷ drop (suc i) (set l i x)) (get_or-set_same l i x 0 h)
    ∙ ap (λ (ys : List ℕ). x ∷ ys) (drop-set-lt (suc i) l i x (omega arith))
    ∙ ap (λ (k : ℕ). x ∷ drop k l) (sym e)

code_below : (o : Op) → code o < 0xFFF4
code_below union = omega arith
code_below intersection = omega arith
code_below difference = omega arith
code_below exclusive = omega arith

first-operations : (o : Op) → 0xFFF0 ≤ code o
first-operations union = omega arith
first-operations intersection = omega arith
first-operations difference = omega arith
first-operations exclusive = omega arith

-- ---- settle

module _ (laid : List ℕ) (held last at : ℕ) (sized : length laid ≡ 2048) (fits : at + held ≤ 2048) (codes all : List ℕ) where
  module _ {ws : List Wait} {next : Option Formula} (s : Stands ws next laid held last at codes all) where
    many_held : length (codes_held ws) ≡ held
    many_held =
        let z : length (take held laid ++ (last ∷ [])) ≡ suc (length (codes_held ws)) = ap length s.held_are in
        omega (arith, z, length-append (take held laid) (last ∷ []), length-take-le held laid (omega (arith, fits, sized)))

    held-last : (xs : List ℕ) (x : ℕ) → codes_held ws ≡ xs ++ (x ∷ []) → (last ≡ x) × (take held laid ≡ s.nothing ∷ xs)
    held-last xs x e = snoc_same (take held laid) (s.nothing ∷ xs) last x (s.held_are ∙ ap (λ (ys : List ℕ). s.nothing ∷ ys) e)

  -- the right operand was laid, or nothing waits
  stop_at : (ws : List Wait) → Stands ws none laid held last at codes all → last < 0xFFF4 → Settled laid held (last + 4) at codes all
  stop_at [] s h =
      let z : held ≡ 0 = sym (many_held s) in
      record {
        waits = [];
        next = none;
        ends = λ q. refl;
        stands =
            record {
              over = s.over;
              over_next = tt;
              nothing = last + 4;
              held_are = ap (λ (k : ℕ). take k laid ++ ((last + 4) ∷ [])) z;
              left = s.left;
              whole = s.whole;
            };
      }
  stop_at (for_left o ∷ ws) s h = absurd (omega (arith, h, first-operations o, (held-last s (codes_held ws) (code o + 4) refl).0))
  stop_at (for_both o l ∷ ws) s h =
      let m = held-last s (codes_held ws) (code o) refl in
      record {
        waits = for_left o ∷ ws;
        next = some l;
        ends = λ z. let q : ◌≡◌ {A = ℕ} 0 1 = cc z in absurd (omega (arith, q));
        stands =
            record {
              over = s.over.1;
              over_next = s.over.0;
              nothing = s.nothing;
              held_are = ap (λ (ys : List ℕ). ys ++ ((last + 4) ∷ [])) m.1 ∙ ap (λ (x : ℕ). s.nothing ∷ (codes_held ws ++ ((x + 4) ∷ []))) m.0;
              left = sym (append-nil (unread ws ++ postfix l)) ∙ s.left;
              whole = simp append_assoc refl ∙ s.whole;
            };
      }

  -- both operands were laid
  module _ (more : 0 < held) (c : ℕ) (is : c ≡ get_or laid (held - 1) 0) where
    on-at : (ws : List Wait) → Stands ws none laid held last at codes all → 0xFFF4 ≤ last → Between (set laid (at + (held - 1)) (last - 4)) (held - 1) c at codes all
    on-at [] s h = absurd (omega (arith, more, many_held s))
    on-at (for_both o l ∷ ws) s h = absurd (omega (arith, h, code_below o, (held-last s (codes_held ws) (code o) refl).0))
    on-at (for_left o ∷ ws) s h =
        let m = held-last s (codes_held ws) (code o + 4) refl in
        let e : last - 4 ≡ code o = omega (arith, m.0) in
        let i = at + (held - 1) in
        let k : suc (held - 1) ≡ held = omega (arith, more) in
        let t : take (suc (held - 1)) laid ≡ take (held - 1) laid ++ (get_or laid (held - 1) 0 ∷ []) = take-suc laid (held - 1) 0 (omega (arith, more, fits, sized)) in
        record {
          waits = ws;
          stands =
              record {
                over = s.over;
                over_next = tt;
                nothing = s.nothing;
                held_are = ap (λ (xs : List ℕ). xs ++ (c ∷ [])) (take-set-le (held - 1) laid i (last - 4) (omega arith))
                    ∙ ap (λ (x : ℕ). take (held - 1) laid ++ (x ∷ [])) is
                    ∙ sym t
                    ∙ ap (λ (j : ℕ). take j laid) k
                    ∙ m.1;
                left = s.left;
                whole = ap (λ (ys : List ℕ). (ahead ws ++ []) ++ ys) (stored_before laid i (at + held) (last - 4) (omega (arith, more, fits, sized)) (omega (arith, more)))
                    ∙ ap (λ (x : ℕ). (ahead ws ++ []) ++ (x ∷ drop (at + held) laid)) e
                    ∙ simp append_assoc refl
                    ∙ s.whole;
              };
        }

not_none : (k : ℕ) → (k ≡ 0 → ⊥) → 1 ≤ k
not_none zero f = absurd (f refl)
not_none (suc k) f = omega arith

-- What waits now decides as what waited at first.
pub record Settling (old : List ℕ) (held last : ℕ) (laid : List ℕ) (waiting waits at : ℕ) : Type 0 where
  pub low : Low laid waiting waits (2047 - at)
  pub is : (codes all : List ℕ) → Between old held last at codes all → Between laid waiting waits at codes all

pub settling_begins : (laid : List ℕ) (held last at : ℕ) → Low laid held last (2047 - at) → Settling laid held last laid held last at
settling_begins laid held last at low = record { low = low; is = λ codes all b. b }

module _ (old : List ℕ) (held last : ℕ) (laid : List ℕ) (waiting waits at : ℕ) (sized : length laid ≡ 2048) (fits : at + held ≤ 2048) (fewer : waiting ≤ held)
    (s : Settling old held last laid waiting waits at) where
  within : at + waiting ≤ 2048
  within = omega arith

  none-low : waiting ≡ 0 → 0xFFF4 ≤ waits → ⊥
  none-low e h = let l = s.low.in_hand e in omega (arith, l, h)

  pub some_wait : 0xFFF4 ≤ waits → 1 ≤ waiting
  some_wait h = not_none waiting (λ e. none-low e h)

  pub fewer_wait : 0xFFF4 ≤ waits → waiting - 1 < waiting
  fewer_wait h = omega (arith, some_wait h)

  pub settles_here : at < 2048 → waits < 0xFFF4 → Settles old held last laid waiting (waits + 4) at
  settles_here few h =
      record {
        long = sized;
        fewer = fewer;
        low =
            record {
              small = omega arith;
              in_hand = λ e. let l = s.low.in_hand e in omega (arith, l);
              at_front = λ m. let l = s.low.at_front m in omega (arith, l);
            };
        is = λ codes all b. let w = s.is codes all b in stop_at laid waiting waits at sized within codes all w.waits w.stands h;
      }

  module _ (more : 1 ≤ waiting) (c : ℕ) (is : c ≡ get_or laid (waiting - 1) 0) (small : c < 65536) where
    pub settling_more : 0xFFF4 ≤ waits → Settling old held last (set laid (at + (waiting - 1)) (waits - 4)) (waiting - 1) c at
    settling_more h =
        record {
          low =
              record {
                small = small;
                in_hand = λ e. let l = s.low.at_front (omega arith) in omega (arith, l, is ∙ ap (λ (i : ℕ). get_or laid i 0) e);
                at_front = λ m. omega (arith, get_or-set_other laid (at + (waiting - 1)) 0 (waits - 4) 0 (λ e. omega arith), s.low.at_front (omega arith));
              };
          is = λ codes all b. let w = s.is codes all b in on-at laid waiting waits at sized within codes all (omega arith) c is w.waits w.stands h;
        }

-- ---- lay_first

some_codes : (f : Formula) → 0 < length (postfix f)
some_codes (leaf s) = omega arith
some_codes (node o l r) = omega (arith, length-append (postfix l) (postfix r ++ (code o ∷ [])), length-append (postfix r) (code o ∷ []))

-- the last code of an operation, behind others
node-last : (others : List ℕ) (o : Op) (l r : Formula) → others ++ postfix (node o l r) ≡ ((others ++ postfix l) ++ postfix r) ++ (code o ∷ [])
node-last others o l r = simp append_assoc refl

module _ (codes laid : List ℕ) (held last at : ℕ) (long : at ≤ length codes) (sized : length laid ≡ 2048) (fits : at + held ≤ 2048) (more : 0 < at) (all : List ℕ) (c : ℕ) (is : c ≡ get_or codes (at - 1) 0) where
  last-read : (xs : List ℕ) (x : ℕ) → xs ++ (x ∷ []) ≡ take at codes → (x ≡ c) × (xs ≡ take (at - 1) codes)
  last-read xs x e = let r = last_of codes at more long xs x e in (r.0 ∙ sym is, r.1)

  none_read : (ws : List Wait) → ws ≡ [] → Stands ws none laid held last at (take at codes) all → ⊥
  none_read ws e s =
      let z : 0 ≡ length (take at codes) = ap (λ (vs : List Wait). length (unread vs ++ [])) (sym e) ∙ ap length s.left in
      omega (arith, z, more, length-take-le at codes long)

  leaf-at : (ws : List Wait) (next : Option Formula) → (next ≡ none → ws ≡ []) → Stands ws next laid held last at (take at codes) all → c < 0xFFF0
      → Between (set laid (at - 1 + held) c) held last (at - 1) (take (at - 1) codes) all
  leaf-at ws none ends s h = absurd (none_read ws (ends refl) s)
  leaf-at ws (some (node o l r)) ends s h =
      let m = last-read ((unread ws ++ postfix l) ++ postfix r) (code o) (sym (node-last (unread ws) o l r) ∙ s.left) in
      absurd (omega (arith, h, m.0))
  leaf-at ws (some (leaf t)) ends s h =
      let m = last-read (unread ws) t s.left in
      let i = at - 1 + held in
      record {
        waits = ws;
        stands =
            record {
              over = s.over;
              over_next = tt;
              nothing = s.nothing;
              held_are = ap (λ (xs : List ℕ). xs ++ (last ∷ [])) (take-set-le held laid i c (omega arith)) ∙ s.held_are;
              left = append-nil (unread ws) ∙ m.1;
              whole = ap (λ (ys : List ℕ). (ahead ws ++ []) ++ ys) (stored_before laid i (at + held) c (omega (arith, more, fits, sized)) (omega (arith, more)))
                  ∙ ap (λ (x : ℕ). (ahead ws ++ []) ++ (x ∷ drop (at + held) laid)) (sym m.0)
                  ∙ simp append_assoc refl
                  ∙ s.whole;
            };
      }

  node_at : (ws : List Wait) (next : Option Formula) → (next ≡ none → ws ≡ []) → Stands ws next laid held last at (take at codes) all → 0xFFF0 ≤ c
      → Settled (set laid held last) (held + 1) c (at - 1) (take (at - 1) codes) all
  node_at ws none ends s h = absurd (none_read ws (ends refl) s)
  node_at ws (some (leaf t)) ends s h =
      let m = last-read (unread ws) t s.left in
      let low : t < first_operation = s.over_next in
      absurd (omega (arith, h, low, m.0))
  node_at ws (some (node o l r)) ends s h =
      let m = last-read ((unread ws ++ postfix l) ++ postfix r) (code o) (sym (node-last (unread ws) o l r) ∙ s.left) in
      let e : at - 1 + (held + 1) ≡ at + held = omega (arith, more) in
      record {
        waits = for_both o l ∷ ws;
        next = some r;
        ends = λ z. let q : ◌≡◌ {A = ℕ} 0 1 = cc z in absurd (omega (arith, q));
        stands =
            record {
              over = (s.over_next.0, s.over);
              over_next = s.over_next.1;
              nothing = s.nothing;
              held_are = ap (λ (k : ℕ). take k (set laid held last) ++ (c ∷ [])) (add-one held)
                  ∙ ap (λ (xs : List ℕ). xs ++ (c ∷ [])) (take-suc-set laid held last (omega (arith, more, fits, sized)) ∙ s.held_are)
                  ∙ ap (λ (x : ℕ). s.nothing ∷ (codes_held ws ++ (x ∷ []))) (sym m.0);
              left = m.1;
              whole = ap (λ (k : ℕ). ((ahead ws ++ (code o ∷ prefix l)) ++ prefix r) ++ drop k (set laid held last)) e
                  ∙ ap (λ (ys : List ℕ). ((ahead ws ++ (code o ∷ prefix l)) ++ prefix r) ++ ys) (drop-set-lt (at + held) laid held last (omega (arith, more)))
                  ∙ simp append_assoc refl
                  ∙ s.whole;
            };
      }

-- What lies before the loop: the codes that are still to be read and what waits decide.
pub record Lays (bytes : List ℕ) (n : ℕ) (old laid : List ℕ) (held last at : ℕ) : Type 0 where
  pub fits : at + held ≤ n
  pub sized : length laid ≡ 2048
  pub low : Low laid held last (2048 - at)
  pub is : (f : Formula) → Wholly (codes_of bytes) f → Settled laid held last at (take at (codes_of bytes)) (prefix f ++ drop n old)

pub lays_none : (bytes old : List ℕ) → CodesFit bytes old → Lays bytes (length bytes / 2) old old 0 0 (length bytes / 2)
lays_none bytes old fit =
    let n = length bytes / 2 in
    let many : length (codes_of bytes) ≡ n = omega (arith, codes_long bytes fit.even) in
    record {
      fits = omega arith;
      sized = fit.sized;
      low = record { small = omega arith; in_hand = λ e. omega arith; at_front = λ m. absurd (omega (arith, m)) };
      is = λ f w.
          record {
            waits = [];
            next = some f;
            ends = λ z. let q : ◌≡◌ {A = ℕ} 0 1 = cc z in absurd (omega (arith, q));
            stands =
                record {
                  over = tt;
                  over_next = w.over;
                  nothing = 0;
                  held_are = refl;
                  left = sym w.are ∙ sym (take_all n (codes_of bytes) (omega (arith, many)));
                  whole = let e : n + 0 ≡ n = omega arith in ap (λ (k : ℕ). prefix f ++ drop k old) e;
                };
          };
    }

module _ (bytes old laid : List ℕ) (n held last at : ℕ) (fit : CodesFit bytes old) (half : n ≡ length bytes / 2) (y : Lays bytes n old laid held last at) where
  many : length (codes_of bytes) ≡ n
  many = omega (arith, codes_long bytes fit.even, half)

  few : n ≤ 2047
  few = let l : length bytes ≤ 4094 = fit.few in omega arith

  room : at + held ≤ 2048
  room = omega (arith, few, y.fits)

  module _ (more : 0 < at) where
    pub lays_code : 2 * (at - 1) + 1 < length bytes
    lays_code = omega (arith, half, y.fits)

    pub lays_room : at - 1 + held < 2048
    lays_room = omega (arith, few, y.fits)

    pub lays_front : held < 2048
    lays_front = omega (arith, few, y.fits)

    pub lays_low : (c : ℕ) → Low (set laid (at - 1 + held) c) held last (2047 - (at - 1))
    lays_low c =
        record {
          small = y.low.small;
          in_hand = λ e. let l = y.low.in_hand e in omega (arith, l, few, y.fits);
          at_front = λ m. let l = y.low.at_front m in omega (arith, l, few, y.fits, get_or-set_other laid (at - 1 + held) 0 c 0 (λ e. omega (arith, e, m)));
        }

    module _ (c : ℕ) (is : c ≡ two_bytes_at bytes (2 * (at - 1))) where
      code_is : c ≡ get_or (codes_of bytes) (at - 1) 0
      code_is = is ∙ two-code bytes (at - 1) (omega (arith, half, y.fits))

      pub lays_leaf : c < 0xFFF0 → (new : List ℕ) (less after : ℕ) → Settles (set laid (at - 1 + held) c) held last new less after (at - 1) → Lays bytes n old new less after (at - 1)
      lays_leaf h new less after s =
          record {
            fits = omega (arith, y.fits, s.fewer);
            sized = s.long;
            low = s.low;
            is = λ f w.
                let b = y.is f w in
                s.is (take (at - 1) (codes_of bytes)) (prefix f ++ drop n old)
                (leaf-at (codes_of bytes) laid held last at (omega (arith, many, y.fits)) y.sized room more (prefix f ++ drop n old) c code_is b.waits b.next b.ends b.stands h);
          }

      pub lays_operation : c < 65536 → 0xFFF0 ≤ c → Lays bytes n old (set laid held last) (held + 1) c (at - 1)
      lays_operation small h =
          record {
            fits = omega (arith, y.fits, more);
            sized = length-set laid held last ∙ y.sized;
            low = record { small = small; in_hand = λ e. absurd (omega (arith, e)); at_front = λ m. front_low held refl };
            is = λ f w.
                let b = y.is f w in
                node_at (codes_of bytes) laid held last at (omega (arith, many, y.fits)) y.sized room more (prefix f ++ drop n old) c code_is b.waits b.next b.ends b.stands h;
          }
        where
          front_low : (k : ℕ) → k ≡ held → get_or (set laid held last) 0 0 ≤ 4 * (2048 - (at - 1))
          front_low zero e =
              let l = y.low.in_hand (sym e) in
              let g : get_or (set laid held last) 0 0 ≡ last = ap (λ (i : ℕ). get_or (set laid i last) 0 0) (sym e) ∙ get_or-set_same laid 0 last 0 (omega (arith, y.sized)) in
              omega (arith, l, g)
          front_low (suc k) e =
              let l = y.low.at_front (omega (arith, e)) in
              omega (arith, l, get_or-set_other laid held 0 last 0 (λ z. omega (arith, z, e)))

  module _ (done : at ≤ 0) where
    all_laid : (f : Formula) → length (postfix f) ≡ n → (ws : List Wait) (next : Option Formula) → (next ≡ none → ws ≡ []) → Stands ws next laid held last at (take at (codes_of bytes)) (prefix f ++ drop n old) → take n laid ≡ prefix f
    all_laid f k ws (some g) ends s =
        let z : length (unread ws ++ postfix g) ≡ length (take at (codes_of bytes)) = ap length s.left in
        absurd (omega (arith, z, done, some_codes g, length-append (unread ws) (postfix g), length-take-le at (codes_of bytes) (omega (arith, many, y.fits))))
    all_laid f k ws none ends s =
        let none-waits : ws ≡ [] = ends refl in
        let z : held ≡ 0 = sym (many_held laid held last at y.sized room (take at (codes_of bytes)) (prefix f ++ drop n old) s) ∙ ap (λ (vs : List Wait). length (codes_held vs)) none-waits in
        let e : at + held ≡ 0 = omega (arith, z, done) in
        let whole : laid ≡ prefix f ++ drop n old = ap (λ (i : ℕ). drop i laid) (sym e) ∙ ap (λ (vs : List Wait). (ahead vs ++ []) ++ drop (at + held) laid) (sym none-waits) ∙ s.whole in
        ap (take n) whole ∙ take_at (prefix f) (drop n old) n (length-prefix f ∙ k)

    pub lays_all : Laid (codes_of bytes) laid n
    lays_all =
        record {
          long = y.sized;
          are = λ f w.
              let b = y.is f w in
              let k : length (postfix f) ≡ n = ap length (sym w.are) ∙ many in
              record { all = sym (length-prefix f ∙ k); are = all_laid f k b.waits b.next b.ends b.stands; sized = y.sized };
        }
