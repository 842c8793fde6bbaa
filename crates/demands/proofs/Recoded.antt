-- A sheet of edition 1 whose code at a position is replaced by an operation's, where an operation stands, is read as edited: document 02, K13.
use Prim.Native.Nat.{ℕ, zero, suc, ◌+◌, ◌-◌, ◌*◌, ◌/◌, ◌%◌, ◌<◌, ◌≤◌}
use native.Mathlib.Omega.{arith}
use mathlib.Core.Path.{◌≡◌, refl, sym, ap, ◌∙◌}
use mathlib.Core.Bool.{Bool, true, false}
use mathlib.Core.List.{List, [], ◌∷◌}
use lib.Dec.{leb}
use lib.ListN.{length, get_or, set, drop, length-set, length-drop}
use lib.Seq.{get_or-set_other, drop-set-add, take_all}
use borrow.Author.Tests.{eq-eqb, leb-true, leb-false}
use Rattle.outcome.specs.Outcome.{given, of_fittings}
use Rattle.outcome.proofs.Questions.{bind_given, fittings-given}
use Rattle.formula.specs.Formula.{Op, code, postfix}
use Rattle.formula.proofs.Laws.{over_more}
use Rattle.formula.proofs.Codes.{operation-between}
use Rattle.sheet.specs.Sheet.{Sheets, alone, beside, Sheet, length_at, bytes_at, between, codes_of, header, own, fitting_names, reading}
use Rattle.sheet.specs.Guaranteed.{Own, GoodNames}
use Rattle.sheet.proofs.Names.{GoodNames-none, walk_on}
use Rattle.sheet.proofs.Guaranteed.{own_guaranteed, fitted, guaranteed}
use Rattle.edits.specs.Edits.{size, only, edited}
use Rattle.edits.specs.Changes.{operations}
use Rattle.edits.proofs.Codes.{length-postfix, above_none, is_operation_lem, edited-postfix, over-remade}
use Rattle.edit_checking.specs.Fits.{operates_at}
use Rattle.sheet_laying.proofs.CodeBytes.{codes_long}
use Rattle.job_move.proofs.Journey.{Like, said_edition, field_long, own_like}
use Rattle.demands.specs.Recoded.{recoded, recoded_in, with_formula}

-- two bytes replaced are one code replaced
codes-set : (p : List ℕ) (i h l : ℕ) → 2 * i + 1 < length p → codes_of (set (set p (2 * i) h) (2 * i + 1) l) ≡ set (codes_of p) i (h * 256 + l)
unfolding codes_of
codes-set [] i h l k = absurd (omega arith)
codes-set (a ∷ []) i h l k = absurd (omega arith)
codes-set (a ∷ b ∷ p) zero h l k = refl
codes-set (a ∷ b ∷ p) (suc i) h l k =
    let e : 2 * suc i ≡ suc (suc (2 * i)) = omega arith in
    let d : suc (suc (2 * i)) + 1 ≡ suc (suc (2 * i + 1)) = omega arith in
    rw (e, d) (ap (λ cs. (a * 256 + b) ∷ cs) (codes-set p i h l (omega arith)))

module _ (fs : List (List ℕ)) (s : List ℕ) (r : Sheet) (good : GoodNames fs) (h : own fs s ≡ given r) (one : r.edition ≡ 1) (p : ℕ) (o : Op)
    (stands : operations p 0 r.formula ≡ 1) where
  g : Own fs s r
  g = own_guaranteed fs s r good h

  abbrev t : List ℕ
  t = recoded s r p (code o)

  abbrev bytes : List ℕ
  bytes = drop r.first s

  first-high : 8 ≤ r.first
  first-high = omega (arith, g.follows, walk_on s 5 g.owned)

  whole : between s r.first r.past ≡ bytes
  whole = take_all (r.past - r.first) bytes (omega (arith, length-drop r.first s, g.ends))

  codes_are : codes_of bytes ≡ postfix r.formula
  codes_are = ap codes_of (sym whole) ∙ g.codes_are ∙ rw (eq-eqb r.edition 1 one)

  bytes_long : length bytes ≡ r.past - r.first
  bytes_long = length-drop r.first s ∙ ap (λ n. n - r.first) (sym g.ends)

  -- position p is one of the codes
  among : p < length (postfix r.formula)
  among = by (leb (size r.formula) p) refl
    where
      by : (b : Bool) → leb (size r.formula) p ≡ b → p < length (postfix r.formula)
      by true e = absurd (omega (arith, above_none r.formula 0 p (omega (arith, leb-true (size r.formula) p e)), stands))
      by false e = omega (arith, leb-false (size r.formula) p e, length-postfix r.formula)

  within : 2 * p + 1 < length bytes
  within = omega (arith, codes_long bytes (rw bytes_long g.even), ap length codes_are, among)

  -- the bytes of the formula, and the codes in them
  formula-bytes : drop r.first t ≡ set (set bytes (2 * p) (code o / 256)) (2 * p + 1) (code o % 256)
  unfolding recoded
  formula-bytes =
      let at : r.first + 2 * p + 1 ≡ r.first + (2 * p + 1) = omega arith in
      rw at (drop-set-add r.first (set s (r.first + 2 * p) (code o / 256)) (2 * p + 1) (code o % 256)
      ∙ ap (λ bs. set bs (2 * p + 1) (code o % 256)) (drop-set-add r.first s (2 * p) (code o / 256)))

  formula-codes : codes_of (drop r.first t) ≡ postfix (edited p o r.formula)
  formula-codes =
      let c : code o / 256 * 256 + code o % 256 ≡ code o = omega arith in
      ap codes_of formula-bytes ∙ codes-set bytes p (code o / 256) (code o % 256) within
      ∙ rw (c, codes_are) (sym (edited-postfix r.formula p o stands))

  -- every byte before the formula is as it was
  t_long : length t ≡ length s
  unfolding recoded
  t_long = length-set (set s (r.first + 2 * p) (code o / 256)) (r.first + 2 * p + 1) (code o % 256) ∙ length-set s (r.first + 2 * p) (code o / 256)

  before : (i : ℕ) → i < r.first → get_or t i 0 ≡ get_or s i 0
  unfolding recoded
  before i l =
      get_or-set_other (set s (r.first + 2 * p) (code o / 256)) (r.first + 2 * p + 1) i (code o % 256) 0 (λ e. omega (arith, e, l))
      ∙ get_or-set_other s (r.first + 2 * p) i (code o / 256) 0 (λ e. omega (arith, e, l))

  header-same : header 2 t ≡ header 2 s
  unfolding header length_at
  header-same =
      rw (
        t_long,
        before 0 (omega (arith, first-high)),
        before 1 (omega (arith, first-high)),
        before 2 (omega (arith, first-high)),
        before 3 (omega (arith, first-high)),
        before 4 (omega (arith, first-high)),
      )

  Three : r.first - 3 + 3 ≡ r.first
  Three = omega (arith, first-high)

  len : length_at t (r.first - 3) ≡ length_at s (r.first - 3)
  unfolding length_at
  len = rw (before (r.first - 3 + 1) (omega (arith, first-high)), before (r.first - 3 + 1 + 1) (omega (arith, first-high)))

  field-bytes : bytes_at t (r.first - 3) ≡ drop r.first t
  unfolding bytes_at
  field-bytes =
      rw (len, field_long fs s r good h, Three)
      (take_all (r.past - r.first) (drop r.first t) (omega (arith, length-drop r.first t, t_long, g.ends)))

  like : Like s t (r.first - 3) r.edition (edited p o r.formula)
  like =
      record {
        agree = record { long = t_long; low = λ i five l. before i (omega (arith, l)) };
        inside = omega (arith, g.ends, g.some_bytes);
        tag = before (r.first - 3) (omega (arith, first-high)) ∙ g.tagged;
        high = g.least_edition;
        len = len;
        codes_are = ap codes_of field-bytes ∙ formula-codes ∙ rw (eq-eqb r.edition 1 one);
      }

  own-recoded : own fs t ≡ given (with_formula (edited p o r.formula) r)
  own-recoded =
      own_like fs s r good h t r.edition (edited p o r.formula) (header-same ∙ said_edition fs s r good h)
      (over-remade (only p o) r.formula (length r.names) 0 g.over) like

recoded_by : (c : Sheets) (r : Sheet) (p : ℕ) (o : Op) → reading c ≡ given r → r.edition ≡ 1 → operations p 0 r.formula ≡ 1
    → reading (recoded_in c r p (code o)) ≡ given (with_formula (edited p o r.formula) r)
unfolding reading
recoded_by (alone s) r p o h one stands = own-recoded [] s r GoodNames-none h one p o stands
recoded_by (beside f s) r p o h one stands =
    let b = bind_given (of_fittings (fitting_names f)) (λ names. own names s) r h in
    let q = fitted f b.0 (fittings-given (fitting_names f) b.0 b.1) in
    rw b.1 (own-recoded b.0 s r q.good_names b.2 one p o stands)

-- A sheet of edition 1 that is read, with an operation at position p: with another one's code there, it is read as edited.
pub recoded-read : (c : Sheets) (r : Sheet) (p : ℕ) (o : Op) → reading c ≡ given r → r.edition ≡ 1 → operates_at (postfix r.formula) p ≡ true
    → reading (recoded_in c r p (code o)) ≡ given (with_formula (edited p o r.formula) r)
recoded-read c r p o h one operates =
    let g = (guaranteed c r h).own in
    let over = over_more r.formula (length r.names) 256 g.good_names.few g.over in
    recoded_by c r p o h one (is_operation_lem r.formula over p (operation-between (get_or (postfix r.formula) p 0) operates).0)
