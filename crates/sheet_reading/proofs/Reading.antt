-- One field more of a customer's sheet: what the reading from there on tells, by the field's case.
use Prim.Native.Nat.{ℕ, suc, ◌+◌, ◌-◌, ◌≤◌, ◌<◌}
use native.Mathlib.Omega.{arith}
use mathlib.Core.Path.{◌≡◌, refl, sym, ap, ◌∙◌}
use mathlib.Core.Bool.{Bool, true, false}
use mathlib.Core.List.{List, [], ◌++◌, append-nil}
use mathlib.Core.Logic.{◌⊎◌, inl, inr}
use lib.Dec.{leb}
use lib.ListN.{length, set, length-append}
use Rattle.outcome.specs.Outcome.{Outcome, given, refused, unfit, need, ◌>>◌, ◌>>=◌, part}
use Rattle.formula.specs.Formula.{Formula, leaves}
use Rattle.sheet.specs.Sheet as paper
use Rattle.sheet.specs.Sheet.{Sheet, Setting, name_field, formula_field, end_field, two_bytes_at, between, field_at, onward, fields, header, own}
use Rattle.sheet.specs.Walk.{walk_end, walk_names, fitted_by}
use Rattle.sheet_reading.specs.Reading.{numbers, numbers_of}
use Rattle.sheet_reading.specs.Told.{told_own, told_from, FittingsRead}
use Rattle.sheet_fields.specs.Fields.{name, formula, finish, seen, shown, end_at}
use Rattle.sheet_names.specs.Keys.{key_of, NamesRead}
use Rattle.sheet_fields.specs.declared.Field.{Field}
use Rattle.sheet_fields.specs.declared.Field.TheVariants as field
use Rattle.sheet_reading.specs.declared.Read.{Read}
use Rattle.outcome.proofs.Questions.{part-given, part-refused}
use Rattle.sheet.proofs.Names.{walk_length}
use Rattle.sheet.proofs.Fields.{IsName, IsFormula, header-given, field-given}
use Rattle.sheet_reading.proofs.Named.{named-inside, named-room, named_more, named_here, named_keyed}

-- ---- seen: the field from what is seen of it

pub seen-name : (v : paper.Field) (x : List ℕ) (e k : ℕ) → seen v ≡ name x e k → (v ≡ name_field x e) × (k ≡ key_of x)
seen-name (name_field y d) x e k h = let i : y ≡ x = cc in let j : key_of y ≡ k = cc in (cc, sym j ∙ ap key_of i)
seen-name (formula_field f a d) x e k h = let z : ◌≡◌ {A = ℕ} 0 1 = cc in absurd (omega arith)
seen-name end_field x e k h = let z : ◌≡◌ {A = ℕ} 0 1 = cc in absurd (omega arith)

pub seen-formula : (v : paper.Field) (l a e : ℕ) → seen v ≡ formula l a e → (f : Formula) × (v ≡ formula_field f a e) × (leaves f ≡ l)
seen-formula (name_field y d) l a e h = let z : ◌≡◌ {A = ℕ} 0 1 = cc in absurd (omega arith)
seen-formula (formula_field f b d) l a e h = (f, cc, cc)
seen-formula end_field l a e h = let z : ◌≡◌ {A = ℕ} 0 1 = cc in absurd (omega arith)

pub seen-finish : (v : paper.Field) → seen v ≡ finish → v ≡ end_field
seen-finish (name_field y d) h = let z : ◌≡◌ {A = ℕ} 0 1 = cc in absurd (omega arith)
seen-finish (formula_field f b d) h = let z : ◌≡◌ {A = ℕ} 0 1 = cc in absurd (omega arith)
seen-finish end_field h = refl

-- ---- after the formula

then_then : (b : Bool) (k p : ℕ) (v : Read) → ((need b k p >> given end_field) >> given v) ≡ (need b k p >> given v)
then_then true k p v = refl
then_then false k p v = refl

end_told : (o : Outcome paper.Field) (r : Sheet) → part numbers_of (o >> given r) ≡ (o >> given (numbers_of r))
end_told (given x) r = refl
end_told (refused k p) r = refl
end_told (unfit k p) r = refl

-- ---- the field r at offset at, after m names of the fittings sheet and n names

is_name : (w : Setting) (s : List ℕ) (at : ℕ) (ns : List (List ℕ)) (x : List ℕ) (e : ℕ) → IsName w s at ns (name_field x e) ⊎ IsFormula w s at ns (name_field x e) → IsName w s at ns (name_field x e)
is_name w s at ns x e (inl i) = i
is_name w s at ns x e (inr i) = let h = i.is in let z : ◌≡◌ {A = ℕ} 0 1 = cc h in absurd (omega arith)

module _ (ed : ℕ) (f : List ℕ) (m : ℕ) (s : List ℕ) (at n : ℕ) (all : Outcome Read) (inv : all ≡ told_from (fitted_by ed f m) (257 - n) s at (walk_names s 5 n)) (ks : List ℕ)
    (known : NamesRead f m s n ks) where
  next : (o : Outcome paper.Field) → field_at (fitted_by ed f m) s at (walk_names s 5 n) false ≡ o
      → all ≡ part numbers_of (o >>= onward (fitted_by ed f m) (fields (fitted_by ed f m) (257 - (n + 1)) s) s (walk_names s 5 n))
  unfolding told_from fields
  next o q = let k : 257 - n ≡ suc (257 - (n + 1)) = omega (arith, known.few) in inv ∙ rw (k, q)

  pub read-refused : (k p : ℕ) → refused k p ≡ part seen (field_at (fitted_by ed f m) s at (walk_names s 5 n) false) → all ≡ refused k p
  read-refused k p is = next (refused k p) (part-refused seen (field_at (fitted_by ed f m) s at (walk_names s 5 n) false) k p is)

module _ (ed : ℕ) (f : List ℕ) (m : ℕ) (s : List ℕ) (r : Field) (at n : ℕ) (said : given (shown s r) ≡ part seen (field_at (fitted_by ed f m) s at (walk_names s 5 n) false)) where
  module _ (all : Outcome Read) (inv : all ≡ told_from (fitted_by ed f m) (257 - n) s at (walk_names s 5 n)) (ks : List ℕ) (known : NamesRead f m s n ks) where
    pub read_end : r ≡ field.End → refused 1 (length s) ≡ all
    read_end is =
        let g = part-given seen (field_at (fitted_by ed f m) s at (walk_names s 5 n) false) finish (rw is at said) in
        sym (next ed f m s at n all inv ks known (given end_field) (g.1 ∙ ap given (seen-finish g.0 g.2)))

    pub read-formula : (a e l : ℕ) → r ≡ field.Formula a e l → all ≡ (end_at s e >> given (numbers (m + n) l a e))
    unfolding field_at
    read-formula a e l is =
        let g = part-given seen (field_at (fitted_by ed f m) s at (walk_names s 5 n) false) (formula l a e) (rw is at said) in
        let k = seen-formula g.0 l a e g.2 in
        next ed f m s at n all inv ks known (given (formula_field k.0 a e)) (g.1 ∙ ap given k.1)
        ∙ rw (end_told (end_at s e >> given end_field) (record { edition = ed; names = walk_names f 5 m ++ walk_names s 5 n; formula = k.0; first = a; past = e }), k.2, length-append (walk_names f 5 m) (walk_names s 5 n), walk_length f 5 m, walk_length s 5 n)
        (then_then (leb (length s) e) 2 e (numbers (m + n) l a e))

  module _ (a e k : ℕ) (is : r ≡ field.Name a e k) where
    it_is : field_at (fitted_by ed f m) s at (walk_names s 5 n) false ≡ given (name_field (between s a e) e)
    it_is =
        let g = part-given seen (field_at (fitted_by ed f m) s at (walk_names s 5 n) false) (name (between s a e) e k) (rw is at said) in
        g.1 ∙ ap given (seen-name g.0 (between s a e) e k g.2).0

    key : k ≡ key_of (between s a e)
    key =
        let g = part-given seen (field_at (fitted_by ed f m) s at (walk_names s 5 n) false) (name (between s a e) e k) (rw is at said) in
        (seen-name g.0 (between s a e) e k g.2).1

    it : IsName (fitted_by ed f m) s at (walk_names s 5 n) (name_field (between s a e) e)
    it = is_name (fitted_by ed f m) s at (walk_names s 5 n) (between s a e) e (field-given (fitted_by ed f m) s at (walk_names s 5 n) (name_field (between s a e) e) it_is)

    pub name-room : m + n < 256
    name-room = omega (arith, named-room (fitted_by ed f m) s at n a e it, walk_length f 5 m)

    name-inside : e ≤ length s
    name-inside = named-inside (fitted_by ed f m) s at n a e it

    module _ (here : at ≡ walk_end s 5 n) where
      pub name-here : e ≡ walk_end s 5 (n + 1)
      name-here = named_here (fitted_by ed f m) s at n a e it here

      pub name_known : (ks : List ℕ) → NamesRead f m s n ks → NamesRead f m s (n + 1) (set ks (m + n) k)
      name_known ks known =
          record {
            fittings_there = known.fittings_there;
            there = record { ends = λ some. omega (arith, name-inside, name-here) };
            few = omega (arith, name-room);
            keyed = named_keyed (fitted_by ed f m) s at n a e it here (walk_names f 5 m) m (walk_length f 5 m) ks k name-room known.keyed key;
          }

      pub read_name : (all : Outcome Read) → all ≡ told_from (fitted_by ed f m) (257 - n) s at (walk_names s 5 n) → (ks : List ℕ) → NamesRead f m s n ks
          → all ≡ told_from (fitted_by ed f m) (257 - (n + 1)) s e (walk_names s 5 (n + 1))
      unfolding told_from
      read_name all inv ks known = next ed f m s at n all inv ks known (given (name_field (between s a e) e)) it_is ∙ rw (named_more (fitted_by ed f m) s at n a e it here)

-- ---- the header r of a sheet, and of the customer's

module _ (last : ℕ) (s : List ℕ) (ed : ℕ) (said : given ed ≡ header last s) where
  pub head_inside : 5 ≤ length s
  head_inside = (header-given last s ed (sym said)).inside

module _ (s : List ℕ) (ed : ℕ) (said : given ed ≡ header 2 s) where
  pub head_edition : ed ≤ 2
  head_edition =
      let g = header-given 2 s ed (sym said) in
      let h = g.is in
      let e : two_bytes_at s 3 ≡ ed = cc h in
      omega (arith, e, g.most)

  pub head_good : (f : List ℕ) (m : ℕ) → told_own (walk_names f 5 m) s ≡ told_from (fitted_by ed f m) 257 s 5 []
  unfolding told_from told_own own
  head_good f m = rw (← said)

pub head_refused : (s : List ℕ) (f : List ℕ) (m : ℕ) (k p : ℕ) → refused k p ≡ header 2 s → told_own (walk_names f 5 m) s ≡ refused k p
unfolding told_own own
head_refused s f m k p is = rw (← is)

-- none of its names is read yet
pub beside_known : (f : List ℕ) (m : ℕ) (s ks : List ℕ) → FittingsRead f m ks → NamesRead f m s 0 ks
unfolding walk_names
beside_known f m s ks known =
    record {
      fittings_there = known.there;
      there = record { ends = λ some. absurd (omega arith) };
      few = omega (arith, known.few);
      keyed = rw (append-nil (walk_names f 5 m)) known.keyed;
    }
