-- One field more of a fittings sheet: what its reading from there on gives, by the field's case.
use Prim.Native.Nat.{ℕ, suc, ◌+◌, ◌-◌, ◌≤◌, ◌<◌}
use native.Mathlib.Omega.{arith}
use mathlib.Core.Path.{◌≡◌, refl, ap, ◌∙◌}
use mathlib.Core.Bool.{Bool, true, false}
use mathlib.Core.List.{List, []}
use mathlib.Core.Logic.{◌⊎◌, inl, inr}
use lib.ListN.{length, set}
use Rattle.outcome.specs.Outcome.{Outcome, given, refused, unfit, ◌>>=◌, part}
use Rattle.formula.specs.Formula.{Formula}
use Rattle.sheet.specs.Sheet as paper
use Rattle.sheet.specs.Sheet.{sheets_of, unaided, name_field, formula_field, end_field, between, header, own, fitting_at, onward_fitting, fitting_fields, fitting_names, reading}
use Rattle.sheet.specs.Walk.{walk_end, walk_names}
use Rattle.sheet_names.specs.Keys.{key_of, NamesRead}
use Rattle.sheet_fields.specs.Fields.{name, formula, finish, seen, shown}
use Rattle.sheet_fields.specs.declared.Field.{Field}
use Rattle.sheet_fields.specs.declared.Field.TheVariants as field
use Rattle.std.specs.Prelude.{Result, Ok, Err}
use Rattle.outcome.specs.Refusing.{number_of, judged}
use Rattle.outcome.specs.declared.Fault.{Fault}
use Rattle.sheet_reading.specs.Reading.{told}
use Rattle.sheet_reading.specs.Told.{told_own, fittings_of, FittingsGiven, FittingsAre}
use Rattle.outcome.proofs.Questions.{given-same, part-given, part-refused}
use Rattle.sheet.proofs.Fields.{IsName, IsEnd, fitting_given}
use Rattle.sheet_reading.proofs.Named.{named-inside, named-room, named_more, named_here, named_keyed}
use Rattle.sheet_reading.proofs.Reading.{seen-name, seen-formula, seen-finish}

is_name : (s : List ℕ) (at : ℕ) (ns : List (List ℕ)) (x : List ℕ) (e : ℕ) → IsName unaided s at ns (name_field x e) ⊎ IsEnd s at ns (name_field x e) → IsName unaided s at ns (name_field x e)
is_name s at ns x e (inl i) = i
is_name s at ns x e (inr i) = let h = i.is in let z : ◌≡◌ {A = ℕ} 0 1 = cc h in absurd (omega arith)

no_formula : (s : List ℕ) (at : ℕ) (ns : List (List ℕ)) (f : Formula) (a e : ℕ) → IsName unaided s at ns (formula_field f a e) ⊎ IsEnd s at ns (formula_field f a e) → ⊥
no_formula s at ns f a e (inl i) = let h = i.is in let z : ◌≡◌ {A = ℕ} 0 1 = cc h in omega arith
no_formula s at ns f a e (inr i) = let h = i.is in let z : ◌≡◌ {A = ℕ} 0 1 = cc h in omega arith

-- ---- the field at offset at, after n names: one that is refused

module _ (s : List ℕ) (at n : ℕ) (all : Outcome (List (List ℕ))) (inv : all ≡ fitting_fields (257 - n) s at (walk_names s 5 n)) (ks : List ℕ) (known : NamesRead s 0 s n ks) where
  next : (o : Outcome paper.Field) → fitting_at s at (walk_names s 5 n) ≡ o → all ≡ (o >>= onward_fitting (fitting_fields (257 - (n + 1)) s) at (walk_names s 5 n))
  unfolding fitting_fields
  next o q = let k : 257 - n ≡ suc (257 - (n + 1)) = omega (arith, known.few) in inv ∙ rw (k, q)

  pub fit_refused : (f : Fault) → refused (number_of f.reason) f.place ≡ part seen (fitting_at s at (walk_names s 5 n)) → FittingsAre s all ks (Err f)
  fit_refused f is = next (refused (number_of f.reason) f.place) (part-refused seen (fitting_at s at (walk_names s 5 n)) (number_of f.reason) f.place is)

-- ---- the field r at offset at, after n names

module _ (s : List ℕ) (r : Field) (at n : ℕ) (said : given (shown s r) ≡ part seen (fitting_at s at (walk_names s 5 n))) where
  pub fit_formula : (a e l : ℕ) (o : Outcome (List (List ℕ))) (ks : List ℕ) (f : Fault) → r ≡ field.Formula a e l → FittingsAre s o ks (Err f)
  fit_formula a e l o ks fault is =
      let g = part-given seen (fitting_at s at (walk_names s 5 n)) (formula l a e) (rw is at said) in
      let f = seen-formula g.0 l a e g.2 in
      absurd (no_formula s at (walk_names s 5 n) f.0 a e (fitting_given s at (walk_names s 5 n) (formula_field f.0 a e) (g.1 ∙ ap given f.1)))

  module _ (all : Outcome (List (List ℕ))) (inv : all ≡ fitting_fields (257 - n) s at (walk_names s 5 n)) (ks : List ℕ) (known : NamesRead s 0 s n ks) where
    pub fit_end : r ≡ field.End → FittingsAre s all ks (Ok n)
    unfolding walk_names
    fit_end is =
        let g = part-given seen (fitting_at s at (walk_names s 5 n)) finish (rw is at said) in
        record {
          are = next s at n all inv ks known (given end_field) (g.1 ∙ ap given (seen-finish g.0 g.2));
          known = record { there = known.there; few = omega (arith, known.few); keyed = known.keyed };
        }

  module _ (a e k : ℕ) (is : r ≡ field.Name a e k) where
    it_is : fitting_at s at (walk_names s 5 n) ≡ given (name_field (between s a e) e)
    it_is =
        let g = part-given seen (fitting_at s at (walk_names s 5 n)) (name (between s a e) e k) (rw is at said) in
        g.1 ∙ ap given (seen-name g.0 (between s a e) e k g.2).0

    key : k ≡ key_of (between s a e)
    key =
        let g = part-given seen (fitting_at s at (walk_names s 5 n)) (name (between s a e) e k) (rw is at said) in
        (seen-name g.0 (between s a e) e k g.2).1

    it : IsName unaided s at (walk_names s 5 n) (name_field (between s a e) e)
    it = is_name s at (walk_names s 5 n) (between s a e) e (fitting_given s at (walk_names s 5 n) (name_field (between s a e) e) it_is)

    pub fit_room : n < 256
    fit_room = omega (arith, named-room unaided s at n a e it)

    fit_inside : e ≤ length s
    fit_inside = named-inside unaided s at n a e it

    module _ (here : at ≡ walk_end s 5 n) where
      pub fit_here : e ≡ walk_end s 5 (n + 1)
      fit_here = named_here unaided s at n a e it here

      pub fit_known : (ks : List ℕ) → NamesRead s 0 s n ks → NamesRead s 0 s (n + 1) (set ks n k)
      unfolding walk_names
      fit_known ks known =
          let z : 0 + n ≡ n = omega arith in
          record {
            fittings_there = known.fittings_there;
            there = record { ends = λ some. omega (arith, fit_inside, fit_here) };
            few = omega (arith, fit_room);
            keyed = rw z at (named_keyed unaided s at n a e it here [] 0 refl ks k (omega (arith, fit_room)) known.keyed key);
          }

      pub fit_name : (all : Outcome (List (List ℕ))) → all ≡ fitting_fields (257 - n) s at (walk_names s 5 n) → (ks : List ℕ) → NamesRead s 0 s n ks
          → all ≡ fitting_fields (257 - (n + 1)) s e (walk_names s 5 (n + 1))
      fit_name all inv ks known = next s at n all inv ks known (given (name_field (between s a e) e)) it_is ∙ rw (named_more unaided s at n a e it here)

-- ---- the header r of a fittings sheet

pub fit_start : (s ks : List ℕ) → 5 ≤ length s → length ks ≡ 256 → NamesRead s 0 s 0 ks
unfolding walk_end walk_names
fit_start s ks i sized = record { fittings_there = record { ends = λ some. i }; there = record { ends = λ some. i }; few = omega arith; keyed = record { are = refl; sized = sized } }

module _ (s : List ℕ) (r : Result ℕ Fault) (said : judged r ≡ header 1 s) where
  pub fit_good : (ed : ℕ) (ks : List ℕ) (v : Result ℕ Fault) → r ≡ Ok ed → FittingsAre s (fitting_fields 257 s 5 []) ks v → FittingsAre s (fitting_names s) ks v
  unfolding fitting_names
  fit_good ed ks v is h = let on : fitting_names s ≡ fitting_fields 257 s 5 [] = rw (← said, is) in rw on h

  pub fit_head_refused : (ks : List ℕ) (f : Fault) → r ≡ Err f → FittingsAre s (fitting_names s) ks (Err f)
  unfolding fitting_names
  fit_head_refused ks f is = rw (← said, is)

-- ---- a fittings sheet, or none

module _ (b : Bool) (f ks : List ℕ) where
  pub first_fitted : (r : Result ℕ Fault) → b ≡ true → FittingsAre f (fitting_names f) ks r → FittingsAre f (fittings_of b f) ks r
  first_fitted r e h = rw e h

  pub first-none : b ≡ false → length ks ≡ 256 → FittingsAre f (fittings_of b f) ks (Ok 0)
  unfolding walk_names
  first-none e sized =
      rw e
      (record {
        are = refl;
        known = record { there = record { ends = λ some. absurd (omega arith) }; few = omega arith; keyed = record { are = refl; sized = sized } };
      })

-- ---- the sheets of a call, by the fittings sheet's answer

by_flag : (b : Bool) (f s : List ℕ) (fs : List (List ℕ)) → fittings_of b f ≡ given fs → reading (sheets_of b f s) ≡ own fs s
unfolding reading
by_flag true f s fs is = rw is
by_flag false f s fs is = let e : [] ≡ fs = given-same [] fs is in rw (← e)

by_flag_refused : (b : Bool) (f s : List ℕ) (k p : ℕ) → fittings_of b f ≡ refused k p → reading (sheets_of b f s) ≡ unfit k p
unfolding reading
by_flag_refused true f s k p is = rw is
by_flag_refused false f s k p is = let z : ◌≡◌ {A = ℕ} 0 1 = cc is in absurd (omega arith)

module _ (b : Bool) (f s ks : List ℕ) (r : Result ℕ Fault) (are : FittingsAre f (fittings_of b f) ks r) where
  pub sheets_unfit : (e : Fault) → r ≡ Err e → unfit (number_of e.reason) e.place ≡ told (sheets_of b f s)
  unfolding told
  sheets_unfit e is = let g : fittings_of b f ≡ refused (number_of e.reason) e.place = rw is at are in rw (by_flag_refused b f s (number_of e.reason) e.place g)

  module _ (m : ℕ) (is : r ≡ Ok m) where
    names-given : FittingsGiven f (fittings_of b f) ks m
    names-given = rw is at are

    pub sheets_told : told (sheets_of b f s) ≡ told_own (walk_names f 5 m) s
    unfolding told told_own
    sheets_told = rw (by_flag b f s (walk_names f 5 m) names-given.are)
