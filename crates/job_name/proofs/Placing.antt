-- Where a name stands, by what reading the sheets answers.
use Prim.Native.Nat.{ℕ, ◌+◌, ◌-◌, ◌≤◌}
use native.Mathlib.Omega.{arith}
use mathlib.Core.Path.{◌≡◌, refl, sym, ap, ◌∙◌}
use mathlib.Core.Bool.{Bool, true, false}
use mathlib.Core.List.{List, []}
use lib.ListN.{length, length-append}
use lib.Dec.{ltb}
use borrow.Author.Tests.{le-ltb}
use Rattle.outcome.specs.Outcome.{Outcome, given, refused, unfit, need, ◌>>=◌, ◌>>◌, of_fittings}
use Rattle.outcome.proofs.Questions.{bind_given, fittings-given}
use Rattle.sheet.specs.Sheet.{Sheets, alone, beside, sheets_of, Sheet, own, fitting_names, reading}
use Rattle.sheet.specs.Walk.{walk_end, walk_names}
use Rattle.sheet.specs.Guaranteed.{Own, Fitted}
use Rattle.sheet.proofs.Guaranteed.{own_guaranteed, fitted}
use Rattle.sheet.proofs.Names.{GoodNames-none, walk_length, walk_on}
use Rattle.std.specs.Prelude.{Err}
use Rattle.outcome.specs.Refusing.{answered}
use Rattle.outcome.specs.declared.Refusal.{Refusal}
use Rattle.outcome.specs.declared.Refusal.TheVariants as refusal
use Rattle.sheet_reading.specs.Reading.{told}
use Rattle.sheet_reading.specs.declared.Read.{Read}
use Rattle.sheet_reading.proofs.Settled.{read_err}
use Rattle.sheet_reading.proofs.Told.{read_known}
use Rattle.job_name.specs.Naming.{Stand, fitted_in, stand_of, placing}
use Rattle.job_name.specs.Within.{Held, placed_in, length_given, fitted_number, fitted_among, Whole, ReadAs}

-- ---- what is asked after the sheets are read, of the number of fittings and of what the sheets hold

module _ {A : Type 0} (ask : ℕ → Sheet → Outcome A) where
  pair-asked : (f s : List ℕ) (o : Outcome (List (List ℕ))) → fitting_names f ≡ o
      → (fitted_in (beside f s) >>= λ m. reading (beside f s) >>= ask m) ≡ (reading (beside f s) >>= ask (length_given o))
  unfolding reading
  pair-asked f s (given fs) e = rw e
  pair-asked f s (refused n p) e = rw e
  pair-asked f s (unfit n p) e = rw e

  pub asked-after : (c : Sheets) → (fitted_in c >>= λ m. reading c >>= ask m) ≡ (reading c >>= ask (fitted_among c))
  asked-after (alone s) = refl
  asked-after (beside f s) = pair-asked f s (fitting_names f) refl

pub asked_place : (c : Sheets) (k : ℕ) → placing c k ≡ (reading c >>= λ r. need (ltb k (length r.names)) 10 0 >> given (stand_of c (fitted_among c) k))
unfolding placing
asked_place c k = asked-after (λ m r. need (ltb k (length r.names)) 10 0 >> given (stand_of c m k)) c

pub sheet-refused : (c : Sheets) (k : ℕ) (e : Refusal) → answered {A = Read} (Err e) ≡ told c → placing c k ≡ answered {A = Stand} (Err e)
sheet-refused c k (refusal.Refused f) said = asked_place c k ∙ rw (read_err c (refusal.Refused f) said)
sheet-refused c k (refusal.Unfit f) said = asked_place c k ∙ rw (read_err c (refusal.Unfit f) said)

pub sheets_read : (c : Sheets) (a : Read) → given a ≡ told c → ReadAs c a.names
sheets_read c a said =
    let g = read_known c a said in
    record { held = g.sheet; read = g.read; names_are = g.names_are }

-- ---- the sheets are read, the customer's alone

pub own_end : (fs : List (List ℕ)) (s : List ℕ) (r : Sheet) (g : Own fs s r) → walk_end s 5 g.owned ≤ length s
own_end fs s r g = omega (arith, g.follows, g.some_bytes, g.ends)

pub own-all : (fs : List (List ℕ)) (s : List ℕ) (r : Sheet) (g : Own fs s r) → length r.names ≡ length fs + g.owned
own-all fs s r g = ap length g.names_are ∙ length-append fs (walk_names s 5 g.owned) ∙ rw (walk_length s 5 g.owned)

module _ (s : List ℕ) (names : ℕ) (r : ReadAs (alone s) names) where
  sheet-own : Own [] s r.held
  unfolding reading
  sheet-own = own_guaranteed [] s r.held GoodNames-none r.read

  all : names ≡ sheet-own.owned
  all = omega (arith, r.names_are, own-all [] s r.held sheet-own)

  alone-held : Held s 0 s names
  unfolding walk_end
  alone-held =
      let e = own_end [] s r.held sheet-own in
      record { fittings_inside = omega (arith, e, walk_on s 5 sheet-own.owned); inside = rw all e }

  alone_few : 0 + names ≤ 256
  alone_few = omega (arith, r.names_are, sheet-own.good_names.few)

  alone-placed : (k : ℕ) (v : Outcome Stand) → v ≡ placed_in s 0 s names k → v ≡ placing (alone s) k
  unfolding placing
  alone-placed k v h =
      let n : 0 + names ≡ length r.held.names = omega (arith, r.names_are) in
      let z : k - 0 ≡ k = omega arith in
      h ∙ rw (r.read, n, z, le-ltb k 0 (omega arith))

-- ---- and beside a fittings sheet of m names

module _ (f s : List ℕ) (names : ℕ) (r : ReadAs (beside f s) names) where
  parts : (fs : List (List ℕ)) × (of_fittings (fitting_names f) ≡ given fs) × (own fs s ≡ given r.held)
  unfolding reading
  parts = bind_given (of_fittings (fitting_names f)) (λ ns. own ns s) r.held r.read

  named : fitting_names f ≡ given parts.0
  named = fittings-given (fitting_names f) parts.0 parts.1

  facts : Fitted f parts.0
  facts = fitted f parts.0 named

  pair-own : Own parts.0 s r.held
  pair-own = own_guaranteed parts.0 s r.held facts.good_names parts.2

  module _ (m : ℕ) (is : m ≡ fitted_number f) where
    number : m ≡ length parts.0
    number = is ∙ ap length_given named

    pair-all : names ≡ m + pair-own.owned
    pair-all = r.names_are ∙ own-all parts.0 s r.held pair-own ∙ ap (λ (i : ℕ). i + pair-own.owned) (sym number)

    pair-whole : Whole f m
    pair-whole = record { ends = rw number facts.ends; few = rw number facts.good_names.few }

    pair-less : m ≤ names
    pair-less = omega (arith, pair-all)

    pair_held : Held f m s (names - m)
    pair_held =
        let n : names - m ≡ pair-own.owned = omega (arith, pair-all) in
        record { fittings_inside = omega (arith, pair-whole.ends); inside = rw n (own_end parts.0 s r.held pair-own) }

    pair_few : m + (names - m) ≤ 256
    pair_few = omega (arith, pair-less, r.names_are, pair-own.good_names.few)

    pair-placed : (k : ℕ) (v : Outcome Stand) → v ≡ placed_in f m s (names - m) k → v ≡ placing (beside f s) k
    unfolding placing
    pair-placed k v h =
        let n : m + (names - m) ≡ length r.held.names = omega (arith, pair-less, r.names_are) in
        h ∙ rw (r.read, n, named, ← number)

-- ---- by the flag

module _ (b : Bool) (f s : List ℕ) (names : ℕ) (r : ReadAs (sheets_of b f s) names) where
  module _ (e : b ≡ true) where
    as_pair : ReadAs (beside f s) names
    as_pair = rw e at r

    pub whole : Whole f (fitted_number f)
    whole = pair-whole f s names as_pair (fitted_number f) refl

    module _ (m : ℕ) (is : m ≡ fitted_number f) where
      pub less : m ≤ names
      less = pair-less f s names as_pair m is

      pub held-beside : Held f m s (names - m)
      held-beside = pair_held f s names as_pair m is

      pub few_beside : m + (names - m) ≤ 256
      few_beside = pair_few f s names as_pair m is

      pub placed-beside : (k : ℕ) (v : Outcome Stand) → v ≡ placed_in f m s (names - m) k → v ≡ placing (sheets_of b f s) k
      placed-beside k v h = rw e (pair-placed f s names as_pair m is k v h)

  module _ (e : b ≡ false) where
    as_alone : ReadAs (alone s) names
    as_alone = rw e at r

    pub held-alone : Held s 0 s names
    held-alone = alone-held s names as_alone

    pub few_alone : 0 + names ≤ 256
    few_alone = alone_few s names as_alone

    pub placed-alone : (k : ℕ) (v : Outcome Stand) → v ≡ placed_in s 0 s names k → v ≡ placing (sheets_of b f s) k
    placed-alone k v h = rw e (alone-placed s names as_alone k v h)
