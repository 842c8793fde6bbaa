-- What is accepted and prepared, exit by exit: the reader's refusal, and the accepted sheets.
use Prim.Native.Nat.{ℕ, ◌≤◌, ◌<◌}
use native.Mathlib.Omega.{arith}
use mathlib.Core.Path.{◌≡◌, refl, ◌∙◌}
use mathlib.Core.Bool.{Bool, true, false}
use mathlib.Core.List.{List}
use lib.ListN.{length, get_or, take}
use Rattle.std.specs.Prelude.{Err}
use Rattle.outcome.specs.Outcome.{given}
use Rattle.outcome.specs.Refusing.{answered}
use Rattle.outcome.specs.declared.Refusal.{Refusal}
use Rattle.formula.specs.Formula.{Formula, postfix}
use Rattle.formula.proofs.Laws.{over_more}
use Rattle.sheet.specs.Sheet.{Sheets, sheets_of, own_sheet, Sheet, between, codes_of, formula_in}
use Rattle.sheet_codes.specs.Codes.{CodesStand}
use Rattle.sheet_descent.specs.Descent.{in_postfix, GoodIn}
use Rattle.sheet_reading.specs.Reading.{told}
use Rattle.sheet_reading.specs.declared.Read.{Read}
use Rattle.sheet_reading.proofs.Settled.{read_err}
use Rattle.sheet_reading.proofs.Told.{Known, read_known, known_facts, formula-ordered, formula-inside, formula-fits, header_there, few_names, formula-said}
use Rattle.contraction.specs.declared.Records.{Records}
use Rattle.tree_dwarf.specs.Dwarfed.{Plans, Planned, Dwarfed}
use Rattle.tree_dwarf.specs.declared.Figures.{Figures}
use Rattle.accepting.specs.Accepting.{accepted}
use Rattle.accepting.proofs.Accepted.{accepted-given, never_8}
use Rattle.accepting.specs.Prepared.{Coded, Stands}

-- ---- sheets accepted

pub sheet-refused : (c : Sheets) (e : Refusal) → answered {A = Read} (Err e) ≡ told c → accepted c ≡ answered (Err e)
sheet-refused c e said = never_8 c ∙ read_err c e said

module _ (c : Sheets) (a : Read) (said : given a ≡ told c) where
  known : Known c a.names a.leaves a.first a.past
  known = read_known c a said

  pub ordered : a.first ≤ a.past
  ordered = formula-ordered c a.names a.leaves a.first a.past known

  -- the codes put into the array are those of the formula, in postfix order
  ready : (array : List ℕ) (count : ℕ) → CodesStand (in_postfix (formula_in (get_or (own_sheet c) 4 0) a.names 0 0 (codes_of (between (own_sheet c) a.first a.past)))) array count
      → (r : Sheet) × Coded c r a.names count array
  ready array count said-stand =
      let stand : CodesStand (postfix known.sheet.formula) array count = rw (formula-said c a.names a.leaves a.first a.past known) at said-stand in (
        known.sheet,
        record {
          is = accepted-given c known.sheet known.read;
          names_are = known.names_are;
          few_codes = omega (arith, stand.all, (known_facts c a.names a.leaves a.first a.past known).own.few_codes);
          codes_are = stand.are;
          facts = known_facts c a.names a.leaves a.first a.past known;
        },
      )

-- The customer's sheet is that of the flag's pair.
own_of : (b : Bool) (f s : List ℕ) → own_sheet (sheets_of b f s) ≡ s
own_of true f s = refl
own_of false f s = refl

module _ (b : Bool) (f s : List ℕ) (a : Read) (said : given a ≡ told (sheets_of b f s)) where
  abbrev both : Sheets
  both = sheets_of b f s

  pub inside : a.past ≤ length s
  inside = rw (own_of b f s) at (formula-inside both a.names a.leaves a.first a.past (known both a said))

  pub headed : 4 < length s
  headed = rw (own_of b f s) at (header_there both a.names a.leaves a.first a.past (known both a said))

  good_own : (array : List ℕ) → length array ≡ 2048 → GoodIn (get_or (own_sheet both) 4 0) a.names (between (own_sheet both) a.first a.past) array
  good_own array sized =
      let k = known both a said in
      record {
        few_names = omega (arith, few_names both a.names a.leaves a.first a.past k);
        fits = formula-fits both a.names a.leaves a.first a.past k array sized;
        formula = k.sheet.formula;
        is = formula-said both a.names a.leaves a.first a.past k;
      }

  pub fit : (array : List ℕ) → length array ≡ 2048 → GoodIn (get_or s 4 0) a.names (between s a.first a.past) array
  fit array sized = rw (own_of b f s) at (good_own array sized)

  pub coded-given : (array : List ℕ) (count : ℕ) → CodesStand (in_postfix (formula_in (get_or s 4 0) a.names 0 0 (codes_of (between s a.first a.past)))) array count
      → (r : Sheet) × Coded both r a.names count array
  coded-given array count stand = ready both a said array count (rw (own_of b f s) stand)

-- ---- and prepared

module _ (s : Sheets) (codes : List ℕ) (names n : ℕ) (coded : (x : Sheet) × Coded s x names n codes) where
  pub few_codes : n ≤ 2047
  few_codes = coded.1.few_codes

  plans : Plans coded.0.formula (take n codes)
  plans =
      let a = coded.1.facts.own in
      record { over = over_more coded.0.formula _ 256 a.good_names.few a.over; codes_are = coded.1.codes_are }

  pub planned : Planned (take n codes)
  planned = record { formula = coded.0.formula; plans = plans }

  -- what is built of any formula that the codes are is built of the sheet's
  pub built : (rs : Records) (b : Figures) → ((g : Formula) → Plans g (take n codes) → Dwarfed g rs b) → (r : Sheet) × Stands s r names n b codes rs
  built rs b builds = (coded.0, record { coded = coded.1; built = builds coded.0.formula plans })
