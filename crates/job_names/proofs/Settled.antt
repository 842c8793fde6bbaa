-- What the promise of asking for all names settles: two results that meet it are equal; it refuses exactly when the rules say, and then
-- writes nothing; and each name stands where asking for it alone says.
use Prim.Native.Nat.{ℕ, ◌≤◌, ◌<◌}
use mathlib.Core.Path.{◌≡◌, refl, sym, ◌∙◌}
use mathlib.Core.List.{List}
use lib.ListN.{length, get_or}
use Rattle.outcome.specs.Outcome.{given, refused, unfit}
use Rattle.outcome.specs.Numbered.{Numbered}
use Rattle.outcome.specs.Settled.{Unique, Refusal, Refuses, Said, Three}
use Rattle.outcome.proofs.NumberedLaws.{given-numbered, room-asks, bind_numbered}
use Rattle.outcome.proofs.Settling.{OnSheets, on_sheets}
use Rattle.outcome.proofs.Judging.{answered_same}
use Rattle.outcome.specs.Refusing.{answered}
use Rattle.sheet.specs.Sheet.{Sheets, reading}
use Rattle.sheet.proofs.Numbered.{reading-numbered}
use Rattle.job_name.specs.Naming.{Stand, stand, placing}
use Rattle.job_names.specs.Names.{placing_all, giving_all, naming_all}
use Rattle.job_names.specs.NamedAll.{NamedAll}
use Rattle.job_names.proofs.Giving.{asked-all}
use Rattle.job_names.proofs.Each as each

-- as a promise on what the answer says
names-settled : OnSheets (Said answered (Three NamedAll)) refused unfit
names-settled =
    on_sheets (λ v. v) length (λ r q e. e) (λ k p. (refl, refl)) (λ o lent v after a. sym a.1.0 ∙ a.1.1.answer)
    (λ o lent v after a i. (a.1.1.lists.sheets_list i, a.1.1.lists.firsts_list i, a.1.1.lists.pasts_list i)) (λ k p lent. (refl, refl))

pub names_unique : Unique (Three NamedAll)
names_unique = λ o lent r q after other a b. (answered_same r q (a.answer ∙ sym b.answer), (names-settled.own.unique o lent (answered r) (answered q) after other (r, (refl, a)) (q, (refl, b))).1)

pub names_refusal : Refusal (Said answered (Three NamedAll)) refused refused
names_refusal = names-settled.own.refusal

pub names-refuses : Refuses (Said answered (Three NamedAll)) refused refused
names-refuses = names-settled.own.refuses

-- and of the fittings sheet
pub names-unfit : Refusal (Said answered (Three NamedAll)) unfit unfit
names-unfit = names-settled.fittings.refusal

pub names_unfits : Refuses (Said answered (Three NamedAll)) unfit unfit
names_unfits = names-settled.fittings.refuses

-- No refusal has number 0.
pub names-numbered : (c : Sheets) (sheets firsts pasts : ℕ) → Numbered (naming_all c sheets firsts pasts)
unfolding naming_all giving_all
names-numbered c sheets firsts pasts =
    bind_numbered (placing_all c) _ (rw (asked-all c) (bind_numbered (reading c) _ (reading-numbered c) (λ r. given-numbered _))) (λ stands. search (room-asks, given-numbered))

-- Each name stands where asking for it alone says.
module _ (c : Sheets) (stands : List Stand) (is : placing_all c ≡ given stands) (k : ℕ) where
  pub each_placed : k < length stands → placing c k ≡ given (get_or stands k (stand 0 0 0))
  each_placed = each.each_placed c stands is k

  pub past-placed : length stands ≤ k → placing c k ≡ refused 10 0
  past-placed = each.past-placed c stands is k
