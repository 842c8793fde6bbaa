-- What the promise to two foundries settles: two results that meet it are equal; each foundry gets what its list alone would, whatever the other's are;
-- which refusals go to both, and which to one alone.
use Prim.Native.Nat.{ℕ}
use mathlib.Core.Path.{◌≡◌, refl, ap₂}
use mathlib.Core.Bool.{Bool, true, false}
use mathlib.Core.List.{List}
use mathlib.Core.Logic.{◌⊎◌, inl, inr, ⊎_elim}
use lib.Dec.{lit<}
use lib.ListN.{length}
use Rattle.outcome.specs.Outcome.{Outcome, given, refused, unfit}
use Rattle.outcome.specs.Numbered.{Numbered}
use Rattle.outcome.proofs.NumberedLaws.{given-numbered, asks, room-asks, bind_numbered}
use Rattle.outcome.proofs.Settling.{OnSheets, on_sheets}
use Rattle.sheet.specs.Sheet.{Sheets, Sheet}
use Rattle.accepting.specs.Accepting.{accepted}
use Rattle.accepting.proofs.Accepted.{accepted-numbered}
use Rattle.toggles.specs.Toggles.{Answers}
use Rattle.job_run.specs.Running.{toggling, running}
use Rattle.outcome.specs.Refusing.{answered}
use Rattle.outcome.proofs.Judging.{answered_same}
use Rattle.job_run.specs.Ran.{Ran}
use Rattle.order_mixing.specs.Order.{mixes}
use Rattle.job_both.specs.Sharing.{sharing, serving}
use Rattle.job_both.specs.Shared.{Lists, Served, Shared}
use Rattle.job_both.specs.Alone.{list_alone}
use Rattle.job_both.specs.declared.BothAnswer.{BothAnswer}

-- what a toggle run's promise settles, of the lists of one foundry
ran : OnSheets (λ o (lent : Lists) r (after : Lists). Ran o lent.roots lent.counts lent.labels r after.roots after.counts after.labels) refused unfit
ran =
    on_sheets (λ v. v) (λ v. length v.final) (λ r q e. e) (λ k p. (refl, refl)) (λ o lent r after a. a.answer)
    (λ o lent r after a i. record { roots = a.lists.roots_list i; counts = a.lists.counts_list i; labels = a.lists.labels_list i }) (λ k p lent. (refl, refl))

-- ---- Two results that meet the promise are equal

pub both_unique : (c : Sheets) (order first second : List ℕ) (lent₁ lent₂ : Lists) (r q : BothAnswer) (after₁ after₂ other₁ other₂ : Lists)
    → Shared c order first second lent₁ lent₂ r after₁ after₂ → Shared c order first second lent₁ lent₂ q other₁ other₂
    → (r ≡ q) × (after₁ ≡ other₁) × (after₂ ≡ other₂)
both_unique c order first second lent₁ lent₂ r q after₁ after₂ other₁ other₂ a b =
    let u = ran.own.unique _ lent₁ (answered r.first) (answered q.first) after₁ other₁ a.to_first.ran b.to_first.ran in
    let v = ran.own.unique _ lent₂ (answered r.second) (answered q.second) after₂ other₂ a.to_second.ran b.to_second.ran in
    (ap₂ (λ x y. record { first = x; second = y }) (answered_same r.first q.first u.0) (answered_same r.second q.second v.0), u.1, v.1)

-- ---- Each gets exactly what its list alone would, unless refused 13

module _ (c : Sheets) (order first second toggles : List ℕ) (lent : Lists) where
  abbrev got : Outcome Answers
  got = serving (sharing c order first second) toggles (length lent.roots) (length lent.counts) (length lent.labels)

  -- where the order does not mix the lists it is 13, or the sheet's own refusal; else what the list alone gets
  served_or_13 : (o : Outcome Sheet) → accepted c ≡ o → (m : Bool) → mixes order (length first) (length second) ≡ m → (got ≡ list_alone c toggles lent) ⊎ (got ≡ refused 13 0)
  unfolding sharing serving running
  served_or_13 (given x) is true e = inl (rw (is, e))
  served_or_13 (given x) is false e = inr (rw (is, e))
  served_or_13 (refused number place) is m e = inl (rw is)
  served_or_13 (unfit number place) is m e = inl (rw is)

  served_alone : (r : Outcome ℕ) (after : Lists) → Served (sharing c order first second) toggles lent r after → (r ≡ refused 13 0 → ⊥)
      → Ran (list_alone c toggles lent) lent.roots lent.counts lent.labels r after.roots after.counts after.labels
  served_alone r after s not-13 =
      ⊎_elim (λ e. rw e at s.ran)
      (λ e. absurd (not-13 (ran.own.refuses got lent 13 0 r after s.ran e)))
      (served_or_13 (accepted c) refl (mixes order (length first) (length second)) refl)

module _ (c : Sheets) (order first second : List ℕ) (lent₁ lent₂ : Lists) (r : BothAnswer) (after₁ after₂ : Lists) (s : Shared c order first second lent₁ lent₂ r after₁ after₂) where
  pub first_alone : (answered r.first ≡ refused 13 0 → ⊥)
      → Ran (list_alone c first lent₁) lent₁.roots lent₁.counts lent₁.labels (answered r.first) after₁.roots after₁.counts after₁.labels
  first_alone = served_alone c order first second first lent₁ (answered r.first) after₁ s.to_first

  pub second-alone : (answered r.second ≡ refused 13 0 → ⊥)
      → Ran (list_alone c second lent₂) lent₂.roots lent₂.counts lent₂.labels (answered r.second) after₂.roots after₂.counts after₂.labels
  second-alone = served_alone c order first second second lent₂ (answered r.second) after₂ s.to_second

-- Isolation: two calls that agree on the sheets, on one foundry's toggles and on its lent lists, and are not refused 13, give it the same answer
-- and leave it the same lists, whatever the other's toggles and lists and the orders are.
module _ (c : Sheets) (toggles : List ℕ) (lent : Lists) where
  pub first_isolated : (order second : List ℕ) (lent₂ : Lists) (r : BothAnswer) (after after₂ : Lists) → Shared c order toggles second lent lent₂ r after after₂
      → (order' second' : List ℕ) (lent₂' : Lists) (q : BothAnswer) (other other₂ : Lists) → Shared c order' toggles second' lent lent₂' q other other₂
      → (answered r.first ≡ refused 13 0 → ⊥) → (answered q.first ≡ refused 13 0 → ⊥) → (r.first ≡ q.first) × (after ≡ other)
  first_isolated order second lent₂ r after after₂ a order' second' lent₂' q other other₂ b i j =
      let u =
      ran.own.unique (list_alone c toggles lent) lent (answered r.first) (answered q.first) after other
      (first_alone c order toggles second lent lent₂ r after after₂ a i) (first_alone c order' toggles second' lent lent₂' q other other₂ b j) in
      (answered_same r.first q.first u.0, u.1)

  pub second_isolated : (order first : List ℕ) (lent₁ : Lists) (r : BothAnswer) (after₁ after : Lists) → Shared c order first toggles lent₁ lent r after₁ after
      → (order' first' : List ℕ) (lent₁' : Lists) (q : BothAnswer) (other₁ other : Lists) → Shared c order' first' toggles lent₁' lent q other₁ other
      → (answered r.second ≡ refused 13 0 → ⊥) → (answered q.second ≡ refused 13 0 → ⊥) → (r.second ≡ q.second) × (after ≡ other)
  second_isolated order first lent₁ r after₁ after a order' first' lent₁' q other₁ other b i j =
      let u =
      ran.own.unique (list_alone c toggles lent) lent (answered r.second) (answered q.second) after other
      (second-alone c order first toggles lent₁ lent r after₁ after a i) (second-alone c order' first' toggles lent₁' lent q other₁ other b j) in
      (answered_same r.second q.second u.0, u.1)

-- ---- Which refusals go to both

module _ (c : Sheets) (order first second : List ℕ) (lent₁ lent₂ : Lists) (r : BothAnswer) (after₁ after₂ : Lists) (s : Shared c order first second lent₁ lent₂ r after₁ after₂) where
  to_each : (number place : ℕ) → ((toggles : List ℕ) (lent : Lists) → got c order first second toggles lent ≡ refused number place)
      → (answered r.first ≡ refused number place) × (answered r.second ≡ refused number place)
  to_each number place is = (
    ran.own.refuses _ lent₁ number place (answered r.first) after₁ s.to_first.ran (is first lent₁),
    ran.own.refuses _ lent₂ number place (answered r.second) after₂ s.to_second.ran (is second lent₂),
  )

  -- 1 to 8 and 17, of the customer's sheet
  pub both_sheet-refused : (number place : ℕ) → accepted c ≡ refused number place → (answered r.first ≡ refused number place) × (answered r.second ≡ refused number place)
  unfolding sharing serving
  both_sheet-refused number place is = to_each number place (λ toggles lent. rw is)

  -- and of the fittings sheet
  pub both_sheet-unfit : (number place : ℕ) → accepted c ≡ unfit number place → (answered r.first ≡ unfit number place) × (answered r.second ≡ unfit number place)
  unfolding sharing serving
  both_sheet-unfit number place is = (
    ran.fittings.refuses _ lent₁ number place (answered r.first) after₁ s.to_first.ran (rw is),
    ran.fittings.refuses _ lent₂ number place (answered r.second) after₂ s.to_second.ran (rw is),
  )

  -- 13, whatever the toggles and the lists are
  pub both_13 : (x : Sheet) → accepted c ≡ given x → mixes order (length first) (length second) ≡ false → (answered r.first ≡ refused 13 0) × (answered r.second ≡ refused 13 0)
  unfolding sharing serving
  both_13 x is e = to_each 13 0 (λ toggles lent. rw (is, e))

-- ---- A foundry that is refused keeps its lists; no refusal has number 0

module _ (o : Outcome Sheet) (toggles : List ℕ) (lent : Lists) (number place : ℕ) (r : Outcome ℕ) (after : Lists) (s : Served o toggles lent r after) where
  pub served_refusal : r ≡ refused number place
      → (serving o toggles (length lent.roots) (length lent.counts) (length lent.labels) ≡ refused number place) × (after ≡ lent)
  served_refusal = ran.own.refusal _ lent number place r after s.ran

  pub served_refuses : serving o toggles (length lent.roots) (length lent.counts) (length lent.labels) ≡ refused number place → r ≡ refused number place
  served_refuses = ran.own.refuses _ lent number place r after s.ran

  -- and of the fittings sheet
  pub served_unfit : r ≡ unfit number place
      → (serving o toggles (length lent.roots) (length lent.counts) (length lent.labels) ≡ unfit number place) × (after ≡ lent)
  served_unfit = ran.fittings.refusal _ lent number place r after s.ran

  pub served_unfits : serving o toggles (length lent.roots) (length lent.counts) (length lent.labels) ≡ unfit number place → r ≡ unfit number place
  served_unfits = ran.fittings.refuses _ lent number place r after s.ran

sharing-numbered : (c : Sheets) (order first second : List ℕ) → Numbered (sharing c order first second)
unfolding sharing
sharing-numbered c order first second = bind_numbered (accepted c) _ (accepted-numbered c) (λ x. search (asks, given-numbered, lit<))

pub served_numbered : (c : Sheets) (order first second toggles : List ℕ) (roots counts labels : ℕ) → Numbered (serving (sharing c order first second) toggles roots counts labels)
unfolding serving toggling
served_numbered c order first second toggles roots counts labels =
    bind_numbered (sharing c order first second) _ (sharing-numbered c order first second) (λ x. search (asks, room-asks, given-numbered, lit<))
