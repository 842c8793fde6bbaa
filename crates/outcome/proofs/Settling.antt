-- What a promise settles: proved once, for every job whose answer says a part of its outcome, and whose lists follow from the outcome and
-- from the lists as lent.
use Prim.Native.Nat.{ℕ}
use mathlib.Core.Path.{◌≡◌, sym, ap, ◌∙◌}
use Rattle.outcome.specs.Outcome.{Outcome, given, refused, unfit, part}
use Rattle.outcome.specs.Settled.{Unique, Refusal, Refuses}
use Rattle.outcome.proofs.Questions.{part-refused, part-unfit}

-- An answer is known by what it says: that leads back to it.
pub known_by : {A P : Type 0} (of : A → P) (back : P → A) → ((r : A) → back (of r) ≡ r) → (r q : A) → of r ≡ of q → r ≡ q
known_by of back known r q h = sym (known r) ∙ ap back h ∙ known q

-- The answer that says this, from the constructors of its type.
abbrev pub saying : {A B : Type 0} → (B → A) → (ℕ → ℕ → A) → (ℕ → ℕ → A) → Outcome B → A
saying Given Refused Unfit (given b) = Given b
saying Given Refused Unfit (refused number place) = Refused number place
saying Given Refused Unfit (unfit number place) = Unfit number place

-- Refusals of one kind: as outcomes, and as answers.
pub record Settled {O A L : Type 0} (Meets : O → L → A → L → Type 0) (no : ℕ → ℕ → O) (No : ℕ → ℕ → A) : Type 0 where
  pub unique : Unique Meets
  pub refusal : Refusal Meets no No
  pub refuses : Refuses Meets no No

module _ {O P A L : Type 0} {Meets : O → L → A → L → Type 0} {wrote : O → L → L} (of : A → P) (told : O → P) (same : (r q : A) → of r ≡ of q → r ≡ q)
    (answer : (o : O) (lent : L) (r : A) (after : L) → Meets o lent r after → of r ≡ told o)
    (lists : (o : O) (lent : L) (r : A) (after : L) → Meets o lent r after → after ≡ wrote o lent) where
  -- what is said of such a refusal, and by its answer; nothing else is told so; and what it writes
  pub settled : {no : ℕ → ℕ → O} {No : ℕ → ℕ → A} → ((k p : ℕ) → of (No k p) ≡ told (no k p)) → ((o : O) (k p : ℕ) → told (no k p) ≡ told o → o ≡ no k p)
      → ((k p : ℕ) (lent : L) → wrote (no k p) lent ≡ lent) → Settled Meets no No
  settled {No = No} says told-by as_lent =
      record {
        unique = λ o lent r q after other a b. (same r q (answer o lent r after a ∙ sym (answer o lent q other b)), lists o lent r after a ∙ sym (lists o lent q other b));
        refusal =
            λ o lent k p r after a is.
            let e = told-by o k p (sym (says k p) ∙ sym (ap of is) ∙ answer o lent r after a) in
            (e, lists o lent r after a ∙ ap (λ x. wrote x lent) e ∙ as_lent k p lent);
        refuses = λ o lent k p r after a is. same r (No k p) (answer o lent r after a ∙ ap told is ∙ sym (says k p));
      }

-- A report that follows from the outcome is settled by it.
pub reported : {O A L : Type 0} {Meets : O → L → A → L → Type 0} {report : O → A} {wrote : O → L → L}
    → ((o : O) (lent : L) (r : A) (after : L) → Meets o lent r after → r ≡ report o) → ((o : O) (lent : L) (r : A) (after : L) → Meets o lent r after → after ≡ wrote o lent)
    → Unique Meets
reported report lists = λ o lent r q after other a b. (report o lent r after a ∙ sym (report o lent q other b), lists o lent r after a ∙ sym (lists o lent q other b))

-- A job on sheets: of the customer's own, and of the fittings sheet.
pub record OnSheets {X A L : Type 0} (Meets : Outcome X → L → A → L → Type 0) (Refused Unfit : ℕ → ℕ → A) : Type 0 where
  pub own : Settled Meets refused Refused
  pub fittings : Settled Meets unfit Unfit

pub on_sheets : {X A B L : Type 0} {Meets : Outcome X → L → A → L → Type 0} {Refused Unfit : ℕ → ℕ → A} {wrote : Outcome X → L → L} (of : A → Outcome B) (f : X → B)
    → ((r q : A) → of r ≡ of q → r ≡ q) → ((k p : ℕ) → (of (Refused k p) ≡ refused k p) × (of (Unfit k p) ≡ unfit k p))
    → ((o : Outcome X) (lent : L) (r : A) (after : L) → Meets o lent r after → of r ≡ part f o)
    → ((o : Outcome X) (lent : L) (r : A) (after : L) → Meets o lent r after → after ≡ wrote o lent)
    → ((k p : ℕ) (lent : L) → (wrote (refused k p) lent ≡ lent) × (wrote (unfit k p) lent ≡ lent)) → OnSheets Meets Refused Unfit
on_sheets of f same says answer lists as_lent =
    record {
      own = settled of (part f) same answer lists (λ k p. (says k p).0) (part-refused f) (λ k p lent. (as_lent k p lent).0);
      fittings = settled of (part f) same answer lists (λ k p. (says k p).1) (part-unfit f) (λ k p lent. (as_lent k p lent).1);
    }
