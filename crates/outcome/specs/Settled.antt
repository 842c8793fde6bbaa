-- What a promise settles. A promise says of a job's outcome, the lists as lent, an answer and the lists after the call whether they meet it.
use Rattle.std.specs.Prelude.{ℕ, ◌≡◌}

module _ {O A L : Type 0} (Meets : O → L → A → L → Type 0) where
  -- Two results that meet it are equal.
  abbrev pub Unique : Type 0
  Unique = (o : O) (lent : L) (r q : A) (after other : L) → Meets o lent r after → Meets o lent q other → (r ≡ q) × (after ≡ other)

  -- A refusal is answered only where it is the outcome, and then nothing is written.
  abbrev pub Refusal : (ℕ → ℕ → O) → (ℕ → ℕ → A) → Type 0
  Refusal refused Refused =
      (o : O) (lent : L) (number place : ℕ) (r : A) (after : L) → Meets o lent r after → r ≡ Refused number place → (o ≡ refused number place) × (after ≡ lent)

  -- And it is answered wherever it is the outcome.
  abbrev pub Refuses : (ℕ → ℕ → O) → (ℕ → ℕ → A) → Type 0
  Refuses refused Refused = (o : O) (lent : L) (number place : ℕ) (r : A) (after : L) → Meets o lent r after → o ≡ refused number place → r ≡ Refused number place

-- A promise on three lists that are lent one by one.
abbrev pub Three : {O A B C D : Type 0} → (O → B → C → D → A → B → C → D → Type 0) → O → (B × C × D) → A → (B × C × D) → Type 0
Three Meets o lent r after = Meets o lent.0 lent.1 lent.2 r after.0 after.1 after.2

-- A promise on answers that say something, as a promise on what they say.
abbrev pub Said : {O A V L : Type 0} → (A → V) → (O → L → A → L → Type 0) → O → L → V → L → Type 0
Said {A = A} says Meets o lent v after = (r : A) × ((says r ≡ v) × Meets o lent r after)
