-- The promise of a toggle run: the paper's numbers and values for each case of the answer, and the lent lists after the call.
use Rattle.std.specs.Prelude.{ℕ, ◌≡◌, List, length}
use Rattle.outcome.specs.Outcome.{Outcome, part}
use Rattle.outcome.specs.Lent.{after_call}
use Rattle.toggles.specs.Toggles.{Answers}

-- Of the job's outcome and the lists as lent: the lists after the call.
pub record RanLists (o : Outcome Answers) (roots counts labels roots' counts' labels' : List ℕ) : Type 0 where
  pub roots_list : roots' ≡ after_call (part (λ a. a.roots) o) roots
  pub counts_list : counts' ≡ after_call (part (λ a. a.counts) o) counts
  pub labels_list : labels' ≡ after_call (part (λ a. a.final) o) labels

-- And what the answer says: how many labels there are.
pub record Ran (o : Outcome Answers) (roots counts labels : List ℕ) (said : Outcome ℕ) (roots' counts' labels' : List ℕ) : Type 0 where
  pub answer : said ≡ part (λ a. length a.final) o
  pub lists : RanLists o roots counts labels roots' counts' labels'
