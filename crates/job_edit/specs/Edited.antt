-- The promise of a toggle run with edits: its answer, which is one of a toggle run, and the lent lists after the call.
use Rattle.std.specs.Prelude.{ℕ, ◌≡◌, length}
use Rattle.outcome.specs.Outcome.{Outcome, part}
use Rattle.outcome.specs.Lent.{after_call}
use Rattle.edit_mix.specs.Edits.{Answers}
use Rattle.job_edit.specs.Editing.{Lists}

-- Of the job's outcome and the lists as lent: the lists after the call.
pub record EditedLists (o : Outcome Answers) (lent after : Lists) : Type 0 where
  pub roots_list : after.roots ≡ after_call (part (λ a. a.roots) o) lent.roots
  pub counts_list : after.counts ≡ after_call (part (λ a. a.counts) o) lent.counts
  pub labels_list : after.labels ≡ after_call (part (λ a. a.final) o) lent.labels
  pub edit_counts_list : after.edit_counts ≡ after_call (part (λ a. a.edit_counts) o) lent.edit_counts

-- And what the answer says: how many labels there are.
pub record Edited (o : Outcome Answers) (lent : Lists) (said : Outcome ℕ) (after : Lists) : Type 0 where
  pub answer : said ≡ part (λ a. length a.final) o
  pub lists : EditedLists o lent after
