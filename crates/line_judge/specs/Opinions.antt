-- An opinion as it is answered.
use Rattle.line_opinion.specs.Judging.{Opinion, right, wrong_at}
use Rattle.line_judge.specs.declared.Opinion as said
use Rattle.line_judge.specs.declared.Opinion.TheVariants as saying

-- The opinion in the paper's values.
abbrev pub opinion_of : said.Opinion → Opinion
opinion_of saying.Right = right
opinion_of (saying.Wrong index) = wrong_at index
