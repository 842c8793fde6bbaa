use Rattle.std.proofs.Common.{rules, tests}
use mathlib.Core.Path.{◌∙◌}
use mathlib.Core.Bool.{◌&&◌}
use lib.Dec.{leb}
use Rattle.std.proofs.lemmas.Iterator.{YieldsList-from_slice}
use Rattle.std.proofs.lemmas.Iterator.Search.{all_from_yields_List}
use Rattle.sheet_names.proofs.NameSteps.{good_all}
use Rattle.sheet_names.proofs.good_bytes.Goals as goal

pub returns : goal.returns
returns c =
    all_from_yields_List (λ x. leb 0x21 x && leb x 0x7E) _ _ c.all.result c.all.ensures.ran (YieldsList-from_slice c.args.b.now cc) (λ x b q k. search (rules, tests))
    ∙ good_all c.args.b.now
