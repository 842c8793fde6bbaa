-- `sheet_reading::read_own` meets its contract.
use borrow.Author.Rules.{rules}
use Rattle.sheet_reading.proofs.Reading.{beside_known, head_edition, head_good, head_refused}
use Rattle.sheet_reading.proofs.read_own.Goals as goal

pub returns-in_err-edition : goal.returns-in_err-edition
returns-in_err-edition c =
    let e = head_refused c.args.sheet.now c.args.fittings.now c.args.fitted _ _ c.in_err-edition.ensures in
    rw e (search rules)

pub read_fields-requires : goal.read_fields-requires
read_fields-requires c = (search beside_known, search (head_edition, rules))

pub returns : goal.returns
returns c =
    let e = head_good c.args.sheet.now c.in_ok-edition.edition c.in_ok-edition.ensures c.args.fittings.now c.args.fitted in
    rw e (search rules)
