use Rattle.job_names.proofs.Listing.{listing_start, listing_done, listing_inside, sheets_long, firsts_long, pasts_long, sheets_short, firsts_short, pasts_short, listing_next}
use borrow.Author.Rules.{rules}
use Rattle.job_names.proofs.list_sheet.Goals as goal

pub loop-i-init : goal.loop-i-init
loop-i-init c = search (listing_start, rules)

pub past-past-requires : goal.past-past-requires
past-past-requires c = search listing_inside

pub bounds-sheets-i : goal.bounds-sheets-i
bounds-sheets-i c = search sheets_short

pub bounds-firsts-i : goal.bounds-firsts-i
bounds-firsts-i c = search firsts_short

pub bounds-pasts-i : goal.bounds-pasts-i
bounds-pasts-i c = search pasts_short

pub loop-i-preserved : goal.loop-i-preserved
loop-i-preserved c = search listing_next

pub shape_of-sheets : goal.shape_of-sheets
shape_of-sheets c = search sheets_long

pub shape_of-firsts : goal.shape_of-firsts
shape_of-firsts c = search firsts_long

pub shape_of-pasts : goal.shape_of-pasts
shape_of-pasts c = search pasts_long

pub returns : goal.returns
returns c = search listing_done
