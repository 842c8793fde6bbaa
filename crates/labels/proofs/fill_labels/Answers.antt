use Rattle.labels.proofs.Fills.{labels_start, labels_more, labels_end}
use Rattle.labels.proofs.fill_labels.Goals as goal

pub loop-j-init : goal.loop-j-init
loop-j-init c = labels_start _ c.told-labels

pub loop-j-preserved : goal.loop-j-preserved
loop-j-preserved c = search labels_more

pub returns : goal.returns
returns c = search labels_end
