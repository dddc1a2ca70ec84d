-- `build::end_of_list` meets its contract, each case. Assumes nothing.
use mathlib.Core.Path.{refl}
use Rattle.records.proofs.OneRecord.{end_is}
use Rattle.build.proofs.Listing.{end_last}
use Rattle.build.proofs.end_of_list.Goals as goal

pub returns : goal.returns
returns c = end_last c.args.start c.args.records.now _ c.record_at.result.end c.if-n-eq0.false refl (end_is _ _ c.record_at.ensures)
