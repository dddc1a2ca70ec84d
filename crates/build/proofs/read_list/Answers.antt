-- `build::read_list` meets its contract: the take loop begins where no record is read. Assumes nothing.
use mathlib.Core.Path.{refl}
use Prim.Native.Nat.{◌/◌}
use native.Mathlib.Omega.{arith}
use lib.ListN.{length}
use Rattle.build.proofs.Listing.{begins, read}
use Rattle.build.proofs.read_list.Goals as goal

pub take_nodes-requires : goal.take_nodes-requires
take_nodes-requires c =
    begins c.args.first_repeat c.args.bound c.args.start c.args.records.now (length c.args.work.now) c.requires.listed c.args.work.now c.count_repeats.new.work refl c.count_repeats.ensures c.args.end c.requires.end_value (record { place = length c.args.records.now / 4; start = 0; mark = 0; edge = 0 }) (omega arith)

pub returns : goal.returns
returns c =
    read c.args.first_repeat c.args.bound c.args.start c.args.records.now (length c.args.work.now) c.requires.listed c.args.work.now c.count_repeats.new.work refl c.count_repeats.ensures c.args.end c.requires.end_value (record { place = length c.args.records.now / 4; start = 0; mark = 0; edge = 0 }) (omega arith) c.take_nodes.new.work c.take_nodes.result.top c.take_nodes.result.low c.take_nodes.result.kids c.take_nodes.ensures
