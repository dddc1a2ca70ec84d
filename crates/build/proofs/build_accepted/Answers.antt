-- `build::build_accepted` meets its contract: the list is read, and its trees are written out. Assumes nothing.
use Rattle.std.proofs.Common.{length}
use Rattle.std.specs.Option.{unwrap_or}
use mathlib.Core.Path.{ap, ◌∙◌}
use Rattle.build.proofs.Listing.{write_asks, writing, built_is}
use Rattle.build.proofs.build_accepted.Goals as goal

pub write_result-requires : goal.write_result-requires
write_result-requires c =
    let a = c.args in
    let r = c.read_list-first.result in
    write_asks a.first_repeat a.bound a.start a.records.now (length a.work.now) c.requires c.read_list-first.new.work r.top r.low r.kids c.read_list-first.ensures c.read_list-first.auto.work

pub returns : goal.returns
returns c =
    let a = c.args in
    let r = c.read_list-first.result in
    let len = c.unwrap_or-length.ensures ∙ ap (unwrap_or a.given) c.saturating_sub.ensures in
    let ready = writing a.first_repeat a.bound a.start a.records.now (length a.work.now) c.requires c.read_list-first.new.work r.top r.low r.kids c.read_list-first.ensures c.read_list-first.auto.work in
    c.write_result.ensures ready
    ∙ built_is a.first_repeat a.bound a.start a.records.now (length a.work.now) c.requires c.read_list-first.new.work r.top r.low r.kids c.read_list-first.ensures c.read_list-first.auto.work
    a.top c.unwrap_or-length.result c.end_of_list-end.result a.given a.cells.now a.words.now c.end_of_list-end.ensures len
