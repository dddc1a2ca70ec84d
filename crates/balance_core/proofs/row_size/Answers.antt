-- `balance_core::row_size` meets its contract: the first group is the whole row. Assumes nothing.
use mathlib.Core.Path.{refl}
use Rattle.balance_core.proofs.OneGroup.{row_sized}
use Rattle.balance_core.proofs.row_size.Goals as goal

pub returns : goal.returns
returns c = λ p.
    let a = c.args in
    let g = c.first_group.result in
    row_sized a.work.now a.node a.k a.balance_type.kind a.balance_type.id 4294967295 p g.count g.size g.next g.end refl c.requires.le_k (c.first_group.ensures p)
