-- `cells::linking::name_if` meets its contract: nothing is put on, or four words and the new limit. Assumes nothing.
use Rattle.std.proofs.Common.{ℕ, ◌+◌, ◌*◌, List}
use mathlib.Core.Path.{sym, subst, ◌∙◌}
use Rattle.words.proofs.Stores.{put_four}
use Rattle.cells.specs.Open.{Put}
use Rattle.cells.proofs.Links.{put_none, put_some}
use Rattle.cells.proofs.linking.name_if.Goals as goal

pub returns-then-x-eq0 : goal.returns-then-x-eq0
returns-then-x-eq0 c =
    let a = c.args in
    put_none a.links.now a.s.top a.s.limit a.x a.d.after a.d.within a.d.base c.if-x-eq0.true

pub returns : goal.returns
returns c =
    let a = c.args in
    let four = put_four a.links.now (a.s.top * 4) a.x a.d.after a.d.within a.d.base c.requires in
    subst (λ (w : List ℕ). Put a.links.now w a.s.top a.s.limit (a.s.top + 1) c.lower-limit.result a.x a.d.after a.d.within a.d.base) (four ∙ sym c.put.ensures)
    (put_some a.links.now a.s.top a.s.limit a.x a.d.after a.d.within a.d.base c.lower-limit.result c.if-x-eq0.false c.requires c.lower-limit.ensures)
