-- `gateway::tell` meets its contract: the words are stored one by one. Assumes nothing.
use mathlib.Core.Path.{◌≡◌, refl, sym, ap, ◌∙◌}
use mathlib.Core.List.{map}
use Prim.Native.Nat.{◌+◌, ◌<◌}
use lib.ListN.{length, drop, get_or, set}
use Rattle.gateway.specs.Told.{as_word}
use Rattle.gateway.proofs.Telling.{stored, laid_stored, stored_next, stored_all, set_kept}
use Rattle.gateway.proofs.tell.Goals as goal

pub loop-i-init : goal.loop-i-init
loop-i-init c = (refl, laid_stored _ _)

pub loop-i-preserved : goal.loop-i-preserved
loop-i-preserved c =
    let w = c.args.numbers.now in
    let e : c.put.new.info ≡ set c.loop-i.info c.loop-i.i (as_word (get_or w c.loop-i.i 0)) = c.put.ensures in
    let l : c.loop-i.i < length w = c.loop-i-test.true in (
      set_kept c.loop-i.info _ c.args.info.now c.loop-i.i _ e c.loop-i.invariant.0,
      c.loop-i.invariant.1 ∙ (stored_next c.loop-i.i c.loop-i.i w c.loop-i.info l ∙ ap (stored (c.loop-i.i + 1) (map as_word (drop (c.loop-i.i + 1) w))) (sym e)),
    )

pub returns : goal.returns
returns c = sym (c.loop-i.invariant.1 ∙ stored_all _ _ _ _ c.loop-i-test.false)
