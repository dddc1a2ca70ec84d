-- `balance::note_bases` meets its contract: the cells passed have noted what they name. Assumes nothing.
use Rattle.balance.proofs.Handed.{handed}
use Rattle.balance.proofs.Noting.{noting_start, noting_ready, noting_next, noting_end}
use native.Mathlib.Omega.{arith}
use Rattle.balance.proofs.note_bases.Goals as goal

pub bounds-bases-0 : goal.bounds-bases-0
bounds-bases-0 c = omega (arith, (handed _ _ _ c.requires.given).count, c.requires.room)

pub loop-i-init : goal.loop-i-init
loop-i-init c = (c.requires.given, noting_start c.requires.given c.args.bases.now c.requires.room)

pub note_links-requires : goal.note_links-requires
note_links-requires c = let (g, s) = c.loop-i.invariant in noting_ready g s c.loop-i-test.true

pub loop-i-preserved : goal.loop-i-preserved
loop-i-preserved c = let (g, s) = c.loop-i.invariant in (g, noting_next g s c.loop-i-test.true c.note_links.ensures)

pub returns : goal.returns
returns c = let (g, s) = c.loop-i.invariant in noting_end g s (omega (arith, c.loop-i-test.false))
