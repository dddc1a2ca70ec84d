-- What the loop over a tree deeper than 2,500 asks and leaves. Nothing here is needed to read what a call promises.
use Rattle.std.specs.Prelude.{List, [], false, ℕ, ◌+◌, ◌-◌, ◌*◌, ◌≤◌, ◌<◌, length, Option}
use Rattle.tree.specs.Items.{Items}
use Rattle.tree.specs.Groups.{Gathered}
use Rattle.tree.specs.Flat.{flattened, flat}
use Rattle.store.specs.Store.{Same}
use Rattle.gathering.specs.Gathering.{HoldsGathered}
use Rattle.gathering.specs.Gathering.{due}
use Rattle.cursor.specs.Spells.{Stands}
use Rattle.tree.specs.Ordered.{Fits}

-- Items that stand from record lo up to p under the repeat id `own`, and what their tree has gathered so far: 24 words for
-- each unit that is due and 40 for each record are free between `top` and `low`.
pub record FlatReady (w l : List ℕ) (p lo : ℕ) (own : Option ℕ) (b top low groups loose edge : ℕ) : Type 0 where
  pub F : ℕ
  pub T : ℕ
  pub s : ℕ
  pub e : ℕ
  pub base : ℕ
  pub its : Items
  pub g : Gathered
  pub types : T ≤ 65536
  pub bound : b ≤ 65535
  pub stands : Stands F own w lo p its
  pub ranges : Fits F T s e its
  pub live : 0 < base
  pub above : base ≤ top
  pub inside : low ≤ length l
  pub fits : low ≤ 4294967295
  pub holds : HoldsGathered l base top low groups loose edge g
  pub room : top + 24 * due own g + 40 * (p - lo) ≤ low

-- what the definition gathers from those items stands, and this is what it used of the room
pub record TakenFlat (w l l' : List ℕ) (p lo : ℕ) (own : Option ℕ) (b top low groups loose edge rtop rlow rgroups rloose redge : ℕ) : Type 0 where
  pub grown : top ≤ rtop
  pub lower : rlow ≤ low
  pub kept : Same l l' 0 top low
  pub holds : (q : FlatReady w l p lo own b top low groups loose edge)
      → HoldsGathered l' q.base rtop rlow rgroups rloose redge (flat b own (flattened q.its []) false [] 0 q.g)
  pub used : (q : FlatReady w l p lo own b top low groups loose edge)
      → rtop + 24 * due own (flat b own (flattened q.its []) false [] 0 q.g) + low ≤ rlow + top + 24 * due own q.g + 40 * (p - lo)
