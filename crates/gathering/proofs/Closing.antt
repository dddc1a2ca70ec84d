-- The loose children of a tree become a group. Assumes nothing.
use mathlib.Core.Path.{◌≡◌, refl}
use mathlib.Core.Bool.{false}
use mathlib.Core.List.{List}
use Rattle.std.specs.Prelude.{Some}
use Prim.Native.Nat.{ℕ, ◌+◌, ◌-◌}
use Rattle.tree.specs.Groups.{close}
use Rattle.tree.specs.Cells.{kind, id_word}
use Rattle.store.specs.Store.{PushedTree}
use Rattle.gathering.specs.Gathering.{Closed}

pub closed : {w w' : List ℕ} {top i s groups loose edge len made : ℕ} → len ≡ edge - s → PushedTree w w' top 1 i s len loose groups made
    → Closed w w' top i s groups loose edge (top + 10) made 0 s
unfolding close kind id_word
closed {i = i} el q = record {
  top_is = refl;
  kept = q.kept;
  holds = λ base low g live above free h. record {
    groups_at = rw (h.edge_is, ← el) (q.holds false base low (Some i) g.loose g.groups live above free refl refl h.loose_at h.groups_at);
    loose_at = refl;
    edge_is = refl;
  };
}
