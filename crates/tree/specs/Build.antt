-- The build.
use Rattle.std.specs.Prelude.{true, false, [], ℕ, zero, suc, ◌-◌}
use Rattle.std.specs.Prelude.{Option, None, Some}
use Rattle.std.specs.Option.{unwrap_or}
use Rattle.records.specs.Forest.{Forest, behind}
use Rattle.tree.specs.Trees.{Trees, nil, tree, ◌⊕◌, last_end}
use Rattle.tree.specs.Items.{Items, mark, span, items, repeats, first}
use Rattle.tree.specs.Pack.{run_from, run_part}
use Rattle.tree.specs.Groups.{Gathered, fresh, gather, pass, finish}
use Rattle.tree.specs.Flat.{too_deep, flattened, flat}

module _ (F b : ℕ) where
  -- What is gathered from items whose trees have depth d, under a parent of the repeat id `own`. The first k items are
  -- passed over: they stand in a part that is made already. A run that packs becomes a part; "otherwise the record
  -- becomes a tree".
  unfoldable pub walk : Items → (d k : ℕ) (own : Option ℕ) → Gathered → Gathered
  walk Items.nil d k own g = g
  walk (mark i s e n rest) d zero own g = walk rest d zero own (pass b i e g)
  walk (mark i s e n rest) d (suc k) own g = walk rest d k own g
  walk (span i s e kids rest) d zero own g =
      elim (run_from F b own i s e kids rest) [
        | Some k ↦ walk rest d k own (gather (run_part F i s e kids (first k rest)) g)
        | None ↦
            let inner : Gathered = elim (too_deep d) [
              | true ↦ flat b (repeats F i) (flattened kids []) false [] 0 (fresh e)
              | false ↦ walk kids (suc d) zero (repeats F i) (fresh e)
            ] in
            walk rest d zero own (gather (λ ts. finish F i s e inner ⊕ ts) g)
      ]
  walk (span i s e kids rest) d (suc k) own g = walk rest d k own g

  -- the first-level trees of a list: "first-level trees have depth 0", and the top is no repeat tree
  unfoldable pub first_level : (S : ℕ) → Forest → Trees
  first_level S f = let g = walk (items F None f Items.nil) 0 0 None (fresh (behind S f)) in g.loose ⊕ g.groups

-- The whole tree, which starts at S. "Length without a given one: last child's position plus length, or 0."
unfoldable pub build : (F b S top : ℕ) (given : Option ℕ) → Forest → Trees
build F b S top given f =
    let kids = first_level F b S f in
    tree (Some top) S (unwrap_or given (last_end S kids - S)) kids nil
