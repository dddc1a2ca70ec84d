-- A list of n records makes at most 2 n + 1 cells, and so it does once it is materialised: what is gathered is weighed,
-- and each record adds at most 2. The cost c of a part is at most the number of its records. Assumes nothing.
use mathlib.Core.Path.{◌≡◌, refl}
use mathlib.Core.Bool.{Bool, true, false, ◌&&◌, ◌||◌, not}
use mathlib.Core.List.{List, [], ◌∷◌}
use Rattle.std.specs.Prelude.{Option, None, Some}
use Prim.Native.Nat.{ℕ, zero, suc, ◌+◌, ◌-◌, ◌*◌, ◌≤◌}
use native.Mathlib.Omega.{arith}
use native.Mathlib.Nat.{le_refl}
use lib.Dec.{ltb, leb}
use lib.ListN.{length}
use Rattle.records.specs.Forest.{Forest, count, behind}
use Rattle.tree.specs.Trees.{Trees, nil, tree, part, ◌⊕◌, nodes, is_nil}
use Rattle.tree.specs.Items.{Items, mark, span, same, repeats, items, records, first}
use Rattle.tree.specs.Pack.{run_from, run_part}
use Rattle.tree.specs.Balance.{in_set, same_type, all_of, total, balance}
use Rattle.tree.specs.Groups.{Gathered, fresh, gather, close, pass, rest_closed, finish}
use Rattle.tree.specs.Flat.{too_deep, Record, rec, flattened, flat_words, held_end, flat_part, hold, limit, ends, flat}
use Rattle.tree.specs.Build.{walk, first_level, build}
use Rattle.tree.specs.Materialise.{materialise}
use Rattle.tree.proofs.Reading.{after}
use Rattle.tree.proofs.RecordCounts.{records_items, records_split, length_flattened, length_hold, length_flat_words, run_short}
use Rattle.tree.proofs.SizeLaws.{size, one, quarter, size_one, nodes_materialise, size-⊕, size_balance}
use Rattle.tree.proofs.OwnLaws.{own-total-⊕, total_group, total_rest_closed, own_finish, Owned, owned_items}
use Rattle.tree.specs.Well.{own_total}

module _ (c : List ℕ → ℕ) (cheap : (ws : List ℕ) (n : ℕ) → 1 ≤ n → length ws ≤ 4 * n → c ws ≤ n) where
  module _ (t : Option ℕ) where
    -- What is gathered, weighed: cells, and one more for each tree of the own type that balancing may go by.
    weight : Gathered → ℕ
    weight g = (size c g.loose + own_total (in_set false t) g.loose) + (size c g.groups + total (in_set false t) g.groups)

    weight_close : (i s : ℕ) (g : Gathered) → weight (close i s g) ≤ 2 + weight g
    unfolding weight close size own_total
    weight_close i s g = omega (arith, total_group (in_set false t) (Some i) s (g.edge - s) g.loose g.groups)

    weight_pass : (b i e : ℕ) (g : Gathered) → weight (pass b i e g) ≤ 2 + weight g
    unfolding pass
    weight_pass b i e g = go (leb (e + b) g.edge)
      where
        go : (x : Bool) → weight (elim x [ true ↦ close i e g | false ↦ g ]) ≤ 2 + weight g
        go true = weight_close i e g
        go false = omega arith

    weight_rest_closed : (i s : ℕ) (g : Gathered) → size c (rest_closed i s g).groups + total (in_set false t) (rest_closed i s g).groups ≤ 2 + weight g
    unfolding rest_closed weight close size own_total
    weight_rest_closed i s g = go (is_nil g.loose)
      where
        go : (x : Bool) → size c (elim x as (λ y. Gathered) [ true ↦ g | false ↦ close i s g ]).groups + total (in_set false t) (elim x as (λ y. Gathered) [ true ↦ g | false ↦ close i s g ]).groups ≤ 2 + weight g
        go true = omega arith
        go false = omega (arith, total_group (in_set false t) (Some i) s (g.edge - s) g.loose g.groups)

    -- a child in front
    weight_gather : (f : Trees → Trees) (g : Gathered) (n : ℕ) → ((ts : Trees) → size c (f ts) + own_total (in_set false t) (f ts) ≤ n + (size c ts + own_total (in_set false t) ts))
        → weight (gather f g) ≤ n + weight g
    unfolding weight gather
    weight_gather f g n h = omega (arith, h g.loose)

  -- a finished tree
  size_plain : (t : Option ℕ) (i s l : ℕ) (g : Gathered) → size c (tree (Some i) s l (g.loose ⊕ g.groups) nil) ≤ 2 + weight t g
  unfolding size weight
  size_plain t i s l g = omega (arith, size-⊕ c g.loose g.groups)

  size_finish : (F i s e : ℕ) (g : Gathered) → size c (finish F i s e g) ≤ 2 + weight (repeats F i) g
  unfolding finish repeats
  size_finish F i s e g = go (ltb i F) (is_nil g.groups) refl
    where
      go : (x y : Bool) → is_nil g.groups ≡ y
          → size c (elim (x || y) [ true ↦ tree (Some i) s (e - s) (g.loose ⊕ g.groups) nil | false ↦ balance (in_set false (Some i)) (in_set false (Some i)) s (e - s) (rest_closed i s g).groups ])
          ≤ 2 + weight (elim x [ true ↦ None | false ↦ Some i ]) g
      go true y q = size_plain None i s (e - s) g
      go false true q = size_plain (Some i) i s (e - s) g
      go false false q =
          omega (arith, weight_rest_closed (Some i) i s g, size_balance c (in_set false (Some i)) s (e - s) (rest_closed i s g).groups (total_rest_closed (in_set false (Some i)) i s g q))

  module _ (t : Option ℕ) where
    one_leaf : (u : Option ℕ) (s l : ℕ) → total (in_set false t) (tree u s l nil nil) ≤ 1
    unfolding total
    one_leaf u s l = go (same_type (in_set false t) u && all_of (in_set false t) nil)
      where
        go : (x : Bool) → elim x [ true ↦ suc (total (in_set false t) nil) | false ↦ 1 ] + 0 ≤ 1
        go true = le_refl 1
        go false = le_refl 1

    leaf_weight : (u : Option ℕ) (s l : ℕ) (ts : Trees) → size c (tree u s l nil ts) + own_total (in_set false t) (tree u s l nil ts) ≤ 2 + (size c ts + own_total (in_set false t) ts)
    unfolding size own_total
    leaf_weight u s l ts = go (same_type (in_set false t) u)
      where
        go : (x : Bool) → suc (0 + size c ts) + (elim x [ true ↦ total (in_set false t) (tree u s l nil nil) | false ↦ 0 ] + own_total (in_set false t) ts) ≤ 2 + (size c ts + own_total (in_set false t) ts)
        go true = omega (arith, one_leaf u s l)
        go false = omega arith

    part_weight : (s l : ℕ) (ws : List ℕ) (n : ℕ) (ts : Trees) → 1 ≤ n → length ws ≤ 4 * n → size c (part s l ws ts) + own_total (in_set false t) (part s l ws ts) ≤ n + (size c ts + own_total (in_set false t) ts)
    unfolding size own_total
    part_weight s l ws n ts pos h = omega (arith, cheap ws n pos h)

    flat_weight : (rs : List Record) (ts : Trees) → size c (flat_part rs ts) + own_total (in_set false t) (flat_part rs ts) ≤ 2 * length rs + (size c ts + own_total (in_set false t) ts)
    unfolding flat_part
    flat_weight [] ts = omega arith
    flat_weight (rec i s e n ∷ []) ts = go (ltb 65535 (e - s))
      where
        ws : List ℕ
        ws = flat_words s 0 (rec i s e n ∷ [])

        go : (x : Bool) → size c (elim x [ true ↦ tree (Some i) s (e - s) nil ts | false ↦ part s (e - s) ws ts ])
            + own_total (in_set false t) (elim x [ true ↦ tree (Some i) s (e - s) nil ts | false ↦ part s (e - s) ws ts ]) ≤ 2 * 1 + (size c ts + own_total (in_set false t) ts)
        go true = leaf_weight (Some i) s (e - s) ts
        go false = omega (arith, part_weight s (e - s) ws 1 ts (omega arith) (omega (arith, length_flat_words s 0 (rec i s e n ∷ []))))
    flat_weight (rec i s e n ∷ r ∷ rs) ts =
        let all = rec i s e n ∷ r ∷ rs in
        omega (arith, part_weight s (held_end e (r ∷ rs) - s) (flat_words s 0 all) (length all) ts (omega arith) (omega (arith, length_flat_words s 0 all)))

    weight_flat : (b : ℕ) (own : Option ℕ) (rs : List Record) (inside : Bool) (held : List Record) (stop : ℕ) (g : Gathered)
        → weight t (flat b own rs inside held stop g) ≤ 2 * length rs + (2 * length held + weight t g)
    unfolding flat
    weight_flat b own [] inside held stop g = omega (arith, weight_gather t (flat_part held) g (2 * length held) (flat_weight held))
    weight_flat b own (rec i s e n ∷ rs) inside held stop g =
        go (inside && not (ends r held stop)) (same own i)
        (weight_flat b own rs true (hold r held) (limit b r held stop) g)
        (weight_flat b own rs false [] 0 (pass b i e g'))
        (weight_flat b own rs true (hold r []) (limit b r [] 0) g')
      where
        r : Record
        r = rec i s e n

        g' : Gathered
        g' = gather (flat_part held) g

        flushed : weight t g' ≤ 2 * length held + weight t g
        flushed = weight_gather t (flat_part held) g (2 * length held) (flat_weight held)

        go : (x y : Bool)
            → weight t (flat b own rs true (hold r held) (limit b r held stop) g) ≤ 2 * length rs + (2 * length (hold r held) + weight t g)
            → weight t (flat b own rs false [] 0 (pass b i e g')) ≤ 2 * length rs + (2 * 0 + weight t (pass b i e g'))
            → weight t (flat b own rs true (hold r []) (limit b r [] 0) g') ≤ 2 * length rs + (2 * length (hold r []) + weight t g')
            → weight t (elim x [
              | true ↦ flat b own rs true (hold r held) (limit b r held stop) g
              | false ↦ elim y [ true ↦ flat b own rs false [] 0 (pass b i e g') | false ↦ flat b own rs true (hold r []) (limit b r [] 0) g' ]
            ]) ≤ 2 * suc (length rs) + (2 * length held + weight t g)
        go true y p q u = omega (arith, length_hold i s e n held)
        go false true p q u = omega (arith, flushed, weight_pass t b i e g')
        go false false p q u = omega (arith, flushed, length_hold i s e n [])

  weight_fresh : (t : Option ℕ) (e : ℕ) → weight t (fresh e) ≡ 0
  unfolding weight fresh size own_total total
  weight_fresh t e = refl

  module _ (F b : ℕ) where
    run_weight : (own : Option ℕ) (i s e : ℕ) (kids more : Items) (ts : Trees)
        → size c (run_part F i s e kids more ts) + own_total (in_set false own) (run_part F i s e kids more ts) ≤ suc (records kids + records more) + (size c ts + own_total (in_set false own) ts)
    unfolding run_part records
    run_weight own i s e kids more ts = part_weight own _ _ _ (suc (records kids + records more)) ts (omega arith) (run_short F _ (span i s e kids more))

    weight_tree : (own : Option ℕ) (i s e : ℕ) (inner g : Gathered) → same own i ≡ false
        → weight own (gather (λ ts. finish F i s e inner ⊕ ts) g) ≤ (2 + weight (repeats F i) inner) + weight own g
    weight_tree own i s e inner g h =
        weight_gather own (λ ts. finish F i s e inner ⊕ ts) g (2 + weight (repeats F i) inner)
        (λ ts. omega (arith, size-⊕ c (finish F i s e inner) ts, own-total-⊕ (in_set false own) (finish F i s e inner) ts, own_finish own F i s e inner h, size_finish F i s e inner))

    weight_walk : (its : Items) (d k : ℕ) (own : Option ℕ) (g : Gathered) → Owned F own its
        → weight own (walk F b its d k own g) ≤ 2 * records (after k its) + weight own g
    unfolding walk after records
    weight_walk Items.nil d zero own g o = omega arith
    weight_walk Items.nil d (suc k) own g o = omega arith
    weight_walk (mark i s e n rest) d zero own g o = omega (arith, weight_walk rest d zero own (pass b i e g) o.1, weight_pass own b i e g)
    weight_walk (mark i s e n rest) d (suc k) own g o = weight_walk rest d k own g o.1
    weight_walk (span i s e kids rest) d (suc k) own g o = weight_walk rest d k own g o.2
    weight_walk (span i s e kids rest) d zero own g o =
        go (run_from F b own i s e kids rest) (λ k g'. weight_walk rest d k own g' o.2)
        (inside (too_deep d) (weight_walk kids (suc d) zero (repeats F i) (fresh e) o.1))
      where
        inner : Bool → Gathered
        inner x = elim x [ true ↦ flat b (repeats F i) (flattened kids []) false [] 0 (fresh e) | false ↦ walk F b kids (suc d) zero (repeats F i) (fresh e) ]

        inside : (x : Bool) → weight (repeats F i) (walk F b kids (suc d) zero (repeats F i) (fresh e)) ≤ 2 * records kids + weight (repeats F i) (fresh e)
            → weight (repeats F i) (inner x) ≤ 2 * records kids
        inside true ih =
            omega (arith, weight_flat (repeats F i) b (repeats F i) (flattened kids []) false [] 0 (fresh e), length_flattened kids [], weight_fresh (repeats F i) e)
        inside false ih = omega (arith, weight_fresh (repeats F i) e)

        go : (q : Option ℕ)
            → ((k : ℕ) (g' : Gathered) → weight own (walk F b rest d k own g') ≤ 2 * records (after k rest) + weight own g')
            → weight (repeats F i) (inner (too_deep d)) ≤ 2 * records kids
            → weight own (elim q [
              | Some k ↦ walk F b rest d k own (gather (run_part F i s e kids (first k rest)) g)
              | None ↦ walk F b rest d zero own (gather (λ ts. finish F i s e (inner (too_deep d)) ⊕ ts) g)
            ]) ≤ 2 * suc (records kids + records rest) + weight own g
        go (Some k) ih u =
            let more = first k rest in
            let n = suc (records kids + records more) in
            omega (arith, ih k (gather (run_part F i s e kids more) g), records_split k rest, weight_gather own (run_part F i s e kids more) g n (run_weight own i s e kids more))
        go None ih u =
            omega (arith, ih zero (gather (λ ts. finish F i s e (inner (too_deep d)) ⊕ ts) g), weight_tree own i s e (inner (too_deep d)) g o.0)

  -- the cells of a build: at most two for each record, and the top
  few_sized : (F b S top : ℕ) (given : Option ℕ) (f : Forest) → size c (build F b S top given f) ≤ 2 * count f + 1
  unfolding build first_level size weight after records
  few_sized F b S top given f =
      let its = items F None f Items.nil in
      let g = walk F b its 0 0 None (fresh (behind S f)) in
      omega (
        arith,
        weight_walk F b its 0 0 None (fresh (behind S f)) (owned_items F None f Items.nil tt),
        weight_fresh None (behind S f),
        records_items F None f Items.nil,
        size-⊕ c g.loose g.groups,
      )

-- a list of n records makes at most 2 n + 1 cells
pub few_cells : (F b S top : ℕ) (given : Option ℕ) (f : Forest) → nodes (build F b S top given f) ≤ 2 * count f + 1
few_cells F b S top given f = omega (arith, few_sized one (λ ws n pos h. pos) F b S top given f, size_one (build F b S top given f))

-- and so many again once it is materialised
pub few_materialised : (F b S top : ℕ) (given : Option ℕ) (f : Forest) → nodes (materialise (build F b S top given f)) ≤ 2 * count f + 1
few_materialised F b S top given f =
    omega (arith, few_sized quarter (λ ws n pos h. omega arith) F b S top given f, nodes_materialise (build F b S top given f))
