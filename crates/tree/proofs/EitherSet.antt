-- The build is the same on either set, with none in place 0 or without: none of its trees is of kind 3, and over such
-- trees balancing is the same. By induction on the items. Assumes nothing.
use mathlib.Core.Path.{◌≡◌, refl, ap, ◌∙◌}
use mathlib.Core.Bool.{Bool, true, false, ◌&&◌, ◌||◌, not}
use mathlib.Core.List.{List, [], ◌∷◌}
use Rattle.std.specs.Prelude.{Option, None, Some}
use Rattle.std.specs.Option.{unwrap_or}
use Prim.Native.Nat.{ℕ, zero, suc, ◌+◌, ◌-◌}
use lib.Dec.{ltb, leb}
use Rattle.records.specs.Forest.{Forest, behind}
use Rattle.tree.specs.Trees.{Trees, nil, tree, part, ◌⊕◌, last_end, is_nil}
use Rattle.tree.specs.Items.{Items, mark, span, same, repeats, items, first}
use Rattle.tree.specs.Pack.{run_from, run_part}
use Rattle.tree.specs.Balance.{in_set, balance}
use Rattle.tree.specs.Groups.{Gathered, fresh, gather, close, pass, rest_closed, finish}
use Rattle.tree.specs.Flat.{too_deep, Record, rec, flattened, flat_words, flat_part, hold, limit, ends, flat}
use Rattle.tree.specs.Build.{walk, first_level, build}
use Rattle.tree.proofs.BalanceEither.{nones, Free, free_nil, free-⊕, free_tree, free_part, free_balance, balance_either}

-- the tree of a record, as `finish` of specs/Groups, balanced under a set that may have none in place 0
unfoldable pub finish_on : (none_first : Bool) (F i s e : ℕ) → Gathered → Trees
finish_on none_first F i s e g =
    elim (ltb i F || is_nil g.groups) [
      | true ↦ tree (Some i) s (e - s) (g.loose ⊕ g.groups) nil
      | false ↦ balance (in_set none_first (Some i)) (in_set none_first (Some i)) s (e - s) (rest_closed i s g).groups
    ]

module _ (none_first : Bool) (F b : ℕ) where
  -- what is gathered from items, as `walk` of specs/Build
  unfoldable pub walk_on : Items → (d k : ℕ) (own : Option ℕ) → Gathered → Gathered
  walk_on Items.nil d k own g = g
  walk_on (mark i s e n rest) d zero own g = walk_on rest d zero own (pass b i e g)
  walk_on (mark i s e n rest) d (suc k) own g = walk_on rest d k own g
  walk_on (span i s e kids rest) d zero own g =
      elim (run_from F b own i s e kids rest) [
        | Some k ↦ walk_on rest d k own (gather (run_part F i s e kids (first k rest)) g)
        | None ↦
            let inner : Gathered = elim (too_deep d) [
              | true ↦ flat b (repeats F i) (flattened kids []) false [] 0 (fresh e)
              | false ↦ walk_on kids (suc d) zero (repeats F i) (fresh e)
            ] in
            walk_on rest d zero own (gather (λ ts. finish_on none_first F i s e inner ⊕ ts) g)
      ]
  walk_on (span i s e kids rest) d (suc k) own g = walk_on rest d k own g

  -- the first-level trees of a list, as `first_level` of specs/Build
  unfoldable pub first_level_on : (S : ℕ) → Forest → Trees
  first_level_on S f = let g = walk_on (items F None f Items.nil) 0 0 None (fresh (behind S f)) in g.loose ⊕ g.groups

-- the whole tree, as `build` of specs/Build
unfoldable pub build_on : (none_first : Bool) (F b S top : ℕ) (given : Option ℕ) → Forest → Trees
build_on none_first F b S top given f =
    let kids = first_level_on none_first F b S f in
    tree (Some top) S (unwrap_or given (last_end S kids - S)) kids nil

-- what is gathered has no tree of kind 3
record Frees (g : Gathered) : Type 0 where
  pub loose : Free g.loose
  pub groups : Free g.groups

frees_fresh : (e : ℕ) → Frees (fresh e)
unfolding fresh
frees_fresh e = record { loose = free_nil; groups = free_nil }

-- a child in front
frees_gather : (f : Trees → Trees) (g : Gathered) → ((ts : Trees) → Free ts → Free (f ts)) → Frees g → Frees (gather f g)
unfolding gather
frees_gather f g h w = record { loose = h g.loose w.loose; groups = w.groups }

frees_close : (i s : ℕ) (g : Gathered) → Frees g → Frees (close i s g)
unfolding close
frees_close i s g w = record { loose = free_nil; groups = free_tree i s (g.edge - s) g.loose g.groups w.loose w.groups }

frees_pass : (b i e : ℕ) (g : Gathered) → Frees g → Frees (pass b i e g)
unfolding pass
frees_pass b i e g w = go (leb (e + b) g.edge)
  where
    go : (x : Bool) → Frees (elim x [ true ↦ close i e g | false ↦ g ])
    go true = frees_close i e g w
    go false = w

frees_rest_closed : (i s : ℕ) (g : Gathered) → Frees g → Frees (rest_closed i s g)
unfolding rest_closed
frees_rest_closed i s g w = go (is_nil g.loose)
  where
    go : (x : Bool) → Frees (elim x [ true ↦ g | false ↦ close i s g ])
    go true = w
    go false = frees_close i s g w

-- a finished tree
free_finish : (F i s e : ℕ) (g : Gathered) → Frees g → Free (finish F i s e g)
unfolding finish
free_finish F i s e g w = go (ltb i F || is_nil g.groups)
  where
    go : (x : Bool) → Free (elim x [ true ↦ tree (Some i) s (e - s) (g.loose ⊕ g.groups) nil | false ↦ balance (in_set false (Some i)) (in_set false (Some i)) s (e - s) (rest_closed i s g).groups ])
    go true = free_tree i s (e - s) (g.loose ⊕ g.groups) nil (free-⊕ g.loose g.groups w.loose w.groups) free_nil
    go false = free_balance i s (e - s) (rest_closed i s g).groups (frees_rest_closed i s g w).groups

finish_either : (none_first : Bool) (F i s e : ℕ) (g : Gathered) → Frees g → finish_on none_first F i s e g ≡ finish F i s e g
unfolding finish_on finish
finish_either none_first F i s e g w = go (ltb i F || is_nil g.groups)
  where
    all : Trees
    all = (rest_closed i s g).groups

    go : (x : Bool)
        → ◌≡◌ {A = Trees} (elim x [ true ↦ tree (Some i) s (e - s) (g.loose ⊕ g.groups) nil | false ↦ balance (in_set none_first (Some i)) (in_set none_first (Some i)) s (e - s) all ])
        (elim x [ true ↦ tree (Some i) s (e - s) (g.loose ⊕ g.groups) nil | false ↦ balance (in_set false (Some i)) (in_set false (Some i)) s (e - s) all ])
    go true = refl
    go false = balance_either none_first i s (e - s) all (frees_rest_closed i s g w).groups

-- flat parts
free_flat_part : (held : List Record) (ts : Trees) → Free ts → Free (flat_part held ts)
unfolding flat_part
free_flat_part [] ts h = h
free_flat_part (rec i s e n ∷ []) ts h = go (ltb 65535 (e - s))
  where
    ws : List ℕ
    ws = flat_words s 0 (rec i s e n ∷ [])

    go : (x : Bool) → Free (elim x [ true ↦ tree (Some i) s (e - s) nil ts | false ↦ part s (e - s) ws ts ])
    go true = free_tree i s (e - s) nil ts free_nil h
    go false = free_part s (e - s) ws ts h
free_flat_part (rec i s e n ∷ r ∷ rs) ts h = free_part _ _ _ ts h

frees_flat : (b : ℕ) (own : Option ℕ) (rs : List Record) (inside : Bool) (held : List Record) (stop : ℕ) (g : Gathered)
    → Frees g → Frees (flat b own rs inside held stop g)
unfolding flat
frees_flat b own [] inside held stop g w = frees_gather (flat_part held) g (free_flat_part held) w
frees_flat b own (rec i s e n ∷ rs) inside held stop g w =
    go (inside && not (ends r held stop)) (same own i) (frees_flat b own rs true (hold r held) (limit b r held stop) g w)
    (frees_flat b own rs false [] 0 (pass b i e g') (frees_pass b i e g' flushed)) (frees_flat b own rs true (hold r []) (limit b r [] 0) g' flushed)
  where
    r : Record
    r = rec i s e n

    g' : Gathered
    g' = gather (flat_part held) g

    flushed : Frees g'
    flushed = frees_gather (flat_part held) g (free_flat_part held) w

    go : (x y : Bool) → Frees (flat b own rs true (hold r held) (limit b r held stop) g) → Frees (flat b own rs false [] 0 (pass b i e g'))
        → Frees (flat b own rs true (hold r []) (limit b r [] 0) g')
        → Frees (elim x [
          | true ↦ flat b own rs true (hold r held) (limit b r held stop) g
          | false ↦ elim y [ true ↦ flat b own rs false [] 0 (pass b i e g') | false ↦ flat b own rs true (hold r []) (limit b r [] 0) g' ]
        ])
    go true y p q u = p
    go false true p q u = q
    go false false p q u = u

module _ (F b : ℕ) where
  free_run : (i s e : ℕ) (kids more : Items) (ts : Trees) → Free ts → Free (run_part F i s e kids more ts)
  unfolding run_part
  free_run i s e kids more ts h = free_part _ _ _ ts h

  -- a tree in front
  frees_tree : (i s e : ℕ) (inner g : Gathered) → Frees inner → Frees g → Frees (gather (λ ts. finish F i s e inner ⊕ ts) g)
  frees_tree i s e inner g v w = frees_gather (λ ts. finish F i s e inner ⊕ ts) g (λ ts h. free-⊕ (finish F i s e inner) ts (free_finish F i s e inner v) h) w

  frees_walk : (its : Items) (d k : ℕ) (own : Option ℕ) (g : Gathered) → Frees g → Frees (walk F b its d k own g)
  unfolding walk
  frees_walk Items.nil d k own g w = w
  frees_walk (mark i s e n rest) d zero own g w = frees_walk rest d zero own (pass b i e g) (frees_pass b i e g w)
  frees_walk (mark i s e n rest) d (suc k) own g w = frees_walk rest d k own g w
  frees_walk (span i s e kids rest) d (suc k) own g w = frees_walk rest d k own g w
  frees_walk (span i s e kids rest) d zero own g w =
      go (run_from F b own i s e kids rest) (λ k g' w'. frees_walk rest d k own g' w')
      (inside (too_deep d) (frees_walk kids (suc d) zero (repeats F i) (fresh e) (frees_fresh e)))
    where
      inner : Bool → Gathered
      inner x = elim x [ true ↦ flat b (repeats F i) (flattened kids []) false [] 0 (fresh e) | false ↦ walk F b kids (suc d) zero (repeats F i) (fresh e) ]

      inside : (x : Bool) → Frees (walk F b kids (suc d) zero (repeats F i) (fresh e)) → Frees (inner x)
      inside true ih = frees_flat b (repeats F i) (flattened kids []) false [] 0 (fresh e) (frees_fresh e)
      inside false ih = ih

      go : (q : Option ℕ) → ((k : ℕ) (g' : Gathered) → Frees g' → Frees (walk F b rest d k own g')) → Frees (inner (too_deep d))
          → Frees (elim q [
            | Some k ↦ walk F b rest d k own (gather (run_part F i s e kids (first k rest)) g)
            | None ↦ walk F b rest d zero own (gather (λ ts. finish F i s e (inner (too_deep d)) ⊕ ts) g)
          ])
      go (Some k) ih v = ih k _ (frees_gather (run_part F i s e kids (first k rest)) g (free_run i s e kids (first k rest)) w)
      go None ih v = ih zero _ (frees_tree i s e (inner (too_deep d)) g v w)

  walk_either : (none_first : Bool) (its : Items) (d k : ℕ) (own : Option ℕ) (g : Gathered) → Frees g → walk_on none_first F b its d k own g ≡ walk F b its d k own g
  unfolding walk_on walk
  walk_either none_first Items.nil d k own g w = refl
  walk_either none_first (mark i s e n rest) d zero own g w = walk_either none_first rest d zero own (pass b i e g) (frees_pass b i e g w)
  walk_either none_first (mark i s e n rest) d (suc k) own g w = walk_either none_first rest d k own g w
  walk_either none_first (span i s e kids rest) d (suc k) own g w = walk_either none_first rest d k own g w
  walk_either none_first (span i s e kids rest) d zero own g w =
      go (run_from F b own i s e kids rest) (λ k g' w'. walk_either none_first rest d k own g' w')
      (inside (too_deep d) (walk_either none_first kids (suc d) zero (repeats F i) (fresh e) (frees_fresh e)))
    where
      flats : Gathered
      flats = flat b (repeats F i) (flattened kids []) false [] 0 (fresh e)

      inner_on : Bool → Gathered
      inner_on x = elim x [ true ↦ flats | false ↦ walk_on none_first F b kids (suc d) zero (repeats F i) (fresh e) ]

      inner : Bool → Gathered
      inner x = elim x [ true ↦ flats | false ↦ walk F b kids (suc d) zero (repeats F i) (fresh e) ]

      inside : (x : Bool) → walk_on none_first F b kids (suc d) zero (repeats F i) (fresh e) ≡ walk F b kids (suc d) zero (repeats F i) (fresh e)
          → (inner_on x ≡ inner x) × Frees (inner x)
      inside true ih = (refl, frees_flat b (repeats F i) (flattened kids []) false [] 0 (fresh e) (frees_fresh e))
      inside false ih = (ih, frees_walk kids (suc d) zero (repeats F i) (fresh e) (frees_fresh e))

      go : (q : Option ℕ) → ((k : ℕ) (g' : Gathered) → Frees g' → walk_on none_first F b rest d k own g' ≡ walk F b rest d k own g')
          → (inner_on (too_deep d) ≡ inner (too_deep d)) × Frees (inner (too_deep d))
          → ◌≡◌ {A = Gathered} (elim q [
            | Some k ↦ walk_on none_first F b rest d k own (gather (run_part F i s e kids (first k rest)) g)
            | None ↦ walk_on none_first F b rest d zero own (gather (λ ts. finish_on none_first F i s e (inner_on (too_deep d)) ⊕ ts) g)
          ]) (elim q [
            | Some k ↦ walk F b rest d k own (gather (run_part F i s e kids (first k rest)) g)
            | None ↦ walk F b rest d zero own (gather (λ ts. finish F i s e (inner (too_deep d)) ⊕ ts) g)
          ])
      go (Some k) ih v = ih k _ (frees_gather (run_part F i s e kids (first k rest)) g (free_run i s e kids (first k rest)) w)
      go None ih v =
          let made : finish_on none_first F i s e (inner_on (too_deep d)) ≡ finish F i s e (inner (too_deep d)) =
          ap (finish_on none_first F i s e) v.0 ∙ finish_either none_first F i s e (inner (too_deep d)) v.1 in
          ap (λ (t : Trees). walk_on none_first F b rest d zero own (gather (λ ts. t ⊕ ts) g)) made
          ∙ ih zero _ (frees_tree i s e (inner (too_deep d)) g v.1 w)

  first_level_either : (none_first : Bool) (S : ℕ) (f : Forest) → first_level_on none_first F b S f ≡ first_level F b S f
  unfolding first_level_on first_level
  first_level_either none_first S f =
      ap (λ (g : Gathered). g.loose ⊕ g.groups) (walk_either none_first (items F None f Items.nil) 0 0 None (fresh (behind S f)) (frees_fresh (behind S f)))

  free_first_level : (S : ℕ) (f : Forest) → Free (first_level F b S f)
  unfolding first_level
  free_first_level S f =
      let w = frees_walk (items F None f Items.nil) 0 0 None (fresh (behind S f)) (frees_fresh (behind S f)) in
      free-⊕ _ _ w.loose w.groups

-- no tree of a build is of kind 3
pub build_no_none : (F b S top : ℕ) (given : Option ℕ) (f : Forest) → nones (build F b S top given f) ≡ []
unfolding build
build_no_none F b S top given f = free_tree top S _ (first_level F b S f) nil (free_first_level F b S f) free_nil

-- "The build is the same on either set."
pub either_set : (none_first : Bool) (F b S top : ℕ) (given : Option ℕ) (f : Forest) → build_on none_first F b S top given f ≡ build F b S top given f
unfolding build_on build
either_set none_first F b S top given f =
    ap (λ (kids : Trees). tree (Some top) S (unwrap_or given (last_end S kids - S)) kids nil) (first_level_either F b none_first S f)
