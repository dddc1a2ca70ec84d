-- A list of n records makes at most 4 n packed words. By induction on the items. Assumes nothing.
use mathlib.Core.Path.{◌≡◌, refl, ap}
use mathlib.Core.Bool.{Bool, true, false, ◌&&◌, ◌||◌, not}
use mathlib.Core.List.{List, [], ◌∷◌, ◌++◌, append_assoc}
use Rattle.std.specs.Prelude.{Option, None, Some}
use Prim.Native.Nat.{ℕ, zero, suc, ◌+◌, ◌-◌, ◌*◌, ◌≤◌}
use native.Mathlib.Omega.{arith}
use lib.Dec.{ltb, leb}
use lib.ListN.{length, length-append}
use Rattle.records.specs.Forest.{Forest, count, behind}
use Rattle.tree.specs.Trees.{Trees, nil, tree, part, ◌⊕◌, is_nil}
use Rattle.tree.specs.Items.{Items, mark, span, same, repeats, items, records, first}
use Rattle.tree.specs.Pack.{run_from, run_part}
use Rattle.tree.specs.Balance.{SetType, in_set, balance}
use Rattle.tree.specs.Groups.{Gathered, fresh, gather, close, pass, rest_closed, finish}
use Rattle.tree.specs.Flat.{too_deep, Record, rec, flattened, flat_words, held_end, flat_part, hold, limit, ends, flat}
use Rattle.tree.specs.Build.{walk, first_level, build}
use Rattle.tree.specs.Cells.{packed}
use Rattle.tree.proofs.Reading.{after}
use Rattle.tree.proofs.BalanceLaws.{kept_balance}
use Rattle.tree.proofs.RecordCounts.{records_items, records_split, length_flattened, length_hold, length_flat_words, run_short}

pub packed-⊕ : (ts us : Trees) → packed (ts ⊕ us) ≡ packed ts ++ packed us
unfolding packed ◌⊕◌
packed-⊕ nil us = refl
packed-⊕ (tree t s l kids rest) us = simp (packed-⊕ rest us, append_assoc)
packed-⊕ (part s l ws rest) us = simp (packed-⊕ rest us, append_assoc)

-- balancing moves no word
packed_balance : (t : SetType) (s l : ℕ) (ts : Trees) → packed (balance t t s l ts) ≡ packed ts
unfolding packed
packed_balance t s l ts = kept_balance packed refl packed-⊕ t (λ u s' l' kids rest same. refl) s l ts

-- how many words stand in trees, and in what is gathered
held_words : Trees → ℕ
held_words ts = length (packed ts)

held-⊕ : (ts us : Trees) → held_words (ts ⊕ us) ≡ held_words ts + held_words us
unfolding held_words
held-⊕ ts us = rw packed-⊕ (length-append (packed ts) (packed us))

held_tree : (t : Option ℕ) (s l : ℕ) (kids rest : Trees) → held_words (tree t s l kids rest) ≡ held_words kids + held_words rest
unfolding held_words packed
held_tree t s l kids rest = length-append (packed kids) (packed rest)

held_part : (s l : ℕ) (ws : List ℕ) (rest : Trees) → held_words (part s l ws rest) ≡ length ws + held_words rest
unfolding held_words packed
held_part s l ws rest = length-append ws (packed rest)

part_held : (s l : ℕ) (ws : List ℕ) (n : ℕ) (rest : Trees) → length ws ≤ 4 * n → held_words (part s l ws rest) ≤ 4 * n + held_words rest
part_held s l ws n rest h = omega (arith, held_part s l ws rest)

held_nil : held_words nil ≡ 0
unfolding held_words packed
held_nil = refl

all_words : Gathered → ℕ
all_words g = held_words g.loose + held_words g.groups

words_close : (i s : ℕ) (g : Gathered) → all_words (close i s g) ≡ all_words g
unfolding all_words close
words_close i s g = omega (arith, held_nil, held_tree (Some i) s (g.edge - s) g.loose g.groups)

words_pass : (b i e : ℕ) (g : Gathered) → all_words (pass b i e g) ≡ all_words g
unfolding pass
words_pass b i e g = go (leb (e + b) g.edge)
  where
    go : (x : Bool) → all_words (elim x [ true ↦ close i e g | false ↦ g ]) ≡ all_words g
    go true = words_close i e g
    go false = refl

words_rest_closed : (i s : ℕ) (g : Gathered) → held_words (rest_closed i s g).groups ≤ all_words g
unfolding rest_closed all_words close
words_rest_closed i s g = go (is_nil g.loose)
  where
    go : (x : Bool) → held_words (elim x as (λ y. Gathered) [ true ↦ g | false ↦ close i s g ]).groups ≤ all_words g
    go true = omega arith
    go false = omega (arith, held_tree (Some i) s (g.edge - s) g.loose g.groups)

words_balance : (t : SetType) (s l : ℕ) (ts : Trees) → held_words (balance t t s l ts) ≡ held_words ts
unfolding held_words
words_balance t s l ts = ap length (packed_balance t s l ts)

words_finish : (F i s e : ℕ) (g : Gathered) → held_words (finish F i s e g) ≤ all_words g
unfolding finish all_words
words_finish F i s e g = go (ltb i F || is_nil g.groups)
  where
    go : (x : Bool) → held_words (elim x [ true ↦ tree (Some i) s (e - s) (g.loose ⊕ g.groups) nil | false ↦ balance (in_set false (Some i)) (in_set false (Some i)) s (e - s) (rest_closed i s g).groups ]) ≤ all_words g
    go true = omega (arith, held_tree (Some i) s (e - s) (g.loose ⊕ g.groups) nil, held_nil, held-⊕ g.loose g.groups)
    go false = omega (arith, words_rest_closed i s g, words_balance (in_set false (Some i)) s (e - s) (rest_closed i s g).groups)

-- a child in front
words_gather : (f : Trees → Trees) (g : Gathered) (n : ℕ) → ((ts : Trees) → held_words (f ts) ≤ n + held_words ts) → all_words (gather f g) ≤ n + all_words g
unfolding all_words gather
words_gather f g n h = omega (arith, h g.loose)

-- flat parts
words_flat_part : (rs : List Record) (ts : Trees) → held_words (flat_part rs ts) ≤ 4 * length rs + held_words ts
unfolding flat_part
words_flat_part [] ts = omega arith
words_flat_part (rec i s e n ∷ []) ts = go (ltb 65535 (e - s))
  where
    ws : List ℕ
    ws = flat_words s 0 (rec i s e n ∷ [])

    go : (x : Bool) → held_words (elim x [ true ↦ tree (Some i) s (e - s) nil ts | false ↦ part s (e - s) ws ts ]) ≤ 4 * 1 + held_words ts
    go true = omega (arith, held_tree (Some i) s (e - s) nil ts, held_nil)
    go false = omega (arith, held_part s (e - s) ws ts, length_flat_words s 0 (rec i s e n ∷ []))
words_flat_part (rec i s e n ∷ r ∷ rs) ts =
    let all = rec i s e n ∷ r ∷ rs in
    omega (arith, held_part s (held_end e (r ∷ rs) - s) (flat_words s 0 all) ts, length_flat_words s 0 all)

words_flat : (b : ℕ) (own : Option ℕ) (rs : List Record) (inside : Bool) (held : List Record) (stop : ℕ) (g : Gathered)
    → all_words (flat b own rs inside held stop g) ≤ 4 * length rs + (4 * length held + all_words g)
unfolding flat
words_flat b own [] inside held stop g = omega (arith, words_gather (flat_part held) g (4 * length held) (words_flat_part held))
words_flat b own (rec i s e n ∷ rs) inside held stop g =
    go (inside && not (ends r held stop)) (same own i) (words_flat b own rs true (hold r held) (limit b r held stop) g)
    (words_flat b own rs false [] 0 (pass b i e g')) (words_flat b own rs true (hold r []) (limit b r [] 0) g')
  where
    r : Record
    r = rec i s e n

    g' : Gathered
    g' = gather (flat_part held) g

    flushed : all_words g' ≤ 4 * length held + all_words g
    flushed = words_gather (flat_part held) g (4 * length held) (words_flat_part held)

    go : (x y : Bool)
        → all_words (flat b own rs true (hold r held) (limit b r held stop) g) ≤ 4 * length rs + (4 * length (hold r held) + all_words g)
        → all_words (flat b own rs false [] 0 (pass b i e g')) ≤ 4 * length rs + (4 * 0 + all_words (pass b i e g'))
        → all_words (flat b own rs true (hold r []) (limit b r [] 0) g') ≤ 4 * length rs + (4 * length (hold r []) + all_words g')
        → all_words (elim x [
          | true ↦ flat b own rs true (hold r held) (limit b r held stop) g
          | false ↦ elim y [ true ↦ flat b own rs false [] 0 (pass b i e g') | false ↦ flat b own rs true (hold r []) (limit b r [] 0) g' ]
        ]) ≤ 4 * suc (length rs) + (4 * length held + all_words g)
    go true y p q u = omega (arith, length_hold i s e n held)
    go false true p q u = omega (arith, flushed, words_pass b i e g')
    go false false p q u = omega (arith, flushed, length_hold i s e n [])

words_fresh : (e : ℕ) → all_words (fresh e) ≡ 0
unfolding all_words fresh held_words packed
words_fresh e = refl

module _ (F b : ℕ) where
  run_held : (i s e : ℕ) (kids more : Items) (ts : Trees) → held_words (run_part F i s e kids more ts) ≤ 4 * suc (records kids + records more) + held_words ts
  unfolding run_part records
  run_held i s e kids more ts = part_held _ _ _ (suc (records kids + records more)) ts (run_short F _ (span i s e kids more))

  words_walk : (its : Items) (d k : ℕ) (own : Option ℕ) (g : Gathered) → all_words (walk F b its d k own g) ≤ 4 * records (after k its) + all_words g
  unfolding walk after records
  words_walk Items.nil d zero own g = omega arith
  words_walk Items.nil d (suc k) own g = omega arith
  words_walk (mark i s e n rest) d zero own g = omega (arith, words_walk rest d zero own (pass b i e g), words_pass b i e g)
  words_walk (mark i s e n rest) d (suc k) own g = words_walk rest d k own g
  words_walk (span i s e kids rest) d (suc k) own g = words_walk rest d k own g
  words_walk (span i s e kids rest) d zero own g =
      go (run_from F b own i s e kids rest) (λ k g'. words_walk rest d k own g')
      (inside (too_deep d) (words_walk kids (suc d) zero (repeats F i) (fresh e)))
    where
      inner : Bool → Gathered
      inner x = elim x [ true ↦ flat b (repeats F i) (flattened kids []) false [] 0 (fresh e) | false ↦ walk F b kids (suc d) zero (repeats F i) (fresh e) ]

      inside : (x : Bool) → all_words (walk F b kids (suc d) zero (repeats F i) (fresh e)) ≤ 4 * records kids + all_words (fresh e) → all_words (inner x) ≤ 4 * records kids
      inside true ih = omega (arith, words_flat b (repeats F i) (flattened kids []) false [] 0 (fresh e), length_flattened kids [], words_fresh e)
      inside false ih = omega (arith, words_fresh e)

      go : (q : Option ℕ)
          → ((k : ℕ) (g' : Gathered) → all_words (walk F b rest d k own g') ≤ 4 * records (after k rest) + all_words g')
          → all_words (inner (too_deep d)) ≤ 4 * records kids
          → all_words (elim q [
            | Some k ↦ walk F b rest d k own (gather (run_part F i s e kids (first k rest)) g)
            | None ↦ walk F b rest d zero own (gather (λ ts. finish F i s e (inner (too_deep d)) ⊕ ts) g)
          ]) ≤ 4 * suc (records kids + records rest) + all_words g
      go (Some k) ih u =
          let more = first k rest in
          let here = words_gather (run_part F i s e kids more) g (4 * suc (records kids + records more)) (run_held i s e kids more) in
          omega (arith, ih k (gather (run_part F i s e kids more) g), records_split k rest)
      go None ih u =
          let t = finish F i s e (inner (too_deep d)) in
          let here = words_gather (λ ts. t ⊕ ts) g (4 * records kids) (λ ts. omega (arith, held-⊕ t ts, words_finish F i s e (inner (too_deep d)))) in
          omega (arith, ih zero (gather (λ ts. t ⊕ ts) g))

-- the packed words of a build
pub few_words : (F b S top : ℕ) (given : Option ℕ) (f : Forest) → length (packed (build F b S top given f)) ≤ 4 * count f
unfolding build first_level all_words after records held_words packed
few_words F b S top given f =
    let its = items F None f Items.nil in
    let g = walk F b its 0 0 None (fresh (behind S f)) in
    omega (
      arith,
      words_walk F b its 0 0 None (fresh (behind S f)),
      words_fresh (behind S f),
      records_items F None f Items.nil,
      held-⊕ g.loose g.groups,
      length-append (packed (g.loose ⊕ g.groups)) [],
    )
