-- How many records have a line: record by record, and by the lines of a part. Assumes nothing.
use mathlib.Core.Path.{◌≡◌, refl, sym, ap, ◌∙◌}
use mathlib.Core.Bool.{Bool, true, false, cond}
use mathlib.Core.List.{List, [], ◌∷◌, ◌++◌}
use Rattle.std.specs.Prelude.{Option, None, Some}
use Prim.Native.Nat.{ℕ, suc, ◌+◌, ◌-◌, ◌*◌, ◌/◌, ◌≤◌, ◌<◌}
use native.Mathlib.Omega.{arith}
use borrow.Author.Tests.{lt-ltb, le-ltb}
use lib.Dec.{ltb}
use lib.ListN.{length, drop, length-append, length-drop}
use Rattle.words.specs.Words.{id_of}
use Rattle.words.proofs.Runs.{four_at}
use Rattle.records.specs.Forest.{line, depth_below}
use Rattle.tree.specs.Trees.{Trees, nil, tree, part}
use Rattle.tree.specs.Materialise.{within, beyond, unpack}
use Rattle.tree.specs.Listing.{node_line, node_below, listing}
use Rattle.tree.proofs.ListingLaws.{listing-⊕}
use Rattle.tree.proofs.PartReadBack.{within_beyond}
use Rattle.part_lines.specs.Steps.{listed_in, listed_part}

module _ (F : ℕ) where
  -- one step of the count
  module _ (ws : List ℕ) (i : ℕ) where
    listed_step : i * 4 + 4 ≤ length ws → listed_in F (drop (i * 4) ws) ≡ cond (ltb (id_of ws i) F) (listed_in F (drop ((i + 1) * 4) ws) + 1) (listed_in F (drop ((i + 1) * 4) ws))
    unfolding listed_in
    listed_step l = ap (listed_in F) (four_at ws i l)

    pub listed_hit : i * 4 + 4 ≤ length ws → id_of ws i < F → listed_in F (drop (i * 4) ws) ≡ listed_in F (drop ((i + 1) * 4) ws) + 1
    listed_hit l h = rw (lt-ltb (id_of ws i) F h) at (listed_step l)

    pub listed_miss : i * 4 + 4 ≤ length ws → F ≤ id_of ws i → listed_in F (drop (i * 4) ws) ≡ listed_in F (drop ((i + 1) * 4) ws)
    listed_miss l h = rw (le-ltb (id_of ws i) F h) at (listed_step l)

  -- fewer than four words are no record
  listed_none : (ws : List ℕ) → length ws < 4 → listed_in F ws ≡ 0
  unfolding listed_in
  listed_none [] h = refl
  listed_none (i ∷ []) h = refl
  listed_none (i ∷ s ∷ []) h = refl
  listed_none (i ∷ s ∷ e ∷ []) h = refl
  listed_none (i ∷ s ∷ e ∷ n ∷ ws) h = absurd (omega arith)

  pub listed_end : (ws : List ℕ) (i : ℕ) → length ws < i * 4 + 4 → listed_in F (drop (i * 4) ws) ≡ 0
  listed_end ws i h = listed_none (drop (i * 4) ws) (omega (arith, length-drop (i * 4) ws))

  -- at most one for each four words
  pub listed_few : (ws : List ℕ) → listed_in F ws * 4 ≤ length ws
  unfolding listed_in
  listed_few [] = omega arith
  listed_few (i ∷ []) = omega arith
  listed_few (i ∷ s ∷ []) = omega arith
  listed_few (i ∷ s ∷ e ∷ []) = omega arith
  listed_few (i ∷ s ∷ e ∷ n ∷ ws) = go (ltb i F) (listed_few ws)
    where
      go : (x : Bool) → listed_in F ws * 4 ≤ length ws → cond x (listed_in F ws + 1) (listed_in F ws) * 4 ≤ length (i ∷ s ∷ e ∷ n ∷ ws)
      go true h = omega arith
      go false h = omega arith

  -- whole records before others
  pub listed_append : (us ws : List ℕ) (k : ℕ) → length us ≡ 4 * k → listed_in F (us ++ ws) ≡ listed_in F us + listed_in F ws
  unfolding listed_in
  listed_append [] ws k h = omega arith
  listed_append (i ∷ []) ws k h = absurd (omega arith)
  listed_append (i ∷ s ∷ []) ws k h = absurd (omega arith)
  listed_append (i ∷ s ∷ e ∷ []) ws k h = absurd (omega arith)
  listed_append (i ∷ s ∷ e ∷ n ∷ us) ws k h = go (ltb i F) (listed_append us ws (k - 1) (omega arith))
    where
      go : (x : Bool) → listed_in F (us ++ ws) ≡ listed_in F us + listed_in F ws
          → cond x (listed_in F (us ++ ws) + 1) (listed_in F (us ++ ws)) ≡ cond x (listed_in F us + 1) (listed_in F us) + listed_in F ws
      go true e = omega arith
      go false e = e

  -- the number of lines does not go by the depth
  length_line : (d d' i s e : ℕ) → length (line F d i s e) ≡ length (line F d' i s e)
  unfolding line
  length_line d d' i s e = go (ltb i F)
    where
      go : (x : Bool) → length {A = ℕ} (elim x [ true ↦ d ∷ i ∷ s ∷ e ∷ [] | false ↦ [] ]) ≡ length {A = ℕ} (elim x [ true ↦ d' ∷ i ∷ s ∷ e ∷ [] | false ↦ [] ])
      go true = refl
      go false = refl

  length_own : (d d' : ℕ) (t : Option ℕ) (s e : ℕ) → length (node_line F d t s e) ≡ length (node_line F d' t s e)
  unfolding node_line
  length_own d d' None s e = refl
  length_own d d' (Some i) s e = length_line d d' i s e

  length_depth : (d d' : ℕ) (ts : Trees) → length (listing F d ts) ≡ length (listing F d' ts)
  unfolding listing
  length_depth d d' nil = refl
  length_depth d d' (tree t s l kids rest) =
      let own = node_line F d t s (s + l) in
      let own' = node_line F d' t s (s + l) in
      let in₁ = listing F (node_below F d t) kids in
      let in₂ = listing F (node_below F d' t) kids in
      omega (
        arith,
        length-append (own ++ in₁) (listing F d rest),
        length-append own in₁,
        length-append (own' ++ in₂) (listing F d' rest),
        length-append own' in₂,
        length_own d d' t s (s + l),
        length_depth (node_below F d t) (node_below F d' t) kids,
        length_depth d d' rest,
      )
  length_depth d d' (part s l ws rest) = length_depth d d' rest

  -- one line for each record that has one
  length_unpack : (p d off : ℕ) (ws : List ℕ) → length (listing F d (unpack p off ws)) ≡ 4 * listed_in F ws
  unfolding listed_in unpack listing node_line line node_below depth_below
  length_unpack p d off [] = refl
  length_unpack p d off (i ∷ []) = refl
  length_unpack p d off (i ∷ s ∷ []) = refl
  length_unpack p d off (i ∷ s ∷ e ∷ []) = refl
  length_unpack p d off (i ∷ s ∷ e ∷ n ∷ ws) = go (length_unpack p d (off + 4) ws) (ltb i F)
    where
      ts : Trees
      ts = unpack p (off + 4) ws

      k : ℕ
      k = (n - (off + 4)) / 4

      both : (d' : ℕ) → length (listing F d ts) ≡ 4 * listed_in F ws → length (listing F d' (within ts k)) + length (listing F d (beyond ts k)) ≡ 4 * listed_in F ws
      both d' all =
          let e₁ = length-append (listing F d (within ts k)) (listing F d (beyond ts k)) in
          let e₂ = ap length (sym (listing-⊕ F d (within ts k) (beyond ts k)) ∙ ap (listing F d) (within_beyond ts k)) in
          omega (arith, e₁, e₂, length_depth d' d (within ts k), all)

      go : length (listing F d ts) ≡ 4 * listed_in F ws → (x : Bool)
          → length ((elim x as (λ (y : Bool). List ℕ) [ true ↦ d ∷ i ∷ (p + s) ∷ (p + s + (e - s)) ∷ [] | false ↦ [] ] ++ listing F (elim x [ true ↦ suc d | false ↦ d ]) (within ts k)) ++ listing F d (beyond ts k))
          ≡ 4 * cond x (listed_in F ws + 1) (listed_in F ws)
      go all true = omega (arith, length-append (listing F (suc d) (within ts k)) (listing F d (beyond ts k)), both (suc d) all)
      go all false = omega (arith, length-append (listing F d (within ts k)) (listing F d (beyond ts k)), both d all)

  pub length_listed : (p d : ℕ) (ws : List ℕ) → length (listed_part F p d ws) ≡ 4 * listed_in F ws
  unfolding listed_part
  length_listed p d ws = length_unpack p d 0 ws
