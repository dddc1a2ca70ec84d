-- Joining, balancing and gathering keep trees in order and nested. Assumes nothing.
use mathlib.Core.Path.{◌≡◌}
use mathlib.Core.Bool.{Bool, true, false, ◌||◌}
use mathlib.Core.List.{List, [], ◌∷◌}
use Rattle.std.specs.Prelude.{Option, Some}
use Prim.Native.Nat.{ℕ, zero, suc, ◌+◌, ◌-◌, ◌≤◌, ◌<◌}
use native.Mathlib.Omega.{arith}
use native.Mathlib.Nat.{le_refl}
use lib.Dec.{ltb, leb}
use Rattle.tree.specs.Trees.{Trees, nil, tree, part, ◌⊕◌, kids_of, first_start, last_end, is_nil}
use Rattle.tree.specs.Balance.{SetType, in_set, total, share, groups, lone, is_tree, joined, placed, each, divide, balance}
use Rattle.tree.specs.Groups.{Gathered, fresh, gather, close, pass, rest_closed, finish}
use Rattle.tree.proofs.BalanceLaws.{each_groups}
use Rattle.tree.specs.Well.{Known, Well, Gathers}

module _ (T : ℕ) (Inside : ℕ → ℕ → List ℕ → Type 0) where
  abbrev pub W : (lo hi : ℕ) → Trees → Type 0
  W lo hi ts = Well T Inside lo hi ts

  pub well-≤ : (lo hi : ℕ) (ts : Trees) → W lo hi ts → lo ≤ hi
  well-≤ lo hi nil w = w
  well-≤ lo hi (tree t s l kids rest) w = omega (arith, well-≤ (s + l) hi rest w.rest)
  well-≤ lo hi (part s l ws rest) w = omega (arith, well-≤ (s + l) hi rest w.rest)

  pub well_down : (lo lo' hi : ℕ) (ts : Trees) → lo' ≤ lo → W lo hi ts → W lo' hi ts
  well_down lo lo' hi nil h w = omega arith
  well_down lo lo' hi (tree t s l kids rest) h w = record { known = w.known; starts = omega arith; inner = w.inner; rest = w.rest }
  well_down lo lo' hi (part s l ws rest) h w = record { starts = omega arith; inner = w.inner; rest = w.rest }

  pub well_up : (lo hi hi' : ℕ) (ts : Trees) → hi ≤ hi' → W lo hi ts → W lo hi' ts
  well_up lo hi hi' nil h w = omega arith
  well_up lo hi hi' (tree t s l kids rest) h w =
      record { known = w.known; starts = w.starts; inner = w.inner; rest = well_up (s + l) hi hi' rest h w.rest }
  well_up lo hi hi' (part s l ws rest) h w = record { starts = w.starts; inner = w.inner; rest = well_up (s + l) hi hi' rest h w.rest }

  pub well-⊕ : (lo m hi : ℕ) (ts us : Trees) → W lo m ts → W m hi us → W lo hi (ts ⊕ us)
  unfolding ◌⊕◌
  well-⊕ lo m hi nil us w v = well_down m lo hi us w v
  well-⊕ lo m hi (tree t s l kids rest) us w v =
      record { known = w.known; starts = w.starts; inner = w.inner; rest = well-⊕ (s + l) m hi rest us w.rest v }
  well-⊕ lo m hi (part s l ws rest) us w v = record { starts = w.starts; inner = w.inner; rest = well-⊕ (s + l) m hi rest us w.rest v }

  -- siblings end where the last one ends
  well_tight : (lo hi : ℕ) (ts : Trees) → W lo hi ts → W lo (last_end lo ts) ts × (last_end lo ts ≤ hi)
  unfolding last_end
  well_tight lo hi nil w = (le_refl lo, w)
  well_tight lo hi (tree t s l kids rest) w =
      let (a, b) = well_tight (s + l) hi rest w.rest in
      (record { known = w.known; starts = w.starts; inner = w.inner; rest = a }, b)
  well_tight lo hi (part s l ws rest) w =
      let (a, b) = well_tight (s + l) hi rest w.rest in
      (record { starts = w.starts; inner = w.inner; rest = a }, b)

  well_split : (lo hi : ℕ) (ts us : Trees) → W lo hi (ts ⊕ us) → W lo (last_end lo ts) ts × W (last_end lo ts) hi us
  unfolding ◌⊕◌ last_end
  well_split lo hi nil us w = (le_refl lo, w)
  well_split lo hi (tree t s l kids rest) us w =
      let (a, b) = well_split (s + l) hi rest us w.rest in
      (record { known = w.known; starts = w.starts; inner = w.inner; rest = a }, b)
  well_split lo hi (part s l ws rest) us w =
      let (a, b) = well_split (s + l) hi rest us w.rest in
      (record { starts = w.starts; inner = w.inner; rest = a }, b)

  -- balancing
  well_each : (f : Trees → Trees) → ((lo hi : ℕ) (g : Trees) → W lo hi g → W lo hi (f g))
      → (lo hi : ℕ) (gs : List Trees) → W lo hi (each (λ g. g) gs) → W lo hi (each f gs)
  unfolding each
  well_each f h lo hi [] w = w
  well_each f h lo hi (g ∷ gs) w =
      let (a, b) = well_split lo hi g (each (λ x. x) gs) w in
      well-⊕ lo (last_end lo g) hi (f g) (each f gs) (h lo (last_end lo g) g a) (well_each f h (last_end lo g) hi gs b)

  module _ (t : SetType) (known : Known T t.type) where
    well_joined : (lo s e hi : ℕ) (kids : Trees) → lo ≤ s → e ≤ hi → W s e kids → W lo hi (joined t s (e - s) kids)
    unfolding joined
    well_joined lo s e hi kids a b w = go (is_tree t s (e - s) kids)
      where
        go : (x : Bool) → W lo hi (elim x [ true ↦ kids | false ↦ tree t.type s (e - s) kids nil ])
        go true = well_down s lo hi kids a (well_up s e hi kids b w)
        go false =
            let end : s + (e - s) ≡ e = omega (arith, well-≤ s e kids w) in
            record { known = known; starts = a; inner = rw end w; rest = rw end b }

    module _ (again : ℕ → Trees → Trees) (keeps : (m lo hi : ℕ) (ts : Trees) → W lo hi ts → W lo hi (again m ts)) where
      well_lone : (m lo hi : ℕ) (g : Trees) → W lo hi g → W lo hi (kids_of g) → W lo hi (elim (ltb m (total t g)) [ true ↦ again m (kids_of g) | false ↦ g ])
      well_lone m lo hi g w k = go (ltb m (total t g))
        where
          go : (x : Bool) → W lo hi (elim x [ true ↦ again m (kids_of g) | false ↦ g ])
          go true = keeps m lo hi (kids_of g) k
          go false = w

      well_kids : (lo hi : ℕ) (g : Trees) → W lo hi g → W lo hi (kids_of g)
      unfolding kids_of
      well_kids lo hi nil w = w
      well_kids lo hi (tree u s l kids rest) w =
          well_down s lo hi kids w.starts (well_up s (s + l) hi kids (well-≤ (s + l) hi rest w.rest) w.inner)
      well_kids lo hi (part s l ws rest) w = well-≤ lo hi (part s l ws rest) w

      -- several trees under one
      well_several_tree : (m lo hi : ℕ) (u : Option ℕ) (s l : ℕ) (kids rest : Trees) → W lo hi (tree u s l kids rest)
          → W lo hi (joined t s (last_end (s + l) rest - s) (again m (tree u s l kids rest)))
      well_several_tree m lo hi u s l kids rest w =
          let (a, b) = well_tight (s + l) hi rest w.rest in
          well_joined lo s (last_end (s + l) rest) hi _ w.starts b
          (keeps m s (last_end (s + l) rest) (tree u s l kids rest) (record { known = w.known; starts = le_refl s; inner = w.inner; rest = a }))

      well_several_part : (m lo hi s l : ℕ) (ws : List ℕ) (rest : Trees) → W lo hi (part s l ws rest)
          → W lo hi (joined t s (last_end (s + l) rest - s) (again m (part s l ws rest)))
      well_several_part m lo hi s l ws rest w =
          let (a, b) = well_tight (s + l) hi rest w.rest in
          well_joined lo s (last_end (s + l) rest) hi _ w.starts b
          (keeps m s (last_end (s + l) rest) (part s l ws rest) (record { starts = le_refl s; inner = w.inner; rest = a }))

      well_placed : (m lo hi : ℕ) (g : Trees) → W lo hi g → W lo hi (placed again t m g)
      unfolding placed lone first_start last_end
      well_placed m lo hi nil w = well_lone m lo hi nil w (well_kids lo hi nil w)
      well_placed m lo hi (tree u s l kids nil) w = let g = tree u s l kids nil in well_lone m lo hi g w (well_kids lo hi g w)
      well_placed m lo hi (part s l ws nil) w = let g = part s l ws nil in well_lone m lo hi g w (well_kids lo hi g w)
      well_placed m lo hi (tree u s l kids (tree u' s' l' kids' rest)) w =
          let later = tree u' s' l' kids' rest in
          well_several_tree (share (total t (tree u s l kids later))) lo hi u s l kids later w
      well_placed m lo hi (tree u s l kids (part s' l' ws' rest)) w =
          let later = part s' l' ws' rest in
          well_several_tree (share (total t (tree u s l kids later))) lo hi u s l kids later w
      well_placed m lo hi (part s l ws (tree u' s' l' kids' rest)) w =
          let later = tree u' s' l' kids' rest in
          well_several_part (share (total t (part s l ws later))) lo hi s l ws later w
      well_placed m lo hi (part s l ws (part s' l' ws' rest)) w =
          let later = part s' l' ws' rest in
          well_several_part (share (total t (part s l ws later))) lo hi s l ws later w

    pub well_divide : (n m lo hi : ℕ) (ts : Trees) → W lo hi ts → W lo hi (divide n t m ts)
    unfolding divide
    well_divide zero m lo hi ts w = w
    well_divide (suc n) m lo hi ts w =
        let again : ℕ → Trees → Trees = λ m' ts'. divide n t m' ts' in
        well_each (placed again t m) (well_placed again (λ m' lo' hi' ts' w'. well_divide n m' lo' hi' ts' w') m) lo hi (groups t m ts)
        (rw (each_groups t m ts) w)

    pub well_balance : (s e : ℕ) (ts : Trees) → W s e ts → W s e (balance t t s (e - s) ts)
    unfolding balance
    well_balance s e ts w = well_joined s s e e _ (le_refl s) (le_refl e) (well_divide (suc (total t ts)) (share (total t ts)) s e ts w)

  pub gathers_fresh : (e : ℕ) → Gathers T Inside e e (fresh e)
  unfolding fresh
  gathers_fresh e = record { loose = le_refl e; groups = le_refl e }

  pub gathers_down : (lo lo' hi : ℕ) (g : Gathered) → lo' ≤ lo → Gathers T Inside lo hi g → Gathers T Inside lo' hi g
  gathers_down lo lo' hi g h w = record { loose = well_down lo lo' g.edge g.loose h w.loose; groups = w.groups }

  -- a child in front
  pub gathers_gather : (lo lo' hi : ℕ) (f : Trees → Trees) (g : Gathered) → ((e : ℕ) (ts : Trees) → W lo e ts → W lo' e (f ts))
      → Gathers T Inside lo hi g → Gathers T Inside lo' hi (gather f g)
  unfolding gather
  gathers_gather lo lo' hi f g h w = record { loose = h g.edge g.loose w.loose; groups = w.groups }

  pub gathers_close : (i s lo hi : ℕ) (g : Gathered) → i < T → s ≤ lo → Gathers T Inside lo hi g → Gathers T Inside s hi (close i s g)
  unfolding close
  gathers_close i s lo hi g k h w =
      let low = well-≤ lo g.edge g.loose w.loose in
      let end : s + (g.edge - s) ≡ g.edge = omega arith in
      record {
        loose = le_refl s;
        groups = record { known = k; starts = le_refl s; inner = rw end (well_down lo s g.edge g.loose h w.loose); rest = rw end w.groups };
      }

  pub gathers_pass : (b i e lo hi : ℕ) (g : Gathered) → i < T → e ≤ lo → Gathers T Inside lo hi g → Gathers T Inside e hi (pass b i e g)
  unfolding pass
  gathers_pass b i e lo hi g k h w = go (leb (e + b) g.edge)
    where
      go : (x : Bool) → Gathers T Inside e hi (elim x [ true ↦ close i e g | false ↦ g ])
      go true = gathers_close i e lo hi g k h w
      go false = gathers_down lo e hi g h w

  pub well_rest_closed : (i s e : ℕ) (g : Gathered) → i < T → Gathers T Inside s e g → W s e (rest_closed i s g).groups
  unfolding rest_closed close
  well_rest_closed i s e g k w = go (is_nil g.loose)
    where
      go : (x : Bool) → W s e (elim x as (λ y. Gathered) [ true ↦ g | false ↦ close i s g ]).groups
      go true = well_down g.edge s e g.groups (well-≤ s g.edge g.loose w.loose) w.groups
      go false = (gathers_close i s s e g k (le_refl s) w).groups

  -- a finished tree
  pub well_finish : (F i s e : ℕ) (g : Gathered) → i < T → s ≤ e → Gathers T Inside s e g → W s e (finish F i s e g)
  unfolding finish
  well_finish F i s e g k h w = go (ltb i F || is_nil g.groups)
    where
      both : W s e (g.loose ⊕ g.groups)
      both = well-⊕ s g.edge e g.loose g.groups w.loose w.groups

      go : (x : Bool) → W s e (elim x [ true ↦ tree (Some i) s (e - s) (g.loose ⊕ g.groups) nil | false ↦ balance (in_set false (Some i)) (in_set false (Some i)) s (e - s) (rest_closed i s g).groups ])
      go true =
          let end : s + (e - s) ≡ e = omega arith in
          record { known = k; starts = le_refl s; inner = rw end both; rest = rw end (le_refl e) }
      go false = well_balance (in_set false (Some i)) k s e (rest_closed i s g).groups (well_rest_closed i s e g k w)
