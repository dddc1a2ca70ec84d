-- A built tree keeps the cell rules, and so does what it materialises to. By induction on the items. Assumes nothing.
use mathlib.Core.Path.{◌≡◌, refl}
use mathlib.Core.Bool.{Bool, true, false, ◌&&◌, not}
use mathlib.Core.List.{List, [], ◌∷◌}
use Rattle.std.specs.Prelude.{Option, None, Some}
use Prim.Native.Nat.{ℕ, zero, suc, ◌+◌, ◌-◌, ◌/◌, ◌≤◌, ◌<◌}
use native.Mathlib.Omega.{arith}
use native.Mathlib.Nat.{le_refl}
use borrow.Author.Tests.{ltb-false}
use lib.Dec.{ltb}
use Rattle.records.specs.Forest.{Forest, behind, Nested}
use Rattle.tree.specs.Trees.{Trees, nil, tree, part, ◌⊕◌}
use Rattle.tree.specs.Materialise.{unpack, materialise}
use Rattle.tree.specs.Items.{Items, mark, span, same, repeats, items, first, leftmost}
use Rattle.tree.specs.Pack.{run_from, pack, run_part}
use Rattle.tree.specs.Groups.{Gathered, fresh, gather, pass, finish}
use Rattle.tree.specs.Flat.{too_deep, Record, rec, flattened, flat_words, held_end, flat_part, hold, limit, ends, flat}
use Rattle.tree.specs.Build.{walk, first_level}
use Rattle.tree.proofs.Reading.{after}
use Rattle.tree.proofs.PackLaws.{grown, spliced, unpack_run, within_zero, beyond_zero}
use Rattle.tree.proofs.FlatLaws.{floor-≤, Held, hold_held}
use Rattle.tree.proofs.ItemLaws.{fits-≤, from_down, fits_from, from_leftmost, leftmost-≤, fits_after, sorted_flattened, own_none, fits_items}
use Rattle.tree.proofs.WellLaws.{well_down, well_up, well-⊕, gathers_fresh, gathers_down, gathers_gather, gathers_pass, well_finish}
use Rattle.tree.proofs.ShortLaws.{Packs, run_packs, Under, under_up, fits_under, under_first, short_pack, short_flat, room_none, room_first, room_hold}
use Rattle.tree.proofs.SpellLaws.{spelled_run, spelled_flat}
use lib.ListN.{length}
use Rattle.tree.specs.Ordered.{From, floor, Sorted, Fits, Room}
use Rattle.tree.specs.Well.{Plain, Parts, Sound, Gathers}

module _ (T : ℕ) (types : T ≤ 65536) where
  abbrev Never : ℕ → ℕ → List ℕ → Type 0
  Never s l ws = ⊥

  -- materialising
  pub plain_materialise : (lo hi : ℕ) (ts : Trees) → Sound T lo hi ts → Plain T lo hi (materialise ts)
  unfolding materialise
  plain_materialise lo hi nil w = w
  plain_materialise lo hi (tree t s l kids rest) w =
      record { known = w.known; starts = w.starts; inner = plain_materialise s (s + l) kids w.inner; rest = plain_materialise (s + l) hi rest w.rest }
  plain_materialise lo hi (part s l ws rest) w =
      well-⊕ T Never lo (s + l) hi (unpack s 0 ws) (materialise rest)
      (well_down T Never s lo (s + l) (unpack s 0 ws) w.starts w.inner.ranges) (plain_materialise (s + l) hi rest w.rest)

  -- packed runs
  module _ (F p : ℕ) where
    plain_grown : (lo hi i s e : ℕ) (ts : Trees) → i < T → p ≤ s → lo ≤ s → s ≤ e → e ≤ hi → Plain T s e ts
        → Plain T lo hi (grown F i (p + (s - p)) ((e - p) - (s - p)) ts)
    unfolding grown
    plain_grown lo hi i s e ts k a b c d w = go (ltb i F)
      where
        start : p + (s - p) ≡ s
        start = omega arith

        end : s + ((e - p) - (s - p)) ≡ e
        end = omega arith

        go : (x : Bool) → Plain T lo hi (elim x [ true ↦ tree (Some i) (p + (s - p)) ((e - p) - (s - p)) ts nil | false ↦ ts ])
        go true = rw (start, end) (record { known = k; starts = b; inner = w; rest = d })
        go false = well_down T Never s lo hi ts b (well_up T Never s e hi ts d w)

    plain_spliced : (its : Items) (lo hi : ℕ) → p ≤ lo → Fits F T lo hi its → Plain T lo hi (spliced F p its)
    unfolding spliced
    plain_spliced Items.nil lo hi h f = f
    plain_spliced (mark i s e n rest) lo hi h f =
        well_up T Never lo (floor n s e) hi (spliced F p rest) (omega (arith, floor-≤ n s e f.ordered)) (plain_spliced rest lo (floor n s e) h f.rest)
    plain_spliced (span i s e kids rest) lo hi h f =
        let low = fits-≤ F T lo s rest f.rest in
        well-⊕ T Never lo s hi (spliced F p rest) (grown F i (p + (s - p)) ((e - p) - (s - p)) (spliced F p kids))
        (plain_spliced rest lo s h f.rest)
        (plain_grown s hi i s e (spliced F p kids) f.known (omega arith) (le_refl s) f.ordered f.ends (plain_spliced kids s e (omega arith) f.inner))

    plain_run : (k q : ℕ) (its : Items) (lo hi : ℕ) → hi ≤ q → p ≤ leftmost q (first k its) → Fits F T lo hi its
        → Plain T (leftmost q (first k its)) q (spliced F p (first k its))
    unfolding spliced leftmost first
    plain_run zero q its lo hi a h f = le_refl q
    plain_run (suc k) q Items.nil lo hi a h f = le_refl q
    plain_run (suc k) q (mark i s e n rest) lo hi a h f =
        plain_run k q rest lo (floor n s e) (omega (arith, floor-≤ n s e f.ordered)) h f.rest
    plain_run (suc k) q (span i s e kids rest) lo hi a h f =
        let low = leftmost-≤ F T k s lo s rest (le_refl s) f.rest in
        well-⊕ T Never (leftmost s (first k rest)) s q (spliced F p (first k rest)) (grown F i (p + (s - p)) ((e - p) - (s - p)) (spliced F p kids))
        (plain_run k s rest lo s (le_refl s) h f.rest)
        (plain_grown s q i s e (spliced F p kids) f.known (omega arith) (le_refl s) f.ordered (omega arith) (plain_spliced kids s e (omega arith) f.inner))

  -- flat parts
  plain_flat : (p off lo hi : ℕ) (rs : List Record) → p ≤ lo → Held T lo hi rs → Plain T lo hi (unpack p off (flat_words p off rs))
  unfolding unpack flat_words
  plain_flat p off lo hi [] l h = h
  plain_flat p off lo hi (rec i s e n ∷ rs) l h =
      let none_inside : ((off + 4) - (off + 4)) / 4 ≡ 0 = omega arith in
      let start : p + (s - p) ≡ s = omega arith in
      let end : s + ((e - p) - (s - p)) ≡ e = omega arith in
      rw (none_inside, within_zero, beyond_zero, start, end)
      (record { known = h.known; starts = h.starts; inner = h.ordered; rest = plain_flat p (off + 4) e hi rs (omega arith) h.rest })

  -- held records end where the last one ends
  pub held_tight : (lo hi : ℕ) (rs : List Record) → Held T lo hi rs → Held T lo (held_end lo rs) rs × (held_end lo rs ≤ hi) × (lo ≤ held_end lo rs)
  unfolding held_end
  held_tight lo hi [] h = (le_refl lo, h, le_refl lo)
  held_tight lo hi (rec i s e n ∷ rs) h =
      let (a, b, c) = held_tight e hi rs h.rest in
      (record { known = h.known; starts = h.starts; ordered = h.ordered; rest = a }, b, omega arith)

  abbrev pub S : ℕ → ℕ → Trees → Type 0
  S lo hi ts = Sound T lo hi ts

  -- a flat part before other trees
  sound_part : (i s e n lo m hi : ℕ) (rs : List Record) (ts : Trees) → Held T lo m (rec i s e n ∷ rs) → S m hi ts
      → held_end e rs ≤ s + 65535 → length rs < 16383
      → S lo hi (part s (held_end e rs - s) (flat_words s 0 (rec i s e n ∷ rs)) ts)
  sound_part i s e n lo m hi rs ts h w near few =
      let (a, b, c) = held_tight e m rs h.rest in
      let end : s + (held_end e rs - s) ≡ held_end e rs = omega arith in
      let held : Held T s (held_end e rs) (rec i s e n ∷ rs) = record { known = h.known; starts = le_refl s; ordered = h.ordered; rest = a } in
      record {
        starts = h.starts;
        inner = record {
          whole = spelled_flat T s 0 s (held_end e rs) (rec i s e n ∷ rs) held;
          ranges = rw end (plain_flat s 0 s (held_end e rs) (rec i s e n ∷ rs) (le_refl s) held);
          words = short_flat T s 0 s (held_end e rs) (rec i s e n ∷ rs) types near (omega arith) held;
        };
        rest = rw end (well_down T (Parts T) m (held_end e rs) hi ts b w);
      }

  pub sound_flat_part : (b stop : ℕ) → b ≤ 65535 → (lo m hi : ℕ) (rs : List Record) (ts : Trees) → Held T lo m rs → Room b rs stop → S m hi ts → S lo hi (flat_part rs ts)
  unfolding flat_part held_end
  sound_flat_part b stop bound lo m hi [] ts h room w = well_down T (Parts T) m lo hi ts h w
  sound_flat_part b stop bound lo m hi (rec i s e n ∷ []) ts h room w = go (ltb 65535 (e - s)) refl
    where
      end : s + (e - s) ≡ e
      end = omega (arith, h.ordered)

      go : (x : Bool) → ltb 65535 (e - s) ≡ x → S lo hi (elim x [ true ↦ tree (Some i) s (e - s) nil ts | false ↦ part s (e - s) (flat_words s 0 (rec i s e n ∷ [])) ts ])
      go true q = record { known = h.known; starts = h.starts; inner = rw end h.ordered; rest = rw end (well_down T (Parts T) m e hi ts h.rest w) }
      go false q = sound_part i s e n lo m hi [] ts h w (omega (arith, ltb-false 65535 (e - s) q)) (omega arith)
  sound_flat_part b stop bound lo m hi (rec i s e n ∷ r ∷ rs) ts h room w =
      sound_part i s e n lo m hi (r ∷ rs) ts h w (omega (arith, room.spread.1)) (omega (arith, room.few))

  abbrev pub G : ℕ → ℕ → Gathered → Type 0
  G lo hi g = Gathers T (Parts T) lo hi g

  module _ (b : ℕ) (bound : b ≤ 65535) (own : Option ℕ) where
    pub gathers_flushed : (stop lo m hi : ℕ) (held : List Record) (g : Gathered) → Held T lo m held → Room b held stop → G m hi g → G lo hi (gather (flat_part held) g)
    gathers_flushed stop lo m hi held g h room w =
        gathers_gather T (Parts T) m lo hi (flat_part held) g (λ e ts v. sound_flat_part b stop bound lo m e held ts h room v) w

    -- `m`: where the held records end; `end`: where the tree ends
    pub gathers_flat : (rs : List Record) (inside : Bool) (held : List Record) (stop : ℕ) (g : Gathered) (lo hi m end : ℕ)
        → Sorted T lo hi rs → Held T hi m held → Room b held stop → G m end g → G lo end (flat b own rs inside held stop g)
    unfolding flat
    gathers_flat [] inside held stop g lo hi m end so he room w =
        gathers_down T (Parts T) hi lo end (gather (flat_part held) g) so (gathers_flushed stop hi m end held g he room w)
    gathers_flat (rec i s e n ∷ rs) inside held stop g lo hi m end so he room w =
        let low = floor n s e in
        let flushed = gathers_flushed stop hi m end held g he room w in
        let passed = gathers_down T (Parts T) e low end (pass b i e g') (floor-≤ n s e so.ordered) (gathers_pass T (Parts T) b i e hi end g' so.known so.ends flushed) in
        go inside (ends r held stop) refl (same own i)
        (λ x. gathers_flat rs true (hold r held) (limit b r held stop) g lo low m end so.rest (hold_held T i s e n hi m held so.known so.ordered so.ends he) (room_hold b i s e n held stop x room) w)
        (gathers_flat rs false [] 0 (pass b i e g') lo low low end so.rest (le_refl low) (room_none b 0) passed)
        (gathers_flat rs true (hold r []) (limit b r [] 0) g' lo low hi end so.rest (hold_held T i s e n hi hi [] so.known so.ordered so.ends (le_refl hi)) (room_first b i s e n 0) flushed)
      where
        r : Record
        r = rec i s e n

        g' : Gathered
        g' = gather (flat_part held) g

        go : (x z : Bool) → ends r held stop ≡ z → (y : Bool)
            → (ends r held stop ≡ false → G lo end (flat b own rs true (hold r held) (limit b r held stop) g))
            → G lo end (flat b own rs false [] 0 (pass b i e g'))
            → G lo end (flat b own rs true (hold r []) (limit b r [] 0) g')
            → G lo end (elim (x && not z) [
              | true ↦ flat b own rs true (hold r held) (limit b r held stop) g
              | false ↦ elim y [ true ↦ flat b own rs false [] 0 (pass b i e g') | false ↦ flat b own rs true (hold r []) (limit b r [] 0) g' ]
            ])
        go true false q y a c d = a q
        go true true q true a c d = c
        go true true q false a c d = d
        go false z q true a c d = c
        go false z q false a c d = d

  module _ (F b : ℕ) (bound : b ≤ 65535) where
    -- a run as a part
    pub gathers_packed : (i s e k lo hi end : ℕ) (kids rest : Items) (g : Gathered) → Fits F T lo hi (span i s e kids rest) → G hi end g
        → Packs F b i s e kids rest k → G (leftmost s (first k rest)) end (gather (run_part F i s e kids (first k rest)) g)
    unfolding spliced run_part
    gathers_packed i s e k lo hi end kids rest g f w packs =
        let p = leftmost s (first k rest) in
        let run = span i s e kids (first k rest) in
        let low : p ≤ s = leftmost-≤ F T k s lo s rest (le_refl s) f.rest in
        let ends_at : p + (e - p) ≡ e = omega (arith, f.ordered) in
        let near : e ≤ p + 65535 = omega (arith, packs.near) in
        let from : From p run = (low, f.ordered, from_down F T p s kids low (fits_from F T s e kids f.inner), from_leftmost F T k s lo s rest f.rest) in
        let under : Under T e run =
        (f.known, le_refl e, fits_under F T s e kids f.inner, under_first T e k rest (under_up T s e rest f.ordered (fits_under F T lo s rest f.rest))) in
        let earlier : Plain T p s (spliced F p (first k rest)) =
        plain_run F (leftmost s (first k rest)) k s rest lo s (le_refl s) (le_refl _) f.rest in
        let own = plain_grown F p s e i s e (spliced F p kids) f.known low (le_refl s) f.ordered (le_refl e) (plain_spliced F p kids s e low f.inner) in
        let trees = well-⊕ T Never p s e (spliced F p (first k rest)) (grown F i (p + (s - p)) ((e - p) - (s - p)) (spliced F p kids)) earlier own in
        gathers_gather T (Parts T) hi p end (part p (e - p) (pack F p 0 run)) g
        (λ edge ts v. record {
          starts = le_refl p;
          inner = record { whole = spelled_run F p run from; ranges = rw (ends_at, unpack_run F p run) trees; words = short_pack F T p e 0 run types near from under (omega (arith, packs.fits)) };
          rest = rw ends_at (well_down T (Parts T) hi e edge ts f.ends v);
        }) w

    pub gathers_tree : (i s e hi end : ℕ) (inner g : Gathered) → i < T → s ≤ e → e ≤ hi → G s e inner → G hi end g
        → G s end (gather (λ ts. finish F i s e inner ⊕ ts) g)
    gathers_tree i s e hi end inner g k h l w v =
        gathers_gather T (Parts T) hi s end (λ ts. finish F i s e inner ⊕ ts) g
        (λ edge ts u. well-⊕ T (Parts T) s e edge (finish F i s e inner) ts (well_finish T (Parts T) F i s e inner k h w) (well_down T (Parts T) hi e edge ts l u)) v

    gathers_walk : (its : Items) (d k : ℕ) (own : Option ℕ) (g : Gathered) (lo hi end : ℕ)
        → Fits F T lo hi (after k its) → G hi end g → G lo end (walk F b its d k own g)
    unfolding walk after
    gathers_walk Items.nil d zero own g lo hi end f w = gathers_down T (Parts T) hi lo end g f w
    gathers_walk Items.nil d (suc k) own g lo hi end f w = gathers_down T (Parts T) hi lo end g f w
    gathers_walk (mark i s e n rest) d zero own g lo hi end f w =
        gathers_walk rest d zero own (pass b i e g) lo (floor n s e) end f.rest
        (gathers_down T (Parts T) e (floor n s e) end (pass b i e g) (floor-≤ n s e f.ordered) (gathers_pass T (Parts T) b i e hi end g f.known f.ends w))
    gathers_walk (mark i s e n rest) d (suc k) own g lo hi end f w = gathers_walk rest d k own g lo hi end f w
    gathers_walk (span i s e kids rest) d (suc k) own g lo hi end f w = gathers_walk rest d k own g lo hi end f w
    gathers_walk (span i s e kids rest) d zero own g lo hi end f w =
        go (run_from F b own i s e kids rest) refl
        (λ k g' hi' f' w'. gathers_walk rest d k own g' lo hi' end f' w')
        (inside (too_deep d) (gathers_walk kids (suc d) zero (repeats F i) (fresh e) s e e f.inner (gathers_fresh T (Parts T) e)))
      where
        inner : Bool → Gathered
        inner x = elim x [ true ↦ flat b (repeats F i) (flattened kids []) false [] 0 (fresh e) | false ↦ walk F b kids (suc d) zero (repeats F i) (fresh e) ]

        inside : (x : Bool) → G s e (walk F b kids (suc d) zero (repeats F i) (fresh e)) → G s e (inner x)
        inside true ih =
            gathers_flat b bound (repeats F i) (flattened kids []) false [] 0 (fresh e) s e e e (sorted_flattened F T kids s s e [] f.inner (le_refl s)) (le_refl e) (room_none b 0) (gathers_fresh T (Parts T) e)
        inside false ih = ih

        go : (o : Option ℕ) → run_from F b own i s e kids rest ≡ o
            → ((k : ℕ) (g' : Gathered) (hi' : ℕ) → Fits F T lo hi' (after k rest) → G hi' end g' → G lo end (walk F b rest d k own g'))
            → G s e (inner (too_deep d))
            → G lo end (elim o [
              | Some k ↦ walk F b rest d k own (gather (run_part F i s e kids (first k rest)) g)
              | None ↦ walk F b rest d zero own (gather (λ ts. finish F i s e (inner (too_deep d)) ⊕ ts) g)
            ])
        go (Some k) r ih u =
            ih k (gather (run_part F i s e kids (first k rest)) g) (leftmost s (first k rest)) (fits_after F T k s lo s rest (le_refl s) f.rest)
            (gathers_packed i s e k lo hi end kids rest g f w (run_packs F b own i s e kids rest k r))
        go None r ih u =
            ih zero (gather (λ ts. finish F i s e (inner (too_deep d)) ⊕ ts) g) s f.rest
            (gathers_tree i s e hi end (inner (too_deep d)) g f.known f.ordered f.ends u w)

    -- the first-level trees of an accepted list
    pub sound_first_level : (lo : ℕ) (f : Forest) → Nested T lo (behind lo f) f → Sound T lo (behind lo f) (first_level F b lo f)
    unfolding first_level after
    sound_first_level lo f n =
        let hi = behind lo f in
        let its = items F None f Items.nil in
        let w = gathers_walk its 0 0 None (fresh hi) lo hi hi (fits_items F T None (own_none F) f lo hi lo Items.nil n (le_refl lo)) (gathers_fresh T (Parts T) hi) in
        let g = walk F b its 0 0 None (fresh hi) in
        well-⊕ T (Parts T) lo g.edge hi g.loose g.groups w.loose w.groups
