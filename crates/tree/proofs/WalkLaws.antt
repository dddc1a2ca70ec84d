-- What the walk gathers lists the items that it walked, nested so low that below depth 2,500 only leaves are left. By
-- induction on the items. Assumes nothing.
use mathlib.Core.Path.{◌≡◌, refl, sym, ap, ◌∙◌}
use mathlib.Core.Bool.{Bool, true, false, true≢false}
use mathlib.Core.List.{List, [], ◌++◌, append_assoc, append-nil}
use Rattle.std.specs.Prelude.{Option, None, Some}
use Prim.Native.Nat.{ℕ, zero, suc, ◌+◌, ◌-◌, ◌≤◌, ◌<◌}
use native.Mathlib.Decide.{dec_le}
use native.Mathlib.Omega.{arith}
use native.Mathlib.Nat.{le_refl}
use borrow.Author.Tests.{le-ltb}
use Rattle.records.specs.Forest.{line, depth_below}
use Rattle.tree.specs.Trees.{part, ◌⊕◌}
use Rattle.tree.specs.Items.{Items, mark, span, repeats, first, leftmost}
use Rattle.tree.specs.Pack.{run_from, pack, run_part}
use Rattle.tree.specs.Groups.{Gathered, fresh, gather, pass, finish}
use Rattle.tree.specs.Flat.{too_deep, flat, flattened}
use Rattle.tree.specs.Build.{walk}
use Rattle.tree.proofs.Reading.{reads, after}
use Rattle.tree.proofs.ListingLaws.{view, view-⊕, view_part}
use Rattle.tree.proofs.PackLaws.{listing_pack}
use Rattle.tree.proofs.GatherLaws.{gview, gview_fresh, gview_gather, gview_pass, view_finish}
use Rattle.tree.proofs.FlatLaws.{held_lines, gview_flat}
use Rattle.tree.proofs.ItemLaws.{height, leaves_flattened, from_down, fits_from, leftmost-≤, from_leftmost, reads_split, back_lines_flattened, sorted_flattened, own_repeats}
use Rattle.tree.specs.Ordered.{From, floor, Fits}

-- a tree that is too deep
deep : (d : ℕ) → too_deep d ≡ true → 2500 < d
unfolding too_deep
deep d x = go (dec_le d 2500)
  where
    go : Dec (d ≤ 2500) → 2500 < d
    go (yes h) = let shallow : too_deep d ≡ false = le-ltb _ d (omega arith) in absurd (true≢false (sym x ∙ shallow))
    go (no h) = omega arith

module _ (F T b : ℕ) where
  -- a run of items that starts with a span, as a part
  gview_packed : (d i s e k lo hi : ℕ) (kids rest : Items) (g : Gathered) → Fits F T lo hi (span i s e kids rest)
      → gview F d (gather (run_part F i s e kids (first k rest)) g)
      ≡ (reads F d (first k rest) ++ (line F d i s e ++ reads F (depth_below F d i) kids)) ++ gview F d g
  unfolding reads run_part
  gview_packed d i s e k lo hi kids rest g f =
      let p = leftmost s (first k rest) in
      let run = span i s e kids (first k rest) in
      let low : p ≤ s = leftmost-≤ F T k s lo s rest (le_refl s) f.rest in
      let from : From p run = (low, f.ordered, from_down F T p s kids low (fits_from F T s e kids f.inner), from_leftmost F T k s lo s rest f.rest) in
      gview_gather F d (part p (e - p) (pack F p 0 run)) g (reads F d run)
      (λ ts. view_part F d p (e - p) (pack F p 0 run) ts ∙ ap (λ ls. ls ++ view F d ts) (listing_pack F p d run from))

  -- a tree
  gview_tree : (d i s e : ℕ) (inner g : Gathered) (ls : List ℕ) → s ≤ e → gview F (depth_below F d i) inner ≡ ls
      → gview F d (gather (λ ts. finish F i s e inner ⊕ ts) g) ≡ (line F d i s e ++ ls) ++ gview F d g
  gview_tree d i s e inner g ls h q =
      gview_gather F d (λ ts. finish F i s e inner ⊕ ts) g (line F d i s e ++ ls)
      (λ ts. view-⊕ F d (finish F i s e inner) ts ∙ ap (λ l. l ++ view F d ts) (view_finish F d i s e inner h ∙ ap (λ l. line F d i s e ++ l) q))

  -- the flat parts of a tree whose children are leaves
  gview_leaves : (d i e lo hi : ℕ) (kids : Items) → Fits F T lo hi kids → height kids ≤ 1
      → gview F d (flat b (repeats F i) (flattened kids []) false [] 0 (fresh e)) ≡ reads F d kids
  unfolding held_lines
  gview_leaves d i e lo hi kids f h =
      gview_flat F d T b (repeats F i) (own_repeats F i) (flattened kids []) false [] 0 (fresh e) lo hi hi
      (sorted_flattened F T kids lo lo hi [] f (le_refl lo)) (leaves_flattened F T kids h lo hi f) (le_refl hi)
      ∙ rw (gview_fresh, back_lines_flattened F T d kids h lo hi f) (append-nil _)

  pub gview_walk : (its : Items) (lo hi : ℕ) → Fits F T lo hi its → (dep : ℕ) → height its + dep ≤ 2503
      → (d k : ℕ) (own : Option ℕ) (g : Gathered) → gview F d (walk F b its dep k own g) ≡ reads F d (after k its) ++ gview F d g
  unfolding walk reads after height
  gview_walk Items.nil lo hi f dep h d zero own g = refl
  gview_walk Items.nil lo hi f dep h d (suc k) own g = refl
  gview_walk (mark i s e n rest) lo hi f dep h d zero own g =
      gview_walk rest lo (floor n s e) f.rest dep (omega arith) d zero own (pass b i e g) ∙ ap (λ l. reads F d rest ++ l) (gview_pass F d b i e g f.repeat)
  gview_walk (mark i s e n rest) lo hi f dep h d (suc k) own g = gview_walk rest lo (floor n s e) f.rest dep (omega arith) d k own g
  gview_walk (span i s e kids rest) lo hi f dep h d (suc k) own g = gview_walk rest lo s f.rest dep (omega arith) d k own g
  gview_walk (span i s e kids rest) lo hi f dep h d zero own g =
      go (run_from F b own i s e kids rest) (λ k g'. gview_walk rest lo s f.rest dep (omega arith) d k own g')
      (inside (too_deep dep) refl (gview_walk kids s e f.inner (suc dep) (omega arith) (depth_below F d i) 0 (repeats F i) (fresh e)))
    where
      inner : Bool → Gathered
      inner x = elim x [ true ↦ flat b (repeats F i) (flattened kids []) false [] 0 (fresh e) | false ↦ walk F b kids (suc dep) zero (repeats F i) (fresh e) ]

      inside : (x : Bool) → too_deep dep ≡ x
          → gview F (depth_below F d i) (walk F b kids (suc dep) zero (repeats F i) (fresh e)) ≡ reads F (depth_below F d i) kids ++ gview F (depth_below F d i) (fresh e)
          → gview F (depth_below F d i) (inner x) ≡ reads F (depth_below F d i) kids
      inside true x ih = gview_leaves (depth_below F d i) i e s e kids f.inner (omega (arith, deep dep x))
      inside false x ih = ih ∙ rw gview_fresh (append-nil (reads F (depth_below F d i) kids))

      go : (o : Option ℕ)
          → ((k : ℕ) (g' : Gathered) → gview F d (walk F b rest dep k own g') ≡ reads F d (after k rest) ++ gview F d g')
          → gview F (depth_below F d i) (inner (too_deep dep)) ≡ reads F (depth_below F d i) kids
          → gview F d (elim o [
            | Some k ↦ walk F b rest dep k own (gather (run_part F i s e kids (first k rest)) g)
            | None ↦ walk F b rest dep zero own (gather (λ ts. finish F i s e (inner (too_deep dep)) ⊕ ts) g)
          ]) ≡ (reads F d rest ++ (line F d i s e ++ reads F (depth_below F d i) kids)) ++ gview F d g
      go (Some k) ih q = ih k _ ∙ rw (gview_packed d i s e k lo hi kids rest g f, reads_split F k d rest) (simp append_assoc)
      go None ih q = ih zero _ ∙ rw (gview_tree d i s e (inner (too_deep dep)) g (reads F (depth_below F d i) kids) f.ordered q) (simp append_assoc)
