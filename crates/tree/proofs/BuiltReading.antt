-- What is built of a list nested at most 2,503 levels, materialised and listed is the list's ordinary reading: on
-- trees. Assumes nothing.
use mathlib.Core.Path.{◌≡◌, ◌∙◌}
use mathlib.Core.List.{List, append-nil}
use Rattle.std.specs.Prelude.{Option, None}
use Prim.Native.Nat.{ℕ, ◌+◌, ◌≤◌}
use native.Mathlib.Omega.{arith}
use native.Mathlib.Nat.{le_refl}
use Rattle.records.specs.Forest.{Forest, reading, levels, behind, Nested}
use Rattle.tree.specs.Materialise.{materialise}
use Rattle.tree.specs.Items.{Items, items}
use Rattle.tree.specs.Trees.{kids_of}
use Rattle.tree.specs.Groups.{fresh}
use Rattle.tree.specs.Build.{walk, first_level, build}
use Rattle.tree.specs.Listing.{lines}
use Rattle.tree.proofs.Reading.{reads, after}
use Rattle.tree.proofs.ListingLaws.{view, view-⊕}
use Rattle.tree.proofs.GatherLaws.{gview, gview_fresh}
use Rattle.tree.proofs.ItemLaws.{height, fits_items, reads_items, height_items, own_none}
use Rattle.tree.proofs.WalkLaws.{gview_walk}

module _ (T F b : ℕ) (f : Forest) (lo hi : ℕ) (nested : Nested T lo hi f) (deep : levels f ≤ 2503) where
  view_first_level : view F 0 (first_level F b lo f) ≡ reading F 0 f
  unfolding first_level gview after reads height
  view_first_level =
      let its = items F None f Items.nil in
      let g = walk F b its 0 0 None (fresh (behind lo f)) in
      let fits = fits_items F T None (own_none F) f lo hi lo Items.nil nested (le_refl lo) in
      let low : height its + 0 ≤ 2503 = omega (arith, height_items F None f Items.nil) in
      view-⊕ F 0 g.loose g.groups ∙ (gview_walk F T b its lo hi fits 0 low 0 0 None (fresh (behind lo f))
      ∙ rw (gview_fresh, reads_items F None (own_none F) 0 f Items.nil) (append-nil _))

-- build, materialise, list
unfoldable pub tree_lines : (F b S top : ℕ) (given : Option ℕ) → Forest → List ℕ
tree_lines F b S top given f = lines F (materialise (build F b S top given f))

-- for any forest whose ranges are nested and in order
pub lines_are_reading : (T F b S top : ℕ) (given : Option ℕ) (f : Forest) (hi : ℕ) → Nested T S hi f → levels f ≤ 2503
    → tree_lines F b S top given f ≡ reading F 0 f
unfolding tree_lines lines build materialise kids_of view
lines_are_reading T F b S top given f hi nested deep = view_first_level T F b f S hi nested deep
