-- Balanced sizes as nodes tell them. Assumes nothing.
use mathlib.Core.Path.{◌≡◌, refl, sym, ◌∙◌}
use mathlib.Core.Bool.{Bool, true, false, cond, true≢false}
use mathlib.Core.List.{List}
use Rattle.std.specs.Prelude.{Option}
use Prim.Native.Nat.{ℕ, suc, ◌+◌, max, ◌≤◌}
use native.Mathlib.Omega.{arith}
use lib.ListN.{length}
use Rattle.tree.specs.Trees.{Trees, nil, tree, part, siblings}
use Rattle.tree.specs.Cells.{id_word}
use Rattle.tree.specs.Balance.{SetType, same_type, all_of, total}
use Rattle.store.specs.Store.{Holds, likes, stored_kind, word}
use Rattle.store.proofs.Types.{typed_is, typed_part}
use Rattle.store.proofs.Frame.{tells_like, readable}
use Rattle.balance_core.specs.Rows.{sized, Sizable}

likes_size : (t : SetType) (u : Option ℕ) (s l : ℕ) (kids : Trees) → same_type t u ≡ true → max 1 (likes t kids) ≡ word (total t (tree u s l kids nil))
unfolding likes total
likes_size t u s l kids e = rw e (go (all_of t kids))
  where
    go : (x : Bool) → max 1 (cond x (word (suc (total t kids))) 0) ≡ word (elim x [ true ↦ suc (total t kids) | false ↦ 1 ] + 0)
    go true = omega arith
    go false = omega arith

other_size : (t : SetType) (u : Option ℕ) (s l : ℕ) (kids : Trees) → same_type t u ≡ false → 1 ≡ word (total t (tree u s l kids nil))
unfolding total
other_size t u s l kids e = rw e refl

module _ (t : SetType) (w : List ℕ) (base top low : ℕ) where
  pub size_tree : (n : ℕ) (u : Option ℕ) (s l : ℕ) (kids rest : Trees) → Holds t.none_first w base top low n (tree u s l kids rest)
      → sized w n (stored_kind t) (id_word t.type) ≡ word (total t (tree u s l kids nil))
  size_tree n u s l kids rest h =
      rw (typed_is t.none_first t.type u w n h.node.kind_at h.node.id_at, tells_like t.none_first w base top low _ kids t.type h.first)
      (go (same_type t u) refl)
    where
      go : (x : Bool) → same_type t u ≡ x → cond x (max 1 (likes t kids)) 1 ≡ word (total t (tree u s l kids nil))
      go true e = likes_size t u s l kids e
      go false e = other_size t u s l kids e

  pub size_part : (n s l : ℕ) (ws : List ℕ) (rest : Trees) → Holds t.none_first w base top low n (part s l ws rest) → sized w n (stored_kind t) (id_word t.type) ≡ 1
  size_part n s l ws rest h = rw (typed_part t.none_first t.type w n h.node.kind_at)

  pub sizable : (n : ℕ) (ts : Trees) → top ≤ length w → 1 ≤ siblings ts → Holds t.none_first w base top low n ts → Sizable w n (stored_kind t) (id_word t.type)
  unfolding siblings
  sizable n nil m p h = absurd (omega arith)
  sizable n (tree u s l kids rest) m p h = record { inside = omega (arith, h.node.below); kids = λ e. readable t.none_first w base top low _ kids m h.first }
  sizable n (part s l ws rest) m p h = record {
    inside = omega (arith, h.node.below);
    kids = λ e. absurd (true≢false (sym e ∙ typed_part t.none_first t.type w n h.node.kind_at));
  }
