-- One turn of the tree check's loop: the cell at hand breaks a rule, or the walk goes on one cell. Assumes nothing.
use mathlib.Core.Path.{◌≡◌, sym, ap, subst, ◌∙◌}
use mathlib.Core.Bool.{Bool, true, false, not}
use mathlib.Core.List.{List}
use Prim.Native.Nat.{ℕ, ◌+◌, ◌-◌, ◌*◌, ◌≤◌, ◌<◌}
use native.Mathlib.Decide.{ℕ_discrete}
use borrow.Author.Tests.{ne_eqb, eqb-true, eqb-false, not-true}
use lib.Dec.{eqb}
use lib.ListN.{length, get_or}
use Rattle.tree.specs.Cells.{cell_width}
use Rattle.rules.specs.Cell.{Cell, cells_of}
use Rattle.rules.specs.Lowest.{chains, words_end}
use Rattle.rules.proofs.Tests.{both}
use Rattle.cells.specs.Steps.{cell_at, Last, cell_test}
use Rattle.cells.specs.Open.{in_place, ReadLink, Pushed}
use Rattle.cells.proofs.Walking.{whole, Walk, walk_none, walk_limit, walk_place, walk_test, walk_fits, walk_pushed}

-- what it says that a cell is in its place
pub record Placed (held : List ℕ) (top limit c : ℕ) : Type 0 where
  pub not_limit : c ≡ limit → ⊥
  pub links : top ≡ 0 → ⊥
  pub at_cell : get_or held ((top - 1) * 4) 0 ≡ c

pub in_its_place : {held : List ℕ} {top limit c : ℕ} → in_place held top limit c ≡ true → Placed held top limit c
unfolding in_place
in_its_place {held} {top} {limit} {c} h =
    let (a, h₁) = both (not (eqb c limit)) _ h in
    let (b, e) = both (not (eqb top 0)) _ h₁ in
    record {
      not_limit = eqb-false c limit (not-true _ a);
      links = eqb-false top 0 (not-true _ b);
      at_cell = eqb-true (get_or held ((top - 1) * 4) 0) c e;
    }

module _ {T : ℕ} {ws : List ℕ} {n S : ℕ} {cs held : List ℕ} {i w top limit : ℕ} (q : n * cell_width ≡ length cs)
    (s : Walk T ws n S cs held i w top limit) (below : i < n) where
  pub misplaced : in_place held top limit (i + 1) ≡ false → i + 1 ≡ whole T ws n S cs
  unfolding in_place
  misplaced h = go (ℕ_discrete (i + 1) limit) (ℕ_discrete top 0)
    where
      go : Dec (i + 1 ≡ limit) → Dec (top ≡ 0) → i + 1 ≡ whole T ws n S cs
      go (yes e) z = walk_limit T ws n S cs q held i w top limit s below e
      go (no e) (yes z) = walk_none T ws n S cs q held i w top limit s below z
      go (no e) (no z) =
          let not_here : eqb (get_or held ((top - 1) * 4) 0) (i + 1) ≡ false = rw (ne_eqb (i + 1) limit e, ne_eqb top 0 z) at h in
          walk_place T ws n S cs q held i w top limit s below z (eqb-false (get_or held ((top - 1) * 4) 0) (i + 1) not_here)

  -- the lengths of the chains, and the link and the cell that were read
  module _ {lengths : List ℕ} {after within base last : ℕ} {k : Cell} (counted : lengths ≡ chains 1 (cells_of cs)) (link : ReadLink held top after within base)
      (read : k ≡ cell_at cs i) (final : Last cs n last) (small : k.len < 4294967296) (at : Placed held top limit (i + 1)) where
    abbrev p : ℕ
    p = (top - 1) * 4

    abbrev test : Bool
    test = cell_test T ws n last i w lengths after within base k

    small₀ : (cell_at cs i).len < 4294967296
    small₀ = subst (λ (c : Cell). c.len < 4294967296) read small

    same : cell_test T ws n last i w (chains 1 (cells_of cs)) (get_or held (p + 1) 0) (get_or held (p + 2) 0) (get_or held (p + 3) 0) (cell_at cs i) ≡ test
    same =
        ap (λ x. cell_test T ws n last i w x (get_or held (p + 1) 0) (get_or held (p + 2) 0) (get_or held (p + 3) 0) (cell_at cs i)) (sym counted)
        ∙ (ap (λ x. cell_test T ws n last i w lengths x (get_or held (p + 2) 0) (get_or held (p + 3) 0) (cell_at cs i)) (sym link.after_is)
        ∙ (ap (λ x. cell_test T ws n last i w lengths after x (get_or held (p + 3) 0) (cell_at cs i)) (sym link.within_is)
        ∙ (ap (λ x. cell_test T ws n last i w lengths after within x (cell_at cs i)) (sym link.base_is)
        ∙ ap (cell_test T ws n last i w lengths after within base) (sym read))))

    pub breaks : test ≡ true → i + 1 ≡ whole T ws n S cs
    breaks h = walk_test T ws n S cs q held i w top limit s below at.links last final at.at_cell at.not_limit small₀ (same ∙ h)

    module _ (clear : test ≡ false) where
      pub fitting : (k.position + k.len ≤ 4294967295) × (base + k.position ≤ 4294967295)
      fitting =
          let f = walk_fits T ws n S cs q held i w top limit s below at.links last final at.at_cell at.not_limit small₀ (same ∙ clear) (subst (λ x. x < 4294967296) link.base_is link.small) in (
            subst (λ (c : Cell). c.position + c.len ≤ 4294967295) (sym read) f.end,
            subst (λ x. x + k.position ≤ 4294967295) (sym link.base_is) (subst (λ (c : Cell). get_or held (p + 3) 0 + c.position ≤ 4294967295) (sym read) f.origin),
          )

      pub passes : (held' : List ℕ) (t' limit' w' : ℕ) → Pushed held held' i (top - 1) limit t' limit' k within base → w' ≡ words_end w k
          → Walk T ws n S cs held' (i + 1) w' t' limit'
      passes held' t' limit' w' pushed ew =
          walk_pushed T ws n S cs q held i w top limit s below at.links last final at.at_cell at.not_limit small₀ (same ∙ clear)
          held' t' limit' w'
          (subst (λ (c : Cell). Pushed held held' i (top - 1) limit t' limit' c (get_or held (p + 2) 0) (get_or held (p + 3) 0)) read
          (subst (λ x. Pushed held held' i (top - 1) limit t' limit' k x (get_or held (p + 3) 0)) link.within_is
          (subst (λ x. Pushed held held' i (top - 1) limit t' limit' k within x) link.base_is pushed)))
          (subst (λ (c : Cell). w' ≡ words_end w c) read ew)
