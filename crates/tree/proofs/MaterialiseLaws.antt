-- Materialising keeps what a tree says: no part stays, trees keep type, range, order and children, and each packed
-- record becomes a tree of its id and range under the record or tree that held it. The lines read off the tree with its
-- parts, packed records read off their words by end index, are the lines of the materialised tree. Assumes nothing.
use mathlib.Core.Path.{◌≡◌, refl, sym, ap, ap₂, ◌∙◌}
use mathlib.Core.Bool.{Bool, true, false, cond}
use mathlib.Core.List.{List, [], ◌∷◌, ◌++◌, append_assoc, append-nil}
use Rattle.std.specs.Prelude.{None, Some}
use Prim.Native.Nat.{ℕ, zero, suc, ◌+◌, ◌-◌, ◌*◌, ◌/◌, ◌≤◌, ◌<◌}
use native.Mathlib.Omega.{arith}
use native.Mathlib.Nat.{add-zero, le_refl}
use borrow.Author.Tests.{le-leb, lt-leb}
use lib.Dec.{ltb}
use lib.ListN.{length}
use Rattle.records.specs.Forest.{line, depth_below}
use Rattle.tree.specs.Trees.{Trees, nil, tree, part, nodes}
use Rattle.tree.specs.Materialise.{within, beyond, unpack, materialise}
use Rattle.tree.specs.Listing.{node_line, node_below, listing}
use Rattle.tree.specs.Cells.{id_word}
use Rattle.tree.proofs.ListingLaws.{listing-⊕}
use Rattle.tree.proofs.PartForms.{open_ends}
use Rattle.tree.specs.Well.{Plain, Parts, Sound, spelled}

-- The lines of a packed part that starts at p, from word `off` on, at depth d: `around` are the end indices of the
-- ordinary records met, the latest first; those past the offset hold the record at hand.
unfoldable pub part_lines : (F p d off : ℕ) (around : List ℕ) → List ℕ → List ℕ
part_lines F p d off around [] = []
part_lines F p d off around (i ∷ []) = []
part_lines F p d off around (i ∷ s ∷ []) = []
part_lines F p d off around (i ∷ s ∷ e ∷ []) = []
part_lines F p d off around (i ∷ s ∷ e ∷ x ∷ ws) =
    let now = open_ends off around in
    line F (d + length now) i (p + s) (p + e) ++ part_lines F p d (off + 4) (cond (ltb i F) (x ∷ now) now) ws

-- the lines of trees with their parts
unfoldable pub deep_lines : (F d : ℕ) → Trees → List ℕ
deep_lines F d nil = []
deep_lines F d (tree t s l kids rest) = (node_line F d t s (s + l) ++ deep_lines F (node_below F d t) kids) ++ deep_lines F d rest
deep_lines F d (part s l ws rest) = part_lines F s d 0 [] ws ++ deep_lines F d rest

-- ends that are passed at an offset, and ends that are not below one
abbrev pub Passed : (off : ℕ) → List ℕ → Type 0
Passed off [] = Unit {0}
Passed off (e ∷ es) = (e ≤ off) × Passed off es

abbrev pub Past : (n : ℕ) → List ℕ → Type 0
Past n [] = Unit {0}
Past n (e ∷ es) = (n ≤ e) × Past n es

pub past_down : (n n' : ℕ) (es : List ℕ) → n' ≤ n → Past n es → Past n' es
past_down n n' [] h a = tt
past_down n n' (e ∷ es) h a = (omega (arith, a.0), past_down n n' es h a.1)

pub open_passed : (off : ℕ) (gone es : List ℕ) → Passed off gone → open_ends off (gone ++ es) ≡ open_ends off es
unfolding open_ends
open_passed off [] es a = refl
open_passed off (g ∷ gone) es a = rw (le-leb g off a.0, open_ends) (open_passed off gone es a.1)

pub open_past : (off n : ℕ) (es : List ℕ) → off < n → Past n es → open_ends off es ≡ es
unfolding open_ends
open_past off n [] h a = refl
open_past off n (e ∷ es) h a = rw (lt-leb e off (omega (arith, a.0)), open_ends)

-- trees as parts hold them: no parts, each with an id
abbrev pub Typed : Trees → Type 0
Typed nil = Unit {0}
Typed (tree None s l kids rest) = ⊥
Typed (tree (Some i) s l kids rest) = Typed kids × Typed rest
Typed (part s l ws rest) = ⊥

pub typed_within : (ts : Trees) (n : ℕ) → Typed ts → Typed (within ts n)
unfolding within
typed_within nil n a = tt
typed_within (tree None s l kids rest) n a = absurd a
typed_within (tree (Some i) s l kids rest) zero a = tt
typed_within (tree (Some i) s l kids rest) (suc n) a = (a.0, typed_within rest (n - nodes kids) a.1)
typed_within (part s l ws rest) n a = absurd a

typed_beyond : (ts : Trees) (n : ℕ) → Typed ts → Typed (beyond ts n)
unfolding beyond
typed_beyond nil n a = tt
typed_beyond (tree None s l kids rest) n a = absurd a
typed_beyond (tree (Some i) s l kids rest) zero a = a
typed_beyond (tree (Some i) s l kids rest) (suc n) a = typed_beyond rest (n - nodes kids) a.1
typed_beyond (part s l ws rest) n a = absurd a

pub typed_unpack : (p off : ℕ) (ws : List ℕ) → Typed (unpack p off ws)
unfolding unpack
typed_unpack p off [] = tt
typed_unpack p off (i ∷ []) = tt
typed_unpack p off (i ∷ s ∷ []) = tt
typed_unpack p off (i ∷ s ∷ e ∷ []) = tt
typed_unpack p off (i ∷ s ∷ e ∷ n ∷ ws) =
    let ts = unpack p (off + 4) ws in
    let k = (n - (off + 4)) / 4 in
    let a = typed_unpack p (off + 4) ws in
    (typed_within ts k a, typed_beyond ts k a)

module _ (F p d : ℕ) where
  lines_passed : (off : ℕ) (gone es ws : List ℕ) → Passed off gone → part_lines F p d off (gone ++ es) ws ≡ part_lines F p d off es ws
  unfolding part_lines
  lines_passed off gone es [] a = refl
  lines_passed off gone es (i ∷ []) a = refl
  lines_passed off gone es (i ∷ s ∷ []) a = refl
  lines_passed off gone es (i ∷ s ∷ e ∷ []) a = refl
  lines_passed off gone es (i ∷ s ∷ e ∷ x ∷ ws) a =
      ap (λ (now : List ℕ). line F (d + length now) i (p + s) (p + e) ++ part_lines F p d (off + 4) (cond (ltb i F) (x ∷ now) now) ws) (open_passed off gone es a)

  -- the first record of the words
  pub lines_step : (off : ℕ) (around : List ℕ) (i s e x : ℕ) (ws es : List ℕ) → open_ends off around ≡ es
      → part_lines F p d off around (i ∷ s ∷ e ∷ x ∷ ws) ≡ line F (d + length es) i (p + s) (p + e) ++ part_lines F p d (off + 4) (cond (ltb i F) (x ∷ es) es) ws
  unfolding part_lines
  lines_step off around i s e x ws es h =
      ap (λ (now : List ℕ). line F (d + length now) i (p + s) (p + e) ++ part_lines F p d (off + 4) (cond (ltb i F) (x ∷ now) now) ws) h

  -- an ordinary record holds what stands in it
  depth_inside : (i n : ℕ) (es : List ℕ) → d + length (cond (ltb i F) (n ∷ es) es) ≡ depth_below F (d + length es) i
  unfolding depth_below
  depth_inside i n es = go (ltb i F)
    where
      go : (x : Bool) → d + length (cond x (n ∷ es) es) ≡ elim x [ true ↦ suc (d + length es) | false ↦ d + length es ]
      go true = omega arith
      go false = refl

  past_inside : (x : Bool) (n m : ℕ) (es : List ℕ) → n ≤ m → Past m es → Past n (cond x (n ∷ es) es)
  past_inside true n m es h a = (le_refl n, past_down m n es h a)
  past_inside false n m es h a = past_down m n es h a

  -- The words of trees in front of other words: `es` are the ends of records that hold all of the trees, `gone` those
  -- passed before.
  lines_spelled : (us : Trees) (off lo hi T : ℕ) (gone es v : List ℕ) → p ≤ lo → Typed us → Plain T lo hi us → Passed off gone → Past (off + 4 * nodes us) es
      → part_lines F p d off (gone ++ es) (spelled p off us ++ v) ≡ listing F (d + length es) us ++ part_lines F p d (off + 4 * nodes us) es v
  unfolding spelled listing nodes id_word node_line node_below
  lines_spelled nil off lo hi T gone es v h a w g q = rw add-zero (lines_passed off gone es v g)
  lines_spelled (tree None s l kids rest) off lo hi T gone es v h a w g q = absurd a
  lines_spelled (part s l ws rest) off lo hi T gone es v h a w g q = absurd a
  lines_spelled (tree (Some i) s l kids rest) off lo hi T gone es v h a w g q =
      let D = d + length es in
      let open_now : open_ends off (gone ++ es) ≡ es = open_passed off gone es g ∙ open_past off (off + 4 * suc (nodes kids + nodes rest)) es (omega arith) q in
      let e₁ : p + (s - p) ≡ s = omega (arith, w.starts) in
      let e₂ : p + ((s + l) - p) ≡ s + l = omega (arith, w.starts) in
      let inner = lines_spelled kids (off + 4) s (s + l) T [] st (B ++ v) (omega (arith, w.starts)) a.0 w.inner tt (past_inside (ltb i F) n (off + 4 * suc (nodes kids + nodes rest)) es (omega arith) q) in
      let later = behind (ltb i F)
      (lines_spelled rest n (s + l) hi T (n ∷ []) es v (omega (arith, w.starts)) a.1 w.rest (le_refl n, tt) (past_down _ _ es (omega arith) q))
      (lines_spelled rest n (s + l) hi T [] es v (omega (arith, w.starts)) a.1 w.rest tt (past_down _ _ es (omega arith) q)) in
      lines_step off (gone ++ es) i (s - p) ((s + l) - p) n ((A ++ B) ++ v) es open_now
      ∙ (ap₂ (λ (x y : ℕ). line F D i x y ++ part_lines F p d (off + 4) st ((A ++ B) ++ v)) e₁ e₂
      ∙ (ap (λ (ws : List ℕ). line F D i s (s + l) ++ part_lines F p d (off + 4) st ws) (append_assoc A B v)
      ∙ (ap (λ (ls : List ℕ). line F D i s (s + l) ++ ls) (inner ∙ ap₂ (λ (D' : ℕ) (ls : List ℕ). listing F D' kids ++ ls) (depth_inside i n es) (later ∙ ap (λ (k : ℕ). listing F D rest ++ part_lines F p d k es v) m))
      ∙ simp append_assoc)))
    where
      n : ℕ
      n = off + 4 + 4 * nodes kids

      m : n + 4 * nodes rest ≡ off + 4 * suc (nodes kids + nodes rest)
      m = omega arith

      A : List ℕ
      A = spelled p (off + 4) kids

      B : List ℕ
      B = spelled p n rest

      st : List ℕ
      st = cond (ltb i F) (n ∷ es) es

      behind : (x : Bool)
          → part_lines F p d n (n ∷ es) (B ++ v) ≡ listing F (d + length es) rest ++ part_lines F p d (n + 4 * nodes rest) es v
          → part_lines F p d n es (B ++ v) ≡ listing F (d + length es) rest ++ part_lines F p d (n + 4 * nodes rest) es v
          → part_lines F p d n (cond x (n ∷ es) es) (B ++ v) ≡ listing F (d + length es) rest ++ part_lines F p d (n + 4 * nodes rest) es v
      behind true y z = y
      behind false y z = z

-- the lines of a part that keeps the rules are those of its trees
pub part_listing : (F d T s l : ℕ) (ws : List ℕ) → Parts T s l ws → part_lines F s d 0 [] ws ≡ listing F d (unpack s 0 ws)
unfolding part_lines
part_listing F d T s l ws h =
    let us = unpack s 0 ws in
    let words : spelled s 0 us ++ [] ≡ ws = append-nil (spelled s 0 us) ∙ h.whole in
    ap (part_lines F s d 0 []) (sym words)
    ∙ (lines_spelled F s d us 0 s (s + l) T [] [] [] (le_refl s) (typed_unpack s 0 ws) h.ranges tt tt
    ∙ (append-nil (listing F (d + 0) us) ∙ ap (λ (k : ℕ). listing F k us) (add-zero d)))

-- Materialising keeps the lines, and leaves no part.
pub materialise_lines : (F d T lo hi : ℕ) (ts : Trees) → Sound T lo hi ts → listing F d (materialise ts) ≡ deep_lines F d ts
unfolding materialise listing deep_lines
materialise_lines F d T lo hi nil w = refl
materialise_lines F d T lo hi (tree t s l kids rest) w =
    ap₂ (λ (ks rs : List ℕ). (node_line F d t s (s + l) ++ ks) ++ rs) (materialise_lines F (node_below F d t) T s (s + l) kids w.inner) (materialise_lines F d T (s + l) hi rest w.rest)
materialise_lines F d T lo hi (part s l ws rest) w =
    listing-⊕ F d (unpack s 0 ws) (materialise rest) ∙ ap₂ ◌++◌ (sym (part_listing F d T s l ws w.inner)) (materialise_lines F d T (s + l) hi rest w.rest)
