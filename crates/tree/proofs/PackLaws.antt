-- A packed run read back is its ordinary reading. By induction on the items, with any words behind those of the run.
-- Assumes nothing.
use mathlib.Core.Path.{◌≡◌, refl, ap, ◌∙◌}
use mathlib.Core.Bool.{Bool, true, false}
use mathlib.Core.List.{List, [], ◌++◌, append_assoc, append-nil}
use Rattle.std.specs.Prelude.{Some}
use Prim.Native.Nat.{ℕ, ◌+◌, ◌-◌, ◌*◌, ◌/◌}
use native.Mathlib.Omega.{arith}
use native.Mathlib.Nat.{add-zero}
use lib.Dec.{ltb}
use Rattle.records.specs.Forest.{line, depth_below}
use Rattle.tree.specs.Trees.{Trees, nil, tree, part, ◌⊕◌, nodes}
use Rattle.tree.specs.Materialise.{within, beyond, unpack}
use Rattle.tree.specs.Listing.{node_line, node_below, listing}
use Rattle.tree.specs.Items.{Items, mark, span}
use Rattle.tree.specs.Pack.{width, words, entry, pack}
use Rattle.tree.proofs.Reading.{reads}
use Rattle.tree.proofs.ListingLaws.{⊕-nil, ⊕-assoc, listing-⊕}
use Rattle.tree.specs.Ordered.{From}

pub nodes-⊕ : (ts us : Trees) → nodes (ts ⊕ us) ≡ nodes ts + nodes us
unfolding ◌⊕◌ nodes
nodes-⊕ nil us = omega arith
nodes-⊕ (tree t s l kids rest) us = omega (arith, nodes-⊕ rest us)
nodes-⊕ (part s l ws rest) us = omega (arith, nodes-⊕ rest us)

pub within_zero : (us : Trees) → within us 0 ≡ nil
unfolding within
within_zero nil = refl
within_zero (tree t s l kids rest) = refl
within_zero (part s l ws rest) = refl

pub beyond_zero : (us : Trees) → beyond us 0 ≡ us
unfolding beyond
beyond_zero nil = refl
beyond_zero (tree t s l kids rest) = refl
beyond_zero (part s l ws rest) = refl

cancel : (a b : ℕ) → (a + b) - a ≡ b
cancel a b = omega arith

within-⊕ : (ts us : Trees) → within (ts ⊕ us) (nodes ts) ≡ ts
unfolding ◌⊕◌ nodes within
within-⊕ nil us = within_zero us
within-⊕ (tree t s l kids rest) us = rw (cancel (nodes kids) (nodes rest)) (ap (tree t s l kids) (within-⊕ rest us))
within-⊕ (part s l ws rest) us = ap (part s l ws) (within-⊕ rest us)

beyond-⊕ : (ts us : Trees) → beyond (ts ⊕ us) (nodes ts) ≡ us
unfolding ◌⊕◌ nodes beyond
beyond-⊕ nil us = beyond_zero us
beyond-⊕ (tree t s l kids rest) us = rw (cancel (nodes kids) (nodes rest)) (beyond-⊕ rest us)
beyond-⊕ (part s l ws rest) us = beyond-⊕ rest us

-- a record over its children's trees; a repeat record is spliced out
unfoldable pub grown : (F i s l : ℕ) → Trees → Trees
grown F i s l ts = elim (ltb i F) [ true ↦ tree (Some i) s l ts nil | false ↦ ts ]

-- the trees that the words of a run spell
unfoldable pub spliced : (F p : ℕ) → Items → Trees
spliced F p Items.nil = nil
spliced F p (mark i s e n rest) = spliced F p rest
spliced F p (span i s e kids rest) = spliced F p rest ⊕ grown F i (p + (s - p)) ((e - p) - (s - p)) (spliced F p kids)

grown_nodes : (F i s l : ℕ) (ts : Trees) (c : Bool) → ltb i F ≡ c → 4 * nodes (grown F i s l ts) ≡ width F i + 4 * nodes ts
unfolding grown width nodes
grown_nodes F i s l ts true h = rw (h, grown, width) (omega arith)
grown_nodes F i s l ts false h = rw (h, grown, width) (omega arith)

pub spliced_words : (F p : ℕ) (its : Items) → 4 * nodes (spliced F p its) ≡ words F its
unfolding spliced words nodes
spliced_words F p Items.nil = refl
spliced_words F p (mark i s e n rest) = spliced_words F p rest
spliced_words F p (span i s e kids rest) =
    omega (
      arith,
      spliced_words F p rest,
      spliced_words F p kids,
      nodes-⊕ (spliced F p rest) (grown F i (p + (s - p)) ((e - p) - (s - p)) (spliced F p kids)),
      grown_nodes F i (p + (s - p)) ((e - p) - (s - p)) (spliced F p kids) (ltb i F) refl,
    )

-- one record of a part, read back before whatever follows its descendants
module _ (F p : ℕ) where
  unpack_entry : (at i s e n : ℕ) (ws : List ℕ) (ks vs : Trees) (c : Bool) → ltb i F ≡ c → 4 * nodes ks ≡ n
      → unpack p (at + width F i) ws ≡ ks ⊕ vs
      → unpack p at (entry F p at i s e n ++ ws) ≡ grown F i (p + (s - p)) ((e - p) - (s - p)) ks ⊕ vs
  unfolding entry width grown unpack ◌⊕◌
  unpack_entry at i s e n ws ks vs true h m u =
      let u' : unpack p (at + 4) ws ≡ ks ⊕ vs = rw (h, width) at u in
      let k : ((at + 4 + n) - (at + 4)) / 4 ≡ nodes ks = omega arith in
      rw (h, entry, grown) (rw (u', k, within-⊕, beyond-⊕))
  unpack_entry at i s e n ws ks vs false h m u =
      let u' : unpack p (at + 0) ws ≡ ks ⊕ vs = rw (h, width) at u in
      rw (h, entry, grown) (rw add-zero at u')

  unpack_pack : (its : Items) (off : ℕ) (v : List ℕ) → unpack p off (pack F p off its ++ v) ≡ spliced F p its ⊕ unpack p (off + words F its) v
  unfolding pack words spliced ◌⊕◌
  unpack_pack Items.nil off v = rw add-zero
  unpack_pack (mark i s e n rest) off v = unpack_pack rest off v
  unpack_pack (span i s e kids rest) off v =
      let at = off + words F rest in
      let behind = at + width F i + words F kids in
      let n : behind ≡ off + (words F rest + (width F i + words F kids)) = omega arith in
      let own = entry F p at i s e (words F kids) in
      let inner = pack F p (at + width F i) kids in
      let one = unpack_entry at i s e (words F kids) (inner ++ v) (spliced F p kids) (unpack p behind v)
      (ltb i F) refl (spliced_words F p kids) (unpack_pack kids (at + width F i) v) in
      rw (append_assoc (pack F p off rest) (own ++ inner) v, unpack_pack rest off ((own ++ inner) ++ v), append_assoc own inner v, one, ⊕-assoc, n)

-- a repeat record has no line, and its children keep the depth
pub line_repeat : (F d i s e : ℕ) → ltb i F ≡ false → line F d i s e ≡ []
unfolding line
line_repeat F d i s e h = rw (h, line)

pub below_repeat : (F d i : ℕ) → ltb i F ≡ false → depth_below F d i ≡ d
unfolding depth_below
below_repeat F d i h = rw (h, depth_below)

listing_grown : (F d i s l : ℕ) (ts : Trees) (c : Bool) → ltb i F ≡ c
    → listing F d (grown F i s l ts) ≡ line F d i s (s + l) ++ listing F (depth_below F d i) ts
unfolding grown listing node_line node_below
listing_grown F d i s l ts true h = rw (h, grown) (append-nil _)
listing_grown F d i s l ts false h = rw (h, grown, line_repeat F d i s (s + l) h, below_repeat F d i h)

listing_spliced : (F p d : ℕ) (its : Items) → From p its → listing F d (spliced F p its) ≡ reads F d its
unfolding spliced listing reads
listing_spliced F p d Items.nil h = refl
listing_spliced F p d (mark i s e n rest) h = listing_spliced F p d rest h
listing_spliced F p d (span i s e kids rest) h =
    let start : p + (s - p) ≡ s = omega arith in
    let end : s + ((e - p) - (s - p)) ≡ e = omega arith in
    rw (listing-⊕, listing_spliced F p d rest h.3, listing_grown F d i (p + (s - p)) ((e - p) - (s - p)) (spliced F p kids) (ltb i F) refl, start, end, listing_spliced F p (depth_below F d i) kids h.2)

-- a packed run read back
pub unpack_run : (F p : ℕ) (its : Items) → unpack p 0 (pack F p 0 its) ≡ spliced F p its
unfolding unpack
unpack_run F p its = rw append-nil at (unpack_pack F p its 0 []) ∙ ⊕-nil (spliced F p its)

pub listing_pack : (F p d : ℕ) (its : Items) → From p its → listing F d (unpack p 0 (pack F p 0 its)) ≡ reads F d its
listing_pack F p d its h = rw (unpack_run F p its) (listing_spliced F p d its h)
