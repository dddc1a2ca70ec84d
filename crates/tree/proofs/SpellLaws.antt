-- Packed words are the words of the trees that they are read back to, for runs and for flat parts. Assumes nothing.
use mathlib.Core.Path.{◌≡◌, refl, ◌∙◌}
use mathlib.Core.Bool.{Bool, true, false}
use mathlib.Core.List.{List, [], ◌∷◌, ◌++◌, append_assoc, append-nil}
use Rattle.std.specs.Prelude.{Some}
use Prim.Native.Nat.{ℕ, suc, ◌+◌, ◌-◌, ◌*◌, ◌/◌, ◌≤◌}
use native.Mathlib.Omega.{arith}
use native.Mathlib.Nat.{add-zero}
use lib.Dec.{ltb}
use Rattle.tree.specs.Trees.{Trees, nil, tree, part, ◌⊕◌, nodes}
use Rattle.tree.specs.Materialise.{unpack}
use Rattle.tree.specs.Items.{Items, mark, span}
use Rattle.tree.specs.Pack.{width, words, entry, pack}
use Rattle.tree.specs.Flat.{Record, rec, flat_words}
use Rattle.tree.specs.Cells.{id_word}
use Rattle.tree.proofs.PackLaws.{grown, spliced, spliced_words, unpack_run, within_zero, beyond_zero}
use Rattle.tree.proofs.FlatLaws.{Held}
use Rattle.tree.specs.Ordered.{From}
use Rattle.tree.specs.Well.{spelled}

-- trees without parts
abbrev pub NoParts : Trees → Type 0
NoParts nil = Unit {0}
NoParts (tree t s l kids rest) = NoParts kids × NoParts rest
NoParts (part s l ws rest) = ⊥

no-parts-⊕ : (ts us : Trees) → NoParts ts → NoParts us → NoParts (ts ⊕ us)
unfolding ◌⊕◌
no-parts-⊕ nil us a b = b
no-parts-⊕ (tree t s l kids rest) us a b = (a.0, no-parts-⊕ rest us a.1 b)
no-parts-⊕ (part s l ws rest) us a b = a

pub spelled-⊕ : (p off : ℕ) (ts us : Trees) → NoParts ts → spelled p off (ts ⊕ us) ≡ spelled p off ts ++ spelled p (off + 4 * nodes ts) us
unfolding spelled ◌⊕◌ nodes
spelled-⊕ p off nil us a = rw add-zero
spelled-⊕ p off (tree t s l kids rest) us a =
    let n = off + 4 + 4 * nodes kids in
    let q : off + 4 * suc (nodes kids + nodes rest) ≡ n + 4 * nodes rest = omega arith in
    rw (spelled-⊕ p n rest us a.1, q, append_assoc (spelled p (off + 4) kids) (spelled p n rest) (spelled p (n + 4 * nodes rest) us))
spelled-⊕ p off (part s l ws rest) us a = absurd a

module _ (F p : ℕ) where
  no_parts_grown : (i s l : ℕ) (ts : Trees) → NoParts ts → NoParts (grown F i s l ts)
  unfolding grown
  no_parts_grown i s l ts a = go (ltb i F)
    where
      go : (x : Bool) → NoParts (elim x [ true ↦ tree (Some i) s l ts nil | false ↦ ts ])
      go true = (a, tt)
      go false = a

  no_parts_spliced : (its : Items) → NoParts (spliced F p its)
  unfolding spliced
  no_parts_spliced Items.nil = tt
  no_parts_spliced (mark i s e n rest) = no_parts_spliced rest
  no_parts_spliced (span i s e kids rest) =
      no-parts-⊕ (spliced F p rest) _ (no_parts_spliced rest) (no_parts_grown i (p + (s - p)) ((e - p) - (s - p)) (spliced F p kids) (no_parts_spliced kids))

  spelled_grown : (off i s e n : ℕ) (ts : Trees) (ws : List ℕ) → s ≤ e → 4 * nodes ts ≡ n → spelled p (off + width F i) ts ≡ ws
      → spelled p off (grown F i (p + (s - p)) ((e - p) - (s - p)) ts) ≡ entry F p off i s e n ++ ws
  unfolding spelled grown entry width id_word
  spelled_grown off i s e n ts ws h m = go (ltb i F)
    where
      go : (x : Bool) → spelled p (off + elim x [ true ↦ 4 | false ↦ 0 ]) ts ≡ ws
          → spelled p off (elim x [ true ↦ tree (Some i) (p + (s - p)) ((e - p) - (s - p)) ts nil | false ↦ ts ])
          ≡ elim x [ true ↦ i ∷ (s - p) ∷ (e - p) ∷ (off + 4 + n) ∷ [] | false ↦ [] ] ++ ws
      go true q =
          let a : (p + (s - p)) - p ≡ s - p = omega arith in
          let b : ((p + (s - p)) + ((e - p) - (s - p))) - p ≡ e - p = omega arith in
          rw (a, b, m, q, append-nil)
      go false q = rw add-zero at q

  spelled_spliced : (its : Items) (off : ℕ) → From p its → spelled p off (spliced F p its) ≡ pack F p off its
  unfolding spliced pack spelled
  spelled_spliced Items.nil off f = refl
  spelled_spliced (mark i s e n rest) off f = spelled_spliced rest off f
  spelled_spliced (span i s e kids rest) off f =
      let g = grown F i (p + (s - p)) ((e - p) - (s - p)) (spliced F p kids) in
      let at = off + words F rest in
      spelled-⊕ p off (spliced F p rest) g (no_parts_spliced rest)
      ∙ rw (
        spliced_words F p rest,
        spelled_spliced rest off f.3,
        spelled_grown at i s e (words F kids) (spliced F p kids) (pack F p (at + width F i) kids) f.1 (spliced_words F p kids) (spelled_spliced kids (at + width F i) f.2),
      )

  pub spelled_run : (its : Items) → From p its → spelled p 0 (unpack p 0 (pack F p 0 its)) ≡ pack F p 0 its
  spelled_run its f = rw (unpack_run F p its) (spelled_spliced its 0 f)

pub spelled_flat : (T p off lo hi : ℕ) (rs : List Record) → Held T lo hi rs → spelled p off (unpack p off (flat_words p off rs)) ≡ flat_words p off rs
unfolding spelled unpack flat_words id_word nodes
spelled_flat T p off lo hi [] h = refl
spelled_flat T p off lo hi (rec i s e n ∷ rs) h =
    let none_inside : ((off + 4) - (off + 4)) / 4 ≡ 0 = omega arith in
    let a : (p + (s - p)) - p ≡ s - p = omega arith in
    let b : ((p + (s - p)) + ((e - p) - (s - p))) - p ≡ e - p = omega (arith, h.ordered) in
    rw (none_inside, within_zero, beyond_zero, a, b, add-zero, spelled_flat T p (off + 4) e hi rs h.rest)
