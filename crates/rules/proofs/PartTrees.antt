-- The records around a record, and the trees that a part's words are read as: their words, put together again. Assumes nothing.
use mathlib.Core.Path.{◌≡◌, refl}
use mathlib.Core.Bool.{Bool, true, false}
use mathlib.Core.List.{List, [], ◌∷◌, ◌++◌, append_assoc}
use Rattle.std.specs.Prelude.{None, Some}
use Prim.Native.Nat.{ℕ, zero, suc, ◌+◌, ◌-◌, ◌*◌, ◌/◌}
use native.Mathlib.Omega.{arith}
use native.Mathlib.Nat.{add-zero}
use lib.Dec.{leb}
use lib.ListN.{length, length-append}
use Rattle.tree.specs.Trees.{Trees, nil, tree, part, ◌⊕◌, nodes}
use Rattle.tree.specs.Materialise.{within, beyond, unpack}
use Rattle.tree.proofs.PartForms.{open_ends}
use Rattle.rules.specs.PartLowest.{Around, still}
use Rattle.tree.specs.Well.{spelled}

-- the end indices of records around
abbrev pub stops : List Around → List ℕ
stops [] = []
stops (a ∷ outer) = a.stop ∷ stops outer

pub open_ends_stops : (off : ℕ) (outer : List Around) → open_ends off (stops outer) ≡ stops (still off outer)
unfolding open_ends still
open_ends_stops off [] = refl
open_ends_stops off (a ∷ outer) = go (leb a.stop off) (open_ends_stops off outer)
  where
    go : (b : Bool) → open_ends off (stops outer) ≡ stops (still off outer)
        → elim b [ true ↦ open_ends off (stops outer) | false ↦ a.stop ∷ stops outer ] ≡ stops (elim b [ true ↦ still off outer | false ↦ a ∷ outer ])
    go true h = h
    go false h = refl

-- trees of records: every one has an id, and there are no parts
abbrev pub Entries : Trees → Type 0
Entries nil = Unit {0}
Entries (tree None s l kids rest) = ⊥
Entries (tree (Some i) s l kids rest) = Entries kids × Entries rest
Entries (part s l ws rest) = ⊥

pub entries_within : (ts : Trees) (k : ℕ) → Entries ts → Entries (within ts k)
unfolding within
entries_within nil k h = tt
entries_within (tree None s l kids rest) zero h = tt
entries_within (tree None s l kids rest) (suc k) h = h
entries_within (tree (Some i) s l kids rest) zero h = tt
entries_within (tree (Some i) s l kids rest) (suc k) h = (h.0, entries_within rest (k - nodes kids) h.1)
entries_within (part s l ws rest) k h = absurd h

entries_beyond : (ts : Trees) (k : ℕ) → Entries ts → Entries (beyond ts k)
unfolding beyond
entries_beyond nil k h = tt
entries_beyond (tree None s l kids rest) k h = absurd h
entries_beyond (tree (Some i) s l kids rest) zero h = h
entries_beyond (tree (Some i) s l kids rest) (suc k) h = entries_beyond rest (k - nodes kids) h.1
entries_beyond (part s l ws rest) k h = absurd h

pub entries_unpack : (p off : ℕ) (ws : List ℕ) → Entries (unpack p off ws)
unfolding unpack
entries_unpack p off [] = tt
entries_unpack p off (i ∷ []) = tt
entries_unpack p off (i ∷ s ∷ []) = tt
entries_unpack p off (i ∷ s ∷ e ∷ []) = tt
entries_unpack p off (i ∷ s ∷ e ∷ n ∷ ws) =
    let ts = unpack p (off + 4) ws in
    let k = (n - (off + 4)) / 4 in
    let h = entries_unpack p (off + 4) ws in
    (entries_within ts k h, entries_beyond ts k h)

pub spelled-⊕ : (p off : ℕ) (ts us : Trees) → Entries ts → spelled p off (ts ⊕ us) ≡ spelled p off ts ++ spelled p (off + 4 * nodes ts) us
unfolding spelled ◌⊕◌ nodes
spelled-⊕ p off nil us a = rw add-zero
spelled-⊕ p off (tree None s l kids rest) us a = absurd a
spelled-⊕ p off (tree (Some i) s l kids rest) us a =
    let n = off + 4 + 4 * nodes kids in
    let q : off + 4 * suc (nodes kids + nodes rest) ≡ n + 4 * nodes rest = omega arith in
    rw (spelled-⊕ p n rest us a.1, q, append_assoc (spelled p (off + 4) kids) (spelled p n rest) (spelled p (n + 4 * nodes rest) us))
spelled-⊕ p off (part s l ws rest) us a = absurd a

pub length_spelled : (p off : ℕ) (ts : Trees) → Entries ts → length (spelled p off ts) ≡ 4 * nodes ts
unfolding spelled nodes
length_spelled p off nil a = refl
length_spelled p off (tree None s l kids rest) a = absurd a
length_spelled p off (tree (Some i) s l kids rest) a =
    let n = off + 4 + 4 * nodes kids in
    omega (arith, length-append (spelled p (off + 4) kids) (spelled p n rest), length_spelled p (off + 4) kids a.0, length_spelled p n rest a.1)
length_spelled p off (part s l ws rest) a = absurd a
