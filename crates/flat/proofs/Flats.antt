-- What held records become: nothing, a leaf or a part. Assumes nothing.
use mathlib.Core.Path.{◌≡◌, refl, sym, ap, ◌∙◌}
use mathlib.Core.Bool.{Bool, true, false, ◌&&◌, true≢false}
use mathlib.Core.List.{List, [], ◌∷◌}
use Rattle.std.specs.Prelude.{Option, Some}
use Prim.Native.Nat.{ℕ, suc, ◌+◌, ◌-◌, ◌*◌, ◌≤◌}
use native.Mathlib.Omega.{arith}
use borrow.Author.Tests.{eq-eqb, ne_eqb, ltb-false}
use lib.Dec.{eqb, ltb}
use lib.ListN.{length}
use Rattle.tree.specs.Trees.{Trees, nil, tree, part}
use Rattle.tree.specs.Groups.{Gathered, gather}
use Rattle.tree.specs.Flat.{Record, rec, flat_words, held_end, flat_part}
use Rattle.tree.proofs.FlatLaws.{Held}
use Rattle.tree.proofs.ShortLaws.{short_flat}
use Rattle.tree.proofs.WellBuild.{held_tight}
use Rattle.gathering.specs.Gathering.{due}
use Rattle.gathering.proofs.Due.{due_part, due_leaf}
use Rattle.flat.proofs.Extending.{gather_none}
use Rattle.tree.specs.Well.{Short}
use Rattle.tree.specs.Ordered.{Room}

pub part_none : (held : List Record) (ts : Trees) → held ≡ [] → flat_part held ts ≡ ts
unfolding flat_part
part_none held ts h = rw h

pub words_length : (q off : ℕ) (rs : List Record) → length (flat_words q off rs) ≡ 4 * length rs
unfolding flat_words
words_length q off [] = refl
words_length q off (rec i s e n ∷ rs) = omega (arith, words_length q (off + 4) rs)

-- the answers of the test, for one held record and for more
module _ (i s e n : ℕ) (more : List Record) (count len : ℕ) (x : Bool) (counted : count ≡ suc (length more)) (test : x ≡ (eqb count 1 && ltb 65535 len)) (long : len ≡ held_end e more - s) where
  lone_test : more ≡ [] → ltb 65535 (e - s) ≡ x
  unfolding held_end
  lone_test z =
      let one : count ≡ 1 = counted ∙ rw z in
      let l : len ≡ e - s = long ∙ rw z in
      sym (test ∙ rw (eq-eqb count 1 one, l))

  many_test : (r : Record) (rs : List Record) → more ≡ r ∷ rs → x ≡ false
  many_test r rs z =
      let two : count ≡ suc (suc (length rs)) = counted ∙ rw z in
      test ∙ rw (ne_eqb count 1 (λ y. omega arith))

pub part_lone : (i s e n : ℕ) (more : List Record) (count len : ℕ) (x : Bool) → count ≡ suc (length more) → x ≡ (eqb count 1 && ltb 65535 len) → len ≡ held_end e more - s
    → x ≡ true → (ts : Trees) → flat_part (rec i s e n ∷ more) ts ≡ tree (Some i) s len nil ts
unfolding flat_part held_end
part_lone i s e n [] count len x c t l yes-it ts =
    ap (λ (y : Bool). elim y as (λ z. Trees) [ true ↦ tree (Some i) s (e - s) nil ts | false ↦ part s (e - s) (flat_words s 0 (rec i s e n ∷ [])) ts ])
    (lone_test i s e n [] count len x c t l refl ∙ yes-it)
    ∙ ap (λ (k : ℕ). tree (Some i) s k nil ts) (sym l)
part_lone i s e n (r ∷ rs) count len x c t l yes-it ts =
    absurd (true≢false (sym yes-it ∙ many_test i s e n (r ∷ rs) count len x c t l r rs refl))

pub part_many : (i s e n : ℕ) (more : List Record) (count len : ℕ) (x : Bool) → count ≡ suc (length more) → x ≡ (eqb count 1 && ltb 65535 len) → len ≡ held_end e more - s
    → x ≡ false → (ts : Trees) → flat_part (rec i s e n ∷ more) ts ≡ part s len (flat_words s 0 (rec i s e n ∷ more)) ts
unfolding flat_part held_end
part_many i s e n [] count len x c t l no-it ts =
    ap (λ (y : Bool). elim y as (λ z. Trees) [ true ↦ tree (Some i) s (e - s) nil ts | false ↦ part s (e - s) (flat_words s 0 (rec i s e n ∷ [])) ts ])
    (lone_test i s e n [] count len x c t l refl ∙ no-it)
    ∙ ap (λ (k : ℕ). part s k (flat_words s 0 (rec i s e n ∷ [])) ts) (sym l)
part_many i s e n (r ∷ rs) count len x c t l no-it ts = ap (λ (k : ℕ). part s k (flat_words s 0 (rec i s e n ∷ r ∷ rs)) ts) (sym l)

-- the words of a part have 16 bits
module _ (T : ℕ) (types : T ≤ 65536) (b : ℕ) (bound : b ≤ 65535) where
  near_end : (i s e n stop : ℕ) (more : List Record) → (more ≡ [] → e ≤ s + 65535) → Room b (rec i s e n ∷ more) stop → held_end e more ≤ s + 65535
  unfolding held_end
  near_end i s e n stop [] h room = h refl
  near_end i s e n stop (r ∷ rs) h room = omega (arith, room.spread.1)

  pub short_part : (i s e n stop lo hi : ℕ) (more : List Record) (count len : ℕ) (x : Bool) → count ≡ suc (length more) → x ≡ (eqb count 1 && ltb 65535 len) → len ≡ held_end e more - s
      → x ≡ false → Held T lo hi (rec i s e n ∷ more) → Room b (rec i s e n ∷ more) stop → Short (flat_words s 0 (rec i s e n ∷ more))
  short_part i s e n stop lo hi more count len x c t l no-it h room =
      let (a, under, over) = held_tight T types e hi more h.rest in
      let near : held_end e more ≤ s + 65535 =
      near_end i s e n stop more (λ z. omega (arith, ltb-false 65535 (e - s) (lone_test i s e n more count len x c t l z ∙ no-it))) room in
      short_flat T s 0 s (held_end e more) (rec i s e n ∷ more) types near (omega (arith, room.few))
      (record { known = h.known; starts = omega arith; ordered = h.ordered; rest = a })

-- at most one unit more is due
pub due_held : (own : Option ℕ) (held : List Record) (g : Gathered) → due own (gather (flat_part held) g) ≤ suc (due own g)
unfolding flat_part
due_held own [] g = let z : due own (gather (flat_part []) g) ≡ due own g = ap (λ (h : Gathered). due own h) (gather_none g) in omega arith
due_held own (rec i s e n ∷ []) g = go (ltb 65535 (e - s))
  where
    go : (x : Bool) → due own (gather (λ ts. elim x as (λ z. Trees) [ true ↦ tree (Some i) s (e - s) nil ts | false ↦ part s (e - s) (flat_words s 0 (rec i s e n ∷ [])) ts ]) g) ≤ suc (due own g)
    go true = due_leaf own (Some i) s (e - s) g
    go false = omega (arith, due_part own s (e - s) (flat_words s 0 (rec i s e n ∷ [])) g)
due_held own (rec i s e n ∷ r ∷ rs) g = omega (arith, due_part own s (held_end e (r ∷ rs) - s) (flat_words s 0 (rec i s e n ∷ r ∷ rs)) g)
