-- The end indices of listed records in the work slice, and the ranges of a part's records. Assumes nothing.
use mathlib.Core.Path.{◌≡◌, refl, sym, ap, ap₂, subst, ◌∙◌}
use mathlib.Core.Bool.{Bool, true, false, cond}
use mathlib.Core.List.{List, [], ◌∷◌, ◌++◌, append_assoc, append-nil}
use Rattle.std.specs.Prelude.{None, Some}
use Prim.Native.Nat.{ℕ, zero, suc, ◌+◌, ◌*◌, ◌≤◌, ◌<◌}
use native.Mathlib.Omega.{arith}
use native.Mathlib.Nat.{le_refl}
use borrow.Author.Tests.{le-leb, lt-leb, le-ltb, lt-ltb, ltb-true, ltb-false}
use lib.Dec.{ltb, leb}
use lib.ListN.{length, get_or, set, take, length-take}
use lib.Seq.{get_or-set_same, get_or-set_other, get_or-take, length-take-le}
use Rattle.tree.specs.Trees.{Trees, nil, tree, part, nodes}
use Rattle.tree.specs.Cells.{id_word}
use Rattle.tree.specs.Materialise.{unpack}
use Rattle.tree.specs.Well.{Plain, Parts, spelled}
use Rattle.tree.proofs.WellLaws.{well-≤}
use Rattle.tree.proofs.PartForms.{open_ends}
use Rattle.tree.proofs.MaterialiseLaws.{Typed, typed_unpack}
use Rattle.part_lines.specs.Steps.{still_open}

-- the end indices that are held, the latest first
unfoldable pub ends_held : (held : List ℕ) (top : ℕ) → List ℕ
ends_held held zero = []
ends_held held (suc t) = get_or held t 0 ∷ ends_held held t

pub length_ends : (held : List ℕ) (t : ℕ) → length (ends_held held t) ≡ t
unfolding ends_held
length_ends held zero = refl
length_ends held (suc t) = ap suc (length_ends held t)

-- those past the offset are left
pub ends_open : (held : List ℕ) (off top : ℕ) → open_ends off (ends_held held top) ≡ ends_held held (still_open held off top)
unfolding ends_held open_ends still_open
ends_open held off zero = refl
ends_open held off (suc t) = go (ends_open held off t) (ltb off (get_or held t 0)) refl
  where
    go : open_ends off (ends_held held t) ≡ ends_held held (still_open held off t) → (x : Bool) → ltb off (get_or held t 0) ≡ x
        → elim (leb (get_or held t 0) off) [ true ↦ open_ends off (ends_held held t) | false ↦ get_or held t 0 ∷ ends_held held t ]
        ≡ ends_held held (cond x (suc t) (still_open held off t))
    go same true e = rw (lt-leb (get_or held t 0) off (ltb-true off (get_or held t 0) e), ends_held)
    go same false e = rw (le-leb (get_or held t 0) off (ltb-false off (get_or held t 0) e)) same

pub still_few : (held : List ℕ) (off top : ℕ) → still_open held off top ≤ top
unfolding still_open
still_few held off zero = omega arith
still_few held off (suc t) = go (ltb off (get_or held t 0)) (still_few held off t)
  where
    go : (x : Bool) → still_open held off t ≤ t → cond x (suc t) (still_open held off t) ≤ suc t
    go true h = le_refl (suc t)
    go false h = omega arith

-- the ends past the first `top` do not count
still_front : (held : List ℕ) (off n top : ℕ) → top ≤ n → still_open (take n held) off top ≡ still_open held off top
unfolding still_open
still_front held off n zero h = refl
still_front held off n (suc t) h = rw (get_or-take n held t 0 (omega arith), still_front held off n t (omega arith))

pub still_taken : (held : List ℕ) (off top : ℕ) → top ≤ length held → still_open (take top held) off (length (take top held)) ≡ still_open held off top
still_taken held off top h = ap (still_open (take top held) off) (length-take-le top held h) ∙ still_front held off top top (le_refl top)

pub taken_few : (held : List ℕ) (off top : ℕ) → still_open (take top held) off (length (take top held)) ≤ top
taken_few held off top = omega (arith, still_few (take top held) off (length (take top held)), length-take top held)

-- the latest end past the offset is the last that is left, and none is left where none is past it
pub still_none : (held : List ℕ) (off n : ℕ) → ((k : ℕ) → k < n → get_or held k 0 ≤ off) → still_open held off n ≡ 0
unfolding still_open
still_none held off zero h = refl
still_none held off (suc n) h = rw (le-ltb off (get_or held n 0) (h n (omega arith))) (still_none held off n (λ k l. h k (omega arith)))

pub still_last : (held : List ℕ) (off n t : ℕ) → t < n → off < get_or held t 0 → ((k : ℕ) → t < k → k < n → get_or held k 0 ≤ off) → still_open held off n ≡ t + 1
unfolding still_open
still_last held off zero t l p h = absurd (omega arith)
still_last held off (suc n) t l p h = go (λ m. still_last held off n t m p (λ k i o. h k i (omega arith))) (ltb t n) refl
  where
    go : (t < n → still_open held off n ≡ t + 1) → (x : Bool) → ltb t n ≡ x → cond (ltb off (get_or held n 0)) (suc n) (still_open held off n) ≡ t + 1
    go inner true e =
        let before : t < n = ltb-true t n e in
        rw (le-ltb off (get_or held n 0) (h n before (omega arith))) (inner before)
    go inner false e =
        let last : t ≡ n = omega (arith, ltb-false t n e, l) in
        rw (lt-ltb off (get_or held n 0) (subst (λ (k : ℕ). off < get_or held k 0) last p)) (omega (arith, last))

-- one more end is put on
ends_other : (held : List ℕ) (x k t : ℕ) → k ≤ t → ends_held (set held t x) k ≡ ends_held held k
unfolding ends_held
ends_other held x zero t h = refl
ends_other held x (suc k) t h = ap₂ (λ (y : ℕ) (l : List ℕ). y ∷ l) (get_or-set_other held t k x 0 (λ e. omega (arith, e))) (ends_other held x k t (omega arith))

pub ends_push : (held : List ℕ) (x t : ℕ) → t < length held → ends_held (set held t x) (t + 1) ≡ x ∷ ends_held held t
unfolding ends_held
ends_push held x t l =
    ap (ends_held (set held t x)) more
    ∙ ap₂ (λ (y : ℕ) (l : List ℕ). y ∷ l) (get_or-set_same held t x 0 l) (ends_other held x t t (le_refl t))
  where
    more : t + 1 ≡ suc t
    more = omega arith

-- starts and ends of records, of words four to a record, are at most m
abbrev pub Within : (m : ℕ) → List ℕ → Type 0
Within m [] = Unit {0}
Within m (i ∷ []) = Unit {0}
Within m (i ∷ s ∷ []) = Unit {0}
Within m (i ∷ s ∷ e ∷ []) = Unit {0}
Within m (i ∷ s ∷ e ∷ x ∷ ws) = record { starts : s ≤ m; ends : e ≤ m; rest : Within m ws }

spelled_within : (us : Trees) (T p lo hi m off : ℕ) (v : List ℕ) → p ≤ lo → hi ≤ p + m → Typed us → Plain T lo hi us → Within m v → Within m (spelled p off us ++ v)
unfolding spelled id_word
spelled_within nil T p lo hi m off v l h a w f = f
spelled_within (tree None s k kids rest) T p lo hi m off v l h a w f = absurd a
spelled_within (part s k ws rest) T p lo hi m off v l h a w f = absurd a
spelled_within (tree (Some i) s k kids rest) T p lo hi m off v l h a w f =
    let n = off + 4 + 4 * nodes kids in
    let high = well-≤ T (λ s l ws. ⊥) (s + k) hi rest w.rest in
    let A = spelled p (off + 4) kids in
    let B = spelled p n rest in
    let later = spelled_within rest T p (s + k) hi m n v (omega (arith, w.starts)) h a.1 w.rest f in
    let inner = spelled_within kids T p s (s + k) m (off + 4) (B ++ v) (omega (arith, w.starts)) (omega (arith, high)) a.0 w.inner later in
    record {
      starts = omega (arith, high);
      ends = omega (arith, high);
      rest = subst (Within m) (sym (append_assoc A B v)) inner;
    }

-- those of a part lie within its length
pub parts_within : (T p l : ℕ) (ws : List ℕ) → Parts T p l ws → Within l ws
parts_within T p l ws h =
    let us = unpack p 0 ws in
    subst (Within l) (append-nil (spelled p 0 us) ∙ h.whole) (spelled_within us T p p (p + l) l 0 [] (le_refl p) (le_refl (p + l)) (typed_unpack p 0 ws) h.ranges tt)
