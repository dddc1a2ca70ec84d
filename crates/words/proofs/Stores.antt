-- Words put into a list: what stands where, and stores in a row are words put into the list. Assumes nothing.
use mathlib.Core.Path.{◌≡◌, ap, ◌∙◌}
use mathlib.Core.List.{List, [], ◌∷◌, ◌++◌, append_assoc}
use Prim.Native.Nat.{ℕ, ◌+◌, ◌-◌, ◌≤◌, ◌<◌}
use native.Mathlib.Omega.{arith}
use native.Mathlib.Numerals.{towards_suc}
use lib.ListN.{length, get_or, take, drop, set, length-append, length-drop, get_or-append}
use lib.Seq.{sets-eq, length-take-le, get_or-take, get_or-drop, get_or-append-add}
use Rattle.words.specs.Words.{put}

module _ (l : List ℕ) (at : ℕ) (vs : List ℕ) (h : at + length vs ≤ length l) where
  front_length : length (take at l) ≡ at
  front_length = length-take-le at l (omega arith)

  pub put_length : length (put l at vs) ≡ length l
  put_length =
      length-append (take at l) (vs ++ drop (at + length vs) l)
      ∙ omega (arith, front_length, length-append vs (drop (at + length vs) l), length-drop (at + length vs) l)

  pub put_in : (k : ℕ) → k < length vs → get_or (put l at vs) (at + k) 0 ≡ get_or vs k 0
  put_in k m =
      let e : at + k ≡ length (take at l) + k = omega (arith, front_length) in
      ap (λ (j : ℕ). get_or (put l at vs) j 0) e
      ∙ get_or-append-add (take at l) (vs ++ drop (at + length vs) l) k 0
      ∙ get_or-append vs (drop (at + length vs) l) 0 k m

  pub put_before : (k : ℕ) → k < at → get_or (put l at vs) k 0 ≡ get_or l k 0
  put_before k m =
      get_or-append (take at l) (vs ++ drop (at + length vs) l) 0 k (omega (arith, front_length))
      ∙ get_or-take at l k 0 m

  pub put_after : (k : ℕ) → at + length vs ≤ k → get_or (put l at vs) k 0 ≡ get_or l k 0
  put_after k m =
      let i : ℕ = k - (at + length vs) in
      let e : k ≡ length (take at l) + (length vs + i) = omega (arith, front_length) in
      let f : at + length vs + i ≡ k = omega arith in
      ap (λ (j : ℕ). get_or (put l at vs) j 0) e
      ∙ get_or-append-add (take at l) (vs ++ drop (at + length vs) l) (length vs + i) 0
      ∙ get_or-append-add vs (drop (at + length vs) l) i 0
      ∙ get_or-drop (at + length vs) l i 0
      ∙ ap (λ (j : ℕ). get_or l j 0) f

pub put_four : (l : List ℕ) (at a b c d : ℕ) → at + 4 ≤ length l → set (set (set (set l at a) (at + 1) b) (at + 2) c) (at + 3) d ≡ put l at (a ∷ b ∷ c ∷ d ∷ [])
put_four l at a b c d h = simp towards_suc (simp towards_suc at (sets-eq (a ∷ b ∷ c ∷ d ∷ []) l at h ∙ append_assoc (take at l) (a ∷ b ∷ c ∷ d ∷ []) (drop (at + 4) l)))
