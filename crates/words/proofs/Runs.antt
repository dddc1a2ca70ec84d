-- Runs of words: their length, their words, and an output written run by run from its front. Assumes nothing.
use mathlib.Core.Path.{◌≡◌, refl, sym, ap, ◌∙◌}
use mathlib.Core.List.{List, [], ◌∷◌, ◌++◌, append_assoc, append-nil}
use Prim.Native.Nat.{ℕ, suc, ◌+◌, ◌-◌, ◌*◌, ◌≤◌, ◌<◌}
use native.Mathlib.Omega.{arith}
use lib.ListN.{length, get_or, take, drop, length-append, length-drop}
use lib.Seq.{length-take-le, get_or-take, get_or-drop, take_at, drop_at, drop-drop, drop-cons}
use Rattle.words.specs.Words.{id_of, start_of, end_of, last_of, run, put, front}

module _ (w : List ℕ) (from to : ℕ) (ordered : from ≤ to) (inside : to ≤ length w) where
  pub run_length : length (run w from to) ≡ to - from
  run_length = length-take-le (to - from) (drop from w) (rw length-drop (omega arith))

  pub run_word : (k : ℕ) → k < to - from → get_or (run w from to) k 0 ≡ get_or w (from + k) 0
  run_word k l = get_or-take (to - from) (drop from w) k 0 l ∙ get_or-drop from w k 0

-- the words from record i on are its four and those from record i + 1 on
pub four_at : (w : List ℕ) (i : ℕ) → i * 4 + 4 ≤ length w → drop (i * 4) w ≡ id_of w i ∷ start_of w i ∷ end_of w i ∷ last_of w i ∷ drop ((i + 1) * 4) w
four_at w i l =
    let a : suc (i * 4) ≡ i * 4 + 1 = omega arith in
    let b : suc (i * 4 + 1) ≡ i * 4 + 2 = omega arith in
    let c : suc (i * 4 + 2) ≡ i * 4 + 3 = omega arith in
    let d : suc (i * 4 + 3) ≡ (i + 1) * 4 = omega arith in
    drop-cons w (i * 4) 0 (omega arith)
    ∙ ap (λ (r : List ℕ). id_of w i ∷ r) (ap (λ (k : ℕ). drop k w) a ∙ drop-cons w (i * 4 + 1) 0 (omega arith)
    ∙ ap (λ (r : List ℕ). start_of w i ∷ r) (ap (λ (k : ℕ). drop k w) b ∙ drop-cons w (i * 4 + 2) 0 (omega arith)
    ∙ ap (λ (r : List ℕ). end_of w i ∷ r) (ap (λ (k : ℕ). drop k w) c ∙ drop-cons w (i * 4 + 3) 0 (omega arith)
    ∙ ap (λ (r : List ℕ). last_of w i ∷ r) (ap (λ (k : ℕ). drop k w) d))))

-- An output written run by run: `out` is `out₀` with the `at` words of `done` at its front, and the words `rest` are still to come; `whole` is both
-- together.
pub record Fronted (whole out₀ out rest : List ℕ) (at : ℕ) : Type 0 where
  pub done : List ℕ
  pub size : length done ≡ at
  pub joined : done ++ rest ≡ whole
  pub holds : out ≡ done ++ drop at out₀

pub fronted_none : (whole out : List ℕ) → Fronted whole out out whole 0
fronted_none whole out = record { done = []; size = refl; joined = refl; holds = refl }

module _ (whole out₀ out rest : List ℕ) (at : ℕ) (h : Fronted whole out₀ out rest at) where
  pub fronted_length : at ≤ length out₀ → length out ≡ length out₀
  fronted_length l =
      let e = ap length h.holds ∙ length-append h.done (drop at out₀) in
      omega (arith, e, length-drop at out₀, h.size)

  -- the next words of the rest are put behind those that are done
  pub fronted_next : (vs later out' : List ℕ) (at' : ℕ) → at + length vs ≡ at' → rest ≡ vs ++ later → out' ≡ put out at vs → Fronted whole out₀ out' later at'
  fronted_next vs later out' at' is e o = record {
    done = h.done ++ vs;
    size = length-append h.done vs ∙ omega (arith, h.size);
    joined = append_assoc h.done vs later ∙ ap (λ (r : List ℕ). h.done ++ r) (sym e) ∙ h.joined;
    holds = o ∙ ap (λ (r : List ℕ). r ++ (vs ++ drop (at + length vs) out)) before ∙ ap (λ (r : List ℕ). h.done ++ (vs ++ r)) after ∙ sym (append_assoc h.done vs _);
  }
    where
      before : take at out ≡ h.done
      before = rw h.holds (take_at h.done (drop at out₀) at h.size)

      beyond : drop at out ≡ drop at out₀
      beyond = rw h.holds (drop_at h.done (drop at out₀) at h.size)

      after : drop (at + length vs) out ≡ drop at' out₀
      after = sym (drop-drop (length vs) at out) ∙ ap (drop (length vs)) beyond ∙ drop-drop (length vs) at out₀ ∙ ap (λ (k : ℕ). drop k out₀) is

  pub fronted_all : rest ≡ [] → out ≡ front whole out₀
  fronted_all e =
      let all : h.done ≡ whole = sym (append-nil h.done) ∙ ap (λ (r : List ℕ). h.done ++ r) (sym e) ∙ h.joined in
      h.holds ∙ ap (λ (k : ℕ). h.done ++ drop k out₀) (sym h.size) ∙ ap (λ (d : List ℕ). front d out₀) all
