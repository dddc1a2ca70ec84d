-- The words of a flat part, staged record by record from the last one back. Assumes nothing.
use mathlib.Core.Path.{◌≡◌, refl, sym, ap, ◌∙◌}
use mathlib.Core.List.{List, [], ◌∷◌}
use Prim.Native.Nat.{ℕ, suc, ◌+◌, ◌-◌, ◌*◌, ◌≤◌, ◌<◌}
use native.Mathlib.Omega.{arith}
use native.Mathlib.Nat.{le_refl}
use lib.ListN.{length, get_or}
use Rattle.tree.specs.Flat.{Record, rec, hold, flat_words}
use Rattle.store.specs.Store.{Same, Staged, StagedMore}
use Rattle.store.proofs.Frame.{same_less, same_then}
use Rattle.flat.specs.Back.{record_at, held_in}
use Rattle.flat.specs.Parts.{RecordReady, StagedRecord, StageReady, StagedFlat}
use Rattle.flat.proofs.Back.{hold_none, hold_one, held_none, held_one, held_step, held_split, short_split}
use Rattle.tree.specs.Well.{Short}

pub same_down : (l l₁ l₂ : List ℕ) (b a low : ℕ) → b ≤ a → a ≤ low → Same l l₁ 0 a low → Same l₁ l₂ 0 b a → Same l l₂ 0 b low
same_down l l₁ l₂ b a low h k s t =
    same_then l l₁ l₂ 0 b low (same_less l l₁ 0 a low 0 b low (omega arith) h (omega arith) s) (same_less l₁ l₂ 0 b a 0 b low (omega arith) (omega arith) k t)

-- four words
module _ {w l l₁ l₂ l₃ l₄ : List ℕ} {j q index low from to id v₁ v₂ a b c r : ℕ} where
  pub staged_record : v₁ ≡ get_or w (j * 4 + 1) 0 → from ≡ v₁ - q → v₂ ≡ get_or w (j * 4 + 2) 0 → to ≡ v₂ - q → id ≡ get_or w (j * 4) 0
      → StagedMore l l₁ low index a → StagedMore l₁ l₂ a to b → StagedMore l₂ l₃ b from c → StagedMore l₃ l₄ c id r → StagedRecord w l l₄ j q index low r
  staged_record e₁ f₁ e₂ f₂ e₃ s₁ s₂ s₃ s₄ =
      let x₁ : get_or w (j * 4 + 1) 0 - q ≡ from = sym (f₁ ∙ ap (λ (k : ℕ). k - q) e₁) in
      let x₂ : get_or w (j * 4 + 2) 0 - q ≡ to = sym (f₂ ∙ ap (λ (k : ℕ). k - q) e₂) in
      record {
        address = omega (arith, s₁.address, s₂.address, s₃.address, s₄.address);
        kept =
            same_down l l₃ l₄ r c low (omega (arith, s₄.address)) (omega (arith, s₁.address, s₂.address, s₃.address))
            (same_down l l₂ l₃ c b low (omega (arith, s₃.address)) (omega (arith, s₁.address, s₂.address))
            (same_down l l₁ l₂ b a low (omega (arith, s₂.address)) (omega (arith, s₁.address)) s₁.kept s₂.kept) s₃.kept) s₄.kept;
        holds = λ ws h. rw (x₁, x₂, ← e₃) (s₄.holds _ (s₃.holds _ (s₂.holds _ (s₁.holds ws h))));
      }

words_one : (q left i s e n : ℕ) (rs : List Record) → 4 ≤ left
    → flat_words q (left - 4) (rec i s e n ∷ rs) ≡ i ∷ (s - q) ∷ (e - q) ∷ left ∷ flat_words q left rs
unfolding flat_words
words_one q left i s e n rs h = let z : left - 4 + 4 ≡ left = omega arith in rw z

words_none : (q left : ℕ) → flat_words q left [] ≡ []
unfolding flat_words
words_none q left = refl

-- the four words of the first record have 16 bits
record Narrow (q left i s e : ℕ) : Type 0 where
  id : i < 65536
  start : s - q < 65536
  end : e - q < 65536
  last : left < 65536

narrow_first : (q left i s e n : ℕ) (rs : List Record) → 4 ≤ left → Short (flat_words q (left - 4) (rec i s e n ∷ rs)) → Narrow q left i s e
narrow_first q left i s e n rs h sh =
    let t : Short (i ∷ (s - q) ∷ (e - q) ∷ left ∷ flat_words q left rs) = rw (words_one q left i s e n rs h) at sh in
    record { id = t.0; start = t.1.0; end = t.1.1.0; last = t.1.1.1.0 }

module _ (w : List ℕ) (to at : ℕ) (some_record : to < at) where
  abbrev i : ℕ
  i = get_or w ((at - 1) * 4) 0

  abbrev s : ℕ
  s = get_or w ((at - 1) * 4 + 1) 0

  abbrev e : ℕ
  e = get_or w ((at - 1) * 4 + 2) 0

  abbrev pub n : ℕ
  n = get_or w ((at - 1) * 4 + 3) 0

  split_last : length (held_in w to (at - to)) ≡ length (held_in w to (at - 1 - to)) + length (hold (record_at w (at - 1)) [])
  split_last =
      let a : at - to ≡ (at - 1 - to) + 1 = omega arith in
      let b : to + (at - 1 - to) ≡ at - 1 = omega arith in
      let one : held_in w (at - 1) 1 ≡ hold (record_at w (at - 1)) [] = held_one w (at - 1) 0 ∙ ap (λ (rs : List Record). hold (record_at w (at - 1)) rs) (held_none w (suc (at - 1))) in
      ap (λ (k : ℕ). length (held_in w to k)) a
      ∙ (held_split w (at - 1 - to) 1 to
      ∙ (ap (λ (k : ℕ). length (held_in w to (at - 1 - to)) + length (held_in w k 1)) b
      ∙ ap (λ (rs : List Record). length (held_in w to (at - 1 - to)) + length rs) one))

  last_held : n ≤ 4 → length (held_in w to (at - to)) ≡ suc (length (held_in w to (at - 1 - to)))
  last_held h =
      let one : length (hold (record_at w (at - 1)) []) ≡ 1 = ap (λ (rs : List Record). length rs) (hold_one i s e n [] h) in
      omega (arith, split_last, one)

  last_dropped : 4 < n → length (held_in w to (at - to)) ≡ length (held_in w to (at - 1 - to))
  last_dropped h =
      let none_more : length (hold (record_at w (at - 1)) []) ≡ 0 = ap (λ (rs : List Record). length rs) (hold_none i s e n [] h) in
      omega (arith, split_last, none_more)

-- the held ones from `at` on are staged, and `left` words are still to come
pub record Staging (w l : List ℕ) (p to q low at left below : ℕ) (l' : List ℕ) : Type 0 where
  pub above : to ≤ at
  pub under : at ≤ p
  pub left_is : left ≡ 4 * length (held_in w to (at - to))
  pub address : below + 4 * length (held_in w at (p - at)) ≡ low
  pub kept : Same l l' 0 below low
  pub staged : Staged l' below below (flat_words q left (held_in w at (p - at)))

module _ {w l : List ℕ} {p to q count low : ℕ} (ready : StageReady w l p to q count low) where
  pub staging_start : Staging w l p to q low p (count * 4) low l
  staging_start =
      let z : p - p ≡ 0 = omega arith in
      let none_yet : held_in w p (p - p) ≡ [] = ap (λ (k : ℕ). held_in w p k) z ∙ held_none w p in
      record {
        above = ready.below;
        under = omega arith;
        left_is = omega (arith, ready.counted);
        address = rw none_yet (omega arith);
        kept = record { size = refl; below = λ j x y. refl; above = λ j x. refl };
        staged = rw (none_yet, words_none q (count * 4)) (record {
          above = le_refl low;
          within = omega (arith, ready.inside);
          same = λ k x. absurd (omega arith);
          narrow = λ k x. absurd (omega arith);
        });
      }

  module _ {at left below : ℕ} {l' : List ℕ} (h : Staging w l p to q low at left below l') where
    pub staging_place : to < at → (at - 1) * 4 + 4 ≤ length w
    staging_place t = omega (arith, h.under, ready.within)

    module _ (some_record : to < at) where
      step : held_in w (at - 1) (p - (at - 1)) ≡ hold (record_at w (at - 1)) (held_in w at (p - at))
      step = held_step w p at (omega arith) h.under

      pub staging_drop : 4 < n w to at some_record → Staging w l p to q low (at - 1) left below l'
      staging_drop big =
          let same : held_in w (at - 1) (p - (at - 1)) ≡ held_in w at (p - at) = step ∙ hold_none _ _ _ _ (held_in w at (p - at)) big in
          record {
            above = omega arith;
            under = omega (arith, h.under);
            left_is = omega (arith, h.left_is, last_dropped w to at some_record big);
            address = rw same h.address;
            kept = h.kept;
            staged = rw same h.staged;
          }

      module _ (small : n w to at some_record ≤ 4) where
        grown : held_in w (at - 1) (p - (at - 1)) ≡ record_at w (at - 1) ∷ held_in w at (p - at)
        grown = step ∙ hold_one _ _ _ _ (held_in w at (p - at)) small

        pub staging_four : 4 ≤ left
        staging_four = omega (arith, h.left_is, last_held w to at some_record small)

        all_held : count ≡ length (held_in w to (at - 1 - to)) + suc (length (held_in w at (p - at)))
        all_held =
            let a : p - to ≡ (at - 1 - to) + (p - (at - 1)) = omega (arith, h.under) in
            let b : to + (at - 1 - to) ≡ at - 1 = omega arith in
            ready.counted
            ∙ (ap (λ (k : ℕ). length (held_in w to k)) a
            ∙ (held_split w (at - 1 - to) (p - (at - 1)) to
            ∙ (ap (λ (k : ℕ). length (held_in w to (at - 1 - to)) + length (held_in w k (p - (at - 1)))) b
            ∙ ap (λ (rs : List Record). length (held_in w to (at - 1 - to)) + length rs) grown)))

        short_here : Short (flat_words q (left - 4) (record_at w (at - 1) ∷ held_in w at (p - at)))
        short_here =
            let a : p - to ≡ (at - 1 - to) + (p - (at - 1)) = omega (arith, h.under) in
            let b : to + (at - 1 - to) ≡ at - 1 = omega arith in
            let d : 0 + 4 * length (held_in w to (at - 1 - to)) ≡ left - 4 = omega (arith, h.left_is, last_held w to at some_record small) in
            let sh : Short (flat_words q 0 (held_in w to ((at - 1 - to) + (p - (at - 1))))) = rw a at ready.short in
            rw (b, d, grown) at (short_split w (at - 1 - to) (p - (at - 1)) to q 0 sh)

        pub record_ready : RecordReady w l' (at - 1) q left below
        record_ready =
            let t = narrow_first q left (i w to at some_record) (s w to at some_record) (e w to at some_record) (n w to at some_record) (held_in w at (p - at)) staging_four short_here in
            record {
              within = staging_place some_record;
              room = omega (arith, h.address, ready.room, all_held);
              inside = omega (arith, h.address, ready.inside, h.kept.size);
              id = t.id;
              start = t.start;
              end = t.end;
              last = t.last;
            }

        pub staging_hold : (l'' : List ℕ) (r : ℕ) → StagedRecord w l' l'' (at - 1) q left below r → Staging w l p to q low (at - 1) (left - 4) r l''
        staging_hold l'' r st = record {
          above = omega arith;
          under = omega (arith, h.under);
          left_is = omega (arith, h.left_is, last_held w to at some_record small);
          address = rw grown (omega (arith, h.address, st.address));
          kept = same_down l l' l'' r below low (omega (arith, st.address)) (omega (arith, h.address)) h.kept st.kept;
          staged =
              rw (grown, words_one q left (i w to at some_record) (s w to at some_record) (e w to at some_record) (n w to at some_record) (held_in w at (p - at)) staging_four)
              (st.holds (flat_words q left (held_in w at (p - at))) h.staged);
        }

    -- the same by the size that the code has read
    module _ (some_record : to < at) {v : ℕ} (ev : v ≡ n w to at some_record) where
      pub drop_at : 4 < v → Staging w l p to q low (at - 1) left below l'
      drop_at big = staging_drop some_record (omega arith)

      module _ (small : v ≤ 4) where
        pub four_at : 4 ≤ left
        four_at = staging_four some_record (omega arith)

        pub ready_at : RecordReady w l' (at - 1) q left below
        ready_at = record_ready some_record (omega arith)

        pub hold_at : {l'' : List ℕ} {r : ℕ} → StagedRecord w l' l'' (at - 1) q left below r → Staging w l p to q low (at - 1) (left - 4) r l''
        hold_at {l''} {r} st = staging_hold some_record (omega arith) l'' r st

    pub staging_end : at ≤ to → StagedFlat w l l' p to q low below
    staging_end d =
        let z : at ≡ to = omega (arith, h.above) in
        let y : to - to ≡ 0 = omega arith in
        let none_left : length (held_in w to (at - to)) ≡ 0 =
        ap (λ (k : ℕ). length (held_in w to (k - to))) z ∙ (ap (λ (k : ℕ). length (held_in w to k)) y ∙ ap (λ (rs : List Record). length rs) (held_none w to)) in
        let x : left ≡ 0 = omega (arith, h.left_is) in
        record {
          address = rw z at h.address;
          kept = h.kept;
          staged = rw (x, z) at h.staged;
        }
