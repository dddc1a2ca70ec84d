-- One flat part before a list: nothing, a leaf or a part. Assumes nothing.
use mathlib.Core.Path.{◌≡◌, refl, sym, ap, ◌∙◌}
use mathlib.Core.Bool.{Bool, true, false, ◌&&◌}
use mathlib.Core.List.{List, [], ◌∷◌}
use Rattle.std.specs.Prelude.{Some}
use Prim.Native.Nat.{ℕ, suc, ◌+◌, ◌-◌, ◌*◌, ◌≤◌}
use native.Mathlib.Omega.{arith}
use native.Mathlib.Nat.{le_refl}
use lib.Dec.{eqb, ltb}
use lib.ListN.{length, get_or}
use Rattle.tree.specs.Trees.{Trees, nil, part}
use Rattle.tree.specs.Cells.{kind, id_word}
use Rattle.tree.specs.Flat.{Record, rec, flat_words, flat_part, held_end}
use Rattle.tree.proofs.FlatLaws.{Held}
use Rattle.store.specs.Store.{Holds, Same, PushedTree, PushedPart}
use Rattle.store.proofs.Frame.{same_less, frame}
use Rattle.flat.specs.Back.{from_back, held_in, Extends}
use Rattle.flat.specs.Parts.{StageReady, StagedFlat, NodeReady, TookFlat}
use Rattle.flat.proofs.Back.{held_few, sorted_held}
use Rattle.flat.proofs.Flats.{part_none, part_lone, part_many, short_part, words_length}
use Rattle.tree.specs.Well.{Short}
use Rattle.tree.specs.Ordered.{Sorted}
use Rattle.flat.specs.declared.Extent.{Extent}
use Rattle.flat.specs.declared.FlatNode.{FlatNode}

no_records : (rs : List Record) → 0 ≡ length rs → rs ≡ []
no_records [] h = refl
no_records (r ∷ rs) h = absurd (omega arith)

module _ {w l : List ℕ} {lo b : ℕ} {at : FlatNode} (ready : NodeReady w l lo b at) where
  module _ {x : Extent} (e : Extends w at.p lo b x) where
    abbrev held : List Record
    held = held_in w x.p (at.p - x.p)

    pub few_held : x.count ≤ at.p - x.p
    few_held = omega (arith, e.counted, held_few w (at.p - x.p) x.p)

    pub took_none : x.count ≡ 0 → TookFlat w l l lo b at (record { p = x.p; top = at.top; low = at.low; loose = at.loose })
    took_none z = record {
      above = e.above;
      further = e.further ready.some_record;
      grown = le_refl at.top;
      lower = le_refl at.low;
      used = omega arith;
      kept = record { size = refl; below = λ j y v. refl; above = λ j y. refl };
      holds = λ base ts live above h. rw (part_none held ts (no_records held (sym z ∙ e.counted))) h;
      flat_is = e.flat_is;
    }

    module _ (some-count : 1 ≤ x.count) where
      pub first_place : x.first * 4 + 4 ≤ length w
      first_place = omega (arith, e.within some-count, ready.within)

      pub few_words : x.count ≤ 16383
      few_words = omega (arith, e.counted, e.room.few)

      pub node_room : at.top + 10 + 4 * x.count ≤ at.low
      node_room = omega (arith, ready.room, few_held, some-count, e.above, e.below)

      module _ {start len : ℕ} (es : start ≡ get_or w (x.first * 4 + 1) 0) (el : len ≡ x.end - start) {lone : Bool} (et : lone ≡ (eqb x.count 1 && ltb 65535 len)) where
        abbrev fi : ℕ
        fi = get_or w (x.first * 4) 0

        abbrev fs : ℕ
        fs = get_or w (x.first * 4 + 1) 0

        abbrev fe : ℕ
        fe = get_or w (x.first * 4 + 2) 0

        abbrev fn : ℕ
        fn = get_or w (x.first * 4 + 3) 0

        abbrev more : List Record
        more = (e.head some-count).0

        head_is : held ≡ rec fi fs fe fn ∷ more
        head_is = (e.head some-count).1

        end_first : (d : ℕ) → held_end d (rec fi fs fe fn ∷ more) ≡ held_end fe more
        unfolding held_end
        end_first d = refl

        counted : x.count ≡ suc (length more)
        counted = e.counted ∙ ap (λ (rs : List Record). length rs) head_is

        len_is : len ≡ held_end fe more - fs
        len_is =
            let a : x.end ≡ held_end fe more = e.ended ∙ (ap (λ (rs : List Record). held_end 0 rs) head_is ∙ end_first 0) in
            omega (arith, el, a, es)

        -- one held alone and too long
        pub took_leaf : lone ≡ true → {id : ℕ} → id ≡ fi → {l' : List ℕ} {made : ℕ} → PushedTree l l' at.top 1 id start len 0 at.loose made
            → TookFlat w l l' lo b at (record { p = x.p; top = at.top + 10; low = at.low; loose = made })
        unfolding kind id_word
        took_leaf yes-it {id} ei {l'} t = record {
          above = e.above;
          further = e.further ready.some_record;
          grown = omega arith;
          lower = le_refl at.low;
          used = omega (arith, e.further ready.some_record);
          kept = same_less l l' 0 at.top (at.top + 10) 0 at.top at.low (omega arith) (omega arith) (omega (arith, node_room)) t.kept;
          holds = λ base ts live above h.
              rw (head_is, part_lone fi fs fe fn more x.count len lone counted et len_is yes-it ts, ← es, ← ei)
              (t.holds false base at.low (Some id) nil ts live above (omega (arith, node_room)) refl refl refl h);
          flat_is = e.flat_is;
        }

        -- a part
        module _ (no-it : lone ≡ false) where
          pub short_held : Short (flat_words start 0 held)
          short_held =
              let a : at.p - lo ≡ (at.p - x.p) + (x.p - lo) = omega (arith, e.above, e.below) in
              let c : lo + (x.p - lo) ≡ x.p = omega (arith, e.above) in
              let so : Sorted ready.T ready.s ready.e (from_back w lo ((at.p - x.p) + (x.p - lo))) = rw a at ready.sorted in
              let (hi, rest, he) = sorted_held w ready.T ready.s ready.e lo (at.p - x.p) (x.p - lo) so in
              let he' : Held ready.T hi ready.e (rec fi fs fe fn ∷ more) = rw (c, head_is) at he in
              let stop : ℕ = held_end 0 (rec fi fs fe fn ∷ more) - b in
              rw (es, head_is)
              (short_part ready.T ready.types b ready.bound fi fs fe fn stop hi ready.e more x.count len lone counted et len_is no-it
              he' (rw head_is at e.room))

          pub stage_ready : StageReady w l at.p x.p start x.count at.low
          stage_ready = record {
            within = ready.within;
            below = e.below;
            counted = e.counted;
            few = few_words;
            short = short_held;
            room = omega (arith, node_room);
            inside = ready.inside;
          }

          module _ {l₁ : List ℕ} {from : ℕ} (st : StagedFlat w l l₁ at.p x.p start at.low from) where
            pub staged_room : at.top + 10 ≤ from
            staged_room = omega (arith, node_room, st.address, e.counted)

            pub took_part : {words : ℕ} → words ≡ x.count * 4 → {l₂ : List ℕ} {made : ℕ} → PushedPart l₁ l₂ at.top start len from words at.loose made
                → TookFlat w l l₂ lo b at (record { p = x.p; top = at.top + 10; low = from; loose = made })
            took_part ew t = record {
              above = e.above;
              further = e.further ready.some_record;
              grown = omega arith;
              lower = omega (arith, st.address);
              used = omega (arith, st.address, e.counted, few_held, some-count, e.below);
              kept = record {
                size = t.kept.size ∙ st.kept.size;
                below = λ j y v. t.kept.below j y v ∙ st.kept.below j y (omega (arith, staged_room));
                above = λ j y. t.kept.above j (omega (arith, node_room)) ∙ st.kept.above j y;
              };
              holds = λ base ts live above h.
                  let kept_here : Same l l₁ base at.top at.low = same_less l l₁ 0 from at.low base at.top at.low (omega arith) (omega (arith, staged_room)) (le_refl at.low) st.kept in
                  let h₁ : Holds false l₁ base at.top from at.loose ts = frame false l l₁ base at.top at.low at.top from (le_refl at.top) (omega (arith, st.address)) kept_here at.loose ts h in
                  rw (part_of ts)
                  (t.holds false base from (flat_words start 0 held) ts live above staged_room (ew ∙ omega (arith, words_length start 0 held, e.counted)) st.staged h₁);
              flat_is = e.flat_is;
            }
              where
                part_of : (ts : Trees) → flat_part held ts ≡ part start len (flat_words start 0 held) ts
                part_of ts =
                    rw (es, head_is) (part_many fi fs fe fn more x.count len lone counted et len_is no-it ts)
