-- A part's records become trees from the last one back: each takes the trees of the records that stand in it. Assumes nothing.
use mathlib.Core.Path.{◌≡◌, refl, sym, ap, subst, ◌∙◌}
use mathlib.Core.List.{List, [], ◌∷◌}
use Rattle.std.specs.Prelude.{Some}
use Prim.Native.Nat.{ℕ, zero, suc, ◌+◌, ◌-◌, ◌*◌, ◌/◌, ◌≤◌, ◌<◌}
use native.Mathlib.Omega.{arith}
use native.Mathlib.Nat.{le_refl}
use lib.ListN.{length, take, drop, length-drop}
use lib.Seq.{length-take-le, get_or-take, get_or-drop}
use Rattle.words.specs.Words.{id_of, start_of, end_of, last_of}
use Rattle.words.proofs.Runs.{four_at}
use Rattle.tree.specs.Trees.{Trees, nil, tree, part, ◌⊕◌, nodes, siblings}
use Rattle.tree.specs.Cells.{kind, id_word, relative, cell_width}
use Rattle.tree.specs.Materialise.{within, beyond, unpack}
use Rattle.materialize.specs.Steps.{Made, Room, Behind, so_far, Open, Moved, Taken, Put, inner_count, Packed}
use Rattle.materialize.proofs.Written.{siblings-⊕, siblings_nodes}
use Rattle.materialize.proofs.Handing.{siblings_relative, siblings_so_far, so_far_tree}

-- the record i - 1
pub record_at : (p : ℕ) (ws : List ℕ) (i : ℕ) → 0 < i → i * 4 ≤ length ws
    → unpack p ((i - 1) * 4) (drop ((i - 1) * 4) ws)
    ≡ tree (Some (id_of ws (i - 1))) (p + start_of ws (i - 1)) (end_of ws (i - 1) - start_of ws (i - 1))
    (within (unpack p (i * 4) (drop (i * 4) ws)) (inner_count (last_of ws (i - 1)) ((i - 1) * 4)))
    (beyond (unpack p (i * 4) (drop (i * 4) ws)) (inner_count (last_of ws (i - 1)) ((i - 1) * 4)))
unfolding unpack inner_count
record_at p ws i z l =
    let e : i - 1 + 1 ≡ i = omega arith in
    let f : (i - 1) * 4 + 4 ≡ i * 4 = omega arith in
    ap (λ x. unpack p ((i - 1) * 4) x) (four_at ws (i - 1) (omega arith)) ∙ rw (e, f)

-- words left over are no record
nothing_left : (p off : ℕ) (ws : List ℕ) → length ws < 4 → unpack p off ws ≡ nil
unfolding unpack
nothing_left p off [] h = refl
nothing_left p off (i ∷ []) h = refl
nothing_left p off (i ∷ s ∷ []) h = refl
nothing_left p off (i ∷ s ∷ e ∷ []) h = refl
nothing_left p off (i ∷ s ∷ e ∷ n ∷ ws) h = absurd (omega arith)

pub siblings_within : (ts : Trees) (k : ℕ) → siblings (within ts k) + siblings (beyond ts k) ≡ siblings ts
unfolding within beyond siblings
siblings_within nil k = refl
siblings_within (tree t s l kids rest) zero = omega arith
siblings_within (tree t s l kids rest) (suc k) = omega (arith, siblings_within rest (k - nodes kids))
siblings_within (part s l ws rest) zero = omega arith
siblings_within (part s l ws rest) (suc k) = omega (arith, siblings_within rest k)

pub same_room : (w w' o o' : List ℕ) (n : ℕ) → length w' ≡ length w → length o' ≡ length o → Room w o n → Room w' o' n
same_room w w' o o' n a b r = record { wide = omega (arith, r.wide); deep = omega (arith, r.deep); few = r.few }

pub behind_on : (n : ℕ) (a b c : List ℕ) → Behind n a b → Behind n b c → Behind n a c
behind_on n a b c x y = record { same = λ j h. y.same j h ∙ x.same j h }

pub inner_few : (n off : ℕ) → inner_count n off ≤ n
unfolding inner_count
inner_few n off = omega arith

-- the loop: the records from i on are trees
pub record Unpacking (held₀ held out₀ out : List ℕ) (c p sp : ℕ) (ws : List ℕ) (left i : ℕ) : Type 0 where
  pub few : i * 4 ≤ length ws
  pub over : sp ≤ left
  pub on_stack : left ≤ length held
  pub held_size : length held ≡ length held₀
  pub out_size : length out ≡ length out₀
  pub made : (g : Packed held₀ out₀ c p sp ws) → Made held out g.total (c + i) (so_far (unpack p (i * 4) (drop (i * 4) ws)) g.rest)
  pub all : (g : Packed held₀ out₀ c p sp ws) → siblings (so_far (unpack p (i * 4) (drop (i * 4) ws)) g.rest) ≡ left
  pub out_behind : (g : Packed held₀ out₀ c p sp ws) → Behind (g.total * cell_width) out₀ out

pub unpacking_start : {held out : List ℕ} {c p sp : ℕ} {ws : List ℕ} → Packed held out c p sp ws → Unpacking held held out out c p sp ws sp (length ws / 4)
unfolding relative ◌⊕◌
unpacking_start {held} {out} {c} {p} {sp} {ws} start =
    let i : ℕ = length ws / 4 in
    let e : unpack p (i * 4) (drop (i * 4) ws) ≡ nil = nothing_left p (i * 4) (drop (i * 4) ws) (omega (arith, length-drop (i * 4) ws)) in
    record {
      few = omega arith;
      over = le_refl sp;
      on_stack = omega (arith, start.all, siblings_nodes start.rest, start.made.size, start.room.deep);
      held_size = refl;
      out_size = refl;
      made = λ g. rw e g.made;
      all = λ g. rw e g.all;
      out_behind = λ g. record { same = λ j h. refl };
    }

module _ {held₀ held out₀ out : List ℕ} {c p sp : ℕ} {ws : List ℕ} {left i : ℕ} (v : Unpacking held₀ held out₀ out c p sp ws left i) (z : 0 < i) where
  abbrev ts : Trees
  ts = unpack p (i * 4) (drop (i * 4) ws)

  abbrev k : ℕ
  k = inner_count (last_of ws (i - 1)) ((i - 1) * 4)

  pub cell_few : Packed held₀ out₀ c p sp ws → c + (i - 1) + 1 ≤ 4294967295
  cell_few g = omega (arith, v.few, g.made.size, g.room.few)

  -- the trees of the part on the stack
  abbrev roots : List ℕ
  roots = take (left - sp) (drop sp held)

  module _ {n : ℕ} (n_is : n ≡ k) where
    abbrev limit : ℕ
    limit = c + (i - 1) + 1 + n

    abbrev pub opened : Packed held₀ out₀ c p sp ws → Open roots out limit
    opened g =
        let long : length roots ≡ left - sp = length-take-le (left - sp) (drop sp held) (omega (arith, v.on_stack, length-drop sp held)) in
        record {
          held = held;
          low = sp;
          read = λ j h. get_or-take (left - sp) (drop sp held) j 0 (omega (arith, long)) ∙ get_or-drop sp held j 0;
          total = g.total;
          cell = c + i;
          trees = ts;
          rest = g.rest;
          count = k;
          made = v.made g;
          room = same_room held₀ held out₀ out g.total v.held_size v.out_size g.room;
          left = g.all;
          all = v.all g ∙ omega (arith, long, v.over);
          limit_is = omega (arith, n_is);
        }

    module _ {q r : ℕ} {out₁ : List ℕ} (m : Moved roots out out₁ limit q r) (long : length out₁ ≡ length out) where
      abbrev pub taken : Packed held₀ out₀ c p sp ws → Taken held out₁ (c + (i - 1)) (sp + r) left
      taken g =
          let h : Made held out₁ g.total (c + i) (relative q (within ts k) ⊕ so_far (beyond ts k) g.rest) = m.made (opened g) in
          let as_one : c + i ≡ suc (c + (i - 1)) = omega arith in
          record {
            total = g.total;
            kids = relative q (within ts k);
            rest = so_far (beyond ts k) g.rest;
            made = subst (λ (x : ℕ). Made held out₁ g.total x (relative q (within ts k) ⊕ so_far (beyond ts k) g.rest)) as_one h;
            room = same_room held₀ held out₀ out₁ g.total v.held_size (long ∙ v.out_size) g.room;
            left = m.left (opened g);
            all =
                siblings-⊕ (relative q (within ts k)) (so_far (beyond ts k) g.rest)
                ∙ omega (arith, siblings_relative q (within ts k), siblings_so_far (beyond ts k) g.rest, siblings_within ts k, siblings_so_far ts g.rest, v.all g);
          }

      module _ {held₂ out₂ : List ℕ} {l d : ℕ} (e : Put held held₂ out₁ out₂ (c + (i - 1)) (sp + r) left 1 d q l)
          (h : length held₂ ≡ length held) (o : length out₂ ≡ length out₁)
          (start_is : q ≡ p + start_of ws (i - 1)) (length_is : l ≡ end_of ws (i - 1) - start_of ws (i - 1)) (id_is : d ≡ id_of ws (i - 1)) where
        next_is : (g : Packed held₀ out₀ c p sp ws)
            → tree (Some (id_of ws (i - 1))) q l (relative q (within ts k)) (so_far (beyond ts k) g.rest) ≡ so_far (unpack p ((i - 1) * 4) (drop ((i - 1) * 4) ws)) g.rest
        next_is g = rw (record_at p ws i z v.few, start_is, length_is) (sym (so_far_tree (Some (id_of ws (i - 1))) (p + start_of ws (i - 1)) (end_of ws (i - 1) - start_of ws (i - 1)) (within ts k) (beyond ts k) g.rest))

        pub unpacking_next : Packed held₀ out₀ c p sp ws → Unpacking held₀ held₂ out₀ out₂ c p sp ws (sp + r + 1) (i - 1)
        unfolding kind id_word siblings nodes
        unpacking_next start = record {
          few = omega (arith, v.few);
          over = omega arith;
          on_stack = omega (arith, (e.made (taken start) (Some (id_of ws (i - 1))) refl id_is).size, m.left (opened start), siblings_nodes (so_far (beyond ts k) start.rest), start.room.deep, h, v.held_size);
          held_size = h ∙ v.held_size;
          out_size = o ∙ long ∙ v.out_size;
          made = λ g. rw (sym (next_is g)) (e.made (taken g) (Some (id_of ws (i - 1))) refl id_is);
          all = λ g. rw (sym (next_is g)) (omega (arith, m.left (opened g)));
          out_behind = λ g. behind_on (g.total * cell_width) out₀ out₁ out₂ (behind_on (g.total * cell_width) out₀ out out₁ (v.out_behind g) (m.behind (opened g))) (e.out_behind (taken g));
        }
