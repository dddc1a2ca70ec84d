-- The trees of a part that become children of the record before them, one by one: their starts are counted from its start.
-- Assumes nothing.
use mathlib.Core.Path.{◌≡◌, refl, sym, ap, subst, ◌∙◌}
use mathlib.Core.List.{List}
use Rattle.std.specs.Prelude.{Option}
use mathlib.Core.Logic.{◌⊎◌, inl, inr}
use Prim.Native.Nat.{ℕ, zero, suc, ◌+◌, ◌-◌, ◌*◌, ◌≤◌, ◌<◌}
use native.Mathlib.Omega.{arith}
use native.Mathlib.Nat.{add-zero}
use lib.ListN.{length, get_or, set, length-set}
use lib.Seq.{get_or-set_same, get_or-set_other}
use Rattle.tree.specs.Trees.{Trees, nil, tree, part, ◌⊕◌, nodes, siblings}
use Rattle.tree.specs.Cells.{relative, cell_width, id_place, position_place, length_place, first_place, count_place, next_place, cell_position}
use Rattle.tree.specs.Materialise.{within, beyond}
use Rattle.tree.proofs.PackLaws.{nodes-⊕}
use Rattle.tree.proofs.ListingLaws.{⊕-assoc}
use Rattle.materialize.specs.Steps.{leads, Out, Roots, Made, Behind, so_far, Open, Moved}
use Rattle.materialize.proofs.Written.{siblings-⊕, out_frame, out_split, out_join, roots_after}

pub nodes_relative : (q : ℕ) (ts : Trees) → nodes (relative q ts) ≡ nodes ts
unfolding relative nodes
nodes_relative q nil = refl
nodes_relative q (tree t s l kids rest) = omega (arith, nodes_relative s kids, nodes_relative q rest)
nodes_relative q (part s l ws rest) = omega (arith, nodes_relative q rest)

pub siblings_relative : (q : ℕ) (ts : Trees) → siblings (relative q ts) ≡ siblings ts
unfolding relative siblings
siblings_relative q nil = refl
siblings_relative q (tree t s l kids rest) = omega (arith, siblings_relative q rest)
siblings_relative q (part s l ws rest) = omega (arith, siblings_relative q rest)

pub siblings_so_far : (ts rest : Trees) → siblings (so_far ts rest) ≡ siblings ts + siblings rest
siblings_so_far ts rest = siblings-⊕ (relative 0 ts) rest ∙ omega (arith, siblings_relative 0 ts)

within_zero : (ts : Trees) → within ts 0 ≡ nil
unfolding within
within_zero nil = refl
within_zero (tree t s l kids rest) = refl
within_zero (part s l ws rest) = refl

beyond_zero : (ts : Trees) → beyond ts 0 ≡ ts
unfolding beyond
beyond_zero nil = refl
beyond_zero (tree t s l kids rest) = refl
beyond_zero (part s l ws rest) = refl

within_none : (ts : Trees) (k : ℕ) → siblings ts ≡ 0 → within ts k ≡ nil
unfolding within siblings
within_none nil k h = refl
within_none (tree t s l kids rest) k h = absurd (omega arith)
within_none (part s l ws rest) k h = absurd (omega arith)

beyond_none : (ts : Trees) (k : ℕ) → siblings ts ≡ 0 → beyond ts k ≡ ts
unfolding beyond siblings
beyond_none nil k h = refl
beyond_none (tree t s l kids rest) k h = absurd (omega arith)
beyond_none (part s l ws rest) k h = absurd (omega arith)

roots_swap : (w : List ℕ) (c : ℕ) (ts us vs : Trees) → siblings vs ≡ siblings us → Roots w c (ts ⊕ us) → Roots w (c + nodes ts) vs → Roots w c (ts ⊕ vs)
unfolding ◌⊕◌ nodes
roots_swap w c nil us vs e h g = subst (λ (k : ℕ). Roots w k vs) (add-zero c) g
roots_swap w c (tree t s l kids rest) us vs e h g =
    let a : c + suc (nodes kids + nodes rest) ≡ c + suc (nodes kids) + nodes rest = omega arith in
    let b : siblings (rest ⊕ vs) ≡ siblings (rest ⊕ us) = siblings-⊕ rest vs ∙ omega (arith, e, siblings-⊕ rest us) in
    record {
      at = ap (λ (k : ℕ). get_or w k 0) b ∙ h.at;
      after = roots_swap w (c + suc (nodes kids)) rest us vs e h.after (subst (λ (k : ℕ). Roots w k vs) a g);
    }
roots_swap w c (part s l ws rest) us vs e h g = absurd h

pub so_far_tree : (t : Option ℕ) (s l : ℕ) (kids more rest : Trees) → so_far (tree t s l kids more) rest ≡ tree t s l (relative s kids) (so_far more rest)
unfolding relative ◌⊕◌
so_far_tree t s l kids more rest = let e : s - 0 ≡ s = omega arith in ap (λ (k : ℕ). tree t k l (relative s kids) (so_far more rest)) e

-- one root counts its start from q
module _ (w o : List ℕ) (n c q : ℕ) (done : Trees) (t : Option ℕ) (s l : ℕ) (kids rest : Trees) (m : Made w o n c (done ⊕ tree t s l kids rest)) (wide : n * cell_width ≤ length o) where
  abbrev r : ℕ
  r = c + nodes done

  abbrev o' : List ℕ
  o' = set o (r * cell_width + position_place) (s - q)

  parts_of : Out o c (suc r) done × Out o r 0 (tree t s l kids rest)
  unfolding leads
  parts_of = out_split o c 0 done (tree t s l kids rest) m.cells

  pub root_inside : r < n
  unfolding nodes
  root_inside = omega (arith, m.size, nodes-⊕ done (tree t s l kids rest))

  other : (j : ℕ) → (j ≡ r * cell_width + position_place → ⊥) → get_or o' j 0 ≡ get_or o j 0
  other j e = get_or-set_other o (r * cell_width + position_place) j (s - q) 0 e

  pub restarted : Made w o' n c (done ⊕ tree t (s - q) l kids rest)
  unfolding leads nodes siblings
  restarted =
      let h = parts_of.1 in
      record {
        cells =
            out_join o' c 0 done (tree t (s - q) l kids rest)
            (out_frame o o' c (suc r) done (λ j x y. other j (λ e. omega arith)) parts_of.0)
            (record {
              kind_at = other (r * cell_width) (λ e. omega arith) ∙ h.kind_at;
              id_at = other (r * cell_width + id_place) (λ e. omega arith) ∙ h.id_at;
              start_at = get_or-set_same o (r * cell_width + position_place) (s - q) 0 (omega (arith, root_inside));
              length_at = other (r * cell_width + length_place) (λ e. omega arith) ∙ h.length_at;
              first_at = other (r * cell_width + first_place) (λ e. omega arith) ∙ h.first_at;
              count_at = other (r * cell_width + count_place) (λ e. omega arith) ∙ h.count_at;
              next_at = other (r * cell_width + next_place) (λ e. omega arith) ∙ h.next_at;
              inner = out_frame o o' (suc r) 0 kids (λ j x y. other j (λ e. omega arith)) h.inner;
              after = out_frame o o' (r + suc (nodes kids)) 0 rest (λ j x y. other j (λ e. omega arith)) h.after;
            });
        roots =
            let g = roots_after w c done (tree t s l kids rest) m.roots in
            roots_swap w c done (tree t s l kids rest) (tree t (s - q) l kids rest) refl m.roots (record { at = g.at; after = g.after });
        size = omega (arith, m.size, nodes-⊕ done (tree t s l kids rest), nodes-⊕ done (tree t (s - q) l kids rest));
      }

  pub restart_behind : (j : ℕ) → n * cell_width ≤ j → get_or o' j 0 ≡ get_or o j 0
  restart_behind j h = other j (λ e. omega (arith, root_inside))

  pub read_root : get_or w (siblings rest) 0 ≡ r
  read_root = (roots_after w c done (tree t s l kids rest) m.roots).at

  pub read_start : cell_position o r ≡ s
  read_start = parts_of.1.start_at

-- Where the work stands: the trees `done` are children, those `ahead` are still to be looked at.
pub record Moving (held out : List ℕ) (limit q left n c : ℕ) (ts rest : Trees) (k : ℕ) : Type 0 where
  pub done : Trees
  pub ahead : Trees
  pub over : ℕ
  pub made : Made held out n c (done ⊕ so_far ahead rest)
  pub here : left ≡ siblings (so_far ahead rest)
  pub over_is : over ≡ limit - (c + nodes done)
  pub whole : done ⊕ (relative q (within ahead over) ⊕ so_far (beyond ahead over) rest) ≡ relative q (within ts k) ⊕ so_far (beyond ts k) rest
  pub stays : beyond ahead over ≡ beyond ts k

module _ (roots out : List ℕ) (limit q : ℕ) (p : Open roots out limit) where
  pub moving_start : Moving p.held out limit q (p.low + length roots) p.total p.cell p.trees p.rest p.count
  unfolding ◌⊕◌ nodes
  moving_start = record {
    done = nil;
    ahead = p.trees;
    over = p.count;
    made = p.made;
    here = sym p.all;
    over_is = omega (arith, p.limit_is);
    whole = refl;
    stays = refl;
  }

module _ (held out : List ℕ) (limit q left n c : ℕ) (ts rest : Trees) (k : ℕ) (v : Moving held out limit q left n c ts rest k) where
  -- no more are children: the limit is reached, or there are no more
  pub moving_end : (v.over ≡ 0) ⊎ (left ≤ siblings rest) → Made held out n c (relative q (within ts k) ⊕ so_far (beyond ts k) rest) × (siblings (so_far (beyond ts k) rest) ≡ left)
  unfolding relative ◌⊕◌
  moving_end e = (
    subst (Made held out n c) (ap (λ x. v.done ⊕ x) (sym (here_is e)) ∙ v.whole) v.made,
    ap (λ x. siblings (so_far x rest)) (sym v.stays ∙ (ends e).1) ∙ sym v.here,
  )
    where
      ends : (v.over ≡ 0) ⊎ (left ≤ siblings rest) → (within v.ahead v.over ≡ nil) × (beyond v.ahead v.over ≡ v.ahead)
      ends (inl z) = rw z (within_zero v.ahead, beyond_zero v.ahead)
      ends (inr z) =
          let none_left : siblings v.ahead ≡ 0 = omega (arith, v.here, siblings_so_far v.ahead rest) in
          (within_none v.ahead v.over none_left, beyond_none v.ahead v.over none_left)

      here_is : (v.over ≡ 0) ⊎ (left ≤ siblings rest) → relative q (within v.ahead v.over) ⊕ so_far (beyond v.ahead v.over) rest ≡ so_far v.ahead rest
      here_is e = rw ((ends e).0, (ends e).1)

-- the next one: its number, and what becomes of it
pub record Next (held out : List ℕ) (limit q left n c : ℕ) (ts rest : Trees) (k over r : ℕ) : Type 0 where
  pub inside : r < n
  pub at_limit : limit ≤ r → over ≡ 0
  pub moved : r < limit → Moving held (set out (r * cell_width + position_place) (cell_position out r - q)) limit q (left - 1) n c ts rest k
  pub behind : (j : ℕ) → n * cell_width ≤ j → get_or (set out (r * cell_width + position_place) (cell_position out r - q)) j 0 ≡ get_or out j 0

module _ (held out : List ℕ) (limit q left n c : ℕ) (ts rest : Trees) (k : ℕ) (wide : n * cell_width ≤ length out) (more_left : siblings rest < left) where
  next_by : (done ahead : Trees) (over : ℕ) → Made held out n c (done ⊕ so_far ahead rest) → left ≡ siblings (so_far ahead rest) → over ≡ limit - (c + nodes done)
      → done ⊕ (relative q (within ahead over) ⊕ so_far (beyond ahead over) rest) ≡ relative q (within ts k) ⊕ so_far (beyond ts k) rest
      → beyond ahead over ≡ beyond ts k
      → Next held out limit q left n c ts rest k over (get_or held (left - 1) 0)
  unfolding relative ◌⊕◌ siblings nodes within beyond
  next_by done nil over m h o w s = absurd (omega arith)
  next_by done (part s₂ l ws more) over m h o w s = absurd (out_split out c 0 done (so_far (part s₂ l ws more) rest) m.cells).1
  next_by done (tree t s₂ l kids more) zero m h o w s =
      let on : Trees = so_far more rest in
      let ks : Trees = relative s₂ kids in
      let u : Made held out n c (done ⊕ tree t s₂ l ks on) = subst (λ x. Made held out n c (done ⊕ x)) (so_far_tree t s₂ l kids more rest) m in
      let e : left - 1 ≡ siblings on = omega arith in
      let a : get_or held (left - 1) 0 ≡ c + nodes done = ap (λ (j : ℕ). get_or held j 0) e ∙ read_root held out n c q done t s₂ l ks on u wide in
      rw a (record {
        inside = root_inside held out n c q done t s₂ l ks on u wide;
        at_limit = λ x. refl;
        moved = λ x. absurd (omega arith);
        behind = λ j x. rw (read_start held out n c q done t s₂ l ks on u wide) (restart_behind held out n c q done t s₂ l ks on u wide j x);
      })
  next_by done (tree t s₂ l kids more) (suc over) m h o w s =
      let on : Trees = so_far more rest in
      let ks : Trees = relative s₂ kids in
      let u : Made held out n c (done ⊕ tree t s₂ l ks on) = subst (λ x. Made held out n c (done ⊕ x)) (so_far_tree t s₂ l kids more rest) m in
      let e : left - 1 ≡ siblings on = omega arith in
      let a : get_or held (left - 1) 0 ≡ c + nodes done = ap (λ (j : ℕ). get_or held j 0) e ∙ read_root held out n c q done t s₂ l ks on u wide in
      let one : Trees = tree t (s₂ - q) l ks nil in
      rw a (record {
        inside = root_inside held out n c q done t s₂ l ks on u wide;
        at_limit = λ x. absurd (omega arith);
        moved = λ x. record {
          done = done ⊕ one;
          ahead = more;
          over = over - nodes kids;
          made = rw (read_start held out n c q done t s₂ l ks on u wide, ⊕-assoc done one on) (restarted held out n c q done t s₂ l ks on u wide);
          here = e;
          over_is = omega (arith, nodes-⊕ done one, nodes_relative s₂ kids);
          whole = ⊕-assoc done one (relative q (within more (over - nodes kids)) ⊕ so_far (beyond more (over - nodes kids)) rest) ∙ w;
          stays = s;
        };
        behind = λ j x. rw (read_start held out n c q done t s₂ l ks on u wide) (restart_behind held out n c q done t s₂ l ks on u wide j x);
      })

  pub moving_next : (v : Moving held out limit q left n c ts rest k) → Next held out limit q left n c ts rest k v.over (get_or held (left - 1) 0)
  moving_next v = next_by v.done v.ahead v.over v.made v.here v.over_is v.whole v.stays

-- the loop: where the work stands for all trees that the stack may hold
pub record Going (roots out₀ out : List ℕ) (limit q left : ℕ) : Type 0 where
  pub size : length out ≡ length out₀
  pub at : (p : Open roots out₀ limit) → Moving p.held out limit q (p.low + left) p.total p.cell p.trees p.rest p.count
  pub behind : (p : Open roots out₀ limit) → Behind (p.total * cell_width) out₀ out

pub going_start : {roots out : List ℕ} {limit q : ℕ} → Going roots out out limit q (length roots)
going_start {roots} {out} {limit} {q} = record {
  size = refl;
  at = moving_start roots out limit q;
  behind = λ p. record { same = λ j h. refl };
}

module _ {roots out₀ out : List ℕ} {limit q left : ℕ} (g : Going roots out₀ out limit q left) where
  moved_by : left ≤ length roots → ((p : Open roots out₀ limit) → ((g.at p).over ≡ 0) ⊎ (p.low + left ≤ siblings p.rest)) → Moved roots out₀ out limit q left
  moved_by few e =
      let ended : (p : Open roots out₀ limit) → (Made p.held out p.total p.cell (relative q (within p.trees p.count) ⊕ so_far (beyond p.trees p.count) p.rest)) × (siblings (so_far (beyond p.trees p.count) p.rest) ≡ p.low + left) = λ p. moving_end p.held out limit q (p.low + left) p.total p.cell p.trees p.rest p.count (g.at p) (e p) in
      record { few = few; made = λ p. (ended p).0; left = λ p. (ended p).1; behind = g.behind }

  -- none are left
  pub going_none : left ≤ 0 → Moved roots out₀ out limit q 0
  going_none m = let e : left ≡ 0 = omega arith in subst (Moved roots out₀ out limit q) e (moved_by (omega arith) (λ p. inr (omega (arith, p.left))))

  module _ (l : 0 < left) (here : left ≤ length roots) where
    next_of : (p : Open roots out₀ limit) → Next p.held out limit q (p.low + left) p.total p.cell p.trees p.rest p.count (g.at p).over (get_or roots (left - 1) 0)
    next_of p =
        let e : p.low + (left - 1) ≡ p.low + left - 1 = omega arith in
        rw (p.read (left - 1) (omega arith) ∙ ap (λ (k : ℕ). get_or p.held k 0) e)
        (moving_next p.held out limit q (p.low + left) p.total p.cell p.trees p.rest p.count (omega (arith, g.size, p.room.wide)) (omega (arith, p.left)) (g.at p))

    pub going_fits : Open roots out₀ limit → get_or roots (left - 1) 0 * cell_width + position_place < length out
    going_fits p = omega (arith, (next_of p).inside, g.size, p.room.wide)

    pub going_next : get_or roots (left - 1) 0 < limit → {x : ℕ} → x ≡ cell_position out (get_or roots (left - 1) 0) - q
        → Going roots out₀ (set out (get_or roots (left - 1) 0 * cell_width + position_place) x) limit q (left - 1)
    going_next m {x} f = record {
      size = length-set out (get_or roots (left - 1) 0 * cell_width + position_place) x ∙ g.size;
      at = λ p.
          let e : p.low + left - 1 ≡ p.low + (left - 1) = omega arith in
          let out' : List ℕ = set out (get_or roots (left - 1) 0 * cell_width + position_place) x in
          let moved : Moving p.held out' limit q (p.low + left - 1) p.total p.cell p.trees p.rest p.count = rw f ((next_of p).moved m) in
          subst (λ (k : ℕ). Moving p.held out' limit q k p.total p.cell p.trees p.rest p.count) e moved;
      behind = λ p. record { same = λ j h. rw f ((next_of p).behind j h) ∙ (g.behind p).same j h };
    }

    pub going_limit : limit ≤ get_or roots (left - 1) 0 → Moved roots out₀ out limit q (left - 1 + 1)
    going_limit m = let e : left ≡ left - 1 + 1 = omega arith in subst (Moved roots out₀ out limit q) e (moved_by here (λ p. inl ((next_of p).at_limit m)))
