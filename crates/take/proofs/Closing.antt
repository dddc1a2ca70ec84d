-- The present tree is finished, and the tree around it is read on. Assumes nothing.
use mathlib.Core.Path.{◌≡◌, refl, sym, ap, subst, ◌∙◌}
use mathlib.Core.Bool.{false}
use mathlib.Core.List.{List, [], ◌∷◌}
use Rattle.std.specs.Prelude.{Option}
use Prim.Native.Nat.{ℕ, ◌+◌, ◌-◌, ◌*◌, ◌/◌, ◌≤◌, ◌<◌}
use native.Mathlib.Omega.{arith}
use lib.ListN.{length, get_or}
use Rattle.tree.specs.Trees.{◌⊕◌}
use Rattle.tree.specs.Items.{Items, repeats}
use Rattle.tree.specs.Groups.{Gathered, gather, finish}
use Rattle.tree.specs.Build.{walk}
use Rattle.tree.proofs.WellLaws.{gathers_down}
use Rattle.tree.proofs.WellBuild.{gathers_tree}
use Rattle.store.specs.Store.{Same}
use Rattle.store.proofs.Frame.{same_less, frame}
use Rattle.cursor.proofs.Spelled.{spells_none}
use Rattle.gathering.specs.Gathering.{due, FinishReady, Finished}
use Rattle.gathering.proofs.Due.{due_tree}
use Rattle.take.specs.Going.{Outer, deep, own_under, settled, owed, memo_at, frame_at, Level, Frames, Going}
use Rattle.take.specs.Steps.{Closes, Closed}
use Rattle.take.specs.declared.Frame.{Frame}
use Rattle.take.specs.declared.State.{State}
use Rattle.take.proofs.Levels.{frames_stay, counted_stays}
use Rattle.take.proofs.Steps.{repeats_plain, frames_below}
use Rattle.take.proofs.Opening.{deep_more, owed_more, settled_more}
use Rattle.tree.specs.Well.{Parts}

walk_none : (F b d : ℕ) (own : Option ℕ) (g : Gathered) → walk F b Items.nil d 0 own g ≡ g
unfolding walk
walk_none F b d own g = refl

-- some tree waits
pub record Waiting (ks : List Outer) : Type 0 where
  pub first : Outer
  pub rest : List Outer
  pub is : ks ≡ first ∷ rest

pub waiting : (ks : List Outer) → 0 < deep ks → Waiting ks
unfolding deep
waiting [] h = absurd (omega arith)
waiting (k ∷ ks) h = record { first = k; rest = ks; is = refl }

module _ (F T b : ℕ) (w l : List ℕ) (whole : Gathered) (s : State) (go : Going F T b w l whole s) (deeper : 0 < s.depth) (ended : s.p ≤ s.tree.floor) where
  abbrev n : ℕ
  n = length w / 4

  abbrev top : ℕ
  top = s.children.top

  abbrev i : ℕ
  i = s.tree.id

  abbrev from : ℕ
  from = s.tree.start

  abbrev end : ℕ
  end = s.tree.end

  -- where the frame of the tree around stands
  abbrev pub under : ℕ
  under = n + 1 + 11 * (s.depth - 1)

  held : Waiting go.stack
  held = waiting go.stack (omega (arith, go.depth_is))

  abbrev k : Outer
  k = held.first

  abbrev ks : List Outer
  ks = held.rest

  frames : Frames F T b w l (n + 1) go.base top s.low (n + 1 + 11 * s.depth) i from end s.tree.floor (k ∷ ks)
  frames = subst (λ (x : List Outer). Frames F T b w l (n + 1) go.base top s.low (n + 1 + 11 * s.depth) i from end s.tree.floor x) held.is go.frames

  own_is : own_under F go.stack i ≡ repeats F i
  own_is = ap (λ (x : List Outer). own_under F x i) held.is

  level : Level F T b w l go.base top s.low (repeats F i) s.tree.floor s.p go.its go.g s.children.groups s.children.loose s.children.edge from go.hi go.hi end s.memo
  level = subst (λ (x : Option ℕ). Level F T b w l go.base top s.low x s.tree.floor s.p go.its go.g s.children.groups s.children.loose s.children.edge from go.hi go.hi end s.memo) own_is go.level

  no_items : go.its ≡ Items.nil
  no_items = spells_none w s.tree.floor s.p go.its level.stands.spells ended

  done_level : Level F T b w l go.base top s.low (repeats F i) s.tree.floor s.p Items.nil go.g s.children.groups s.children.loose s.children.edge from go.hi go.hi end s.memo
  done_level = subst (λ (x : Items). Level F T b w l go.base top s.low (repeats F i) s.tree.floor s.p x go.g s.children.groups s.children.loose s.children.edge from go.hi go.hi end s.memo) no_items level

  under_is : frames.under ≡ under
  under_is = omega (arith, frames.at_is, deeper)

  room : top + 24 * due (repeats F i) go.g + 34 + 24 * due k.own k.g + owed ks + 40 * s.p + (4 * n + 12) ≤ s.low
  room =
      let a : due (own_under F go.stack i) go.g ≡ due (repeats F i) go.g = ap (λ (x : Option ℕ). due x go.g) own_is in
      let c : owed go.stack ≡ 34 + 24 * due k.own k.g + owed ks = ap owed held.is ∙ owed_more k ks in
      omega (arith, go.room, a, c)

  abbrev readied : (next : ℕ) → next ≡ get_or l (under + 5) 0 → FinishReady l s.low top i from end s.children.groups s.children.loose s.children.edge next
  readied next next_is = record {
    F = F;
    T = T;
    base = go.base;
    low = s.low;
    g = go.g;
    rest = k.g.loose;
    live = omega (arith, go.base_is);
    above = go.above;
    under = omega arith;
    inside = go.inside;
    fits = omega (arith, go.inside, go.fits);
    holds = level.holds;
    onto = rw (next_is, ← under_is) frames.level.holds.loose_at;
    plain = λ h. level.plain (sym (repeats_plain F i h));
    known = frames.known;
    last = omega (arith, frames.ends, frames.small);
    gathers = gathers_down T (Parts T) go.hi from end go.g done_level.fits level.gathers;
    room = omega (arith, room);
  }

  pub finish_ready : (next : ℕ) → next ≡ get_or l (under + 5) 0 → FinishReady l s.low top i from end s.children.groups s.children.loose s.children.edge next
  finish_ready next next_is = readied next next_is

  module _ (l' : List ℕ) (rtop rnode : ℕ) (done : Finished l l' s.low top i from end s.children.groups s.children.loose s.children.edge (get_or l (under + 5) 0) rtop rnode) where
    abbrev ready : FinishReady l s.low top i from end s.children.groups s.children.loose s.children.edge (get_or l (under + 5) 0)
    ready = readied (get_or l (under + 5) 0) refl

    abbrev g' : Gathered
    g' = gather (λ ts. finish F i from end go.g ⊕ ts) k.g

    same : Same l l' go.base top s.low
    same = same_less l l' 0 top s.low go.base top s.low (omega arith) (omega arith) (omega arith) done.kept

    place : s.tree.floor ≡ s.p
    place = done_level.stands.spells

    closed_level : Level F T b w l' go.base rtop s.low k.own (get_or l (under + 3) 0) s.p k.its g' (get_or l (under + 4) 0) rnode (get_or l (under + 6) 0) k.start from from k.end (memo_at l (under + 7))
    unfolding gather
    closed_level =
        let v₀ = rw under_is at frames.level in
        let v : Level F T b w l go.base top s.low k.own (get_or l (under + 3) 0) s.p k.its k.g (get_or l (under + 4) 0) (get_or l (under + 5) 0) (get_or l (under + 6) 0) k.start from frames.hi k.end (memo_at l (under + 7))
        = subst (λ (x : ℕ). Level F T b w l go.base top s.low k.own (get_or l (under + 3) 0) x k.its k.g (get_or l (under + 4) 0) (get_or l (under + 5) 0) (get_or l (under + 6) 0) k.start from frames.hi k.end (memo_at l (under + 7))) place v₀ in
        record {
          stands = v.stands;
          fits = v.fits;
          gathers = gathers_tree T go.types F b go.bound i from end frames.hi k.end go.g k.g frames.known frames.ordered frames.ends ready.gathers v.gathers;
          holds = record {
            groups_at = frame false l l' go.base top s.low rtop s.low done.grown (omega arith) same (get_or l (under + 4) 0) k.g.groups v.holds.groups_at;
            loose_at = done.holds ready;
            edge_is = v.holds.edge_is;
          };
          plain = v.plain;
          remembered = v.remembered;
        }

    around : Frames F T b w l' (n + 1) go.base rtop s.low under k.id k.start k.end (get_or l (under + 3) 0) ks
    around =
        frames_stay l l' go.base top s.low rtop s.low done.grown (omega arith) same F T b w (n + 1) under k.id k.start k.end (get_or l (under + 3) 0) ks
        (λ j h. done.kept.below j (omega arith) (omega (arith, frames_below F T b w l whole s go, deeper))) (rw under_is at frames.below)

    value : settled F b k.id k.start k.end ks (walk F b k.its (deep ks) 0 k.own g') ≡ whole
    value =
        let a : walk F b go.its (deep go.stack) 0 (own_under F go.stack i) go.g ≡ go.g
        = ap (λ (x : Items). walk F b x (deep go.stack) 0 (own_under F go.stack i) go.g) no_items ∙ walk_none F b (deep go.stack) (own_under F go.stack i) go.g in
        let c : settled F b i from end go.stack go.g ≡ whole = rw a at go.value in
        let d : settled F b i from end (k ∷ ks) go.g ≡ whole = ap (λ (x : List Outer). settled F b i from end x go.g) (sym held.is) ∙ c in
        sym (settled_more F b i from end k ks go.g) ∙ d

    pub going_close : (f : Frame) → f ≡ frame_at l under → Going F T b w l' whole (record {
      p = s.p;
      depth = s.depth - 1;
      low = s.low;
      tree = f.tree;
      children = record { top = rtop; groups = f.groups; loose = rnode; edge = f.edge };
      memo = f.memo;
    })
    going_close f f-is = rw (f-is, id_is, start_is, end_is) (record {
      stack = ks;
      its = k.its;
      g = g';
      hi = from;
      base = go.base;
      small = omega (arith, frames.ordered, frames.ends, frames.small);
      types = go.types;
      bound = go.bound;
      few = go.few;
      depth_is = omega (arith, go.depth_is, ap deep held.is, deep_more k ks);
      shallow = omega (arith, go.shallow);
      level = rw (← frames.own_is) closed_level;
      frames = around;
      value = rw (← frames.own_is) value;
      room = rw (← frames.own_is) (omega (arith, room, done.used ready, due_tree k.own F i from end go.g k.g frames.other));
      base_is = go.base_is;
      above = omega (arith, go.above, done.grown);
      inside = omega (arith, go.inside, same.size);
      fits = omega (arith, go.fits, same.size);
      counted = counted_stays F w l l' n same.size (λ j h. done.kept.below j (omega arith) (omega (arith, frames_below F T b w l whole s go))) go.counted;
    })
      where
        id_is : get_or l under 0 ≡ k.id
        id_is = rw under_is at frames.id_is

        start_is : get_or l (under + 1) 0 ≡ k.start
        start_is = rw under_is at frames.start_is

        end_is : get_or l (under + 2) 0 ≡ k.end
        end_is = rw under_is at frames.end_is

pub close_asks : (w l : List ℕ) (s : State) (q : Closes w l s) (f : Frame) → f ≡ frame_at l (length w / 4 + 1 + 11 * (s.depth - 1))
    → FinishReady l s.low s.children.top s.tree.id s.tree.start s.tree.end s.children.groups s.children.loose s.children.edge f.loose
close_asks w l s q f f-is = finish_ready q.F q.T q.b w l q.whole s q.going q.deeper q.ended f.loose (ap (λ (x : Frame). x.loose) f-is)

pub closed : (w l l' : List ℕ) (s : State) (q : Closes w l s) (f : Frame) → f ≡ frame_at l (length w / 4 + 1 + 11 * (s.depth - 1)) → (rtop rnode : ℕ)
    → Finished l l' s.low s.children.top s.tree.id s.tree.start s.tree.end s.children.groups s.children.loose s.children.edge f.loose rtop rnode
    → Closed w l l' s (record {
      p = s.p;
      depth = s.depth - 1;
      low = s.low;
      tree = f.tree;
      children = record { top = rtop; groups = f.groups; loose = rnode; edge = f.edge };
      memo = f.memo;
    })
closed w l l' s q f f-is rtop rnode done = record {
  going = λ q. going_close q.F q.T q.b w l q.whole s q.going q.deeper q.ended l' rtop rnode (rw (ap (λ (x : Frame). x.loose) f-is) at done) f f-is;
  same_place = refl;
  depth = omega (arith, q.deeper);
}
