-- A step of the take loop inside the present tree: what it must show. And what the last record is. Assumes nothing.
use mathlib.Core.Path.{◌≡◌, refl, sym, ap, ◌∙◌}
use mathlib.Core.Bool.{true, false, true≢false}
use mathlib.Core.List.{List}
use Rattle.std.specs.Prelude.{Option, None}
use Prim.Native.Nat.{ℕ, ◌+◌, ◌-◌, ◌*◌, ◌/◌, ◌≤◌, ◌<◌}
use native.Mathlib.Omega.{arith}
use borrow.Author.Tests.{lt-ltb}
use lib.ListN.{length, get_or}
use Rattle.tree.specs.Items.{Items, mark, span, same, repeats}
use Rattle.tree.specs.Groups.{Gathered}
use Rattle.tree.specs.Build.{walk}
use Rattle.store.specs.Store.{Same}
use Rattle.store.proofs.Frame.{same_less}
use Rattle.cursor.specs.Spells.{Stands}
use Rattle.gathering.specs.declared.Gathering.{Gathering}
use Rattle.gathering.specs.Gathering.{due}
use Rattle.scan.specs.declared.Memo.{Memo}
use Rattle.take.specs.Going.{deep, own_under, settled, Level, Going}
use Rattle.take.specs.declared.State.{State}
use Rattle.take.proofs.Levels.{frames_stay, counted_stays}

-- a tree whose id is below the first repeat id is no repeat tree
pub repeats_plain : (F i : ℕ) → i < F → None ≡ repeats F i
unfolding repeats
repeats_plain F i h = rw (lt-ltb i F h, repeats)

module _ (F T b : ℕ) (w l : List ℕ) (whole : Gathered) (s : State) (go : Going F T b w l whole s) where
  -- what the present tree's children stand under
  abbrev pub own : Option ℕ
  own = own_under F go.stack s.tree.id

  pub frames_below : length w / 4 + 1 + 11 * s.depth ≤ s.children.top
  frames_below = omega (arith, go.shallow, go.base_is, go.above)

  -- the present tree is read on: the trees around it stay
  pub going_on : (l' : List ℕ) (p' low' : ℕ) (c : Gathering) (m : Memo) (its' : Items) (g' : Gathered) (hi' : ℕ)
      → p' ≤ s.p → hi' ≤ go.hi → Same l l' 0 s.children.top s.low → s.children.top ≤ c.top → low' ≤ s.low
      → Level F T b w l' go.base c.top low' own s.tree.floor p' its' g' c.groups c.loose c.edge s.tree.start hi' hi' s.tree.end m
      → walk F b its' (deep go.stack) 0 own g' ≡ walk F b go.its (deep go.stack) 0 own go.g
      → c.top + 24 * due own g' + 40 * p' + s.low ≤ low' + s.children.top + 24 * due own go.g + 40 * s.p
      → Going F T b w l' whole (record { p = p'; depth = s.depth; low = low'; tree = s.tree; children = c; memo = m })
  going_on l' p' low' c m its' g' hi' less falls same up down level walked spent =
      let kept : (j : ℕ) → j < s.children.top → get_or l' j 0 ≡ get_or l j 0 = λ j h. same.below j (omega arith) h in
      let n = length w / 4 in
      record {
        stack = go.stack;
        its = its';
        g = g';
        hi = hi';
        base = go.base;
        small = omega (arith, go.small);
        types = go.types;
        bound = go.bound;
        few = go.few;
        depth_is = go.depth_is;
        shallow = omega (arith, go.shallow);
        level = level;
        frames = frames_stay l l' go.base s.children.top s.low c.top low' up down (same_less l l' 0 s.children.top s.low go.base s.children.top s.low (omega arith) (omega arith) (omega arith) same) F T b w (n + 1) (n + 1 + 11 * s.depth) s.tree.id s.tree.start s.tree.end s.tree.floor go.stack
            (λ j h. kept j (omega (arith, frames_below))) go.frames;
        value = ap (λ (x : Gathered). settled F b s.tree.id s.tree.start s.tree.end go.stack x) walked ∙ go.value;
        room = omega (arith, go.room, spent);
        base_is = go.base_is;
        above = omega (arith, go.above);
        inside = omega (arith, go.inside, same.size);
        fits = omega (arith, go.fits, same.size);
        counted = counted_stays F w l l' n same.size (λ j h. kept j (omega (arith, frames_below))) go.counted;
      }

-- the last record of the present tree's has its own id: it counts alone
pub record OwnItem (its : Items) : Type 0 where
  pub i : ℕ
  pub s : ℕ
  pub e : ℕ
  pub n : ℕ
  pub rest : Items
  pub is : its ≡ mark i s e n rest

pub own_item : (F : ℕ) (own : Option ℕ) (w : List ℕ) (lo p id : ℕ) (its : Items) → Stands F own w lo p its → lo < p → id ≡ get_or w ((p - 1) * 4) 0 → same own id ≡ true → OwnItem its
own_item F own w lo p id Items.nil h m d y = absurd (omega (arith, h.spells))
own_item F own w lo p id (mark i s e n rest) h m d y = record { i = i; s = s; e = e; n = n; rest = rest; is = refl }
own_item F own w lo p id (span i s e kids rest) h m d y =
    let q : same own id ≡ false = ap (λ x. same own x) (d ∙ h.spells.id) ∙ h.marked.other in
    absurd (true≢false (sym y ∙ q))

-- it has another id: it is a span
pub record OtherItem (its : Items) : Type 0 where
  pub i : ℕ
  pub s : ℕ
  pub e : ℕ
  pub kids : Items
  pub rest : Items
  pub is : its ≡ span i s e kids rest

pub other_item : (F : ℕ) (own : Option ℕ) (w : List ℕ) (lo p id : ℕ) (its : Items) → Stands F own w lo p its → lo < p → id ≡ get_or w ((p - 1) * 4) 0 → same own id ≡ false → OtherItem its
other_item F own w lo p id Items.nil h m d y = absurd (omega (arith, h.spells))
other_item F own w lo p id (mark i s e n rest) h m d y =
    let q : same own id ≡ true = ap (λ x. same own x) (d ∙ h.spells.id) ∙ h.marked.alone in
    absurd (true≢false (sym q ∙ y))
other_item F own w lo p id (span i s e kids rest) h m d y = record { i = i; s = s; e = e; kids = kids; rest = rest; is = refl }
