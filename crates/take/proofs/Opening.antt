-- A record becomes a tree whose children are read next: the tree around it waits in a frame. Assumes nothing.
use mathlib.Core.Path.{◌≡◌, refl, sym, ap, subst, ◌∙◌}
use mathlib.Core.Bool.{true, false}
use mathlib.Core.List.{List, [], ◌∷◌}
use Rattle.std.specs.Prelude.{Option, None}
use Prim.Native.Nat.{ℕ, suc, ◌+◌, ◌-◌, ◌*◌, ◌/◌, ◌≤◌, ◌<◌}
use native.Mathlib.Omega.{arith}
use borrow.Author.Tests.{le-ltb}
use lib.ListN.{length, get_or}
use Rattle.words.specs.Words.{put}
use Rattle.tree.specs.Trees.{◌⊕◌}
use Rattle.tree.specs.Items.{Items, span, records, repeats}
use Rattle.tree.specs.Pack.{run_from}
use Rattle.tree.specs.Groups.{Gathered, fresh, gather, finish}
use Rattle.tree.specs.Flat.{too_deep, flattened, flat}
use Rattle.tree.specs.Build.{walk}
use Rattle.tree.proofs.WellLaws.{gathers_fresh}
use Rattle.store.specs.Store.{Same}
use Rattle.store.proofs.Frame.{same_put}
use Rattle.words.proofs.Stores.{put_in, put_before, put_length}
use Rattle.cursor.specs.Spells.{Stands}
use Rattle.cursor.proofs.Spelled.{stands_inside, stands_beyond}
use Rattle.gathering.specs.Gathering.{due}
use Rattle.gathering.proofs.Due.{due_fresh}
use Rattle.scan.specs.Walked.{Remembered}
use Rattle.scan.specs.declared.Memo.{Memo}
use Rattle.scan.proofs.Memory.{remembered_fresh, remembered_past_span}
use Rattle.take.specs.Going.{Outer, deep, own_under, settled, owed, Level, Frames, Going}
use Rattle.take.specs.Steps.{Opens, Opened}
use Rattle.take.specs.declared.Node.{Node}
use Rattle.take.specs.declared.State.{State}
use Rattle.take.proofs.Levels.{level_stays, frames_stay, counted_stays}
use Rattle.tree.specs.Well.{Parts}

module _ (F b i s e : ℕ) (kids rest : Items) (d : ℕ) (own : Option ℕ) (g : Gathered) (unpacked : run_from F b own i s e kids rest ≡ None) where
  -- what the walk gives behind a record that becomes a tree
  pub walk_open : too_deep d ≡ false
      → walk F b rest d 0 own (gather (λ ts. finish F i s e (walk F b kids (suc d) 0 (repeats F i) (fresh e)) ⊕ ts) g) ≡ walk F b (span i s e kids rest) d 0 own g
  unfolding walk
  walk_open h = rw (unpacked, h, walk) refl

  pub walk_deep : too_deep d ≡ true
      → walk F b rest d 0 own (gather (λ ts. finish F i s e (flat b (repeats F i) (flattened kids []) false [] 0 (fresh e)) ⊕ ts) g) ≡ walk F b (span i s e kids rest) d 0 own g
  unfolding walk
  walk_deep h = rw (unpacked, h, walk) refl

pub deep_more : (k : Outer) (ks : List Outer) → deep (k ∷ ks) ≡ suc (deep ks)
unfolding deep
deep_more k ks = refl

pub owed_more : (k : Outer) (ks : List Outer) → owed (k ∷ ks) ≡ 34 + 24 * due k.own k.g + owed ks
unfolding owed
owed_more k ks = refl

pub settled_more : (F b i s e : ℕ) (k : Outer) (ks : List Outer) (g : Gathered) → settled F b i s e (k ∷ ks) g
    ≡ settled F b k.id k.start k.end ks (walk F b k.its (deep ks) 0 k.own (gather (λ ts. finish F i s e g ⊕ ts) k.g))
unfolding settled
settled_more F b i s e k ks g = refl

module _ (F T b : ℕ) (w l : List ℕ) (whole : Gathered) (s : State) (go : Going F T b w l whole s) where
  abbrev own : Option ℕ
  own = own_under F go.stack s.tree.id

  abbrev top : ℕ
  top = s.children.top

  abbrev n : ℕ
  n = length w / 4

  -- where the next frame stands
  abbrev pub at : ℕ
  at = n + 1 + 11 * s.depth

  module _ (i a e : ℕ) (kids rest : Items) (is : go.its ≡ span i a e kids rest) (unpacked : run_from F b own i a e kids rest ≡ None) (shallow : too_deep (deep go.stack) ≡ false)
      (m m₀ : Memo) (memo : Remembered s.p (span i a e kids rest) (a - b) m) (none_yet : s.p - 1 ≤ m₀.place) where
    -- the words of the frame
    abbrev pub frame_words : List ℕ
    frame_words =
        s.tree.id ∷ s.tree.start ∷ s.tree.end ∷ s.tree.floor ∷ s.children.groups ∷ s.children.loose ∷ s.children.edge
        ∷ m.place ∷ m.start ∷ m.mark ∷ m.edge ∷ []

    abbrev l' : List ℕ
    l' = put l at frame_words

    -- the tree that waits
    abbrev outer : Outer
    outer = record { id = s.tree.id; start = s.tree.start; end = s.tree.end; own = own; its = rest; g = go.g }

    standing : Level F T b w l go.base top s.low own s.tree.floor s.p (span i a e kids rest) go.g s.children.groups s.children.loose s.children.edge
        s.tree.start go.hi go.hi s.tree.end s.memo
    standing = subst (λ (x : Items). Level F T b w l go.base top s.low own s.tree.floor s.p x go.g s.children.groups s.children.loose s.children.edge
        s.tree.start go.hi go.hi s.tree.end s.memo) is go.level

    some_left : 0 < s.p
    some_left = omega (arith, standing.stands.spells.room)

    under_base : at + 11 ≤ go.base
    under_base = omega (arith, go.shallow, go.base_is, some_left)

    fits_in : at + length frame_words ≤ length l
    fits_in = omega (arith, under_base, go.above, go.room, go.inside)

    kept : (j : ℕ) → j < at → get_or l' j 0 ≡ get_or l j 0
    kept j h = put_before l at frame_words fits_in j h

    same : Same l l' go.base top s.low
    same = record {
      size = put_length l at frame_words fits_in;
      below = λ j h x. (same_put l at frame_words fits_in).above j (omega (arith, under_base));
      above = λ j h. (same_put l at frame_words fits_in).above j (omega (arith, under_base, go.above, go.room));
    }

    word : (j : ℕ) → j < 11 → get_or l' (at + j) 0 ≡ get_or frame_words j 0
    word j h = put_in l at frame_words fits_in j h

    word₀ : get_or l' at 0 ≡ s.tree.id
    word₀ = let z : at + 0 ≡ at = omega arith in rw z at (word 0 (omega arith))

    floor : ℕ
    floor = s.p - suc (records kids)

    waits : Level F T b w l' go.base top s.low own s.tree.floor floor rest go.g s.children.groups s.children.loose s.children.edge
        s.tree.start a go.hi s.tree.end m
    unfolding floor
    waits = level_stays l l' go.base top s.low top s.low (omega arith) (omega arith) same F T b w own s.tree.floor floor rest go.g s.children.groups s.children.loose s.children.edge
        s.tree.start a go.hi s.tree.end m (record {
          stands = stands_beyond F own w s.tree.floor s.p i a e kids rest standing.stands;
          fits = standing.fits.rest;
          gathers = standing.gathers;
          holds = standing.holds;
          plain = standing.plain;
          remembered = remembered_past_span s.p i a e kids rest (a - b) m (omega (arith, standing.stands.spells.room)) memo;
        })

    framed : Frames F T b w l' (n + 1) go.base top s.low (n + 1 + 11 * (s.depth + 1)) i a e floor (outer ∷ go.stack)
    framed = record {
      under = at;
      hi = go.hi;
      at_is = omega arith;
      id_is = word₀;
      start_is = word 1 (omega arith);
      end_is = word 2 (omega arith);
      own_is = refl;
      other = standing.stands.marked.other;
      known = standing.fits.known;
      ordered = standing.fits.ordered;
      ends = standing.fits.ends;
      small = go.small;
      level = rw (word 3 (omega arith), word 4 (omega arith), word 5 (omega arith), word 6 (omega arith), word 7 (omega arith), word₈, word₉, word₁₀) waits;
      below = rw (word 3 (omega arith)) (frames_stay l l' go.base top s.low top s.low (omega arith) (omega arith) same F T b w (n + 1) at s.tree.id s.tree.start s.tree.end s.tree.floor go.stack kept go.frames);
    }
      where
        word₈ : get_or l' (at + 7 + 1) 0 ≡ m.start
        word₈ = let z : at + 7 + 1 ≡ at + 8 = omega arith in rw z (word 8 (omega arith))

        word₉ : get_or l' (at + 7 + 2) 0 ≡ m.mark
        word₉ = let z : at + 7 + 2 ≡ at + 9 = omega arith in rw z (word 9 (omega arith))

        word₁₀ : get_or l' (at + 7 + 3) 0 ≡ m.edge
        word₁₀ = let z : at + 7 + 3 ≡ at + 10 = omega arith in rw z (word 10 (omega arith))

    begun : Level F T b w l' go.base top s.low (repeats F i) floor (s.p - 1) kids (fresh e) 0 0 e a e e e m₀
    unfolding floor fresh
    begun = record {
      stands = stands_inside F own w s.tree.floor s.p i a e kids rest standing.stands;
      fits = standing.fits.inner;
      gathers = gathers_fresh T (Parts T) e;
      holds = record { groups_at = refl; loose_at = refl; edge_is = refl };
      plain = λ q. refl;
      remembered = remembered_fresh (s.p - 1) kids (e - b) m₀ none_yet;
    }

    pub going_open : (x : ℕ) → x ≡ s.p - suc (records kids) → Going F T b w l' whole (record {
      p = s.p - 1;
      depth = s.depth + 1;
      low = s.low;
      tree = record { id = i; start = a; end = e; floor = x };
      children = record { top = top; groups = 0; loose = 0; edge = e };
      memo = m₀;
    })
    unfolding floor
    going_open x x-is = rw x-is (record {
      stack = outer ∷ go.stack;
      its = kids;
      g = fresh e;
      hi = e;
      base = go.base;
      small = omega (arith, go.small, standing.fits.ends);
      types = go.types;
      bound = go.bound;
      few = go.few;
      depth_is = rw (deep_more outer go.stack) (omega (arith, go.depth_is));
      shallow = omega (arith, go.shallow, some_left);
      level = begun;
      frames = framed;
      value = rw (deep_more outer go.stack, settled_more F b i a e outer go.stack (walk F b kids (suc (deep go.stack)) 0 (repeats F i) (fresh e)))
          (ap (λ (y : Gathered). settled F b s.tree.id s.tree.start s.tree.end go.stack y)
          (walk_open F b i a e kids rest (deep go.stack) own go.g unpacked shallow ∙ ap (λ (y : Items). walk F b y (deep go.stack) 0 own go.g) (sym is)) ∙ go.value);
      room = omega (arith, go.room, owed_more outer go.stack, due_fresh (repeats F i) e, some_left);
      base_is = go.base_is;
      above = go.above;
      inside = omega (arith, go.inside, same.size);
      fits = omega (arith, go.fits, same.size);
      counted = counted_stays F w l l' n same.size (λ j h. kept j (omega arith)) go.counted;
    })

shallow_is : (d : ℕ) → d ≤ 2500 → too_deep d ≡ false
unfolding too_deep
shallow_is d h = le-ltb 2500 d h

module _ (w l : List ℕ) (s : State) (node : Node) (memo : Memo) (q : Opens w l s node memo) where
  some_record : 0 < s.p
  some_record =
      let go = q.going in
      let u = q.unpacked in
      let h = subst (λ (x : Items). Stands q.F (own_under q.F go.stack s.tree.id) w s.tree.floor s.p x) u.is go.level.stands in
      omega (arith, h.spells.room)

  pub opened : (last : ℕ) (m₀ : Memo) → last ≡ s.p - 1 → last ≤ m₀.place
      → Opened w l (put l (length w / 4 + 1 + 11 * s.depth) (s.tree.id ∷ s.tree.start ∷ s.tree.end ∷ s.tree.floor ∷ s.children.groups ∷ s.children.loose ∷ s.children.edge ∷ memo.place ∷ memo.start ∷ memo.mark ∷ memo.edge ∷ [])) s node memo (record {
        p = last;
        depth = s.depth + 1;
        low = s.low;
        tree = node;
        children = record { top = s.children.top; groups = 0; loose = 0; edge = node.end };
        memo = m₀;
      })
  opened last m₀ last_is none_yet = rw last_is (record {
    going = λ q.
        let u = q.unpacked in
        going_open q.F q.T q.b w l q.whole s q.going node.id node.start node.end u.kids u.rest u.is u.unpacked
        (shallow_is (deep q.going.stack) (omega (arith, q.shallow, q.going.depth_is))) memo m₀ u.remembered (rw last_is at none_yet) node.floor u.floor_is;
    less = omega (arith, some_record);
    depth = refl;
  })
