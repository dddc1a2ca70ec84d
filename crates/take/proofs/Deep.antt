-- A record deeper than 2,500 becomes a tree over flat parts. Assumes nothing.
use mathlib.Core.Path.{◌≡◌, refl, sym, ap, subst, ◌∙◌}
use mathlib.Core.Bool.{Bool, true, false, ◌&&◌, not}
use mathlib.Core.List.{List, [], ◌∷◌}
use Rattle.std.specs.Prelude.{Option, None}
use Prim.Native.Nat.{ℕ, suc, ◌+◌, ◌-◌, ◌*◌, ◌≤◌, ◌<◌}
use native.Mathlib.Omega.{arith}
use native.Mathlib.Nat.{le_refl}
use borrow.Author.Tests.{lt-ltb}
use Rattle.tree.specs.Trees.{nil, ◌⊕◌}
use Rattle.tree.specs.Items.{Items, span, records, repeats, same}
use Rattle.tree.specs.Pack.{run_from}
use Rattle.tree.specs.Groups.{Gathered, fresh, gather, finish}
use Rattle.tree.specs.Flat.{Record, rec, too_deep, flattened, flat, flat_part, hold, limit, ends}
use Rattle.tree.specs.Build.{walk}
use Rattle.tree.proofs.ItemLaws.{sorted_flattened}
use Rattle.tree.proofs.ShortLaws.{room_none}
use Rattle.tree.proofs.WellLaws.{gathers_fresh}
use Rattle.tree.proofs.WellBuild.{gathers_tree, gathers_flat}
use Rattle.store.specs.Store.{Same}
use Rattle.store.proofs.Frame.{same_less, frame, same_then}
use Rattle.gathering.specs.Gathering.{HoldsGathered}
use Rattle.cursor.specs.Spells.{Stands}
use Rattle.cursor.proofs.Spelled.{stands_inside, stands_beyond}
use Rattle.gathering.specs.Gathering.{due, FinishReady, Finished}
use Rattle.gathering.proofs.Due.{due_tree, due_fresh}
use Rattle.flat.specs.Taking.{FlatReady, TakenFlat}
use Rattle.scan.specs.Walked.{Remembered}
use Rattle.scan.specs.declared.Memo.{Memo}
use Rattle.scan.proofs.Memory.{remembered_past_span}
use Rattle.take.specs.Going.{deep, own_under, Level, Going}
use Rattle.take.specs.Steps.{Deepens, Deepened}
use Rattle.take.specs.declared.Node.{Node}
use Rattle.take.specs.declared.State.{State}
use Rattle.take.proofs.Steps.{repeats_plain, going_on}
use Rattle.take.proofs.Opening.{walk_deep}
use Rattle.tree.specs.Well.{Parts}

-- no group is made where there is no repeat tree
flat_plain : (b : ℕ) (rs : List Record) (inside : Bool) (held : List Record) (stop : ℕ) (g : Gathered) → g.groups ≡ nil → (flat b None rs inside held stop g).groups ≡ nil
unfolding flat gather same
flat_plain b [] inside held stop g h = h
flat_plain b (rec i s e n ∷ rs) inside held stop g h =
    go (inside && not (ends r held stop))
    (flat_plain b rs true (hold r held) (limit b r held stop) g h)
    (flat_plain b rs true (hold r []) (limit b r [] 0) (gather (flat_part held) g) h)
  where
    r : Record
    r = rec i s e n

    go : (x : Bool)
        → (flat b None rs true (hold r held) (limit b r held stop) g).groups ≡ nil
        → (flat b None rs true (hold r []) (limit b r [] 0) (gather (flat_part held) g)).groups ≡ nil
        → (elim x as (λ y. Gathered) [
          | true ↦ flat b None rs true (hold r held) (limit b r held stop) g
          | false ↦ flat b None rs true (hold r []) (limit b r [] 0) (gather (flat_part held) g)
        ]).groups ≡ nil
    go true a c = a
    go false a c = c

fresh_none : (e : ℕ) → (fresh e).groups ≡ nil
unfolding fresh
fresh_none e = refl

-- nothing is gathered yet
pub fresh_holds : (l : List ℕ) (base top low e : ℕ) → HoldsGathered l base top low 0 0 e (fresh e)
unfolding fresh
fresh_holds l base top low e = record { groups_at = refl; loose_at = refl; edge_is = refl }

module _ (F T b : ℕ) (w l : List ℕ) (whole : Gathered) (s : State) (go : Going F T b w l whole s) where
  abbrev own : Option ℕ
  own = own_under F go.stack s.tree.id

  abbrev top : ℕ
  top = s.children.top

  module _ (i a e : ℕ) (kids rest : Items) (is : go.its ≡ span i a e kids rest) where
    -- what the tree gathers
    abbrev inner : Gathered
    inner = flat b (repeats F i) (flattened kids []) false [] 0 (fresh e)

    abbrev floor : ℕ
    floor = s.p - suc (records kids)

    standing : Level F T b w l go.base top s.low own s.tree.floor s.p (span i a e kids rest) go.g s.children.groups s.children.loose s.children.edge
        s.tree.start go.hi go.hi s.tree.end s.memo
    standing = subst (λ (x : Items). Level F T b w l go.base top s.low own s.tree.floor s.p x go.g s.children.groups s.children.loose s.children.edge
        s.tree.start go.hi go.hi s.tree.end s.memo) is go.level

    spans : suc (records kids) ≤ s.p
    spans = omega (arith, standing.stands.spells.room)

    abbrev readied : FlatReady w l (s.p - 1) floor (repeats F i) b top s.low 0 0 e
    readied = record {
      F = F;
      T = T;
      s = a;
      e = e;
      base = go.base;
      its = kids;
      g = fresh e;
      types = go.types;
      bound = go.bound;
      stands = stands_inside F own w s.tree.floor s.p i a e kids rest standing.stands;
      ranges = standing.fits.inner;
      live = omega (arith, go.base_is);
      above = go.above;
      inside = go.inside;
      fits = omega (arith, go.inside, go.fits);
      holds = fresh_holds l go.base top s.low e;
      room = omega (arith, go.room, due_fresh (repeats F i) e, spans);
    }

    pub flat_ready : FlatReady w l (s.p - 1) floor (repeats F i) b top s.low 0 0 e
    flat_ready = readied

    module _ (l₁ : List ℕ) (rtop rlow rgroups rloose redge : ℕ) (taken : TakenFlat w l l₁ (s.p - 1) floor (repeats F i) b top s.low 0 0 e rtop rlow rgroups rloose redge) where
      same₁ : Same l l₁ go.base top s.low
      same₁ = same_less l l₁ 0 top s.low go.base top s.low (omega arith) (omega arith) (omega arith) taken.kept

      used : rtop + 24 * due (repeats F i) inner + s.low ≤ rlow + top + 40 * records kids
      used = omega (arith, taken.used readied, due_fresh (repeats F i) e, spans)

      sound : Rattle.tree.specs.Well.Gathers T (Parts T) a e inner
      sound =
          gathers_flat T go.types b go.bound (repeats F i) (flattened kids []) false [] 0 (fresh e) a e e e
          (sorted_flattened F T kids a a e [] standing.fits.inner (le_refl a)) (le_refl e) (room_none b 0) (gathers_fresh T (Parts T) e)

      plain : i < F → inner.groups ≡ nil
      plain h = rw (← repeats_plain F i h) (flat_plain b (flattened kids []) false [] 0 (fresh e) (fresh_none e))

      abbrev closing : FinishReady l₁ rlow rtop i a e rgroups rloose redge s.children.loose
      closing = record {
        F = F;
        T = T;
        base = go.base;
        low = rlow;
        g = inner;
        rest = go.g.loose;
        live = omega (arith, go.base_is);
        above = omega (arith, go.above, taken.grown);
        under = omega arith;
        inside = omega (arith, go.inside, taken.lower, same₁.size);
        fits = omega (arith, go.inside, go.fits, taken.lower);
        holds = taken.holds readied;
        onto = frame false l l₁ go.base top s.low rtop rlow taken.grown taken.lower same₁ s.children.loose go.g.loose standing.holds.loose_at;
        plain = plain;
        known = standing.fits.known;
        last = omega (arith, standing.fits.ends, go.small);
        gathers = sound;
        room = omega (arith, used, go.room, spans);
      }

      pub finish_flat : FinishReady l₁ rlow rtop i a e rgroups rloose redge s.children.loose
      finish_flat = closing

      module _ (l' : List ℕ) (high node : ℕ) (done : Finished l₁ l' rlow rtop i a e rgroups rloose redge s.children.loose high node) (m : Memo)
          (unpacked : run_from F b own i a e kids rest ≡ None) (too : too_deep (deep go.stack) ≡ true) (memo : Remembered s.p (span i a e kids rest) (a - b) m) where
        same₂ : Same l l' 0 top s.low
        same₂ = same_then l l₁ l' 0 top s.low taken.kept (same_less l₁ l' 0 rtop rlow 0 top s.low (omega arith) taken.grown taken.lower done.kept)

        abbrev g' : Gathered
        g' = gather (λ ts. finish F i a e inner ⊕ ts) go.g

        level : Level F T b w l' go.base high rlow own s.tree.floor floor rest g' s.children.groups node s.children.edge s.tree.start a a s.tree.end m
        unfolding gather
        level = record {
          stands = stands_beyond F own w s.tree.floor s.p i a e kids rest standing.stands;
          fits = standing.fits.rest;
          gathers = gathers_tree T go.types F b go.bound i a e go.hi s.tree.end inner go.g standing.fits.known standing.fits.ordered standing.fits.ends sound standing.gathers;
          holds = record {
            groups_at = frame false l l' go.base top s.low high rlow (omega (arith, taken.grown, done.grown)) taken.lower (same_less l l' 0 top s.low go.base top s.low (omega arith) (omega arith) (omega arith) same₂) s.children.groups go.g.groups standing.holds.groups_at;
            loose_at = done.holds closing;
            edge_is = standing.holds.edge_is;
          };
          plain = standing.plain;
          remembered = remembered_past_span s.p i a e kids rest (a - b) m spans memo;
        }

        pub going_deep : (x : ℕ) → x ≡ floor → Going F T b w l' whole (record {
          p = x;
          depth = s.depth;
          low = rlow;
          tree = s.tree;
          children = record { top = high; groups = s.children.groups; loose = node; edge = s.children.edge };
          memo = m;
        })
        going_deep x x-is = rw x-is
            (going_on F T b w l whole s go l' floor rlow (record { top = high; groups = s.children.groups; loose = node; edge = s.children.edge }) m rest g' a
            (omega arith) (omega (arith, standing.fits.ordered, standing.fits.ends)) same₂ (omega (arith, taken.grown, done.grown)) taken.lower level
            (walk_deep F b i a e kids rest (deep go.stack) own go.g unpacked too ∙ ap (λ (y : Items). walk F b y (deep go.stack) 0 own go.g) (sym is))
            (omega (arith, used, done.used closing, due_tree own F i a e inner go.g standing.stands.marked.other, spans)))

deep_is : (d : ℕ) → 2500 < d → too_deep d ≡ true
unfolding too_deep
deep_is d h = lt-ltb 2500 d h

module _ (F b : ℕ) (w l : List ℕ) (s : State) (node : Node) (memo : Memo) where
  spanned : (q : Deepens F b w l s node memo) → suc (records q.unpacked.kids) ≤ s.p
  spanned q =
      let go = q.going in
      let u = q.unpacked in
      let h = subst (λ (x : Items). Stands F (own_under F go.stack s.tree.id) w s.tree.floor s.p x) u.is go.level.stands in
      omega (arith, h.spells.room)

  module _ (own : Option ℕ) (own_is : own ≡ repeats F node.id) (last : ℕ) (last_is : last ≡ s.p - 1) where
    pub flat_asks : Deepens F b w l s node memo → FlatReady w l last node.floor own b s.children.top s.low 0 0 node.end
    flat_asks q =
        let u = q.unpacked in
        rw (own_is, last_is, u.floor_is) (flat_ready F q.T b w l q.whole s q.going node.id node.start node.end u.kids u.rest u.is)

    module _ (l₁ : List ℕ) (rtop rlow rgroups rloose redge : ℕ)
        (taken : TakenFlat w l l₁ last node.floor own b s.children.top s.low 0 0 node.end rtop rlow rgroups rloose redge) where
      took : (q : Deepens F b w l s node memo) → TakenFlat w l l₁ (s.p - 1) (s.p - suc (records q.unpacked.kids)) (repeats F node.id) b s.children.top s.low 0 0 node.end rtop rlow rgroups rloose redge
      took q = rw (← own_is, ← last_is, ← q.unpacked.floor_is) taken

      pub finish_asks : Deepens F b w l s node memo → FinishReady l₁ rlow rtop node.id node.start node.end rgroups rloose redge s.children.loose
      finish_asks q =
          let u = q.unpacked in
          finish_flat F q.T b w l q.whole s q.going node.id node.start node.end u.kids u.rest u.is l₁ rtop rlow rgroups rloose redge (took q)

      pub deepened : Deepens F b w l s node memo → (l' : List ℕ) (high made : ℕ) → Finished l₁ l' rlow rtop node.id node.start node.end rgroups rloose redge s.children.loose high made
          → Deepened F b w l l' s node memo (record {
            p = node.floor;
            depth = s.depth;
            low = rlow;
            tree = s.tree;
            children = record { top = high; groups = s.children.groups; loose = made; edge = s.children.edge };
            memo = memo;
          })
      deepened q₀ l' high made done = record {
        going = λ q.
            let u = q.unpacked in
            going_deep F q.T b w l q.whole s q.going node.id node.start node.end u.kids u.rest u.is l₁ rtop rlow rgroups rloose redge (took q) l' high made done memo
            u.unpacked (deep_is (deep q.going.stack) (omega (arith, q.too_deep_is, q.going.depth_is))) u.remembered node.floor u.floor_is;
        less = omega (arith, q₀.unpacked.floor_is, spanned q₀);
        depth = refl;
      }
