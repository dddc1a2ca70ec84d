-- The loop over the records below a tree deeper than 2,500: a record passed over, a flat part. Assumes nothing.
use mathlib.Core.Path.{◌≡◌, refl, sym, ap, ◌∙◌}
use mathlib.Core.Bool.{Bool, true, false, ◌&&◌, not}
use mathlib.Core.List.{List, [], ◌∷◌}
use Rattle.std.specs.Prelude.{Option, None}
use Prim.Native.Nat.{ℕ, ◌+◌, ◌-◌, ◌*◌, ◌≤◌, ◌<◌}
use native.Mathlib.Omega.{arith}
use native.Mathlib.Nat.{le_refl}
use lib.ListN.{length, get_or}
use Rattle.tree.specs.Items.{same}
use Rattle.tree.specs.Groups.{Gathered, gather, pass}
use Rattle.tree.specs.Flat.{Record, rec, flattened, flat_part, hold, limit, ends, flat}
use Rattle.tree.proofs.ItemLaws.{sorted_flattened}
use Rattle.store.specs.Store.{Same, Readable}
use Rattle.store.proofs.Frame.{same_less, frame, readable}
use Rattle.gathering.specs.Gathering.{HoldsGathered}
use Rattle.cursor.proofs.Spelled.{spells_count}
use Rattle.gathering.specs.Gathering.{due, PassedOver}
use Rattle.gathering.proofs.Due.{due_pass}
use Rattle.flat.specs.Back.{from_back, held_in}
use Rattle.flat.specs.Parts.{NodeReady, TookFlat}
use Rattle.flat.specs.Taking.{FlatReady, TakenFlat}
use Rattle.flat.proofs.Back.{back_none, back_step, sorted_held, items_read}
use Rattle.flat.proofs.Extending.{gather_none, flat_passes, flat_begins}
use Rattle.flat.proofs.Flats.{due_held}
use Rattle.tree.specs.Ordered.{Sorted, floor}
use Rattle.flat.specs.declared.FlatNode.{FlatNode}

flat_end : (b : ℕ) (own : Option ℕ) (g : Gathered) → flat b own [] false [] 0 g ≡ g
unfolding flat
flat_end b own g = gather_none g

-- under a tree that is no repeat tree no groups are made
pub flat_plain : (b : ℕ) (rs : List Record) (inside : Bool) (held : List Record) (stop : ℕ) (g : Gathered) → (flat b None rs inside held stop g).groups ≡ g.groups
unfolding flat gather same
flat_plain b [] inside held stop g = refl
flat_plain b (rec i s e n ∷ rs) inside held stop g =
    go (inside && not (ends r held stop)) (flat_plain b rs true (hold r held) (limit b r held stop) g) (flat_plain b rs true (hold r []) (limit b r [] 0) (gather (flat_part held) g))
  where
    r : Record
    r = rec i s e n

    go : (x : Bool) → (flat b None rs true (hold r held) (limit b r held stop) g).groups ≡ g.groups
        → (flat b None rs true (hold r []) (limit b r [] 0) (gather (flat_part held) g)).groups ≡ g.groups
        → (elim x as (λ z. Gathered) [
          | true ↦ flat b None rs true (hold r held) (limit b r held stop) g
          | false ↦ flat b None rs true (hold r []) (limit b r [] 0) (gather (flat_part held) g)
        ]).groups ≡ g.groups
    go true a c = a
    go false a c = c

module _ {w l : List ℕ} {p lo : ℕ} {own : Option ℕ} {b top low groups loose edge : ℕ} where
  -- what is gathered so far, and the records from lo up to `at` that are still to come
  pub record Taking (q : FlatReady w l p lo own b top low groups loose edge) (l' : List ℕ) (at below htop hgroups hloose hedge : ℕ) : Type 0 where
    pub above : lo ≤ at
    pub under : at ≤ p
    pub grown : top ≤ htop
    pub lower : below ≤ low
    pub kept : Same l l' 0 top low
    pub g : Gathered
    pub hi : ℕ
    pub sorted : Sorted q.T q.s hi (from_back w lo (at - lo))
    pub holds : HoldsGathered l' q.base htop below hgroups hloose hedge g
    pub flat_is : flat b own (from_back w lo (p - lo)) false [] 0 q.g ≡ flat b own (from_back w lo (at - lo)) false [] 0 g
    pub used : htop + 24 * due own g + low ≤ below + top + 24 * due own q.g + 40 * (p - at)

  pub read_is : (q : FlatReady w l p lo own b top low groups loose edge) → flattened q.its [] ≡ from_back w lo (p - lo)
  read_is q = items_read w lo p q.its q.stands.spells

  pub taking_start : (q : FlatReady w l p lo own b top low groups loose edge) → Taking q l p low top groups loose edge
  taking_start q = record {
    above = omega (arith, spells_count w lo p q.its q.stands.spells);
    under = le_refl p;
    grown = le_refl top;
    lower = le_refl low;
    kept = record { size = refl; below = λ j x y. refl; above = λ j x. refl };
    g = q.g;
    hi = q.e;
    sorted = rw (read_is q) at (sorted_flattened q.F q.T q.its q.s q.s q.e [] q.ranges (le_refl q.s));
    holds = q.holds;
    flat_is = refl;
    used = omega arith;
  }

  module _ {q : FlatReady w l p lo own b top low groups loose edge} {l' : List ℕ} {at below htop hgroups hloose hedge : ℕ} (t : Taking q l' at below htop hgroups hloose hedge) where
    room : htop + 24 * due own t.g + 40 * (at - lo) ≤ below
    room = omega (arith, q.room, t.used, t.above, t.under)

    pub inside : below ≤ length l'
    inside = omega (arith, q.inside, t.lower, t.kept.size)

    pub fits : below ≤ 4294967295
    fits = omega (arith, q.fits, t.lower)

    pub place : lo < at → (at - 1) * 4 + 4 ≤ length w
    place h = omega (arith, t.under, q.stands.within)

    module _ (some_record : lo < at) where
      pub room_pass : htop + 10 ≤ below
      room_pass = omega (arith, room)

      pub groups_node : Readable l' hgroups
      groups_node = readable false l' q.base htop below hgroups t.g.groups (omega (arith, room_pass, inside)) t.holds.groups_at

      pub loose_node : Readable l' hloose
      loose_node = readable false l' q.base htop below hloose t.g.loose (omega (arith, room_pass, inside)) t.holds.loose_at

      abbrev i : ℕ
      i = get_or w ((at - 1) * 4) 0

      abbrev s : ℕ
      s = get_or w ((at - 1) * 4 + 1) 0

      abbrev e : ℕ
      e = get_or w ((at - 1) * 4 + 2) 0

      abbrev n : ℕ
      n = get_or w ((at - 1) * 4 + 3) 0

      abbrev rest : List Record
      rest = from_back w lo (at - 1 - lo)

      reads : from_back w lo (at - lo) ≡ rec i s e n ∷ rest
      reads = back_step w lo at some_record

      sorted_here : Sorted q.T q.s t.hi (rec i s e n ∷ rest)
      sorted_here = rw reads at t.sorted

      -- a record of the own id
      passing : same own i ≡ true → (l'' : List ℕ) (rtop rgroups rloose redge : ℕ) → PassedOver l' l'' htop i e b hgroups hloose hedge rtop rgroups rloose redge
          → Taking q l'' (at - 1) below rtop rgroups rloose redge
      passing own_is l'' rtop rgroups rloose redge v = record {
        above = omega arith;
        under = omega (arith, t.under);
        grown = omega (arith, t.grown, v.grown);
        lower = t.lower;
        kept = record {
          size = v.kept.size ∙ t.kept.size;
          below = λ j x y. v.kept.below j x (omega (arith, t.grown)) ∙ t.kept.below j x y;
          above = λ j x. v.kept.above j (omega (arith, room_pass, t.lower)) ∙ t.kept.above j x;
        };
        g = pass b i e t.g;
        hi = floor n s e;
        sorted = sorted_here.rest;
        holds = v.holds q.base below t.g q.live (omega (arith, q.above, t.grown)) room_pass t.holds;
        flat_is =
            t.flat_is
            ∙ (ap (λ (rs : List Record). flat b own rs false [] 0 t.g) reads ∙ flat_passes b own i s e n rest t.g own_is);
        used = omega (arith, t.used, v.few, due_pass own b i e t.g, t.under);
      }

      pub pass_at : {id end : ℕ} → id ≡ i → end ≡ e → same own id ≡ true
          → {l'' : List ℕ} {rtop rgroups rloose redge : ℕ} → PassedOver l' l'' htop id end b hgroups hloose hedge rtop rgroups rloose redge
          → Taking q l'' (at - 1) below rtop rgroups rloose redge
      pass_at ei ee own_is {l''} {rtop} {rgroups} {rloose} {redge} v =
          passing (ap (λ (k : ℕ). same own k) (sym ei) ∙ own_is) l'' rtop rgroups rloose redge (rw (ei, ee) at v)

      -- a flat part
      pub node_ready : NodeReady w l' lo b (record { p = at; top = htop; low = below; loose = hloose })
      node_ready = record {
        T = q.T;
        s = q.s;
        e = t.hi;
        types = q.types;
        bound = q.bound;
        sorted = t.sorted;
        within = omega (arith, t.under, q.stands.within);
        some_record = some_record;
        room = omega (arith, room);
        inside = inside;
        fits = fits;
        readable = loose_node;
      }

      pub node_at : {id : ℕ} → id ≡ i → same own id ≡ false
          → {l'' : List ℕ} {r : FlatNode} → TookFlat w l' l'' lo b (record { p = at; top = htop; low = below; loose = hloose }) r
          → Taking q l'' r.p r.low r.top hgroups r.loose hedge
      unfolding gather
      node_at ei other_is {l''} {r} v =
          let other : same own i ≡ false = ap (λ (k : ℕ). same own k) (sym ei) ∙ other_is in
          let to = r.p in
          let held : List Record = held_in w to (at - to) in
          let a : at - lo ≡ (at - to) + (to - lo) = omega (arith, v.above, v.further) in
          let so : Sorted q.T q.s t.hi (from_back w lo ((at - to) + (to - lo))) = rw a at t.sorted in
          let (hi', left, he) = sorted_held w q.T q.s t.hi lo (at - to) (to - lo) so in
          record {
            above = v.above;
            under = omega (arith, t.under, v.further);
            grown = omega (arith, t.grown, v.grown);
            lower = omega (arith, t.lower, v.lower);
            kept = record {
              size = v.kept.size ∙ t.kept.size;
              below = λ k c d. v.kept.below k c (omega (arith, t.grown)) ∙ t.kept.below k c d;
              above = λ k c. v.kept.above k (omega (arith, t.lower)) ∙ t.kept.above k c;
            };
            g = gather (flat_part held) t.g;
            hi = hi';
            sorted = left;
            holds = record {
              groups_at =
                  frame false l' l'' q.base htop below r.top r.low v.grown v.lower
                  (same_less l' l'' 0 htop below q.base htop below (omega arith) (le_refl htop) (le_refl below) v.kept) hgroups t.g.groups t.holds.groups_at;
              loose_at = v.holds q.base t.g.loose q.live (omega (arith, q.above, t.grown)) t.holds.loose_at;
              edge_is = t.holds.edge_is;
            };
            flat_is =
                t.flat_is
                ∙ (ap (λ (rs : List Record). flat b own rs false [] 0 t.g) reads
                ∙ (flat_begins b own i s e n rest t.g other
                ∙ (ap (λ (rs : List Record). flat b own rs true [] 0 t.g) (sym reads) ∙ v.flat_is own t.g)));
            used = omega (arith, t.used, v.used, due_held own held t.g, t.under, v.further);
          }

    pub last_is : at ≤ lo → flat b own (flattened q.its []) false [] 0 q.g ≡ t.g
    last_is h =
        let z : at - lo ≡ 0 = omega arith in
        let none_left : from_back w lo (at - lo) ≡ [] = ap (λ (k : ℕ). from_back w lo k) z ∙ back_none w lo in
        ap (λ (rs : List Record). flat b own rs false [] 0 q.g) (read_is q)
        ∙ (t.flat_is ∙ (ap (λ (rs : List Record). flat b own rs false [] 0 t.g) none_left ∙ flat_end b own t.g))

  pub taken : {l' : List ℕ} {at below htop hgroups hloose hedge : ℕ} → at ≤ lo → FlatReady w l p lo own b top low groups loose edge
      → ((q : FlatReady w l p lo own b top low groups loose edge) → Taking q l' at below htop hgroups hloose hedge)
      → TakenFlat w l l' p lo own b top low groups loose edge htop below hgroups hloose hedge
  taken h q₀ t = record {
    grown = (t q₀).grown;
    lower = (t q₀).lower;
    kept = (t q₀).kept;
    holds = λ q. rw (last_is (t q) h) (t q).holds;
    used = λ q. rw (last_is (t q) h) (omega (arith, (t q).used, (t q).above, (t q).under));
  }
