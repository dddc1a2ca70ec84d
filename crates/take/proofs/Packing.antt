-- A run becomes a part in front of the present tree's children. Assumes nothing.
use mathlib.Core.Path.{◌≡◌, refl, sym, ap, subst, ◌∙◌}
use mathlib.Core.Bool.{false}
use mathlib.Core.List.{List}
use Rattle.std.specs.Prelude.{Option, Some}
use Prim.Native.Nat.{ℕ, suc, ◌+◌, ◌-◌, ◌*◌, ◌≤◌}
use native.Mathlib.Omega.{arith}
use native.Mathlib.Nat.{le_refl}
use lib.ListN.{length}
use Rattle.tree.specs.Trees.{part}
use Rattle.tree.specs.Items.{Items, span, records, first, leftmost}
use Rattle.tree.specs.Pack.{run_from, pack, run_part}
use Rattle.tree.specs.Groups.{Gathered, gather}
use Rattle.tree.specs.Build.{walk}
use Rattle.tree.proofs.Reading.{after}
use Rattle.tree.proofs.ItemLaws.{fits_after, leftmost-≤}
use Rattle.tree.proofs.ShortLaws.{run_packs}
use Rattle.tree.proofs.WellBuild.{gathers_packed}
use Rattle.tree.proofs.RecordCounts.{length_pack, words_records, records_split}
use Rattle.store.specs.Store.{Same, Staged, PushedPart}
use Rattle.store.proofs.Frame.{same_less, frame, same_then}
use Rattle.cursor.proofs.Spelled.{stands_after, spells_count}
use Rattle.cursor.proofs.Back.{walk_after}
use Rattle.gathering.specs.Gathering.{due}
use Rattle.gathering.proofs.Due.{due_part}
use Rattle.scan.specs.declared.Memo.{Memo}
use Rattle.scan.proofs.Memory.{remembered_fresh}
use Rattle.take.specs.Going.{deep, own_under, Level, Going}
use Rattle.take.specs.declared.State.{State}
use Rattle.take.proofs.Steps.{going_on}

-- a run and what stands behind it
pub records_run : (i s e : ℕ) (kids its : Items) → records (span i s e kids its) ≡ suc (records kids + records its)
unfolding records
records_run i s e kids its = refl

first_run : (k i s e : ℕ) (kids rest : Items) → first (suc k) (span i s e kids rest) ≡ span i s e kids (first k rest)
unfolding first
first_run k i s e kids rest = refl

after_run : (k i s e : ℕ) (kids rest : Items) → after (suc k) (span i s e kids rest) ≡ after k rest
unfolding after
after_run k i s e kids rest = refl

-- what the walk gives behind a run that packs
walk_run : (F b i s e : ℕ) (kids rest : Items) (d k : ℕ) (own : Option ℕ) (g : Gathered) → run_from F b own i s e kids rest ≡ Some k
    → walk F b (after k rest) d 0 own (gather (run_part F i s e kids (first k rest)) g) ≡ walk F b (span i s e kids rest) d 0 own g
unfolding walk
walk_run F b i s e kids rest d k own g h = sym (walk_after F b rest d k own (gather (run_part F i s e kids (first k rest)) g)) ∙ rw (h, walk) refl

-- a part in front
gather_part : (F i s e : ℕ) (kids more : Items) (g : Gathered)
    → gather (run_part F i s e kids more) g ≡ gather (part (leftmost s more) (e - leftmost s more) (pack F (leftmost s more) 0 (span i s e kids more))) g
unfolding run_part gather
gather_part F i s e kids more g = refl

module _ (F T b : ℕ) (w l : List ℕ) (whole : Gathered) (s : State) (go : Going F T b w l whole s) where
  abbrev own : Option ℕ
  own = own_under F go.stack s.tree.id

  abbrev g : Gathered
  g = go.g

  abbrev top : ℕ
  top = s.children.top

  module _ (i a e k : ℕ) (kids rest : Items) (is : go.its ≡ span i a e kids rest) (packs : run_from F b own i a e kids rest ≡ Some k) where
    -- the run, where it starts, its words
    abbrev pub run : Items
    run = span i a e kids (first k rest)

    abbrev pub from : ℕ
    from = leftmost a (first k rest)

    abbrev pub ws : List ℕ
    ws = pack F from 0 run

    module _ (l₁ l' : List ℕ) (low' count r : ℕ) (m : Memo)
        (staged : Staged l₁ low' low' ws) (below : low' + length ws ≡ s.low) (kept : Same l l₁ 0 low' s.low)
        (counted : count ≡ length ws)
        (pushed : PushedPart l₁ l' top from (e - from) low' count s.children.loose r)
        (memo : s.p - records run ≤ m.place) where
      standing : Level F T b w l go.base top s.low own s.tree.floor s.p (span i a e kids rest) g s.children.groups s.children.loose s.children.edge
          s.tree.start go.hi go.hi s.tree.end s.memo
      standing = subst (λ (x : Items). Level F T b w l go.base top s.low own s.tree.floor s.p x g s.children.groups s.children.loose s.children.edge
          s.tree.start go.hi go.hi s.tree.end s.memo) is go.level

      fits_run : records run ≤ s.p
      fits_run =
          omega (arith, records_run i a e kids (first k rest), records_run i a e kids rest, records_split k rest, spells_count w s.tree.floor s.p (span i a e kids rest) standing.stands.spells)

      room : top + 10 + length ws + 40 * (s.p - records run) ≤ s.low
      room = omega (arith, go.room, length_pack F from 0 run, words_records F run, records_run i a e kids (first k rest), fits_run)

      whole_same : Same l l' 0 top s.low
      whole_same = same_then l l₁ l' 0 top s.low (same_less l l₁ 0 low' s.low 0 top s.low (omega arith) (omega (arith, room, below)) (omega arith) kept)
          (same_less l₁ l' 0 top (top + 10) 0 top s.low (omega arith) (omega arith) (omega (arith, room)) pushed.kept)

      first_same : Same l l₁ go.base top s.low
      first_same = same_less l l₁ 0 low' s.low go.base top s.low (omega arith) (omega (arith, room, below)) (omega arith) kept

      packed_level : Level F T b w l' go.base (top + 10) low' own s.tree.floor (s.p - records run) (after k rest) (gather (run_part F i a e kids (first k rest)) g)
          s.children.groups r s.children.edge s.tree.start from from s.tree.end m
      unfolding gather run_part
      packed_level =
          let f = standing.fits in
          let loose₁ = frame false l l₁ go.base top s.low top low' (omega arith) (omega (arith, below)) first_same s.children.loose g.loose standing.holds.loose_at in
          record {
            stands = rw (first_run k i a e kids rest, after_run k i a e kids rest) at (stands_after F own w s.tree.floor s.p (suc k) (span i a e kids rest) standing.stands);
            fits = fits_after F T k a s.tree.start a rest (le_refl a) f.rest;
            gathers = gathers_packed T go.types F b go.bound i a e k s.tree.start go.hi s.tree.end kids rest g f standing.gathers (run_packs F b own i a e kids rest k packs);
            holds = record {
              groups_at = frame false l l' go.base top s.low (top + 10) low' (omega arith) (omega (arith, below)) (same_less l l' 0 top s.low go.base top s.low (omega arith) (omega arith) (omega arith) whole_same) s.children.groups g.groups standing.holds.groups_at;
              loose_at = pushed.holds false go.base low' ws g.loose (omega (arith, go.base_is)) go.above (omega (arith, room, below)) counted staged loose₁;
              edge_is = standing.holds.edge_is;
            };
            plain = standing.plain;
            remembered = remembered_fresh (s.p - records run) (after k rest) (from - b) m memo;
          }

      pub going_packed : Going F T b w l' whole (record {
        p = s.p - records run;
        depth = s.depth;
        low = low';
        tree = s.tree;
        children = record { top = top + 10; groups = s.children.groups; loose = r; edge = s.children.edge };
        memo = m;
      })
      going_packed =
          going_on F T b w l whole s go l' (s.p - records run) low' (record { top = top + 10; groups = s.children.groups; loose = r; edge = s.children.edge }) m
          (after k rest) (gather (run_part F i a e kids (first k rest)) g) from (omega arith) (omega (arith, leftmost-≤ F T k a s.tree.start a rest (le_refl a) standing.fits.rest, standing.fits.ordered, standing.fits.ends)) whole_same (omega arith) (omega (arith, below)) packed_level
          (walk_run F b i a e kids rest (deep go.stack) k own g packs ∙ ap (λ (x : Items). walk F b x (deep go.stack) 0 own g) (sym is))
          (omega (arith, room, below, due_run, fits_run, length_pack F from 0 run, words_records F run, records_run i a e kids (first k rest)))
        where
          due_run : due own (gather (run_part F i a e kids (first k rest)) g) ≡ due own g
          due_run = ap (due own) (gather_part F i a e kids (first k rest) g) ∙ due_part own from (e - from) ws g
