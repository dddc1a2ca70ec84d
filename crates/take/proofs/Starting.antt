-- What the scan and the packing answer, and what the record becomes. Assumes nothing.
use mathlib.Core.Path.{◌≡◌, refl, sym, ap, subst, ◌∙◌}
use mathlib.Core.Bool.{false}
use mathlib.Core.List.{List}
use Rattle.std.specs.Prelude.{Option, None, Some, Result, Ok, Err}
use Prim.Native.Nat.{ℕ, suc, ◌+◌, ◌-◌, ◌*◌, ◌/◌, ◌≤◌}
use native.Mathlib.Omega.{arith}
use lib.ListN.{length}
use Rattle.words.specs.Words.{id_of, start_of, end_of, last_of}
use Rattle.tree.specs.Items.{Items, span, records, first, leftmost}
use Rattle.tree.specs.Pack.{words, run_from, pack}
use Rattle.tree.proofs.RecordCounts.{words_records}
use Rattle.store.proofs.Frame.{readable, frame, same_less}
use Rattle.cursor.proofs.Spelled.{spells_count}
use Rattle.scan.specs.Walked.{Remembered, Scans}
use Rattle.scan.specs.declared.Memo.{Memo}
use Rattle.scan.proofs.Memory.{remembered_lower}
use Rattle.records.specs.OneRecord.{record_of}
use Rattle.records.specs.declared.Record.{Record}
use Rattle.pack.specs.Taking.{Filled, Takable, Takes}
use Rattle.pack.specs.declared.Part.{Part}
use Rattle.pack.proofs.Held.{takable, filled_same, filled_staged, run_short}
use Rattle.take.specs.Going.{own_under, Level, Going}
use Rattle.take.specs.Starting.{PartReady, PartBuilt, pending, Starts, Started}
use Rattle.take.specs.declared.BuiltNode.{BuiltNode}
use Rattle.take.specs.declared.PendingNode.{PendingNode}
use Rattle.take.specs.declared.State.{State}
use Rattle.take.proofs.Steps.{OtherItem, other_item}
use Rattle.take.proofs.Packing.{going_packed, records_run}
use Rattle.tree.specs.Ordered.{Fits}

module _ {F b : ℕ} {own : Option ℕ} {w l : List ℕ} {s : State} (q : Starts F b own w l s) where
  abbrev go : Going F q.T b w l q.whole s
  go = q.going

  abbrev under : Option ℕ
  under = own_under F go.stack s.tree.id

  it : OtherItem go.its
  it = other_item F under w s.tree.floor s.p (id_of w (s.p - 1)) go.its go.level.stands q.some_record refl (subst (λ (x : Option ℕ). Rattle.tree.specs.Items.same x (id_of w (s.p - 1)) ≡ false) q.own_is q.other)

  abbrev i : ℕ
  i = it.i

  abbrev a : ℕ
  a = it.s

  abbrev e : ℕ
  e = it.e

  abbrev kids : Items
  kids = it.kids

  abbrev rest : Items
  rest = it.rest

  standing : Level F q.T b w l go.base s.children.top s.low under s.tree.floor s.p (span i a e kids rest) go.g s.children.groups s.children.loose s.children.edge
      s.tree.start go.hi go.hi s.tree.end s.memo
  standing = subst (λ (x : Items). Level F q.T b w l go.base s.children.top s.low under s.tree.floor s.p x go.g s.children.groups s.children.loose s.children.edge
      s.tree.start go.hi go.hi s.tree.end s.memo) it.is go.level

  within : (s.p ≤ length w / 4) × (length w / 4 ≤ 1048576)
  within = (omega (arith, go.shallow), go.few)

  scans : Scans F own w l s.tree.floor s.p b s.memo i a e kids rest
  scans = subst (λ (x : Option ℕ). Scans F x w l s.tree.floor s.p b s.memo i a e kids rest) (sym q.own_is) (record {
    stands = standing.stands;
    counted = record { room = omega (arith, within.0, go.counted.room); count = λ k h. go.counted.count k (omega (arith, within.0)) };
    small = omega (arith, within.0, within.1);
    limit = go.hi - b;
    falls = omega (arith, standing.fits.ends);
    remembered = standing.remembered;
  })

  pub take_asks : Takable F own w s.tree.floor s.p b s.memo l s.low
  take_asks = takable F own w s.tree.floor s.p b s.memo l s.low q.T s.tree.start go.hi i a e kids rest scans standing.fits (omega (arith, go.room)) go.inside

  last_words : (id_of w (s.p - 1) ≡ i) × (start_of w (s.p - 1) ≡ a) × (end_of w (s.p - 1) ≡ e) × (last_of w (s.p - 1) ≡ 4 * suc (records kids)) × (suc (records kids) ≤ s.p)
  last_words = let h = standing.stands.spells in (h.id, h.start, h.end, h.size, omega (arith, h.room))

  -- what taking the span answers
  abbrev Took : List ℕ → Result Part Memo → Type 0
  Took l₁ r = (T from to i s' e : ℕ) (kids rest : Items) → Scans F own w l s.tree.floor s.p b s.memo i s' e kids rest → Fits F T from to (span i s' e kids rest)
      → Takes F b i s' e kids rest s.p l s.low (run_from F b own i s' e kids rest) r l₁

  answer : (l₁ : List ℕ) (r : Result Part Memo) → Took l₁ r → Takes F b i a e kids rest s.p l s.low (run_from F b own i a e kids rest) r l₁
  answer l₁ r took = took q.T s.tree.start go.hi i a e kids rest scans standing.fits

  -- a run
  record Ran (l₁ : List ℕ) (x : Part) : Type 0 where
    k : ℕ
    packs : run_from F b own i a e kids rest ≡ Some k
    is : x ≡ record { p = s.p - records (span i a e kids (first k rest)); low = s.low - words F (span i a e kids (first k rest)); start = leftmost a (first k rest); length = e - leftmost a (first k rest) }
    filled : Filled l l₁ (s.low - words F (span i a e kids (first k rest))) s.low (pack F (leftmost a (first k rest)) 0 (span i a e kids (first k rest)))

  -- or none
  record Stopped (l₁ : List ℕ) (m : Memo) : Type 0 where
    unpacked : run_from F b own i a e kids rest ≡ None
    remembered : Remembered s.p (span i a e kids rest) (e - b) m
    kept : l₁ ≡ l

  module _ {l₁ : List ℕ} (x : Part) (took : Took l₁ (Ok x)) where
    ran : Ran l₁ x
    ran = go (run_from F b own i a e kids rest) refl (answer l₁ (Ok x) took)
      where
        go : (o : Option ℕ) → run_from F b own i a e kids rest ≡ o → Takes F b i a e kids rest s.p l s.low o (Ok x) l₁ → Ran l₁ x
        go None eq t = let z = t.1 in absurd cc
        go (Some k) eq t = let z = t.0 in record { k = k; packs = eq; is = cc; filled = t.1 }

    pub part_asks : PartReady l₁ s.children.top s.low s.children.loose x.low
    part_asks =
        let v = ran in
        let run = span i a e kids (first v.k rest) in
        let low_is : x.low ≡ s.low - words F run = ap (λ (y : Part). y.low) v.is in
        let kept = filled_same l l₁ (s.low - words F run) s.low (pack F (leftmost a (first v.k rest)) 0 run) v.filled go.inside in
        let room : s.children.top + 10 ≤ s.low - words F run = omega (arith, go.room, few_words v.k) in
        let loose = frame false l l₁ go.base s.children.top s.low s.children.top s.low (omega arith) (omega arith)
        (same_less l l₁ 0 (s.low - words F run) s.low go.base s.children.top s.low (omega arith) (omega (arith, room)) (omega arith) kept)
        s.children.loose go.g.loose go.level.holds.loose_at in
        record {
          below = omega (arith, low_is);
          small = omega (arith, go.inside, go.fits);
          room = omega (arith, room, go.inside, kept.size);
          readable = readable false l₁ go.base s.children.top s.low s.children.loose go.g.loose (omega (arith, room, go.inside, kept.size)) loose;
        }
      where
        few_words : (k : ℕ) → words F (span i a e kids (first k rest)) + 10 ≤ 40 * s.p
        few_words k =
            let all = spells_count w s.tree.floor s.p (span i a e kids rest) standing.stands.spells in
            omega (arith, words_records F (span i a e kids (first k rest)), records_run i a e kids (first k rest), records_run i a e kids rest, Rattle.tree.proofs.RecordCounts.records_split k rest, all)

    pub started_part : (l' : List ℕ) (y : BuiltNode) → PartBuilt l₁ l' s x y
        → Started F b own w l l' s q (Rattle.take.specs.declared.StartedNode.TheVariants.Built y)
    started_part l' y built =
        let v = ran in
        let run = span i a e kids (first v.k rest) in
        let from = leftmost a (first v.k rest) in
        let ws = pack F from 0 run in
        let low' = s.low - words F run in
        let p_is : y.p ≡ s.p - records run = built.p_is ∙ ap (λ (z : Part). z.p) v.is in
        let low_is : y.low ≡ low' = built.low_is ∙ ap (λ (z : Part). z.low) v.is in
        let pushed = rw v.is at built.pushed in
        let packs : run_from F b under i a e kids rest ≡ Some v.k = subst (λ (x : Option ℕ). run_from F b x i a e kids rest ≡ Some v.k) q.own_is v.packs in
        let short = run_short F b under q.T s.tree.start go.hi i a e kids rest v.k go.types go.bound standing.fits packs in
        record {
          less = omega (arith, p_is, records_run i a e kids (first v.k rest), last_words.4);
          going = λ m place. rw (p_is, low_is)
              (going_packed F q.T b w l q.whole s go i a e v.k kids rest it.is packs l₁ l' low' (s.low - low') y.node m
              (filled_staged l l₁ low' s.low ws v.filled go.inside short) v.filled.room (filled_same l l₁ low' s.low ws v.filled go.inside)
              (omega (arith, v.filled.room)) pushed (rw p_is at place));
        }

  pub pending_asks : last_of w (s.p - 1) / 4 ≤ s.p
  pending_asks = omega (arith, last_words.3, last_words.4)

  module _ {l₁ : List ℕ} (m : Memo) (took : Took l₁ (Err m)) where
    stopped : Stopped l₁ m
    stopped = go (run_from F b own i a e kids rest) refl (answer l₁ (Err m) took)
      where
        go : (o : Option ℕ) → run_from F b own i a e kids rest ≡ o → Takes F b i a e kids rest s.p l s.low o (Err m) l₁ → Stopped l₁ m
        go None eq t =
            let z = t.1 in
            let y : t.0 ≡ m = cc in
            record { unpacked = eq; remembered = rw y at t.2; kept = t.3 }
        go (Some k) eq t = let z = t.0 in absurd cc

    pub started_tree : Started F b own w l l₁ s q (Rattle.take.specs.declared.StartedNode.TheVariants.Pending (pending w s.p m))
    started_tree =
        let v = stopped in
        let unpacked : run_from F b under i a e kids rest ≡ None = subst (λ (x : Option ℕ). run_from F b x i a e kids rest ≡ None) q.own_is v.unpacked in (
          v.kept,
          rw (last_words.0, last_words.1, last_words.2) (record {
            kids = kids;
            rest = rest;
            is = it.is;
            unpacked = unpacked;
            floor_is = omega (arith, last_words.3);
            remembered = remembered_lower s.p (span i a e kids rest) (e - b) (a - b) m (omega (arith, standing.fits.ordered)) v.remembered;
          }),
        )

pub pending_is : (w : List ℕ) (p : ℕ) (memo : Memo) {r : Record} {m : ℕ} → r ≡ record_of w (p - 1) → m ≡ r.size / 4
    → ◌≡◌ {A = PendingNode} (record { node = record { id = r.id; start = r.start; end = r.end; floor = p - m }; memo = memo }) (pending w p memo)
unfolding record_of
pending_is w p memo {r} {m} h z = rw (z, h) refl
