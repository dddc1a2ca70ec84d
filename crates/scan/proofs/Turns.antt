-- Each turn of the walk keeps what a walk up to there is, and each way out of it leaves the answer. Assumes nothing.
use mathlib.Core.Path.{◌≡◌, ap, ◌∙◌}
use mathlib.Core.Bool.{true, false}
use mathlib.Core.List.{List}
use Rattle.std.specs.Prelude.{Option}
use Prim.Native.Nat.{ℕ, ◌+◌, ◌-◌, ◌*◌, ◌/◌, ◌≤◌, ◌<◌}
use native.Mathlib.Omega.{arith}
use lib.ListN.{length}
use Rattle.words.specs.Words.{id_of, start_of, end_of, last_of}
use Rattle.records.specs.OneRecord.{record_of}
use Rattle.records.specs.declared.Record.{Record}
use Rattle.records.proofs.OneRecord.{start_is, size_is}
use Rattle.tree.specs.Items.{Items, span, same}
use Rattle.tree.specs.Pack.{run_from}
use Rattle.scan.specs.Counted.{Rising}
use Rattle.scan.specs.Walked.{Walked, Scans, Scannable}
use Rattle.scan.specs.Steps.{resumed, settles, chosen}
use Rattle.scan.specs.Found.{Found}
use Rattle.scan.specs.declared.Memo.{Memo}
use Rattle.scan.proofs.Counts.{counted_rising}
use Rattle.scan.proofs.Walks.{step_bounds, step_mark, step_room, step_span, resumed_walked, resumed_mark}
use Rattle.scan.proofs.Leaves.{leaves_limit, leaves_early, leaves_settled}

-- Where the walk stands, for all items that the records may spell.
pub record Walking (own : Option ℕ) (w l : List ℕ) (lo at bound : ℕ) (memo m : Memo) : Type 0 where
  pub seen : Rising l m.place at
  pub noted : Rising l m.mark at
  pub above : lo ≤ m.place
  pub inside : m.place * 4 ≤ length w
  pub walked : (F i s e : ℕ) (kids rest : Items) → Scans F own w l lo at bound memo i s e kids rest
      → Walked at (span i s e kids rest) (e - bound) m

-- What a walk leaves that ends.
pub record Left (own : Option ℕ) (w l : List ℕ) (lo at bound : ℕ) (memo m : Memo) : Type 0 where
  pub seen : Rising l m.place at
  pub noted : Rising l m.mark at
  pub found : (F i s e : ℕ) (kids rest : Items) → Scans F own w l lo at bound memo i s e kids rest
      → Found F at (e - bound) i s e kids rest (run_from F bound own i s e kids rest) (chosen own l lo at m)

module _ {own : Option ℕ} {w l : List ℕ} {lo at bound : ℕ} {memo : Memo} (q : Scannable own w l lo at bound memo) where
  walking : (m : Memo) → m.mark ≤ at
      → ((F i s e : ℕ) (kids rest : Items) → Scans F own w l lo at bound memo i s e kids rest → Walked at (span i s e kids rest) (e - bound) m)
      → Walking own w l lo at bound memo m
  walking m low walked =
      let b = step_bounds q.scans.stands (walked q.F q.i q.s q.e q.kids q.rest q.scans) in
      record {
        seen = counted_rising q.scans.counted q.scans.small b.1;
        noted = counted_rising q.scans.counted q.scans.small low;
        above = b.0;
        inside = b.2;
        walked = walked;
      }

  pub begun : {r : Memo} → r ≡ resumed at memo → Walking own w l lo at bound memo r
  begun {r = r} is =
      walking r (resumed_mark at memo r is)
      (λ F i s e kids rest sc. resumed_walked at (span i s e kids rest) sc.limit (e - bound) memo r is sc.remembered sc.falls)

  module _ {m : Memo} (h : Walking own w l lo at bound memo m) where
    pub left_limit : m.place ≤ lo → Left own w l lo at bound memo m
    left_limit over =
        record {
          seen = h.seen;
          noted = h.noted;
          found = λ F i s e kids rest sc. leaves_limit F bound own w l lo at i s e kids rest sc.stands sc.counted m (h.walked F i s e kids rest sc) h.noted.order over;
        }

    pub left_settled : settles l at m ≡ true → Left own w l lo at bound memo m
    left_settled full =
        record {
          seen = h.seen;
          noted = h.noted;
          found = λ F i s e kids rest sc. leaves_settled F bound own w l lo at i s e kids rest sc.stands sc.counted m (h.walked F i s e kids rest sc) h.noted.order full;
        }

    module _ (some_record : lo < m.place) where
      pub past_mark : same own (id_of w (m.place - 1)) ≡ true
          → Walking own w l lo at bound memo (record { place = m.place - 1; start = m.start; mark = m.place; edge = m.start })
      past_mark own_id =
          walking (record { place = m.place - 1; start = m.start; mark = m.place; edge = m.start }) h.seen.order
          (λ F i s e kids rest sc. step_mark sc.stands (h.walked F i s e kids rest sc) some_record own_id)

      module _ (other : same own (id_of w (m.place - 1)) ≡ false) where
        pub room : (lo + last_of w (m.place - 1) / 4 ≤ m.place) × (0 < last_of w (m.place - 1) / 4)
        room = step_room q.scans.stands (h.walked q.F q.i q.s q.e q.kids q.rest q.scans) some_record other

        pub past_span : {r : Record} {k : ℕ} → r ≡ record_of w (m.place - 1) → k ≡ r.size / 4 → end_of w (at - 1) - bound ≤ r.start
            → Walking own w l lo at bound memo (record { place = m.place - k; start = r.start; mark = m.mark; edge = m.edge })
        past_span {r} {k} read whole near =
            let is : r.start ≡ start_of w (m.place - 1) = start_is _ _ read in
            let size : k ≡ last_of w (m.place - 1) / 4 = whole ∙ ap (λ (x : ℕ). x / 4) (size_is _ _ read) in
            rw (is, size)
            (walking (record { place = m.place - last_of w (m.place - 1) / 4; start = start_of w (m.place - 1); mark = m.mark; edge = m.edge }) h.noted.order
            (λ F i s' e kids rest sc. step_span sc.stands (h.walked F i s' e kids rest sc) some_record other (omega (arith, sc.stands.spells.end))))

        pub left_early : start_of w (m.place - 1) < end_of w (at - 1) - bound → Left own w l lo at bound memo m
        left_early soon =
            record {
              seen = h.seen;
              noted = h.noted;
              found = λ F i s e kids rest sc.
                  leaves_early F bound own w l lo at i s e kids rest sc.stands sc.counted m (h.walked F i s e kids rest sc) h.noted.order some_record other
                  (omega (arith, sc.stands.spells.end));
            }
