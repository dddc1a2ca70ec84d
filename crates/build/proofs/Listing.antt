-- An accepted list is read into the store, and its first-level trees can be written out. Assumes nothing.
use mathlib.Core.Path.{◌≡◌, refl, sym, ap, ◌∙◌}
use mathlib.Core.List.{List}
use Rattle.std.specs.Option.{unwrap_or}
use Rattle.std.specs.Prelude.{Option, None, Some}
use Prim.Native.Nat.{ℕ, zero, suc, ◌+◌, ◌-◌, ◌*◌, ◌/◌, ◌≤◌, ◌<◌}
use native.Mathlib.Omega.{arith}
use borrow.Author.Tests.{eq-eqb, ne_eqb}
use lib.ListN.{length}
use Rattle.words.specs.Words.{end_of}
use Rattle.records.specs.Forest.{count, behind}
use Rattle.records.specs.Parse.{parse}
use Rattle.records.proofs.AcceptLaws.{accepted_list}
use Rattle.records.proofs.Spelling.{words_of}
use Rattle.tree.specs.Trees.{Trees, nil, tree, nodes, last_end}
use Rattle.tree.specs.Cells.{packed}
use Rattle.tree.specs.Build.{build, first_level}
use Rattle.tree.proofs.CountLaws.{few_cells}
use Rattle.tree.proofs.WordLaws.{few_words}
use Rattle.tree.proofs.KeptLaws.{ends_fit}
use Rattle.scan.specs.Counted.{Counting}
use Rattle.scan.specs.declared.Memo.{Memo}
use Rattle.take.specs.Loop.{BeginsAt, Begins, TakenAll}
use Rattle.take.specs.declared.State.{State}
use Rattle.take.proofs.Ways.{behind_last, behind_none, going_start}
use Rattle.take.proofs.LastEnd.{last_first_level}
use Rattle.build.specs.Building.{list_end, Listed, Writes, built, written_out}

pub end_none : (S : ℕ) (w : List ℕ) → length w / 4 ≡ 0 → S ≡ list_end S w
end_none S w h = rw (eq-eqb (length w / 4) 0 h)

pub end_last : (S : ℕ) (w : List ℕ) (last e : ℕ) → (length w / 4 ≡ 0 → ⊥) → last ≡ length w / 4 - 1 → e ≡ end_of w last → e ≡ list_end S w
end_last S w last e h l r = rw (ne_eqb (length w / 4) 0 h, ← l) r

module _ (F b S : ℕ) (w : List ℕ) (size : ℕ) (q : Listed b S w size) where
  abbrev n : ℕ
  n = length w / 4

  pub behind_is : list_end S w ≡ behind S (parse w)
  behind_is = go n refl
    where
      go : (k : ℕ) → n ≡ k → list_end S w ≡ behind S (parse w)
      go zero e = sym (end_none S w e) ∙ sym (behind_none q.T F b q.top S w q.start_fits q.accepted e)
      go (suc k) e =
          let h : 0 < n = omega arith in
          let z : n ≡ 0 → ⊥ = λ x. omega arith in
          sym (end_last S w (n - 1) (end_of w (n - 1)) z refl refl) ∙ sym (behind_last q.T F b q.top S w q.start_fits q.accepted h)

  pub few_records : n ≤ 1048576
  few_records = q.accepted.few

  -- the state before any record is read
  abbrev from : (end : ℕ) (m : Memo) → State
  from end m = record {
    p = n;
    depth = 0;
    low = 96 * n + 96;
    tree = record { id = 0; start = S; end = end; floor = 0 };
    children = record { top = 12 * n + 1; groups = 0; loose = 0; edge = end };
    memo = m;
  }

  module _ (l l₁ : List ℕ) (size_is : length l ≡ size) (counting : Counting F w l l₁ n) (end : ℕ) (end_is : end ≡ list_end S w) (m : Memo) (none_yet : n ≤ m.place) where
    abbrev beginning : BeginsAt F b S w l₁ (from end m)
    beginning = record {
      T = q.T;
      going = going_start q.T F b q.top S w q.start_fits q.accepted l₁ end m (counting.size ∙ (size_is ∙ q.size)) counting.counted (end_is ∙ behind_is) none_yet;
    }

    pub begins : Begins F b w l₁ (from end m)
    begins = record { S = S; begins = beginning }

    pub read : (l' : List ℕ) (top low kids : ℕ) → ((S : ℕ) (q : BeginsAt F b S w l₁ (from end m)) → TakenAll F b S w l' top low kids) → TakenAll F b S w l' top low kids
    read l' top low kids h = h S beginning

  records_are : count (parse w) ≡ n
  records_are = omega (arith, words_of (parse w), ap length (accepted_list q.T b q.top S w q.accepted))

  build_is : (top : ℕ) (given : Option ℕ) → build F b S top given (parse w) ≡ tree (Some top) S (unwrap_or given (last_end S (first_level F b S (parse w)) - S)) (first_level F b S (parse w)) nil
  unfolding build
  build_is top given = refl

  pub few_kids : nodes (first_level F b S (parse w)) ≤ 2 * n
  unfolding nodes
  few_kids = omega (arith, ap nodes (build_is 0 None), few_cells F b S 0 None (parse w), records_are)

  pub few_packed : length (packed (first_level F b S (parse w))) ≤ 4 * n
  unfolding packed
  few_packed = omega (arith, ap (λ (t : Trees). length (packed t)) (build_is 0 None), few_words F b S 0 None (parse w), records_are, ap length (mathlib.Core.List.append-nil (packed (first_level F b S (parse w)))))

  module _ (l' : List ℕ) (top low kids : ℕ) (taken : TakenAll F b S w l' top low kids) (same_size : length l' ≡ size) where
    abbrev pub writing : Writes l' top kids
    writing = record {
      base = taken.base;
      low = low;
      trees = first_level F b S (parse w);
      live = taken.live;
      above = taken.above;
      free = omega (arith, taken.room, few_kids);
      inside = taken.inside;
      fits = omega (arith, taken.inside, same_size, q.size, few_records);
      holds = taken.holds;
      narrow = omega (arith, few_packed, few_records);
    }

    pub write_asks : Writes l' top kids
    write_asks = writing

    -- the length: "last child's position plus length, or 0"
    length_is : (end : ℕ) → end ≡ list_end S w → last_end S (first_level F b S (parse w)) ≡ end
    length_is end e = last_first_level q.T F b S (parse w) (ends_fit q.T F b S q.top None w q.start_fits q.accepted).0 ∙ sym (e ∙ behind_is)

    pub built_is : (id len end : ℕ) (given : Option ℕ) (cells words : List ℕ) → end ≡ list_end S w → len ≡ unwrap_or given (end - S)
        → written_out id S len (first_level F b S (parse w)) cells words ≡ built F b S id given w cells words
    built_is id len end given cells words e h = rw (h, build_is id given, length_is end e) refl
