-- A part whose words are those of trees with ids below T, in order and nested, passes 16 to 20: the part check of crate
-- `part` accepts it. So the parts that the build writes are accepted. Assumes nothing.
use mathlib.Core.Path.{◌≡◌, refl, sym, ap, ◌∙◌}
use mathlib.Core.List.{List, [], ◌∷◌, ◌++◌, append_assoc, append-nil}
use Rattle.std.specs.Prelude.{None, Some}
use Prim.Native.Nat.{ℕ, suc, ◌+◌, ◌-◌, ◌*◌, ◌%◌, ◌≤◌, ◌<◌}
use native.Mathlib.Omega.{arith}
use native.Mathlib.Nat.{add-zero, le_refl}
use borrow.Author.Tests.{lt-leb, le-ltb, eq-eqb}
use lib.ListN.{length, length-append}
use Rattle.words.specs.Outcome.{accepted}
use Rattle.part.specs.Part.{part_counts, part_check}
use Rattle.tree.specs.Trees.{Trees, nil, tree, part, nodes}
use Rattle.tree.specs.Materialise.{unpack}
use Rattle.tree.specs.Cells.{id_word}
use Rattle.tree.proofs.PartForms.{Fault, open_ends, past_enclosing, entry_fault, entries_fault, part_fault, part_accepted, chosen, entries_step}
use Rattle.tree.proofs.MaterialiseLaws.{Passed, Past, past_down, open_passed, open_past, Typed, typed_unpack}
use Rattle.tree.specs.Well.{Plain, Parts, spelled}

length_spelled : (p off : ℕ) (us : Trees) → Typed us → length (spelled p off us) ≡ 4 * nodes us
unfolding spelled nodes
length_spelled p off nil a = refl
length_spelled p off (tree None s l kids rest) a = absurd a
length_spelled p off (tree (Some i) s l kids rest) a =
    let n = off + 4 + 4 * nodes kids in
    omega (arith, length-append (spelled p (off + 4) kids) (spelled p n rest), length_spelled p (off + 4) kids a.0, length_spelled p n rest a.1)
length_spelled p off (part s l ws rest) a = absurd a

module _ (T N : ℕ) where
  faults_passed : (off : ℕ) (gone es ws : List ℕ) → Passed off gone → entries_fault T N off (gone ++ es) ws ≡ entries_fault T N off es ws
  unfolding entries_fault
  faults_passed off gone es [] a = refl
  faults_passed off gone es (i ∷ []) a = refl
  faults_passed off gone es (i ∷ s ∷ []) a = refl
  faults_passed off gone es (i ∷ s ∷ e ∷ []) a = refl
  faults_passed off gone es (i ∷ s ∷ e ∷ x ∷ ws) a =
      ap (λ (now : List ℕ). chosen (entry_fault T N off now i s e x) (entries_fault T N (off + 4) (x ∷ now) ws) off) (open_passed off gone es a)

  -- no end index above an enclosing record's
  inside : (x : ℕ) (es : List ℕ) → Past x es → past_enclosing x es ≡ 0
  unfolding past_enclosing
  inside x [] a = refl
  inside x (e ∷ es) a = rw (le-ltb e x a.0, past_enclosing)

  entry_fine : (off i s e x : ℕ) (es : List ℕ) → i < T → s ≤ e → off + 4 ≤ x → x ≤ N → x % 4 ≡ 0 → Past x es → entry_fault T N off es i s e x ≡ 0
  unfolding entry_fault
  entry_fine off i s e x es a b c d f g = rw (lt-leb T i a, le-ltb e s b, le-ltb x (off + 4) c, le-ltb N x d, eq-eqb (x % 4) 0 f) (inside x es g)

  -- one record without a fault
  entry_passed : (off i s e x : ℕ) (around es ws : List ℕ) → open_ends off around ≡ es → entry_fault T N off es i s e x ≡ 0
      → entries_fault T N off around (i ∷ s ∷ e ∷ x ∷ ws) ≡ entries_fault T N (off + 4) (x ∷ es) ws
  entry_passed off i s e x around es ws h z =
      entries_step T N off around i s e x ws
      ∙ (ap (λ (now : List ℕ). chosen (entry_fault T N off now i s e x) (entries_fault T N (off + 4) (x ∷ now) ws) off) h
      ∙ ap (λ (r : ℕ). chosen r (entries_fault T N (off + 4) (x ∷ es) ws) off) z)

  -- The words of trees in front of other words: `es` are the ends of records that hold all of the trees, `gone` those
  -- passed before.
  faults_spelled : (p : ℕ) (us : Trees) (off lo hi : ℕ) (gone es v : List ℕ) → Typed us → Plain T lo hi us → off % 4 ≡ 0 → off + 4 * nodes us ≤ N
      → Passed off gone → Past (off + 4 * nodes us) es
      → entries_fault T N off (gone ++ es) (spelled p off us ++ v) ≡ entries_fault T N (off + 4 * nodes us) es v
  unfolding spelled nodes id_word
  faults_spelled p nil off lo hi gone es v a w z b g q = rw add-zero (faults_passed off gone es v g)
  faults_spelled p (tree None s l kids rest) off lo hi gone es v a w z b g q = absurd a
  faults_spelled p (part s l ws rest) off lo hi gone es v a w z b g q = absurd a
  faults_spelled p (tree (Some i) s l kids rest) off lo hi gone es v a w z b g q =
      let n = off + 4 + 4 * nodes kids in
      let end = off + 4 * suc (nodes kids + nodes rest) in
      let m : n + 4 * nodes rest ≡ end = omega arith in
      let A = spelled p (off + 4) kids in
      let B = spelled p n rest in
      let now : open_ends off (gone ++ es) ≡ es = open_passed off gone es g ∙ open_past off end es (omega arith) q in
      let fine = entry_fine off i (s - p) ((s + l) - p) n es w.known (omega arith) (omega arith) (omega arith) (omega arith) (past_down end n es (omega arith) q) in
      entry_passed off i (s - p) ((s + l) - p) n (gone ++ es) es ((A ++ B) ++ v) now fine
      ∙ (ap (entries_fault T N (off + 4) (n ∷ es)) (append_assoc A B v)
      ∙ (faults_spelled p kids (off + 4) s (s + l) [] (n ∷ es) (B ++ v) a.0 w.inner (omega arith) (omega arith) tt (le_refl n, past_down end n es (omega arith) q)
      ∙ (faults_spelled p rest n (s + l) hi (n ∷ []) es v a.1 w.rest (omega arith) (omega arith) (le_refl n, tt) (past_down end (n + 4 * nodes rest) es (omega arith) q)
      ∙ ap (λ (k : ℕ). entries_fault T N k es v) m)))

-- a part that keeps the rules is accepted
pub parts_accepted : (T s l : ℕ) (ws : List ℕ) → T ≤ 65536 → Parts T s l ws → part_check ws T ≡ accepted (part_counts ws)
unfolding part_fault entries_fault
parts_accepted T s l ws types h =
    let us = unpack s 0 ws in
    let a = typed_unpack s 0 ws in
    let words : spelled s 0 us ++ [] ≡ ws = append-nil (spelled s 0 us) ∙ h.whole in
    let size : length ws ≡ 4 * nodes us = ap length (sym h.whole) ∙ length_spelled s 0 us a in
    let none_found : entries_fault T (length ws) 0 [] ws ≡ (0, 0) =
    ap (entries_fault T (length ws) 0 []) (sym words)
    ∙ faults_spelled T (length ws) s us 0 s (s + l) [] [] [] a h.ranges refl (omega arith) tt tt in
    part_accepted T ws (rw (le-ltb 65536 T types, eq-eqb (length ws % 4) 0 (omega arith)) (ap (λ (f : Fault). f.0) none_found))
