-- A part that keeps the rules for parts holds the words of trees that nest and are in order (`Parts`). By induction on the
-- words, with the records around. Assumes nothing.
use mathlib.Core.Path.{◌≡◌, refl, sym, ap, subst, ◌∙◌}
use mathlib.Core.Bool.{Bool, true, false, true≢false}
use mathlib.Core.List.{List, [], ◌∷◌, ◌++◌}
use Rattle.std.specs.Prelude.{Some}
use Prim.Native.Nat.{ℕ, zero, suc, ◌+◌, ◌-◌, ◌*◌, ◌/◌, ◌%◌, ◌≤◌, ◌<◌}
use native.Mathlib.Omega.{arith}
use native.Mathlib.Nat.{add-zero}
use borrow.Author.Tests.{ltb-false, leb-true}
use lib.Dec.{ltb, leb}
use lib.ListN.{length, get_or}
use Rattle.words.specs.Outcome.{Outcome, accepted, refused}
use Rattle.part.specs.Part.{part_check}
use Rattle.part.proofs.Faults.{part_whole}
use Rattle.tree.specs.Trees.{Trees, nil, tree, nodes}
use Rattle.tree.specs.Materialise.{within, beyond, unpack}
use Rattle.tree.specs.Cells.{id_word}
use Rattle.tree.proofs.PackLaws.{within_zero, beyond_zero}
use Rattle.tree.proofs.PartReadBack.{within_beyond}
use Rattle.tree.proofs.PartForms.{open_ends, past_enclosing, entry_fault, entries_fault}
use Rattle.rules.specs.PartLowest.{Around, still, earliest, is_accepted, part_kept}
use Rattle.rules.proofs.Tests.{both}
use Rattle.rules.proofs.PartBounds.{bound, ranges_within, kept_as_before}
use Rattle.rules.proofs.Entries.{Fine, fine, no_fault}
use Rattle.rules.proofs.PartTrees.{stops, open_ends_stops, Entries, entries_within, entries_unpack, spelled-⊕}
use Rattle.tree.specs.Well.{Plain, Parts, Short, spelled}

-- T types, a part that starts at p with the length l and n words
module _ (T p l n : ℕ) where
  -- records around lie in one another; the next one is at the offset off and starts at lo or later
  abbrev Nest : (off lo : ℕ) → List Around → Type 0
  Nest off lo [] = record { low : lo ≤ l; room : off ≤ n }
  Nest off lo (a ∷ outer) = record { low : lo ≤ a.end; room : off ≤ a.stop; whole : a.stop % 4 ≡ 0; out : Nest a.stop a.end outer }

  -- trees from the offset off on, cut where the records around end
  abbrev Lies : (off lo : ℕ) → List Around → Trees → Type 0
  Lies off lo [] ts = Plain T (p + lo) (p + l) ts
  Lies off lo (a ∷ outer) ts = record {
    inner : Plain T (p + lo) (p + a.end) (within ts ((a.stop - off) / 4));
    size : nodes (within ts ((a.stop - off) / 4)) ≡ (a.stop - off) / 4;
    out : Lies a.stop a.end outer (beyond ts ((a.stop - off) / 4));
  }

  nest_still : (off lo : ℕ) (outer : List Around) → Nest off lo outer → Nest off (earliest off lo outer) (still off outer)
  unfolding still earliest
  nest_still off lo [] h = h
  nest_still off lo (a ∷ outer) h = go (leb a.stop off) refl (λ q. nest_still off a.end outer q)
    where
      go : (b : Bool) → leb a.stop off ≡ b → (Nest off a.end outer → Nest off (earliest off a.end outer) (still off outer))
          → Nest off (elim b [ true ↦ earliest off a.end outer | false ↦ lo ]) (elim b [ true ↦ still off outer | false ↦ a ∷ outer ])
      go true e q =
          let same : a.stop ≡ off = omega (arith, leb-true a.stop off e) in
          q (subst (λ o. Nest o a.end outer) same h.out)
      go false e q = h

  lies_still : (off lo : ℕ) (outer : List Around) (ts : Trees) → Nest off lo outer → Lies off (earliest off lo outer) (still off outer) ts → Lies off lo outer ts
  unfolding still earliest nodes
  lies_still off lo [] ts h w = w
  lies_still off lo (a ∷ outer) ts h w = go (leb a.stop off) refl (λ q v. lies_still off a.end outer ts q v) w
    where
      go : (b : Bool) → leb a.stop off ≡ b → (Nest off a.end outer → Lies off (earliest off a.end outer) (still off outer) ts → Lies off a.end outer ts)
          → Lies off (elim b [ true ↦ earliest off a.end outer | false ↦ lo ]) (elim b [ true ↦ still off outer | false ↦ a ∷ outer ]) ts
          → Lies off lo (a ∷ outer) ts
      go true e q v =
          let same : off ≡ a.stop = omega (arith, leb-true a.stop off e) in
          let none_left : (a.stop - off) / 4 ≡ 0 = omega arith in
          let rest : Lies off a.end outer ts = q (subst (λ o. Nest o a.end outer) (sym same) h.out) v in
          record {
            inner = rw (none_left, within_zero ts) (omega arith);
            size = rw (none_left, within_zero ts);
            out = rw (none_left, beyond_zero ts) (subst (λ o. Lies o a.end outer ts) same rest);
          }
      go false e q v = v

  -- no record is left
  lies_nil : (off lo : ℕ) (outer : List Around) → off ≡ n → Nest off lo outer → Lies off lo outer nil
  unfolding within beyond nodes
  lies_nil off lo [] q h = omega arith
  lies_nil off lo (a ∷ outer) q h =
      let top = reach a.stop a.end outer h.out in
      record {
        inner = omega arith;
        size = omega arith;
        out = lies_nil a.stop a.end outer (omega arith) h.out;
      }
    where
      reach : (o lo : ℕ) (outer : List Around) → Nest o lo outer → o ≤ n
      reach o lo [] h = h.room
      reach o lo (a ∷ outer) h = omega (arith, reach a.stop a.end outer h.out)

  under_out : (off lo x e : ℕ) (outer : List Around) → x ≤ n → past_enclosing x (stops outer) ≡ 0 → e ≤ bound l outer → Nest off lo outer → Nest x e outer
  unfolding past_enclosing bound
  under_out off lo x e [] f u b h = record { low = b; room = f }
  under_out off lo x e (a ∷ outer) f u b h = record { low = b; room = go (ltb a.stop x) refl u; whole = h.whole; out = h.out }
    where
      go : (b : Bool) → ltb a.stop x ≡ b → ◌≡◌ {A = ℕ} (elim b [ true ↦ 20 | false ↦ 0 ]) 0 → x ≤ a.stop
      go true e u = absurd (omega arith)
      go false e u = ltb-false a.stop x e

  -- a record before the trees ts of those after it
  lies_entry : (off lo i s e x : ℕ) (outer : List Around) (ts : Trees) → off % 4 ≡ 0 → i < T → lo ≤ s → s ≤ e → off + 4 ≤ x → x % 4 ≡ 0 → Nest x e outer
      → Lies (off + 4) s (record { stop = x; end = e } ∷ outer) ts
      → Lies off lo outer (tree (Some i) (p + s) (e - s) (within ts ((x - (off + 4)) / 4)) (beyond ts ((x - (off + 4)) / 4)))
  unfolding within beyond nodes
  lies_entry off lo i s e x [] ts z k a o f m h w =
      let end : p + s + (e - s) ≡ p + e = omega arith in
      record { known = k; starts = omega arith; inner = rw end w.inner; rest = rw end w.out }
  lies_entry off lo i s e x (b ∷ outer) ts z k a o f m h w =
      let kids = within ts ((x - (off + 4)) / 4) in
      let end : p + s + (e - s) ≡ p + e = omega arith in
      let more : (b.stop - off) / 4 ≡ suc ((b.stop - off) / 4 - 1) = omega arith in
      let left : (b.stop - off) / 4 - 1 - nodes kids ≡ (b.stop - x) / 4 = omega (arith, w.size) in
      let all : nodes kids + (b.stop - x) / 4 ≡ (b.stop - off) / 4 - 1 = omega (arith, w.size) in
      rw (more, left) record {
        inner = record { known = k; starts = omega arith; inner = rw end w.inner; rest = rw end w.out.inner };
        size = ap suc (ap (λ y. nodes kids + y) w.out.size ∙ all);
        out = subst (λ y. Lies b.stop b.end outer (beyond (beyond ts ((x - (off + 4)) / 4)) y)) (sym left) w.out.out;
      }

  -- A part without a fault whose ranges are right: its trees are in order, and their words are the part's.
  record Read (off lo : ℕ) (outer : List Around) (ws : List ℕ) : Type 0 where
    lies : Lies off lo outer (unpack p off ws)
    spells : spelled p off (unpack p off ws) ≡ ws

  clear : (r off : ℕ) (next : ℕ × ℕ) → (elim r as (λ y. ℕ × ℕ) [ zero ↦ next | suc k ↦ (suc k, off) ]).0 ≡ 0 → (r ≡ 0) × (next.0 ≡ 0)
  clear zero off next h = (refl, h)
  clear (suc k) off next h = absurd (omega arith)

  record Step (off lo : ℕ) (outer : List Around) (i s e x : ℕ) (ws : List ℕ) : Type 0 where
    fine_here : Fine T n off (open_ends off (stops outer)) i s e x
    early : earliest off lo outer ≤ s
    nest : Nest x e (still off outer)
    entries_left : (entries_fault T n (off + 4) (x ∷ stops (still off outer)) ws).0 ≡ 0
    ranges_left : ranges_within l (off + 4) s (record { stop = x; end = e } ∷ still off outer) ws ≡ true

  step : (off lo : ℕ) (outer : List Around) (i s e x : ℕ) (ws : List ℕ) → Nest off lo outer
      → (entries_fault T n off (stops outer) (i ∷ s ∷ e ∷ x ∷ ws)).0 ≡ 0 → ranges_within l off lo outer (i ∷ s ∷ e ∷ x ∷ ws) ≡ true → Step off lo outer i s e x ws
  unfolding entries_fault ranges_within
  step off lo outer i s e x ws h c r =
      let outer' = still off outer in
      let around = open_ends off (stops outer) in
      let (c₀, c₁) = clear (entry_fault T n off around i s e x) off (entries_fault T n (off + 4) (x ∷ around) ws) c in
      let f = fine T n off around i s e x c₀ in
      let (r₀, r₁) = both (leb (earliest off lo outer) s) _ r in
      let (r₂, r₃) = both (leb e (bound l outer')) _ r₁ in
      let same = open_ends_stops off outer in
      record {
        fine_here = f;
        early = leb-true (earliest off lo outer) s r₀;
        nest = under_out off (earliest off lo outer) x e outer' f.fits (ap (past_enclosing x) (sym same) ∙ f.under) (leb-true e (bound l outer') r₂) (nest_still off lo outer h);
        entries_left = subst (λ y. (entries_fault T n (off + 4) (x ∷ y) ws).0 ≡ 0) same c₁;
        ranges_left = r₃;
      }

  spell_entry : (off i s e x : ℕ) (ts : Trees) (ws : List ℕ) → s ≤ e → off + 4 + 4 * nodes (within ts ((x - (off + 4)) / 4)) ≡ x → Entries ts → spelled p (off + 4) ts ≡ ws
      → spelled p off (tree (Some i) (p + s) (e - s) (within ts ((x - (off + 4)) / 4)) (beyond ts ((x - (off + 4)) / 4))) ≡ i ∷ s ∷ e ∷ x ∷ ws
  unfolding spelled id_word
  spell_entry off i s e x ts ws o d en q =
      let k = (x - (off + 4)) / 4 in
      let a : (p + s) - p ≡ s = omega arith in
      let b : ((p + s) + (e - s)) - p ≡ e = omega arith in
      let whole : spelled p (off + 4) (within ts k) ++ spelled p x (beyond ts k) ≡ ws =
      sym (ap (λ y. spelled p (off + 4) (within ts k) ++ spelled p y (beyond ts k)) d)
      ∙ (sym (spelled-⊕ p (off + 4) (within ts k) (beyond ts k) (entries_within ts k en)) ∙ (ap (spelled p (off + 4)) (within_beyond ts k) ∙ q)) in
      rw (a, b, d, whole)

  read_entry : (off lo : ℕ) (outer : List Around) (i s e x : ℕ) (ws : List ℕ) → off % 4 ≡ 0 → Nest off lo outer → Step off lo outer i s e x ws
      → Read (off + 4) s (record { stop = x; end = e } ∷ still off outer) ws → Read off lo outer (i ∷ s ∷ e ∷ x ∷ ws)
  unfolding unpack
  read_entry off lo outer i s e x ws z h st rest =
      let f = st.fine_here in
      let ts = unpack p (off + 4) ws in
      let d : off + 4 + 4 * nodes (within ts ((x - (off + 4)) / 4)) ≡ x = omega (arith, rest.lies.size, f.whole, f.after) in
      record {
        lies = lies_still off lo outer _ h
            (lies_entry off (earliest off lo outer) i s e x (still off outer) ts z f.known st.early f.ordered f.after f.whole st.nest rest.lies);
        spells = spell_entry off i s e x ts ws f.ordered d (entries_unpack p (off + 4) ws) rest.spells;
      }

  read_nil : (off lo : ℕ) (outer : List Around) → off ≡ n → Nest off lo outer → Read off lo outer []
  unfolding unpack spelled
  read_nil off lo outer q h = record { lies = lies_nil off lo outer q h; spells = refl }

  part_read : (ws : List ℕ) (off lo : ℕ) (outer : List Around) → n % 4 ≡ 0 → off % 4 ≡ 0 → off + length ws ≡ n → Nest off lo outer
      → (entries_fault T n off (stops outer) ws).0 ≡ 0 → ranges_within l off lo outer ws ≡ true → Read off lo outer ws
  part_read [] off lo outer m z q h c r = read_nil off lo outer (omega arith) h
  part_read (i ∷ []) off lo outer m z q h c r = absurd (omega arith)
  part_read (i ∷ s ∷ []) off lo outer m z q h c r = absurd (omega arith)
  part_read (i ∷ s ∷ e ∷ []) off lo outer m z q h c r = absurd (omega arith)
  part_read (i ∷ s ∷ e ∷ x ∷ ws) off lo outer m z q h c r =
      let st = step off lo outer i s e x ws h c r in
      let f = st.fine_here in
      read_entry off lo outer i s e x ws z h st
      (part_read ws (off + 4) s (record { stop = x; end = e } ∷ still off outer) m (omega arith) (omega arith)
      (record { low = f.ordered; room = f.after; whole = f.whole; out = st.nest }) st.entries_left st.ranges_left)

pub accepted_is : (o : Outcome) → is_accepted o ≡ true → (counts : List ℕ) × (o ≡ accepted counts)
accepted_is (accepted counts) h = (counts, refl)
accepted_is (refused number place) h = absurd (true≢false (sym h))

-- words below 65,536, one by one
pub short_of : (ws : List ℕ) → ((j : ℕ) → get_or ws j 0 < 65536) → Short ws
short_of [] f = tt
short_of (w ∷ ws) f = (f 0, short_of ws (λ j. f (suc j)))

-- a part of 16-bit words that keeps the rules
pub short_parts : (T p l : ℕ) (ws : List ℕ) → Short ws → part_kept T l ws ≡ true → Parts T p l ws
short_parts T p l ws w h =
    let (a, b) = both (is_accepted (part_check ws T)) _ (sym (kept_as_before T l ws) ∙ h) in
    let (counts, ok) = accepted_is (part_check ws T) a in
    let r = part_read T p l (length ws) ws 0 0 [] (part_whole ws T counts ok) refl (omega arith) (record { low = omega arith; room = omega arith }) (no_fault T ws counts ok) b in
    record { whole = r.spells; ranges = rw add-zero at r.lies; words = w }
