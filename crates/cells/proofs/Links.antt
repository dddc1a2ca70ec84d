-- The open links in a slice. Assumes nothing.
use mathlib.Core.Path.{◌≡◌, refl, sym, ap, subst, ◌∙◌}
use mathlib.Core.Logic.{◌⊎◌, inl, inr, ⊎_elim}
use mathlib.Core.List.{List, [], ◌∷◌}
use Rattle.std.specs.Prelude.{Option}
use Prim.Native.Nat.{ℕ, ◌+◌, ◌-◌, ◌*◌, ◌≤◌, ◌<◌, min}
use native.Mathlib.Omega.{arith}
use native.Mathlib.Decide.{dec_lt}
use borrow.Author.Tests.{le-ltb, lt-ltb, eq-eqb, ne_eqb}
use lib.ListN.{length, get_or, set, length-set}
use lib.Seq.{get_or-set_same, get_or-set_other}
use Rattle.rules.specs.Lowest.{Named}
use Rattle.cells.specs.Open.{put4, width, Held, Under, Rising, Names, Clash, Stack, lowered, Over, Put, due}

module _ (held : List ℕ) (t limit x : ℕ) where
  abbrev m₀ : ℕ
  m₀ = get_or held ((t - 1) * 4) 0

  low_none : t ≡ 0 → limit ≡ lowered held t limit x
  unfolding lowered
  low_none h = rw (eq-eqb t 0 h)

  low_under : (t ≡ 0 → ⊥) → x < m₀ → limit ≡ lowered held t limit x
  unfolding lowered
  low_under h a = rw (ne_eqb t 0 h, lt-ltb x m₀ a)

  low_min : (t ≡ 0 → ⊥) → m₀ ≤ x → min limit m₀ ≡ lowered held t limit x
  unfolding lowered
  low_min h a = rw (ne_eqb t 0 h, le-ltb x m₀ a)

under_less : (limit limit' x : ℕ) (ds : List Named) → limit' ≤ limit → Under limit x ds → Under limit' x ds
under_less limit limit' x [] h u = tt
under_less limit limit' x (d ∷ ds) h u = ⊎_elim (λ a. inl a) (λ b. inr (omega arith)) u

rising_less : (limit limit' : ℕ) (ds : List Named) → limit' ≤ limit → Rising limit ds → Rising limit' ds
rising_less limit limit' [] h r = tt
rising_less limit limit' (d ∷ ds) h r = record { under = under_less limit limit' d.cell ds h r.under; older = rising_less limit limit' ds h r.older }

-- what the new limit says of a link to x on the links ds
record Lowers (limit limit' x : ℕ) (ds : List Named) : Type 0 where
  less : limit' ≤ limit
  under : Under limit' x ds
  clash : (limit' ≡ limit) ⊎ ((limit' ≤ x) × Names limit' ds)
  above : (c : ℕ) → Over c ds → c < limit → c < limit'

lowers : (held : List ℕ) (limit x : ℕ) (ds : List Named) → Held held ds → Lowers limit (lowered held (length ds) limit x) x ds
lowers held limit x [] h =
    let e = low_none held 0 limit x refl in
    record { less = omega (arith, e); under = tt; clash = inl (sym e); above = λ c o l. omega (arith, e) }
lowers held limit x (d ∷ ds) h = go (dec_lt x d.cell) (dec_lt d.cell limit)
  where
    ne : length (d ∷ ds) ≡ 0 → ⊥
    ne e = omega arith

    m : get_or held ((length (d ∷ ds) - 1) * 4) 0 ≡ d.cell
    m =
        let e : length (d ∷ ds) - 1 ≡ length ds = omega arith in
        ap (λ y. get_or held (y * 4) 0) e ∙ h.cell_is

    go : Dec (x < d.cell) → Dec (d.cell < limit) → Lowers limit (lowered held (length (d ∷ ds)) limit x) x (d ∷ ds)
    go (yes a) b =
        let e = low_under held (length (d ∷ ds)) limit x ne (omega (arith, m)) in
        record { less = omega (arith, e); under = inl a; clash = inl (sym e); above = λ c o l. omega (arith, e) }
    go (no a) (yes b) =
        let e = low_min held (length (d ∷ ds)) limit x ne (omega (arith, m)) in
        let here : lowered held (length (d ∷ ds)) limit x ≡ d.cell = omega (arith, e, m) in
        record { less = omega (arith, here); under = inr (omega (arith, here)); clash = inr (omega (arith, here), inl (sym here)); above = λ c o l. omega (arith, here, o.0) }
    go (no a) (no b) =
        let e = low_min held (length (d ∷ ds)) limit x ne (omega (arith, m)) in
        let kept : lowered held (length (d ∷ ds)) limit x ≡ limit = omega (arith, e, m) in
        record { less = omega (arith, kept); under = inr (omega (arith, kept)); clash = inl kept; above = λ c o l. omega (arith, kept) }

-- a store past the links keeps them
held_set : (held : List ℕ) (j v : ℕ) (ds : List Named) → length ds * 4 ≤ j → Held held ds → Held (set held j v) ds
held_set held j v [] h k = tt
held_set held j v (d ∷ ds) h k = record {
  cell_is = get_or-set_other held j (length ds * 4) v 0 (λ e. omega arith) ∙ k.cell_is;
  after_is = get_or-set_other held j (length ds * 4 + 1) v 0 (λ e. omega arith) ∙ k.after_is;
  within_is = get_or-set_other held j (length ds * 4 + 2) v 0 (λ e. omega arith) ∙ k.within_is;
  base_is = get_or-set_other held j (length ds * 4 + 3) v 0 (λ e. omega arith) ∙ k.base_is;
  older = held_set held j v ds (omega arith) k.older;
}

-- a new link
held_put : (held : List ℕ) (d : Named) (ds : List Named) (v : ℕ) → length ds * 4 + 4 ≤ length held → v ≡ width d.within → Held held ds
    → Held (put4 held (length ds * 4) d.cell d.after v d.base) (d ∷ ds)
held_put held d ds v room e h =
    let p = length ds * 4 in
    let w₁ = set held p d.cell in
    let w₂ = set w₁ (p + 1) d.after in
    let w₃ = set w₂ (p + 2) v in
    let l₁ : length w₁ ≡ length held = length-set held p d.cell in
    let l₂ : length w₂ ≡ length held = length-set w₁ (p + 1) d.after ∙ l₁ in
    let l₃ : length w₃ ≡ length held = length-set w₂ (p + 2) v ∙ l₂ in
    record {
      cell_is = get_or-set_other w₃ (p + 3) p d.base 0 (λ q. omega arith) ∙ (get_or-set_other w₂ (p + 2) p v 0 (λ q. omega arith) ∙ (get_or-set_other w₁ (p + 1) p d.after 0 (λ q. omega arith) ∙ get_or-set_same held p d.cell 0 (omega arith)));
      after_is = get_or-set_other w₃ (p + 3) (p + 1) d.base 0 (λ q. omega arith) ∙ (get_or-set_other w₂ (p + 2) (p + 1) v 0 (λ q. omega arith) ∙ get_or-set_same w₁ (p + 1) d.after 0 (omega (arith, l₁)));
      within_is = get_or-set_other w₃ (p + 3) (p + 2) d.base 0 (λ q. omega arith) ∙ (get_or-set_same w₂ (p + 2) v 0 (omega (arith, l₂)) ∙ e);
      base_is = get_or-set_same w₃ (p + 3) d.base 0 (omega (arith, l₃));
      older = held_set w₃ (p + 3) d.base ds (omega arith) (held_set w₂ (p + 2) v ds (omega arith) (held_set w₁ (p + 1) d.after ds (omega arith) (held_set held p d.cell ds (omega arith) h)));
    }

due_none : (x after : ℕ) (o : Option ℕ) (base : ℕ) (ds : List Named) → x ≡ 0 → due x after o base ds ≡ ds
unfolding due
due_none x after o base ds h = rw (eq-eqb x 0 h, due)

due_some : (x after : ℕ) (o : Option ℕ) (base : ℕ) (ds : List Named) → (x ≡ 0 → ⊥) → due x after o base ds ≡ record { cell = x; after = after; within = o; base = base } ∷ ds
unfolding due
due_some x after o base ds h = rw (ne_eqb x 0 h, due)

pub put_none : (held : List ℕ) (t limit x after within base : ℕ) → x ≡ 0 → Put held held t limit t limit x after within base
put_none held t limit x after within base h = record {
  stack = λ n ds o e s. subst (Stack held n t limit) (sym (due_none x after o base ds h)) s;
  above = λ n c ds s o l. l;
  most = omega arith;
}

pub put_some : (held : List ℕ) (t limit x after within base low : ℕ) → (x ≡ 0 → ⊥) → t * 4 + 4 ≤ length held → low ≡ lowered held t limit x
    → Put held (put4 held (t * 4) x after within base) t limit (t + 1) low x after within base
put_some held t limit x after within base low ne room q = record {
  stack = λ n ds o e s.
      let d : Named = record { cell = x; after = after; within = o; base = base } in
      let size = s.size in
      let r : length ds * 4 + 4 ≤ length held = omega (arith, size) in
      let low_is : lowered held (length ds) limit x ≡ low = ap (λ y. lowered held y limit x) (sym size) ∙ sym q in
      let l = subst (λ y. Lowers limit y x ds) low_is (lowers held limit x ds s.held_are) in
      subst (Stack (put4 held (t * 4) x after within base) n (t + 1) low) (sym (due_some x after o base ds ne)) (record {
        size = omega (arith, size);
        held_are = subst (λ y. Held (put4 held (y * 4) x after within base) (d ∷ ds)) (sym size) (held_put held d ds within r (sym e) s.held_are);
        rising = record { under = l.under; older = rising_less limit low ds l.less s.rising };
        most = omega (arith, l.less, s.most);
        clash = λ k. ⊎_elim (λ a. inr (subst (λ y. Clash y ds) (sym a) (s.clash (omega (arith, a))))) (λ b. inl (b.0, b.1)) l.clash;
      });
  above = λ n c ds s o k.
      let low_is : lowered held (length ds) limit x ≡ low = ap (λ y. lowered held y limit x) (sym s.size) ∙ sym q in
      (subst (λ y. Lowers limit y x ds) low_is (lowers held limit x ds s.held_are)).above c o k;
  most = omega arith;
}
