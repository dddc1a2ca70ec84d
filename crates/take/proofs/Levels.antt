-- Open trees stay open where the words that hold them stay. Assumes nothing.
use mathlib.Core.Path.{◌≡◌, ◌∙◌}
use mathlib.Core.List.{List, [], ◌∷◌}
use Rattle.std.specs.Prelude.{Option}
use Prim.Native.Nat.{ℕ, ◌+◌, ◌≤◌, ◌<◌}
use native.Mathlib.Omega.{arith}
use lib.ListN.{length, get_or}
use Rattle.tree.specs.Items.{Items}
use Rattle.tree.specs.Groups.{Gathered}
use Rattle.store.specs.Store.{Same}
use Rattle.gathering.proofs.Holding.{gathered_frame}
use Rattle.scan.specs.Counted.{Counted}
use Rattle.scan.specs.declared.Memo.{Memo}
use Rattle.take.specs.Going.{Outer, Level, Frames, memo_at}

module _ (l l' : List ℕ) (base top low top' low' : ℕ) (up : top ≤ top') (down : low' ≤ low) (same : Same l l' base top low) where
  module _ (F T b : ℕ) (w : List ℕ) where
    pub level_stays : (own : Option ℕ) (lo p : ℕ) (its : Items) (g : Gathered) (groups loose edge from reach hi end : ℕ) (memo : Memo)
        → Level F T b w l base top low own lo p its g groups loose edge from reach hi end memo
        → Level F T b w l' base top' low' own lo p its g groups loose edge from reach hi end memo
    level_stays own lo p its g groups loose edge from reach hi end memo h = record {
      stands = h.stands;
      fits = h.fits;
      gathers = h.gathers;
      holds = gathered_frame l l' base top low top' low' up down same groups loose edge g h.holds;
      plain = h.plain;
      remembered = h.remembered;
    }

    pub frames_stay : (bottom at i s e floor : ℕ) (ks : List Outer) → ((j : ℕ) → j < at → get_or l' j 0 ≡ get_or l j 0)
        → Frames F T b w l bottom base top low at i s e floor ks → Frames F T b w l' bottom base top' low' at i s e floor ks
    frames_stay bottom at i s e floor [] kept h = h
    frames_stay bottom at i s e floor (k ∷ ks) kept h =
        let u = h.under in
        let word : (j : ℕ) → j < 11 → get_or l' (u + j) 0 ≡ get_or l (u + j) 0 = λ j m. kept (u + j) (omega (arith, h.at_is)) in
        let word₀ : get_or l' u 0 ≡ get_or l u 0 = kept u (omega (arith, h.at_is)) in
        let below = frames_stay bottom u k.id k.start k.end (get_or l (u + 3) 0) ks (λ j m. kept j (omega (arith, h.at_is))) h.below in
        let level = level_stays k.own (get_or l (u + 3) 0) floor k.its k.g (get_or l (u + 4) 0) (get_or l (u + 5) 0) (get_or l (u + 6) 0) k.start s h.hi k.end (memo_at l (u + 7)) h.level in
        let m₇ : get_or l' (u + 7) 0 ≡ get_or l (u + 7) 0 = word 7 (omega arith) in
        let m₈ : get_or l' (u + 7 + 1) 0 ≡ get_or l (u + 7 + 1) 0 = kept (u + 7 + 1) (omega (arith, h.at_is)) in
        let m₉ : get_or l' (u + 7 + 2) 0 ≡ get_or l (u + 7 + 2) 0 = kept (u + 7 + 2) (omega (arith, h.at_is)) in
        let m₁₀ : get_or l' (u + 7 + 3) 0 ≡ get_or l (u + 7 + 3) 0 = kept (u + 7 + 3) (omega (arith, h.at_is)) in
        record {
          under = u;
          hi = h.hi;
          at_is = h.at_is;
          id_is = word₀ ∙ h.id_is;
          start_is = word 1 (omega arith) ∙ h.start_is;
          end_is = word 2 (omega arith) ∙ h.end_is;
          own_is = h.own_is;
          other = h.other;
          known = h.known;
          ordered = h.ordered;
          ends = h.ends;
          small = h.small;
          level = rw (word 3 (omega arith), word 4 (omega arith), word 5 (omega arith), word 6 (omega arith), m₇, m₈, m₉, m₁₀) level;
          below = rw (word 3 (omega arith)) below;
        }

-- so do the counts
pub counted_stays : (F : ℕ) (w l l' : List ℕ) (n : ℕ) → length l' ≡ length l → ((j : ℕ) → j ≤ n → get_or l' j 0 ≡ get_or l j 0) → Counted F w l n → Counted F w l' n
counted_stays F w l l' n size kept h = record { room = omega (arith, size, h.room); count = λ k m. kept k m ∙ h.count k m }
