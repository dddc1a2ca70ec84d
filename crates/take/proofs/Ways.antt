-- Where the take loop begins, and what it has made when it ends. Assumes nothing.
use mathlib.Core.Path.{◌≡◌, refl, sym, ap, ◌∙◌}
use mathlib.Core.List.{List, [], ◌∷◌}
use Rattle.std.specs.Prelude.{Option, None}
use Prim.Native.Nat.{ℕ, ◌+◌, ◌-◌, ◌*◌, ◌/◌, ◌≤◌, ◌<◌}
use native.Mathlib.Omega.{arith}
use native.Mathlib.Nat.{le_refl}
use lib.ListN.{length, get_or}
use Rattle.records.specs.Forest.{Forest, empty, add, behind}
use Rattle.records.specs.Parse.{parse}
use Rattle.records.specs.Check.{Accepted}
use Rattle.tree.specs.Trees.{nil, ◌⊕◌}
use Rattle.tree.specs.Items.{Items, same, items}
use Rattle.tree.specs.Groups.{Gathered, fresh}
use Rattle.tree.specs.Build.{walk, first_level}
use Rattle.tree.proofs.ItemLaws.{fits_items, own_none}
use Rattle.tree.proofs.KeptLaws.{ends_fit}
use Rattle.tree.proofs.ListingLaws.{⊕-nil}
use Rattle.tree.proofs.WellLaws.{gathers_fresh}
use Rattle.cursor.specs.Spells.{Stands}
use Rattle.cursor.proofs.Spelled.{spells_none}
use Rattle.cursor.proofs.Start.{stands_accepted}
use Rattle.gathering.proofs.Due.{due_fresh}
use Rattle.scan.specs.Counted.{Counted}
use Rattle.scan.specs.declared.Memo.{Memo}
use Rattle.scan.proofs.Memory.{remembered_fresh}
use Rattle.take.specs.Going.{Outer, deep, own_under, settled, owed, Going}
use Rattle.take.specs.Loop.{all_gathered, TakenAll}
use Rattle.take.specs.declared.State.{State}
use Rattle.take.proofs.Deep.{fresh_holds}
use Rattle.tree.specs.Well.{Parts}

none_owed : owed [] ≡ 0
unfolding owed
none_owed = refl

none_deep : deep [] ≡ 0
unfolding deep
none_deep = refl

fresh_none : (e : ℕ) → (fresh e).groups ≡ nil
unfolding fresh
fresh_none e = refl

settled_none : (F b i s e : ℕ) (g : Gathered) → settled F b i s e [] g ≡ g
unfolding settled
settled_none F b i s e g = refl

module _ (T F b top S : ℕ) (w : List ℕ) (fits : S ≤ 4294967295) (a : Accepted T b top S w) where
  abbrev n : ℕ
  n = length w / 4

  -- where the last first-level record ends
  last_record : (f : Forest) → Stands F None w 0 n (items F None f Items.nil) → 0 < n → behind S f ≡ get_or w ((n - 1) * 4 + 2) 0
  unfolding items behind same
  last_record empty h m = absurd (omega (arith, h.spells))
  last_record (add before i s e kids) h m = sym h.spells.end

  pub behind_last : 0 < n → behind S (parse w) ≡ get_or w ((n - 1) * 4 + 2) 0
  behind_last m = last_record (parse w) (stands_accepted T F b top S w a) m

  no_record : (f : Forest) → Stands F None w 0 n (items F None f Items.nil) → n ≡ 0 → behind S f ≡ S
  unfolding items behind same
  no_record empty h m = refl
  no_record (add before i s e kids) h m = absurd (omega (arith, h.spells.room))

  pub behind_none : n ≡ 0 → behind S (parse w) ≡ S
  behind_none m = no_record (parse w) (stands_accepted T F b top S w a) m

  pub going_start : (l : List ℕ) (x : ℕ) (m : Memo) → length l ≡ 96 * n + 96 → Counted F w l n → x ≡ behind S (parse w) → n ≤ m.place
      → Going F T b w l (all_gathered F b S w) (record {
        p = n;
        depth = 0;
        low = 96 * n + 96;
        tree = record { id = 0; start = S; end = x; floor = 0 };
        children = record { top = 12 * n + 1; groups = 0; loose = 0; edge = x };
        memo = m;
      })
  unfolding all_gathered
  going_start l x m size counted x-is none_yet = rw x-is (record {
    stack = [];
    its = items F None (parse w) Items.nil;
    g = fresh (behind S (parse w));
    hi = behind S (parse w);
    base = 12 * n + 1;
    small = (ends_fit T F b S top None w fits a).1;
    types = a.types;
    bound = a.bound;
    few = a.few;
    depth_is = sym none_deep;
    shallow = omega arith;
    level = record {
      stands = stands_accepted T F b top S w a;
      fits = fits_items F T None (own_none F) (parse w) S (behind S (parse w)) S Items.nil (ends_fit T F b S top None w fits a).0 (le_refl S);
      gathers = gathers_fresh T (Parts T) (behind S (parse w));
      holds = fresh_holds l (12 * n + 1) (12 * n + 1) (96 * n + 96) (behind S (parse w));
      plain = λ q. fresh_none (behind S (parse w));
      remembered = remembered_fresh n (items F None (parse w) Items.nil) (behind S (parse w) - b) m none_yet;
    };
    frames = omega arith;
    value = rw none_deep (settled_none F b 0 S (behind S (parse w)) (walk F b (items F None (parse w) Items.nil) 0 0 None (fresh (behind S (parse w)))));
    room = omega (arith, none_owed, due_fresh None (behind S (parse w)));
    base_is = refl;
    above = omega arith;
    inside = omega (arith, size);
    fits = omega (arith, size, a.few);
    counted = counted;
  })

no_deep : (ks : List Outer) → deep ks ≡ 0 → ks ≡ []
unfolding deep
no_deep [] h = refl
no_deep (k ∷ ks) h = absurd (omega arith)

walk_none : (F b d : ℕ) (own : Option ℕ) (g : Gathered) → walk F b Items.nil d 0 own g ≡ g
unfolding walk
walk_none F b d own g = refl

first_is : (F b S : ℕ) (w : List ℕ) → first_level F b S (parse w) ≡ (all_gathered F b S w).loose ⊕ (all_gathered F b S w).groups
unfolding first_level all_gathered
first_is F b S w = refl

pub going_end : (F T b S : ℕ) (w l : List ℕ) (s : State) → Going F T b w l (all_gathered F b S w) s → s.depth ≡ 0 → s.p ≤ s.tree.floor
    → TakenAll F b S w l s.children.top s.low s.children.loose
going_end F T b S w l s go shallow ended =
    let k : go.stack ≡ [] = no_deep go.stack (omega (arith, go.depth_is)) in
    let i : go.its ≡ Items.nil = spells_none w s.tree.floor s.p go.its go.level.stands.spells ended in
    let own : own_under F go.stack s.tree.id ≡ None = ap (λ (x : List Outer). own_under F x s.tree.id) k in
    let groups : go.g.groups ≡ nil = go.level.plain own in
    let inner : walk F b go.its (deep go.stack) 0 (own_under F go.stack s.tree.id) go.g ≡ go.g
    = ap (λ (x : Items). walk F b x (deep go.stack) 0 (own_under F go.stack s.tree.id) go.g) i ∙ walk_none F b (deep go.stack) (own_under F go.stack s.tree.id) go.g in
    let all : settled F b s.tree.id s.tree.start s.tree.end go.stack go.g ≡ all_gathered F b S w = rw inner at go.value in
    let is : go.g ≡ all_gathered F b S w
    = sym (settled_none F b s.tree.id s.tree.start s.tree.end go.g) ∙ (ap (λ (x : List Outer). settled F b s.tree.id s.tree.start s.tree.end x go.g) (sym k) ∙ all) in
    let kids : go.g.loose ≡ first_level F b S (parse w)
    = sym (first_is F b S w ∙ (ap (λ (x : Gathered). x.loose ⊕ x.groups) (sym is) ∙ (ap (λ (x : _). go.g.loose ⊕ x) groups ∙ ⊕-nil go.g.loose))) in
    record {
      base = go.base;
      live = omega (arith, go.base_is);
      above = go.above;
      room = omega (arith, go.room);
      inside = go.inside;
      holds = rw kids at go.level.holds.loose_at;
    }
