-- Groups that wait to be placed: four words each in the work slice, the last one lowest. Only internal functions cite these.
use Rattle.std.specs.Prelude.{◌≡◌, List, [], ◌∷◌, ℕ, ◌+◌, ◌*◌, ◌≤◌, ◌<◌, length, get_or}
use Rattle.tree.specs.Trees.{Trees, ◌⊕◌, siblings, last_end}
use Rattle.tree.specs.Cells.{id_word}
use Rattle.tree.specs.Balance.{SetType, total, groups}
use Rattle.store.specs.Store.{Holds, Same, stored_kind}
use Rattle.balance_core.specs.Rows.{Ends}

-- a group's four words: its first node, how many trees, their size, their end
pub record GroupAt (w : List ℕ) (at node count size end : ℕ) : Type 0 where
  pub node_is : node ≡ get_or w at 0
  pub count_is : count ≡ get_or w (at + 1) 0
  pub size_is : size ≡ get_or w (at + 2) 0
  pub end_is : end ≡ get_or w (at + 3) 0

-- The groups `gs` under the share m wait from `sp` up to `bottom`, the first of the list at `sp`.
abbrev pub Pending : (w : List ℕ) (base top low : ℕ) (t : SetType) (m sp bottom : ℕ) → List Trees → Type 0
Pending w base top low t m sp bottom [] = sp ≡ bottom
Pending w base top low t m sp bottom (g ∷ gs) =
    record {
      deep : sp + 4 ≤ bottom;
      tail : Trees;
      holds : Holds t.none_first w base top low (get_or w sp 0) (g ⊕ tail);
      counted : siblings g ≡ get_or w (sp + 1) 0;
      sized : total t g ≡ get_or w (sp + 2) 0;
      ended : last_end 0 g ≡ get_or w (sp + 3) 0;
      some : 1 ≤ siblings g;
      small : 2 ≤ siblings g → total t g < m;
      ends : Ends g;
      below : Pending w base top low t m (sp + 4) bottom gs;
    }

-- groups put one after the other onto those that wait: the last one comes first
unfoldable pub stacked : (gs below : List Trees) → List Trees
stacked [] below = below
stacked (g ∷ gs) below = stacked gs (g ∷ below)

-- A row of k siblings whose groups are to wait below the place `stack`: four words for each unit of size are free.
pub record PushReady (w : List ℕ) (stack node k kd i m : ℕ) : Type 0 where
  pub base : ℕ
  pub top : ℕ
  pub low : ℕ
  pub bottom : ℕ
  pub type : SetType
  pub us : Trees
  pub tail : Trees
  pub below : List Trees
  pub room : top + 4 * total type us ≤ stack
  pub under : bottom ≤ low
  pub inside : low ≤ length w
  pub holds : Holds type.none_first w base top low node (us ⊕ tail)
  pub counted : siblings us ≡ k
  pub kind_is : kd ≡ stored_kind type
  pub id_is : i ≡ id_word type.type
  pub few : total type us < 4294967295
  pub ends : Ends us
  pub pending : Pending w base top low type m stack bottom below

-- the row's groups wait from r on, before those that waited
pub record Pushed (w w' : List ℕ) (stack node k kd i m r : ℕ) : Type 0 where
  pub kept : Same w w' 0 r stack
  pub above : (p : PushReady w stack node k kd i m) → p.top ≤ r
  pub waits : (p : PushReady w stack node k kd i m)
      → Pending w' p.base p.top p.low p.type m r p.bottom (stacked (groups p.type m p.us) p.below)
