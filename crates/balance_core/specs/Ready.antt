-- What balancing asks of a store and leaves in it. Only internal functions cite these.
use Rattle.std.specs.Prelude.{◌≡◌, List, Bool, true, false, cond, ℕ, suc, ◌+◌, ◌*◌, ◌≤◌, ◌<◌, eqb, length}
use Rattle.std.specs.Prelude.{Option}
use Rattle.tree.specs.Trees.{Trees, ◌⊕◌, siblings}
use Rattle.tree.specs.Cells.{id_word}
use Rattle.tree.specs.Balance.{SetType, in_set, total, share, divide, joined, balance}
use Rattle.store.specs.Store.{Holds, Same, typed, stored_kind, node_width, node_start, node_length, node_next}
use Rattle.balance_core.specs.Rows.{Ends}

-- one tree, whose later siblings do not count, and a list to stand before
pub record CopyReady (w : List ℕ) (top node next : ℕ) : Type 0 where
  pub none_first : Bool
  pub base : ℕ
  pub low : ℕ
  pub first : Trees
  pub tail : Trees
  pub rest : Trees
  pub live : 0 < base
  pub above : base ≤ top
  pub room : top + node_width ≤ low
  pub inside : low ≤ length w
  pub fits : low ≤ 4294967295
  pub one : siblings first ≡ 1
  pub holds : Holds none_first w base top low node (first ⊕ tail)
  pub onto : Holds none_first w base top low next rest

-- the tree stands again, before that list
pub record Copied (w w' : List ℕ) (top node next rtop rnode : ℕ) : Type 0 where
  pub top_is : rtop ≡ top + node_width
  pub kept : Same w w' 0 top (top + node_width)
  pub holds : (p : CopyReady w top node next) → Holds p.none_first w' p.base (top + node_width) p.low rnode (p.first ⊕ p.rest)

-- is a list one tree of this type, start and length, by what its node tells?
abbrev pub alone : (w : List ℕ) (n kind id start length : ℕ) → Bool
alone w n k i s l =
    cond (eqb n 0) false
    (cond (eqb (node_next w n) 0)
    (cond (typed w n k i)
    (cond (eqb s (node_start w n))
    (cond (eqb l (node_length w n)) true false) false) false) false)

-- children `ts` to be put under a tree, and a list to stand before
pub record JoinReady (w : List ℕ) (top node kd i next : ℕ) : Type 0 where
  pub base : ℕ
  pub low : ℕ
  pub type : SetType
  pub ts : Trees
  pub rest : Trees
  pub live : 0 < base
  pub above : base ≤ top
  pub room : top + node_width ≤ low
  pub inside : low ≤ length w
  pub fits : low ≤ 4294967295
  pub kind_is : kd ≡ stored_kind type
  pub id_is : i ≡ id_word type.type
  pub holds : Holds type.none_first w base top low node ts
  pub onto : Holds type.none_first w base top low next rest

-- the tree, or the one child that equals it, stands before that list
pub record Joined (w w' : List ℕ) (top node kd i s l next rtop rnode : ℕ) : Type 0 where
  pub top_is : rtop ≡ top + node_width
  pub kept : Same w w' 0 top (top + node_width)
  pub holds : (p : JoinReady w top node kd i next) → Holds p.type.none_first w' p.base (top + node_width) p.low rnode (joined p.type s l p.ts ⊕ p.rest)

-- k siblings to be divided under the share m, of this size, and a list to stand before. Nodes are added from `top` up,
-- groups wait below `stack`: 24 words for each unit of size are free between the two.
pub record DivideReady (w : List ℕ) (top stack node k kd i m size next : ℕ) : Type 0 where
  pub base : ℕ
  pub low : ℕ
  pub type : SetType
  pub us : Trees
  pub tail : Trees
  pub rest : Trees
  pub live : 0 < base
  pub above : base ≤ top
  pub room : top + 24 * size ≤ stack
  pub under : stack ≤ low
  pub inside : low ≤ length w
  pub fits : low ≤ 4294967295
  pub kind_is : kd ≡ stored_kind type
  pub id_is : i ≡ id_word type.type
  pub holds : Holds type.none_first w base top low node (us ⊕ tail)
  pub onto : Holds type.none_first w base top low next rest
  pub counted : siblings us ≡ k
  pub some : 1 ≤ k
  pub size_is : total type us ≡ size
  pub few : size < 4294967295
  pub ends : Ends us
  pub share_is : m ≡ share size

-- the divided siblings stand before the list; words below the old top and from `stack` on are as they were
pub record Divided (w w' : List ℕ) (top stack node k kd i m size next rtop rnode : ℕ) : Type 0 where
  pub grown : top ≤ rtop
  pub kept : Same w w' 0 top stack
  pub used : rtop + node_width ≤ top + 20 * size
  pub used_many : 2 ≤ k → rtop + 20 ≤ top + 20 * size
  pub holds : (p : DivideReady w top stack node k kd i m size next)
      → Holds p.type.none_first w' p.base rtop p.low rnode (divide (suc (total p.type p.us)) p.type m p.us ⊕ p.rest)

-- siblings to be balanced under a tree of the type `own`
pub record BalanceReady (w : List ℕ) (top stack node k kd i okd oi size next : ℕ) : Type 0 where
  pub own : Option ℕ
  pub row : DivideReady w top stack node k kd i (share size) size next
  pub own_kind : okd ≡ stored_kind (in_set row.type.none_first own)
  pub own_id : oi ≡ id_word own

-- the balanced tree stands before the list
pub record Balanced (w w' : List ℕ) (top stack node k kd i okd oi s l size next rtop rnode : ℕ) : Type 0 where
  pub grown : top ≤ rtop
  pub kept : Same w w' 0 top stack
  pub used : rtop ≤ top + 20 * size
  pub used_many : 2 ≤ k → rtop + node_width ≤ top + 20 * size
  pub holds : (p : BalanceReady w top stack node k kd i okd oi size next)
      → Holds p.row.type.none_first w' p.row.base rtop p.row.low rnode (balance (in_set p.row.type.none_first p.own) p.row.type s l p.row.us ⊕ p.row.rest)
