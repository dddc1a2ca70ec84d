-- What a tree has gathered, in a store; what passing over a record and finishing a tree ask of it and leave in it. Nothing here is needed to read what a call
-- promises.
use Rattle.std.specs.Prelude.{◌≡◌, false, List, ℕ, ◌+◌, ◌-◌, ◌*◌, ◌≤◌, ◌<◌, length}
use Rattle.std.specs.Prelude.{Option, Some}
use Rattle.tree.specs.Trees.{Trees, nil, ◌⊕◌, is_nil}
use Rattle.tree.specs.Items.{repeats}
use Rattle.tree.specs.Groups.{Gathered, close, pass, rest_closed, finish}
use Rattle.tree.specs.Balance.{in_set, total, balance}
use Rattle.store.specs.Store.{Holds, Same, node_width}
use Rattle.balance_core.specs.Rows.{Ends}
use Rattle.tree.specs.Well.{own_total, Parts, Gathers}

-- what a tree has gathered: the addresses of its two lists, and the last group end
pub record HoldsGathered (w : List ℕ) (base top low groups loose edge : ℕ) (g : Gathered) : Type 0 where
  pub groups_at : Holds false w base top low groups g.groups
  pub loose_at : Holds false w base top low loose g.loose
  pub edge_is : g.edge ≡ edge

-- the loose children became a group
pub record Closed (w w' : List ℕ) (top i s groups loose edge rtop rgroups rloose redge : ℕ) : Type 0 where
  pub top_is : rtop ≡ top + node_width
  pub kept : Same w w' 0 top (top + node_width)
  pub holds : (base low : ℕ) (g : Gathered) → 0 < base → base ≤ top → top + node_width ≤ low → HoldsGathered w base top low groups loose edge g
      → HoldsGathered w' base (top + node_width) low rgroups rloose redge (close i s g)

-- the balanced size that what is gathered may come to under the repeat id `own`, but for a last group
unfoldable pub due : (own : Option ℕ) → Gathered → ℕ
due own g = own_total (in_set false own) g.loose + total (in_set false own) g.groups

-- a record of the tree's own id i that ends at e was passed over
pub record PassedOver (w w' : List ℕ) (top i e b groups loose edge rtop rgroups rloose redge : ℕ) : Type 0 where
  pub grown : top ≤ rtop
  pub few : rtop ≤ top + node_width
  pub kept : Same w w' 0 top (top + node_width)
  pub holds : (base low : ℕ) (g : Gathered) → 0 < base → base ≤ top → top + node_width ≤ low → HoldsGathered w base top low groups loose edge g
      → HoldsGathered w' base rtop low rgroups rloose redge (pass b i e g)

-- the children left over became a group from the tree's start s
pub record RestClosed (w w' : List ℕ) (top i s groups loose edge rtop rgroups rloose redge : ℕ) : Type 0 where
  pub grown : top ≤ rtop
  pub few : rtop ≤ top + node_width
  pub kept : Same w w' 0 top (top + node_width)
  pub holds : (base low : ℕ) (g : Gathered) → 0 < base → base ≤ top → top + node_width ≤ low → HoldsGathered w base top low groups loose edge g
      → HoldsGathered w' base rtop low rgroups rloose redge (rest_closed i s g)

-- groups of the id to be balanced under a tree from s to e, and a list to stand before
pub record GroupsReady (w : List ℕ) (stack top i s e groups next : ℕ) : Type 0 where
  pub base : ℕ
  pub low : ℕ
  pub us : Trees
  pub rest : Trees
  pub live : 0 < base
  pub above : base ≤ top
  pub under : stack ≤ low
  pub inside : low ≤ length w
  pub fits : low ≤ 4294967295
  pub holds : Holds false w base top low groups us
  pub onto : Holds false w base top low next rest
  pub some_group : is_nil us ≡ false
  pub ends : Ends us
  pub room : top + 24 * total (in_set false (Some i)) us ≤ stack

-- the balanced tree stands before that list
pub record GroupsBalanced (w w' : List ℕ) (stack top i s e groups next rtop rnode : ℕ) : Type 0 where
  pub grown : top ≤ rtop
  pub kept : Same w w' 0 top stack
  pub used : (p : GroupsReady w stack top i s e groups next) → rtop ≤ top + 20 * total (in_set false (Some i)) p.us
  pub holds : (p : GroupsReady w stack top i s e groups next)
      → Holds false w' p.base rtop p.low rnode (balance (in_set false (Some i)) (in_set false (Some i)) s (e - s) p.us ⊕ p.rest)

-- what the tree of a record of id i from s to e has gathered, and a list to stand before: 24 words for each unit that is due
-- and 34 more are free between `top` and `stack`
pub record FinishReady (w : List ℕ) (stack top i s e groups loose edge next : ℕ) : Type 0 where
  pub F : ℕ
  pub T : ℕ
  pub base : ℕ
  pub low : ℕ
  pub g : Gathered
  pub rest : Trees
  pub live : 0 < base
  pub above : base ≤ top
  pub under : stack ≤ low
  pub inside : low ≤ length w
  pub fits : low ≤ 4294967295
  pub holds : HoldsGathered w base top low groups loose edge g
  pub onto : Holds false w base top low next rest
  pub plain : i < F → g.groups ≡ nil
  pub known : i < T
  pub last : e ≤ 4294967295
  pub gathers : Gathers T (Parts T) s e g
  pub room : top + 24 * due (repeats F i) g + 34 ≤ stack

-- the tree stands before that list
pub record Finished (w w' : List ℕ) (stack top i s e groups loose edge next rtop rnode : ℕ) : Type 0 where
  pub grown : top ≤ rtop
  pub kept : Same w w' 0 top stack
  pub used : (p : FinishReady w stack top i s e groups loose edge next) → rtop ≤ top + 24 * due (repeats p.F i) p.g + 34
  pub holds : (p : FinishReady w stack top i s e groups loose edge next)
      → Holds false w' p.base rtop p.low rnode (finish p.F i s e p.g ⊕ p.rest)
