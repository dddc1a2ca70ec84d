-- What each step of the take loop asks and leaves. Nothing here is needed to read what a call promises.
use Rattle.std.specs.Prelude.{◌≡◌, true, List, ℕ, suc, ◌+◌, ◌-◌, ◌≤◌, ◌<◌, Option, None}
use Rattle.words.specs.Words.{id_of}
use Rattle.tree.specs.Items.{Items, span, same, records}
use Rattle.tree.specs.Pack.{run_from}
use Rattle.tree.specs.Groups.{Gathered}
use Rattle.scan.specs.Walked.{Remembered}
use Rattle.scan.specs.declared.Memo.{Memo}
use Rattle.take.specs.Going.{own_under, Going}
use Rattle.take.specs.declared.Node.{Node}
use Rattle.take.specs.declared.State.{State}

-- the last record has the present tree's own id
pub record Passes (w l : List ℕ) (b : ℕ) (s : State) : Type 0 where
  pub F : ℕ
  pub T : ℕ
  pub whole : Gathered
  pub going : Going F T b w l whole s
  pub some_record : s.tree.floor < s.p
  pub alone : same (own_under F going.stack s.tree.id) (id_of w (s.p - 1)) ≡ true

pub record Passed (w l l' : List ℕ) (b : ℕ) (s r : State) : Type 0 where
  pub going : (q : Passes w l b s) → Going q.F q.T b w l' q.whole r
  pub less : r.p < s.p
  pub depth : r.depth ≡ s.depth

-- no record of the present tree is left, and a tree waits
pub record Closes (w l : List ℕ) (s : State) : Type 0 where
  pub F : ℕ
  pub T : ℕ
  pub b : ℕ
  pub whole : Gathered
  pub going : Going F T b w l whole s
  pub deeper : 0 < s.depth
  pub ended : s.p ≤ s.tree.floor

pub record Closed (w l l' : List ℕ) (s r : State) : Type 0 where
  pub going : (q : Closes w l s) → Going q.F q.T q.b w l' q.whole r
  pub same_place : r.p ≡ s.p
  pub depth : r.depth + 1 ≡ s.depth

-- The last record is no run: it becomes the tree `node`. The memo is that of the scan for it.
pub record Unpacked (F b : ℕ) (own : Option ℕ) (p : ℕ) (its : Items) (node : Node) (memo : Memo) : Type 0 where
  pub kids : Items
  pub rest : Items
  pub is : its ≡ span node.id node.start node.end kids rest
  pub unpacked : run_from F b own node.id node.start node.end kids rest ≡ None
  pub floor_is : node.floor ≡ p - suc (records kids)
  pub remembered : Remembered p (span node.id node.start node.end kids rest) (node.start - b) memo

-- such a tree, not too deep
pub record Opens (w l : List ℕ) (s : State) (node : Node) (memo : Memo) : Type 0 where
  pub F : ℕ
  pub T : ℕ
  pub b : ℕ
  pub whole : Gathered
  pub going : Going F T b w l whole s
  pub unpacked : Unpacked F b (own_under F going.stack s.tree.id) s.p going.its node memo
  pub shallow : s.depth ≤ 2500

pub record Opened (w l l' : List ℕ) (s : State) (node : Node) (memo : Memo) (r : State) : Type 0 where
  pub going : (q : Opens w l s node memo) → Going q.F q.T q.b w l' q.whole r
  pub less : r.p < s.p
  pub depth : r.depth ≡ s.depth + 1

-- such a tree, deeper than 2,500
pub record Deepens (F b : ℕ) (w l : List ℕ) (s : State) (node : Node) (memo : Memo) : Type 0 where
  pub T : ℕ
  pub whole : Gathered
  pub going : Going F T b w l whole s
  pub unpacked : Unpacked F b (own_under F going.stack s.tree.id) s.p going.its node memo
  pub too_deep_is : 2500 < s.depth

pub record Deepened (F b : ℕ) (w l l' : List ℕ) (s : State) (node : Node) (memo : Memo) (r : State) : Type 0 where
  pub going : (q : Deepens F b w l s node memo) → Going F q.T b w l' q.whole r
  pub less : r.p < s.p
  pub depth : r.depth ≡ s.depth
