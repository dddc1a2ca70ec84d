-- What taking a record asks and leaves. Nothing here is needed to read what a call promises.
use Rattle.std.specs.Prelude.{◌≡◌, false, List, ℕ, ◌+◌, ◌-◌, ◌/◌, ◌≤◌, ◌<◌, length, Option}
use Rattle.words.specs.Words.{id_of, start_of, end_of, last_of, record_width}
use Rattle.tree.specs.Items.{same}
use Rattle.tree.specs.Groups.{Gathered}
use Rattle.store.specs.Store.{Readable, PushedPart, node_width}
use Rattle.pack.specs.declared.Part.{Part}
use Rattle.scan.specs.declared.Memo.{Memo}
use Rattle.take.specs.Going.{own_under, Going}
use Rattle.take.specs.Steps.{Unpacked}
use Rattle.take.specs.declared.BuiltNode.{BuiltNode}
use Rattle.take.specs.declared.PendingNode.{PendingNode}
use Rattle.take.specs.declared.StartedNode.{StartedNode}
use Rattle.take.specs.declared.StartedNode.TheVariants.{Built, Pending}
use Rattle.take.specs.declared.State.{State}

-- a part's words stand from `from` up to `low`, and there is room for its node
pub record PartReady (l : List ℕ) (top low loose from : ℕ) : Type 0 where
  pub below : from ≤ low
  pub small : low ≤ 4294967295
  pub room : top + node_width ≤ length l
  pub readable : Readable l loose

pub record PartBuilt (l l' : List ℕ) (s : State) (x : Part) (r : BuiltNode) : Type 0 where
  pub p_is : r.p ≡ x.p
  pub low_is : r.low ≡ x.low
  pub pushed : PushedPart l l' s.children.top x.start x.length x.low (s.low - x.low) s.children.loose r.node

-- the last record as a tree
abbrev pub pending : (w : List ℕ) (p : ℕ) (memo : Memo) → PendingNode
pending w p memo = record {
  node = record { id = id_of w (p - 1); start = start_of w (p - 1); end = end_of w (p - 1); floor = p - last_of w (p - 1) / record_width };
  memo = memo;
}

-- a record is left, and has not the present tree's own id
pub record Starts (F b : ℕ) (own : Option ℕ) (w l : List ℕ) (s : State) : Type 0 where
  pub T : ℕ
  pub whole : Gathered
  pub going : Going F T b w l whole s
  pub some_record : s.tree.floor < s.p
  pub own_is : own ≡ own_under F going.stack s.tree.id
  pub other : same own (id_of w (s.p - 1)) ≡ false

-- A part stands in front of the present tree's children; or nothing is changed, and the record becomes a tree.
abbrev pub Started : (F b : ℕ) (own : Option ℕ) (w l l' : List ℕ) (s : State) (q : Starts F b own w l s) → StartedNode → Type 0
Started F b own w l l' s q (Built x) = record {
  less : x.p < s.p;
  going : (m : Memo) → x.p ≤ m.place → Going F q.T b w l' q.whole (record {
    p = x.p;
    depth = s.depth;
    low = x.low;
    tree = s.tree;
    children = record { top = s.children.top + node_width; groups = s.children.groups; loose = x.node; edge = s.children.edge };
    memo = m;
  });
}
Started F b own w l l' s q (Pending x) = (l' ≡ l) × Unpacked F b (own_under F q.going.stack s.tree.id) s.p q.going.its x.node x.memo
