-- What the take loop asks, keeps and leaves. Nothing here is needed to read what a call promises.
use Rattle.std.specs.Prelude.{◌≡◌, Bool, false, List, ℕ, zero, suc, ◌+◌, ◌*◌, ◌/◌, ◌≤◌, ◌<◌, leb, length, Option, None}
use Rattle.words.specs.Words.{record_width}
use Rattle.records.specs.Forest.{behind}
use Rattle.records.specs.Parse.{parse}
use Rattle.tree.specs.Items.{Items, items, repeats}
use Rattle.tree.specs.Groups.{Gathered, fresh}
use Rattle.tree.specs.Build.{walk, first_level}
use Rattle.store.specs.Store.{Holds, node_width}
use Rattle.scan.specs.declared.Memo.{Memo}
use Rattle.take.specs.Going.{Going}
use Rattle.take.specs.Starting.{Starts}
use Rattle.take.specs.declared.BuiltNode.{BuiltNode}
use Rattle.take.specs.declared.State.{State}

-- what the children of a tree of id i at this depth stand under
abbrev pub own_at : (F depth i : ℕ) → Option ℕ
own_at F zero i = None
own_at F (suc d) i = repeats F i

-- the state with a part in front of the children, and no memo
pub record WithPart (s : State) (x : BuiltNode) (r : State) : Type 0 where
  pub m : Memo
  pub fresh : x.p ≤ m.place
  pub is : r ≡ record {
    p = x.p;
    depth = s.depth;
    low = x.low;
    tree = s.tree;
    children = record { top = s.children.top + node_width; groups = s.children.groups; loose = x.node; edge = s.children.edge };
    memo = m;
  }

-- a step goes on to the same end, with fewer records or trees left
pub record TookRecord (F b : ℕ) (own : Option ℕ) (w l l' : List ℕ) (s r : State) : Type 0 where
  pub going : (q : Starts F b own w l s) → Going F q.T b w l' q.whole r
  pub less : 2 * r.p + r.depth < 2 * s.p + s.depth

-- a record is left, or a tree waits
pub record Unfinished (F b : ℕ) (w l : List ℕ) (s : State) : Type 0 where
  pub T : ℕ
  pub whole : Gathered
  pub going : Going F T b w l whole s
  pub more : s.p ≤ s.tree.floor → 0 < s.depth

pub record Stepped (F b : ℕ) (w l l' : List ℕ) (s r : State) : Type 0 where
  pub going : (q : Unfinished F b w l s) → Going F q.T b w l' q.whole r
  pub less : 2 * r.p + r.depth < 2 * s.p + s.depth

-- are all records read, and no tree waits?
abbrev pub ended : State → Bool
ended s = elim s.depth [ zero ↦ leb s.p s.tree.floor | suc d ↦ false ]

-- what the walk of a whole list gathers
unfoldable pub all_gathered : (F b S : ℕ) (w : List ℕ) → Gathered
all_gathered F b S w = walk F b (items F None (parse w) Items.nil) 0 0 None (fresh (behind S (parse w)))

-- the state before any record is read, for the build start S
pub record BeginsAt (F b S : ℕ) (w l : List ℕ) (s : State) : Type 0 where
  pub T : ℕ
  pub going : Going F T b w l (all_gathered F b S w) s

pub record Begins (F b : ℕ) (w l : List ℕ) (s : State) : Type 0 where
  pub S : ℕ
  pub begins : BeginsAt F b S w l s

-- all records are read and no tree waits: the first-level trees stand in the store
pub record TakenAll (F b S : ℕ) (w l : List ℕ) (top low kids : ℕ) : Type 0 where
  pub base : ℕ
  pub live : 0 < base
  pub above : base ≤ top
  pub room : top + (4 * (length w / record_width) + 12) ≤ low
  pub inside : low ≤ length l
  pub holds : Holds false l base top low kids (first_level F b S (parse w))
