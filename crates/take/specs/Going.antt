-- What the take loop keeps: the trees that are open, what each has gathered, and the words that hold them. Nothing here is needed
-- to read what a call promises.
use Rattle.std.specs.Prelude.{◌≡◌, false, List, [], ◌∷◌, ℕ, suc, ◌+◌, ◌-◌, ◌*◌, ◌/◌, ◌≤◌, ◌<◌, length, get_or, Option, None}
use Rattle.words.specs.Words.{record_width}
use Rattle.tree.specs.Trees.{nil, ◌⊕◌}
use Rattle.tree.specs.Items.{Items, same, repeats}
use Rattle.tree.specs.Groups.{Gathered, gather, finish}
use Rattle.tree.specs.Build.{walk}
use Rattle.cursor.specs.Spells.{Stands}
use Rattle.gathering.specs.Gathering.{HoldsGathered}
use Rattle.gathering.specs.Gathering.{due}
use Rattle.scan.specs.Walked.{Remembered}
use Rattle.scan.specs.Counted.{Counted}
use Rattle.scan.specs.declared.Memo.{Memo}
use Rattle.take.specs.declared.Frame.{Frame}
use Rattle.take.specs.declared.State.{State}
use Rattle.tree.specs.Ordered.{Fits}
use Rattle.tree.specs.Well.{Gathers, Parts}

-- A tree that is open around the present one: its id and range, what its children stand under, those still to be read, and what it
-- has gathered.
pub record Outer : Type 0 where
  pub id : ℕ
  pub start : ℕ
  pub end : ℕ
  pub own : Option ℕ
  pub its : Items
  pub g : Gathered

-- how many trees are open
unfoldable pub deep : List Outer → ℕ
deep [] = 0
deep (k ∷ ks) = suc (deep ks)

-- what the children of a tree of id i inside these stand under; the outermost is the top, which is no repeat tree
abbrev pub own_under : (F : ℕ) → List Outer → (i : ℕ) → Option ℕ
own_under F [] i = None
own_under F (k ∷ ks) i = repeats F i

-- What the top gathers in the end, if the present tree, of id i from s to e, gathers g: it is finished, and each tree around it is
-- read on.
unfoldable pub settled : (F b i s e : ℕ) → List Outer → Gathered → Gathered
settled F b i s e [] g = g
settled F b i s e (k ∷ ks) g =
    settled F b k.id k.start k.end ks (walk F b k.its (deep ks) 0 k.own (gather (λ ts. finish F i s e g ⊕ ts) k.g))

-- the words of the store that the trees around the present one have still to be given
unfoldable pub owed : List Outer → ℕ
owed [] = 0
owed (k ∷ ks) = 34 + 24 * due k.own k.g + owed ks

-- the memo in four words
abbrev pub memo_at : (l : List ℕ) (at : ℕ) → Memo
memo_at l at = record { place = get_or l at 0; start = get_or l (at + 1) 0; mark = get_or l (at + 2) 0; edge = get_or l (at + 3) 0 }

-- how many words the frame of a tree that waits has
abbrev pub frame_width : ℕ
frame_width = 11

-- the frame that stands from an index on
abbrev pub frame_at : (l : List ℕ) (at : ℕ) → Frame
frame_at l at = record {
  tree = record { id = get_or l at 0; start = get_or l (at + 1) 0; end = get_or l (at + 2) 0; floor = get_or l (at + 3) 0 };
  groups = get_or l (at + 4) 0;
  loose = get_or l (at + 5) 0;
  edge = get_or l (at + 6) 0;
  memo = memo_at l (at + 7);
}

module _ (F T b : ℕ) (w l : List ℕ) where
  -- A tree from `from` to `end`: the items from record lo up to p are still to be read and end at `reach`; what is gathered starts
  -- at `hi`.
  pub record Level (base top low : ℕ) (own : Option ℕ) (lo p : ℕ) (its : Items) (g : Gathered) (groups loose edge from reach hi end : ℕ) (memo : Memo) : Type 0 where
    pub stands : Stands F own w lo p its
    pub fits : Fits F T from reach its
    pub gathers : Gathers T (Parts T) hi end g
    pub holds : HoldsGathered l base top low groups loose edge g
    pub plain : own ≡ None → g.groups ≡ nil
    pub remembered : Remembered p its (reach - b) memo

  -- The trees around the present one, which has the id i, runs from s to e and whose records begin at `floor`: eleven words each,
  -- below `at`.
  abbrev pub Frames : (bottom base top low at i s e floor : ℕ) → List Outer → Type 0
  Frames bottom base top low at i s e floor [] = (at ≡ bottom)
  Frames bottom base top low at i s e floor (k ∷ ks) =
      record {
        under : ℕ;
        hi : ℕ;
        at_is : at ≡ under + frame_width;
        id_is : get_or l under 0 ≡ k.id;
        start_is : get_or l (under + 1) 0 ≡ k.start;
        end_is : get_or l (under + 2) 0 ≡ k.end;
        own_is : k.own ≡ own_under F ks k.id;
        other : same k.own i ≡ false;
        known : i < T;
        ordered : s ≤ e;
        ends : e ≤ hi;
        small : hi ≤ 4294967295;
        level : Level base top low k.own (get_or l (under + 3) 0) floor k.its k.g (get_or l (under + 4) 0) (get_or l (under + 5) 0) (get_or l (under + 6) 0)
            k.start s hi k.end (memo_at l (under + 7));
        below : Frames bottom base top low under k.id k.start k.end (get_or l (under + 3) 0) ks;
      }

-- The take loop in the state s, on its way to `whole`.
pub record Going (F T b : ℕ) (w l : List ℕ) (whole : Gathered) (s : State) : Type 0 where
  pub stack : List Outer
  pub its : Items
  pub g : Gathered
  pub hi : ℕ
  pub base : ℕ
  pub small : hi ≤ 4294967295
  pub types : T ≤ 65536
  pub bound : b ≤ 65535
  pub few : length w / record_width ≤ 1048576
  pub depth_is : s.depth ≡ deep stack
  pub shallow : s.depth + s.p ≤ length w / record_width
  pub level : Level F T b w l base s.children.top s.low (own_under F stack s.tree.id) s.tree.floor s.p its g
      s.children.groups s.children.loose s.children.edge s.tree.start hi hi s.tree.end s.memo
  pub frames : Frames F T b w l (length w / record_width + 1) base s.children.top s.low (length w / record_width + 1 + frame_width * s.depth) s.tree.id s.tree.start s.tree.end
      s.tree.floor stack
  pub value : settled F b s.tree.id s.tree.start s.tree.end stack (walk F b its (deep stack) 0 (own_under F stack s.tree.id) g) ≡ whole
  -- what is left for the records still to be read, and behind them for the writer
  pub room : s.children.top + 24 * due (own_under F stack s.tree.id) g + owed stack + 40 * s.p + (4 * (length w / record_width) + 12) ≤ s.low
  pub base_is : base ≡ 12 * (length w / record_width) + 1
  pub above : base ≤ s.children.top
  pub inside : s.low ≤ length l
  pub fits : length l ≤ 4294967295
  pub counted : Counted F w l (length w / record_width)
