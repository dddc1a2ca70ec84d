-- What copying a node into a part asks and gives. Only internal functions cite these.
use Rattle.std.specs.Prelude.{◌≡◌, cond, List, [], ◌∷◌, ◌++◌, ℕ, ◌+◌, ◌-◌, ◌*◌, ◌/◌, ◌%◌, ◌≤◌, ◌<◌, leb, length, get_or, take}
use Rattle.words.specs.Words.{record_width}
use Rattle.tree.specs.Items.{Items}
use Rattle.tree.specs.Pack.{words, pack}
use Rattle.cursor.specs.Spells.{Spells, Passed}
use Rattle.tree.specs.Ordered.{From}

-- the word where the span of the record that ends before word p begins
abbrev pub span_start : List ℕ → ℕ → ℕ
span_start w p = p - get_or w (p - 1) 0

-- The word to go on from behind the node that ends before word p: of a repeat record nothing is copied and its children follow,
-- of any other record the whole span is copied.
abbrev pub behind : (F : ℕ) → List ℕ → ℕ → ℕ
behind F w p = cond (leb F (get_or w (p - record_width) 0)) (p - record_width) (span_start w p)

-- the packed form of the record that ends the records w, in a part that starts at `start` and whose words end at `last`
abbrev pub packed_record : (w : List ℕ) (start last : ℕ) → List ℕ
packed_record w start last =
    get_or w (length w - record_width) 0 ∷ (get_or w (length w - 3) 0 - start) ∷ (get_or w (length w - 2) 0 - start) ∷ last ∷ []

-- there is such a record, in range, and four words of the part l at `to`
pub record Recorded (w : List ℕ) (start : ℕ) (l : List ℕ) (to : ℕ) : Type 0 where
  pub some_record : record_width ≤ length w
  pub starts : start ≤ get_or w (length w - 3) 0
  pub ends : start ≤ get_or w (length w - 2) 0
  pub room : to + record_width ≤ length l
  pub short : length l ≤ 65532

-- The items from record lo up to p are still to be copied into a part that starts at `start`: their words begin at word `off` of
-- it and end at word `at`.
pub record Ready (F : ℕ) (w : List ℕ) (start lo off : ℕ) (its : Items) (p at : ℕ) : Type 0 where
  pub within : p * record_width ≤ length w
  pub spells : Spells w lo p its
  pub passed : Passed F its
  pub from : From start its
  pub place : at ≡ off + words F its

-- Such items end the records w, at least one, and their words the part l; 16 bits hold the part's end indices.
pub record Copyable (F : ℕ) (w : List ℕ) (start : ℕ) (l : List ℕ) : Type 0 where
  pub lo : ℕ
  pub off : ℕ
  pub its : Items
  pub whole : length w % record_width ≡ 0
  pub ready : Ready F w start lo off its (length w / record_width) (length l)
  pub some_record : lo < length w / record_width
  pub short : length l ≤ 65532

-- Of these items some are copied to the end of the part l, and the others are left, up to record p'.
pub record Copies (F : ℕ) (w : List ℕ) (start lo off : ℕ) (its : Items) (l : List ℕ) (p' at' : ℕ) (l' : List ℕ) : Type 0 where
  pub left : Items
  pub ready : Ready F w start lo off left p' at'
  pub copied : List ℕ
  pub packed : pack F start off its ≡ pack F start off left ++ copied
  pub room : at' + length copied ≡ length l
  pub rear : l' ≡ take at' l ++ copied

-- the items from word `floor` up to the end of the records w, whose words fill the part l
pub record Fills (F : ℕ) (w : List ℕ) (start floor : ℕ) (its : Items) (l : List ℕ) : Type 0 where
  pub whole : length w % record_width ≡ 0
  pub begins : floor % record_width ≡ 0
  pub ready : Ready F w start (floor / record_width) 0 its (length w / record_width) (length l)

-- there are such items, and 16 bits hold the part's end indices
pub record Fillable (F : ℕ) (w : List ℕ) (start floor : ℕ) (l : List ℕ) : Type 0 where
  pub its : Items
  pub fills : Fills F w start floor its l
  pub short : length l ≤ 65532
