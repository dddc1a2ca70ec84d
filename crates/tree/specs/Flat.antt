-- Flat parts, "under a tree deeper than 2,500".
use Rattle.std.specs.Prelude.{Bool, true, false, ◌&&◌, ◌||◌, not, List, [], ◌∷◌, ℕ, suc, ◌+◌, ◌-◌, ◌*◌, ltb, leb, length}
use Rattle.std.specs.Prelude.{Option, Some}
use Rattle.words.specs.Words.{record_width}
use Rattle.tree.specs.Trees.{Trees, nil, tree, part}
use Rattle.tree.specs.Items.{Items, mark, span, same, records}
use Rattle.tree.specs.Groups.{Gathered, gather, pass}

-- is a tree of depth d "deeper than 2,500"?
unfoldable pub too_deep : (d : ℕ) → Bool
too_deep d = ltb 2500 d

-- one record, its size in words
pub data Record : Type 0 where
  rec : (id start end size : ℕ) → Record

-- all records of items, from the last one back, in front of `acc`
unfoldable pub flattened : Items → (acc : List Record) → List Record
flattened Items.nil acc = acc
flattened (mark i s e n rest) acc = rec i s e n ∷ flattened rest acc
flattened (span i s e kids rest) acc = rec i s e (record_width * suc (records kids)) ∷ flattened kids (flattened rest acc)

-- the words of held records, in order, in a part that starts at p, from word `off` on
unfoldable pub flat_words : (p off : ℕ) → List Record → List ℕ
flat_words p off [] = []
flat_words p off (rec i s e n ∷ rs) = i ∷ (s - p) ∷ (e - p) ∷ (off + record_width) ∷ flat_words p (off + record_width) rs

-- where the last of the records in order ends, which is the first one held; or d
unfoldable pub held_end : (d : ℕ) → List Record → ℕ
held_end d [] = d
held_end d (rec i s e n ∷ rs) = held_end e rs

-- What the held records become, in front of the trees ts: a flat part, whose "position is its leftmost start" and which
-- runs to the end of the first one held. "One held alone and longer than 65,535 becomes a tree instead."
unfoldable pub flat_part : (held : List Record) → Trees → Trees
flat_part [] ts = ts
flat_part (rec i s e n ∷ []) ts =
    elim (ltb 65535 (e - s)) [ true ↦ tree (Some i) s (e - s) nil ts | false ↦ part s (e - s) (flat_words s 0 (rec i s e n ∷ [])) ts ]
flat_part (rec i s e n ∷ r ∷ rs) ts = part s (held_end e (r ∷ rs) - s) (flat_words s 0 (rec i s e n ∷ r ∷ rs)) ts

-- "records above 4 words are dropped; 4-word records, repeat ones too, go to a flat part"
unfoldable pub hold : Record → (held : List Record) → List Record
hold (rec i s e n) held = elim (leb n record_width) [ true ↦ rec i s e n ∷ held | false ↦ held ]

-- where starts are too early once this record is held: "the first one's end − b (at least 0)"
unfoldable pub limit : (b : ℕ) → Record → (held : List Record) (stop : ℕ) → ℕ
limit b (rec i s e n) [] stop = elim (leb n record_width) [ true ↦ e - b | false ↦ 0 ]
limit b (rec i s e n) (r ∷ rs) stop = stop

-- are 16,383 held?
unfoldable pub full : (held : List Record) → Bool
full held = leb 16383 (length held)

-- does the flat part at hand end before this record? "until 16,383 are held or one starts before" the limit
unfoldable pub ends : Record → (held : List Record) (stop : ℕ) → Bool
ends (rec i s e n) held stop = full held || (leb n record_width && ltb s stop)

-- What is gathered from the records below such a tree. `inside`: a flat part is at hand; it holds `held` and has the
-- limit `stop`. "In a repeat tree the rule for records of its own id goes first before each flat part and is not used
-- inside one."
unfoldable pub flat : (b : ℕ) (own : Option ℕ) → List Record → (inside : Bool) (held : List Record) (stop : ℕ) → Gathered → Gathered
flat b own [] inside held stop g = gather (flat_part held) g
flat b own (rec i s e n ∷ rs) inside held stop g =
    let r = rec i s e n in
    elim (inside && not (ends r held stop)) [
      | true ↦ flat b own rs true (hold r held) (limit b r held stop) g
      | false ↦
          let g' = gather (flat_part held) g in
          elim (same own i) [
            | true ↦ flat b own rs false [] 0 (pass b i e g')
            | false ↦ flat b own rs true (hold r []) (limit b r [] 0) g'
          ]
    ]
