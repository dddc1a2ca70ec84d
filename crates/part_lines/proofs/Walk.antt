-- The walk over a part's records: what is still to be written goes by the end indices that are held. Assumes nothing.
use mathlib.Core.Path.{◌≡◌, refl, sym, ap, ap₂, subst, ◌∙◌}
use mathlib.Core.Bool.{Bool, true, false, cond}
use mathlib.Core.List.{List, [], ◌∷◌, ◌++◌}
use Prim.Native.Nat.{ℕ, ◌+◌, ◌-◌, ◌*◌, ◌≤◌, ◌<◌}
use native.Mathlib.Omega.{arith}
use native.Mathlib.Nat.{le_refl}
use lib.Dec.{ltb}
use borrow.Rule.Slice.PartMut.{put_mid}
use Rattle.part_lines.proofs.Lending.{lent_front}
use lib.ListN.{length, take, drop, set, length-set, length-append, length-drop}
use Rattle.words.specs.Words.{put, front, id_of, start_of, end_of, last_of}
use Rattle.words.proofs.Runs.{four_at, Fronted, fronted_none, fronted_length, fronted_next, fronted_all}
use Rattle.records.specs.Forest.{line}
use Rattle.tree.proofs.PartForms.{open_ends}
use Rattle.tree.proofs.MaterialiseLaws.{part_lines, lines_step, part_listing}
use Rattle.part_lines.specs.Steps.{listed_in, listed_part, still_open, Lent}
use Rattle.part_lines.proofs.Counts.{length_listed}
use Rattle.part_lines.proofs.Ends.{ends_held, length_ends, ends_open, still_few, still_taken, ends_push, Within, parts_within}

-- fewer than four words are no record
no_record : (F p d : ℕ) (v : List ℕ) → length v < 4 → (off : ℕ) (es : List ℕ) → part_lines F p d off es v ≡ []
unfolding part_lines
no_record F p d [] h off es = refl
no_record F p d (a ∷ []) h off es = refl
no_record F p d (a ∷ b ∷ []) h off es = refl
no_record F p d (a ∷ b ∷ c ∷ []) h off es = refl
no_record F p d (a ∷ b ∷ c ∷ e ∷ v) h off es = absurd (omega arith)

-- the line of a record
line_yes : (F d i s e : ℕ) → ltb i F ≡ true → line F d i s e ≡ d ∷ i ∷ s ∷ e ∷ []
unfolding line
line_yes F d i s e h = rw (line, h)

line_no : (F d i s e : ℕ) → ltb i F ≡ false → line F d i s e ≡ []
unfolding line
line_no F d i s e h = rw (line, h)

-- The walk before record i of a part that starts at p, at depth d: `top` end indices are held, and the next line goes to the place `to`.
pub record Walk (F p d : ℕ) (ws out₀ held₀ out held : List ℕ) (i top to : ℕ) : Type 0 where
  pub lent : Lent F p d ws (length held₀) (length out₀)
  pub written : Fronted (part_lines F p d 0 [] ws) out₀ out (part_lines F p d (i * 4) (ends_held held top) (drop (i * 4) ws)) to
  pub within : Within lent.len (drop (i * 4) ws)
  pub few : top ≤ i
  pub shallow : d + top ≤ 4294967295
  pub deep : top * 4 ≤ to
  pub inside : to ≤ length out
  pub sized : length held ≡ length held₀

-- The line of record i has room, and its numbers fit 32 bits.
pub record LineFits (p : ℕ) (ws out : List ℕ) (i to : ℕ) : Type 0 where
  pub line : to + 4 ≤ length out
  pub start : p + start_of ws i ≤ 4294967295
  pub end : p + end_of ws i ≤ 4294967295

-- the lines of the whole part
all_is : {F p d : ℕ} {ws : List ℕ} {ends room : ℕ} → Lent F p d ws ends room → part_lines F p d 0 [] ws ≡ listed_part F p d ws
unfolding listed_part
all_is {F} {p} {d} {ws} lent = part_listing F d lent.types p lent.len ws (lent.parts p)

pub walk_first : {F p d : ℕ} {ws : List ℕ} (out held : List ℕ) → Lent F p d ws (length held) (length out) → Walk F p d ws out held out held 0 0 0
unfolding ends_held
walk_first {F} {p} {d} {ws} out held lent = record {
  lent = lent;
  written = fronted_none (part_lines F p d 0 [] ws) out;
  within = parts_within lent.types p lent.len ws (lent.parts p);
  few = le_refl 0;
  shallow = omega (arith, lent.shallow);
  deep = omega arith;
  inside = omega arith;
  sized = refl;
}

module _ {F p d : ℕ} {ws out₀ held₀ out held : List ℕ} {i top to : ℕ} (w : Walk F p d ws out₀ held₀ out held i top to) where
  abbrev all : List ℕ
  all = part_lines F p d 0 [] ws

  abbrev rest : List ℕ
  rest = part_lines F p d (i * 4) (ends_held held top) (drop (i * 4) ws)

  -- what is written and what is still to be written have room
  fills : to + length rest ≡ listed_in F ws * 4
  fills =
      let f = w.written in
      let a = sym (length-append f.done rest) ∙ ap length f.joined in
      omega (arith, a, ap length (all_is w.lent), f.size, length_listed F p d ws)

  pub out_length : length out ≡ length out₀
  out_length = fronted_length all out₀ out rest to w.written (omega (arith, fills, w.lent.lines_fit))

  -- the depth below the end indices that are held fits 32 bits
  pub walk_shallow : d + top ≤ 4294967295
  walk_shallow = w.shallow

  -- no record is left
  pub walk_end : length ws < i * 4 + 4 → (to ≡ length (listed_part F p d ws)) × (out ≡ front (listed_part F p d ws) out₀)
  walk_end l =
      let e : rest ≡ [] = no_record F p d (drop (i * 4) ws) (omega (arith, length-drop (i * 4) ws)) (i * 4) (ends_held held top) in (
        omega (arith, fills, ap length e, length_listed F p d ws),
        fronted_all all out₀ out rest to w.written e ∙ ap (λ (v : List ℕ). front v out₀) (all_is w.lent),
      )

  -- at record i, with t ends past its offset
  module _ (t : ℕ) (first : t ≡ still_open (take top held) (i * 4) (length (take top held))) (record_in : i * 4 + 4 ≤ length ws) where
    here : t ≡ still_open held (i * 4) top
    here = first ∙ still_taken held (i * 4) top (omega (arith, w.few, w.sized, w.lent.ends_fit))

    abbrev es : List ℕ
    es = ends_held held t

    pub still_held : t ≤ i
    still_held = omega (arith, here, still_few held (i * 4) top, w.few)

    abbrev own : List ℕ
    own = line F (d + t) (id_of ws i) (p + start_of ws i) (p + end_of ws i)

    abbrev later : List ℕ → List ℕ
    later around = part_lines F p d ((i + 1) * 4) around (drop ((i + 1) * 4) ws)

    rest_is : rest ≡ own ++ later (cond (ltb (id_of ws i) F) (last_of ws i ∷ es) es)
    rest_is =
        let now : open_ends (i * 4) (ends_held held top) ≡ es = ends_open held (i * 4) top ∙ ap (ends_held held) (sym here) in
        let next : i * 4 + 4 ≡ (i + 1) * 4 = omega arith in
        ap (part_lines F p d (i * 4) (ends_held held top)) (four_at ws i record_in)
        ∙ (lines_step F p d (i * 4) (ends_held held top) (id_of ws i) (start_of ws i) (end_of ws i) (last_of ws i) (drop ((i + 1) * 4) ws) es now
        ∙ ap₂ (λ (depth off : ℕ). line F (d + depth) (id_of ws i) (p + start_of ws i) (p + end_of ws i) ++ part_lines F p d off (cond (ltb (id_of ws i) F) (last_of ws i ∷ es) es) (drop ((i + 1) * 4) ws)) (length_ends held t) next)

    ranges : Within w.lent.len (id_of ws i ∷ start_of ws i ∷ end_of ws i ∷ last_of ws i ∷ drop ((i + 1) * 4) ws)
    ranges = subst (Within w.lent.len) (four_at ws i record_in) w.within

    -- a record without a line
    walk_past : ltb (id_of ws i) F ≡ false → Walk F p d ws out₀ held₀ out held (i + 1) t to
    walk_past h =
        let e : rest ≡ later es =
        rest_is
        ∙ ap₂ (λ (l : List ℕ) (b : Bool). l ++ later (cond b (last_of ws i ∷ es) es)) (line_no F (d + t) (id_of ws i) (p + start_of ws i) (p + end_of ws i) h) h in
        record {
          lent = w.lent;
          written = subst (λ (v : List ℕ). Fronted all out₀ out v to) e w.written;
          within = ranges.rest;
          few = omega (arith, still_held);
          shallow = omega (arith, w.shallow, here, still_few held (i * 4) top);
          deep = omega (arith, w.deep, here, still_few held (i * 4) top);
          inside = w.inside;
          sized = w.sized;
        }

    pub walk_miss : ltb (id_of ws i) F ≡ false → (held' out' : List ℕ) (top' to' : ℕ) → held' ≡ held → out' ≡ out → top' ≡ t → to' ≡ to
        → Walk F p d ws out₀ held₀ out' held' (i + 1) top' to'
    walk_miss h held' out' top' to' eh eo et en = rw (eh, eo, et, en) (walk_past h)

    -- a record with one
    module _ (h : ltb (id_of ws i) F ≡ true) where
      abbrev four : List ℕ
      four = (d + t) ∷ id_of ws i ∷ (p + start_of ws i) ∷ (p + end_of ws i) ∷ []

      hit : rest ≡ four ++ later (last_of ws i ∷ es)
      hit =
          rest_is
          ∙ ap₂ (λ (l : List ℕ) (b : Bool). l ++ later (cond b (last_of ws i ∷ es) es)) (line_yes F (d + t) (id_of ws i) (p + start_of ws i) (p + end_of ws i) h) h

      size : length rest ≡ 4 + length (later (last_of ws i ∷ es))
      size = omega (arith, ap length hit)

      end_fits : t < length held
      end_fits = omega (arith, still_held, w.lent.ends_fit, w.sized)

      pub line_fits : LineFits p ws out i to
      line_fits = record {
        line = omega (arith, size, fills, out_length, w.lent.lines_fit);
        start = omega (arith, ranges.starts, w.lent.end_fits);
        end = omega (arith, ranges.ends, w.lent.end_fits);
      }

      written_on : (out' : List ℕ) → out' ≡ put out to four → Fronted all out₀ out' (later (ends_held (set held t (last_of ws i)) (t + 1))) (to + 4)
      written_on out' o =
          fronted_next all out₀ out rest to w.written four (later (ends_held (set held t (last_of ws i)) (t + 1))) out' (to + 4) refl
          (hit ∙ ap (λ (around : List ℕ). four ++ later around) (sym (ends_push held (last_of ws i) t end_fits))) o

      walk_on : (out' : List ℕ) → out' ≡ put out to four → Walk F p d ws out₀ held₀ out' (set held t (last_of ws i)) (i + 1) (t + 1) (to + 4)
      walk_on out' o = record {
        lent = w.lent;
        written = written_on out' o;
        within = ranges.rest;
        few = omega (arith, still_held);
        shallow = omega (arith, size, fills, w.deep, here, still_few held (i * 4) top, w.lent.shallow);
        deep = omega (arith, w.deep, here, still_few held (i * 4) top);
        inside =
            let fit : to + 4 ≤ length out₀ = omega (arith, size, fills, w.lent.lines_fit) in
            omega (arith, fit, fronted_length all out₀ out' (later (ends_held (set held t (last_of ws i)) (t + 1))) (to + 4) (written_on out' o) fit);
        sized = length-set held t (last_of ws i) ∙ w.sized;
      }

      pub walk_hit : (held' out' line : List ℕ) (top' to' : ℕ) → held' ≡ set held t (last_of ws i) → line ≡ front four (take (length out - to) (drop to out))
          → out' ≡ put_mid to (length out - to) out line → top' ≡ t + 1 → to' ≡ to + 4 → Walk F p d ws out₀ held₀ out' held' (i + 1) top' to'
      walk_hit held' out' line top' to' eh el eo et en = rw (eh, et, en) (walk_on out' (eo ∙ lent_front out four line to el))
