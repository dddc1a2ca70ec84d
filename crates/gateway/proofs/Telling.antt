-- Words laid to the front of a slice one by one, and what is then told of an outcome. Assumes nothing.
use mathlib.Core.Path.{◌≡◌, refl, sym, ap, ◌∙◌}
use mathlib.Core.List.{List, [], ◌∷◌, map}
use Prim.Native.Nat.{ℕ, zero, suc, ◌+◌, ◌≤◌, ◌<◌}
use native.Mathlib.Numerals.{add-one}
use native.Mathlib.Omega.{arith}
use lib.ListN.{length, get_or, drop, set, length-set}
use Rattle.words.specs.Outcome.{Outcome, number_of, place_of, counts_of, Result}
use Rattle.words.specs.Refusal.{refused_by}
use Rattle.words.specs.declared.refusal.Refusal.{Refusal}
use Rattle.words.proofs.Refusals.{told as by_number}
use Rattle.gateway.specs.Told.{as_word, padded, laid, told, told_result}

-- words stored one by one from an index on; a store past the end changes nothing
unfoldable pub stored : (at : ℕ) (words info : List ℕ) → List ℕ
stored at [] info = info
stored at (w ∷ words) info = stored (suc at) words (set info at w)

behind : (at : ℕ) (words : List ℕ) (i : ℕ) (info : List ℕ) → stored (suc at) words (i ∷ info) ≡ i ∷ stored at words info
unfolding stored
behind at [] i info = refl
behind at (w ∷ words) i info = behind (suc at) words i (set info at w)

nowhere : (at : ℕ) (words : List ℕ) → stored at words [] ≡ []
unfolding stored
nowhere at [] = refl
nowhere at (w ∷ words) = nowhere (suc at) words

pub laid_stored : (words info : List ℕ) → laid words info ≡ stored 0 words info
unfolding laid stored
laid_stored [] info = refl
laid_stored (w ∷ words) [] = sym (nowhere 1 words)
laid_stored (w ∷ words) (i ∷ info) = ap (◌∷◌ w) (laid_stored words info) ∙ sym (behind 0 words w info)

-- one word more
next : (n at : ℕ) (words info : List ℕ) → n < length words → stored at (map as_word (drop n words)) info ≡ stored (suc at) (map as_word (drop (suc n) words)) (set info at (as_word (get_or words n 0)))
unfolding stored
next n at [] info l = absurd (omega (arith, l))
next zero at (w ∷ words) info l = refl
next (suc n) at (w ∷ words) info l = next n at words info (omega (arith, l))

pub stored_next : (n at : ℕ) (words info : List ℕ) → n < length words → stored at (map as_word (drop n words)) info ≡ stored (at + 1) (map as_word (drop (n + 1) words)) (set info at (as_word (get_or words n 0)))
stored_next n at words info l = simp add-one (next n at words info l)

-- all words stored
pub stored_all : (n at : ℕ) (words info : List ℕ) → length words ≤ n → stored at (map as_word (drop n words)) info ≡ info
unfolding stored
stored_all zero at [] info l = refl
stored_all (suc n) at [] info l = refl
stored_all zero at (w ∷ words) info l = absurd (omega (arith, l))
stored_all (suc n) at (w ∷ words) info l = stored_all n at words info (omega (arith, l))

-- a store keeps the length
pub set_kept : (l l₁ l₀ : List ℕ) (at w : ℕ) → l₁ ≡ set l at w → length l ≡ length l₀ → length l₁ ≡ length l₀
set_kept l l₁ l₀ at w e h = ap length e ∙ (length-set l at w ∙ h)

-- the outcome o was found to be x
pub told_as : (n : ℕ) (o x : Outcome) (l l₁ : List ℕ) → x ≡ o → l₁ ≡ laid (map as_word (place_of x ∷ padded n (counts_of x))) l → record { number = number_of x; info = l₁; outputs = [] } ≡ told n o l
told_as n o x l l₁ e h = rw (← e, h)

-- the result r was found to be an outcome with these outputs
pub told_result_as : (n : ℕ) (r : Result) (x : Outcome) (outs : List (List ℕ)) (l l₁ : List ℕ) → record { outcome = x; outputs = outs } ≡ r → l₁ ≡ laid (map as_word (place_of x ∷ padded n (counts_of x))) l → record { number = number_of x; info = l₁; outputs = outs } ≡ told_result n r l
told_result_as n r x outs l l₁ e h = rw (← e, h)

-- a refusal has no counts
no_counts : (r : Refusal) → counts_of (refused_by r) ≡ []
no_counts r = ap counts_of (by_number r)

-- the outcome o was found to be a refusal
pub told_refused : (o : Outcome) (r : Refusal) (l l₁ : List ℕ) → refused_by r ≡ o → l₁ ≡ laid (map as_word (place_of (refused_by r) ∷ 0 ∷ 0 ∷ [])) l → record { number = number_of (refused_by r); info = l₁; outputs = [] } ≡ told 2 o l
told_refused o r l l₁ e h = told_as 2 o (refused_by r) l l₁ e (h ∙ ap (λ (counts : List ℕ). laid (map as_word (place_of (refused_by r) ∷ padded 2 counts)) l) (sym (no_counts r)))

-- the result was found to be a refusal with these outputs
pub told_result_refused : (s : Result) (r : Refusal) (outs : List (List ℕ)) (l l₁ : List ℕ) → record { outcome = refused_by r; outputs = outs } ≡ s → l₁ ≡ laid (map as_word (place_of (refused_by r) ∷ 0 ∷ 0 ∷ [])) l → record { number = number_of (refused_by r); info = l₁; outputs = outs } ≡ told_result 2 s l
told_result_refused s r outs l l₁ e h = told_result_as 2 s (refused_by r) outs l l₁ e (h ∙ ap (λ (counts : List ℕ). laid (map as_word (place_of (refused_by r) ∷ padded 2 counts)) l) (sym (no_counts r)))
