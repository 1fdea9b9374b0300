-- Letters and line ends, row by row.
use Rattle.std.proofs.Common.{◌≡◌, ℕ, zero, suc, ◌-◌, ◌<◌, max, false, eqb, List, [], ◌∷◌, ◌++◌, codes, length, map, refl, ap, ◌∙◌, arith, rules}
use Rattle.std.specs.Str.{IsAscii, encode_utf8_all}
use Rattle.std.proofs.lemmas.Grind.{common_steps}
use Rattle.std.proofs.lemmas.List.{nil_from_length}
use Rattle.std.proofs.lemmas.List.Elements.{All-map}
use Rattle.std.proofs.lemmas.Str.Ascii.{encodes-IsAscii, IsAscii-from_all, IsAscii-cons, IsAscii-nil}
use Rattle.picture.specs.Letters.{letter_of, lettered}

letters_ascii : IsAscii (codes "KBGCRMYW")
letters_ascii = search (rules, IsAscii-cons, IsAscii-nil)

-- each letter is one byte
pub letters_encoded : (cells : List ℕ) → encode_utf8_all (map letter_of cells) ≡ map letter_of cells
letters_encoded cells = encodes-IsAscii _ (IsAscii-from_all _ (All-map (λ b. b < 128) letter_of cells (λ k d h. letters_ascii _)))

-- a row that has begun goes on while cells of it are to come
goes_on : (width left c : ℕ) (cs : List ℕ) → 1 < left → lettered width left (c ∷ cs) ≡ letter_of c ∷ lettered width (left - 1) cs
goes_on width left c cs more = let off : eqb (left - 1) 0 ≡ false = grind arith in rw off refl

-- the cells that end it
pub whole_row : (width left : ℕ) (row rest : List ℕ) → length row ≡ left → 0 < left → lettered width left (row ++ rest) ≡ map letter_of row ++ (10 ∷ []) ++ lettered width width rest
whole_row width left [] rest long some = absurd (omega arith)
whole_row width left (c ∷ []) rest long some = rw (← long) refl
whole_row width left (c ∷ d ∷ ds) rest long some =
    goes_on width left c (d ∷ ds ++ rest) (omega arith)
    ∙ ap (λ t. letter_of c ∷ t) (whole_row width (left - 1) (d ∷ ds) rest (omega arith) (omega arith))

-- cells too few to end it
pub short_row : (width left : ℕ) (row : List ℕ) → length row < left → lettered width left row ≡ map letter_of row
short_row width left [] short = refl
short_row width left (c ∷ cs) short = goes_on width left c cs (omega arith) ∙ ap (λ t. letter_of c ∷ t) (short_row width (left - 1) cs (omega arith))

-- a width of 0 counts as 1
pub at_least_one : (width : ℕ) (cells : List ℕ) → lettered width width cells ≡ lettered (max width 1) (max width 1) cells
at_least_one zero [] = refl
at_least_one zero (c ∷ cs) = ap (λ t. letter_of c ∷ 10 ∷ t) (at_least_one zero cs)
at_least_one (suc n) cells = let e : max (suc n) 1 ≡ suc n = omega arith in rw e refl

pub ruleset by_rows = (whole_row, short_row, at_least_one, nil_from_length, common_steps)
