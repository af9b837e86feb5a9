-- Request 1: the lines of a file and the words of a line. Assumes nothing.
use Rattle.std.specs.Prelude.{Bool, cond, ◌||◌, List, [], ◌∷◌, ℕ, ◌-◌, eqb, length, get_or, take}

-- the bytes that part a text: a line feed, a space or a tab, a slash, a point
abbrev pub feed : ℕ → Bool
feed b = eqb b 10

abbrev pub blank : ℕ → Bool
blank b = eqb b 32 || eqb b 9

abbrev pub slash : ℕ → Bool
slash b = eqb b 47

abbrev pub point : ℕ → Bool
point b = eqb b 46

-- a byte before the first part
abbrev pub joined : ℕ → List (List ℕ) → List (List ℕ)
joined b [] = []
joined b (p ∷ ps) = (b ∷ p) ∷ ps

-- the parts of a text, one more than it has bytes that part it
unfoldable pub parts : (ℕ → Bool) → List ℕ → List (List ℕ)
parts at [] = [] ∷ []
parts at (b ∷ l) = cond (at b) ([] ∷ parts at l) (joined b (parts at l))

-- a carriage return at the end is ignored
unfoldable pub unreturned : List ℕ → List ℕ
unreturned l = cond (eqb (get_or l (length l - 1) 0) 13) (take (length l - 1) l) l

-- but for the last part, which lacks its feed
unfoldable pub ended : List (List ℕ) → List (List ℕ)
ended [] = []
ended (l ∷ []) = l ∷ []
ended (l ∷ (m ∷ ls)) = unreturned l ∷ ended (m ∷ ls)

unfoldable pub lines : List ℕ → List (List ℕ)
lines file = ended (parts feed file)

-- the parts that are not empty
unfoldable pub filled : List (List ℕ) → List (List ℕ)
filled [] = []
filled ([] ∷ ps) = filled ps
filled ((b ∷ p) ∷ ps) = (b ∷ p) ∷ filled ps

unfoldable pub words : List ℕ → List (List ℕ)
words line = filled (parts blank line)
