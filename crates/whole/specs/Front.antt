-- A list with a new front. Assumes nothing.
use Rattle.std.specs.Prelude.{◌≡◌, List, ◌++◌, ℕ, ◌≤◌, ◌<◌, length, get_or, drop}

-- past its first n elements a list is as it was, and as long; z stands for what is past an end
pub record Stays {A : Type 0} (z : A) (n : ℕ) (before after : List A) : Type 0 where
  pub size : length after ≡ length before
  pub rest : (i : ℕ) → n ≤ i → get_or after i z ≡ get_or before i z

-- and the first n are those of another list
pub record Front {A : Type 0} (z : A) (front : List A) (n : ℕ) (before after : List A) : Type 0 where
  pub first : (i : ℕ) → i < n → get_or after i z ≡ get_or front i z
  pub stays : Stays z n before after

-- a list that begins with the whole of another, and is past it as it was
abbrev pub fronted : {A : Type 0} → List A → List A → List A
fronted front before = front ++ drop (length front) before
