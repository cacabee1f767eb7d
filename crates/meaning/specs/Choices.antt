-- Choices: tests, lists of numbers, and how a bit is a number. Definitions only. Assumes nothing.
use Rattle.std.specs.Prelude.{ℕ, zero, suc, ◌-◌, Bool, true, false, List, [], ◌∷◌, ◌++◌, length, get_or, replicate, ltb}

-- One of two, by a test.
abbrev pub pick : {A : Type 0} → Bool → A → A → A
pick true a b = a
pick false a b = b

abbrev pub and : Bool → Bool → Bool
and true b = b
and false b = false

abbrev pub or : Bool → Bool → Bool
or true b = true
or false b = b

abbrev pub not : Bool → Bool
not true = false
not false = true

-- A bit as a number.
abbrev pub num : Bool → ℕ
num true = 1
num false = 0

-- A number as a bit: it is not zero.
abbrev pub bit : ℕ → Bool
bit zero = false
bit (suc n) = true

-- Number j of a list; 0 past its end.
abbrev pub at : List ℕ → ℕ → ℕ
at l j = get_or l j 0

-- A list, then zeros up to a length: how fixed arrays hold what has fewer numbers.
abbrev pub padded : ℕ → List ℕ → List ℕ
padded n l = l ++ replicate (n - length l) 0

-- f of each number below n, in order.
unfoldable pub listed : {A : Type 0} → (ℕ → A) → ℕ → List A
listed f zero = []
listed f (suc n) = listed f n ++ (f n ∷ [])

-- All numbers of a list are below a bound.
unfoldable pub all_below : ℕ → List ℕ → Bool
all_below b [] = true
all_below b (x ∷ l) = and (ltb x b) (all_below b l)
